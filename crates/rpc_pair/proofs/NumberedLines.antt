-- Events in the order of their lines, one more.
use Rattle.std.proofs.Common.{◌≡◌, sym, ap, ◌∙◌, ℕ, ◌+◌, List, [], ◌∷◌, ◌++◌, length, map, arith}
use Rattle.std.specs.List.{enumerate_from}
use Rattle.std.proofs.lemmas.List.{map-append, length-map}
use Rattle.rpc_schedule.specs.declared.event.Event.{Event}
use Rattle.rpc_schedule.specs.declared.event.Lined.{Lined}
use Rattle.rpc_pair.specs.Generated.{first_line, with_lines}

abbrev pub event_of : Lined → Event
event_of l = l.event

abbrev line_at : ℕ × Event → Lined
line_at p = record { line = p.0; event = p.1 }

numbered_push : (k n : ℕ) (es : List Event) (e : Event) → n ≡ k + length es
    → map line_at (enumerate_from k (es ++ e ∷ [])) ≡ map line_at (enumerate_from k es) ++ record { line = n; event = e } ∷ []
numbered_push k n [] e is =
    let at : k ≡ n = omega arith in
    ap (λ (m : ℕ). record { line = m; event = e } ∷ []) at
numbered_push k n (f ∷ es) e is =
    ap (λ ls. record { line = k; event = f } ∷ ls) (numbered_push (k + 1) n es e (is ∙ omega arith))

pub lined_push : (old new : List Lined) (n : ℕ) (e : Event) → n ≡ first_line + length old → new ≡ old ++ record { line = n; event = e } ∷ []
    → old ≡ with_lines (map event_of old) → new ≡ with_lines (map event_of new)
lined_push old new n e at is lined =
    is
    ∙ (ap (λ (ls : List Lined). ls ++ record { line = n; event = e } ∷ []) lined
    ∙ (sym (numbered_push first_line n (map event_of old) e (at ∙ ap (λ m. first_line + m) (sym (length-map old event_of))))
    ∙ ap with_lines (sym (map-append event_of old (record { line = n; event = e } ∷ [])) ∙ ap (map event_of) (sym is))))
