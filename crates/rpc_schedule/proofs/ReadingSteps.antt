-- The events so far, with one line more; and what is wrong with a line is wrong with the schedule.
use Rattle.std.proofs.Common.{◌≡◌, refl, sym, ap, ◌∙◌, subst, ℕ, ◌+◌, ◌<◌, List, [], ◌∷◌, ◌++◌, length, take, drop, get_or, inl, inr, Bor}
use Rattle.std.specs.List.{AllZip}
use Rattle.rpc_schema.specs.declared.error.SchemaError.{SchemaError}
use Rattle.rpc_schema.specs.declared.error.SchemaError.TheVariants as schema_error
use Rattle.rpc_schema.specs.TextLines.{Numbered, lines_kept}
use Rattle.rpc_schema.specs.SchemaTexts.{RefusesLines}
use Rattle.rpc_schema.specs.Reading.{slices}
use Rattle.rpc_schema.proofs.TextParts.{slices_split}
use Rattle.rpc_schema.proofs.KeptLines.{kept_skip, kept_read}
use Rattle.rpc_schema.proofs.ReadingSteps.{slices_length, slices_more}
use Rattle.rpc_schedule.specs.declared.event.Lined.{Lined}
use Rattle.rpc_schedule.specs.declared.error.ScheduleError.{ScheduleError}
use Rattle.rpc_schedule.specs.declared.error.ScheduleError.TheVariants as error
use Rattle.rpc_schedule.specs.Schedules.{IsLinedEvent, IsBadEventLine, IsSchemaPart, schema_lines, RefusesSchedule}
use Rattle.rpc_schedule.specs.Reading.{of_schema, FollowsEventLine, RefusesNextEvent, RefusesEvents}

-- ---- one line more

module _ (n : ℕ) (xs : List (List ℕ)) (l : List ℕ) (m : ℕ) (at : n + length xs ≡ m) where
  events_go : (old new : List Lined) → FollowsEventLine m l old new → AllZip IsLinedEvent old (lines_kept n xs)
      → AllZip IsLinedEvent new (lines_kept n (xs ++ l ∷ []))
  events_go old new (inl (skipped, same)) good =
      subst (λ ks. AllZip IsLinedEvent new ks) (sym (kept_skip n xs l m at skipped)) (subst (λ es. AllZip IsLinedEvent es (lines_kept n xs)) (sym same) good)
  events_go old new (inr (read, (e, is, spelled))) good =
      subst (λ ks. AllZip IsLinedEvent new ks) (sym (kept_read n xs l m at [] read))
      (subst (λ es. AllZip IsLinedEvent es (lines_kept n xs ++ record { number = m; bytes = l } ∷ [])) (sym is) (zip_push old (lines_kept n xs) good))
    where
      zip_push : (es : List Lined) (ls : List Numbered) → AllZip IsLinedEvent es ls
          → AllZip IsLinedEvent (es ++ record { line = m; event = e } ∷ []) (ls ++ record { number = m; bytes = l } ∷ [])
      zip_push [] [] h = ((refl, spelled), tt)
      zip_push (f ∷ es) (k ∷ ls) h = (h.0, zip_push es ls h.1)
      zip_push [] (k ∷ ls) h = absurd h
      zip_push (f ∷ es) [] h = absurd h

  event_refused : (ys ls : List (List ℕ)) (es : List Lined) (e : ScheduleError) → ls ≡ xs ++ l ∷ ys → AllZip IsLinedEvent es (lines_kept n xs)
      → RefusesNextEvent m l e → RefusesEvents (lines_kept n ls) e
  event_refused ys ls es (error.BadLine number place) is good (read, (same, refused)) =
      subst (λ k. IsBadEventLine (lines_kept n ls) k place) (sym same)
      (record {
        before = lines_kept n xs;
        bytes = l;
        behind = lines_kept (m + 1) ys;
        cut = ap (lines_kept n) is ∙ kept_read n xs l m at ys read;
        events = es;
        good = good;
        refused = refused;
      })
  event_refused ys ls es (error.Twice number) is good (read, none) = absurd none
  event_refused ys ls es error.OutOfMemory is good h = tt

pub events_more : (n : ℕ) (parts : List (Bor (List ℕ))) (i : ℕ) (d : Bor (List ℕ)) (old new : List Lined) → i < length parts
    → FollowsEventLine (n + i) (get_or parts i d).now old new → AllZip IsLinedEvent old (lines_kept n (take i (slices parts)))
    → AllZip IsLinedEvent new (lines_kept n (take (i + 1) (slices parts)))
events_more n parts i d old new within follows good =
    subst (λ ls. AllZip IsLinedEvent new (lines_kept n ls)) (sym (slices_more parts i d within))
    (events_go n (take i (slices parts)) (get_or parts i d).now (n + i) (ap (λ k. n + k) (slices_length parts i within)) old new follows good)

pub next_refused : (n : ℕ) (parts : List (Bor (List ℕ))) (i : ℕ) (d : Bor (List ℕ)) (es : List Lined) (e : ScheduleError) → i < length parts
    → AllZip IsLinedEvent es (lines_kept n (take i (slices parts))) → RefusesNextEvent (n + i) (get_or parts i d).now e
    → RefusesEvents (lines_kept n (slices parts)) e
next_refused n parts i d es e within good refused =
    event_refused n (take i (slices parts)) (get_or parts i d).now (n + i) (ap (λ k. n + k) (slices_length parts i within))
    (drop (i + 1) (slices parts)) (slices parts) es e (sym (slices_split parts i d within)) good refused

-- ---- the schema

-- what is wrong with the lines of the schema is wrong with the schedule
pub schema_refused : (ls heads : List (List ℕ)) (e : SchemaError) → IsSchemaPart ls heads → RefusesLines (schema_lines heads) e
    → RefusesSchedule ls (of_schema e)
schema_refused ls heads (schema_error.BadLine number at) part bad = inl (heads, part, bad)
schema_refused ls heads (schema_error.Twice number) part twice = (heads, part, twice)
schema_refused ls heads schema_error.OutOfMemory part h = tt
