-- The schedule of a generated run, put together.
use Rattle.std.proofs.Common.{◌≡◌, ap, ◌∙◌, ℕ, List, [], ◌++◌, flat_map, append_assoc}
use Rattle.std.specs.List.{range_with_len}
use Rattle.rpc_schema.specs.declared.desc.Entry.{Entry}
use Rattle.rpc_schedule.specs.declared.event.Event.{Event}
use Rattle.rpc_schedule.specs.declared.event.Lined.{Lined}
use Rattle.rpc_schedule.specs.declared.schedule.Schedule.{Schedule}
use Rattle.rpc_pair.specs.Generated.{all_moves, events_at, generated, generated_entries, generated_events, round_count, with_lines}

pub whole_events : (n : ℕ) (none first second third : List Event) → none ≡ [] → first ≡ none ++ all_moves 65536
    → second ≡ first ++ flat_map (events_at n) (range_with_len 1 round_count) → third ≡ second ++ all_moves 7 → third ≡ generated_events n
unfolding generated_events
whole_events n none first second third start moved ran ended =
    let begun : first ≡ all_moves 65536 = moved ∙ ap (λ (es : List Event). es ++ all_moves 65536) start in
    ended
    ∙ (ap (λ (es : List Event). es ++ all_moves 7) (ran ∙ ap (λ (es : List Event). es ++ flat_map (events_at n) (range_with_len 1 round_count)) begun)
    ∙ append_assoc (all_moves 65536) (flat_map (events_at n) (range_with_len 1 round_count)) (all_moves 7))

pub whole_schedule : (n : ℕ) (entries : List Entry) (lined : List Lined) → entries ≡ generated_entries → lined ≡ with_lines (generated_events n)
    → ◌≡◌ {A = Schedule} (record { schema = entries; events = lined }) (generated n)
unfolding generated
whole_schedule n entries lined same all =
    ap (λ (es : List Entry). record { schema = es; events = lined }) same
    ∙ ap (λ (ls : List Lined). record { schema = generated_entries; events = ls }) all
