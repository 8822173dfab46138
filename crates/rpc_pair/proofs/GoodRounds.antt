-- The events of a generated run are good ones.
use Rattle.std.proofs.Common.{◌≡◌, refl, sym, subst, ℕ, zero, suc, pos, ◌+◌, ◌-◌, ◌%◌, ◌<◌, ◌≤◌, ◌^◌, Bool, true, false, List, [], ◌∷◌, ◌++◌, length, map, reverse, replicate, flat_map, codes, if◌then◌else◌, nat_eq, inl, inr, Some, None, arith}
use Rattle.std.specs.Char.{is_ascii_digit}
use Rattle.std.specs.Fmt.{decimal}
use Rattle.std.specs.List.{All, enumerate_from, range_with_len}
use Rattle.std.proofs.lemmas.Fmt.{digits_decimal, length-decimal-le}
use Rattle.std.proofs.lemmas.List.{get_or-reverse, length-reverse}
use Rattle.std.proofs.lemmas.List.Elements.{All-nil, All-cons, All-head, All-tail, All-append, All-map, All-replicate}
use Rattle.readers.specs.Reader.{Each, Is}
use Rattle.bp_value.specs.Names.{IsNameByte, IsShapeName}
use Rattle.bp_text_grammar.proofs.Decimals.{numerals}
use Rattle.rpc_schema.specs.Entries.{IsVersion}
use Rattle.rpc_schedule.specs.declared.event.Event.{Event}
use Rattle.rpc_schedule.specs.declared.event.Event.TheVariants as ev
use Rattle.rpc_schedule.specs.declared.event.Lined.{Lined}
use Rattle.rpc_schedule.specs.EventLines.{IsGoodEvent}
use Rattle.rpc_schedule.specs.Schedules.{AreGoodEvents}
use Rattle.rpc_pair.specs.declared.generating.rounds.Called.{Called}
use Rattle.rpc_pair.specs.declared.generating.rounds.Called.TheVariants.{Echo, Log, Each as Elements, Book}
use Rattle.rpc_pair.specs.declared.generating.rounds.Round.{Round}
use Rattle.rpc_pair.specs.Generated.{all_moves, answers, answers_as, begins_with, block_events, block_size, block_to, calls_as, called, echo_text, element_count, events_at, first_line, generated_events, gives, in_quotes, late, late_as, piece, random, round, round_count, round_events, round_label, with_lines}
use Rattle.rpc_pair.proofs.DrawnRounds.{count_is}
use Rattle.rpc_pair.proofs.GeneratedSchema.{book_name, each_name, echo_name, log_name}

-- ---- labels

digit_byte : (b : ℕ) → is_ascii_digit b ≡ true → IsNameByte b
digit_byte b is = inr (inl (let low : 48 ≤ b = grind arith in let high : b ≤ 57 = grind arith in (low, high)))

digit_bytes : (s : List ℕ) → Each (Is is_ascii_digit) s → All IsNameByte s
digit_bytes [] each = All-nil IsNameByte
digit_bytes (b ∷ s) (is, each) = All-cons IsNameByte b s (digit_byte b is) (digit_bytes s each)

-- a round of the run
abbrev IsCounted : Round → Type 0
IsCounted d = d.number ≤ 4000

label_good : (d : Round) → IsCounted d → IsShapeName (round_label d)
label_good d counted =
    let few : length (decimal d.number) ≤ 4 = length-decimal-le 4 d.number (omega arith) (omega arith) (omega arith) in
    (inl (omega arith, omega arith), omega arith, digit_bytes (decimal d.number) (digits_decimal numerals d.number (omega arith)))

-- ---- lists

reversed_all : {X : Type 0} (P : X → Type 0) (xs : List X) → All P xs → All P (reverse xs)
reversed_all P xs all k d within =
    let long : length (reverse xs) ≡ length xs = length-reverse xs in
    let less : k < length xs = omega (arith, long, within) in
    subst P (sym (get_or-reverse xs k d less)) (all (length xs - 1 - k) d (omega (arith, less)))

flat_all : {X Y : Type 0} (P : X → Type 0) (Q : Y → Type 0) (f : X → List Y) → ((x : X) → P x → All Q (f x)) → (xs : List X) → All P xs
    → All Q (flat_map f xs)
flat_all P Q f good [] all = All-nil Q
flat_all P Q f good (x ∷ xs) all =
    All-append Q (f x) (flat_map f xs) (good x (All-head P x xs all)) (flat_all P Q f good xs (All-tail P x xs all))

range_all : (P : ℕ → Type 0) (a n : ℕ) → ((k : ℕ) → a ≤ k → k < a + n → P k) → All P (range_with_len a n)
range_all P a zero good = All-nil P
range_all P a (suc n) good =
    All-cons P a (range_with_len (a + 1) n) (good a (omega arith) (omega arith))
    (range_all P (a + 1) n (λ k low high. good k (omega arith) (omega arith)))

-- ---- the events of a round

one_good : (e : Event) → IsGoodEvent e → All IsGoodEvent (e ∷ [])
one_good e good = All-cons IsGoodEvent e [] good (All-nil IsGoodEvent)

version_good : IsVersion (pos 1)
version_good = (1, refl, omega arith)

module _ (d : Round) (counted : IsCounted d) where
  calls_good : (c : Called) → IsGoodEvent (calls_as c d)
  calls_good Echo = (label_good d counted, echo_name, version_good)
  calls_good Log = (label_good d counted, log_name, version_good)
  calls_good Elements = (label_good d counted, each_name, version_good)
  calls_good Book = (label_good d counted, book_name, version_good)

  abbrev elements : List Event
  elements = map (λ m. gives d (decimal m)) (range_with_len 0 (element_count d))

  answers_good : (c : Called) → All IsGoodEvent (answers_as c d)
  answers_good Echo = one_good (ev.Reply (round_label d) (echo_text d)) (label_good d counted)
  answers_good Log = All-nil IsGoodEvent
  answers_good Elements =
      All-cons IsGoodEvent (begins_with d (codes "()")) (elements ++ ev.End (round_label d) ∷ []) (label_good d counted)
      (All-append IsGoodEvent elements (ev.End (round_label d) ∷ [])
      (All-map IsGoodEvent (λ m. gives d (decimal m)) (range_with_len 0 (element_count d))
      (range_all (λ m. IsGoodEvent (gives d (decimal m))) 0 (element_count d) (λ m low high. label_good d counted)))
      (one_good (ev.End (round_label d)) (label_good d counted)))
  answers_good Book =
      All-cons IsGoodEvent (begins_with d (codes "[]")) (replicate 3 (gives d (in_quotes (codes "u")))) (label_good d counted)
      (All-replicate IsGoodEvent 3 (gives d (in_quotes (codes "u"))) (label_good d counted))

  late_good : (c : Called) → All IsGoodEvent (late_as c d)
  late_good Book =
      All-cons IsGoodEvent (gives d (in_quotes (codes "v"))) (ev.Abort (round_label d) ∷ []) (label_good d counted)
      (one_good (ev.Abort (round_label d)) (label_good d counted))
  late_good Echo = All-nil IsGoodEvent
  late_good Log = All-nil IsGoodEvent
  late_good Elements = All-nil IsGoodEvent

  up_good : IsGoodEvent (ev.Up (Some (random d % 64)) (piece d))
  up_good = let few : random d % 64 ≤ 2 ^ 62 - 1 = omega arith in (few, omega arith, omega arith)

  round_good : All IsGoodEvent (round_events d)
  round_good =
      All-cons IsGoodEvent (calls_as (called d) d) (ev.Up (Some (random d % 64)) (piece d) ∷ []) (calls_good (called d))
      (one_good (ev.Up (Some (random d % 64)) (piece d)) up_good)

moves_good : (by : ℕ) → 1 ≤ by → by ≤ 65536 → All IsGoodEvent (all_moves by)
moves_good by some few =
    All-cons IsGoodEvent (ev.Up None by) (ev.Down None by ∷ []) (tt, some, few) (one_good (ev.Down None by) (tt, some, few))

block_good : (by : ℕ) (ds : List Round) → 1 ≤ by → by ≤ 65536 → All IsCounted ds → All IsGoodEvent (block_events by ds)
block_good by ds some few all =
    All-cons IsGoodEvent (ev.Up None by) (flat_map answers (reverse ds) ++ ev.Down None by ∷ flat_map late ds) (tt, some, few)
    (All-append IsGoodEvent (flat_map answers (reverse ds)) (ev.Down None by ∷ flat_map late ds)
    (flat_all IsCounted IsGoodEvent answers (λ d counted. answers_good d counted (called d)) (reverse ds) (reversed_all IsCounted ds all))
    (All-cons IsGoodEvent (ev.Down None by) (flat_map late ds) (tt, some, few)
    (flat_all IsCounted IsGoodEvent late (λ d counted. late_good d counted (called d)) ds all)))

-- ---- all events

block_counted : (n k : ℕ) → k ≤ 4000 → All IsCounted (block_to n k)
block_counted n k few =
    All-map IsCounted (round n) (range_with_len (k + 1 - block_size) block_size)
    (range_all (λ j. j ≤ 4000) (k + 1 - block_size) block_size (λ j low high. omega arith))

events_good : (n k : ℕ) → k ≤ 4000 → All IsGoodEvent (events_at n k)
events_good n k few =
    All-append IsGoodEvent (round_events (round n k)) _ (round_good (round n k) few) (by (nat_eq (k % block_size) 0))
  where
    by : (t : Bool) → All IsGoodEvent (if t then block_events (piece (round n k)) (block_to n k) else [])
    by true = block_good (piece (round n k)) (block_to n k) (omega arith) (omega arith) (block_counted n k few)
    by false = All-nil IsGoodEvent

all_good : (n : ℕ) → All IsGoodEvent (generated_events n)
unfolding generated_events
all_good n =
    All-append IsGoodEvent (all_moves 65536) (flat_map (events_at n) (range_with_len 1 round_count) ++ all_moves 7) (moves_good 65536 (omega arith) (omega arith))
    (All-append IsGoodEvent (flat_map (events_at n) (range_with_len 1 round_count)) (all_moves 7)
    (flat_all (λ k. k ≤ 4000) IsGoodEvent (events_at n) (λ k few. events_good n k few) (range_with_len 1 round_count)
    (range_all (λ k. k ≤ 4000) 1 round_count (λ k low high. omega (arith, count_is))))
    (moves_good 7 (omega arith) (omega arith)))

lined_good : (k : ℕ) (es : List Event) → All IsGoodEvent es → AreGoodEvents (map (λ (p : ℕ × Event). record { line = p.0; event = p.1 }) (enumerate_from k es))
lined_good k [] all = All-nil (λ (l : Lined). IsGoodEvent l.event)
lined_good k (e ∷ es) all =
    All-cons (λ (l : Lined). IsGoodEvent l.event) (record { line = k; event = e }) (map (λ (p : ℕ × Event). record { line = p.0; event = p.1 }) (enumerate_from (k + 1) es))
    (All-head IsGoodEvent e es all) (lined_good (k + 1) es (All-tail IsGoodEvent e es all))

pub generated_good : (n : ℕ) → AreGoodEvents (with_lines (generated_events n))
generated_good n = lined_good first_line (generated_events n) (all_good n)
