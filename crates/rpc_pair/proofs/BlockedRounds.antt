-- The rounds in blocks: each one's place among all, the last ten of them, and one round more.
use Rattle.std.proofs.Common.{◌≡◌, sym, ap, ◌∙◌, ℕ, zero, suc, ◌+◌, ◌-◌, ◌%◌, ◌<◌, ◌≤◌, true, false, List, [], ◌∷◌, ◌++◌, length, map, take, drop, get_or, flat_map, append_assoc, if◌then◌else◌, nat_eq, arith}
use Rattle.std.specs.List.{range_with_len, slice_range}
use Rattle.std.proofs.lemmas.List.{append-nil}
use Rattle.std.proofs.lemmas.List.Concat.{flat_map-append}
use Rattle.std.proofs.lemmas.List.FromFn.{length-map-range_with_len, get_or-map-range_with_len, take-map-range_with_len}
use Rattle.rpc_schedule.specs.declared.event.Event.{Event}
use Rattle.rpc_pair.specs.declared.generating.rounds.Round.{Round}
use Rattle.rpc_pair.specs.Generated.{block_events, block_size, block_to, events_at, piece, round, round_count, round_events, rounds}
use Rattle.rpc_pair.proofs.MarkedElements.{range_more}

-- ---- places

drop_range : {X : Type 0} (f : ℕ → X) (a k n m : ℕ) → n ≡ k + m → drop k (map f (range_with_len a n)) ≡ map f (range_with_len (a + k) m)
drop_range f a zero n m is =
    let same : n ≡ m = omega arith in
    let at : a ≡ a + 0 = omega arith in
    ap (λ j. map f (range_with_len a j)) same ∙ ap (λ b. map f (range_with_len b m)) at
drop_range f a (suc k) zero m is = absurd (omega arith)
drop_range f a (suc k) (suc n) m is =
    let at : (a + 1) + k ≡ a + suc k = omega arith in
    drop_range f (a + 1) k n m (omega arith) ∙ ap (λ b. map f (range_with_len b m)) at

module _ (n : ℕ) (ds : List Round) (all : ds ≡ rounds n) where
  pub rounds_length : length ds ≡ round_count
  rounds_length = ap (λ (l : List Round). length l) all ∙ length-map-range_with_len (round n) 1 round_count

  pub round_at : (i : ℕ) (d : Round) → i < length ds → get_or ds i d ≡ round n (i + 1)
  round_at i d within =
      ap (λ (l : List Round). get_or l i d) all
      ∙ get_or-map-range_with_len (round n) 1 round_count i (i + 1) d (omega (arith, rounds_length)) (omega arith)

  -- the rounds of a block are the last ten
  pub block_at : (end : ℕ) → block_size ≤ end → end ≤ length ds → slice_range ds (end - block_size) end ≡ block_to n end
  block_at end some within =
      let size : end - (end - 10) ≡ 10 = omega arith in
      let left : round_count ≡ (end - 10) + (round_count - (end - 10)) = omega (arith, rounds_length) in
      let enough : 10 ≤ round_count - (end - 10) = omega (arith, rounds_length) in
      let start : 1 + (end - 10) ≡ end + 1 - 10 = omega arith in
      ap (λ j. take j (drop (end - 10) ds)) size
      ∙ (ap (λ (l : List Round). take 10 (drop (end - 10) l)) all
      ∙ (ap (λ (l : List Round). take 10 l) (drop_range (round n) 1 (end - 10) round_count (round_count - (end - 10)) left)
      ∙ (take-map-range_with_len (round n) (1 + (end - 10)) (round_count - (end - 10)) 10 enough
      ∙ ap (λ b. map (round n) (range_with_len b 10)) start)))

-- ---- events

events_more : (n k : ℕ) → flat_map (events_at n) (range_with_len 1 (k + 1)) ≡ flat_map (events_at n) (range_with_len 1 k) ++ events_at n (k + 1)
events_more n k =
    ap (flat_map (events_at n)) (range_more 1 k (k + 1) (omega arith))
    ∙ (flat_map-append (events_at n) (range_with_len 1 k) ((k + 1) ∷ [])
    ∙ ap (λ es. flat_map (events_at n) (range_with_len 1 k) ++ es) (append-nil (events_at n (k + 1))))

added : (n k : ℕ) (base old new es : List Event) → new ≡ old ++ es → es ≡ events_at n (k + 1)
    → old ≡ base ++ flat_map (events_at n) (range_with_len 1 k) → new ≡ base ++ flat_map (events_at n) (range_with_len 1 (k + 1))
added n k base old new es is same before =
    is
    ∙ (ap (λ (fs : List Event). old ++ fs) same
    ∙ (ap (λ (fs : List Event). fs ++ events_at n (k + 1)) before
    ∙ (append_assoc base (flat_map (events_at n) (range_with_len 1 k)) (events_at n (k + 1))
    ∙ ap (λ (fs : List Event). base ++ fs) (sym (events_more n k)))))

-- the round that ends a block
pub ends_block : (n k by : ℕ) (base old mid new : List Event) (d : Round) (ds : List Round)
    → d ≡ round n (k + 1) → by ≡ piece d → ds ≡ block_to n (k + 1) → nat_eq ((k + 1) % block_size) 0 ≡ true
    → mid ≡ old ++ round_events d → new ≡ mid ++ block_events by ds
    → old ≡ base ++ flat_map (events_at n) (range_with_len 1 k) → new ≡ base ++ flat_map (events_at n) (range_with_len 1 (k + 1))
ends_block n k by base old mid new d ds d_is by_is ds_is last first second before =
    added n k base old new (round_events d ++ block_events by ds)
    (second ∙ (ap (λ (es : List Event). es ++ block_events by ds) first ∙ append_assoc old (round_events d) (block_events by ds)))
    (ap (λ (e : Round). round_events e ++ block_events by ds) d_is
    ∙ (ap (λ b. round_events (round n (k + 1)) ++ block_events b ds) (by_is ∙ ap piece d_is)
    ∙ (ap (λ (es : List Round). round_events (round n (k + 1)) ++ block_events (piece (round n (k + 1))) es) ds_is
    ∙ ap (λ t. round_events (round n (k + 1)) ++ (if t then block_events (piece (round n (k + 1))) (block_to n (k + 1)) else [])) (sym last))))
    before

-- another round
pub goes_on_block : (n k : ℕ) (base old new : List Event) (d : Round)
    → d ≡ round n (k + 1) → nat_eq ((k + 1) % block_size) 0 ≡ false → new ≡ old ++ round_events d
    → old ≡ base ++ flat_map (events_at n) (range_with_len 1 k) → new ≡ base ++ flat_map (events_at n) (range_with_len 1 (k + 1))
goes_on_block n k base old new d d_is inner first before =
    added n k base old new (round_events d) first
    (ap round_events d_is
    ∙ (sym (append-nil (round_events (round n (k + 1))))
    ∙ ap (λ t. round_events (round n (k + 1)) ++ (if t then block_events (piece (round n (k + 1))) (block_to n (k + 1)) else [])) (sym inner)))
    before

pub all_rounds : (n k : ℕ) (base new : List Event) → round_count ≤ k → k ≤ round_count
    → new ≡ base ++ flat_map (events_at n) (range_with_len 1 k) → new ≡ base ++ flat_map (events_at n) (range_with_len 1 round_count)
all_rounds n k base new least most is =
    let same : k ≡ round_count = omega arith in is ∙ ap (λ j. base ++ flat_map (events_at n) (range_with_len 1 j)) same
