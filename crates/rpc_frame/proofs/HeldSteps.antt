-- What a reader holds, by its length bytes and its body bytes.
use Rattle.std.proofs.Common.{◌≡◌, refl, sym, ap, ◌∙◌, subst, ℕ, zero, suc, ◌+◌, ◌-◌, ◌*◌, ◌/◌, ◌%◌, ◌^◌, ◌<◌, ◌≤◌, List, [], ◌∷◌, ◌++◌, length, take, drop, Option, Some, None, Bool, true, false, is_some, nat_lt, if◌then◌else◌, ◌⊎◌, inl, inr, arith}
use Rattle.std.proofs.lemmas.List.{append-nil, length-append, length-take, take-append-drop}
use Rattle.std.proofs.Math.Nat.{eq-or-lt_of_le, mod-le, mod-lt}
use Rattle.readers.specs.Reader.{Each, IsByte}
use Rattle.readers.proofs.Leaves.{pick_true}
use Rattle.readers.proofs.Readers.{each-front}
use Rattle.bp_num.specs.Forms.{little_endian}
use Rattle.bp_num.specs.Reads.{low_first}
use Rattle.bp_num.proofs.Bytes.{are_bytes, number_of_bytes, bytes_of_number, pow-some}
use Rattle.bp_num.proofs.Payloads.{low_first-take}
use Rattle.rpc_frame.specs.Frames.{frame}
use Rattle.rpc_frame.specs.Heads.{head_bytes, IsHead}
use Rattle.rpc_frame.specs.States.{FrameState, IsPartOfFrame, missing, wanted, undone}
use Rattle.rpc_frame.specs.declared.head.Head.{Head}
use Rattle.rpc_frame.proofs.HeadSteps.{length-little, take_front}

held_long : (head : Head) (body : List ℕ) → length (head_bytes head ++ body) ≡ head.seen + length body
held_long head body = length-append (head_bytes head) body ∙ ap (λ k. k + length body) (length-little head.seen head.low)

pub held_few : (max : ℕ) (head : Head) (body : List ℕ) → IsPartOfFrame max head body → length (head_bytes head ++ body) < max + 8
held_few max head body held = elim (eq-or-lt_of_le held.known.few) [ inl is ↦ late is | inr lt ↦ early lt ]
  where
    late : head.seen ≡ 8 → length (head_bytes head ++ body) < max + 8
    late is = let less : length body < head.low = held.late is in let fits : head.low ≤ max = held.known.fits in omega (arith, held_long head body)

    early : head.seen < 8 → length (head_bytes head ++ body) < max + 8
    early lt = let none : length body ≡ 0 = ap length (held.early lt) in omega (arith, held_long head body)

pub none_of : (o : Option ℕ) (b : Bool) → b ≡ is_some o → b ≡ false → o ≡ None
none_of None b is e = refl
none_of (Some n) b is e = absurd (clash (sym is ∙ e))
  where
    clash : true ≡ false → ⊥
    clash e = cc

-- before the length is whole, its bytes are missing
pub wants_head : (max : ℕ) (head : Head) (body : List ℕ) (place : ℕ) (failed : Option ℕ) (n : ℕ) → IsPartOfFrame max head body → failed ≡ None → head.seen < 8 → n ≡ 8 - head.seen
    → n ≡ wanted (record { max = max; held = head_bytes head ++ body; place = place; failed = failed }) failed
wants_head max head body place failed n held going lt is =
    let none : length body ≡ 0 = ap length (held.early lt) in
    let few : length (head_bytes head ++ body) ≡ head.seen = omega (arith, held_long head body) in
    is ∙ (ap (λ k. 8 - k) (sym few)
    ∙ (sym (pick_true (nat_lt (length (head_bytes head ++ body)) 8) _ _ (grind (arith, few))) ∙ ap (λ f. wanted (record { max = max; held = head_bytes head ++ body; place = place; failed = failed }) f) (sym going)))

-- ---- a feed is taken back

module _ (r : FrameState) (max : ℕ) (body kept : List ℕ) (used n place : ℕ) (failed : Option ℕ) (same : r.max ≡ max) (going : failed ≡ None) (size : n ≡ length body) where
  pub undone_late : used ≤ n → kept ≡ take (n - used) body
      → ◌≡◌ {A = FrameState} (record { max = max; held = little_endian 8 n ++ kept; place = place; failed = failed }) (undone r body used place)
  undone_late le is = by held
    where
      held : little_endian 8 n ++ kept ≡ take (8 + length body - used) (frame body)
      held =
          let count : 8 + (n - used) ≡ 8 + length body - used = omega arith in
          ap (λ k. little_endian 8 n ++ k) is
          ∙ (sym (take_front 8 (n - used) (little_endian 8 n) body (length-little 8 n))
          ∙ (ap (λ k. take k (little_endian 8 n ++ body)) count ∙ ap (λ k. take (8 + length body - used) (little_endian 8 k ++ body)) size))

      by : little_endian 8 n ++ kept ≡ take (8 + length body - used) (frame body)
          → ◌≡◌ {A = FrameState} (record { max = max; held = little_endian 8 n ++ kept; place = place; failed = failed }) (undone r body used place)
      by e = cc

  -- the front of a length's bytes is its low part
  front_is : (seen : ℕ) → seen < 8 → n < 256 ^ 8 → little_endian seen (n % 256 ^ seen) ≡ take seen (little_endian 8 n)
  front_is seen lt few =
      let long : length (take seen (little_endian 8 n)) ≡ seen = length-take seen (little_endian 8 n) ∙ omega (arith, length-little 8 n) in
      let bytes : Each IsByte (take seen (little_endian 8 n)) = each_take seen (little_endian 8 n) (are_bytes 8 n) in
      let low : low_first (take seen (little_endian 8 n)) ≡ n % 256 ^ seen =
      low_first-take seen (little_endian 8 n) (are_bytes 8 n) ∙ ap (λ k. k % 256 ^ seen) (number_of_bytes 8 n few) in
      ap (λ k. little_endian seen k) (sym low) ∙ (ap (λ k. little_endian k (low_first (take seen (little_endian 8 n)))) (sym long) ∙ bytes_of_number (take seen (little_endian 8 n)) bytes)
    where
      each_take : (k : ℕ) (s : List ℕ) → Each IsByte s → Each IsByte (take k s)
      each_take k s each = each-front IsByte (take k s) (drop k s) (subst (λ t. Each IsByte t) (sym (take-append-drop k s)) each)

  pub undone_early : n < used → used ≤ n + 8 → n < 256 ^ 8 → (seen low : ℕ) → seen ≡ 8 - (used - n) → low ≡ n % 256 ^ seen → kept ≡ []
      → ◌≡◌ {A = FrameState} (record { max = max; held = little_endian seen low ++ kept; place = place; failed = failed }) (undone r body used place)
  undone_early lt le few seen low seen_is low_is none = by held
    where
      held : little_endian seen low ++ kept ≡ take (8 + length body - used) (frame body)
      held =
          let count : seen ≡ 8 + length body - used = omega arith in
          let within : seen < 8 = omega arith in
          ap (λ k. little_endian seen low ++ k) none ∙ (append-nil (little_endian seen low)
          ∙ (ap (λ k. little_endian seen k) low_is ∙ (front_is seen within few
          ∙ (sym (take_within seen (little_endian 8 n) body (omega (arith, length-little 8 n)))
          ∙ (ap (λ k. take k (little_endian 8 n ++ body)) count ∙ ap (λ k. take (8 + length body - used) (little_endian 8 k ++ body)) size)))))
        where
          take_within : (k : ℕ) (front rest : List ℕ) → k ≤ length front → take k (front ++ rest) ≡ take k front
          take_within zero front rest le = refl
          take_within (suc k) [] rest le = absurd (omega arith)
          take_within (suc k) (b ∷ front) rest le = ap (λ t. b ∷ t) (take_within k front rest (omega arith))

      by : little_endian seen low ++ kept ≡ take (8 + length body - used) (frame body)
          → ◌≡◌ {A = FrameState} (record { max = max; held = little_endian seen low ++ kept; place = place; failed = failed }) (undone r body used place)
      by e = cc

-- a part of a length, which is within the limit as the length is
pub head_part : (max n seen low scale : ℕ) → max ≤ 2 ^ 30 → n ≤ max → seen < 8 → scale ≡ 256 ^ seen → low ≡ n % scale → IsPartOfFrame max (record { seen = seen; low = low }) []
head_part max n seen low scale limit fits lt scaled is = record {
  known = record { limit = limit; few = omega arith; fits = below; small = small };
  early = λ few. refl;
  late = λ e. absurd (omega arith);
}
  where
    some : 0 < scale
    some = subst (λ k. 0 < k) (sym scaled) (pow-some seen)

    below : low ≤ max
    below = let le : n % scale ≤ n = mod-le n scale in omega arith

    small : low < 256 ^ seen
    small = subst (λ k. low < k) scaled (subst (λ k. k < scale) (sym is) (mod-lt n some))
