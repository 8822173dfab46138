-- What the readers of payloads give on lists of bytes, by the number of their first bytes.
use Rattle.std.proofs.Common.{◌≡◌, refl, sym, ap, ◌∙◌, subst, ℕ, ℤ, pos, zero, suc, ◌+◌, ◌-◌, ◌*◌, ◌/◌, ◌%◌, ◌^◌, ◌<◌, ◌≤◌, false, nat_le, List, [], ◌∷◌, length, take, drop, get_or, min, Fits, w8, inl, inr, arith}
use Rattle.std.proofs.Math.Nat.{div-add-mod', mod-eq_of_lt, mod-lt, mul-add-mod_self_right}
use Rattle.std.proofs.lemmas.Bool.{cases_lt}
use Rattle.std.proofs.lemmas.List.{take-append-drop, length-drop, length-take-le}
use Rattle.readers.specs.Reader.{whole, more, bad, mapped, Each, IsByte}
use Rattle.readers.proofs.Readers.{each-front}
use Rattle.readers.proofs.Leaves.{pick_true, pick_false}
use Rattle.byteorder.specs.Endian.{little_from}
use Rattle.byteorder.specs.Numbers.{little_from-cons}
use Rattle.bp_num.specs.declared.number.NumRead.TheVariants.{Done, More, Bad}
use Rattle.bp_num.specs.declared.number.Why.TheVariants.{Length}
use Rattle.bp_num.specs.Reads.{low_first}
use Rattle.bp_num.specs.NumberAt.{answer, payload_at}
use Rattle.bp_num.proofs.Bytes.{pow-next, pow-some}

-- ---- bytes

pub bytes_are : (s : List ℕ) → ((i : ℕ) → Fits w8 (get_or s i 0)) → Each IsByte s
bytes_are [] each = tt
bytes_are (b ∷ s) each = (omega (arith, each 0), bytes_are s (λ i. each (suc i)))

pub little_from-low_first : (k : ℕ) (s : List ℕ) → k ≤ length s → little_from 0 k s ≡ low_first (take k s)
little_from-low_first zero [] le = refl
little_from-low_first zero (b ∷ s) le = refl
little_from-low_first (suc k) [] le = absurd (omega arith)
little_from-low_first (suc k) (b ∷ s) le = ap (λ n. b + 256 * n) (little_from-cons 0 k b s ∙ little_from-low_first k s (omega arith))

-- the low bytes of a number are its rest at a power
pub low_first-take : (j : ℕ) (s : List ℕ) → Each IsByte s → low_first (take j s) ≡ low_first s % 256 ^ j
low_first-take zero [] vs = omega arith
low_first-take zero (b ∷ s) vs = omega arith
low_first-take (suc j) [] vs = sym (mod-eq_of_lt (pow-some (suc j)))
low_first-take (suc j) (b ∷ s) vs =
    let byte : b < 256 = vs.0 in
    let x = low_first s in
    let m = 256 ^ j in
    let some : 0 < m = pow-some j in
    let small : x % m < m = mod-lt x some in
    let split : b + 256 * x ≡ x / m * (256 * m) + (b + 256 * (x % m)) = ap (λ y. b + 256 * y) (sym (div-add-mod' x m)) ∙ spread (x / m) m (x % m) in
    let rest : (b + 256 * x) % (256 * m) ≡ b + 256 * (x % m) =
    ap (λ y. y % (256 * m)) split ∙ (mul-add-mod_self_right (x / m) (256 * m) (b + 256 * (x % m)) ∙ mod-eq_of_lt (omega arith)) in
    ap (λ y. b + 256 * y) (low_first-take j s vs.1) ∙ (sym rest ∙ ap (λ p. (b + 256 * x) % p) (sym (pow-next j)))
  where
    spread : (q m r : ℕ) → b + 256 * (q * m + r) ≡ q * (256 * m) + (b + 256 * r)
    spread q m r = omega arith

-- ---- payloads of a length

pub payload_done : (k max : ℕ) (s : List ℕ) → k ≤ length s → low_first (take k s) ≤ max
    → payload_at k max s ≡ whole (low_first (take k s)) (drop k s)
payload_done zero max [] le fits = refl
payload_done zero max (b ∷ s) le fits = refl
payload_done (suc k) max [] le fits = absurd (omega arith)
payload_done (suc k) max (b ∷ s) le fits =
    pick_true (nat_le b max) _ _ (grind arith) ∙ ap (λ o. mapped (λ x. b + 256 * x) o) (payload_done k ((max - b) / 256) s (omega arith) (omega arith))

pub payload_more : (k max : ℕ) (s : List ℕ) → length s < k → low_first s ≤ max → payload_at k max s ≡ more
payload_more zero max s lt fits = absurd (omega arith)
payload_more (suc k) max [] lt fits = refl
payload_more (suc k) max (b ∷ s) lt fits =
    pick_true (nat_le b max) _ _ (grind arith) ∙ ap (λ o. mapped (λ x. b + 256 * x) o) (payload_more k ((max - b) / 256) s (omega arith) (omega arith))

pub payload_bad : (k max j : ℕ) (s : List ℕ) → j < k → j < length s → low_first (take j s) ≤ max
    → max < low_first (take (suc j) s) → payload_at k max s ≡ bad (length s - j) Length
payload_bad zero max j s jk js fits past = absurd (omega arith)
payload_bad (suc k) max j [] jk js fits past = absurd (omega arith)
payload_bad (suc k) max zero (b ∷ s) jk js fits past =
    let all : suc (length s) ≡ suc (length s) - 0 = omega arith in
    pick_false (nat_le b max) _ _ (here b s past) ∙ ap (λ n. bad n Length) all
  where
    here : (b : ℕ) (s : List ℕ) → max < b + 256 * low_first (take 0 s) → nat_le b max ≡ false
    here b [] past = grind arith
    here b (c ∷ s) past = grind arith
payload_bad (suc k) max (suc j) (b ∷ s) jk js fits past =
    let left : length s - j ≡ suc (length s) - suc j = omega arith in
    pick_true (nat_le b max) _ _ (grind arith)
    ∙ (ap (λ o. mapped (λ x. b + 256 * x) o) (payload_bad k ((max - b) / 256) j s (omega arith) (omega arith) (omega arith) (omega arith)) ∙ ap (λ n. bad n Length) left)

-- the front of a front
take_take : (j k : ℕ) (s : List ℕ) → j ≤ k → take j (take k s) ≡ take j s
take_take zero zero [] le = refl
take_take zero zero (b ∷ s) le = refl
take_take zero (suc k) [] le = refl
take_take zero (suc k) (b ∷ s) le = refl
take_take (suc j) zero s le = absurd (omega arith)
take_take (suc j) (suc k) [] le = refl
take_take (suc j) (suc k) (b ∷ s) le = ap (λ l. b ∷ l) (take_take j k s (omega arith))

pub take_whole : (j : ℕ) (s : List ℕ) → length s ≤ j → take j s ≡ s
take_whole zero [] le = refl
take_whole zero (b ∷ s) le = absurd (omega arith)
take_whole (suc j) [] le = refl
take_whole (suc j) (b ∷ s) le = ap (λ l. b ∷ l) (take_whole j s (omega arith))

module _ (k max : ℕ) (s : List ℕ) (seen low : ℕ) (vs : Each IsByte s) (most : seen ≡ min k (length s)) (is_low : low ≡ little_from 0 seen s) where
  within : seen ≤ length s
  within = omega arith

  low_is : low ≡ low_first (take seen s)
  low_is = is_low ∙ little_from-low_first seen s within

  seen_bytes : Each IsByte (take seen s)
  seen_bytes = each-front IsByte (take seen s) (drop seen s) (subst (λ l. Each IsByte l) (sym (take-append-drop seen s)) vs)

  -- the low bytes pass the limit at a place
  pub payload_past : (place : ℕ) → max < low → low % 256 ^ place ≤ max → max < low % 256 ^ (place + 1)
      → Bad (1 + place) Length ≡ answer (suc (length s)) (mapped pos (payload_at k max s))
  payload_past place past below above =
      elim (cases_lt place seen) [ inl lt ↦ here lt | inr ge ↦ absurd (omega (arith, all ge)) ]
    where
      at : (j : ℕ) → low_first (take j (take seen s)) ≡ low % 256 ^ j
      at j = low_first-take j (take seen s) seen_bytes ∙ ap (λ n. n % 256 ^ j) (sym low_is)

      long : length (take seen s) ≡ seen
      long = length-take-le seen s within

      all : seen ≤ place → low ≡ low % 256 ^ place
      all ge = low_is ∙ (ap low_first (sym (take_whole place (take seen s) (omega (arith, long)))) ∙ at place)

      here : place < seen → Bad (1 + place) Length ≡ answer (suc (length s)) (mapped pos (payload_at k max s))
      here lt =
          let under : low_first (take place s) ≤ max = rw (← take_take place seen s (omega arith), at place) below in
          let next : place + 1 ≡ suc place = omega arith in
          let over : max < low_first (take (suc place) s) = rw (← take_take (suc place) seen s (omega arith), at (suc place)) (subst (λ n. max < low % 256 ^ n) next above) in
          let le : place < length s = omega (arith, within) in
          let shown : 1 + place ≡ suc (length s) - (length s - place) = omega arith in
          ap (λ n. Bad n Length) shown ∙ sym (ap (λ o. answer (suc (length s)) (mapped pos o)) (payload_bad k max place s (omega arith) le under over))

  -- bytes are missing
  pub payload_cut : low ≤ max → seen < k → More ≡ answer (suc (length s)) (mapped pos (payload_at k max s))
  payload_cut fits short =
      let all : take seen s ≡ s = take_whole seen s (omega arith) in
      let low_all : low ≡ low_first s = low_is ∙ ap low_first all in
      sym (ap (λ o. answer (suc (length s)) (mapped pos o)) (payload_more k max s (omega arith) (omega arith)))

  -- all bytes are there
  pub payload_full : low ≤ max → k ≤ seen → (z : ℤ) → z ≡ pos low
      → Done z (1 + k) ≡ answer (suc (length s)) (mapped pos (payload_at k max s))
  payload_full fits full z is =
      let same : seen ≡ k = omega arith in
      let low_k : low ≡ low_first (take k s) = low_is ∙ ap (λ j. low_first (take j s)) same in
      let left : length (drop k s) ≡ length s - k = length-drop k s in
      let used : 1 + k ≡ suc (length s) - length (drop k s) = omega (arith, within) in
      let number : z ≡ pos (low_first (take k s)) = is ∙ ap (λ n. pos n) low_k in
      ap (λ y. Done y (1 + k)) number ∙ (ap (λ j. Done (pos (low_first (take k s))) j) used
      ∙ sym (ap (λ o. answer (suc (length s)) (mapped pos o)) (payload_done k max s (omega (arith, within)) (omega arith))))
