-- Bytes in two's complement.
use Rattle.std.proofs.Common.{◌≡◌, sym, ap, ◌∙◌, subst, ℕ, ℤ, pos, negsuc, suc, ◌-◌, ◌*◌, ◌^◌, ◌<◌, ◌≤◌, nat_lt, List, length, inl, inr, arith}
use Rattle.std.proofs.lemmas.Bool.{cases_lt}
use Rattle.readers.specs.Reader.{Each, IsByte}
use Rattle.readers.proofs.Leaves.{pick_true, pick_false}
use Rattle.bp_num.specs.Forms.{little_endian, extent, signed_bytes}
use Rattle.bp_num.specs.Reads.{low_first}
use Rattle.bp_num.specs.NumberAt.{signed_of}
use Rattle.bp_num.proofs.Bytes.{low_first-lt, bytes_of_number, number_of_bytes, are_bytes}
use Rattle.bp_num.proofs.Shortest.{length-little_endian}

pub length-signed_bytes : (k : ℕ) (n : ℤ) → length (signed_bytes k n) ≡ k
length-signed_bytes k (pos n) = length-little_endian k n
length-signed_bytes k (negsuc n) = length-little_endian k (256 ^ k - suc n)

pub are_signed_bytes : (k : ℕ) (n : ℤ) → Each IsByte (signed_bytes k n)
are_signed_bytes k (pos n) = are_bytes k n
are_signed_bytes k (negsuc n) = are_bytes k (256 ^ k - suc n)

-- a number below half of 256 ^ k is positive, another is negative
pub signed_low : (k : ℕ) (s : List ℕ) → 2 * low_first s < 256 ^ k → signed_of k s ≡ pos (low_first s)
signed_low k s lt = pick_true (nat_lt (2 * low_first s) (256 ^ k)) _ _ (grind arith)

pub signed_high : (k : ℕ) (s : List ℕ) → 256 ^ k ≤ 2 * low_first s → signed_of k s ≡ negsuc (256 ^ k - suc (low_first s))
signed_high k s le = pick_false (nat_lt (2 * low_first s) (256 ^ k)) _ _ (grind arith)

low_bytes : (k : ℕ) (s : List ℕ) → length s ≡ k → Each IsByte s → (low_first s < 256 ^ k) × (s ≡ little_endian k (low_first s))
low_bytes k s len vs =
    let lt : low_first s < 256 ^ length s = low_first-lt s vs in
    (subst (λ m. low_first s < 256 ^ m) len lt, sym (bytes_of_number s vs) ∙ ap (λ m. little_endian m (low_first s)) len)

-- k bytes are those of their number
pub signed_is : (k h : ℕ) → 256 ^ k ≡ 2 * h → (s : List ℕ) → length s ≡ k → Each IsByte s
    → (extent (signed_of k s) < h) × (s ≡ signed_bytes k (signed_of k s))
signed_is k h half s len vs = elim (cases_lt (2 * low_first s) (256 ^ k)) [ inl lt ↦ low lt | inr le ↦ high le ]
  where
    low : 2 * low_first s < 256 ^ k → (extent (signed_of k s) < h) × (s ≡ signed_bytes k (signed_of k s))
    low lt = rw (signed_low k s lt) (omega arith, (low_bytes k s len vs).1)

    high : 256 ^ k ≤ 2 * low_first s → (extent (signed_of k s) < h) × (s ≡ signed_bytes k (signed_of k s))
    high le =
        let (lt, same) = low_bytes k s len vs in
        let back : low_first s ≡ 256 ^ k - suc (256 ^ k - suc (low_first s)) = omega arith in
        rw (signed_high k s le) (omega arith, same ∙ ap (λ m. little_endian k m) back)

-- the number of a number's bytes is it
pub signed_back : (k h : ℕ) → 256 ^ k ≡ 2 * h → (n : ℤ) → extent n < h → signed_of k (signed_bytes k n) ≡ n
signed_back k h half (pos n) lt =
    let low : low_first (little_endian k n) ≡ n = number_of_bytes k n (omega arith) in
    signed_low k (little_endian k n) (omega arith) ∙ ap (λ m. pos m) low
signed_back k h half (negsuc n) lt =
    let low : low_first (little_endian k (256 ^ k - suc n)) ≡ 256 ^ k - suc n = number_of_bytes k (256 ^ k - suc n) (omega arith) in
    let back : 256 ^ k - suc (low_first (little_endian k (256 ^ k - suc n))) ≡ n = omega arith in
    signed_high k (little_endian k (256 ^ k - suc n)) (omega arith) ∙ ap (λ m. negsuc m) back
