-- Bytes and the number that they are, the lowest first.
use Rattle.std.proofs.Common.{◌≡◌, refl, ℕ, zero, suc, ◌+◌, ◌*◌, ◌/◌, ◌%◌, ◌^◌, ◌<◌, List, [], ◌∷◌, ◌++◌, length, arith, lit<}
use Rattle.readers.specs.Reader.{Each, IsByte}
use Rattle.bp_num.specs.Forms.{little_endian}
use Rattle.bp_num.specs.Reads.{low_first}

pub pow-next : (k : ℕ) → 256 ^ suc k ≡ 256 * 256 ^ k
pow-next k = grind arith

pub pow-some : (k : ℕ) → 0 < 256 ^ k
pow-some zero = lit< tt
pow-some (suc k) = let power : 256 ^ suc k ≡ 256 * 256 ^ k = pow-next k in omega (arith, pow-some k)

-- the number of bytes is below its power, and its bytes are they
pub low_first-lt : (s : List ℕ) → Each IsByte s → low_first s < 256 ^ length s
low_first-lt [] vs = omega arith
low_first-lt (b ∷ s) vs =
    let rest : low_first s < 256 ^ length s = low_first-lt s vs.1 in
    let byte : b < 256 = vs.0 in
    let power : 256 ^ suc (length s) ≡ 256 * 256 ^ length s = pow-next (length s) in
    omega arith

pub bytes_of_number : (s : List ℕ) → Each IsByte s → little_endian (length s) (low_first s) ≡ s
bytes_of_number [] vs = refl
bytes_of_number (b ∷ s) vs =
    let byte : b < 256 = vs.0 in
    let low : (b + 256 * low_first s) % 256 ≡ b = omega arith in
    let high : (b + 256 * low_first s) / 256 ≡ low_first s = omega arith in
    rw (low, high, bytes_of_number s vs.1) refl

-- the number of a number's bytes is it
pub number_of_bytes : (k n : ℕ) → n < 256 ^ k → low_first (little_endian k n) ≡ n
number_of_bytes zero n lt = omega arith
number_of_bytes (suc k) n lt =
    let power : 256 ^ suc k ≡ 256 * 256 ^ k = pow-next k in
    let rest : low_first (little_endian k (n / 256)) ≡ n / 256 = number_of_bytes k (n / 256) (omega arith) in
    omega arith

pub are_bytes : (k n : ℕ) → Each IsByte (little_endian k n)
are_bytes zero n = tt
are_bytes (suc k) n = (omega arith, are_bytes k (n / 256))

-- one more byte on top
pub low_first-top : (p : List ℕ) (b : ℕ) → low_first (p ++ b ∷ []) ≡ low_first p + 256 ^ length p * b
low_first-top [] b = omega arith
low_first-top (c ∷ p) b =
    let rest : low_first (p ++ b ∷ []) ≡ low_first p + 256 ^ length p * b = low_first-top p b in
    let power : 256 ^ suc (length p) ≡ 256 * 256 ^ length p = pow-next (length p) in
    rw (rest, power) (omega arith)
