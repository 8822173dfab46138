-- The number of a name grows by one byte.
use Rattle.std.proofs.Common.{Bool, true, false, pos, ◌+ℤ◌, ◌-ℤ◌, ◌*ℤ◌, nat_lt, if◌then◌else◌, w32, ◌≡◌, ℕ, suc, ◌+◌, ◌*◌, ◌^◌, ◌%◌, ◌<◌, ◌≤◌, List, [], ◌∷◌, ◌++◌, length, take, get_or, refl, ap, ◌∙◌, arith, pow-suc, sym}
use Rattle.std.proofs.lemmas.List.{take_more}
use Rattle.std.proofs.lemmas.Nat.{mul-mod_first}
use lib.Signed.{mag}
use mir.Val.{SFits}
use Rattle.std.proofs.lemmas.Bool.{ltb-true, ltb-false}
use Rattle.std.proofs.lemmas.Int.{ints}
use Rattle.bp_value.specs.Tags.{name_number, tag_of}

grown : (c k p n b m : ℕ) → p ≡ k * 223 → m ≡ n * 223 + b → c * p + m ≡ (c * k + n) * 223 + b
grown c k p n b m e f = rw (e, f) (omega arith)

length_more : (s : List ℕ) (b : ℕ) → length (s ++ b ∷ []) ≡ suc (length s)
length_more [] b = refl
length_more (c ∷ s) b = ap suc (length_more s b)

name_number_more : (s : List ℕ) (b : ℕ) → name_number (s ++ b ∷ []) ≡ name_number s * 223 + b
name_number_more [] b = omega arith
name_number_more (c ∷ s) b =
    grown c (223 ^ length s) (223 ^ length (s ++ b ∷ [])) (name_number s) b
    (name_number (s ++ b ∷ []))
    (ap (λ k. 223 ^ k) (length_more s b) ∙ pow-suc 223 (length s)) (name_number_more s b)

low : (n b : ℕ) → (n * 223 % 4294967296 + b) % 4294967296 ≡ (n * 223 + b) % 4294967296
low n b = omega arith

pub hash_more : (s : List ℕ) (i h : ℕ) → i < length s → h ≡ name_number (take i s) % 4294967296
    → (h * 223 % 4294967296 + get_or s i 0) % 4294967296 ≡ name_number (take (i + 1) s) % 4294967296
hash_more s i h lt e =
    rw (
      e,
      take_more s i 0 lt,
      name_number_more (take i s) (get_or s i 0),
      mul-mod_first (name_number (take i s)) 223 4294967296,
    )
    (low (name_number (take i s)) (get_or s i 0))

low_fits : (h : ℕ) (b : Bool) → b ≡ nat_lt h 1073741824 → h < 2147483648
    → SFits w32 ((pos 2 *ℤ (if b then pos h else (pos h -ℤ pos 2147483648))) +ℤ pos 1)
low_fits h true e lt =
    let below : h < 1073741824 = ltb-true h 1073741824 (sym e) in omega (arith, ints)
low_fits h false e lt =
    let above : 1073741824 ≤ h = ltb-false h 1073741824 (sym e) in omega (arith, ints)

-- a tag is a number of 32 bits
pub tag_fits : (name : List ℕ) → SFits w32 (tag_of name)
tag_fits name = low_fits (name_number name % 2147483648) _ refl (omega arith)

-- and so is below 2 ^ 31 by its distance from 0, or from -1
pub tag_within : (name : List ℕ) → mag (tag_of name) < 2 ^ 31
tag_within name = (tag_fits name).sfits
