-- A number that was read has 64 bits, and so stands in a value as it is.
use Rattle.std.proofs.Common.{◌≡◌, ℕ, ℤ, pos, negsuc, ◌^◌, ◌<◌, ◌≤◌, List, w64, to_z, of_z, FitsSigned, arith, lit≤}
use Rattle.std.proofs.lemmas.Int.{ints, to_z-of_z}
use mir.Val.{SFits}
use Rattle.bp_num.specs.Forms.{extent, limit_of, IsInt}
use Rattle.bp_num.specs.declared.number.IntKind.{IntKind}
use Rattle.bp_num.specs.declared.number.IntKind.TheVariants.{Int63, Int32, Int64}

limit_most : (kind : IntKind) → limit_of kind ≤ 2 ^ 63
limit_most Int63 = lit≤ tt
limit_most Int32 = lit≤ tt
limit_most Int64 = lit≤ tt

extent_fits : (z : ℤ) → extent z < 2 ^ 63 → SFits w64 z
extent_fits (pos n) lt = omega (arith, ints)
extent_fits (negsuc n) lt = omega (arith, ints)

pub number_fits : (kind : IntKind) (z : ℤ) (s : List ℕ) → IsInt kind z s → FitsSigned w64 z
number_fits kind z s form = extent_fits z (let most : limit_of kind ≤ 2 ^ 63 = limit_most kind in let lt : extent z < limit_of kind = form.0 in omega arith)

pub number_back : (z : ℤ) → FitsSigned w64 z → to_z w64 (of_z w64 z) ≡ z
number_back z fits = to_z-of_z w64 z fits
