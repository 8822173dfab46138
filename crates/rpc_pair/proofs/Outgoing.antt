-- Bytes that go out in pieces.
use Rattle.std.proofs.Common.{◌≡◌, sym, ap, ◌∙◌, ℕ, ◌+◌, ◌≤◌, min, List, [], ◌++◌, length, take, drop, take-append-drop, arith}
use Rattle.std.specs.Prelude.{Option}
use Rattle.std.proofs.lemmas.List.{length-drop, length-take, take_all, take_at}
use Rattle.rpc_frame.proofs.HeadSteps.{take_front}
use Rattle.bp_base.specs.Told.{Gains}
use Rattle.bp_base.proofs.Telling.{Gains-nil}

-- what tells the same gained nothing
pub gains_none : {W : Type 0} (told : W → Option (List ℕ)) (w new : W) → told new ≡ told w → Gains told w new []
gains_none told w new same = same ∙ Gains-nil told w

-- nothing more is left of some bytes where room for one takes none
pub all_out : (xs : List ℕ) (n room : ℕ) → n ≤ length xs → 1 ≤ room → min room (length (drop n xs)) ≡ 0 → n ≡ length xs
all_out xs n room within some none = omega (arith, within, some, none, length-drop n xs)

pub front_whole : (xs : List ℕ) (n : ℕ) → n ≡ length xs → take n xs ≡ xs
front_whole xs n is = take_all n xs (omega (arith, is))

-- more of a front
pub take_on : (t n : ℕ) (xs : List ℕ) → t ≤ length xs → take (t + n) xs ≡ take t xs ++ take n (drop t xs)
take_on t n xs within = ap (take (t + n)) (sym (take-append-drop t xs)) ∙ take_front t n (take t xs) (drop t xs) (omega (arith, within, length-take t xs))

-- what was moved to the front of a buffer
pub moved_front : (n : ℕ) (xs rest : List ℕ) → n ≤ length xs → take n (take n xs ++ rest) ≡ take n xs
moved_front n xs rest within = take_at (take n xs) rest n (omega (arith, within, length-take n xs))
