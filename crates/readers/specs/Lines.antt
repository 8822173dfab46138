-- Lines, each of one language: their values, or the first line that is bad.
use Rattle.std.specs.Prelude.{ℕ, zero, suc, List, [], ◌∷◌}
use Rattle.readers.specs.Reader.{Outcome, Read, good, refused, to_end}

-- the lines are texts of the values, one each
abbrev pub AreLines : {S A : Type 0} → (A → List S → Type 0) → List A → List (List S) → Type 0
AreLines L [] [] = Unit {0}
AreLines L [] (l ∷ ls) = ⊥
AreLines L (a ∷ vs) [] = ⊥
AreLines L (a ∷ vs) (l ∷ ls) = L a l × AreLines L vs ls

-- the line k, counted from 0, is the first that is no text
abbrev pub IsFirstBadLine : {S A : Type 0} → (A → List S → Type 0) → List (List S) → ℕ → Type 0
IsFirstBadLine L [] k = ⊥
IsFirstBadLine {A = A} L (l ∷ ls) zero = (a : A) → L a l → ⊥
IsFirstBadLine {A = A} L (l ∷ ls) (suc k) = ((a : A) × L a l) × IsFirstBadLine L ls k

abbrev pub onto : {A : Type 0} → Read A → Read (List A) → Read (List A)
onto (refused n) r = refused 0
onto (good a) (good vs) = good (a ∷ vs)
onto (good a) (refused k) = refused (suc k)

-- each line is read to its end: the values, or the number of the first line that is refused
abbrev pub read_lines : {S W A : Type 0} → (List S → Outcome S W A) → List (List S) → Read (List A)
read_lines r [] = good []
read_lines r (l ∷ ls) = onto (to_end (r l)) (read_lines r ls)
