-- Lines of text.
use Rattle.std.specs.Prelude.{ℕ, List, [], ◌∷◌, ◌++◌, codes}
use Rattle.std.specs.Fmt.{decimal}

abbrev pub line : List ℕ → List ℕ
line text = text ++ 10 ∷ []

-- the number of a line of the input
abbrev pub line_place : ℕ → List ℕ
line_place number = codes "line " ++ (decimal number ++ codes ": ")

-- a line about it
abbrev pub line_about : ℕ → List ℕ → List ℕ
line_about number text = line (line_place number ++ text)
