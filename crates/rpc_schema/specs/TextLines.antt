-- The lines of a text, and which of them say something.
use Rattle.std.specs.Prelude.{ℕ, ◌+◌, Bool, true, not, nat_eq, List, [], ◌∷◌, filter}
use Rattle.std.specs.List.{slice_split}

-- ends a line, and begins a line that says nothing
abbrev pub line_end : ℕ
line_end = 0x0A

abbrev pub comment_mark : ℕ
comment_mark = 0x23

abbrev pub without_empty_last : List (List ℕ) → List (List ℕ)
without_empty_last [] = []
without_empty_last ([] ∷ []) = []
without_empty_last (line ∷ lines) = line ∷ without_empty_last lines

-- the lines of a text: each ends with the byte 10, and the last may lack it
abbrev pub text_lines : List ℕ → List (List ℕ)
text_lines text = without_empty_last (slice_split (λ b. nat_eq b line_end) text)

-- a line with its number
pub record Numbered : Type 0 where
  pub number : ℕ
  pub bytes : List ℕ

-- numbered one by one, from a number on
abbrev pub numbered_from : ℕ → List (List ℕ) → List Numbered
numbered_from n [] = []
numbered_from n (l ∷ ls) = record { number = n; bytes = l } ∷ numbered_from (n + 1) ls

-- an empty line, and a line that begins with `#`
abbrev pub is_skipped : List ℕ → Bool
is_skipped [] = true
is_skipped (b ∷ l) = nat_eq b comment_mark

-- the lines that say something, with their numbers, which count from n
abbrev pub lines_kept : ℕ → List (List ℕ) → List Numbered
lines_kept n ls = filter (λ l. not (is_skipped l.bytes)) (numbered_from n ls)

-- those of a text, which count from 1
abbrev pub lines_read : List ℕ → List Numbered
lines_read text = lines_kept 1 (text_lines text)
