-- The lines that say something, of lines that follow others.
use Rattle.std.proofs.Common.{◌≡◌, refl, ap, ◌∙◌, Bool, true, false, not, ℕ, ◌+◌, List, [], ◌∷◌, ◌++◌, length, arith}
use Rattle.std.specs.List.{filter}
use Rattle.std.proofs.lemmas.List.{append-nil}
use Rattle.std.proofs.lemmas.List.Elements.{filter-append}
use Rattle.rpc_schema.specs.TextLines.{Numbered, numbered_from, is_skipped, lines_kept}

abbrev says : Numbered → Bool
says l = not (is_skipped l.bytes)

numbered_append : (n : ℕ) (xs ys : List (List ℕ)) → numbered_from n (xs ++ ys) ≡ numbered_from n xs ++ numbered_from (n + length xs) ys
numbered_append n [] ys = let same : n ≡ n + 0 = omega arith in ap (λ m. numbered_from m ys) same
numbered_append n (x ∷ xs) ys =
    let same : (n + 1) + length xs ≡ n + length (x ∷ xs) = omega arith in
    ap (λ rest. record { number = n; bytes = x } ∷ rest)
    (numbered_append (n + 1) xs ys ∙ ap (λ m. numbered_from (n + 1) xs ++ numbered_from m ys) same)

kept_append : (n : ℕ) (xs ys : List (List ℕ)) → lines_kept n (xs ++ ys) ≡ lines_kept n xs ++ lines_kept (n + length xs) ys
kept_append n xs ys = ap (filter says) (numbered_append n xs ys) ∙ filter-append says (numbered_from n xs) (numbered_from (n + length xs) ys)

-- a line that says nothing, and one that says something
first_out : (l : Numbered) (ls : List Numbered) → is_skipped l.bytes ≡ true → filter says (l ∷ ls) ≡ filter says ls
first_out l ls skipped = rw skipped refl

first_in : (l : Numbered) (ls : List Numbered) → is_skipped l.bytes ≡ false → filter says (l ∷ ls) ≡ l ∷ filter says ls
first_in l ls read = rw read refl

-- the line of this number stands after some lines
module _ (n : ℕ) (xs : List (List ℕ)) (l : List ℕ) (m : ℕ) (at : n + length xs ≡ m) where
  pub kept_skip : is_skipped l ≡ true → lines_kept n (xs ++ l ∷ []) ≡ lines_kept n xs
  kept_skip skipped =
      kept_append n xs (l ∷ []) ∙ (ap (λ k. lines_kept n xs ++ lines_kept k (l ∷ [])) at
      ∙ ap (λ rest. lines_kept n xs ++ rest) (first_out (record { number = m; bytes = l }) [] skipped)) ∙ append-nil (lines_kept n xs)

  pub kept_read : (ys : List (List ℕ)) → is_skipped l ≡ false
      → lines_kept n (xs ++ l ∷ ys) ≡ lines_kept n xs ++ record { number = m; bytes = l } ∷ lines_kept (m + 1) ys
  kept_read ys read =
      kept_append n xs (l ∷ ys) ∙ (ap (λ k. lines_kept n xs ++ lines_kept k (l ∷ ys)) at
      ∙ ap (λ rest. lines_kept n xs ++ rest) (first_in (record { number = m; bytes = l }) (numbered_from (m + 1) ys) read))
