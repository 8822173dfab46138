-- Numbers with marks between them, one more.
use Rattle.std.proofs.Common.{◌≡◌, refl, sym, ap, ◌∙◌, ℕ, zero, suc, ◌+◌, ◌<◌, ◌≤◌, List, [], ◌∷◌, ◌++◌, map, codes, append_assoc, arith}
use Rattle.std.specs.Fmt.{decimal}
use Rattle.std.specs.List.{range_with_len}
use Rattle.std.proofs.lemmas.List.FromFn.{map-range_with_len_more}
use Rattle.rpc_pair.specs.Generated.{with_marks}

map_same : (ms : List ℕ) → map (λ m. m) ms ≡ ms
map_same [] = refl
map_same (m ∷ ms) = ap (λ ns. m ∷ ns) (map_same ms)

pub range_more : (k m n : ℕ) → k + m ≡ n → range_with_len k (m + 1) ≡ range_with_len k m ++ n ∷ []
range_more k m n at =
    sym (map_same (range_with_len k (m + 1)))
    ∙ (map-range_with_len_more (λ j. j) k m n at ∙ ap (λ ns. ns ++ n ∷ []) (map_same (range_with_len k m)))

marks_push : (k : ℕ) (ks : List ℕ) (m : ℕ) → with_marks (k ∷ (ks ++ m ∷ [])) ≡ (with_marks (k ∷ ks) ++ codes "; ") ++ decimal m
marks_push k [] m = sym (append_assoc (decimal k) (codes "; ") (decimal m))
marks_push k (j ∷ ks) m =
    ap (λ w. decimal k ++ (codes "; " ++ w)) (marks_push j ks m)
    ∙ (ap (λ w. decimal k ++ w) (sym (append_assoc (codes "; ") (with_marks (j ∷ ks) ++ codes "; ") (decimal m)))
    ∙ (sym (append_assoc (decimal k) (codes "; " ++ (with_marks (j ∷ ks) ++ codes "; ")) (decimal m))
    ∙ ap (λ w. w ++ decimal m) (sym (append_assoc (decimal k) (codes "; " ++ with_marks (j ∷ ks)) (codes "; ")))))

-- the first number stands alone
pub mark_first : (m : ℕ) → m ≤ 0 → with_marks (range_with_len 0 (m + 1)) ≡ with_marks (range_with_len 0 m) ++ decimal m
mark_first zero least = refl
mark_first (suc m) least = absurd (omega arith)

-- a mark stands before another one
pub mark_next : (m : ℕ) → 0 < m → with_marks (range_with_len 0 (m + 1)) ≡ (with_marks (range_with_len 0 m) ++ codes "; ") ++ decimal m
mark_next zero some = absurd (omega arith)
mark_next (suc m) some = ap with_marks (range_more 0 (suc m) (suc m) (omega arith)) ∙ marks_push 0 (range_with_len 1 m) (suc m)
