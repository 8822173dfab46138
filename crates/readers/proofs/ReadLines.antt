-- Reading lines gives their values, or the first line that is bad.
use Rattle.std.proofs.Common.{◌≡◌, refl, ap, ◌∙◌, ℕ, zero, suc, List, [], ◌∷◌}
use Rattle.readers.specs.Reader.{Outcome, Each, Any, Right, Read, good, refused, to_end}
use Rattle.readers.specs.Lines.{AreLines, IsFirstBadLine, onto, read_lines}
use Rattle.readers.proofs.Readers.{each-any}
use Rattle.readers.proofs.Ends.{good_is, good_all}

-- lines of any symbols at all
pub lines_any : {S : Type 0} (ls : List (List S)) → Each (Each Any) ls
lines_any [] = tt
lines_any (l ∷ ls) = (each-any l, lines_any ls)

module _ {S W A : Type 0} (V E : S → Type 0) (L : A → List S → Type 0) (R : List S → S → W → Type 0) (r : List S → Outcome S W A)
    (right : Right V E L R r) where
  pub lines_good : (ls : List (List S)) (vs : List A) → Each (Each V) ls → read_lines r ls ≡ good vs → AreLines L vs ls
  lines_good [] [] each h = tt
  lines_good [] (v ∷ vs) each h = absurd cc
  lines_good (l ∷ ls) vs each h = go vs (to_end (r l)) refl (read_lines r ls) h (λ us e. lines_good ls us each.1 e)
    where
      go : (vs : List A) (o : Read A) → to_end (r l) ≡ o → (q : Read (List A)) → onto o q ≡ good vs
          → ((us : List A) → q ≡ good us → AreLines L us ls) → AreLines L vs (l ∷ ls)
      go vs (refused n) e q h rest = absurd cc
      go vs (good a) e (refused k) h rest = absurd cc
      go [] (good a) e (good us) h rest = absurd cc
      go (v ∷ vs) (good a) e (good us) h rest =
          let av : a ≡ v = cc in
          let uv : us ≡ vs = cc in
          (good_is V E L R r right l v each.0 (e ∙ ap (λ x. good x) av), rest vs (ap (λ x. good x) uv))

  pub lines_are : (ls : List (List S)) (vs : List A) → AreLines L vs ls → read_lines r ls ≡ good vs
  lines_are [] [] l = refl
  lines_are [] (v ∷ vs) l = absurd l
  lines_are (l ∷ ls) [] x = absurd x
  lines_are (l ∷ ls) (v ∷ vs) x =
      ap (λ o. onto o (read_lines r ls)) (good_all V E L R r right l v x.0) ∙ ap (λ q. onto (good v) q) (lines_are ls vs x.1)

  no_value : (l : List S) (n : ℕ) → to_end (r l) ≡ refused n → (a : A) → L a l → ⊥
  no_value l n e a x = let got : to_end (r l) ≡ good a = good_all V E L R r right l a x in cc

  pub lines_bad : (ls : List (List S)) (k : ℕ) → Each (Each V) ls → read_lines r ls ≡ refused k → IsFirstBadLine L ls k
  lines_bad [] k each h = absurd cc
  lines_bad (l ∷ ls) k each h = go k (to_end (r l)) refl (read_lines r ls) h (λ j e. lines_bad ls j each.1 e)
    where
      go : (k : ℕ) (o : Read A) → to_end (r l) ≡ o → (q : Read (List A)) → onto o q ≡ refused k
          → ((j : ℕ) → q ≡ refused j → IsFirstBadLine L ls j) → IsFirstBadLine L (l ∷ ls) k
      go zero (refused n) e q h rest = no_value l n e
      go (suc k) (refused n) e q h rest = absurd cc
      go k (good a) e (good us) h rest = absurd cc
      go zero (good a) e (refused j) h rest = absurd cc
      go (suc k) (good a) e (refused j) h rest =
          let jk : j ≡ k = cc in
          ((a, good_is V E L R r right l a each.0 e), rest k (ap (λ x. refused x) jk))

  pub bad_lines : (ls : List (List S)) (k : ℕ) → Each (Each V) ls → IsFirstBadLine L ls k → read_lines r ls ≡ refused k
  bad_lines [] k each x = absurd x
  bad_lines (l ∷ ls) zero each x = go (to_end (r l)) refl
    where
      go : (o : Read A) → to_end (r l) ≡ o → onto (to_end (r l)) (read_lines r ls) ≡ refused 0
      go (refused n) e = ap (λ o. onto o (read_lines r ls)) e
      go (good a) e = absurd (x a (good_is V E L R r right l a each.0 e))
  bad_lines (l ∷ ls) (suc k) each x =
      ap (λ o. onto o (read_lines r ls)) (good_all V E L R r right l x.0.0 x.0.1) ∙ ap (λ q. onto (good x.0.0) q) (bad_lines ls k each.1 x.1)
