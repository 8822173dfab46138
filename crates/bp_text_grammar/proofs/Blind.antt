-- A reader that differs from a right one in its reasons alone is right, whatever the reasons.
use Rattle.std.proofs.Common.{◌≡◌, refl, sym, ap, ◌∙◌, ℕ, List, ◌++◌}
use Rattle.readers.specs.Reader.{Outcome, whole, more, bad, Right, Plain}

-- an outcome without its reason
abbrev pub blind : {S W A : Type 0} → Outcome S W A → Outcome S (Unit {0}) A
blind (whole a u) = whole a u
blind more = more
blind (bad n w) = bad n tt

module _ {S W A : Type 0} where
  blind_whole : (o : Outcome S W A) (a : A) (u : List S) → blind o ≡ whole a u → o ≡ whole a u
  blind_whole (whole b v) a u e = let ab : b ≡ a = cc in let uv : v ≡ u = cc in cc
  blind_whole more a u e = absurd cc
  blind_whole (bad n w) a u e = absurd cc

  blind_more : (o : Outcome S W A) → blind o ≡ more → o ≡ more
  blind_more (whole b v) e = absurd cc
  blind_more more e = refl
  blind_more (bad n w) e = absurd cc

  blind_bad : (o : Outcome S W A) (n : ℕ) → blind o ≡ bad n tt → (w : W) × (o ≡ bad n w)
  blind_bad (whole b v) n e = absurd cc
  blind_bad more n e = absurd cc
  blind_bad (bad k w) n e = let same : k ≡ n = cc in (w, ap (λ j. bad j w) same)

pub right_blind : {S W A : Type 0} (V E : S → Type 0) (L : A → List S → Type 0) (r q : List S → Outcome S W A)
    → ((s : List S) → blind (q s) ≡ blind (r s)) → Right V E L Plain r → Right V E L Plain q
right_blind V E L r q same right = record {
  sound = λ s a u vs h. right.sound s a u vs (blind_whole (r s) a u (sym (same s) ∙ ap blind h));
  complete = λ a t u l f. blind_whole (q (t ++ u)) a u (same (t ++ u) ∙ ap blind (right.complete a t u l f));
  goes_on = λ s vs h. right.goes_on s vs (blind_more (r s) (sym (same s) ∙ ap blind h));
  faults = λ s n w vs h. let (x, e) = blind_bad (r s) n (sym (same s) ∙ ap blind h) in right.faults s n x vs e;
}
