-- What a change of a table at one label leaves at the others.
use Rattle.std.proofs.Common.{◌≡◌, refl, sym, subst, ◌∙◌, ℕ, Bool, true, false, List}
use Rattle.std.specs.Prelude.{Option, cond}
use Rattle.std.specs.BTreeMap.{BTreeMap, UpdatesBy, get_by}
use Rattle.std.specs.Cmp.{eq_by_cmp_equiv}
use Rattle.std.specs.Cmp.Lexicographic.{slice_cmp, nat_list_cmp_total, nat_list_eq_equiv}
use Rattle.std.specs.Global.{Vec}
use Rattle.std.specs.Map.{lookup, update, IsKeyTest, AreApart, KeepsOthers}
use Rattle.std.specs.Ordering.{is_eq, nat_cmp}
use Rattle.std.specs.Str.{bytes_eq}
use Rattle.std.proofs.lemmas.Map.Text.{is_eq-slice_cmp}
use Rattle.std.proofs.lemmas.Slice.Eq.{bytes_eq-Decides}

-- what is equal to a label is not equal to another one
apart : (label other key : List ℕ) → bytes_eq label other ≡ false → is_eq (slice_cmp nat_cmp label key) ≡ true → is_eq (slice_cmp nat_cmp other key) ≡ false
apart label other key differ same =
    let here : bytes_eq label key ≡ true = sym (is_eq-slice_cmp label key) ∙ same in
    is_eq-slice_cmp other key ∙ (nat_list_eq_equiv.symm other key ∙ (sym (nat_list_eq_equiv.congr label key other here) ∙ differ))

module _ {K X : Type 0} (eq : K → K → Bool) (test : K → Bool) where
  others : (old new : List (K × X)) → KeepsOthers eq test old new → (other : K → Bool) → IsKeyTest eq other → AreApart test other → lookup other new ≡ lookup other old
  unfolding KeepsOthers
  others old new keeps = keeps

module _ {X : Type 0} (old new : BTreeMap (Vec ℕ) X) (label : List ℕ) (w : Option X) where
  abbrev at : BTreeMap (Vec ℕ) X → List ℕ → Option X
  at t other = get_by (λ k. slice_cmp nat_cmp other k.items) t

  -- the label has w, and each other one what it had
  pub sets_label : UpdatesBy (λ x y. slice_cmp nat_cmp x.items y.items) (λ k. slice_cmp nat_cmp label k.items) old new w → (other : List ℕ) → at new other ≡ update bytes_eq (at old) label w other
  sets_label updates other = by (bytes_eq label other) refl
    where
      by : (b : Bool) → bytes_eq label other ≡ b → at new other ≡ cond b w (at old other)
      by true same = subst (λ l. at new l ≡ w) ((bytes_eq-Decides label other).0 same) updates.1
      by false differ =
          others _ _ _ _ updates.3 _ (λ x y. (eq_by_cmp_equiv nat_list_cmp_total).congr other x.items y.items) (λ k. apart label other k.items differ)
