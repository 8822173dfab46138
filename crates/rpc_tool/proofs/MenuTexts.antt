-- The word for versions of `menu`, part by part.
use Rattle.std.proofs.Common.{◌≡◌, ℕ, zero, suc, ◌+◌, ◌<◌, ℤ, pos, List, [], ◌∷◌, ◌++◌, length, take, get_or, subst, sym, ap, ◌∙◌, w64, to_z, of_z, arith, Bor}
use Rattle.std.specs.List.{AllZip}
use Rattle.std.proofs.lemmas.Int.{ints}
use Rattle.std.proofs.lemmas.List.{get_or-map, length-map, take_more}
use Rattle.std.proofs.lemmas.Slice.Zip.{all_zipped_more}
use mir.Val.{SFits}
use Rattle.bp_codec.proofs.Ranges.{number_back}
use Rattle.rpc_schema.specs.SchemaLines.{SpellsVersion}
use Rattle.rpc_schema.specs.Reading.{slices}

-- a version has 64 bits
pub version_back : (version : ℤ) (word : List ℕ) → SpellsVersion version word → to_z w64 (of_z w64 version) ≡ version
version_back version word (n, is, small, same) =
    let fits : SFits w64 (pos n) = omega (arith, ints) in
    subst (λ z. to_z w64 (of_z w64 z) ≡ z) (sym is) (number_back (pos n) fits)

-- words of which one is no version are of none
none_at : (words : List (List ℕ)) (i : ℕ) (default : List ℕ) → i < length words
    → ((version : ℤ) → SpellsVersion version (get_or words i default) → ⊥)
    → (own : List ℤ) → AllZip SpellsVersion own words → ⊥
none_at [] i default lt none own all = absurd (omega (arith, lt))
none_at (w ∷ ws) i default lt none [] all = absurd all
none_at (w ∷ ws) zero default lt none (v ∷ own) all = none v all.0
none_at (w ∷ ws) (suc i) default lt none (v ∷ own) all = none_at ws i default (omega (arith, lt)) none own all.1

module _ (parts : List (Bor (List ℕ))) (i : ℕ) (default : Bor (List ℕ)) (lt : i < length parts) where
  within : i < length (slices parts)
  within = omega (arith, length-map parts (λ (part : Bor (List ℕ)). part.now))

  part_is : get_or (slices parts) i default.now ≡ (get_or parts i default).now
  part_is = get_or-map (λ (part : Bor (List ℕ)). part.now) parts i default default.now lt

  pub no_versions : ((version : ℤ) → SpellsVersion version (get_or parts i default).now → ⊥) → (own : List ℤ)
      → AllZip SpellsVersion own (slices parts) → ⊥
  no_versions none =
      none_at (slices parts) i default.now within (λ version is. none version (subst (SpellsVersion version) part_is is))

  pub versions_more : (own : List ℤ) (version : ℤ) → AllZip SpellsVersion own (take i (slices parts))
      → SpellsVersion version (get_or parts i default).now → AllZip SpellsVersion (own ++ version ∷ []) (take (i + 1) (slices parts))
  versions_more own version before is =
      subst (AllZip SpellsVersion (own ++ version ∷ []))
      (sym (take_more (slices parts) i default.now within ∙ ap (λ w. take i (slices parts) ++ w ∷ []) part_is))
      (all_zipped_more SpellsVersion own (take i (slices parts)) version _ before is)
