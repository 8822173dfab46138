-- What stands inside a good shape is good.
use Rattle.std.proofs.Common.{◌≡◌, ap, ◌∙◌, subst, ℕ, ◌<◌, List, [], length, map, get_or, Option, Some, None}
use Rattle.std.specs.Option.{option_map}
use Rattle.std.proofs.lemmas.Option.{slice_get-map}
use Rattle.bp_value.specs.declared.shape.Shape.{Shape}
use Rattle.bp_value.specs.Form.{form_of, parts, argument, unnamed}
use Rattle.bp_value.specs.Faults.{part_nodes}
use Rattle.bp_value.proofs.Good.{AreGood, good_part, good_part_at}
use Rattle.bp_text.specs.Printing.{IsGoodInside, AreGoodInside}
use Rattle.bp_text.proofs.Appending.{mapped_at}

pub item_good : (ss : List Shape) (i : ℕ) (s : Shape) → i < length ss → s ≡ get_or ss i s → AreGoodInside (parts (map form_of ss)) → IsGoodInside (form_of s)
item_good ss i s lt is good = (
  good.0,
  good_part_at good.0 i (map unnamed (map form_of ss)) ([], form_of s)
      (slice_get-map unnamed (map form_of ss) i ∙ ap (option_map unnamed) (mapped_at form_of ss i s lt is)) good.1,
)

pub argument_good : (a : Option Shape) (s : Shape) → a ≡ Some s → AreGoodInside (argument (option_map form_of a)) → IsGoodInside (form_of s)
argument_good a s is good =
    (good.0, (good_part good.0 [] (form_of s) (argument None) (subst (λ x. AreGood (part_nodes good.0 (argument (option_map form_of x)))) is good.1)).0)
