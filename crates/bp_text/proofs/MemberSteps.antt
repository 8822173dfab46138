-- The readers of members and of what stands in brackets, from one of their tokens on.
use Rattle.std.proofs.Common.{ℕ, Option, List}
use Rattle.readers.specs.Reader.{after, mapped, one, maybe, branch}
use Rattle.bp_value.specs.declared.shape.Shape.{Shape}
use Rattle.bp_value.specs.declared.shape.Shape.TheVariants as shp
use Rattle.bp_value.specs.declared.shape.Field.{Field}
use Rattle.bp_value.specs.declared.shape.Case.{Case}
use Rattle.bp_value.specs.declared.shape.PolyCase.{PolyCase}
use Rattle.bp_text_grammar.specs.Texts.{BadText, round_close, colon, semicolon, square_close, backtick, bar, curly_close, is_mark, mark_at}
use Rattle.bp_text_grammar.specs.ShapeTexts.{name_of, is_of, ends_case, no_arguments, factors_at, product_at, field_at, sum_case_at, poly_case_at, some_at}
use Rattle.bp_text.specs.Leaves.{TokenReader}

module _ (r : TokenReader Shape) where
  -- a field, from the colon on, and from its name on
  abbrev pub with_shape : List ℕ → Shape → Field
  with_shape name shape = record { name = name; shape = shape }

  abbrev pub field_shape : List ℕ → TokenReader Field
  field_shape name s = mapped (with_shape name) (product_at r s)

  abbrev pub colon_next : List ℕ → TokenReader Field
  colon_next name s = after (mark_at colon s) (λ u. field_shape name)

  -- a case, from its name on
  abbrev pub with_args : List ℕ → Option (List Shape) → Case
  with_args name args = record { name = name; args = no_arguments args }

  abbrev pub case_args : List ℕ → TokenReader Case
  case_args name s = mapped (with_args name) (maybe is_of ends_case BadText (factors_at r) s)

  -- a case with a backtick, from that on, and from its name on
  abbrev pub with_arg : List ℕ → Option Shape → PolyCase
  with_arg name arg = record { name = name; arg = arg }

  abbrev pub poly_arg : List ℕ → TokenReader PolyCase
  poly_arg name s = mapped (with_arg name) (maybe is_of ends_case BadText (product_at r) s)

  abbrev pub poly_name : Unit {0} → TokenReader PolyCase
  poly_name u s = after (one name_of BadText s) poly_arg

  -- in brackets
  abbrev pub round_end : Shape → TokenReader Shape
  round_end shape s = mapped (λ u. shape) (mark_at round_close s)

  abbrev pub in_round : Unit {0} → TokenReader Shape
  in_round u s = after (product_at r s) round_end

  abbrev pub in_curly : Unit {0} → TokenReader Shape
  in_curly u s = mapped shp.Fields (some_at semicolon curly_close (field_at r) s)

  abbrev pub in_polys : TokenReader Shape
  in_polys s = mapped shp.Poly (some_at bar square_close (poly_case_at r) s)

  abbrev pub in_sums : TokenReader Shape
  in_sums s = mapped shp.Sum (some_at bar square_close (sum_case_at r) s)

  abbrev pub in_square : Unit {0} → TokenReader Shape
  in_square u s = branch (is_mark backtick) in_polys in_sums s
