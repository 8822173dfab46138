-- What comes of the members that are left, and of the bracket, comes of all.
use Rattle.std.proofs.Common.{[], ◌∷◌, ◌++◌, map, codes}
use Rattle.bp_value.specs.declared.shape.Shape.TheVariants as shp
use Rattle.bp_text_grammar.specs.Texts.{curly_close, square_close}
use Rattle.bp_text_grammar.specs.PrintedTexts.{shape_text}
use Rattle.bp_text.specs.Printing.{case_text, factors_text, field_text, part_text, poly_text}
use Rattle.bp_text.proofs.Appending.{Leads, rest_of}
use Rattle.bp_text.proofs.printed_shapes.+shapes.Given as goal

abbrev pub invariant-append_factors-loop-place : goal.invariant-append_factors-loop-place
invariant-append_factors-loop-place l =
    Leads (factors_text l.shapes) l.fn.out.items (rest_of (codes " * ") (map part_text l.shapes) l.place ++ []) l.out.items

abbrev pub invariant-append_fields-loop-place : goal.invariant-append_fields-loop-place
invariant-append_fields-loop-place l =
    Leads (shape_text (shp.Fields l.fields)) l.fn.out.items (rest_of (codes "; ") (map field_text l.fields) l.place ++ curly_close ∷ []) l.out.items

abbrev pub invariant-append_sum-loop-place : goal.invariant-append_sum-loop-place
invariant-append_sum-loop-place l =
    Leads (shape_text (shp.Sum l.sum)) l.fn.out.items (rest_of (codes " | ") (map case_text l.sum) l.place ++ square_close ∷ []) l.out.items

abbrev pub invariant-append_poly-loop-place : goal.invariant-append_poly-loop-place
invariant-append_poly-loop-place l =
    Leads (shape_text (shp.Poly l.poly)) l.fn.out.items (rest_of (codes " | ") (map poly_text l.poly) l.place ++ square_close ∷ []) l.out.items
