-- The shapes of the lines of a generated run's schema.
use Rattle.std.proofs.Common.{◌≡◌, refl, sym, ap, ◌∙◌, subst, ℕ, ◌≤◌, true, false, nat_eq, List, [], ◌∷◌, ◌++◌, length, take, drop, codes, arith}
use Rattle.std.proofs.lemmas.List.Elements.{All-cons}
use Rattle.readers.specs.Reader.{whole}
use Rattle.readers.specs.Reader.{others}
use Rattle.bp_value.specs.declared.shape.Shape.{Shape}
use Rattle.bp_value.specs.declared.shape.Shape.TheVariants as shp
use Rattle.bp_value.specs.Form.{form_of, int, listed, text}
use Rattle.bp_value.specs.Faults.{IsFaultless, IsGood, nodes}
use Rattle.bp_value.proofs.FaultSteps.{bare_node}
use Rattle.bp_value.proofs.FirstSteps.{bare_good}
use Rattle.bp_value.proofs.Forms.{form_of-Int, form_of-List, form_of-Text}
use Rattle.bp_text_grammar.specs.Lexing.{blank}
use Rattle.bp_text_grammar.specs.Scanning.{lex, lex_within, scan}
use Rattle.bp_text_grammar.specs.ShapeFronts.{shape_front_at}
use Rattle.bp_text_grammar.specs.ShapeTexts.{base_at, shape_at}
use Rattle.bp_text_grammar.specs.Tokens.{Token, Word, Mark, Wrong}
use Rattle.bp_text_grammar.specs.WholeTexts.{kinds}
use Rattle.bp_text_grammar.proofs.Exact.{lexes_some}
use Rattle.bp_text_grammar.proofs.LongestFronts.{shape_front_good}
use Rattle.bp_text_grammar.proofs.WholeReads.{same_cut}
use Rattle.rpc_schema.specs.SchemaLines.{IsShapePart}
use Rattle.rpc_schema.proofs.GoodLines.{good_unit}
use Rattle.rpc_schedule.proofs.EventLaws.{good_text}

-- ---- good shapes

int_good : IsGood int
unfolding IsGood nodes
int_good = bare_good 1 int (bare_node 1 int (omega arith) refl (λ v. v) (λ t. t) (λ r. r) refl refl)

pub good_int : IsGood (form_of shp.Int)
good_int = subst IsGood (sym form_of-Int) int_good

ints_good : IsGood (listed int)
unfolding IsGood nodes
ints_good =
    All-cons IsFaultless (1, listed int) ((2, int) ∷ []) (bare_node 1 (listed int) (omega arith) refl (λ v. v) (λ t. t) (λ r. r) refl refl)
    (bare_good 2 int (bare_node 2 int (omega arith) refl (λ v. v) (λ t. t) (λ r. r) refl refl))

pub good_ints : IsGood (form_of (shp.List shp.Int))
good_ints = subst IsGood (sym (form_of-List shp.Int ∙ ap listed form_of-Int)) ints_good

texts_good : IsGood (listed text)
unfolding IsGood nodes
texts_good =
    All-cons IsFaultless (1, listed text) ((2, text) ∷ []) (bare_node 1 (listed text) (omega arith) refl (λ v. v) (λ t. t) (λ r. r) refl refl)
    (bare_good 2 text (bare_node 2 text (omega arith) refl (λ v. v) (λ t. t) (λ r. r) refl refl))

pub good_texts : IsGood (form_of (shp.List shp.Text))
good_texts = subst IsGood (sym (form_of-List shp.Text ∙ ap listed form_of-Text)) texts_good

-- ---- a shape in front of a line's rest

abbrev pub final : ℕ → List ℕ → ℕ
final b [] = b
final b (c ∷ s) = final c s

final_push : (b c : ℕ) (s : List ℕ) → final b (s ++ c ∷ []) ≡ c
final_push b c [] = refl
final_push b c (d ∷ s) = final_push d c s

-- its tokens are taken, and they end with its last byte
shape_part : (s : List ℕ) (shape : Shape) (used : ℕ) (taken left : List Token)
    → kinds (lex s) ≡ taken ++ left → shape_front_at (taken ++ left) ≡ whole shape left → kinds (lex (take used s)) ≡ taken
    → used ≤ length s → nat_eq (final 0 (take used s)) blank ≡ false → IsGood (form_of shape) → IsShapePart shape s (drop used s)
shape_part s shape used taken left all front just within last good =
    let (t, longest, spelled) = shape_front_good (kinds (lex s)) left shape (ap shape_front_at all ∙ front) in
    let same : t ≡ taken = (same_cut t taken left left (sym longest.cut ∙ all) refl).0 in (
      used,
      record {
        all = lex s;
        lexed = lexes_some s;
        taken = t;
        left = left;
        longest = longest;
        spelled = spelled;
        place = record {
          within = within;
          tokens = lex (take used s);
          lexed = lexes_some (take used s);
          just = just ∙ sym same;
          last = λ u is. let ends : nat_eq (final 0 (take used s)) blank ≡ true = ap (λ b. nat_eq b blank) (ap (final 0) is ∙ final_push 0 blank u) in cc;
        };
      },
      good,
      refl,
    )

-- `string`, before an arrow
pub string_arrow : IsShapePart shp.Text (codes " string -> string") (codes " -> string")
unfolding lex_within scan shape_front_at shape_at base_at others
string_arrow =
    shape_part (codes " string -> string") shp.Text 7 (Word (codes "string") ∷ []) (Wrong ∷ []) refl refl refl (omega arith) refl good_text

-- `string`, at the end
pub string_last : IsShapePart shp.Text (codes " string") []
unfolding lex_within scan shape_front_at shape_at base_at others
string_last = shape_part (codes " string") shp.Text 7 (Word (codes "string") ∷ []) [] refl refl refl (omega arith) refl good_text

-- `unit`, at the end
pub unit_last : IsShapePart shp.Unit (codes " unit") []
unfolding lex_within scan shape_front_at shape_at base_at others
unit_last = shape_part (codes " unit") shp.Unit 5 (Word (codes "unit") ∷ []) [] refl refl refl (omega arith) refl good_unit

-- `int list`, before an arrow
pub ints_arrow : IsShapePart (shp.List shp.Int) (codes " int list -> int ! unit") (codes " -> int ! unit")
unfolding lex_within scan shape_front_at shape_at base_at others
ints_arrow =
    shape_part (codes " int list -> int ! unit") (shp.List shp.Int) 9 (Word (codes "int") ∷ Word (codes "list") ∷ []) (Wrong ∷ [])
    refl refl refl (omega arith) refl good_ints

-- `int`, before the shape of an error
pub int_error : IsShapePart shp.Int (codes " int ! unit") (codes " ! unit")
unfolding lex_within scan shape_front_at shape_at base_at others
int_error =
    shape_part (codes " int ! unit") shp.Int 4 (Word (codes "int") ∷ []) (Mark 33 ∷ Word (codes "unit") ∷ []) refl refl refl (omega arith) refl good_int

-- `unit`, before an arrow
pub unit_arrow : IsShapePart shp.Unit (codes " unit -> string list, string ! unit") (codes " -> string list, string ! unit")
unfolding lex_within scan shape_front_at shape_at base_at others
unit_arrow =
    shape_part (codes " unit -> string list, string ! unit") shp.Unit 5 (Word (codes "unit") ∷ []) (Wrong ∷ []) refl refl refl (omega arith) refl good_unit

-- `string list`, before the shape of an item
pub strings_item : IsShapePart (shp.List shp.Text) (codes " string list, string ! unit") (codes ", string ! unit")
unfolding lex_within scan shape_front_at shape_at base_at others
strings_item =
    shape_part (codes " string list, string ! unit") (shp.List shp.Text) 12 (Word (codes "string") ∷ Word (codes "list") ∷ [])
    (Mark 44 ∷ Word (codes "string") ∷ Mark 33 ∷ Word (codes "unit") ∷ []) refl refl refl (omega arith) refl good_texts

-- `string`, before the shape of an error
pub string_error : IsShapePart shp.Text (codes " string ! unit") (codes " ! unit")
unfolding lex_within scan shape_front_at shape_at base_at others
string_error =
    shape_part (codes " string ! unit") shp.Text 7 (Word (codes "string") ∷ []) (Mark 33 ∷ Word (codes "unit") ∷ []) refl refl refl (omega arith) refl good_text
