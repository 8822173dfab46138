-- What the parts of a line hold is good.
use Rattle.std.proofs.Common.{◌≡◌, refl, sym, ◌∙◌, subst, ℕ, ◌+◌, ◌≤◌, List, [], length, inl, inr, Option, Some, None, IfSome, arith}
use Rattle.bp_value.specs.declared.fault.ShapeFault.{ShapeFault}
use Rattle.bp_value.specs.declared.shape.Shape.{Shape}
use Rattle.bp_value.specs.declared.shape.Shape.TheVariants as shp
use Rattle.bp_value.specs.Form.{Form, form_of, unit}
use Rattle.bp_value.specs.Faults.{IsGood, FirstFault, nodes}
use Rattle.bp_value.proofs.Forms.{form_of-Unit}
use Rattle.bp_value.proofs.FaultSteps.{bare_node}
use Rattle.bp_value.proofs.FirstSteps.{bare_good, not_both}
use Rattle.bp_text_grammar.specs.Texts.{Why}
use Rattle.bp_text_grammar.specs.WholeTexts.{IsShapeFront, IsNoShapeFront}
use Rattle.bp_text_grammar.specs.Scanning.{after_blanks}
use Rattle.bp_text.specs.declared.error.TextError.TheVariants as error
use Rattle.bp_text.specs.TextAnswers.{StandsIn, IsNoneFrom, RefusesFront}
use Rattle.rpc_schema.specs.declared.desc.Kind.{Kind}
use Rattle.rpc_schema.specs.declared.desc.Kind.TheVariants.{Plain, OneWay, Pipe, State}
use Rattle.rpc_schema.specs.declared.desc.RpcDesc.{RpcDesc}
use Rattle.rpc_schema.specs.declared.desc.Entry.{Entry}
use Rattle.rpc_schema.specs.declared.desc.Behaviour.{Behaviour}
use Rattle.rpc_schema.specs.declared.heads.Head.{Head}
use Rattle.rpc_schema.specs.declared.shapes.Shapes.{Shapes}
use Rattle.rpc_schema.specs.Entries.{IsUsedBy, Suits, IsEntry}
use Rattle.rpc_schema.specs.Reading.{IsHeadGood}
use Rattle.rpc_schema.specs.SchemaLines.{ShapeRefused, IsLineHead, AreShapes, desc_of, entry_of, IsTail, IsLineOf}

-- ---- shapes

unit_good : IsGood unit
unfolding IsGood nodes
unit_good = bare_good 1 unit (bare_node 1 unit (omega arith) refl (λ v. v) (λ t. t) (λ r. r) refl refl)

pub good_unit : IsGood (form_of shp.Unit)
good_unit = subst IsGood (sym form_of-Unit) unit_good

pub fault_bad : (f : Form) (x : ShapeFault) → FirstFault f x → IsGood f → ⊥
unfolding IsGood FirstFault
fault_bad f x fault good = not_both (nodes 1 f) x good fault

-- a shape stands in front, and is good
pub stands_front : (s : List ℕ) (shape : Shape) (end : ℕ) → StandsIn s 0 shape end → IsShapeFront s shape end
stands_front s shape end (used, is, front) = subst (λ n. IsShapeFront s shape n) (sym (is ∙ zero_less used)) front
  where
    zero_less : (n : ℕ) → 0 + n ≡ n
    zero_less n = omega arith

pub stands_within : (s : List ℕ) (shape : Shape) (end : ℕ) → StandsIn s 0 shape end → end ≤ length s
stands_within s shape end h = (stands_front s shape end h).place.within

pub none_front : (s : List ℕ) (at : ℕ) (w : Why) → IsNoneFrom s 0 at w → IsNoShapeFront s at w
none_front s at w (k, is, none) = subst (λ n. IsNoShapeFront s n w) (sym (is ∙ zero_less k)) none
  where
    zero_less : (n : ℕ) → 0 + n ≡ n
    zero_less n = omega arith

no_front_within : (s : List ℕ) (at : ℕ) (w : Why) → IsNoShapeFront s at w → at ≤ length s
no_front_within s at w (inl (bad, none)) = omega (arith, bad.place)
no_front_within s at w (inr (is, why, x)) = omega (arith, is)

pub none_within : (s : List ℕ) (at : ℕ) (w : Why) → IsNoneFrom s 0 at w → at ≤ length s
none_within s at w h = no_front_within s at w (none_front s at w h)

pub not_good_refused : (s new : List ℕ) (fault : ShapeFault) → RefusesFront s 0 (error.NotGood fault) → new ≡ after_blanks s → ShapeRefused s new
not_good_refused s new fault (shape, end, stands, first) is =
    inr (shape, end, stands_front s shape end stands, fault_bad (form_of shape) fault first, is)

-- ---- parts of a line

pub head_good : (h : Head) (s u : List ℕ) → IsLineHead h s u → IsHeadGood h
head_good h s u (k, t, p, (n, t1, (run, named), (v, t2, ((m, is, small, spelled), q), (d, t3, sided, known)))) =
    subst IsHeadGood (sym known.0) (record { name = named; version = (m, is, small) })

pub record AreShapesGood (k : Kind) (shapes : Shapes) : Type 0 where
  pub query : IsGood (form_of shapes.query)
  pub first : IsGood (form_of shapes.first)
  pub item : IsGood (form_of shapes.item)
  pub error : IsGood (form_of shapes.error)
  pub used : IsUsedBy k shapes.first shapes.item shapes.error

pub shapes_good : (k : Kind) (shapes : Shapes) (s u : List ℕ) → AreShapes k shapes s u → AreShapesGood k shapes
shapes_good Plain shapes s u (query, t, (i, f, good, c), (first, t1, (m, y, mark, (k, front, fine, e)), known)) =
    subst (AreShapesGood Plain) (sym known.0)
    (record { query = good; first = fine; item = good_unit; error = good_unit; used = (refl, refl) })
shapes_good OneWay shapes s u (query, t, (i, f, good, c), known) =
    subst (AreShapesGood OneWay) (sym known.0)
    (record { query = good; first = good_unit; item = good_unit; error = good_unit; used = (refl, refl, refl) })
shapes_good Pipe shapes s u (query, t, (i, f, good, c), (item, t1, (m, y, mark, (k, front, fine, e)), (error, t2, (n, z, sign, (j, fore, well, g)), known))) =
    subst (AreShapesGood Pipe) (sym known.0)
    (record { query = good; first = good_unit; item = fine; error = well; used = refl })
shapes_good State shapes s u (
  query,
  t,
  (i, f, good, c),
  (
    first,
    t1,
    (m, y, mark, (k, front, fine, e)),
    (
      item,
      t2,
      (n, z, sign, (j, fore, well, g)),
      (error, t3, (o, w, last, (l, before, right, h)), known),
    ),
  ),
) =
    subst (AreShapesGood State) (sym known.0)
    (record { query = good; first = fine; item = well; error = right; used = tt })

pub entry_good : (number : ℕ) (h : Head) (shapes : Shapes) (b : Option Behaviour) → IsHeadGood h → AreShapesGood h.kind shapes
    → IfSome b (Suits (desc_of h shapes)) → IsEntry (entry_of number h shapes b)
entry_good number h shapes b head good suits = record {
  desc = record {
    name = head.name;
    version = head.version;
    query = good.query;
    first = good.first;
    item = good.item;
    error = good.error;
    used = good.used;
  };
  behaviour = suits;
}

-- a line ends with its last part
tail_ends : (d : RpcDesc) (b : Option Behaviour) (s u : List ℕ) → IsTail d b s u → u ≡ []
tail_ends d None s u (none, end) = end
tail_ends d (Some b) s u (a, t, is, (inl (c, t1, act, (e, t2, (none, end), known)))) = known.1 ∙ end
tail_ends d (Some b) s u (a, t, is, (inr (c, t1, const, (v, made, text, end)))) = end

pub line_ends : (n : ℕ) (e : Entry) (s u : List ℕ) → IsLineOf n e s u → u ≡ []
line_ends n e s u (head, t, is, (shapes, t1, are, (b, t2, tail, known))) = known.1 ∙ tail_ends (desc_of head shapes) b t1 t2 tail
