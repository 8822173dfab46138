-- A line of a schema is that of one entry, and no such line is refused.
use Rattle.std.proofs.Common.{◌≡◌, refl, sym, ap, ◌∙◌, subst, ℕ, ℤ, pos, List, [], drop, cond, codes, inl, inr, Option, Some, None, arith}
use Rattle.std.specs.Str.{bytes_eq}
use Rattle.std.proofs.lemmas.Fmt.{decimal_injective}
use Rattle.bp_value.specs.declared.shape.Shape.{Shape}
use Rattle.bp_value.specs.declared.shape.Shape.TheVariants as shp
use Rattle.bp_value.specs.Form.{form_of}
use Rattle.bp_value.specs.Faults.{IsGood}
use Rattle.bp_text_grammar.specs.Lexing.{in_name}
use Rattle.bp_text_grammar.specs.Scanning.{span, after_blanks}
use Rattle.bp_text_grammar.proofs.PrintedLaws.{value_text_once}
use Rattle.bp_text.proofs.FrontOnce.{front_once, front_none_there}
use Rattle.rpc_schema.specs.declared.desc.Kind.{Kind}
use Rattle.rpc_schema.specs.declared.desc.Kind.TheVariants.{Plain, OneWay, Pipe, State}
use Rattle.rpc_schema.specs.declared.desc.RpcDesc.{RpcDesc}
use Rattle.rpc_schema.specs.declared.desc.Side.{Side}
use Rattle.rpc_schema.specs.declared.desc.Side.TheVariants.{Both, Caller, Callee}
use Rattle.rpc_schema.specs.declared.desc.Behaviour.{Behaviour}
use Rattle.rpc_schema.specs.declared.desc.Behaviour.TheVariants as act
use Rattle.rpc_schema.specs.declared.heads.Head.{Head}
use Rattle.rpc_schema.specs.declared.shapes.Shapes.{Shapes}
use Rattle.rpc_schema.specs.LineParts.{Next, NextRefused, Known, Lacks, front_word, Mark, End}
use Rattle.rpc_schema.specs.SchemaLines.{kind_word, side_word, IsKind, IsSide, IsNamePart, SpellsVersion, IsVersionPart, Equals, IsSided, SidedRefused, IsVersioned, VersionedRefused, IsNamedHead, NamedRefused, IsLineHead, HeadRefused, IsShapePart, ShapeRefused, Marked, MarkedRefused, AreItems, ItemsRefused, IsPlainRest, IsStateRest, StateRestRefused, AreShapes, ShapesRefused, SpellsAct, IsAct, IsConst, IsConstant, IsBehaviour, BehaviourRefused, IsDo, IsTail, TailRefused, desc_of, entry_of, IsDescribed, DescribedRefused, IsLineOf, SchemaLineRefused}
use Rattle.rpc_schema.proofs.PartLaws.{IsSure, sure_next, sure_last, sure_lacks, sure_word, sure_mark, sure_end}

-- ---- words

pub some_is : {A : Type 0} (a b : A) → Some a ≡ Some b → a ≡ b
some_is a b e = cc

-- what a word stands for is read back from it
module _ {A : Type 0} (spell : A → List ℕ) (back : List ℕ → Option A) (is : (a : A) → back (spell a) ≡ Some a) where
  pub one_spelled : (a b : A) (w : List ℕ) → w ≡ spell a → w ≡ spell b → a ≡ b
  one_spelled a b w x y = some_is a b (sym (is a) ∙ (ap back (sym x ∙ y) ∙ is b))

abbrev kind_back : List ℕ → Option Kind
kind_back w =
    cond (bytes_eq w (codes "plain")) (Some Plain) (cond (bytes_eq w (codes "oneway")) (Some OneWay)
    (cond (bytes_eq w (codes "pipe")) (Some Pipe) (cond (bytes_eq w (codes "state")) (Some State) None)))

kind_is : (k : Kind) → kind_back (kind_word k) ≡ Some k
kind_is Plain = refl
kind_is OneWay = refl
kind_is Pipe = refl
kind_is State = refl

abbrev side_back : List ℕ → Option Side
side_back w =
    cond (bytes_eq w (codes "both")) (Some Both) (cond (bytes_eq w (codes "caller")) (Some Caller)
    (cond (bytes_eq w (codes "callee")) (Some Callee) None))

side_is : (d : Side) → side_back (side_word d) ≡ Some d
side_is Both = refl
side_is Caller = refl
side_is Callee = refl

abbrev act_back : List ℕ → Option Behaviour
act_back w =
    cond (bytes_eq w (codes "echo")) (Some act.Echo) (cond (bytes_eq w (codes "notes")) (Some act.Notes)
    (cond (bytes_eq w (codes "note")) (Some act.Note) (cond (bytes_eq w (codes "each")) (Some act.Each)
    (cond (bytes_eq w (codes "follow")) (Some act.Follow) None))))

act_is : (a : Behaviour) (w : List ℕ) → SpellsAct a w → act_back w ≡ Some a
act_is act.Echo w e = ap act_back e
act_is act.Notes w e = ap act_back e
act_is act.Note w e = ap act_back e
act_is act.Each w e = ap act_back e
act_is act.Follow w e = ap act_back e
act_is (act.Const v) w e = absurd e

one_act : (a b : Behaviour) (w : List ℕ) → SpellsAct a w → SpellsAct b w → a ≡ b
one_act a b w x y = some_is a b (sym (act_is a w x) ∙ act_is b w y)

one_version : (a b : ℤ) (w : List ℕ) → SpellsVersion a w → SpellsVersion b w → a ≡ b
one_version a b w (n, is, small, spelled) (m, as_, little, told) =
    is ∙ (ap pos (decimal_injective n m (omega arith) (omega arith) (sym spelled ∙ told)) ∙ sym as_)

-- ---- the head

sure_kind : IsSure IsKind (Lacks IsKind)
sure_kind = sure_word (λ k w. w ≡ kind_word k) (one_spelled kind_word kind_back kind_is)

sure_side : IsSure IsSide (Lacks IsSide)
sure_side = sure_word (λ d w. w ≡ side_word d) (one_spelled side_word side_back side_is)

pub sure_version : IsSure IsVersionPart (Lacks IsVersionPart)
sure_version = sure_word SpellsVersion one_version

pub sure_name : IsSure IsNamePart (Lacks IsNamePart)
sure_name = sure_lacks IsNamePart (λ a b s u v x y.
    (ap (λ (p : List ℕ × List ℕ). p.0) (sym x.0.1 ∙ y.0.1), ap (λ (p : List ℕ × List ℕ). p.1) (sym x.0.1 ∙ y.0.1)))

sure_sided : IsSure IsSided SidedRefused
sure_sided =
    sure_next IsSide (Lacks IsSide) (λ side. Next Equals (λ equals. Known side)) (λ side. Lacks Equals) sure_side
    (λ side s u p. sure_last Equals (Lacks Equals) (λ equals. side) (sure_mark (codes "=")))

sure_versioned : (kind : Kind) (name : List ℕ) → IsSure (IsVersioned kind name) VersionedRefused
sure_versioned kind name =
    sure_next IsVersionPart (Lacks IsVersionPart)
    (λ version. Next IsSided (λ side. Known (record { kind = kind; name = name; version = version; side = side }))) (λ version. SidedRefused) sure_version
    (λ version s u p. sure_last IsSided SidedRefused (λ side. record { kind = kind; name = name; version = version; side = side }) sure_sided)

sure_named : (kind : Kind) → IsSure (IsNamedHead kind) NamedRefused
sure_named kind =
    sure_next IsNamePart (Lacks IsNamePart) (λ name. IsVersioned kind name) (λ name. VersionedRefused) sure_name (λ name s u p. sure_versioned kind name)

sure_head : IsSure IsLineHead HeadRefused
sure_head = sure_next IsKind (Lacks IsKind) IsNamedHead (λ kind. NamedRefused) sure_kind (λ kind s u p. sure_named kind)

-- ---- shapes

pub sure_shape : IsSure IsShapePart ShapeRefused
sure_shape = record { once = once; apart = apart } where
  once : (a b : Shape) (s u v : List ℕ) → IsShapePart a s u → IsShapePart b s v → (a ≡ b) × (u ≡ v)
  once a b s u v (j, x, g, e) (k, y, h, f) =
      let (same, len) = front_once s a b j k x y in (same, e ∙ (ap (λ n. drop n s) len ∙ sym f))

  apart : (a : Shape) (s u x : List ℕ) → IsShapePart a s u → ShapeRefused s x → ⊥
  apart a s u x (j, front, good, e) (inl (k, why, none, f)) = front_none_there s a j k why front none
  apart a s u x (j, front, good, e) (inr (b, k, other, bad, f)) =
      let (same, len) = front_once s a b j k front other in bad (subst (λ z. IsGood (form_of z)) same good)

sure_marked : (bytes : List ℕ) → IsSure (Marked bytes) (MarkedRefused bytes)
sure_marked bytes = sure_next (Mark bytes) (Lacks (Mark bytes)) (λ m. IsShapePart) (λ m. ShapeRefused) (sure_mark bytes) (λ m s u p. sure_shape)

sure_items : (bytes : List ℕ) (query first : Shape) → IsSure (AreItems bytes query first) (ItemsRefused bytes)
sure_items bytes query first =
    sure_next (Marked bytes) (MarkedRefused bytes)
    (λ item. Next (Marked (codes "!")) (λ error. Known (record { query = query; first = first; item = item; error = error })))
    (λ item. MarkedRefused (codes "!")) (sure_marked bytes) (λ item s u p.
    sure_last (Marked (codes "!")) (MarkedRefused (codes "!"))
    (λ error. record { query = query; first = first; item = item; error = error }) (sure_marked (codes "!")))

sure_state : (query : Shape) → IsSure (IsStateRest query) StateRestRefused
sure_state query =
    sure_next (Marked (codes "->")) (MarkedRefused (codes "->")) (λ first. AreItems (codes ",") query first) (λ first. ItemsRefused (codes ","))
    (sure_marked (codes "->")) (λ first s u p. sure_items (codes ",") query first)

pub sure_shapes : (k : Kind) → IsSure (AreShapes k) (ShapesRefused k)
sure_shapes Plain =
    sure_next IsShapePart ShapeRefused IsPlainRest (λ query. MarkedRefused (codes "->")) sure_shape (λ query s u p.
    sure_last (Marked (codes "->")) (MarkedRefused (codes "->"))
    (λ first. record { query = query; first = first; item = shp.Unit; error = shp.Unit }) (sure_marked (codes "->")))
sure_shapes OneWay =
    sure_last IsShapePart ShapeRefused (λ query. record { query = query; first = shp.Unit; item = shp.Unit; error = shp.Unit }) sure_shape
sure_shapes Pipe =
    sure_next IsShapePart ShapeRefused (λ query. AreItems (codes "->") query shp.Unit) (λ query. ItemsRefused (codes "->")) sure_shape
    (λ query s u p. sure_items (codes "->") query shp.Unit)
sure_shapes State =
    sure_next IsShapePart ShapeRefused IsStateRest (λ query. StateRestRefused) sure_shape (λ query s u p. sure_state query)

-- a plain answer is good
plain_good : (shapes : Shapes) (s u : List ℕ) → AreShapes Plain shapes s u → IsGood (form_of shapes.first)
plain_good shapes s u (query, t, is, (first, w, (m, y, mark, (k, front, good, e)), known)) =
    subst (λ z. IsGood (form_of z.first)) (sym known.0) good

-- ---- behaviours

sure_do : IsSure IsDo (Lacks IsDo)
sure_do = sure_word (λ d w. w ≡ codes "do") (λ a b w x y. refl)

sure_act : (d : RpcDesc) → IsSure (IsAct d) (Lacks (IsAct d))
sure_act d = sure_lacks (IsAct d) (λ a b s u v x y. (one_act a b (front_word s) x.0.0 y.0.0, x.1 ∙ sym y.1))

sure_const : (d : RpcDesc) → IsSure (IsConst d) (Lacks (IsConst d))
sure_const d = sure_lacks (IsConst d) (λ a b s u v x y. (refl, x.1 ∙ sym y.1))

sure_constant : (d : RpcDesc) → IsGood (form_of d.first) → IsSure (IsConstant d) (Lacks (IsConstant d))
sure_constant d good = sure_lacks (IsConstant d) once where
  once : (a b : Behaviour) (s u v : List ℕ) → IsConstant d a s u → IsConstant d b s v → (a ≡ b) × (u ≡ v)
  once a b s u v (x, is, text, e) (y, as_, other, f) =
      (is ∙ (ap act.Const (value_text_once (form_of d.first) x y s good text other) ∙ sym as_), e ∙ sym f)

const_no_act : (a : Behaviour) (w : List ℕ) → SpellsAct a w → w ≡ codes "const" → ⊥
const_no_act a w spells is = some_there a (sym (act_is a w spells) ∙ ap act_back is) where
  some_there : (b : Behaviour) → Some b ≡ None → ⊥
  some_there b e = absurd cc

sure_acts : (d : RpcDesc) → IsSure (Next (IsAct d) (λ a. Next End (λ e. Known a))) (NextRefused (IsAct d) (Lacks (IsAct d)) (λ a. Lacks End))
sure_acts d = sure_next (IsAct d) (Lacks (IsAct d)) _ _ (sure_act d) (λ a s u p. sure_last End (Lacks End) (λ e. a) sure_end)

sure_behaviour : (d : RpcDesc) → (d.kind ≡ Plain → IsGood (form_of d.first)) → IsSure (IsBehaviour d) (BehaviourRefused d)
sure_behaviour d good = record { once = once; apart = apart } where
  consts : d.kind ≡ Plain → IsSure (Next (IsConst d) (λ c. IsConstant d)) (NextRefused (IsConst d) (Lacks (IsConst d)) (λ c. Lacks (IsConstant d)))
  consts plain =
      sure_next (IsConst d) (Lacks (IsConst d)) (λ c. IsConstant d) (λ c. Lacks (IsConstant d)) (sure_const d) (λ c s u p. sure_constant d (good plain))

  once : (a b : Behaviour) (s u v : List ℕ) → IsBehaviour d a s u → IsBehaviour d b s v → (a ≡ b) × (u ≡ v)
  once a b s u v (inl x) (inl y) = (sure_acts d).once a b s u v x y
  once a b s u v (inr x) (inr y) = (consts x.2.0.1).once a b s u v x y
  once a b s u v (inl x) (inr y) = absurd (const_no_act x.0 (front_word s) x.2.0.0 y.2.0.0)
  once a b s u v (inr x) (inl y) = absurd (const_no_act y.0 (front_word s) y.2.0.0 x.2.0.0)

  apart : (a : Behaviour) (s u x : List ℕ) → IsBehaviour d a s u → BehaviourRefused d s x → ⊥
  apart a s u x (inl is) (inl (none, fails)) = (sure_acts d).apart a s u x is fails
  apart a s u x (inr is) (inl (none, fails)) = none is.0 is.1 is.2
  apart a s u x (inl is) (inr (c, t, at, fails)) = const_no_act is.0 (front_word s) is.2.0.0 at.0.0
  apart a s u x (inr is) (inr (c, t, at, fails)) = (consts at.0.1).apart a s u x is (inr (c, t, at, fails))

-- where nothing is left no word stands
pub no_word : (s : List ℕ) → after_blanks s ≡ [] → front_word s ≡ []
no_word s e = ap (λ r. (span in_name r).0) e

sure_tail : (d : RpcDesc) → (d.kind ≡ Plain → IsGood (form_of d.first)) → IsSure (IsTail d) (TailRefused d)
sure_tail d good = record { once = once; apart = apart } where
  after : IsSure (Next IsDo (λ a. IsBehaviour d)) (NextRefused IsDo (Lacks IsDo) (λ a. BehaviourRefused d))
  after = sure_next IsDo (Lacks IsDo) (λ a. IsBehaviour d) (λ a. BehaviourRefused d) sure_do (λ a s u p. sure_behaviour d good)

  not_both : (s : List ℕ) → after_blanks s ≡ [] → front_word s ≡ codes "do" → ⊥
  not_both s none is = let e : [] ≡ codes "do" = sym (no_word s none) ∙ is in absurd cc

  once : (a b : Option Behaviour) (s u v : List ℕ) → IsTail d a s u → IsTail d b s v → (a ≡ b) × (u ≡ v)
  once None None s u v x y = (refl, x.1 ∙ sym y.1)
  once (Some a) (Some b) s u v x y = let (e, f) = after.once a b s u v x y in (ap Some e, f)
  once None (Some b) s u v x y = absurd (not_both s x.0 y.2.0)
  once (Some a) None s u v x y = absurd (not_both s y.0 x.2.0)

  apart : (a : Option Behaviour) (s u x : List ℕ) → IsTail d a s u → TailRefused d s x → ⊥
  apart None s u x is fails = fails.0 u is
  apart (Some a) s u x is fails = after.apart a s u x is fails.1

-- ---- lines

pub sure_line : (n : ℕ) → IsSure (IsLineOf n) SchemaLineRefused
sure_line n = sure_next IsLineHead HeadRefused (IsDescribed n) DescribedRefused sure_head (λ head s u p. described head)
  where
    described : (head : Head) → IsSure (IsDescribed n head) (DescribedRefused head)
    described head =
        sure_next (AreShapes head.kind) (ShapesRefused head.kind)
        (λ shapes. Next (IsTail (desc_of head shapes)) (λ behaviour. Known (entry_of n head shapes behaviour)))
        (λ shapes. TailRefused (desc_of head shapes)) (sure_shapes head.kind) (λ shapes s u q.
        sure_last (IsTail (desc_of head shapes)) (TailRefused (desc_of head shapes)) (entry_of n head shapes)
        (sure_tail (desc_of head shapes) (λ plain. plain_good shapes s u (subst (λ k. AreShapes k shapes s u) plain q))))
