-- The grammar of a line of a schema, and where a line that is none is refused.
use Rattle.std.specs.Prelude.{◌≡◌, ℕ, ◌<◌, ◌-◌, ◌^◌, ℤ, pos, List, [], length, drop, codes, Option, Some, None, ◌⊎◌}
use Rattle.std.specs.Fmt.{decimal}
use Rattle.bp_value.specs.declared.shape.Shape.{Shape}
use Rattle.bp_value.specs.declared.shape.Shape.TheVariants as shp
use Rattle.bp_value.specs.declared.value.Value.{Value}
use Rattle.bp_value.specs.Form.{form_of}
use Rattle.bp_value.specs.Faults.{IsGood}
use Rattle.bp_text_grammar.specs.Scanning.{after_blanks}
use Rattle.bp_text_grammar.specs.Texts.{Why}
use Rattle.bp_text_grammar.specs.WholeTexts.{IsValueText, IsShapeFront, IsNoShapeFront}
use Rattle.rpc_schema.specs.declared.desc.Kind.{Kind}
use Rattle.rpc_schema.specs.declared.desc.Kind.TheVariants.{Plain, OneWay, Pipe, State}
use Rattle.rpc_schema.specs.declared.desc.RpcDesc.{RpcDesc}
use Rattle.rpc_schema.specs.declared.desc.Side.{Side}
use Rattle.rpc_schema.specs.declared.desc.Side.TheVariants.{Both, Caller, Callee}
use Rattle.rpc_schema.specs.declared.desc.Behaviour.{Behaviour}
use Rattle.rpc_schema.specs.declared.desc.Behaviour.TheVariants as act
use Rattle.rpc_schema.specs.declared.desc.Entry.{Entry}
use Rattle.rpc_schema.specs.declared.heads.Head.{Head}
use Rattle.rpc_schema.specs.declared.shapes.Shapes.{Shapes}
use Rattle.rpc_schema.specs.Entries.{is_visible, IsRpcName, Suits}
use Rattle.rpc_schema.specs.LineParts.{Next, NextRefused, Known, Lacks, WordFor, Mark, IsEnded, End, RunOf}

-- ---- what stands before the shapes

abbrev pub kind_word : Kind → List ℕ
kind_word Plain = codes "plain"
kind_word OneWay = codes "oneway"
kind_word Pipe = codes "pipe"
kind_word State = codes "state"

abbrev pub side_word : Side → List ℕ
side_word Both = codes "both"
side_word Caller = codes "caller"
side_word Callee = codes "callee"

abbrev pub IsKind : Kind → List ℕ → List ℕ → Type 0
IsKind kind s u = WordFor (λ k w. w ≡ kind_word k) kind s u

abbrev pub IsSide : Side → List ℕ → List ℕ → Type 0
IsSide side s u = WordFor (λ d w. w ≡ side_word d) side s u

abbrev pub IsNamePart : List ℕ → List ℕ → List ℕ → Type 0
IsNamePart name s u = RunOf is_visible name s u × IsRpcName name

-- a decimal, without sign and without zeros in front
abbrev pub SpellsVersion : ℤ → List ℕ → Type 0
SpellsVersion version w = (n : ℕ) × (version ≡ pos n) × (n < 2 ^ 62) × (w ≡ decimal n)

abbrev pub IsVersionPart : ℤ → List ℕ → List ℕ → Type 0
IsVersionPart version s u = WordFor SpellsVersion version s u

abbrev pub Equals : Unit {0} → List ℕ → List ℕ → Type 0
Equals a s u = Mark (codes "=") a s u

-- SIDE =
abbrev pub IsSided : Side → List ℕ → List ℕ → Type 0
IsSided side s u = Next IsSide (λ d. Next Equals (λ equals. Known d)) side s u

abbrev pub SidedRefused : List ℕ → List ℕ → Type 0
SidedRefused s x = NextRefused IsSide (Lacks IsSide) (λ side. Lacks Equals) s x

-- VERSION SIDE =
abbrev pub IsVersioned : Kind → List ℕ → Head → List ℕ → List ℕ → Type 0
IsVersioned kind name head s u =
    Next IsVersionPart (λ version. Next IsSided (λ side. Known (record { kind = kind; name = name; version = version; side = side }))) head s u

abbrev pub VersionedRefused : List ℕ → List ℕ → Type 0
VersionedRefused s x = NextRefused IsVersionPart (Lacks IsVersionPart) (λ version. SidedRefused) s x

-- NAME VERSION SIDE =
abbrev pub IsNamedHead : Kind → Head → List ℕ → List ℕ → Type 0
IsNamedHead kind head s u = Next IsNamePart (λ name. IsVersioned kind name) head s u

abbrev pub NamedRefused : List ℕ → List ℕ → Type 0
NamedRefused s x = NextRefused IsNamePart (Lacks IsNamePart) (λ name. VersionedRefused) s x

-- KIND NAME VERSION SIDE =
abbrev pub IsLineHead : Head → List ℕ → List ℕ → Type 0
IsLineHead head s u = Next IsKind IsNamedHead head s u

abbrev pub HeadRefused : List ℕ → List ℕ → Type 0
HeadRefused s x = NextRefused IsKind (Lacks IsKind) (λ kind. NamedRefused) s x

-- ---- shapes

-- a good shape: as many tokens as begin some shape
abbrev pub IsShapePart : Shape → List ℕ → List ℕ → Type 0
IsShapePart shape s u = (used : ℕ) × IsShapeFront s shape used × IsGood (form_of shape) × (u ≡ drop used s)

-- the tokens are no shape, and refused at their place; or they are one that is not good, and refused at their first byte
abbrev pub ShapeRefused : List ℕ → List ℕ → Type 0
ShapeRefused s x =
    ((at : ℕ) × (why : Why) × IsNoShapeFront s at why × (x ≡ drop at s))
    ⊎ ((shape : Shape) × (used : ℕ) × IsShapeFront s shape used × (IsGood (form_of shape) → ⊥) × (x ≡ after_blanks s))

-- a mark, and a shape after it
abbrev pub Marked : List ℕ → Shape → List ℕ → List ℕ → Type 0
Marked bytes shape s u = Next (Mark bytes) (λ m. IsShapePart) shape s u

abbrev pub MarkedRefused : List ℕ → List ℕ → List ℕ → Type 0
MarkedRefused bytes s x = NextRefused (Mark bytes) (Lacks (Mark bytes)) (λ m. ShapeRefused) s x

-- -> ANSWER
abbrev pub IsPlainRest : Shape → Shapes → List ℕ → List ℕ → Type 0
IsPlainRest query shapes s u =
    Next (Marked (codes "->")) (λ first. Known (record { query = query; first = first; item = shp.Unit; error = shp.Unit })) shapes s u

-- ITEM ! ERROR, after the mark before the item
abbrev pub AreItems : List ℕ → Shape → Shape → Shapes → List ℕ → List ℕ → Type 0
AreItems bytes query first shapes s u =
    Next (Marked bytes) (λ item. Next (Marked (codes "!"))
    (λ error. Known (record { query = query; first = first; item = item; error = error }))) shapes s u

abbrev pub ItemsRefused : List ℕ → List ℕ → List ℕ → Type 0
ItemsRefused bytes s x = NextRefused (Marked bytes) (MarkedRefused bytes) (λ item. MarkedRefused (codes "!")) s x

-- -> STATE , ITEM ! ERROR
abbrev pub IsStateRest : Shape → Shapes → List ℕ → List ℕ → Type 0
IsStateRest query shapes s u = Next (Marked (codes "->")) (λ first. AreItems (codes ",") query first) shapes s u

abbrev pub StateRestRefused : List ℕ → List ℕ → Type 0
StateRestRefused s x = NextRefused (Marked (codes "->")) (MarkedRefused (codes "->")) (λ first. ItemsRefused (codes ",")) s x

-- plain: QUERY -> ANSWER. oneway: QUERY. pipe: QUERY -> ITEM ! ERROR. state: QUERY -> STATE , ITEM ! ERROR.
abbrev pub AreShapes : Kind → Shapes → List ℕ → List ℕ → Type 0
AreShapes Plain shapes s u = Next IsShapePart IsPlainRest shapes s u
AreShapes OneWay shapes s u =
    Next IsShapePart (λ query. Known (record { query = query; first = shp.Unit; item = shp.Unit; error = shp.Unit })) shapes s u
AreShapes Pipe shapes s u = Next IsShapePart (λ query. AreItems (codes "->") query shp.Unit) shapes s u
AreShapes State shapes s u = Next IsShapePart IsStateRest shapes s u

abbrev pub ShapesRefused : Kind → List ℕ → List ℕ → Type 0
ShapesRefused Plain s x = NextRefused IsShapePart ShapeRefused (λ query. MarkedRefused (codes "->")) s x
ShapesRefused OneWay s x = ShapeRefused s x
ShapesRefused Pipe s x = NextRefused IsShapePart ShapeRefused (λ query. ItemsRefused (codes "->")) s x
ShapesRefused State s x = NextRefused IsShapePart ShapeRefused (λ query. StateRestRefused) s x

-- ---- behaviours

-- the word of a behaviour that has no value
abbrev pub SpellsAct : Behaviour → List ℕ → Type 0
SpellsAct act.Echo w = w ≡ codes "echo"
SpellsAct act.Notes w = w ≡ codes "notes"
SpellsAct act.Note w = w ≡ codes "note"
SpellsAct act.Each w = w ≡ codes "each"
SpellsAct act.Follow w = w ≡ codes "follow"
SpellsAct (act.Const v) w = ⊥

-- such a word, where the behaviour suits
abbrev pub IsAct : RpcDesc → Behaviour → List ℕ → List ℕ → Type 0
IsAct d b s u = WordFor (λ a w. SpellsAct a w × Suits d a) b s u

-- the word `const`, where there is an answer
abbrev pub IsConst : RpcDesc → Unit {0} → List ℕ → List ℕ → Type 0
IsConst d c s u = WordFor (λ a w. (w ≡ codes "const") × (d.kind ≡ Plain)) c s u

-- a value of the answer, to the end of the line
abbrev pub IsConstant : RpcDesc → Behaviour → List ℕ → List ℕ → Type 0
IsConstant d b s u = (v : Value) × (b ≡ act.Const v) × IsValueText (form_of d.first) v s × (u ≡ [])

-- the word `const` and its value
abbrev pub IsConstPart : RpcDesc → Behaviour → List ℕ → List ℕ → Type 0
IsConstPart d b s u = Next (IsConst d) (λ c. IsConstant d) b s u

abbrev pub ConstPartRefused : RpcDesc → List ℕ → List ℕ → Type 0
ConstPartRefused d s x = (c : Unit {0}) × (t : List ℕ) × IsConst d c s t × Lacks (IsConstant d) t x

-- another behaviour, to the end of the line
abbrev pub IsActPart : RpcDesc → Behaviour → List ℕ → List ℕ → Type 0
IsActPart d b s u = Next (IsAct d) (λ a. Next End (λ e. Known a)) b s u

abbrev pub ActPartRefused : RpcDesc → List ℕ → List ℕ → Type 0
ActPartRefused d s x = NextRefused (IsAct d) (Lacks (IsAct d)) (λ a. Lacks End) s x

-- after the word `do`
abbrev pub IsBehaviour : RpcDesc → Behaviour → List ℕ → List ℕ → Type 0
IsBehaviour d b s u = IsActPart d b s u ⊎ IsConstPart d b s u

abbrev pub BehaviourRefused : RpcDesc → List ℕ → List ℕ → Type 0
BehaviourRefused d s x =
    (((c : Unit {0}) (u : List ℕ) → IsConst d c s u → ⊥) × ActPartRefused d s x) ⊎ ConstPartRefused d s x

abbrev pub IsDo : Unit {0} → List ℕ → List ℕ → Type 0
IsDo a s u = WordFor (λ d w. w ≡ codes "do") a s u

abbrev pub IsDoing : RpcDesc → Behaviour → List ℕ → List ℕ → Type 0
IsDoing d b s u = Next IsDo (λ a. IsBehaviour d) b s u

abbrev pub DoingRefused : RpcDesc → List ℕ → List ℕ → Type 0
DoingRefused d s x = NextRefused IsDo (Lacks IsDo) (λ a. BehaviourRefused d) s x

-- nothing, or a behaviour
abbrev pub IsTail : RpcDesc → Option Behaviour → List ℕ → List ℕ → Type 0
IsTail d None s u = IsEnded s u
IsTail d (Some b) s u = IsDoing d b s u

abbrev pub TailRefused : RpcDesc → List ℕ → List ℕ → Type 0
TailRefused d s x = ((u : List ℕ) → IsEnded s u → ⊥) × DoingRefused d s x

-- ---- lines

abbrev pub desc_of : Head → Shapes → RpcDesc
desc_of head shapes = record {
  name = head.name;
  version = head.version;
  kind = head.kind;
  query = shapes.query;
  first = shapes.first;
  item = shapes.item;
  error = shapes.error;
}

abbrev pub entry_of : ℕ → Head → Shapes → Option Behaviour → Entry
entry_of number head shapes behaviour = record { desc = desc_of head shapes; side = head.side; behaviour = behaviour; line = number }

-- what stands after the head
abbrev pub IsDescribed : ℕ → Head → Entry → List ℕ → List ℕ → Type 0
IsDescribed number head entry s u =
    Next (AreShapes head.kind) (λ shapes. Next (IsTail (desc_of head shapes))
    (λ behaviour. Known (entry_of number head shapes behaviour))) entry s u

abbrev pub DescribedRefused : Head → List ℕ → List ℕ → Type 0
DescribedRefused head s x =
    NextRefused (AreShapes head.kind) (ShapesRefused head.kind) (λ shapes. TailRefused (desc_of head shapes)) s x

-- a line of this number
abbrev pub IsLineOf : ℕ → Entry → List ℕ → List ℕ → Type 0
IsLineOf number entry s u = Next IsLineHead (IsDescribed number) entry s u

abbrev pub SchemaLineRefused : List ℕ → List ℕ → Type 0
SchemaLineRefused s x = NextRefused IsLineHead HeadRefused DescribedRefused s x

-- the line is refused at the byte of this place
abbrev pub IsLineRefusedAt : List ℕ → ℕ → Type 0
IsLineRefusedAt s at = (x : List ℕ) × SchemaLineRefused s x × (at ≡ length s - length x)
