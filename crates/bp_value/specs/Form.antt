-- The form of a shape: the shape as a data type of its own, over which definitions recurse.
use Rattle.std.specs.Prelude.{ℕ, List, [], ◌∷◌, map, Option, Some, None}
use Rattle.std.specs.Option.{option_map}
use Rattle.bp_value.specs.declared.shape.Case.{Case}
use Rattle.bp_value.specs.declared.shape.Field.{Field}
use Rattle.bp_value.specs.declared.shape.PolyCase.{PolyCase}
use Rattle.bp_value.specs.declared.shape.Shape.{Shape, fold-Shape}
use Rattle.bp_value.specs.declared.shape.Shape.TheOpen.{Shape-F, Case-F, Field-F, PolyCase-F}
use Rattle.bp_value.specs.declared.shape.Shape.TheOpen as layer

mutual
  pub data Form : Type 0 where
    unit : Form
    bool : Form
    char : Form
    int : Form
    int32 : Form
    int64 : Form
    text : Form
    opt : Form → Form
    listed : Form → Form
    tuple : Parts → Form
    fields : Parts → Form
    sum : Cases → Form
    poly : Cases → Form
    sexp : Form

  -- parts in order, each with its name: the empty one in a tuple and in the arguments of a case
  pub data Parts : Type 0 where
    end : Parts
    part : List ℕ → Form → Parts → Parts

  -- cases in order, each with its name and its arguments: in a polymorphic variant one or none
  pub data Cases : Type 0 where
    end_cases : Cases
    case : List ℕ → Parts → Cases → Cases

abbrev pub named_parts : List (List ℕ × Form) → Parts
named_parts [] = end
named_parts (f ∷ fs) = part f.0 f.1 (named_parts fs)

abbrev pub unnamed : Form → List ℕ × Form
unnamed f = ([], f)

abbrev pub parts : List Form → Parts
parts fs = named_parts (map unnamed fs)

abbrev pub cases : List (List ℕ × Parts) → Cases
cases [] = end_cases
cases (c ∷ cs) = case c.0 c.1 (cases cs)

abbrev pub argument : Option Form → Parts
argument None = end
argument (Some f) = part [] f end

-- one layer of a shape, whose children are forms already
abbrev pub shape_step : Shape-F Form (List ℕ × Parts) (List ℕ × Form) (List ℕ × Parts) → Form
shape_step layer.Unit = unit
shape_step layer.Bool = bool
shape_step layer.Char = char
shape_step layer.Int = int
shape_step layer.Int32 = int32
shape_step layer.Int64 = int64
shape_step layer.Text = text
shape_step (layer.Opt f) = opt f
shape_step (layer.List f) = listed f
shape_step (layer.Tuple fs) = tuple (parts fs)
shape_step (layer.Fields fs) = fields (named_parts fs)
shape_step (layer.Sum cs) = sum (cases cs)
shape_step (layer.Poly cs) = poly (cases cs)
shape_step layer.Sexp = sexp

abbrev pub case_step : Case-F Form (List ℕ × Parts) (List ℕ × Form) (List ℕ × Parts)
    → List ℕ × Parts
case_step c = (c.name, parts c.args)

abbrev pub field_step : Field-F Form (List ℕ × Parts) (List ℕ × Form) (List ℕ × Parts)
    → List ℕ × Form
field_step f = (f.name, f.shape)

abbrev pub poly_step : PolyCase-F Form (List ℕ × Parts) (List ℕ × Form) (List ℕ × Parts)
    → List ℕ × Parts
poly_step c = (c.name, argument c.arg)

-- what definitions see of a shape
unfoldable pub form_of : Shape → Form
form_of s =
    fold-Shape Form (List ℕ × Parts) (List ℕ × Form) (List ℕ × Parts)
    shape_step case_step field_step poly_step s

abbrev pub field_form : Field → List ℕ × Form
field_form f = (f.name, form_of f.shape)

abbrev pub case_form : Case → List ℕ × Parts
case_form c = (c.name, parts (map form_of c.args))

abbrev pub poly_form : PolyCase → List ℕ × Parts
poly_form c = (c.name, argument (option_map form_of c.arg))
