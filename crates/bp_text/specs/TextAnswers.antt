-- What the calls that read a text of a shape answer.
use Rattle.std.specs.Prelude.{Option, Some, None, ◌≡◌, ℕ, ◌+◌, ◌-◌, ◌≤◌, List, drop, Result, Ok, Err}
use Rattle.bp_value.specs.declared.shape.Shape.{Shape}
use Rattle.bp_value.specs.Form.{form_of}
use Rattle.bp_value.specs.Faults.{FirstFault}
use Rattle.bp_text_grammar.specs.Tokens as grammar
use Rattle.bp_text_grammar.specs.Texts.{Why, BadText, Float}
use Rattle.bp_text_grammar.specs.WholeTexts.{IsTextOf, IsRefusedText, IsShapeText, IsShapeRefused, IsShapeFront, IsNoShapeFront}
use Rattle.bp_text.specs.declared.error.TextError.{TextError}
use Rattle.bp_text.specs.declared.error.TextError.TheVariants as error
use Rattle.bp_text.specs.declared.halt.Halt.{Halt}
use Rattle.bp_text.specs.declared.halt.Halt.TheVariants as halt

-- the value, or no memory
abbrev pub IsGiven : {A : Type 0} → A → Result A TextError → Type 0
IsGiven a (Ok b) = b ≡ a
IsGiven a (Err error.OutOfMemory) = Unit {0}
IsGiven a (Err _) = ⊥

-- the refusal where a reading stops, with so many bytes left of a text of that length
abbrev pub error_of : Halt → ℕ → ℕ → TextError
error_of halt.More len left = error.BadText len
error_of halt.Bad len left = error.BadText (len - left)
error_of halt.Float len left = error.Float (len - left)
error_of halt.OutOfMemory len left = error.OutOfMemory

-- the bytes are a text of the value; or they are refused there, for that reason
abbrev pub IsReadAs : {A : Type 0} → (A → List grammar.Token → Type 0) → (List grammar.Token → grammar.Token → Why → Type 0) → List ℕ
    → Result A TextError → Type 0
IsReadAs L R s (Ok a) = IsTextOf L a s
IsReadAs L R s (Err (error.BadText at)) = IsRefusedText L R s at BadText
IsReadAs L R s (Err (error.Float at)) = IsRefusedText L R s at Float
IsReadAs L R s (Err (error.NotGood fault)) = ⊥
IsReadAs L R s (Err error.OutOfMemory) = Unit {0}

-- why the bytes are no text of a good shape
abbrev pub RefusesShape : List ℕ → TextError → Type 0
RefusesShape s (error.BadText at) = IsShapeRefused s at BadText
RefusesShape s (error.Float at) = IsShapeRefused s at Float
RefusesShape s (error.NotGood fault) = (shape : Shape) × IsShapeText shape s × FirstFault (form_of shape) fault
RefusesShape s error.OutOfMemory = Unit {0}

-- ---- a shape in front of a longer text

-- the shape in front of the bytes, and how many it takes; or where there is none, and why
abbrev pub IsFrontReadAs : List ℕ → Result (Shape × ℕ) TextError → Type 0
IsFrontReadAs s (Ok read) = IsShapeFront s read.0 read.1
IsFrontReadAs s (Err (error.BadText at)) = IsNoShapeFront s at BadText
IsFrontReadAs s (Err (error.Float at)) = IsNoShapeFront s at Float
IsFrontReadAs s (Err (error.NotGood fault)) = ⊥
IsFrontReadAs s (Err error.OutOfMemory) = Unit {0}

-- the shape whose text the bytes are, if they are one
abbrev pub IsShapeIf : List ℕ → Option Shape → Type 0
IsShapeIf s (Some shape) = IsShapeText shape s
IsShapeIf s None = (shape : Shape) → IsShapeText shape s → ⊥

-- the shape that stands in the text from one place to another
abbrev pub StandsIn : List ℕ → ℕ → Shape → ℕ → Type 0
StandsIn s from shape end = (used : ℕ) × (end ≡ from + used) × IsShapeFront (drop from s) shape used

abbrev pub IsNoneFrom : List ℕ → ℕ → ℕ → Why → Type 0
IsNoneFrom s from at w = (k : ℕ) × (at ≡ from + k) × IsNoShapeFront (drop from s) k w

-- why no good shape stands in the text from a place on
abbrev pub RefusesFront : List ℕ → ℕ → TextError → Type 0
RefusesFront s from (error.BadText at) = IsNoneFrom s from at BadText
RefusesFront s from (error.Float at) = IsNoneFrom s from at Float
RefusesFront s from (error.NotGood fault) = (shape : Shape) × (end : ℕ) × StandsIn s from shape end × FirstFault (form_of shape) fault
RefusesFront s from error.OutOfMemory = Unit {0}

-- a place of a part of a text that begins so many bytes on
abbrev pub moved_by : ℕ → TextError → TextError
moved_by from (error.BadText at) = error.BadText (from + at)
moved_by from (error.Float at) = error.Float (from + at)
moved_by from (error.NotGood fault) = error.NotGood fault
moved_by from error.OutOfMemory = error.OutOfMemory

abbrev pub IsPlaceWithin : ℕ → TextError → Type 0
IsPlaceWithin len (error.BadText at) = at ≤ len
IsPlaceWithin len (error.Float at) = at ≤ len
IsPlaceWithin len (error.NotGood fault) = Unit {0}
IsPlaceWithin len error.OutOfMemory = Unit {0}
