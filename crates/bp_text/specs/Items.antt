-- What the calls that read the parts of shapes give.
use Rattle.std.specs.Prelude.{◌≡◌, ℕ, Bool, true, false, Option, Some, List, Result, Ok, Err, if◌then◌else◌}
use Rattle.readers.specs.Reader.{Outcome, mapped, run, stop}
use Rattle.bp_value.specs.declared.shape.Shape.{Shape}
use Rattle.bp_text_grammar.specs.Tokens.{Token}
use Rattle.bp_text_grammar.specs.Texts.{Why, BadText, Float, is_mark, when}
use Rattle.bp_text_grammar.specs.ShapeTexts.{most_posts, is_post, posted}
use Rattle.bp_text.specs.declared.halt.Halt.{Halt}
use Rattle.bp_text.specs.declared.halt.Halt.TheVariants as halt
use Rattle.bp_text.specs.Unread.{Unread, ahead, Advances, ReadsFrom}

-- how a reading stops at a token that is at fault
abbrev pub halt_of : Why → Halt
halt_of BadText = halt.Bad
halt_of Float = halt.Float

-- whether the mark after an item closes its list, or goes on with it
abbrev pub closing : ℕ → ℕ → Token → Option Bool
closing sep close t = if is_mark close t then Some true else when (is_mark sep t) false

-- the words `list` and `option` after a base
abbrev pub posted_at : Shape → List Token → Outcome Token Why Shape
posted_at base ts = mapped (λ ws. posted base ws) (run is_post BadText most_posts ts)

-- a reading whose value may be followed by a token of `ends` alone, before that token is looked at
abbrev pub ReadsUpTo : {A : Type 0} → (Token → Bool) → (List Token → Outcome Token Why A) → Unread → Unread → Result A Halt → Type 0
ReadsUpTo ends reads old new (Ok a) = Advances old new × (reads (ahead old) ≡ stop ends BadText a (ahead new))
ReadsUpTo ends reads old new (Err e) = ReadsFrom reads old new (Err e)
