-- What a reading from a cursor before all tokens of a text says of the text.
use Rattle.std.proofs.Common.{◌≡◌, refl, sym, ◌∙◌, Bool, true, false, ℕ, ◌-◌, List, [], ◌∷◌, ◌++◌, length, Ok, Err, inl, arith}
use Rattle.readers.specs.Reader.{bad, Any, Never, Ended, Right}
use Rattle.readers.proofs.Readers.{each-any}
use Rattle.bp_text_grammar.specs.Tokens.{Token}
use Rattle.bp_text_grammar.specs.Lexing.{Stamped}
use Rattle.bp_text_grammar.specs.Scanning.{lex}
use Rattle.bp_text_grammar.specs.Texts.{Why, BadText, Float}
use Rattle.bp_text_grammar.specs.WholeTexts.{has_open, kinds, IsTextOf, IsRefusedText}
use Rattle.bp_text_grammar.proofs.WholeReads.{refused_none, read_all, text_good, text_open, text_more, text_bad}
use Rattle.bp_text.specs.declared.error.TextError.{TextError}
use Rattle.bp_text.specs.declared.error.TextError.TheVariants as error
use Rattle.bp_text.specs.declared.halt.Halt.{Halt}
use Rattle.bp_text.specs.declared.halt.Halt.TheVariants as halt
use Rattle.bp_text.specs.Leaves.{TokenReader}
use Rattle.bp_text.specs.TextAnswers.{error_of, IsGiven, IsReadAs}
use Rattle.bp_text.specs.Unread.{Unread, ahead, left_of, Advances, ReadsFrom}
use Rattle.bp_text.proofs.TokenSteps.{passes_lex}

pub goes_lex : (old new : Unread) → (goes : Advances old new) → lex old.rest ≡ goes.taken ++ lex new.rest
goes_lex old new goes = passes_lex goes.taken old.rest new.rest goes.passes

none_seen : (ts : List Stamped) → kinds ts ≡ [] → ts ≡ []
none_seen [] e = refl
none_seen (t ∷ ts) e = absurd cc

module _ {A : Type 0} (L : A → List Token → Type 0) (R : List Token → Token → Why → Type 0) (r : TokenReader A)
    (right : Right Any Never (Ended L) R r)
    (old new : Unread) where
  -- a value was read, and no token is left
  module _ (a : A) (is : ReadsFrom {A = A} r old new (Ok a)) (opens : old.opens ≡ has_open (lex old.rest)) (open_now : Bool)
      (tells : lex new.rest ≡ [] → open_now ≡ new.opens) where
    open_is : open_now ≡ has_open (lex old.rest)
    open_is = tells (none_seen (lex new.rest) (read_all L R r right (ahead old) (ahead new) a is.1).0) ∙ (is.0.opens ∙ opens)

    pub got_text : open_now ≡ false → IsTextOf L a old.rest
    got_text closed = text_good L R r right old.rest (ahead new) a is.1 (sym open_is ∙ closed)

    pub got_open : open_now ≡ true → IsRefusedText L R old.rest (length old.rest) BadText
    got_open opened = text_open L R r right old.rest (ahead new) a is.1 (sym open_is ∙ opened)

  -- the first token that is left is at fault
  bad_here : (w : Why) → Advances old new → r (ahead old) ≡ bad (length (ahead new)) w → IsRefusedText L R old.rest
      (length old.rest - left_of (lex new.rest)) w
  bad_here w goes is = go (lex new.rest) (goes_lex old new goes) is
    where
      go : (us : List Stamped) → lex old.rest ≡ goes.taken ++ us → r (ahead old) ≡ bad (length (kinds us)) w
          → IsRefusedText L R old.rest (length old.rest - left_of us) w
      go [] cut e =
          let (p, b, v, fault, why) = right.faults (ahead old) 0 w (each-any (ahead old)) e in
          let none : 0 ≡ length (b ∷ v) = fault.left in
          absurd (omega arith)
      go (u ∷ us) cut e = inl (text_bad L R r right old.rest w goes.taken u us cut e)

  pub got_halt : (e : Halt) → ReadsFrom {A = A} r old new (Err e) → IsReadAs {A = A} L R old.rest
      (Err (error_of e (length old.rest) (left_of (lex new.rest))))
  got_halt halt.More (goes, is) = text_more L R r right old.rest is
  got_halt halt.Bad (goes, is) = bad_here BadText goes is
  got_halt halt.Float (goes, is) = bad_here Float goes is
  got_halt halt.OutOfMemory is = tt

-- a text of one value is read as that, if there is memory
pub read_given : {A : Type 0} (L : A → List Token → Type 0) (R : List Token → Token → Why → Type 0) (a : A) (s : List ℕ) (e : TextError)
    → IsReadAs {A = A} L R s (Err e) → IsTextOf L a s → IsGiven {A = A} a (Err e)
read_given L R a s (error.BadText at) refused is = refused_none L R s at BadText a refused is
read_given L R a s (error.Float at) refused is = refused_none L R s at Float a refused is
read_given L R a s (error.NotGood fault) never is = never
read_given L R a s error.OutOfMemory none is = tt
