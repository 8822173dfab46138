-- A part that may be missing, up to what may follow it.
use Rattle.std.proofs.Common.{◌≡◌, refl, sym, ap, ◌∙◌, suc, Bool, true, false, Option, Some, None, List, [], ◌∷◌, length, Ok, Err, inl, inr}
use Rattle.readers.specs.Reader.{whole, after, mapped, one, leaf, maybe, stop}
use Rattle.readers.proofs.Leaves.{is_or, pick_true, pick_false}
use Rattle.bp_text_grammar.specs.Tokens as grammar
use Rattle.bp_text_grammar.specs.Texts.{BadText}
use Rattle.bp_text.specs.declared.halt.Halt.{Halt}
use Rattle.bp_text.specs.declared.token.Token.{Token}
use Rattle.bp_text.specs.Given.{token_of}
use Rattle.bp_text.specs.Items.{ReadsUpTo}
use Rattle.bp_text.specs.Unread.{Unread, ahead, is_first, ReadsFrom, TakesFirst}
use Rattle.bp_text.proofs.Ahead.{goes_join}
use Rattle.bp_text.specs.Leaves.{TokenReader}
use Rattle.bp_text.proofs.Readings.{gives_as, gives_past, gives_failed}

-- ---- one token

pub takes_one : {A : Type 0} (h : grammar.Token → Option A) (s u : List grammar.Token) (a : A) → one h BadText s ≡ whole a u → length s ≡ suc
    (length u)
takes_one h [] u a is = absurd cc
takes_one {A = A} h (t ∷ s) u a is = go (h t) is
  where
    go : (o : Option A) → leaf o (length (t ∷ s)) BadText s ≡ whole a u → length (t ∷ s) ≡ suc (length u)
    go (Some b) e = let su : s ≡ u = cc in ap (λ x. suc (length x)) su
    go None e = absurd cc

-- ---- a part that may be missing

module _ {A : Type 0} (sep ends : grammar.Token → Bool) (r : TokenReader A) where
  maybe_goes : (s u : List grammar.Token) (t : grammar.Token) → s ≡ t ∷ u → is_first sep s ≡ true
      → maybe sep ends BadText r s ≡ after (r u) (λ v. stop ends BadText (Some v))
  maybe_goes [] u t cut is = absurd cc
  maybe_goes (c ∷ s) u t cut is = let su : s ≡ u = cc in pick_true (sep c) _ _ is ∙ ap (λ x. after (r x) (λ v. stop ends BadText (Some v))) su

  pub maybe_none : (s : List grammar.Token) → is_first sep s ≡ false → maybe sep ends BadText r s ≡ stop ends BadText None s
  maybe_none [] is = refl
  maybe_none (c ∷ s) is = pick_false (sep c) _ _ is

  module _ (old mid new : Unread) (token : Token) (is : is_first sep (ahead old) ≡ true) (takes : TakesFirst old mid (Ok token)) where
    pub maybe_failed : (e : Halt) → ReadsFrom {A = A} r mid new (Err e) → ReadsFrom {A = Option A} (maybe sep ends BadText r) old new (Err e)
    maybe_failed e reads =
        gives_past (maybe sep ends BadText r (ahead old)) old mid new (Err e) takes.0
        (gives_as _ _ mid new (Err e) (maybe_goes (ahead old) (ahead mid) (token_of token) takes.1 is)
        (gives_failed (r (ahead mid)) (λ v. stop ends BadText (Some v)) mid new e reads))

    pub maybe_some : (v : A) → r (ahead mid) ≡ whole v (ahead new) → maybe sep ends BadText r (ahead old) ≡ stop ends BadText (Some v) (ahead new)
    maybe_some v reads =
        maybe_goes (ahead old) (ahead mid) (token_of token) takes.1 is ∙ ap (λ o. after o (λ v. stop ends BadText (Some v))) reads

stop_mapped : {A B : Type 0} (ends : grammar.Token → Bool) (g : A → B) (a : A) (s : List grammar.Token)
    → mapped g (stop ends BadText a s) ≡ stop ends BadText (g a) s
stop_mapped ends g a [] = refl
stop_mapped ends g a (c ∷ s) = elim (is_or (ends c)) [
  | inl e ↦ ap (mapped g) (pick_true (ends c) _ _ e) ∙ sym (pick_true (ends c) _ _ e)
  | inr e ↦ ap (mapped g) (pick_false (ends c) _ _ e) ∙ sym (pick_false (ends c) _ _ e)
]

-- ---- one reading after another, up to what may follow

pub mapped_up : {A B : Type 0} (ends : grammar.Token → Bool) (r : TokenReader A) (g : A → B) (old new : Unread) (a : A)
    → ReadsUpTo {A = A} ends r old new (Ok a) → ReadsUpTo {A = B} ends (λ s. mapped g (r s)) old new (Ok (g a))
mapped_up ends r g old new a (goes, is) = (goes, ap (mapped g) is ∙ stop_mapped ends g a (ahead new))

pub then_up : {A B : Type 0} (ends : grammar.Token → Bool) (r : TokenReader A) (f : A → TokenReader B) (old mid new : Unread) (a : A) (b : B)
    → ReadsFrom {A = A} r old mid (Ok a) → ReadsUpTo {A = B} ends (f a) mid new (Ok b) → ReadsUpTo {A = B} ends (λ s. after (r s) f) old new (Ok b)
then_up ends r f old mid new a b (goes, is) (on, next) = (goes_join old mid new goes on, ap (λ o. after o f) is ∙ next)
