-- What taking the first token does to what a cursor has left.
use Rattle.std.proofs.Common.{Some, None, ◌≡◌, refl, sym, ap, ◌∙◌, Bool, true, false, ◌||◌, ℕ, List, [], ◌∷◌, ◌++◌, length, Ok, Err}
use Rattle.readers.specs.Reader.{bad}
use Rattle.bp_text_grammar.specs.Tokens as grammar
use Rattle.bp_text_grammar.specs.Lexing.{Stamped}
use Rattle.bp_text_grammar.specs.Scanning.{lex}
use Rattle.bp_text_grammar.specs.Texts.{BadText}
use Rattle.bp_text_grammar.specs.WholeTexts.{has_open, kinds}
use Rattle.bp_text.specs.declared.halt.Halt.{Halt}
use Rattle.bp_text.specs.declared.halt.Halt.TheVariants as halt
use Rattle.bp_text.specs.declared.token.Token.{Token}
use Rattle.bp_text.specs.declared.cursor.Ahead.{Ahead}
use Rattle.bp_text.specs.Given.{token_of}
use Rattle.bp_text.specs.Unread.{Unread, ahead, left_of, IsAheadOf, Advances, ReadsFrom, TakesFirst, taken_at}
use Rattle.bp_text.proofs.TokenSteps.{passes_join, passes_lex}

-- ---- the token that was looked at

abbrev stamp : grammar.Token → Ahead → Stamped
stamp token next = record { token = token; left = next.left }

next_lex : (s : List ℕ) (next : Ahead) (is : IsAheadOf s next) → lex s ≡ stamp is.token next ∷ lex next.rest.now
next_lex s next is = passes_lex (stamp is.token next ∷ []) s next.rest.now is.passes

pub next_kinds : (s : List ℕ) (next : Ahead) → IsAheadOf s next → kinds (lex s) ≡ token_of next.token ∷ kinds (lex next.rest.now)
next_kinds s next is = ap kinds (next_lex s next is) ∙ ap (λ t. t ∷ kinds (lex next.rest.now)) (sym is.is_seen)

pub next_left : (s : List ℕ) (next : Ahead) → IsAheadOf s next → next.left ≡ left_of (lex s)
next_left s next is = sym (ap left_of (next_lex s next is))

-- ---- the cursor

pub goes_none : (c : Unread) → Advances c c
goes_none c = record { taken = []; passes = refl; opens = refl }

pub goes_join : (a b c : Unread) → Advances a b → Advances b c → Advances a c
goes_join a b c one two = record {
  taken = one.taken ++ two.taken;
  passes = passes_join one.taken two.taken a.rest b.rest c.rest one.passes two.passes;
  opens = two.opens ∙ one.opens;
}

either_way : (a b c : Bool) → (a || b) || c ≡ a || (b || c)
either_way true b c = refl
either_way false b c = refl

-- the first token is taken
pub first_taken : (s : List ℕ) (opened : Bool) (next : Ahead) → IsAheadOf s next
    → TakesFirst (record { rest = s; opens = opened || has_open (lex s) })
    (record { rest = next.rest.now; opens = (opened || next.opened) || has_open (lex next.rest.now) }) (Ok next.token)
first_taken s opened next is = (
  record {
    taken = stamp is.token next ∷ [];
    passes = is.passes;
    opens =
        either_way opened next.opened (has_open (lex next.rest.now))
        ∙ (ap (λ o. opened || (o || has_open (lex next.rest.now))) is.opened ∙ sym (ap (λ ts. opened || has_open ts) (next_lex s next is)));
  },
  next_kinds s next is,
)

-- ---- a token that is to be taken, or not

pub pass_taken : (old new : Unread) (token : Token) → TakesFirst old new (Ok token) → ReadsFrom (taken_at true) old new (Ok tt)
pass_taken old new token (goes, is) = (goes, ap (taken_at true) is)

pub pass_failed : (takes : Bool) (old new : Unread) (stop : Halt) → TakesFirst old new (Err stop) → ReadsFrom (taken_at takes) old new (Err stop)
pass_failed takes old new halt.More (goes, is) = (goes, ap (taken_at takes) is)
pass_failed takes old new halt.Bad no_ = absurd no_
pass_failed takes old new halt.Float no_ = absurd no_
pass_failed takes old new halt.OutOfMemory is = tt

pub pass_bad : (c : Unread) (t : grammar.Token) (us : List grammar.Token) → ahead c ≡ t ∷ us → ReadsFrom (taken_at false) c c (Err halt.Bad)
pass_bad c t us is = (goes_none c, ap (taken_at false) is ∙ sym (ap (λ ts. bad (length ts) BadText) is))

pub pass_none : (takes : Bool) (c : Unread) → ahead c ≡ [] → ReadsFrom (taken_at takes) c c (Err halt.More)
pass_none takes c is = (goes_none c, ap (taken_at takes) is)

pub some_is : {A : Type 0} (a b : A) → Some a ≡ Some b → a ≡ b
some_is a b e = cc

pub none_is : {A : Type 0} (b : A) → None ≡ Some b → ⊥
none_is b e = cc
