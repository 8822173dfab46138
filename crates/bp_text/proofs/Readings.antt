-- Readings from a cursor, one after the other.
use Rattle.std.proofs.Common.{◌≡◌, sym, ap, subst, Bool, true, false, List, [], ◌∷◌, Result, Ok, Err, IsErrAnd}
use Rattle.std.proofs.lemmas.Result.{err_from_is_err_and}
use Rattle.readers.specs.Reader.{Outcome, more, after, mapped, branch}
use Rattle.readers.proofs.Loops.{after_whole, after_more, after_bad}
use Rattle.readers.proofs.Leaves.{pick_true, pick_false}
use Rattle.bp_text_grammar.specs.Tokens.{Token}
use Rattle.bp_text_grammar.specs.Texts.{Why}
use Rattle.bp_text.specs.declared.halt.Halt.{Halt}
use Rattle.bp_text.specs.declared.halt.Halt.TheVariants as halt
use Rattle.bp_text.specs.Unread.{Unread, ahead, Advances, HasOutcome, is_first}
use Rattle.bp_text.proofs.Ahead.{goes_join}

-- the same outcome, said otherwise
pub gives_as : {A : Type 0} (o p : Outcome Token Why A) (old new : Unread) (result : Result A Halt) → o ≡ p → HasOutcome p old new result → HasOutcome o old new result
gives_as o p old new result e is = subst (λ q. HasOutcome q old new result) (sym e) is

-- what was read before does not change an outcome
pub gives_past : {A : Type 0} (o : Outcome Token Why A) (old mid new : Unread) (result : Result A Halt) → Advances old mid → HasOutcome o mid new result
    → HasOutcome o old new result
gives_past o old mid new (Ok a) goes is = (goes_join old mid new goes is.0, is.1)
gives_past o old mid new (Err halt.More) goes is = (goes_join old mid new goes is.0, is.1)
gives_past o old mid new (Err halt.Bad) goes is = (goes_join old mid new goes is.0, is.1)
gives_past o old mid new (Err halt.Float) goes is = (goes_join old mid new goes is.0, is.1)
gives_past o old mid new (Err halt.OutOfMemory) goes is = tt

-- reading goes on after a value
pub gives_next : {A B : Type 0} (o : Outcome Token Why A) (f : A → List Token → Outcome Token Why B) (old mid new : Unread) (a : A) (result : Result B Halt)
    → HasOutcome o old mid (Ok a) → HasOutcome (f a (ahead mid)) mid new result → HasOutcome (after o f) old new result
gives_next o f old mid new a result is next =
    gives_past (after o f) old mid new result is.0 (gives_as (after o f) (f a (ahead mid)) mid new result (after_whole f is.1) next)

-- or it stops
pub gives_failed : {A B : Type 0} (o : Outcome Token Why A) (f : A → List Token → Outcome Token Why B) (old new : Unread) (stop : Halt)
    → HasOutcome o old new (Err stop) → HasOutcome (after o f) old new (Err stop)
gives_failed o f old new halt.More is = (is.0, after_more f is.1)
gives_failed o f old new halt.Bad is = (is.0, after_bad f is.1)
gives_failed o f old new halt.Float is = (is.0, after_bad f is.1)
gives_failed o f old new halt.OutOfMemory is = tt

-- a function of the value
pub gives_made : {A B : Type 0} (o : Outcome Token Why A) (g : A → B) (old new : Unread) (a : A) → HasOutcome o old new (Ok a)
    → HasOutcome (mapped g o) old new (Ok (g a))
gives_made o g old new a is = (is.0, ap (mapped g) is.1)

pub gives_unmade : {A B : Type 0} (o : Outcome Token Why A) (g : A → B) (old new : Unread) (stop : Halt) → HasOutcome o old new (Err stop)
    → HasOutcome (mapped g o) old new (Err stop)
gives_unmade o g old new halt.More is = (is.0, ap (mapped g) is.1)
gives_unmade o g old new halt.Bad is = (is.0, ap (mapped g) is.1)
gives_unmade o g old new halt.Float is = (is.0, ap (mapped g) is.1)
gives_unmade o g old new halt.OutOfMemory is = tt

-- ---- by the first token

pub branch_is : {A : Type 0} (C : Token → Bool) (r q : List Token → Outcome Token Why A) (ts : List Token) → is_first C ts ≡ true → branch C r q ts ≡ r ts
branch_is C r q [] is = absurd cc
branch_is C r q (t ∷ ts) is = pick_true (C t) (r (t ∷ ts)) (q (t ∷ ts)) is

-- the other reading wants a token too
pub branch_not : {A : Type 0} (C : Token → Bool) (r q : List Token → Outcome Token Why A) (ts : List Token) → q [] ≡ more → is_first C ts ≡ false
    → branch C r q ts ≡ q ts
branch_not C r q [] none is = sym none
branch_not C r q (t ∷ ts) none is = pick_false (C t) (r (t ∷ ts)) (q (t ∷ ts)) is

-- ---- what `?` hands on

pub halted : {A : Type 0} (o : Outcome Token Why A) (old new : Unread) (stop : Halt) (result : Result A Halt) → IsErrAnd result (λ e. e ≡ stop)
    → HasOutcome o old new (Err stop) → HasOutcome o old new result
halted o old new stop result is gives = let p = err_from_is_err_and result is in rw (p.1, p.2) gives

-- ---- the same with a name, so that the parts of a longer reading need not be written out

pub record Read {A : Type 0} (o : Outcome Token Why A) (old new : Unread) (result : Result A Halt) : Type 0 where
  pub gives : HasOutcome o old new result

pub told : {A : Type 0} (o : Outcome Token Why A) (old new : Unread) (result : Result A Halt) → HasOutcome o old new result → Read o old new result
told o old new result is = record { gives = is }

pub shown : {A : Type 0} (o : Outcome Token Why A) (old new : Unread) (result : Result A Halt) → Read o old new result → HasOutcome o old new result
shown o old new result is = is.gives

pub handed : {A : Type 0} (o : Outcome Token Why A) (old new : Unread) (stop : Halt) (result : Result A Halt) → IsErrAnd result (λ e. e ≡ stop)
    → Read o old new (Err stop) → HasOutcome o old new result
handed o old new stop result is reading = halted o old new stop result is reading.gives

pub same : {A : Type 0} {o p : Outcome Token Why A} {old new : Unread} {result : Result A Halt} → o ≡ p → Read p old new result → Read o old new result
same {o = o} {p = p} {old = old} {new = new} {result = result} e is = record { gives = gives_as o p old new result e is.gives }

pub next : {A B : Type 0} (f : A → List Token → Outcome Token Why B) {o : Outcome Token Why A} {old mid new : Unread} {a : A} {result : Result B Halt}
    → Read o old mid (Ok a) → Read (f a (ahead mid)) mid new result → Read (after o f) old new result
next f {o = o} {old = old} {mid = mid} {new = new} {a = a} {result = result} is later =
    record { gives = gives_next o f old mid new a result is.gives later.gives }

pub fails : {A B : Type 0} (f : A → List Token → Outcome Token Why B) {o : Outcome Token Why A} {old new : Unread} {stop : Halt} → Read o old new (Err stop)
    → Read (after o f) old new (Err stop)
fails f {o = o} {old = old} {new = new} {stop = stop} is = record { gives = gives_failed o f old new stop is.gives }

pub made : {A B : Type 0} (g : A → B) {o : Outcome Token Why A} {old new : Unread} {a : A} → Read o old new (Ok a) → Read (mapped g o) old new (Ok (g a))
made g {o = o} {old = old} {new = new} {a = a} is = record { gives = gives_made o g old new a is.gives }

pub unmade : {A B : Type 0} (g : A → B) {o : Outcome Token Why A} {old new : Unread} {stop : Halt} → Read o old new (Err stop)
    → Read (mapped g o) old new (Err stop)
unmade g {o = o} {old = old} {new = new} {stop = stop} is = record { gives = gives_unmade o g old new stop is.gives }
