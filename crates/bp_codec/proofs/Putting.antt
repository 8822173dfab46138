-- Bytes that are appended part by part.
use Rattle.std.proofs.Common.{◌≡◌, sym, ap, ◌∙◌, ℕ, ◌+◌, ◌<◌, List, [], ◌++◌, length, Result, Ok, Err, arith, append_assoc, length-append, append-nil}
use Rattle.std.specs.Result.{IsErrAnd}
use Rattle.std.proofs.lemmas.Result.{err_from_is_err_and}
use Rattle.bp_codec.specs.declared.error.PutError.{PutError}
use Rattle.bp_codec.specs.declared.error.PutError.TheVariants.{TooLong, OutOfMemory}
use Rattle.bp_codec.specs.Puts.{Puts}

-- one part, and then what is left
pub puts_then : (bound : ℕ) (a b old mid new : List ℕ) (r : Result (Unit {0}) PutError) → Puts bound a old mid (Ok tt) → Puts bound b mid new r
    → Puts bound (a ++ b) old new r
puts_then bound a b old mid new (Ok u) first second =
    (second.0 ∙ (ap (λ s. s ++ b) first.0 ∙ append_assoc old a b), λ le. second.1 (first.1 le))
puts_then bound a b old mid new (Err TooLong) first second = (
  (a ++ second.0.0, second.0.1 ∙ (ap (λ s. s ++ second.0.0) first.0 ∙ append_assoc old a second.0.0)),
  (let mid_long : length mid ≡ length old + length a = ap length first.0 ∙ length-append old a in
      let past : bound < length mid + length b = second.1 in
      rw (length-append a b) (omega arith)),
)
puts_then bound a b old mid new (Err OutOfMemory) first second =
    (a ++ second.0, second.1 ∙ (ap (λ s. s ++ second.0) first.0 ∙ append_assoc old a second.0))

-- a part that was not appended, and what is left
puts_stop : (bound : ℕ) (a b old new : List ℕ) (e : PutError) → Puts bound a old new (Err e) → Puts bound (a ++ b) old new (Err e)
puts_stop bound a b old new TooLong first =
    (first.0, (let past : bound < length old + length a = first.1 in rw (length-append a b) (omega arith)))
puts_stop bound a b old new OutOfMemory first = first

pub puts_failed : (bound : ℕ) (a b old new : List ℕ) (r : Result (Unit {0}) PutError) (e : PutError) → IsErrAnd r (λ x. x ≡ e)
    → Puts bound a old new (Err e) → Puts bound (a ++ b) old new r
puts_failed bound a b old new r e is first = let p = err_from_is_err_and r is in rw (p.1, p.2) (puts_stop bound a b old new e first)

-- ---- a loop that appends the whole to the list `old`, whose `rest` is left to be appended to `mid`

-- whatever comes of the rest comes of the whole
pub record Leads (bound : ℕ) (whole old rest mid : List ℕ) : Type 0 where
  pub leads : (r : Result (Unit {0}) PutError) (new : List ℕ) → Puts bound rest mid new r → Puts bound whole old new r

pub leads_from : (bound : ℕ) (whole old : List ℕ) → Leads bound whole old whole old
leads_from bound whole old = record { leads = λ r new p. p }

module _ (bound : ℕ) (whole old rest mid : List ℕ) (loop : Leads bound whole old rest mid) where
  pub leads_next : (a b new : List ℕ) → rest ≡ a ++ b → Puts bound a mid new (Ok tt) → Leads bound whole old b new
  leads_next a b new is first = record { leads = λ r end second. loop.leads r end (rw is (puts_then bound a b mid new end r first second)) }

  pub leads_failed : (a b new : List ℕ) (r : Result (Unit {0}) PutError) (e : PutError) → rest ≡ a ++ b → IsErrAnd r (λ x. x ≡ e)
      → Puts bound a mid new (Err e) → Puts bound whole old new r
  leads_failed a b new r e is failed first = loop.leads r new (rw is (puts_failed bound a b mid new r e failed first))

  pub leads_done : rest ≡ [] → Puts bound whole old mid (Ok tt)
  leads_done is = loop.leads (Ok tt) mid (rw is (sym (append-nil mid), λ le. le))
