-- A book by all bytes that came to it: what it took of them, and why it stopped. What changes neither its bytes nor their fault keeps this.
use Rattle.std.proofs.Common.{◌≡◌, refl, sym, ap, ◌∙◌, subst, ℕ, ◌<◌, false, List, ◌++◌, length, inl, inr, ◌⊎◌}
use Rattle.std.specs.Prelude.{Option, Some, None}
use Rattle.std.specs.Option.{is_some}
use Rattle.rpc_msg.specs.declared.shared.CloseCause.{CloseCause}
use Rattle.rpc_msg.specs.declared.shared.CloseCause.TheVariants as cause
use Rattle.rpc_end.specs.Ends.{EndState, is_closed}
use Rattle.rpc_book.specs.Books.{BookState, fault_of}
use Rattle.rpc_book.specs.Feeds.{journal_limit}

-- a book is open, or is closed for what is no fault of the bytes
abbrev pub IsOwnCause : Option CloseCause → Type 0
IsOwnCause None = Unit {0}
IsOwnCause (Some (cause.Late last now)) = Unit {0}
IsOwnCause (Some cause.EndOfInput) = Unit {0}
IsOwnCause (Some cause.ClosedHere) = Unit {0}
IsOwnCause (Some _) = ⊥

-- it took all that came, of which nothing is at fault
pub record TookAll (given : List ℕ) (b : BookState) : Type 0 where
  pub all : given ≡ b.got
  pub calm : fault_of b ≡ None

-- it took them up to what is at fault, and is closed for that
pub record TookFault (given : List ℕ) (b : BookState) (why : CloseCause) : Type 0 where
  pub closed : b.link.cause ≡ Some why
  pub left : List ℕ
  pub front : given ≡ b.got ++ left
  pub fault : fault_of b ≡ Some why

-- it took as many as it has room for, and is closed for that
pub record TookFull (given : List ℕ) (b : BookState) : Type 0 where
  pub closed : b.link.cause ≡ Some (cause.JournalFull (length b.got))
  pub left : List ℕ
  pub front : given ≡ b.got ++ left
  pub calm : fault_of b ≡ None
  pub over : journal_limit < length given

abbrev pub Took : List ℕ → BookState → Type 0
Took given b = (TookAll given b × IsOwnCause b.link.cause) ⊎ (((why : CloseCause) × TookFault given b why) ⊎ TookFull given b)

-- ---- a book that is open

pub going_open : (e : EndState) → is_closed e ≡ false → e.cause ≡ None
going_open e open_ = by e.cause open_
  where
    by : (o : Option CloseCause) → is_some o ≡ false → o ≡ None
    by None is = refl
    by (Some why) is = absurd cc

pub no_cause : (o : Option CloseCause) (why : CloseCause) → o ≡ None → o ≡ Some why → ⊥
no_cause o why none some = let line : None ≡ Some why = sym none ∙ some in cc

-- it took all
pub open_all : (given : List ℕ) (b : BookState) → b.link.cause ≡ None → Took given b → TookAll given b
open_all given b open_ (inl (all, own)) = all
open_all given b open_ (inr (inl (why, fault))) = absurd (no_cause b.link.cause why open_ fault.closed)
open_all given b open_ (inr (inr full)) = absurd (no_cause b.link.cause (cause.JournalFull (length b.got)) open_ full.closed)

-- ---- what takes no bytes

-- the bytes and their fault are the same
pub took_same : (given : List ℕ) (b new : BookState) → new.got ≡ b.got → fault_of new ≡ fault_of b → new.link.cause ≡ b.link.cause → Took given b → Took given new
took_same given b new got fault why_is (inl (all, own)) =
    inl (record { all = all.all ∙ sym got; calm = fault ∙ all.calm }, subst IsOwnCause (sym why_is) own)
took_same given b new got fault why_is (inr (inl (why, stops))) =
    inr (inl (why, record { closed = why_is ∙ stops.closed; left = stops.left; front = stops.front ∙ ap (λ g. g ++ stops.left) (sym got); fault = fault ∙ stops.fault }))
took_same given b new got fault why_is (inr (inr full)) =
    inr (inr (record {
      closed = why_is ∙ (full.closed ∙ ap (λ (g : List ℕ). Some (cause.JournalFull (length g))) (sym got));
      left = full.left;
      front = full.front ∙ ap (λ g. g ++ full.left) (sym got);
      calm = fault ∙ full.calm;
      over = full.over;
    }))
