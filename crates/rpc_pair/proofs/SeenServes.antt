-- A server by all bytes that came to it: what it took of them, and why it stopped.
use Rattle.std.proofs.Common.{◌≡◌, sym, ap, ◌∙◌, ℕ, ◌^◌, ◌<◌, ◌≤◌, ℤ, Bool, List, [], ◌++◌, arith, inl, inr, ◌⊎◌}
use Rattle.std.specs.Prelude.{Some, None}
use Rattle.std.specs.List.{count_by}
use Rattle.readers.specs.Reader.{Each, IsByte}
use Rattle.rpc_msg.specs.declared.message.Message.{Message}
use Rattle.rpc_msg.specs.declared.shared.CloseCause.{CloseCause}
use Rattle.rpc_msg.specs.declared.shared.CloseCause.TheVariants as cause
use Rattle.rpc_msg.specs.declared.shared.Limits.{Limits}
use Rattle.rpc_log.specs.Logs.{log_of}
use Rattle.rpc_log.proofs.Growing.{log_grows}
use Rattle.rpc_talk.specs.Causes.{cause_of}
use Rattle.rpc_talk.proofs.Accepting.{IsTaken}
use Rattle.rpc_end.specs.Taken.{HasTaken}
use Rattle.rpc_client.proofs.Dispatches.{taken_log}
use Rattle.rpc_server.specs.Servers.{ServerState}
use Rattle.rpc_pair.specs.Seen.{is_answered_as, is_asked, is_asked_as}
use Rattle.rpc_pair.proofs.SeenFaults.{fault_stays}
use Rattle.rpc_pair.proofs.SeenQueries.{AreAsked, count_more}
use Rattle.rpc_pair.proofs.SeenTook.{IsOwnCause, no_cause}

-- a fault of frames and readings alone
abbrev pub IsReadingFault : CloseCause → Type 0
IsReadingFault (cause.BadFrame at) = Unit {0}
IsReadingFault (cause.BadHeader why) = Unit {0}
IsReadingFault cause.NoCommonProtocol = Unit {0}
IsReadingFault (cause.BadMessage why) = Unit {0}
IsReadingFault _ = ⊥

-- why some bytes close a server of these limits: for how they read; for an answer; for an id that was asked twice; or for too many queries
pub data StopsFor (l : Limits) (given : List ℕ) (why : CloseCause) : Type 0 where
  AtReading : IsReadingFault why → cause_of l.max_message [] given ≡ Some why → StopsFor l given why
  AtAnswer : (id : ℤ) → why ≡ cause.UnknownId id → cause_of l.max_message [] given ≡ Some why → 1 ≤ count_by (is_answered_as id) (log_of l.max_message given)
      → StopsFor l given why
  AtTwice : (id : ℤ) → why ≡ cause.DuplicateQuery id → 2 ≤ count_by (is_asked_as id) (log_of l.max_message given) → StopsFor l given why
  AtMany : why ≡ cause.TooManyOpen l.max_open → l.max_open < count_by is_asked (log_of l.max_message given) → StopsFor l given why

-- they do so with more bytes behind them
module _ (l : Limits) (few : l.max_message < 256 ^ 8) (given more : List ℕ) (bytes : Each IsByte (given ++ more)) (why : CloseCause) where
  counts_grow : (p : Message → Bool) → count_by p (log_of l.max_message given) ≤ count_by p (log_of l.max_message (given ++ more))
  counts_grow p =
      let (later, same) = log_grows l.max_message given more few bytes in
      omega (arith, ap (count_by p) same, count_more p (log_of l.max_message given) later)

  stays : cause_of l.max_message [] given ≡ Some why → cause_of l.max_message [] (given ++ more) ≡ Some why
  stays fault = (fault_stays l.max_message few [] given more bytes why fault).0

  pub stops_grow : StopsFor l given why → StopsFor l (given ++ more) why
  stops_grow (AtReading reading fault) = AtReading reading (stays fault)
  stops_grow (AtAnswer id is fault some) = AtAnswer id is (stays fault) (omega (arith, some, counts_grow (is_answered_as id)))
  stops_grow (AtTwice id is two) = AtTwice id is (omega (arith, two, counts_grow (is_asked_as id)))
  stops_grow (AtMany is many) = AtMany is (omega (arith, many, counts_grow is_asked))

-- ---- a server

-- it took all that came, of which nothing is at fault, and which is no answer
pub record ServesAll (given : List ℕ) (s : ServerState) : Type 0 where
  pub max : s.link.max ≡ s.rules.limits.max_message
  pub limit : s.link.max ≤ 2 ^ 30
  pub bytes : Each IsByte given
  pub bodies : List (List ℕ)
  pub log : List Message
  pub took : HasTaken s.link given bodies log
  pub quiet : IsTaken s.link.max [] [] log
  pub asked : AreAsked log s.table

-- it is closed for what came
pub record ServesNone (given : List ℕ) (s : ServerState) : Type 0 where
  pub why : CloseCause
  pub closed : s.link.cause ≡ Some why
  pub bytes : Each IsByte given
  pub stops : StopsFor s.rules.limits given why

abbrev pub Serves : List ℕ → ServerState → Type 0
Serves given s = (ServesAll given s × IsOwnCause s.link.cause) ⊎ ServesNone given s

-- what came are these messages
pub all_log : (given : List ℕ) (s : ServerState) (all : ServesAll given s) → log_of s.rules.limits.max_message given ≡ all.log
all_log given s all = ap (λ m. log_of m given) (sym all.max) ∙ taken_log s.link given all.bodies all.log all.limit all.bytes all.took

-- one that is open took all
pub open_serves : (given : List ℕ) (s : ServerState) → s.link.cause ≡ None → Serves given s → ServesAll given s
open_serves given s open_ (inl (all, own)) = all
open_serves given s open_ (inr none) = absurd (no_cause s.link.cause none.why open_ none.closed)
