-- What a handler may do with a query, and what an act does.
use Rattle.std.specs.Prelude.{◌≡◌, ℕ, ℤ, Bool, true, false, List, [], ◌∷◌, Option, Some, None, Result, Ok, Err, slice_get, if◌then◌else◌}
use Rattle.bp_value.specs.Fits.{Fits}
use Rattle.bp_value.specs.Form.{form_of}
use Rattle.rpc_msg.specs.declared.message.Message.{Message}
use Rattle.rpc_schema.specs.declared.desc.Entry.{Entry}
use Rattle.rpc_schema.specs.declared.desc.Kind.{Kind}
use Rattle.rpc_schema.specs.declared.desc.RpcDesc.{RpcDesc}
use Rattle.rpc_end.specs.Ends.{is_closed, said}
use Rattle.rpc_talk.specs.Acts.{Act, Reply, Fail, Begin, Decline, Give, End, Stop, suits, finishes, answer_by, response, is_short}
use Rattle.rpc_server.specs.Rules.{Rules}
use Rattle.rpc_server.specs.Servers.{ServerState}
use Rattle.rpc_server.specs.Tables.{place_in_schema, standing, IsPut}
use Rattle.rpc_server.specs.declared.error.ActError.{ActError}
use Rattle.rpc_server.specs.declared.error.ActError.TheVariants as refused
use Rattle.rpc_server.specs.declared.table.Standing.{Standing}
use Rattle.rpc_server.specs.declared.table.Standing.TheVariants.{Nowhere, Open, Stopped}

-- ---- which acts are refused for how the query stands, in the order of the tests

-- some acts come before a stream has begun, and some behind
abbrev pub begun_refusal : Act → Bool → Option ActError
begun_refusal (Reply v) begun = None
begun_refusal (Fail text) begun = None
begun_refusal (Begin v) begun = if begun then Some refused.AlreadyBegun else None
begun_refusal (Decline v) begun = if begun then Some refused.AlreadyBegun else None
begun_refusal (Give v) begun = if begun then None else Some refused.NotBegun
begun_refusal End begun = if begun then None else Some refused.NotBegun
begun_refusal Stop begun = if begun then None else Some refused.NotBegun

abbrev pub kind_refusal : Act → Bool → Option Entry → Option ActError
kind_refusal act begun None = Some refused.NoSuch
kind_refusal act begun (Some e) = if suits act e.desc.kind then begun_refusal act begun else Some refused.WrongKind

abbrev pub standing_refusal : Rules → Act → Standing → Option ActError
standing_refusal r act Nowhere = Some refused.NoSuch
standing_refusal r act Stopped = Some refused.Stopped
standing_refusal r act (Open place begun) = kind_refusal act begun (slice_get r.entries place)

abbrev pub act_refusal : ServerState → ℤ → Act → Option ActError
act_refusal s id act = if is_closed s.link then Some refused.Closed else standing_refusal s.rules act (standing s.table id)

-- ---- what an act does

-- the value of an act is one of its shape
abbrev pub FitsAct : ℕ → RpcDesc → Act → Type 0
FitsAct m d (Reply v) = Fits m (form_of d.first) v
FitsAct m d (Fail text) = Unit {0}
FitsAct m d (Begin v) = Fits m (form_of d.first) v
FitsAct m d (Decline v) = Fits m (form_of d.error) v
FitsAct m d (Give v) = Fits m (form_of d.item) v
FitsAct m d End = Unit {0}
FitsAct m d Stop = Unit {0}

abbrev pub place_at : ServerState → ℤ → Option ℕ
place_at s id = place_in_schema (standing s.table id)

-- the query is over, or its stream goes on
abbrev pub stands_behind : Act → ℕ → Standing
stands_behind act place = if finishes act then Nowhere else Open place true

-- the server's answer to an act on a query that is open to it
abbrev pub answer_to : RpcDesc → ℤ → Act → Message
answer_to d id act = response id (answer_by d act)

-- one response goes out, and the query is over or goes on
pub record HasActed (old : ServerState) (place : ℕ) (d : RpcDesc) (id : ℤ) (act : Act) (new : ServerState) : Type 0 where
  pub rules : new.rules ≡ old.rules
  pub table : IsPut old.table id (stands_behind act place) new.table
  pub link : new.link ≡ said old.link (answer_to d id act)

-- an act that nothing but its value can refuse
abbrev pub RespondsTo : ServerState → ℕ → RpcDesc → ℤ → Act → Result (Unit {0}) ActError → ServerState → Type 0
RespondsTo old place d id act (Ok u) new =
    FitsAct old.rules.limits.max_message d act × (is_short old.rules.limits.max_message (answer_to d id act) ≡ true)
    × HasActed old place d id act new
RespondsTo old place d id act (Err refused.BadValue) new = (FitsAct old.rules.limits.max_message d act → ⊥) × (new ≡ old)
RespondsTo old place d id act (Err (refused.TooLong max)) new =
    FitsAct old.rules.limits.max_message d act × (is_short old.rules.limits.max_message (answer_to d id act) ≡ false)
    × (max ≡ old.rules.limits.max_message) × (new ≡ old)
RespondsTo old place d id act (Err refused.OutOfMemory) new = new ≡ old
RespondsTo old place d id act (Err refused.Closed) new = ⊥
RespondsTo old place d id act (Err refused.NoSuch) new = ⊥
RespondsTo old place d id act (Err refused.Stopped) new = ⊥
RespondsTo old place d id act (Err refused.WrongKind) new = ⊥
RespondsTo old place d id act (Err refused.AlreadyBegun) new = ⊥
RespondsTo old place d id act (Err refused.NotBegun) new = ⊥

-- a refusal that an abort is told by is told once; any other leaves all as it was
abbrev pub IsActRefused : ServerState → ℤ → ActError → ServerState → Type 0
IsActRefused old id refused.Stopped new = (new.rules ≡ old.rules) × IsPut old.table id Nowhere new.table × (new.link ≡ old.link)
IsActRefused old id refused.Closed new = new ≡ old
IsActRefused old id refused.NoSuch new = new ≡ old
IsActRefused old id refused.WrongKind new = new ≡ old
IsActRefused old id refused.AlreadyBegun new = new ≡ old
IsActRefused old id refused.NotBegun new = new ≡ old
IsActRefused old id refused.BadValue new = new ≡ old
IsActRefused old id (refused.TooLong max) new = new ≡ old
IsActRefused old id refused.OutOfMemory new = new ≡ old

abbrev pub ActsBy : Option ActError → ServerState → ℤ → Act → Result (Unit {0}) ActError → ServerState → Type 0
ActsBy (Some why) old id act result new = (result ≡ Err why) × IsActRefused old id why new
ActsBy None old id act result new =
    (place : ℕ) × (e : Entry) × (place_at old id ≡ Some place) × (slice_get old.rules.entries place ≡ Some e)
    × RespondsTo old place e.desc id act result new

-- what a handler's act answers, and what it leaves
abbrev pub IsActed : ServerState → ℤ → Act → Result (Unit {0}) ActError → ServerState → Type 0
IsActed old id act result new = ActsBy (act_refusal old id act) old id act result new

-- ---- the acts that are accepted of one query

abbrev pub after_done : Act → Standing → Standing
after_done act Nowhere = Nowhere
after_done act Stopped = Stopped
after_done (Reply v) (Open place begun) = Nowhere
after_done (Fail text) (Open place begun) = Nowhere
after_done (Begin v) (Open place begun) = Open place true
after_done (Decline v) (Open place begun) = Nowhere
after_done (Give v) (Open place begun) = Open place true
after_done End (Open place begun) = Nowhere
after_done Stop (Open place begun) = Stopped

-- they are accepted one after the other, an abort of the caller among them
abbrev pub AreAccepted : Rules → Standing → List Act → Type 0
AreAccepted r s [] = Unit {0}
AreAccepted r s (act ∷ acts) = (standing_refusal r act s ≡ None) × AreAccepted r (after_done act s) acts
