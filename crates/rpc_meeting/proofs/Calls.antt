-- What is so of one id: what was asked with it, what came of that to the server, its query there, and what was answered.
use Rattle.std.proofs.Common.{◌≡◌, ℕ, ℤ, Bool, true, false, not, if◌then◌else◌, List, [], ◌∷◌, ◌++◌, map}
use Rattle.std.specs.Prelude.{Option, Some, None, ◌⊎◌}
use Rattle.std.specs.List.{filter_map}
use Rattle.std.specs.Ordering.{int_eq}
use Rattle.rpc_msg.specs.declared.message.Answer.{Answer}
use Rattle.rpc_msg.specs.declared.message.Message.{Message}
use Rattle.rpc_msg.specs.declared.message.Message.TheVariants as message
use Rattle.rpc_schema.specs.declared.desc.Entry.{Entry}
use Rattle.rpc_schema.specs.declared.desc.RpcDesc.{RpcDesc}
use Rattle.rpc_schema.specs.Choice.{menu_description}
use Rattle.rpc_log.specs.Logs.{responses_of}
use Rattle.rpc_talk.specs.Acts.{says, fitting, unimplemented}
use Rattle.rpc_talk.specs.Legal.{AreLegal}
use Rattle.rpc_talk.specs.Parts.{is_stream, is_tracked, parts_of}
use Rattle.rpc_talk.specs.Said.{Said, Reply, Begun, Declined, Item, Eof, Unreadable, Failed, says_in}
use Rattle.rpc_talk.specs.Welcome.{is_welcome_answer}
use Rattle.rpc_meeting.specs.Talks.{Common, Dispatch, Served, Talk, Answerer, Menu, Nobody, Listener, Handler, act_said, line_named, find_made, find_query, is_abort_query, is_nil, goes_on_still, menu_answer, answerer, stops_one}

-- ---- what goes up

-- a query with its name and version: its call, or its abort
pub data Ask : Type 0 where
  Begins : List ℕ → ℤ → Ask
  Stops : List ℕ → ℤ → Ask

abbrev pub ask_by : Bool → List ℕ → ℤ → Ask
ask_by true tag version = Stops tag version
ask_by false tag version = Begins tag version

abbrev pub ask_for : List Entry → ℤ → Message → Option Ask
ask_for es id message.Heartbeat = None
ask_for es id (message.Query q) = if int_eq q.id id then Some (ask_by (is_abort_query es q) q.tag q.version) else None
ask_for es id (message.Response a) = None

-- what a log asks with this id, in order
abbrev pub asks_of : List Entry → ℤ → List Message → List Ask
asks_of es id log = filter_map (ask_for es id) log

abbrev pub asks_cut : Option ℕ → RpcDesc → List Ask
asks_cut None d = []
asks_cut (Some n) d = Stops d.name d.version ∷ []

abbrev pub asks_made : Dispatch → List Ask
asks_made d = Begins d.desc.name d.desc.version ∷ asks_cut d.cut d.desc

-- ---- procedures

-- the menu, or a line of the schema
abbrev pub IsKnown : Common → RpcDesc → Type 0
IsKnown r d = (d ≡ menu_description) ⊎ ((e : Entry) × (line_named r.entries d.name d.version ≡ Some e) × (e.desc ≡ d))

-- ---- answers

-- each is welcome behind those before it
abbrev pub AreWelcome : ℕ → RpcDesc → List Answer → List Answer → Type 0
AreWelcome m d before [] = Unit {0}
AreWelcome m d before (a ∷ later) = (is_welcome_answer m d before a ≡ true) × AreWelcome m d (before ++ a ∷ []) later

-- all of what they say can be read
abbrev pub IsClear : Said → Type 0
IsClear (Reply v) = Unit {0}
IsClear (Begun v) = Unit {0}
IsClear (Declined v) = Unit {0}
IsClear (Item v) = Unit {0}
IsClear Eof = Unit {0}
IsClear (Failed e) = Unit {0}
IsClear (Unreadable why) = ⊥

abbrev pub AreClear : List Said → Type 0
AreClear [] = Unit {0}
AreClear (s ∷ says) = IsClear s × AreClear says

abbrev pub has_begun : ℕ → RpcDesc → List Answer → Bool
has_begun m d answers = not (is_nil (parts_of m d answers).parts)

-- ---- a query at the server

-- its acts are legal, and what they say is read so
pub record IsHandled (m : ℕ) (q : Served) : Type 0 where
  pub tracked : is_tracked q.desc.kind ≡ true
  pub legal : AreLegal q.desc.kind q.acts
  pub read : says_in m q.desc (says q.desc q.acts) ≡ map act_said q.acts

-- what is owed to a call that came
abbrev pub Owed : Answerer → Common → Dispatch → Option Served → List Answer → Type 0
Owed Menu r d query answers = (query ≡ None) × (answers ≡ menu_answer r d.id ∷ [])
Owed Nobody r d query answers = (query ≡ None) × (answers ≡ fitting r.limits.max_message d.id (unimplemented d.desc.name d.desc.version) ∷ [])
Owed Listener r d query answers = (query ≡ None) × (answers ≡ [])
Owed (Handler desc) r d query answers =
    (q : Served) × (query ≡ Some q) × (q.desc ≡ d.desc) × (answers ≡ says d.desc q.acts) × IsHandled r.limits.max_message q

abbrev pub is_open_one : Option Served → Bool
is_open_one None = false
is_open_one (Some q) = goes_on_still q

-- an abort stops it
abbrev pub stops_query : Option Served → Bool
stops_query None = false
stops_query (Some q) = stops_one q

-- ---- one id

pub record IsCall (r : Common) (d : Dispatch) (asks came : List Ask) (query : Option Served) (answers : List Answer) : Type 0 where
  pub known : IsKnown r d.desc
  pub asks_are : asks ≡ asks_made d
  pub before : came ≡ [] → (query ≡ None) × (answers ≡ [])
  pub after : (x : Ask) (xs : List Ask) → came ≡ x ∷ xs → Owed (answerer r d.desc.name d.desc.version) r d query answers
  pub welcome : AreWelcome r.limits.max_message d.desc [] answers
  pub clear : AreClear (says_in r.limits.max_message d.desc answers)
  pub cut : (n : ℕ) → d.cut ≡ Some n → (is_stream d.desc.kind ≡ true) × (has_begun r.limits.max_message d.desc answers ≡ true)
  pub stopped : (x y : Ask) (zs : List Ask) → came ≡ x ∷ (y ∷ zs) → is_open_one query ≡ false

abbrev pub IsLine : Common → Option Dispatch → List Ask → List Ask → Option Served → List Answer → Type 0
IsLine r None asks came query answers = (asks ≡ []) × (query ≡ None) × (answers ≡ [])
IsLine r (Some d) asks came query answers = IsCall r d asks came query answers

-- `came` is the messages that came to the server, any beginning of those that went up
abbrev pub LineAt : Common → Talk → List Message → ℤ → Type 0
LineAt r t came id =
    IsLine r (find_made id t.made) (asks_of r.entries id t.ups) (asks_of r.entries id came) (find_query id t.queries) (responses_of id t.downs)
