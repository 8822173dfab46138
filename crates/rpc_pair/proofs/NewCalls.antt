-- A call that comes to a server: what its answerer does in the world the server does.
use Rattle.std.proofs.Common.{◌≡◌, refl, sym, ap, ◌∙◌, subst, ℕ, ◌+◌, ◌<◌, ℤ, true, false, not, if◌then◌else◌, List, [], ◌∷◌, ◌++◌, arith}
use Rattle.std.specs.Prelude.{Option, Some, None, Result}
use Rattle.std.proofs.lemmas.List.{append-nil}
use Rattle.rpc_msg.specs.declared.message.Message.{Message}
use Rattle.rpc_msg.specs.declared.message.Message.TheVariants as message
use Rattle.rpc_msg.specs.declared.message.Query.{Query}
use Rattle.rpc_msg.specs.declared.shared.CloseCause.{CloseCause}
use Rattle.rpc_schema.specs.declared.desc.Kind.{Kind}
use Rattle.rpc_schema.specs.declared.desc.Kind.TheVariants.{Plain, OneWay, Pipe, State}
use Rattle.rpc_schema.specs.declared.desc.RpcDesc.{RpcDesc}
use Rattle.rpc_end.specs.Ends.{EndState}
use Rattle.rpc_talk.specs.Parts.{goes_on, is_tracked, kind_parts}
use Rattle.rpc_meeting.specs.Talks.{Common, Talk, Answerer, Menu, Nobody, Listener, Handler, answerer, asked_by, find_query, goes_on_still, heard_up, is_abort_query, is_nil, is_stopped, new_query, open_queries, stopped, waiting_count}
use Rattle.rpc_meeting.proofs.Carried.{IsAsking, IsCallTo}
use Rattle.rpc_meeting.proofs.Few.{few_open}
use Rattle.rpc_meeting.proofs.Heard.{asked, own_owner}
use Rattle.rpc_meeting.proofs.Lines.{most}
use Rattle.rpc_meeting.proofs.Look.{find_push_new, find_push_other}
use Rattle.rpc_meeting.proofs.Owners.{IsOk, owner_handler}
use Rattle.rpc_meeting.proofs.Sound.{query_key}
use Rattle.rpc_meeting.proofs.Whole.{le_false}
use Rattle.rpc_server.specs.Hearing.{heard_query}
use Rattle.rpc_server.specs.Servers.{ServerState, Does, query_heard}
use Rattle.rpc_server.specs.Tables.{forgotten, open_count, standing}
use Rattle.rpc_server.specs.declared.arrival.Arrival.{Arrival}
use Rattle.rpc_server.specs.declared.arrival.Arrival.TheVariants as arrival
use Rattle.rpc_server.specs.declared.table.Standing.TheVariants.{Nowhere, Open, Stopped}
use Rattle.rpc_pair.specs.Rules.{IsOfSchema, rules_of}
use Rattle.rpc_pair.specs.Stands.{HearsAlong, ServerStands, line_place, standing_as, standing_of_query}
use Rattle.rpc_pair.proofs.Calls.{HasRoom, call_heard, new_heard}
use Rattle.rpc_pair.proofs.Hearing.{hears_query, query_is}
use Rattle.rpc_pair.proofs.Meets.{Meets}
use Rattle.rpc_pair.proofs.Schemas.{schema_ok}
use Rattle.rpc_pair.proofs.Tables.{one_is, open_pushed}

-- ---- a query as it is made of its parts

-- a query of its four parts
abbrev pub query_made : List ℕ → ℤ → ℤ → List ℕ → Query
query_made tag version id body = record { tag = tag; version = version; id = id; body = body }

-- and one whose parts are known
pub query_same : (q : Query) (name body : List ℕ) (version : ℤ) → q.tag ≡ name → q.version ≡ version → q.body ≡ body → q ≡ query_made name version q.id body
query_same q name body version tag number bytes =
    ap (λ n. query_made n q.version q.id q.body) tag ∙ (ap (λ v. query_made name v q.id q.body) number ∙ ap (query_made name version q.id) bytes)

-- ---- a query that is new

new_open : (r : Common) (q : Query) (d : RpcDesc) → is_tracked d.kind ≡ true → goes_on_still (new_query q d) ≡ true
new_open r q d tracked = by d.kind tracked
  where
    by : (kind : Kind) → is_tracked kind ≡ true → goes_on (kind_parts kind []).mark ≡ true
    by Plain e = refl
    by OneWay e = absurd cc
    by Pipe e = refl
    by State e = refl

new_standing : (r : Common) (q : Query) (d : RpcDesc) → is_tracked d.kind ≡ true → standing_of_query r (new_query q d) ≡ Open (line_place r.entries d) false
new_standing r q d tracked = ap (λ b. if b then Open (line_place r.entries d) (not (is_nil (kind_parts d.kind []).parts)) else if is_stopped (new_query q d) then Stopped else Nowhere)
    (new_open r q d tracked) ∙ ap (Open (line_place r.entries d)) (by d.kind)
  where
    by : (kind : Kind) → not (is_nil (kind_parts kind []).parts) ≡ false
    by Plain = refl
    by OneWay = refl
    by Pipe = refl
    by State = refl

module _ (r : Common) (is : IsOfSchema r) (s : ServerState) (t : Talk) (came rest got : List Message) (meets : Meets r t came got) (stands : ServerStands r s t)
    (now : ℕ) (link : EndState) (result : Result (Option Arrival) CloseCause) (new : ServerState) (q : Query) (cut : came ++ message.Query q ∷ rest ≡ t.ups)
    (did : Does s now link (message.Query q) result new) (a : IsAsking r q) (call : IsCallTo r a.desc q) where
  ok : IsOk r
  ok = schema_ok r is

  place : ℕ
  place = line_place r.entries a.desc

  begins : is_abort_query r.entries q ≡ false
  begins =
      ap (is_abort_query r.entries) (query_same q a.desc.name _ a.desc.version a.tag a.version call.2)
      ∙ ok.calls a.desc q.id call.0 a.known

  none : find_query q.id t.queries ≡ None
  none =
      let (d, there) = asked r ok t came rest meets.sound q cut in
      (there.2.before (own_owner r ok t came rest meets.sound q cut begins d there).0).0

  nowhere : standing s.table q.id ≡ Nowhere
  nowhere = stands.table q.id ∙ ap (standing_as r) none

  -- who answers it, by its procedure
  handled : (d : RpcDesc) → answerer r q.tag q.version ≡ Handler d → (d ≡ a.desc) × (is_tracked d.kind ≡ true)
  handled d by_it =
      let own : answerer r a.desc.name a.desc.version ≡ Handler d
      = ap (λ n. answerer r n a.desc.version) (sym a.tag) ∙ (ap (answerer r q.tag) (sym a.version) ∙ by_it) in
      let (same, tracked) = owner_handler r a.desc d ok a.known own in
      (same, ap (λ (x : RpcDesc). is_tracked x.kind) same ∙ tracked)

  room : (o : Answerer) → answerer r q.tag q.version ≡ o → HasRoom o r (open_queries t.queries)
  room Menu e = tt
  room Nobody e = tt
  room Listener e = tt
  room (Handler d) e =
      let few : open_queries t.queries < waiting_count (most r) got t.made
      = few_open r ok t came rest got meets.more meets.down meets.sound q cut begins d e in
      le_false r.limits.max_open (open_queries t.queries) (omega (arith, few, meets.few))

  does_is : (o : Answerer) → answerer r q.tag q.version ≡ o → query_heard s q ≡ call_heard o r q (line_place r.entries a.desc) call.0
  does_is o e =
      query_is r s t stands q
      ∙ (ap (λ p. heard_query (rules_of r) (standing_as r p) (open_queries t.queries) q) none
      ∙ (new_heard r is q a call (open_queries t.queries) (room (answerer r q.tag q.version) refl) ∙ ap (λ x. call_heard x r q (line_place r.entries a.desc) call.0) e))

  -- where no query of it is kept
  stays : forgotten (standing s.table q.id) ≡ standing_as r (find_query q.id t.queries)
  stays = ap forgotten nowhere ∙ sym (ap (standing_as r) none)

  same_count : open_queries t.queries + open_count (standing s.table q.id) ≡ open_queries t.queries + open_count (forgotten (standing s.table q.id))
  same_count = ap (λ x. open_queries t.queries + open_count x) nowhere ∙ sym (ap (λ x. open_queries t.queries + open_count (forgotten x)) nowhere)

  handler_goes : (d : RpcDesc) → answerer r q.tag q.version ≡ Handler d → HearsAlong r link now t (asked_by (Handler d) r t q) result new
  handler_goes d e =
      let (same, tracked) = handled d e in
      let here : standing_as r (find_query q.id (t.queries ++ new_query q d ∷ [])) ≡ Open (line_place r.entries d) false
      = ap (standing_as r) (find_push_new query_key q.id t.queries (new_query q d) none refl) ∙ new_standing r q d tracked in
      hears_query r s t stands now link q result new did _ (does_is (Handler d) e) (asked_by (Handler d) r t q)
      (Some (arrival.Asked q.id (line_place r.entries a.desc) call.0)) refl
      (ap (λ x. Open (line_place r.entries x) false) (sym same) ∙ sym here)
      (λ other apart. find_push_other query_key other t.queries (new_query q d) apart)
      (omega (
        arith,
        open_pushed t.queries (new_query q d),
        ap open_count nowhere,
        one_is (new_query q d) true (new_open r q d tracked),
      ))
      (sym (append-nil t.downs))

  answerer_goes : (o : Answerer) → answerer r q.tag q.version ≡ o → HearsAlong r link now t (asked_by o r t q) result new
  answerer_goes Menu e =
      hears_query r s t stands now link q result new did _ (does_is Menu e) (asked_by Menu r t q) None refl stays (λ other apart. refl) same_count refl
  answerer_goes Nobody e =
      hears_query r s t stands now link q result new did _ (does_is Nobody e) (asked_by Nobody r t q) None refl stays (λ other apart. refl) same_count refl
  answerer_goes Listener e =
      hears_query r s t stands now link q result new did _ (does_is Listener e) t (Some (arrival.Noted q.id (line_place r.entries a.desc) call.0)) refl stays
      (λ other apart. refl) same_count (sym (append-nil t.downs))
  answerer_goes (Handler d) e = handler_goes d e

  -- A call that comes: the server does what its answerer does in the world, and goes along.
  pub call_goes : HearsAlong r link now t (heard_up r t (message.Query q)) result new
  call_goes =
      subst (λ to. HearsAlong r link now t to result new)
      (sym (ap (λ b. if b then stopped t q.id else asked_by (answerer r q.tag q.version) r t q) begins))
      (answerer_goes (answerer r q.tag q.version) refl)
