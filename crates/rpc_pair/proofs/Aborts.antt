-- The query of an abort that comes to a server: its stream has begun, and no abort came before.
use Rattle.std.proofs.Common.{◌≡◌, refl, sym, ap, ◌∙◌, subst, ℕ, ℤ, Bool, true, false, not, if◌then◌else◌, List, [], ◌∷◌, ◌++◌, inl, inr}
use Rattle.std.specs.Prelude.{Some}
use Rattle.std.specs.List.{list_any}
use Rattle.rpc_msg.specs.declared.message.Answer.TheVariants as answer
use Rattle.rpc_msg.specs.declared.message.RpcError.{RpcError}
use Rattle.rpc_msg.specs.declared.message.Message.{Message}
use Rattle.rpc_msg.specs.declared.message.Message.TheVariants as message
use Rattle.rpc_msg.specs.declared.message.Query.{Query}
use Rattle.rpc_schema.specs.Choice.{is_offered}
use Rattle.rpc_schema.specs.declared.desc.Entry.{Entry}
use Rattle.rpc_schema.specs.declared.desc.Kind.{Kind}
use Rattle.rpc_schema.specs.declared.desc.Kind.TheVariants.{Plain, OneWay, Pipe, State}
use Rattle.rpc_schema.specs.declared.desc.RpcDesc.{RpcDesc}
use Rattle.rpc_log.specs.Logs.{responses_of}
use Rattle.rpc_talk.specs.Acts.{answer_too_long, failed_with, is_short, response, unimplemented}
use Rattle.rpc_talk.specs.Acts as acts
use Rattle.rpc_talk.specs.Parts.{is_stream, is_tracked, kind_parts}
use Rattle.rpc_talk.specs.Said.{Failed}
use Rattle.rpc_meeting.specs.Talks.{Common, Dispatch, Served, Talk, Nobody, Listener, Handler, answerer, answerer_by, find_query, goes_on_still, is_abort_query, is_begun, is_nil, is_stop, line_named, stops_one}
use Rattle.rpc_meeting.proofs.Calls.{Ask, Begins, Stops, IsCall, IsKnown, Owed, ask_by, asks_of, has_begun}
use Rattle.rpc_meeting.proofs.Carried.{IsAbortTo, IsAsking}
use Rattle.rpc_meeting.proofs.Heard.{ComesNext, IsAsked, asked, stops_begins}
use Rattle.rpc_meeting.proofs.Lines.{acted_one, call_parts, most, owed_at, stop_over, stop_timely}
use Rattle.rpc_meeting.proofs.Look.{no_true, some_is}
use Rattle.rpc_meeting.proofs.Marks.{CameTwice, IsMarked}
use Rattle.rpc_meeting.proofs.Owners.{IsOk}
use Rattle.rpc_pair.specs.Rules.{IsOfSchema}
use Rattle.rpc_pair.proofs.Calls.{line_answerer, line_here}
use Rattle.rpc_pair.proofs.Meets.{Meets}
use Rattle.rpc_pair.proofs.NewCalls.{query_same}
use Rattle.rpc_pair.proofs.Schemas.{schema_ok}
use Rattle.rpc_pair.proofs.Basics.{stream_tracked, three_true}

-- ---- procedures

-- the menu is no stream
line_of : (r : Common) (d : RpcDesc) → IsKnown r d → is_stream d.kind ≡ true → (e : Entry) × (line_named r.entries d.name d.version ≡ Some e) × (e.desc ≡ d)
line_of r d (inl menu) stream = absurd (let plain : false ≡ true = ap (λ (x : RpcDesc). is_stream x.kind) (sym menu) ∙ stream in cc)
line_of r d (inr line) stream = line

-- a call that was answered by an error has not begun
error_begun : (m : ℕ) (d : RpcDesc) (e : RpcError) → has_begun m d (answer.Error e ∷ []) ≡ true → ⊥
error_begun m d e begun = by d.kind begun
  where
    by : (kind : Kind) → not (is_nil (kind_parts kind (Failed e ∷ [])).parts) ≡ true → ⊥
    by Plain b = cc
    by OneWay b = cc
    by Pipe b = cc
    by State b = cc

none_begun : (m : ℕ) (d : RpcDesc) → has_begun m d [] ≡ true → ⊥
none_begun m d begun = by d.kind begun
  where
    by : (kind : Kind) → not (is_nil (kind_parts kind []).parts) ≡ true → ⊥
    by Plain b = cc
    by OneWay b = cc
    by Pipe b = cc
    by State b = cc

nobody_begun : (m : ℕ) (d : RpcDesc) (tag : List ℕ) (version : ℤ) (b : Bool) → has_begun m d ((if b then unimplemented tag version else failed_with answer_too_long) ∷ []) ≡ true → ⊥
nobody_begun m d tag version true begun = error_begun m d _ begun
nobody_begun m d tag version false begun = error_begun m d _ begun

-- ---- what came

one_twice : (a : Ask) (came : List Ask) → came ≡ a ∷ [] → CameTwice came → ⊥
one_twice a came one (x, y, later, two) = let line : a ∷ [] ≡ x ∷ (y ∷ later) = sym one ∙ two in cc

-- ---- how a stream stands that came once, and its abort next

-- what is so of its query: its line is answered, it has begun, and no abort stopped it
pub record IsStream (r : Common) (t : Talk) (d : RpcDesc) (id : ℤ) (p : Served) : Type 0 where
  pub entry : Entry
  pub here : line_named r.entries d.name d.version ≡ Some entry
  pub is_desc : entry.desc ≡ d
  pub offered : is_offered entry.side ≡ true
  pub found : find_query id t.queries ≡ Some p
  pub same : p.desc ≡ d
  pub stream : is_stream p.desc.kind ≡ true
  pub begun : is_begun p ≡ true
  pub unstopped : list_any is_stop p.acts ≡ false
  pub untold : p.told ≡ false
  pub stop : goes_on_still p ≡ true → goes_on_still (acted_one p acts.Stop) ≡ false

module _ (r : Common) (is : IsOfSchema r) (t : Talk) (came rest got : List Message) (meets : Meets r t came got) (q : Query) (cut : came ++ message.Query q ∷ rest ≡ t.ups)
    (a : IsAsking r q) (abort : IsAbortTo a.desc q) where
  ok : IsOk r
  ok = schema_ok r is

  -- the world reads it as an abort
  pub stops_it : is_abort_query r.entries q ≡ true
  stops_it = ap (is_abort_query r.entries) (query_same q a.desc.name _ a.desc.version a.tag a.version abort.1) ∙ ok.aborts a.desc q.id a.known abort.0

  stops_same : (tag name : List ℕ) (version v : ℤ) → Stops tag version ≡ Stops name v → (name ≡ tag) × (v ≡ version)
  stops_same tag name version v e =
      let one : name ≡ tag = cc in
      let two : v ≡ version = cc in
      (one, two)

  module _ (d : Dispatch) (asks_it : IsAsked r ok t came rest meets.sound q cut d) (one : asks_of r.entries q.id came ≡ Begins d.desc.name d.desc.version ∷ [])
      (name : d.desc.name ≡ a.desc.name) (version : d.desc.version ≡ a.desc.version) (n : ℕ) (is_cut : d.cut ≡ Some n) where
    call : IsCall r d (asks_of r.entries q.id t.ups) (asks_of r.entries q.id came) (find_query q.id t.queries) (responses_of q.id t.downs)
    call = asks_it.2

    -- its procedure is that of the abort
    same_line_desc : (e : Entry) → line_named r.entries a.desc.name a.desc.version ≡ Some e → e.desc ≡ a.desc → d.desc ≡ a.desc
    same_line_desc e here is_desc =
        let (other, there, is_other) = line_of r d.desc call.known (call.cut n is_cut).0 in
        let both : other ≡ e
        = some_is other e (sym there ∙ (ap (λ x. line_named r.entries x d.desc.version) name ∙ (ap (line_named r.entries a.desc.name) version ∙ here))) in
        sym is_other ∙ (ap (λ (x : Entry). x.desc) both ∙ is_desc)

    -- its line is answered, and so it has a query
    owed_offered : (e : Entry) (b : Bool) → is_offered e.side ≡ b → is_tracked e.desc.kind ≡ true → answerer r d.desc.name d.desc.version ≡ answerer_by (is_offered e.side) e.desc
        → (is_offered e.side ≡ true) × (p : Served) × (find_query q.id t.queries ≡ Some p)
    owed_offered e true side tracked by_it =
        let handler : answerer r d.desc.name d.desc.version ≡ Handler e.desc
        = by_it ∙ (ap (λ x. answerer_by x e.desc) side ∙ ap (λ x. if x then Handler e.desc else Listener) tracked) in
        let owed = subst (λ o. Owed o r d (find_query q.id t.queries) (responses_of q.id t.downs)) handler (call.after (Begins d.desc.name d.desc.version) [] one) in
        (side, owed.0, owed.1)
    owed_offered e false side tracked by_it =
        let nobody : answerer r d.desc.name d.desc.version ≡ Nobody = by_it ∙ ap (λ x. answerer_by x e.desc) side in
        let owed = subst (λ o. Owed o r d (find_query q.id t.queries) (responses_of q.id t.downs)) nobody (call.after (Begins d.desc.name d.desc.version) [] one) in
        absurd (nobody_begun (most r) d.desc d.desc.name d.desc.version (is_short (most r) (response d.id (unimplemented d.desc.name d.desc.version)))
        (ap (has_begun (most r) d.desc) (sym owed.1) ∙ (call.cut n is_cut).1))

    its_stream : (p : Served) × IsStream r t a.desc q.id p
    its_stream =
        let (e, here, is_desc) = line_of r a.desc a.known abort.0 in
        let desc_is : d.desc ≡ a.desc = same_line_desc e here is_desc in
        let by_it : answerer r d.desc.name d.desc.version ≡ answerer_by (is_offered e.side) e.desc
        = ap (λ x. answerer r x d.desc.version) (name ∙ sym a.tag) ∙ (ap (answerer r q.tag) (version ∙ sym a.version) ∙ line_answerer r is q a e (line_here r is q a e here)) in
        let tracked : is_tracked e.desc.kind ≡ true = ap (λ (x : RpcDesc). is_tracked x.kind) is_desc ∙ stream_tracked a.desc.kind abort.0 in
        let (offered, p, found) = owed_offered e (is_offered e.side) refl tracked by_it in
        let its : IsCall r d (asks_of r.entries q.id t.ups) (asks_of r.entries q.id came) (Some p) (responses_of q.id t.downs)
        = subst (λ o. IsCall r d (asks_of r.entries q.id t.ups) (asks_of r.entries q.id came) o (responses_of q.id t.downs)) found call in
        let (same, said_is, had) = owed_at r d p (asks_of r.entries q.id t.ups) (asks_of r.entries q.id came) (responses_of q.id t.downs) its in
        let begun : is_begun p ≡ true
        = ap (λ x. not (is_nil x.parts)) (sym (call_parts r d p (asks_of r.entries q.id t.ups) (asks_of r.entries q.id came) (responses_of q.id t.downs) its))
        ∙ (call.cut n is_cut).1 in
        let mark : IsMarked p (asks_of r.entries q.id came) = meets.marks q.id p found in
        let unstopped : list_any is_stop p.acts ≡ false = never (list_any is_stop p.acts) (λ s. one_twice _ (asks_of r.entries q.id came) one (mark.stop s)) in
        let stream : is_stream p.desc.kind ≡ true = ap (λ (x : RpcDesc). is_stream x.kind) (same ∙ desc_is) ∙ abort.0 in (
          p,
          record {
            entry = e;
            here = here;
            is_desc = is_desc;
            offered = offered;
            found = found;
            same = same ∙ desc_is;
            stream = stream;
            begun = begun;
            unstopped = unstopped;
            untold = never p.told (λ u. no_true (sym (mark.told u) ∙ unstopped));
            stop = λ going.
                let stops : stops_one p ≡ true = three_true (is_stream p.desc.kind) (goes_on_still p) (is_begun p) stream going begun in
                stop_over (most r) p had going begun stream
                (stop_timely r d p ok stops (asks_of r.entries q.id t.ups) (asks_of r.entries q.id came) (responses_of q.id t.downs) its);
          },
        )
      where
        never : (b : Bool) → (b ≡ true → ⊥) → b ≡ false
        never true not_so = absurd (not_so refl)
        never false not_so = refl

  -- the query of an abort that comes
  next_stream : (d : Dispatch) (asks_it : IsAsked r ok t came rest meets.sound q cut d)
      → ComesNext (asks_of r.entries q.id came) (ask_by (is_abort_query r.entries q) q.tag q.version) d.desc.name d.desc.version d.cut
      → (p : Served) × IsStream r t a.desc q.id p
  next_stream d asks_it (inl (none, begins)) =
      absurd (stops_begins q.tag d.desc.name q.version d.desc.version (ap (λ b. ask_by b q.tag q.version) (sym stops_it) ∙ begins))
  next_stream d asks_it (inr (one, ends, n, is_cut)) =
      let (name, version) = stops_same q.tag d.desc.name q.version d.desc.version (ap (λ b. ask_by b q.tag q.version) (sym stops_it) ∙ ends) in
      its_stream d asks_it one (name ∙ a.tag) (version ∙ a.version) n is_cut

  -- the query of an abort that comes is a stream that has begun, and that no abort stopped
  pub abort_stream : (p : Served) × IsStream r t a.desc q.id p
  abort_stream = let (d, asks_it) = asked r ok t came rest meets.sound q cut in next_stream d asks_it asks_it.3
