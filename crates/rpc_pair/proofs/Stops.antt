-- An abort that comes to a server stops the stream of its query where that goes on, and does nothing where it is over.
use Rattle.std.proofs.Common.{◌≡◌, refl, sym, ap, ◌∙◌, subst, ℕ, ◌+◌, Bool, true, false, not, ◌&&◌, if◌then◌else◌, List, [], ◌∷◌, ◌++◌, map, arith}
use Rattle.std.specs.Prelude.{Option, Some, None, Result}
use Rattle.std.specs.List.{list_any}
use Rattle.std.specs.Option.{option_map}
use Rattle.std.specs.Ordering.{int_eq}
use Rattle.std.proofs.lemmas.List.{append-nil}
use Rattle.std.proofs.lemmas.List.Folds.{list_any-append}
use Rattle.rpc_msg.specs.declared.message.Message.{Message}
use Rattle.rpc_msg.specs.declared.message.Message.TheVariants as message
use Rattle.rpc_msg.specs.declared.message.Query.{Query}
use Rattle.rpc_msg.specs.declared.shared.CloseCause.{CloseCause}
use Rattle.rpc_end.specs.Ends.{EndState}
use Rattle.rpc_talk.specs.Acts.{answer_by, response}
use Rattle.rpc_talk.specs.Acts as acts
use Rattle.rpc_meeting.specs.Talks.{Common, Served, Talk, answerer, asked_by, find_query, goes_on_still, heard_up, is_begun, is_stop, is_stopped, open_queries, stop_query, stopped, stops_one, with_act, with_answer}
use Rattle.rpc_meeting.proofs.Carried.{IsAbortTo, IsAsking}
use Rattle.rpc_meeting.proofs.Lines.{acted_one}
use Rattle.rpc_meeting.proofs.Look.{find_key, find_map, find_map_other}
use Rattle.rpc_meeting.proofs.Sound.{act_other, act_same, query_key}
use Rattle.rpc_server.specs.Hearing.{heard_query}
use Rattle.rpc_server.specs.Servers.{ServerState, Does, query_heard}
use Rattle.rpc_server.specs.Tables.{forgotten, open_count, standing}
use Rattle.rpc_server.specs.declared.arrival.Arrival.{Arrival}
use Rattle.rpc_server.specs.declared.arrival.Arrival.TheVariants as arrival
use Rattle.rpc_server.specs.declared.hearing.Heard.TheVariants as does
use Rattle.rpc_server.specs.declared.table.Standing.TheVariants.{Nowhere, Open, Stopped}
use Rattle.rpc_pair.specs.Rules.{IsOfSchema, rules_of}
use Rattle.rpc_pair.specs.Stands.{HearsAlong, ServerStands, line_place, standing_as, standing_of_query}
use Rattle.rpc_pair.proofs.Aborts.{IsStream, abort_stream, stops_it}
use Rattle.rpc_pair.proofs.Calls.{over_heard, stop_heard}
use Rattle.rpc_pair.proofs.Hearing.{hears_query, query_is}
use Rattle.rpc_pair.proofs.Meets.{Meets}
use Rattle.rpc_pair.proofs.Tables.{one_is, one_open, open_changed}
use Rattle.rpc_pair.proofs.Basics.{or_true}

-- ---- how a query stands, by its tests

module _ (r : Common) (p : Served) where
  -- one that goes on is open
  pub going_stands : goes_on_still p ≡ true → standing_of_query r p ≡ Open (line_place r.entries p.desc) (is_begun p)
  going_stands e = ap (λ b. if b then Open (line_place r.entries p.desc) (is_begun p) else if is_stopped p then Stopped else Nowhere) e

  -- one that is over is stopped or nowhere
  pub over_stands : goes_on_still p ≡ false → standing_of_query r p ≡ (if is_stopped p then Stopped else Nowhere)
  over_stands e = ap (λ b. if b then Open (line_place r.entries p.desc) (is_begun p) else if is_stopped p then Stopped else Nowhere) e

  -- nowhere, where no abort stopped it or that was told
  pub quiet_stands : goes_on_still p ≡ false → is_stopped p ≡ false → standing_of_query r p ≡ Nowhere
  quiet_stands e s = over_stands e ∙ ap (λ b. if b then Stopped else Nowhere) s

  -- stopped, where an abort did that and it was not told
  pub stopped_stands : goes_on_still p ≡ false → is_stopped p ≡ true → standing_of_query r p ≡ Stopped
  stopped_stands e s = over_stands e ∙ ap (λ b. if b then Stopped else Nowhere) s

module _ (r : Common) (is : IsOfSchema r) (s : ServerState) (t : Talk) (came rest got : List Message) (meets : Meets r t came got) (stands : ServerStands r s t)
    (now : ℕ) (link : EndState) (result : Result (Option Arrival) CloseCause) (new : ServerState) (q : Query) (cut : came ++ message.Query q ∷ rest ≡ t.ups)
    (did : Does s now link (message.Query q) result new) (a : IsAsking r q) (abort : IsAbortTo a.desc q) where
  module _ (p : Served) (its : IsStream r t a.desc q.id p) where
    key : p.id ≡ q.id
    key = find_key query_key q.id t.queries p its.found

    stopping : goes_on_still p ≡ true → stops_one p ≡ true
    stopping going = ap (λ b. b && goes_on_still p && is_begun p) its.stream ∙ (ap (λ b. true && b && is_begun p) going ∙ its.begun)

    -- one that goes on
    open_here : goes_on_still p ≡ true → standing_as r (find_query q.id t.queries) ≡ Open (line_place r.entries a.desc) true
    open_here going =
        ap (standing_as r) its.found
        ∙ (going_stands r p going ∙ (ap (Open (line_place r.entries p.desc)) its.begun ∙ ap (λ d. Open (line_place r.entries d) true) its.same))

    does_stop : goes_on_still p ≡ true → query_heard s q ≡ does.Stopped
    does_stop going =
        query_is r s t stands q
        ∙ (ap (λ x. heard_query (rules_of r) x (open_queries t.queries) q) (open_here going)
        ∙ stop_heard r is q a abort (open_queries t.queries) its.entry its.here its.is_desc its.offered)

    acted_here : find_query q.id (map (with_act p.id acts.Stop) t.queries) ≡ Some (acted_one p acts.Stop)
    acted_here = find_map query_key (with_act p.id acts.Stop) (λ x. refl) q.id t.queries ∙ (ap (option_map (with_act p.id acts.Stop)) its.found ∙ ap Some (act_same acts.Stop p))

    is_stopped_now : is_stopped (acted_one p acts.Stop) ≡ true
    is_stopped_now =
        ap (λ b. b && not p.told) (list_any-append is_stop p.acts (acts.Stop ∷ []) ∙ or_true (list_any is_stop p.acts))
        ∙ ap (λ b. true && not b) its.untold

    others : (x : Served) → int_eq q.id x.id ≡ false → with_act p.id acts.Stop x ≡ x
    others x e = act_other p.id x.id acts.Stop (ap (λ i. int_eq i x.id) key ∙ e) x refl

    stop_goes : goes_on_still p ≡ true → HearsAlong r link now t (with_answer t p acts.Stop) result new
    stop_goes going =
        hears_query r s t stands now link q result new did does.Stopped (does_stop going) (with_answer t p acts.Stop) (Some (arrival.Stopped q.id)) refl
        (sym (ap (standing_as r) acted_here ∙ stopped_stands r (acted_one p acts.Stop) (its.stop going) is_stopped_now))
        (λ other apart. find_map_other query_key (with_act p.id acts.Stop) (λ x. refl) other t.queries
        (act_other p.id other acts.Stop (ap (λ i. int_eq i other) key ∙ apart)))
        (omega (
          arith,
          open_changed q.id (with_act p.id acts.Stop) (λ x. refl) others t.queries p meets.sound.apart its.found,
          ap open_count (stands.table q.id ∙ open_here going),
          one_is p true going,
          ap one_open (act_same acts.Stop p) ∙ one_is (acted_one p acts.Stop) false (its.stop going),
        ))
        (ap (λ i. t.downs ++ response i (answer_by p.desc acts.Stop) ∷ []) key)

    -- one that is over
    nowhere_here : goes_on_still p ≡ false → standing_as r (find_query q.id t.queries) ≡ Nowhere
    nowhere_here over = ap (standing_as r) its.found ∙ quiet_stands r p over (ap (λ b. b && not p.told) its.unstopped)

    does_nothing : goes_on_still p ≡ false → query_heard s q ≡ does.Ignored
    does_nothing over =
        query_is r s t stands q
        ∙ (ap (λ x. heard_query (rules_of r) x (open_queries t.queries) q) (nowhere_here over)
        ∙ over_heard r is q a abort (open_queries t.queries) its.entry its.here its.is_desc its.offered)

    over_goes : goes_on_still p ≡ false → HearsAlong r link now t t result new
    over_goes over =
        let nowhere : standing s.table q.id ≡ Nowhere = stands.table q.id ∙ nowhere_here over in
        hears_query r s t stands now link q result new did does.Ignored (does_nothing over) t None refl (ap forgotten nowhere ∙ sym (nowhere_here over)) (λ other apart. refl)
        (ap (λ x. open_queries t.queries + open_count x) nowhere ∙ sym (ap (λ x. open_queries t.queries + open_count (forgotten x)) nowhere))
        (sym (append-nil t.downs))

    stream_goes : (b : Bool) → goes_on_still p ≡ b → HearsAlong r link now t (if stops_one p then with_answer t p acts.Stop else t) result new
    stream_goes true going =
        subst (λ to. HearsAlong r link now t to result new) (sym (ap (λ b. if b then with_answer t p acts.Stop else t) (stopping going))) (stop_goes going)
    stream_goes false over =
        subst (λ to. HearsAlong r link now t to result new)
        (sym (ap (λ b. if b then with_answer t p acts.Stop else t)
        (ap (λ b. b && goes_on_still p && is_begun p) its.stream ∙ ap (λ b. true && b && is_begun p) over)))
        (over_goes over)

    goes_here : HearsAlong r link now t (stopped t q.id) result new
    goes_here = subst (λ o. HearsAlong r link now t (stop_query t o) result new) (sym its.found) (stream_goes (goes_on_still p) refl)

  -- An abort that comes: the server does what the world does, and goes along.
  pub abort_goes : HearsAlong r link now t (heard_up r t (message.Query q)) result new
  abort_goes =
      let (p, its) = abort_stream r is t came rest got meets q cut a abort in
      subst (λ to. HearsAlong r link now t to result new)
      (sym (ap (λ b. if b then stopped t q.id else asked_by (answerer r q.tag q.version) r t q) (stops_it r is t came rest got meets q cut a abort)))
      (goes_here p its)
