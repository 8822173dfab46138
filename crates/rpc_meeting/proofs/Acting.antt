-- What handlers do keeps what is so of a world.
use Rattle.std.proofs.Common.{◌≡◌, refl, sym, ap, ◌∙◌, subst, Bool, true, false, not, ◌&&◌, [], ◌∷◌}
use Rattle.std.specs.Prelude.{Option, Some, None}
use Rattle.std.proofs.lemmas.List.{append-nil}
use Rattle.rpc_schema.specs.declared.desc.RpcDesc.{RpcDesc}
use Rattle.rpc_log.specs.Logs.{responses_of}
use Rattle.rpc_talk.specs.Acts.{Act, answer_by, is_short, response, suits}
use Rattle.rpc_meeting.specs.Deeds.{Refusal, Closed, NoSuch, Stopped, TooLong}
use Rattle.rpc_meeting.specs.Steps.{Refused, act_open, act_query, act_server, done, may_be_long, refused, wrong_time}
use Rattle.rpc_meeting.specs.Talks.{Common, Dispatch, Served, with_answer, find_made, find_query, is_begun, goes_on_still, is_stop, is_stopped, told_stopped}
use Rattle.rpc_meeting.specs.Worlds.{World, arrived, is_shut, set_talk}
use Rattle.rpc_meeting.proofs.Asking.{if_good}
use Rattle.rpc_meeting.proofs.Calls.{IsCall, IsKnown, IsLine, asks_of}
use Rattle.rpc_meeting.proofs.Carried.{asked_range, carried_acted, carried_told}
use Rattle.rpc_meeting.proofs.Goods.{IsGood, good_talk}
use Rattle.rpc_meeting.proofs.Lines.{most, owed_at}
use Rattle.rpc_meeting.proofs.Look.{find_key, some_is}
use Rattle.rpc_meeting.proofs.Marks.{marks_acted, marks_told}
use Rattle.rpc_meeting.proofs.Owners.{IsGiven, IsOk}
use Rattle.rpc_meeting.proofs.Sound.{owner_of_query, query_key, sound_acted, sound_told}
use Rattle.rpc_meeting.proofs.Timely.{timely}

not_long : (a b : Bool) → (a && not b) ≡ false → a ≡ true → b ≡ true
not_long true true e is = refl
not_long true false e is = absurd cc
not_long false b e is = absurd cc

module _ (r : Common) (ok : IsOk r) (w : World) (g : IsGood r w) where
  -- the call of a query that the server has
  query_call : (q : Served) → find_query q.id w.talk.queries ≡ Some q
      → (d : Dispatch) × (find_made q.id w.talk.made ≡ Some d)
      × IsCall r d (asks_of r.entries q.id w.talk.ups) (asks_of r.entries q.id (arrived w)) (Some q) (responses_of q.id w.talk.downs)
  query_call q here =
      owner_of_query r (find_made q.id w.talk.made) (asks_of r.entries q.id w.talk.ups) (asks_of r.entries q.id (arrived w)) q (responses_of q.id w.talk.downs)
      (subst (λ o. IsLine r (find_made q.id w.talk.made) (asks_of r.entries q.id w.talk.ups) (asks_of r.entries q.id (arrived w)) o (responses_of q.id w.talk.downs)) here (g.sound.lines q.id))

  -- a handler's act, on the query of this dispatch
  module _ (d : Dispatch) (own : find_made d.id w.talk.made ≡ Some d) (act : Act) (fits : suits act d.desc.kind ≡ true) (given : IsGiven (most r) d.desc act)
      (handles : is_stop act ≡ false) where
    good_open : (q : Served) → find_query d.id w.talk.queries ≡ Some q → goes_on_still q ≡ true → (o : Option Refusal) → wrong_time act (is_begun q) ≡ o
        → IsGood r (act_open r w q act o).world
    good_open q here going (Some why) time = g
    good_open q here going None time =
        if_good r (may_be_long act && not (is_short (most r) (response q.id (answer_by q.desc act)))) (refused w TooLong) (done (set_talk w (with_answer w.talk q act))) (λ e. g) (λ e. acts e)
      where
        key : q.id ≡ d.id
        key = find_key query_key d.id w.talk.queries q here

        own_query : find_query q.id w.talk.queries ≡ Some q
        own_query = ap (λ i. find_query i w.talk.queries) key ∙ here

        acts : (may_be_long act && not (is_short (most r) (response q.id (answer_by q.desc act)))) ≡ false → IsGood r (set_talk w (with_answer w.talk q act))
        acts e =
            let (c, made_is, call) = query_call q own_query in
            let same_call : c ≡ d = some_is c d (sym made_is ∙ (ap (λ i. find_made i w.talk.made) key ∙ own)) in
            let (same_desc, said_is, had) = owed_at r c q (asks_of r.entries q.id w.talk.ups) (asks_of r.entries q.id (arrived w)) (responses_of q.id w.talk.downs) call in
            let desc_is : q.desc ≡ d.desc = same_desc ∙ ap (λ (x : Dispatch). x.desc) same_call in
            let known : IsKnown r q.desc = subst (IsKnown r) (sym same_desc) call.known in
            good_talk r w g (with_answer w.talk q act) ([], sym (append-nil w.talk.ups)) (response q.id (answer_by q.desc act) ∷ [], refl)
            (sound_acted r w.talk (arrived w) g.sound q act own_query going
            (timely r ok q act known (subst (λ x. IsGiven (most r) x act) (sym desc_is) given) going (ap (λ (x : RpcDesc). suits act x.kind) desc_is ∙ fits) time
            (not_long (may_be_long act) (is_short (most r) (response q.id (answer_by q.desc act))) e)))
            (marks_acted r w.talk (arrived w) g.marks q own_query act handles)
            (carried_acted r w.talk g.carried q act (asked_range r q.id w.talk.ups _ _ g.carried.ups call.asks_are) (not_long (may_be_long act) (is_short (most r) (response q.id (answer_by q.desc act))) e)) g.few

    good_told : (q : Served) → find_query d.id w.talk.queries ≡ Some q → is_stopped q ≡ true → IsGood r (set_talk w (told_stopped w.talk q.id))
    good_told q here stops =
        let key : q.id ≡ d.id = find_key query_key d.id w.talk.queries q here in
        good_talk r w g (told_stopped w.talk q.id) ([], sym (append-nil w.talk.ups)) ([], sym (append-nil w.talk.downs))
        (sound_told r w.talk (arrived w) g.sound q (ap (λ i. find_query i w.talk.queries) key ∙ here))
        (marks_told r w.talk (arrived w) g.marks q (ap (λ i. find_query i w.talk.queries) key ∙ here) stops) (carried_told r w.talk g.carried q.id) g.few

    good_query : (o : Option Served) → find_query d.id w.talk.queries ≡ o → IsGood r (act_query r w act o).world
    good_query None here = g
    good_query (Some q) here =
        if_good r (goes_on_still q) (act_open r w q act (wrong_time act (is_begun q))) _ (λ going. good_open q here going (wrong_time act (is_begun q)) refl) (λ e.
        if_good r (is_stopped q) (record { world = set_talk w (told_stopped w.talk q.id); outcome = Refused Stopped }) (refused w NoSuch) (λ s. good_told q here s) (λ s. g))

    pub good_server : IsGood r (act_server r w d.id act).world
    good_server = if_good r (is_shut w.server) (refused w Closed) (act_query r w act (find_query d.id w.talk.queries)) (λ e. g) (λ e. good_query (find_query d.id w.talk.queries) refl)
