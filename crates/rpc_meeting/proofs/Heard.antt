-- A message that has wholly moved to the server keeps what is so of every id.
use Rattle.std.proofs.Common.{◌≡◌, refl, sym, ap, ◌∙◌, subst, ℕ, ℤ, Bool, true, false, if◌then◌else◌, List, [], ◌∷◌, ◌++◌, map, append_assoc, ◌⊎◌, inl, inr}
use Rattle.std.specs.Prelude.{Option, Some, None}
use Rattle.std.specs.Option.{option_map}
use Rattle.std.specs.Ordering.{int_eq}
use Rattle.std.proofs.lemmas.List.{append-nil}
use Rattle.readers.specs.Reader.{Each}
use Rattle.rpc_msg.specs.declared.message.Query.{Query}
use Rattle.rpc_msg.specs.declared.message.Message.{Message}
use Rattle.rpc_msg.specs.declared.message.Message.TheVariants as message
use Rattle.rpc_schema.specs.declared.desc.RpcDesc.{RpcDesc}
use Rattle.rpc_log.specs.Logs.{responses_of}
use Rattle.rpc_talk.specs.Acts.{answer_by, fitting, response, unimplemented}
use Rattle.rpc_talk.specs.Acts as acts
use Rattle.rpc_meeting.specs.Talks.{Common, Dispatch, Served, Talk, Answerer, Menu, Nobody, Listener, Handler, with_answer, asked_by, find_made, find_query, query_heard_up, heard_up, is_abort_query, menu_answer, new_query, nobody_answer, answerer, stopped, stop_query, stops_one, with_act}
use Rattle.rpc_meeting.proofs.Calls.{Ask, Begins, Stops, IsCall, IsLine, LineAt, ask_by, ask_for, asks_cut, asks_of, is_open_one, stops_query}
use Rattle.rpc_meeting.proofs.Filters.{answers_other, answers_same, asks_join, asks_other, asks_response, asks_same}
use Rattle.rpc_meeting.proofs.Lines.{acted_one, call_arrives, call_came, call_over, kept_by, most, owed_at, said_to, stop_open, stop_timely, stop_over}
use Rattle.rpc_meeting.proofs.Look.{apart_ids, find_key, find_map, find_push_new, find_push_none, find_push_other, same}
use Rattle.rpc_meeting.proofs.Owners.{IsOk}
use Rattle.rpc_meeting.proofs.Sound.{Apart, IsNumbered, IsSound, act_same, query_key, same_line, sound_acted, tells}

-- ---- what has come of a call, when more of it comes

-- nothing, and its call comes; or its call, and its abort comes
abbrev pub ComesNext : List Ask → Ask → List ℕ → ℤ → Option ℕ → Type 0
ComesNext xs a tag version cut =
    ((xs ≡ []) × (a ≡ Begins tag version)) ⊎ ((xs ≡ Begins tag version ∷ []) × (a ≡ Stops tag version) × (n : ℕ) × (cut ≡ Some n))

comes_next : (xs ys : List Ask) (a : Ask) (d : RpcDesc) (cut : Option ℕ) → xs ++ a ∷ ys ≡ Begins d.name d.version ∷ asks_cut cut d → ComesNext xs a d.name d.version cut
comes_next [] ys a d cut e = inl (refl, cc)
comes_next (x ∷ []) ys a d None e = absurd (let line : a ∷ ys ≡ [] = cc in none_left line)
  where
    none_left : a ∷ ys ≡ [] → ⊥
    none_left e = cc
comes_next (x ∷ []) ys a d (Some n) e =
    let line : a ∷ ys ≡ Stops d.name d.version ∷ [] = cc in
    let first : x ≡ Begins d.name d.version = cc in
    inr (ap (λ y. y ∷ []) first, cc, n, refl)
comes_next (x ∷ (y ∷ xs)) ys a d None e = absurd (let line : y ∷ (xs ++ a ∷ ys) ≡ [] = cc in none_left line)
  where
    none_left : y ∷ (xs ++ a ∷ ys) ≡ [] → ⊥
    none_left e = cc
comes_next (x ∷ (y ∷ xs)) ys a d (Some n) e = absurd (let line : y ∷ (xs ++ a ∷ ys) ≡ Stops d.name d.version ∷ [] = cc in
    let line2 : xs ++ a ∷ ys ≡ [] = cc in none_left xs line2)
  where
    none_left : (zs : List Ask) → zs ++ a ∷ ys ≡ [] → ⊥
    none_left [] e = cc
    none_left (z ∷ zs) e = cc

begins_is : (tag name : List ℕ) (version v : ℤ) → Begins tag version ≡ Begins name v → (tag ≡ name) × (version ≡ v)
begins_is tag name version v e =
    let one : tag ≡ name = cc in
    let two : version ≡ v = cc in
    (one, two)

pub stops_begins : (tag name : List ℕ) (version v : ℤ) → Stops tag version ≡ Begins name v → ⊥
stops_begins tag name version v e = cc

pub begins_stops : (tag name : List ℕ) (version v : ℤ) → Begins tag version ≡ Stops name v → ⊥
begins_stops tag name version v e = cc

module _ (r : Common) (ok : IsOk r) (t : Talk) (came rest : List Message) (s : IsSound r t came) where
  -- ---- messages that ask nothing

  sound_quiet : (a : Message) → ((id : ℤ) → ask_for r.entries id a ≡ None) → IsSound r t (came ++ a ∷ [])
  sound_quiet a none = record {
    lines = λ id. same_line r (find_made id t.made) (find_made id t.made) (asks_of r.entries id t.ups) (asks_of r.entries id t.ups)
        (asks_of r.entries id came) (asks_of r.entries id (came ++ a ∷ [])) (find_query id t.queries) (find_query id t.queries) (responses_of id t.downs) (responses_of id t.downs)
        refl refl (asks_response r.entries id came a (none id)) refl refl (s.lines id);
    own = s.own;
    numbered = s.numbered;
    apart = s.apart;
  }

  -- ---- a query

  module _ (q : Query) (cut : came ++ message.Query q ∷ rest ≡ t.ups) where
    asks_now : asks_of r.entries q.id t.ups ≡ asks_of r.entries q.id came ++ ask_by (is_abort_query r.entries q) q.tag q.version ∷ asks_of r.entries q.id rest
    asks_now =
        ap (asks_of r.entries q.id) (sym cut ∙ sym (append_assoc came (message.Query q ∷ []) rest))
        ∙ (asks_join r.entries q.id (came ++ message.Query q ∷ []) rest
        ∙ (ap (λ xs. xs ++ asks_of r.entries q.id rest) (asks_same r.entries q.id came q refl)
        ∙ append_assoc (asks_of r.entries q.id came) (ask_by (is_abort_query r.entries q) q.tag q.version ∷ []) (asks_of r.entries q.id rest)))

    some_asked : (xs ys : List Ask) (a : Ask) → xs ++ a ∷ ys ≡ [] → ⊥
    some_asked [] ys a e = cc
    some_asked (x ∷ xs) ys a e = cc

    -- its dispatch was made
    asked_call : (o : Option Dispatch) → find_made q.id t.made ≡ o
        → (d : Dispatch) × (find_made q.id t.made ≡ Some d)
        × IsCall r d (asks_of r.entries q.id t.ups) (asks_of r.entries q.id came) (find_query q.id t.queries) (responses_of q.id t.downs)
    asked_call None e =
        let line = subst (λ o. IsLine r o (asks_of r.entries q.id t.ups) (asks_of r.entries q.id came) (find_query q.id t.queries) (responses_of q.id t.downs)) e (s.lines q.id) in
        absurd (some_asked (asks_of r.entries q.id came) (asks_of r.entries q.id rest) (ask_by (is_abort_query r.entries q) q.tag q.version) (sym asks_now ∙ line.0))
    asked_call (Some d) e =
        (d, e, subst (λ o. IsLine r o (asks_of r.entries q.id t.ups) (asks_of r.entries q.id came) (find_query q.id t.queries) (responses_of q.id t.downs)) e (s.lines q.id))

    abbrev pub IsAsked : Dispatch → Type 0
    IsAsked d = (find_made q.id t.made ≡ Some d) × (d.id ≡ q.id)
        × IsCall r d (asks_of r.entries q.id t.ups) (asks_of r.entries q.id came) (find_query q.id t.queries) (responses_of q.id t.downs)
        × ComesNext (asks_of r.entries q.id came) (ask_by (is_abort_query r.entries q) q.tag q.version) d.desc.name d.desc.version d.cut

    pub asked : (d : Dispatch) × IsAsked d
    asked =
        let (d, here, call) = asked_call (find_made q.id t.made) refl in (
          d,
          (
            here,
            find_key (λ (x : Dispatch). x.id) q.id t.made d here,
            call,
            comes_next (asks_of r.entries q.id came) (asks_of r.entries q.id rest) (ask_by (is_abort_query r.entries q) q.tag q.version) d.desc d.cut (sym asks_now ∙ call.asks_are),
          ),
        )

    -- ---- its abort

    -- nothing changes but that it came, where no query of it is open
    sound_came : is_abort_query r.entries q ≡ true → is_open_one (find_query q.id t.queries) ≡ false → IsSound r t (came ++ message.Query q ∷ [])
    sound_came stops over = record {
      lines = λ id. came_line id (tells q.id id);
      own = s.own;
      numbered = s.numbered;
      apart = s.apart;
    }
      where
        own_line : (d : Dispatch) → IsAsked d → LineAt r t (came ++ message.Query q ∷ []) q.id
        own_line d (here, key, call, inl (none, is)) = absurd (stops_begins q.tag d.desc.name q.version d.desc.version (ap (λ b. ask_by b q.tag q.version) (sym stops) ∙ is))
        own_line d (here, key, call, inr (one, is, n, is_cut)) =
            subst (λ o. IsLine r o (asks_of r.entries q.id t.ups) (asks_of r.entries q.id (came ++ message.Query q ∷ [])) (find_query q.id t.queries) (responses_of q.id t.downs)) (sym here)
            (subst (λ xs. IsLine r (Some d) (asks_of r.entries q.id t.ups) xs (find_query q.id t.queries) (responses_of q.id t.downs)) (sym (asks_same r.entries q.id came q refl))
            (call_came r d (asks_of r.entries q.id t.ups) (asks_of r.entries q.id came) (find_query q.id t.queries) (responses_of q.id t.downs)
            (Begins d.desc.name d.desc.version) (ask_by (is_abort_query r.entries q) q.tag q.version) call one over))

        came_line : (id : ℤ) → (int_eq q.id id ≡ true) ⊎ (int_eq q.id id ≡ false) → LineAt r t (came ++ message.Query q ∷ []) id
        came_line id (inl e) = subst (LineAt r t (came ++ message.Query q ∷ [])) (same q.id id e) (own_line asked.0 asked.1)
        came_line id (inr e) =
            same_line r (find_made id t.made) (find_made id t.made) (asks_of r.entries id t.ups) (asks_of r.entries id t.ups)
            (asks_of r.entries id came) (asks_of r.entries id (came ++ message.Query q ∷ [])) (find_query id t.queries) (find_query id t.queries) (responses_of id t.downs) (responses_of id t.downs)
            refl refl (asks_other r.entries id came q e) refl refl (s.lines id)

    -- ---- its call

    -- its answer, and its query at the server
    apart_push : (qs : List Served) (p : Served) → find_query p.id qs ≡ None → Apart qs → Apart (qs ++ p ∷ [])
    apart_push [] p none a = (refl, tt)
    apart_push (x ∷ qs) p none (first, later) = by (int_eq x.id p.id) refl none (apart_push qs p)
      where
        by : (b : Bool) → int_eq x.id p.id ≡ b → (if b then Some x else find_query p.id qs) ≡ None → (find_query p.id qs ≡ None → Apart qs → Apart (qs ++ p ∷ [])) → Apart (x ∷ (qs ++ p ∷ []))
        by true at none rest = absurd cc
        by false at none rest =
            (find_push_none query_key x.id qs (p ∷ []) first ∙ ap (λ b. if b then Some p else None) (turned (int_eq p.id x.id) refl), rest none later)
          where
            turned : (b : Bool) → int_eq p.id x.id ≡ b → int_eq p.id x.id ≡ false
            turned true e = absurd (apart_ids x.id p.id at (sym (same p.id x.id e)))
            turned false e = e

    -- who answers it
    module _ (begins : is_abort_query r.entries q ≡ false) where
      pub own_owner : (d : Dispatch) → IsAsked d → (asks_of r.entries q.id came ≡ []) × (q.tag ≡ d.desc.name) × (q.version ≡ d.desc.version)
      own_owner d (here, key, call, inl (none, is)) =
          let (tag, version) = begins_is q.tag d.desc.name q.version d.desc.version (ap (λ b. ask_by b q.tag q.version) (sym begins) ∙ is) in
          (none, tag, version)
      own_owner d (here, key, call, inr (one, is, n, is_cut)) = absurd (begins_stops q.tag d.desc.name q.version d.desc.version (ap (λ b. ask_by b q.tag q.version) (sym begins) ∙ is))

      pub same_owner : (d : Dispatch) → IsAsked d → answerer r d.desc.name d.desc.version ≡ answerer r q.tag q.version
      same_owner d is =
          let (none, tag, version) = own_owner d is in
          ap (λ x. answerer r x d.desc.version) (sym tag) ∙ ap (answerer r q.tag) (sym version)

      -- what it adds to the answers of its id, and which query is kept of it
      added : (o : Answerer) (d : Dispatch) → IsAsked d → responses_of q.id (asked_by o r t q).downs ≡ responses_of q.id t.downs ++ said_to r d ok o
      added Menu d (here, key, call, next) = answers_same q.id t.downs (menu_answer r q.id) ∙ ap (λ i. responses_of q.id t.downs ++ menu_answer r i ∷ []) (sym key)
      added Nobody d (here, key, call, next) =
          let (none, tag, version) = own_owner d (here, key, call, next) in
          answers_same q.id t.downs (nobody_answer r q)
          ∙ (ap (λ i. responses_of q.id t.downs ++ fitting (most r) i (unimplemented q.tag q.version) ∷ []) (sym key)
          ∙ (ap (λ x. responses_of q.id t.downs ++ fitting (most r) d.id (unimplemented x q.version) ∷ []) tag
          ∙ ap (λ x. responses_of q.id t.downs ++ fitting (most r) d.id (unimplemented d.desc.name x) ∷ []) version))
      added Listener d is = sym (append-nil (responses_of q.id t.downs))
      added (Handler desc) d is = sym (append-nil (responses_of q.id t.downs))

      none_there : (d : Dispatch) → IsAsked d → find_query q.id t.queries ≡ None
      none_there d (here, key, call, next) = (call.before (own_owner d (here, key, call, next)).0).0

      kept : (o : Answerer) (d : Dispatch) → IsAsked d → find_query q.id (asked_by o r t q).queries ≡ kept_by r d ok o
      kept Menu d is = none_there d is
      kept Nobody d is = none_there d is
      kept Listener d is = none_there d is
      kept (Handler desc) d is =
          find_push_new query_key q.id t.queries (new_query q desc) (none_there d is) refl
          ∙ ap (λ i. Some (record { id = i; desc = desc; acts = []; told = false })) (sym is.1)

      -- nothing else
      same_made : (o : Answerer) (id : ℤ) → find_made id (asked_by o r t q).made ≡ find_made id t.made
      same_made Menu id = refl
      same_made Nobody id = refl
      same_made Listener id = refl
      same_made (Handler desc) id = refl

      same_ups : (o : Answerer) → (asked_by o r t q).ups ≡ t.ups
      same_ups Menu = refl
      same_ups Nobody = refl
      same_ups Listener = refl
      same_ups (Handler desc) = refl

      other_query : (o : Answerer) (id : ℤ) → int_eq q.id id ≡ false → find_query id (asked_by o r t q).queries ≡ find_query id t.queries
      other_query Menu id e = refl
      other_query Nobody id e = refl
      other_query Listener id e = refl
      other_query (Handler desc) id e = find_push_other query_key id t.queries (new_query q desc) e

      other_answers : (o : Answerer) (id : ℤ) → int_eq q.id id ≡ false → responses_of id (asked_by o r t q).downs ≡ responses_of id t.downs
      other_answers Menu id e = answers_other id q.id t.downs (menu_answer r q.id) e
      other_answers Nobody id e = answers_other id q.id t.downs (nobody_answer r q) e
      other_answers Listener id e = refl
      other_answers (Handler desc) id e = refl

      asked_own : (o : Answerer) → answerer r q.tag q.version ≡ o → (d : Dispatch) → IsAsked d → LineAt r (asked_by o r t q) (came ++ message.Query q ∷ []) q.id
      asked_own o is d there =
          let call = there.2 in
          same_line r (Some d) (find_made q.id (asked_by o r t q).made) (asks_of r.entries q.id t.ups) (asks_of r.entries q.id (asked_by o r t q).ups)
          (asks_of r.entries q.id came ++ ask_by (is_abort_query r.entries q) q.tag q.version ∷ []) (asks_of r.entries q.id (came ++ message.Query q ∷ []))
          (kept_by r d ok o) (find_query q.id (asked_by o r t q).queries)
          (responses_of q.id t.downs ++ said_to r d ok o) (responses_of q.id (asked_by o r t q).downs)
          (same_made o q.id ∙ there.0) (ap (asks_of r.entries q.id) (same_ups o)) (asks_same r.entries q.id came q refl) (kept o d there) (added o d there)
          (call_arrives r d ok (asks_of r.entries q.id t.ups) (asks_of r.entries q.id came) (find_query q.id t.queries) (responses_of q.id t.downs)
          (ask_by (is_abort_query r.entries q) q.tag q.version) call (own_owner d there).0 o (same_owner d there ∙ is))

      asked_line : (o : Answerer) → answerer r q.tag q.version ≡ o → (id : ℤ) → (int_eq q.id id ≡ true) ⊎ (int_eq q.id id ≡ false)
          → LineAt r (asked_by o r t q) (came ++ message.Query q ∷ []) id
      asked_line o is id (inl e) = subst (LineAt r (asked_by o r t q) (came ++ message.Query q ∷ [])) (same q.id id e) (asked_own o is asked.0 asked.1)
      asked_line o is id (inr e) =
          same_line r (find_made id t.made) (find_made id (asked_by o r t q).made) (asks_of r.entries id t.ups) (asks_of r.entries id (asked_by o r t q).ups)
          (asks_of r.entries id came) (asks_of r.entries id (came ++ message.Query q ∷ [])) (find_query id t.queries) (find_query id (asked_by o r t q).queries)
          (responses_of id t.downs) (responses_of id (asked_by o r t q).downs)
          (same_made o id) (ap (asks_of r.entries id) (same_ups o)) (asks_other r.entries id came q e) (other_query o id e) (other_answers o id e) (s.lines id)

      apart_now : (o : Answerer) → Apart (asked_by o r t q).queries
      apart_now Menu = s.apart
      apart_now Nobody = s.apart
      apart_now Listener = s.apart
      apart_now (Handler desc) = apart_push t.queries (new_query q desc) (none_there asked.0 asked.1) s.apart

      made_now : (o : Answerer) → (asked_by o r t q).made ≡ t.made
      made_now Menu = refl
      made_now Nobody = refl
      made_now Listener = refl
      made_now (Handler desc) = refl

      sound_asked : (o : Answerer) → answerer r q.tag q.version ≡ o → IsSound r (asked_by o r t q) (came ++ message.Query q ∷ [])
      sound_asked o is = record {
        lines = λ id. asked_line o is id (tells q.id id);
        own = subst (λ made. Each (λ (d : Dispatch). find_made d.id made ≡ Some d) made) (sym (made_now o)) s.own;
        numbered = subst (λ made. Each (IsNumbered made) made) (sym (made_now o)) s.numbered;
        apart = apart_now o;
      }

-- ---- any message

some_one : (p : Served) → Some p ≡ None → ⊥
some_one p e = cc

module _ (r : Common) (ok : IsOk r) (t : Talk) (came rest : List Message) (s : IsSound r t came) where
  -- an abort: it stops its query, or that one is over
  module _ (q : Query) (cut : came ++ message.Query q ∷ rest ≡ t.ups) (stops : is_abort_query r.entries q ≡ true) where
    the_call : (d : Dispatch) × IsAsked r ok t came rest s q cut d
    the_call = asked r ok t came rest s q cut

    pub cut_call : (d : Dispatch) → IsAsked r ok t came rest s q cut d → (n : ℕ) × (d.cut ≡ Some n)
    cut_call d (here, key, call, inl (none, is)) = absurd (stops_begins q.tag d.desc.name q.version d.desc.version (ap (λ b. ask_by b q.tag q.version) (sym stops) ∙ is))
    cut_call d (here, key, call, inr (one, is, n, is_cut)) = (n, is_cut)

    -- no query of it that goes on
    over_now : (o : Option Served) → find_query q.id t.queries ≡ o → stops_query o ≡ false → is_open_one (find_query q.id t.queries) ≡ false
    over_now o there not_stopped =
        let (d, is) = the_call in
        let (n, is_cut) = cut_call d is in
        call_over r d (asks_of r.entries q.id t.ups) (asks_of r.entries q.id came) (find_query q.id t.queries) (responses_of q.id t.downs) n is.2 is_cut
        (ap stops_query there ∙ not_stopped)

    -- one that goes on is stopped
    stop_now : (p : Served) → find_query q.id t.queries ≡ Some p → stops_one p ≡ true → IsSound r (with_answer t p acts.Stop) (came ++ message.Query q ∷ [])
    stop_now p there stop =
        let (d, is) = the_call in
        let key : p.id ≡ q.id = find_key query_key q.id t.queries p there in
        let call : IsCall r d (asks_of r.entries q.id t.ups) (asks_of r.entries q.id came) (Some p) (responses_of q.id t.downs)
        = subst (λ o. IsCall r d (asks_of r.entries q.id t.ups) (asks_of r.entries q.id came) o (responses_of q.id t.downs)) there is.2 in
        let (going, begun, stream) = stop_open r d p ok stop in
        let (same_desc, said_is, had) = owed_at r d p (asks_of r.entries q.id t.ups) (asks_of r.entries q.id came) (responses_of q.id t.downs) call in
        let timely = stop_timely r d p ok stop (asks_of r.entries q.id t.ups) (asks_of r.entries q.id came) (responses_of q.id t.downs) call in
        let own : find_query p.id t.queries ≡ Some p = ap (λ i. find_query i t.queries) key ∙ there in
        let now_there : find_query q.id (map (with_act p.id acts.Stop) t.queries) ≡ Some (acted_one p acts.Stop)
        = find_map query_key (with_act p.id acts.Stop) (λ x. refl) q.id t.queries ∙ (ap (option_map (with_act p.id acts.Stop)) there ∙ ap Some (act_same acts.Stop p)) in
        sound_came r ok (with_answer t p acts.Stop) came rest (sound_acted r t came s p acts.Stop own going timely) q cut stops
        (ap is_open_one now_there ∙ stop_over (most r) p had going begun stream timely)

    stopped_now : (o : Option Served) → find_query q.id t.queries ≡ o → IsSound r (stop_query t o) (came ++ message.Query q ∷ [])
    stopped_now None there = sound_came r ok t came rest s q cut stops (ap is_open_one there)
    stopped_now (Some p) there = by (stops_one p) refl
      where
        by : (b : Bool) → stops_one p ≡ b → IsSound r (if stops_one p then with_answer t p acts.Stop else t) (came ++ message.Query q ∷ [])
        by true e = subst (λ b. IsSound r (if b then with_answer t p acts.Stop else t) (came ++ message.Query q ∷ [])) (sym e) (stop_now p there e)
        by false e = subst (λ b. IsSound r (if b then with_answer t p acts.Stop else t) (came ++ message.Query q ∷ [])) (sym e)
            (sound_came r ok t came rest s q cut stops (over_now (Some p) there e))

  query_now : (q : Query) → came ++ message.Query q ∷ rest ≡ t.ups → IsSound r (query_heard_up r t q) (came ++ message.Query q ∷ [])
  query_now q cut = by (is_abort_query r.entries q) refl
    where
      by : (b : Bool) → is_abort_query r.entries q ≡ b → IsSound r (if is_abort_query r.entries q then stopped t q.id else asked_by (answerer r q.tag q.version) r t q) (came ++ message.Query q ∷ [])
      by true e = subst (λ b. IsSound r (if b then stopped t q.id else asked_by (answerer r q.tag q.version) r t q) (came ++ message.Query q ∷ [])) (sym e)
          (stopped_now q cut e (find_query q.id t.queries) refl)
      by false e = subst (λ b. IsSound r (if b then stopped t q.id else asked_by (answerer r q.tag q.version) r t q) (came ++ message.Query q ∷ [])) (sym e)
          (sound_asked r ok t came rest s q cut e (answerer r q.tag q.version) refl)

  pub sound_heard : (a : Message) → came ++ a ∷ rest ≡ t.ups → IsSound r (heard_up r t a) (came ++ a ∷ [])
  sound_heard message.Heartbeat cut = sound_quiet r ok t came rest s message.Heartbeat (λ id. refl)
  sound_heard (message.Response a) cut = sound_quiet r ok t came rest s (message.Response a) (λ id. refl)
  sound_heard (message.Query q) cut = query_now q cut
