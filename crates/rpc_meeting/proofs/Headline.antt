-- In every world that a schedule leads to, each dispatch received just the beginning of what was sent to it whose frames have come.
use Rattle.std.proofs.Common.{◌≡◌, refl, sym, ap, ◌∙◌, subst, ℕ, ◌-◌, ℤ, Bool, true, false, ◌||◌, if◌then◌else◌, List, [], ◌∷◌, ◌++◌, map, drop, append_assoc}
use Rattle.std.specs.Prelude.{Option, Some, None}
use Rattle.std.specs.List.{cons_option, list_any}
use Rattle.std.specs.Str.{bytes_eq}
use Rattle.std.specs.Ordering.{int_eq}
use Rattle.std.proofs.lemmas.List.{append-nil, map-append, take-append-drop}
use Rattle.rpc_msg.specs.declared.fault.MsgFault.{MsgFault}
use Rattle.rpc_msg.specs.declared.message.Answer.{Answer}
use Rattle.rpc_msg.specs.declared.message.Message.{Message}
use Rattle.rpc_msg.specs.declared.message.Message.TheVariants as message
use Rattle.rpc_msg.specs.declared.shared.Ending.TheVariants as ending
use Rattle.rpc_msg.specs.declared.shared.Part.{Part}
use Rattle.rpc_schema.specs.declared.desc.Entry.{Entry}
use Rattle.rpc_schema.specs.declared.desc.Kind.{Kind}
use Rattle.rpc_schema.specs.declared.desc.Kind.TheVariants.{Plain, OneWay, Pipe, State}
use Rattle.rpc_schema.specs.declared.desc.RpcDesc.{RpcDesc}
use Rattle.rpc_log.specs.Logs.{responses_of}
use Rattle.rpc_talk.specs.Growing.{adds}
use Rattle.rpc_talk.specs.Parts.{Ends, cut_parts, goes_on, later_parts, kind_parts, parts_of, plain_parts, stream_parts}
use Rattle.rpc_talk.specs.Said.{Said, Reply, Begun, Declined, Item, Eof, Unreadable, Failed, answer_said, later_by, said_behind, says_in}
use Rattle.rpc_talk.proofs.OneMore.{parts_on, parts_over}
use Rattle.rpc_meeting.specs.Received.{AreLegalOf, IsHeadline, asks_with, own_answers, sent_to, sent_by}
use Rattle.rpc_meeting.specs.Deeds.{find_label}
use Rattle.rpc_meeting.specs.Steps.{IsReached}
use Rattle.rpc_meeting.specs.Talks.{Common, Dispatch, Served, Answerer, Menu, Nobody, Listener, Handler, find_made, find_query, is_abort_query, answerer, parts_in}
use Rattle.rpc_meeting.specs.Worlds.{World, arrived, come, header_size}
use Rattle.rpc_meeting.proofs.Asking.{each_find}
use Rattle.rpc_meeting.proofs.Calls.{Ask, AreClear, IsCall, IsLine, Owed, ask_by, asks_of}
use Rattle.rpc_meeting.proofs.Filters.{answers_join}
use Rattle.rpc_meeting.proofs.Goods.{IsGood}
use Rattle.rpc_meeting.proofs.Lines.{most, owed_at}
use Rattle.rpc_meeting.proofs.Look.{no_some}
use Rattle.rpc_meeting.proofs.Owners.{IsOk}
use Rattle.rpc_meeting.proofs.Reached.{good}
use Rattle.rpc_meeting.proofs.Welcomed.{clear_front}
use Rattle.rpc_meeting.proofs.Whole.{whole_prefix}

-- ---- parts of the first answers

pub parts_first : (m : ℕ) (d : RpcDesc) (before later : List Answer) → (more : List Part) × ((parts_of m d before).parts ++ more ≡ (parts_of m d (before ++ later)).parts)
parts_first m d before [] = ([], append-nil (parts_of m d before).parts ∙ ap (λ xs. (parts_of m d xs).parts) (sym (append-nil before)))
parts_first m d before (a ∷ later) = by (goes_on (parts_of m d before).mark) refl (parts_first m d (before ++ a ∷ []) later)
  where
    by : (b : Bool) → goes_on (parts_of m d before).mark ≡ b
        → ((more : List Part) × ((parts_of m d (before ++ a ∷ [])).parts ++ more ≡ (parts_of m d ((before ++ a ∷ []) ++ later)).parts))
        → (more : List Part) × ((parts_of m d before).parts ++ more ≡ (parts_of m d (before ++ a ∷ later)).parts)
    by true going (more, is) =
        let added = (adds d.kind before (said_behind m d before a)).parts in (
          added ++ more,
          sym (append_assoc (parts_of m d before).parts added more)
              ∙ (ap (λ p. p.parts ++ more) (sym (parts_on m d before a going)) ∙ (is ∙ ap (λ xs. (parts_of m d xs).parts) (append_assoc before (a ∷ []) later))),
        )
    by false over (more, is) =
        (more, ap (λ p. p.parts ++ more) (sym (parts_over m d before a over)) ∙ (is ∙ ap (λ xs. (parts_of m d xs).parts) (append_assoc before (a ∷ []) later)))

cut_first : (cut : Option ℕ) (parts : List Part) → (more : List Part) × (cut_parts cut parts ++ more ≡ parts)
cut_first None parts = ([], append-nil parts)
cut_first (Some n) parts = (drop n parts, take-append-drop n parts)

-- ---- what can be read is no bad reply

says_front : (m : ℕ) (d : RpcDesc) (before later : List Answer) → AreClear (says_in m d (before ++ later)) → AreClear (says_in m d before)
says_front m d [] later clear = tt
says_front m d (b ∷ before) later (first, rest) = (
  first,
  clear_front (map (answer_said (later_by d.kind m d)) before) (map (answer_said (later_by d.kind m d)) later)
      (subst AreClear (map-append (answer_said (later_by d.kind m d)) before later) rest),
)

plain_clear : (says : List Said) (why : MsgFault) → AreClear says → (plain_parts says).mark ≡ Ends (ending.BadReply why) → ⊥
plain_clear [] why clear e = cc
plain_clear (Reply v ∷ says) why clear e = cc
plain_clear (Begun v ∷ says) why clear e = cc
plain_clear (Declined v ∷ says) why clear e = cc
plain_clear (Item v ∷ says) why clear e = cc
plain_clear (Eof ∷ says) why clear e = cc
plain_clear (Unreadable x ∷ says) why (never, rest) e = never
plain_clear (Failed x ∷ says) why clear e = cc

later_clear : (says : List Said) (why : MsgFault) → (later_parts says).mark ≡ Ends (ending.BadReply why) → ⊥
later_clear [] why e = cc
later_clear (Reply v ∷ says) why e = cc
later_clear (Begun v ∷ says) why e = cc
later_clear (Declined v ∷ says) why e = cc
later_clear (Item v ∷ says) why e = later_clear says why e
later_clear (Eof ∷ says) why e = cc
later_clear (Unreadable x ∷ says) why e = cc
later_clear (Failed x ∷ says) why e = cc

stream_clear : (says : List Said) (why : MsgFault) → (stream_parts says).mark ≡ Ends (ending.BadReply why) → ⊥
stream_clear [] why e = cc
stream_clear (Reply v ∷ says) why e = cc
stream_clear (Begun v ∷ says) why e = later_clear says why e
stream_clear (Declined v ∷ says) why e = cc
stream_clear (Item v ∷ says) why e = cc
stream_clear (Eof ∷ says) why e = cc
stream_clear (Unreadable x ∷ says) why e = cc
stream_clear (Failed x ∷ says) why e = cc

never_bad : (kind : Kind) (says : List Said) (why : MsgFault) → AreClear says → (kind_parts kind says).mark ≡ Ends (ending.BadReply why) → ⊥
never_bad Plain says why clear e = plain_clear says why clear e
never_bad OneWay says why clear e = cc
never_bad Pipe says why clear e = stream_clear says why e
never_bad State says why clear e = stream_clear says why e

-- ---- whether a query came

-- nothing is asked with an id just where no query with it is there
asked_by_any : (es : List Entry) (id : ℤ) (log : List Message) (x : Ask) (xs : List Ask) → asks_of es id log ≡ x ∷ xs → list_any (asks_with id) log ≡ true
asked_by_any es id [] x xs e = absurd cc
asked_by_any es id (message.Heartbeat ∷ log) x xs e = asked_by_any es id log x xs e
asked_by_any es id (message.Response a ∷ log) x xs e = asked_by_any es id log x xs e
asked_by_any es id (message.Query q ∷ log) x xs e = by (int_eq q.id id) e (asked_by_any es id log x xs)
  where
    by : (b : Bool) → cons_option (if b then Some (ask_by (is_abort_query es q) q.tag q.version) else None) (asks_of es id log) ≡ x ∷ xs
        → (asks_of es id log ≡ x ∷ xs → list_any (asks_with id) log ≡ true) → (b || list_any (asks_with id) log) ≡ true
    by true e later = refl
    by false e later = later e

not_asked : (es : List Entry) (id : ℤ) (log : List Message) → asks_of es id log ≡ [] → list_any (asks_with id) log ≡ false
not_asked es id [] e = refl
not_asked es id (message.Heartbeat ∷ log) e = not_asked es id log e
not_asked es id (message.Response a ∷ log) e = not_asked es id log e
not_asked es id (message.Query q ∷ log) e = by (int_eq q.id id) e (not_asked es id log)
  where
    by : (b : Bool) → cons_option (if b then Some (ask_by (is_abort_query es q) q.tag q.version) else None) (asks_of es id log) ≡ []
        → (asks_of es id log ≡ [] → list_any (asks_with id) log ≡ false) → (b || list_any (asks_with id) log) ≡ false
    by true e later = absurd cc
    by false e later = later e

-- ---- the headline

module _ (r : Common) (w : World) (g : IsGood r w) (d : Dispatch) (own : find_made d.id w.talk.made ≡ Some d) where
  abbrev came : List Ask
  came = asks_of r.entries d.id (arrived w)

  call : IsCall r d (asks_of r.entries d.id w.talk.ups) came (find_query d.id w.talk.queries) (responses_of d.id w.talk.downs)
  call = subst (λ o. IsLine r o (asks_of r.entries d.id w.talk.ups) came (find_query d.id w.talk.queries) (responses_of d.id w.talk.downs)) own (g.sound.lines d.id)

  -- what the server answered by itself
  own_are : (o : Answerer) → Owed o r d None (responses_of d.id w.talk.downs) → responses_of d.id w.talk.downs ≡ own_answers o r d
  own_are Menu (none, is) = is
  own_are Nobody (none, is) = is
  own_are Listener (none, is) = is
  own_are (Handler desc) (q, here, same, is, had) = absurd (no_some q here)

  all_sent : (o : Option Served) → find_query d.id w.talk.queries ≡ o → (xs : List Ask) → came ≡ xs → responses_of d.id w.talk.downs ≡ sent_by o r w d
  all_sent (Some q) here xs is =
      (owed_at r d q (asks_of r.entries d.id w.talk.ups) came (responses_of d.id w.talk.downs)
      (subst (λ o. IsCall r d (asks_of r.entries d.id w.talk.ups) came o (responses_of d.id w.talk.downs)) here call)).1
  all_sent None here [] is =
      (call.before is).1 ∙ sym (ap (λ b. if b then own_answers (answerer r d.desc.name d.desc.version) r d else []) (not_asked r.entries d.id (arrived w) is))
  all_sent None here (x ∷ xs) is =
      own_are (answerer r d.desc.name d.desc.version)
      (subst (λ o. Owed (answerer r d.desc.name d.desc.version) r d o (responses_of d.id w.talk.downs)) here (call.after x xs is))
      ∙ sym (ap (λ b. if b then own_answers (answerer r d.desc.name d.desc.version) r d else []) (asked_by_any r.entries d.id (arrived w) x xs is))

  legal_now : (o : Option Served) → find_query d.id w.talk.queries ≡ o → AreLegalOf o
  legal_now None here = tt
  legal_now (Some q) here =
      (owed_at r d q (asks_of r.entries d.id w.talk.ups) came (responses_of d.id w.talk.downs)
      (subst (λ o. IsCall r d (asks_of r.entries d.id w.talk.ups) came o (responses_of d.id w.talk.downs)) here call)).2.legal

  pub received_is : IsHeadline r w d
  received_is =
      let (rest, cut) = whole_prefix w.talk.downs (w.got - header_size) in
      let all = all_sent (find_query d.id w.talk.queries) refl came refl in
      let first : responses_of d.id (come w) ++ responses_of d.id rest ≡ sent_to r w d = sym (answers_join d.id (come w) rest) ∙ (ap (responses_of d.id) cut ∙ all) in
      let (more, parts) = parts_first (most r) d.desc (responses_of d.id (come w)) (responses_of d.id rest) in
      let (left, held_parts) = cut_first d.cut (parts_in (most r) (come w) d).parts in
      record {
        all = all;
        rest = responses_of d.id rest;
        come_first = first;
        more = left ++ more;
        parts_first =
            sym (append_assoc (cut_parts d.cut (parts_in (most r) (come w) d).parts) left more)
            ∙ (ap (λ p. p ++ more) held_parts ∙ (parts ∙ ap (λ xs. (parts_of (most r) d.desc xs).parts) first));
        legal = legal_now (find_query d.id w.talk.queries) refl;
        readable = λ why e. never_bad d.desc.kind (says_in (most r) d.desc (responses_of d.id (come w))) why
            (says_front (most r) d.desc (responses_of d.id (come w)) (responses_of d.id rest)
            (subst (λ xs. AreClear (says_in (most r) d.desc xs)) (sym (first ∙ sym all)) call.clear)) e;
      }

pub headline : (r : Common) (w : World) → IsOk r → IsReached r w → (label : List ℕ) (d : Dispatch) → find_label label w.talk.made ≡ Some d → IsHeadline r w d
headline r w ok reached label d here =
    let g = good r w ok reached in
    received_is r w g d (each_find (λ (x : Dispatch). find_made x.id w.talk.made ≡ Some x) (λ (x : Dispatch). bytes_eq x.label label) w.talk.made d g.sound.own here)
