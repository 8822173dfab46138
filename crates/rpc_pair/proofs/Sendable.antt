-- What is on its way can be spelled and is short enough, and so it is read back from its bytes.
use Rattle.std.proofs.Common.{◌≡◌, refl, sym, ap, ◌∙◌, subst, ℕ, ◌+◌, ◌≤◌, ◌-◌, pos, Bool, true, false, nat_le, if◌then◌else◌, List, [], ◌∷◌, ◌++◌, map, length, length-append, arith, inl, inr, ◌⊎◌}
use Rattle.std.specs.Prelude.{Some}
use Rattle.readers.specs.Reader.{Each}
use Rattle.bp_grammar.specs.Written.{written, written_bytes}
use Rattle.bp_num.specs.Forms.{written_int, written_nat}
use Rattle.bp_value.specs.Fits.{InRange}
use Rattle.bp_value.proofs.Fitted.{range_is}
use Rattle.rpc_frame.specs.Streams.{AreWithin}
use Rattle.rpc_msg.specs.Forms.{part_form}
use Rattle.rpc_msg.specs.Values.{eof_value}
use Rattle.rpc_msg.specs.declared.message.Answer.TheVariants as answer
use Rattle.rpc_msg.specs.declared.message.Message.{Message}
use Rattle.rpc_msg.specs.declared.message.Message.TheVariants as message
use Rattle.rpc_msg.specs.declared.message.Query.{Query}
use Rattle.rpc_msg.specs.declared.message.Response.{Response}
use Rattle.rpc_msg.proofs.Bytes.{bytes_heartbeat, bytes_of_query, bytes_query}
use Rattle.rpc_schema.specs.declared.desc.RpcDesc.{RpcDesc}
use Rattle.rpc_log.specs.Readings.{message_in}
use Rattle.rpc_talk.specs.Acts.{Act, Reply, Fail, Begin, Decline, Give, End, Stop, answer_by, body_of, is_short, response, unimplemented}
use Rattle.rpc_talk.specs.Opened.{AreOpened, AreReadAs}
use Rattle.rpc_talk.specs.Spellable.{IsSpellable, IsSpellableAnswer}
use Rattle.rpc_talk.proofs.Fitting.{act_spellable, fitting_short, fitting_spellable}
use Rattle.rpc_talk.proofs.HeaderBack.{version_opens}
use Rattle.rpc_talk.proofs.Messages.{message_reads}
use Rattle.rpc_talk.proofs.ShortBodies.{short_body}
use Rattle.rpc_client.proofs.Queries.{abort_bytes}
use Rattle.rpc_meeting.specs.Steps.{may_be_long}
use Rattle.rpc_meeting.specs.Talks.{Common, Talk, abort_body}
use Rattle.rpc_meeting.specs.Worlds.{came_bodies, came_log, has_header, header_size, size, whole}
use Rattle.rpc_meeting.proofs.ActsRead.{line_entry}
use Rattle.rpc_meeting.proofs.Calls.{IsKnown}
use Rattle.rpc_meeting.proofs.Carried.{AreCarried, IsAbortTo, IsAsking, IsCallTo, IsDown, IsOfAct, IsOfMenu, IsOfNobody, IsUp}
use Rattle.rpc_meeting.proofs.Lines.{most}
use Rattle.rpc_meeting.proofs.Whole.{le_true}
use Rattle.rpc_server.proofs.Short.{int_short, nat_short}
use Rattle.rpc_pair.specs.Rules.{IsOfSchema}
use Rattle.rpc_pair.proofs.Acts.{eof_short}
use Rattle.rpc_pair.proofs.Schemas.{room, small}

-- the bytes of a query
query_length : (q : Query) (n k : ℕ) → length q.tag ≤ n → length q.body ≤ k → length (body_of (message.Query q)) ≤ 37 + n + k
query_length q n k tag body =
    let versions = written_int q.version ++ (written_int q.id ++ written_bytes q.body) in
    rw (bytes_query q, bytes_of_query q) (omega (
      arith,
      length-append (written_bytes q.tag) versions,
      length-append (written_int q.version) (written_int q.id ++ written_bytes q.body),
      length-append (written_int q.id) (written_bytes q.body),
      length-append (written_nat (length q.tag)) q.tag,
      length-append (written_nat (length q.body)) q.body,
      nat_short (length q.tag),
      nat_short (length q.body),
      int_short q.version,
      int_short q.id,
      tag,
      body,
    ))

abort_length : length abort_body ≤ 4
abort_length = rw abort_bytes (omega arith)

-- only an end of a stream may be long
end_said : (d : RpcDesc) (act : Act) → may_be_long act ≡ false → answer_by d act ≡ answer.Ok (written part_form eof_value)
end_said d (Reply v) e = absurd cc
end_said d (Fail text) e = absurd cc
end_said d (Begin v) e = absurd cc
end_said d (Decline v) e = absurd cc
end_said d (Give v) e = absurd cc
end_said d End e = refl
end_said d Stop e = refl

module _ (r : Common) (is : IsOfSchema r) where
  -- ---- procedures

  known_version : (d : RpcDesc) → IsKnown r d → InRange 62 d.version
  known_version d (inl menu) = subst (λ (x : RpcDesc). InRange 62 x.version) (sym menu) ((range_is 62 (pos 1)).1 (omega arith))
  known_version d (inr (e, here, same)) =
      let (n, number, few) = (line_entry r.entries d.name d.version e is.entries.each here).desc.version in
      subst (λ (x : RpcDesc). InRange 62 x.version) same (subst (InRange 62) (sym number) ((range_is 62 (pos n)).1 few))

  known_name : (d : RpcDesc) → IsKnown r d → length d.name ≤ 255
  known_name d (inl menu) = subst (λ (x : RpcDesc). length x.name ≤ 255) (sym menu) (omega arith)
  known_name d (inr (e, here, same)) =
      subst (λ (x : RpcDesc). length x.name ≤ 255) same (line_entry r.entries d.name d.version e is.entries.each here).desc.name.short

  -- ---- what goes up

  -- it can be spelled
  pub up_spelled : (a : Message) → IsUp r a → IsSpellable a
  up_spelled message.Heartbeat up = tt
  up_spelled (message.Query q) up = (subst (InRange 62) (sym up.version) (known_version up.desc up.known), up.id)
  up_spelled (message.Response a) up = absurd up

  asking_short : (q : Query) (a : IsAsking r q) → IsCallTo r a.desc q ⊎ IsAbortTo a.desc q → is_short (most r) (message.Query q) ≡ true
  asking_short q a (inl (v, fits, body, short)) = short
  asking_short q a (inr (stream, body)) =
      let tag : length q.tag ≤ 255 = subst (λ n. length n ≤ 255) (sym a.tag) (known_name a.desc a.known) in
      let data_few : length q.body ≤ 4 = subst (λ b. length b ≤ 4) (sym body) abort_length in
      let few = query_length q 255 4 tag data_few in
      le_true (length (body_of (message.Query q))) (most r) (omega (arith, few, room r is))

  -- and has at most as many bytes as a message may have
  pub up_short : (a : Message) → IsUp r a → is_short (most r) a ≡ true
  up_short message.Heartbeat up =
      le_true (length (body_of message.Heartbeat)) (most r) (omega (arith, ap length bytes_heartbeat, room r is))
  up_short (message.Query q) up = asking_short q up up.says
  up_short (message.Response a) up = absurd up

  -- ---- what goes down

  answer_spelled : (a : Response) → IsOfAct r a ⊎ (IsOfMenu r a ⊎ IsOfNobody r a) → IsSpellableAnswer a.result
  answer_spelled a (inl (d, act, same, long)) = subst IsSpellableAnswer (sym same) (act_spellable d act)
  answer_spelled a (inr (inl (bytes, same))) = subst IsSpellableAnswer (sym same) (fitting_spellable (most r) a.id (answer.Ok bytes) tt)
  answer_spelled a (inr (inr (d, known, same))) =
      subst IsSpellableAnswer (sym same) (fitting_spellable (most r) a.id (unimplemented d.name d.version) (known_version d known))

  -- it can be spelled
  pub down_spelled : (a : Message) → IsDown r a → IsSpellable a
  down_spelled message.Heartbeat down = tt
  down_spelled (message.Query q) down = absurd down
  down_spelled (message.Response a) (id, said) = (id, answer_spelled a said)

  answer_short : (a : Response) → IsOfAct r a ⊎ (IsOfMenu r a ⊎ IsOfNobody r a) → is_short (most r) (message.Response a) ≡ true
  answer_short a (inl (d, act, same, long)) = by (may_be_long act) refl
    where
      by : (b : Bool) → may_be_long act ≡ b → is_short (most r) (message.Response a) ≡ true
      by true e = long e
      by false e = ap (λ x. is_short (most r) (response a.id x)) (same ∙ end_said d act e) ∙ eof_short r is a.id
  answer_short a (inr (inl (bytes, same))) =
      ap (λ x. is_short (most r) (response a.id x)) same ∙ fitting_short (most r) a.id (answer.Ok bytes) (omega (arith, room r is))
  answer_short a (inr (inr (d, known, same))) =
      ap (λ x. is_short (most r) (response a.id x)) same ∙ fitting_short (most r) a.id (unimplemented d.name d.version) (omega (arith, room r is))

  -- and has at most as many bytes as a message may have
  pub down_short : (a : Message) → IsDown r a → is_short (most r) a ≡ true
  down_short message.Heartbeat down =
      le_true (length (body_of message.Heartbeat)) (most r) (omega (arith, ap length bytes_heartbeat, room r is))
  down_short (message.Query q) down = absurd down
  down_short (message.Response a) (id, said) = answer_short a said

  -- ---- logs

  module _ (P : Message → Type 0) (spelled : (a : Message) → P a → IsSpellable a) (short : (a : Message) → P a → is_short (most r) a ≡ true) where
    log_read : (log : List Message) → Each P log → AreReadAs (most r) (map body_of log) log
    log_read [] all = refl
    log_read (a ∷ log) all =
        ap (λ o. o ∷ map (message_in (most r)) (map body_of log)) (message_reads (most r) a (small r is) (spelled a all.0) (short a all.0))
        ∙ ap (λ os. Some a ∷ os) (log_read log all.1)

    log_within : (log : List Message) → Each P log → AreWithin (most r) (map body_of log)
    log_within [] all = tt
    log_within (a ∷ log) all = (short_body (most r) a (short a all.0), log_within log all.1)

    whole_each : (log : List Message) (n : ℕ) → Each P log → Each P (whole log n)
    whole_each [] n all = tt
    whole_each (a ∷ log) n all = by (nat_le (size a) n) (whole_each log (n - size a) all.1)
      where
        by : (b : Bool) → Each P (whole log (n - size a)) → Each P (if b then a ∷ whole log (n - size a) else [])
        by true later = (all.0, later)
        by false later = tt

    came_opened : (log : List Message) (n : ℕ) → Each P log → AreOpened (most r) (came_bodies log n) (came_log log n)
    came_opened log n all = by (has_header n) (log_read (whole log (n - header_size)) (whole_each log (n - header_size) all))
      where
        by : (b : Bool) → AreReadAs (most r) (map body_of (whole log (n - header_size))) (whole log (n - header_size))
            → AreOpened (most r) (if b then (1 ∷ 1 ∷ []) ∷ map body_of (whole log (n - header_size)) else []) (if b then whole log (n - header_size) else [])
        by true read = (version_opens (most r) (omega (arith, room r is)), read)
        by false read = refl

  module _ (t : Talk) (c : AreCarried r t) where
    -- the bodies of what goes up are short enough for frames
    pub ups_within : AreWithin (most r) (map body_of t.ups)
    ups_within = log_within (IsUp r) up_spelled up_short t.ups c.ups

    -- those that came whole among the first n bytes read as the header and the messages
    pub ups_opened : (n : ℕ) → AreOpened (most r) (came_bodies t.ups n) (came_log t.ups n)
    ups_opened n = came_opened (IsUp r) up_spelled up_short t.ups n c.ups

    -- the same of what goes down
    pub downs_within : AreWithin (most r) (map body_of t.downs)
    downs_within = log_within (IsDown r) down_spelled down_short t.downs c.downs

    -- those that came whole among the first n bytes read as the header and the messages
    pub downs_opened : (n : ℕ) → AreOpened (most r) (came_bodies t.downs n) (came_log t.downs n)
    downs_opened n = came_opened (IsDown r) down_spelled down_short t.downs n c.downs
