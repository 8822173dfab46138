-- The data of a query that went up is read at the server as what it asks.
use Rattle.std.proofs.Common.{◌≡◌, sym, ap, ◌∙◌, ◌≤◌, true, length, inl, arith}
use Rattle.bp_value.specs.Fits.{Fits}
use Rattle.bp_value.specs.Form.{form_of}
use Rattle.bp_value.specs.declared.value.Value.{Value}
use Rattle.bp_value.proofs.Forms.{form_of-Unit}
use Rattle.bp_grammar.specs.Written.{written}
use Rattle.rpc_msg.specs.declared.message.Query.{Query}
use Rattle.rpc_schema.specs.Choice.{menu_description}
use Rattle.rpc_schema.specs.declared.desc.Kind.{Kind}
use Rattle.rpc_schema.specs.declared.desc.Kind.TheVariants.{Plain, OneWay, Pipe, State}
use Rattle.rpc_schema.specs.declared.desc.RpcDesc.{RpcDesc}
use Rattle.rpc_talk.specs.Asks.{Calls, Aborts, asks_by, asks_in, asks_menu, plain_asks, stream_asks}
use Rattle.rpc_talk.specs.Parts.{is_stream}
use Rattle.rpc_talk.proofs.AskBack.{abort_asks, plain_asks_back, stream_asks_back}
use Rattle.rpc_talk.proofs.ShortBodies.{query_text_long, short_query}
use Rattle.rpc_meeting.specs.Talks.{Common, query_body_by, stream_body}
use Rattle.rpc_meeting.proofs.ActsRead.{AreRead, known_forms}
use Rattle.rpc_meeting.proofs.Calls.{IsKnown}
use Rattle.rpc_meeting.proofs.Carried.{IsAbortTo, IsCallTo}
use Rattle.rpc_meeting.proofs.Lines.{most}
use Rattle.rpc_pair.specs.Rules.{IsOfSchema}
use Rattle.rpc_pair.proofs.Schemas.{small}

module _ (r : Common) (is : IsOfSchema r) (d : RpcDesc) (q : Query) (known : IsKnown r d) where
  forms : AreRead d
  forms = known_forms r d is.entries known

  text_short : (v : Value) → q.body ≡ stream_body (form_of d.query) v → length q.body ≤ most r → length (written (form_of d.query) v) ≤ most r
  text_short v body le = omega (arith, le, ap length body, query_text_long (written (form_of d.query) v))

  call_by : (kind : Kind) (v : Value) → Fits (most r) (form_of d.query) v → q.body ≡ query_body_by kind (form_of d.query) v → length q.body ≤ most r
      → asks_by kind (most r) (form_of d.query) q.body ≡ Calls v
  call_by Plain v fits body le = ap (plain_asks (most r) (form_of d.query)) body ∙ plain_asks_back (most r) (form_of d.query) v (small r is) forms.query fits
  call_by OneWay v fits body le = ap (plain_asks (most r) (form_of d.query)) body ∙ plain_asks_back (most r) (form_of d.query) v (small r is) forms.query fits
  call_by Pipe v fits body le =
      ap (stream_asks (most r) (form_of d.query)) body
      ∙ stream_asks_back (most r) (form_of d.query) v (small r is) forms.query fits (text_short v body le)
  call_by State v fits body le =
      ap (stream_asks (most r) (form_of d.query)) body
      ∙ stream_asks_back (most r) (form_of d.query) v (small r is) forms.query fits (text_short v body le)

  -- a call is read with its value
  pub call_read : (c : IsCallTo r d q) → asks_in (most r) d q.body ≡ Calls c.0
  call_read (v, fits, body, short) = call_by d.kind v fits body (short_query (most r) q short).1

  -- and an abort as one
  pub abort_read : IsAbortTo d q → asks_in (most r) d q.body ≡ Aborts
  abort_read (stream, body) = by d.kind stream
    where
      by : (kind : Kind) → is_stream kind ≡ true → asks_by kind (most r) (form_of d.query) q.body ≡ Aborts
      by Plain e = absurd cc
      by OneWay e = absurd cc
      by Pipe e = ap (stream_asks (most r) (form_of d.query)) body ∙ abort_asks (most r) (form_of d.query)
      by State e = ap (stream_asks (most r) (form_of d.query)) body ∙ abort_asks (most r) (form_of d.query)

-- a call of the menu is read so
pub menu_read : (r : Common) (is : IsOfSchema r) (d : RpcDesc) (q : Query) → (menu : d ≡ menu_description) → (c : IsCallTo r d q) → asks_menu (most r) q.body ≡ Calls c.0
menu_read r is d q menu c =
    ap (λ f. plain_asks (most r) f q.body) (sym form_of-Unit)
    ∙ (ap (λ x. asks_in (most r) x q.body) (sym menu) ∙ call_read r is d q (inl menu) c)
