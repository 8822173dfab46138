-- A dispatch at a book has the answer that it has in the world, and the book goes along with the talk.
use Rattle.std.proofs.Common.{◌≡◌, refl, sym, ap, ◌∙◌, subst, ℕ, ◌^◌, Bool, true, false, not, ◌&&◌, nat_le, int_lt, if◌then◌else◌, List, [], ◌∷◌, ◌++◌, map}
use Rattle.std.specs.Prelude.{Option, Some, None, Result, Ok, Err}
use Rattle.std.specs.List.{count_by}
use Rattle.std.specs.Option.{is_none, is_some}
use Rattle.std.proofs.lemmas.Bool.{le-ltb, lt-ltb}
use Rattle.std.proofs.lemmas.List.{append-nil}
use Rattle.bp_grammar.specs.Written.{written}
use Rattle.bp_value.specs.Fits.{Fits}
use Rattle.bp_value.specs.Form.{Form, form_of}
use Rattle.bp_value.specs.declared.value.Value.{Value}
use Rattle.rpc_msg.specs.declared.shared.CloseCause.{CloseCause}
use Rattle.rpc_msg.specs.declared.shared.Limits.{Limits}
use Rattle.rpc_msg.specs.declared.shared.Ticket.{Ticket}
use Rattle.rpc_schema.specs.declared.desc.Kind.{Kind}
use Rattle.rpc_schema.specs.declared.desc.Kind.TheVariants.{Plain, OneWay, Pipe, State}
use Rattle.rpc_schema.specs.declared.desc.RpcDesc.{RpcDesc}
use Rattle.rpc_end.specs.Ends.{EndState, is_closed, is_link_open, said}
use Rattle.rpc_talk.specs.Acts.{is_short}
use Rattle.rpc_talk.specs.Parts.{is_stream, is_tracked}
use Rattle.rpc_meeting.specs.declared.answer.Refusal.TheVariants as world
use Rattle.rpc_meeting.specs.declared.answer.StepAnswer.TheVariants.{Refused, Done}
use Rattle.rpc_meeting.specs.declared.answer.Refusal.{Refusal}
use Rattle.rpc_meeting.specs.Steps.{Stepped, dispatch, done, last_id, new_dispatch, refused}
use Rattle.rpc_meeting.specs.Talks.{Common, Dispatch, query_body_by, query_of, query_to, waiting_count, with_dispatch}
use Rattle.rpc_meeting.specs.Worlds.{World, come, has_header, is_shut, set_talk}
use Rattle.rpc_meeting.proofs.Lines.{most}
use Rattle.rpc_client.specs.Tables.{data_by, query_data}
use Rattle.rpc_client.specs.declared.error.DispatchError.{DispatchError}
use Rattle.rpc_client.specs.declared.error.DispatchError.TheVariants as undone
use Rattle.rpc_book.specs.Books.{BookState}
use Rattle.rpc_book.specs.Calls.{IsBooked, IsFresh, RefusesBooking, after_booking, booked_query, is_book_full, is_unfinished, new_booked, next_id, next_id_number}
use Rattle.rpc_pair.specs.Callers.{AsksAlong, BooksAlong, dispatched_as}
use Rattle.rpc_pair.specs.Standing.{booked_of}
use Rattle.rpc_pair.proofs.Bookings.{ids_push, made_push, next_same}
use Rattle.rpc_pair.proofs.Held.{HasHeard, limit_same, waiting_same}

data_same : (kind : Kind) (f : Form) (v : Value) → data_by (is_stream kind) (written f v) ≡ query_body_by kind f v
data_same Plain f v = refl
data_same OneWay f v = refl
data_same Pipe f v = refl
data_same State f v = refl

-- an open end has read a header, and is not closed
link_open : (e : EndState) → is_link_open e ≡ true → (e.greeted ≡ true) × (is_closed e ≡ false)
link_open e is = by e.greeted e.cause is
  where
    by : (g : Bool) (o : Option CloseCause) → (g && is_none o) ≡ true → (g ≡ true) × (is_some o ≡ false)
    by true None is = (refl, refl)
    by true (Some why) is = absurd cc
    by false o is = absurd cc

module _ (r : Common) (w : World) (b : BookState) (heard : HasHeard r b w.talk (come w)) (shut : is_closed b.link ≡ is_shut w.client)
    (opens : is_closed b.link ≡ false → b.link.greeted ≡ has_header w.got) (label : List ℕ) (d : RpcDesc) (v : Value) (fits : Fits (most r) (form_of d.query) v)
    (result : Result Ticket DispatchError) (new : BookState) where
  abbrev made : Dispatch
  made = new_dispatch w label d

  -- ---- the world's tests, each behind those before it

  abbrev Along : Stepped → Type 0
  Along to = AsksAlong (dispatched_as result) r b w.talk to new

  abbrev with_id : Bool → Stepped
  with_id spent = if spent then refused w world.IdsSpent else done (set_talk w (with_dispatch w.talk made v))

  abbrev with_room : Bool → Stepped
  with_room full = if full then refused w world.TooManyOpen else with_id (int_lt last_id made.id)

  abbrev with_length : Bool → Stepped
  with_length short =
      if not short then refused w world.TooLong
      else with_room (is_tracked d.kind && nat_le r.limits.max_open (waiting_count (most r) (come w) w.talk.made))

  abbrev with_header : Bool → Stepped
  with_header opened = if not opened then refused w world.NotOpen else with_length (is_short (most r) (query_of made v))

  closed_step : is_closed b.link ≡ true → dispatch r w made v ≡ refused w world.Closed
  closed_step closed = ap (λ x. if x then refused w world.Closed else with_header (has_header w.got)) (sym shut ∙ closed)

  going_step : is_closed b.link ≡ false → (x : Bool) → b.link.greeted ≡ x → dispatch r w made v ≡ with_header x
  going_step going x greeted =
      ap (λ y. if y then refused w world.Closed else with_header (has_header w.got)) (sym shut ∙ going) ∙ ap with_header (sym (opens going) ∙ greeted)

  -- ---- the book's, in the world's words

  limit : b.limits.max_message ≡ most r
  limit = limit_same r b w.talk (come w) heard

  id_same : next_id d.kind b.made ≡ made.id
  id_same = ap (next_id d.kind) heard.stands.made ∙ next_same w.talk.made d.kind

  query_same : booked_query b d v ≡ query_of made v
  query_same = ap (λ id. query_to d id (query_data d v)) id_same ∙ ap (query_to d made.id) (data_same d.kind (form_of d.query) v)

  short_same : is_short b.limits.max_message (booked_query b d v) ≡ is_short (most r) (query_of made v)
  short_same = ap (λ m. is_short m (booked_query b d v)) limit ∙ ap (is_short (most r)) query_same

  full_same : is_book_full b d ≡ (is_tracked d.kind && nat_le r.limits.max_open (waiting_count (most r) (come w) w.talk.made))
  full_same =
      ap (λ (l : Limits). is_tracked d.kind && nat_le l.max_open (count_by (is_unfinished b) b.made)) heard.stands.limits
      ∙ ap (λ n. is_tracked d.kind && nat_le r.limits.max_open n) (waiting_same r b w.talk (come w) heard)

  open_step : is_link_open b.link ≡ true → dispatch r w made v ≡ with_length (is_short (most r) (query_of made v))
  open_step opened = let (greeted, going) = link_open b.link opened in going_step going true greeted

  short_step : is_link_open b.link ≡ true → (x : Bool) → is_short b.limits.max_message (booked_query b d v) ≡ x → dispatch r w made v ≡ with_length x
  short_step opened x short = open_step opened ∙ ap with_length (sym short_same ∙ short)

  full_step : is_link_open b.link ≡ true → is_short b.limits.max_message (booked_query b d v) ≡ true → (x : Bool) → is_book_full b d ≡ x → dispatch r w made v ≡ with_room x
  full_step opened short x full = short_step opened true short ∙ ap with_room (sym full_same ∙ full)

  spent_step : is_link_open b.link ≡ true → is_short b.limits.max_message (booked_query b d v) ≡ true → is_book_full b d ≡ false
      → (x : Bool) → int_lt last_id (next_id d.kind b.made) ≡ x → dispatch r w made v ≡ with_id x
  spent_step opened short room x spent = full_step opened short false room ∙ ap with_id (sym (ap (int_lt last_id) id_same) ∙ spent)

  -- ---- answers

  -- it is refused, and all is as it was
  kept_goes : (e : DispatchError) (reason : Refusal) → dispatched_as (Err e) ≡ Some (Refused reason) → dispatch r w made v ≡ refused w reason → new ≡ b
      → AsksAlong (dispatched_as (Err e)) r b w.talk (dispatch r w made v) new
  kept_goes e reason tells step same =
      subst (λ o. AsksAlong o r b w.talk (dispatch r w made v) new) (sym tells)
      (subst (λ to. AsksAlong (Some (Refused reason)) r b w.talk to new) (sym step) (
        refl,
        subst (BooksAlong r b w.talk w.talk) (sym same) (record { stands = heard.stands; got = refl; more = []; ups = sym (append-nil w.talk.ups); said = refl }),
      ))

  done_goes : dispatch r w made v ≡ done (set_talk w (with_dispatch w.talk made v)) → IsFresh b (next_id d.kind b.made) → new ≡ after_booking b label d v
      → AsksAlong (Some Done) r b w.talk (dispatch r w made v) new
  done_goes step fresh same =
      subst (λ to. AsksAlong (Some Done) r b w.talk to new) (sym step) (
        refl,
        subst (BooksAlong r b w.talk (with_dispatch w.talk made v)) (sym same) (record {
          stands = record {
            limits = heard.stands.limits;
            made = ap (λ xs. xs ++ new_booked label (next_id d.kind b.made) d ∷ []) heard.stands.made
                ∙ (ap (λ id. map booked_of w.talk.made ++ new_booked label id d ∷ []) id_same ∙ sym (made_push w.talk.made made));
            ids = ids_push b.made (new_booked label (next_id d.kind b.made) d) heard.stands.ids fresh.unused;
          };
          got = refl;
          more = query_of made v ∷ [];
          ups = refl;
          said = ap (said b.link) query_same;
        }),
      )

  refused_goes : (e : DispatchError) → RefusesBooking b d v e → new ≡ b → AsksAlong (dispatched_as (Err e)) r b w.talk (dispatch r w made v) new
  refused_goes undone.Closed closed same = kept_goes undone.Closed world.Closed refl (closed_step closed) same
  refused_goes undone.NotOpen (going, greeted) same = kept_goes undone.NotOpen world.NotOpen refl (going_step going false greeted) same
  refused_goes undone.BadValue (opened, unfit) same = absurd (unfit (subst (λ m. Fits m (form_of d.query) v) (sym limit) fits))
  refused_goes (undone.TooLong most) ((opened, fit), long, is) same = kept_goes (undone.TooLong most) world.TooLong refl (short_step opened false long) same
  refused_goes (undone.TooManyOpen count) (((opened, fit), short), full, is) same =
      kept_goes (undone.TooManyOpen count) world.TooManyOpen refl (full_step opened short true full) same
  refused_goes (undone.IdsSpent next) ((((opened, fit), short), room), great, is) same =
      kept_goes (undone.IdsSpent next) world.IdsSpent refl (spent_step opened short room true (lt-ltb (2 ^ 61) (next_id_number d.kind b.made) great)) same
  refused_goes undone.OutOfMemory u same = same

  -- A dispatch has the answer that it has in the world, and the book stands for the talk behind it; what it said is what goes up by it.
  pub dispatch_goes : IsBooked b label d v result new → Along (dispatch r w made v)
  dispatch_goes did = by result did
    where
      by : (x : Result Ticket DispatchError) → IsBooked b label d v x new → AsksAlong (dispatched_as x) r b w.talk (dispatch r w made v) new
      by (Ok ticket) (((((opened, fit), short), room), few), id, same, fresh) =
          done_goes (spent_step opened short room false (le-ltb (2 ^ 61) (next_id_number d.kind b.made) few)) (subst (IsFresh b) id fresh) same
      by (Err e) (refuses, same) = refused_goes e refuses same
