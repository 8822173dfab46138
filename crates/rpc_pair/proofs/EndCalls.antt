-- Dispatches and aborts keep that both ends stand for a world.
use Rattle.std.proofs.Common.{◌≡◌, refl, sym, ap, ◌∙◌, subst, ℕ, ◌-◌, Bool, true, false, not, ◌&&◌, nat_le, int_lt, if◌then◌else◌, List, ◌++◌, map, length, append_assoc, arith}
use Rattle.std.specs.Prelude.{Option, Some, None, Result}
use Rattle.std.specs.Option.{is_some}
use Rattle.std.specs.Str.{bytes_eq}
use Rattle.readers.specs.Reader.{Each, IsByte}
use Rattle.bp_value.specs.Fits.{Fits}
use Rattle.bp_value.specs.Form.{form_of}
use Rattle.bp_value.specs.declared.value.Value.{Value}
use Rattle.rpc_frame.specs.Frames.{frames}
use Rattle.rpc_msg.specs.declared.shared.Ticket.{Ticket}
use Rattle.rpc_schema.specs.declared.desc.RpcDesc.{RpcDesc}
use Rattle.rpc_end.specs.Ends.{EndState, is_closed}
use Rattle.rpc_end.specs.Taken.{HasTaken}
use Rattle.rpc_talk.specs.Acts.{body_of, is_short}
use Rattle.rpc_talk.specs.Parts.{is_stream, is_tracked}
use Rattle.rpc_meeting.specs.declared.answer.StepAnswer.{StepAnswer}
use Rattle.rpc_meeting.specs.declared.answer.Refusal.TheVariants.{AlreadyEnded, Closed, IdsSpent, NotBegun, NotOpen, NotStream, TooLong, TooManyOpen}
use Rattle.rpc_meeting.specs.Steps.{Stepped, abort_held, dispatch, done, find_label, last_id, new_dispatch, refused}
use Rattle.rpc_meeting.specs.Talks.{Common, Dispatch, find_made, find_query, is_nil, open_queries, query_of, received, waiting_count, with_abort, with_dispatch}
use Rattle.rpc_meeting.specs.Worlds.{World, arrived, come, has_header, header_size, is_shut, set_talk, stream_of, whole}
use Rattle.rpc_meeting.proofs.Asking.{each_find, good_abort, good_dispatch}
use Rattle.rpc_meeting.proofs.Calls.{IsKnown}
use Rattle.rpc_meeting.proofs.Goods.{IsGood}
use Rattle.rpc_meeting.proofs.Lines.{most}
use Rattle.rpc_meeting.proofs.Whole.{whole_log_grows}
use Rattle.rpc_client.specs.declared.error.AbortError.{AbortError}
use Rattle.rpc_client.specs.declared.error.DispatchError.{DispatchError}
use Rattle.rpc_book.specs.Books.{BookState}
use Rattle.rpc_book.specs.Calls.{IsAbortedAt, IsBooked}
use Rattle.rpc_server.specs.Servers.{ServerState}
use Rattle.rpc_pair.specs.Callers.{AsksAlong, BooksAlong, aborted_as, dispatched_as}
use Rattle.rpc_pair.specs.Links.{LinkStands}
use Rattle.rpc_pair.specs.Rules.{IsOfSchema}
use Rattle.rpc_pair.specs.Standing.{EndsStand}
use Rattle.rpc_pair.specs.Stands.{standing_as}
use Rattle.rpc_pair.proofs.Aborting.{abort_goes}
use Rattle.rpc_pair.proofs.BothEnds.{EndsHold, book_heard, stream_join}
use Rattle.rpc_pair.proofs.Dispatching.{dispatch_goes}
use Rattle.rpc_pair.proofs.LinkLaws.{all_said_output, closed_same, said_stands}
use Rattle.rpc_pair.proofs.Schemas.{schema_ok}
use Rattle.rpc_pair.proofs.ServerFeeds.{all_taken}

-- the dispatch of a label is found by its id
pub label_found : (r : Common) (w : World) → IsGood r w → (label : List ℕ) (d : Dispatch) → find_label label w.talk.made ≡ Some d → find_made d.id w.talk.made ≡ Some d
label_found r w good label d here =
    each_find (λ (x : Dispatch). find_made x.id w.talk.made ≡ Some x) (λ (x : Dispatch). bytes_eq x.label label) w.talk.made d good.sound.own here

-- the world is as it was but for what goes up and the dispatches
abbrev pub IsSameDown : World → World → Type 0
IsSameDown w new = (new ≡ set_talk w new.talk) × (new.talk.downs ≡ w.talk.downs) × (new.talk.queries ≡ w.talk.queries)

pub dispatch_world : (r : Common) (w : World) (d : Dispatch) (v : Value) → IsSameDown w (dispatch r w d v).world
dispatch_world r w d v =
    by (is_shut w.client) (not (has_header w.got)) (not (is_short (most r) (query_of d v)))
    (is_tracked d.desc.kind && nat_le r.limits.max_open (waiting_count (most r) (come w) w.talk.made)) (int_lt last_id d.id)
  where
    by : (a b e f g : Bool) → IsSameDown w (if a then refused w Closed else if b then refused w NotOpen else if e then refused w TooLong
        else if f then refused w TooManyOpen else if g then refused w IdsSpent else done (set_talk w (with_dispatch w.talk d v))).world
    by true b e f g = (refl, refl, refl)
    by false true e f g = (refl, refl, refl)
    by false false true f g = (refl, refl, refl)
    by false false false true g = (refl, refl, refl)
    by false false false false true = (refl, refl, refl)
    by false false false false false = (refl, refl, refl)

pub abort_world : (r : Common) (w : World) (d : Dispatch) → IsSameDown w (abort_held r w d (received (most r) (come w) false d)).world
abort_world r w d =
    let h = received (most r) (come w) false d in
    by (is_shut w.client) (is_some h.ending) (not (is_stream d.desc.kind)) (is_nil h.parts)
  where
    by : (a b e f : Bool) → IsSameDown w (if a then refused w Closed else if b then refused w AlreadyEnded else if e then refused w NotStream
        else if f then refused w NotBegun else done (set_talk w (with_abort w.talk d (length (received (most r) (come w) false d).parts)))).world
    by true b e f = (refl, refl, refl)
    by false true e f = (refl, refl, refl)
    by false false true f = (refl, refl, refl)
    by false false false true = (refl, refl, refl)
    by false false false false = (refl, refl, refl)

-- the answer is the world's, and the ends stand for its next world; the bytes that went out are those that go up by it
pub record AsksOn (r : Common) (answer : StepAnswer) (w : World) (to : Stepped) (b new : BookState) (s : ServerState) (up : List ℕ) : Type 0 where
  pub outcome : to.outcome ≡ answer
  pub ends : EndsHold r to.world new s up
  pub bytes : List ℕ
  pub stream : stream_of to.world.talk.ups ≡ stream_of w.talk.ups ++ bytes
  pub output : new.link.output ≡ b.link.output ++ bytes

-- so, or the book is as it was where memory ran out
abbrev pub AsksOnAs : Option StepAnswer → Common → World → Stepped → BookState → BookState → ServerState → List ℕ → Type 0
AsksOnAs (Some answer) r w to b new s up = AsksOn r answer w to b new s up
AsksOnAs None r w to b new s up = new ≡ b

module _ (r : Common) (is : IsOfSchema r) (w : World) (b new : BookState) (s : ServerState) (up : List ℕ) (ends : EndsHold r w b s up) where
  closed_now : is_closed b.link ≡ is_shut w.client
  closed_now = closed_same r w.got w.client w.now b.link ends.stands.book_link

  along_ends : (to : Stepped) → IsGood r to.world → IsSameDown w to.world → (answer : StepAnswer) → to.outcome ≡ answer → BooksAlong r b w.talk to.world.talk new
      → AsksOn r answer w to b new s up
  along_ends to good (same, downs, queries) answer outcome goes =
      let bytes = frames (map body_of goes.more) in
      let longer : stream_of to.world.talk.ups ≡ stream_of w.talk.ups ++ bytes = ap stream_of goes.ups ∙ stream_join w.talk.ups goes.more in
      let came : whole to.world.talk.ups (w.up - header_size) ≡ arrived w
      = ap (λ l. whole l (w.up - header_size)) goes.ups ∙ whole_log_grows w.talk.ups goes.more (w.up - header_size) (omega (arith, ends.good.up)) in
      let took : HasTaken new.link b.got ends.stands.got_bodies (come w)
      = subst (λ e. HasTaken e b.got ends.stands.got_bodies (come w)) (sym goes.said) (all_taken b.link goes.more b.got ends.stands.got_bodies (come w) ends.stands.got_took) in
      record {
        outcome = outcome;
        ends = record {
          good = good;
          stands = subst (λ x. EndsStand r x new s up) (sym same) (record {
            book = goes.stands;
            server = record {
              rules = ends.stands.server.rules;
              table = λ id. ends.stands.server.table id ∙ ap (λ qs. standing_as r (find_query id qs)) (sym queries);
              count = ends.stands.server.count ∙ ap open_queries (sym queries);
            };
            book_link = subst (LinkStands r w.got w.client w.now) (sym goes.said) (said_stands r w.got w.client w.now b.link goes.more ends.stands.book_link);
            server_link = ends.stands.server_link;
            up_count = ends.stands.up_count;
            up_bytes = ends.stands.up_bytes;
            up_tail = ends.stands.up_tail ++ bytes;
            up_front = sym (append_assoc up ends.stands.up_tail bytes) ∙ (ap (λ l. l ++ bytes) ends.stands.up_front ∙ sym longer);
            up_bodies = ends.stands.up_bodies;
            up_took = subst (HasTaken s.link up ends.stands.up_bodies) (sym came) ends.stands.up_took;
            got_count = ap length goes.got ∙ ends.stands.got_count;
            got_bytes = subst (Each IsByte) (sym goes.got) ends.stands.got_bytes;
            got_tail = ends.stands.got_tail;
            got_front = ap (λ g. g ++ ends.stands.got_tail) goes.got ∙ (ends.stands.got_front ∙ sym (ap stream_of downs));
            got_bodies = ends.stands.got_bodies;
            got_took = subst (HasTaken new.link new.got ends.stands.got_bodies) (sym (ap (λ l. whole l (w.got - header_size)) downs))
                (subst (λ g. HasTaken new.link g ends.stands.got_bodies (come w)) (sym goes.got) took);
          });
        };
        bytes = bytes;
        stream = longer;
        output = ap (λ (e : EndState). e.output) goes.said ∙ all_said_output b.link goes.more;
      }

  asks_ends : (to : Stepped) → IsGood r to.world → IsSameDown w to.world → (o : Option StepAnswer) → AsksAlong o r b w.talk to new → AsksOnAs o r w to b new s up
  asks_ends to good same None kept_one = kept_one
  asks_ends to good same (Some answer) (outcome, goes) = along_ends to good same answer outcome goes

  -- A dispatch has the world's answer, and the ends stand for the world behind it.
  pub dispatch_ends : (label : List ℕ) (d : RpcDesc) (v : Value) (result : Result Ticket DispatchError) → IsKnown r d → Fits (most r) (form_of d.query) v
      → IsBooked b label d v result new → AsksOnAs (dispatched_as result) r w (dispatch r w (new_dispatch w label d) v) b new s up
  dispatch_ends label d v result known fits did =
      asks_ends (dispatch r w (new_dispatch w label d) v) (good_dispatch r (schema_ok r is) w ends.good (new_dispatch w label d) v known refl refl fits)
      (dispatch_world r w (new_dispatch w label d) v) (dispatched_as result)
      (dispatch_goes r w b (book_heard r is w b s up ends) closed_now (λ going. ends.stands.book_link.greeted (sym closed_now ∙ going)) label d v fits result new did)

  -- So has an abort.
  pub abort_ends : (label : List ℕ) (d : Dispatch) (result : Result (Unit {0}) AbortError) → find_label label w.talk.made ≡ Some d → IsAbortedAt b d.id result new
      → AsksOnAs (aborted_as result) r w (abort_held r w d (received (most r) (come w) false d)) b new s up
  abort_ends label d result here did =
      asks_ends (abort_held r w d (received (most r) (come w) false d)) (good_abort r (schema_ok r is) w ends.good label d here) (abort_world r w d) (aborted_as result)
      (abort_goes r w b (book_heard r is w b s up ends) closed_now d (label_found r w ends.good label d here) result new did)
