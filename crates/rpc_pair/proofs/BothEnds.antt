-- Both ends at once stand for a world that a schedule may lead to; and what a handler does keeps that.
use Rattle.std.proofs.Common.{◌≡◌, refl, sym, ap, ◌∙◌, subst, ℕ, ◌+◌, ◌-◌, ◌≤◌, ℤ, Bool, true, false, not, ◌&&◌, if◌then◌else◌, List, ◌++◌, map, length, append_assoc, arith}
use Rattle.std.specs.Prelude.{Option, Some, None, Result}
use Rattle.std.specs.Option.{is_some}
use Rattle.rpc_frame.specs.Frames.{frame, frames}
use Rattle.rpc_msg.specs.declared.message.Message.{Message}
use Rattle.rpc_end.specs.Ends.{EndState}
use Rattle.rpc_end.specs.Taken.{HasTaken}
use Rattle.rpc_talk.specs.Acts.{Act, answer_by, body_of, is_short, own_header, response, suits}
use Rattle.rpc_meeting.specs.declared.answer.StepAnswer.{StepAnswer}
use Rattle.rpc_meeting.specs.declared.answer.StepAnswer.TheVariants.{Refused}
use Rattle.rpc_meeting.specs.declared.answer.Refusal.{Refusal}
use Rattle.rpc_meeting.specs.declared.answer.Refusal.TheVariants.{Closed, NoSuch, Stopped, TooLong}
use Rattle.rpc_meeting.specs.Steps.{Stepped, act_open, act_query, act_server, done, may_be_long, refused, wrong_time}
use Rattle.rpc_meeting.specs.Talks.{Common, Dispatch, Served, find_made, find_query, goes_on_still, is_begun, is_stop, is_stopped, told_stopped, with_answer}
use Rattle.rpc_meeting.specs.Worlds.{World, arrived, come, header_size, is_shut, set_talk, stream_of, total, whole}
use Rattle.rpc_meeting.proofs.Acting.{good_server}
use Rattle.rpc_meeting.proofs.Comes.{all_welcome}
use Rattle.rpc_meeting.proofs.Goods.{IsGood}
use Rattle.rpc_meeting.proofs.Lines.{most}
use Rattle.rpc_meeting.proofs.Owners.{IsGiven}
use Rattle.rpc_meeting.proofs.Whole.{whole_log_grows, whole_prefix}
use Rattle.rpc_book.specs.Books.{BookState}
use Rattle.rpc_server.specs.Acting.{IsActed}
use Rattle.rpc_server.specs.Servers.{ServerState}
use Rattle.rpc_server.specs.declared.error.ActError.{ActError}
use Rattle.rpc_pair.specs.Links.{LinkStands}
use Rattle.rpc_pair.specs.Rules.{IsOfSchema}
use Rattle.rpc_pair.specs.Standing.{EndsStand, booked_of}
use Rattle.rpc_pair.specs.Stands.{ActsAlong, GoesAlong, answer_as}
use Rattle.rpc_pair.proofs.Acts.{act_goes}
use Rattle.rpc_pair.proofs.BookFeeds.{IsBookAt}
use Rattle.rpc_pair.proofs.Given.{given_log}
use Rattle.rpc_pair.proofs.Held.{HasHeard}
use Rattle.rpc_pair.proofs.LinkLaws.{all_said_output, closed_same, said_stands}
use Rattle.rpc_pair.proofs.Meets.{meets_good}
use Rattle.rpc_pair.proofs.Pieces.{came_whole, log_join}
use Rattle.rpc_pair.proofs.Schemas.{schema_ok}
use Rattle.rpc_pair.proofs.Sendable.{downs_opened, downs_within}
use Rattle.rpc_pair.proofs.ServerFeeds.{IsServerAt, all_taken}

-- the world is one that a schedule may lead to, and both ends stand for it
pub record EndsHold (r : Common) (w : World) (b : BookState) (s : ServerState) (up : List ℕ) : Type 0 where
  pub good : IsGood r w
  pub stands : EndsStand r w b s up

-- more of a log is more of its stream
pub stream_join : (a b : List Message) → stream_of (a ++ b) ≡ stream_of a ++ frames (map body_of b)
stream_join a b =
    ap (λ l. frame own_header ++ l) (log_join a b) ∙ sym (append_assoc (frame own_header) (frames (map body_of a)) (frames (map body_of b)))

module _ (r : Common) (is : IsOfSchema r) (w : World) (b : BookState) (s : ServerState) (up : List ℕ) (ends : EndsHold r w b s up) where
  none_of : {A : Type 0} (o : Option A) → is_some o ≡ false → o ≡ None
  none_of None e = refl
  none_of (Some x) e = absurd cc

  -- a server that is not closed is where its feeds begin
  pub server_at : is_shut w.server ≡ false → IsServerAt r s w.talk up (arrived w) (come w)
  server_at opened = record {
    stands = ends.stands.server;
    meets = meets_good r w ends.good;
    max = ends.stands.server_link.max;
    going = none_of s.link.cause (closed_same r w.up w.server w.now s.link ends.stands.server_link ∙ opened);
    bodies = ends.stands.up_bodies;
    took = ends.stands.up_took;
  }

  -- and so is a book
  pub book_at : is_shut w.client ≡ false → IsBookAt r b w.talk (arrived w) (come w)
  book_at opened = record {
    stands = ends.stands.book;
    meets = meets_good r w ends.good;
    max = ends.stands.book_link.max;
    going = none_of b.link.cause (closed_same r w.got w.client w.now b.link ends.stands.book_link ∙ opened);
    room = omega (arith, ends.stands.got_count, ends.good.journal);
    bytes = ends.stands.got_bytes;
    bodies = ends.stands.got_bodies;
    took = ends.stands.got_took;
  }

  -- what a book got are the messages that came, and it accepts them all
  pub book_heard : HasHeard r b w.talk (come w)
  book_heard =
      let (rest, cut) = whole_prefix w.talk.downs (w.got - header_size) in
      record {
        stands = ends.stands.book;
        read = given_log r is w.talk.downs (downs_within r is w.talk ends.good.carried) (downs_opened r is w.talk ends.good.carried) b.got ends.stands.got_tail
            ends.stands.got_front ends.stands.got_bytes
            ∙ (came_whole w.talk.downs (length b.got) ∙ ap (λ n. whole w.talk.downs (n - header_size)) ends.stands.got_count);
        all = all_welcome r w.talk (arrived w) ends.good.sound (come w) rest cut;
      }

-- ---- a handler acts

-- the world is as it was but for what goes down and the queries
abbrev pub IsSameUp : World → World → Type 0
IsSameUp w new = (new ≡ set_talk w new.talk) × (new.talk.ups ≡ w.talk.ups) × (new.talk.made ≡ w.talk.made)

pub act_world : (r : Common) (w : World) (id : ℤ) (act : Act) → IsSameUp w (act_server r w id act).world
act_world r w id act = by (is_shut w.server) (find_query id w.talk.queries)
  where
    told_step : Served → Stepped
    told_step q = record { world = set_talk w (told_stopped w.talk q.id); outcome = Refused Stopped }

    opened : (q : Served) (o : Option Refusal) → IsSameUp w (act_open r w q act o).world
    opened q (Some reason) = (refl, refl, refl)
    opened q None = by_length (may_be_long act && not (is_short (most r) (response q.id (answer_by q.desc act))))
      where
        by_length : (b : Bool) → IsSameUp w (if b then refused w TooLong else done (set_talk w (with_answer w.talk q act))).world
        by_length true = (refl, refl, refl)
        by_length false = (refl, refl, refl)

    query : (o : Option Served) → IsSameUp w (act_query r w act o).world
    query None = (refl, refl, refl)
    query (Some q) = by_query (goes_on_still q) (is_stopped q) (opened q (wrong_time act (is_begun q)))
      where
        by_query : (a b : Bool) → IsSameUp w (act_open r w q act (wrong_time act (is_begun q))).world
            → IsSameUp w (if a then act_open r w q act (wrong_time act (is_begun q)) else if b then told_step q else refused w NoSuch).world
        by_query true b open_one = open_one
        by_query false true open_one = (refl, refl, refl)
        by_query false false open_one = (refl, refl, refl)

    by : (b : Bool) (o : Option Served) → IsSameUp w (if b then refused w Closed else act_query r w act o).world
    by true o = (refl, refl, refl)
    by false o = query o

-- the answer is the world's, and the ends stand for its next world; the bytes that went out are those that go down by it
pub record ActsOn (r : Common) (answer : StepAnswer) (w : World) (to : Stepped) (b : BookState) (s new : ServerState) (up : List ℕ) : Type 0 where
  pub outcome : to.outcome ≡ answer
  pub ends : EndsHold r to.world b new up
  pub bytes : List ℕ
  pub stream : stream_of to.world.talk.downs ≡ stream_of w.talk.downs ++ bytes
  pub output : new.link.output ≡ s.link.output ++ bytes

-- so, or the server is as it was where memory ran out
abbrev pub ActsOnAs : Option StepAnswer → Common → World → Stepped → BookState → ServerState → ServerState → List ℕ → Type 0
ActsOnAs (Some answer) r w to b s new up = ActsOn r answer w to b s new up
ActsOnAs None r w to b s new up = new ≡ s

module _ (r : Common) (is : IsOfSchema r) (w : World) (b : BookState) (s new : ServerState) (up : List ℕ) (ends : EndsHold r w b s up)
    (d : Dispatch) (own : find_made d.id w.talk.made ≡ Some d) (act : Act) (fits : suits act d.desc.kind ≡ true) (given : IsGiven (most r) d.desc act)
    (handles : is_stop act ≡ false) where
  abbrev to : Stepped
  to = act_server r w d.id act

  along_ends : (answer : StepAnswer) → to.outcome ≡ answer → GoesAlong r s.link w.talk to.world.talk new → ActsOn r answer w to b s new up
  along_ends answer outcome goes =
      let (same, ups, made) = act_world r w d.id act in
      let bytes = frames (map body_of goes.more) in
      let longer : stream_of to.world.talk.downs ≡ stream_of w.talk.downs ++ bytes = ap stream_of goes.downs ∙ stream_join w.talk.downs goes.more in
      let few : w.got ≤ header_size + total w.talk.downs = omega (arith, ends.good.down, ends.good.got) in
      let came : whole to.world.talk.downs (w.got - header_size) ≡ come w
      = ap (λ l. whole l (w.got - header_size)) goes.downs ∙ whole_log_grows w.talk.downs goes.more (w.got - header_size) (omega (arith, few)) in
      record {
        outcome = outcome;
        ends = record {
          good = good_server r (schema_ok r is) w ends.good d own act fits given handles;
          stands = subst (λ x. EndsStand r x b new up) (sym same) (record {
            book = record { limits = ends.stands.book.limits; made = ends.stands.book.made ∙ ap (map booked_of) (sym made); ids = ends.stands.book.ids };
            server = goes.stands;
            book_link = ends.stands.book_link;
            server_link = subst (LinkStands r w.up w.server w.now) (sym goes.said) (said_stands r w.up w.server w.now s.link goes.more ends.stands.server_link);
            up_count = ends.stands.up_count;
            up_bytes = ends.stands.up_bytes;
            up_tail = ends.stands.up_tail;
            up_front = ends.stands.up_front ∙ sym (ap stream_of ups);
            up_bodies = ends.stands.up_bodies;
            up_took = subst (HasTaken new.link up ends.stands.up_bodies) (sym (ap (λ l. whole l (w.up - header_size)) ups))
                (subst (λ e. HasTaken e up ends.stands.up_bodies (arrived w)) (sym goes.said)
                (all_taken s.link goes.more up ends.stands.up_bodies (arrived w) ends.stands.up_took));
            got_count = ends.stands.got_count;
            got_bytes = ends.stands.got_bytes;
            got_tail = ends.stands.got_tail ++ bytes;
            got_front = sym (append_assoc b.got ends.stands.got_tail bytes) ∙ (ap (λ l. l ++ bytes) ends.stands.got_front ∙ sym longer);
            got_bodies = ends.stands.got_bodies;
            got_took = subst (HasTaken b.link b.got ends.stands.got_bodies) (sym came) ends.stands.got_took;
          });
        };
        bytes = bytes;
        stream = longer;
        output = ap (λ (e : EndState). e.output) goes.said ∙ all_said_output s.link goes.more;
      }

  -- An act on a query has the world's answer, and the ends stand for the world behind it.
  pub act_ends : (result : Result (Unit {0}) ActError) → IsActed s d.id act result new → ActsOnAs (answer_as result) r w to b s new up
  act_ends result acted =
      by (answer_as result)
      (act_goes r is w ends.good.sound s ends.stands.server (closed_same r w.up w.server w.now s.link ends.stands.server_link) d own act fits given handles result new acted)
    where
      by : (o : Option StepAnswer) → ActsAlong o r s w.talk to new → ActsOnAs o r w to b s new up
      by None same = same
      by (Some answer) (outcome, goes) = along_ends answer outcome goes
