-- A server that is fed what the client wrote goes along with the talk, in pieces of any size, and never closes.
use Rattle.std.proofs.Common.{◌≡◌, refl, sym, ap, ◌∙◌, subst, ℕ, List, [], ◌∷◌, ◌++◌, map, length, take, inl, inr}
use Rattle.std.specs.Prelude.{Some, None, Result, Ok, Err, fold}
use Rattle.std.proofs.lemmas.List.{append-nil}
use Rattle.readers.specs.Reader.{Each, IsByte}
use Rattle.readers.proofs.Readers.{each-front}
use Rattle.rpc_frame.specs.Frames.{frames}
use Rattle.rpc_msg.specs.declared.message.Message.{Message}
use Rattle.rpc_msg.specs.declared.shared.CloseCause.{CloseCause}
use Rattle.rpc_msg.specs.declared.shared.FeedError.{FeedError}
use Rattle.rpc_msg.specs.declared.shared.FeedError.TheVariants as feed
use Rattle.rpc_end.specs.Ends.{EndState, heard, holding, said}
use Rattle.rpc_end.specs.Taken.{HasTaken}
use Rattle.rpc_end.specs.Taking.{GivesMessage, IsNextOf, IsPartTaken}
use Rattle.rpc_end.specs.declared.end.Got.{Got}
use Rattle.rpc_end.specs.declared.end.Next.{Next}
use Rattle.rpc_end.specs.declared.end.Next.TheVariants as next
use Rattle.rpc_end.proofs.Taken.{taken_message, taken_part, taken_start}
use Rattle.rpc_talk.specs.Acts.{body_of}
use Rattle.rpc_talk.proofs.Accepting.{IsTaken}
use Rattle.rpc_client.proofs.Dispatches.{said_taken}
use Rattle.rpc_meeting.specs.Talks.{Common, Talk, first_talk, heard_up}
use Rattle.rpc_meeting.specs.Worlds.{Side, came_log, first_world, stream_of}
use Rattle.rpc_meeting.proofs.Carried.{IsUp}
use Rattle.rpc_meeting.proofs.Lines.{most}
use Rattle.rpc_meeting.proofs.Reached.{first_good}
use Rattle.rpc_server.specs.Servers.{ServerState, DoesAsTaken, Hears, IsNew, IsServerFed, with_end}
use Rattle.rpc_server.specs.declared.arrival.ServerFed.{ServerFed}
use Rattle.rpc_pair.specs.Links.{LinkStands}
use Rattle.rpc_pair.specs.Rules.{IsOfSchema}
use Rattle.rpc_pair.specs.Stands.{GoesAlong, ServerStands, all_said}
use Rattle.rpc_pair.proofs.Arrivals.{arrival_goes}
use Rattle.rpc_pair.proofs.FeedMoments.{message_stands, part_stands, side_behind}
use Rattle.rpc_pair.proofs.Given.{came_front, never_closed, next_given, ups_taken}
use Rattle.rpc_pair.proofs.LinkLaws.{all_said_output, said_stands}
use Rattle.rpc_pair.proofs.Meets.{Meets, meets_good, meets_heard}
use Rattle.rpc_pair.proofs.Schemas.{schema_ok}
use Rattle.rpc_pair.proofs.Sendable.{ups_opened, ups_within}
use Rattle.rpc_pair.proofs.Starts.{new_stands}

-- ---- what goes out changes nothing of what was taken

-- some messages
pub all_taken : (e : EndState) (log : List Message) (given : List ℕ) (bs : List (List ℕ)) (came : List Message) → HasTaken e given bs came → HasTaken (all_said e log) given bs came
all_taken e [] given bs came took = took
all_taken e (a ∷ log) given bs came took = all_taken (said e a) log given bs came (said_taken e a given bs came took)

-- what is said leaves all else
pub said_same : {A : Type 0} (f : EndState → A) → ((e : EndState) (a : Message) → f (said e a) ≡ f e) → (e : EndState) (log : List Message) → f (all_said e log) ≡ f e
said_same f same e [] = refl
said_same f same e (a ∷ log) = said_same f same (said e a) log ∙ same e a

-- what a part of a frame or a header leaves
pub part_same : {A : Type 0} (f : EndState → A) → ((e : EndState) (held : List ℕ) (used : ℕ) → f (holding e held used) ≡ f e) → ((e : EndState) (now : ℕ) → f (heard e now) ≡ f e)
    → (old : EndState) (piece : List ℕ) (now used : ℕ) (new : EndState) → IsPartTaken old piece now used new → f new ≡ f old
part_same f holds hears old piece now used new (inl (on, all, is)) = ap f is ∙ holds old _ used
part_same f holds hears old piece now used new (inr (body, ends, opening, opens, is)) = ap f is ∙ (hears (holding old [] used) now ∙ holds old [] used)

-- ---- a server that was given these bytes, of which these messages came

-- it stands for the talk and is not closed; what it took of these bytes are these messages
pub record IsServerAt (r : Common) (s : ServerState) (t : Talk) (given : List ℕ) (came got : List Message) : Type 0 where
  pub stands : ServerStands r s t
  pub meets : Meets r t came got
  pub max : s.link.max ≡ most r
  pub going : s.link.cause ≡ None
  pub bodies : List (List ℕ)
  pub took : HasTaken s.link given bodies came

-- so is a new one, at the start
pub new_at : (r : Common) (now : ℕ) (s : ServerState) → IsOfSchema r → IsNew r.entries r.limits now s → IsServerAt r s first_talk [] [] []
new_at r now s is new = record {
  stands = new_stands r now s is new;
  meets = meets_good r first_world (first_good r);
  max = ap (λ (e : EndState). e.max) new.link_is;
  going = ap (λ (e : EndState). e.cause) new.link_is;
  bodies = [];
  took = subst (λ e. HasTaken e [] [] []) (sym new.link_is) (taken_start r.limits now);
}

-- and one that went along with what the talk became, as by an act
pub along_at : (r : Common) (s new : ServerState) (t to : Talk) (given : List ℕ) (came got : List Message) → IsServerAt r s t given came got → GoesAlong r s.link t to new
    → Meets r to came got → IsServerAt r new to given came got
along_at r s new t to given came got at goes meets = record {
  stands = goes.stands;
  meets = meets;
  max = ap (λ (e : EndState). e.max) goes.said ∙ (said_same (λ (e : EndState). e.max) (λ e a. refl) s.link goes.more ∙ at.max);
  going = ap (λ (e : EndState). e.cause) goes.said ∙ (said_same (λ (e : EndState). e.cause) (λ e a. refl) s.link goes.more ∙ at.going);
  bodies = at.bodies;
  took = subst (λ e. HasTaken e given at.bodies came) (sym goes.said) (all_taken s.link goes.more given at.bodies came at.took);
}

-- it was given more, heard these messages, and said what the talk has more that goes down; its moments are those of its side
pub record MovesOn (r : Common) (now : ℕ) (s : ServerState) (t : Talk) (given after : List ℕ) (came got : List Message) (new : ServerState) : Type 0 where
  pub fresh : List Message
  pub at : IsServerAt r new (fold (heard_up r) t fresh) after (came ++ fresh) got
  pub more : List Message
  pub downs : (fold (heard_up r) t fresh).downs ≡ t.downs ++ more
  pub output : new.link.output ≡ s.link.output ++ frames (map body_of more)
  pub moments : (side : Side) → LinkStands r (length given) side now s.link
      → LinkStands r (length after) (side_behind t.ups side now (length given) (length after)) now new.link

-- a feed: it moves on; it is closed by nothing; where memory ran out it is as it was
abbrev pub FeedsAlong : Common → ℕ → ServerState → Talk → List ℕ → List ℕ → List Message → List Message → Result ServerFed FeedError → ServerState → Type 0
FeedsAlong r now s t given piece came got (Ok fed) new = MovesOn r now s t given (given ++ take fed.used piece) came got new
FeedsAlong r now s t given piece came got (Err (feed.Closed why)) new = ⊥
FeedsAlong r now s t given piece came got (Err feed.OutOfMemory) new = new ≡ s

module _ (r : Common) (is : IsOfSchema r) (s : ServerState) (t : Talk) (given piece tail : List ℕ) (came got : List Message) (at : IsServerAt r s t given came got)
    (cut : given ++ (piece ++ tail) ≡ stream_of t.ups) (bytes : Each IsByte (given ++ piece)) (now : ℕ) (new : ServerState) where
  -- no message came whole
  part_goes : (used : ℕ) (link : EndState) → IsPartTaken s.link piece now used link → new ≡ with_end s link → MovesOn r now s t given (given ++ take used piece) came got new
  part_goes used link part same =
      let (bodies, took) = taken_part s.link given piece now used link at.bodies came at.took part in
      subst (MovesOn r now s t given (given ++ take used piece) came got) (sym same) (record {
        fresh = [];
        at = record {
          stands = record { rules = at.stands.rules; table = at.stands.table; count = at.stands.count };
          meets = subst (λ c. Meets r t c got) (sym (append-nil came)) at.meets;
          max = part_same (λ (e : EndState). e.max) (λ e held n. refl) (λ e n. refl) s.link piece now used link part ∙ at.max;
          going = part_same (λ (e : EndState). e.cause) (λ e held n. refl) (λ e n. refl) s.link piece now used link part ∙ at.going;
          bodies = bodies;
          took = subst (HasTaken link (given ++ take used piece) bodies) (sym (append-nil came)) took;
        };
        more = [];
        downs = sym (append-nil t.downs);
        output = part_same (λ (e : EndState). e.output) (λ e held n. refl) (λ e n. refl) s.link piece now used link part ∙ sym (append-nil s.link.output);
        moments = λ side stands. part_stands r is t.ups (ups_within r is t at.meets.carried) (ups_opened r is t at.meets.carried) s.link at.max given piece tail cut bytes
            at.bodies came at.took side now stands used link part;
      })

  module _ (g : Got) (link : EndState) (gives : GivesMessage s.link piece g link) where
    next_up : (rest : List Message) × (came ++ g.message ∷ rest ≡ t.ups)
    next_up =
        next_given r is t.ups (ups_within r is t at.meets.carried) (ups_opened r is t at.meets.carried) s.link at.max given piece tail cut bytes at.bodies came at.took
        now g link gives

    -- a message came, which the server heard
    message_goes : GoesAlong r (heard link now) t (heard_up r t g.message) new → MovesOn r now s t given (given ++ take g.used piece) came got new
    message_goes goes =
        let (rest, here) = next_up in
        let took = taken_message s.link given piece now g link at.bodies came at.took gives in
        let keeps : EndState = holding s.link [] g.used in
        record {
          fresh = g.message ∷ [];
          at = record {
            stands = goes.stands;
            meets = meets_heard r t came rest got g.message here at.meets (schema_ok r is);
            max = ap (λ (e : EndState). e.max) goes.said ∙ (said_same (λ (e : EndState). e.max) (λ e a. refl) (heard link now) goes.more
                ∙ (ap (λ (e : EndState). e.max) gives.new_is ∙ at.max));
            going = ap (λ (e : EndState). e.cause) goes.said ∙ (said_same (λ (e : EndState). e.cause) (λ e a. refl) (heard link now) goes.more ∙ gives.can_back.going);
            bodies = at.bodies ++ g.body ∷ [];
            took = subst (λ e. HasTaken e (given ++ take g.used piece) (at.bodies ++ g.body ∷ []) (came ++ g.message ∷ [])) (sym goes.said)
                (all_taken (heard link now) goes.more (given ++ take g.used piece) (at.bodies ++ g.body ∷ []) (came ++ g.message ∷ []) took);
          };
          more = goes.more;
          downs = goes.downs;
          output = ap (λ (e : EndState). e.output) goes.said ∙ (all_said_output (heard link now) goes.more
              ∙ ap (λ (e : EndState). e.output ++ frames (map body_of goes.more)) gives.new_is);
          moments = λ side stands.
              let after = length (given ++ take g.used piece) in
              subst (LinkStands r after (side_behind t.ups side now (length given) after) now) (sym goes.said)
              (said_stands r after (side_behind t.ups side now (length given) after) now (heard link now) goes.more
              (message_stands r is t.ups (ups_within r is t at.meets.carried) (ups_opened r is t at.meets.carried) s.link at.max given piece tail cut bytes at.bodies came
              at.took side now stands g link gives));
        }

    hears_goes : (result : Result ServerFed FeedError) → Hears s now g.used g.message link result new → FeedsAlong r now s t given piece came got result new
    hears_goes (Ok fed) (used, did) =
        let (rest, here) = next_up in
        subst (λ n. MovesOn r now s t given (given ++ take n piece) came got new) (sym used)
        (message_goes (arrival_goes r is s t came rest got at.meets at.stands now link (Ok fed.arrival) new g.message here did))
    hears_goes (Err (feed.Closed why)) did =
        let (rest, here) = next_up in
        arrival_goes r is s t came rest got at.meets at.stands now link (Err why) new g.message here did
    hears_goes (Err feed.OutOfMemory) same = same

  no_cause_some : (why : CloseCause) → s.link.cause ≡ Some why → ⊥
  no_cause_some why closed = let line : None ≡ Some why = sym at.going ∙ closed in cc

  quiet : (n : ℕ) → IsTaken (most r) [] [] (came_log t.ups n)
  quiet n =
      let (rest, front) = came_front t.ups n in
      ups_taken r (most r) [] [] (came_log t.ups n)
      (each-front (IsUp r) (came_log t.ups n) rest (subst (Each (IsUp r)) (sym front) at.meets.carried.ups))

  taken_goes : (taken : Result Next FeedError) (link : EndState) (result : Result ServerFed FeedError) → IsNextOf s.link piece now taken link → DoesAsTaken s now taken link result new
      → FeedsAlong r now s t given piece came got result new
  taken_goes (Ok (next.Part used)) link result (going, part) (tells, same) =
      subst (λ x. FeedsAlong r now s t given piece came got x new) (sym tells) (part_goes used link part same)
  taken_goes (Ok (next.Message g)) link result (going, gives) hears = hears_goes g link gives result hears
  taken_goes (Err (feed.Closed why)) link result (inl (closed, kept)) does = absurd (no_cause_some why closed)
  taken_goes (Err (feed.Closed why)) link result (inr (going, closed)) does =
      absurd (never_closed r is t.ups (ups_within r is t at.meets.carried) (ups_opened r is t at.meets.carried) s.link at.max given piece tail cut bytes at.bodies came at.took
      [] quiet why link closed)
  taken_goes (Err feed.OutOfMemory) link result (going, kept) (tells, same) =
      subst (λ x. FeedsAlong r now s t given piece came got x new) (sym tells) (same ∙ ap (with_end s) kept)

  -- A feed of what the client wrote goes along with the talk: it takes some of the piece, and says what the talk has more that goes down. It
  -- closes no server.
  pub feed_goes : (result : Result ServerFed FeedError) → IsServerFed s piece now result new → FeedsAlong r now s t given piece came got result new
  feed_goes result (taken, link, takes, does) = taken_goes taken link result takes does
