-- A book that is fed what the server wrote stands for the talk, in pieces of any size, and closes only where its journal has no room.
use Rattle.std.proofs.Common.{◌≡◌, refl, sym, ap, ◌∙◌, subst, ℕ, ◌+◌, ◌≤◌, ◌^◌, Bool, if◌then◌else◌, List, [], ◌∷◌, ◌++◌, length, take, arith, inl, inr, ◌⊎◌}
use Rattle.std.specs.Prelude.{Option, Some, None, Result, Ok, Err}
use Rattle.std.proofs.lemmas.List.{append-nil, length-append, length-take}
use Rattle.readers.specs.Reader.{Each, IsByte}
use Rattle.readers.proofs.Readers.{each-join}
use Rattle.rpc_msg.specs.declared.message.Message.{Message}
use Rattle.rpc_msg.specs.declared.message.Message.TheVariants as message
use Rattle.rpc_msg.specs.declared.shared.CloseCause.{CloseCause}
use Rattle.rpc_msg.specs.declared.shared.CloseCause.TheVariants as cause
use Rattle.rpc_msg.specs.declared.shared.FeedError.{FeedError}
use Rattle.rpc_msg.specs.declared.shared.FeedError.TheVariants as feed
use Rattle.rpc_end.specs.Ends.{EndState, heard, holding, shut}
use Rattle.rpc_end.specs.Taken.{HasTaken}
use Rattle.rpc_end.specs.Taking.{IsClosedBy, IsPartTaken}
use Rattle.rpc_end.proofs.Taken.{taken_message, taken_part}
use Rattle.rpc_log.specs.Logs.{log_of}
use Rattle.rpc_talk.specs.Causes.{unwelcome}
use Rattle.rpc_talk.specs.Welcome.{is_welcome}
use Rattle.rpc_talk.proofs.Accepting.{IsTaken}
use Rattle.rpc_client.specs.Clients.{answering, closed_for}
use Rattle.rpc_client.proofs.Dispatches.{taken_log}
use Rattle.rpc_meeting.specs.Talks.{Common, Talk, all_called}
use Rattle.rpc_meeting.specs.Worlds.{Side, came_log, journal, stream_of}
use Rattle.rpc_meeting.proofs.Carried.{IsDown, next_each}
use Rattle.rpc_meeting.proofs.Comes.{all_welcome, next_welcome}
use Rattle.rpc_meeting.proofs.Lines.{most}
use Rattle.rpc_book.specs.Books.{BookState, HaveDistinctIds, calls_of, messages_of, with_connection}
use Rattle.rpc_book.specs.Feeds.{FeedCloses, HearsMessage, IsBookFed, IsFull, TakesOn, closes_for, own_answer, with_bytes}
use Rattle.rpc_pair.specs.Links.{LinkStands}
use Rattle.rpc_pair.specs.Rules.{IsOfSchema}
use Rattle.rpc_pair.specs.Standing.{BookStands}
use Rattle.rpc_pair.proofs.FeedMoments.{message_stands, part_stands, side_behind}
use Rattle.rpc_pair.proofs.Given.{came_front, never_closed, next_given, parted_bytes}
use Rattle.rpc_pair.proofs.Held.{HasHeard, calls_here, limit_same, messages_same}
use Rattle.rpc_pair.proofs.Meets.{Meets, meets_down}
use Rattle.rpc_pair.proofs.Sendable.{downs_opened, downs_within}
use Rattle.rpc_pair.proofs.ServerFeeds.{part_same}

-- a book that is not closed, and what it got are these messages; `up` are those that came to the server
pub record IsBookAt (r : Common) (b : BookState) (t : Talk) (up come : List Message) : Type 0 where
  pub stands : BookStands r b t
  pub meets : Meets r t up come
  pub max : b.link.max ≡ most r
  pub going : b.link.cause ≡ None
  pub room : length b.got ≤ journal
  pub bytes : Each IsByte b.got
  pub bodies : List (List ℕ)
  pub took : HasTaken b.link b.got bodies come

-- it got these bytes more and heard these messages, and said nothing; its moments are those of its side
pub record GetsOn (r : Common) (now : ℕ) (b : BookState) (t : Talk) (bytes : List ℕ) (up come : List Message) (new : BookState) : Type 0 where
  pub fresh : List Message
  pub at : IsBookAt r new t up (come ++ fresh)
  pub got : new.got ≡ b.got ++ bytes
  pub output : new.link.output ≡ b.link.output
  pub moments : (side : Side) → LinkStands r (length b.got) side now b.link
      → LinkStands r (length new.got) (side_behind t.downs side now (length b.got) (length new.got)) now new.link

-- all of a piece was taken, or it was taken up to the end of a frame
abbrev pub IsAtEnd : List ℕ → ℕ → EndState → Type 0
IsAtEnd piece used link = (used ≡ length piece) ⊎ (link.held ≡ [])

-- there is no room for what a feed of the piece would take, and it closes for that
abbrev pub IsFullAt : BookState → List ℕ → CloseCause → BookState → Type 0
IsFullAt b piece why new = IsFull b piece × (why ≡ cause.JournalFull (length b.got)) × (new ≡ with_connection b (shut b.link why))

-- a feed: it gets more; it is closed only where there is no room; where memory ran out it is as it was
abbrev pub GetsAlong : Common → ℕ → BookState → Talk → List ℕ → List Message → List Message → Result ℕ FeedError → BookState → Type 0
GetsAlong r now b t piece up come (Ok used) new = GetsOn r now b t (take used piece) up come new × IsAtEnd piece used new.link
GetsAlong r now b t piece up come (Err (feed.Closed why)) new = IsFullAt b piece why new
GetsAlong r now b t piece up come (Err feed.OutOfMemory) new = new ≡ b

-- a book of the same dispatches stands for the talk
pub stands_on : (r : Common) (b new : BookState) (t : Talk) → new.limits ≡ b.limits → new.made ≡ b.made → BookStands r b t → BookStands r new t
stands_on r b new t limits made stands =
    record { limits = limits ∙ stands.limits; made = made ∙ stands.made; ids = subst HaveDistinctIds (sym made) stands.ids }

-- a book that takes some of a piece
module _ (r : Common) (is : IsOfSchema r) (b : BookState) (t : Talk) (piece tail : List ℕ) (up come : List Message) (at : IsBookAt r b t up come)
    (cut : b.got ++ (piece ++ tail) ≡ stream_of t.downs) (piece_bytes : Each IsByte piece) (now : ℕ) (new : BookState) where
  limit : b.link.max ≤ 2 ^ 30
  limit = omega (arith, at.max, is.limits.message.1)

  bytes : Each IsByte (b.got ++ piece)
  bytes = each-join IsByte b.got piece at.bytes piece_bytes

  has_heard : HasHeard r b t come
  has_heard = record {
    stands = at.stands;
    read = ap (λ m. log_of m b.got) (sym at.max) ∙ taken_log b.link b.got at.bodies come limit at.bytes at.took;
    all = all_welcome r t up at.meets.sound come at.meets.more at.meets.down;
  }

  -- so many bytes fit the journal
  room_after : (used : ℕ) → length b.got + used ≤ journal → length (b.got ++ take used piece) ≤ journal
  room_after used le = omega (arith, le, length-append b.got (take used piece), length-take used piece)

  -- ---- no message came whole

  part_goes : (used : ℕ) → length b.got + used ≤ journal → IsPartTaken b.link piece now used new.link → new ≡ with_bytes b (take used piece) new.link
      → GetsOn r now b t (take used piece) up come new × IsAtEnd piece used new.link
  part_goes used room part same =
      let (bodies, taken) = taken_part b.link b.got piece now used new.link at.bodies come at.took part in
      let got : new.got ≡ b.got ++ take used piece = ap (λ (x : BookState). x.got) same in (
        record {
          fresh = [];
          at = record {
            stands = stands_on r b new t (ap (λ (x : BookState). x.limits) same) (ap (λ (x : BookState). x.made) same) at.stands;
            meets = subst (Meets r t up) (sym (append-nil come)) at.meets;
            max = part_same (λ (e : EndState). e.max) (λ e held n. refl) (λ e n. refl) b.link piece now used new.link part ∙ at.max;
            going = part_same (λ (e : EndState). e.cause) (λ e held n. refl) (λ e n. refl) b.link piece now used new.link part ∙ at.going;
            room = subst (λ g. length g ≤ journal) (sym got) (room_after used room);
            bytes = subst (Each IsByte) (sym got) (parted_bytes b.got piece used bytes);
            bodies = bodies;
            took = subst (HasTaken new.link new.got bodies) (sym (append-nil come)) (subst (λ g. HasTaken new.link g bodies come) (sym got) taken);
          };
          got = got;
          output = part_same (λ (e : EndState). e.output) (λ e held n. refl) (λ e n. refl) b.link piece now used new.link part;
          moments = λ side stands. subst (λ g. LinkStands r (length g) (side_behind t.downs side now (length b.got) (length g)) now new.link) (sym got)
              (part_stands r is t.downs (downs_within r is t at.meets.carried) (downs_opened r is t at.meets.carried) b.link at.max b.got piece tail cut bytes at.bodies come
              at.took side now stands used new.link part);
        },
        at_end part,
      )
    where
      at_end : IsPartTaken b.link piece now used new.link → IsAtEnd piece used new.link
      at_end (inl (on, all, is)) = inl all
      at_end (inr (body, ends, first, opens, is)) = inr (ap (λ (e : EndState). e.held) is)

  -- ---- a message came

  -- it is welcome, and none that is answered
  quiet : (a : Message) (rest : List Message) → come ++ a ∷ rest ≡ t.downs → (closes_for b a ≡ None) × (own_answer b.limits.max_message a ≡ None)
  quiet a rest here =
      let down : IsDown r a = next_each (IsDown r) come rest a (subst (Each (IsDown r)) (sym here) at.meets.carried.downs) in
      (ap closes_by (by_limit ∙ (by_calls ∙ (by_log ∙ next_welcome r t up at.meets.sound come rest a here))), no_answer a down)
    where
      closes_by : Bool → Option CloseCause
      closes_by welcome = if welcome then None else unwelcome b.limits.max_message (calls_of b.made) (messages_of b) a

      by_limit : is_welcome b.limits.max_message (calls_of b.made) (messages_of b) a ≡ is_welcome (most r) (calls_of b.made) (messages_of b) a
      by_limit = ap (λ m. is_welcome m (calls_of b.made) (messages_of b) a) (limit_same r b t come has_heard)

      by_calls : is_welcome (most r) (calls_of b.made) (messages_of b) a ≡ is_welcome (most r) (all_called t.made) (messages_of b) a
      by_calls = ap (λ calls. is_welcome (most r) calls (messages_of b) a) (calls_here r b t come has_heard)

      by_log : is_welcome (most r) (all_called t.made) (messages_of b) a ≡ is_welcome (most r) (all_called t.made) come a
      by_log = ap (λ log. is_welcome (most r) (all_called t.made) log a) (messages_same r b t come has_heard)

      no_answer : (x : Message) → IsDown r x → own_answer b.limits.max_message x ≡ None
      no_answer message.Heartbeat down = refl
      no_answer (message.Query q) down = absurd down
      no_answer (message.Response x) down = refl

  module _ (n : ℕ) (why : Option CloseCause) (hears : HearsMessage b piece now n why new) where
    next : (rest : List Message) × (come ++ hears.got.message ∷ rest ≡ t.downs)
    next =
        next_given r is t.downs (downs_within r is t at.meets.carried) (downs_opened r is t at.meets.carried) b.link at.max b.got piece tail cut bytes at.bodies come at.took now
        hears.got hears.behind hears.gives

    -- it closes no book
    no_close : why ≡ None
    no_close = let (rest, here) = next in hears.closes ∙ (quiet hears.got.message rest here).0

    link_is : new.link ≡ heard hears.behind now
    link_is =
        let (rest, here) = next in
        let (calm, none) = quiet hears.got.message rest here in
        ap (λ (x : BookState). x.link) hears.new_is
        ∙ (ap (λ o. closed_for (heard (answering hears.behind o) now) (closes_for b hears.got.message)) none ∙ ap (closed_for (heard hears.behind now)) calm)

    field_same : {A : Type 0} (f : EndState → A) → f new.link ≡ f (heard (holding b.link [] hears.got.used) now)
    field_same f = ap f (link_is ∙ ap (λ e. heard e now) hears.gives.new_is)

    message_goes : length b.got + n ≤ journal → GetsOn r now b t (take n piece) up come new × IsAtEnd piece n new.link
    message_goes room =
        let (rest, here) = next in
        let got : new.got ≡ b.got ++ take n piece = ap (λ (x : BookState). x.got) hears.new_is in
        let used : new.got ≡ b.got ++ take hears.got.used piece = got ∙ ap (λ k. b.got ++ take k piece) hears.count in (
          record {
            fresh = hears.got.message ∷ [];
            at = record {
              stands = stands_on r b new t (ap (λ (x : BookState). x.limits) hears.new_is) (ap (λ (x : BookState). x.made) hears.new_is) at.stands;
              meets = meets_down r t up come rest hears.got.message at.meets here;
              max = field_same (λ (e : EndState). e.max) ∙ at.max;
              going = field_same (λ (e : EndState). e.cause) ∙ at.going;
              room = subst (λ g. length g ≤ journal) (sym got) (room_after n room);
              bytes = subst (Each IsByte) (sym got) (parted_bytes b.got piece n bytes);
              bodies = at.bodies ++ hears.got.body ∷ [];
              took = subst (λ e. HasTaken e new.got (at.bodies ++ hears.got.body ∷ []) (come ++ hears.got.message ∷ [])) (sym link_is)
                  (subst (λ g. HasTaken (heard hears.behind now) g (at.bodies ++ hears.got.body ∷ []) (come ++ hears.got.message ∷ [])) (sym used)
                  (taken_message b.link b.got piece now hears.got hears.behind at.bodies come at.took hears.gives));
            };
            got = got;
            output = field_same (λ (e : EndState). e.output);
            moments = λ side stands. subst (LinkStands r (length new.got) (side_behind t.downs side now (length b.got) (length new.got)) now) (sym link_is)
                (subst (λ g. LinkStands r (length g) (side_behind t.downs side now (length b.got) (length g)) now (heard hears.behind now)) (sym used)
                (message_stands r is t.downs (downs_within r is t at.meets.carried) (downs_opened r is t at.meets.carried) b.link at.max b.got piece tail cut bytes at.bodies come
                at.took side now stands hears.got hears.behind hears.gives));
          },
          inr (field_same (λ (e : EndState). e.held)),
        )

  -- ---- what closes it

  pub never_faulty : (why : CloseCause) (link : EndState) → IsClosedBy b.link piece why link → ⊥
  never_faulty why link closed =
      never_closed r is t.downs (downs_within r is t at.meets.carried) (downs_opened r is t at.meets.carried) b.link at.max b.got piece tail cut bytes at.bodies come at.took
      (all_called t.made) welcome why link closed
    where
      welcome : (n : ℕ) → IsTaken (most r) (all_called t.made) [] (came_log t.downs n)
      welcome n = let (rest, front) = came_front t.downs n in all_welcome r t up at.meets.sound (came_log t.downs n) rest front

  no_why : (o : Option CloseCause) (why : CloseCause) → o ≡ None → o ≡ Some why → ⊥
  no_why o why none some = let line : None ≡ Some why = sym none ∙ some in cc

  closes_goes : (why : CloseCause) → FeedCloses b piece now why new → IsFullAt b piece why new
  closes_goes why (inl (closed, same)) = absurd (no_why b.link.cause why at.going closed)
  closes_goes why (inr (inl (going, full, is_why, same))) = (full, is_why, same)
  closes_goes why (inr (inr (going, (n, closes)))) = by closes.did
    where
      by : (IsClosedBy b.link piece why new.link × (new ≡ with_bytes b (take n piece) new.link)) ⊎ HearsMessage b piece now n (Some why) new → IsFullAt b piece why new
      by (inl (fault, same)) = absurd (never_faulty why new.link fault)
      by (inr hears) = absurd (no_why (Some why) why (no_close n (Some why) hears) refl)

  takes_goes : (n : ℕ) → TakesOn b piece now n new → GetsOn r now b t (take n piece) up come new × IsAtEnd piece n new.link
  takes_goes n takes = by takes.did
    where
      by : (IsPartTaken b.link piece now n new.link × (new ≡ with_bytes b (take n piece) new.link)) ⊎ HearsMessage b piece now n None new
          → GetsOn r now b t (take n piece) up come new × IsAtEnd piece n new.link
      by (inl (part, same)) = part_goes n takes.room.1 part same
      by (inr hears) = message_goes n None hears takes.room.1

  -- A feed of what the server wrote: it takes some of the piece, and the book stands for the talk, of which more came. It closes the book only
  -- where there is no room.
  pub gets_goes : (answer : Result ℕ FeedError) → IsBookFed b piece now answer new → GetsAlong r now b t piece up come answer new
  gets_goes (Ok n) (going, takes) = takes_goes n takes
  gets_goes (Err (feed.Closed why)) closes = closes_goes why closes
  gets_goes (Err feed.OutOfMemory) (going, same) = same
