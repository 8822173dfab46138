-- What is so of every world that a schedule leads to, and that movements, moments and closes keep it.
use Rattle.std.proofs.Common.{◌≡◌, refl, sym, ap, ◌∙◌, subst, ℕ, ◌+◌, ◌-◌, ◌≤◌, ◌<◌, max, Bool, true, false, not, ◌&&◌, if◌then◌else◌, List, [], ◌∷◌, ◌++◌, filter, length, drop, append_assoc, nat_le, arith, ◌⊎◌, inl, inr}
use Rattle.std.specs.Prelude.{Option, Some, None, fold}
use Rattle.std.specs.Option.{is_some}
use Rattle.std.proofs.lemmas.List.{append-nil}
use Rattle.rpc_msg.specs.declared.message.Query.{Query}
use Rattle.rpc_msg.specs.declared.message.Message.{Message}
use Rattle.rpc_msg.specs.declared.message.Message.TheVariants as message
use Rattle.rpc_log.specs.Logs.{responses_of}
use Rattle.rpc_talk.specs.Acts.{answer_by, response}
use Rattle.rpc_talk.specs.Acts as acts
use Rattle.rpc_talk.specs.Parts.{Fate, Goes_on, Ends, Broken, goes_on, is_ended, parts_of}
use Rattle.rpc_meeting.specs.Talks.{Common, Dispatch, Served, Talk, Answerer, Menu, Nobody, Listener, Handler, with_answer, asked_by, find_query, heard_up, is_abort_query, waits_still, is_tracked_dispatch, menu_answer, nobody_answer, answerer, parts_in, stopped, stop_query, stops_one, waiting_count}
use Rattle.rpc_meeting.specs.Worlds.{World, Side, Reason, JournalFull, arrived, boundary, come, down_piece, full_cause, has_header, header_size, flying, is_shut, journal, set_client, set_now, set_server, set_talk, took_bytes, total, up_piece, up_talk, whole}
use Rattle.rpc_meeting.proofs.Carried.{AreCarried, carried_all}
use Rattle.rpc_meeting.proofs.Filters.{answers_join}
use Rattle.rpc_meeting.proofs.Heard.{sound_heard}
use Rattle.rpc_meeting.proofs.Lines.{most}
use Rattle.rpc_meeting.proofs.Look.{no_true}
use Rattle.rpc_meeting.proofs.Marks.{AreMarked, marks_heard}
use Rattle.rpc_meeting.proofs.Owners.{IsOk}
use Rattle.rpc_meeting.proofs.Sound.{IsSound}
use Rattle.rpc_meeting.proofs.Welcomed.{over_on}
use Rattle.rpc_meeting.proofs.Whole.{fresh_is, tells_le, whole_few, whole_grows, whole_log_grows, whole_more}

-- ---- what the server hears changes no dispatch and nothing that went up, and only adds to what goes down

-- one log is another with more behind it
abbrev pub Lengthens : List Message → List Message → Type 0
Lengthens old new = (more : List Message) × (new ≡ old ++ more)

none_more : (log : List Message) → Lengthens log log
none_more log = ([], sym (append-nil log))

pub longer : (a b c : List Message) → Lengthens a b → Lengthens b c → Lengthens a c
longer a b c (m, is) (n, now) = (m ++ n, now ∙ (ap (λ x. x ++ n) is ∙ append_assoc a m n))

pub record IsHeardAs (old new : Talk) : Type 0 where
  pub ups : new.ups ≡ old.ups
  pub made : new.made ≡ old.made
  pub downs : Lengthens old.downs new.downs

same_talk : (t : Talk) → IsHeardAs t t
same_talk t = record { ups = refl; made = refl; downs = none_more t.downs }

heard_asked : (r : Common) (t : Talk) (q : Query) (o : Answerer) → IsHeardAs t (asked_by o r t q)
heard_asked r t q Menu = record { ups = refl; made = refl; downs = (response q.id (menu_answer r q.id) ∷ [], refl) }
heard_asked r t q Nobody = record { ups = refl; made = refl; downs = (response q.id (nobody_answer r q) ∷ [], refl) }
heard_asked r t q Listener = same_talk t
heard_asked r t q (Handler desc) = record { ups = refl; made = refl; downs = none_more t.downs }

heard_stopped : (t : Talk) (o : Option Served) → IsHeardAs t (stop_query t o)
heard_stopped t None = same_talk t
heard_stopped t (Some q) = by (stops_one q)
  where
    by : (b : Bool) → IsHeardAs t (if b then with_answer t q acts.Stop else t)
    by true = record { ups = refl; made = refl; downs = (response q.id (answer_by q.desc acts.Stop) ∷ [], refl) }
    by false = same_talk t

heard_one : (r : Common) (t : Talk) (a : Message) → IsHeardAs t (heard_up r t a)
heard_one r t message.Heartbeat = same_talk t
heard_one r t (message.Response a) = same_talk t
heard_one r t (message.Query q) = by (is_abort_query r.entries q)
  where
    by : (b : Bool) → IsHeardAs t (if b then stopped t q.id else asked_by (answerer r q.tag q.version) r t q)
    by true = heard_stopped t (find_query q.id t.queries)
    by false = heard_asked r t q (answerer r q.tag q.version)

pub heard_all : (r : Common) (t : Talk) (log : List Message) → IsHeardAs t (fold (heard_up r) t log)
heard_all r t [] = same_talk t
heard_all r t (a ∷ log) =
    let one = heard_one r t a in
    let rest = heard_all r (heard_up r t a) log in
    record { ups = rest.ups ∙ one.ups; made = rest.made ∙ one.made; downs = longer t.downs (heard_up r t a).downs _ one.downs rest.downs }

pub sound_all : (r : Common) (t : Talk) (came log rest : List Message) → IsOk r → came ++ (log ++ rest) ≡ t.ups → IsSound r t came → IsSound r (fold (heard_up r) t log) (came ++ log)
sound_all r t came [] rest ok cut s = subst (IsSound r t) (sym (append-nil came)) s
sound_all r t came (a ∷ log) rest ok cut s =
    let now = sound_heard r ok t came (log ++ rest) s a cut in
    subst (IsSound r (fold (heard_up r) (heard_up r t a) log)) (append_assoc came (a ∷ []) log)
    (sound_all r (heard_up r t a) (came ++ a ∷ []) log rest ok (append_assoc came (a ∷ []) (log ++ rest) ∙ (cut ∙ sym (heard_one r t a).ups)) now)

pub marks_all : (r : Common) (t : Talk) (came log rest : List Message) → IsOk r → came ++ (log ++ rest) ≡ t.ups → IsSound r t came → AreMarked r t came
    → AreMarked r (fold (heard_up r) t log) (came ++ log)
marks_all r t came [] rest ok cut s all = subst (AreMarked r t) (sym (append-nil came)) all
marks_all r t came (a ∷ log) rest ok cut s all =
    let now = sound_heard r ok t came (log ++ rest) s a cut in
    let marks = marks_heard r ok t came (log ++ rest) s all a cut in
    subst (AreMarked r (fold (heard_up r) (heard_up r t a) log)) (append_assoc came (a ∷ []) log)
    (marks_all r (heard_up r t a) (came ++ a ∷ []) log rest ok (append_assoc came (a ∷ []) (log ++ rest) ∙ (cut ∙ sym (heard_one r t a).ups)) now marks)

-- ---- more that comes down finishes dispatches, and unfinishes none

ended_stays : (m : ℕ) (d : Dispatch) (before more : List Message) → waits_still m (before ++ more) d ≡ true → waits_still m before d ≡ true
ended_stays m d before more un = by (is_tracked_dispatch d) (parts_in m before d).mark refl un
  where
    by : (b : Bool) (mark : Fate) → (parts_in m before d).mark ≡ mark → (b && not (is_ended (parts_in m (before ++ more) d).mark)) ≡ true
        → (b && not (is_ended (parts_in m before d).mark)) ≡ true
    by false mark e u = absurd cc
    by true Goes_on e u = ap (λ x. not (is_ended x)) e
    by true Broken e u = ap (λ x. not (is_ended x)) e
    by true (Ends x) e u = absurd (
        let stays = over_on m d.desc (responses_of d.id before) (responses_of d.id more) (ap goes_on e) in
        let now : is_ended (parts_in m (before ++ more) d).mark ≡ true
        = ap (λ xs. is_ended (parts_of m d.desc xs).mark) (answers_join d.id before more) ∙ (ap (λ p. is_ended p.mark) stays ∙ ap is_ended e) in
        no_true (sym u ∙ ap not now))

filter_less : (p q : Dispatch → Bool) → ((d : Dispatch) → p d ≡ true → q d ≡ true) → (made : List Dispatch) → length (filter p made) ≤ length (filter q made)
filter_less p q f [] = omega arith
filter_less p q f (d ∷ made) = by (p d) refl (q d) refl (filter_less p q f made)
  where
    by : (a : Bool) → p d ≡ a → (b : Bool) → q d ≡ b → length (filter p made) ≤ length (filter q made)
        → length (if a then d ∷ filter p made else filter p made) ≤ length (if b then d ∷ filter q made else filter q made)
    by true e true g le = omega (arith, le)
    by true e false g le = absurd (no_true (sym (f d e) ∙ g))
    by false e true g le = omega (arith, le)
    by false e false g le = le

pub unfinished_less : (m : ℕ) (before more : List Message) (made : List Dispatch) → waiting_count m (before ++ more) made ≤ waiting_count m before made
unfinished_less m before more made = filter_less (waits_still m (before ++ more)) (waits_still m before) (λ d u. ended_stays m d before more u) made

-- ---- worlds

pub record IsGood (r : Common) (w : World) : Type 0 where
  pub sound : IsSound r w.talk (arrived w)
  pub marks : AreMarked r w.talk (arrived w)
  pub carried : AreCarried r w.talk
  pub few : waiting_count (most r) (come w) w.talk.made ≤ r.limits.max_open
  pub up : w.up ≤ header_size + total w.talk.ups
  pub down : w.down ≤ header_size + total w.talk.downs
  pub got : w.got ≤ w.down
  pub taken : is_shut w.client ≡ false → w.got ≡ w.down
  pub journal : w.got ≤ journal

total_join : (a b : List Message) → total (a ++ b) ≡ total a + total b
total_join [] b = omega arith
total_join (x ∷ a) b = omega (arith, total_join a b)

-- what came is the same of a longer log
arrived_same : (log more : List Message) (n : ℕ) → n ≤ header_size + total log → whole (log ++ more) (n - header_size) ≡ whole log (n - header_size)
arrived_same log more n le = whole_log_grows log more (n - header_size) (omega (arith, le))

module _ (r : Common) (w : World) (g : IsGood r w) where
  -- the talk goes on
  pub good_talk : (t : Talk) → Lengthens w.talk.ups t.ups → Lengthens w.talk.downs t.downs → IsSound r t (arrived w) → AreMarked r t (arrived w)
      → AreCarried r t → waiting_count (most r) (come w) t.made ≤ r.limits.max_open → IsGood r (set_talk w t)
  good_talk t (mu, ups) (md, downs) sound marks carried few =
      let came : whole t.ups (w.up - header_size) ≡ arrived w = ap (λ l. whole l (w.up - header_size)) ups ∙ arrived_same w.talk.ups mu w.up g.up in
      let down_few : w.got ≤ header_size + total w.talk.downs = omega (arith, g.down, g.got) in
      let came_down : whole t.downs (w.got - header_size) ≡ come w = ap (λ l. whole l (w.got - header_size)) downs ∙ arrived_same w.talk.downs md w.got down_few in
      record {
        sound = subst (IsSound r t) (sym came) sound;
        marks = subst (AreMarked r t) (sym came) marks;
        carried = carried;
        few = subst (λ c. waiting_count (most r) c t.made ≤ r.limits.max_open) (sym came_down) few;
        up = omega (arith, g.up, ap total ups, total_join w.talk.ups mu);
        down = omega (arith, g.down, ap total downs, total_join w.talk.downs md);
        got = g.got;
        taken = g.taken;
        journal = g.journal;
      }

  -- an end closes, or another moment comes
  pub good_client : (s : Side) → (is_shut s ≡ false → is_shut w.client ≡ false) → IsGood r (set_client w s)
  good_client s opens = record { sound = g.sound; marks = g.marks; carried = g.carried; few = g.few; up = g.up; down = g.down; got = g.got; taken = λ e. g.taken (opens e); journal = g.journal }

  pub good_server : (s : Side) → IsGood r (set_server w s)
  good_server s = record { sound = g.sound; marks = g.marks; carried = g.carried; few = g.few; up = g.up; down = g.down; got = g.got; taken = g.taken; journal = g.journal }

  pub good_now : (n : ℕ) → IsGood r (set_now w n)
  good_now n = record { sound = g.sound; marks = g.marks; carried = g.carried; few = g.few; up = g.up; down = g.down; got = g.got; taken = g.taken; journal = g.journal }

  -- ---- a piece goes up

  pub good_up : IsOk r → (n : ℕ) → n ≤ flying w.talk.ups w.up → IsGood r (up_piece r w n)
  good_up ok n le =
      let fresh = drop (length (arrived w)) (whole w.talk.ups (w.up + n - header_size)) in
      let heard = heard_all r w.talk fresh in
      let (md, downs) = heard.downs in
      let bytes : w.up + n ≤ header_size + total w.talk.ups = omega (arith, le, g.up) in
      let (rest, cut) = up_cut n in
      let sound = sound_all r w.talk (arrived w) fresh rest ok cut g.sound in
      let down_few : w.got ≤ header_size + total w.talk.downs = omega (arith, g.down, g.got) in
      let came_down : whole (up_talk r w n).downs (w.got - header_size) ≡ come w = ap (λ l. whole l (w.got - header_size)) downs ∙ arrived_same w.talk.downs md w.got down_few in
      let came : arrived w ++ fresh ≡ whole (up_talk r w n).ups (w.up + n - header_size) = sym (up_more n) ∙ ap (λ l. whole l (w.up + n - header_size)) (sym heard.ups) in
      record {
        sound = subst (IsSound r (up_talk r w n)) came sound;
        marks = subst (AreMarked r (up_talk r w n)) came (marks_all r w.talk (arrived w) fresh rest ok cut g.sound g.marks);
        carried = carried_all r w.talk (arrived w) fresh rest cut g.carried;
        few = subst (λ c. waiting_count (most r) c (up_talk r w n).made ≤ r.limits.max_open) (sym came_down)
            (subst (λ made. waiting_count (most r) (come w) made ≤ r.limits.max_open) (sym heard.made) g.few);
        up = omega (arith, bytes, ap total heard.ups);
        down = omega (arith, g.down, ap total downs, total_join w.talk.downs md);
        got = g.got;
        taken = g.taken;
        journal = g.journal;
      }
    where
      up_count : (n : ℕ) → (k : ℕ) × (w.up + n - header_size ≡ w.up - header_size + k)
      up_count n = (w.up + n - header_size - (w.up - header_size), omega arith)

      up_more : (n : ℕ) → whole w.talk.ups (w.up + n - header_size) ≡ arrived w ++ drop (length (arrived w)) (whole w.talk.ups (w.up + n - header_size))
      up_more n =
          let (k, is) = up_count n in
          ap (whole w.talk.ups) is ∙ (whole_more w.talk.ups (w.up - header_size) k
          ∙ ap (λ c. arrived w ++ drop (length (arrived w)) (whole w.talk.ups c)) (sym is))

      up_cut : (n : ℕ) → (rest : List Message) × (arrived w ++ (drop (length (arrived w)) (whole w.talk.ups (w.up + n - header_size)) ++ rest) ≡ w.talk.ups)
      up_cut n =
          let (k, is) = up_count n in
          let (rest, cut) = fresh_is w.talk.ups (w.up - header_size) k in
          (rest, ap (λ c. arrived w ++ (drop (length (arrived w)) (whole w.talk.ups c) ++ rest)) is ∙ cut)

  -- ---- a piece goes down

  -- more that comes
  come_more : (n : ℕ) → w.got ≤ n → waiting_count (most r) (whole w.talk.downs (n - header_size)) w.talk.made ≤ r.limits.max_open
  come_more n le =
      let (fresh, is) = whole_grows w.talk.downs (w.got - header_size) (n - header_size - (w.got - header_size)) in
      let count : w.got - header_size + (n - header_size - (w.got - header_size)) ≡ n - header_size = omega (arith, le) in
      let here : whole w.talk.downs (n - header_size) ≡ come w ++ fresh = ap (whole w.talk.downs) (sym count) ∙ is in
      let less = unfinished_less (most r) (come w) fresh w.talk.made in
      subst (λ c. waiting_count (most r) c w.talk.made ≤ r.limits.max_open) (sym here) (omega (arith, less, g.few))

  pub good_down : is_shut w.client ≡ false → (n : ℕ) → n ≤ flying w.talk.downs w.down → IsGood r (down_piece w n)
  good_down going n le = by (tells_le (w.got + n) journal)
    where
      boundary_few : boundary w.talk.downs journal ≤ journal
      boundary_few = edge (tells_le header_size journal) (whole_few w.talk.downs (journal - header_size))
        where
          edge : ((nat_le header_size journal ≡ true) × (header_size ≤ journal)) ⊎ ((nat_le header_size journal ≡ false) × (journal < header_size)) → total (whole w.talk.downs (journal - header_size)) ≤ journal - header_size
              → (if has_header journal then header_size + total (whole w.talk.downs (journal - header_size)) else 0) ≤ journal
          edge (inl (e, fits)) few = subst (λ b. (if b then header_size + total (whole w.talk.downs (journal - header_size)) else 0) ≤ journal) (sym e) (omega (arith, fits, few))
          edge (inr (e, big)) few = subst (λ b. (if b then header_size + total (whole w.talk.downs (journal - header_size)) else 0) ≤ journal) (sym e) (omega arith)

      -- of so many bytes taken, with this cause
      piece : (took : ℕ) (why : Option Reason) (heard sent : ℕ) → w.got ≤ took → took ≤ w.down + n → took ≤ journal → (is_some why ≡ false → took ≡ w.down + n)
          → IsGood r (record { talk = w.talk; up = w.up; down = w.down + n; got = took; client = record { cause = why; heard = heard; sent = sent }; server = w.server; now = w.now })
      piece took why heard sent_to more few small all = record {
        sound = g.sound;
        marks = g.marks;
        carried = g.carried;
        few = come_more took more;
        up = g.up;
        down = omega (arith, le, g.down);
        got = few;
        taken = all;
        journal = small;
      }

      all_taken : w.got ≡ w.down
      all_taken = g.taken going

      by : ((nat_le (w.got + n) journal ≡ true) × (w.got + n ≤ journal)) ⊎ ((nat_le (w.got + n) journal ≡ false) × (journal < w.got + n)) → IsGood r (down_piece w n)
      by (inl (e, fits)) =
          let took : took_bytes w n ≡ w.got + n = ap (λ b. if b then w.got + n else max w.got (boundary w.talk.downs journal)) e in
          piece (took_bytes w n) (full_cause w n) (down_piece w n).client.heard w.client.sent (omega (arith, took)) (omega (arith, took, all_taken)) (omega (arith, took, fits))
          (λ c. omega (arith, took, all_taken))
      by (inr (e, big)) =
          let took : took_bytes w n ≡ max w.got (boundary w.talk.downs journal) = ap (λ b. if b then w.got + n else max w.got (boundary w.talk.downs journal)) e in
          piece (took_bytes w n) (full_cause w n) (down_piece w n).client.heard w.client.sent (omega (arith, took)) (omega (arith, took, all_taken, boundary_few, big))
          (omega (arith, took, boundary_few, g.journal))
          (λ c. absurd (no_true (sym (ap (λ b. is_some (if b then w.client.cause else Some (JournalFull (took_bytes w n)))) e) ∙ c)))
