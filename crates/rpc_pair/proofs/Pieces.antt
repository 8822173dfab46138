-- Feeds one after the other are one piece of the world.
use Rattle.std.proofs.Common.{◌≡◌, refl, sym, ap, ◌∙◌, subst, ℕ, ◌+◌, ◌-◌, ◌≤◌, ◌<◌, Bool, true, false, nat_le, if◌then◌else◌, List, [], ◌∷◌, ◌++◌, map, length, drop, append_assoc, arith, inl, inr, ◌⊎◌}
use Rattle.std.specs.Prelude.{fold, nat_lt}
use Rattle.std.proofs.lemmas.Bool.{le-ltb, lt-ltb, ltb-false, ltb-true}
use Rattle.std.proofs.lemmas.List.{length-append}
use Rattle.std.proofs.lemmas.List.Sums.{fold-append}
use Rattle.readers.specs.Reader.{Each, IsByte}
use Rattle.rpc_frame.specs.Frames.{frame, frames}
use Rattle.rpc_msg.specs.declared.message.Message.{Message}
use Rattle.rpc_talk.specs.Acts.{body_of}
use Rattle.rpc_meeting.specs.Talks.{Common, Talk, heard_up}
use Rattle.rpc_meeting.specs.Worlds.{Side, World, arrived, came_log, frame_count, has_header, header_size, stream_of, up_talk, whole}
use Rattle.rpc_meeting.proofs.Goods.{heard_all}
use Rattle.rpc_meeting.proofs.Whole.{le_true, tells_le, whole_grows}
use Rattle.rpc_book.specs.Books.{BookState}
use Rattle.rpc_server.specs.Servers.{ServerState}
use Rattle.rpc_pair.specs.Links.{LinkStands}
use Rattle.rpc_pair.specs.Rules.{IsOfSchema}
use Rattle.rpc_pair.proofs.BookFeeds.{GetsOn, IsBookAt}
use Rattle.rpc_pair.proofs.FeedMoments.{side_behind}
use Rattle.rpc_pair.proofs.Given.{given_came, none_whole}
use Rattle.rpc_pair.proofs.Sendable.{downs_opened, downs_within, ups_opened, ups_within}
use Rattle.rpc_pair.proofs.ServerFeeds.{IsServerAt, MovesOn}

-- ---- frames of more bytes

whole_longer : (log : List Message) (a b : ℕ) → a ≤ b → length (whole log a) ≤ length (whole log b)
whole_longer log a b le =
    let (fresh, is) = whole_grows log a (b - a) in
    let count : a + (b - a) ≡ b = omega (arith, le) in
    omega (arith, ap (λ k. length (whole log k)) count, ap (λ xs. length xs) is, length-append (whole log a) fresh)

-- more bytes have no fewer whole frames
pub frames_grow : (log : List Message) (a b : ℕ) → a ≤ b → frame_count log a ≤ frame_count log b
frames_grow log a b le = by (tells_le header_size a)
  where
    rest : length (whole log (a - header_size)) ≤ length (whole log (b - header_size))
    rest = whole_longer log (a - header_size) (b - header_size) (omega (arith, le))

    none_less : (c : Bool) → 0 + length (whole log (a - header_size)) ≤ (if c then 1 else 0) + length (whole log (b - header_size))
    none_less true = omega (arith, rest)
    none_less false = omega (arith, rest)

    by : ((nat_le header_size a ≡ true) × (header_size ≤ a)) ⊎ ((nat_le header_size a ≡ false) × (a < header_size)) → frame_count log a ≤ frame_count log b
    by (inl (e, low)) =
        let high : has_header b ≡ true = le_true header_size b (omega (arith, le, low)) in
        subst (λ c. (if c then 1 else 0) + length (whole log (a - header_size)) ≤ frame_count log b) (sym e)
        (subst (λ c. 1 + length (whole log (a - header_size)) ≤ (if c then 1 else 0) + length (whole log (b - header_size))) (sym high) (omega (arith, rest)))
    by (inr (e, low)) = subst (λ c. (if c then 1 else 0) + length (whole log (a - header_size)) ≤ frame_count log b) (sym e) (none_less (has_header b))

-- the side behind two movements is that behind one
heard_join : (h now x y z : ℕ) → x ≤ y → y ≤ z → (if nat_lt y z then now else (if nat_lt x y then now else h)) ≡ (if nat_lt x z then now else h)
heard_join h now x y z le more = by (nat_lt y z) (nat_lt x y) refl refl
  where
    by : (a b : Bool) → nat_lt y z ≡ a → nat_lt x y ≡ b → (if a then now else (if b then now else h)) ≡ (if nat_lt x z then now else h)
    by true b e f = sym (ap (λ c. if c then now else h) (lt-ltb x z (omega (arith, le, ltb-true y z e))))
    by false true e f = sym (ap (λ c. if c then now else h) (lt-ltb x z (omega (arith, more, ltb-true x y f))))
    by false false e f = sym (ap (λ c. if c then now else h) (le-ltb x z (omega (arith, ltb-false y z e, ltb-false x y f))))

sides_join : (log : List Message) (side : Side) (now a b c : ℕ) → a ≤ b → b ≤ c → side_behind log (side_behind log side now a b) now b c ≡ side_behind log side now a c
sides_join log side now a b c le more =
    ap (λ (h : ℕ). record { cause = side.cause; heard = h; sent = side.sent })
    (heard_join side.heard now (frame_count log a) (frame_count log b) (frame_count log c) (frames_grow log a b le) (frames_grow log b c more))

-- ---- two feeds

-- the frames of a log, and of what follows it
pub log_join : (a b : List Message) → frames (map body_of (a ++ b)) ≡ frames (map body_of a) ++ frames (map body_of b)
log_join [] b = refl
log_join (x ∷ a) b = ap (λ l. frame (body_of x) ++ l) (log_join a b) ∙ sym (append_assoc (frame (body_of x)) (frames (map body_of a)) (frames (map body_of b)))

-- of a book
pub gets_join : (r : Common) (now : ℕ) (t : Talk) (b one two : BookState) (first second : List ℕ) (up come : List Message) (gets : GetsOn r now b t first up come one)
    → GetsOn r now one t second up (come ++ gets.fresh) two → GetsOn r now b t (first ++ second) up come two
gets_join r now t b one two first second up come gets more =
    let long : length b.got ≤ length one.got = omega (arith, ap length gets.got, length-append b.got first) in
    let longer : length one.got ≤ length two.got = omega (arith, ap length more.got, length-append one.got second) in
    record {
      fresh = gets.fresh ++ more.fresh;
      at = subst (IsBookAt r two t up) (append_assoc come gets.fresh more.fresh) more.at;
      got = more.got ∙ (ap (λ g. g ++ second) gets.got ∙ append_assoc b.got first second);
      output = more.output ∙ gets.output;
      moments = λ side stands. subst (λ x. LinkStands r (length two.got) x now two.link)
          (sides_join t.downs side now (length b.got) (length one.got) (length two.got) long longer)
          (more.moments (side_behind t.downs side now (length b.got) (length one.got)) (gets.moments side stands));
    }

-- and of a server
module _ (r : Common) (now : ℕ) (t : Talk) (given mid after : List ℕ) (le : length given ≤ length mid) (more : length mid ≤ length after) where
  pub moves_join : (s one two : ServerState) (came got : List Message) (first : MovesOn r now s t given mid came got one)
      → MovesOn r now one (fold (heard_up r) t first.fresh) mid after (came ++ first.fresh) got two → MovesOn r now s t given after came got two
  moves_join s one two came got first second =
      let both : fold (heard_up r) t (first.fresh ++ second.fresh) ≡ fold (heard_up r) (fold (heard_up r) t first.fresh) second.fresh
      = fold-append (heard_up r) t first.fresh second.fresh in
      record {
        fresh = first.fresh ++ second.fresh;
        at = subst (λ x. IsServerAt r two x after (came ++ (first.fresh ++ second.fresh)) got) (sym both)
            (subst (λ c. IsServerAt r two (fold (heard_up r) (fold (heard_up r) t first.fresh) second.fresh) after c got) (append_assoc came first.fresh second.fresh) second.at);
        more = first.more ++ second.more;
        downs = ap (λ (x : Talk). x.downs) both ∙ (second.downs ∙ (ap (λ l. l ++ second.more) first.downs ∙ append_assoc t.downs first.more second.more));
        output = second.output ∙ (ap (λ l. l ++ frames (map body_of second.more)) first.output
            ∙ (append_assoc s.link.output (frames (map body_of first.more)) (frames (map body_of second.more))
            ∙ ap (λ l. s.link.output ++ l) (sym (log_join first.more second.more))));
        moments = λ side stands.
            let ups : (fold (heard_up r) t first.fresh).ups ≡ t.ups = (heard_all r t first.fresh).ups in
            subst (λ x. LinkStands r (length after) x now two.link) (sides_join t.ups side now (length given) (length mid) (length after) le more)
            (subst (λ l. LinkStands r (length after) (side_behind l (side_behind t.ups side now (length given) (length mid)) now (length mid) (length after)) now two.link) ups
            (second.moments (side_behind t.ups side now (length given) (length mid)) (first.moments side stands)));
      }

-- ---- what came, in the world's words

-- an end that has no header has no message
pub came_whole : (log : List Message) (n : ℕ) → came_log log n ≡ whole log (n - header_size)
came_whole log n = by (tells_le header_size n)
  where
    by : ((nat_le header_size n ≡ true) × (header_size ≤ n)) ⊎ ((nat_le header_size n ≡ false) × (n < header_size)) → came_log log n ≡ whole log (n - header_size)
    by (inl (e, le)) = ap (λ b. if b then whole log (n - header_size) else []) e
    by (inr (e, lt)) =
        let left : n - header_size ≡ 0 = omega (arith, lt) in
        ap (λ b. if b then whole log (n - header_size) else []) e ∙ sym (ap (whole log) left ∙ none_whole log)

module _ (r : Common) (is : IsOfSchema r) (t : Talk) (given tail : List ℕ) where
  -- the messages that came to a server of so many bytes
  pub server_came : (s : ServerState) (came got : List Message) → IsServerAt r s t given came got → given ++ tail ≡ stream_of t.ups → Each IsByte given
      → came ≡ whole t.ups (length given - header_size)
  server_came s came got at cut bytes =
      given_came r is t.ups (ups_within r is t at.meets.carried) (ups_opened r is t at.meets.carried) given tail cut bytes s.link at.bodies came at.max at.took
      ∙ came_whole t.ups (length given)

-- and to a book
pub book_came : (r : Common) (is : IsOfSchema r) (b : BookState) (t : Talk) (tail : List ℕ) (up come : List Message) → IsBookAt r b t up come → b.got ++ tail ≡ stream_of t.downs
    → come ≡ whole t.downs (length b.got - header_size)
book_came r is b t tail up come at cut =
    given_came r is t.downs (downs_within r is t at.meets.carried) (downs_opened r is t at.meets.carried) b.got tail cut at.bytes b.link at.bodies come at.max at.took
    ∙ came_whole t.downs (length b.got)

drop_front : (xs ys : List Message) → drop (length xs) (xs ++ ys) ≡ ys
drop_front [] ys = refl
drop_front (x ∷ xs) ys = drop_front xs ys

-- a server that heard what came with a piece stands for the talk behind that piece
pub up_talk_is : (r : Common) (w : World) (n : ℕ) (fresh : List Message) → arrived w ++ fresh ≡ whole w.talk.ups (w.up + n - header_size)
    → fold (heard_up r) w.talk fresh ≡ up_talk r w n
up_talk_is r w n fresh is = ap (fold (heard_up r) w.talk) (sym (ap (drop (length (arrived w))) (sym is) ∙ drop_front (arrived w) fresh))
