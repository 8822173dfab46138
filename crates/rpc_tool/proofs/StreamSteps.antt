-- The frames of a stream, one after the other.
use Rattle.std.proofs.Common.{◌≡◌, ◌≢◌, refl, sym, ap, ◌∙◌, subst, inl, inr, ℕ, suc, ◌+◌, ◌-◌, ◌^◌, ◌<◌, ◌≤◌, List, [], ◌∷◌, ◌++◌, length, take, drop, append_assoc, append-nil, Some, None, Result, Ok, Err, flat_map, IsErrAnd, zero-add, arith}
use Rattle.std.proofs.lemmas.Grind.{flat_map-append}
use Rattle.std.proofs.lemmas.List.{length-append, length-drop, take_all, take-append-drop}
use Rattle.readers.specs.Reader.{IsFaultAt, IsProperFront, Stands}
use Rattle.readers.proofs.Readers.{each-join}
use Rattle.bp_num.specs.Forms.{little_endian}
use Rattle.bp_num.specs.declared.number.Why.TheVariants.{Length}
use Rattle.bp_value.specs.Form.{Form}
use Rattle.rpc_frame.specs.Feeding.{FedGives, IsFrameFed}
use Rattle.rpc_frame.specs.Frames.{frame, frames, IsFrame, FrameWhy}
use Rattle.rpc_frame.specs.States.{FrameState, stream_place}
use Rattle.rpc_frame.specs.declared.error.FrameError.{FrameError}
use Rattle.rpc_frame.specs.declared.error.FrameError.TheVariants as frame_error
use Rattle.rpc_frame.proofs.HeadSteps.{length-little}
use Rattle.rpc_frame.proofs.Streams.{is_frame}
use Rattle.rpc_msg.specs.Bodies.{behind, place_of_fault, IsMsgFault}
use Rattle.rpc_msg.specs.Values.{HasOne}
use Rattle.rpc_msg.specs.declared.fault.MsgFault.{MsgFault}
use Rattle.rpc_msg.specs.declared.fault.MsgFault.TheVariants as fault
use Rattle.rpc_msg.specs.declared.message.Header.{Header}
use Rattle.rpc_msg.specs.declared.message.Message.{Message}
use Rattle.rpc_msg.specs.declared.shared.CloseCause.{CloseCause}
use Rattle.rpc_msg.specs.declared.shared.CloseCause.TheVariants as cause
use Rattle.rpc_tool.specs.StreamLines.{header_line, told_lines, message_line}
use Rattle.rpc_tool.specs.StreamReads.{longest, stopped_by, AppendsLines, AreMessages, HasRead, HasBadBody, HasNoFrame, IsBefore, IsHeader, IsInFront, IsMessage, IsThis, IsNextFrame, NoHeader, NoMessage, GivesNext}
use Rattle.rpc_tool.specs.declared.stream_reading.Stop.{Stop}
use Rattle.rpc_tool.specs.declared.stream_reading.Stop.TheVariants as stop
use Rattle.rpc_tool.specs.declared.stream_reading.StreamError.{StreamError}
use Rattle.rpc_tool.specs.declared.stream_reading.StreamError.TheVariants as error

-- ---- a reader between two frames is fed the rest of the stream

module _ (s : List ℕ) (old : FrameState) (b : IsBefore s old) where
  -- what is said behind the bytes that are held is said of the rest alone
  alone : (P : ℕ → List ℕ → ℕ → Type 0) → P old.max (old.held ++ s) (length old.held) → P longest s 0
  alone P p = subst (λ m. P m s 0) b.limit (subst (λ h. P old.max (h ++ s) (length h)) b.empty p)

  behind_taken : (new : FrameState) (body : List ℕ) (used : ℕ) → FedGives old s (Some body) used new → IsNextFrame IsThis body old s new (drop used s)
  behind_taken new body used (stands, is) =
      let (few, spelled) = subst (λ k. Stands (IsFrame longest) s body k) (zero-add used) (alone (λ m t k. Stands (IsFrame m) t body (k + used)) stands) in
      let (cut, short) = is_frame longest body (take used s) spelled in
      let dropped = length-drop used s in
      let near = b.near in
      let there : new.place ≡ stream_place (old.place + used) = ap (λ (r : FrameState). r.place) is in
      let place : new.place + length (drop used s) ≡ old.place + length s = omega arith in
      record {
        body = body;
        cut = sym (take-append-drop used s) ∙ ap (λ t. t ++ drop used s) cut;
        short = short;
        is = refl;
        before = record {
          limit = ap (λ (r : FrameState). r.max) is ∙ b.limit;
          empty = ap (λ (r : FrameState). r.held) is;
          going = ap (λ (r : FrameState). r.failed) is;
          near = omega (arith, place, near);
        };
        place = place;
      }

  pub body_taken : (new : FrameState) (body : List ℕ) (used : ℕ) → FedGives old s (Some body) used new → IsNextFrame IsThis body old s new (take (length s - used) (drop used s))
  body_taken new body used gives =
      let count = length-drop used s in
      subst (λ t. IsNextFrame IsThis body old s new t) (sym (take_all (length s - used) (drop used s) (omega (arith, count)))) (behind_taken new body used gives)

  pub stream_cut : (new : FrameState) (used at : ℕ) → FedGives old s None used new → at ≡ new.place → HasNoFrame old.place s (stop.Cut at)
  stream_cut new used at (front, all, is) same =
      let near = b.near in
      let there : new.place ≡ stream_place (old.place + used) = ap (λ (r : FrameState). r.place) is in
      (alone (λ m t k. IsProperFront (IsFrame m) t) front, omega arith)

  too_long : (new : FrameState) (at : ℕ) → IsFrameFed old s (Err (frame_error.TooLong at)) new → HasNoFrame old.place s (stop.Closed (cause.BadFrame at))
  too_long new at (going, (n, passes, is, state)) =
      let fault = subst (λ k. IsFaultAt (IsFrame longest) (FrameWhy longest) s k Length) (zero-add n) (alone (λ m t k. IsFaultAt (IsFrame m) (FrameWhy m) t (k + n) Length) passes) in
      let (p, c, v, cut, here, front, none, why) = fault in
      let lens : length s ≡ length p + suc (length v) = ap length cut ∙ length-append p (c ∷ v) in
      let near = b.near in
      (n, fault, is ∙ omega arith)

  pub not_fed : {A : Type 0} (L : A → List ℕ → Type 0) (new : FrameState) (rest : List ℕ) (e : FrameError) (r : StreamError) (result : Result A StreamError) → IsFrameFed old s (Err e) new
      → r ≡ stopped_by e → IsErrAnd result (λ x. x ≡ r) → GivesNext L HasNoFrame old s result new rest
  not_fed L new rest e r (Ok a) fed is failed = absurd failed
  not_fed L new rest (frame_error.Failed at) r (Err x) (some, same) is failed = absurd (let none = b.going in cc)
  not_fed L new rest (frame_error.TooLong at) r (Err x) fed is failed = subst (λ y. GivesNext L HasNoFrame old s (Err y) new rest) (sym (failed ∙ is)) (too_long new at fed)
  not_fed L new rest frame_error.OutOfMemory r (Err x) fed is failed = subst (λ y. GivesNext L HasNoFrame old s (Err y) new rest) (sym (failed ∙ is)) tt

-- ---- what a body is, or why it is nothing

module _ {A C : Type 0} (L : A → List ℕ → Type 0) (M : C → List ℕ → Type 0) (old new : FrameState) (s rest : List ℕ) where
  pub taken_as : (a : A) (c : C) → IsNextFrame L a old s new rest → ((body : List ℕ) → L a body → M c body) → IsNextFrame M c old s new rest
  taken_as a c t turn = record { body = t.body; cut = t.cut; short = t.short; is = turn t.body t.is; before = t.before; place = t.place }

  -- why a frame was not taken
  pub not_taken : (F G : ℕ → List ℕ → Stop → Type 0) (e : StreamError) (result : Result C StreamError) (left : List ℕ) → ((why : Stop) → F old.place s why → G old.place s why)
      → IsErrAnd result (λ x. x ≡ e) → GivesNext L F old s (Err e) new rest → GivesNext M G old s result new left
  not_taken F G e (Ok c) left turn is none = absurd is
  not_taken F G (error.Stopped why) (Err x) left turn is none = subst (λ y. GivesNext M G old s (Err y) new left) (sym is) (turn why none)
  not_taken F G error.OutOfMemory (Err x) left turn is none = subst (λ y. GivesNext M G old s (Err y) new left) (sym is) tt

-- the fault of a body stands in it
pub fault_within : (m : ℕ) (f : Form) (body : List ℕ) (why : MsgFault) → IsMsgFault m f body why → place_of_fault why ≤ length body
fault_within m f body (fault.Bad at w) (p, b, v, cut, here, front, none, why) =
    let lens : length body ≡ length p + suc (length v) = ap length cut ∙ length-append p (b ∷ v) in
    omega arith
fault_within m f body (fault.Cut at) (here, front) = omega arith
fault_within m f body (fault.Trailing at) (some, lt) = omega arith

pub length-frame : (body : List ℕ) → length (frame body) ≡ 8 + length body
length-frame body = length-append (little_endian 8 (length body)) body ∙ ap (λ k. k + length body) (length-little 8 (length body))

module _ (old new : FrameState) (s rest body : List ℕ) (before : IsBefore s old) (t : IsNextFrame IsThis body old s new rest) where
  pub in_front : IsInFront body s
  in_front = subst (λ b. IsInFront b s) (sym t.is) (t.short, rest, t.cut)

  -- places in the body are places in the stream
  pub room : old.place + 8 + length body < 2 ^ 64
  room =
      let lens : length s ≡ length (frame t.body) + length rest = ap length t.cut ∙ length-append (frame t.body) rest in
      let long = length-frame t.body in
      let same : length body ≡ length t.body = ap length t.is in
      let near = before.near in
      omega arith

  pub bad_body : (f : Form) (told : MsgFault → CloseCause) (why : MsgFault) (at : ℕ) (said : MsgFault) → IsMsgFault longest f body why → at ≡ old.place → said ≡ behind (at + 8) why
      → HasBadBody f told old.place s (stop.Closed (told said))
  bad_body f told why at said fault same is = (body, why, in_front, fault, ap (λ z. stop.Closed (told z)) (is ∙ ap (λ n. behind (n + 8) why) same))

-- the rest gets shorter
pub rest_shorter : {A : Type 0} (L : A → List ℕ → Type 0) (a : A) (old new : FrameState) (s rest : List ℕ) → IsNextFrame L a old s new rest → length rest < length s
rest_shorter L a old new s rest t =
    let lens : length s ≡ length (frame t.body) + length rest = ap length t.cut ∙ length-append (frame t.body) rest in
    let long = length-frame t.body in
    omega arith

-- ---- message by message

-- A stream is read: its header is, and messages behind it, and their lines were appended to a list.
pub record IsReading (stream : List ℕ) (old : List ℕ) (header : Header) (reader : FrameState) (rest out : List ℕ) : Type 0 where
  pub messages : List Message
  pub are_read : HasRead stream header messages rest
  pub before : IsBefore rest reader
  pub place : reader.place + length rest ≡ length stream
  pub lines : out ≡ old ++ told_lines header messages

messages_on : (ms : List Message) (bs : List (List ℕ)) (m : Message) (b : List ℕ) → AreMessages ms bs → IsMessage m b → AreMessages (ms ++ m ∷ []) (bs ++ b ∷ [])
messages_on [] [] m b all is = (is, tt)
messages_on [] (c ∷ bs) m b all is = absurd all
messages_on (n ∷ ms) [] m b all is = absurd all
messages_on (n ∷ ms) (c ∷ bs) m b all is = (all.0, messages_on ms bs m b all.1 is)

abbrev pub fresh : FrameState
fresh = record { max = longest; held = []; place = 0; failed = None }

pub fresh_before : (stream : List ℕ) → length stream < 2 ^ 64 → IsBefore stream fresh
fresh_before stream short = record { limit = refl; empty = refl; going = refl; near = omega (arith, short) }

module _ (stream old : List ℕ) (header : Header) where
  pub reading_start : (reader : FrameState) (rest out : List ℕ) → IsNextFrame IsHeader header fresh stream reader rest → HasOne header → out ≡ old ++ header_line header
      → IsReading stream old header reader rest out
  reading_start reader rest out t one is = record {
    messages = [];
    are_read = record {
      first = t.body;
      bodies = [];
      whole = t.cut ∙ ap (λ f. f ++ rest) (sym (append-nil (frame t.body)));
      short = (t.short, tt);
      header_is = t.is;
      has_one = one;
      messages_are = tt;
    };
    before = t.before;
    place = t.place ∙ zero-add (length stream);
    lines = is ∙ ap (λ l. old ++ l) (sym (append-nil (header_line header)));
  }

  module _ (reader : FrameState) (rest out : List ℕ) (r : IsReading stream old header reader rest out) where
    pub reading_next : (new : FrameState) (left more : List ℕ) (message : Message) → IsNextFrame IsMessage message reader rest new left → more ≡ out ++ message_line message
        → IsReading stream old header new left more
    reading_next new left more message t is =
        let a = r.are_read in
        let joined : frames (a.first ∷ a.bodies ++ t.body ∷ []) ≡ frames (a.first ∷ a.bodies) ++ frame t.body =
        flat_map-append frame (a.first ∷ a.bodies) (t.body ∷ []) ∙ ap (λ f. frames (a.first ∷ a.bodies) ++ f) (append-nil (frame t.body)) in
        let texts : flat_map message_line (r.messages ++ message ∷ []) ≡ flat_map message_line r.messages ++ message_line message =
        flat_map-append message_line r.messages (message ∷ []) ∙ ap (λ f. flat_map message_line r.messages ++ f) (append-nil (message_line message)) in
        record {
          messages = r.messages ++ message ∷ [];
          are_read = record {
            first = a.first;
            bodies = a.bodies ++ t.body ∷ [];
            whole = a.whole ∙ (ap (λ z. frames (a.first ∷ a.bodies) ++ z) t.cut ∙ (sym (append_assoc (frames (a.first ∷ a.bodies)) (frame t.body) left) ∙ ap (λ f. f ++ left) (sym joined)));
            short = (a.short.0, each-join (λ b. length b ≤ longest) a.bodies (t.body ∷ []) a.short.1 (t.short, tt));
            header_is = a.header_is;
            has_one = a.has_one;
            messages_are = messages_on r.messages a.bodies message t.body a.messages_are t.is;
          };
          before = t.before;
          place = t.place ∙ r.place;
          lines = is ∙ (ap (λ l. l ++ message_line message) r.lines ∙ (append_assoc old (told_lines header r.messages) (message_line message)
              ∙ ap (λ l. old ++ l) (append_assoc (header_line header) (flat_map message_line r.messages) (message_line message) ∙ ap (λ l. header_line header ++ l) (sym texts))));
        }

    pub reading_stopped : (new : FrameState) (left : List ℕ) (e : StreamError) → rest ≢ [] → GivesNext IsMessage NoMessage reader rest (Err e) new left → AppendsLines stream old out (Err e)
    reading_stopped new left (error.Stopped why) some none =
        (told_lines header r.messages, inr (inr (header, r.messages, record { rest = rest; place = reader.place; are_read = r.are_read; left = some; place_is = r.place; none = none }, refl)), r.lines)
    reading_stopped new left error.OutOfMemory some none = tt

    pub reading_done : rest ≡ [] → AppendsLines stream old out (Ok tt)
    reading_done none = (told_lines header r.messages, (header, r.messages, subst (λ t. HasRead stream header r.messages t) none r.are_read, refl), r.lines)

  -- a header without version 1
  pub foreign : (reader : FrameState) (rest out : List ℕ) → IsNextFrame IsHeader header fresh stream reader rest → (HasOne header → ⊥) → out ≡ old ++ header_line header
      → AppendsLines stream old out (Err (error.Stopped (stop.Closed cause.NoCommonProtocol)))
  foreign reader rest out t none is = (header_line header, inr (inl (header, (t.body, (t.short, rest, t.cut), t.is, none), refl, refl)), is)

-- no header
pub headless : (stream old : List ℕ) (new : FrameState) (left : List ℕ) (e : StreamError) (result : Result (Unit {0}) StreamError) → GivesNext IsHeader NoHeader fresh stream (Err e) new left
    → IsErrAnd result (λ x. x ≡ e) → AppendsLines stream old old result
headless stream old new left e (Ok u) none is = absurd is
headless stream old new left (error.Stopped why) (Err x) none is = subst (λ y. AppendsLines stream old old (Err y)) (sym is) ([], inl (none, refl), sym (append-nil old))
headless stream old new left error.OutOfMemory (Err x) none is = subst (λ y. AppendsLines stream old old (Err y)) (sym is) tt

-- memory ran out as lines were appended
pub no_memory : (stream old new : List ℕ) (result : Result (Unit {0}) StreamError) → IsErrAnd result (λ x. x ≡ error.OutOfMemory) → AppendsLines stream old new result
no_memory stream old new (Ok u) is = absurd is
no_memory stream old new (Err x) is = subst (λ y. AppendsLines stream old new (Err y)) (sym is) tt

-- ---- parts of a line, one after the other

pub six_parts : (o a b c d e f p q r s t u : List ℕ) → p ≡ o ++ a → q ≡ p ++ b → r ≡ q ++ c → s ≡ r ++ d → t ≡ s ++ e → u ≡ t ++ f → u ≡ o ++ (a ++ (b ++ (c ++ (d ++ (e ++ f)))))
six_parts o a b c d e f p q r s t u ap_is bq cr ds et fu =
    fu ∙ (ap (λ z. z ++ f) et ∙ (append_assoc s e f ∙ (ap (λ z. z ++ (e ++ f)) ds ∙ (append_assoc r d (e ++ f) ∙ (ap (λ z. z ++ (d ++ (e ++ f))) cr
    ∙ (append_assoc q c (d ++ (e ++ f)) ∙ (ap (λ z. z ++ (c ++ (d ++ (e ++ f)))) bq ∙ (append_assoc p b (c ++ (d ++ (e ++ f)))
    ∙ (ap (λ z. z ++ (b ++ (c ++ (d ++ (e ++ f))))) ap_is ∙ append_assoc o a (b ++ (c ++ (d ++ (e ++ f)))))))))))))
