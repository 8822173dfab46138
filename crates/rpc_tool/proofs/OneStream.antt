-- A stream has one answer: it is read whole, and has one text; or it stops, for one reason and behind one list of lines.
use Rattle.std.proofs.Common.{◌≡◌, refl, sym, ap, ◌∙◌, subst, inl, inr, ◌⊎◌, ℕ, suc, ◌+◌, ◌≤◌, min, List, [], ◌∷◌, ◌++◌, length, take, drop, append_assoc, lit<, arith}
use Rattle.std.proofs.lemmas.List.{length-append, length-take, take-append-drop}
use Rattle.readers.specs.Reader.{FaultAt, IsByte, IsFaultAt, IsProperFront}
use Rattle.readers.proofs.Ends.{one_fault}
use Rattle.readers.proofs.Limits.{cut_same}
use Rattle.readers.proofs.Places.{prefix_free}
use Rattle.readers.proofs.Readers.{front-more}
use Rattle.bp_num.specs.declared.number.Why.{Why}
use Rattle.bp_num.specs.declared.number.Why.TheVariants.{Length}
use Rattle.bp_value.specs.Form.{Form}
use Rattle.bp_value.specs.declared.value.Value.{Value}
use Rattle.bp_grammar.specs.Reasons.{FaultWhy}
use Rattle.bp_grammar.specs.Spells.{Spells}
use Rattle.bp_grammar.proofs.Right.{IsRead}
use Rattle.bp_grammar.proofs.Telling.{tells_form}
use Rattle.rpc_frame.specs.Frames.{frame, frames, IsFrame, FrameWhy, frame_at}
use Rattle.rpc_frame.specs.Streams.{AreWithin}
use Rattle.rpc_frame.proofs.FrameReads.{right_frame}
use Rattle.rpc_frame.proofs.Streams.{frame_is}
use Rattle.rpc_msg.specs.Bodies.{behind, IsMsgFault}
use Rattle.rpc_msg.specs.Forms.{header_form, message_form}
use Rattle.rpc_msg.specs.Values.{header_value, message_value, HasOne}
use Rattle.rpc_msg.specs.declared.fault.MsgFault.{MsgFault}
use Rattle.rpc_msg.specs.declared.fault.MsgFault.TheVariants as fault
use Rattle.rpc_msg.specs.declared.message.Header.{Header}
use Rattle.rpc_msg.specs.declared.message.Message.{Message}
use Rattle.rpc_msg.specs.declared.shared.CloseCause.{CloseCause}
use Rattle.rpc_msg.specs.declared.shared.CloseCause.TheVariants as cause
use Rattle.rpc_msg.proofs.Readable.{header_read, message_read}
use Rattle.rpc_tool.specs.StreamLines.{header_line, told_lines}
use Rattle.rpc_tool.specs.StreamReads.{longest, AreMessages, HasRead, HasBadBody, HasNoFrame, IsForeign, IsHeader, IsMessage, IsWholeStream, NoHeader, NoMessage, StopsAfter}
use Rattle.rpc_tool.specs.declared.stream_reading.Stop.{Stop}
use Rattle.rpc_tool.specs.declared.stream_reading.Stop.TheVariants as stop
use Rattle.rpc_tool.proofs.OneMessage.{front_none, fault_none, one_value, spelled_free, spelled_or_faulty, header_is, message_is}
use Rattle.rpc_tool.proofs.StreamSteps.{length-frame}

-- ---- faults

module _ {A W : Type 0} (L : A → List ℕ → Type 0) (R : List ℕ → ℕ → W → Type 0) (one : (p : List ℕ) (b : ℕ) (v w : W) → R p b v → R p b w → v ≡ w) where
  front_or_fault : (s : List ℕ) (k : ℕ) (w : W) → IsProperFront L s → IsFaultAt L R s k w → ⊥
  front_or_fault s k w (a, c, x, l) (p, b, v, cut, here, front, none, why) =
      none (front-more L p b (v ++ c ∷ x) a (subst (λ t. L a t) (ap (λ t. t ++ c ∷ x) cut ∙ append_assoc p (b ∷ v) (c ∷ x)) l))

  same_fault : (s : List ℕ) (k j : ℕ) (v w : W) → IsFaultAt L R s k v → IsFaultAt L R s j w → (k ≡ j) × (v ≡ w)
  same_fault s k j v w (p, b, x, cut, here, (a, d, z, l), none, why) (q, c, y, cut_too, there, (e, f, u, m), none_too, why_too) =
      let first : FaultAt L s p b x (length (b ∷ x)) = record { place = cut; left = refl; front = (a, d ∷ z, l); no_front = none } in
      let second : FaultAt L s q c y (length (c ∷ y)) = record { place = cut_too; left = refl; front = (e, f ∷ u, m); no_front = none_too } in
      let left : suc (length x) ≡ suc (length y) = one_fault L s p q b c x y (length (b ∷ x)) (length (c ∷ y)) first second in
      let lens : length s ≡ length p + suc (length x) = ap length cut ∙ length-append p (b ∷ x) in
      let lens_too : length s ≡ length q + suc (length y) = ap length cut_too ∙ length-append q (c ∷ y) in
      let (pq, bc) = cut_same p q b c x y (sym cut ∙ cut_too) (omega arith) in
      (omega arith, one q c v w (subst (λ t. R t c v) pq (subst (λ t. R p t v) bc why)) why_too)

-- a body has one fault
module _ (m : ℕ) (f : Form) (is : IsRead f) where
  told : (p : List ℕ) (b : ℕ) (v w : Why) → FaultWhy m f p b v → FaultWhy m f p b w → v ≡ w
  told = (tells_form m f is).one

  body_fault : (body : List ℕ) (why other : MsgFault) → IsMsgFault m f body why → IsMsgFault m f body other → why ≡ other
  body_fault body (fault.Bad at v) (fault.Bad there w) a b =
      let (places, reasons) = same_fault (Spells m f) (FaultWhy m f) told body at there v w a b in
      ap (λ k. fault.Bad k v) places ∙ ap (λ r. fault.Bad there r) reasons
  body_fault body (fault.Bad at v) (fault.Cut there) a b = absurd (front_or_fault (Spells m f) (FaultWhy m f) told body at v b.1 a)
  body_fault body (fault.Bad at v) (fault.Trailing there) a ((x, stands), lt) = absurd (stands_clear body at v a x there stands)
    where
      stands_clear : (body : List ℕ) (at : ℕ) (v : Why) → IsFaultAt (Spells m f) (FaultWhy m f) body at v → (x : Value) (there : ℕ) → (there ≤ length body) × Spells m f x (take there body) → ⊥
      stands_clear body at v a x there stands = fault_none (Spells m f) (FaultWhy m f) (spelled_free m f is) body at v a x (take there body) (drop there body) stands.1 (sym (take-append-drop there body))
  body_fault body (fault.Cut at) (fault.Bad there w) a b = absurd (front_or_fault (Spells m f) (FaultWhy m f) told body there w a.1 b)
  body_fault body (fault.Cut at) (fault.Cut there) a b = ap (λ k. fault.Cut k) (a.0 ∙ sym b.0)
  body_fault body (fault.Cut at) (fault.Trailing there) a ((x, stands), lt) =
      absurd (front_none (Spells m f) (FaultWhy m f) (spelled_free m f is) body a.1 x (take there body) (drop there body) stands.1 (sym (take-append-drop there body)))
  body_fault body (fault.Trailing at) (fault.Bad there w) ((x, stands), lt) b =
      absurd (fault_none (Spells m f) (FaultWhy m f) (spelled_free m f is) body there w b x (take at body) (drop at body) stands.1 (sym (take-append-drop at body)))
  body_fault body (fault.Trailing at) (fault.Cut there) ((x, stands), lt) b =
      absurd (front_none (Spells m f) (FaultWhy m f) (spelled_free m f is) body b.1 x (take at body) (drop at body) stands.1 (sym (take-append-drop at body)))
  body_fault body (fault.Trailing at) (fault.Trailing there) ((x, (few, l)), lt) ((y, (le, k)), less) =
      let (xy, same) = spelled_free m f is x y (take at body) (take there body) (drop at body) (drop there body) l k (take-append-drop at body ∙ sym (take-append-drop there body)) in
      let counts : min at (length body) ≡ min there (length body) = sym (length-take at body) ∙ (ap length same ∙ length-take there body) in
      ap (λ n. fault.Trailing n) (omega (arith, counts, few, le))

-- ---- frames

frame_free : (b c : List ℕ) (t u x y : List ℕ) → IsFrame longest b t → IsFrame longest c u → t ++ x ≡ u ++ y → (b ≡ c) × (t ≡ u)
frame_free = prefix_free IsByte (IsFrame longest) (FrameWhy longest) (frame_at longest) (right_frame longest)

is_frame_of : (b : List ℕ) → length b ≤ longest → IsFrame longest b (frame b)
is_frame_of b le = frame_is longest b (lit< tt) le

cut_off : (f x y : List ℕ) → f ++ x ≡ f ++ y → x ≡ y
cut_off [] x y e = e
cut_off (b ∷ f) x y e = let tails : f ++ x ≡ f ++ y = cc in cut_off f x y tails

body_free : (b c x y : List ℕ) → length b ≤ longest → length c ≤ longest → frame b ++ x ≡ frame c ++ y → (b ≡ c) × (x ≡ y)
body_free b c x y le few same =
    let (bc, fronts) = frame_free b c (frame b) (frame c) x y (is_frame_of b le) (is_frame_of c few) same in
    (bc, cut_off (frame b) x y (same ∙ ap (λ f. f ++ y) (sym fronts)))

frame_why : (p : List ℕ) (b : ℕ) (v w : Why) → FrameWhy longest p b v → FrameWhy longest p b w → v ≡ w
frame_why p b v w (inl (a, x, y)) (inl (c, s, t)) = cc
frame_why p b v w (inr x) other = absurd x.5
frame_why p b v w first (inr y) = absurd y.5

-- where there is no frame, none stands in front
no_frame : (place : ℕ) (s : List ℕ) (why : Stop) → HasNoFrame place s why → (b z : List ℕ) → length b ≤ longest → s ≡ frame b ++ z → ⊥
no_frame place s (stop.Cut at) none b z le cut = front_none (IsFrame longest) (FrameWhy longest) frame_free s none.0 b (frame b) z (is_frame_of b le) cut
no_frame place s (stop.Closed (cause.BadFrame at)) none b z le cut =
    fault_none (IsFrame longest) (FrameWhy longest) frame_free s none.0 Length none.1 b (frame b) z (is_frame_of b le) cut
no_frame place s other none b z le cut = absurd none

-- nor one of a body that can be read, where the body is at fault
module _ (f : Form) (is : IsRead f) (because : MsgFault → CloseCause) where
  abbrev NoBody : ℕ → List ℕ → Stop → Type 0
  NoBody place s why = HasNoFrame place s why ⊎ HasBadBody f because place s why

  no_body : (place : ℕ) (s : List ℕ) (why : Stop) → NoBody place s why → (v : Value) (b z : List ℕ) → length b ≤ longest → Spells longest f v b → s ≡ frame b ++ z → ⊥
  no_body place s why (inl none) v b z le l cut = no_frame place s why none b z le cut
  no_body place s why (inr (body, fault, (short, more, whole), bad, same)) v b z le l cut =
      let (bodies, rest) = body_free body b more z short le (sym whole ∙ cut) in
      spelled_or_faulty longest f is v body fault (subst (λ t. Spells longest f v t) (sym bodies) l) bad

  one_reason : (place : ℕ) (s : List ℕ) (why other : Stop) → NoBody place s why → NoBody place s other → why ≡ other
  one_reason place s why other (inl a) (inl b) = by why other a b
    where
      by : (why other : Stop) → HasNoFrame place s why → HasNoFrame place s other → why ≡ other
      by (stop.Cut at) (stop.Cut there) a b = ap (λ n. stop.Cut n) (a.1 ∙ sym b.1)
      by (stop.Cut at) (stop.Closed (cause.BadFrame there)) a (k, b, e) = absurd (front_or_fault (IsFrame longest) (FrameWhy longest) frame_why s k Length a.0 b)
      by (stop.Closed (cause.BadFrame at)) (stop.Cut there) (k, a, e) b = absurd (front_or_fault (IsFrame longest) (FrameWhy longest) frame_why s k Length b.0 a)
      by (stop.Closed (cause.BadFrame at)) (stop.Closed (cause.BadFrame there)) (k, a, e) (j, b, d) =
          let (places, reasons) = same_fault (IsFrame longest) (FrameWhy longest) frame_why s k j Length Length a b in
          ap (λ n. stop.Closed (cause.BadFrame n)) (e ∙ (ap (λ n. place + n) places ∙ sym d))
      by (stop.Cut at) other a b = absurd b
      by (stop.Closed (cause.BadFrame at)) other a b = absurd b
      by why other a b = absurd a
  one_reason place s why other (inl a) (inr (body, fault, (short, more, whole), bad, same)) = absurd (no_frame place s why a body more short whole)
  one_reason place s why other (inr (body, fault, (short, more, whole), bad, same)) (inl b) = absurd (no_frame place s other b body more short whole)
  one_reason place s why other (inr (body, fault, (short, more, whole), bad, same)) (inr (body_too, fault_too, (short_too, more_too, whole_too), bad_too, same_too)) =
      let (bodies, rest) = body_free body body_too more more_too short short_too (sym whole ∙ whole_too) in
      let faults = body_fault longest f is body fault fault_too bad (subst (λ t. IsMsgFault longest f t fault_too) (sym bodies) bad_too) in
      same ∙ (ap (λ x. stop.Closed (because (behind (place + 8) x))) faults ∙ sym same_too)

-- ---- headers and messages

one_header : (h k : Header) (body : List ℕ) → IsHeader h body → IsHeader k body → h ≡ k
one_header h k body a b = header_is h k (one_value longest header_form header_read (header_value h) (header_value k) body a b)

one_message : (m n : Message) (body : List ℕ) → IsMessage m body → IsMessage n body → m ≡ n
one_message m n body a b = message_is m n (one_value longest message_form message_read (message_value m) (message_value n) body a b)

-- no message stands in front
abbrev Ends : List ℕ → Type 0
Ends rest = (m : Message) (b z : List ℕ) → length b ≤ longest → IsMessage m b → rest ≡ frame b ++ z → ⊥

nothing_ends : Ends []
nothing_ends m b z le l cut =
    let lens : 0 ≡ length (frame b) + length z = ap length cut ∙ length-append (frame b) z in
    let long = length-frame b in
    omega arith

none_ends : (place : ℕ) (rest : List ℕ) (why : Stop) → NoMessage place rest why → Ends rest
none_ends place rest why none m b z le l cut = no_body message_form message_read cause.BadMessage place rest why none (message_value m) b z le l cut

same_messages : (ms ns : List Message) (bs cs : List (List ℕ)) (r t : List ℕ) → AreMessages ms bs → AreMessages ns cs → AreWithin longest bs → AreWithin longest cs → Ends r → Ends t
    → frames bs ++ r ≡ frames cs ++ t → (ms ≡ ns) × (r ≡ t)
same_messages [] [] [] [] r t a b le few end over e = (refl, e)
same_messages [] (n ∷ ns) [] (c ∷ cs) r t a b le few end over e = absurd (end n c (frames cs ++ t) few.0 b.0 (e ∙ append_assoc (frame c) (frames cs) t))
same_messages (m ∷ ms) [] (b ∷ bs) [] r t a x le few end over e = absurd (over m b (frames bs ++ r) le.0 a.0 (sym e ∙ append_assoc (frame b) (frames bs) r))
same_messages (m ∷ ms) (n ∷ ns) (b ∷ bs) (c ∷ cs) r t a x le few end over e =
    let line : frame b ++ (frames bs ++ r) ≡ frame c ++ (frames cs ++ t) = sym (append_assoc (frame b) (frames bs) r) ∙ (e ∙ append_assoc (frame c) (frames cs) t) in
    let (bc, rests) = body_free b c (frames bs ++ r) (frames cs ++ t) le.0 few.0 line in
    let first = one_message m n b a.0 (subst (λ z. IsMessage n z) (sym bc) x.0) in
    let (others, left) = same_messages ms ns bs cs r t a.1 x.1 le.1 few.1 end over rests in
    (ap (λ z. z ∷ ms) first ∙ ap (λ z. n ∷ z) others, left)
same_messages [] ns (b ∷ bs) cs r t a x le few end over e = absurd a
same_messages (m ∷ ms) ns [] cs r t a x le few end over e = absurd a
same_messages ms [] bs (c ∷ cs) r t a x le few end over e = absurd x
same_messages ms (n ∷ ns) bs [] r t a x le few end over e = absurd x

-- the header's frame stands in front
read_front : (s : List ℕ) (h : Header) (ms : List Message) (r : List ℕ) → (a : HasRead s h ms r) → s ≡ frame a.first ++ (frames a.bodies ++ r)
read_front s h ms r a = a.whole ∙ append_assoc (frame a.first) (frames a.bodies) r

same_read : (s : List ℕ) (h k : Header) (ms ns : List Message) (r t : List ℕ) → HasRead s h ms r → HasRead s k ns t → Ends r → Ends t → (h ≡ k) × (ms ≡ ns) × (r ≡ t)
same_read s h k ms ns r t a b end over =
    let (first, rest) = body_free a.first b.first (frames a.bodies ++ r) (frames b.bodies ++ t) a.short.0 b.short.0 (sym (read_front s h ms r a) ∙ read_front s k ns t b) in
    let (messages, left) = same_messages ms ns a.bodies b.bodies r t a.messages_are b.messages_are a.short.1 b.short.1 end over rest in
    (one_header h k a.first a.header_is (subst (λ z. IsHeader k z) (sym first) b.header_is), messages, left)

-- ---- whole streams

lines_same : (h k : Header) (ms ns : List Message) → h ≡ k → ms ≡ ns → told_lines h ms ≡ told_lines k ns
lines_same h k ms ns hs are = ap (λ z. told_lines z ms) hs ∙ ap (λ z. told_lines k z) are

pub one_text : (s text other : List ℕ) → IsWholeStream s text → IsWholeStream s other → text ≡ other
one_text s text other (h, ms, a, is) (k, ns, b, are) =
    let (hs, messages, left) = same_read s h k ms ns [] [] a b nothing_ends nothing_ends in
    is ∙ (lines_same h k ms ns hs messages ∙ sym are)

-- a stream whose header can be read has one, and it is that header
no_header : (s : List ℕ) (why : Stop) (h : Header) (body z : List ℕ) → NoHeader 0 s why → length body ≤ longest → IsHeader h body → s ≡ frame body ++ z → ⊥
no_header s why h body z none le l cut = no_body header_form header_read cause.BadHeader 0 s why none (header_value h) body z le l cut

foreign_or_read : (s : List ℕ) (h k : Header) (ms : List Message) (r : List ℕ) → IsForeign h s → HasRead s k ms r → ⊥
foreign_or_read s h k ms r (body, (short, more, cut), is, none) a =
    let (bodies, rest) = body_free body a.first more (frames a.bodies ++ r) short a.short.0 (sym cut ∙ read_front s k ms r a) in
    let same = one_header h k body is (subst (λ z. IsHeader k z) (sym bodies) a.header_is) in
    none (subst (λ (z : Header). HasOne z) (sym same) a.has_one)

pub whole_or_stopped : (s text lines : List ℕ) (why : Stop) → IsWholeStream s text → StopsAfter s lines why → ⊥
whole_or_stopped s text lines why (h, ms, a, is) (inl (none, empty)) = no_header s why h a.first (frames a.bodies ++ []) none a.short.0 a.header_is (read_front s h ms [] a)
whole_or_stopped s text lines why (h, ms, a, is) (inr (inl (k, foreign, are, reason))) = foreign_or_read s k h ms [] foreign a
whole_or_stopped s text lines why (h, ms, a, is) (inr (inr (k, ns, up, are))) =
    let (hs, messages, left) = same_read s h k ms ns [] up.rest a up.are_read nothing_ends (none_ends up.place up.rest why up.none) in
    up.left (sym left)

pub one_stop : (s lines others : List ℕ) (why other : Stop) → StopsAfter s lines why → StopsAfter s others other → (lines ≡ others) × (why ≡ other)
one_stop s lines others why other (inl (none, empty)) (inl (nothing, blank)) = (empty ∙ sym blank, one_reason header_form header_read cause.BadHeader 0 s why other none nothing)
one_stop s lines others why other (inl (none, empty)) (inr (inl (k, (body, (short, more, cut), is, rest), are, reason))) = absurd (no_header s why k body more none short is cut)
one_stop s lines others why other (inl (none, empty)) (inr (inr (k, ns, up, are))) =
    let a = up.are_read in absurd (no_header s why k a.first (frames a.bodies ++ up.rest) none a.short.0 a.header_is (read_front s k ns up.rest a))
one_stop s lines others why other (inr (inl (k, (body, (short, more, cut), is, rest), are, reason))) (inl (none, empty)) = absurd (no_header s other k body more none short is cut)
one_stop s lines others why other (inr (inl (h, (body, (short, more, cut), is, rest), are, reason))) (inr (inl (k, (body_too, (short_too, more_too, cut_too), is_too, rest_too), are_too, reason_too))) =
    let (bodies, left) = body_free body body_too more more_too short short_too (sym cut ∙ cut_too) in
    let same = one_header h k body is (subst (λ z. IsHeader k z) (sym bodies) is_too) in
    (are ∙ (ap (λ z. header_line z) same ∙ sym are_too), reason ∙ sym reason_too)
one_stop s lines others why other (inr (inl (h, foreign, are, reason))) (inr (inr (k, ns, up, lines_are))) = absurd (foreign_or_read s h k ns up.rest foreign up.are_read)
one_stop s lines others why other (inr (inr (k, ns, up, are))) (inl (none, empty)) =
    let a = up.are_read in absurd (no_header s other k a.first (frames a.bodies ++ up.rest) none a.short.0 a.header_is (read_front s k ns up.rest a))
one_stop s lines others why other (inr (inr (k, ns, up, lines_are))) (inr (inl (h, foreign, are, reason))) = absurd (foreign_or_read s h k ns up.rest foreign up.are_read)
one_stop s lines others why other (inr (inr (h, ms, up, are))) (inr (inr (k, ns, to, are_too))) =
    let (hs, messages, left) = same_read s h k ms ns up.rest to.rest up.are_read to.are_read (none_ends up.place up.rest why up.none) (none_ends to.place to.rest other to.none) in
    let counts : length up.rest ≡ length to.rest = ap length left in
    let first = up.place_is in
    let second = to.place_is in
    let places : up.place ≡ to.place = omega arith in
    let none = subst (λ z. NoMessage up.place z other) (sym left) (subst (λ n. NoMessage n to.rest other) (sym places) to.none) in
    (are ∙ (lines_same h k ms ns hs messages ∙ sym are_too), one_reason message_form message_read cause.BadMessage up.place up.rest why other up.none none)
