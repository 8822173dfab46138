-- Over the feeds of any pieces, the bodies given are those of all bytes taken.
use Rattle.std.proofs.Common.{◌≡◌, refl, sym, ap, ◌∙◌, subst, ℕ, ◌+◌, ◌-◌, ◌^◌, ◌<◌, ◌≤◌, min, List, [], ◌∷◌, ◌++◌, length, take, drop, append_assoc, Option, Some, None, Result, Ok, Err, lit<, arith}
use Rattle.std.proofs.lemmas.Grind.{flat_map-append}
use Rattle.std.proofs.lemmas.List.{append-nil, length-append, length-take}
use Rattle.readers.specs.Reader.{IsByte, IsProperFront, Stands, IsFaultAt}
use Rattle.readers.proofs.Places.{prefix_free}
use Rattle.readers.proofs.Readers.{each-any, each-join}
use Rattle.bp_num.specs.Forms.{little_endian, Payload}
use Rattle.bp_num.specs.declared.number.Why.TheVariants.{Length}
use Rattle.bp_num.proofs.Payloads.{take_whole}
use Rattle.rpc_frame.specs.Feeding.{FedGives, IsFrameFed}
use Rattle.rpc_frame.specs.Frames.{frame, frames, IsFrame, FrameWhy, frame_at}
use Rattle.rpc_frame.specs.States.{FrameState, stream_place, moved}
use Rattle.rpc_frame.specs.Streams.{AreWithin, AreBodies, HasGiven, given}
use Rattle.rpc_frame.specs.declared.error.FrameError.TheVariants as error
use Rattle.rpc_frame.specs.declared.reader.Fed.{Fed}
use Rattle.rpc_frame.proofs.FrameReads.{right_frame}
use Rattle.rpc_frame.proofs.HeadSteps.{length-little, take_front}

-- ---- one frame

-- a frame is the frame of its body
pub is_frame : (max : ℕ) (body s : List ℕ) → IsFrame max body s → (s ≡ frame body) × (length body ≤ max)
is_frame max body s (n, t, u, cut, (fits, few, bytes), (same, size, all)) =
    let count : length body ≡ n = ap length same ∙ size in
    (cut ∙ (ap (λ h. h ++ u) bytes ∙ (ap (λ k. little_endian 8 k ++ u) (sym count) ∙ ap (λ b. little_endian 8 (length body) ++ b) (sym same))), omega arith)

pub frame_is : (max : ℕ) (body : List ℕ) → max < 256 ^ 8 → length body ≤ max → IsFrame max body (frame body)
frame_is max body few le = (length body, little_endian 8 (length body), body, refl, (le, omega arith, refl), (refl, refl, each-any body))

pub front_start : (max : ℕ) → IsProperFront (IsFrame max) []
front_start max = ([], 0, little_endian 7 0, (0, little_endian 8 0, [], sym (append-nil (little_endian 8 0)), (omega arith, lit< tt, refl), (refl, refl, tt)))

-- what begins a frame has no frame in front
pub front_none : (max : ℕ) (held body u : List ℕ) → IsProperFront (IsFrame max) held → IsFrame max body (frame body) → held ≡ frame body ++ u → ⊥
front_none max held body u (other, b, x, spelled) is cut =
    let line : (held ++ b ∷ x) ++ [] ≡ frame body ++ (u ++ b ∷ x) = append-nil (held ++ b ∷ x) ∙ (ap (λ h. h ++ b ∷ x) cut ∙ append_assoc (frame body) u (b ∷ x)) in
    let (bodies, same) = prefix_free IsByte (IsFrame max) (FrameWhy max) (frame_at max) (right_frame max) other body (held ++ b ∷ x) (frame body) [] (u ++ b ∷ x) spelled is line in
    let one : length held + length (b ∷ x) ≡ length (frame body) = sym (length-append held (b ∷ x)) ∙ ap length same in
    let two : length held ≡ length (frame body) + length u = ap length cut ∙ length-append (frame body) u in
    omega arith

-- ---- streams

-- a stream has its bodies in one way
pub one_way : (max : ℕ) → max < 256 ^ 8 → (stream : List ℕ) (bodies others : List (List ℕ)) (held rest : List ℕ) → AreBodies max stream bodies held → AreBodies max stream others rest → (bodies ≡ others) × (held ≡ rest)
one_way max few stream bodies others held rest a b = go bodies others a.short b.short a.front b.front (sym a.whole ∙ b.whole)
  where
    cut_off : (f x y : List ℕ) → f ++ x ≡ f ++ y → x ≡ y
    cut_off [] x y e = e
    cut_off (b ∷ f) x y e = let tails : f ++ x ≡ f ++ y = cc in cut_off f x y tails

    go : (bs cs : List (List ℕ)) → AreWithin max bs → AreWithin max cs → IsProperFront (IsFrame max) held → IsProperFront (IsFrame max) rest → frames bs ++ held ≡ frames cs ++ rest → (bs ≡ cs) × (held ≡ rest)
    go [] [] bs_short cs_short front other same = (refl, same)
    go [] (c ∷ cs) bs_short cs_short front other same =
        absurd (front_none max held c (frames cs ++ rest) front (frame_is max c few cs_short.0) (same ∙ append_assoc (frame c) (frames cs) rest))
    go (b ∷ bs) [] bs_short cs_short front other same =
        absurd (front_none max rest b (frames bs ++ held) other (frame_is max b few bs_short.0) (sym same ∙ append_assoc (frame b) (frames bs) held))
    go (b ∷ bs) (c ∷ cs) bs_short cs_short front other same =
        let line : frame b ++ (frames bs ++ held) ≡ frame c ++ (frames cs ++ rest) = sym (append_assoc (frame b) (frames bs) held) ∙ (same ∙ append_assoc (frame c) (frames cs) rest) in
        let (bc, fronts) = prefix_free IsByte (IsFrame max) (FrameWhy max) (frame_at max) (right_frame max) b c (frame b) (frame c) (frames bs ++ held) (frames cs ++ rest)
        (frame_is max b few bs_short.0) (frame_is max c few cs_short.0) line in
        let tails : frames bs ++ held ≡ frames cs ++ rest = cut_off (frame b) (frames bs ++ held) (frames cs ++ rest) (line ∙ ap (λ f. f ++ (frames cs ++ rest)) (sym fronts)) in
        let (later, left) = go bs cs bs_short.1 cs_short.1 front other tails in
        (ap (λ x. x ∷ bs) bc ∙ ap (λ xs. c ∷ xs) later, left)

-- a reader at the start
pub start_given : (max : ℕ) → HasGiven max [] [] (record { max = max; held = []; place = 0; failed = None })
start_given max = record {
  limit = refl;
  bodies_are = record { whole = refl; short = tt; front = front_start max };
  place = refl;
  going = refl;
}

counted_on : (a b p n : ℕ) → p ≡ stream_place a → n ≡ a + b → stream_place (p + b) ≡ stream_place n
counted_on a b p n is sum = omega arith

-- one more piece
pub feed_given : (max : ℕ) (stream : List ℕ) (bodies : List (List ℕ)) (old new : FrameState) (piece : List ℕ) (fed : Fed) → HasGiven max stream bodies old → IsFrameFed old piece (Ok fed) new
    → HasGiven max (stream ++ take fed.used piece) (bodies ++ given fed.frame) new
feed_given max stream bodies old new piece fed had (going, gives) = by fed.frame fed.used gives
  where
    by : (frame_given : Option (List ℕ)) (used : ℕ) → FedGives old piece frame_given used new → HasGiven max (stream ++ take used piece) (bodies ++ given frame_given) new
    by None used (front, all, is) =
        let took : take used piece ≡ piece = take_whole used piece (omega (arith, all)) in
        record {
          limit = ap (λ (r : FrameState). r.max) is ∙ had.limit;
          bodies_are = record {
            whole = ap (λ p. stream ++ p) took ∙ (ap (λ s. s ++ piece) had.bodies_are.whole ∙ (append_assoc (frames bodies) old.held piece
                ∙ (ap (λ bs. frames bs ++ (old.held ++ piece)) (sym (append-nil bodies)) ∙ ap (λ (r : FrameState). frames (bodies ++ []) ++ r.held) (sym is))));
            short = subst (λ bs. AreWithin max bs) (sym (append-nil bodies)) had.bodies_are.short;
            front = subst (λ (r : FrameState). IsProperFront (IsFrame max) r.held) (sym is) (subst (λ m. IsProperFront (IsFrame m) (old.held ++ piece)) had.limit front);
          };
          place = ap (λ (r : FrameState). r.place) is ∙ counted_on (length stream) used old.place (length (stream ++ take used piece)) had.place
              (length-append stream (take used piece) ∙ ap (λ n. length stream + n) (ap length took ∙ sym all));
          going = ap (λ (r : FrameState). r.failed) is;
        }
    by (Some body) used ((within, spelled), is) =
        let front : take (length old.held + used) (old.held ++ piece) ≡ old.held ++ take used piece = take_front (length old.held) used old.held piece refl in
        let (text, short) = is_frame max body (old.held ++ take used piece) (subst (λ m. IsFrame m body (old.held ++ take used piece)) had.limit (subst (λ t. IsFrame old.max body t) front spelled)) in
        let few : used ≤ length piece = omega (arith, length-append old.held piece) in
        let frames_are : frames (bodies ++ body ∷ []) ≡ frames bodies ++ frame body = flat_map-append frame bodies (body ∷ []) ∙ ap (λ f. frames bodies ++ f) (append-nil (frame body)) in
        record {
          limit = ap (λ (r : FrameState). r.max) is ∙ had.limit;
          bodies_are = record {
            whole = ap (λ s. s ++ take used piece) had.bodies_are.whole ∙ (append_assoc (frames bodies) old.held (take used piece)
                ∙ (ap (λ f. frames bodies ++ f) text ∙ (sym frames_are ∙ (sym (append-nil (frames (bodies ++ body ∷ []))) ∙ ap (λ (r : FrameState). frames (bodies ++ body ∷ []) ++ r.held) (sym is)))));
            short = each-join (λ b. length b ≤ max) bodies (body ∷ []) had.bodies_are.short (short, tt);
            front = subst (λ (r : FrameState). IsProperFront (IsFrame max) r.held) (sym is) (front_start max);
          };
          place = ap (λ (r : FrameState). r.place) is ∙ counted_on (length stream) used old.place (length (stream ++ take used piece)) had.place
              (length-append stream (take used piece) ∙ ap (λ n. length stream + n) (length-take used piece ∙ omega arith));
          going = ap (λ (r : FrameState). r.failed) is;
        }

-- a length that is too long, with its place in the whole stream
pub feed_stopped : (max : ℕ) (stream : List ℕ) (bodies : List (List ℕ)) (old new : FrameState) (piece : List ℕ) (at : ℕ) → HasGiven max stream bodies old → IsFrameFed old piece (Err (error.TooLong at)) new
    → (n : ℕ) × IsFaultAt (IsFrame max) (FrameWhy max) (old.held ++ piece) (length old.held + n) Length × (at ≡ stream_place (length stream + n))
feed_stopped max stream bodies old new piece at had (going, (n, fault, place, is)) = (
  n,
  subst (λ m. IsFaultAt (IsFrame m) (FrameWhy m) (old.held ++ piece) (length old.held + n) Length) had.limit fault,
  place ∙ counted_on (length stream) n old.place (length stream + n) had.place refl,
)
