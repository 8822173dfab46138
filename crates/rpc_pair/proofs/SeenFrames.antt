-- Where a length is too long, more bytes change nothing.
use Rattle.std.proofs.Common.{◌≡◌, refl, sym, ap, ◌∙◌, subst, ℕ, ◌-◌, ◌^◌, ◌<◌, List, [], ◌∷◌, ◌++◌, length, drop, append_assoc, arith}
use Rattle.std.specs.Prelude.{Option, Some}
use Rattle.std.specs.Option.{option_map}
use Rattle.std.proofs.lemmas.List.{length-append}
use Rattle.readers.specs.Reader.{Outcome, whole, more, bad, Each, IsByte, IsFaultAt}
use Rattle.readers.proofs.Places.{only_bad, only_whole, told_bad}
use Rattle.readers.proofs.Readers.{each-front, each-rest}
use Rattle.bp_num.specs.declared.number.Why.{Why}
use Rattle.rpc_frame.specs.Frames.{FrameWhy, IsFrame, frame_at, frames}
use Rattle.rpc_frame.specs.States.{stream_place}
use Rattle.rpc_frame.specs.Streams.{HasBodies, bodies}
use Rattle.rpc_frame.proofs.FrameReads.{right_frame}
use Rattle.rpc_frame.proofs.StreamBodies.{all_bodies, bodies_are}
use Rattle.rpc_msg.specs.declared.shared.CloseCause.{CloseCause}
use Rattle.rpc_msg.specs.declared.shared.CloseCause.TheVariants as cause
use Rattle.rpc_talk.specs.Causes.{behind_frames, fault_place, frame_cause}
use Rattle.rpc_talk.proofs.StreamCauses.{one_why}

drop_front : (s t : List ℕ) → drop (length s) (s ++ t) ≡ t
drop_front [] t = refl
drop_front (b ∷ s) t = drop_front s t

abbrev place_cause : ℕ → Outcome ℕ Why (List ℕ) → Option CloseCause
place_cause count o = option_map (λ at. cause.BadFrame (stream_place at)) (fault_place count o)

module _ (m : ℕ) (few : m < 256 ^ 8) (s x : List ℕ) (bytes : Each IsByte (s ++ x)) where
  first : Each IsByte s
  first = each-front IsByte s x bytes

  has : HasBodies m s (bodies m s)
  has = all_bodies m few s first

  abbrev before : List ℕ
  before = frames (bodies m s)

  behind : behind_frames m s ≡ has.rest
  behind = ap (drop (length before)) has.whole ∙ drop_front before has.rest

  rest_bytes : Each IsByte has.rest
  rest_bytes = each-rest IsByte before has.rest (subst (Each IsByte) has.whole first)

  -- the bytes that follow stand behind the rest
  longer : s ++ x ≡ before ++ (has.rest ++ x)
  longer = ap (λ t. t ++ x) has.whole ∙ append_assoc before has.rest x

  longer_bytes : Each IsByte (has.rest ++ x)
  longer_bytes = each-rest IsByte before (has.rest ++ x) (subst (Each IsByte) longer bytes)

  fault_longer : (k : ℕ) (w : Why) → IsFaultAt (IsFrame m) (FrameWhy m) has.rest k w → IsFaultAt (IsFrame m) (FrameWhy m) (has.rest ++ x) k w
  fault_longer k w (p, b, v, cut, at, front, none, why) = (p, b, v ++ x, ap (λ t. t ++ x) cut ∙ append_assoc p (b ∷ v) x, at, front, none, why)

  no_whole : (n : ℕ) (w : Why) (body u : List ℕ) → ◌≡◌ {A = Outcome ℕ Why (List ℕ)} (bad n w) (whole body u) → ⊥
  no_whole n w body u e = cc

  -- a length that is too long stays so, and no frame stands in front of it
  abbrev Stays : CloseCause → Type 0
  Stays why = (frame_cause m (s ++ x) ≡ Some why) × (bodies m (s ++ x) ≡ bodies m s)

  too_long : (n : ℕ) (w : Why) (why : CloseCause) → frame_at m has.rest ≡ bad n w → place_cause (length s) (bad n w) ≡ Some why → Stays why
  too_long n w why reads is =
      let (k, sum, fault) = told_bad IsByte (IsFrame m) (FrameWhy m) (frame_at m) (right_frame m) has.rest n w rest_bytes reads in
      let (left, total, stops) = only_bad IsByte (IsFrame m) (FrameWhy m) (frame_at m) (right_frame m) (has.rest ++ x) k w longer_bytes (fault_longer k w fault) (one_why m) in
      let same : bodies m (s ++ x) ≡ bodies m s = bodies_are m few (s ++ x) (bodies m s) bytes (record {
        rest = has.rest ++ x;
        whole = longer;
        short = has.short;
        over = λ body i stands.
            no_whole left w body (drop i (has.rest ++ x))
            (sym stops ∙ only_whole IsByte (IsFrame m) (FrameWhy m) (frame_at m) (right_frame m) (has.rest ++ x) body i stands);
      }) in
      let place : length (s ++ x) - left ≡ length s - n
      = omega (arith, sum, total, length-append s x, length-append has.rest x, ap length has.whole, length-append before has.rest) in
      let rest : behind_frames m (s ++ x) ≡ has.rest ++ x
      = ap (λ bs. drop (length (frames bs)) (s ++ x)) same ∙ (ap (drop (length before)) longer ∙ drop_front before (has.rest ++ x)) in (
        ap (λ t. place_cause (length (s ++ x)) (frame_at m t)) rest
            ∙ (ap (place_cause (length (s ++ x))) stops ∙ (ap (λ i. Some (cause.BadFrame (stream_place i))) place ∙ is)),
        same,
      )

  pub frame_stays : (why : CloseCause) → frame_cause m s ≡ Some why → Stays why
  frame_stays why is = by (frame_at m has.rest) refl (ap (λ t. place_cause (length s) (frame_at m t)) (sym behind) ∙ is)
    where
      by : (o : Outcome ℕ Why (List ℕ)) → frame_at m has.rest ≡ o → place_cause (length s) o ≡ Some why → Stays why
      by (whole body u) reads e = absurd cc
      by more reads e = absurd cc
      by (bad n w) reads e = too_long n w why reads e
