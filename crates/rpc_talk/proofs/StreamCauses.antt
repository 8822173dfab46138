-- The fault of a stream of bytes: of frames, and of what stands behind them.
use Rattle.std.proofs.Common.{◌≡◌, refl, sym, ap, ◌∙◌, subst, ℕ, ◌+◌, ◌-◌, ◌^◌, ◌<◌, List, [], ◌∷◌, ◌++◌, length, drop, inl, inr, arith}
use Rattle.std.specs.Prelude.{Some, None}
use Rattle.std.specs.Option.{option_map}
use Rattle.std.proofs.lemmas.List.{length-append}
use Rattle.readers.specs.Reader.{Outcome, whole, more, bad, Each, IsByte, Stands, IsFaultAt}
use Rattle.readers.proofs.Places.{only_whole, only_more, only_bad}
use Rattle.readers.proofs.Readers.{each-rest}
use Rattle.bp_num.specs.declared.number.Why.{Why}
use Rattle.bp_num.specs.declared.number.Why.TheVariants.{Length}
use Rattle.rpc_frame.specs.Frames.{frames, IsFrame, FrameWhy, frame_at}
use Rattle.rpc_frame.specs.States.{stream_place}
use Rattle.rpc_frame.specs.Streams.{AreWithin, AreBodies, bodies}
use Rattle.rpc_frame.proofs.FrameReads.{right_frame}
use Rattle.rpc_frame.proofs.StreamBodies.{bodies_are, begun_bodies}
use Rattle.rpc_msg.specs.declared.message.Message.{Message}
use Rattle.rpc_msg.specs.declared.shared.CloseCause.TheVariants as cause
use Rattle.rpc_talk.specs.Causes.{fault_place, behind_frames, frame_cause, cause_in, cause_of}
use Rattle.rpc_talk.specs.Opened.{AreOpened}
use Rattle.rpc_talk.specs.Welcome.{Call}
use Rattle.rpc_talk.proofs.Accepting.{IsTaken}
use Rattle.rpc_talk.proofs.Causing.{none_behind}

pub one_why : (m : ℕ) (p : List ℕ) (b : ℕ) (v w : Why) → FrameWhy m p b v → FrameWhy m p b w → v ≡ w
one_why m p b v w (inl one) (inl two) = one.0 ∙ sym two.0
one_why m p b v w (inl one) (inr (n, t, q, cut, is, never)) = absurd never
one_why m p b v w (inr (n, t, q, cut, is, never)) two = absurd never

bad_no_whole : (n : ℕ) (w : Why) (body u : List ℕ) → ◌≡◌ {A = Outcome ℕ Why (List ℕ)} (bad n w) (whole body u) → ⊥
bad_no_whole n w body u e = cc

drop_front : (s t : List ℕ) → drop (length s) (s ++ t) ≡ t
drop_front [] t = refl
drop_front (b ∷ s) t = drop_front s t

module _ (m : ℕ) (few : m < 256 ^ 8) where
  -- ---- where a length is too long

  -- all behind the frames of these bodies
  behind_is : (s : List ℕ) (bs : List (List ℕ)) (rest : List ℕ) → s ≡ frames bs ++ rest → bodies m s ≡ bs → behind_frames m s ≡ rest
  behind_is s bs rest is same = ap (λ x. drop (length (frames x)) s) same ∙ (ap (drop (length (frames bs))) is ∙ drop_front (frames bs) rest)

  -- nowhere in a frame that goes on
  pub no_frame_cause : (s : List ℕ) (bs : List (List ℕ)) (held : List ℕ) → Each IsByte s → AreBodies m s bs held → (frame_cause m s ≡ None) × (bodies m s ≡ bs)
  no_frame_cause s bs held vs are =
      let same : bodies m s ≡ bs = bodies_are m few s bs vs (begun_bodies m few s bs held are) in
      let bytes : Each IsByte held = each-rest IsByte (frames bs) held (subst (Each IsByte) are.whole vs) in
      let on : frame_at m held ≡ more = only_more IsByte (IsFrame m) (FrameWhy m) (frame_at m) (right_frame m) held bytes are.front in (
        ap (λ rest. option_map (λ at. cause.BadFrame (stream_place at)) (fault_place (length s) (frame_at m rest))) (behind_is s bs held are.whole same)
            ∙ ap (λ o. option_map (λ at. cause.BadFrame (stream_place at)) (fault_place (length s) o)) on,
        same,
      )

  -- no frame stands in front of a byte that makes a length too long
  pub none_before : (rest : List ℕ) (k : ℕ) → Each IsByte rest → IsFaultAt (IsFrame m) (FrameWhy m) rest k Length → (body : List ℕ) (n : ℕ) → Stands (IsFrame m) rest body n → ⊥
  none_before rest k bytes fault body n stands =
      let (left, sum, stops) = only_bad IsByte (IsFrame m) (FrameWhy m) (frame_at m) (right_frame m) rest k Length bytes fault (one_why m) in
      let there : frame_at m rest ≡ whole body (drop n rest) = only_whole IsByte (IsFrame m) (FrameWhy m) (frame_at m) (right_frame m) rest body n stands in
      bad_no_whole left Length body (drop n rest) (sym stops ∙ there)

  -- the fault is there
  frame_cause_at : (s : List ℕ) (bs : List (List ℕ)) (rest : List ℕ) (k at : ℕ) → Each IsByte s → bodies m s ≡ bs → s ≡ frames bs ++ rest
      → IsFaultAt (IsFrame m) (FrameWhy m) rest k Length → at ≡ length (frames bs) + k → frame_cause m s ≡ Some (cause.BadFrame (stream_place at))
  frame_cause_at s bs rest k at vs same is fault place =
      let bytes : Each IsByte rest = each-rest IsByte (frames bs) rest (subst (Each IsByte) is vs) in
      let (n, sum, stops) = only_bad IsByte (IsFrame m) (FrameWhy m) (frame_at m) (right_frame m) rest k Length bytes fault (one_why m) in
      let long : length s ≡ length (frames bs) + length rest = ap length is ∙ length-append (frames bs) rest in
      let there : length s - n ≡ at = omega (arith, sum, long, place) in
      ap (λ x. option_map (λ i. cause.BadFrame (stream_place i)) (fault_place (length s) (frame_at m x))) (behind_is s bs rest is same)
      ∙ (ap (λ o. option_map (λ i. cause.BadFrame (stream_place i)) (fault_place (length s) o)) stops
      ∙ ap (λ x. Some (cause.BadFrame (stream_place x))) there)

  -- ---- a whole stream

  module _ (calls : List Call) (bs : List (List ℕ)) (log : List Message) (is : AreOpened m bs log) (all : IsTaken m calls [] log) where
    pub no_cause : (s held : List ℕ) → Each IsByte s → AreBodies m s bs held → cause_of m calls s ≡ None
    no_cause s held vs are =
        let (none, same) = no_frame_cause s bs held vs are in
        ap (λ x. cause_in x m calls (bodies m s)) none ∙ (ap (cause_in None m calls) same ∙ none_behind m calls None bs log is all)

    pub frame_fault : (s rest : List ℕ) (k at : ℕ) → Each IsByte s → AreWithin m bs → s ≡ frames bs ++ rest → IsFaultAt (IsFrame m) (FrameWhy m) rest k Length
        → at ≡ length (frames bs) + k → cause_of m calls s ≡ Some (cause.BadFrame (stream_place at))
    frame_fault s rest k at vs short cut fault place =
        let bytes : Each IsByte rest = each-rest IsByte (frames bs) rest (subst (Each IsByte) cut vs) in
        let same : bodies m s ≡ bs = bodies_are m few s bs vs (record { rest = rest; whole = cut; short = short; over = none_before rest k bytes fault }) in
        ap (λ x. cause_in x m calls (bodies m s)) (frame_cause_at s bs rest k at vs same cut fault place)
        ∙ (ap (cause_in (Some (cause.BadFrame (stream_place at))) m calls) same ∙ none_behind m calls (Some (cause.BadFrame (stream_place at))) bs log is all)

  -- of a stream of whole frames
  pub whole_cause : (calls : List Call) (bs : List (List ℕ)) (s : List ℕ) → Each IsByte s → AreBodies m s bs [] → cause_of m calls s ≡ cause_in None m calls bs
  whole_cause calls bs s vs are =
      let (none, same) = no_frame_cause s bs [] vs are in
      ap (λ x. cause_in x m calls (bodies m s)) none ∙ ap (cause_in None m calls) same
