-- The first bytes of what an end wrote: the frames that are whole among them, and the front of the next one.
use Rattle.std.proofs.Common.{◌≡◌, refl, sym, ap, ◌∙◌, subst, ℕ, zero, suc, ◌+◌, ◌-◌, ◌^◌, ◌≤◌, ◌<◌, Bool, true, false, if◌then◌else◌, List, [], ◌∷◌, ◌++◌, map, length, take, drop, append_assoc, nat_le, arith, ◌⊎◌, inl, inr}
use Rattle.std.proofs.lemmas.List.{length-append, length-drop, take-append-drop, take-append-le}
use Rattle.readers.specs.Reader.{IsProperFront}
use Rattle.rpc_frame.specs.Frames.{frame, frames, IsFrame}
use Rattle.rpc_frame.specs.Streams.{AreBodies, AreWithin}
use Rattle.rpc_frame.proofs.HeadSteps.{take_front}
use Rattle.rpc_frame.proofs.Streams.{frame_is, front_start}
use Rattle.rpc_msg.specs.declared.message.Message.{Message}
use Rattle.rpc_talk.specs.Acts.{body_of, own_header}
use Rattle.rpc_meeting.specs.Worlds.{came_bodies, has_header, header_size, size, stream_of, whole}
use Rattle.rpc_meeting.proofs.Whole.{tells_le}

-- the bodies whose frames are whole among the first n bytes of their frames
abbrev pub first_bodies : List (List ℕ) → ℕ → List (List ℕ)
first_bodies [] n = []
first_bodies (b ∷ bs) n = if nat_le (length (frame b)) n then b ∷ first_bodies bs (n - length (frame b)) else []

-- those of a log are those of its whole messages
first_whole : (log : List Message) (n : ℕ) → first_bodies (map body_of log) n ≡ map body_of (whole log n)
first_whole [] n = refl
first_whole (a ∷ log) n = by (nat_le (size a) n) (first_whole log (n - size a))
  where
    by : (b : Bool) → first_bodies (map body_of log) (n - size a) ≡ map body_of (whole log (n - size a))
        → (if b then body_of a ∷ first_bodies (map body_of log) (n - size a) else []) ≡ map body_of (if b then a ∷ whole log (n - size a) else [])
    by true later = ap (λ xs. body_of a ∷ xs) later
    by false later = refl

take_none : (n : ℕ) → take {A = ℕ} n [] ≡ []
take_none zero = refl
take_none (suc n) = refl

module _ (m : ℕ) (few : m < 256 ^ 8) where
  -- some bytes of a frame, but not all
  part_front : (b : List ℕ) (n : ℕ) → length b ≤ m → n < length (frame b) → IsProperFront (IsFrame m) (take n (frame b))
  part_front b n short lt = by (drop n (frame b)) (take-append-drop n (frame b)) (length-drop n (frame b))
    where
      by : (rest : List ℕ) → take n (frame b) ++ rest ≡ frame b → length rest ≡ length (frame b) - n → IsProperFront (IsFrame m) (take n (frame b))
      by [] cut count = absurd (omega (arith, count, lt))
      by (x ∷ rest) cut count = (b, x, rest, subst (λ s. IsFrame m b s) (sym cut) (frame_is m b few short))

  frames_cut : (bs : List (List ℕ)) (n : ℕ) → AreWithin m bs → n ≤ length (frames bs) → (held : List ℕ) × AreBodies m (take n (frames bs)) (first_bodies bs n) held
  frames_cut [] n short le = ([], record { whole = take_none n; short = tt; front = front_start m })
  frames_cut (b ∷ bs) n (short, rest) le = by (tells_le (length (frame b)) n) (frames_cut bs (n - length (frame b)) rest)
    where
      by : ((nat_le (length (frame b)) n ≡ true) × (length (frame b) ≤ n)) ⊎ ((nat_le (length (frame b)) n ≡ false) × (n < length (frame b)))
          → (n - length (frame b) ≤ length (frames bs) → (held : List ℕ) × AreBodies m (take (n - length (frame b)) (frames bs)) (first_bodies bs (n - length (frame b))) held)
          → (held : List ℕ) × AreBodies m (take n (frames (b ∷ bs))) (if nat_le (length (frame b)) n then b ∷ first_bodies bs (n - length (frame b)) else []) held
      by (inl (e, fits)) later =
          let (held, are) = later (omega (arith, le, fits, length-append (frame b) (frames bs))) in
          let count : length (frame b) + (n - length (frame b)) ≡ n = omega (arith, fits) in
          let cut : take n (frame b ++ frames bs) ≡ frame b ++ take (n - length (frame b)) (frames bs)
          = ap (λ k. take k (frame b ++ frames bs)) (sym count) ∙ take_front (length (frame b)) (n - length (frame b)) (frame b) (frames bs) refl in (
            held,
            subst (λ c. AreBodies m (take n (frames (b ∷ bs))) (if c then b ∷ first_bodies bs (n - length (frame b)) else []) held) (sym e) (record {
              whole = cut ∙ (ap (λ s. frame b ++ s) are.whole ∙ sym (append_assoc (frame b) (frames (first_bodies bs (n - length (frame b)))) held));
              short = (short, are.short);
              front = are.front;
            }),
          )
      by (inr (e, lt)) later =
          let cut : take n (frame b ++ frames bs) ≡ take n (frame b) = take-append-le n (frame b) (frames bs) (omega (arith, lt)) in (
            take n (frame b),
            subst (λ c. AreBodies m (take n (frames (b ∷ bs))) (if c then b ∷ first_bodies bs (n - length (frame b)) else []) (take n (frame b))) (sym e) (record {
              whole = cut;
              short = tt;
              front = part_front b n short lt;
            }),
          )

  -- of what an end wrote
  pub cut_at : (log : List Message) (n : ℕ) → 2 ≤ m → AreWithin m (map body_of log) → n ≤ length (stream_of log)
      → (held : List ℕ) × AreBodies m (take n (stream_of log)) (came_bodies log n) held
  cut_at log n two short le =
      let (held, are) = frames_cut (own_header ∷ map body_of log) n (two, short) le in
      (held, subst (λ bs. AreBodies m (take n (stream_of log)) bs held) (by (has_header n)) are)
    where
      by : (b : Bool) → (if b then own_header ∷ first_bodies (map body_of log) (n - header_size) else []) ≡ (if b then own_header ∷ map body_of (whole log (n - header_size)) else [])
      by true = ap (λ xs. own_header ∷ xs) (first_whole log (n - header_size))
      by false = refl
