-- The function of a stream to its bodies, and how they grow with it.
use Rattle.std.proofs.Common.{◌≡◌, refl, sym, ap, ◌∙◌, subst, ℕ, zero, suc, ◌+◌, ◌-◌, ◌^◌, ◌<◌, ◌≤◌, List, [], ◌∷◌, ◌++◌, length, take, drop, append_assoc, Option, Some, None, Ok, arith}
use Rattle.std.proofs.lemmas.Grind.{flat_map-append}
use Rattle.std.proofs.lemmas.List.{append-nil, length-append, length-take, take-append-drop}
use Rattle.readers.specs.Reader.{Outcome, whole, more, bad, Each, IsByte, Stands, IsProperFront}
use Rattle.readers.proofs.Readers.{each-join, each-front, each-rest, follows-any}
use Rattle.readers.proofs.Places.{told_whole}
use Rattle.bp_num.specs.declared.number.Why.{Why}
use Rattle.bp_num.specs.Forms.{little_endian}
use Rattle.rpc_frame.specs.Frames.{frame, frames, IsFrame, FrameWhy, frame_at}
use Rattle.rpc_frame.specs.States.{FrameState}
use Rattle.rpc_frame.specs.Streams.{AreWithin, AreBodies, HasBodies, HasGiven, given, then_bodies, first_bodies, bodies}
use Rattle.rpc_frame.proofs.FrameReads.{right_frame}
use Rattle.rpc_frame.proofs.HeadSteps.{length-little}
use Rattle.rpc_frame.proofs.Streams.{is_frame, frame_is, front_none}

long_frame : (body : List ℕ) → 8 ≤ length (frame body)
long_frame body = omega (arith, length-append (little_endian 8 (length body)) body, length-little 8 (length body))

-- ---- one frame in front

-- a frame in front is read
frame_read : (max : ℕ) (body u : List ℕ) → max < 256 ^ 8 → length body ≤ max → frame_at max (frame body ++ u) ≡ whole body u
frame_read max body u few le = (right_frame max).complete body (frame body) u (frame_is max body few le) (follows-any u)

no_whole : (body u : List ℕ) → ◌≡◌ {A = Outcome ℕ Why (List ℕ)} more (whole body u) → ⊥
no_whole body u e = cc

bad_no_whole : (n : ℕ) (w : Why) (body u : List ℕ) → ◌≡◌ {A = Outcome ℕ Why (List ℕ)} (bad n w) (whole body u) → ⊥
bad_no_whole n w body u e = cc

-- what stands in front is read
stands_read : (max : ℕ) (s body : List ℕ) (n : ℕ) → Stands (IsFrame max) s body n → frame_at max s ≡ whole body (drop n s)
stands_read max s body n (within, spelled) =
    ap (frame_at max) (sym (take-append-drop n s)) ∙ (right_frame max).complete body (take n s) (drop n s) spelled (follows-any (drop n s))

-- nothing that stands in front is too short for a length
long_enough : (max : ℕ) (s body : List ℕ) (n : ℕ) → Stands (IsFrame max) s body n → 8 ≤ length s
long_enough max s body n (within, spelled) =
    omega (arith, long_frame body, length-take n s, ap length (is_frame max body (take n s) spelled).0)

-- ---- the function

module _ (max : ℕ) (few : max < 256 ^ 8) where
  abbrev pub IsOver : List ℕ → Type 0
  IsOver rest = (body : List ℕ) (n : ℕ) → Stands (IsFrame max) rest body n → ⊥

  nothing_more : (rest : List ℕ) (behind : List ℕ → List (List ℕ)) → Each IsByte rest → IsOver rest → then_bodies (frame_at max rest) behind ≡ []
  nothing_more rest behind vs over = by (frame_at max rest) refl
    where
      by : (o : Outcome ℕ Why (List ℕ)) → frame_at max rest ≡ o → then_bodies o behind ≡ []
      by (whole body u) e = absurd (let told = told_whole IsByte (IsFrame max) (FrameWhy max) (frame_at max) (right_frame max) rest body u vs e in over body told.0 told.1)
      by more e = refl
      by (bad n w) e = refl

  -- the bodies whose frames a stream has are those of the function
  pub same_bodies : (bs : List (List ℕ)) (rest : List ℕ) (k : ℕ) → length (frames bs ++ rest) ≤ k → AreWithin max bs → Each IsByte rest → IsOver rest
      → first_bodies k max (frames bs ++ rest) ≡ bs
  unfolding first_bodies
  same_bodies [] rest zero le short vs over = refl
  same_bodies [] rest (suc k) le short vs over = nothing_more rest (first_bodies k max) vs over
  same_bodies (b ∷ bs) rest zero le short vs over =
      absurd (omega (arith, long_frame b, length-append (frame b ++ frames bs) rest, length-append (frame b) (frames bs)))
  same_bodies (b ∷ bs) rest (suc k) le short vs over =
      let line = append_assoc (frame b) (frames bs) rest in
      let left : length (frames bs ++ rest) ≤ k = omega (arith, long_frame b, ap length line, length-append (frame b) (frames bs ++ rest)) in
      ap (λ s. then_bodies (frame_at max s) (first_bodies k max)) line
      ∙ (ap (λ o. then_bodies o (first_bodies k max)) (frame_read max b (frames bs ++ rest) few short.0)
      ∙ ap (λ later. b ∷ later) (same_bodies bs rest k left short.1 vs over))

  -- the function gives all bodies of a stream
  first_all : (k : ℕ) (s : List ℕ) → length s ≤ k → Each IsByte s → HasBodies max s (first_bodies k max s)
  unfolding first_bodies
  first_all zero s le vs = record { rest = s; whole = refl; short = tt; over = λ body n stands. omega (arith, long_enough max s body n stands) }
  first_all (suc k) s le vs = by (first_all k) (frame_at max s) refl
    where
      by : ((u : List ℕ) → length u ≤ k → Each IsByte u → HasBodies max u (first_bodies k max u))
          → (o : Outcome ℕ Why (List ℕ)) → frame_at max s ≡ o → HasBodies max s (then_bodies o (first_bodies k max))
      by behind more e = record { rest = s; whole = refl; short = tt; over = λ body n stands. no_whole body (drop n s) (sym e ∙ stands_read max s body n stands) }
      by behind (bad n w) e = record { rest = s; whole = refl; short = tt; over = λ body i stands. bad_no_whole n w body (drop i s) (sym e ∙ stands_read max s body i stands) }
      by behind (whole body u) e =
          let (t, cut, spelled, follows) = (right_frame max).sound s body u vs e in
          let (text, short) = is_frame max body t spelled in
          let left : length u ≤ k = omega (arith, long_frame body, ap length cut, length-append t u, ap length text) in
          let later = behind u left (each-rest IsByte t u (subst (λ x. Each IsByte x) cut vs)) in
          record {
            rest = later.rest;
            whole = cut ∙ (ap (λ f. f ++ u) text ∙ (ap (λ x. frame body ++ x) later.whole ∙ sym (append_assoc (frame body) (frames (first_bodies k max u)) later.rest)));
            short = (short, later.short);
            over = later.over;
          }

  pub all_bodies : (s : List ℕ) → Each IsByte s → HasBodies max s (bodies max s)
  all_bodies s vs = first_all (length s) s (omega arith) vs

  pub bodies_are : (s : List ℕ) (bs : List (List ℕ)) → Each IsByte s → HasBodies max s bs → bodies max s ≡ bs
  bodies_are s bs vs has =
      ap (λ x. bodies max x) has.whole
      ∙ same_bodies bs has.rest (length (frames bs ++ has.rest)) (omega arith) has.short (each-rest IsByte (frames bs) has.rest (subst (λ x. Each IsByte x) has.whole vs)) has.over

  -- a stream of frames, up to one that has begun
  pub begun_bodies : (s : List ℕ) (bs : List (List ℕ)) (held : List ℕ) → AreBodies max s bs held → HasBodies max s bs
  begun_bodies s bs held are = record {
    rest = held;
    whole = are.whole;
    short = are.short;
    over = λ body n stands.
        let (text, short) = is_frame max body (take n held) stands.1 in
        front_none max held body (drop n held) are.front (frame_is max body few short) (sym (take-append-drop n held) ∙ ap (λ t. t ++ drop n held) text);
  }

  -- ---- growth

  -- a longer stream has the bodies of a shorter one first
  pub bodies_grow : (s x : List ℕ) → Each IsByte (s ++ x) → (later : List (List ℕ)) × (bodies max (s ++ x) ≡ bodies max s ++ later)
  bodies_grow s x vs =
      let has = all_bodies s (each-front IsByte s x vs) in
      let line : s ++ x ≡ frames (bodies max s) ++ (has.rest ++ x) = ap (λ t. t ++ x) has.whole ∙ append_assoc (frames (bodies max s)) has.rest x in
      let more = all_bodies (has.rest ++ x) (each-rest IsByte (frames (bodies max s)) (has.rest ++ x) (subst (λ t. Each IsByte t) line vs)) in
      let later = bodies max (has.rest ++ x) in (
        later,
        bodies_are (s ++ x) (bodies max s ++ later) vs (record {
          rest = more.rest;
          whole = line ∙ (ap (λ t. frames (bodies max s) ++ t) more.whole ∙ (sym (append_assoc (frames (bodies max s)) (frames later) more.rest)
              ∙ ap (λ f. f ++ more.rest) (sym (flat_map-append frame (bodies max s) later))));
          short = each-join (λ b. length b ≤ max) (bodies max s) later has.short more.short;
          over = more.over;
        }),
      )

  -- what a reader took and gave is what the function says; so a feed adds a body at most
  pub given_bodies : (s : List ℕ) (bs : List (List ℕ)) (r : FrameState) → Each IsByte s → HasGiven max s bs r → bodies max s ≡ bs
  given_bodies s bs r vs gave = bodies_are s bs vs (begun_bodies s bs r.held gave.bodies_are)
