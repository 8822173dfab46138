-- The reading of frames is right, and what it reads where length bytes and body bytes were taken.
use Rattle.std.proofs.Common.{◌≡◌, refl, sym, ap, ◌∙◌, subst, ℕ, zero, suc, ◌+◌, ◌-◌, ◌^◌, ◌<◌, ◌≤◌, min, List, [], ◌∷◌, ◌++◌, length, take, drop, append_assoc, ◌⊎◌, inl, inr, nat_eq, if◌then◌else◌, true, false, lit<, arith}
use Rattle.std.proofs.lemmas.List.{append-nil, length-append, length-take, length-drop, take-append-drop}
use Rattle.std.proofs.Math.Nat.{eq-or-lt_of_le}
use Rattle.std.proofs.Math.Seq.{take-append_seam, drop-append_seam}
use Rattle.readers.specs.Reader.{Outcome, whole, more, bad, after, symbols, Symbols, Each, IsByte, Any, Right, NoWhy, Stands, IsProperFront, IsFaultAt}
use Rattle.readers.proofs.Readers.{each-any, each-join, follows-any, right_then}
use Rattle.readers.proofs.Narrow.{right_narrow}
use Rattle.readers.proofs.Runs.{right_symbols}
use Rattle.readers.proofs.Places.{stands_by, told_more, told_bad}
use Rattle.bp_num.specs.Forms.{little_endian, Payload}
use Rattle.bp_num.specs.NumberAt.{payload_at}
use Rattle.bp_num.specs.Reads.{low_first, Passes}
use Rattle.bp_num.specs.declared.number.Why.{Why}
use Rattle.bp_num.specs.declared.number.Why.TheVariants.{Length}
use Rattle.bp_num.proofs.Bytes.{number_of_bytes, are_bytes}
use Rattle.bp_num.proofs.NatRight.{right_payload}
use Rattle.bp_num.proofs.Payloads.{payload_more, payload_bad, take_whole}
use Rattle.rpc_frame.specs.Frames.{IsFrame, FrameWhy, frame_at}
use Rattle.rpc_frame.specs.Heads.{head_bytes, IsHead, IsRead}
use Rattle.rpc_frame.specs.States.{IsPartOfFrame}
use Rattle.rpc_frame.specs.declared.head.Head.{Head}
use Rattle.rpc_frame.proofs.HeadSteps.{length-little, take_front}

pub right_frame : (max : ℕ) → Right IsByte Any (IsFrame max) (FrameWhy max) (frame_at max)
right_frame max =
    right_then IsByte Any Any (Payload 8 max) (Passes 8 max) (payload_at 8 max) (Symbols Any) (λ n. NoWhy) symbols (right_payload 8 max)
    (λ n t l. right_narrow (λ b v. tt) (right_symbols Any 0 tt n)) (λ n t l. (little_endian n 0, little_endian n 0, (refl, length-little n 0, each-any (little_endian n 0)))) (λ n b u v m f. follows-any (u ++ v))

-- ---- lists

lt_or_le : (a b : ℕ) → (a < b) ⊎ (b ≤ a)
lt_or_le zero zero = inr (omega arith)
lt_or_le zero (suc b) = inl (omega arith)
lt_or_le (suc a) zero = inr (omega arith)
lt_or_le (suc a) (suc b) = elim (lt_or_le a b) [ inl lt ↦ inl (omega arith) | inr le ↦ inr (omega arith) ]

nil_of : (s : List ℕ) → length s ≡ 0 → s ≡ []
nil_of [] e = refl
nil_of (b ∷ s) e = absurd (omega arith)

take_none : (n : ℕ) → take {A = ℕ} n [] ≡ []
take_none zero = refl
take_none (suc n) = refl

-- ---- behind bytes that are held, a piece

module _ (max : ℕ) (old : Head) (body piece : List ℕ) (held : IsPartOfFrame max old body) (next : Each IsByte piece) where
  abbrev all : List ℕ
  all = (head_bytes old ++ body) ++ piece

  held_long : length (head_bytes old ++ body) ≡ old.seen + length body
  held_long = length-append (head_bytes old) body ∙ ap (λ k. k + length body) (length-little old.seen old.low)

  -- no body has begun before the length is whole
  no_body : old.seen < 8 → all ≡ head_bytes old ++ piece
  no_body lt = ap (λ b. (head_bytes old ++ b) ++ piece) (held.early lt) ∙ ap (λ h. h ++ piece) (append-nil (head_bytes old))

  -- a length byte makes the length too long
  pub passes_behind : (used : ℕ) → used < length piece → old.seen + used < 8 → low_first (head_bytes old ++ take used piece) ≤ max
      → max < low_first (head_bytes old ++ take (used + 1) piece) → IsFaultAt (IsFrame max) (FrameWhy max) all (length (head_bytes old ++ body) + used) Length
  passes_behind used lt few fits past =
      let here : all ≡ head_bytes old ++ piece = no_body (omega arith) in
      let none : length body ≡ 0 = ap length (held.early (omega arith)) in
      let lens : length all ≡ old.seen + length piece = ap length here ∙ (length-append (head_bytes old) piece ∙ ap (λ k. k + length piece) (length-little old.seen old.low)) in
      let are : Each IsByte all = subst (λ s. Each IsByte s) (sym here) (each-join IsByte (head_bytes old) piece (are_bytes old.seen old.low) next) in
      let (k, sum, fault) = told_bad IsByte (IsFrame max) (FrameWhy max) (frame_at max) (right_frame max) all (length all - (old.seen + used)) Length are (reads here) in
      let place : k ≡ length (head_bytes old ++ body) + used = omega (arith, held_long) in
      subst (λ j. IsFaultAt (IsFrame max) (FrameWhy max) all j Length) place fault
    where
      front_of : (n : ℕ) → take (old.seen + n) (head_bytes old ++ piece) ≡ head_bytes old ++ take n piece
      front_of n = take_front old.seen n (head_bytes old) piece (length-little old.seen old.low)

      reads : all ≡ head_bytes old ++ piece → frame_at max all ≡ bad (length all - (old.seen + used)) Length
      reads here =
          let lens : length all ≡ old.seen + length piece = ap length here ∙ (length-append (head_bytes old) piece ∙ ap (λ k. k + length piece) (length-little old.seen old.low)) in
          let one : take (old.seen + used) all ≡ head_bytes old ++ take used piece = ap (λ s. take (old.seen + used) s) here ∙ front_of used in
          let count : suc (old.seen + used) ≡ old.seen + (used + 1) = omega arith in
          let two : take (suc (old.seen + used)) all ≡ head_bytes old ++ take (used + 1) piece =
          ap (λ s. take (suc (old.seen + used)) s) here ∙ (ap (λ n. take n (head_bytes old ++ piece)) count ∙ front_of (used + 1)) in
          ap (λ o. after o symbols) (payload_bad 8 max (old.seen + used) all few (omega arith)
          (subst (λ t. low_first t ≤ max) (sym one) fits) (subst (λ t. max < low_first t) (sym two) past))

  -- length bytes were taken, and then body bytes, as many as are there and wanted
  module _ (new : Head) (used : ℕ) (read : IsRead max old piece new used) (ended : (new.seen ≡ 8) ⊎ (used ≡ length piece)) (rest : List ℕ) (rest_is : rest ≡ drop used piece)
      (count : ℕ) (count_is : count ≡ min (if nat_eq new.seen 8 then new.low - length body else 0) (length rest)) (grown : List ℕ) (grown_is : grown ≡ body ++ take count rest) where
    rest_long : length rest ≡ length piece - used
    rest_long = ap length rest_is ∙ length-drop used piece

    behind : all ≡ head_bytes new ++ (body ++ rest)
    behind = elim (eq-or-lt_of_le held.known.few) [ inl is ↦ late is | inr lt ↦ early lt ]
      where
        early : old.seen < 8 → all ≡ head_bytes new ++ (body ++ rest)
        early lt =
            no_body lt ∙ (ap (λ p. head_bytes old ++ p) (sym (take-append-drop used piece))
            ∙ (sym (append_assoc (head_bytes old) (take used piece) (drop used piece))
            ∙ (ap (λ h. h ++ drop used piece) (sym read.bytes)
            ∙ (ap (λ r. head_bytes new ++ r) (sym rest_is) ∙ ap (λ b. head_bytes new ++ (b ++ rest)) (sym (held.early lt))))))

        late : old.seen ≡ 8 → all ≡ head_bytes new ++ (body ++ rest)
        late is =
            let none : used ≡ 0 = omega (arith, read.count, read.head.few) in
            let same : head_bytes new ≡ head_bytes old = read.bytes ∙ (ap (λ n. head_bytes old ++ take n piece) none ∙ append-nil (head_bytes old)) in
            let whole_piece : rest ≡ piece = rest_is ∙ ap (λ n. drop n piece) none in
            append_assoc (head_bytes old) body piece
            ∙ (ap (λ h. h ++ (body ++ piece)) (sym same) ∙ ap (λ r. head_bytes new ++ (body ++ r)) (sym whole_piece))

    -- the body is not whole: zeros may follow
    unfinished : new.seen ≡ 8 → length body + length rest < new.low → IsProperFront (IsFrame max) all
    unfinished is less =
        let size : length (body ++ rest) ≡ length body + length rest = length-append body rest in
        let long : length ((body ++ rest) ++ 0 ∷ zeros) ≡ new.low =
        length-append (body ++ rest) (0 ∷ zeros) ∙ omega (arith, size, length-little (new.low - length (body ++ rest) - 1) 0) in (
          (body ++ rest) ++ 0 ∷ zeros,
          0,
          zeros,
          (
            new.low,
            head_bytes new,
            (body ++ rest) ++ 0 ∷ zeros,
            ap (λ s. s ++ 0 ∷ zeros) behind ∙ append_assoc (head_bytes new) (body ++ rest) (0 ∷ zeros),
            (read.head.fits, subst (λ k. new.low < 256 ^ k) is read.head.small, ap (λ k. little_endian k new.low) is),
            (refl, long, each-any ((body ++ rest) ++ 0 ∷ zeros)),
          ),
        )
      where
        zeros : List ℕ
        zeros = little_endian (new.low - length (body ++ rest) - 1) 0

    body_within : new.seen ≡ 8 → length body ≤ new.low
    body_within is = elim (eq-or-lt_of_le held.known.few) [ inl late ↦ same_low late | inr lt ↦ (let none : length body ≡ 0 = ap length (held.early lt) in omega arith) ]
      where
        same_low : old.seen ≡ 8 → length body ≤ new.low
        same_low late =
            let none : used ≡ 0 = omega (arith, read.count, read.head.few) in
            let bytes : head_bytes new ≡ head_bytes old = read.bytes ∙ (ap (λ n. head_bytes old ++ take n piece) none ∙ append-nil (head_bytes old)) in
            let lows : new.low ≡ old.low = sym (number_of_bytes new.seen new.low read.head.small) ∙ (ap low_first bytes ∙ number_of_bytes old.seen old.low held.known.small) in
            let less : length body < old.low = held.late late in
            omega arith

    count_late : new.seen ≡ 8 → count ≡ min (new.low - length body) (length rest)
    count_late is = count_is ∙ ap (λ n. min (if nat_eq n 8 then new.low - length body else 0) (length rest)) is

    grown_long : length grown ≡ length body + min count (length rest)
    grown_long = ap length grown_is ∙ (length-append body (take count rest) ∙ ap (λ n. length body + n) (length-take count rest))

    all_long : length all ≡ new.seen + (length body + length rest)
    all_long = ap length behind ∙ (length-append (head_bytes new) (body ++ rest) ∙ (ap (λ k. k + length (body ++ rest)) (length-little new.seen new.low) ∙ ap (λ k. new.seen + k) (length-append body rest)))

    -- a frame ends in the piece
    pub frame_stands : new.seen ≡ 8 → new.low ≡ length grown → Stands (IsFrame max) all grown (length (head_bytes old ++ body) + (used + count))
    frame_stands is full =
        let cut : all ≡ (head_bytes new ++ grown) ++ drop count rest =
        behind ∙ (ap (λ r. head_bytes new ++ (body ++ r)) (sym (take-append-drop count rest))
        ∙ (ap (λ r. head_bytes new ++ r) (sym (append_assoc body (take count rest) (drop count rest)))
        ∙ (sym (append_assoc (head_bytes new) (body ++ take count rest) (drop count rest)) ∙ ap (λ g. (head_bytes new ++ g) ++ drop count rest) (sym grown_is)))) in
        let long : length (head_bytes new ++ grown) ≡ new.seen + length grown = length-append (head_bytes new) grown ∙ ap (λ k. k + length grown) (length-little new.seen new.low) in
        let place : length (head_bytes new ++ grown) ≡ length (head_bytes old ++ body) + (used + count) =
        omega (arith, held_long, read.count, grown_long, count_late is, body_within is) in
        subst (λ k. Stands (IsFrame max) all grown k) place (stands_by (IsFrame max) grown all (head_bytes new ++ grown) (drop count rest) cut spelled)
      where
        spelled : IsFrame max grown (head_bytes new ++ grown)
        spelled = (new.low, head_bytes new, grown, refl, (read.head.fits, subst (λ k. new.low < 256 ^ k) is read.head.small, ap (λ k. little_endian k new.low) is), (refl, sym full, each-any grown))

    -- the piece is taken, and a frame goes on
    pub frame_goes_on : (new.seen ≡ 8 → new.low ≡ length grown → ⊥) → IsProperFront (IsFrame max) all × (used + count ≡ length piece) × (head_bytes new ++ grown ≡ all) × IsPartOfFrame max new grown
    frame_goes_on open_ = elim (eq-or-lt_of_le read.head.few) [ inl is ↦ late is | inr lt ↦ early lt ]
      where
        short : new.seen ≡ 8 → length body + length rest < new.low
        short is = elim (lt_or_le (length body + length rest) new.low) [ inl lt ↦ lt | inr le ↦ absurd (open_ is (omega (arith, grown_long, count_late is, body_within is))) ]

        early : new.seen < 8 → IsProperFront (IsFrame max) all × (used + count ≡ length piece) × (head_bytes new ++ grown ≡ all) × IsPartOfFrame max new grown
        early lt =
            let full : used ≡ length piece = elim ended [ inl is ↦ absurd (omega arith) | inr is ↦ is ] in
            let none : body ≡ [] = held.early (omega (arith, read.count)) in
            let empty : length rest ≡ 0 = omega (arith, rest_long) in
            let nothing : rest ≡ [] = nil_of rest empty in
            let grown_none : grown ≡ [] = grown_is ∙ (ap (λ b. b ++ take count rest) none ∙ (ap (λ r. take count r) nothing ∙ take_none count)) in
            let here : all ≡ head_bytes new = behind ∙ (ap (λ b. head_bytes new ++ (b ++ rest)) none ∙ (ap (λ r. head_bytes new ++ r) nothing ∙ append-nil (head_bytes new))) in
            let few : length all < 8 = omega (arith, ap length here, length-little new.seen new.low) in
            let low : low_first all ≤ max = subst (λ n. n ≤ max) (sym (ap low_first here ∙ number_of_bytes new.seen new.low read.head.small)) read.head.fits in
            let reads : frame_at max all ≡ more = ap (λ o. after o symbols) (payload_more 8 max all few low) in (
              told_more IsByte (IsFrame max) (FrameWhy max) (frame_at max) (right_frame max) all (subst (λ s. Each IsByte s) (sym here) (are_bytes new.seen new.low)) reads,
              omega (arith, count_is, empty),
              (ap (λ g. head_bytes new ++ g) grown_none ∙ (append-nil (head_bytes new) ∙ sym here)),
              record { known = read.head; early = λ lt. grown_none; late = λ is. absurd (omega arith) },
            )

        late : new.seen ≡ 8 → IsProperFront (IsFrame max) all × (used + count ≡ length piece) × (head_bytes new ++ grown ≡ all) × IsPartOfFrame max new grown
        late is =
            let less : length body + length rest < new.low = short is in
            let whole_rest : grown ≡ body ++ rest = grown_is ∙ ap (λ r. body ++ r) (take_whole count rest (omega (arith, count_late is))) in
            let size : length grown ≡ length body + length rest = ap length whole_rest ∙ length-append body rest in (
              unfinished is less,
              omega (arith, rest_long, read.within, count_late is),
              (ap (λ g. head_bytes new ++ g) whole_rest ∙ sym behind),
              record { known = read.head; early = λ lt. absurd (omega arith); late = λ e. omega arith },
            )
