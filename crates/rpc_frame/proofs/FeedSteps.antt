-- What a feed makes of what a reader holds, by what its calls said.
use Rattle.std.proofs.Common.{◌≡◌, refl, sym, ap, ◌∙◌, subst, ℕ, zero, suc, ◌+◌, ◌-◌, ◌^◌, ◌<◌, ◌≤◌, min, Bool, true, false, List, [], ◌∷◌, ◌++◌, length, take, drop, Option, Some, None, Result, Ok, Err, nat_eq, if◌then◌else◌, ◌⊎◌, inl, inr, arith}
use Rattle.std.proofs.lemmas.List.{append-nil, length-drop}
use Rattle.readers.specs.Reader.{Each, IsByte, Stands, IsProperFront}
use Rattle.readers.proofs.Leaves.{pick_true}
use Rattle.bp_num.specs.Reads.{low_first}
use Rattle.bp_num.proofs.Payloads.{take_whole}
use Rattle.rpc_frame.specs.Feeding.{PassesBehind, FedGives, IsFrameFed, WouldTake}
use Rattle.rpc_frame.specs.Frames.{IsFrame, FrameWhy}
use Rattle.rpc_frame.specs.Heads.{head_bytes, IsHead, IsRead}
use Rattle.rpc_frame.specs.States.{FrameState, IsPartOfFrame, stream_place, moved, failed_after}
use Rattle.rpc_frame.specs.declared.error.FrameError.{FrameError}
use Rattle.rpc_frame.specs.declared.error.FrameError.TheVariants as error
use Rattle.rpc_frame.specs.declared.head.Head.{Head}
use Rattle.rpc_frame.specs.declared.reader.Fed.{Fed}
use Rattle.rpc_frame.proofs.FrameReads.{passes_behind, frame_stands, frame_goes_on}

-- a slice up to the end
pub rest_is : (n : ℕ) (s : List ℕ) → take (length s - n) (drop n s) ≡ drop n s
rest_is n s = take_whole (length s - n) (drop n s) (omega (arith, length-drop n s))

-- whether a frame is whole
pub whole_is : (seen low size : ℕ) (whole : Bool) → whole ≡ (if nat_eq seen 8 then nat_eq low size else false) → whole ≡ true → (seen ≡ 8) × (low ≡ size)
whole_is seen low size whole is set = by (nat_eq seen 8) refl (sym is ∙ set)
  where
    by : (b : Bool) → nat_eq seen 8 ≡ b → (if b then nat_eq low size else false) ≡ true → (seen ≡ 8) × (low ≡ size)
    by true e same = (eq_of e, eq_of same)
      where
        eq_of : {m n : ℕ} → nat_eq m n ≡ true → m ≡ n
        eq_of e = grind arith
    by false e same = absurd cc

pub part_is : (seen low size : ℕ) (whole : Bool) → whole ≡ (if nat_eq seen 8 then nat_eq low size else false) → whole ≡ false → seen ≡ 8 → low ≡ size → ⊥
part_is seen low size whole is not late full = by (sym not ∙ (is ∙ (ap (λ n. if nat_eq n 8 then nat_eq low size else false) late ∙ ap (λ n. nat_eq n size) full)))
  where
    by : false ≡ nat_eq size size → ⊥
    by e = let same : nat_eq size size ≡ true = grind arith in absurd cc

module _ (max : ℕ) (old : Head) (body piece : List ℕ) (place : ℕ) (failed : Option ℕ) (held : IsPartOfFrame max old body) (next : Each IsByte piece) (going : failed ≡ None) where
  abbrev state : FrameState
  state = record { max = max; held = head_bytes old ++ body; place = place; failed = failed }

  pub stops : (used : ℕ) → (used < length piece) × (old.seen + used < 8) × (low_first (head_bytes old ++ take used piece) ≤ max) × (max < low_first (head_bytes old ++ take (used + 1) piece))
      → (e : FrameError) (after : FrameState) → e ≡ error.TooLong (stream_place (place + used)) → after ≡ failed_after state used → IsFrameFed state piece (Err e) after
  stops used read e after is new =
      subst (λ x. IsFrameFed state piece (Err x) after) (sym is) (going, (used, passes_behind max old body piece held next used read.0 read.1 read.2 read.3, refl, new))

  pub stops_taking : (used : ℕ) → (used < length piece) × (old.seen + used < 8) × (low_first (head_bytes old ++ take used piece) ≤ max) × (max < low_first (head_bytes old ++ take (used + 1) piece))
      → (n : ℕ) → n ≡ used + 1 → WouldTake state piece failed n
  stops_taking used read n is =
      subst (λ f. WouldTake state piece f n) (sym going) (inr (inr (used, passes_behind max old body piece held next used read.0 read.1 read.2 read.3, is)))

  module _ (new : Head) (used : ℕ) (read : IsRead max old piece new used × ((new.seen ≡ 8) ⊎ (used ≡ length piece))) (size missing count : ℕ) (size_is : size ≡ length body)
      (missing_is : missing ≡ (if nat_eq new.seen 8 then new.low - size else 0)) where
    abbrev rest : List ℕ
    rest = take (length piece - used) (drop used piece)

    abbrev CountIs : Type 0
    CountIs = count ≡ min missing (length rest)

    counts : CountIs → count ≡ min (if nat_eq new.seen 8 then new.low - length body else 0) (length rest)
    counts is = is ∙ (ap (λ m. min m (length rest)) missing_is ∙ ap (λ k. min (if nat_eq new.seen 8 then new.low - k else 0) (length rest)) size_is)

    module _ (count_is : count ≡ min missing (length (take (length piece - used) (drop used piece)))) (grown : List ℕ) (grown_is : grown ≡ body ++ take count (take (length piece - used) (drop used piece)))
        (now : ℕ) (now_is : now ≡ length grown) (whole : Bool) (flag : whole ≡ (if nat_eq new.seen 8 then nat_eq new.low now else false)) where
      pub gives_none : whole ≡ false → (after : ℕ) → after ≡ stream_place (place + (used + count))
          → IsFrameFed state piece (Ok (record { used = used + count; frame = None })) (record { max = max; held = head_bytes new ++ grown; place = after; failed = failed }) × IsPartOfFrame max new grown
      gives_none unset after after_is =
          let (front, all, bytes, kept) = frame_goes_on max old body piece held next new used read.0 read.1 rest (rest_is used piece) count (counts count_is) grown grown_is
          (λ late full. part_is new.seen new.low now whole flag unset late (full ∙ sym now_is)) in
          ((going, (front, all, state_is bytes after_is)), kept)
        where
          state_is : head_bytes new ++ grown ≡ (head_bytes old ++ body) ++ piece → after ≡ stream_place (place + (used + count))
              → ◌≡◌ {A = FrameState} (record { max = max; held = head_bytes new ++ grown; place = after; failed = failed }) (moved state ((head_bytes old ++ body) ++ piece) (used + count))
          state_is bytes place = cc

      pub gives_frame : whole ≡ true → (blob held_now : List ℕ) (after : ℕ) → blob ≡ grown → held_now ≡ [] → after ≡ stream_place (place + (used + count))
          → IsFrameFed state piece (Ok (record { used = used + count; frame = Some blob })) (record { max = max; held = held_now; place = after; failed = failed })
      gives_frame set blob held_now after blob_is none after_is =
          let (late, full) = whole_is new.seen new.low now whole flag set in
          let stands : Stands (IsFrame max) ((head_bytes old ++ body) ++ piece) grown (length (head_bytes old ++ body) + (used + count)) =
          frame_stands max old body piece held next new used read.0 read.1 rest (rest_is used piece) count (counts count_is) grown grown_is late (full ∙ now_is) in
          (going, (subst (λ b. Stands (IsFrame max) ((head_bytes old ++ body) ++ piece) b (length (head_bytes old ++ body) + (used + count))) (sym blob_is) stands, state_is none after_is))
        where
          state_is : held_now ≡ [] → after ≡ stream_place (place + (used + count))
              → ◌≡◌ {A = FrameState} (record { max = max; held = held_now; place = after; failed = failed }) (moved state [] (used + count))
          state_is none place = cc

    -- a feed would take so many
    pub would_take_so : count ≡ min missing (length piece - used) → (n : ℕ) → n ≡ used + count → WouldTake state piece failed n
    would_take_so count_is n n_is = subst (λ f. WouldTake state piece f n) (sym going) (by flag refl)
      where
        long : length rest ≡ length piece - used
        long = ap length (rest_is used piece) ∙ length-drop used piece

        here : count ≡ min missing (length rest)
        here = count_is ∙ ap (λ k. min missing k) (sym long)

        grown : List ℕ
        grown = body ++ take count rest

        flag : Bool
        flag = if nat_eq new.seen 8 then nat_eq new.low (length grown) else false

        by : (b : Bool) → flag ≡ b → WouldTake state piece None n
        by true set =
            let (late, full) = whole_is new.seen new.low (length grown) flag refl set in
            let stands : Stands (IsFrame max) ((head_bytes old ++ body) ++ piece) grown (length (head_bytes old ++ body) + (used + count)) =
            frame_stands max old body piece held next new used read.0 read.1 rest (rest_is used piece) count (counts here) grown refl late full in
            inl (grown, subst (λ k. Stands (IsFrame max) ((head_bytes old ++ body) ++ piece) grown (length (head_bytes old ++ body) + k)) (sym n_is) stands)
        by false unset =
            let (front, all, bytes, kept) = frame_goes_on max old body piece held next new used read.0 read.1 rest (rest_is used piece) count (counts here) grown refl
            (λ late full. part_is new.seen new.low (length grown) flag refl unset late full) in
            inr (inl (front, n_is ∙ all))
