-- A feed of a piece takes one number of bytes and no other.
use Rattle.std.proofs.Common.{◌≡◌, sym, ap, ◌∙◌, subst, ℕ, ◌+◌, ◌-◌, ◌<◌, ◌≤◌, ◌^◌, List, ◌∷◌, ◌++◌, length, drop, arith, inl, inr}
use Rattle.std.specs.Prelude.{None}
use Rattle.std.proofs.lemmas.List.{length-append, length-drop}
use Rattle.readers.specs.Reader.{Each, IsByte, Outcome, bad, more, whole}
use Rattle.readers.proofs.Places.{only_bad, only_more, only_whole}
use Rattle.readers.proofs.Readers.{each-join, each-rest}
use Rattle.bp_num.specs.declared.number.Why.{Why}
use Rattle.bp_num.specs.declared.number.Why.TheVariants.{Length}
use Rattle.rpc_frame.specs.Frames.{FrameWhy, IsFrame, frame_at, frames}
use Rattle.rpc_frame.proofs.FrameReads.{right_frame}
use Rattle.rpc_end.specs.Ends.{EndState, WouldTakeOf}
use Rattle.rpc_end.specs.Taking.{IsPartTaken}
use Rattle.rpc_end.proofs.Taken.{limit_few}
use Rattle.rpc_client.specs.Clients.{ClientState}
use Rattle.rpc_client.specs.Kept.{HasGot}
use Rattle.rpc_talk.proofs.StreamCauses.{one_why}

-- how far a reader comes among so many bytes
abbrev reach : Outcome ℕ Why (List ℕ) → ℕ → ℕ
reach (whole body rest) total = total - length rest
reach more total = total
reach (bad n w) total = total - n + 1

module _ (e : EndState) (piece : List ℕ) (few : e.max < 256 ^ 8) (bytes : Each IsByte (e.held ++ piece)) where
  abbrev all : List ℕ
  all = e.held ++ piece

  long : length all ≡ length e.held + length piece
  long = length-append e.held piece

  reaches : (n : ℕ) → WouldTakeOf e piece None n → length e.held + n ≡ reach (frame_at e.max all) (length all)
  reaches n (inl (body, stands)) =
      let at : frame_at e.max all ≡ whole body (drop (length e.held + n) all) =
      only_whole IsByte (IsFrame e.max) (FrameWhy e.max) (frame_at e.max) (right_frame e.max) all body (length e.held + n) stands in
      let left = length-drop (length e.held + n) all in
      let le = stands.0 in
      let sum : length e.held + n ≡ length all - length (drop (length e.held + n) all) = omega (arith, left, le) in
      sum ∙ sym (ap (λ o. reach o (length all)) at)
  reaches n (inr (inl (on, is))) =
      let at : frame_at e.max all ≡ more = only_more IsByte (IsFrame e.max) (FrameWhy e.max) (frame_at e.max) (right_frame e.max) all bytes on in
      let sum : length e.held + n ≡ length all = omega (arith, long, is) in
      sum ∙ sym (ap (λ o. reach o (length all)) at)
  reaches n (inr (inr (k, fault, is))) =
      let (left, count, at) = only_bad IsByte (IsFrame e.max) (FrameWhy e.max) (frame_at e.max) (right_frame e.max) all (length e.held + k) Length bytes fault (one_why e.max) in
      let sum : length e.held + n ≡ length all - left + 1 = omega (arith, count, is) in
      sum ∙ sym (ap (λ o. reach o (length all)) at)

  pub one_count : (n k : ℕ) → WouldTakeOf e piece None n → WouldTakeOf e piece None k → n ≡ k
  one_count n k first second =
      let same = reaches n first ∙ sym (reaches k second) in
      omega (arith, same)

-- they are bytes of the piece
pub count_within : (e : EndState) (piece : List ℕ) (n : ℕ) → WouldTakeOf e piece None n → n ≤ length piece
count_within e piece n (inl (body, stands)) = let long = length-append e.held piece in let le = stands.0 in omega (arith, long, le)
count_within e piece n (inr (inl (on, is))) = omega (arith, is)
count_within e piece n (inr (inr (k, fault, is))) =
    let (p, b, v, cut, at, front, none, why) = fault in
    let long = length-append e.held piece in
    let sum : length (e.held ++ piece) ≡ length p + length (b ∷ v) = ap length cut ∙ length-append p (b ∷ v) in
    omega (arith, long, sum, at, is)

-- a part of a frame or a header has them
pub part_takes : (e : EndState) (piece : List ℕ) (now n : ℕ) (new : EndState) → IsPartTaken e piece now n new → WouldTakeOf e piece None n
part_takes e piece now n new (inl (on, all, is)) = inr (inl (on, all))
part_takes e piece now n new (inr (body, ends, first, opens, is)) = inl (body, ends)

-- of a client that got some bytes
pub same_count : (c : ClientState) (got piece : List ℕ) → c.link.cause ≡ None → HasGot c got → Each IsByte piece → (n k : ℕ) → WouldTakeOf c.link piece None n → WouldTakeOf c.link piece None k → n ≡ k
same_count c got piece open_ has bytes n k first second =
    let going = has.going open_ in
    let held : Each IsByte c.link.held = each-rest IsByte (frames going.bodies) c.link.held (subst (Each IsByte) going.took.bodies_are.whole has.bytes) in
    one_count c.link piece (limit_few c.link.max has.limit) (each-join IsByte c.link.held piece held bytes) n k first second
