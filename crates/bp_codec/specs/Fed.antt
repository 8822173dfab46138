-- What a reader answers for the pieces that were fed to it.
use Rattle.std.specs.Prelude.{◌≡◌, ℕ, ◌+◌, ◌-◌, ◌^◌, min, List, ◌++◌, length, Result, Ok, Err, IfOk, IsErr, OnErr, ◌↔◌}
use Rattle.readers.specs.Reader.{more, Each, IsByte, Stands, IsProperFront, IsFaultAt}
use Rattle.bp_value.specs.Form.{Form}
use Rattle.bp_value.specs.Faults.{IsGood}
use Rattle.bp_value.specs.declared.OutOfMemory.{OutOfMemory}
use Rattle.bp_grammar.specs.Spells.{Spells}
use Rattle.bp_grammar.specs.Reasons.{FaultWhy}
use Rattle.bp_grammar.specs.Reading.{read}
use Rattle.bp_codec.specs.Plan.{Reading, AreRead}
use Rattle.bp_codec.specs.Opened.{opened}
use Rattle.bp_codec.specs.declared.decoding.Decoded.{Decoded}
use Rattle.bp_codec.specs.declared.decoding.Decoded.TheVariants as decoded
use Rattle.bp_codec.specs.declared.reader.Progress.{Progress}
use Rattle.bp_codec.specs.declared.reader.Progress.TheVariants as progress
use Rattle.bp_codec.specs.declared.reader.Reader.{Reader}

-- a place in a stream, which stays at the last value of a usize
abbrev pub place : ℕ → ℕ
place n = min n (2 ^ 64 - 1)

-- A piece came behind the bytes s: what stands in front of all, the bytes of a value counted in the piece.
abbrev pub IsFed : ℕ → Form → List ℕ → List ℕ → Decoded → Type 0
IsFed m f s piece (decoded.Whole v used) = Stands (Spells m f) (s ++ piece) v (length s + used)
IsFed m f s piece decoded.More = IsProperFront (Spells m f) (s ++ piece)
IsFed m f s piece (decoded.Bad at why) = (k : ℕ) × IsFaultAt (Spells m f) (FaultWhy m f) (s ++ piece) k why × (at ≡ place k)

-- an answer was the last
abbrev pub HasAnswered : Reader → Type 0
HasAnswered r = r.progress ≡ progress.Done

-- memory ran out
abbrev pub IsLost : Reader → Type 0
IsLost r = r.progress ≡ progress.Lost

-- an answer after which nothing is read
abbrev pub IsLast : Result Decoded OutOfMemory → Type 0
IsLast (Ok (decoded.Whole v used)) = Unit {0}
IsLast (Ok decoded.More) = ⊥
IsLast (Ok (decoded.Bad at why)) = Unit {0}
IsLast (Err e) = ⊥

-- memory has not run out, and what is open goes on where r left off, behind the bytes s of which some are held
abbrev pub ReadsOn : ℕ → Reading → List ℕ → List ℕ → Progress → Type 0
ReadsOn m r s held (progress.Reading machine) =
    (reading : ℕ → Reading) × AreRead m machine.plan.nodes.items machine.plan.tags.items reading × ((x : List ℕ) → r (s ++ x) ≡ opened m reading machine.levels (held ++ x))
ReadsOn m r s held progress.Done = ⊥
ReadsOn m r s held progress.Lost = ⊥

-- The bytes s were fed to a reader of a form, with lengths of at most m, and it wants more: it has not answered, and memory has not run out.
pub record HasFed (m : ℕ) (f : Form) (s : List ℕ) (r : Reader) : Type 0 where
  pub good : IsGood f
  pub limit : r.max_len ≡ m
  pub bytes : Each IsByte s
  pub begins : read m f s ≡ more
  pub count : r.fed ≡ place (length s)
  pub goes_on : ReadsOn m (read m f) s r.held.items r.progress

-- The answer for a piece behind the bytes s, and no other answer; where it is not the last, the reader goes on.
pub record Feeds (m : ℕ) (f : Form) (s piece : List ℕ) (result : Result Decoded OutOfMemory) (new : Reader) : Type 0 where
  pub told : IfOk result (IsFed m f s piece)
  pub only : (d : Decoded) → IsFed m f s piece d → IfOk result (λ answer. d ≡ answer)
  pub goes_on : result ≡ Ok decoded.More → HasFed m f (s ++ piece) new

-- after the last answer none is given, and none but want of memory once memory ran out
pub record Turns (old : Reader) (result : Result Decoded OutOfMemory) (new : Reader) : Type 0 where
  pub done : HasAnswered new ↔ IsLast result
  pub lost : IsLost old → IsErr result
  pub loses : OnErr result (IsLost new)
