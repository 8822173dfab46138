-- What one call of a source, a sink or a wire moves.
use Rattle.std.specs.Prelude.{◌≡◌, ℕ, ◌-◌, ◌<◌, ◌≤◌, Bool, true, List, [], ◌++◌, length, take, drop, ⊤, None, Some}
use Rattle.std.proofs.Common.{sym, take-append-drop}
use Rattle.std.specs.declared.option.Option.{Option}
use Rattle.bp_base.specs.declared.source.ReadGot.{ReadGot}
use Rattle.bp_base.specs.declared.source.ReadGot.TheVariants as read
use Rattle.bp_base.specs.declared.sink.Wrote.{Wrote}
use Rattle.bp_base.specs.declared.sink.Wrote.TheVariants as write
use Rattle.bp_base.specs.declared.wire.PutDone.{PutDone}
use Rattle.bp_base.specs.declared.wire.PutDone.TheVariants as done
use Rattle.bp_base.specs.declared.wire.Got.{Got}
use Rattle.bp_base.specs.declared.wire.Got.TheVariants as got

-- ---- a source

-- how many bytes a read gave
abbrev pub read_count : ReadGot → ℕ
read_count (read.Bytes count) = count
read_count read.Idle = 0
read_count read.End = 0
read_count read.Failed = 0

-- the bytes that a read gave, where `into` is what it left there
abbrev pub read_bytes : ReadGot → List ℕ → List ℕ
read_bytes result into = take (read_count result) into

-- a read that gives bytes gives at least one, and no more than there is room for
abbrev pub ReadFits : ReadGot → ℕ → Type 0
ReadFits (read.Bytes count) room = (1 ≤ count) × (count ≤ room)
ReadFits read.Idle room = ⊤
ReadFits read.End room = ⊤
ReadFits read.Failed room = ⊤

-- whether a source is ended after a read: End ends it, and nothing else changes that
abbrev pub ended_after : Bool → ReadGot → Bool
ended_after before (read.Bytes count) = before
ended_after before read.Idle = before
ended_after before read.End = true
ended_after before read.Failed = before

-- ---- a sink

-- how many bytes a write took
abbrev pub write_count : Wrote → ℕ
write_count (write.Bytes count) = count
write_count write.Failed = 0

-- a write that takes bytes takes at least one, and no more than there are
abbrev pub WriteFits : Wrote → ℕ → Type 0
WriteFits (write.Bytes count) len = (1 ≤ count) × (count ≤ len)
WriteFits write.Failed len = ⊤

-- ---- a wire

-- the bytes that a put sent: all of the piece, or none
abbrev pub put_bytes : PutDone → List ℕ → List ℕ
put_bytes done.Done piece = piece
put_bytes done.Failed piece = []
put_bytes done.OutOfMemory piece = []

-- the bytes that a get gave, where `into` is what it left there
abbrev pub got_bytes : Got → List ℕ → List ℕ
got_bytes got.Exact into = into
got_bytes (got.Less count) into = take count into
got_bytes got.Failed into = []

-- a get that gives less leaves room
abbrev pub GotFits : Got → ℕ → Type 0
GotFits got.Exact room = ⊤
GotFits (got.Less count) room = count < room
GotFits got.Failed room = ⊤

-- how many bytes of those sent were not given yet, where the wire tells both
abbrev pub in_flight : Option (List ℕ) → Option (List ℕ) → Option ℕ
in_flight (Some sent) (Some given) = Some (length sent - length given)
in_flight (Some sent) None = None
in_flight None given = None

-- a get that did not fail gave all that was in flight, or as much as there was room for
abbrev pub GotAll : Got → Option ℕ → ℕ → Type 0
GotAll got.Exact (Some waiting) room = room ≤ waiting
GotAll (got.Less count) (Some waiting) room = count ≡ waiting
GotAll got.Failed (Some waiting) room = ⊤
GotAll answer None room = ⊤

-- the same, by what a wire told before the get
abbrev pub GetsAll : {W : Type 0} → (W → Option (List ℕ)) → (W → Option (List ℕ)) → W → ℕ → Got
    → Type 0
GetsAll sent given old room result = GotAll result (in_flight (sent old) (given old)) room

-- what was given is a front of what was sent
abbrev pub GivenIsFront : Option (List ℕ) → Option (List ℕ) → Type 0
GivenIsFront (Some sent) (Some given) = (rest : List ℕ) × (sent ≡ given ++ rest)
GivenIsFront (Some sent) None = ⊤
GivenIsFront None given = ⊤

-- a wire that gives the first of the bytes that were sent
pub GivenIsFront-take : (count : ℕ) (sent : List ℕ)
    → GivenIsFront (Some sent) (Some (take count sent))
GivenIsFront-take count sent = (drop count sent, sym (take-append-drop count sent))
