-- What a call that takes bytes says of them, by the reading before it and the reading after it.
use Rattle.std.specs.Prelude.{◌≡◌, ℕ, ◌<◌, ◌≤◌, List, ◌++◌, length, Result, Ok, Err}
use Rattle.readers.specs.Reader.{Outcome, whole, more, bad}
use Rattle.bp_num.specs.declared.number.Why.{Why}
use Rattle.bp_codec.specs.declared.stop.Stop.{Stop}
use Rattle.bp_codec.specs.declared.stop.Stop.TheVariants as stop

-- A head of a value is read from the bytes `old` and leaves the bytes `new`. Where bytes are missing none was taken; where a
-- byte is at fault it is the first of those that are left.
abbrev pub Gives : {A : Type 0} → (List ℕ → Outcome ℕ Why A) → List ℕ → List ℕ → Result A Stop → Type 0
Gives reads old new (Ok a) = (reads old ≡ whole a new) × (length new < length old)
Gives reads old new (Err stop.More) = (reads old ≡ more) × (new ≡ old)
Gives reads old new (Err (stop.Bad w)) = reads old ≡ bad (length new) w
Gives reads old new (Err stop.OutOfMemory) = Unit {0}

-- A step takes the bytes `old` to `new`, and the reading `before` to `after`, whatever bytes x may follow. Where bytes are
-- missing, the reading after it wants more.
abbrev pub Keeps : {A T : Type 0} → (List ℕ → Outcome ℕ Why A) → (List ℕ → Outcome ℕ Why A) → List ℕ → List ℕ → Result T Stop → Type 0
Keeps before after old new (Ok t) = (x : List ℕ) → before (old ++ x) ≡ after (new ++ x)
Keeps before after old new (Err stop.More) = ((x : List ℕ) → before (old ++ x) ≡ after (new ++ x)) × (after new ≡ more)
Keeps before after old new (Err (stop.Bad w)) = (x : List ℕ) → before (old ++ x) ≡ bad (length (new ++ x)) w
Keeps before after old new (Err stop.OutOfMemory) = Unit {0}

-- Some of the bytes `old` may have been taken; where none was, all are left.
abbrev pub LeavesSome : List ℕ → List ℕ → Type 0
LeavesSome old new = (length new ≤ length old) × (length new ≡ length old → new ≡ old)

-- A call that takes bytes takes one at least; where bytes are missing it may have taken some.
abbrev pub Cuts : {T : Type 0} → List ℕ → List ℕ → Result T Stop → Type 0
Cuts old new (Ok t) = length new < length old
Cuts old new (Err stop.More) = LeavesSome old new
Cuts old new (Err (stop.Bad w)) = Unit {0}
Cuts old new (Err stop.OutOfMemory) = Unit {0}
