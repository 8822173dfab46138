-- Bytes that an object tells, and how they change over a call. What tells its bytes goes on to tell
-- them, and what does not never begins to.
use Rattle.std.specs.Prelude.{◌≡◌, ℕ, List, None, Some, IsSome}
use Rattle.std.specs.Mem.{manually_drop_value}
use Rattle.std.specs.declared.mem.ManuallyDrop.{ManuallyDrop}
use Rattle.std.specs.declared.option.Option.{Option}
use Rattle.std.specs.declared.snapshot.Snapshot.{Snapshot}
use Rattle.std.specs.Io.KnownBytes.{append_known, prepend_known}

-- these bytes were added behind those told
abbrev pub Gains : {T : Type 0} → (T → Option (List ℕ)) → T → T → List ℕ → Type 0
Gains told old new bytes = told new ≡ append_known (told old) bytes

-- these bytes were taken from the front of those told
abbrev pub Loses : {T : Type 0} → (T → Option (List ℕ)) → T → T → List ℕ → Type 0
Loses told old new bytes = told old ≡ prepend_known bytes (told new)

-- ---- of a thing that may begin to tell only later

-- the thing as a snapshot has it
abbrev pub at_first : {T : Type 0} → ManuallyDrop (Snapshot T) → T
at_first kept = (manually_drop_value kept).value

-- what it tells now, where it told its bytes at first; else nothing
abbrev pub told_since : Option (List ℕ) → Option (List ℕ) → Option (List ℕ)
told_since None now = None
told_since (Some _) now = now

-- what told its bytes at first tells them now
abbrev pub StillTells : Option (List ℕ) → Option (List ℕ) → Type 0
StillTells first now = IsSome first → IsSome now
