-- What is seen of a reader of frames.
use Rattle.std.specs.Prelude.{◌≡◌, ℕ, ◌+◌, ◌-◌, ◌^◌, ◌<◌, min, List, [], ◌++◌, length, take, Option, Some, None, if◌then◌else◌, nat_lt}
use Rattle.bp_num.specs.Reads.{low_first}
use Rattle.rpc_frame.specs.Frames.{frame}
use Rattle.rpc_frame.specs.Heads.{IsHead}
use Rattle.rpc_frame.specs.declared.head.Head.{Head}

-- a limit on bodies, the bytes that were taken after the last whole frame, how many were taken in all, and where a length was too long
pub record FrameState : Type 0 where
  pub max : ℕ
  pub held : List ℕ
  pub place : ℕ
  pub failed : Option ℕ

-- what a reader knows of the bytes that it holds: a body begins only behind a whole length, and is not whole
pub record IsPartOfFrame (max : ℕ) (head : Head) (body : List ℕ) : Type 0 where
  pub known : IsHead max head
  pub early : head.seen < 8 → body ≡ []
  pub late : head.seen ≡ 8 → length body < head.low

-- a count, which stays at the last value of a u64
abbrev pub stream_place : ℕ → ℕ
stream_place n = min n (2 ^ 64 - 1)

-- so many bytes were taken, and these are held
abbrev pub moved : FrameState → List ℕ → ℕ → FrameState
moved r held used = record { max = r.max; held = held; place = stream_place (r.place + used); failed = None }

-- n bytes were taken, and one that makes a length too long
abbrev pub failed_after : FrameState → ℕ → FrameState
failed_after r n = record { max = r.max; held = []; place = stream_place (r.place + n + 1); failed = Some (stream_place (r.place + n)) }

-- how many bytes are missing to the end of a length, or of a frame
abbrev pub missing : List ℕ → ℕ
missing held = if nat_lt (length held) 8 then 8 - length held else 8 + low_first (take 8 held) - length held

abbrev pub wanted : FrameState → Option ℕ → ℕ
wanted r None = missing r.held
wanted r (Some at) = 0

-- the last bytes of a body's frame were not taken after all
abbrev pub undone : FrameState → List ℕ → ℕ → ℕ → FrameState
undone r body used place = record { max = r.max; held = take (8 + length body - used) (frame body); place = place; failed = None }
