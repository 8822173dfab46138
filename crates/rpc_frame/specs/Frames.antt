-- Frames of bytes: a length in eight bytes, the low byte first, and that many bytes, the body.
use Rattle.std.specs.Prelude.{ℕ, List, ◌++◌, length}
use Rattle.std.specs.List.{flat_map}
use Rattle.readers.specs.Reader.{Outcome, after, symbols, Symbols, Then, ThenWhy, NoWhy, Any}
use Rattle.bp_num.specs.Forms.{little_endian, Payload}
use Rattle.bp_num.specs.NumberAt.{payload_at}
use Rattle.bp_num.specs.Reads.{Passes}
use Rattle.bp_num.specs.declared.number.Why.{Why}

-- the frame of a body
abbrev pub frame : List ℕ → List ℕ
frame body = little_endian 8 (length body) ++ body

abbrev pub frames : List (List ℕ) → List ℕ
frames bodies = flat_map frame bodies

-- the bytes are a frame, and the body has at most max bytes
abbrev pub IsFrame : ℕ → List ℕ → List ℕ → Type 0
IsFrame max body s = Then (Payload 8 max) (Symbols Any) body s

-- the one reason that a frame's byte is at fault: it makes the low bytes of the length pass max
abbrev pub FrameWhy : ℕ → List ℕ → ℕ → Why → Type 0
FrameWhy max p b w = ThenWhy (Payload 8 max) (Passes 8 max) (λ n. NoWhy) p b w

-- the frame in front of some bytes
abbrev pub frame_at : ℕ → List ℕ → Outcome ℕ Why (List ℕ)
frame_at max s = after (payload_at 8 max s) symbols
