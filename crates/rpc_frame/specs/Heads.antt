-- Length bytes that were taken.
use Rattle.std.specs.Prelude.{◌≡◌, ℕ, ◌+◌, ◌^◌, ◌<◌, ◌≤◌, List, ◌++◌, length, take, ◌⊎◌}
use Rattle.bp_num.specs.Forms.{little_endian}
use Rattle.bp_num.specs.Reads.{low_first}
use Rattle.rpc_frame.specs.declared.head.Head.{Head}
use Rattle.rpc_frame.specs.declared.head.HeadRead.{HeadRead}
use Rattle.rpc_frame.specs.declared.head.HeadRead.TheVariants as read

-- the bytes
abbrev pub head_bytes : Head → List ℕ
head_bytes head = little_endian head.seen head.low

-- they are no more than a length has, and within the limit
pub record IsHead (max : ℕ) (head : Head) : Type 0 where
  pub limit : max ≤ 2 ^ 30
  pub few : head.seen ≤ 8
  pub fits : head.low ≤ max
  pub small : head.low < 256 ^ head.seen

-- bytes from the front of a piece came behind those before
pub record IsRead (max : ℕ) (old : Head) (piece : List ℕ) (new : Head) (used : ℕ) : Type 0 where
  pub head : IsHead max new
  pub within : used ≤ length piece
  pub count : new.seen ≡ old.seen + used
  pub bytes : head_bytes new ≡ head_bytes old ++ take used piece

abbrev pub IsHeadRead : ℕ → Head → List ℕ → HeadRead → Type 0
IsHeadRead max old piece (read.Taken new used) = IsRead max old piece new used × ((new.seen ≡ 8) ⊎ (used ≡ length piece))
IsHeadRead max old piece (read.TooLong used) = (used < length piece) × (old.seen + used < 8)
    × (low_first (head_bytes old ++ take used piece) ≤ max) × (max < low_first (head_bytes old ++ take (used + 1) piece))
