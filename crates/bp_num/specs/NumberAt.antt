-- Readers of numbers over lists of bytes, for readers of larger things to be put together of.
use Rattle.std.specs.Prelude.{ℕ, ℤ, pos, negsuc, zero, suc, ◌+◌, ◌-◌, ◌*◌, ◌/◌, ◌^◌, nat_lt, nat_le, nat_eq, ◌||◌, if◌then◌else◌, List, [], ◌∷◌, ◌++◌, length}
use Rattle.readers.specs.Reader.{Outcome, whole, more, bad, after, mapped, first, symbols}
use Rattle.bp_num.specs.Reads.{low_first}
use Rattle.bp_num.specs.declared.number.IntKind.{IntKind}
use Rattle.bp_num.specs.declared.number.IntKind.TheVariants.{Int63, Int32, Int64}
use Rattle.bp_num.specs.declared.number.NumRead.{NumRead}
use Rattle.bp_num.specs.declared.number.NumRead.TheVariants.{Done, More, Bad}
use Rattle.bp_num.specs.declared.number.Why.{Why}
use Rattle.bp_num.specs.declared.number.Why.TheVariants.{Code, Sign, Range, Length}

-- an answer by places in n bytes, of a reading that leaves some of them
abbrev pub answer : ℕ → Outcome ℕ Why ℤ → NumRead
answer n (whole z u) = Done z (n - length u)
answer n more = More
answer n (bad left w) = Bad (n - left) w

-- a number of k bytes that is at most max
abbrev pub payload_at : ℕ → ℕ → List ℕ → Outcome ℕ Why ℕ
payload_at zero max s = whole 0 s
payload_at (suc k) max [] = more
payload_at (suc k) max (b ∷ s) =
    if nat_le b max then mapped (λ x. b + 256 * x) (payload_at k ((max - b) / 256) s) else bad (length (b ∷ s)) Length

abbrev pub nat_after : ℕ → ℕ → List ℕ → Outcome ℕ Why ℕ
nat_after max b s =
    if nat_lt b 128 then (if nat_le b max then whole b s else bad (length (b ∷ s)) Length)
    else if nat_eq b 254 then payload_at 2 max s
    else if nat_eq b 253 then payload_at 4 max s
    else if nat_eq b 252 then payload_at 8 max s
    else bad (length (b ∷ s)) Code

-- a nat0 of at most max
unfoldable pub nat_at : ℕ → List ℕ → Outcome ℕ Why ℕ
nat_at max s = first (nat_after max) s

-- the number of k bytes in two's complement
abbrev pub signed_of : ℕ → List ℕ → ℤ
signed_of k s = if nat_lt (2 * low_first s) (256 ^ k) then pos (low_first s) else negsuc (256 ^ k - suc (low_first s))

abbrev pub signed_at : ℕ → List ℕ → Outcome ℕ Why ℤ
signed_at k s = mapped (signed_of k) (symbols k s)

abbrev pub minus_at : ℕ → List ℕ → Outcome ℕ Why ℤ
minus_at b s = if nat_le 128 b then whole (negsuc (255 - b)) s else bad (length (b ∷ s)) Sign

-- the last byte of eight, after the seven p, of a number of 63 bits
abbrev pub top_at : List ℕ → ℕ → List ℕ → Outcome ℕ Why (List ℕ)
top_at p b s = if nat_lt b 64 || nat_le 192 b then whole (p ++ b ∷ []) s else bad (length (b ∷ s)) Range

abbrev pub eight_at : IntKind → List ℕ → Outcome ℕ Why ℤ
eight_at Int63 s = mapped (signed_of 8) (after (symbols 7 s) (λ p u. first (top_at p) u))
eight_at Int32 s = bad (suc (length s)) Code
eight_at Int64 s = signed_at 8 s

abbrev pub int_after : IntKind → ℕ → List ℕ → Outcome ℕ Why ℤ
int_after kind b s =
    if nat_lt b 128 then whole (pos b) s
    else if nat_eq b 255 then first minus_at s
    else if nat_eq b 254 then signed_at 2 s
    else if nat_eq b 253 then signed_at 4 s
    else if nat_eq b 252 then eight_at kind s
    else bad (length (b ∷ s)) Code

-- an int of a kind
unfoldable pub int_at : IntKind → List ℕ → Outcome ℕ Why ℤ
int_at kind s = first (int_after kind) s
