-- What is read of a number, and what is at fault in it, stays so whatever follows.
use Rattle.std.proofs.Common.{ℕ, pos, negsuc, zero, suc, ◌+◌, ◌-◌, ◌*◌, ◌/◌, nat_lt, nat_le, nat_eq, ◌||◌, if◌then◌else◌, [], ◌∷◌, ◌++◌, length}
use Rattle.readers.specs.Reader.{Grows, whole, bad, mapped, after, first, symbols}
use Rattle.readers.proofs.Growing.{grows_after, grows_mapped, grows_whole, grows_first, grows_if, grows_bad, grows_symbols}
use Rattle.bp_num.specs.declared.number.IntKind.{IntKind}
use Rattle.bp_num.specs.declared.number.IntKind.TheVariants.{Int63, Int32, Int64}
use Rattle.bp_num.specs.declared.number.Why.{Why}
use Rattle.bp_num.specs.declared.number.Why.TheVariants.{Code, Sign, Range, Length}
use Rattle.bp_num.specs.NumberAt.{payload_at, nat_after, nat_at, signed_of, signed_at, minus_at, top_at, eight_at, int_after, int_at}

pub grows_payload : (k max : ℕ) → Grows (payload_at k max)
grows_payload zero max s x = grows_whole 0 s x
grows_payload (suc k) max [] x = tt
grows_payload (suc k) max (b ∷ s) x =
    grows_if (nat_le b max) (λ t. mapped (λ n. b + 256 * n) (payload_at k ((max - b) / 256) t)) (λ t. bad (length (b ∷ t)) Length)
    (grows_mapped (λ n. b + 256 * n) (payload_at k ((max - b) / 256)) (grows_payload k ((max - b) / 256))) (grows_bad b Length) s x

nat_grows : (max b : ℕ) → Grows (nat_after max b)
nat_grows max b =
    grows_if (nat_lt b 128) (λ t. if nat_le b max then whole b t else bad (length (b ∷ t)) Length) _
    (grows_if (nat_le b max) (λ t. whole b t) (λ t. bad (length (b ∷ t)) Length) (grows_whole b) (grows_bad b Length))
    (grows_if (nat_eq b 254) (payload_at 2 max) _ (grows_payload 2 max)
    (grows_if (nat_eq b 253) (payload_at 4 max) _ (grows_payload 4 max)
    (grows_if (nat_eq b 252) (payload_at 8 max) (λ t. bad (length (b ∷ t)) Code) (grows_payload 8 max) (grows_bad b Code))))

pub grows_nat : (max : ℕ) → Grows (nat_at max)
unfolding nat_at
grows_nat max = grows_first (nat_after max) (nat_grows max)

signed_grows : (k : ℕ) → Grows (signed_at k)
signed_grows k = grows_mapped (signed_of k) (symbols k) (grows_symbols Why k)

eight_grows : (kind : IntKind) → Grows (eight_at kind)
eight_grows Int63 =
    grows_mapped (signed_of 8) (λ s. after (symbols 7 s) (λ p u. first (top_at p) u))
    (grows_after (symbols 7) (λ p u. first (top_at p) u) (grows_symbols Why 7) (λ p. grows_first (top_at p)
    (λ b. grows_if (nat_lt b 64 || nat_le 192 b) (λ t. whole (p ++ b ∷ []) t) (λ t. bad (length (b ∷ t)) Range) (grows_whole (p ++ b ∷ [])) (grows_bad b Range))))
eight_grows Int32 = grows_bad 252 Code
eight_grows Int64 = signed_grows 8

int_grows : (kind : IntKind) (b : ℕ) → Grows (int_after kind b)
int_grows kind b =
    grows_if (nat_lt b 128) (λ t. whole (pos b) t) _ (grows_whole (pos b))
    (grows_if (nat_eq b 255) (first minus_at) _
    (grows_first minus_at (λ c. grows_if (nat_le 128 c) (λ t. whole (negsuc (255 - c)) t) (λ t. bad (length (c ∷ t)) Sign) (grows_whole (negsuc (255 - c))) (grows_bad c Sign)))
    (grows_if (nat_eq b 254) (signed_at 2) _ (signed_grows 2)
    (grows_if (nat_eq b 253) (signed_at 4) _ (signed_grows 4)
    (grows_if (nat_eq b 252) (eight_at kind) (λ t. bad (length (b ∷ t)) Code) (eight_grows kind) (grows_bad b Code)))))

pub grows_int : (kind : IntKind) → Grows (int_at kind)
unfolding int_at
grows_int kind = grows_first (int_after kind) (int_grows kind)
