-- A message is little longer than its data.
use Rattle.std.proofs.Common.{◌≡◌, refl, ℕ, ◌+◌, ◌^◌, ◌≤◌, ℤ, pos, negsuc, Bool, true, false, cond, List, [], ◌∷◌, ◌++◌, length, length-append, arith}
use Rattle.std.specs.Prelude.{nat_lt, nat_le}
use borrow.Author.Tests.{leb-false}
use Rattle.bp_num.specs.Forms.{little_endian, signed_bytes, written_nat, written_int, wide_int, extent}
use Rattle.bp_num.proofs.Shortest.{length-little_endian}
use Rattle.bp_num.proofs.SignedBytes.{length-signed_bytes}
use Rattle.bp_grammar.specs.Written.{written_bytes}
use Rattle.rpc_msg.specs.declared.message.Answer.TheVariants as answer
use Rattle.rpc_msg.specs.declared.message.Response.{Response}
use Rattle.rpc_msg.proofs.Bytes.{bytes_response, bytes_of_response, bytes_ok}
use Rattle.rpc_talk.specs.Acts.{response, is_short, body_of}

either_short : (b : Bool) (xs ys : List ℕ) → length xs ≤ 9 → length ys ≤ 9 → length (cond b xs ys) ≤ 9
either_short true xs ys h k = h
either_short false xs ys h k = k

-- no number has more than nine bytes
pub nat_short : (n : ℕ) → length (written_nat n) ≤ 9
nat_short n =
    either_short (nat_lt n 128) (n ∷ []) _ (omega arith)
    (either_short (nat_lt n (2 ^ 16)) (254 ∷ little_endian 2 n) _ (omega (arith, length-little_endian 2 n))
    (either_short (nat_lt n (2 ^ 32)) (253 ∷ little_endian 4 n) (252 ∷ little_endian 8 n) (omega (arith, length-little_endian 4 n))
    (omega (arith, length-little_endian 8 n))))

wide_short : (z : ℤ) → length (wide_int z) ≤ 9
wide_short z =
    either_short (nat_lt (extent z) (2 ^ 15)) (254 ∷ signed_bytes 2 z) _ (omega (arith, length-signed_bytes 2 z))
    (either_short (nat_lt (extent z) (2 ^ 31)) (253 ∷ signed_bytes 4 z) (252 ∷ signed_bytes 8 z) (omega (arith, length-signed_bytes 4 z))
    (omega (arith, length-signed_bytes 8 z)))

pub int_short : (z : ℤ) → length (written_int z) ≤ 9
int_short (pos n) = either_short (nat_lt n 128) (n ∷ []) (wide_int (pos n)) (omega arith) (wide_short (pos n))
int_short (negsuc n) =
    either_short (nat_lt n 128) (255 ∷ signed_bytes 1 (negsuc n)) (wide_int (negsuc n)) (omega (arith, length-signed_bytes 1 (negsuc n))) (wide_short (negsuc n))

within_is : (n m : ℕ) → n ≤ m → nat_le n m ≡ true
within_is n m le = by (nat_le n m) refl
  where
    by : (t : Bool) → nat_le n m ≡ t → nat_le n m ≡ true
    by true e = e
    by false e = absurd (omega (arith, le, leb-false n m e))

pub short_data : (m : ℕ) (id : ℤ) (bytes : List ℕ) → length bytes + 20 ≤ m → is_short m (response id (answer.Ok bytes)) ≡ true
short_data m id bytes le = within_is (length (body_of (response id (answer.Ok bytes)))) m few
  where
    r : Response
    r = record { id = id; result = answer.Ok bytes }

    few : length (body_of (response id (answer.Ok bytes))) ≤ m
    few = rw (bytes_response r, bytes_of_response r, bytes_ok bytes)
        (omega (
          arith,
          le,
          length-append (written_int id) (0 ∷ written_bytes bytes),
          length-append (written_nat (length bytes)) bytes,
          int_short id,
          nat_short (length bytes),
        ))
