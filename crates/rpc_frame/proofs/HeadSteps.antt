-- One more byte of a length.
use Rattle.std.proofs.Common.{◌≡◌, refl, sym, ap, ◌∙◌, subst, ℕ, zero, suc, ◌+◌, ◌-◌, ◌*◌, ◌^◌, ◌<◌, ◌≤◌, List, [], ◌∷◌, ◌++◌, length, take, get_or, append_assoc, zero-add, Fits, w8, arith}
use Rattle.std.proofs.lemmas.List.{append-nil, length-append}
use Rattle.readers.specs.Reader.{Each, IsByte}
use Rattle.readers.proofs.Readers.{each-join}
use Rattle.bp_num.specs.Forms.{little_endian}
use Rattle.bp_num.specs.Reads.{low_first}
use Rattle.bp_num.proofs.Bytes.{low_first-lt, bytes_of_number, number_of_bytes, are_bytes, low_first-top, pow-next, pow-some}
use Rattle.rpc_frame.specs.Heads.{head_bytes, IsHead, IsRead}
use Rattle.rpc_frame.specs.declared.head.Head.{Head}

pub length-little : (k n : ℕ) → length (little_endian k n) ≡ k
length-little zero n = refl
length-little (suc k) n = ap suc (length-little k _)

-- all of the front, and then some
pub take_front : (k n : ℕ) (front rest : List ℕ) → length front ≡ k → take (k + n) (front ++ rest) ≡ front ++ take n rest
take_front zero n [] rest len = ap (λ j. take j rest) (zero-add n)
take_front zero n (b ∷ front) rest len = absurd (omega arith)
take_front (suc k) n [] rest len = absurd (omega arith)
take_front (suc k) n (b ∷ front) rest len =
    let sum : suc k + n ≡ suc (k + n) = omega arith in
    ap (λ j. take j (b ∷ front ++ rest)) sum ∙ ap (λ t. b ∷ t) (take_front k n front rest (omega arith))

-- a byte more, on top
module _ (k low b : ℕ) (small : low < 256 ^ k) (byte : b < 256) where
  one_more : List ℕ
  one_more = little_endian k low ++ b ∷ []

  are : Each IsByte (little_endian k low ++ b ∷ [])
  are = each-join IsByte (little_endian k low) (b ∷ []) (are_bytes k low) (byte, tt)

  len : length (little_endian k low ++ b ∷ []) ≡ k + 1
  len = length-append (little_endian k low) (b ∷ []) ∙ ap (λ j. j + 1) (length-little k low)

  pub number_top : low_first (little_endian k low ++ b ∷ []) ≡ low + b * 256 ^ k
  number_top =
      low_first-top (little_endian k low) b
      ∙ (ap (λ n. n + 256 ^ length (little_endian k low) * b) (number_of_bytes k low small)
      ∙ (ap (λ j. low + 256 ^ j * b) (length-little k low) ∙ ap (λ n. low + n) (mul_swap (256 ^ k) b)))
    where
      mul_swap : (x y : ℕ) → x * y ≡ y * x
      mul_swap x y = grind arith

  pub little_top : little_endian (k + 1) (low + b * 256 ^ k) ≡ little_endian k low ++ b ∷ []
  little_top =
      ap (λ n. little_endian (k + 1) n) (sym number_top)
      ∙ (ap (λ j. little_endian j (low_first (little_endian k low ++ b ∷ []))) (sym len) ∙ bytes_of_number (little_endian k low ++ b ∷ []) are)

  pub small_top : low + b * 256 ^ k < 256 ^ (k + 1)
  small_top = subst (λ n. n < 256 ^ (k + 1)) number_top (subst (λ j. low_first (little_endian k low ++ b ∷ []) < 256 ^ j) len (low_first-lt (little_endian k low ++ b ∷ []) are))

-- the byte at a place, behind those before it
pub take_one : (s : List ℕ) (i : ℕ) → i < length s → take (suc i) s ≡ take i s ++ get_or s i 0 ∷ []
take_one [] i lt = absurd (omega arith)
take_one (b ∷ s) zero lt = refl
take_one (b ∷ s) (suc i) lt = ap (λ t. b ∷ t) (take_one s i (omega arith))

scale_mono : (k j : ℕ) → k ≤ j → 256 ^ k ≤ 256 ^ j
scale_mono zero j le = omega (arith, pow-some j)
scale_mono (suc k) zero le = absurd (omega arith)
scale_mono (suc k) (suc j) le =
    let small : 256 ^ suc k ≡ 256 * 256 ^ k = pow-next k in
    let large : 256 ^ suc j ≡ 256 * 256 ^ j = pow-next j in
    let rest : 256 ^ k ≤ 256 ^ j = scale_mono k j (omega arith) in
    omega arith

pub scale_few : (k : ℕ) → k < 8 → 256 ^ k ≤ 256 ^ 7
scale_few k lt = scale_mono k 7 (omega arith)

pub byte_is : (s : List ℕ) (i b : ℕ) → ((j : ℕ) → Fits w8 (get_or s j 0)) → b ≡ get_or s i 0 → b < 256
byte_is s i b each is = omega (arith, each i)

-- the bytes of a length and one more of the piece
module _ (seen low old_seen old_low used b scale : ℕ) (piece : List ℕ) (small : low < 256 ^ seen) (byte : b < 256) (scaled : scale ≡ 256 ^ seen) (at : b ≡ get_or piece used 0) (lt : used < length piece)
    (bytes : little_endian seen low ≡ little_endian old_seen old_low ++ take used piece) where
  behind : little_endian seen low ++ b ∷ [] ≡ little_endian old_seen old_low ++ take (used + 1) piece
  behind =
      let next : suc used ≡ used + 1 = omega arith in
      ap (λ t. t ++ b ∷ []) bytes
      ∙ (append_assoc (little_endian old_seen old_low) (take used piece) (b ∷ [])
      ∙ ap (λ t. little_endian old_seen old_low ++ t)
      (ap (λ x. take used piece ++ x ∷ []) at ∙ (sym (take_one piece used lt) ∙ ap (λ n. take n piece) next)))

  pub bytes_top : little_endian (seen + 1) (low + b * scale) ≡ little_endian old_seen old_low ++ take (used + 1) piece
  bytes_top = ap (λ n. little_endian (seen + 1) (low + b * n)) scaled ∙ (little_top seen low b small byte ∙ behind)

  pub low_top : low + b * scale < 256 ^ (seen + 1)
  low_top = subst (λ n. low + b * n < 256 ^ (seen + 1)) (sym scaled) (small_top seen low b small byte)

  pub number_here : low_first (little_endian old_seen old_low ++ take used piece) ≡ low
  number_here = ap low_first (sym bytes) ∙ number_of_bytes seen low small

  pub number_next : low_first (little_endian old_seen old_low ++ take (used + 1) piece) ≡ low + b * scale
  number_next = ap low_first (sym behind) ∙ (number_top seen low b small byte ∙ ap (λ n. low + b * n) (sym scaled))
