-- The reader of an int is right about its forms.
use Rattle.std.proofs.Common.{◌≡◌, refl, sym, ap, ◌∙◌, subst, ℕ, ℤ, pos, negsuc, zero, suc, ◌+◌, ◌-◌, ◌*◌, ◌%◌, ◌^◌, ◌<◌, ◌≤◌, true, nat_lt, nat_le, ◌||◌, List, [], ◌∷◌, ◌++◌, length, ◌⊎◌, inl, inr, arith, lit<, lit≤}
use Rattle.std.proofs.lemmas.Bool.{cases_lt}
use Rattle.std.proofs.lemmas.List.{append-nil, length-append}
use Rattle.readers.specs.Reader.{Outcome, whole, bad, after, Each, IsByte, Any, Front, Right, NoWhy, Then, ThenWhy, Mapped, Done, First, first, Symbols, symbols}
use Rattle.readers.proofs.Readers.{follows-any, each-join, each-front, each-rest, right_then, right_mapped, right_same, right_by, right_done, right_first, Continues, Stops}
use Rattle.readers.proofs.Leaves.{pick_true, pick_false}
use Rattle.readers.proofs.Runs.{right_symbols}
use Rattle.bp_num.specs.declared.number.IntKind.{IntKind}
use Rattle.bp_num.specs.declared.number.IntKind.TheVariants.{Int63, Int32, Int64}
use Rattle.bp_num.specs.declared.number.Why.{Why}
use Rattle.bp_num.specs.declared.number.Why.TheVariants.{Code, Sign, Range}
use Rattle.bp_num.specs.Forms.{extent, IsNegative, signed_bytes, limit_of, HasEightBytes, IsInt}
use Rattle.bp_num.specs.Reads.{low_first, IsIntFault}
use Rattle.bp_num.specs.NumberAt.{signed_of, signed_at, minus_at, top_at, eight_at, int_after, int_at}
use Rattle.bp_num.proofs.Bytes.{low_first-lt, low_first-top}
use Rattle.bp_num.proofs.SignedBytes.{length-signed_bytes, are_signed_bytes, signed_low, signed_high, signed_is, signed_back}
use Rattle.bp_num.proofs.FirstByte.{small, one, two, four, eight, other, first_byte}

-- ---- k bytes, of a number that has h values on each side

abbrev pub Signed : ℕ → ℕ → ℤ → List ℕ → Type 0
Signed k h n s = (extent n < h) × (s ≡ signed_bytes k n)

pub right_signed : (k h : ℕ) → 256 ^ k ≡ 2 * h → Right IsByte Any (Signed k h) NoWhy (signed_at k)
right_signed k h half =
    right_same IsByte Any (Mapped (signed_of k) (Symbols IsByte k)) (Signed k h) NoWhy NoWhy (signed_at k) into out (λ p b w y. y)
    (right_mapped IsByte Any (signed_of k) (Symbols IsByte k) NoWhy (symbols k) (right_symbols IsByte 0 (lit< tt) k))
  where
    into : (n : ℤ) (s : List ℕ) → Mapped (signed_of k) (Symbols IsByte k) n s → Signed k h n s
    into n s (a, e, (as_, len, vs)) =
        let (lt, same) = signed_is k h half s len vs in
        let of_s : n ≡ signed_of k s = e ∙ ap (signed_of k) as_ in
        (subst (λ z. extent z < h) (sym of_s) lt, subst (λ z. s ≡ signed_bytes k z) (sym of_s) same)

    out : (n : ℤ) (s : List ℕ) → Signed k h n s → Mapped (signed_of k) (Symbols IsByte k) n s
    out n s (lt, e) =
        (signed_bytes k n, sym (signed_back k h half n lt), (sym e, ap length e ∙ length-signed_bytes k n, subst (λ l. Each IsByte l) (sym e) (are_signed_bytes k n)))

-- ---- one byte, negative

abbrev pub Minus : ℕ → ℤ → List ℕ → Type 0
Minus b n t = (b < 256) × (128 ≤ b) × Done (negsuc (255 - b)) n t

abbrev pub MinusWhy : List ℕ → ℕ → Why → Type 0
MinusWhy p b w = (w ≡ Sign) × (p ≡ [])

minus_each : (b : ℕ) → b < 256
    → Continues IsByte Any (Minus b) (λ p. MinusWhy (b ∷ p)) (minus_at b) ⊎ Stops (Minus b) (MinusWhy []) (minus_at b) b
minus_each b byte = elim (cases_lt b 128) [
  | inl lt ↦ inr (record { reason = Sign; is = λ s. pick_false (nat_le 128 b) _ _ (grind arith); none = λ n t l. omega (arith, l.1); why = (refl, refl) })
  | inr le ↦ inl (record {
    right = right_same IsByte Any (Done (negsuc (255 - b))) (Minus b) (λ p. MinusWhy (b ∷ p)) (λ p. MinusWhy (b ∷ p)) (minus_at b) (λ n t d. (byte, le, d)) (λ n t l. l.2) (λ p c w y. y)
        (right_by IsByte Any (Done (negsuc (255 - b))) (λ p. MinusWhy (b ∷ p)) (λ s. whole (negsuc (255 - b)) s) (minus_at b)
        (λ s. sym (pick_true (nat_le 128 b) _ _ (grind arith))) (right_done IsByte (negsuc (255 - b)) (λ p. MinusWhy (b ∷ p))));
    value = negsuc (255 - b);
    text = [];
    start = (byte, le, (refl, refl));
  })
]

pub right_minus : Right IsByte Any (First Minus) MinusWhy (first minus_at)
right_minus = right_first IsByte Any Minus MinusWhy minus_at minus_each (λ b n t l. l.0) (negsuc 0, 255 ∷ [], (255, [], refl, (lit< tt, lit≤ tt, (refl, refl))))

-- ---- eight bytes of 63 bits: seven, and a last one below 64 or from 192 on

abbrev pub Top : List ℕ → ℕ → List ℕ → List ℕ → Type 0
Top p b a t = (b < 256) × (b < 64 ⊎ 192 ≤ b) × Done (p ++ b ∷ []) a t

abbrev pub TopWhy : List ℕ → ℕ → Why → Type 0
TopWhy q b w = (q ≡ []) × (w ≡ Range)

top_each : (p : List ℕ) (b : ℕ) → b < 256
    → Continues IsByte Any (Top p b) (λ q. TopWhy (b ∷ q)) (top_at p b) ⊎ Stops (Top p b) (TopWhy []) (top_at p b) b
top_each p b byte = elim (cases_lt b 64) [
  | inl lt ↦ inl (goes (inl lt) (grind arith))
  | inr ge ↦ elim (cases_lt b 192) [
    | inl lt ↦ inr (record { reason = Range; is = λ s. pick_false (nat_lt b 64 || nat_le 192 b) _ _ (grind arith); none = λ a t l. none ge lt l.1; why = (refl, refl) })
    | inr le ↦ inl (goes (inr le) (grind arith))
  ]
]
  where
    none : 64 ≤ b → b < 192 → b < 64 ⊎ 192 ≤ b → ⊥
    none ge lt (inl low) = omega arith
    none ge lt (inr high) = omega arith

    goes : b < 64 ⊎ 192 ≤ b → (nat_lt b 64 || nat_le 192 b) ≡ true
        → Continues IsByte Any (Top p b) (λ q. TopWhy (b ∷ q)) (top_at p b)
    goes side test = record {
      right = right_same IsByte Any (Done (p ++ b ∷ [])) (Top p b) (λ q. TopWhy (b ∷ q)) (λ q. TopWhy (b ∷ q)) (top_at p b) (λ a t d. (byte, side, d)) (λ a t l. l.2) (λ q c w y. y)
          (right_by IsByte Any (Done (p ++ b ∷ [])) (λ q. TopWhy (b ∷ q)) (λ s. whole (p ++ b ∷ []) s) (top_at p b)
          (λ s. sym (pick_true (nat_lt b 64 || nat_le 192 b) _ _ test)) (right_done IsByte (p ++ b ∷ []) (λ q. TopWhy (b ∷ q))));
      value = p ++ b ∷ [];
      text = [];
      start = (byte, side, (refl, refl));
    }

top_right : (p : List ℕ) → Right IsByte Any (First (Top p)) TopWhy (first (top_at p))
top_right p = right_first IsByte Any (Top p) TopWhy (top_at p) (top_each p) (λ b a t l. l.0) (p ++ 0 ∷ [], 0 ∷ [], (0, [], refl, (lit< tt, inl (lit< tt), (refl, refl))))

abbrev pub Eight63 : List ℕ → List ℕ → Type 0
Eight63 a s = Then (Symbols IsByte 7) (λ p. First (Top p)) a s

abbrev pub Eight63Why : List ℕ → ℕ → Why → Type 0
Eight63Why p b w = ThenWhy (Symbols IsByte 7) NoWhy (λ p. TopWhy) p b w

eight63_right : Right IsByte Any Eight63 Eight63Why (λ s. after (symbols 7 s) (λ p u. first (top_at p) u))
eight63_right =
    right_then IsByte Any Any (Symbols IsByte 7) NoWhy (symbols 7) (λ p. First (Top p)) (λ p. TopWhy) (λ p u. first (top_at p) u) (right_symbols IsByte 0 (lit< tt) 7) (λ p t l. top_right p)
    (λ a t l. (a ++ 0 ∷ [], 0 ∷ [], (0, [], refl, (lit< tt, inl (lit< tt), (refl, refl)))))
    (λ a b u v m f. follows-any (u ++ v))

-- the last byte says whether the number has 63 bits
top_low : (p : List ℕ) (b : ℕ) → length p ≡ 7 → Each IsByte p
    → (low_first (p ++ b ∷ []) ≡ low_first p + 256 ^ 7 * b) × (low_first p < 256 ^ 7)
top_low p b len vs =
    let lt : low_first p < 256 ^ length p = low_first-lt p vs in
    (low_first-top p b ∙ ap (λ k. low_first p + 256 ^ k * b) len, subst (λ k. low_first p < 256 ^ k) len lt)

pub top_in : (p : List ℕ) (b : ℕ) → length p ≡ 7 → Each IsByte p → b < 256 → b < 64 ⊎ 192 ≤ b
    → extent (signed_of 8 (p ++ b ∷ [])) < 2 ^ 62
top_in p b len vs byte (inl lt) = let (low, below) = top_low p b len vs in rw (signed_low 8 (p ++ b ∷ []) (omega arith)) (omega arith)
top_in p b len vs byte (inr le) = let (low, below) = top_low p b len vs in rw (signed_high 8 (p ++ b ∷ []) (omega arith)) (omega arith)

pub top_out : (p : List ℕ) (b : ℕ) → length p ≡ 7 → Each IsByte p → extent (signed_of 8 (p ++ b ∷ [])) < 2 ^ 62 → b < 64 ⊎ 192 ≤ b
top_out p b len vs lt = elim (cases_lt b 64) [ inl low ↦ inl low | inr ge ↦ elim (cases_lt b 192) [ inl under ↦ absurd (between ge under) | inr high ↦ inr high ] ]
  where
    between : 64 ≤ b → b < 192 → ⊥
    between ge under =
        let (low, below) = top_low p b len vs in
        elim (cases_lt b 128) [
          | inl half ↦ let is : extent (signed_of 8 (p ++ b ∷ [])) ≡ low_first (p ++ b ∷ []) = ap extent (signed_low 8 (p ++ b ∷ []) (omega arith)) in omega arith
          | inr half ↦ let is : extent (signed_of 8 (p ++ b ∷ [])) ≡ 256 ^ 8 - suc (low_first (p ++ b ∷ [])) = ap extent (signed_high 8 (p ++ b ∷ []) (omega arith)) in omega arith
        ]

last_of : (k : ℕ) (s : List ℕ) → length s ≡ suc k → (p : List ℕ) × (b : ℕ) × (s ≡ p ++ b ∷ []) × (length p ≡ k)
last_of k [] len = absurd (omega arith)
last_of zero (b ∷ []) len = ([], b, refl, refl)
last_of (suc k) (b ∷ []) len = absurd (omega arith)
last_of zero (b ∷ c ∷ s) len = absurd (omega arith)
last_of (suc k) (b ∷ c ∷ s) len = let (p, d, cut, lp) = last_of k (c ∷ s) (omega arith) in (b ∷ p, d, ap (λ l. b ∷ l) cut, omega arith)

pub right_63 : Right IsByte Any (Signed 8 (2 ^ 62)) Eight63Why (eight_at Int63)
right_63 =
    right_same IsByte Any (Mapped (signed_of 8) Eight63) (Signed 8 (2 ^ 62)) Eight63Why Eight63Why (eight_at Int63) into out (λ p b w y. y)
    (right_mapped IsByte Any (signed_of 8) Eight63 Eight63Why (λ s. after (symbols 7 s) (λ p u. first (top_at p) u)) eight63_right)
  where
    into : (n : ℤ) (s : List ℕ) → Mapped (signed_of 8) Eight63 n s → Signed 8 (2 ^ 62) n s
    into n s (a, e, (p, t, u, cut, (pt, len, vs), (b, r, ub, (byte, side, (ab, rn))))) =
        let text : s ≡ t ++ b ∷ [] = cut ∙ (ap (λ l. t ++ l) ub ∙ ap (λ l. t ++ b ∷ l) rn) in
        let same : a ≡ t ++ b ∷ [] = ab ∙ ap (λ l. l ++ b ∷ []) pt in
        let long : length (t ++ b ∷ []) ≡ 8 = length-append t (b ∷ []) ∙ ap (λ k. k + 1) len in
        let (lt, bytes) = signed_is 8 (2 ^ 63) refl (t ++ b ∷ []) long (each-join IsByte t (b ∷ []) vs (byte, tt)) in
        let of_t : n ≡ signed_of 8 (t ++ b ∷ []) = e ∙ ap (signed_of 8) same in
        (subst (λ z. extent z < 2 ^ 62) (sym of_t) (top_in t b len vs byte side), text ∙ (bytes ∙ ap (signed_bytes 8) (sym of_t)))

    out : (n : ℤ) (s : List ℕ) → Signed 8 (2 ^ 62) n s → Mapped (signed_of 8) Eight63 n s
    out n s (lt, e) =
        let (p, b, cut, len) = last_of 7 (signed_bytes 8 n) (length-signed_bytes 8 n) in
        let vs : Each IsByte (p ++ b ∷ []) = subst (λ l. Each IsByte l) cut (are_signed_bytes 8 n) in
        let back : signed_of 8 (p ++ b ∷ []) ≡ n = ap (signed_of 8) (sym cut) ∙ signed_back 8 (2 ^ 63) refl n (omega arith) in
        let front : Each IsByte p = each-front IsByte p (b ∷ []) vs in
        let byte : b < 256 = (each-rest IsByte p (b ∷ []) vs).0 in
        (p ++ b ∷ [], sym back, (p, p, b ∷ [], e ∙ cut, (refl, len, front), (b, [], refl, (byte, top_out p b len front (subst (λ z. extent z < 2 ^ 62) (sym back) lt), (refl, refl)))))

-- ---- a first byte: the number, or a code and its payload

abbrev pub IntAfter : IntKind → ℕ → ℤ → List ℕ → Type 0
IntAfter kind b n t = (b < 256) × ((b < 128) × Done (pos b) n t
    ⊎ (b ≡ 255) × First Minus n t ⊎ (b ≡ 254) × Signed 2 (2 ^ 15) n t ⊎ (b ≡ 253) × Signed 4 (2 ^ 31) n t
    ⊎ (b ≡ 252) × HasEightBytes kind × Signed 8 (limit_of kind) n t)

-- a code, with the language of what follows it
with_code : (kind : IntKind) (b : ℕ) (K : ℤ → List ℕ → Type 0) (Q : List ℕ → ℕ → Why → Type 0) (q : List ℕ → Outcome ℕ Why ℤ)
    → Right IsByte Any K Q q
    → ((s : List ℕ) → int_after kind b s ≡ q s) → ((n : ℤ) (t : List ℕ) → K n t → IntAfter kind b n t) → ((n : ℤ) (t : List ℕ) → IntAfter kind b n t → K n t)
    → ((p : List ℕ) (c : ℕ) (w : Why) → Q p c w → IsIntFault (b ∷ p) c w) → (n : ℤ) (t : List ℕ) → K n t
    → Continues IsByte Any (IntAfter kind b) (λ p. IsIntFault (b ∷ p)) (int_after kind b)
with_code kind b K Q q right same into out why n t start = record {
  right = right_same IsByte Any K (IntAfter kind b) Q (λ p. IsIntFault (b ∷ p)) (int_after kind b) into out why
      (right_by IsByte Any K Q q (int_after kind b) (λ s. sym (same s)) right);
  value = n;
  text = t;
  start = into n t start;
}

no_code : (kind : IntKind) (b : ℕ) → 128 ≤ b → (b ≡ 255 → ⊥) → (b ≡ 254 → ⊥) → (b ≡ 253 → ⊥) → (b ≡ 252 → HasEightBytes kind → ⊥)
    → ((s : List ℕ) → int_after kind b s ≡ bad (length (b ∷ s)) Code) → Stops (IntAfter kind b) (IsIntFault []) (int_after kind b) b
no_code kind b ge no_one no_two no_four no_eight is = record { reason = Code; is = is; none = none; why = refl }
  where
    none : (n : ℤ) (t : List ℕ) → IntAfter kind b n t → ⊥
    none n t (v, inl x) = omega (arith, x.0)
    none n t (v, inr (inl x)) = no_one x.0
    none n t (v, inr (inr (inl x))) = no_two x.0
    none n t (v, inr (inr (inr (inl x)))) = no_four x.0
    none n t (v, inr (inr (inr (inr x)))) = no_eight x.0 x.1

out_small : (kind : IntKind) (b : ℕ) → b < 128 → (n : ℤ) (t : List ℕ) → IntAfter kind b n t → Done (pos b) n t
out_small kind b lt n t (v, inl x) = x.1
out_small kind b lt n t (v, inr (inl x)) = absurd (omega (arith, x.0))
out_small kind b lt n t (v, inr (inr (inl x))) = absurd (omega (arith, x.0))
out_small kind b lt n t (v, inr (inr (inr (inl x)))) = absurd (omega (arith, x.0))
out_small kind b lt n t (v, inr (inr (inr (inr x)))) = absurd (omega (arith, x.0))

out_one : (kind : IntKind) (b : ℕ) → b ≡ 255 → (n : ℤ) (t : List ℕ) → IntAfter kind b n t → First Minus n t
out_one kind b e n t (v, inl x) = absurd (omega (arith, x.0))
out_one kind b e n t (v, inr (inl x)) = x.1
out_one kind b e n t (v, inr (inr (inl x))) = absurd (omega (arith, x.0))
out_one kind b e n t (v, inr (inr (inr (inl x)))) = absurd (omega (arith, x.0))
out_one kind b e n t (v, inr (inr (inr (inr x)))) = absurd (omega (arith, x.0))

out_two : (kind : IntKind) (b : ℕ) → b ≡ 254 → (n : ℤ) (t : List ℕ) → IntAfter kind b n t → Signed 2 (2 ^ 15) n t
out_two kind b e n t (v, inl x) = absurd (omega (arith, x.0))
out_two kind b e n t (v, inr (inl x)) = absurd (omega (arith, x.0))
out_two kind b e n t (v, inr (inr (inl x))) = x.1
out_two kind b e n t (v, inr (inr (inr (inl x)))) = absurd (omega (arith, x.0))
out_two kind b e n t (v, inr (inr (inr (inr x)))) = absurd (omega (arith, x.0))

out_four : (kind : IntKind) (b : ℕ) → b ≡ 253 → (n : ℤ) (t : List ℕ) → IntAfter kind b n t → Signed 4 (2 ^ 31) n t
out_four kind b e n t (v, inl x) = absurd (omega (arith, x.0))
out_four kind b e n t (v, inr (inl x)) = absurd (omega (arith, x.0))
out_four kind b e n t (v, inr (inr (inl x))) = absurd (omega (arith, x.0))
out_four kind b e n t (v, inr (inr (inr (inl x)))) = x.1
out_four kind b e n t (v, inr (inr (inr (inr x)))) = absurd (omega (arith, x.0))

out_eight : (kind : IntKind) (b : ℕ) → b ≡ 252 → (n : ℤ) (t : List ℕ) → IntAfter kind b n t → Signed 8 (limit_of kind) n t
out_eight kind b e n t (v, inl x) = absurd (omega (arith, x.0))
out_eight kind b e n t (v, inr (inl x)) = absurd (omega (arith, x.0))
out_eight kind b e n t (v, inr (inr (inl x))) = absurd (omega (arith, x.0))
out_eight kind b e n t (v, inr (inr (inr (inl x)))) = absurd (omega (arith, x.0))
out_eight kind b e n t (v, inr (inr (inr (inr x)))) = x.2

eight_each : (kind : IntKind) (b : ℕ) → b < 256 → b ≡ 252
    → Continues IsByte Any (IntAfter kind b) (λ p. IsIntFault (b ∷ p)) (int_after kind b) ⊎ Stops (IntAfter kind b) (IsIntFault []) (int_after kind b) b
eight_each Int63 b byte e =
    inl (with_code Int63 b (Signed 8 (2 ^ 62)) Eight63Why (eight_at Int63) right_63 (λ s. ap (λ c. int_after Int63 c s) e)
    (λ n t l. (byte, inr (inr (inr (inr (e, tt, l)))))) (out_eight Int63 b e) why (pos 0) (signed_bytes 8 (pos 0)) (lit< tt, refl))
  where
    why : (p : List ℕ) (c : ℕ) (w : Why) → Eight63Why p c w → IsIntFault (b ∷ p) c w
    why p c w (inl never) = absurd never
    why p c w (inr (a, t, q, cut, (at, len, vs), (qn, range))) =
        inr (range, e, ap length (cut ∙ (ap (λ l. t ++ l) qn ∙ append-nil t)) ∙ len)
eight_each Int32 b byte e =
    inr (no_code Int32 b (omega arith) (λ f. omega arith) (λ f. omega arith) (λ f. omega arith) (λ f never. never)
    (λ s. ap (λ c. int_after Int32 c s) e))
eight_each Int64 b byte e =
    inl (with_code Int64 b (Signed 8 (2 ^ 63)) NoWhy (signed_at 8) (right_signed 8 (2 ^ 63) refl) (λ s. ap (λ c. int_after Int64 c s) e)
    (λ n t l. (byte, inr (inr (inr (inr (e, tt, l)))))) (out_eight Int64 b e) (λ p c w never. absurd never) (pos 0) (signed_bytes 8 (pos 0)) (lit< tt, refl))

int_each : (kind : IntKind) (b : ℕ) → b < 256
    → Continues IsByte Any (IntAfter kind b) (λ p. IsIntFault (b ∷ p)) (int_after kind b) ⊎ Stops (IntAfter kind b) (IsIntFault []) (int_after kind b) b
int_each kind b byte = elim (first_byte b) [
  | small lt ↦ inl (with_code kind b (Done (pos b)) (λ p. IsIntFault (b ∷ p)) (λ s. whole (pos b) s) (right_done IsByte (pos b) (λ p. IsIntFault (b ∷ p)))
      (λ s. pick_true (nat_lt b 128) _ _ (grind arith)) (λ n t d. (byte, inl (lt, d))) (out_small kind b lt) (λ p c w y. y) (pos b) [] (refl, refl))
  | one e ↦ inl (with_code kind b (First Minus) MinusWhy (first minus_at) right_minus (λ s. ap (λ c. int_after kind c s) e)
      (λ n t l. (byte, inr (inl (e, l)))) (out_one kind b e) (λ p c w y. inl (y.0, e, y.1)) (negsuc 0) (255 ∷ []) (255, [], refl, (lit< tt, lit≤ tt, (refl, refl))))
  | two e ↦ inl (with_code kind b (Signed 2 (2 ^ 15)) NoWhy (signed_at 2) (right_signed 2 (2 ^ 15) refl) (λ s. ap (λ c. int_after kind c s) e)
      (λ n t l. (byte, inr (inr (inl (e, l))))) (out_two kind b e) (λ p c w never. absurd never) (pos 0) (signed_bytes 2 (pos 0)) (lit< tt, refl))
  | four e ↦ inl (with_code kind b (Signed 4 (2 ^ 31)) NoWhy (signed_at 4) (right_signed 4 (2 ^ 31) refl) (λ s. ap (λ c. int_after kind c s) e)
      (λ n t l. (byte, inr (inr (inr (inl (e, l)))))) (out_four kind b e) (λ p c w never. absurd never) (pos 0) (signed_bytes 4 (pos 0)) (lit< tt, refl))
  | eight e ↦ eight_each kind b byte e
  | other ge far ↦ inr (no_code kind b ge (λ f. omega arith) (λ f. omega arith) (λ f. omega arith) (λ f h. omega arith) (λ s. grind arith))
]

-- the kinds' limits
limit_some : (kind : IntKind) → 2 ^ 31 ≤ limit_of kind
limit_some Int63 = lit≤ tt
limit_some Int32 = lit≤ tt
limit_some Int64 = lit≤ tt

int_some : (kind : IntKind) → Front (First (IntAfter kind)) []
int_some kind = (pos 0, 0 ∷ [], (0, [], refl, (lit< tt, inl (lit< tt, (refl, refl)))))

coded : (s t : List ℕ) (b c : ℕ) (x : List ℕ) → s ≡ b ∷ t → b ≡ c → t ≡ x → s ≡ c ∷ x
coded s t b c x cut e f = cc

-- one negative byte
minus_is : (n : ℤ) (t : List ℕ) → First Minus n t → IsNegative n × (extent n < 128) × (t ≡ signed_bytes 1 n)
minus_is n t (b, u, cut, (byte, le, (e, un))) =
    let low : 256 - suc (255 - b) ≡ b = omega arith in
    let byte_of : (256 - suc (255 - b)) % 256 ≡ b = omega arith in
    rw e (tt, omega arith, rw byte_of (cut ∙ ap (λ l. b ∷ l) un))

is_minus : (n : ℤ) → IsNegative n → extent n < 128 → First Minus n (signed_bytes 1 n)
is_minus (pos n) never lt = absurd never
is_minus (negsuc n) neg lt =
    let byte_of : (256 - suc n) % 256 ≡ 256 - suc n = omega arith in
    let back : n ≡ 255 - (256 - suc n) = omega arith in
    (256 - suc n, [], ap (λ m. m ∷ []) byte_of, (omega arith, omega arith, (ap (λ m. negsuc m) back, refl)))

int_into : (kind : IntKind) (n : ℤ) (s : List ℕ) → First (IntAfter kind) n s → IsInt kind n s
int_into kind n s (b, t, cut, (byte, inl (lt, (e, un)))) =
    let limit : 2 ^ 31 ≤ limit_of kind = limit_some kind in
    let small_enough : extent n ≡ b = ap extent e in
    (omega arith, inl (b, lt, e, cut ∙ ap (λ l. b ∷ l) un))
int_into kind n s (b, t, cut, (byte, inr (inl (e, l)))) =
    let limit : 2 ^ 31 ≤ limit_of kind = limit_some kind in
    let (neg, lt, bytes) = minus_is n t l in
    (omega arith, inr (inl (neg, lt, coded s t b 255 (signed_bytes 1 n) cut e bytes)))
int_into kind n s (b, t, cut, (byte, inr (inr (inl (e, (lt, bytes)))))) =
    let limit : 2 ^ 31 ≤ limit_of kind = limit_some kind in
    (omega arith, inr (inr (inl (lt, coded s t b 254 (signed_bytes 2 n) cut e bytes))))
int_into kind n s (b, t, cut, (byte, inr (inr (inr (inl (e, (lt, bytes))))))) =
    let limit : 2 ^ 31 ≤ limit_of kind = limit_some kind in
    (omega arith, inr (inr (inr (inl (lt, coded s t b 253 (signed_bytes 4 n) cut e bytes)))))
int_into kind n s (b, t, cut, (byte, inr (inr (inr (inr (e, has, (lt, bytes))))))) =
    (lt, inr (inr (inr (inr (has, coded s t b 252 (signed_bytes 8 n) cut e bytes)))))

int_out : (kind : IntKind) (n : ℤ) (s : List ℕ) → IsInt kind n s → First (IntAfter kind) n s
int_out kind n s (lt, inl (m, small_enough, e, cut)) = (m, [], cut, (omega arith, inl (small_enough, (e, refl))))
int_out kind n s (lt, inr (inl (neg, low, cut))) = (255, signed_bytes 1 n, cut, (lit< tt, inr (inl (refl, is_minus n neg low))))
int_out kind n s (lt, inr (inr (inl (low, cut)))) = (254, signed_bytes 2 n, cut, (lit< tt, inr (inr (inl (refl, (low, refl))))))
int_out kind n s (lt, inr (inr (inr (inl (low, cut))))) = (253, signed_bytes 4 n, cut, (lit< tt, inr (inr (inr (inl (refl, (low, refl)))))))
int_out kind n s (lt, inr (inr (inr (inr (has, cut))))) = (252, signed_bytes 8 n, cut, (lit< tt, inr (inr (inr (inr (refl, has, (lt, refl)))))))

pub right_int : (kind : IntKind) → Right IsByte Any (IsInt kind) IsIntFault (int_at kind)
unfolding int_at
right_int kind =
    right_same IsByte Any (First (IntAfter kind)) (IsInt kind) IsIntFault IsIntFault (int_at kind) (int_into kind) (int_out kind) (λ p b w y. y)
    (right_first IsByte Any (IntAfter kind) IsIntFault (int_after kind) (int_each kind) (λ b n t l. l.0) (int_some kind))
