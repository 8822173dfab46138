-- The reader of a nat0 is right about its forms.
use Rattle.std.proofs.Common.{◌≡◌, refl, sym, ap, ◌∙◌, subst, ℕ, zero, suc, ◌+◌, ◌-◌, ◌*◌, ◌/◌, ◌%◌, ◌^◌, ◌<◌, ◌≤◌, true, false, nat_lt, nat_le, if◌then◌else◌, List, [], ◌∷◌, length, ◌⊎◌, inl, inr, arith, lit<}
use Rattle.std.proofs.lemmas.Bool.{cases_lt}
use Rattle.readers.specs.Reader.{Outcome, whole, bad, mapped, IsByte, Any, Front, Right, Mapped, Done, First, first}
use Rattle.readers.proofs.Readers.{right_mapped, right_same, right_by, right_done, right_first, Continues, Stops}
use Rattle.readers.proofs.Leaves.{is_or, pick_true, pick_false}
use Rattle.bp_num.specs.declared.number.Why.{Why}
use Rattle.bp_num.specs.declared.number.Why.TheVariants.{Code, Length}
use Rattle.bp_num.specs.Forms.{little_endian, Payload, IsNat}
use Rattle.bp_num.specs.Reads.{width_of, Passes, IsNatFault}
use Rattle.bp_num.specs.NumberAt.{payload_at, nat_after, nat_at}
use Rattle.bp_num.proofs.Bytes.{pow-next, pow-some}
use Rattle.bp_num.proofs.FirstByte.{small, one, two, four, eight, other, first_byte}

-- ---- a payload of k bytes, at most m

-- its first byte, and the others under the limit that is left
abbrev Step : ℕ → ℕ → ℕ → ℕ → List ℕ → Type 0
Step k m b n t = (b < 256) × (b ≤ m) × Mapped (λ x. b + 256 * x) (Payload k ((m - b) / 256)) n t

abbrev step : ℕ → ℕ → ℕ → List ℕ → Outcome ℕ Why ℕ
step k m b s = if nat_le b m then mapped (λ x. b + 256 * x) (payload_at k ((m - b) / 256) s) else bad (length (b ∷ s)) Length

abbrev Tail : ℕ → ℕ → ℕ → ℕ → List ℕ → Type 0
Tail k m b n t = Mapped (λ x. b + 256 * x) (Payload k ((m - b) / 256)) n t

step_each : (k m : ℕ) → ((n : ℕ) → Right IsByte Any (Payload k n) (Passes k n) (payload_at k n)) → (b : ℕ) → b < 256
    → Continues IsByte Any (Step k m b) (λ p. Passes (suc k) m (b ∷ p)) (step k m b) ⊎ Stops (Step k m b) (Passes (suc k) m []) (step k m b) b
step_each k m inner b byte = elim (is_or (nat_le b m)) [ inl t ↦ inl (goes t) | inr f ↦ inr (stops f) ]
  where
    goes : nat_le b m ≡ true → Continues IsByte Any (Step k m b) (λ p. Passes (suc k) m (b ∷ p)) (step k m b)
    goes t =
        let le : b ≤ m = grind arith in
        record {
          right = right_same IsByte Any (Tail k m b) (Step k m b) (Passes k ((m - b) / 256)) (λ p. Passes (suc k) m (b ∷ p)) (step k m b)
              (λ n s l. (byte, le, l)) (λ n s l. l.2) (λ p c w y. (y.0, omega (arith, y.1), omega (arith, y.2)))
              (right_by IsByte Any (Tail k m b) (Passes k ((m - b) / 256)) (λ s. mapped (λ x. b + 256 * x) (payload_at k ((m - b) / 256) s)) (step k m b)
              (λ s. sym (pick_true (nat_le b m) _ _ t))
              (right_mapped IsByte Any (λ x. b + 256 * x) (Payload k ((m - b) / 256)) (Passes k ((m - b) / 256)) (payload_at k ((m - b) / 256)) (inner ((m - b) / 256))));
          value = b + 256 * 0;
          text = little_endian k 0;
          start = (byte, le, (0, refl, (omega arith, pow-some k, refl)));
        }

    stops : nat_le b m ≡ false → Stops (Step k m b) (Passes (suc k) m []) (step k m b) b
    stops f =
        let lt : m < b = grind arith in
        record { reason = Length; is = λ s. pick_false (nat_le b m) _ _ f; none = λ n t l. let le : b ≤ m = l.1 in omega arith; why = (refl, omega arith, omega arith) }

pub right_payload : (k m : ℕ) → Right IsByte Any (Payload k m) (Passes k m) (payload_at k m)
right_payload zero m =
    right_same IsByte Any (Done 0) (Payload 0 m) (Passes 0 m) (Passes 0 m) (payload_at 0 m) (λ n s l. (grind (arith, l.0), grind (arith, l.0), l.1)) (λ n s l. (omega (arith, l.1), l.2)) (λ p b w y. y)
    (right_done IsByte 0 (Passes 0 m))
right_payload (suc k) m =
    right_same IsByte Any (First (Step k m)) (Payload (suc k) m) (Passes (suc k) m) (Passes (suc k) m) (payload_at (suc k) m) into out (λ p b w y. y)
    (right_by IsByte Any (First (Step k m)) (Passes (suc k) m) (first (step k m)) (payload_at (suc k) m) same
    (right_first IsByte Any (Step k m) (Passes (suc k) m) (step k m) (step_each k m (λ n. right_payload k n)) (λ b n t l. l.0) (start k m)))
  where
    same : (s : List ℕ) → first (step k m) s ≡ payload_at (suc k) m s
    same [] = refl
    same (b ∷ s) = refl

    start : (k m : ℕ) → Front (First (Step k m)) []
    start k m = (0, 0 ∷ little_endian k 0, (0, little_endian k 0, refl, (omega arith, omega arith, (0, refl, (omega arith, pow-some k, refl)))))

    into : (n : ℕ) (s : List ℕ) → First (Step k m) n s → Payload (suc k) m n s
    into n s (b, t, cut, (byte, le, (x, at, (xle, xlt, tx)))) =
        let power : 256 ^ suc k ≡ 256 * 256 ^ k = pow-next k in
        let low : n % 256 ≡ b = omega arith in
        let high : n / 256 ≡ x = omega arith in
        (omega arith, omega arith, rw (low, high) (cut ∙ ap (λ l. b ∷ l) tx))

    out : (n : ℕ) (s : List ℕ) → Payload (suc k) m n s → First (Step k m) n s
    out n s (le, lt, sx) =
        let power : 256 ^ suc k ≡ 256 * 256 ^ k = pow-next k in
        (n % 256, little_endian k (n / 256), sx, (omega arith, omega arith, (n / 256, omega arith, (omega arith, omega arith, refl))))

-- ---- a first byte: the number, or a code and its payload

abbrev pub NatAfter : ℕ → ℕ → ℕ → List ℕ → Type 0
NatAfter m b n t = (b < 256) × ((b < 128) × (b ≤ m) × Done b n t
    ⊎ (b ≡ 254) × Payload 2 m n t ⊎ (b ≡ 253) × Payload 4 m n t ⊎ (b ≡ 252) × Payload 8 m n t)

nat_some : (m : ℕ) → Front (First (NatAfter m)) []
nat_some m = (0, 0 ∷ [], (0, [], refl, (lit< tt, inl (lit< tt, omega arith, (refl, refl)))))

-- a code, with the payload that follows it
with_payload : (m b k : ℕ) → k ≡ width_of b → ((s : List ℕ) → nat_after m b s ≡ payload_at k m s)
    → ((n : ℕ) (t : List ℕ) → Payload k m n t → NatAfter m b n t)
    → ((n : ℕ) (t : List ℕ) → NatAfter m b n t → Payload k m n t) → Continues IsByte Any (NatAfter m b) (λ p. IsNatFault m (b ∷ p)) (nat_after m b)
with_payload m b k width same into out = record {
  right = right_same IsByte Any (Payload k m) (NatAfter m b) (Passes k m) (λ p. IsNatFault m (b ∷ p)) (nat_after m b) into out (λ p c w y. (y.0, subst (λ j. length p < j) width y.1, y.2))
      (right_by IsByte Any (Payload k m) (Passes k m) (payload_at k m) (nat_after m b) (λ s. sym (same s)) (right_payload k m));
  value = 0;
  text = little_endian k 0;
  start = into 0 (little_endian k 0) (omega arith, pow-some k, refl);
}

nat_each : (m b : ℕ) → b < 256
    → Continues IsByte Any (NatAfter m b) (λ p. IsNatFault m (b ∷ p)) (nat_after m b) ⊎ Stops (NatAfter m b) (IsNatFault m []) (nat_after m b) b
nat_each m b byte = elim (first_byte b) [
  | small lt ↦ elim (cases_lt m b) [ inl past ↦ inr (too_large lt past) | inr le ↦ inl (itself lt le) ]
  | one e ↦ inr (no_code (omega arith) (λ f. omega arith) (λ f. omega arith) (λ f. omega arith) (λ s. ap (λ c. nat_after m c s) e ∙ ap (λ c. bad (length (c ∷ s)) Code) (sym e)))
  | two e ↦ inl (with_payload m b 2 (sym (ap width_of e)) (λ s. ap (λ c. nat_after m c s) e) (λ n t l. (byte, inr (inl (e, l)))) (out_two e))
  | four e ↦ inl (with_payload m b 4 (sym (ap width_of e)) (λ s. ap (λ c. nat_after m c s) e) (λ n t l. (byte, inr (inr (inl (e, l))))) (out_four e))
  | eight e ↦ inl (with_payload m b 8 (sym (ap width_of e)) (λ s. ap (λ c. nat_after m c s) e) (λ n t l. (byte, inr (inr (inr (e, l))))) (out_eight e))
  | other ge far ↦ inr (no_code ge (λ f. omega arith) (λ f. omega arith) (λ f. omega arith) (λ s. grind arith))
]
  where
    itself : b < 128 → b ≤ m → Continues IsByte Any (NatAfter m b) (λ p. IsNatFault m (b ∷ p)) (nat_after m b)
    itself lt le = record {
      right = right_same IsByte Any (Done b) (NatAfter m b) (λ p. IsNatFault m (b ∷ p)) (λ p. IsNatFault m (b ∷ p)) (nat_after m b) (λ n t d. (byte, inl (lt, le, d))) out (λ p c w y. y)
          (right_by IsByte Any (Done b) (λ p. IsNatFault m (b ∷ p)) (λ s. whole b s) (nat_after m b)
          (λ s. sym (pick_true (nat_lt b 128) _ _ (grind arith) ∙ pick_true (nat_le b m) _ _ (grind arith))) (right_done IsByte b (λ p. IsNatFault m (b ∷ p))));
      value = b;
      text = [];
      start = (byte, inl (lt, le, (refl, refl)));
    }
      where
        out : (n : ℕ) (t : List ℕ) → NatAfter m b n t → Done b n t
        out n t (v, inl x) = x.2
        out n t (v, inr (inl x)) = absurd (omega (arith, x.0))
        out n t (v, inr (inr (inl x))) = absurd (omega (arith, x.0))
        out n t (v, inr (inr (inr x))) = absurd (omega (arith, x.0))

    too_large : b < 128 → m < b → Stops (NatAfter m b) (IsNatFault m []) (nat_after m b) b
    too_large lt past = record {
      reason = Length;
      is = λ s. pick_true (nat_lt b 128) _ _ (grind arith) ∙ pick_false (nat_le b m) _ _ (grind arith);
      none = none;
      why = inr (refl, lt);
    }
      where
        none : (n : ℕ) (t : List ℕ) → NatAfter m b n t → ⊥
        none n t (v, inl x) = omega (arith, x.1)
        none n t (v, inr (inl x)) = omega (arith, x.0)
        none n t (v, inr (inr (inl x))) = omega (arith, x.0)
        none n t (v, inr (inr (inr x))) = omega (arith, x.0)

    no_code : 128 ≤ b → (b ≡ 254 → ⊥) → (b ≡ 253 → ⊥) → (b ≡ 252 → ⊥)
        → ((s : List ℕ) → nat_after m b s ≡ bad (length (b ∷ s)) Code)
        → Stops (NatAfter m b) (IsNatFault m []) (nat_after m b) b
    no_code ge no_two no_four no_eight is = record { reason = Code; is = is; none = none; why = inl (refl, ge) }
      where
        none : (n : ℕ) (t : List ℕ) → NatAfter m b n t → ⊥
        none n t (v, inl x) = omega (arith, x.0)
        none n t (v, inr (inl x)) = no_two x.0
        none n t (v, inr (inr (inl x))) = no_four x.0
        none n t (v, inr (inr (inr x))) = no_eight x.0

    out_two : b ≡ 254 → (n : ℕ) (t : List ℕ) → NatAfter m b n t → Payload 2 m n t
    out_two e n t (v, inl x) = absurd (omega (arith, x.0))
    out_two e n t (v, inr (inl x)) = x.1
    out_two e n t (v, inr (inr (inl x))) = absurd (omega (arith, x.0))
    out_two e n t (v, inr (inr (inr x))) = absurd (omega (arith, x.0))

    out_four : b ≡ 253 → (n : ℕ) (t : List ℕ) → NatAfter m b n t → Payload 4 m n t
    out_four e n t (v, inl x) = absurd (omega (arith, x.0))
    out_four e n t (v, inr (inl x)) = absurd (omega (arith, x.0))
    out_four e n t (v, inr (inr (inl x))) = x.1
    out_four e n t (v, inr (inr (inr x))) = absurd (omega (arith, x.0))

    out_eight : b ≡ 252 → (n : ℕ) (t : List ℕ) → NatAfter m b n t → Payload 8 m n t
    out_eight e n t (v, inl x) = absurd (omega (arith, x.0))
    out_eight e n t (v, inr (inl x)) = absurd (omega (arith, x.0))
    out_eight e n t (v, inr (inr (inl x))) = absurd (omega (arith, x.0))
    out_eight e n t (v, inr (inr (inr x))) = x.1

pub right_nat : (m : ℕ) → Right IsByte Any (IsNat m) (IsNatFault m) (nat_at m)
unfolding nat_at
right_nat m =
    right_same IsByte Any (First (NatAfter m)) (IsNat m) (IsNatFault m) (IsNatFault m) (nat_at m) into out (λ p b w y. y)
    (right_first IsByte Any (NatAfter m) (IsNatFault m) (nat_after m) (nat_each m) (λ b n t l. l.0) (nat_some m))
  where
    alone : (s t : List ℕ) (b n : ℕ) → s ≡ b ∷ t → n ≡ b → t ≡ [] → s ≡ n ∷ []
    alone s t b n cut e f = cc

    into : (n : ℕ) (s : List ℕ) → First (NatAfter m) n s → IsNat m n s
    into n s (b, t, cut, (byte, inl (lt, le, (e, f)))) = inl (omega arith, omega arith, alone s t b n cut e f)
    into n s (b, t, cut, (byte, inr (inl (e, l)))) = inr (inl (t, cut ∙ ap (λ c. c ∷ t) e, l))
    into n s (b, t, cut, (byte, inr (inr (inl (e, l))))) = inr (inr (inl (t, cut ∙ ap (λ c. c ∷ t) e, l)))
    into n s (b, t, cut, (byte, inr (inr (inr (e, l))))) = inr (inr (inr (t, cut ∙ ap (λ c. c ∷ t) e, l)))

    out : (n : ℕ) (s : List ℕ) → IsNat m n s → First (NatAfter m) n s
    out n s (inl (lt, le, e)) = (n, [], e, (omega arith, inl (lt, le, (refl, refl))))
    out n s (inr (inl (t, cut, l))) = (254, t, cut, (lit< tt, inr (inl (refl, l))))
    out n s (inr (inr (inl (t, cut, l)))) = (253, t, cut, (lit< tt, inr (inr (inl (refl, l)))))
    out n s (inr (inr (inr (t, cut, l)))) = (252, t, cut, (lit< tt, inr (inr (inr (refl, l)))))
