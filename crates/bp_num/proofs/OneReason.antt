-- Each place of a number has one reason.
use Rattle.std.proofs.Common.{◌≡◌, refl, sym, ap, ◌∙◌, subst, ℕ, ℤ, ◌<◌, List, [], ◌∷◌, ◌++◌, length, inl, inr, arith}
use Rattle.std.proofs.lemmas.List.{length-append}
use Rattle.readers.specs.Reader.{Tells}
use Rattle.bp_num.specs.declared.number.IntKind.{IntKind}
use Rattle.bp_num.specs.declared.number.Why.{Why}
use Rattle.bp_num.specs.Forms.{signed_bytes, Payload, IsNat, IsInt}
use Rattle.bp_num.specs.Reads.{width_of, Passes, IsNatFault, IsIntFault}
use Rattle.bp_num.proofs.Shortest.{length-little_endian}
use Rattle.bp_num.proofs.SignedBytes.{length-signed_bytes}

-- ---- a payload

payload_silent : (k max n : ℕ) (t q : List ℕ) (b : ℕ) (w : Why) → Payload k max n t → Passes k max (t ++ q) b w → ⊥
payload_silent k max n t q b w l x = omega (arith, ap length l.2 ∙ length-little_endian k n, length-append t q, x.1)

pub tells_payload : (k max : ℕ) → Tells (Payload k max) (Passes k max)
tells_payload k max = record { one = λ p b v w x y. x.0 ∙ sym y.0; silent = λ n t q b w. payload_silent k max n t q b w }

-- ---- a nat0

pub nat_reason : (max : ℕ) (p : List ℕ) (b : ℕ) (v w : Why) → IsNatFault max p b v → IsNatFault max p b w → v ≡ w
nat_reason max [] b v w (inl x) (inl y) = x.0 ∙ sym y.0
nat_reason max [] b v w (inl x) (inr y) = absurd (omega (arith, x.1, y.1))
nat_reason max [] b v w (inr x) (inl y) = absurd (omega (arith, x.1, y.1))
nat_reason max [] b v w (inr x) (inr y) = x.0 ∙ sym y.0
nat_reason max (c ∷ p) b v w x y = x.0 ∙ sym y.0

no_width : (n : ℕ) → n < 128 → width_of n ≡ 0
no_width n lt = grind arith

-- after a code the payload's reasons are silent
code_silent : (code k max n : ℕ) (s t q : List ℕ) (b : ℕ) (w : Why) → width_of code ≡ k → s ≡ code ∷ t → Payload k max n t → IsNatFault max (s ++ q) b w → ⊥
code_silent code k max n s t q b w width cut l x =
    let y : IsNatFault max (code ∷ (t ++ q)) b w = subst (λ z. IsNatFault max (z ++ q) b w) cut x in
    payload_silent k max n t q b w l (subst (λ j. Passes j max (t ++ q) b w) width y)

nat_silent : (max n : ℕ) (s q : List ℕ) (b : ℕ) (w : Why) → IsNat max n s → IsNatFault max (s ++ q) b w → ⊥
nat_silent max n s q b w (inl (lt, le, cut)) x =
    let y : IsNatFault max (n ∷ q) b w = subst (λ z. IsNatFault max (z ++ q) b w) cut x in
    omega (arith, no_width n lt, y.1)
nat_silent max n s q b w (inr (inl (t, cut, l))) x = code_silent 254 2 max n s t q b w refl cut l x
nat_silent max n s q b w (inr (inr (inl (t, cut, l)))) x = code_silent 253 4 max n s t q b w refl cut l x
nat_silent max n s q b w (inr (inr (inr (t, cut, l)))) x = code_silent 252 8 max n s t q b w refl cut l x

pub tells_nat : (max : ℕ) → Tells (IsNat max) (IsNatFault max)
tells_nat max = record { one = nat_reason max; silent = λ n s q b w. nat_silent max n s q b w }

-- ---- an int

pub int_reason : (p : List ℕ) (b : ℕ) (v w : Why) → IsIntFault p b v → IsIntFault p b w → v ≡ w
int_reason [] b v w x y = x ∙ sym y
int_reason (c ∷ p) b v w (inl x) (inl y) = x.0 ∙ sym y.0
int_reason (c ∷ p) b v w (inl x) (inr y) = absurd (omega (arith, x.1, y.1))
int_reason (c ∷ p) b v w (inr x) (inl y) = absurd (omega (arith, x.1, y.1))
int_reason (c ∷ p) b v w (inr x) (inr y) = x.0 ∙ sym y.0

-- a code and a payload that its reasons do not reach
code_past : (c k : ℕ) (s t q : List ℕ) (b : ℕ) (w : Why) → s ≡ c ∷ t → length t ≡ k → (c ≡ 255 → k ≡ 0 → ⊥) → (c ≡ 252 → k < 8 → ⊥) → IsIntFault (s ++ q) b w → ⊥
code_past c k s t q b w cut len one eight x = go (subst (λ z. IsIntFault (z ++ q) b w) cut x)
  where
    go : IsIntFault (c ∷ (t ++ q)) b w → ⊥
    go (inl y) = one y.1 (omega (arith, ap length y.2, length-append t q))
    go (inr y) = eight y.1 (omega (arith, y.2, length-append t q))

int_silent : (kind : IntKind) (n : ℤ) (s q : List ℕ) (b : ℕ) (w : Why) → IsInt kind n s → IsIntFault (s ++ q) b w → ⊥
int_silent kind n s q b w (lt, inl (m, small, e, cut)) x = code_past m 0 s [] q b w cut refl (λ c z. omega arith) (λ c z. omega arith) x
int_silent kind n s q b w (lt, inr (inl (neg, small, cut))) x = code_past 255 1 s (signed_bytes 1 n) q b w cut (length-signed_bytes 1 n) (λ c z. omega arith) (λ c z. omega arith) x
int_silent kind n s q b w (lt, inr (inr (inl (small, cut)))) x = code_past 254 2 s (signed_bytes 2 n) q b w cut (length-signed_bytes 2 n) (λ c z. omega arith) (λ c z. omega arith) x
int_silent kind n s q b w (lt, inr (inr (inr (inl (small, cut))))) x = code_past 253 4 s (signed_bytes 4 n) q b w cut (length-signed_bytes 4 n) (λ c z. omega arith) (λ c z. omega arith) x
int_silent kind n s q b w (lt, inr (inr (inr (inr (has, cut))))) x = code_past 252 8 s (signed_bytes 8 n) q b w cut (length-signed_bytes 8 n) (λ c z. omega arith) (λ c z. omega arith) x

pub tells_int : (kind : IntKind) → Tells (IsInt kind) IsIntFault
tells_int kind = record { one = int_reason; silent = λ n s q b w. int_silent kind n s q b w }
