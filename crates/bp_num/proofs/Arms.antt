-- What reading gives by the first byte.
use Rattle.std.proofs.Common.{◌≡◌, refl, sym, ap, ◌∙◌, subst, ℕ, ℤ, pos, suc, ◌-◌, ◌<◌, ◌≤◌, true, false, nat_lt, nat_le, List, [], ◌∷◌, length, take, drop, get_or, Fits, w8, arith}
use Rattle.readers.specs.Reader.{Outcome, bad, mapped, Each, IsByte}
use Rattle.readers.proofs.Leaves.{pick_true, pick_false}
use Rattle.bp_num.specs.declared.number.IntKind.{IntKind}
use Rattle.bp_num.specs.declared.number.NumRead.{NumRead}
use Rattle.bp_num.specs.declared.number.NumRead.TheVariants.{Done, More, Bad}
use Rattle.bp_num.specs.declared.number.Why.{Why}
use Rattle.bp_num.specs.declared.number.Why.TheVariants.{Code, Length}
use Rattle.bp_num.specs.Reads.{IsNatRead, IsIntRead}
use Rattle.bp_num.specs.NumberAt.{answer, nat_at, nat_after, int_at, int_after}
use Rattle.bp_num.proofs.Payloads.{bytes_are, take_whole}
use Rattle.bp_num.proofs.Told.{nat_told, nat_only, int_told, int_only}

-- both clauses of a reader
abbrev pub NatExact : ℕ → List ℕ → NumRead → Type 0
NatExact max s r = IsNatRead max s r × ((a : NumRead) → IsNatRead max s a → a ≡ r)

abbrev pub IntExact : IntKind → List ℕ → NumRead → Type 0
IntExact kind s r = IsIntRead kind s r × ((a : NumRead) → IsIntRead kind s a → a ≡ r)

nat_exact : (max : ℕ) (s : List ℕ) (r : NumRead) → Each IsByte s → r ≡ answer (length s) (mapped pos (nat_at max s))
    → NatExact max s r
nat_exact max s r vs e = (subst (λ x. IsNatRead max s x) (sym e) (nat_told max s vs), λ a is. nat_only max s vs a is ∙ sym e)

int_exact : (kind : IntKind) (s : List ℕ) (r : NumRead) → Each IsByte s → r ≡ answer (length s) (int_at kind s)
    → IntExact kind s r
int_exact kind s r vs e = (subst (λ x. IsIntRead kind s x) (sym e) (int_told kind s vs), λ a is. int_only kind s vs a is ∙ sym e)

-- what stands after the first byte, as the code sees it
abbrev pub tail_of : List ℕ → List ℕ
tail_of s = take (length s - 1) (drop 1 s)

tail_is : (b : ℕ) (t : List ℕ) → tail_of (b ∷ t) ≡ t
tail_is b [] = refl
tail_is b (c ∷ t) = take_whole (length (b ∷ c ∷ t) - 1) (c ∷ t) (omega arith)

-- ---- a nat0

pub nat_none : (max : ℕ) (s : List ℕ) → length s ≡ 0 → NatExact max s More
unfolding nat_at
nat_none max [] len = nat_exact max [] More tt refl
nat_none max (b ∷ s) len = absurd (omega arith)

-- a code, and a reading of what follows it
pub nat_code : (max code : ℕ) (s : List ℕ) (r : NumRead) (q : List ℕ → Outcome ℕ Why ℕ) → ((i : ℕ) → Fits w8 (get_or s i 0))
    → 1 ≤ length s → get_or s 0 0 ≡ code
    → ((t : List ℕ) → nat_after max code t ≡ q t) → r ≡ answer (suc (length (tail_of s))) (mapped pos (q (tail_of s))) → NatExact max s r
unfolding nat_at
nat_code max code [] r q bytes len is same e = absurd (omega arith)
nat_code max code (b ∷ t) r q bytes len is same e =
    nat_exact max (b ∷ t) r (bytes_are (b ∷ t) bytes)
    (e ∙ (ap (λ x. answer (suc (length x)) (mapped pos (q x))) (tail_is b t)
    ∙ (ap (λ o. answer (suc (length t)) (mapped pos o)) (sym (same t)) ∙ ap (λ c. answer (suc (length t)) (mapped pos (nat_after max c t))) (sym is))))

-- a number of its own, or above the limit
small_lt : (b : ℕ) → b < 128 → nat_lt b 128 ≡ true
small_lt b lt = grind arith

pub nat_small : (max : ℕ) (s : List ℕ) (z : ℤ) → ((i : ℕ) → Fits w8 (get_or s i 0)) → 1 ≤ length s → get_or s 0 0 < 128
    → get_or s 0 0 ≤ max → z ≡ pos (get_or s 0 0) → NatExact max s (Done z 1)
unfolding nat_at
nat_small max [] z bytes len lt le is = absurd (omega arith)
nat_small max (b ∷ t) z bytes len lt le is =
    let used : 1 ≡ suc (length t) - length t = omega arith in
    nat_exact max (b ∷ t) (Done z 1) (bytes_are (b ∷ t) bytes)
    (ap (λ y. Done y 1) is ∙ (ap (λ j. Done (pos b) j) used
    ∙ sym (ap (λ o. answer (suc (length t)) (mapped pos o)) (pick_true (nat_lt b 128) _ _ (small_lt b lt) ∙ pick_true (nat_le b max) _ _ (fits b le)))))
  where
    fits : (b : ℕ) → b ≤ max → nat_le b max ≡ true
    fits b le = grind arith

pub nat_long : (max : ℕ) (s : List ℕ) → ((i : ℕ) → Fits w8 (get_or s i 0)) → 1 ≤ length s → get_or s 0 0 < 128
    → max < get_or s 0 0 → NatExact max s (Bad 0 Length)
unfolding nat_at
nat_long max [] bytes len lt past = absurd (omega arith)
nat_long max (b ∷ t) bytes len lt past =
    let at : 0 ≡ suc (length t) - length (b ∷ t) = omega arith in
    nat_exact max (b ∷ t) (Bad 0 Length) (bytes_are (b ∷ t) bytes)
    (ap (λ j. Bad j Length) at
    ∙ sym (ap (λ o. answer (suc (length t)) (mapped pos o)) (pick_true (nat_lt b 128) _ _ (small_lt b lt) ∙ pick_false (nat_le b max) _ _ (over b past))))
  where
    over : (b : ℕ) → max < b → nat_le b max ≡ false
    over b past = grind arith

-- no number and no code
pub nat_other : (max : ℕ) (s : List ℕ) → ((i : ℕ) → Fits w8 (get_or s i 0)) → 1 ≤ length s → 128 ≤ get_or s 0 0
    → (get_or s 0 0 ≡ 254 → ⊥) → (get_or s 0 0 ≡ 253 → ⊥) → (get_or s 0 0 ≡ 252 → ⊥)
    → NatExact max s (Bad 0 Code)
unfolding nat_at
nat_other max [] bytes len ge no_two no_four no_eight = absurd (omega arith)
nat_other max (b ∷ t) bytes len ge no_two no_four no_eight =
    let at : 0 ≡ suc (length t) - length (b ∷ t) = omega arith in
    nat_exact max (b ∷ t) (Bad 0 Code) (bytes_are (b ∷ t) bytes)
    (ap (λ j. Bad j Code) at ∙ sym (ap (λ o. answer (suc (length t)) (mapped pos o)) (no_code b ge no_two no_four no_eight)))
  where
    no_code : (b : ℕ) → 128 ≤ b → (b ≡ 254 → ⊥) → (b ≡ 253 → ⊥) → (b ≡ 252 → ⊥) → nat_after max b t ≡ bad (length (b ∷ t)) Code
    no_code b ge no_two no_four no_eight = grind arith

-- ---- an int

pub int_none : (kind : IntKind) (s : List ℕ) → length s ≡ 0 → IntExact kind s More
unfolding int_at
int_none kind [] len = int_exact kind [] More tt refl
int_none kind (b ∷ s) len = absurd (omega arith)

pub int_code : (kind : IntKind) (code : ℕ) (s : List ℕ) (r : NumRead) (q : List ℕ → Outcome ℕ Why ℤ)
    → ((i : ℕ) → Fits w8 (get_or s i 0)) → 1 ≤ length s → get_or s 0 0 ≡ code
    → ((t : List ℕ) → int_after kind code t ≡ q t) → r ≡ answer (suc (length (tail_of s))) (q (tail_of s)) → IntExact kind s r
unfolding int_at
int_code kind code [] r q bytes len is same e = absurd (omega arith)
int_code kind code (b ∷ t) r q bytes len is same e =
    int_exact kind (b ∷ t) r (bytes_are (b ∷ t) bytes)
    (e ∙ (ap (λ x. answer (suc (length x)) (q x)) (tail_is b t)
    ∙ (ap (λ o. answer (suc (length t)) o) (sym (same t)) ∙ ap (λ c. answer (suc (length t)) (int_after kind c t)) (sym is))))

pub int_small : (kind : IntKind) (s : List ℕ) (z : ℤ) → ((i : ℕ) → Fits w8 (get_or s i 0)) → 1 ≤ length s
    → get_or s 0 0 < 128 → z ≡ pos (get_or s 0 0) → IntExact kind s (Done z 1)
unfolding int_at
int_small kind [] z bytes len lt is = absurd (omega arith)
int_small kind (b ∷ t) z bytes len lt is =
    let used : 1 ≡ suc (length t) - length t = omega arith in
    int_exact kind (b ∷ t) (Done z 1) (bytes_are (b ∷ t) bytes)
    (ap (λ y. Done y 1) is ∙ (ap (λ j. Done (pos b) j) used ∙ sym (ap (λ o. answer (suc (length t)) o) (pick_true (nat_lt b 128) _ _ (small_lt b lt)))))

pub int_other : (kind : IntKind) (s : List ℕ) → ((i : ℕ) → Fits w8 (get_or s i 0)) → 1 ≤ length s → 128 ≤ get_or s 0 0
    → (get_or s 0 0 ≡ 255 → ⊥) → (get_or s 0 0 ≡ 254 → ⊥) → (get_or s 0 0 ≡ 253 → ⊥)
    → (get_or s 0 0 ≡ 252 → ⊥) → IntExact kind s (Bad 0 Code)
unfolding int_at
int_other kind [] bytes len ge no_one no_two no_four no_eight = absurd (omega arith)
int_other kind (b ∷ t) bytes len ge no_one no_two no_four no_eight =
    let at : 0 ≡ suc (length t) - length (b ∷ t) = omega arith in
    int_exact kind (b ∷ t) (Bad 0 Code) (bytes_are (b ∷ t) bytes)
    (ap (λ j. Bad j Code) at ∙ sym (ap (λ o. answer (suc (length t)) o) (no_code b ge no_one no_two no_four no_eight)))
  where
    no_code : (b : ℕ) → 128 ≤ b → (b ≡ 255 → ⊥) → (b ≡ 254 → ⊥) → (b ≡ 253 → ⊥) → (b ≡ 252 → ⊥)
        → int_after kind b t ≡ bad (length (b ∷ t)) Code
    no_code b ge no_one no_two no_four no_eight = grind arith
