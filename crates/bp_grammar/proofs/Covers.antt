-- Texts that have at least as many symbols as something that is counted of their values.
use Rattle.std.proofs.Common.{◌≡◌, Bool, true, false, ℕ, zero, suc, ◌+◌, ◌≤◌, List, [], ◌∷◌, ◌++◌, length, inl, inr, Option, Some, arith}
use Rattle.std.specs.List.{sum_by}
use Rattle.std.proofs.lemmas.List.{length-append}
use Rattle.std.proofs.lemmas.List.Sums.{sum_by-cons}
use Rattle.readers.specs.Reader.{Any, Then, Mapped, Done, One, Count, Symbols}
use Rattle.readers.specs.Keys.{Keyed, AllLong}
use Rattle.bp_num.specs.declared.number.IntKind.{IntKind}
use Rattle.bp_num.specs.Forms.{IsNat, IsInt}
use Rattle.bp_grammar.specs.Spells.{flag_of, Counted, Sized, AtFlag}

-- a text of a, with k symbols before it, has at least n a symbols
abbrev pub Covers : {A : Type 0} → ℕ → (A → ℕ) → (A → List ℕ → Type 0) → Type 0
Covers {A = A} k n L = (a : A) (s : List ℕ) → L a s → n a ≤ k + length s

-- ---- of what is put together

pub covers_mapped : {A B : Type 0} (k : ℕ) (n : B → ℕ) (j : A → ℕ) (g : A → B) (L : A → List ℕ → Type 0) → ((a : A) → n (g a) ≤ k + j a) → Covers 0 j L → Covers k n (Mapped g L)
covers_mapped k n j g L most covers b s (a, e, l) =
    let le : n (g a) ≤ k + j a = most a in
    let long : j a ≤ 0 + length s = covers a s l in
    rw e (omega arith)

-- the first text has at least k symbols
pub covers_then : {A B : Type 0} (k : ℕ) (n : B → ℕ) (L : A → List ℕ → Type 0) (M : A → B → List ℕ → Type 0) → Covers 0 (λ a. k) L → ((a : A) → Covers k n (M a)) → Covers 0 n (Then L M)
covers_then k n L M first second b s (a, t, u, cut, l, m) =
    let before : k ≤ 0 + length t = first a t l in
    let behind : n b ≤ k + length u = second a b u m in
    let whole : length (t ++ u) ≡ length t + length u = length-append t u in
    rw cut (omega arith)

-- a value, and those after it
pub covers_cons : {A : Type 0} (n : A → ℕ) (L : A → List ℕ → Type 0) (M : List A → List ℕ → Type 0) → Covers 0 n L → Covers 0 (sum_by n) M
    → Covers 0 (sum_by n) (Then L (λ v. Mapped (λ us. v ∷ us) M))
covers_cons n L M first rest vs s (v, t, u, cut, l, (us, is, m)) =
    let here : n v ≤ 0 + length t = first v t l in
    let there : sum_by n us ≤ 0 + length u = rest us u m in
    let whole : length (t ++ u) ≡ length t + length u = length-append t u in
    rw (cut, is, sum_by-cons n v us) (omega arith)

pub covers_done : {A : Type 0} (k : ℕ) (n : A → ℕ) (x : A) → n x ≤ k → Covers k n (Done x)
covers_done k n x le a s (is, nil) = rw (is, nil) (omega arith)

pub covers_count : {A : Type 0} (n : A → ℕ) (L : A → List ℕ → Type 0) → Covers 0 n L → (i : ℕ) → Covers 0 (sum_by n) (Count L i)
covers_count n L covers zero = covers_done 0 (sum_by n) [] (omega arith)
covers_count n L covers (suc i) = covers_cons n L (Count L i) covers (covers_count n L covers i)

-- so many texts, each with a symbol
pub covers_each : {A : Type 0} (L : A → List ℕ → Type 0) → Covers 0 (λ a. 1) L → (i : ℕ) → Covers 0 (λ vs. i) (Count L i)
covers_each L covers zero = covers_done 0 (λ vs. 0) [] (omega arith)
covers_each L covers (suc i) =
    covers_then 1 (λ vs. suc i) L (λ v. Mapped (λ us. v ∷ us) (Count L i)) covers
    (λ v. covers_mapped 1 (λ vs. suc i) (λ us. i) (λ us. v ∷ us) (Count L i) (λ us. omega arith) (covers_each L covers i))

-- what counts less
pub covers_less : {A : Type 0} (k : ℕ) (n j : A → ℕ) (L : A → List ℕ → Type 0) → ((a : A) → n a ≤ j a) → Covers k j L → Covers k n L
covers_less k n j L le covers a s l =
    let fewer : n a ≤ j a = le a in
    let long : j a ≤ k + length s = covers a s l in
    omega arith

-- ---- what has a symbol

pub covers_one : {A : Type 0} (n : A → ℕ) (h : ℕ → Option A) → ((b : ℕ) (a : A) → h b ≡ Some a → n a ≤ 1) → Covers 0 n (One h)
covers_one n h most a s (b, is, e) = let le : n a ≤ 1 = most b a e in rw is (omega arith)

pub covers_symbol : {A : Type 0} (h : ℕ → Option A) → Covers 0 (λ a. 1) (One h)
covers_symbol h = covers_one (λ a. 1) h (λ b a e. omega arith)

pub covers_key : (i : ℕ) (ks : List (ℕ × List ℕ)) → AllLong i ks → Covers 0 (λ place. i) (Keyed ks)
covers_key i [] long place s k = absurd k
covers_key i (key ∷ ks) long place s (inl x) = let same : s ≡ key.1 = x.1 in let e : length key.1 ≡ i = long.0 in rw same (omega arith)
covers_key i (key ∷ ks) long place s (inr x) = covers_key i ks long.1 place s x

pub covers_nat : (m : ℕ) → Covers 0 (λ n. 1) (IsNat m)
covers_nat m n s (inl x) = let is : s ≡ n ∷ [] = x.2 in rw is (omega arith)
covers_nat m n s (inr (inl (t, is, x))) = rw is (omega arith)
covers_nat m n s (inr (inr (inl (t, is, x)))) = rw is (omega arith)
covers_nat m n s (inr (inr (inr (t, is, x)))) = rw is (omega arith)

pub covers_int : (kind : IntKind) → Covers 0 (λ n. 1) (IsInt kind)
covers_int kind n s (fits, inl (m, low, e, is)) = rw is (omega arith)
covers_int kind n s (fits, inr (inl x)) = let is = x.2 in rw is (omega arith)
covers_int kind n s (fits, inr (inr (inl x))) = let is = x.1 in rw is (omega arith)
covers_int kind n s (fits, inr (inr (inr (inl x)))) = let is = x.1 in rw is (omega arith)
covers_int kind n s (fits, inr (inr (inr (inr x)))) = let is = x.1 in rw is (omega arith)

-- ---- a length or a flag, and what it lets follow

pub covers_sized : (m : ℕ) → Covers 0 (λ t. 1) (Sized m)
covers_sized m = covers_then 1 (λ t. 1) (IsNat m) (Symbols Any) (covers_nat m) (λ n t s l. omega arith)

pub covers_counted : {A : Type 0} (m : ℕ) (n : A → ℕ) (L : A → List ℕ → Type 0) → Covers 0 n L → Covers 0 (λ vs. suc (sum_by n vs)) (Counted m L)
covers_counted m n L covers = covers_then 1 (λ vs. suc (sum_by n vs)) (IsNat m) (Count L) (covers_nat m) one_more
  where
    one_more : (i : ℕ) → Covers 1 (λ vs. suc (sum_by n vs)) (Count L i)
    one_more i vs s l = let long : sum_by n vs ≤ 0 + length s = covers_count n L covers i vs s l in omega arith

pub covers_flagged : {A : Type 0} (n : A → ℕ) (L M : A → List ℕ → Type 0) → Covers 1 n L → Covers 1 n M → Covers 0 n (Then (One flag_of) (AtFlag L M))
covers_flagged n L M left right = covers_then 1 n (One flag_of) (AtFlag L M) (covers_symbol flag_of) which
  where
    which : (b : Bool) → Covers 1 n (AtFlag L M b)
    which false = left
    which true = right
