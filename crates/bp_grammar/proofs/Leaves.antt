-- The readers of a form's leaves, lengths and choices are right, with their fronts.
use Rattle.std.proofs.Common.{◌≡◌, refl, subst, Some, None, Bool, true, false, ℕ, zero, suc, ◌<◌, ◌≤◌, nat_lt, List, [], inl, inr, arith}
use Rattle.readers.specs.Reader.{Outcome, after, one, count, symbols, IsByte, Any, Front, ReadsIn, NoWhy, Then, ThenWhy, ThenFront, One, OneWhy, Count, CountWhy, CountFront, Symbols}
use Rattle.readers.proofs.Readers.{reads_in, then_in, meets_any}
use Rattle.readers.proofs.Fronts.{count_in, nothing_in}
use Rattle.readers.proofs.Narrow.{right_narrow}
use Rattle.readers.proofs.Leaves.{right_one, is_or, pick_true, pick_false}
use Rattle.readers.proofs.Runs.{right_symbols}
use Rattle.bp_num.specs.declared.number.Why.{Why}
use Rattle.bp_num.specs.Forms.{IsNat}
use Rattle.bp_num.specs.Reads.{IsNatFault}
use Rattle.bp_num.specs.NumberAt.{nat_at}
use Rattle.bp_num.proofs.NatRight.{right_nat}
use Rattle.bp_num.proofs.FromAnswers.{nat_limit}
use Rattle.bp_grammar.specs.Spells.{flag_of, place_of, Sized, Counted, AtFlag}
use Rattle.bp_grammar.specs.Reasons.{SizedWhy, CountedWhy, FlagWhy}
use Rattle.bp_grammar.specs.Fronts.{SizedFront, CountedFront, FlagFront}
use Rattle.bp_grammar.specs.Reading.{sized_at, counted_at, at_flag}

-- ---- lengths

abbrev pub nat_in : (m : ℕ) → ReadsIn IsByte Any (Front (IsNat m)) (IsNat m) (IsNatFault m) (nat_at m)
nat_in m = reads_in IsByte Any (IsNat m) (IsNatFault m) (nat_at m) (right_nat m)

any_symbols : (n : ℕ) → ReadsIn IsByte Any (Front (Symbols Any n)) (Symbols Any n) (NoWhy {W = Why}) (symbols n)
any_symbols n = reads_in IsByte Any (Symbols Any n) NoWhy (symbols n) (right_narrow (λ b v. tt) (right_symbols Any 0 tt n))

pub sized_in : (m : ℕ) → ReadsIn IsByte Any (SizedFront m) (Sized m) (SizedWhy m) (sized_at m)
sized_in m =
    then_in IsByte Any Any (Front (IsNat m)) (IsNat m) (IsNatFault m) (nat_at m) (λ n. Front (Symbols Any n)) (Symbols Any) (λ n. NoWhy) symbols
    (nat_in m) (λ n t l. any_symbols n) (λ n t l. meets_any Any (λ k. Front (Symbols Any k)) (Symbols Any) n)

-- a length, and as many values, where so many are read rightly
pub counted_by : {A : Type 0} (m : ℕ) (F : List ℕ → Type 0) (L : A → List ℕ → Type 0) (R : List ℕ → ℕ → Why → Type 0) (r : List ℕ → Outcome ℕ Why A)
    → ((n : ℕ) → n ≤ m → ReadsIn IsByte Any (CountFront L F n) (Count L n) (CountWhy L R n) (count r n))
    → ReadsIn IsByte Any (CountedFront m L F) (Counted m L) (CountedWhy m L R) (counted_at m r)
counted_by m F L R r each =
    then_in IsByte Any Any (Front (IsNat m)) (IsNat m) (IsNatFault m) (nat_at m) (CountFront L F) (Count L) (CountWhy L R) (count r)
    (nat_in m) (λ n t l. each n (nat_limit m n t l)) (λ n t l. meets_any Any (CountFront L F) (Count L) n)

pub counted_in : {A : Type 0} (m : ℕ) (F : List ℕ → Type 0) (L : A → List ℕ → Type 0) (R : List ℕ → ℕ → Why → Type 0) (r : List ℕ → Outcome ℕ Why A)
    → ReadsIn IsByte Any F L R r → ReadsIn IsByte Any (CountedFront m L F) (Counted m L) (CountedWhy m L R) (counted_at m r)
counted_in m F L R r reads = counted_by m F L R r (λ n le. count_in IsByte F L R r reads n)

-- with the limit 0 no value is read, whatever they would be
pub uncounted_in : {A : Type 0} (F : List ℕ → Type 0) (L : A → List ℕ → Type 0) (R : List ℕ → ℕ → Why → Type 0) (r : List ℕ → Outcome ℕ Why A)
    → ReadsIn IsByte Any (CountedFront 0 L F) (Counted 0 L) (CountedWhy 0 L R) (counted_at 0 r)
uncounted_in {A = A} F L R r = counted_by 0 F L R r none
  where
    none : (n : ℕ) → n ≤ 0 → ReadsIn IsByte Any (CountFront L F n) (Count L n) (CountWhy L R n) (count r n)
    none zero le = nothing_in IsByte [] (CountWhy L R zero)
    none (suc n) le = absurd (omega arith)

-- ---- choices by one symbol

pub flag_in : (w : Why) → ReadsIn IsByte Any (Front (One flag_of)) (One flag_of) (OneWhy flag_of w) (one flag_of w)
flag_in w = reads_in IsByte Any (One flag_of) (OneWhy flag_of w) (one flag_of w) (right_one IsByte flag_of w 0 false refl)

-- the byte of a place
pub place_some : (n place : ℕ) → place < n → place_of n place ≡ Some place
place_some n place lt = pick_true (nat_lt place n) (Some place) None (grind arith)

pub place_is : (n b place : ℕ) → place_of n b ≡ Some place → (b ≡ place) × (place < n)
place_is n b place e = elim (is_or (nat_lt b n)) [ inl t ↦ there t | inr f ↦ absurd (clash f) ]
  where
    there : nat_lt b n ≡ true → (b ≡ place) × (place < n)
    there t =
        let got : place_of n b ≡ Some b = pick_true (nat_lt b n) (Some b) None t in
        let same : b ≡ place = cc in
        let lt : b < n = grind arith in
        (same, subst (λ k. k < n) same lt)

    clash : nat_lt b n ≡ false → ⊥
    clash f = let none : place_of n b ≡ None = pick_false (nat_lt b n) (Some b) None f in cc

pub place_in : (n : ℕ) (w : Why) → 0 < n → ReadsIn IsByte Any (Front (One (place_of n))) (One (place_of n)) (OneWhy (place_of n) w) (one (place_of n) w)
place_in n w some = reads_in IsByte Any (One (place_of n)) (OneWhy (place_of n) w) (one (place_of n) w) (right_one IsByte (place_of n) w 0 0 (place_some n 0 some))

-- one of two, by a flag
pub at_flag_in : {A : Type 0} (F G : List ℕ → Type 0) (L M : A → List ℕ → Type 0) (R Q : List ℕ → ℕ → Why → Type 0) (r q : List ℕ → Outcome ℕ Why A)
    → ReadsIn IsByte Any F L R r → ReadsIn IsByte Any G M Q q
    → (b : Bool) → ReadsIn IsByte Any (FlagFront F G b) (AtFlag L M b) (FlagWhy R Q b) (at_flag r q b)
at_flag_in F G L M R Q r q left right false = left
at_flag_in F G L M R Q r q left right true = right

-- a flag, and what it chooses
pub flagged_in : {A : Type 0} (w : Why) (F G : List ℕ → Type 0) (L M : A → List ℕ → Type 0) (R Q : List ℕ → ℕ → Why → Type 0) (r q : List ℕ → Outcome ℕ Why A)
    → ReadsIn IsByte Any F L R r → ReadsIn IsByte Any G M Q q
    → ReadsIn IsByte Any (ThenFront (One flag_of) (Front (One flag_of)) (FlagFront F G)) (Then (One flag_of) (AtFlag L M)) (ThenWhy (One flag_of) (OneWhy flag_of w) (FlagWhy R Q)) (λ s. after (one flag_of w s) (at_flag r q))
flagged_in w F G L M R Q r q left right =
    then_in IsByte Any Any (Front (One flag_of)) (One flag_of) (OneWhy flag_of w) (one flag_of w) (FlagFront F G) (AtFlag L M) (FlagWhy R Q) (at_flag r q)
    (flag_in w) (λ b t l. at_flag_in F G L M R Q r q left right b) (λ b t l. meets_any Any (FlagFront F G) (AtFlag L M) b)
