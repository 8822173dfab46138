-- Readings that go on, and readings that stop, through larger ones.
use Rattle.std.proofs.Common.{◌≡◌, refl, sym, ap, ◌∙◌, subst, ℕ, zero, suc, ◌<◌, Bool, true, false, nat_eq, Option, Some, None, List, [], ◌∷◌, length}
use Rattle.std.specs.Prelude.{Result, Ok, Err, if◌then◌else◌}
use Rattle.std.specs.Result.{IsErrAnd}
use Rattle.readers.specs.Reader.{Outcome, whole, more, bad, after, mapped, leaf, one, Each}
use Rattle.readers.specs.Keys.{key_at, next, some_left}
use Rattle.bp_num.specs.declared.number.Why.{Why}
use Rattle.bp_codec.specs.declared.stop.Stop.{Stop}
use Rattle.bp_codec.specs.declared.stop.Stop.TheVariants as stop
use Rattle.bp_codec.specs.Keeping.{Gives}
use Rattle.bp_grammar.specs.Spells.{place_of}
use Rattle.bp_grammar.proofs.Leaves.{place_is}
use Rattle.rpc_msg.specs.Taken.{Halts, TakesAs}

abbrev Out : Type 0 → Type 0
Out A = Outcome ℕ Why A

-- ---- going on

-- what follows a reading that gave a value
pub goes : {A B : Type 0} (F : A → List ℕ → Out B) {total : Out B} (o : Out A) {a : A} {t : List ℕ} → total ≡ after o F → o ≡ whole a t → total ≡ F a t
goes F o is h = is ∙ ap (λ x. after x F) h

pub gives : {A B : Type 0} (h : A → B) {total : Out B} (o : Out A) {a : A} {t : List ℕ} → total ≡ mapped h o → o ≡ whole a t → total ≡ whole (h a) t
gives h o is e = is ∙ ap (mapped h) e

-- ---- stopping

pub halts : {A : Type 0} (r : List ℕ → Out A) (old new : List ℕ) (e : Stop) → Gives r old new (Err e) → Halts e (r old) new
halts r old new stop.More g = g.0
halts r old new (stop.Bad w) g = g
halts r old new stop.OutOfMemory g = tt

pub halts_after : {A B : Type 0} (F : A → List ℕ → Out B) {total : Out B} (o : Out A) (e : Stop) (new : List ℕ) → total ≡ after o F → Halts e o new → Halts e total new
halts_after F o stop.More new is h = is ∙ ap (λ x. after x F) h
halts_after F o (stop.Bad w) new is h = is ∙ ap (λ x. after x F) h
halts_after F o stop.OutOfMemory new is h = tt

pub halts_mapped : {A B : Type 0} (h : A → B) {total : Out B} (o : Out A) (e : Stop) (new : List ℕ) → total ≡ mapped h o → Halts e o new → Halts e total new
halts_mapped h o stop.More new is r = is ∙ ap (mapped h) r
halts_mapped h o (stop.Bad w) new is r = is ∙ ap (mapped h) r
halts_mapped h o stop.OutOfMemory new is r = tt

-- the answer of a call that passes a stop on
pub takes_err : {A B : Type 0} (g : A → B) (r : List ℕ → Out B) (old new : List ℕ) (result : Result A Stop) (e : Stop)
    → IsErrAnd result (λ x. x ≡ e) → Halts e (r old) new → TakesAs g r old new result
takes_err g r old new (Ok a) e is h = absurd is
takes_err g r old new (Err x) e is h = subst (λ y. Halts y (r old) new) (sym is) h

-- ---- a stop that is passed on from the first part of what is left to read

-- a head was to be read
pub head_stops : {A B C : Type 0} (g : C → B) (r : List ℕ → Out B) (s : List ℕ) (leaf : List ℕ → Out A) (old new : List ℕ) (result : Result C Stop) (e : Stop)
    (F : A → List ℕ → Out B) → r s ≡ after (leaf old) F → IsErrAnd result (λ x. x ≡ e) → Gives leaf old new (Err e) → TakesAs g r s new result
head_stops g r s leaf old new result e F is err at = takes_err g r s new result e err (halts_after F (leaf old) e new is (halts leaf old new e at))

-- a head, and nothing after it
pub last_head_stops : {A B C : Type 0} (g : C → B) (r : List ℕ → Out B) (s : List ℕ) (leaf : List ℕ → Out A) (old new : List ℕ) (result : Result C Stop) (e : Stop)
    (h : A → B) → r s ≡ mapped h (leaf old) → IsErrAnd result (λ x. x ≡ e) → Gives leaf old new (Err e) → TakesAs g r s new result
last_head_stops g r s leaf old new result e h is err at = takes_err g r s new result e err (halts_mapped h (leaf old) e new is (halts leaf old new e at))

-- something else
pub part_stops : {A B C : Type 0} (g : C → B) (r : List ℕ → Out B) (s : List ℕ) (o : Out A) (new : List ℕ) (result : Result C Stop) (e : Stop)
    (F : A → List ℕ → Out B) → r s ≡ after o F → IsErrAnd result (λ x. x ≡ e) → Halts e o new → TakesAs g r s new result
part_stops g r s o new result e F is err at = takes_err g r s new result e err (halts_after F o e new is at)

pub last_part_stops : {A B C : Type 0} (g : C → B) (r : List ℕ → Out B) (s : List ℕ) (o : Out A) (new : List ℕ) (result : Result C Stop) (e : Stop)
    (h : A → B) → r s ≡ mapped h o → IsErrAnd result (λ x. x ≡ e) → Halts e o new → TakesAs g r s new result
last_part_stops g r s o new result e h is err at = takes_err g r s new result e err (halts_mapped h o e new is at)

-- ---- one of some cases

pub at_case : {B : Type 0} (F : ℕ → List ℕ → Out B) {total : Out B} (o : Out ℕ) {p : ℕ} {t : List ℕ} (k : ℕ) → total ≡ after o F → o ≡ whole p t → p ≡ k → total ≡ F k t
at_case F o {t = t} k is h pk = is ∙ (ap (λ x. after x F) h ∙ ap (λ j. F j t) pk)

pub place_below : (n : ℕ) (w : Why) (s t : List ℕ) (p : ℕ) → one (place_of n) w s ≡ whole p t → p < n
place_below n w [] t p e = absurd (nothing e)
  where
    nothing : ◌≡◌ {A = Out ℕ} more (whole p t) → ⊥
    nothing e = cc
place_below n w (b ∷ s) t p e = by (place_of n b) refl e
  where
    faulty : (k : ℕ) → ◌≡◌ {A = Out ℕ} (bad k w) (whole p t) → ⊥
    faulty k e = cc

    by : (o : Option ℕ) → place_of n b ≡ o → leaf o (length (b ∷ s)) w s ≡ whole p t → p < n
    by (Some q) is e = let same : q ≡ p = cc in subst (λ j. j < n) same (place_is n b q is).1
    by None is e = absurd (faulty (length (b ∷ s)) e)

-- a tag that was read is one of them
all_next : (n b : ℕ) (ks : List (ℕ × List ℕ)) → Each (λ k. k.0 < n) ks → Each (λ k. k.0 < n) (next b ks)
all_next n b [] all = tt
all_next n b ((p, []) ∷ ks) all = all_next n b ks all.1
all_next n b ((p, c ∷ t) ∷ ks) all = by (nat_eq c b) (all_next n b ks all.1)
  where
    by : (same : Bool) → Each (λ k. k.0 < n) (next b ks) → Each (λ k. k.0 < n) (if same then (p, t) ∷ next b ks else next b ks)
    by true rest = (all.0, rest)
    by false rest = rest

pub key_below : (n k : ℕ) (w : Why) (ks : List (ℕ × List ℕ)) (s t : List ℕ) (p : ℕ) → Each (λ x. x.0 < n) ks → key_at w k ks s ≡ whole p t → p < n
key_below n zero w [] s t p all e = absurd (faulty e)
  where
    faulty : ◌≡◌ {A = Out ℕ} (bad (length s) w) (whole p t) → ⊥
    faulty e = cc
key_below n zero w (x ∷ ks) s t p all e = let same : x.0 ≡ p = cc in subst (λ j. j < n) same all.0
key_below n (suc k) w ks [] t p all e = absurd (nothing e)
  where
    nothing : ◌≡◌ {A = Out ℕ} more (whole p t) → ⊥
    nothing e = cc
key_below n (suc k) w ks (b ∷ s) t p all e = by (next b ks) (all_next n b ks all) (λ left. key_below n k w left s t p) e
  where
    by : (left : List (ℕ × List ℕ)) → Each (λ x. x.0 < n) left → ((ks : List (ℕ × List ℕ)) → Each (λ x. x.0 < n) ks → key_at w k ks s ≡ whole p t → p < n)
        → some_left w (key_at w k) left b s ≡ whole p t → p < n
    by [] all below e = absurd (faulty e)
      where
        faulty : ◌≡◌ {A = Out ℕ} (bad (length (b ∷ s)) w) (whole p t) → ⊥
        faulty e = cc
    by (x ∷ left) all below e = below (x ∷ left) all e
