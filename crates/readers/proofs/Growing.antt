-- What was read stays read and what was at fault stays at fault, whatever follows: of readers that are put together.
use Rattle.std.proofs.Common.{◌≡◌, refl, sym, ap, subst, Option, Some, None, Bool, true, false, if◌then◌else◌, ℕ, zero, suc, List, [], ◌∷◌, ◌++◌, length, arith}
use Rattle.std.proofs.lemmas.List.{length-append}
use Rattle.readers.specs.Reader.{Outcome, whole, more, bad, after, mapped, Goes, Grows, first, leaf, one, count, symbols}

module _ {S W A B : Type 0} where
  -- reading goes on after a value
  goes_after : (x : List S) (o p : Outcome S W A) (f : A → List S → Outcome S W B) → Goes x o p → ((a : A) (u : List S) → o ≡ whole a u → Goes x (f a u) (f a (u ++ x)))
      → Goes x (after o f) (after p f)
  goes_after x (whole a u) p f same next = subst (λ q. Goes x (f a u) (after q f)) (sym same) (next a u refl)
  goes_after x more p f same next = tt
  goes_after x (bad n w) p f same next = ap (λ q. after q f) same

  pub grows_after : (r : List S → Outcome S W A) (f : A → List S → Outcome S W B) → Grows r → ((a : A) → Grows (f a)) → Grows (λ s. after (r s) f)
  grows_after r f grows next s x = goes_after x (r s) (r (s ++ x)) f (grows s x) (λ a u e. next a u x)

  goes_mapped : (x : List S) (g : A → B) (o p : Outcome S W A) → Goes x o p → Goes x (mapped g o) (mapped g p)
  goes_mapped x g (whole a u) p same = ap (λ q. mapped g q) same
  goes_mapped x g more p same = tt
  goes_mapped x g (bad n w) p same = ap (λ q. mapped g q) same

  pub grows_mapped : (g : A → B) (r : List S → Outcome S W A) → Grows r → Grows (λ s. mapped g (r s))
  grows_mapped g r grows s x = goes_mapped x g (r s) (r (s ++ x)) (grows s x)

pub grows_by : {S W A : Type 0} (r q : List S → Outcome S W A) → ((s : List S) → r s ≡ q s) → Grows r → Grows q
grows_by r q same grows s x = subst (λ o. Goes x o (q (s ++ x))) (same s) (subst (λ o. Goes x (r s) o) (same (s ++ x)) (grows s x))

pub grows_whole : {S W A : Type 0} (a : A) → Grows {W = W} (λ (s : List S). whole a s)
grows_whole a s x = refl

pub grows_more : {S : Type 0} (W A : Type 0) → Grows {W = W} {A = A} (λ (s : List S). more)
grows_more W A s x = tt

-- a reader that goes by the first symbol: the fault of that symbol counts it
pub grows_first : {S W A : Type 0} (f : S → List S → Outcome S W A) → ((b : S) → Grows (f b)) → Grows (first f)
grows_first f grows [] x = tt
grows_first f grows (b ∷ s) x = grows b s x

pub grows_if : {S W A : Type 0} (c : Bool) (r q : List S → Outcome S W A) → Grows r → Grows q → Grows (λ s. if c then r s else q s)
grows_if true r q left other s x = left s x
grows_if false r q left other s x = other s x

-- the first symbol, which is not in the list, is at fault
pub grows_bad : {S W A : Type 0} (b : S) (w : W) → Grows {A = A} (λ s. bad (length (b ∷ s)) w)
grows_bad b w s x = ap (λ n. bad n w) (omega (arith, length-append s x))

grows_leaf : {S W A : Type 0} (o : Option A) (b : S) (w : W) → Grows (λ s. leaf o (length (b ∷ s)) w s)
grows_leaf (Some a) b w s x = refl
grows_leaf None b w s x = grows_bad b w s x

pub grows_one : {S W A : Type 0} (h : S → Option A) (w : W) → Grows (one h w)
grows_one h w [] x = tt
grows_one h w (b ∷ s) x = grows_leaf (h b) b w s x

pub grows_symbols : {S : Type 0} (W : Type 0) (n : ℕ) → Grows {S = S} {W = W} (symbols n)
grows_symbols W zero s x = refl
grows_symbols W (suc n) [] x = tt
grows_symbols W (suc n) (b ∷ s) x = goes_mapped x (λ t. b ∷ t) (symbols n s) (symbols n (s ++ x)) (grows_symbols W n s x)

pub grows_count : {S W A : Type 0} (r : List S → Outcome S W A) → Grows r → (n : ℕ) → Grows (count r n)
grows_count r grows zero s x = refl
grows_count r grows (suc n) s x =
    grows_after r (λ v u. mapped (λ us. v ∷ us) (count r n u)) grows (λ v. grows_mapped (λ us. v ∷ us) (count r n) (grows_count r grows n)) s x
