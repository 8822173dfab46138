-- A part of a line has one value and one end, and where it stands no refusal does.
use Rattle.std.proofs.Common.{◌≡◌, refl, sym, ap, ◌∙◌, subst, ℕ, List, [], ◌∷◌, ◌++◌, inl, inr, Option, Some, None, Ok, Err}
use Rattle.std.specs.Option.{MatchOption}
use Rattle.std.proofs.Common.{Result}
use Rattle.rpc_schema.specs.declared.stop.Stop.{Stop}
use Rattle.rpc_schema.specs.declared.stop.Stop.TheVariants as stop
use Rattle.rpc_schema.specs.LineParts.{Next, NextRefused, Known, Lacks, front_word, WordFor, Mark, End}
use Rattle.rpc_schema.specs.LineAnswers.{TakesOne, TakesWord}

pub record IsSure {A : Type 0} (P : A → List ℕ → List ℕ → Type 0) (N : List ℕ → List ℕ → Type 0) : Type 0 where
  pub once : (a b : A) (s u v : List ℕ) → P a s u → P b s v → (a ≡ b) × (u ≡ v)
  pub apart : (a : A) (s u x : List ℕ) → P a s u → N s x → ⊥

pub sure_next : {A B : Type 0} (P : A → List ℕ → List ℕ → Type 0) (N : List ℕ → List ℕ → Type 0) (Q : A → B → List ℕ → List ℕ → Type 0)
    (M : A → List ℕ → List ℕ → Type 0) → IsSure P N → ((a : A) (s u : List ℕ) → P a s u → IsSure (Q a) (M a))
    → IsSure (Next P Q) (NextRefused P N M)
sure_next {A = A} {B = B} P N Q M first second = record {
  once = λ b c s u v x y. both b c s u v x y;
  apart = λ b s u x stands fails. neither b s u x stands fails;
} where
  both : (b c : B) (s u v : List ℕ) → Next P Q b s u → Next P Q c s v → (b ≡ c) × (u ≡ v)
  both b c s u v (a, t, p, q) (d, w, r, z) =
      let (e, f) = first.once a d s t w p r in
      (second a s t p).once b c t u v q (subst (λ y. Q a c y v) (sym f) (subst (λ k. Q k c w v) (sym e) z))

  neither : (b : B) (s u x : List ℕ) → Next P Q b s u → NextRefused P N M s x → ⊥
  neither b s u x (a, t, p, q) (inl none) = first.apart a s t x p none
  neither b s u x (a, t, p, q) (inr (d, w, r, z)) =
      let (e, f) = first.once a d s t w p r in
      (second a s t p).apart b t u x q (subst (λ y. M a y x) (sym f) (subst (λ k. M k w x) (sym e) z))

-- a part after which nothing is left to be read
pub sure_last : {A B : Type 0} (P : A → List ℕ → List ℕ → Type 0) (N : List ℕ → List ℕ → Type 0) (f : A → B) → IsSure P N
    → IsSure (Next P (λ a. Known (f a))) N
sure_last {A = A} {B = B} P N f sure = record {
  once = λ b c s u v x y. both b c s u v x y;
  apart = λ b s u x stands fails. sure.apart stands.0 s stands.1 x stands.2 fails;
} where
  both : (b c : B) (s u v : List ℕ) → Next P (λ a. Known (f a)) b s u → Next P (λ a. Known (f a)) c s v → (b ≡ c) × (u ≡ v)
  both b c s u v (a, t, p, q) (d, w, r, z) =
      let (e, g) = sure.once a d s t w p r in (q.0 ∙ (ap f e ∙ sym z.0), q.1 ∙ (g ∙ sym z.1))

pub sure_lacks : {A : Type 0} (P : A → List ℕ → List ℕ → Type 0)
    → ((a b : A) (s u v : List ℕ) → P a s u → P b s v → (a ≡ b) × (u ≡ v)) → IsSure P (Lacks P)
sure_lacks P once = record { once = once; apart = λ a s u x stands fails. fails.0 a u stands }

pub sure_word : {A : Type 0} (Spells : A → List ℕ → Type 0) → ((a b : A) (w : List ℕ) → Spells a w → Spells b w → a ≡ b)
    → IsSure (WordFor Spells) (Lacks (WordFor Spells))
sure_word Spells one = sure_lacks (WordFor Spells) (λ a b s u v x y. (one a b (front_word s) x.0 y.0, x.1 ∙ sym y.1))

cancel : (p u v : List ℕ) → p ++ u ≡ p ++ v → u ≡ v
cancel [] u v e = e
cancel (b ∷ p) u v e = cancel p u v cc

one_unit : (a b : Unit {0}) → a ≡ b
one_unit a b = refl

pub sure_mark : (bytes : List ℕ) → IsSure (Mark bytes) (Lacks (Mark bytes))
sure_mark bytes = sure_lacks (Mark bytes) (λ a b s u v x y. (one_unit a b, cancel bytes u v (sym x ∙ y)))

pub sure_end : IsSure End (Lacks End)
sure_end = sure_lacks End (λ a b s u v x y. (one_unit a b, x.1 ∙ sym y.1))

-- ---- words that are taken

pub word_takes : {A : Type 0} (Spells : A → List ℕ → Type 0) (value : Option A) (old new : List ℕ) (result : Result A Stop)
    → MatchOption value ((a : A) → Spells a (front_word old) → ⊥) (λ a. Spells a (front_word old)) → TakesWord value old new result
    → TakesOne (WordFor Spells) (Lacks (WordFor Spells)) old new result
word_takes Spells (Some a) old new result is takes = subst (λ r. TakesOne (WordFor Spells) (Lacks (WordFor Spells)) old new r) (sym takes.0) (is, takes.1)
word_takes Spells None old new result none takes =
    subst (λ r. TakesOne (WordFor Spells) (Lacks (WordFor Spells)) old new r) (sym takes.0) ((λ a u stands. none a stands.0), takes.1)

-- ---- the second of two parts

pub second_takes : {A B : Type 0} (P : A → List ℕ → List ℕ → Type 0) (N : List ℕ → List ℕ → Type 0) (Q : A → B → List ℕ → List ℕ → Type 0)
    (M : A → List ℕ → List ℕ → Type 0) (a : A) (old mid new : List ℕ) (result : Result B Stop) → P a old mid → TakesOne (Q a) (M a) mid new result
    → TakesOne (Next P Q) (NextRefused P N M) old new result
second_takes P N Q M a old mid new (Ok b) first takes = (a, mid, first, takes)
second_takes P N Q M a old mid new (Err stop.Refused) first takes = inr (a, mid, first, takes)
second_takes P N Q M a old mid new (Err stop.OutOfMemory) first takes = tt

pub second_stops : {A B C : Type 0} (P : A → List ℕ → List ℕ → Type 0) (N : List ℕ → List ℕ → Type 0) (Q : A → B → List ℕ → List ℕ → Type 0)
    (M : A → List ℕ → List ℕ → Type 0) (R : C → List ℕ → List ℕ → Type 0) (a : A) (old mid new : List ℕ) (e : Stop) (result : Result B Stop)
    → result ≡ Err e → P a old mid → TakesOne R (M a) mid new (Err e) → TakesOne (Next P Q) (NextRefused P N M) old new result
second_stops P N Q M R a old mid new stop.Refused result is first fails =
    subst (λ r. TakesOne (Next P Q) (NextRefused P N M) old new r) (sym is) (inr (a, mid, first, fails))
second_stops P N Q M R a old mid new stop.OutOfMemory result is first fails =
    subst (λ r. TakesOne (Next P Q) (NextRefused P N M) old new r) (sym is) tt
