-- Opening and closing levels leaves what is read.
use Rattle.std.proofs.Common.{◌≡◌, ◌≢◌, refl, sym, ap, ◌∙◌, subst, ℕ, zero, suc, ◌<◌, ◌≤◌, List, [], ◌∷◌, ◌++◌, length, take, slice_get, Option, Some, None, IsSome, ◌↔◌, ◌-◌, append_assoc, arith}
use Rattle.std.specs.Option.{option_to_list}
use Rattle.std.proofs.lemmas.List.{append-nil}
use Rattle.std.proofs.lemmas.Bool.{true≢false}
use Rattle.readers.specs.Reader.{Outcome, whole, more, bad, after, mapped}
use Rattle.bp_num.specs.declared.number.Why.{Why}
use Rattle.bp_value.specs.declared.value.Value.{Value}
use Rattle.bp_codec.specs.Plan.{Reading}
use Rattle.bp_codec.specs.Levels.{next_of, advanced, reach_of, made, next_reads, left_at, Onward, fills, waits, AllReach}
use Rattle.bp_codec.specs.Opened.{opened, Reaches, Opens}
use Rattle.bp_codec.specs.declared.levels.Left.{Left}
use Rattle.bp_codec.specs.declared.levels.Left.TheVariants as left
use Rattle.bp_codec.specs.declared.levels.Makes.{Makes}
use Rattle.bp_codec.specs.declared.levels.Next.TheVariants as next
use Rattle.bp_codec.specs.declared.levels.Level.{Level}
use Rattle.bp_codec.specs.declared.open.Open.{Open}

-- ---- one outcome and what goes on after it

pub after_after : {A B C : Type 0} (o : Outcome ℕ Why A) (f : A → List ℕ → Outcome ℕ Why B) (g : B → List ℕ → Outcome ℕ Why C)
    → after (after o f) g ≡ after o (λ a u. after (f a u) g)
after_after (whole a u) f g = refl
after_after more f g = refl
after_after (bad n w) f g = refl

pub after_mapped : {A B C : Type 0} (h : A → B) (o : Outcome ℕ Why A) (g : B → List ℕ → Outcome ℕ Why C) → after (mapped h o) g ≡ after o (λ a. g (h a))
after_mapped h (whole a u) g = refl
after_mapped h more g = refl
after_mapped h (bad n w) g = refl

pub after_same : {A B : Type 0} (o : Outcome ℕ Why A) (f g : A → List ℕ → Outcome ℕ Why B) → ((a : A) (u : List ℕ) → f a u ≡ g a u) → after o f ≡ after o g
after_same (whole a u) f g same = same a u
after_same more f g same = refl
after_same (bad n w) f g same = refl

-- ---- what comes next

pub left_ends : (m : ℕ) (reading : ℕ → Reading) (l : Left) (s : List ℕ) → next_of l ≡ next.Nothing → left_at m reading l s ≡ whole [] s
left_ends m reading (left.Items node zero) s e = refl
left_ends m reading (left.Items node (suc n)) s e = absurd cc
left_ends m reading (left.Parts first zero) s e = refl
left_ends m reading (left.Parts first (suc n)) s e = absurd cc
left_ends m reading (left.Sexps depth zero) s e = refl
left_ends m reading (left.Sexps depth (suc n)) s e = absurd cc

pub left_goes : (m : ℕ) (reading : ℕ → Reading) (l : Left) (s : List ℕ) → next_of l ≢ next.Nothing
    → left_at m reading l s ≡ after (next_reads m reading (next_of l) s) (λ v t. mapped (λ ws. v ∷ ws) (left_at m reading (advanced l) t))
left_goes m reading (left.Items node zero) s some = absurd (some refl)
left_goes m reading (left.Items node (suc n)) s some = refl
left_goes m reading (left.Parts first zero) s some = absurd (some refl)
left_goes m reading (left.Parts first (suc n)) s some = refl
left_goes m reading (left.Sexps depth zero) s some = absurd (some refl)
left_goes m reading (left.Sexps depth (suc n)) s some = refl

pub reach_advanced : (l : Left) → reach_of (advanced l) ≤ reach_of l
reach_advanced (left.Items node zero) = omega arith
reach_advanced (left.Items node (suc n)) = omega arith
reach_advanced (left.Parts first zero) = omega arith
reach_advanced (left.Parts first (suc n)) = omega arith
reach_advanced (left.Sexps depth zero) = omega arith
reach_advanced (left.Sexps depth (suc n)) = omega arith

module _ (m : ℕ) (reading : ℕ → Reading) (l : Left) (k : Makes) (front : List Value) (onward : Onward) (s : List ℕ) where
  -- a level with all its values makes its value
  pub fill_end : next_of l ≡ next.Nothing → fills m reading l k front onward s ≡ onward (made k front) s
  unfolding fills
  fill_end e = ap (λ o. after o (λ vs. onward (made k (front ++ vs)))) (left_ends m reading l s e) ∙ ap (λ vs. onward (made k vs) s) (append-nil front)

  -- else it reads the next, and goes on
  pub fill_next : next_of l ≢ next.Nothing → fills m reading l k front onward s ≡ after (next_reads m reading (next_of l) s) (λ v. fills m reading (advanced l) k (front ++ v ∷ []) onward)
  unfolding fills
  fill_next some =
      ap (λ o. after o (λ vs. onward (made k (front ++ vs)))) (left_goes m reading l s some)
      ∙ (after_after (next_reads m reading (next_of l) s) (λ v t. mapped (λ ws. v ∷ ws) (left_at m reading (advanced l) t)) (λ vs. onward (made k (front ++ vs)))
      ∙ after_same (next_reads m reading (next_of l) s) _ (λ v. fills m reading (advanced l) k (front ++ v ∷ []) onward) (λ v t.
      after_mapped (λ ws. v ∷ ws) (left_at m reading (advanced l) t) (λ vs. onward (made k (front ++ vs)))
      ∙ after_same (left_at m reading (advanced l) t) _ _ (λ vs u. ap (λ ws. onward (made k ws) u) (sym (append_assoc front (v ∷ []) vs)))))

-- a level that waits behind all others
pub waits_push : (m : ℕ) (reading : ℕ → Reading) (onward : Onward) (ls : List Level) (l : Level)
    → waits m reading onward (ls ++ l ∷ []) ≡ (λ v. fills m reading l.left l.makes (l.values.items ++ v ∷ []) (waits m reading onward ls))
unfolding waits
waits_push m reading onward [] l = refl
waits_push m reading onward (k ∷ ls) l = waits_push m reading (λ v s. fills m reading k.left k.makes (k.values.items ++ v ∷ []) onward s) ls l

abbrev pub ends : Onward
ends v t = whole v t

-- ---- closing

module _ (m : ℕ) (reading : ℕ → Reading) (old new : Open) (outer : Level) (spent : next_of old.top.left ≡ next.Nothing)
    (stack : old.stack.items ≡ new.stack.items ++ outer ∷ []) (l : new.top.left ≡ outer.left) (k : new.top.makes ≡ outer.makes)
    (vs : new.top.values.items ≡ outer.values.items ++ made old.top.makes old.top.values.items ∷ []) where
  pub closed : (s : List ℕ) → opened m reading old s ≡ opened m reading new s
  closed s =
      fill_end m reading old.top.left old.top.makes old.top.values.items (waits m reading ends old.stack.items) s spent
      ∙ (ap (λ (ls : List Level). waits m reading ends ls value s) stack
      ∙ (ap (λ (onward : Onward). onward value s) (waits_push m reading ends new.stack.items outer)
      ∙ (ap (λ (x : Left). fills m reading x outer.makes (outer.values.items ++ value ∷ []) rest s) (sym l)
      ∙ (ap (λ (x : Makes). fills m reading new.top.left x (outer.values.items ++ value ∷ []) rest s) (sym k)
      ∙ ap (λ (x : List Value). fills m reading new.top.left new.top.makes x rest s) (sym vs)))))
    where
      value : Value
      value = made old.top.makes old.top.values.items

      rest : Onward
      rest = waits m reading ends new.stack.items

-- the last value closes all
pub all_closed : (m : ℕ) (reading : ℕ → Reading) (old : Open) (s : List ℕ) → next_of old.top.left ≡ next.Nothing → old.stack.items ≡ []
    → opened m reading old s ≡ whole (made old.top.makes old.top.values.items) s
unfolding waits
all_closed m reading old s spent none =
    fill_end m reading old.top.left old.top.makes old.top.values.items (waits m reading ends old.stack.items) s spent
    ∙ ap (λ (ls : List Level). waits m reading ends ls (made old.top.makes old.top.values.items) s) none

-- ---- reaches

slice_front : {A : Type 0} (xs ys : List A) (k : ℕ) (x : A) → slice_get xs k ≡ Some x → slice_get (xs ++ ys) k ≡ Some x
slice_front [] ys k x e = absurd cc
slice_front (y ∷ xs) ys zero x e = e
slice_front (y ∷ xs) ys (suc k) x e = slice_front xs ys k x e

slice_last : {A : Type 0} (xs : List A) (x : A) → slice_get (xs ++ x ∷ []) (length xs) ≡ Some x
slice_last [] x = refl
slice_last (y ∷ xs) x = slice_last xs x

slice_pushed : {A : Type 0} (P : A → Type 0) (xs : List A) (x : A) → ((k : ℕ) (y : A) → slice_get xs k ≡ Some y → P y) → P x → (k : ℕ) (y : A) → slice_get (xs ++ x ∷ []) k ≡ Some y → P y
slice_pushed P [] x all px zero y e = let same : x ≡ y = cc in subst P same px
slice_pushed P [] x all px (suc k) y e = absurd cc
slice_pushed P (z ∷ xs) x all px zero y e = all zero y e
slice_pushed P (z ∷ xs) x all px (suc k) y e = slice_pushed P xs x (λ j w. all (suc j) w) px k y e

module _ (n : ℕ) (old new : Open) (outer : Level) (stack : old.stack.items ≡ new.stack.items ++ outer ∷ []) (l : new.top.left ≡ outer.left) where
  pub closed_reaches : Reaches n old → Reaches n new
  closed_reaches r =
      let stood : AllReach n (new.stack.items ++ outer ∷ []) = subst (AllReach n) stack r.stack in
      record {
        top = subst (λ (x : Left). reach_of x ≤ n) (sym l) (stood (length new.stack.items) outer (slice_last new.stack.items outer));
        stack = λ k x e. stood k x (slice_front new.stack.items (outer ∷ []) k x e);
      }

-- ---- opening

module _ (old : Open) (l : Left) (k : Makes) (new : Open) (begins : Opens old l k new) where
  pub begun_reaches : (n : ℕ) → reach_of l ≤ n → Reaches n old → Reaches n new
  begun_reaches n le r = record {
    top = subst (λ (x : Left). reach_of x ≤ n) (sym begins.left) le;
    stack = λ i x e. slice_pushed (λ (y : Level). reach_of y.left ≤ n) old.stack.items begins.outer r.stack
        (let adv : reach_of (advanced old.top.left) ≤ reach_of old.top.left = reach_advanced old.top.left in
        let top : reach_of old.top.left ≤ n = r.top in
        let le : reach_of (advanced old.top.left) ≤ n = omega arith in
        subst (λ (x : Left). reach_of x ≤ n) (sym begins.outer_left) le)
        i x (subst (λ (ls : List Level). slice_get ls i ≡ Some x) begins.stack e);
  }

  -- the value that comes next is read as the level that was opened reads on
  pub begun : (m : ℕ) (reading : ℕ → Reading) (s u : List ℕ) → next_of old.top.left ≢ next.Nothing
      → next_reads m reading (next_of old.top.left) s ≡ after (left_at m reading l u) (λ vs t. whole (made k vs) t)
      → opened m reading old s ≡ opened m reading new u
  unfolding fills
  begun m reading s u some reads =
      fill_next m reading old.top.left old.top.makes old.top.values.items rest s some
      ∙ (ap (λ o. after o (λ v. fills m reading (advanced old.top.left) old.top.makes (old.top.values.items ++ v ∷ []) rest)) reads
      ∙ (after_after (left_at m reading l u) (λ vs t. whole (made k vs) t) (λ v. fills m reading (advanced old.top.left) old.top.makes (old.top.values.items ++ v ∷ []) rest)
      ∙ back))
    where
      rest : Onward
      rest = waits m reading ends old.stack.items

      -- the new level, as what it waits for is said
      back : after (left_at m reading l u) (λ vs. fills m reading (advanced old.top.left) old.top.makes (old.top.values.items ++ made k vs ∷ []) rest) ≡ opened m reading new u
      back =
          let outer = begins.outer in
          let onward : waits m reading ends new.stack.items ≡ (λ v. fills m reading outer.left outer.makes (outer.values.items ++ v ∷ []) rest) =
          ap (waits m reading ends) begins.stack ∙ waits_push m reading ends old.stack.items outer in
          after_same (left_at m reading l u) _ (λ vs. waits m reading ends new.stack.items (made k vs)) (λ vs t.
          ap (λ (x : Left). fills m reading x old.top.makes (old.top.values.items ++ made k vs ∷ []) rest t) (sym begins.outer_left)
          ∙ (ap (λ (x : Makes). fills m reading outer.left x (old.top.values.items ++ made k vs ∷ []) rest t) (sym begins.outer_makes)
          ∙ (ap (λ (x : List Value). fills m reading outer.left outer.makes (x ++ made k vs ∷ []) rest t) (sym begins.outer_values)
          ∙ ap (λ (g : Onward). g (made k vs) t) (sym onward))))
          ∙ (ap (λ (x : Left). fills m reading x k [] (waits m reading ends new.stack.items) u) (sym begins.left)
          ∙ (ap (λ (x : Makes). fills m reading new.top.left x [] (waits m reading ends new.stack.items) u) (sym begins.makes)
          ∙ ap (λ (x : List Value). fills m reading new.top.left new.top.makes x (waits m reading ends new.stack.items) u) (sym begins.values)))

-- ---- nothing to pop

pub none_left : {A : Type 0} (o : Option A) (n : ℕ) (old new : List A) → (IsSome o ↔ (0 < n)) → ((x : A) → o ≡ Some x → ⊥) → old ≡ new ++ option_to_list o → new ≡ take (n - 1) old → old ≡ []
none_left (Some x) n old new some other items rest = absurd (other x refl)
none_left None zero old new some other items rest = items ∙ (append-nil new ∙ (rest ∙ none_taken old))
  where
    none_taken : {A : Type 0} (xs : List A) → take (0 - 1) xs ≡ []
    none_taken [] = refl
    none_taken (x ∷ xs) = refl
none_left None (suc n) old new some other items rest = absurd (true≢false (sym (some.1 (omega arith))))
