-- Looking things up by an id: in a list that grows, and in one whose elements change.
use Rattle.std.proofs.Common.{◌≡◌, refl, sym, ap, ◌∙◌, subst, ℤ, Bool, true, false, if◌then◌else◌, List, [], ◌∷◌, ◌++◌, map}
use Rattle.std.specs.Prelude.{Option, Some, None}
use Rattle.std.specs.List.{find}
use Rattle.std.specs.Option.{option_map}
use Rattle.std.specs.Ordering.{int_eq}
use Rattle.std.proofs.lemmas.Bool.Decides.{Decides-int_eq}
use Rattle.readers.specs.Reader.{Each}

pub same : (i j : ℤ) → int_eq i j ≡ true → i ≡ j
same i j e = (Decides-int_eq i j).0 e

pub itself : (i : ℤ) → int_eq i i ≡ true
itself i = (Decides-int_eq i i).1 refl

pub no_true : true ≡ false → ⊥
no_true e = cc

pub no_some : {X : Type 0} (x : X) → ◌≡◌ {A = Option X} None (Some x) → ⊥
no_some x e = cc

pub some_is : {X : Type 0} (x y : X) → Some x ≡ Some y → x ≡ y
some_is x y e = cc

module _ {X : Type 0} (key : X → ℤ) where
  abbrev pub find_by : ℤ → List X → Option X
  find_by id xs = find (λ x. int_eq (key x) id) xs

  -- what is found has the id
  pub find_key : (id : ℤ) (xs : List X) (x : X) → find_by id xs ≡ Some x → key x ≡ id
  find_key id [] x e = absurd (no_some x e)
  find_key id (y ∷ xs) x e = by (int_eq (key y) id) refl e (find_key id xs x)
    where
      by : (b : Bool) → int_eq (key y) id ≡ b → (if b then Some y else find_by id xs) ≡ Some x → (find_by id xs ≡ Some x → key x ≡ id) → key x ≡ id
      by true at is later = ap key (sym (some_is y x is)) ∙ same (key y) id at
      by false at is later = later is

  -- what was found is found in more
  pub find_push_old : (id : ℤ) (xs more : List X) (x : X) → find_by id xs ≡ Some x → find_by id (xs ++ more) ≡ Some x
  find_push_old id [] more x e = absurd (no_some x e)
  find_push_old id (y ∷ xs) more x e = by (int_eq (key y) id) e (find_push_old id xs more x)
    where
      by : (b : Bool) → (if b then Some y else find_by id xs) ≡ Some x → (find_by id xs ≡ Some x → find_by id (xs ++ more) ≡ Some x)
          → (if b then Some y else find_by id (xs ++ more)) ≡ Some x
      by true is later = is
      by false is later = later is

  -- what was not found is looked for in the rest
  pub find_push_none : (id : ℤ) (xs more : List X) → find_by id xs ≡ None → find_by id (xs ++ more) ≡ find_by id more
  find_push_none id [] more e = refl
  find_push_none id (y ∷ xs) more e = by (int_eq (key y) id) e (find_push_none id xs more)
    where
      by : (b : Bool) → (if b then Some y else find_by id xs) ≡ None → (find_by id xs ≡ None → find_by id (xs ++ more) ≡ find_by id more)
          → (if b then Some y else find_by id (xs ++ more)) ≡ find_by id more
      by true is later = absurd (no_some y (sym is))
      by false is later = later is

  pub find_one : (id : ℤ) (x : X) → key x ≡ id → find_by id (x ∷ []) ≡ Some x
  find_one id x e = ap (λ b. if b then Some x else None) ((Decides-int_eq (key x) id).1 e)

  pub find_other : (id : ℤ) (x : X) → int_eq (key x) id ≡ false → find_by id (x ∷ []) ≡ None
  find_other id x e = ap (λ b. if b then Some x else None) e

  -- a new one is found under its own id
  pub find_push_new : (id : ℤ) (xs : List X) (x : X) → find_by id xs ≡ None → key x ≡ id → find_by id (xs ++ x ∷ []) ≡ Some x
  find_push_new id xs x none e = find_push_none id xs (x ∷ []) none ∙ find_one id x e

  -- and changes nothing under another
  pub find_push_other : (id : ℤ) (xs : List X) (x : X) → int_eq (key x) id ≡ false → find_by id (xs ++ x ∷ []) ≡ find_by id xs
  find_push_other id xs x e = by (find_by id xs) refl
    where
      by : (o : Option X) → find_by id xs ≡ o → find_by id (xs ++ x ∷ []) ≡ find_by id xs
      by None is = find_push_none id xs (x ∷ []) is ∙ (find_other id x e ∙ sym is)
      by (Some y) is = find_push_old id xs (x ∷ []) y is ∙ sym is

  -- changes that keep ids
  module _ (f : X → X) (keeps : (x : X) → key (f x) ≡ key x) where
    pub find_map : (id : ℤ) (xs : List X) → find_by id (map f xs) ≡ option_map f (find_by id xs)
    find_map id [] = refl
    find_map id (y ∷ xs) = ap (λ k. if int_eq k id then Some (f y) else find_by id (map f xs)) (keeps y) ∙ by (int_eq (key y) id) (find_map id xs)
      where
        by : (b : Bool) → find_by id (map f xs) ≡ option_map f (find_by id xs)
            → (if b then Some (f y) else find_by id (map f xs)) ≡ option_map f (if b then Some y else find_by id xs)
        by true later = refl
        by false later = later

  -- changes that leave what has an id as it is, under that id
  find_same : (f : X → X) (id : ℤ) (xs : List X) → ((x : X) → key x ≡ id → f x ≡ x) → option_map f (find_by id xs) ≡ find_by id xs
  find_same f id xs same_there = by (find_by id xs) refl
    where
      by : (o : Option X) → find_by id xs ≡ o → option_map f o ≡ o
      by None e = refl
      by (Some x) e = ap Some (same_there x (find_key id xs x e))

  pub find_map_other : (f : X → X) → ((x : X) → key (f x) ≡ key x) → (id : ℤ) (xs : List X) → ((x : X) → key x ≡ id → f x ≡ x) → find_by id (map f xs) ≡ find_by id xs
  find_map_other f keeps id xs same_there = find_map f keeps id xs ∙ find_same f id xs same_there

  -- ---- what is so of each

  pub each_found : (P : X → Type 0) (id : ℤ) (xs : List X) (x : X) → Each P xs → find_by id xs ≡ Some x → P x
  each_found P id [] x all e = absurd (no_some x e)
  each_found P id (y ∷ xs) x all e = by (int_eq (key y) id) e (each_found P id xs x all.1)
    where
      by : (b : Bool) → (if b then Some y else find_by id xs) ≡ Some x → (find_by id xs ≡ Some x → P x) → P x
      by true is later = subst P (some_is y x is) all.0
      by false is later = later is

pub each_push : {X : Type 0} (P : X → Type 0) (xs : List X) (x : X) → Each P xs → P x → Each P (xs ++ x ∷ [])
each_push P [] x all one = (one, tt)
each_push P (y ∷ xs) x all one = (all.0, each_push P xs x all.1 one)

pub each_more : {X : Type 0} (P Q : X → Type 0) (xs : List X) → ((x : X) → P x → Q x) → Each P xs → Each Q xs
each_more P Q [] f all = tt
each_more P Q (x ∷ xs) f all = (f x all.0, each_more P Q xs f all.1)

pub each_map : {X : Type 0} (P Q : X → Type 0) (g : X → X) (xs : List X) → ((x : X) → P x → Q (g x)) → Each P xs → Each Q (map g xs)
each_map P Q g [] f all = tt
each_map P Q g (x ∷ xs) f all = (f x all.0, each_map P Q g xs f all.1)

-- different ids, by the test
pub apart_ids : (i j : ℤ) → int_eq i j ≡ false → i ≡ j → ⊥
apart_ids i j e same_there = no_true (sym ((Decides-int_eq i j).1 same_there) ∙ e)
