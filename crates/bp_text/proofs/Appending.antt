-- Bytes that are appended part by part.
use Rattle.std.proofs.Common.{◌≡◌, refl, sym, ap, ◌∙◌, ℕ, zero, suc, ◌+◌, ◌<◌, ◌≤◌, List, [], ◌∷◌, ◌++◌, length, map, drop, get_or, slice_get, Some, Result, Ok, Err, add-one, append_assoc, append-nil, arith}
use Rattle.std.specs.List.{flat_map, join_by}
use Rattle.std.specs.Option.{option_map}
use Rattle.std.specs.Result.{IsErrAnd}
use Rattle.std.proofs.Math.Seq.{drop-cons}
use Rattle.std.proofs.lemmas.List.{drop_all}
use Rattle.std.proofs.lemmas.Option.{slice_get-map, slice_get_read}
use Rattle.std.proofs.lemmas.Result.{err_from_is_err_and}
use Rattle.bp_value.specs.declared.memory.OutOfMemory.{OutOfMemory}
use Rattle.bp_text.specs.Printing.{lead, Appends}

-- one part, and then what is left
pub appends_then : (a b old mid new : List ℕ) (r : Result (Unit {0}) OutOfMemory) → Appends a old mid (Ok tt) → Appends b mid new r → Appends (a ++ b) old new r
appends_then a b old mid new (Ok u) first second = second ∙ (ap (λ s. s ++ b) first ∙ append_assoc old a b)
appends_then a b old mid new (Err e) first second =
    (a ++ second.0, second.1 ∙ (ap (λ s. s ++ second.0) first ∙ append_assoc old a second.0))

-- a part that was not appended, and what is left
pub appends_failed : (a b old new : List ℕ) (r : Result (Unit {0}) OutOfMemory) (e : OutOfMemory) → IsErrAnd r (λ x. x ≡ e) → Appends a old new (Err e)
    → Appends (a ++ b) old new r
appends_failed a b old new r e is first = let p = err_from_is_err_and r is in rw p.1 first

-- ---- a loop that appends the whole to the list `old`, whose `rest` is left to be appended to `mid`

-- whatever comes of the rest comes of the whole
pub record Leads (whole old rest mid : List ℕ) : Type 0 where
  pub leads : (r : Result (Unit {0}) OutOfMemory) (new : List ℕ) → Appends rest mid new r → Appends whole old new r

pub leads_as : (whole old rest : List ℕ) → whole ≡ rest → Leads whole old rest old
leads_as whole old rest is = record { leads = λ r new p. rw is p }

-- after a first part
pub leads_start : (a b whole old mid : List ℕ) → whole ≡ a ++ b → Appends a old mid (Ok tt) → Leads whole old b mid
leads_start a b whole old mid is first = record { leads = λ r new second. rw is (appends_then a b old mid new r first second) }

module _ (whole old rest mid : List ℕ) (loop : Leads whole old rest mid) where
  pub leads_next : (a b new : List ℕ) → rest ≡ a ++ b → Appends a mid new (Ok tt) → Leads whole old b new
  leads_next a b new is first = record { leads = λ r end second. loop.leads r end (rw is (appends_then a b mid new end r first second)) }

  pub leads_failed : (a b new : List ℕ) (r : Result (Unit {0}) OutOfMemory) (e : OutOfMemory) → rest ≡ a ++ b → IsErrAnd r (λ x. x ≡ e)
      → Appends a mid new (Err e) → Appends whole old new r
  leads_failed a b new r e is failed first = loop.leads r new (rw is (appends_failed a b mid new r e failed first))

  pub leads_last : (b new : List ℕ) (r : Result (Unit {0}) OutOfMemory) → rest ≡ b → Appends b mid new r → Appends whole old new r
  leads_last b new r is last = loop.leads r new (rw is last)

  pub leads_done : rest ≡ [] → Appends whole old mid (Ok tt)
  leads_done is = loop.leads (Ok tt) mid (rw is (sym (append-nil mid)))

-- ---- elements of lists

pub some_is : {A : Type 0} (x y : A) → Some x ≡ Some y → x ≡ y
some_is x y e = cc

pub read_at : {X : Type 0} (xs : List X) (i : ℕ) (x : X) → i < length xs → x ≡ get_or xs i x → slice_get xs i ≡ Some x
read_at xs i x lt is = slice_get_read xs (length xs) i x refl lt is

pub mapped_at : {X Y : Type 0} (g : X → Y) (xs : List X) (i : ℕ) (x : X) → i < length xs → x ≡ get_or xs i x → slice_get (map g xs) i ≡ Some (g x)
mapped_at g xs i x lt is = slice_get-map g xs i ∙ ap (option_map g) (read_at xs i x lt is)

-- ---- texts with a separator between each two, of which those from a place on are left

-- the text of a list, each with the separator before it but the first
abbrev pub joined : List ℕ → List (List ℕ) → List ℕ
joined separator texts = join_by (λ t. t) separator texts

abbrev pub rest_of : List ℕ → List (List ℕ) → ℕ → List ℕ
rest_of separator texts zero = joined separator texts
rest_of separator texts (suc i) = flat_map (λ t. separator ++ t) (drop (suc i) texts)

cut_at : {A : Type 0} (xs : List A) (i : ℕ) (x : A) → slice_get xs i ≡ Some x → drop i xs ≡ x ∷ drop (suc i) xs
cut_at [] i x e = absurd cc
cut_at (y ∷ xs) zero x e = ap (λ z. z ∷ xs) (some_is y x e)
cut_at (y ∷ xs) (suc i) x e = cut_at xs i x e

pub rest_next : (separator : List ℕ) (texts : List (List ℕ)) (i : ℕ) (t after : List ℕ) → slice_get texts i ≡ Some t
    → rest_of separator texts i ++ after ≡ (lead separator i ++ t) ++ (rest_of separator texts (i + 1) ++ after)
rest_next separator [] i t after e = absurd cc
rest_next separator (u ∷ texts) zero t after e =
    ap (λ z. (z ++ flat_map (λ t. separator ++ t) texts) ++ after) (some_is u t e) ∙ append_assoc t (flat_map (λ t. separator ++ t) texts) after
rest_next separator (u ∷ texts) (suc i) t after e =
    rw (add-one (suc i), cut_at (u ∷ texts) (suc i) t e) (append_assoc (separator ++ t) (flat_map (λ t. separator ++ t) (drop (suc i) texts)) after)

pub rest_done : (separator : List ℕ) (texts : List (List ℕ)) (i : ℕ) (after : List ℕ) → length texts ≤ i → rest_of separator texts i ++ after ≡ after
rest_done separator [] zero after le = refl
rest_done separator (t ∷ texts) zero after le = absurd (omega arith)
rest_done separator texts (suc i) after le = rw (drop_all (suc i) texts le) refl

-- ---- texts without a separator

module _ {A : Type 0} (w : A → List ℕ) (xs : List A) (i : ℕ) where
  pub each_next : (d x : A) (after : List ℕ) → i < length xs → x ≡ get_or xs i d
      → flat_map w (drop i xs) ++ after ≡ w x ++ (flat_map w (drop (i + 1) xs) ++ after)
  each_next d x after lt is = rw (drop-cons xs i d, add-one, ← is) (append_assoc (w x) (flat_map w (drop (suc i) xs)) after)

  pub each_done : (after : List ℕ) → length xs ≤ i → flat_map w (drop i xs) ++ after ≡ after
  each_done after le = rw (drop_all i xs le) refl
