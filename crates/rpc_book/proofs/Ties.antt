-- The dispatches of a book are those that its client has.
use Rattle.std.proofs.Common.{◌≡◌, ◌≢◌, refl, sym, ap, ◌∙◌, subst, ◌+◌, ℤ, Bool, true, false, if◌then◌else◌, List, [], ◌∷◌, ◌++◌, map}
use Rattle.std.specs.Prelude.{Option, Some, None}
use Rattle.std.specs.List.{count_by, find}
use Rattle.std.specs.Ordering.{int_eq}
use Rattle.std.proofs.lemmas.List.Sums.{sum_by-cons}
use Rattle.readers.specs.Reader.{Each}
use Rattle.rpc_client.specs.Kept.{row_call, row_calls, HaveOwnIds as RowsOwnIds}
use Rattle.rpc_client.specs.Rows.{Row}
use Rattle.rpc_client.specs.Tables.{find_row, with_row}
use Rattle.rpc_book.specs.declared.made.Made.{Made}
use Rattle.rpc_book.specs.Books.{Booked, call_of, calls_of, changed, find_booked, has_booked_id, HaveDistinctIds}
use Rattle.rpc_book.specs.Inside.{dispatches, has_made_id, AreMadeOf, IsMadeOf}
use Rattle.rpc_book.proofs.Lists.{changed_same}

abbrev pub known_by : Made → Bool → Booked
known_by made handed = record { made = made; handed = handed }

abbrev pub known : Made → Row → Booked
known made row = known_by made row.handed

-- ---- one is found where the other is

abbrev pub FoundBoth : Option Booked → Option Row → Type 0
FoundBoth None None = Unit {0}
FoundBoth None (Some row) = ⊥
FoundBoth (Some d) None = ⊥
FoundBoth (Some d) (Some row) = IsMadeOf d.made row × (d.handed ≡ row.handed)

pub found_both : (id : ℤ) (made : List Made) (rows : List Row) → AreMadeOf made rows → FoundBoth (find_booked id (dispatches made rows)) (find_row id rows)
found_both id [] [] are = tt
found_both id [] (row ∷ rows) are = absurd are
found_both id (one ∷ made) [] are = absurd are
found_both id (one ∷ made) (row ∷ rows) (is, are) = by (int_eq one.id id) (int_eq row.id id) (ap (λ i. int_eq i id) is.id) (found_both id made rows are)
  where
    by : (b c : Bool) → b ≡ c → FoundBoth (find_booked id (dispatches made rows)) (find_row id rows)
        → FoundBoth (if b then Some (known one row) else find_booked id (dispatches made rows)) (if c then Some row else find_row id rows)
    by true true e later = (is, refl)
    by true false e later = absurd cc
    by false true e later = absurd cc
    by false false e later = later

-- what the code finds has a row
pub row_of : (id : ℤ) (one : Made) (made : List Made) (rows : List Row) → AreMadeOf made rows → find (has_made_id id) made ≡ Some one
    → (row : Row) × IsMadeOf one row × (find_row id rows ≡ Some row)
row_of id one [] rows are here = absurd cc
row_of id one (m ∷ made) [] are here = absurd are
row_of id one (m ∷ made) (row ∷ rows) (of, are) here = by (int_eq m.id id) (int_eq row.id id) (ap (λ i. int_eq i id) of.id) here (row_of id one made rows are)
  where
    by : (b c : Bool) → b ≡ c → (if b then Some m else find (has_made_id id) made) ≡ Some one
        → (find (has_made_id id) made ≡ Some one → (r : Row) × IsMadeOf one r × (find_row id rows ≡ Some r))
        → (r : Row) × IsMadeOf one r × ((if c then Some row else find_row id rows) ≡ Some r)
    by true true e here later = let same : m ≡ one = cc in (row, subst (λ x. IsMadeOf x row) same of, refl)
    by true false e here later = absurd cc
    by false true e here later = absurd cc
    by false false e here later = later here

-- ---- both change

module _ (id : ℤ) (f : Made → Made) (h : Booked → Booked) (row new : Row) (same : new.id ≡ id)
    (both : (one : Made) → IsMadeOf one row → IsMadeOf (f one) new × (known (f one) new ≡ h (known one row))) where
  abbrev Changes : List Made → List Row → List Booked → Type 0
  Changes made rows after = AreMadeOf made rows × (dispatches made rows ≡ after)

  pub changed_both : (made : List Made) (rows : List Row) → AreMadeOf made rows → find_row id rows ≡ Some row
      → Changes (changed (has_made_id id) f made) (with_row new rows) (changed (has_booked_id id) h (dispatches made rows))
  changed_both [] [] are found = absurd cc
  changed_both [] (r ∷ rows) are found = absurd are
  changed_both (one ∷ made) [] are found = absurd are
  changed_both (one ∷ made) (r ∷ rows) (is, are) found =
      by (int_eq one.id id) (int_eq r.id new.id) (int_eq r.id id) (ap (λ i. int_eq i id) is.id) (ap (int_eq r.id) same) found (changed_both made rows are)
    where
      by : (b c x : Bool) → b ≡ x → c ≡ x → (if x then Some r else find_row id rows) ≡ Some row
          → (find_row id rows ≡ Some row → Changes (changed (has_made_id id) f made) (with_row new rows) (changed (has_booked_id id) h (dispatches made rows)))
          → Changes (if b then f one ∷ made else one ∷ changed (has_made_id id) f made) (if c then new ∷ rows else r ∷ with_row new rows)
          (if b then h (known one r) ∷ dispatches made rows else known one r ∷ changed (has_booked_id id) h (dispatches made rows))
      by true true x e k here later =
          let (made_of, is_known) = both one (subst (λ y. IsMadeOf one y) r_is is) in
          ((made_of, are), ap (λ d. d ∷ dispatches made rows) (is_known ∙ ap (λ y. h (known one y)) (sym r_is)))
        where
          r_is : r ≡ row
          r_is = let line : (if true then Some r else find_row id rows) ≡ Some row = ap (λ y. if y then Some r else find_row id rows) e ∙ here in cc
      by true false x e k here later = absurd cc
      by false true x e k here later = absurd cc
      by false false x e k here later =
          let (made_of, is_known) = later (ap (λ y. if y then Some r else find_row id rows) e ∙ here) in
          ((is, made_of), ap (λ ds. known one r ∷ ds) is_known)

-- the row changes in nothing that a dispatch has
pub record IsSameRow (row new : Row) : Type 0 where
  pub id : new.id ≡ row.id
  pub desc : new.desc ≡ row.desc
  pub cut : new.cut ≡ row.cut
  pub taken : new.taken ≡ row.taken
  pub handed : new.handed ≡ row.handed

pub same_both : (id : ℤ) (row new : Row) (made : List Made) (rows : List Row) → AreMadeOf made rows → find_row id rows ≡ Some row → new.id ≡ id → IsSameRow row new
    → AreMadeOf made (with_row new rows) × (dispatches made (with_row new rows) ≡ dispatches made rows)
same_both id row new made rows are found its same =
    let one = changed_both id (λ m. m) (λ d. d) row new its
    (λ m is. (
      record { id = is.id ∙ sym same.id; desc = is.desc ∙ sym same.desc; cut = is.cut ∙ sym same.cut; taken = is.taken ∙ sym same.taken },
      ap (known_by m) same.handed,
    )) made rows are found in
    let made_is : changed (has_made_id id) (λ m. m) made ≡ made = changed_same (has_made_id id) (λ m. m) made (λ m. refl) in (
      subst (λ ms. AreMadeOf ms (with_row new rows)) made_is one.0,
      ap (λ ms. dispatches ms (with_row new rows)) (sym made_is) ∙ (one.1 ∙ changed_same (has_booked_id id) (λ d. d) (dispatches made rows) (λ d. refl)),
    )

-- ---- one more

pub more_both : (made : List Made) (rows : List Row) (one : Made) (row : Row) → AreMadeOf made rows → IsMadeOf one row
    → AreMadeOf (made ++ one ∷ []) (rows ++ row ∷ []) × (dispatches (made ++ one ∷ []) (rows ++ row ∷ []) ≡ dispatches made rows ++ known one row ∷ [])
more_both [] [] one row are is = ((is, tt), refl)
more_both [] (r ∷ rows) one row are is = absurd are
more_both (m ∷ made) [] one row are is = absurd are
more_both (m ∷ made) (r ∷ rows) one row (here, are) is =
    let (later, same) = more_both made rows one row are is in
    ((here, later), ap (λ ds. known m r ∷ ds) same)

-- ---- calls, ids and counts

pub calls_both : (made : List Made) (rows : List Row) → AreMadeOf made rows → calls_of (dispatches made rows) ≡ row_calls rows
calls_both [] [] are = refl
calls_both [] (r ∷ rows) are = absurd are
calls_both (one ∷ made) [] are = absurd are
calls_both (one ∷ made) (row ∷ rows) (is, are) =
    let first : call_of (known one row) ≡ row_call row =
    ap (λ i. record { id = i; desc = one.desc }) is.id ∙ ap (λ d. record { id = row.id; desc = d }) is.desc in
    ap (λ c. c ∷ calls_of (dispatches made rows)) first ∙ ap (λ cs. row_call row ∷ cs) (calls_both made rows are)

pub made_both : (made : List Made) (rows : List Row) → AreMadeOf made rows → map (λ d. d.made) (dispatches made rows) ≡ made
made_both [] [] are = refl
made_both [] (r ∷ rows) are = absurd are
made_both (one ∷ made) [] are = absurd are
made_both (one ∷ made) (row ∷ rows) (is, are) = ap (λ ms. one ∷ ms) (made_both made rows are)

-- what holds of each row holds of each dispatch
pub each_both : (P : Row → Type 0) (Q : Booked → Type 0) → ((one : Made) (row : Row) → IsMadeOf one row → P row → Q (known one row))
    → (made : List Made) (rows : List Row) → AreMadeOf made rows → Each P rows → Each Q (dispatches made rows)
each_both P Q f [] [] are all = tt
each_both P Q f [] (r ∷ rows) are all = absurd are
each_both P Q f (one ∷ made) [] are all = absurd are
each_both P Q f (one ∷ made) (row ∷ rows) (is, are) (here, all) = (f one row is here, each_both P Q f made rows are all)

pub ids_both : (made : List Made) (rows : List Row) → AreMadeOf made rows → RowsOwnIds rows → HaveDistinctIds (dispatches made rows)
ids_both [] [] are own = tt
ids_both [] (r ∷ rows) are own = absurd are
ids_both (one ∷ made) [] are own = absurd are
ids_both (one ∷ made) (row ∷ rows) (is, are) (differ, own) = (
  each_both (λ other. other.id ≢ row.id) (λ other. other.made.id ≢ one.id) (λ m r same differs e. differs (sym same.id ∙ (e ∙ is.id))) made rows are differ,
  ids_both made rows are own,
)

pub count_both : (p : Booked → Bool) (q : Row → Bool) (P : Row → Type 0) → ((one : Made) (row : Row) → IsMadeOf one row → P row → p (known one row) ≡ q row)
    → (made : List Made) (rows : List Row) → AreMadeOf made rows → Each P rows → count_by p (dispatches made rows) ≡ count_by q rows
count_both p q P f [] [] are all = refl
count_both p q P f [] (r ∷ rows) are all = absurd are
count_both p q P f (one ∷ made) [] are all = absurd are
count_both p q P f (one ∷ made) (row ∷ rows) (is, are) (here, all) =
    sum_by-cons (λ d. if p d then 1 else 0) (known one row) (dispatches made rows)
    ∙ (ap (λ b. (if b then 1 else 0) + count_by p (dispatches made rows)) (f one row is here)
    ∙ (ap (λ n. (if q row then 1 else 0) + n) (count_both p q P f made rows are all)
    ∙ sym (sum_by-cons (λ r. if q r then 1 else 0) row rows)))
