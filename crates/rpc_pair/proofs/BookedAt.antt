-- The dispatch at a place of a book.
use Rattle.std.proofs.Common.{◌≡◌, refl, sym, ap, ◌∙◌, subst, ℕ, zero, suc, ◌<◌, ℤ, Bool, true, false, List, [], ◌∷◌, length, map, get_or, arith, if◌then◌else◌}
use Rattle.std.specs.Prelude.{Some}
use Rattle.std.specs.Ordering.{int_eq}
use Rattle.std.proofs.lemmas.Bool.Decides.{Decides-int_eq}
use Rattle.readers.specs.Reader.{Each}
use Rattle.rpc_book.specs.Books.{Booked, HaveDistinctIds, find_booked}
use Rattle.rpc_book.specs.declared.made.Made.{Made}

pub element : (ds : List Booked) (k : ℕ) (x : Made) → k < length ds → x ≡ get_or (map (λ d. d.made) ds) k x → (d : Booked) × ((e : Booked) → get_or ds k e ≡ d) × (d.made ≡ x)
element [] k x less is = absurd (omega (arith, less))
element (d ∷ ds) zero x less is = (d, λ e. refl, sym is)
element (d ∷ ds) (suc k) x less is = element ds k x (omega (arith, less)) is

pub each_at : (P : Booked → Type 0) (ds : List Booked) (k : ℕ) (d : Booked) → Each P ds → k < length ds → ((e : Booked) → get_or ds k e ≡ d) → P d
each_at P [] k d all less at = absurd (omega (arith, less))
each_at P (x ∷ ds) zero d all less at = subst P (at x) all.0
each_at P (x ∷ ds) (suc k) d all less at = each_at P ds k d all.1 (omega (arith, less)) at

same_id : (id : ℤ) → int_eq id id ≡ true
same_id id = (Decides-int_eq id id).1 refl

pub found_at : (ds : List Booked) (k : ℕ) (d : Booked) → HaveDistinctIds ds → k < length ds → ((e : Booked) → get_or ds k e ≡ d) → find_booked d.made.id ds ≡ Some d
found_at [] k d distinct less at = absurd (omega (arith, less))
found_at (x ∷ ds) zero d distinct less at =
    let same : x ≡ d = at x in
    ap (λ b. if b then Some x else find_booked d.made.id ds) (subst (λ (y : Booked). int_eq x.made.id y.made.id ≡ true) same (same_id x.made.id)) ∙ ap (λ (y : Booked). Some y) same
found_at (x ∷ ds) (suc k) d distinct less at =
    by (int_eq x.made.id d.made.id) refl (found_at ds k d distinct.1 (omega (arith, less)) at)
    (each_at (λ other. other.made.id ≡ x.made.id → ⊥) ds k d distinct.0 (omega (arith, less)) at)
  where
    by : (b : Bool) → int_eq x.made.id d.made.id ≡ b → find_booked d.made.id ds ≡ Some d → (d.made.id ≡ x.made.id → ⊥)
        → (if b then Some x else find_booked d.made.id ds) ≡ Some d
    by true e later other = absurd (other (sym ((Decides-int_eq x.made.id d.made.id).0 e)))
    by false e later other = later
