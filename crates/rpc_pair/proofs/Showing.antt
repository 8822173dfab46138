-- What is shown of the dispatch of a label.
use Rattle.std.proofs.Common.{◌≡◌, refl, sym, ap, ◌∙◌, subst, ℕ, Bool, true, false, List, [], ◌∷◌, map, drop, if◌then◌else◌}
use Rattle.std.specs.Prelude.{Option, Some, None, option_map}
use Rattle.std.specs.List.{find}
use Rattle.std.specs.Str.{bytes_eq}
use Rattle.std.specs.Ordering.{int_eq}
use Rattle.std.proofs.lemmas.Bool.Decides.{Decides-int_eq}
use Rattle.readers.specs.Reader.{Each}
use Rattle.rpc_msg.specs.declared.shared.Received.{Received}
use Rattle.rpc_meeting.specs.Deeds.{find_label}
use Rattle.rpc_meeting.specs.Talks.{Dispatch}
use Rattle.rpc_meeting.proofs.Look.{no_some, some_is}
use Rattle.rpc_book.specs.Books.{BookState, Booked, HaveDistinctIds, find_booked, held_in}
use Rattle.rpc_book.specs.Calls.{IsReceived, ShowsBooked}
use Rattle.rpc_book.specs.declared.made.Made.{Made}
use Rattle.rpc_pair.specs.Kept.{IsKept}
use Rattle.rpc_pair.specs.Made.{made_dispatch}
use Rattle.rpc_pair.specs.Pairs.{ShowsLabel, ShowsOf}

abbrev labelled : List ℕ → Booked → Bool
labelled label d = bytes_eq d.made.label label

-- the world's dispatch of a label is the book's
pub label_booked : (label : List ℕ) (ds : List Booked) → find_label label (map made_dispatch (map (λ d. d.made) ds)) ≡ option_map (λ (d : Booked). made_dispatch d.made) (find (labelled label) ds)
label_booked label [] = refl
label_booked label (d ∷ ds) = by (bytes_eq d.made.label label) (label_booked label ds)
  where
    by : (b : Bool) → find_label label (map made_dispatch (map (λ e. e.made) ds)) ≡ option_map (λ (e : Booked). made_dispatch e.made) (find (labelled label) ds)
        → (if b then Some (made_dispatch d.made) else find_label label (map made_dispatch (map (λ e. e.made) ds)))
        ≡ option_map (λ (e : Booked). made_dispatch e.made) (if b then Some d else find (labelled label) ds)
    by true same = refl
    by false same = same

-- what is so of each is so of the one that is found
found_each : (P : Booked → Type 0) (p : Booked → Bool) (ds : List Booked) (d : Booked) → Each P ds → find p ds ≡ Some d → P d
found_each P p [] d all here = absurd (no_some d here)
found_each P p (x ∷ ds) d all here = by (p x) here (found_each P p ds d all.1)
  where
    by : (b : Bool) → (if b then Some x else find p ds) ≡ Some d → (find p ds ≡ Some d → P d) → P d
    by true same later = subst P (some_is x d same) all.0
    by false same later = later same

-- and it is found by its id
found_id : (p : Booked → Bool) (ds : List Booked) (d : Booked) → HaveDistinctIds ds → find p ds ≡ Some d → find_booked d.made.id ds ≡ Some d
found_id p [] d distinct here = absurd (no_some d here)
found_id p (x ∷ ds) d distinct here = by (p x) here (found_id p ds d distinct.1) (found_each (λ other. other.made.id ≡ x.made.id → ⊥) p ds d distinct.0)
  where
    other_id : (b : Bool) → int_eq x.made.id d.made.id ≡ b → find_booked d.made.id ds ≡ Some d → (d.made.id ≡ x.made.id → ⊥) → (if b then Some x else find_booked d.made.id ds) ≡ Some d
    other_id true e rest other = absurd (other (sym ((Decides-int_eq x.made.id d.made.id).0 e)))
    other_id false e rest other = rest

    by : (b : Bool) → (if b then Some x else find p ds) ≡ Some d → (find p ds ≡ Some d → find_booked d.made.id ds ≡ Some d) → (find p ds ≡ Some d → d.made.id ≡ x.made.id → ⊥)
        → find_booked d.made.id (x ∷ ds) ≡ Some d
    by true same later other =
        let is : x ≡ d = some_is x d same in
        ap (λ b. if b then Some x else find_booked d.made.id ds) (subst (λ (y : Booked). int_eq x.made.id y.made.id ≡ true) is ((Decides-int_eq x.made.id x.made.id).1 refl))
        ∙ ap (λ (y : Booked). Some y) is
    by false same later other = other_id (int_eq x.made.id d.made.id) refl (later same) (other same)

module _ (b : BookState) (all : Each IsKept b.made) (label : List ℕ) where
  pub shows_none : find_label label (map made_dispatch (map (λ d. d.made) b.made)) ≡ None → ShowsLabel b label None
  shows_none none = by (find (labelled label) b.made) (sym (label_booked label b.made) ∙ none)
    where
      by : (o : Option Booked) → option_map (λ (d : Booked). made_dispatch d.made) o ≡ None → ShowsOf b None o
      by None e = tt
      by (Some d) e = absurd cc

  shows_booked : (d : Booked) (shown : Option Received) → IsKept d → ShowsBooked b shown (Some d) → ShowsOf b shown (Some d)
  shows_booked d None kept handed = absurd (true_not (sym handed ∙ kept.fresh))
    where
      true_not : true ≡ false → ⊥
      true_not e = cc
  shows_booked d (Some shown) kept (fresh, parts, ending) = (parts ∙ ap (λ n. drop n (held_in b d).parts) kept.whole, ending)

  pub shows_some : HaveDistinctIds b.made → (made : Made) (shown : Option Received) → find_label label (map made_dispatch (map (λ d. d.made) b.made)) ≡ Some (made_dispatch made)
      → IsReceived b made.id shown → ShowsLabel b label shown
  shows_some distinct made shown here received = by (find (labelled label) b.made) refl (sym (label_booked label b.made) ∙ here)
    where
      by : (o : Option Booked) → find (labelled label) b.made ≡ o → option_map (λ (d : Booked). made_dispatch d.made) o ≡ Some (made_dispatch made) → ShowsOf b shown o
      by None at e = absurd (no_some (made_dispatch made) e)
      by (Some d) at e =
          let same : made_dispatch d.made ≡ made_dispatch made = some_is (made_dispatch d.made) (made_dispatch made) e in
          let id : made.id ≡ d.made.id = sym (ap (λ (x : Dispatch). x.id) same) in
          let found : find_booked made.id b.made ≡ Some d = ap (λ i. find_booked i b.made) id ∙ found_id (labelled label) b.made d distinct at in
          shows_booked d shown (found_each IsKept (labelled label) b.made d all at) (subst (ShowsBooked b shown) found received)
