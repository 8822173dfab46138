-- The dispatch at the place that a label has, and the places behind a change of a book.
use Rattle.std.proofs.Common.{◌≡◌, refl, sym, ap, ◌∙◌, subst, ℕ, ℤ, suc, zero, ◌+◌, ◌≤◌, ◌<◌, Bool, true, false, List, [], ◌∷◌, ◌++◌, length, map, arith, if◌then◌else◌}
use Rattle.std.specs.Prelude.{Option, Some, None, Result, Ok, Err, MatchOption, cond, not, nat_lt, option_map}
use Rattle.std.specs.Borrow.{Bor}
use Rattle.std.specs.List.{find, position, position_or_len, slice_get, HoldsAt}
use Rattle.std.specs.Option.{option_or}
use Rattle.std.specs.Result.{is_err}
use Rattle.std.specs.Slice.{IsItemAt}
use Rattle.std.specs.Str.{bytes_eq}
use Rattle.std.proofs.lemmas.List.{length-map, map-append}
use Rattle.std.proofs.lemmas.Slice.Eq.{bytes_eq-Decides}
use Rattle.bp_value.specs.declared.value.Value.{Value}
use Rattle.rpc_msg.specs.declared.shared.Ticket.{Ticket}
use Rattle.rpc_schema.specs.declared.desc.RpcDesc.{RpcDesc}
use Rattle.rpc_client.specs.declared.error.AbortError.{AbortError}
use Rattle.rpc_client.specs.declared.error.DispatchError.{DispatchError}
use Rattle.rpc_meeting.specs.Deeds.{find_label}
use Rattle.rpc_book.specs.Books.{BookState, Booked, changed, find_booked, has_booked_id}
use Rattle.rpc_book.specs.Calls.{Aborts, IsAbortedAt, IsBooked, cut_to}
use Rattle.rpc_book.specs.declared.made.Made.{Made}
use Rattle.rpc_pair.specs.Labels.{AreLabels, Sets, labels_of, place_in}
use Rattle.rpc_pair.specs.declared.labels.Labels.{Labels}
use Rattle.rpc_pair.specs.Made.{dispatches_of, has_label, made_dispatch}
use Rattle.rpc_pair.proofs.LabelFinds.{label_map}

-- ---- places

module _ {X : Type 0} (p : X → Bool) where
  -- the place of the first that passes
  abbrev place : List X → Option ℕ
  place [] = None
  place (x ∷ xs) = cond (p x) (Some 0) (option_map suc (place xs))

  position_is : (xs : List X) → position p xs ≡ place xs
  position_is [] = refl
  position_is (x ∷ xs) = by (p x) (position_is xs)
    where
      inner : (b : Bool) (n : ℕ) → cond b (Some (suc n)) None ≡ option_map suc (cond b (Some n) None)
      inner true n = refl
      inner false n = refl

      by : (b : Bool) → position p xs ≡ place xs
          → cond (nat_lt (cond (not b) (1 + position_or_len p xs) 0) (length (x ∷ xs))) (Some (cond (not b) (1 + position_or_len p xs) 0)) None ≡ cond b (Some 0) (option_map suc (place xs))
      by true same = let first : nat_lt 0 (length (x ∷ xs)) ≡ true = grind arith in ap (λ b. cond b (Some 0) None) first
      by false same =
          let next : 1 + position_or_len p xs ≡ suc (position_or_len p xs) = omega arith in
          let less : nat_lt (suc (position_or_len p xs)) (length (x ∷ xs)) ≡ nat_lt (position_or_len p xs) (length xs) = grind arith in
          ap (λ k. cond (nat_lt k (length (x ∷ xs))) (Some k) None) next
          ∙ (ap (λ b. cond b (Some (suc (position_or_len p xs))) None) less ∙ (inner (nat_lt (position_or_len p xs) (length xs)) (position_or_len p xs) ∙ ap (option_map suc) same))

  -- what is at a place
  abbrev look : List X → Option ℕ → Option X
  look xs None = None
  look xs (Some i) = slice_get xs i

  find_place : (xs : List X) → find p xs ≡ look xs (place xs)
  find_place [] = refl
  find_place (x ∷ xs) = by (p x) (find_place xs)
    where
      on : (o : Option ℕ) → look xs o ≡ look (x ∷ xs) (option_map suc o)
      on None = refl
      on (Some i) = refl

      by : (b : Bool) → find p xs ≡ look xs (place xs) → cond b (Some x) (find p xs) ≡ look (x ∷ xs) (cond b (Some 0) (option_map suc (place xs)))
      by true same = refl
      by false same = same ∙ on (place xs)

  place_none : (xs : List X) → find p xs ≡ None → place xs ≡ None
  place_none [] none = refl
  place_none (x ∷ xs) none = by (p x) none (place_none xs)
    where
      by : (b : Bool) → cond b (Some x) (find p xs) ≡ None → (find p xs ≡ None → place xs ≡ None) → cond b (Some 0) (option_map suc (place xs)) ≡ None
      by true one later = absurd cc
      by false none later = ap (option_map suc) (later none)

  place_more : (xs : List X) (x : X) → place (xs ++ x ∷ []) ≡ option_or (place xs) (cond (p x) (Some (length xs)) None)
  place_more [] x = by (p x)
    where
      by : (b : Bool) → cond {A = Option ℕ} b (Some 0) None ≡ cond {A = Option ℕ} b (Some 0) None
      by b = refl
  place_more (y ∷ xs) x = by (p y) (place_more xs x)
    where
      on : (o : Option ℕ) (b : Bool) → option_map suc (option_or o (cond b (Some (length xs)) None)) ≡ option_or (option_map suc o) (cond b (Some (suc (length xs))) None)
      on None true = refl
      on None false = refl
      on (Some i) b = refl

      by : (b : Bool) → place (xs ++ x ∷ []) ≡ option_or (place xs) (cond (p x) (Some (length xs)) None)
          → cond b (Some 0) (option_map suc (place (xs ++ x ∷ []))) ≡ option_or (cond b (Some 0) (option_map suc (place xs))) (cond (p x) (Some (suc (length xs))) None)
      by true same = refl
      by false same = ap (option_map suc) same ∙ on (place xs) (p x)

place_map : {X Y : Type 0} (p : Y → Bool) (f : X → Y) (xs : List X) → place p (map f xs) ≡ place (λ x. p (f x)) xs
place_map p f [] = refl
place_map p f (x ∷ xs) = ap (λ o. cond (p (f x)) (Some 0) (option_map suc o)) (place_map p f xs)

-- ---- what is at a place

got_none : {X : Type 0} (xs : List X) (i : ℕ) → length xs ≤ i → slice_get xs i ≡ None
got_none [] i beyond = refl
got_none (x ∷ xs) zero beyond = absurd (omega (arith, beyond))
got_none (x ∷ xs) (suc i) beyond = got_none xs i (omega (arith, beyond))

got_some : {X : Type 0} (xs : List X) (i : ℕ) (y : X) → i < length xs → HoldsAt (λ x. y ≡ x) xs i → slice_get xs i ≡ Some y
got_some [] i y within holds = absurd (omega (arith, within))
got_some (x ∷ xs) zero y within holds = ap Some (sym (holds x))
got_some (x ∷ xs) (suc i) y within holds = got_some xs i y (omega (arith, within)) holds

got : {X : Type 0} (xs : List X) (i : ℕ) (o : Option (Bor X)) → IsItemAt xs i o → MatchOption o (slice_get xs i ≡ None) (λ x. slice_get xs i ≡ Some x.now)
got xs i None item = got_none xs i item.3
got xs i (Some x) item = got_some xs i x.now item.3.0 item.3.1

-- ---- the place of a label

module _ (label : List ℕ) where
  abbrev Is : List ℕ → Bool
  Is other = bytes_eq other label

  made_place : (ds : List Booked) → place Is (labels_of ds) ≡ place (has_label label) (map (λ d. d.made) ds)
  made_place ds = place_map Is (λ (d : Booked). d.made.label) ds ∙ sym (place_map (has_label label) (λ (d : Booked). d.made) ds)

  -- a label that has a place has it where its first dispatch stands
  pub place_found : (ds : List Booked) (i : ℕ) (o : Option (Bor Made)) → position Is (labels_of ds) ≡ Some i → IsItemAt (map (λ d. d.made) ds) i o
      → MatchOption o (find (has_label label) (map (λ d. d.made) ds) ≡ None) (λ d. find (has_label label) (map (λ d. d.made) ds) ≡ Some d.now)
  place_found ds i o is item = subst (λ x. MatchOption o (x ≡ None) (λ d. x ≡ Some d.now)) (sym found) (got (map (λ d. d.made) ds) i o item)
    where
      found : find (has_label label) (map (λ d. d.made) ds) ≡ slice_get (map (λ d. d.made) ds) i
      found = find_place (has_label label) (map (λ d. d.made) ds) ∙ ap (look (has_label label) (map (λ d. d.made) ds)) (sym (made_place ds) ∙ (sym (position_is Is (labels_of ds)) ∙ is))

  -- and one without a place has no dispatch
  pub none_found : (ds : List Booked) → position Is (labels_of ds) ≡ None → find (has_label label) (map (λ d. d.made) ds) ≡ None
  none_found ds is = find_place (has_label label) (map (λ d. d.made) ds) ∙ ap (look (has_label label) (map (λ d. d.made) ds)) (sym (made_place ds) ∙ (sym (position_is Is (labels_of ds)) ∙ is))

  free_place : (ds : List Booked) → find_label label (map made_dispatch (map (λ d. d.made) ds)) ≡ None → position Is (labels_of ds) ≡ None
  free_place ds free = position_is Is (labels_of ds) ∙ (made_place ds ∙ place_none (has_label label) (map (λ d. d.made) ds) (none (find (has_label label) (map (λ d. d.made) ds)) refl))
    where
      none : (o : Option Made) → find (has_label label) (map (λ d. d.made) ds) ≡ o → find (has_label label) (map (λ d. d.made) ds) ≡ None
      none None is = is
      none (Some d) is = absurd (cc (sym (label_map label (map (λ d. d.made) ds) (Some d) is) ∙ free))

-- ---- a change of a book

-- the table stands where the labels do
pub same_labels : (t : Labels) (old new : BookState) → labels_of new.made ≡ labels_of old.made → AreLabels t old.made → AreLabels t new.made
same_labels t old new same are label = are label ∙ ap (position (λ other. bytes_eq other label)) (sym same)

-- and where it gives each label the same
pub same_places : (s t : Labels) (made : List Booked) → ((label : List ℕ) → place_in t label ≡ place_in s label) → AreLabels s made → AreLabels t made
same_places s t made same are label = same label ∙ are label

module _ (old mid : Labels) (made : List Booked) (label : List ℕ) (i : ℕ) (are : AreLabels old made)
    (free : find_label label (map made_dispatch (map (λ d. d.made) made)) ≡ None) (sets : Sets old label (Some i) mid) where
  at_label : (other : List ℕ) → bytes_eq label other ≡ true → position (λ l. bytes_eq l other) (labels_of made) ≡ None
  at_label other same = subst (λ o. position (λ l. bytes_eq l o) (labels_of made) ≡ None) ((bytes_eq-Decides label other).0 same) (free_place label made free)

  -- one more dispatch has the label, which none had, and its place is behind the others
  pub more_labels : (d : Booked) → d.made.label ≡ label → i ≡ length (map (λ d. d.made) made) → AreLabels mid (made ++ d ∷ [])
  more_labels d named place_is other = sets other ∙ (by (bytes_eq label other) refl ∙ sym behind)
    where
      or_none : (o : Option ℕ) → o ≡ option_or o None
      or_none None = refl
      or_none (Some n) = refl

      long : length (labels_of made) ≡ i
      long = length-map made (λ (d : Booked). d.made.label) ∙ (sym (length-map made (λ (d : Booked). d.made)) ∙ sym place_is)

      behind : position (λ l. bytes_eq l other) (labels_of (made ++ d ∷ [])) ≡ option_or (position (λ l. bytes_eq l other) (labels_of made)) (cond (bytes_eq label other) (Some i) None)
      behind =
          let all : labels_of (made ++ d ∷ []) ≡ labels_of made ++ label ∷ [] = map-append (λ (d : Booked). d.made.label) made (d ∷ []) ∙ ap (λ l. labels_of made ++ l ∷ []) named in
          ap (position (λ l. bytes_eq l other)) all ∙ (position_is (λ l. bytes_eq l other) (labels_of made ++ label ∷ [])
          ∙ (place_more (λ l. bytes_eq l other) (labels_of made) label
          ∙ (ap (λ o. option_or o (cond (bytes_eq label other) (Some (length (labels_of made))) None)) (sym (position_is (λ l. bytes_eq l other) (labels_of made)))
          ∙ ap (λ n. option_or (position (λ l. bytes_eq l other) (labels_of made)) (cond (bytes_eq label other) (Some n) None)) long)))

      by : (b : Bool) → bytes_eq label other ≡ b → cond b (Some i) (place_in old other) ≡ option_or (position (λ l. bytes_eq l other) (labels_of made)) (cond b (Some i) None)
      by true same = ap (λ o. option_or o (Some i)) (sym (at_label other same))
      by false differ = are other ∙ or_none (position (λ l. bytes_eq l other) (labels_of made))

  -- a label that is let go has no place, as before
  pub back_labels : (new : Labels) → Sets mid label None new → AreLabels new made
  back_labels new unsets other = unsets other ∙ by (bytes_eq label other) refl
    where
      by : (b : Bool) → bytes_eq label other ≡ b → cond b None (place_in mid other) ≡ position (λ l. bytes_eq l other) (labels_of made)
      by true same = sym (at_label other same)
      by false differ = sets other ∙ (ap (λ b. cond b (Some i) (place_in old other)) differ ∙ are other)

-- ---- the calls of a book

changed_labels : (id : ℤ) (n : ℕ) (ds : List Booked) → labels_of (changed (has_booked_id id) (cut_to n) ds) ≡ labels_of ds
changed_labels id n [] = refl
changed_labels id n (d ∷ ds) = by (has_booked_id id d) (changed_labels id n ds)
  where
    by : (b : Bool) → labels_of (changed (has_booked_id id) (cut_to n) ds) ≡ labels_of ds
        → labels_of (if b then cut_to n d ∷ ds else d ∷ changed (has_booked_id id) (cut_to n) ds) ≡ labels_of (d ∷ ds)
    by true same = refl
    by false same = ap (λ ls. d.made.label ∷ ls) same

pub aborted_labels : (old new : BookState) (id : ℤ) (result : Result (Unit {0}) AbortError) → IsAbortedAt old id result new → labels_of new.made ≡ labels_of old.made
aborted_labels old new id (Err why) (refuses, same) = ap (λ (b : BookState). labels_of b.made) same
aborted_labels old new id (Ok u) (none, aborts) = by (find_booked id old.made) aborts
  where
    by : (o : Option Booked) → Aborts old id o new → labels_of new.made ≡ labels_of old.made
    by None gone = absurd gone
    by (Some d) is = ap (λ (b : BookState). labels_of b.made) is ∙ changed_labels id _ old.made

module _ (old mid : Labels) (book new : BookState) (label : List ℕ) (i : ℕ) (are : AreLabels old book.made)
    (free : find_label label (dispatches_of book) ≡ None) (sets : Sets old label (Some i) mid) (d : RpcDesc) (v : Value) where
  -- a dispatch that was made has its place
  pub booked_labels : i ≡ length (map (λ d. d.made) book.made) → (result : Result Ticket DispatchError) → is_err result ≡ false → IsBooked book label d v result new → AreLabels mid new.made
  booked_labels place_is (Ok ticket) ok (may, id, is, fresh) =
      subst (λ (b : BookState). AreLabels mid b.made) (sym is) (more_labels old mid book.made label i are free sets _ refl place_is)
  booked_labels place_is (Err why) ok booked = absurd (cc ok)

  -- and one that was refused is let go
  pub refused_labels : (last : Labels) → Sets mid label None last → (result : Result Ticket DispatchError) → is_err result ≡ true → IsBooked book label d v result new → AreLabels last new.made
  refused_labels last unsets (Ok ticket) err booked = absurd (cc err)
  refused_labels last unsets (Err why) err (refuses, same) =
      subst (λ (b : BookState). AreLabels last b.made) (sym same) (back_labels old mid book.made label i are free sets last unsets)
