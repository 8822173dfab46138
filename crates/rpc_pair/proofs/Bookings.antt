-- The dispatches of a book that stands for a talk, in the world's words: which are found, how many there are, the next id, and a cut.
use Rattle.std.proofs.Common.{◌≡◌, ◌≢◌, refl, sym, ap, ◌∙◌, subst, ℕ, ◌+◌, ◌*◌, ℤ, pos, Bool, true, false, cond, not, if◌then◌else◌, List, [], ◌∷◌, ◌++◌, map, filter, length, arith}
use Rattle.std.specs.Prelude.{Some, None}
use Rattle.std.specs.List.{count_by, find}
use Rattle.std.specs.Option.{option_map}
use Rattle.std.specs.Ordering.{int_eq}
use Rattle.std.specs.Str.{bytes_eq}
use Rattle.std.proofs.lemmas.List.{map-append}
use Rattle.std.proofs.lemmas.List.Sums.{sum_by-cons}
use Rattle.readers.specs.Reader.{Each}
use Rattle.rpc_schema.specs.declared.desc.Kind.{Kind}
use Rattle.rpc_talk.specs.Parts.{is_tracked}
use Rattle.rpc_meeting.specs.Deeds.{find_label}
use Rattle.rpc_meeting.specs.Talks.{Dispatch, all_called, called_by, cut_at, find_made, is_tracked_dispatch, new_id, one_ways_of, sort_number, tracked_of}
use Rattle.rpc_meeting.proofs.Look.{apart_ids, each_push, same}
use Rattle.rpc_book.specs.Books.{Booked, HaveDistinctIds, calls_of, changed, find_booked, has_booked_id}
use Rattle.rpc_book.specs.Calls.{awaits_answer, cut_to, id_number, is_one_way, next_id}
use Rattle.rpc_pair.specs.Standing.{booked_of}

-- what answers are read by
pub calls_same : (made : List Dispatch) → calls_of (map booked_of made) ≡ all_called made
calls_same [] = refl
calls_same (d ∷ made) = ap (λ calls. called_by d ∷ calls) (calls_same made)

-- a dispatch is found where the world finds it
pub booked_found : (id : ℤ) (made : List Dispatch) → find_booked id (map booked_of made) ≡ option_map booked_of (find_made id made)
booked_found id [] = refl
booked_found id (d ∷ made) = by (int_eq d.id id) (booked_found id made)
  where
    by : (b : Bool) → find_booked id (map booked_of made) ≡ option_map booked_of (find_made id made)
        → (if b then Some (booked_of d) else find_booked id (map booked_of made)) ≡ option_map booked_of (if b then Some d else find_made id made)
    by true later = refl
    by false later = later

-- and so by its label
pub labelled_found : (label : List ℕ) (made : List Dispatch) → find (λ d. bytes_eq d.made.label label) (map booked_of made) ≡ option_map booked_of (find_label label made)
labelled_found label [] = refl
labelled_found label (d ∷ made) = by (bytes_eq d.label label) (labelled_found label made)
  where
    by : (b : Bool) → find (λ x. bytes_eq x.made.label label) (map booked_of made) ≡ option_map booked_of (find_label label made)
        → (if b then Some (booked_of d) else find (λ x. bytes_eq x.made.label label) (map booked_of made)) ≡ option_map booked_of (if b then Some d else find_label label made)
    by true later = refl
    by false later = later

-- ---- counts

-- as many pass a test as pass another in the world that answers the same
pub count_same : (p : Booked → Bool) (q : Dispatch → Bool) → ((d : Dispatch) → p (booked_of d) ≡ q d) → (made : List Dispatch)
    → count_by p (map booked_of made) ≡ length (filter q made)
count_same p q same_test [] = refl
count_same p q same_test (d ∷ made) =
    sum_by-cons (λ x. cond (p x) 1 0) (booked_of d) (map booked_of made) ∙ by (p (booked_of d)) (q d) (same_test d) (count_same p q same_test made)
  where
    by : (a b : Bool) → a ≡ b → count_by p (map booked_of made) ≡ length (filter q made)
        → cond a 1 0 + count_by p (map booked_of made) ≡ length (if b then d ∷ filter q made else filter q made)
    by true true e later = omega (arith, later)
    by true false e later = absurd cc
    by false true e later = absurd cc
    by false false e later = omega (arith, later)

-- the next id of a kind
pub next_same : (made : List Dispatch) (kind : Kind) → next_id kind (map booked_of made) ≡ new_id made kind
next_same made kind = by (is_tracked kind)
  where
    answered : count_by awaits_answer (map booked_of made) ≡ tracked_of made
    answered = count_same awaits_answer is_tracked_dispatch (λ d. refl) made

    unanswered : count_by is_one_way (map booked_of made) ≡ one_ways_of made
    unanswered = count_same is_one_way (λ d. not (is_tracked_dispatch d)) (λ d. refl) made

    by : (b : Bool) → pos (id_number b (map booked_of made)) ≡ sort_number b made
    by true = ap (λ n. pos (2 * n)) answered
    by false = ap (λ n. pos (2 * n + 1)) unanswered

-- ---- one more

pub made_push : (made : List Dispatch) (d : Dispatch) → map booked_of (made ++ d ∷ []) ≡ map booked_of made ++ booked_of d ∷ []
made_push made d = map-append booked_of made (d ∷ [])

-- one whose id no other has
pub ids_push : (made : List Booked) (d : Booked) → HaveDistinctIds made → find_booked d.made.id made ≡ None → HaveDistinctIds (made ++ d ∷ [])
ids_push [] d apart none = (tt, tt)
ids_push (x ∷ made) d (others, apart) none = by (int_eq x.made.id d.made.id) refl none (ids_push made d apart)
  where
    by : (b : Bool) → int_eq x.made.id d.made.id ≡ b → (if b then Some x else find_booked d.made.id made) ≡ None
        → (find_booked d.made.id made ≡ None → HaveDistinctIds (made ++ d ∷ [])) → HaveDistinctIds (x ∷ made ++ d ∷ [])
    by true at is later = absurd cc
    by false at is later =
        (each_push (λ other. other.made.id ≢ x.made.id) made d others (λ e. apart_ids x.made.id d.made.id at (sym e)), later is)

-- ---- a cut

-- the ids stay
pub ids_cut : (id : ℤ) (n : ℕ) (made : List Booked) → HaveDistinctIds made → HaveDistinctIds (changed (has_booked_id id) (cut_to n) made)
ids_cut id n [] apart = tt
ids_cut id n (x ∷ made) (others, apart) = by (int_eq x.made.id id) (ids_cut id n made apart)
  where
    still : (xs : List Booked) → Each (λ other. other.made.id ≢ x.made.id) xs → Each (λ other. other.made.id ≢ x.made.id) (changed (has_booked_id id) (cut_to n) xs)
    still [] all = tt
    still (y ∷ xs) (here, all) = by_one (int_eq y.made.id id) (still xs all)
      where
        by_one : (b : Bool) → Each (λ other. other.made.id ≢ x.made.id) (changed (has_booked_id id) (cut_to n) xs)
            → Each (λ other. other.made.id ≢ x.made.id) (if b then cut_to n y ∷ xs else y ∷ changed (has_booked_id id) (cut_to n) xs)
        by_one true later = (here, all)
        by_one false later = (here, later)

    by : (b : Bool) → HaveDistinctIds (changed (has_booked_id id) (cut_to n) made) → HaveDistinctIds (if b then cut_to n x ∷ made else x ∷ changed (has_booked_id id) (cut_to n) made)
    by true later = (others, apart)
    by false later = (still made others, later)

abbrev cut_if : ℕ → Dispatch → Bool → Dispatch
cut_if n d b = record { label = d.label; id = d.id; desc = d.desc; cut = if b then Some n else d.cut }

-- where no other has the id, nothing else is cut
uncut : (id : ℤ) (n : ℕ) (made : List Dispatch) → Each (λ other. other.made.id ≢ id) (map booked_of made) → map booked_of (map (cut_at id n) made) ≡ map booked_of made
uncut id n [] all = refl
uncut id n (d ∷ made) (here, all) = by (int_eq d.id id) refl (uncut id n made all)
  where
    by : (b : Bool) → int_eq d.id id ≡ b → map booked_of (map (cut_at id n) made) ≡ map booked_of made
        → booked_of (cut_if n d b) ∷ map booked_of (map (cut_at id n) made) ≡ booked_of d ∷ map booked_of made
    by true at later = absurd (here (same d.id id at))
    by false at later = ap (λ xs. booked_of d ∷ xs) later

-- a cut of a dispatch is that of the world
pub cut_same : (id : ℤ) (n : ℕ) (made : List Dispatch) → HaveDistinctIds (map booked_of made)
    → changed (has_booked_id id) (cut_to n) (map booked_of made) ≡ map booked_of (map (cut_at id n) made)
cut_same id n [] apart = refl
cut_same id n (d ∷ made) (others, apart) = by (int_eq d.id id) refl (cut_same id n made apart)
  where
    by : (b : Bool) → int_eq d.id id ≡ b → changed (has_booked_id id) (cut_to n) (map booked_of made) ≡ map booked_of (map (cut_at id n) made)
        → (if b then cut_to n (booked_of d) ∷ map booked_of made else booked_of d ∷ changed (has_booked_id id) (cut_to n) (map booked_of made))
        ≡ booked_of (cut_if n d b) ∷ map booked_of (map (cut_at id n) made)
    by true at later =
        ap (λ xs. cut_to n (booked_of d) ∷ xs) (sym (uncut id n made (subst (λ i. Each (λ other. other.made.id ≢ i) (map booked_of made)) (same d.id id at) others)))
    by false at later = ap (λ xs. booked_of d ∷ xs) later
