-- The places of dispatches by their labels.
use Rattle.std.specs.Prelude.{◌≡◌, ℕ, List, map, Option}
use Rattle.std.specs.BTreeMap.{get_by}
use Rattle.std.specs.Cmp.Lexicographic.{slice_cmp}
use Rattle.std.specs.List.{position}
use Rattle.std.specs.Map.{update}
use Rattle.std.specs.Ordering.{nat_cmp}
use Rattle.std.specs.Str.{bytes_eq}
use Rattle.rpc_book.specs.Books.{Booked}
use Rattle.rpc_pair.specs.declared.labels.Labels.{Labels}

-- the place that a label has
abbrev pub place_in : Labels → List ℕ → Option ℕ
place_in t label = get_by (λ k. slice_cmp nat_cmp label k.items) t.places

-- a label has this place, or none; the others have theirs
abbrev pub Sets : Labels → List ℕ → Option ℕ → Labels → Type 0
Sets old label place new = (other : List ℕ) → place_in new other ≡ update bytes_eq (place_in old) label place other

abbrev pub labels_of : List Booked → List (List ℕ)
labels_of made = map (λ d. d.made.label) made

-- each label has the place of the first dispatch that has it
abbrev pub AreLabels : Labels → List Booked → Type 0
AreLabels t made = (label : List ℕ) → place_in t label ≡ position (λ other. bytes_eq other label) (labels_of made)
