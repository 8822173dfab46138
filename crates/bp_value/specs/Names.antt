-- Which names fields and cases may have, and lists without repeats.
use Rattle.std.specs.Prelude.{◌≡◌, ◌≢◌, ℕ, ◌<◌, ◌≤◌, ◌⊎◌, List, [], ◌∷◌, length, take, slice_get, Some}
use Rattle.std.specs.List.{All}
use Rattle.bp_value.specs.Limits.{longest_name}

-- an ASCII letter or `_`
abbrev pub IsNameStart : ℕ → Type 0
IsNameStart b = ((97 ≤ b) × (b ≤ 122)) ⊎ (((65 ≤ b) × (b ≤ 90)) ⊎ (b ≡ 95))

-- that, a digit or a prime
abbrev pub IsNameByte : ℕ → Type 0
IsNameByte b = IsNameStart b ⊎ (((48 ≤ b) × (b ≤ 57)) ⊎ (b ≡ 39))

-- at least one byte, and no more than the longest name has
abbrev pub IsShapeName : List ℕ → Type 0
IsShapeName [] = ⊥
IsShapeName (b ∷ rest) = IsNameStart b × (length rest < longest_name) × All IsNameByte rest

-- the first name that is none
pub record IsFirstBadName (names : List (List ℕ)) (place : ℕ) : Type 0 where
  pub name : List ℕ
  pub stands : slice_get names place ≡ Some name
  pub bad : IsShapeName name → ⊥
  pub good_before : All IsShapeName (take place names)

-- no item stands at a later place too
abbrev pub IsDistinct : {A : Type 0} → List A → Type 0
IsDistinct xs = (a b : ℕ) → a < b → b < length xs → slice_get xs a ≢ slice_get xs b

-- the least place whose item stands earlier, and the least place of that item
pub record IsFirstRepeat {A : Type 0} (xs : List A) (first second : ℕ) : Type 0 where
  pub before : first < second
  pub within : second < length xs
  pub same : slice_get xs first ≡ slice_get xs second
  pub least_first : (k : ℕ) → k < first → slice_get xs k ≢ slice_get xs second
  pub least_second : (a b : ℕ) → a < b → b < second → slice_get xs a ≢ slice_get xs b

-- no item before the one at a place is that one
abbrev pub IsNewAt : {A : Type 0} → List A → ℕ → Type 0
IsNewAt xs place = (k : ℕ) → k < place → slice_get xs k ≢ slice_get xs place

-- the least place that has the item of a later place
pub record IsFirstAlike {A : Type 0} (xs : List A) (first second : ℕ) : Type 0 where
  pub before : first < second
  pub same : slice_get xs first ≡ slice_get xs second
  pub least : (k : ℕ) → k < first → slice_get xs k ≢ slice_get xs second

-- no item of the list is x
abbrev pub IsNowhere : {A : Type 0} → List A → A → Type 0
IsNowhere xs x = (k : ℕ) → slice_get xs k ≢ Some x

-- the least place where x stands
pub record IsFirstPlace {A : Type 0} (xs : List A) (x : A) (place : ℕ) : Type 0 where
  pub stands : slice_get xs place ≡ Some x
  pub least : (k : ℕ) → k < place → slice_get xs k ≢ Some x
