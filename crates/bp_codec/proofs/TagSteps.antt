-- How the tag of a case is found among the tags as keys, and the byte that begins none.
use Rattle.std.proofs.Common.{◌≡◌, refl, sym, ap, ◌∙◌, subst, Option, Some, None, Bool, true, false, ◌==◌, ◌||◌, ℕ, zero, suc, ◌+◌, ◌/◌, ◌^◌, ◌<◌, ◌≤◌, nat_lt, nat_eq, List, [], ◌∷◌, ◌++◌, length, take, drop, get_or, Fits, w8, w32, ◌⊎◌, inl, inr, arith}
use Rattle.std.proofs.lemmas.List.{length-append, length-take, length-take-le, take-append-drop, take_at, take_more, append-nil}
use Rattle.std.proofs.lemmas.Bool.{cases_lt}
use Rattle.std.proofs.Math.Seq.{take-length, drop-cons}
use Rattle.std.specs.Cmp.Lexicographic.{same_text, other_text}
use Rattle.std.proofs.lemmas.List.Quantifiers.{position-Some}
use Rattle.std.proofs.lemmas.List.Sums.{fails_before_first}
use Rattle.std.proofs.lemmas.Option.{none-some}
use Rattle.std.proofs.lemmas.Nat.{le_bytes_4}
use Rattle.std.specs.Int.{to_le_bytes, from_le_bytes}
use Rattle.std.specs.List.{list_any, position, position_or_len, starts_with}
use Rattle.bp_codec.specs.Heads.{IsWholeTag}
use Rattle.readers.specs.Reader.{Outcome, whole, more, bad, Front}
use Rattle.readers.specs.Keys.{Keyed, AllLong, tail_if, next, some_left, key_at}
use Rattle.readers.proofs.Leaves.{is_or, pick_true, pick_false}
use Rattle.readers.proofs.Keys.{next_into, next_out, next_long, long_is}
use Rattle.bp_num.specs.Forms.{little_endian}
use Rattle.bp_num.specs.Reads.{low_first}
use Rattle.bp_num.proofs.Bytes.{number_of_bytes}
use Rattle.bp_codec.specs.Plan.{keys_in}
use Rattle.bp_codec.proofs.HeadSteps.{behind, behind-drop}

-- ---- keys of one length

-- keys are left after a symbol with which one begins
left_is : {W : Type 0} (w : W) (r : List (ℕ × List ℕ) → List ℕ → Outcome ℕ W ℕ) (ks : List (ℕ × List ℕ)) (b : ℕ) (t : List ℕ) (place : ℕ) (s : List ℕ)
    → Keyed ks place s → some_left w r ks b t ≡ r ks t
left_is w r [] b t place s k = absurd k
left_is w r (j ∷ js) b t place s k = refl

-- none is left after a symbol with which none begins
none_left : {W : Type 0} (w : W) (r : List (ℕ × List ℕ) → List ℕ → Outcome ℕ W ℕ) (ks js : List (ℕ × List ℕ)) (b : ℕ) (t : List ℕ)
    → next b ks ≡ js → (Front (Keyed ks) (b ∷ []) → ⊥) → some_left w r js b t ≡ bad (length (b ∷ t)) w
none_left w r ks [] b t e none = refl
none_left w r ks (j ∷ js) b t e none =
    absurd (none (j.0, j.1, next_out b ks j.0 j.1 (subst (λ l. Keyed l j.0 j.1) (sym e) (inl (refl, refl)))))

-- a front of a key goes on with the keys that begin with its first symbol
front_into : (ks : List (ℕ × List ℕ)) (b : ℕ) (p : List ℕ) → Front (Keyed ks) (b ∷ p) → Front (Keyed (next b ks)) p
front_into ks b p (place, x, k) = (place, x, next_into b ks place (p ++ x) k)

front_out : (ks : List (ℕ × List ℕ)) (b : ℕ) (p : List ℕ) → Front (Keyed (next b ks)) p → Front (Keyed ks) (b ∷ p)
front_out ks b p (place, x, k) = (place, x, next_out b ks place (p ++ x) k)

-- s is the key of the place, and no key before it is s
abbrev IsFirstKey : List (ℕ × List ℕ) → ℕ → List ℕ → Type 0
IsFirstKey [] place s = ⊥
IsFirstKey (k ∷ ks) place s = ((place ≡ k.0) × (s ≡ k.1)) ⊎ ((s ≡ k.1 → ⊥) × IsFirstKey ks place s)

first_keyed : (ks : List (ℕ × List ℕ)) (place : ℕ) (s : List ℕ) → IsFirstKey ks place s → Keyed ks place s
first_keyed [] place s is = is
first_keyed (k ∷ ks) place s (inl x) = inl x
first_keyed (k ∷ ks) place s (inr x) = inr (first_keyed ks place s x.1)

module _ (b q : ℕ) (ks js : List (ℕ × List ℕ)) (place : ℕ) (t : List ℕ) (inner : IsFirstKey ks place (b ∷ t) → IsFirstKey js place t) where
  abbrev Was : List ℕ → Type 0
  Was key = ((place ≡ q) × (b ∷ t ≡ key)) ⊎ ((b ∷ t ≡ key → ⊥) × IsFirstKey ks place (b ∷ t))

  first_kept : (c : ℕ) (key : List ℕ) → c ≡ b → Was (c ∷ key) → IsFirstKey ((q, key) ∷ js) place t
  first_kept c key cb (inl (e, same)) = inl (e, cc)
  first_kept c key cb (inr (other, is)) = inr (λ same. other (cc), inner is)

  first_struck : (c : ℕ) (key : List ℕ) → (c ≡ b → ⊥) → Was (c ∷ key) → IsFirstKey js place t
  first_struck c key ne (inl (e, same)) = absurd (ne (cc))
  first_struck c key ne (inr (other, is)) = inner is

  first_tail : (key : List ℕ) → Was key → IsFirstKey (tail_if b q key js) place t
  first_tail [] (inl (e, same)) = absurd cc
  first_tail [] (inr (other, is)) = inner is
  first_tail (c ∷ key) was = elim (is_or (nat_eq c b)) [
    | inl x ↦ subst (λ l. IsFirstKey l place t) (sym (pick_true (nat_eq c b) ((q, key) ∷ js) js x)) (first_kept c key (grind arith) was)
    | inr x ↦ subst (λ l. IsFirstKey l place t) (sym (pick_false (nat_eq c b) ((q, key) ∷ js) js x)) (first_struck c key (λ e. grind arith) was)
  ]

first_into : (b : ℕ) (ks : List (ℕ × List ℕ)) (place : ℕ) (t : List ℕ) → IsFirstKey ks place (b ∷ t) → IsFirstKey (next b ks) place t
first_into b [] place t is = is
first_into b (k ∷ ks) place t is = first_tail b k.0 ks (next b ks) place t (λ x. first_into b ks place t x) k.1 is

none_of : (s : List ℕ) → length s ≡ 0 → s ≡ []
none_of [] e = refl
none_of (b ∷ s) e = absurd (omega arith)

module _ {W : Type 0} (w : W) where
  -- one symbol that begins a key, and reading goes on
  goes_on : (n : ℕ) (ks : List (ℕ × List ℕ)) (b : ℕ) (p t : List ℕ) → Front (Keyed ks) (b ∷ p) → key_at w (suc n) ks (b ∷ t) ≡ key_at w n (next b ks) t
  goes_on n ks b p t front = let f = front_into ks b p front in left_is w (key_at w n) (next b ks) b t f.0 (p ++ f.1) f.2

  -- the symbols end within a key
  pub key_cut : (n : ℕ) (ks : List (ℕ × List ℕ)) (p : List ℕ) → length p < n → (0 < length p → Front (Keyed ks) p) → key_at w n ks p ≡ more
  key_cut zero ks p lt front = absurd (omega arith)
  key_cut (suc n) ks [] lt front = refl
  key_cut (suc n) ks (b ∷ p) lt front =
      let f : Front (Keyed ks) (b ∷ p) = front (omega arith) in
      goes_on n ks b p p f ∙ key_cut n (next b ks) p (omega arith) (λ some. front_into ks b p f)

  -- a symbol goes on no key
  pub key_fault : (n : ℕ) (ks : List (ℕ × List ℕ)) (p : List ℕ) (b : ℕ) (v : List ℕ) → length p < n → (0 < length p → Front (Keyed ks) p)
      → (Front (Keyed ks) (p ++ b ∷ []) → ⊥) → key_at w n ks (p ++ b ∷ v) ≡ bad (length (b ∷ v)) w
  key_fault zero ks p b v lt front none = absurd (omega arith)
  key_fault (suc n) ks [] b v lt front none = none_left w (key_at w n) ks (next b ks) b v refl none
  key_fault (suc n) ks (c ∷ p) b v lt front none =
      let f : Front (Keyed ks) (c ∷ p) = front (omega arith) in
      goes_on n ks c p (p ++ b ∷ v) f
      ∙ key_fault n (next c ks) p b v (omega arith) (λ some. front_into ks c p f) (λ g. none (front_out ks c (p ++ b ∷ []) g))

  -- the first key that stands in front
  pub key_found : (n : ℕ) (ks : List (ℕ × List ℕ)) (place : ℕ) (s u : List ℕ) → AllLong n ks → length s ≡ n → IsFirstKey ks place s
      → key_at w n ks (s ++ u) ≡ whole place u
  key_found zero [] place s u long len is = absurd is
  key_found zero (k ∷ ks) place [] u long len (inl (e, same)) = ap (λ q. whole q u) (sym e)
  key_found zero (k ∷ ks) place [] u long len (inr (other, is)) = absurd (other (sym (none_of k.1 long.0)))
  key_found zero (k ∷ ks) place (b ∷ s) u long len is = absurd (omega arith)
  key_found (suc n) ks place [] u long len is = absurd (omega arith)
  key_found (suc n) ks place (b ∷ s) u long len is =
      let f : IsFirstKey (next b ks) place s = first_into b ks place s is in
      left_is w (key_at w n) (next b ks) b (s ++ u) place s (first_keyed (next b ks) place s f)
      ∙ key_found n (next b ks) place s u (next_long n b ks long) (omega arith) f

-- ---- tags as keys

-- the bytes of a word, as std has them
bytes_of_word : (n : ℕ) → to_le_bytes w32 n ≡ little_endian 4 n
bytes_of_word n =
    let second : n / 65536 ≡ n / 256 / 256 = omega arith in
    let third : n / 16777216 ≡ n / 256 / 256 / 256 = omega arith in
    rw (second, third) refl

one_word : (x y : ℕ) → x < 2 ^ 32 → y < 2 ^ 32 → little_endian 4 x ≡ little_endian 4 y → x ≡ y
one_word x y below_x below_y same = sym (number_of_bytes 4 x below_x) ∙ (ap low_first same ∙ number_of_bytes 4 y below_y)

pub four_bytes : (n : ℕ) (tags : List ℕ) → AllLong 4 (keys_in n tags)
four_bytes n [] = tt
four_bytes n (t ∷ ts) = (refl, four_bytes (suc n) ts)

-- the first place of a word is that of the first key with its bytes
first_word : (n : ℕ) (tags : List ℕ) (i word : ℕ) → ((k : ℕ) → Fits w32 (get_or tags k 0)) → word < 2 ^ 32 → i < length tags → get_or tags i 0 ≡ word
    → ((k : ℕ) → k < i → get_or tags k 0 ≡ word → ⊥) → IsFirstKey (keys_in n tags) (n + i) (little_endian 4 word)
first_word n [] i word fits below lt is before = absurd (omega arith)
first_word n (t ∷ ts) zero word fits below lt is before = inl (omega arith, ap (λ x. little_endian 4 x) (sym is))
first_word n (t ∷ ts) (suc i) word fits below lt is before =
    let place : suc n + i ≡ n + suc i = omega arith in
    inr (
      λ same. before 0 (omega arith) (sym (one_word word t below (omega (arith, fits 0)) same)),
      subst (λ p. IsFirstKey (keys_in (suc n) ts) p (little_endian 4 word)) place
          (first_word (suc n) ts i word (λ k. fits (suc k)) below (omega arith) is (λ k less. before (suc k) (omega arith))),
    )

-- a key with the bytes of a word is the word at a place
word_at : (n : ℕ) (tags : List ℕ) (place word : ℕ) → ((k : ℕ) → Fits w32 (get_or tags k 0)) → word < 2 ^ 32
    → Keyed (keys_in n tags) place (little_endian 4 word) → (k : ℕ) × (k < length tags) × (get_or tags k 0 ≡ word)
word_at n [] place word fits below k = absurd k
word_at n (t ∷ ts) place word fits below (inl x) = (0, omega arith, sym (one_word word t below (omega (arith, fits 0)) x.1))
word_at n (t ∷ ts) place word fits below (inr x) =
    let later : (k : ℕ) × (k < length ts) × (get_or ts k 0 ≡ word) = word_at (suc n) ts place word (λ k. fits (suc k)) below x in
    (suc later.0, omega (arith, later.1), later.2)

-- where no place is given, the test fails at each
none_passes : (p : ℕ → Bool) (xs : List ℕ) → None ≡ position p xs → (k : ℕ) → k < length xs → p (get_or xs k 0) ≡ false
none_passes p xs none k lt = elim (is_or (nat_lt (position_or_len p xs) (length xs))) [
  | inl some ↦
      let found : position p xs ≡ Some (position_or_len p xs) = pick_true (nat_lt (position_or_len p xs) (length xs)) (Some (position_or_len p xs)) None some in
      absurd (none-some (position_or_len p xs) (none ∙ found))
  | inr past ↦ fails_before_first p xs k 0 (let all : length xs ≤ position_or_len p xs = grind arith in omega arith)
]

-- ---- the first four bytes

four_are : (s : List ℕ) → 4 ≤ length s → get_or s 0 0 ∷ get_or s 1 0 ∷ get_or s 2 0 ∷ get_or s 3 0 ∷ [] ≡ take 4 s
four_are [] le = absurd (omega arith)
four_are (a ∷ []) le = absurd (omega arith)
four_are (a ∷ b ∷ []) le = absurd (omega arith)
four_are (a ∷ b ∷ c ∷ []) le = absurd (omega arith)
four_are (a ∷ b ∷ c ∷ d ∷ []) le = refl
four_are (a ∷ b ∷ c ∷ d ∷ e ∷ s) le = refl

-- fewer are no key
pub short_tag : (tags s : List ℕ) → length s < 4 → (place : ℕ) → Keyed (keys_in 0 tags) place (take 4 s) → ⊥
short_tag tags s lt place k =
    let long : length (take 4 s) ≡ 4 = long_is 4 (keys_in 0 tags) place (take 4 s) (four_bytes 0 tags) k in
    omega (arith, length-take 4 s)

module _ {W : Type 0} (w : W) (tags s : List ℕ) (word : ℕ) (fits : (k : ℕ) → Fits w32 (get_or tags k 0)) (bytes : (k : ℕ) → Fits w8 (get_or s k 0))
    (enough : 4 ≤ length s) (below : word < 2 ^ 32)
    (is : word ≡ from_le_bytes w32 (get_or s 0 0 ∷ get_or s 1 0 ∷ get_or s 2 0 ∷ get_or s 3 0 ∷ [])) where
  front_is : little_endian 4 word ≡ take 4 s
  front_is =
      let four : List ℕ = get_or s 0 0 ∷ get_or s 1 0 ∷ get_or s 2 0 ∷ get_or s 3 0 ∷ [] in
      sym (bytes_of_word word) ∙ (le_bytes_4 four word refl (λ k. each k) is ∙ four_are s enough)
    where
      each : (k : ℕ) → get_or (get_or s 0 0 ∷ get_or s 1 0 ∷ get_or s 2 0 ∷ get_or s 3 0 ∷ []) k 0 < 256
      each zero = omega (arith, bytes 0)
      each (suc zero) = omega (arith, bytes 1)
      each (suc (suc zero)) = omega (arith, bytes 2)
      each (suc (suc (suc zero))) = omega (arith, bytes 3)
      each (suc (suc (suc (suc k)))) = omega arith

  stands : (i : ℕ) → i < length tags → get_or tags i 0 ≡ word → ((k : ℕ) → k < i → get_or tags k 0 ≡ word → ⊥)
      → key_at w 4 (keys_in 0 tags) s ≡ whole i (drop 4 s)
  stands i lt at before =
      let place : 0 + i ≡ i = omega arith in
      let first : IsFirstKey (keys_in 0 tags) i (little_endian 4 word) =
      subst (λ p. IsFirstKey (keys_in 0 tags) p (little_endian 4 word)) place (first_word 0 tags i word fits below lt at before) in
      let split : little_endian 4 word ++ drop 4 s ≡ s = ap (λ l. l ++ drop 4 s) front_is ∙ take-append-drop 4 s in
      ap (λ l. key_at w 4 (keys_in 0 tags) l) (sym split) ∙ key_found w 4 (keys_in 0 tags) i (little_endian 4 word) (drop 4 s) (four_bytes 0 tags) refl first

  pub tag_found : (r : Option ℕ) → r ≡ position (λ tag. tag == word) tags → IsWholeTag w (keys_in 0 tags) s r
  tag_found None none = λ place k.
      let at : (k : ℕ) × (k < length tags) × (get_or tags k 0 ≡ word) =
      word_at 0 tags place word fits below (subst (λ l. Keyed (keys_in 0 tags) place l) (sym front_is) k) in
      let fails : (get_or tags at.0 0 == word) ≡ false = none_passes (λ tag. tag == word) tags none at.0 at.1 in
      grind arith
  tag_found (Some i) found =
      let at : (i < length tags) × ((get_or tags i 0 == word) ≡ true) × ((k : ℕ) → k < i → (get_or tags k 0 == word) ≡ false) =
      position-Some (λ tag. tag == word) tags i 0 (sym found) in
      (enough, stands i at.0 (grind arith) (λ k lt e. let no : (get_or tags k 0 == word) ≡ false = at.2 k lt in grind arith))

-- ---- fronts of tags

or_true : (b : Bool) → (b || true) ≡ true
or_true true = refl
or_true false = refl

-- a test of a front tells it
begins_with : (p s : List ℕ) → starts_with nat_eq s p ≡ true → s ≡ p ++ drop (length p) s
begins_with p s passes = sym (take-append-drop (length p) s) ∙ ap (λ l. l ++ drop (length p) s) (sym (same_text p (take (length p) s) (sym passes)))

is_begun : (p x s : List ℕ) → p ++ x ≡ s → starts_with nat_eq s p ≡ true
is_begun p x s same = elim (is_or (starts_with nat_eq s p)) [
  | inl passes ↦ passes
  | inr fails ↦ absurd (other_text p (take (length p) s) (sym fails) (sym (take_at p x (length p) refl) ∙ ap (λ l. take (length p) l) same))
]

module _ (p : List ℕ) where
  abbrev test : ℕ → Bool
  test tag = starts_with nat_eq (to_le_bytes w32 tag) p

  pub begun_front : (n : ℕ) (tags : List ℕ) → list_any test tags ≡ true → Front (Keyed (keys_in n tags)) p
  begun_front n [] any = absurd cc
  begun_front n (t ∷ ts) any = elim (is_or (test t)) [
    | inl passes ↦ (n, drop (length p) (to_le_bytes w32 t), inl (refl, sym (begins_with p (to_le_bytes w32 t) passes) ∙ bytes_of_word t))
    | inr fails ↦ later (begun_front (suc n) ts (sym (ap (λ b. b || list_any test ts) fails) ∙ any))
  ]
    where
      later : Front (Keyed (keys_in (suc n) ts)) p → Front (Keyed (keys_in n (t ∷ ts))) p
      later (place, x, k) = (place, x, inr k)

  pub front_begun : (n : ℕ) (tags : List ℕ) → Front (Keyed (keys_in n tags)) p → list_any test tags ≡ true
  front_begun n [] (place, x, k) = absurd k
  front_begun n (t ∷ ts) (place, x, inl k) = ap (λ b. b || list_any test ts) (is_begun p x (to_le_bytes w32 t) (k.1 ∙ sym (bytes_of_word t)))
  front_begun n (t ∷ ts) (place, x, inr k) = ap (λ b. test t || b) (front_begun (suc n) ts (place, x, k)) ∙ or_true (test t)

module _ {W : Type 0} (w : W) (tags s : List ℕ) (none : (place : ℕ) → Keyed (keys_in 0 tags) place (take 4 s) → ⊥) where
  -- a front of a tag that does not stand whole
  part_lt : (k : ℕ) → k ≤ length s → (0 < k → Front (Keyed (keys_in 0 tags)) (take k s)) → k < 4
  part_lt k le front = elim (cases_lt k 4) [ inl lt ↦ lt | inr ge ↦ whole_one ge (front (omega arith)) ]
    where
      whole_one : 4 ≤ k → Front (Keyed (keys_in 0 tags)) (take k s) → k < 4
      whole_one ge (place, [], key) =
          let tag : Keyed (keys_in 0 tags) place (take k s) = subst (λ l. Keyed (keys_in 0 tags) place l) (append-nil (take k s)) key in
          let long : length (take k s) ≡ 4 = long_is 4 (keys_in 0 tags) place (take k s) (four_bytes 0 tags) tag in
          let four : k ≡ 4 = omega (arith, length-take-le k s le) in
          absurd (none place (subst (λ j. Keyed (keys_in 0 tags) place (take j s)) four tag))
      whole_one ge (place, b ∷ x, key) =
          let long : length (take k s ++ b ∷ x) ≡ 4 = long_is 4 (keys_in 0 tags) place (take k s ++ b ∷ x) (four_bytes 0 tags) key in
          absurd (omega (arith, length-append (take k s) (b ∷ x), length-take-le k s le))

  -- all bytes begin a tag
  pub tag_cut : (k : ℕ) → k ≡ length s → (0 < k → Front (Keyed (keys_in 0 tags)) (take k s)) → key_at w 4 (keys_in 0 tags) s ≡ more
  tag_cut k all front =
      let same : take k s ≡ s = ap (λ j. take j s) all ∙ take-length s in
      let lt : k < 4 = part_lt k (omega arith) front in
      key_cut w 4 (keys_in 0 tags) s (omega arith) (λ some. subst (λ l. Front (Keyed (keys_in 0 tags)) l) same (front (omega arith)))

  -- with the byte at k no tag begins
  pub tag_fault : (k : ℕ) → k < length s → (0 < k → Front (Keyed (keys_in 0 tags)) (take k s)) → (Front (Keyed (keys_in 0 tags)) (take (k + 1) s) → ⊥)
      → key_at w 4 (keys_in 0 tags) s ≡ bad (length (behind k s)) w
  tag_fault k lt front stops =
      let long : length (take k s) ≡ k = length-take-le k s (omega arith) in
      let rest : drop k s ≡ get_or s k 0 ∷ drop (suc k) s = drop-cons s k 0 lt in
      let split : take k s ++ get_or s k 0 ∷ drop (suc k) s ≡ s = ap (λ l. take k s ++ l) (sym rest) ∙ take-append-drop k s in
      let four : k < 4 = part_lt k (omega arith) front in
      let left : length (get_or s k 0 ∷ drop (suc k) s) ≡ length (behind k s) = ap length (sym rest ∙ sym (behind-drop k s)) in
      ap (λ l. key_at w 4 (keys_in 0 tags) l) (sym split)
      ∙ (key_fault w 4 (keys_in 0 tags) (take k s) (get_or s k 0) (drop (suc k) s) (omega arith) (λ some. front (omega arith))
      (λ f. stops (subst (λ l. Front (Keyed (keys_in 0 tags)) l) (sym (take_more s k 0 lt)) f)) ∙ ap (λ n. bad n w) left)
