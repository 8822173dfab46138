-- The parts of a line, one after another. A part says which value stands in front of some bytes, with blanks before it, and which
-- bytes stand after it. Where no value does, the line is refused at the first byte after the blanks.
use Rattle.std.specs.Prelude.{◌≡◌, ℕ, ◌≤◌, Bool, true, false, nat_eq, List, [], ◌∷◌, ◌++◌, length, take, drop, ◌⊎◌}
use Rattle.bp_text_grammar.specs.Lexing.{blank, in_name}
use Rattle.bp_text_grammar.specs.Scanning.{span, after_blanks}

-- ---- sequences

-- two parts, one after the other; the second may depend on the value of the first
abbrev pub Next : {A B : Type 0} → (A → List ℕ → List ℕ → Type 0) → (A → B → List ℕ → List ℕ → Type 0) → B → List ℕ → List ℕ → Type 0
Next {A = A} P Q b s u = (a : A) × (t : List ℕ) × P a s t × Q a b t u

-- refused in the first, or in the second: x is what stands from there on
abbrev pub NextRefused : {A : Type 0} → (A → List ℕ → List ℕ → Type 0) → (List ℕ → List ℕ → Type 0) → (A → List ℕ → List ℕ → Type 0)
    → List ℕ → List ℕ → Type 0
NextRefused {A = A} P N M s x = N s x ⊎ ((a : A) × (t : List ℕ) × P a s t × M a t x)

-- no part: a value that is known by then
abbrev pub Known : {A : Type 0} → A → A → List ℕ → List ℕ → Type 0
Known a b s u = (b ≡ a) × (u ≡ s)

-- none of the values of the part stands in front
abbrev pub Lacks : {A : Type 0} → (A → List ℕ → List ℕ → Type 0) → List ℕ → List ℕ → Type 0
Lacks {A = A} P s x = ((a : A) (u : List ℕ) → P a s u → ⊥) × (x ≡ after_blanks s)

-- ---- single parts

-- the longest run of name bytes after the blanks, and what stands after it
abbrev pub front_word : List ℕ → List ℕ
front_word s = (span in_name (after_blanks s)).0

abbrev pub behind_word : List ℕ → List ℕ
behind_word s = (span in_name (after_blanks s)).1

-- a word that stands for a value
abbrev pub WordFor : {A : Type 0} → (A → List ℕ → Type 0) → A → List ℕ → List ℕ → Type 0
WordFor Spells a s u = Spells a (front_word s) × (u ≡ behind_word s)

-- these bytes
abbrev pub Mark : List ℕ → Unit {0} → List ℕ → List ℕ → Type 0
Mark bytes a s u = after_blanks s ≡ bytes ++ u

-- nothing but blanks
abbrev pub IsEnded : List ℕ → List ℕ → Type 0
IsEnded s u = (after_blanks s ≡ []) × (u ≡ [])

abbrev pub End : Unit {0} → List ℕ → List ℕ → Type 0
End a s u = IsEnded s u

-- the longest run of a class has n bytes
abbrev pub HasRun : (ℕ → Bool) → List ℕ → ℕ → Type 0
HasRun C s n = (n ≤ length s) × (span C s ≡ (take n s, drop n s))

abbrev pub starts_blank : List ℕ → Bool
starts_blank [] = false
starts_blank (b ∷ s) = nat_eq b blank

-- after a blank, the longest run of bytes of a class
abbrev pub RunOf : (ℕ → Bool) → List ℕ → List ℕ → List ℕ → Type 0
RunOf C run s u = (starts_blank s ≡ true) × (span C (after_blanks s) ≡ (run, u))
