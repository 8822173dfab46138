-- The bytes at a cursor as the code sees them: the first one, and what stands after it.
use Rattle.std.proofs.Common.{◌≡◌, ◌≢◌, sym, ap, ◌∙◌, ℕ, ◌-◌, ◌<◌, ◌≤◌, List, [], ◌∷◌, length, take, drop, get_or, arith}
use Rattle.std.proofs.lemmas.List.{take_rest}
use Rattle.readers.specs.Reader.{Follows, IsNot}
use Rattle.bp_text_grammar.specs.Lexing.{is_byte}

abbrev pub tail_of : List ℕ → List ℕ
tail_of s = take (length s - 1) (drop 1 s)

pub head_cut : (s : List ℕ) → 1 ≤ length s → s ≡ get_or s 0 0 ∷ tail_of s
head_cut [] some = absurd (omega arith)
head_cut (b ∷ s) some = ap (λ t. b ∷ t) (sym (take_rest (b ∷ s) 1))

pub head_is : (c : ℕ) (s : List ℕ) → 1 ≤ length s → get_or s 0 0 ≡ c → s ≡ c ∷ tail_of s
head_is c s some is = head_cut s some ∙ ap (λ b. b ∷ tail_of s) is

pub tail_less : (s : List ℕ) → 1 ≤ length s → length (tail_of s) < length s
tail_less s some = omega (arith, ap length (head_cut s some))

-- nothing follows, or another byte
pub none_there : (c : ℕ) (s : List ℕ) → length s < 1 → Follows (IsNot (is_byte c)) s
none_there c [] none = tt
none_there c (b ∷ s) none = absurd (omega arith)

pub other_there : (c : ℕ) (s : List ℕ) → get_or s 0 0 ≢ c → Follows (IsNot (is_byte c)) s
other_there c [] other = tt
other_there c (b ∷ s) other = grind arith
