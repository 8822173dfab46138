-- The bytes of the tokens that were taken: they have these tokens by themselves, and end with the last of them.
use Rattle.std.proofs.Common.{◌≡◌, refl, sym, ap, ◌∙◌, subst, true, false, ◌||◌, ℕ, ◌+◌, ◌-◌, ◌≤◌, List, [], ◌∷◌, ◌++◌, length, take, append_assoc, inl, inr, arith}
use Rattle.std.proofs.lemmas.List.{append-nil, length-append}
use Rattle.std.proofs.Math.Seq.{take-append_seam}
use Rattle.readers.specs.Reader.{Each, Follows, Is, IsNot}
use Rattle.readers.proofs.Readers.{each-rest}
use Rattle.bp_text_grammar.specs.Tokens.{Token, Word, Number, Big, Text, Char, Mark, Wrong, OpenText, OpenChar}
use Rattle.bp_text_grammar.specs.Lexing.{blank, in_name, starts_name, is_punctuation, Stamped, Lexes, IsToken, EndsBefore, IsStuck, IsWord}
use Rattle.bp_text_grammar.specs.WholeTexts.{is_open, has_open, seen, kinds, HoldsJust}
use Rattle.bp_text_grammar.proofs.ShapeTokens.{is_spelled}
use Rattle.bp_text.specs.Unread.{AreTaken}

-- ---- the last byte

abbrev pub NoBlankLast : List ℕ → Type 0
NoBlankLast x = (u : List ℕ) → x ≡ u ++ blank ∷ [] → ⊥

none_last : NoBlankLast []
none_last [] e = cc
none_last (b ∷ u) e = cc

-- the last byte of a and z is that of z
last_of : (a u : List ℕ) (b c : ℕ) (z : List ℕ) → a ++ b ∷ z ≡ u ++ c ∷ [] → (w : List ℕ) × (b ∷ z ≡ w ++ c ∷ [])
last_of [] u b c z e = (u, e)
last_of (d ∷ a) [] b c z e =
    let none : a ++ b ∷ z ≡ [] = cc in
    let lens : length (a ++ b ∷ z) ≡ 0 = ap length none in
    let all = length-append a (b ∷ z) in
    absurd (omega arith)
last_of (d ∷ a) (f ∷ u) b c z e = last_of a u b c z cc

word_last : (w : List ℕ) → IsWord w → NoBlankLast w
word_last [] is u e = absurd is
word_last (b ∷ w) (first, each) [] e = let name : starts_name b ≡ true = first in let bb : b ≡ blank = cc in absurd (cc (ap starts_name bb))
word_last (b ∷ w) (first, each) (c ∷ u) e =
    let cut : w ≡ u ++ blank ∷ [] = cc in
    let (name, none) = each-rest (Is in_name) u (blank ∷ []) (subst (λ z. Each (Is in_name) z) cut each) in
    absurd cc

token_last : (t : Token) (x : List ℕ) → is_spelled t ≡ true → IsToken t x → NoBlankLast x
token_last (Word w) x s (same, is) u e = word_last w is u (sym same ∙ e)
token_last (Mark b) x s (same, is) [] e = let bb : b ≡ blank = cc in let mark : is_punctuation b ≡ true = is in absurd (cc (ap is_punctuation bb))
token_last (Mark b) x s (same, is) (c ∷ []) e = absurd cc
token_last (Mark b) x s (same, is) (c ∷ d ∷ u) e = absurd cc
token_last (Number n) x s is u e = absurd cc
token_last Big x s is u e = absurd cc
token_last (Text w) x s is u e = absurd cc
token_last (Char b) x s is u e = absurd cc
token_last Wrong x s is u e = absurd is
token_last OpenText x s is u e = absurd is
token_last OpenChar x s is u e = absurd is

join_last : (b x z : List ℕ) → NoBlankLast x → NoBlankLast z → (1 ≤ length x) → NoBlankLast (b ++ (x ++ z))
join_last b [] z no_x no_z some u e = absurd (omega arith)
join_last b (c ∷ x) [] no_x no_z some u e =
    let (w, last) = last_of b u c blank x (ap (λ y. b ++ y) (sym (append-nil (c ∷ x))) ∙ e) in
    no_x w last
join_last b (c ∷ x) (d ∷ z) no_x no_z some u e =
    let (w, last) = last_of (b ++ (c ∷ x)) u d blank z (append_assoc b (c ∷ x) (d ∷ z) ∙ e) in
    no_z w last

-- ---- one token

pub seen_spelled : (t : Token) → is_spelled (seen t) ≡ true → is_spelled t ≡ true
seen_spelled (Word w) s = refl
seen_spelled (Mark b) s = refl
seen_spelled (Number n) s = absurd cc
seen_spelled Big s = absurd cc
seen_spelled (Text w) s = absurd cc
seen_spelled (Char b) s = absurd cc
seen_spelled Wrong s = absurd cc
seen_spelled OpenText s = absurd cc
seen_spelled OpenChar s = absurd cc

pub never_stuck : (t : Token) (y : List ℕ) → is_spelled t ≡ true → IsStuck t y → ⊥
never_stuck (Word w) y s is = is
never_stuck (Mark b) y s is = is
never_stuck (Number n) y s is = is
never_stuck Big y s is = is
never_stuck (Text w) y s is = is
never_stuck (Char b) y s is = is
never_stuck Wrong y s is = cc
never_stuck OpenText y s is = cc
never_stuck OpenChar y s is = cc

pub never_open : (t : Token) → is_spelled t ≡ true → is_open t ≡ false
never_open (Word w) s = refl
never_open (Mark b) s = refl
never_open (Number n) s = refl
never_open Big s = refl
never_open (Text w) s = refl
never_open (Char b) s = refl
never_open Wrong s = refl
never_open OpenText s = absurd cc
never_open OpenChar s = absurd cc

follows_part : (E : ℕ → Type 0) (x r : List ℕ) → Follows E (x ++ r) → Follows E x
follows_part E [] r f = tt
follows_part E (b ∷ x) r f = f

ends_part : (t : Token) (x r : List ℕ) → is_spelled t ≡ true → EndsBefore t (x ++ r) → EndsBefore t x
ends_part (Word w) x r s e = follows_part (IsNot in_name) x r e
ends_part (Mark b) x r s e = tt
ends_part (Number n) x r s e = absurd cc
ends_part Big x r s e = absurd cc
ends_part (Text w) x r s e = tt
ends_part (Char b) x r s e = tt
ends_part Wrong x r s e = tt
ends_part OpenText x r s e = tt
ends_part OpenChar x r s e = tt

pub some_bytes : (t : Token) (x : List ℕ) → is_spelled t ≡ true → IsToken t x → 1 ≤ length x
some_bytes (Word []) x s (same, is) = absurd is
some_bytes (Word (b ∷ w)) x s (same, is) = let lens = ap length same in omega arith
some_bytes (Mark b) x s (same, is) = let lens = ap length same in omega arith
some_bytes (Number n) x s is = absurd cc
some_bytes Big x s is = absurd cc
some_bytes (Text w) x s is = absurd cc
some_bytes (Char b) x s is = absurd cc
some_bytes Wrong x s is = absurd is
some_bytes OpenText x s is = absurd is
some_bytes OpenChar x s is = absurd is

-- ---- the bytes of the tokens

pub record AreBytes (ts : List Stamped) (s r : List ℕ) : Type 0 where
  pub bytes : List ℕ
  pub cut : s ≡ bytes ++ r
  pub tokens : List Stamped
  pub lexed : Lexes tokens bytes
  pub just : kinds tokens ≡ kinds ts
  pub closed : has_open tokens ≡ false
  pub last : NoBlankLast bytes

pub bytes_of_taken : (ts : List Stamped) (s r : List ℕ) → Each (Is is_spelled) (kinds ts) → AreTaken ts s r → AreBytes ts s r
bytes_of_taken [] s r each is = record { bytes = []; cut = is; tokens = []; lexed = tt; just = refl; closed = refl; last = none_last }
bytes_of_taken (t ∷ ts) s r (first, each) (b, y, u, cut, blanks, left, inr (none, stuck), next) =
    absurd (never_stuck t.token y (seen_spelled t.token first) stuck)
bytes_of_taken (t ∷ ts) s r (first, each) (b, y, u, cut, blanks, left, inl (x, parts, token, ends), next) =
    let rest = bytes_of_taken ts u r each next in
    let spelled = seen_spelled t.token first in
    record {
      bytes = b ++ (x ++ rest.bytes);
      cut =
          cut ∙ (ap (λ z. b ++ z) (parts ∙ (ap (λ z. x ++ z) rest.cut ∙ sym (append_assoc x rest.bytes r)))
          ∙ sym (append_assoc b (x ++ rest.bytes) r));
      tokens = record { token = t.token; left = length (x ++ rest.bytes) } ∷ rest.tokens;
      lexed = (
        b,
        x ++ rest.bytes,
        refl,
        blanks,
        refl,
        inl (
          x,
          rest.bytes,
          refl,
          token,
          ends_part t.token rest.bytes r spelled
              (subst (λ z. EndsBefore t.token z) rest.cut ends),
          rest.lexed,
        ),
      );
      just = ap (λ z. seen t.token ∷ z) rest.just;
      closed = ap (λ o. o || has_open rest.tokens) (never_open t.token spelled) ∙ rest.closed;
      last = join_last b x rest.bytes (token_last t.token x spelled token) rest.last (some_bytes t.token x spelled token);
    }

pub front_bytes : (ts : List Stamped) (s r : List ℕ) (of : AreBytes ts s r) → take (length s - length r) s ≡ of.bytes
front_bytes ts s r of =
    let lens : length s ≡ length of.bytes + length r = ap length of.cut ∙ length-append of.bytes r in
    let at : length s - length r ≡ length of.bytes = omega arith in
    ap (λ k. take k s) at ∙ (ap (λ z. take (length of.bytes) z) of.cut ∙ take-append_seam of.bytes r)

pub holds_just : (ts : List Stamped) (s r : List ℕ) → AreBytes ts s r → HoldsJust s (length s - length r) (kinds ts)
holds_just ts s r of =
    let same = front_bytes ts s r of in
    record {
      within = omega arith;
      tokens = of.tokens;
      lexed = subst (λ z. Lexes of.tokens z) (sym same) of.lexed;
      just = of.just;
      last = subst NoBlankLast (sym same) of.last;
    }
