-- The digits of a hex text without its blanks.
use Rattle.std.proofs.Common.{◌≡◌, ◌≢◌, refl, sym, ap, ◌∙◌, subst, true, false, is_some, Option, Some, None, ℕ, suc, ◌+◌, ◌*◌, ◌%◌, List, [], ◌∷◌, ◌++◌, length, take, drop, get_or, append_assoc, ◌<◌, ◌⊎◌, inl, inr, Ok, arith}
use Rattle.std.proofs.lemmas.List.{append-nil, length-append, length-take-le, take-append-drop, take_more, drop_more}
use Rattle.readers.specs.Reader.{Front}
use Rattle.bp_text_grammar.specs.Lexing.{hex_digit}
use Rattle.hex.specs.Hex.{decode_of, decode_pairs, digit_or_error, hex_digit_value, pair_value}
use Rattle.hex.proofs.HexLemmas.{decode_of-even}
use Rattle.hex.proofs.Pairs.{cons_byte, decode_pairs-ok_pair}
use Rattle.rpc_tool.specs.HexTexts.{is_hex_blank, IsHexText, IsBadHex}
use Rattle.rpc_tool.proofs.HexTexts.{IsDigit, rest_is, joined, pair_text, after_digit, other_first}

-- ---- digits and their bytes

-- the digits are two for each byte
abbrev Spell : List ℕ → List ℕ → Type 0
Spell [] digits = digits ≡ []
Spell (b ∷ bytes) digits =
    (h : ℕ) × (l : ℕ) × (x : ℕ) × (y : ℕ) × (rest : List ℕ) × (digits ≡ h ∷ l ∷ rest) × IsDigit x h × IsDigit y l
    × (b ≡ 16 * x + y) × Spell bytes rest

spell_length : (bytes digits : List ℕ) → Spell bytes digits → length digits ≡ 2 * length bytes
spell_length [] digits none = ap length none
spell_length (b ∷ bytes) digits (h, l, x, y, rest, same, high, low, is, spell) =
    let here : length digits ≡ suc (suc (length rest)) = ap length same in
    let more = spell_length bytes rest spell in
    omega arith

spell_more : (bytes digits : List ℕ) (h l x y : ℕ) → IsDigit x h → IsDigit y l → Spell bytes digits
    → Spell (bytes ++ (16 * x + y) ∷ []) (digits ++ h ∷ l ∷ [])
spell_more [] digits h l x y high low none =
    (h, l, x, y, [], ap (λ z. z ++ h ∷ l ∷ []) none, high, low, refl, refl)
spell_more (b ∷ bytes) digits h l x y high low (g, m, v, w, rest, same, first, second, is, spell) =
    (g, m, v, w, rest ++ h ∷ l ∷ [], ap (λ z. z ++ h ∷ l ∷ []) same, first, second, is, spell_more bytes rest h l x y high low spell)

same_digit : (c x : ℕ) → IsDigit x c → hex_digit_value c ≡ Some x
same_digit c x digit = grind (arith)

decodes : (i : ℕ) (bytes digits : List ℕ) → Spell bytes digits → decode_pairs i digits ≡ Ok bytes
unfolding decode_pairs
decodes i [] digits none = ap (decode_pairs i) none
decodes i (b ∷ bytes) digits (h, l, x, y, rest, same, high, low, is, spell) =
    let first = ap (digit_or_error h i) (same_digit h x high) in
    let second = ap (digit_or_error l (i + 1)) (same_digit l y low) in
    let swap : x * 16 + y ≡ b = omega (arith, is) in
    let pair : pair_value h l i ≡ Ok (x * 16 + y) = rw (first, second) refl in
    ap (decode_pairs i) same ∙ (decode_pairs-ok_pair i h l (x * 16 + y) rest pair
    ∙ (ap (cons_byte (x * 16 + y)) (decodes (i + 2) bytes rest spell) ∙ ap (λ v. Ok (v ∷ bytes)) swap))

-- ---- the digits of the front of a text

-- they are those of whole pairs
abbrev Whole : List ℕ → List ℕ → Type 0
Whole digits front = (bytes : List ℕ) × IsHexText bytes front × Spell bytes digits

-- or of whole pairs, and one more
abbrev Half : List ℕ → List ℕ → Type 0
Half digits front =
    (pairs : List ℕ) × (before : List ℕ) × (d : ℕ) × (x : ℕ) × (digits ≡ pairs ++ d ∷ []) × (front ≡ before ++ d ∷ [])
    × IsDigit x d × Whole pairs before

abbrev pub Taken : List ℕ → List ℕ → Type 0
Taken digits front = Whole digits front ⊎ Half digits front

whole_even : (digits front : List ℕ) → Whole digits front → length digits % 2 ≡ 0
whole_even digits front (bytes, text, spell) = let len = spell_length bytes digits spell in omega (arith, len)

half_odd : (digits front : List ℕ) → Half digits front → length digits % 2 ≡ 1
half_odd digits front (pairs, before, d, x, digits_are, front_is, digit, (bytes, text, spell)) =
    let len = spell_length bytes pairs spell in
    let all : length digits ≡ length pairs + 1 = ap length digits_are ∙ length-append pairs (d ∷ []) in
    omega (arith, len, all)

pub none_taken : Taken [] []
none_taken = inl ([], tt, refl)

some_digit : (c : ℕ) → is_some (hex_digit c) ≡ true → (x : ℕ) × IsDigit x c
some_digit c is = of_option (hex_digit c) is
  where
    of_option : (o : Option ℕ) → is_some o ≡ true → (x : ℕ) × (o ≡ Some x)
    of_option (Some x) is = (x, refl)
    of_option None is = absurd cc

no_digit : (c : ℕ) → is_some (hex_digit c) ≡ false → hex_digit c ≡ None
no_digit c is = of_option (hex_digit c) is
  where
    of_option : (o : Option ℕ) → is_some o ≡ false → o ≡ None
    of_option (Some x) is = absurd cc
    of_option None is = refl

pub takes_digit : (digits front : List ℕ) (d : ℕ) → is_some (hex_digit d) ≡ true → Taken digits front
    → Taken (digits ++ d ∷ []) (front ++ d ∷ [])
takes_digit digits front d is (inl whole) = let (x, digit) = some_digit d is in inr (digits, front, d, x, refl, refl, digit, whole)
takes_digit digits front d is (inr (pairs, before, h, x, digits_are, front_is, high, (bytes, text, spell))) =
    let (y, low) = some_digit d is in
    let digits_1 : digits ++ d ∷ [] ≡ pairs ++ h ∷ d ∷ [] = ap (λ z. z ++ d ∷ []) digits_are ∙ append_assoc pairs (h ∷ []) (d ∷ []) in
    let front_1 : front ++ d ∷ [] ≡ before ++ h ∷ d ∷ [] = ap (λ z. z ++ d ∷ []) front_is ∙ append_assoc before (h ∷ []) (d ∷ []) in
    inl (
      bytes ++ (16 * x + y) ∷ [],
      subst (IsHexText (bytes ++ (16 * x + y) ∷ [])) (sym front_1)
          (joined bytes ((16 * x + y) ∷ []) before (h ∷ d ∷ []) text (pair_text h d x y high low)),
      subst (Spell (bytes ++ (16 * x + y) ∷ [])) (sym digits_1) (spell_more bytes pairs h d x y high low spell),
    )

pub takes_blank : (digits front : List ℕ) (b : ℕ) → length digits % 2 ≡ 0 → is_hex_blank b ≡ true → Taken digits front
    → Taken digits (front ++ b ∷ [])
takes_blank digits front b even blank (inl (bytes, text, spell)) =
    inl (bytes, subst (λ z. IsHexText z (front ++ b ∷ [])) (append-nil bytes) (joined bytes [] front (b ∷ []) text (blank, tt)), spell)
takes_blank digits front b even blank (inr half) = let odd = half_odd digits front half in absurd (omega (arith, even, odd))

-- ---- where a text is refused

-- the byte after the front is the first that cannot stand there
at_fault : (s front v : List ℕ) (b : ℕ) → s ≡ front ++ b ∷ v → Front IsHexText front → (Front IsHexText (front ++ b ∷ []) → ⊥)
    → IsBadHex s (length front)
at_fault s front v b cut is none = (
  length (b ∷ v),
  inl (
    front,
    b,
    v,
    record {
      place = cut;
      left = refl;
      front = is;
      no_front = none;
    },
  ),
  sym (ap length cut ∙ length-append front (b ∷ v)),
)

half_front : (digits front : List ℕ) → Half digits front → Front IsHexText front
half_front digits front (pairs, before, d, x, digits_are, front_is, digit, (bytes, text, spell)) = (
  bytes ++ (16 * x + 0) ∷ [],
  0x30 ∷ [],
  subst (IsHexText (bytes ++ (16 * x + 0) ∷ [])) (sym (ap (λ z. z ++ 0x30 ∷ []) front_is ∙ append_assoc before (d ∷ []) (0x30 ∷ [])))
      (joined bytes ((16 * x + 0) ∷ []) before (d ∷ 0x30 ∷ []) text (pair_text d 0x30 x 0 digit refl)),
)

-- after half a pair another digit follows
half_goes_on : (digits front u all : List ℕ) → Half digits front → IsHexText all (front ++ u)
    → (l : ℕ) × (y : ℕ) × (t : List ℕ) × (u ≡ l ∷ t) × IsDigit y l
half_goes_on digits front u all (pairs, before, d, x, digits_are, front_is, digit, (bytes, text, spell)) whole =
    let cut : front ++ u ≡ before ++ d ∷ u = ap (λ z. z ++ u) front_is ∙ append_assoc before (d ∷ []) u in
    let (more, rest) = rest_is bytes all before (d ∷ u) text (subst (IsHexText all) cut whole) in
    let (l, y, t, after, is, low, text_1) = after_digit more d x u digit rest in
    (l, y, t, is, low)

pub bad_byte : (digits s front v : List ℕ) (b : ℕ) → s ≡ front ++ b ∷ v → is_some (hex_digit b) ≡ false
    → (length digits % 2 ≢ 0) ⊎ (is_hex_blank b ≡ false) → Taken digits front → IsBadHex s (length front)
bad_byte digits s front v b cut is why (inr half) = at_fault s front v b cut (half_front digits front half) none
  where
    none : Front IsHexText (front ++ b ∷ []) → ⊥
    none (all, x, text) =
        let (l, y, t, same, low) = half_goes_on digits front (b ∷ x) all half (subst (IsHexText all) (append_assoc front (b ∷ []) x) text) in
        let first : l ≡ b = cc in
        let digit : hex_digit b ≡ Some y = ap hex_digit (sym first) ∙ low in
        let nothing = no_digit b is in
        cc
bad_byte digits s front v b cut is (inl odd) (inl whole) = absurd (odd (whole_even digits front whole))
bad_byte digits s front v b cut is (inr no_blank) (inl (bytes, text, spell)) =
    at_fault s front v b cut (bytes, [], subst (IsHexText bytes) (sym (append-nil front)) text) none
  where
    none : Front IsHexText (front ++ b ∷ []) → ⊥
    none (all, x, whole) =
        let (more, rest) = rest_is bytes all front (b ∷ x) text (subst (IsHexText all) (append_assoc front (b ∷ []) x) whole) in
        other_first more b x (no_digit b is) no_blank rest

-- ---- by places

module _ (digits s : List ℕ) (i : ℕ) (below : i < length s) where
  one_more : take (i + 1) s ≡ take i s ++ get_or s i 0 ∷ []
  one_more = take_more s i 0 below

  pub digit_at : is_some (hex_digit (get_or s i 0)) ≡ true → Taken digits (take i s)
      → Taken (digits ++ get_or s i 0 ∷ []) (take (i + 1) s)
  digit_at is taken =
      subst (Taken (digits ++ get_or s i 0 ∷ [])) (sym one_more) (takes_digit digits (take i s) (get_or s i 0) is taken)

  pub blank_at : length digits % 2 ≡ 0 → is_hex_blank (get_or s i 0) ≡ true → Taken digits (take i s) → Taken digits (take (i + 1) s)
  blank_at even blank taken = subst (Taken digits) (sym one_more) (takes_blank digits (take i s) (get_or s i 0) even blank taken)

  pub bad_at : is_some (hex_digit (get_or s i 0)) ≡ false → (length digits % 2 ≢ 0) ⊎ (is_hex_blank (get_or s i 0) ≡ false)
      → Taken digits (take i s) → IsBadHex s i
  bad_at is why taken =
      let cut : s ≡ take i s ++ get_or s i 0 ∷ drop (i + 1) s =
      sym (take-append-drop i s) ∙ ap (λ z. take i s ++ z) (drop_more s i 0 below) in
      subst (IsBadHex s) (length-take-le i s (omega arith)) (bad_byte digits s (take i s) (drop (i + 1) s) (get_or s i 0) cut is why taken)

-- the end of all stands within a pair
pub bad_end : (digits s : List ℕ) → length digits % 2 ≢ 0 → Taken digits s → IsBadHex s (length s)
bad_end digits s odd (inl whole) = absurd (odd (whole_even digits s whole))
bad_end digits s odd (inr half) = (0, inr (refl, half_front digits s half, none), omega arith)
  where
    none : (all : List ℕ) → IsHexText all s → ⊥
    none all text =
        let (l, y, t, same, low) = half_goes_on digits s [] all half (subst (IsHexText all) (sym (append-nil s)) text) in
        absurd cc

pub all_taken : (digits s : List ℕ) → length digits % 2 ≡ 0 → Taken digits s
    → (bytes : List ℕ) × IsHexText bytes s × (decode_of digits ≡ Ok bytes)
all_taken digits s even (inl (bytes, text, spell)) = (bytes, text, decode_of-even digits even ∙ decodes 0 bytes digits spell)
all_taken digits s even (inr half) = let odd = half_odd digits s half in absurd (omega (arith, even, odd))
