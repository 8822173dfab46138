-- What one token in front of bytes, and more of them, say of all tokens.
use Rattle.std.proofs.Common.{◌≡◌, ◌≢◌, refl, sym, ap, ◌∙◌, subst, ℕ, suc, ◌+◌, List, [], ◌∷◌, ◌++◌, length, inl, inr, arith}
use Rattle.std.proofs.lemmas.List.{append-nil, length-append}
use Rattle.bp_text_grammar.specs.Lexing.{blank, Stamped, Lexes, AreBlanks, IsToken, EndsBefore, IsStuck}
use Rattle.bp_text_grammar.specs.Scanning.{Scanned, found, stuck, scan, after_blanks, lex}
use Rattle.readers.specs.Reader.{Follows}
use Rattle.bp_text_grammar.proofs.Scans.{scan_sound, scan_stuck}
use Rattle.bp_text_grammar.proofs.Exact.{token_starts, stuck_starts, blanks_off, lexes_some, lexes_lex}
use Rattle.bp_text.specs.declared.token.Token.{Token}
use Rattle.bp_text.specs.Given.{token_of, IsScanned}
use Rattle.bp_text.specs.Unread.{IsTaken, AreTaken}

-- ---- tokens that were passed

-- one after the other
pub passes_join : (ts us : List Stamped) (s u r : List ℕ) → AreTaken ts s u → AreTaken us u r → AreTaken (ts ++ us) s r
passes_join [] us s u r one two = subst (λ z. AreTaken us z r) (sym one) two
passes_join (t ∷ ts) us s u r (b, y, v, cut, blanks, left, is, next) two = (b, y, v, cut, blanks, left, is, passes_join ts us v u r next two)

-- nothing is left after a place where no token stands
no_more : (ts : List Stamped) (r : List ℕ) → AreTaken ts [] r → (ts ≡ []) × (r ≡ [])
no_more [] r is = (refl, sym is)
no_more (t ∷ ts) r (b, y, u, cut, blanks, left, inl (x, parts, token, ends), next) =
    let (c, z, full, some) = token_starts t.token x token in
    let one : 0 ≡ length b + length y = ap length cut ∙ length-append b y in
    let two : length y ≡ length x + length u = ap length parts ∙ length-append x u in
    let three : length x ≡ suc (length z) = ap length full in
    absurd (omega arith)
no_more (t ∷ ts) r (b, y, u, cut, blanks, left, inr (none, stuck_is), next) =
    let (c, z, full, some) = stuck_starts t.token y stuck_is in
    let one : 0 ≡ length b + length y = ap length cut ∙ length-append b y in
    let two : length y ≡ suc (length z) = ap length full in
    absurd (omega arith)

lexes_none : (ts : List Stamped) → Lexes ts [] → ts ≡ []
lexes_none ts is = lexes_lex ts [] is ∙ sym (lexes_lex [] [] tt)

-- with the tokens of the rest they are the tokens of all
pub passes_lexes : (ts us : List Stamped) (s r : List ℕ) → AreTaken ts s r → Lexes us r → Lexes (ts ++ us) s
passes_lexes [] us s r is later = subst (λ z. Lexes us z) (sym is) later
passes_lexes (t ∷ ts) us s r (b, y, u, cut, blanks, left, inl (x, parts, token, ends), next) later =
    (b, y, cut, blanks, left, inl (x, u, parts, token, ends, passes_lexes ts us u r next later))
passes_lexes (t ∷ ts) us s r (b, y, u, cut, blanks, left, inr (none, stuck_is), next) later =
    let (no_tokens, nothing) = no_more ts r (subst (λ z. AreTaken ts z r) none next) in
    let last : us ≡ [] = lexes_none us (subst (λ z. Lexes us z) nothing later) in
    (b, y, cut, blanks, left, inr (ap (λ z. z ++ us) no_tokens ∙ last, stuck_is))

pub passes_lex : (ts : List Stamped) (s r : List ℕ) → AreTaken ts s r → lex s ≡ ts ++ lex r
passes_lex ts s r is = sym (lexes_lex (ts ++ lex r) s (passes_lexes ts (lex r) s r is (lexes_some r)))

-- ---- the first token

-- no token is left where there are blanks alone
pub lex_none : (s : List ℕ) → length (after_blanks s) ≡ 0 → lex s ≡ []
lex_none s none =
    let (b, cut, blanks, next) = blanks_off s in
    sym (lexes_lex [] s (subst AreBlanks (sym (cut ∙ (ap (λ z. b ++ z) (nothing (after_blanks s) none) ∙ append-nil b))) blanks))
  where
    nothing : (y : List ℕ) → length y ≡ 0 → y ≡ []
    nothing [] e = refl
    nothing (c ∷ y) e = absurd (omega arith)

-- one token is scanned after blanks
pub scan_passes : (s r : List ℕ) (token : Token) → length (after_blanks s) ≢ 0 → IsScanned (scan (after_blanks s)) token r
    → AreTaken (record { token = token_of token; left = length (after_blanks s) } ∷ []) s r
scan_passes s r token some is =
    let (b, cut, blanks, next) = blanks_off s in
    (b, after_blanks s, r, cut, blanks, refl, taken (after_blanks s) some next (scan (after_blanks s)) refl is, refl)
  where
    taken : (y : List ℕ) → length y ≢ 0 → Follows (λ c. c ≢ blank) y → (o : Scanned) → scan y ≡ o → IsScanned o token r → IsTaken (token_of token) y r
    taken y some_y next (found t u) e (same, rest) =
        let (x, parts, token_is, ends) = scan_sound y t u e in
        inl (x, parts ∙ ap (λ z. x ++ z) (sym rest), subst (λ z. IsToken z x) (sym same) token_is, subst (λ z. EndsBefore z r) (sym same) (subst (λ z. EndsBefore t z) (sym rest) ends))
    taken [] some_y next (stuck t) e (same, rest) = absurd (some_y refl)
    taken (c ∷ y) some_y next (stuck t) e (same, rest) =
        inr (rest, subst (λ z. IsStuck z (c ∷ y)) (sym same) (scan_stuck c y t next e))
