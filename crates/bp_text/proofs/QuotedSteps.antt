-- The turns of a loop over the bytes of a text in quotes.
use Rattle.std.proofs.Common.{◌≡◌, refl, sym, ap, ◌∙◌, ℕ, ◌<◌, ◌≤◌, List, [], ◌∷◌, ◌++◌, length, get_or, Err, arith}
use Rattle.readers.specs.Reader.{Outcome, whole, more, bad, Any, Follows, IsNot}
use Rattle.readers.proofs.Loops.{onward, after_self, after_whole, after_more, after_bad, until_end, until_done, until_go_on}
use Rattle.readers.proofs.Readers.{each-any}
use Rattle.bp_text_grammar.specs.Lexing.{quote, InQuotes, is_byte}
use Rattle.bp_text_grammar.specs.Scanning.{quoted_at, text_rest}
use Rattle.bp_text_grammar.proofs.Quoted.{reads_quoted, quoted_begins}
use Rattle.bp_text.specs.declared.stop.Stop.{Stop}
use Rattle.bp_text.specs.declared.stop.Stop.TheVariants as stop
use Rattle.bp_text.specs.Given.{ReadsTo}
use Rattle.bp_text.proofs.Cursors.{tail_of, head_is}

-- the bytes so far, and what is read of the rest, are what is read of all
abbrev pub Reading : List ℕ → List ℕ → Outcome ℕ (Unit {0}) (List ℕ) → Type 0
Reading front rest total = onward (λ w u. whole w u) front (text_rest rest) ≡ total

pub bytes_start : (s : List ℕ) → Reading [] s (text_rest s)
bytes_start s = after_self (text_rest s)

-- nothing is left
pub bytes_none : (front s : List ℕ) (total : Outcome ℕ (Unit {0}) (List ℕ)) → length s < 1 → Reading front s total → total ≡ more
bytes_none front [] total none reading =
    sym reading ∙ until_done (quoted_at quote) (λ w u. whole w u) front (is_byte quote) tt (length {A = ℕ} [])
bytes_none front (c ∷ s) total none reading = absurd (omega arith)

-- a byte is read
pub bytes_go : (front s u : List ℕ) (b : ℕ) (total : Outcome ℕ (Unit {0}) (List ℕ)) → Follows (IsNot (is_byte quote)) s
    → quoted_at quote s ≡ whole b u → Reading front s total → Reading (front ++ b ∷ []) u total
bytes_go front [] u b total other is reading = absurd cc
bytes_go front (c ∷ s) u b total other is reading =
    sym (after_whole (λ v t. onward (λ w x. whole w x) (front ++ v ∷ []) (text_rest t)) is)
    ∙ (sym (until_go_on Any Any (InQuotes quote) _ (quoted_at quote) (reads_quoted quote) (λ w u. whole w u) front (is_byte quote) tt quoted_begins c s (each-any (c ∷ s)) other)
    ∙ reading)

-- no byte stands there
pub bytes_more : (front s : List ℕ) (total : Outcome ℕ (Unit {0}) (List ℕ)) → Follows (IsNot (is_byte quote)) s
    → quoted_at quote s ≡ more → Reading front s total → total ≡ more
bytes_more front [] total other is reading =
    sym reading ∙ until_done (quoted_at quote) (λ w u. whole w u) front (is_byte quote) tt (length {A = ℕ} [])
bytes_more front (c ∷ s) total other is reading =
    sym reading
    ∙ (until_go_on Any Any (InQuotes quote) _ (quoted_at quote) (reads_quoted quote) (λ w u. whole w u) front (is_byte quote) tt quoted_begins c s (each-any (c ∷ s)) other
    ∙ after_more (λ v t. onward (λ w x. whole w x) (front ++ v ∷ []) (text_rest t)) is)

pub bytes_bad : (front s : List ℕ) (n : ℕ) (total : Outcome ℕ (Unit {0}) (List ℕ)) → Follows (IsNot (is_byte quote)) s
    → quoted_at quote s ≡ bad n tt → Reading front s total → total ≡ bad n tt
bytes_bad front [] n total other is reading = absurd cc
bytes_bad front (c ∷ s) n total other is reading =
    sym reading
    ∙ (until_go_on Any Any (InQuotes quote) _ (quoted_at quote) (reads_quoted quote) (λ w u. whole w u) front (is_byte quote) tt quoted_begins c s (each-any (c ∷ s)) other
    ∙ after_bad (λ v t. onward (λ w x. whole w x) (front ++ v ∷ []) (text_rest t)) is)

pub bytes_stop : (front s old new : List ℕ) (e : Stop) → Follows (IsNot (is_byte quote)) s → ReadsTo (quoted_at quote) s new (Err e)
    → Reading front s (text_rest old) → ReadsTo text_rest old new (Err e)
bytes_stop front s old new stop.More other is reading = bytes_more front s (text_rest old) other is reading
bytes_stop front s old new stop.Bad other is reading = bytes_bad front s (length new) (text_rest old) other is reading
bytes_stop front s old new stop.OutOfMemory other is reading = tt

-- the last quote is there
pub bytes_end : (front s : List ℕ) (total : Outcome ℕ (Unit {0}) (List ℕ)) → 1 ≤ length s → get_or s 0 0 ≡ quote
    → Reading front s total → total ≡ whole front (tail_of s)
bytes_end front s total some is reading =
    sym reading
    ∙ (ap (λ t. onward (λ w u. whole w u) front (text_rest t)) (head_is quote s some is)
    ∙ until_end (quoted_at quote) (λ w u. whole w u) front (is_byte quote) tt (length (quote ∷ tail_of s)) quote (tail_of s) refl)
