use Rattle.std.proofs.Common.{◌≡◌, refl, sym, ap, ◌∙◌, true, false, get_or, arith}
use Rattle.std.proofs.lemmas.Result.{IfOk-weaker}
use Rattle.std.specs.Char.{is_ascii_digit}
use Rattle.bp_text_grammar.specs.Tokens as grammar
use Rattle.bp_text_grammar.specs.Lexing.{minus, in_name, starts_name, is_punctuation}
use Rattle.bp_text_grammar.specs.Scanning as scanning
use Rattle.bp_text_grammar.specs.Scanning.{span, name, digit, negative, text, char, mark, other, stuck, natural_found, negative_found, quoted_found, word_found, found}
use Rattle.bp_text.proofs.Cursors.{tail_of, head_is, head_cut}
use Rattle.bp_text.proofs.ScanSteps.{next_is, scan_none, scan_first}
use Rattle.bp_text.proofs.scanning.next_token.Goals as goal

pub returns-in_default : goal.returns-in_default
returns-in_default c =
    next_is (scanning.scan c.args.rest.now.now) (stuck grammar.Wrong) c.wrong.result c.wrong.new.rest.now (scan_none c.args.rest.now.now (omega arith)) c.wrong.ensures

pub returns-in-45 : goal.returns-in-45
returns-in-45 c =
    let s = c.args.rest.now.now in
    next_is (scanning.scan s) (negative_found (span is_ascii_digit (tail_of s))) c.negative.result c.negative.new.rest.now
    (scan_first negative s c.in-len1-up.len_at_least c.in-45.is)
    (c.negative.ensures (tail_of s) (head_is minus s c.in-len1-up.len_at_least c.in-45.is))

pub returns-in-34 : goal.returns-in-34
returns-in-34 c =
    let s = c.args.rest.now.now in
    IfOk-weaker c.text.result _ _
    (λ token is. next_is (scanning.scan s) (quoted_found grammar.Text grammar.OpenText (scanning.text_rest (tail_of s))) token c.text.new.rest.now
    (scan_first text s c.in-len1-up.len_at_least c.in-34.is) is) c.text.ensures

pub returns-in-39 : goal.returns-in-39
returns-in-39 c =
    let s = c.args.rest.now.now in
    IfOk-weaker c.char.result _ _
    (λ token is. next_is (scanning.scan s) (quoted_found grammar.Char grammar.OpenChar (scanning.char_rest (tail_of s))) token c.char.new.rest.now
    (scan_first char s c.in-len1-up.len_at_least c.in-39.is) is) c.char.ensures

pub returns-in_default-first : goal.returns-in_default-first
returns-in_default-first c =
    let s = c.args.rest.now.now in
    let digit_first : is_ascii_digit (get_or s 0 0) ≡ true = sym c.if-is_ascii_digit.ensures.value in
    next_is (scanning.scan s) (natural_found (span is_ascii_digit s)) c.natural.result c.natural.new.rest.now
    (scan_first digit s c.in-len1-up.len_at_least digit_first
    ∙ ap (λ z. natural_found (span is_ascii_digit z)) (sym (head_cut s c.in-len1-up.len_at_least)))
    c.natural.ensures

pub returns-in_default-2 : goal.returns-in_default-2
returns-in_default-2 c =
    let s = c.args.rest.now.now in
    let starts : starts_name (get_or s 0 0) ≡ true = sym c.if-starts_name.ensures in
    next_is (scanning.scan s) (word_found (span in_name s)) c.word.result c.word.new.rest.now
    (scan_first name s c.in-len1-up.len_at_least starts
    ∙ ap (λ z. word_found (span in_name z)) (sym (head_cut s c.in-len1-up.len_at_least))) c.word.ensures

pub returns-in_default-3 : goal.returns-in_default-3
returns-in_default-3 c =
    let s = c.args.rest.now.now in
    let punctuation : is_punctuation (get_or s 0 0) ≡ true = sym c.if-is_punctuation.ensures in
    next_is (scanning.scan s) (found (grammar.Mark (get_or s 0 0)) (tail_of s)) _ (tail_of s)
    (scan_first mark s c.in-len1-up.len_at_least punctuation) (refl, refl)

pub returns-in_default-4 : goal.returns-in_default-4
returns-in_default-4 c =
    let s = c.args.rest.now.now in
    let digits : is_ascii_digit (get_or s 0 0) ≡ false = sym c.if-is_ascii_digit.ensures.value in
    let names : starts_name (get_or s 0 0) ≡ false = sym c.if-starts_name.ensures in
    let marks : is_punctuation (get_or s 0 0) ≡ false = sym c.if-is_punctuation.ensures in
    next_is (scanning.scan s) (stuck grammar.Wrong) c.wrong-in_default-4.result c.wrong-in_default-4.new.rest.now
    (scan_first other s c.in-len1-up.len_at_least (names, digits, (λ e. omega arith), (λ e. omega arith), (λ e. omega arith), marks))
    c.wrong-in_default-4.ensures
