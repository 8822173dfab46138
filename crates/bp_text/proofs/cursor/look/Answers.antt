use Rattle.std.proofs.Common.{◌≡◌, sym, ap, ◌∙◌, subst, length}
use Rattle.bp_text_grammar.specs.Scanning.{after_blanks, scan}
use Rattle.bp_text.specs.Given.{token_of, IsScanned}
use Rattle.bp_text.proofs.TokenSteps.{lex_none, scan_passes}
use Rattle.bp_text.proofs.cursor.look.Goals as goal

pub returns-then-left-eq0 : goal.returns-then-left-eq0
returns-then-left-eq0 c = lex_none c.args.bytes.now (sym (ap length c.after_blanks-rest.ensures) ∙ c.if-left-eq0.true)

pub returns : goal.returns
returns c =
    let s = c.args.bytes.now in
    let lens : length c.after_blanks-rest.result.now ≡ length (after_blanks s) = ap length c.after_blanks-rest.ensures in
    record {
      token = token_of c.in_ok-token.token;
      is_seen = c.closed.ensures;
      opened = c.is_open-opened.ensures;
      passes = rw lens
          (scan_passes s c.next_token.new.rest.now c.in_ok-token.token (λ e. c.if-left-eq0.false (lens ∙ e))
          (subst (λ z. IsScanned (scan z) c.in_ok-token.token c.next_token.new.rest.now) c.after_blanks-rest.ensures c.in_ok-token.ensures));
    }
