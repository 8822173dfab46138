use Rattle.std.proofs.Common.{sym, ap, ◌∙◌, subst, arith}
use Rattle.readers.specs.Reader.{whole}
use Rattle.bp_text_grammar.specs.Lexing.{quote}
use Rattle.bp_text_grammar.specs.Scanning as scanning
use Rattle.bp_text.proofs.Cursors.{tail_of, tail_less, other_there}
use Rattle.bp_text.proofs.QuotedSteps.{Reading, bytes_go, bytes_none, bytes_stop, bytes_end}
use Rattle.bp_text.proofs.quoted.text_rest.Goals as goal

pub returns-in-empty : goal.returns-in-empty
returns-in-empty c = bytes_none c.bytes.bytes.items c.bytes.rest.now (scanning.text_rest c.args.rest.now.now) (omega arith) c.bytes.invariant.reading

pub returns-in-34 : goal.returns-in-34
returns-in-34 c = (
  bytes_end c.bytes.bytes.items c.bytes.rest.now (scanning.text_rest c.args.rest.now.now) c.in-34.len_at_least (omega arith) c.bytes.invariant.reading
      ∙ ap (λ w. whole w (tail_of c.bytes.rest.now)) (sym c.from_vec.ensures),
  omega (arith, tail_less c.bytes.rest.now c.in-34.len_at_least),
)

pub bytes-preserved : goal.bytes-preserved
bytes-preserved c = record {
  reading =
      subst (λ bs. Reading bs c.quoted_at.new.rest.now (scanning.text_rest c.args.rest.now.now)) (sym c.in_ok-push-in-Ok.ensures.items)
      (bytes_go c.bytes.bytes.items c.bytes.rest.now c.quoted_at.new.rest.now c.in-Ok.byte (scanning.text_rest c.args.rest.now.now)
      (other_there quote c.bytes.rest.now (λ e. omega arith)) c.in-Ok.ensures.0 c.bytes.invariant.reading);
  shorter = omega (arith, c.bytes.invariant.shorter, c.in-Ok.ensures.1);
}

pub returns-in-Err : goal.returns-in-Err
returns-in-Err c =
    bytes_stop c.bytes.bytes.items c.bytes.rest.now c.args.rest.now.now c.quoted_at.new.rest.now c.in-Err.stop
    (other_there quote c.bytes.rest.now (λ e. omega arith)) c.in-Err.ensures c.bytes.invariant.reading
