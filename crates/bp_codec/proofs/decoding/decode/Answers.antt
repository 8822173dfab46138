use Rattle.std.proofs.Common.{[], length}
use Rattle.readers.proofs.Places.{stands_by}
use Rattle.bp_value.specs.Form.{form_of}
use Rattle.bp_grammar.specs.Spells.{Spells}
use Rattle.bp_codec.specs.declared.decoding.Decoded.TheVariants as decoded
use Rattle.bp_codec.proofs.Decodes.{apart, nodes}
use Rattle.bp_codec.proofs.Pieces.{if_ok, first_told, first_fed}
use Rattle.bp_codec.proofs.decoding.decode.Goals as goal

pub returns-in_err-reader-clause-apart : goal.returns-in_err-reader-clause-apart
returns-in_err-reader-clause-apart c = apart c.args.max_len (form_of c.args.shape.now) c.requires.good

pub returns-clause-apart : goal.returns-clause-apart
returns-clause-apart c = apart c.args.max_len (form_of c.args.shape.now) c.requires.good

pub returns-clause-told : goal.returns-clause-told
returns-clause-told c = if_ok c.feed.result (first_told c.args.max_len (form_of c.args.shape.now) c.args.bytes.now c.countable.ensures) (c.feed.ensures.fed c.args.max_len (form_of c.args.shape.now) [] c.in_ok-reader.ensures).told

pub returns-clause-only : goal.returns-clause-only
returns-clause-only c = λ d told. (c.feed.ensures.fed c.args.max_len (form_of c.args.shape.now) [] c.in_ok-reader.ensures).only d (first_fed c.args.max_len (form_of c.args.shape.now) c.args.bytes.now c.countable.ensures d told)

pub returns-clause-again : goal.returns-clause-again
returns-clause-again c = λ v t u spells cut. (c.feed.ensures.fed c.args.max_len (form_of c.args.shape.now) [] c.in_ok-reader.ensures).only (decoded.Whole v (length t))
    (first_fed c.args.max_len (form_of c.args.shape.now) c.args.bytes.now c.countable.ensures (decoded.Whole v (length t)) (stands_by (Spells c.args.max_len (form_of c.args.shape.now)) v c.args.bytes.now t u cut spells))

pub returns-clause-nodes : goal.returns-clause-nodes
returns-clause-nodes c = if_ok c.feed.result
    (λ d told. nodes c.args.max_len (form_of c.args.shape.now) c.requires.good c.args.bytes.now d (first_told c.args.max_len (form_of c.args.shape.now) c.args.bytes.now c.countable.ensures d told))
    (c.feed.ensures.fed c.args.max_len (form_of c.args.shape.now) [] c.in_ok-reader.ensures).told
