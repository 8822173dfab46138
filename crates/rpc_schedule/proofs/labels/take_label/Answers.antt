-- A word is a run of name bytes.
use Rattle.std.proofs.Common.{sym, subst}
use Rattle.readers.specs.Reader.{Each, Is}
use Rattle.bp_text_grammar.specs.Lexing.{in_name}
use Rattle.bp_text_grammar.specs.Scanning.{after_blanks}
use Rattle.bp_text_grammar.proofs.Pieces.{span_is}
use Rattle.rpc_schedule.proofs.labels.take_label.Goals as goal

pub is_label-requires : goal.is_label-requires
is_label-requires c = subst (Each (Is in_name)) (sym c.word-word.ensures) (span_is in_name (after_blanks c.args.line.now)).1
