-- A run of visible bytes has no other.
use Rattle.std.proofs.Common.{sym, subst}
use Rattle.readers.specs.Reader.{Each, Is}
use Rattle.bp_text_grammar.proofs.Pieces.{span_is}
use Rattle.rpc_schema.specs.Entries.{is_visible}
use Rattle.rpc_schema.proofs.heads.take_name.Goals as goal

pub is_rpc_name-requires : goal.is_rpc_name-requires
is_rpc_name-requires c = subst (Each (Is is_visible)) (sym c.take_visible-name.ensures.run) (span_is is_visible c.skip_blanks.new.self).1
