-- What is written is a spelling of the message, whatever the answer is.
use Rattle.std.proofs.Common.{arith}
use Rattle.bp_grammar.proofs.Written.{written_spells}
use Rattle.rpc_msg.proofs.writing.write_message.Goals as goal

pub returns-in-Ok-clause-spelled : goal.returns-in-Ok-clause-spelled
returns-in-Ok-clause-spelled c = λ m low fits. written_spells m _ _ (omega arith) fits

pub returns-in-Err-clause-spelled : goal.returns-in-Err-clause-spelled
returns-in-Err-clause-spelled c = λ m low fits. written_spells m _ _ (omega arith) fits
