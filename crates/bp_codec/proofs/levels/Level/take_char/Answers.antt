use Rattle.readers.specs.Reader.{one}
use Rattle.readers.proofs.Growing.{grows_one}
use Rattle.bp_num.specs.declared.number.Why.TheVariants.{Byte}
use Rattle.bp_grammar.specs.Spells.{char_of}
use Rattle.bp_value.specs.declared.value.Value.TheVariants as val
use Rattle.bp_codec.proofs.LevelSteps.{takes_put, takes_stop}
use Rattle.bp_codec.proofs.levels.Level.take_char.Goals as goal

pub returns-in-Ok : goal.returns-in-Ok
returns-in-Ok c =
    takes_put (one char_of Byte) c.args.self.now c.put.new.self c.args.rest.now.now c.char_at.new.rest.now (val.Char c.in-Ok.byte) c.put.result (grows_one char_of Byte)
    (c.in-Ok.ensures.0) c.in-Ok.ensures.1 c.put.ensures.ok c.put.ensures.only

pub returns-in-Err : goal.returns-in-Err
returns-in-Err c = takes_stop (one char_of Byte) c.args.self.now c.args.rest.now.now c.char_at.new.rest.now c.in-Err.stop (grows_one char_of Byte) (c.in-Err.ensures)
