use Rattle.std.proofs.Common.{ap}
use Rattle.readers.specs.Reader.{mapped, one}
use Rattle.readers.proofs.Growing.{grows_one, grows_mapped}
use Rattle.bp_num.specs.declared.number.Why.TheVariants.{Byte}
use Rattle.bp_grammar.specs.Spells.{flag_of}
use Rattle.bp_codec.specs.Leaves.{bool_value}
use Rattle.bp_value.specs.declared.value.Value.TheVariants as val
use Rattle.bp_codec.proofs.LevelSteps.{takes_put, takes_stop, stops_mapped}
use Rattle.bp_codec.proofs.levels.Level.take_bool.Goals as goal

pub returns-in-Ok : goal.returns-in-Ok
returns-in-Ok c =
    takes_put (bool_value) c.args.self.now c.put.new.self c.args.rest.now.now c.flag_at.new.rest.now (val.Bool c.in-Ok.flag) c.put.result (grows_mapped val.Bool (one flag_of Byte) (grows_one flag_of Byte))
    (ap (λ o. mapped val.Bool o) c.in-Ok.ensures.0) c.in-Ok.ensures.1 c.put.ensures.ok c.put.ensures.only

pub returns-in-Err : goal.returns-in-Err
returns-in-Err c = takes_stop (bool_value) c.args.self.now c.args.rest.now.now c.flag_at.new.rest.now c.in-Err.stop (grows_mapped val.Bool (one flag_of Byte) (grows_one flag_of Byte)) (stops_mapped val.Bool (one flag_of Byte) c.args.rest.now.now c.flag_at.new.rest.now c.in-Err.stop c.in-Err.ensures)
