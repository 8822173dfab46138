use Rattle.bp_codec.proofs.Ranges.{number_back}
use Rattle.std.proofs.Common.{w64, to_z, of_z, refl, sym, ap, ◌∙◌}
use Rattle.readers.specs.Reader.{whole, mapped}
use Rattle.readers.proofs.Growing.{grows_mapped}
use Rattle.bp_num.specs.NumberAt.{int_at}
use Rattle.bp_num.proofs.Growth.{grows_int}
use Rattle.bp_codec.specs.Leaves.{number_value}
use Rattle.bp_value.specs.declared.value.Value.TheVariants as val
use Rattle.bp_codec.proofs.LevelSteps.{takes_put, takes_stop, stops_mapped, takes_items}
use Rattle.bp_codec.proofs.levels.Level.take_numbers.Goals as goal

pub returns-in-Ok : goal.returns-in-Ok
returns-in-Ok c =
    takes_put (number_value c.args.kind) c.args.self.now c.put.new.self c.args.rest.now.now c.number_at.new.rest.now (val.Num (to_z w64 (of_z w64 c.in-Ok.number))) c.put.result (grows_mapped val.Num (int_at c.args.kind) (grows_int c.args.kind))
    (ap (λ o. mapped val.Num o) c.in-Ok.ensures.gives.0 ∙ ap (λ z. whole (val.Num z) c.number_at.new.rest.now) (sym (number_back c.in-Ok.number c.in-Ok.ensures.fits))) c.in-Ok.ensures.gives.1 c.put.ensures.ok c.put.ensures.only

pub returns-in-Err : goal.returns-in-Err
returns-in-Err c = takes_stop (number_value c.args.kind) c.args.self.now c.args.rest.now.now c.number_at.new.rest.now c.in-Err.stop (grows_mapped val.Num (int_at c.args.kind) (grows_int c.args.kind)) (stops_mapped val.Num (int_at c.args.kind) c.args.rest.now.now c.number_at.new.rest.now c.in-Err.stop c.in-Err.ensures.gives)

pub returns-in-Items : goal.returns-in-Items
returns-in-Items c =
    takes_items (number_value c.args.kind) c.args.self.now _ c.in-Items.node _ c.numbers-result.new.count c.args.rest.now.now c.numbers-result.new.rest.now c.numbers-result.result
    c.in-Items.is refl refl c.numbers-result.ensures.keeps c.numbers-result.ensures.taken
