use Rattle.std.proofs.Common.{refl, ap}
use Rattle.readers.specs.Reader.{mapped}
use Rattle.readers.proofs.Growing.{grows_mapped}
use Rattle.bp_grammar.specs.Reading.{sized_at}
use Rattle.bp_grammar.proofs.Growing.{grows_sized}
use Rattle.bp_codec.specs.Leaves.{text_value}
use Rattle.bp_value.specs.declared.value.Value.TheVariants as val
use Rattle.bp_codec.proofs.LevelSteps.{takes_put, takes_stop, stops_mapped, takes_items}
use Rattle.bp_codec.proofs.levels.Level.take_texts.Goals as goal

pub returns-in-Ok : goal.returns-in-Ok
returns-in-Ok c =
    takes_put (text_value c.args.max) c.args.self.now c.put.new.self c.args.rest.now.now c.text_at.new.rest.now (val.Text c.in-Ok.text) c.put.result (grows_mapped val.Text (sized_at c.args.max) (grows_sized c.args.max))
    (ap (λ o. mapped val.Text o) c.in-Ok.ensures.0) c.in-Ok.ensures.1 c.put.ensures.ok c.put.ensures.only

pub returns-in-Err : goal.returns-in-Err
returns-in-Err c = takes_stop (text_value c.args.max) c.args.self.now c.args.rest.now.now c.text_at.new.rest.now c.in-Err.stop (grows_mapped val.Text (sized_at c.args.max) (grows_sized c.args.max)) (stops_mapped val.Text (sized_at c.args.max) c.args.rest.now.now c.text_at.new.rest.now c.in-Err.stop c.in-Err.ensures)

pub returns-in-Items : goal.returns-in-Items
returns-in-Items c =
    takes_items (text_value c.args.max) c.args.self.now _ c.in-Items.node _ c.texts-result.new.count c.args.rest.now.now c.texts-result.new.rest.now c.texts-result.result
    c.in-Items.is refl refl c.texts-result.ensures.keeps c.texts-result.ensures.taken
