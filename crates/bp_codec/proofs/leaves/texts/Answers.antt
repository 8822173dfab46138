use Rattle.std.proofs.Common.{sym, ap, ◌∙◌, ◌++◌, ◌∷◌, [], ◌<◌, ◌≤◌, length, arith}
use Rattle.readers.specs.Reader.{mapped}
use Rattle.readers.proofs.Growing.{grows_mapped}
use Rattle.bp_grammar.specs.Reading.{sized_at}
use Rattle.bp_grammar.proofs.Growing.{grows_sized}
use Rattle.bp_codec.specs.Leaves.{text_value}
use Rattle.bp_value.specs.declared.value.Value.TheVariants as val
use Rattle.bp_codec.specs.declared.levels.Left.TheVariants as left
use Rattle.bp_codec.specs.Levels.{fills}
use Rattle.bp_codec.proofs.LevelSteps.{stops_mapped, item_taken, item_stops, keeps_after, cuts_after}
use Rattle.bp_codec.proofs.leaves.texts.Goals as goal

pub returns-in-Err-clause-keeps : goal.returns-in-Err-clause-keeps
returns-in-Err-clause-keeps c = λ m reading node k onward some is.
    let l = c.texts in
    keeps_after (Unit {0}) (fills m reading (left.Items node c.args.count.now) k c.args.values.now.items onward) (fills m reading (left.Items node l.count) k l.values.items onward) (fills m reading (left.Items node l.count) k l.values.items onward)
    c.args.rest.now.now l.rest.now c.text_at.new.rest.now c.in-Err.stop (l.invariant.keeps m reading node k onward some is)
    (item_stops (text_value c.args.max) (grows_mapped val.Text (sized_at c.args.max) (grows_sized c.args.max)) m reading node k onward is l.count l.values.items l.rest.now c.text_at.new.rest.now c.in-Err.stop (l.invariant.some some)
    (stops_mapped val.Text (sized_at c.args.max) l.rest.now c.text_at.new.rest.now c.in-Err.stop c.in-Err.ensures))

pub returns-in-Err-clause-taken : goal.returns-in-Err-clause-taken
returns-in-Err-clause-taken c = cuts_after (sized_at c.args.max) c.args.rest.now.now c.texts.rest.now c.text_at.new.rest.now c.in-Err.stop c.texts.invariant.some_left c.in-Err.ensures

pub returns-then-count-eq0-clause-keeps : goal.returns-then-count-eq0-clause-keeps
returns-then-count-eq0-clause-keeps c = λ m reading node k onward some is x.
    let l = c.texts in
    l.invariant.keeps m reading node k onward some is x
    ∙ (item_taken (text_value c.args.max) (grows_mapped val.Text (sized_at c.args.max) (grows_sized c.args.max)) m reading node k onward is l.count l.values.items l.rest.now c.text_at.new.rest.now (val.Text c.in-Ok.text) (l.invariant.some some)
    (ap (λ o. mapped val.Text o) c.in-Ok.ensures.0) x
    ∙ (ap (λ n. fills m reading (left.Items node n) k (l.values.items ++ val.Text c.in-Ok.text ∷ []) onward (c.text_at.new.rest.now ++ x)) (sym c.saturating_sub.ensures)
    ∙ ap (λ vs. fills m reading (left.Items node c.saturating_sub.result) k vs onward (c.text_at.new.rest.now ++ x)) (sym c.in_ok-push-in-Ok.ensures.items)))

pub texts-preserved : goal.texts-preserved
texts-preserved c = record {
  some = λ some. omega arith;
  keeps = λ m reading node k onward some is x.
      let l = c.texts in
      l.invariant.keeps m reading node k onward some is x
      ∙ (item_taken (text_value c.args.max) (grows_mapped val.Text (sized_at c.args.max) (grows_sized c.args.max)) m reading node k onward is l.count l.values.items l.rest.now c.text_at.new.rest.now (val.Text c.in-Ok.text) (l.invariant.some some)
      (ap (λ o. mapped val.Text o) c.in-Ok.ensures.0) x
      ∙ (ap (λ n. fills m reading (left.Items node n) k (l.values.items ++ val.Text c.in-Ok.text ∷ []) onward (c.text_at.new.rest.now ++ x)) (sym c.saturating_sub.ensures)
      ∙ ap (λ vs. fills m reading (left.Items node c.saturating_sub.result) k vs onward (c.text_at.new.rest.now ++ x)) (sym c.in_ok-push-in-Ok.ensures.items)));
  some_left = let less : length c.text_at.new.rest.now < length c.texts.rest.now = c.in-Ok.ensures.1 in let le : length c.texts.rest.now ≤ length c.args.rest.now.now = c.texts.invariant.some_left.0 in (omega arith, λ e. absurd (omega arith));
}
