use Rattle.std.proofs.Common.{◌≡◌, sym, ap, ◌-◌, ◌∙◌, ◌++◌, ◌∷◌, [], ◌<◌, ◌≤◌, length, arith}
use Rattle.readers.specs.Reader.{mapped}
use Rattle.readers.proofs.Growing.{grows_mapped}
use Rattle.bp_num.specs.NumberAt.{int_at}
use Rattle.bp_num.proofs.Growth.{grows_int}
use Rattle.bp_codec.specs.Leaves.{number_value}
use Rattle.bp_value.specs.declared.value.Value.TheVariants as val
use Rattle.bp_codec.specs.declared.levels.Left.TheVariants as left
use Rattle.bp_codec.specs.Levels.{fills}
use Rattle.bp_codec.proofs.Ranges.{number_back}
use Rattle.bp_codec.proofs.LevelSteps.{stops_mapped, item_taken, item_stops, keeps_after, cuts_after}
use Rattle.bp_codec.proofs.leaves.numbers.Goals as goal

pub returns-in-Err-clause-keeps : goal.returns-in-Err-clause-keeps
returns-in-Err-clause-keeps c = λ m reading node k onward some is.
    let l = c.numbers in
    keeps_after (Unit {0}) (fills m reading (left.Items node c.args.count.now) k c.args.values.now.items onward) (fills m reading (left.Items node l.count) k l.values.items onward) (fills m reading (left.Items node l.count) k l.values.items onward)
    c.args.rest.now.now l.rest.now c.number_at.new.rest.now c.in-Err.stop (l.invariant.keeps m reading node k onward some is)
    (item_stops (number_value c.args.kind) (grows_mapped val.Num (int_at c.args.kind) (grows_int c.args.kind)) m reading node k onward is l.count l.values.items l.rest.now c.number_at.new.rest.now c.in-Err.stop (l.invariant.some some)
    (stops_mapped val.Num (int_at c.args.kind) l.rest.now c.number_at.new.rest.now c.in-Err.stop c.in-Err.ensures.gives))

pub returns-in-Err-clause-taken : goal.returns-in-Err-clause-taken
returns-in-Err-clause-taken c = cuts_after (int_at c.args.kind) c.args.rest.now.now c.numbers.rest.now c.number_at.new.rest.now c.in-Err.stop c.numbers.invariant.some_left c.in-Err.ensures.gives

pub returns-then-count-le1-clause-keeps : goal.returns-then-count-le1-clause-keeps
returns-then-count-le1-clause-keeps c = λ m reading node k onward some is x.
    let l = c.numbers in
    let none : l.count - 1 ≡ 0 = omega arith in
    l.invariant.keeps m reading node k onward some is x
    ∙ (item_taken (number_value c.args.kind) (grows_mapped val.Num (int_at c.args.kind) (grows_int c.args.kind)) m reading node k onward is l.count l.values.items l.rest.now c.number_at.new.rest.now (val.Num c.in-Ok.number) (l.invariant.some some)
    (ap (λ o. mapped val.Num o) c.in-Ok.ensures.gives.0) x
    ∙ (ap (λ n. fills m reading (left.Items node n) k (l.values.items ++ val.Num c.in-Ok.number ∷ []) onward (c.number_at.new.rest.now ++ x)) none
    ∙ ap (λ vs. fills m reading (left.Items node 0) k vs onward (c.number_at.new.rest.now ++ x)) (sym (c.in_ok-push-in-Ok.ensures.items ∙ ap (λ z. l.values.items ++ val.Num z ∷ []) (number_back c.in-Ok.number c.in-Ok.ensures.fits)))))

pub numbers-preserved : goal.numbers-preserved
numbers-preserved c = record {
  some = λ some. omega arith;
  keeps = λ m reading node k onward some is x.
      let l = c.numbers in
      l.invariant.keeps m reading node k onward some is x
      ∙ (item_taken (number_value c.args.kind) (grows_mapped val.Num (int_at c.args.kind) (grows_int c.args.kind)) m reading node k onward is l.count l.values.items l.rest.now c.number_at.new.rest.now (val.Num c.in-Ok.number) (l.invariant.some some)
      (ap (λ o. mapped val.Num o) c.in-Ok.ensures.gives.0) x
      ∙ ap (λ vs. fills m reading (left.Items node (l.count - 1)) k vs onward (c.number_at.new.rest.now ++ x)) (sym (c.in_ok-push-in-Ok.ensures.items ∙ ap (λ z. l.values.items ++ val.Num z ∷ []) (number_back c.in-Ok.number c.in-Ok.ensures.fits))));
  some_left = let less : length c.number_at.new.rest.now < length c.numbers.rest.now = c.in-Ok.ensures.gives.1 in let le : length c.numbers.rest.now ≤ length c.args.rest.now.now = c.numbers.invariant.some_left.0 in (omega arith, λ e. absurd (omega arith));
}
