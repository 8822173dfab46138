use Rattle.std.proofs.Common.{ap, ◌∙◌}
use Rattle.bp_codec.specs.Levels.{advanced}
use Rattle.bp_codec.specs.declared.levels.Level.{Level}
use Rattle.bp_codec.proofs.open.Open.begin.Goals as goal

pub returns-clause-ok : goal.returns-clause-ok
returns-clause-ok c = record {
  left = ap (λ (l : Level). l.left) c.replace-outer.ensures.after;
  makes = ap (λ (l : Level). l.makes) c.replace-outer.ensures.after;
  values = ap (λ (l : Level). l.values.items) c.replace-outer.ensures.after ∙ c.in_ok-with_capacity.ensures.items;
  outer = record c.replace-outer.result { left = c.after_next-outer.result };
  stack = c.in_ok-push.ensures.items;
  outer_left = c.after_next-outer.ensures ∙ ap (λ (l : Level). advanced l.left) c.replace-outer.ensures.value;
  outer_makes = ap (λ (l : Level). l.makes) c.replace-outer.ensures.value;
  outer_values = ap (λ (l : Level). l.values.items) c.replace-outer.ensures.value;
}
