-- The place that `position` gives is that of the first mark.
use Rattle.std.proofs.Common.{sym, subst, ap, ◌∙◌, take, drop, rules, tests, MatchOption}
use Rattle.std.proofs.lemmas.Iterator.{YieldsList-from_slice, IsFirst-from_position}
use Rattle.rpc_schema.specs.Reading.{slices}
use Rattle.rpc_schedule.specs.Schedules.{NoMark, IsCut}
use Rattle.rpc_schedule.proofs.Cuts.{IsMark, IsNoMark, none_marked, marked_cut}
use Rattle.rpc_schedule.proofs.reading.cut_at_mark.Goals as goal

pub returns-in_err-place : goal.returns-in_err-place
returns-in_err-place c =
    let marked = IsFirst-from_position _ _ c.position.result IsMark IsNoMark c.position.ensures.ran (YieldsList-from_slice _ c.iter.ensures.rest)
    (λ x q k. search (rules, tests)) (λ x q k. search (rules, tests)) in
    subst (λ r. MatchOption r (NoMark (slices c.args.lines.now)) (λ cut. IsCut (slices c.args.lines.now) (slices cut.0.now) (slices cut.1.now)))
    (sym c.from_residual.ensures) (none_marked c.args.lines.now c.position.result marked c.in_err-place.was)

pub returns : goal.returns
returns c =
    let marked = IsFirst-from_position _ _ c.position.result IsMark IsNoMark c.position.ensures.ran (YieldsList-from_slice _ c.iter.ensures.rest)
    (λ x q k. search (rules, tests)) (λ x q k. search (rules, tests)) in
    subst (λ heads. IsCut (slices c.args.lines.now) (slices heads) (slices c.split_at-2.result.1.now)) (sym c.split_at.ensures.front)
    (subst (λ behind. IsCut (slices c.args.lines.now) (slices (take c.in_ok-place.place c.args.lines.now)) (slices behind))
    (sym (c.split_at-2.ensures.back ∙ ap (drop 1) c.split_at.ensures.back))
    (marked_cut c.args.lines.now c.position.result c.in_ok-place.place marked c.in_ok-place.was))
