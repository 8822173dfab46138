-- The parts of the schedule are put together.
use Rattle.std.proofs.Common.{◌≡◌, sym, ap, ◌∙◌, subst, List}
use Rattle.rpc_schema.specs.declared.desc.Entry.{Entry}
use Rattle.rpc_schema.specs.SchemaTexts.{AreEntryLines}
use Rattle.rpc_schema.specs.TextLines.{lines_kept}
use Rattle.rpc_schedule.specs.declared.event.Lined.{Lined}
use Rattle.rpc_schedule.specs.Schedules.{AreGoodEvents}
use Rattle.rpc_pair.specs.Generated.{generated_events, generated_lines, with_lines}
use Rattle.rpc_pair.proofs.GeneratedSchema.{generated_schema}
use Rattle.rpc_pair.proofs.GoodRounds.{generated_good}
use Rattle.rpc_pair.proofs.WholeSchedules.{whole_events, whole_schedule}
use Rattle.rpc_pair.proofs.generating.generate.Goals as goal
use Rattle.rpc_pair.proofs.generating.generate.Goals.{After-into_listed}

lined_are : (c : After-into_listed) → c.into_listed.result ≡ with_lines (generated_events c.args.n)
lined_are c =
    c.into_listed.ensures
    ∙ ap with_lines (whole_events c.args.n c.new-events.result c.add_moves.new.self c.add_rounds.new.self c.add_moves-2.new.self
    c.new-events.ensures c.in_ok-add_moves.ensures c.in_ok-add_rounds.ensures c.in_ok-add_moves-2.ensures)

pub returns-clause-made : goal.returns-clause-made
returns-clause-made c = whole_schedule c.args.n c.in_ok-schema.schema c.into_listed.result c.in_ok-schema.ensures (lined_are c)

pub returns-clause-spelled : goal.returns-clause-spelled
returns-clause-spelled c =
    subst (λ (es : List Entry). AreEntryLines es (lines_kept 1 generated_lines)) (sym c.in_ok-schema.ensures) generated_schema

pub returns-clause-formed : goal.returns-clause-formed
returns-clause-formed c = subst (λ (ls : List Lined). AreGoodEvents ls) (sym (lined_are c)) (generated_good c.args.n)
