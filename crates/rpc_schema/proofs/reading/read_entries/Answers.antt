-- One line more, and the first one at fault.
use Rattle.std.proofs.Common.{◌≡◌, sym, subst, Err, IfErr, rules}
use Rattle.rpc_schema.specs.TextLines.{lines_kept}
use Rattle.rpc_schema.specs.SchemaTexts.{RefusesLines}
use Rattle.rpc_schema.specs.Reading.{slices}
use Rattle.rpc_schema.proofs.ReadingSteps.{lines_more, each_more, line_refused}
use Rattle.rpc_schema.proofs.reading.read_entries.Goals as goal

pub returns-in_err-read_line-clause-refused : goal.returns-in_err-read_line-clause-refused
returns-in_err-read_line-clause-refused c =
    let is : c.from_residual.result ≡ Err c.in_err-read_line.field-0.0 = search rules in
    subst (λ r. IfErr r (RefusesLines (lines_kept 1 (slices c.args.lines.now)))) (sym is)
    (line_refused c.args.lines.now c.loop-index.index _ c.loop-index.entries.items c.in_err-read_line.field-0.0
    c.loop-index-test.true c.loop-index.invariant.lines c.in_err-read_line.ensures.refused)

pub loop-index-preserved : goal.loop-index-preserved
loop-index-preserved c = record {
  marks = c.in_ok-read_line.ensures.marks;
  lines = lines_more c.args.lines.now c.loop-index.index _ c.loop-index.entries.items c.read_line.new.entries.items
      c.loop-index-test.true c.in_ok-read_line.ensures.added c.loop-index.invariant.lines;
  each = each_more c.args.lines.now c.loop-index.index _ c.loop-index.entries.items c.read_line.new.entries.items
      c.in_ok-read_line.ensures.added c.loop-index.invariant.each;
}
