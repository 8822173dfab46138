-- The shapes, and what follows them.
use Rattle.std.proofs.Common.{refl, sym, subst, ap, rules, Err, IfSome}
use Rattle.bp_value.specs.Form.{form_of}
use Rattle.bp_value.specs.Faults.{IsGood}
use Rattle.rpc_schema.specs.Entries.{IsEntry, Suits}
use Rattle.rpc_schema.specs.LineParts.{Next, Known}
use Rattle.rpc_schema.specs.LineAnswers.{TakesOne}
use Rattle.rpc_schema.specs.SchemaLines.{AreShapes, ShapesRefused, IsTail, TailRefused, desc_of, entry_of}
use Rattle.rpc_schema.proofs.GoodLines.{shapes_good, entry_good}
use Rattle.rpc_schema.proofs.PartLaws.{second_stops}
use Rattle.rpc_schema.proofs.reading.described.Goals as goal

pub tail-requires : goal.tail-requires
tail-requires c =
    subst (λ d. IsGood (form_of d.first)) (sym c.desc_of-desc.ensures)
    (shapes_good c.args.head.kind c.in_ok-shapes.shapes c.args.line.now c.take_shapes.new.line c.in_ok-shapes.ensures).first

pub returns-in_err-behaviour-clause-takes : goal.returns-in_err-behaviour-clause-takes
returns-in_err-behaviour-clause-takes c =
    second_stops (AreShapes c.args.head.kind) (ShapesRefused c.args.head.kind)
    (λ shapes. Next (IsTail (desc_of c.args.head shapes)) (λ behaviour. Known (entry_of c.args.number c.args.head shapes behaviour)))
    (λ shapes. TailRefused (desc_of c.args.head shapes)) (IsTail (desc_of c.args.head c.in_ok-shapes.shapes)) c.in_ok-shapes.shapes
    c.args.line.now c.take_shapes.new.line c.tail.new.line c.in_err-behaviour.field-0.0 c.from_residual-in_err-behaviour.result (search rules)
    c.in_ok-shapes.ensures
    (subst (λ d. TakesOne (IsTail d) (TailRefused d) c.take_shapes.new.line c.tail.new.line (Err c.in_err-behaviour.field-0.0)) c.desc_of-desc.ensures
    c.in_err-behaviour.ensures.takes)

pub returns-clause-takes : goal.returns-clause-takes
returns-clause-takes c = (
  c.in_ok-shapes.shapes,
  c.take_shapes.new.line,
  c.in_ok-shapes.ensures,
  (
    c.in_ok-behaviour.behaviour,
    c.tail.new.line,
    subst (λ d. IsTail d c.in_ok-behaviour.behaviour c.take_shapes.new.line c.tail.new.line) c.desc_of-desc.ensures c.in_ok-behaviour.ensures.takes,
    (ap (λ d. record { desc = d; side = c.args.head.side; behaviour = c.in_ok-behaviour.behaviour; line = c.args.number }) c.desc_of-desc.ensures, refl),
  ),
)

pub returns-clause-good : goal.returns-clause-good
returns-clause-good c =
    subst (λ d. IsEntry (record { desc = d; side = c.args.head.side; behaviour = c.in_ok-behaviour.behaviour; line = c.args.number })) (sym c.desc_of-desc.ensures)
    (entry_good c.args.number c.args.head c.in_ok-shapes.shapes c.in_ok-behaviour.behaviour (record { name = c.requires.name; version = c.requires.version })
    (shapes_good c.args.head.kind c.in_ok-shapes.shapes c.args.line.now c.take_shapes.new.line c.in_ok-shapes.ensures)
    (subst (λ d. IfSome c.in_ok-behaviour.behaviour (Suits d)) c.desc_of-desc.ensures c.in_ok-behaviour.ensures.suits))
