-- The root's nodes tell of the shape.
use Rattle.bp_value.specs.Faults.{IsGood, FirstFault}
use Rattle.bp_value.proofs.FirstSteps.{tells_good, tells_fault}
use Rattle.bp_value.proofs.shape.Shape.check.Goals as goal

pub returns-clause-good : goal.returns-clause-good
unfolding IsGood
returns-clause-good c = tells_good _ _ c.shape_check.ensures

pub returns-clause-fault : goal.returns-clause-fault
unfolding FirstFault
returns-clause-fault c fault = tells_fault _ _ c.shape_check.ensures fault
