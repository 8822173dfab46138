-- The nodes made so far are the first, and what is left to be made grows less.
use Rattle.std.proofs.Common.{length}
use Rattle.bp_value.specs.Form.{form_of}
use Rattle.bp_codec.specs.Sources.{origins}
use Rattle.bp_codec.proofs.Built.{AreBuilt}
use Rattle.bp_codec.proofs.Sizes.{left_size}
use Rattle.bp_codec.proofs.plan.Plan.new.Given as goal

abbrev pub invariant-loop-source : goal.invariant-loop-source
invariant-loop-source l = AreBuilt (form_of l.shape) (origins l.sources.items) l.nodes.items l.tags.items

abbrev pub decreases-loop-source : goal.decreases-loop-source
decreases-loop-source l = left_size (origins l.sources.items) (length l.nodes.items)
