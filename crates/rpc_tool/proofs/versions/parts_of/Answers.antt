-- The parts are what `split` gives, as one list.
use Rattle.std.proofs.Common.{rules, nat_eq}
use Rattle.std.proofs.lemmas.Iterator.Consumers.{map_from_collect}
use Rattle.std.proofs.lemmas.Iterator.Splits.{YieldsList-from_slice_split}
use Rattle.rpc_tool.proofs.versions.parts_of.Goals as goal

pub returns : goal.returns
returns c =
    map_from_collect _ c.collect.ensures.ran
    (YieldsList-from_slice_split _ (λ byte. nat_eq byte c.args.separator) c.args.word.now
    c.split.ensures.rest c.split.ensures.done c.split.ensures.closure (search rules))
