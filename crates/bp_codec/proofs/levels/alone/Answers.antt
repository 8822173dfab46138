use Rattle.std.proofs.Common.{◌≡◌, sym, ap, ◌∙◌, ◌++◌, ◌∷◌, []}
use Rattle.bp_codec.specs.Levels.{last_of}
use Rattle.bp_codec.proofs.Values.{last_of-append}
use Rattle.bp_codec.proofs.levels.alone.Goals as goal

pub returns-in-Some : goal.returns-in-Some
returns-in-Some c =
    let items : c.args.values.items ≡ c.pop.new.self.items ++ c.in-Some.value ∷ [] = rw c.in-Some.is at c.pop.ensures.items in
    sym (ap last_of items ∙ last_of-append c.pop.new.self.items c.in-Some.value)
