-- The names that a record or a variant gives, in order.
use Rattle.std.specs.Prelude.{ℕ, List, map}
use Rattle.bp_value.specs.declared.naming.Names.{Names}
use Rattle.bp_value.specs.declared.naming.Names.TheVariants.{Fields, Cases, Poly}

abbrev pub names_of : Names → List (List ℕ)
names_of (Fields fs) = map (λ f. f.name) fs.now
names_of (Cases cs) = map (λ c. c.name) cs.now
names_of (Poly cs) = map (λ c. c.name) cs.now
