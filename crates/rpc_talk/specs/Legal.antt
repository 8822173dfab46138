-- Which acts one query takes, in which order.
use Rattle.std.specs.Prelude.{◌≡◌, List, [], ◌∷◌}
use Rattle.rpc_schema.specs.declared.desc.Kind.{Kind}
use Rattle.rpc_schema.specs.declared.desc.Kind.TheVariants.{Plain, OneWay, Pipe, State}
use Rattle.rpc_talk.specs.Acts.{Act, Reply, Fail, Begin, Decline, Give, End, Stop}

-- one reply, or one failure
abbrev pub ArePlain : List Act → Type 0
ArePlain [] = Unit {0}
ArePlain (Reply v ∷ later) = later ≡ []
ArePlain (Fail text ∷ later) = later ≡ []
ArePlain (Begin v ∷ later) = ⊥
ArePlain (Decline v ∷ later) = ⊥
ArePlain (Give v ∷ later) = ⊥
ArePlain (End ∷ later) = ⊥
ArePlain (Stop ∷ later) = ⊥

-- of a stream that has begun: items, and then one end, stop or failure
abbrev pub AreLater : List Act → Type 0
AreLater [] = Unit {0}
AreLater (Give v ∷ later) = AreLater later
AreLater (End ∷ later) = later ≡ []
AreLater (Stop ∷ later) = later ≡ []
AreLater (Fail text ∷ later) = later ≡ []
AreLater (Reply v ∷ later) = ⊥
AreLater (Begin v ∷ later) = ⊥
AreLater (Decline v ∷ later) = ⊥

-- a beginning with what follows it, one refusal, or one failure
abbrev pub AreStream : List Act → Type 0
AreStream [] = Unit {0}
AreStream (Begin v ∷ later) = AreLater later
AreStream (Decline v ∷ later) = later ≡ []
AreStream (Fail text ∷ later) = later ≡ []
AreStream (Reply v ∷ later) = ⊥
AreStream (Give v ∷ later) = ⊥
AreStream (End ∷ later) = ⊥
AreStream (Stop ∷ later) = ⊥

-- the acts of a query so far
abbrev pub AreLegal : Kind → List Act → Type 0
AreLegal Plain acts = ArePlain acts
AreLegal OneWay acts = acts ≡ []
AreLegal Pipe acts = AreStream acts
AreLegal State acts = AreStream acts
