-- A checked shape has byte places; what is written is the shortest spelling whatever the answer is.
use Rattle.std.proofs.Common.{arith}
use Rattle.bp_grammar.proofs.Written.{written_spells, written_shortest}
use Rattle.bp_codec.proofs.BytePlaces.{good_places}
use Rattle.bp_codec.proofs.encoding.encode.Goals as goal

pub put_value-requires : goal.put_value-requires
put_value-requires c =
    record { places = good_places _ c.requires.good; limit = c.requires.fits.0; low = c.requires.fits.1; fits = c.requires.fits.2 }

pub returns-in-Ok-clause-spelled : goal.returns-in-Ok-clause-spelled
returns-in-Ok-clause-spelled c = λ m low fits. written_spells m _ _ (omega arith) fits

pub returns-in-Ok-clause-shortest : goal.returns-in-Ok-clause-shortest
returns-in-Ok-clause-shortest c = λ m s spells. written_shortest m _ _ s spells

pub returns-in-Err-clause-spelled : goal.returns-in-Err-clause-spelled
returns-in-Err-clause-spelled c = λ m low fits. written_spells m _ _ (omega arith) fits

pub returns-in-Err-clause-shortest : goal.returns-in-Err-clause-shortest
returns-in-Err-clause-shortest c = λ m s spells. written_shortest m _ _ s spells
