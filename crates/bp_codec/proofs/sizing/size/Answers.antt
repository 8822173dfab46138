-- A checked shape has byte places.
use Rattle.bp_codec.proofs.BytePlaces.{good_places}
use Rattle.bp_codec.proofs.sizing.size.Goals as goal

pub after_value-requires : goal.after_value-requires
after_value-requires c =
    record { places = good_places _ c.requires.good; limit = c.requires.fits.0; low = c.requires.fits.1; fits = c.requires.fits.2 }
