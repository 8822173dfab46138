-- The name that stands there.
use Rattle.std.proofs.Common.{refl, sym, ap, ◌∙◌, Some}
use Rattle.std.specs.Option.{option_map}
use Rattle.std.proofs.lemmas.Option.{slice_get-map, slice_get_read}
use Rattle.bp_value.proofs.naming.case_name.Goals as goal

pub returns : goal.returns
returns c =
    slice_get-map (λ x. x.name) c.args.cases.now c.args.place
    ∙ ap (option_map (λ x. x.name))
    (slice_get_read c.args.cases.now _ c.args.place c.index-cases-place.result refl c.requires
    c.index-cases-place.is)
    ∙ ap (λ x. Some x.name) c.index-cases-place.is ∙ ap Some (sym c.as_slice.ensures)
