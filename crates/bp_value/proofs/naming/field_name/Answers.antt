-- The name that stands there.
use Rattle.std.proofs.Common.{refl, sym, ap, ◌∙◌, Some}
use Rattle.std.specs.Option.{option_map}
use Rattle.std.proofs.lemmas.Option.{slice_get-map, slice_get_read}
use Rattle.bp_value.proofs.naming.field_name.Goals as goal

pub returns : goal.returns
returns c =
    slice_get-map (λ x. x.name) c.args.fields.now c.args.place
    ∙ ap (option_map (λ x. x.name))
    (slice_get_read c.args.fields.now _ c.args.place c.index-fields-place.result refl c.requires
    c.index-fields-place.is)
    ∙ ap (λ x. Some x.name) c.index-fields-place.is ∙ ap Some (sym c.as_slice.ensures)
