use Rattle.std.proofs.Common.{[], ◌∷◌, arith}
use Rattle.bp_num.specs.NumberAt.{int_at}
use Rattle.bp_num.specs.declared.number.IntKind.TheVariants.{Int63}
use Rattle.bp_num.specs.declared.number.Why.TheVariants.{Tag}
use Rattle.readers.specs.Keys.{key_at}
use Rattle.bp_codec.proofs.Ranges.{number_back}
use Rattle.bp_codec.specs.Plan.{keys_in}
use Rattle.bp_grammar.specs.Reading.{sized_at, read_parts}
use Rattle.rpc_msg.specs.Forms.{unimplemented_parts}
use Rattle.rpc_msg.specs.Values.{unimplemented_values}
use Rattle.rpc_msg.proofs.Directs.{unimplemented_reads, version_part}
use Rattle.rpc_msg.proofs.Halting.{goes, gives, at_case, key_below, head_stops, last_head_stops}
use Rattle.rpc_msg.proofs.errors.unimplemented_at.Goals as goal

pub returns-in_err-tag-clause-takes : goal.returns-in_err-tag-clause-takes
returns-in_err-tag-clause-takes c =
    let m = c.args.max_len in
    let s = c.args.rest.now.now in
    head_stops unimplemented_values (read_parts m unimplemented_parts) s (sized_at m) s c.text_at.new.rest.now c.from_residual.result c.in_err-tag.field-0.0
    _ (unimplemented_reads m s) c.from_residual.ensures.1 c.in_err-tag.ensures

pub returns-in_err-tag_at-clause-takes : goal.returns-in_err-tag_at-clause-takes
returns-in_err-tag_at-clause-takes c =
    let m = c.args.max_len in
    let s = c.args.rest.now.now in
    let tag = goes _ _ (unimplemented_reads m s) c.in_ok-tag.ensures.0 in
    head_stops unimplemented_values (read_parts m unimplemented_parts) s (key_at Tag 4 (keys_in 0 (0x94861DF1 ∷ []))) c.text_at.new.rest.now c.tag_at.new.rest.now
    c.from_residual-in_err-tag_at.result c.in_err-tag_at.field-0.0 _ tag c.from_residual-in_err-tag_at.ensures.1 c.in_err-tag_at.ensures

pub returns-in_err-version-clause-takes : goal.returns-in_err-version-clause-takes
returns-in_err-version-clause-takes c =
    let m = c.args.max_len in
    let s = c.args.rest.now.now in
    let tag = goes _ _ (unimplemented_reads m s) c.in_ok-tag.ensures.0 in
    let below = key_below 1 4 Tag (keys_in 0 (0x94861DF1 ∷ [])) c.text_at.new.rest.now _ c.in_ok-tag_at.field-0 (omega arith, tt) c.in_ok-tag_at.ensures.0 in
    let version = at_case (version_part c.in_ok-tag.tag) _ 0 tag c.in_ok-tag_at.ensures.0 (omega (arith, below)) in
    last_head_stops unimplemented_values (read_parts m unimplemented_parts) s (int_at Int63) c.tag_at.new.rest.now c.number_at.new.rest.now
    c.from_residual-in_err-version.result c.in_err-version.field-0.0 _ version c.from_residual-in_err-version.ensures.1 c.in_err-version.ensures.gives

pub returns-clause-takes : goal.returns-clause-takes
returns-clause-takes c =
    let m = c.args.max_len in
    let s = c.args.rest.now.now in
    let tag = goes _ _ (unimplemented_reads m s) c.in_ok-tag.ensures.0 in
    let below = key_below 1 4 Tag (keys_in 0 (0x94861DF1 ∷ [])) c.text_at.new.rest.now _ c.in_ok-tag_at.field-0 (omega arith, tt) c.in_ok-tag_at.ensures.0 in
    let version = at_case (version_part c.in_ok-tag.tag) _ 0 tag c.in_ok-tag_at.ensures.0 (omega (arith, below)) in
    rw (number_back c.in_ok-version.version c.in_ok-version.ensures.fits) (gives _ _ version c.in_ok-version.ensures.gives.0)
