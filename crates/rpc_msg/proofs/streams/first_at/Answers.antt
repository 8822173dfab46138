use Rattle.std.proofs.Common.{arith}
use Rattle.bp_num.specs.NumberAt.{int_at}
use Rattle.bp_num.specs.declared.number.IntKind.TheVariants.{Int63}
use Rattle.bp_num.specs.declared.number.Why.TheVariants.{Case}
use Rattle.readers.specs.Reader.{one}
use Rattle.bp_codec.proofs.Ranges.{number_back}
use Rattle.bp_value.specs.Form.{form_of}
use Rattle.bp_grammar.specs.Spells.{place_of}
use Rattle.bp_grammar.specs.Reading.{read}
use Rattle.rpc_msg.specs.Forms.{first_form}
use Rattle.rpc_msg.specs.Values.{unused_first}
use Rattle.rpc_msg.proofs.Directs.{first_reads, first_case}
use Rattle.rpc_msg.proofs.Halting.{goes, gives, at_case, place_below, head_stops, last_part_stops}
use Rattle.rpc_msg.proofs.streams.first_at.Goals as goal

pub returns-in_err-unused : goal.returns-in_err-unused
returns-in_err-unused c =
    let m = c.args.max_len in
    let s = c.args.rest.now.now in
    let f = form_of c.args.first.now in
    let e = form_of c.args.error.now in
    head_stops unused_first (read m (first_form f e)) s (int_at Int63) s c.number_at.new.rest.now c.from_residual.result c.in_err-unused.field-0.0
    _ (first_reads m f e s) c.from_residual.ensures.1 c.in_err-unused.ensures.gives

pub returns-in_err-place_at : goal.returns-in_err-place_at
returns-in_err-place_at c =
    let m = c.args.max_len in
    let s = c.args.rest.now.now in
    let f = form_of c.args.first.now in
    let e = form_of c.args.error.now in
    let unused = goes _ _ (first_reads m f e s) c.in_ok-unused.ensures.gives.0 in
    head_stops unused_first (read m (first_form f e)) s (one (place_of 2) Case) c.number_at.new.rest.now c.place_at.new.rest.now
    c.from_residual-in_err-place_at.result c.in_err-place_at.field-0.0 _ unused c.from_residual-in_err-place_at.ensures.1 c.in_err-place_at.ensures

pub returns-in_err-value_at-in-0 : goal.returns-in_err-value_at-in-0
returns-in_err-value_at-in-0 c =
    let m = c.args.max_len in
    let s = c.args.rest.now.now in
    let f = form_of c.args.first.now in
    let e = form_of c.args.error.now in
    let unused = goes _ _ (first_reads m f e s) c.in_ok-unused.ensures.gives.0 in
    let begun = at_case (first_case m f e c.in_ok-unused.unused) _ 0 unused c.in_ok-place_at.ensures.0 c.in-0.is in
    last_part_stops unused_first (read m (first_form f e)) s _ c.value_at.new.rest.now c.from_residual-in_err-value_at-in-0.result
    c.in_err-value_at-in-0.field-0.0 _ begun c.from_residual-in_err-value_at-in-0.ensures.1 c.in_err-value_at-in-0.ensures

pub returns-in_err-value_at-in_default : goal.returns-in_err-value_at-in_default
returns-in_err-value_at-in_default c =
    let m = c.args.max_len in
    let s = c.args.rest.now.now in
    let f = form_of c.args.first.now in
    let e = form_of c.args.error.now in
    let unused = goes _ _ (first_reads m f e s) c.in_ok-unused.ensures.gives.0 in
    let below = place_below 2 Case c.number_at.new.rest.now _ c.in_ok-place_at.field-0 c.in_ok-place_at.ensures.0 in
    let declined = at_case (first_case m f e c.in_ok-unused.unused) _ 1 unused c.in_ok-place_at.ensures.0 (omega (arith, below)) in
    last_part_stops unused_first (read m (first_form f e)) s _ c.value_at-in_default.new.rest.now c.from_residual-in_err-value_at-in_default.result
    c.in_err-value_at-in_default.field-0.0 _ declined c.from_residual-in_err-value_at-in_default.ensures.1 c.in_err-value_at-in_default.ensures

pub returns-in_ok-value_at-in-0 : goal.returns-in_ok-value_at-in-0
returns-in_ok-value_at-in-0 c =
    let m = c.args.max_len in
    let s = c.args.rest.now.now in
    let f = form_of c.args.first.now in
    let e = form_of c.args.error.now in
    let unused = goes _ _ (first_reads m f e s) c.in_ok-unused.ensures.gives.0 in
    let begun = at_case (first_case m f e c.in_ok-unused.unused) _ 0 unused c.in_ok-place_at.ensures.0 c.in-0.is in
    rw (number_back c.in_ok-unused.unused c.in_ok-unused.ensures.fits) (gives _ _ begun c.in_ok-value_at-in-0.ensures)

pub returns-in_ok-value_at-in_default : goal.returns-in_ok-value_at-in_default
returns-in_ok-value_at-in_default c =
    let m = c.args.max_len in
    let s = c.args.rest.now.now in
    let f = form_of c.args.first.now in
    let e = form_of c.args.error.now in
    let unused = goes _ _ (first_reads m f e s) c.in_ok-unused.ensures.gives.0 in
    let below = place_below 2 Case c.number_at.new.rest.now _ c.in_ok-place_at.field-0 c.in_ok-place_at.ensures.0 in
    let declined = at_case (first_case m f e c.in_ok-unused.unused) _ 1 unused c.in_ok-place_at.ensures.0 (omega (arith, below)) in
    rw (number_back c.in_ok-unused.unused c.in_ok-unused.ensures.fits) (gives _ _ declined c.in_ok-value_at-in_default.ensures)
