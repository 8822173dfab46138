use Rattle.std.proofs.Common.{◌<◌, arith}
use Rattle.bp_codec.proofs.Ranges.{number_back}
use Rattle.bp_num.specs.NumberAt.{nat_at}
use Rattle.bp_grammar.specs.Reading.{read}
use Rattle.rpc_msg.specs.Forms.{header_form}
use Rattle.rpc_msg.specs.Values.{header_value}
use Rattle.rpc_msg.proofs.Directs.{header_reads}
use Rattle.rpc_msg.proofs.Halting.{goes, gives, halts_mapped, head_stops}
use Rattle.rpc_msg.proofs.HeaderSteps.{onward_start, onward_go, onward_stop, onward_done}
use Rattle.rpc_msg.proofs.headers.header_at.Goals as goal

pub returns-in_err-count : goal.returns-in_err-count
returns-in_err-count c =
    let m = c.args.max_len in
    let s = c.args.rest.now.now in
    head_stops header_value (read m header_form) s (nat_at m) s c.length_at.new.rest.now c.from_residual.result c.in_err-count.field-0.0
    _ (header_reads m s) c.from_residual.ensures.1 c.in_err-count.ensures

pub versions-init : goal.versions-init
versions-init c = record { within = omega arith; onward = rw c.new-versions.ensures.items (onward_start c.in_ok-count.count c.length_at.new.rest.now) }

pub versions-preserved : goal.versions-preserved
versions-preserved c =
    let below : c.versions.counter < c.in_ok-count.count = omega arith in
    let step =
    onward_go c.versions.versions.items c.in_ok-count.count c.versions.counter c.versions.rest.now c.number_at.new.rest.now c.in-Ok.version _ below
    c.in-Ok.ensures.gives.0 c.versions.invariant.onward in
    record { within = omega arith; onward = rw (c.in_ok-push-in-Ok.ensures.items, number_back c.in-Ok.version c.in-Ok.ensures.fits) step }

pub returns-in-Err : goal.returns-in-Err
returns-in-Err c =
    let m = c.args.max_len in
    let s = c.args.rest.now.now in
    let e = c.in-Err.stop in
    let new = c.number_at.new.rest.now in
    let count = goes _ _ (header_reads m s) c.in_ok-count.ensures.0 in
    let below : c.versions.counter < c.in_ok-count.count = omega arith in
    halts_mapped _ _ e new count
    (onward_stop c.versions.versions.items c.in_ok-count.count c.versions.counter c.versions.rest.now new e _ below c.in-Err.ensures.gives c.versions.invariant.onward)

pub returns : goal.returns
returns c =
    let m = c.args.max_len in
    let s = c.args.rest.now.now in
    let count = goes _ _ (header_reads m s) c.in_ok-count.ensures.0 in
    rw c.from_vec.ensures
    (gives _ _ count (onward_done c.versions.versions.items c.in_ok-count.count c.versions.counter c.versions.rest.now _ (omega arith) c.versions.invariant.onward))
