use Rattle.std.proofs.Common.{arith}
use Rattle.bp_num.specs.NumberAt.{int_at}
use Rattle.bp_num.specs.declared.number.IntKind.TheVariants.{Int63}
use Rattle.bp_num.specs.declared.number.Why.TheVariants.{Case}
use Rattle.readers.specs.Reader.{one}
use Rattle.bp_codec.proofs.Ranges.{number_back}
use Rattle.bp_grammar.specs.Spells.{place_of}
use Rattle.bp_grammar.specs.Reading.{read}
use Rattle.rpc_msg.specs.Forms.{error_form}
use Rattle.rpc_msg.specs.Values.{error_value}
use Rattle.rpc_msg.proofs.Directs.{error_reads, error_case}
use Rattle.rpc_msg.proofs.Halting.{gives, at_case, place_below, head_stops, last_head_stops, last_part_stops}
use Rattle.rpc_msg.proofs.errors.error_at.Goals as goal

pub returns-in_err-place_at : goal.returns-in_err-place_at
returns-in_err-place_at c =
    let m = c.args.max_len in
    let s = c.args.rest.now.now in
    head_stops error_value (read m error_form) s (one (place_of 6) Case) s c.place_at.new.rest.now c.from_residual.result c.in_err-place_at.field-0.0
    _ (error_reads m s) c.from_residual.ensures.1 c.in_err-place_at.ensures

pub returns-in_err-sexp_at-in-0 : goal.returns-in_err-sexp_at-in-0
returns-in_err-sexp_at-in-0 c =
    let m = c.args.max_len in
    let s = c.args.rest.now.now in
    let sexp = at_case (error_case m) _ 0 (error_reads m s) c.in_ok-place_at.ensures.0 c.in-0.is in
    last_part_stops error_value (read m error_form) s _ c.sexp_at.new.rest.now c.from_residual-in_err-sexp_at-in-0.result
    c.in_err-sexp_at-in-0.field-0.0 _ sexp c.from_residual-in_err-sexp_at-in-0.ensures.1 c.in_err-sexp_at-in-0.ensures

pub returns-in_ok-sexp_at-in-0 : goal.returns-in_ok-sexp_at-in-0
returns-in_ok-sexp_at-in-0 c =
    let m = c.args.max_len in
    let s = c.args.rest.now.now in
    gives _ _ (at_case (error_case m) _ 0 (error_reads m s) c.in_ok-place_at.ensures.0 c.in-0.is) c.in_ok-sexp_at-in-0.ensures

pub returns-in_err-sexp_at-in-2 : goal.returns-in_err-sexp_at-in-2
returns-in_err-sexp_at-in-2 c =
    let m = c.args.max_len in
    let s = c.args.rest.now.now in
    let sexp = at_case (error_case m) _ 2 (error_reads m s) c.in_ok-place_at.ensures.0 c.in-2.is in
    last_part_stops error_value (read m error_form) s _ c.sexp_at-in-2.new.rest.now c.from_residual-in_err-sexp_at-in-2.result
    c.in_err-sexp_at-in-2.field-0.0 _ sexp c.from_residual-in_err-sexp_at-in-2.ensures.1 c.in_err-sexp_at-in-2.ensures

pub returns-in_ok-sexp_at-in-2 : goal.returns-in_ok-sexp_at-in-2
returns-in_ok-sexp_at-in-2 c =
    let m = c.args.max_len in
    let s = c.args.rest.now.now in
    gives _ _ (at_case (error_case m) _ 2 (error_reads m s) c.in_ok-place_at.ensures.0 c.in-2.is) c.in_ok-sexp_at-in-2.ensures

pub returns-in_err-sexp_at-in-3 : goal.returns-in_err-sexp_at-in-3
returns-in_err-sexp_at-in-3 c =
    let m = c.args.max_len in
    let s = c.args.rest.now.now in
    let sexp = at_case (error_case m) _ 3 (error_reads m s) c.in_ok-place_at.ensures.0 c.in-3.is in
    last_part_stops error_value (read m error_form) s _ c.sexp_at-in-3.new.rest.now c.from_residual-in_err-sexp_at-in-3.result
    c.in_err-sexp_at-in-3.field-0.0 _ sexp c.from_residual-in_err-sexp_at-in-3.ensures.1 c.in_err-sexp_at-in-3.ensures

pub returns-in_ok-sexp_at-in-3 : goal.returns-in_ok-sexp_at-in-3
returns-in_ok-sexp_at-in-3 c =
    let m = c.args.max_len in
    let s = c.args.rest.now.now in
    gives _ _ (at_case (error_case m) _ 3 (error_reads m s) c.in_ok-place_at.ensures.0 c.in-3.is) c.in_ok-sexp_at-in-3.ensures

pub returns-in-1 : goal.returns-in-1
returns-in-1 c = at_case (error_case c.args.max_len) _ 1 (error_reads c.args.max_len c.args.rest.now.now) c.in_ok-place_at.ensures.0 c.in-1.is

pub returns-in_err-tag-in-4 : goal.returns-in_err-tag-in-4
returns-in_err-tag-in-4 c =
    let m = c.args.max_len in
    let s = c.args.rest.now.now in
    let pair = at_case (error_case m) _ 4 (error_reads m s) c.in_ok-place_at.ensures.0 c.in-4.is in
    last_part_stops error_value (read m error_form) s _ c.unimplemented_at.new.rest.now c.from_residual-in_err-tag-in-4.result
    c.in_err-tag-in-4.field-0.0 _ pair c.from_residual-in_err-tag-in-4.ensures.1 c.in_err-tag-in-4.ensures.takes

pub returns-in_ok-tag-in-4 : goal.returns-in_ok-tag-in-4
returns-in_ok-tag-in-4 c =
    let m = c.args.max_len in
    let pair = at_case (error_case m) _ 4 (error_reads m c.args.rest.now.now) c.in_ok-place_at.ensures.0 c.in-4.is in
    rw (number_back _ c.in_ok-tag-in-4.ensures.fits) (gives _ _ pair c.in_ok-tag-in-4.ensures.takes)

pub returns-in_err-number_at-in_default : goal.returns-in_err-number_at-in_default
returns-in_err-number_at-in_default c =
    let m = c.args.max_len in
    let s = c.args.rest.now.now in
    let below = place_below 6 Case s _ c.in_ok-place_at.field-0 c.in_ok-place_at.ensures.0 in
    let id = at_case (error_case m) _ 5 (error_reads m s) c.in_ok-place_at.ensures.0 (omega (arith, below)) in
    last_head_stops error_value (read m error_form) s (int_at Int63) c.place_at.new.rest.now c.number_at.new.rest.now c.from_residual-in_err-number_at-in_default.result
    c.in_err-number_at-in_default.field-0.0 _ id c.from_residual-in_err-number_at-in_default.ensures.1 c.in_err-number_at-in_default.ensures.gives

pub returns-in_ok-number_at-in_default : goal.returns-in_ok-number_at-in_default
returns-in_ok-number_at-in_default c =
    let m = c.args.max_len in
    let s = c.args.rest.now.now in
    let below = place_below 6 Case s _ c.in_ok-place_at.field-0 c.in_ok-place_at.ensures.0 in
    let id = at_case (error_case m) _ 5 (error_reads m s) c.in_ok-place_at.ensures.0 (omega (arith, below)) in
    rw (number_back _ c.in_ok-number_at-in_default.ensures.fits) (gives _ _ id c.in_ok-number_at-in_default.ensures.gives.0)
