-- Number by number.
use Rattle.std.proofs.Common.{w64, rules}
use mir.Val.{SFits}
use Rattle.std.proofs.lemmas.Int.{to_z-of_z}
use Rattle.bp_value.specs.declared.value.Value.{Value, out-Value}
use Rattle.bp_value.specs.declared.value.Value.TheVariants as val
use Rattle.bp_value.specs.Fits.{IsMade, Anything}
use Rattle.bp_grammar.specs.Written.{number_bytes}
use Rattle.bp_codec.proofs.WrittenLayers.{rest_next, rest_done, number_is}
use Rattle.bp_codec.proofs.Putting.{leads_from, leads_next, leads_failed, leads_done}
use Rattle.bp_codec.proofs.Writable.{item_at}
use Rattle.bp_codec.proofs.encoding.put_numbers.Goals as goal

pub loop-value-init : goal.loop-value-init
loop-value-init c = leads_from _ _ _

pub number_in-requires : goal.number_in-requires
number_in-requires c = item_at (IsMade val.Num Anything) _ _ _ c.loop-value-test.true c.value-item.is c.requires

pub loop-value-preserved : goal.loop-value-preserved
loop-value-preserved c =
    let w = λ (v : Value). number_bytes (out-Value v) in
    let fits : SFits w64 c.number_in.result = search rules in
    leads_next _ _ _ _ _ c.loop-value.invariant _ _ _ (rest_next w _ _ _ _ c.loop-value-test.true c.value-item.is (number_is _ _ c.number_in.ensures))
    (rw (to_z-of_z w64 c.number_in.result fits) at c.in_ok-put_int.ensures)

pub returns-in_err-put_int : goal.returns-in_err-put_int
returns-in_err-put_int c =
    let w = λ (v : Value). number_bytes (out-Value v) in
    let fits : SFits w64 c.number_in.result = search rules in
    leads_failed _ _ _ _ _ c.loop-value.invariant _ _ _ _ _ (rest_next w _ _ _ _ c.loop-value-test.true c.value-item.is (number_is _ _ c.number_in.ensures))
    c.from_residual.ensures.1 (rw (to_z-of_z w64 c.number_in.result fits) at c.in_err-put_int.ensures)

pub returns : goal.returns
returns c =
    let w = λ (v : Value). number_bytes (out-Value v) in
    leads_done _ _ _ _ _ c.loop-value.invariant (rest_done w _ _ c.loop-value-test.false)
