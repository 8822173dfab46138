-- Text by text.
use Rattle.bp_value.specs.declared.value.Value.{Value, out-Value}
use Rattle.bp_value.specs.declared.value.Value.TheVariants as val
use Rattle.bp_value.specs.Fits.{IsMade, Anything}
use Rattle.bp_grammar.specs.Written.{text_bytes}
use Rattle.bp_codec.proofs.WrittenLayers.{rest_next, rest_done, text_is}
use Rattle.bp_codec.proofs.Putting.{leads_from, leads_next, leads_failed, leads_done}
use Rattle.bp_codec.proofs.Writable.{item_at}
use Rattle.bp_codec.proofs.encoding.put_texts.Goals as goal

pub loop-value-init : goal.loop-value-init
loop-value-init c = leads_from _ _ _

pub text_in-requires : goal.text_in-requires
text_in-requires c = item_at (IsMade val.Text Anything) _ _ _ c.loop-value-test.true c.value-item.is c.requires

pub loop-value-preserved : goal.loop-value-preserved
loop-value-preserved c =
    let w = λ (v : Value). text_bytes (out-Value v) in
    leads_next _ _ _ _ _ c.loop-value.invariant _ _ _ (rest_next w _ _ _ _ c.loop-value-test.true c.value-item.is (text_is _ _ c.text_in.ensures))
    c.in_ok-put_bytes.ensures

pub returns-in_err-put_bytes : goal.returns-in_err-put_bytes
returns-in_err-put_bytes c =
    let w = λ (v : Value). text_bytes (out-Value v) in
    leads_failed _ _ _ _ _ c.loop-value.invariant _ _ _ _ _ (rest_next w _ _ _ _ c.loop-value-test.true c.value-item.is (text_is _ _ c.text_in.ensures))
    c.from_residual.ensures.1 c.in_err-put_bytes.ensures

pub returns : goal.returns
returns c =
    let w = λ (v : Value). text_bytes (out-Value v) in
    leads_done _ _ _ _ _ c.loop-value.invariant (rest_done w _ _ c.loop-value-test.false)
