use Rattle.bp_text.proofs.FrontSteps.{got_more, got_front, got_before, got_fault}
use Rattle.bp_text.proofs.shape_fronts.spelled_front.Goals as goal

pub returns-in-Ok : goal.returns-in-Ok
returns-in-Ok c =
    got_front c.args.text.now c.in_ok-tokens.tokens c.shape.new.tokens c.in_ok-tokens.ensures.text c.bytes_taken.result c.bytes_taken.ensures
    c.in-Ok.shape c.in-Ok.ensures

pub returns-in-More : goal.returns-in-More
returns-in-More c = got_more c.args.text.now c.in_ok-tokens.tokens c.shape.new.tokens c.in_ok-tokens.ensures.text c.in-Err.halt c.in-More.is
    c.in-Err.ensures

pub returns-in-Some : goal.returns-in-Some
returns-in-Some c =
    got_before c.args.text.now c.in_ok-tokens.tokens c.shape.new.tokens c.in_ok-tokens.ensures.text c.bytes_taken-used.result
    c.bytes_taken-used.ensures
    c.in-Err.halt c.in-Bad.is c.in-Err.ensures c.in_ok-shape-in-Bad.field-0 c.in_ok-shape-in-Bad.ensures c.in-Some.shape c.in-Some.is

pub returns : goal.returns
returns c =
    rw c.refusal.ensures
    (got_fault c.args.text.now c.in_ok-tokens.tokens c.shape.new.tokens c.in_ok-tokens.ensures.text c.bytes_taken-used.result
    c.bytes_taken-used.ensures
    c.in-Err.halt c.in-Bad.is c.in-Err.ensures c.in_ok-shape-in-Bad.field-0 c.in_ok-shape-in-Bad.ensures c.left.result c.left.ensures c.in-None.is)
