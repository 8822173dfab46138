use Rattle.std.proofs.Common.{◌≡◌, ◌+◌, ◌^◌, ◌<◌, ◌≤◌, length, take, subst, refl, arith, rules}
use Rattle.std.proofs.lemmas.List.{take_all}
use Rattle.readers.specs.Reader.{IsProperFront}
use Rattle.bp_value.specs.Form.{form_of}
use Rattle.bp_grammar.specs.Spells.{Spells}
use Rattle.bp_codec.specs.Fed.{IsFed}
use Rattle.rpc_tool.specs.ValueCommands.{longest_shown}
use Rattle.rpc_tool.proofs.Pieces.{cut_short, fed_on, stands_in_all, faulty_in_all}
use Rattle.rpc_tool.proofs.spelled.decoded.Goals as goal

pub pieces-preserved : goal.pieces-preserved
pieces-preserved c =
    let f = form_of c.args.shape.now in
    let bytes = c.args.bytes.now in
    let start = c.pieces.start in
    let next = start + c.min.result in
    let within : next ≤ length bytes = omega (arith, c.min.ensures, c.pieces.invariant.within) in
    let fed = c.feed.ensures.fed longest_shown f (take start bytes) c.pieces.invariant.fed in
    record { within = within; fed = fed_on longest_shown f bytes start next (omega arith) within c.feed.new.self (fed.goes_on cc) }

pub returns-in-Ok-Whole : goal.returns-in-Ok-Whole
returns-in-Ok-Whole c =
    let f = form_of c.args.shape.now in
    let bytes = c.args.bytes.now in
    let start = c.pieces.start in
    let next = start + c.min.result in
    let within : next ≤ length bytes = omega (arith, c.min.ensures, c.pieces.invariant.within) in
    let fed = c.in-Ok-Whole.ensures.fed longest_shown f (take start bytes) c.pieces.invariant.fed in
    let told = subst (IsFed longest_shown f (take start bytes) _) c.in-Ok-Whole.field-0-is fed.told in
    c.whole.ensures longest_shown f (stands_in_all longest_shown f bytes start next (omega arith) within c.in-Ok-Whole.value c.in-Ok-Whole.used told)

pub returns-in-Ok-Bad : goal.returns-in-Ok-Bad
returns-in-Ok-Bad c =
    let f = form_of c.args.shape.now in
    let bytes = c.args.bytes.now in
    let start = c.pieces.start in
    let next = start + c.min.result in
    let within : next ≤ length bytes = omega (arith, c.min.ensures, c.pieces.invariant.within) in
    let fed = c.in-Ok-Bad.ensures.fed longest_shown f (take start bytes) c.pieces.invariant.fed in
    let told = subst (IsFed longest_shown f (take start bytes) _) c.in-Ok-Bad.field-0-is fed.told in
    let small : length bytes < 2 ^ 64 = search rules in
    faulty_in_all longest_shown f bytes start next (omega arith) within small c.in-Ok-Bad.at c.in-Ok-Bad.why told

pub returns : goal.returns
returns c =
    let f = form_of c.args.shape.now in
    let bytes = c.args.bytes.now in
    let all : take c.pieces.start bytes ≡ bytes = take_all c.pieces.start bytes (omega (arith, c.pieces-test.false)) in
    (refl, subst (IsProperFront (Spells longest_shown f)) all (cut_short longest_shown f (take c.pieces.start bytes) c.pieces.reader c.pieces.invariant.fed))
