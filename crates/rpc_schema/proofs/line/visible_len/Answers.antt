-- The first byte of another class ends the run.
use Rattle.std.proofs.Common.{◌≡◌, ◌∙◌, ap, not, length, rules, tests}
use Rattle.std.proofs.lemmas.Iterator.{YieldsList-from_slice}
use Rattle.std.proofs.lemmas.Iterator.Search.{position_from_yields_List}
use Rattle.std.specs.Option.{unwrap_or}
use Rattle.std.specs.List.{position}
use Rattle.rpc_schema.specs.Entries.{is_visible}
use Rattle.bp_text.proofs.ScanSteps.{run_ends}
use Rattle.rpc_schema.proofs.line.visible_len.Goals as goal

pub returns : goal.returns
returns c =
    let is : c.position-end.result ≡ position (λ b. not (is_visible b)) c.args.bytes.now =
    position_from_yields_List (λ b. not (is_visible b)) _ _ c.position-end.result c.position-end.ensures.ran
    (YieldsList-from_slice _ c.iter.ensures.rest) (λ x b q k. search (rules, tests)) in
    run_ends is_visible c.args.bytes.now c.unwrap_or.result (c.unwrap_or.ensures ∙ ap (λ o. unwrap_or o (length c.args.bytes.now)) is)
