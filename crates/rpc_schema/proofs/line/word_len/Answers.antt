-- The first byte of another class ends the run.
use Rattle.std.proofs.Common.{◌≡◌, ◌∙◌, ap, not, length, rules, tests}
use Rattle.std.proofs.lemmas.Iterator.{YieldsList-from_slice}
use Rattle.std.proofs.lemmas.Iterator.Search.{position_from_yields_List}
use Rattle.std.specs.Option.{unwrap_or}
use Rattle.std.specs.List.{position}
use Rattle.bp_text_grammar.specs.Lexing.{in_name}
use Rattle.bp_text.proofs.ScanSteps.{run_ends}
use Rattle.rpc_schema.proofs.line.word_len.Goals as goal

pub returns : goal.returns
returns c =
    let is : c.position-end.result ≡ position (λ b. not (in_name b)) c.args.bytes.now =
    position_from_yields_List (λ b. not (in_name b)) _ _ c.position-end.result c.position-end.ensures.ran
    (YieldsList-from_slice _ c.iter.ensures.rest) (λ x b q k. search (rules, tests)) in
    run_ends in_name c.args.bytes.now c.unwrap_or.result (c.unwrap_or.ensures ∙ ap (λ o. unwrap_or o (length c.args.bytes.now)) is)
