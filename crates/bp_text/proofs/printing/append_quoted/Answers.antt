-- Byte by byte.
use Rattle.std.proofs.Common.{refl, ◌+◌, [], ◌∷◌, ◌++◌, drop, get_or}
use Rattle.std.specs.List.{flat_map}
use Rattle.bp_text_grammar.specs.Lexing.{quote}
use Rattle.bp_text_grammar.specs.Printed.{escaped}
use Rattle.bp_text.proofs.Appending.{leads_next, leads_failed, leads_last, each_next, each_done}
use Rattle.bp_text.proofs.printing.append_quoted.Goals as goal

pub loop-byte-preserved : goal.loop-byte-preserved
loop-byte-preserved c =
    leads_next _ _ _ _ c.loop-byte.invariant _ _ _ (each_next escaped _ _ 0 _ (quote ∷ []) c.loop-byte-test.true refl) c.in_ok-append_escaped.ensures

pub returns-in_err-append_escaped : goal.returns-in_err-append_escaped
returns-in_err-append_escaped c =
    let bytes = c.args.bytes.now in
    let i = c.loop-byte.byte-index in
    leads_failed _ _ _ _ c.loop-byte.invariant (escaped (get_or bytes i 0)) (flat_map escaped (drop (i + 1) bytes) ++ quote ∷ []) _ _ _
    (each_next escaped bytes i 0 _ (quote ∷ []) c.loop-byte-test.true refl) c.from_residual-in_err-append_escaped.ensures.1 c.in_err-append_escaped.ensures

pub returns : goal.returns
returns c = leads_last _ _ _ _ c.loop-byte.invariant (quote ∷ []) _ _ (each_done escaped _ _ (quote ∷ []) c.loop-byte-test.false) c.append_byte-2.ensures
