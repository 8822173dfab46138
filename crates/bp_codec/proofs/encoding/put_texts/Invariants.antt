-- What comes of the texts that are left comes of all.
use Rattle.std.proofs.Common.{drop}
use Rattle.std.specs.List.{flat_map}
use Rattle.bp_value.specs.declared.value.Value.{Value, out-Value}
use Rattle.bp_grammar.specs.Written.{text_bytes}
use Rattle.bp_codec.proofs.Putting.{Leads}
use Rattle.bp_codec.proofs.encoding.put_texts.Given as goal

abbrev pub invariant-loop-value : goal.invariant-loop-value
invariant-loop-value l =
    let w = λ (v : Value). text_bytes (out-Value v) in
    Leads l.bound (flat_map w l.values) l.fn.out.items (flat_map w (drop l.value-index l.values)) l.out.items
