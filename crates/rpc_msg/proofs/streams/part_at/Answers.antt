use Rattle.std.proofs.Common.{◌≤◌, [], ◌∷◌, length, take, refl, ap, ◌∙◌, arith}
use Rattle.std.proofs.lemmas.List.{length-take}
use Rattle.readers.specs.Reader.{mapped}
use Rattle.bp_num.specs.NumberAt.{nat_at}
use Rattle.bp_num.specs.declared.number.Why.TheVariants.{Tag}
use Rattle.readers.specs.Keys.{key_at}
use Rattle.bp_codec.specs.Plan.{keys_in}
use Rattle.bp_codec.proofs.HeadSteps.{text_all, text_short}
use Rattle.bp_grammar.specs.Reading.{read}
use Rattle.rpc_msg.specs.Forms.{part_form}
use Rattle.rpc_msg.specs.Values.{item_value}
use Rattle.rpc_msg.proofs.Directs.{part_reads, part_case}
use Rattle.rpc_msg.proofs.Halting.{at_case, key_below, halts, halts_after}
use Rattle.rpc_msg.proofs.Parts.{part_err, sized_after}
use Rattle.rpc_msg.proofs.streams.part_at.Goals as goal

pub returns-in_err-tag_at : goal.returns-in_err-tag_at
returns-in_err-tag_at c =
    let m = c.args.max_len in
    let s = c.args.rest.now.now in
    let e = c.in_err-tag_at.field-0.0 in
    let new = c.tag_at.new.rest.now in
    part_err (read m part_form) s new c.from_residual.result e c.from_residual.ensures.1
    (halts_after _ _ e new (part_reads m s) (halts (key_at Tag 4 (keys_in 0 (0x8A79 ∷ 0x697939 ∷ []))) s new e c.in_err-tag_at.ensures))

pub returns-then-branch-eq1 : goal.returns-then-branch-eq1
returns-then-branch-eq1 c =
    let m = c.args.max_len in
    at_case (part_case m) _ 1 (part_reads m c.args.rest.now.now) c.in_ok-tag_at.ensures.0 (omega arith)

pub returns-in_err-size : goal.returns-in_err-size
returns-in_err-size c =
    let m = c.args.max_len in
    let s = c.args.rest.now.now in
    let e = c.in_err-size.field-0.0 in
    let new = c.length_at.new.rest.now in
    let below = key_below 2 4 Tag (keys_in 0 (0x8A79 ∷ 0x697939 ∷ [])) s _ c.in_ok-tag_at.field-0 (omega arith, (omega arith, tt)) c.in_ok-tag_at.ensures.0 in
    let item = at_case (part_case m) _ 0 (part_reads m s) c.in_ok-tag_at.ensures.0 (omega (arith, below)) in
    part_err (read m part_form) s new c.from_residual-in_err-size.result e c.from_residual-in_err-size.ensures.1
    (halts_after _ _ e new (item ∙ sized_after m item_value c.tag_at.new.rest.now) (halts (nat_at m) c.tag_at.new.rest.now new e c.in_err-size.ensures))

pub returns-then-rest-size : goal.returns-then-rest-size
returns-then-rest-size c =
    let m = c.args.max_len in
    let s = c.args.rest.now.now in
    let below = key_below 2 4 Tag (keys_in 0 (0x8A79 ∷ 0x697939 ∷ [])) s _ c.in_ok-tag_at.field-0 (omega arith, (omega arith, tt)) c.in_ok-tag_at.ensures.0 in
    let item = at_case (part_case m) _ 0 (part_reads m s) c.in_ok-tag_at.ensures.0 (omega (arith, below)) in
    item ∙ ap (mapped item_value) (text_short m c.in_ok-size.size c.tag_at.new.rest.now c.length_at.new.rest.now c.in_ok-size.ensures (omega arith))

pub returns : goal.returns
returns c =
    let m = c.args.max_len in
    let s = c.args.rest.now.now in
    let u = c.length_at.new.rest.now in
    let n = c.in_ok-size.size in
    let below = key_below 2 4 Tag (keys_in 0 (0x8A79 ∷ 0x697939 ∷ [])) s _ c.in_ok-tag_at.field-0 (omega arith, (omega arith, tt)) c.in_ok-tag_at.ensures.0 in
    let item = at_case (part_case m) _ 0 (part_reads m s) c.in_ok-tag_at.ensures.0 (omega (arith, below)) in
    let within : n ≤ length u = omega arith in
    let count = length-take n u in
    (take n u, omega (arith, count, within), item ∙ ap (mapped item_value) (text_all m n c.tag_at.new.rest.now u (take n u) c.in_ok-size.ensures within refl).0)
