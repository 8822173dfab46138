use Rattle.std.proofs.Common.{sym, ap, ◌∙◌, inr, subst}
use Rattle.bp_num.proofs.Payloads.{bytes_are}
use Rattle.bp_value.specs.Form.{form_of}
use Rattle.bp_grammar.specs.Spells.{Spells}
use Rattle.rpc_msg.specs.Bodies.{behind, IsStreamPart, IsPartFault, IsMsgFault}
use Rattle.rpc_msg.proofs.Parts.{body_err, text_stands, text_within, variant_fault, variant_told, IsVariant}
use Rattle.rpc_msg.proofs.streams.read_part.Goals as goal

pub returns-in_err-size : goal.returns-in_err-size
returns-in_err-size c =
    let m = c.args.max_len in
    let f = form_of c.args.item.now in
    let told =
    variant_told m c.args.body.now c.part_at-read.new.rest.now c.part_at-read.result (bytes_are c.args.body.now c.type_inv.body) c.part_at-read.ensures in
    let here = rw (sym c.in_err-size.ensures) at told in
    body_err (IsVariant m) (IsStreamPart m f) (IsPartFault m f) c.args.body.now c.from_residual.result c.in_err-size.field-0.0 c.from_residual.ensures.1
    (variant_fault m f (IsVariant m) (IsVariant m) c.args.body.now c.in_err-size.field-0.0 here)

pub returns-in_default : goal.returns-in_default
returns-in_default c =
    let m = c.args.max_len in
    let f = form_of c.args.item.now in
    let body = c.args.body.now in
    let told = variant_told m body c.part_at-read.new.rest.now c.part_at-read.result (bytes_are body c.type_inv.body) c.part_at-read.ensures in
    rw (sym c.in_ok-size.ensures, c.in_default.is) at told

pub returns-in-Ok : goal.returns-in-Ok
returns-in-Ok c =
    let m = c.args.max_len in
    let f = form_of c.args.item.now in
    let body = c.args.body.now in
    let told = variant_told m body c.part_at-read.new.rest.now c.part_at-read.result (bytes_are body c.type_inv.body) c.part_at-read.ensures in
    let (text, is, spelled) = rw (sym c.in_ok-size.ensures, c.in-Some.is) at told in
    let (front, cut, at, slice) = text_stands m c.in-Some.size body text is spelled in
    (text, spelled, subst (λ t. Spells m f c.in-Ok.value t) slice c.in-Ok.ensures)

pub returns-in-Err-Fault : goal.returns-in-Err-Fault
returns-in-Err-Fault c =
    let m = c.args.max_len in
    let f = form_of c.args.item.now in
    let body = c.args.body.now in
    let told = variant_told m body c.part_at-read.new.rest.now c.part_at-read.result (bytes_are body c.type_inv.body) c.part_at-read.ensures in
    let (text, is, spelled) = rw (sym c.in_ok-size.ensures, c.in-Some.is) at told in
    let (front, cut, at, slice) = text_stands m c.in-Some.size body text is spelled in
    let inner = rw c.in-Err-Fault.field-0-is at c.in-Err-Fault.ensures in
    inr (
      front,
      text,
      c.in-Err-Fault.fault,
      cut,
      spelled,
      subst (λ t. IsMsgFault m f t c.in-Err-Fault.fault) slice inner,
      c.behind.ensures ∙ ap (λ n. behind n c.in-Err-Fault.fault) (sym at),
    )

pub overflow_sub-front : goal.overflow_sub-front
overflow_sub-front c =
    let m = c.args.max_len in
    let body = c.args.body.now in
    let told = variant_told m body c.part_at-read.new.rest.now c.part_at-read.result (bytes_are body c.type_inv.body) c.part_at-read.ensures in
    let (text, is, spelled) = rw (sym c.in_ok-size.ensures, c.in-Some.is) at told in
    text_within m c.in-Some.size body text is spelled
