-- Each way is the reader's answer, and so both clauses.
use Rattle.std.proofs.Common.{refl, to_z, of_z, w64, arith}
use Rattle.std.proofs.lemmas.Int.{ints}
use Rattle.readers.specs.Reader.{first}
use Rattle.bp_num.specs.NumberAt.{signed_at, minus_at, eight_at}
use Rattle.bp_num.proofs.Arms.{int_none, int_code, int_small, int_other}
use Rattle.bp_num.proofs.reading.read_int.Goals as goal

pub returns-in-empty : goal.returns-in-empty
returns-in-empty c =
    let exact = int_none c.args.kind c.args.bytes.now (omega arith) in
    record { told = exact.0; only = exact.1 }

pub returns-in-255 : goal.returns-in-255
returns-in-255 c =
    let exact =
    int_code c.args.kind 255 c.args.bytes.now c.read_negative.result (first minus_at)
    c.type_inv.bytes c.in-len1-up.len_at_least c.in-255.is (λ t. refl) c.read_negative.ensures in
    record { told = exact.0; only = exact.1 }

pub returns-in-254 : goal.returns-in-254
returns-in-254 c =
    let exact =
    int_code c.args.kind 254 c.args.bytes.now c.read_two.result (signed_at 2)
    c.type_inv.bytes c.in-len1-up.len_at_least c.in-254.is (λ t. refl) c.read_two.ensures in
    record { told = exact.0; only = exact.1 }

pub returns-in-253 : goal.returns-in-253
returns-in-253 c =
    let exact =
    int_code c.args.kind 253 c.args.bytes.now c.read_four.result (signed_at 4)
    c.type_inv.bytes c.in-len1-up.len_at_least c.in-253.is (λ t. refl) c.read_four.ensures in
    record { told = exact.0; only = exact.1 }

pub returns-in-252 : goal.returns-in-252
returns-in-252 c =
    let exact =
    int_code c.args.kind 252 c.args.bytes.now c.read_eight.result (eight_at c.args.kind)
    c.type_inv.bytes c.in-len1-up.len_at_least c.in-252.is (λ t. refl) c.read_eight.ensures in
    record { told = exact.0; only = exact.1 }

pub returns-in-0-to-127 : goal.returns-in-0-to-127
returns-in-0-to-127 c =
    let exact =
    int_small c.args.kind c.args.bytes.now (to_z w64 (of_z w64 c.from.result))
    c.type_inv.bytes c.in-len1-up.len_at_least (omega arith) (omega (arith, ints)) in
    record { told = exact.0; only = exact.1 }

pub returns-in_default : goal.returns-in_default
returns-in_default c =
    let exact =
    int_other c.args.kind c.args.bytes.now
    c.type_inv.bytes c.in-len1-up.len_at_least (omega arith) (λ e. omega arith) (λ e. omega arith) (λ e. omega arith) (λ e. omega arith) in
    record { told = exact.0; only = exact.1 }
