-- Each way is the reader's answer, and so both clauses.
use Rattle.std.proofs.Common.{refl, to_z, of_z, w64, arith}
use Rattle.std.proofs.lemmas.Int.{ints}
use Rattle.bp_num.specs.NumberAt.{payload_at}
use Rattle.bp_num.proofs.Arms.{nat_none, nat_code, nat_small, nat_long, nat_other}
use Rattle.bp_num.proofs.reading.read_nat0.Goals as goal

pub returns-in-empty : goal.returns-in-empty
returns-in-empty c =
    let exact = nat_none c.args.max c.args.bytes.now (omega arith) in
    record { told = exact.0; only = exact.1 }

pub returns-in-254 : goal.returns-in-254
returns-in-254 c =
    let exact =
    nat_code c.args.max 254 c.args.bytes.now c.read_payload.result (payload_at 2 c.args.max)
    c.type_inv.bytes c.in-len1-up.len_at_least c.in-254.is (λ t. refl) c.read_payload.ensures in
    record { told = exact.0; only = exact.1 }

pub returns-in-253 : goal.returns-in-253
returns-in-253 c =
    let exact =
    nat_code c.args.max 253 c.args.bytes.now c.read_payload-in-253.result (payload_at 4 c.args.max)
    c.type_inv.bytes c.in-len1-up.len_at_least c.in-253.is (λ t. refl) c.read_payload-in-253.ensures in
    record { told = exact.0; only = exact.1 }

pub returns-in-252 : goal.returns-in-252
returns-in-252 c =
    let exact =
    nat_code c.args.max 252 c.args.bytes.now c.read_payload-in-252.result (payload_at 8 c.args.max)
    c.type_inv.bytes c.in-len1-up.len_at_least c.in-252.is (λ t. refl) c.read_payload-in-252.ensures in
    record { told = exact.0; only = exact.1 }

pub returns-in-0-to-127 : goal.returns-in-0-to-127
returns-in-0-to-127 c =
    let exact =
    nat_small c.args.max c.args.bytes.now (to_z w64 (of_z w64 c.from-in-0-to-127.result))
    c.type_inv.bytes c.in-len1-up.len_at_least (omega arith) (omega arith) (omega (arith, ints)) in
    record { told = exact.0; only = exact.1 }

pub returns-in-0-to-127-2 : goal.returns-in-0-to-127-2
returns-in-0-to-127-2 c =
    let exact =
    nat_long c.args.max c.args.bytes.now
    c.type_inv.bytes c.in-len1-up.len_at_least (omega arith) (omega arith) in
    record { told = exact.0; only = exact.1 }

pub returns-in_default : goal.returns-in_default
returns-in_default c =
    let exact =
    nat_other c.args.max c.args.bytes.now
    c.type_inv.bytes c.in-len1-up.len_at_least (omega arith) (λ e. omega arith) (λ e. omega arith) (λ e. omega arith) in
    record { told = exact.0; only = exact.1 }
