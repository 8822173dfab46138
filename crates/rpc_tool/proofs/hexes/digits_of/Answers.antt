use Rattle.std.proofs.Common.{◌≡◌, ◌+◌, ◌%◌, length, take, get_or, ◌≢◌, ◌⊎◌, false, subst, sym, ap, ◌∙◌, arith, inl, inr}
use Rattle.std.proofs.lemmas.List.{take_all}
use Rattle.rpc_tool.specs.HexTexts.{is_hex_blank, IsBadHex}
use Rattle.rpc_tool.proofs.HexDigits.{Taken, digit_at, blank_at, bad_at, bad_end, all_taken}
use Rattle.rpc_tool.proofs.hexes.digits_of.Goals.{then-is_digit+in_ok-push, else-is_digit+else-len-ne0+else-not-is_blank, then-len-ne0-via-then-len-ne0, then-len-ne0-via-else-len-ne0+then-not-is_blank}
use Rattle.rpc_tool.proofs.hexes.digits_of.Goals as goal

pub returns-then-len-ne0-clause-bad : goal.returns-then-len-ne0-clause-bad
returns-then-len-ne0-clause-bad c at same =
    let is : c.bytes.at ≡ at = cc in
    let why : (length c.bytes.digits.items % 2 ≢ 0) ⊎ (is_hex_blank (get_or c.args.text.now c.bytes.at 0) ≡ false) =
    elim c.then-len-ne0.branch [
      | then-len-ne0-via-then-len-ne0 w ↦ inl (λ e. w.if-len-ne0.true (ap (λ n. n % 2) (c.len.ensures ∙ c.bytes.digits.ok.0) ∙ e))
      | then-len-ne0-via-else-len-ne0+then-not-is_blank w ↦ inr (sym w.is_blank.ensures ∙ w.if-not-is_blank.true)
    ] in
    subst (IsBadHex c.args.text.now) is
    (bad_at c.bytes.digits.items c.args.text.now c.bytes.at c.bytes-test.true (sym c.is_digit.ensures ∙ c.if-is_digit.false) why c.bytes.invariant)

pub bytes-preserved : goal.bytes-preserved
bytes-preserved c =
    elim c.if-is_digit.branch [
      | then-is_digit+in_ok-push w ↦
          subst (λ digits. Taken digits (take (c.bytes.at + 1) c.args.text.now))
          (sym (ap (λ v. v.items) w.digits-is ∙ w.in_ok-push.ensures.items))
          (digit_at c.bytes.digits.items c.args.text.now c.bytes.at c.bytes-test.true (sym c.is_digit.ensures ∙ w.if-is_digit.true) c.bytes.invariant)
      | else-is_digit+else-len-ne0+else-not-is_blank w ↦
          subst (λ digits. Taken digits (take (c.bytes.at + 1) c.args.text.now)) (sym (ap (λ v. v.items) w.digits-is))
          (blank_at c.bytes.digits.items c.args.text.now c.bytes.at c.bytes-test.true
          (sym (ap (λ n. n % 2) (w.len.ensures ∙ c.bytes.digits.ok.0)) ∙ w.if-len-ne0.false)
          (sym w.is_blank.ensures ∙ w.if-not-is_blank.false) c.bytes.invariant)
    ]

pub returns-then-len-ne0-2-clause-bad : goal.returns-then-len-ne0-2-clause-bad
returns-then-len-ne0-2-clause-bad c at same =
    let is : length c.args.text.now ≡ at = cc in
    let all = take_all c.bytes.at c.args.text.now (omega (arith, c.bytes-test.false)) in
    subst (IsBadHex c.args.text.now) is
    (bad_end c.bytes.digits.items c.args.text.now (λ e. c.if-len-ne0-2.true (ap (λ n. n % 2) (c.len-2.ensures ∙ c.bytes.digits.ok.0) ∙ e))
    (subst (Taken c.bytes.digits.items) all c.bytes.invariant))

pub returns-clause-ok : goal.returns-clause-ok
returns-clause-ok c =
    let all = take_all c.bytes.at c.args.text.now (omega (arith, c.bytes-test.false)) in
    all_taken c.bytes.digits.items c.args.text.now
    (sym (ap (λ n. n % 2) (c.len-2.ensures ∙ c.bytes.digits.ok.0)) ∙ c.if-len-ne0-2.false)
    (subst (Taken c.bytes.digits.items) all c.bytes.invariant)
