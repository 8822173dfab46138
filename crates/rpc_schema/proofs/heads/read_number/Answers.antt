-- A word that is a number's digits is text, and parses to the number.
use Rattle.std.proofs.Common.{rules, arith, ◌≡◌, ◌<◌, ◌^◌, ap, subst, sym, ◌∙◌, IsUtf8}
use Rattle.std.specs.Fmt.{decimal}
use Rattle.std.proofs.lemmas.Fmt.{parse-decimal, IsAscii-decimal}
use Rattle.std.proofs.lemmas.Str.{IsUtf8-from_ascii}
use Rattle.rpc_schema.proofs.heads.read_number.Goals as goal
use Rattle.rpc_schema.proofs.heads.read_number.Goals.{else-n-max-via-then-n-max+else-eq, else-n-max-via-else-n-max}

pub returns-in_default : goal.returns-in_default
returns-in_default c n le e =
    let small : n < 2 ^ 64 = omega arith in
    let ascii = IsAscii-decimal n small in
    c.in_default.ensures.cases.0 (subst IsUtf8 (sym e) (IsUtf8-from_ascii (decimal n) ascii))

pub returns-in_default-parse : goal.returns-in_default-parse
returns-in_default-parse c n le e =
    let small : n < 2 ^ 64 = omega arith in
    let read =
    parse-decimal 64 n _ _ small small (c.in-Ok.ensures.cases.0 ∙ e) c.parse.ensures.value.0 in
    cc (read)

pub returns-else-n-max : goal.returns-else-n-max
returns-else-n-max c n le e =
    let small : n < 2 ^ 64 = omega arith in
    let read =
    parse-decimal 64 n _ _ small small (c.in-Ok.ensures.cases.0 ∙ e) c.parse.ensures.value.0 in
    let same : c.in-Ok-parse.n ≡ n = cc (read) in
    elim c.else-n-max.branch [
      | else-n-max-via-then-n-max+else-eq w ↦
          (let text : w.format.result.now ≡ c.in-Ok.text.now = w.format.ensures.text
          ∙ (ap decimal same ∙ sym (c.in-Ok.ensures.cases.0 ∙ e)) in
          search rules)
      | else-n-max-via-else-n-max w ↦ omega arith
    ]
