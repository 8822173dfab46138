use Rattle.std.proofs.Common.{◌≡◌, ◌++◌, codes, subst, rules, to_z, of_z, w64}
use Rattle.hex.specs.Hex.{encode_lower}
use Rattle.bp_text_grammar.specs.Printed.{decimal_text, quoted_text}
use Rattle.rpc_tool.proofs.StreamSteps.{six_parts}
use Rattle.rpc_tool.proofs.stream_lines.put_query.Goals as goal

pub returns : goal.returns
returns c =
    let q = c.args.query.now in
    let version : to_z w64 (of_z w64 q.version) ≡ q.version = search rules in
    let id : to_z w64 (of_z w64 q.id) ≡ q.id = search rules in
    six_parts c.args.out.now.items (codes "query ") (quoted_text q.tag) (codes " " ++ decimal_text q.version) (codes " " ++ decimal_text q.id) (codes " ")
    (encode_lower q.body) c.extend_from_slice.new.self.items c.put_quoted.new.out.items c.put_number.new.out.items c.put_number-2.new.out.items
    c.push.new.self.items c.put_hex.new.out.items c.in_ok-extend_from_slice.ensures.items (rw c.as_slice.ensures at c.in_ok-put_quoted.ensures.ok) (subst (λ n. c.put_number.new.out.items ≡ c.put_quoted.new.out.items ++ (codes " " ++ decimal_text n)) version c.in_ok-put_number.ensures)
    (subst (λ n. c.put_number-2.new.out.items ≡ c.put_number.new.out.items ++ (codes " " ++ decimal_text n)) id c.in_ok-put_number-2.ensures)
    c.in_ok-push.ensures.items (rw c.as_slice-2.ensures at c.in_ok-put_hex.ensures.ok)
