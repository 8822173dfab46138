use Rattle.std.proofs.Common.{◌≡◌, ◌++◌, ◌<◌, ◌≤◌, codes, to_z, of_z, w64, rules, length, get_or, pos, subst, ap, arith}
use Rattle.bp_text_grammar.specs.Printed.{decimal_text}
use Rattle.bp_text.specs.Printing.{lead}
use Rattle.rpc_tool.proofs.VersionTexts.{line_ends, line_goes_on, line_starts}
use Rattle.rpc_tool.proofs.stream_lines.put_header_line.Goals as goal

pub loop-place-init : goal.loop-place-init
loop-place-init c = line_starts c.args.header.now c.args.out.now.items c.extend_from_slice.new.self.items c.in_ok-extend_from_slice.ensures.items

pub loop-place-preserved : goal.loop-place-preserved
loop-place-preserved c =
    let h = c.args.header.now in
    let lt : c.loop-place.place < length h.versions = subst (λ vs. c.loop-place.place < length vs) c.as_slice-version-items.ensures c.loop-place-test.true in
    let number = get_or c.as_slice-version-items.result.now c.loop-place.place (pos 0) in
    let back : to_z w64 (of_z w64 number) ≡ number = search rules in
    line_goes_on h c.args.out.now.items c.loop-place.out.items c.loop-place.place c.loop-place.invariant c.put_version.new.out.items
    number (pos 0) lt (ap (λ vs. get_or vs c.loop-place.place (pos 0)) c.as_slice-version-items.ensures)
    (subst (λ n. c.put_version.new.out.items ≡ c.loop-place.out.items ++ (lead (codes "; ") c.loop-place.place ++ decimal_text n)) back c.in_ok-put_version.ensures)

pub returns : goal.returns
returns c =
    let h = c.args.header.now in
    let le = c.loop-place-test.false in
    line_ends h c.args.out.now.items c.loop-place.out.items c.loop-place.place c.loop-place.invariant c.extend_from_slice-2.new.self.items
    (subst (λ vs. length vs ≤ c.loop-place.place) c.as_slice-version-items.ensures (omega (arith, le))) c.in_ok-extend_from_slice-2.ensures.items
