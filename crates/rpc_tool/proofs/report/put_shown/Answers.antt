-- The dispatch of a label is shown as it stands in the book.
use Rattle.std.proofs.Common.{◌≡◌, ◌∙◌, ◌++◌, sym, ap, subst, List, ℕ, map, append-nil}
use Rattle.std.specs.Prelude.{Some, None}
use Rattle.std.specs.List.{find}
use Rattle.rpc_book.specs.Books.{BookState}
use Rattle.std.specs.Str.{bytes_eq}
use Rattle.rpc_pair.specs.Sights.{Seen, pair_sight, seen_in}
use Rattle.rpc_tool.specs.Reports.{found_text, shown_text}
use Rattle.rpc_tool.specs.Rows.{HasRow, IsRow}
use Rattle.rpc_tool.proofs.Rows.{none_of, on_ok, row_of}
use Rattle.rpc_tool.proofs.report.put_shown.Goals as goal

pub put_dispatch-requires : goal.put_dispatch-requires
put_dispatch-requires c =
    let (d, row, seen) = row_of c.args.pair.now.book c.made.ensures.sound c.book.ensures.kept c.as_slice.result.now c.in-Some.made.now c.in-Some.ensures.made in
    subst (λ (b : BookState). HasRow b c.in-Some.made.now) (sym c.book.ensures.book) (d, row)

pub returns-in-Some : goal.returns-in-Some
returns-in-Some c =
    let b = c.args.pair.now.book in
    let (d, row, seen) = row_of b c.made.ensures.sound c.book.ensures.kept c.as_slice.result.now c.in-Some.made.now c.in-Some.ensures.made in
    let found = subst (λ l. find (λ (s : Seen). bytes_eq s.label l) (map (seen_in b) b.made) ≡ Some (seen_in b d)) c.as_slice.ensures seen in
    on_ok c.put_dispatch.result
    (λ written. subst (λ e. c.put_dispatch.new.out.items ≡ c.args.out.now.items ++ shown_text e (pair_sight c.args.pair.now)) (sym c.in-Show.is)
    (written ∙ (ap (λ (b : BookState). c.args.out.now.items ++ found_text (Some (seen_in b d))) c.book.ensures.book
    ∙ ap (λ o. c.args.out.now.items ++ found_text o) (sym found))))
    (c.put_dispatch.ensures d (subst (λ (b : BookState). IsRow b c.in-Some.made.now d) (sym c.book.ensures.book) row))

pub returns-in-None : goal.returns-in-None
returns-in-None c =
    let b = c.args.pair.now.book in
    let none = subst (λ l. find (λ (s : Seen). bytes_eq s.label l) (map (seen_in b) b.made) ≡ None) c.as_slice.ensures (none_of b c.as_slice.result.now c.in-None.ensures.made) in
    subst (λ e. c.args.out.now.items ≡ c.args.out.now.items ++ shown_text e (pair_sight c.args.pair.now)) (sym c.in-Show.is)
    (sym (append-nil c.args.out.now.items) ∙ ap (λ o. c.args.out.now.items ++ found_text o) (sym none))
