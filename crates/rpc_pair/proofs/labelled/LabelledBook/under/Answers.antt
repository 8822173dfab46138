use Rattle.std.proofs.Common.{◌≡◌, rules, sym, subst, List, map}
use Rattle.std.specs.Prelude.{Some, None, MatchOption}
use Rattle.std.specs.List.{find, position}
use Rattle.std.specs.Slice.{IsItemAt}
use Rattle.std.specs.Str.{bytes_eq}
use Rattle.rpc_book.specs.Books.{BookState}
use Rattle.rpc_book.specs.declared.made.Made.{Made}
use Rattle.rpc_pair.specs.Labels.{labels_of}
use Rattle.rpc_pair.specs.Made.{has_label}
use Rattle.rpc_pair.proofs.FoundOwn.{seen_own}
use Rattle.rpc_pair.proofs.LabelFinds.{label_found}
use Rattle.rpc_pair.proofs.LabelPlaces.{none_found, place_found}
use Rattle.rpc_pair.proofs.labelled.LabelledBook.under.Goals as goal

pub returns-in_err-place-clause-row : goal.returns-in_err-place-clause-row
returns-in_err-place-clause-row c =
    let b = c.self.inside.book in
    let none : position (λ other. bytes_eq other c.args.label.now) (labels_of b.made) ≡ None = search (rules, c.self.invariant c.args.label.now) in
    let is : c.from_residual.result ≡ None = search rules in
    subst (λ (q : BookState). MatchOption c.from_residual.result (find (has_label c.args.label.now) (map (λ d. d.made) q.made) ≡ None)
    (λ d. find (has_label c.args.label.now) (map (λ d. d.made) q.made) ≡ Some d.now)) c.self.view_is
    (subst (λ o. MatchOption o (find (has_label c.args.label.now) (map (λ d. d.made) b.made) ≡ None) (λ d. find (has_label c.args.label.now) (map (λ d. d.made) b.made) ≡ Some d.now)) (sym is)
    (none_found c.args.label.now b.made none))

pub returns-in_err-place-clause-found : goal.returns-in_err-place-clause-found
returns-in_err-place-clause-found c = label_found c.args.label.now (map (λ d. d.made) c.args.self.now.made) c.from_residual.result (λ d. d.now) (returns-in_err-place-clause-row c)

pub returns-clause-row : goal.returns-clause-row
returns-clause-row c =
    let b = c.self.inside.book in
    let here : position (λ other. bytes_eq other c.args.label.now) (labels_of b.made) ≡ Some c.in_ok-place.place = search (rules, c.self.invariant c.args.label.now) in
    let item : IsItemAt (map (λ d. d.made) b.made) c.in_ok-place.place c.get.result = subst (λ (xs : List Made). IsItemAt xs c.in_ok-place.place c.get.result) c.made-made.ensures.made c.get.ensures.lookup in
    subst (λ (q : BookState). MatchOption c.get.result (find (has_label c.args.label.now) (map (λ d. d.made) q.made) ≡ None)
    (λ d. find (has_label c.args.label.now) (map (λ d. d.made) q.made) ≡ Some d.now)) c.self.view_is
    (place_found c.args.label.now b.made c.in_ok-place.place c.get.result here item)

pub returns-clause-found : goal.returns-clause-found
returns-clause-found c = label_found c.args.label.now (map (λ d. d.made) c.args.self.now.made) c.get.result (λ d. d.now) (returns-clause-row c)

pub returns-clause-own : goal.returns-clause-own
returns-clause-own c = λ all. seen_own c.args.label.now c.args.self.now.made c.get.result (λ d. d.now) all (returns-clause-found c)
