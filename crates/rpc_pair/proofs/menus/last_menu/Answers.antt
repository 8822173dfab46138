use Rattle.std.proofs.Common.{rules, ◌≡◌, sym, ap, ◌∙◌, subst, ◌+◌, ◌-◌, ◌<◌, List, length, map, take, get_or, arith}
use Rattle.std.specs.Prelude.{Some, None, fold}
use Rattle.std.proofs.lemmas.List.{length-map}
use Rattle.rpc_book.specs.Books.{Booked}
use Rattle.rpc_book.specs.declared.made.Made.{Made}
use Rattle.rpc_pair.specs.Kept.{IsKept}
use Rattle.rpc_pair.specs.Menus.{AnswersMenu}
use Rattle.rpc_pair.specs.Standing.{menu_held_or}
use Rattle.rpc_pair.proofs.BookedAt.{each_at, element, found_at}
use Rattle.rpc_pair.proofs.MenuFits.{menu_fits}
use Rattle.rpc_pair.proofs.MenuLoops.{fold_more, held_none, held_some}
use Rattle.rpc_pair.proofs.menus.last_menu.Goals as goal

pub menu_from-requires : goal.menu_from-requires
menu_from-requires c =
    let b = c.args.book.now in
    let k = c.made.left - 1 in
    let long : length c.made-made.result.now ≡ length b.made = ap (λ (l : List Made). length l) c.made-made.ensures.made ∙ length-map b.made (λ (d : Booked). d.made) in
    let answers : AnswersMenu b c.index-made-left.result (Some c.in-Some.value.now) = search (rules, c.menu_reply.ensures) in (
      b.limits.max_message,
      menu_fits b c.index-made-left.result c.in-Some.value.now c.made-made.ensures.sound c.requires
          (k, omega (arith, c.made.invariant.within, c.made-test.true, ap (λ (l : List Made). length l) c.made-made.ensures.made), search rules) answers,
    )

pub returns-in-Some : goal.returns-in-Some
returns-in-Some c =
    let b = c.args.book.now in
    let k = c.made.left - 1 in
    let long : length c.made-made.result.now ≡ length b.made = ap (λ (l : List Made). length l) c.made-made.ensures.made ∙ length-map b.made (λ (d : Booked). d.made) in
    let less : k < length b.made = omega (arith, c.made.invariant.within, c.made-test.true, long) in
    let at : c.index-made-left.result ≡ get_or (map (λ d. d.made) b.made) k c.index-made-left.result
    = c.index-made-left.is ∙ ap (λ (l : List Made). get_or l k c.index-made-left.result) c.made-made.ensures.made in
    let (d, there, is) = element b.made k c.index-made-left.result less at in
    let found = found_at b.made k d c.made-made.ensures.sound.ids less there in
    let kept = each_at IsKept b.made k d c.requires less there in
    let answers : AnswersMenu b c.index-made-left.result (Some c.in-Some.value.now) = search (rules, c.menu_reply.ensures) in
    let on : k + 1 ≡ c.made.left = omega (arith, c.made-test.true) in
    sym c.made.invariant.menu
    ∙ (ap (λ n. fold (menu_held_or b) None (take n b.made)) (sym on)
    ∙ (fold_more b k d less (there d)
    ∙ (held_some b d found kept _ c.in-Some.value.now (subst (λ (m : Made). AnswersMenu b m (Some c.in-Some.value.now)) (sym is) answers)
    ∙ ap Some c.in_ok-menu_from.ensures)))

pub made-preserved : goal.made-preserved
made-preserved c =
    let b = c.args.book.now in
    let k = c.made.left - 1 in
    let long : length c.made-made.result.now ≡ length b.made = ap (λ (l : List Made). length l) c.made-made.ensures.made ∙ length-map b.made (λ (d : Booked). d.made) in
    let less : k < length b.made = omega (arith, c.made.invariant.within, c.made-test.true, long) in
    let at : c.index-made-left.result ≡ get_or (map (λ d. d.made) b.made) k c.index-made-left.result
    = c.index-made-left.is ∙ ap (λ (l : List Made). get_or l k c.index-made-left.result) c.made-made.ensures.made in
    let (d, there, is) = element b.made k c.index-made-left.result less at in
    let found = found_at b.made k d c.made-made.ensures.sound.ids less there in
    let kept = each_at IsKept b.made k d c.requires less there in
    let answers : AnswersMenu b c.index-made-left.result None = search (rules, c.menu_reply.ensures) in
    let on : k + 1 ≡ c.made.left = omega (arith, c.made-test.true) in
    record {
      within = omega (arith, c.made.invariant.within);
      menu = sym (held_none b d found kept (fold (menu_held_or b) None (take k b.made)) (subst (λ (m : Made). AnswersMenu b m None) (sym is) answers))
          ∙ (sym (fold_more b k d less (there d)) ∙ (ap (λ n. fold (menu_held_or b) None (take n b.made)) on ∙ c.made.invariant.menu));
    }
