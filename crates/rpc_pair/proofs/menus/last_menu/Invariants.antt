use Rattle.std.proofs.Common.{◌≡◌, ◌≤◌, length, take}
use Rattle.std.specs.Prelude.{fold, None}
use Rattle.rpc_pair.specs.Standing.{booked_menu, menu_held_or}
use Rattle.rpc_pair.proofs.menus.last_menu.Given as goal

abbrev pub invariant-made : goal.invariant-made
invariant-made l = record {
  within : l.left ≤ length l.made;
  menu : fold (menu_held_or l.book) None (take l.left l.book.made) ≡ booked_menu l.book;
}

abbrev pub decreases-made : goal.decreases-made
decreases-made l = l.left
