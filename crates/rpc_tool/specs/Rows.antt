-- The dispatches of a book as they are printed.
use Rattle.std.specs.Prelude.{◌≡◌, Some}
use Rattle.rpc_book.specs.Books.{BookState, Booked, IsSound, find_booked}
use Rattle.rpc_book.specs.declared.made.Made.{Made}
use Rattle.rpc_pair.specs.Kept.{IsKept}

-- this dispatch of a book is found by its id, and nothing of it was handed out
pub record IsRow (b : BookState) (made : Made) (d : Booked) : Type 0 where
  pub sound : IsSound b
  pub found : find_booked made.id b.made ≡ Some d
  pub same : d.made ≡ made
  pub kept : IsKept d

abbrev pub HasRow : BookState → Made → Type 0
HasRow b made = (d : Booked) × IsRow b made d
