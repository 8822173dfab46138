-- The dispatches of a book, as the world has them.
use Rattle.std.specs.Prelude.{ℕ, Bool, List, map}
use Rattle.std.specs.Str.{bytes_eq}
use Rattle.rpc_meeting.specs.Talks.{Dispatch}
use Rattle.rpc_book.specs.Books.{BookState}
use Rattle.rpc_book.specs.declared.made.Made.{Made}

abbrev pub made_dispatch : Made → Dispatch
made_dispatch d = record { label = d.label; id = d.id; desc = d.desc; cut = d.cut }

abbrev pub dispatches_of : BookState → List Dispatch
dispatches_of b = map made_dispatch (map (λ d. d.made) b.made)

abbrev pub has_label : List ℕ → Made → Bool
has_label label d = bytes_eq d.label label
