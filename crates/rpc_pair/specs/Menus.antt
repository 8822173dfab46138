-- The replies that tell a menu.
use Rattle.std.specs.Prelude.{◌≡◌, Option, Some, None, if◌then◌else◌}
use Rattle.bp_value.specs.declared.value.Value.{Value}
use Rattle.rpc_talk.specs.Acts.{is_menu}
use Rattle.rpc_meeting.specs.Menus.{reply_or}
use Rattle.rpc_book.specs.Books.{BookState, Booked, find_booked, held_in}
use Rattle.rpc_book.specs.declared.made.Made.{Made}

-- the reply that is shown of the dispatch with the id of one that was made
abbrev pub reply_of : BookState → Option Booked → Option Value
reply_of b None = None
reply_of b (Some d) = if d.handed then None else reply_or None (held_in b d).ending

abbrev pub AnswersMenu : BookState → Made → Option Value → Type 0
AnswersMenu b made reply = reply ≡ (if is_menu made.desc.name made.desc.version then reply_of b (find_booked made.id b.made) else None)
