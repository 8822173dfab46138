-- What an answer changes of a row is nothing that a dispatch has.
use Rattle.std.proofs.Common.{◌≡◌, refl, ◌∙◌, ℕ, ℤ, Bool, true, false, if◌then◌else◌, List}
use Rattle.std.specs.Prelude.{Option, Some, None, Result, Ok, Err}
use Rattle.rpc_msg.specs.declared.message.Answer.{Answer}
use Rattle.rpc_msg.specs.declared.message.Message.{Message}
use Rattle.rpc_msg.specs.declared.message.Message.TheVariants as message
use Rattle.rpc_msg.specs.declared.shared.CloseCause.{CloseCause}
use Rattle.rpc_msg.specs.declared.shared.CloseCause.TheVariants as cause
use Rattle.rpc_msg.specs.declared.shared.Ending.TheVariants as ending
use Rattle.rpc_talk.specs.Parts.{is_tracked, takes_reply}
use Rattle.rpc_talk.specs.Said.{Said, Reply, Begun, Declined, Item, Eof, Unreadable, Failed}
use Rattle.rpc_talk.specs.Welcome.{is_error}
use Rattle.rpc_client.specs.Clients.{by_rows, hearing}
use Rattle.rpc_client.specs.Rows.{Row, finished, is_done, next_said, row_answered, row_told}
use Rattle.rpc_client.specs.Tables.{find_row, row_heard, rows_heard, rows_with}
use Rattle.rpc_client.proofs.TableSteps.{found_id}
use Rattle.rpc_book.specs.declared.made.Made.{Made}
use Rattle.rpc_book.specs.Inside.{AreMadeOf, dispatches}
use Rattle.rpc_book.proofs.Ties.{IsSameRow, same_both}

same_row : (row : Row) → IsSameRow row row
same_row row = record { id = refl; desc = refl; cut = refl; taken = refl; handed = refl }

abbrev IsSameIf : Row → Result Row CloseCause → Type 0
IsSameIf row (Ok new) = IsSameRow row new
IsSameIf row (Err why) = Unit {0}

told_same : (row : Row) (s : Said) → IsSameIf row (row_told row s)
told_same row (Reply v) = record { id = refl; desc = refl; cut = refl; taken = refl; handed = refl }
told_same row (Begun v) = record { id = refl; desc = refl; cut = refl; taken = refl; handed = refl }
told_same row (Declined v) = record { id = refl; desc = refl; cut = refl; taken = refl; handed = refl }
told_same row (Item v) = record { id = refl; desc = refl; cut = refl; taken = refl; handed = refl }
told_same row Eof = record { id = refl; desc = refl; cut = refl; taken = refl; handed = refl }
told_same row (Failed e) = record { id = refl; desc = refl; cut = refl; taken = refl; handed = refl }
told_same row (Unreadable why) = by (takes_reply row.desc.kind)
  where
    by : (b : Bool) → IsSameIf row (if b then Ok (finished row (ending.BadReply why)) else Err (cause.BadStreamData row.id why))
    by true = record { id = refl; desc = refl; cut = refl; taken = refl; handed = refl }
    by false = tt

answered_same : (m : ℕ) (row : Row) (a : Answer) → IsSameIf row (row_answered m row a)
answered_same m row a = by (is_tracked row.desc.kind) (is_done row.phase) (is_error a)
  where
    by : (b d e : Bool) → IsSameIf row (if b then (if d then Err (cause.UnknownId row.id) else row_told row (next_said m row a)) else (if e then Ok row else Err (cause.UnknownId row.id)))
    by true true e = tt
    by true false e = told_same row (next_said m row a)
    by false d true = same_row row
    by false d false = tt

-- the dispatches stay as they are
module _ (made : List Made) (rows : List Row) (are : AreMadeOf made rows) where
  abbrev pub Stay : List Row → Type 0
  Stay new = AreMadeOf made new × (dispatches made new ≡ dispatches made rows)

  stays : Stay rows
  stays = (are, refl)

  response_stays : (m : ℕ) (id : ℤ) (a : Answer) → Stay (by_rows rows (rows_heard m rows id a)).rows
  response_stays m id a = by (find_row id rows) refl
    where
      by_row : (row : Row) → find_row id rows ≡ Some row → (r : Result Row CloseCause) → IsSameIf row r → Stay (by_rows rows (rows_with rows r)).rows
      by_row row found (Ok new) same = same_both id row new made rows are found (same.id ∙ found_id id rows row found) same
      by_row row found (Err why) same = stays

      by : (o : Option Row) → find_row id rows ≡ o → Stay (by_rows rows (row_heard m rows id a o)).rows
      by None found = stays
      by (Some row) found = by_row row found (row_answered m row a) (answered_same m row a)

  pub heard_stays : (m : ℕ) (a : Message) → Stay (hearing m rows a).rows
  heard_stays m message.Heartbeat = stays
  heard_stays m (message.Query q) = stays
  heard_stays m (message.Response r) = response_stays m r.id r.result
