-- The menu that a client received, and the version that it chooses by it.
use Rattle.std.specs.Prelude.{ℕ, ℤ, Bool, true, false, ◌&&◌, List, [], ◌∷◌, map, filter, fold, Option, Some, None, if◌then◌else◌, int_lt}
use Rattle.std.specs.Option.{option_and_then}
use Rattle.std.specs.List.{filter_map, list_any}
use Rattle.std.specs.Str.{bytes_eq}
use Rattle.std.specs.Ordering.{int_eq}
use Rattle.bp_value.specs.declared.value.Value.{Value}
use Rattle.rpc_msg.specs.declared.shared.Ending.{Ending}
use Rattle.rpc_msg.specs.declared.shared.Ending.TheVariants as ending
use Rattle.rpc_msg.specs.declared.message.Message.{Message}
use Rattle.rpc_schema.specs.declared.desc.Entry.{Entry}
use Rattle.rpc_schema.specs.declared.desc.Listing.{Listing}
use Rattle.rpc_schema.specs.declared.desc.Side.{Side}
use Rattle.rpc_schema.specs.declared.desc.Side.TheVariants.{Both, Caller, Callee}
use Rattle.rpc_log.specs.Readings.{both_of, items_told, number_told, parts_told, text_told}
use Rattle.rpc_talk.specs.Acts.{is_menu}
use Rattle.rpc_meeting.specs.Talks.{Dispatch, received}

-- ---- the menu of a value

abbrev pub listing_by : Option (List ℕ × ℤ) → Option Listing
listing_by None = None
listing_by (Some p) = Some (record { name = p.0; version = p.1 })

abbrev pub listing_from : List Value → Option Listing
listing_from (name ∷ version ∷ []) = listing_by (both_of (text_told name) (number_told version))
listing_from vs = None

abbrev pub listing_told : Value → Option Listing
listing_told v = option_and_then listing_from (parts_told v)

abbrev pub listings_by : Option (List Value) → List Listing
listings_by None = []
listings_by (Some vs) = filter_map listing_told vs

abbrev pub listings_told : Value → List Listing
listings_told v = listings_by (items_told v)

-- ---- the last menu

abbrev pub reply_or : Option Value → Option Ending → Option Value
reply_or older None = older
reply_or older (Some (ending.Reply v)) = Some v
reply_or older (Some (ending.Failed e)) = older
reply_or older (Some (ending.BadReply why)) = older
reply_or older (Some (ending.Declined v)) = older
reply_or older (Some ending.Eof) = older
reply_or older (Some ending.Aborted) = older
reply_or older (Some ending.Sent) = older
reply_or older (Some ending.Closed) = older

-- the reply of a dispatch to the menu, if it came, or an older one
abbrev pub menu_or : ℕ → List Message → Option Value → Dispatch → Option Value
menu_or m come older d = if is_menu d.desc.name d.desc.version then reply_or older (received m come false d).ending else older

-- that of the latest such dispatch whose reply was read
abbrev pub last_menu : ℕ → List Message → List Dispatch → Option Value
last_menu m come made = fold (menu_or m come) None made

-- ---- choice

-- the end that calls has the line
abbrev pub is_called : Side → Bool
is_called Both = true
is_called Caller = true
is_called Callee = false

-- the versions of a name that it has
abbrev pub called_versions : List Entry → List ℕ → List ℤ
called_versions entries name = map (λ e. e.desc.version) (filter (λ e. is_called e.side && bytes_eq e.desc.name name) entries)

abbrev pub is_listed : List Listing → List ℕ → ℤ → Bool
is_listed listings name version = list_any (λ l. bytes_eq l.name name && int_eq l.version version) listings

abbrev pub greater : Option ℤ → ℤ → Option ℤ
greater None v = Some v
greater (Some best) v = if int_lt best v then Some v else Some best

abbrev pub greatest : List ℤ → Option ℤ
greatest vs = fold greater None vs

-- the greatest of one's own versions that a menu lists under the name
abbrev pub best_version : List ℤ → List Listing → List ℕ → Option ℤ
best_version own listings name = greatest (filter (is_listed listings name) own)
