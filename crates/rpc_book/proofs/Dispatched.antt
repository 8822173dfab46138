-- What a dispatch makes of a book.
use Rattle.std.proofs.Common.{◌≡◌, refl, sym, ap, ◌∙◌, subst, ℕ, ◌<◌, ◌≤◌, ◌^◌, ℤ, pos, Bool, true, false, ◌&&◌, List, [], ◌∷◌, ◌++◌}
use Rattle.std.specs.Prelude.{Option, Some, None, Ok, Err}
use Rattle.std.specs.Option.{is_none, option_map}
use Rattle.bp_value.specs.declared.value.Value.{Value}
use Rattle.rpc_msg.specs.declared.shared.CloseCause.{CloseCause}
use Rattle.rpc_msg.specs.declared.shared.Ticket.{Ticket}
use Rattle.rpc_log.specs.Logs.{responses_of}
use Rattle.rpc_schema.specs.declared.desc.RpcDesc.{RpcDesc}
use Rattle.rpc_talk.specs.Acts.{is_short}
use Rattle.rpc_talk.specs.Parts.{is_tracked}
use Rattle.rpc_talk.specs.Welcome.{find_call}
use Rattle.rpc_talk.proofs.Accepting.{no_responses}
use Rattle.rpc_end.specs.Ends.{EndState, is_link_open, said}
use Rattle.rpc_client.specs.declared.error.DispatchError.{DispatchError}
use Rattle.rpc_client.specs.declared.error.DispatchError.TheVariants as dispatch
use Rattle.rpc_client.specs.Clients.{CanKeep as ClientCanKeep, CanSay as ClientCanSay, ClientState, HasId, IsDispatched as IsClientDispatched, RefusesCall, next_query as next_call_query}
use Rattle.rpc_client.specs.Kept.{KeepsGot, row_call, row_calls}
use Rattle.rpc_client.specs.Rows.{new_row}
use Rattle.rpc_client.specs.Tables.{call_query, find_row, next_call_id, query_data}
use Rattle.rpc_client.proofs.Dispatches.{fresh, no_call}
use Rattle.rpc_client.proofs.TableSteps.{found_call}
use Rattle.rpc_book.specs.declared.made.Made.{Made}
use Rattle.rpc_book.specs.Books.{BookState}
use Rattle.rpc_book.specs.Calls.{MayDispatch, MayKeep, MaySay, IsBooked, IsFresh, RefusesBooking, new_booked, next_id, booked_query}
use Rattle.rpc_book.specs.Inside.{AreMadeOf, IsBook, book_of, dispatches}
use Rattle.rpc_book.proofs.Same.{by_found, full_same, number_same}
use Rattle.rpc_book.proofs.Sounds.{log_same}
use Rattle.rpc_book.proofs.Ties.{more_both}

abbrev pub made_as : List ℕ → ℤ → RpcDesc → Made
made_as label id d = record { label = label; id = id; desc = d; cut = None; taken = 0 }

link_open : (e : EndState) → is_link_open e ≡ true → e.cause ≡ None
link_open e is = by e.greeted e.cause is
  where
    by : (greeted : Bool) (o : Option CloseCause) → (greeted && is_none o) ≡ true → o ≡ None
    by true None e = refl
    by true (Some why) e = absurd cc
    by false o e = absurd cc

module _ (c : ClientState) (made : List Made) (got : List ℕ) (is : IsBook c made got) (d : RpcDesc) (v : Value) where
  abbrev book : BookState
  book = book_of c made got

  id_same : next_id d.kind book.made ≡ next_call_id d.kind c.rows
  id_same = ap pos (number_same c made got is d.kind)

  query_same : booked_query book d v ≡ next_call_query c d v
  query_same = ap (λ i. call_query d i (query_data d v)) id_same

  short_same : is_short c.limits.max_message (booked_query book d v) ≡ is_short c.limits.max_message (next_call_query c d v)
  short_same = ap (is_short c.limits.max_message) query_same

  can_say : ClientCanSay c d v → MaySay book d v
  can_say (can, short) = (can, short_same ∙ short)

  can_keep : ClientCanKeep c d v → MayKeep book d v
  can_keep (can, room) = (can_say can, full_same c made got is d ∙ room)

  can_dispatch : HasId c d v → MayDispatch book d v
  can_dispatch (can, few) = (can_keep can, subst (λ n. n ≤ 2 ^ 61) (sym (number_same c made got is d.kind)) few)

  refuses : (why : DispatchError) → RefusesCall c d v why → RefusesBooking book d v why
  refuses dispatch.Closed closed = closed
  refuses dispatch.NotOpen opening = opening
  refuses dispatch.BadValue bad = bad
  refuses (dispatch.TooLong most) (can, long, is_most) = (can, short_same ∙ long, is_most)
  refuses (dispatch.TooManyOpen count) (can, full, is_count) = (can_say can, full_same c made got is d ∙ full, is_count)
  refuses (dispatch.IdsSpent id) (can, spent, is_id) =
      (can_keep can, subst (λ n. 2 ^ 61 < n) (sym (number_same c made got is d.kind)) spent, is_id ∙ sym id_same)
  refuses dispatch.OutOfMemory any = tt

  -- nothing has the id
  is_fresh : c.link.cause ≡ None → IsFresh book (next_call_id d.kind c.rows)
  is_fresh open_ =
      let id = next_call_id d.kind c.rows in
      let going = is.has.going open_ in
      let none : find_row id c.rows ≡ None = no_call id c.rows (fresh c.rows (is_tracked d.kind) is.has.calls) in
      let no_row : find_call id (row_calls c.rows) ≡ None = found_call id c.rows ∙ ap (option_map row_call) none in
      record {
        unused = by_found c made got is id (λ x r. r ≡ None → x ≡ None) (λ n m e. refl) (λ one row of found missing e. absurd (let line : Some row ≡ None = e in cc)) none;
        unanswered = ap (responses_of id) (log_same c made got is going) ∙ no_responses c.link.max id (row_calls c.rows) [] going.log no_row going.all;
      }

  module _ (label : List ℕ) (ticket : Ticket) (new : ClientState) (did : IsClientDispatched c d v (Ok ticket) new) where
    abbrev one : Made
    one = made_as label ticket.id d

    both : AreMadeOf (made ++ one ∷ []) new.rows × (dispatches (made ++ one ∷ []) new.rows ≡ book.made ++ new_booked label (next_id d.kind book.made) d ∷ [])
    both =
        let row = new_row (next_call_id d.kind c.rows) d in
        let more = more_both made c.rows one row is.dispatches (record { id = did.1; desc = refl; cut = refl; taken = refl }) in
        let rows : new.rows ≡ c.rows ++ row ∷ [] = ap (λ x. x.rows) did.2 in (
          subst (AreMadeOf (made ++ one ∷ [])) (sym rows) more.0,
          ap (dispatches (made ++ one ∷ [])) rows
              ∙ (more.1 ∙ ap (λ i. book.made ++ new_booked label i d ∷ []) (did.1 ∙ sym id_same)),
        )

    pub dispatch_kept : KeepsGot c new → IsBook new (made ++ one ∷ []) got
    dispatch_kept keeps = record { has = keeps got is.has; dispatches = both.0; room = is.room }

    pub dispatch_book : IsBooked book label d v (Ok ticket) (book_of new (made ++ one ∷ []) got)
    dispatch_book =
        let limits : new.limits ≡ c.limits = ap (λ x. x.limits) did.2 in
        let link : new.link ≡ said c.link (booked_query book d v) = ap (λ x. x.link) did.2 ∙ ap (said c.link) (sym query_same) in
        let rows = both.1 in (
          can_dispatch did.0,
          did.1 ∙ sym id_same,
          cc,
          subst (IsFresh book) (sym did.1) (is_fresh (link_open c.link did.0.0.0.0.0)),
        )

  pub dispatch_refused : (label : List ℕ) (why : DispatchError) (new : ClientState) → IsClientDispatched c d v (Err why) new
      → IsBooked book label d v (Err why) (book_of new made got)
  dispatch_refused label why new (refused_by, same) = (refuses why refused_by, ap (λ x. book_of x made got) same)
