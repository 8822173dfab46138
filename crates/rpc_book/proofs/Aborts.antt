-- What an abort makes of a book.
use Rattle.std.proofs.Common.{◌≡◌, refl, sym, ap, ◌∙◌, subst, ℕ, ◌+◌, ◌<◌, ◌^◌, ℤ, false, if◌then◌else◌, List, length, arith}
use Rattle.std.specs.Prelude.{Option, Some, None, Ok, Err}
use Rattle.std.specs.List.{find}
use Rattle.rpc_log.specs.Logs.{responses_of}
use Rattle.rpc_msg.specs.declared.shared.Limits.{Limits}
use Rattle.rpc_talk.specs.Parts.{held_by, parts_of}
use Rattle.rpc_end.specs.Ends.{EndState, is_closed, said}
use Rattle.rpc_client.specs.declared.error.AbortError.{AbortError}
use Rattle.rpc_client.specs.declared.error.AbortError.TheVariants as refused
use Rattle.rpc_client.specs.Clients.{ClientState, IsAborted, RefusesAbort as RefusesClient}
use Rattle.rpc_client.specs.Kept.{IsKept, KeepsGot, accepted_of as client_accepted, held_of, row_calls}
use Rattle.rpc_client.specs.Rows.{Row, row_aborted}
use Rattle.rpc_client.specs.Tables.{AbortsRow, abort_data, call_query, find_row, refusal_at as row_refusal}
use Rattle.rpc_client.proofs.Gots.{running}
use Rattle.rpc_client.proofs.TableSteps.{found_id}
use Rattle.rpc_book.specs.declared.made.Made.{Made}
use Rattle.rpc_book.specs.Books.{BookState, Booked, changed, find_booked, held_in}
use Rattle.rpc_book.specs.Calls.{Aborts, IsAbortedAt, RefusesCut, cut_refusal, cut_to, held_refusal, refusal_for}
use Rattle.rpc_book.specs.Inside.{AreMadeOf, IsBook, IsMadeOf, IsWaiting, book_of, cut_behind, dispatches, has_made_id}
use Rattle.rpc_book.proofs.Few.{few_parts}
use Rattle.rpc_book.proofs.Same.{by_found, held_same, kept_row, parts_counted, refusal_row}
use Rattle.rpc_book.proofs.Ties.{changed_both, known, known_by, row_of}

module _ (c : ClientState) (made : List Made) (got : List ℕ) (is : IsBook c made got) (id : ℤ) where
  abbrev book : BookState
  book = book_of c made got

  -- while it is open
  refusal_same : is_closed c.link ≡ false → refusal_for book (find_booked id book.made) ≡ row_refusal (find_row id c.rows)
  refusal_same open_ = by_found c made got is id (λ d r. refusal_for book d ≡ row_refusal r) (λ none missing. refl) there
    where
      there : (one : Made) (row : Row) → IsMadeOf one row → find_row id c.rows ≡ Some row → find_booked id book.made ≡ Some (known one row)
          → refusal_for book (Some (known one row)) ≡ row_refusal (Some row)
      there one row of found missing =
          let answers = responses_of row.id (client_accepted c.link.max c.rows got) in
          let kept = subst (λ b. IsKept c.link.max b answers row) open_ (kept_row c made got is id row found) in
          ap (λ d. held_refusal d.kind (held_in book (known one row))) of.desc
          ∙ (ap (held_refusal row.desc.kind) (held_same c made got is one row of)
          ∙ (ap (λ b. held_refusal row.desc.kind (held_by (parts_of c.link.max row.desc answers) row.cut b)) open_ ∙ sym (refusal_row c.link.max answers row kept)))

  is_open : is_closed c.link ≡ false → cut_refusal book id ≡ row_refusal (find_row id c.rows)
  is_open open_ = ap (λ b. if b then Some refused.Closed else refusal_for book (find_booked id book.made)) open_ ∙ refusal_same open_

  refuses : (why : AbortError) → RefusesClient c id why → RefusesCut (cut_refusal book id) why
  refuses refused.Closed closed = ap (λ b. if b then Some refused.Closed else refusal_for book (find_booked id book.made)) closed
  refuses refused.Stranger (open_, is) = is_open open_ ∙ is
  refuses refused.AlreadyEnded (open_, is) = is_open open_ ∙ is
  refuses refused.NotStream (open_, is) = is_open open_ ∙ is
  refuses refused.NotBegun (open_, is) = is_open open_ ∙ is
  refuses refused.OutOfMemory any = tt

  -- ---- a row that is cut

  cut_row : (row : Row) (waiting : ℕ) → waiting ≡ length row.waiting → (one : Made) → IsMadeOf one row
      → IsMadeOf (cut_behind waiting one) (row_aborted row)
  cut_row row waiting count one of =
      record { id = of.id; desc = of.desc; cut = ap (λ n. Some (n + waiting)) of.taken ∙ ap (λ n. Some (row.taken + n)) count; taken = of.taken }

  -- behind the parts that it holds
  cut_held : (row : Row) → find_row id c.rows ≡ Some row → (one0 : Made) → IsMadeOf one0 row → (waiting : ℕ) → waiting ≡ length row.waiting → (one : Made) → IsMadeOf one row
      → known (cut_behind waiting one) (row_aborted row) ≡ cut_to (length (held_in book (known one0 row)).parts) (known one row)
  cut_held row found one0 of0 waiting count one of =
      let answers = responses_of row.id (client_accepted c.link.max c.rows got) in
      let kept = kept_row c made got is id row found in
      let sum : row.taken + length row.waiting ≡ length (held_of c got row).parts = parts_counted c.link.max (is_closed c.link) answers row kept in
      let held : length (held_in book (known one0 row)).parts ≡ length (held_of c got row).parts = ap (λ h. length h.parts) (held_same c made got is one0 row of0) in
      let same : one.taken ≡ row.taken = of.taken in
      let at : one.taken + waiting ≡ length (held_in book (known one0 row)).parts = omega (arith, sum, held, same, count) in
      ap (λ n. known_by (record one { cut = Some n }) row.handed) at

  abbrev pub cuts : ℕ → List Made
  cuts waiting = changed (has_made_id id) (cut_behind waiting) made

  abbrev Cuts : ℕ → ClientState → Option Booked → Type 0
  Cuts waiting new d = AreMadeOf (cuts waiting) new.rows × Aborts book id d (book_of new (cuts waiting) got)

  aborted : (waiting : ℕ) (new : ClientState) → IsWaiting (find_row id c.rows) waiting → new.limits ≡ c.limits → row_refusal (find_row id c.rows) ≡ None
      → AbortsRow c.rows c.link (find_row id c.rows) new.rows new.link → Cuts waiting new (find_booked id book.made)
  aborted waiting new =
      by_found c made got is id
      (λ d r. IsWaiting r waiting → new.limits ≡ c.limits → row_refusal r ≡ None → AbortsRow c.rows c.link r new.rows new.link → Cuts waiting new d)
      (λ none missing any limits free aborts. absurd aborts) there
    where
      there : (one : Made) (row : Row) → IsMadeOf one row → find_row id c.rows ≡ Some row → find_booked id book.made ≡ Some (known one row)
          → IsWaiting (Some row) waiting → new.limits ≡ c.limits → row_refusal (Some row) ≡ None → AbortsRow c.rows c.link (Some row) new.rows new.link
          → Cuts waiting new (Some (known one row))
      there one row of found missing waits limits free (rows, link) =
          let count = waits (running row free).0 in
          let its = found_id id c.rows row found in
          let cut = cut_to (length (held_in book (known one row)).parts) in
          let both = changed_both id (cut_behind waiting) cut row (row_aborted row) its
          (λ x ofx. (cut_row row waiting count x ofx, cut_held row found one of waiting count x ofx)) made c.rows is.dispatches found in
          let query = ap (λ d. call_query d row.id abort_data) (sym of.desc) ∙ ap (λ i. call_query one.desc i abort_data) its in (
            subst (AreMadeOf (cuts waiting)) (sym rows) both.0,
            by_parts new.limits new.rows new.link limits (ap (dispatches (cuts waiting)) rows ∙ both.1) (link ∙ ap (said c.link) query),
          )
        where
          by_parts : (l : Limits) (rs : List Row) (e : EndState) → l ≡ c.limits → {made2 : List Booked} → dispatches (cuts waiting) rs ≡ made2 → {e2 : EndState} → e ≡ e2
              → ◌≡◌ {A = BookState} (record { limits = l; made = dispatches (cuts waiting) rs; got = got; link = e }) (record { limits = c.limits; made = made2; got = got; link = e2 })
          by_parts l rs e one two three = cc

  -- ---- both

  pub abort_kept : (waiting : ℕ) (new : ClientState) → IsWaiting (find_row id c.rows) waiting → IsAborted c id (Ok tt) new → KeepsGot c new → IsBook new (cuts waiting) got
  abort_kept waiting new waits (open_, (free, aborts), limits) keeps =
      record { has = keeps got is.has; dispatches = (aborted waiting new waits limits free aborts).0; room = is.room }

  pub abort_book : (waiting : ℕ) (new : ClientState) → IsWaiting (find_row id c.rows) waiting → IsAborted c id (Ok tt) new
      → IsAbortedAt book id (Ok tt) (book_of new (cuts waiting) got)
  abort_book waiting new waits (open_, (free, aborts), limits) = (is_open open_ ∙ free, (aborted waiting new waits limits free aborts).1)

  pub abort_refused : (why : AbortError) (new : ClientState) → IsAborted c id (Err why) new → IsAbortedAt book id (Err why) (book_of new made got)
  abort_refused why new (refused_by, same) = (refuses why refused_by, ap (λ x. book_of x made got) same)

  pub cut_few : (waiting : ℕ) → IsWaiting (find_row id c.rows) waiting → row_refusal (find_row id c.rows) ≡ None → (one : Made) → find (has_made_id id) made ≡ Some one
      → one.taken + waiting < 2 ^ 64
  cut_few waiting waits free one here =
      let (row, of, found) = row_of id one made c.rows is.dispatches here in
      let kept = kept_row c made got is id row found in
      let few = few_parts c.link.max (row_calls c.rows) got row.id row.desc row.cut in
      let room = is.room in
      let sum = parts_counted c.link.max (is_closed c.link) (responses_of row.id (client_accepted c.link.max c.rows got)) row kept in
      let here_free : row_refusal (Some row) ≡ None = ap row_refusal (sym found) ∙ free in
      let count : waiting ≡ length row.waiting = subst (λ o. IsWaiting o waiting) found waits (running row here_free).0 in
      let same = of.taken in
      omega (arith, few, room, sum, count, same)
