-- What a take makes of a book, and what is shown.
use Rattle.std.proofs.Common.{◌≡◌, refl, sym, ap, ◌∙◌, subst, ℕ, ◌+◌, ◌<◌, ◌^◌, ℤ, Bool, true, false, if◌then◌else◌, List, [], ◌∷◌, drop, arith}
use Rattle.std.specs.Prelude.{Option, Some, None}
use Rattle.std.specs.List.{find}
use Rattle.rpc_msg.specs.declared.shared.Ending.{Ending}
use Rattle.rpc_msg.specs.declared.shared.Ending.TheVariants as ending
use Rattle.rpc_msg.specs.declared.shared.Part.{Part}
use Rattle.rpc_msg.specs.declared.shared.Received.{Received}
use Rattle.rpc_log.specs.Logs.{responses_of}
use Rattle.rpc_talk.specs.Parts.{Held}
use Rattle.rpc_end.specs.Ends.{is_closed}
use Rattle.rpc_client.specs.declared.entry.Took.{Took}
use Rattle.rpc_client.specs.declared.entry.Took.TheVariants as took
use Rattle.rpc_client.specs.Clients.{ClientState, with_rows}
use Rattle.rpc_client.specs.Kept.{KeepsGot, ReceivesHeld, ShowsHeld, TakesHeld, TookHeld, accepted_of as client_accepted, held_of, row_calls}
use Rattle.rpc_client.specs.Rows.{Row, after_take, answer_taken, ending_left, is_sent, row_taken, took_of}
use Rattle.rpc_client.specs.Tables.{RowTaken, TakesRow, find_row}
use Rattle.rpc_client.proofs.Places.{take_stays}
use Rattle.rpc_client.proofs.TableSteps.{found_id}
use Rattle.rpc_book.specs.declared.made.Made.{Made}
use Rattle.rpc_book.specs.Books.{BookState, changed, find_booked, has_booked_id, with_made}
use Rattle.rpc_book.specs.Calls.{IsReceived, IsTakenOf, ShowsBooked, after_took, answer_for, with_count, is_handed, took_next}
use Rattle.rpc_book.specs.Inside.{AreMadeOf, IsBook, IsMadeOf, book_of, dispatches, has_made_id}
use Rattle.rpc_book.proofs.Few.{few_parts}
use Rattle.rpc_book.proofs.Lists.{changed_same}
use Rattle.rpc_book.proofs.Same.{by_found, held_same, kept_row, nothing_left}
use Rattle.rpc_book.proofs.Ties.{changed_both, known, known_by, row_of}

-- ---- one row

abbrev Counts : Row → Made → Took → Row → Type 0
Counts row one answer new = IsMadeOf (with_count answer one) new × (new.handed ≡ is_handed row.handed answer)

-- what is counted of a dispatch is what its row counts
taken_row : (closed : Bool) (row : Row) (one : Made) → IsMadeOf one row
    → IsMadeOf (with_count (answer_taken closed row) one) (after_take closed row) × ((after_take closed row).handed ≡ is_handed row.handed (answer_taken closed row))
taken_row closed row one of = by row.waiting (ending_left row.ending closed) row.handed refl
  where
    stays : (new : Row) → new.id ≡ row.id → new.desc ≡ row.desc → new.cut ≡ row.cut → new.taken ≡ row.taken → IsMadeOf one new
    stays new id desc cut taken = record { id = of.id ∙ sym id; desc = of.desc ∙ sym desc; cut = of.cut ∙ sym cut; taken = of.taken ∙ sym taken }

    out : (e : Ending) (b : Bool) → is_sent e ≡ b → Counts row one (took.Ended e) (if b then record row { ending = Some ending.Sent } else record row { ending = None; handed = true })
    out e true is = (stays _ refl refl refl refl, sym (ap (λ x. if x then row.handed else true) is))
    out e false is = (stays _ refl refl refl refl, sym (ap (λ x. if x then row.handed else true) is))

    by : (ps : List Part) (e : Option Ending) (h : Bool) → row.handed ≡ h → Counts row one (took_of ps e h) (row_taken row ps e h)
    by (p ∷ ps) e h is = (record { id = of.id; desc = of.desc; cut = of.cut; taken = ap (λ n. n + 1) of.taken }, refl)
    by [] e true is = (of, refl)
    by [] None false is = (of, refl)
    by [] (Some e) false is = out e (is_sent e) refl

-- an ending that was handed out has no part before it
told_next : (left : List Part) (h : Held) (handed : Bool) → (handed ≡ true → left ≡ []) → took_of left h.ending handed ≡ took_next handed left h
told_next left h true none = ap (λ ps. took_of ps h.ending true) (none refl)
told_next left h false none = refl

-- ---- a book

module _ (c : ClientState) (made : List Made) (got : List ℕ) (is : IsBook c made got) (id : ℤ) where
  abbrev book : BookState
  book = book_of c made got

  take_answer : (answer : Took) → TakesHeld c id answer → answer ≡ answer_for book (find_booked id book.made)
  take_answer answer holds = by_found c made got is id (λ d r. TookHeld c got answer r → answer ≡ answer_for book d) (λ none missing stranger. stranger) told (holds got is.has)
    where
      told : (one : Made) (row : Row) → IsMadeOf one row → find_row id c.rows ≡ Some row → find_booked id book.made ≡ Some (known one row)
          → answer ≡ took_of (drop row.taken (held_of c got row).parts) (held_of c got row).ending row.handed → answer ≡ answer_for book (Some (known one row))
      told one row of found missing row_told =
          let kept = kept_row c made got is id row found in
          row_told
          ∙ (told_next (drop row.taken (held_of c got row).parts) (held_of c got row) row.handed
          (nothing_left c.link.max (is_closed c.link) (responses_of row.id (client_accepted c.link.max c.rows got)) row kept)
          ∙ (ap (λ n. took_next row.handed (drop n (held_of c got row).parts) (held_of c got row)) (sym of.taken)
          ∙ ap (λ h. took_next row.handed (drop one.taken h.parts) h) (sym (held_same c made got is one row of))))

  abbrev Takes : Took → List Row → Type 0
  Takes answer rows = AreMadeOf (changed (has_made_id id) (with_count answer) made) rows
      × (dispatches (changed (has_made_id id) (with_count answer) made) rows ≡ changed (has_booked_id id) (after_took answer) book.made)

  take_rows : (answer : Took) (new : List Row) → TakesRow (is_closed c.link) c.rows id answer new → Takes answer new
  take_rows answer new takes = by (find_row id c.rows) refl takes
    where
      by : (o : Option Row) → find_row id c.rows ≡ o → RowTaken (is_closed c.link) c.rows answer new o → Takes answer new
      by None found (stranger, same) =
          subst (λ a. Takes a new) (sym stranger)
          (subst (λ rows. Takes took.Stranger rows) (sym same) (
            subst (λ ms. AreMadeOf ms c.rows) (sym (changed_same (has_made_id id) (λ m. m) made (λ m. refl))) is.dispatches,
            ap (λ ms. dispatches ms c.rows) (changed_same (has_made_id id) (λ m. m) made (λ m. refl))
                ∙ sym (changed_same (has_booked_id id) (after_took took.Stranger) book.made (λ d. refl)),
          ))
      by (Some row) found (answer_is, same) =
          let closed = is_closed c.link in
          let after = after_take closed row in
          let its : after.id ≡ id = (take_stays closed row).0 ∙ found_id id c.rows row found in
          subst (λ a. Takes a new) (sym answer_is)
          (subst (λ rows. Takes (answer_taken closed row) rows) (sym same)
          (changed_both id (with_count (answer_taken closed row)) (after_took (answer_taken closed row)) row after its
          (λ one of. ((taken_row closed row one of).0, ap (known_by (with_count (answer_taken closed row) one)) (taken_row closed row one of).1)) made c.rows is.dispatches found))

  pub take_kept : (answer : Took) (new : ClientState) → TakesRow (is_closed c.link) c.rows id answer new.rows → new ≡ with_rows c new.rows → KeepsGot c new
      → IsBook new (changed (has_made_id id) (with_count answer) made) got
  take_kept answer new takes same keeps = record { has = keeps got is.has; dispatches = (take_rows answer new.rows takes).0; room = is.room }

  pub take_book : (answer : Took) (new : ClientState) → TakesRow (is_closed c.link) c.rows id answer new.rows → new ≡ with_rows c new.rows → TakesHeld c id answer
      → IsTakenOf book id answer (book_of new (changed (has_made_id id) (with_count answer) made) got)
  take_book answer new takes same holds = (
    take_answer answer holds,
    ap (λ x. book_of x (changed (has_made_id id) (with_count answer) made) got) same
        ∙ ap (λ ds. with_made book ds) (take_rows answer new.rows takes).1,
  )

  -- ---- what is shown

  pub shown_book : (shown : Option Received) → ReceivesHeld c id shown → IsReceived book id shown
  shown_book shown holds = by_found c made got is id (λ d r. ShowsHeld c got shown r → ShowsBooked book shown d) (λ none missing s. s) (shows shown) (holds got is.has)
    where
      shows : (s : Option Received) (one : Made) (row : Row) → IsMadeOf one row → find_row id c.rows ≡ Some row → find_booked id book.made ≡ Some (known one row)
          → ShowsHeld c got s (Some row) → ShowsBooked book s (Some (known one row))
      shows None one row of found missing handed = handed
      shows (Some r) one row of found missing (left, parts, ending) = (
        left,
        parts ∙ (ap (λ n. drop n (held_of c got row).parts) (sym of.taken) ∙ ap (λ h. drop one.taken h.parts) (sym (held_same c made got is one row of))),
        ending ∙ ap (λ h. h.ending) (sym (held_same c made got is one row of)),
      )

  -- ---- how many parts there are

  pub taken_few : (one : Made) → find (has_made_id id) made ≡ Some one → one.taken + 1 < 2 ^ 64
  taken_few one here =
      let (row, of, found) = row_of id one made c.rows is.dispatches here in
      let kept = kept_row c made got is id row found in
      let few = few_parts c.link.max (row_calls c.rows) got row.id row.desc row.cut in
      let room = is.room in
      let within = kept.holds.taken in
      let same = of.taken in
      omega (arith, few, room, within, same)
