-- What a book has is what its client has.
use Rattle.std.proofs.Common.{◌≡◌, refl, sym, ap, ◌∙◌, subst, ℕ, ◌+◌, ◌-◌, ◌*◌, ◌≤◌, ℤ, Bool, true, false, not, ◌&&◌, ◌||◌, if◌then◌else◌, nat_le, List, [], length, drop, arith}
use Rattle.std.proofs.lemmas.List.{length-drop}
use Rattle.std.specs.Prelude.{Option, Some, None}
use Rattle.std.specs.List.{count_by}
use Rattle.std.specs.Option.{is_some}
use Rattle.rpc_msg.specs.declared.message.Answer.{Answer}
use Rattle.rpc_msg.specs.declared.message.Message.{Message}
use Rattle.rpc_log.specs.Logs.{log_of, responses_of}
use Rattle.rpc_schema.specs.declared.desc.Kind.{Kind}
use Rattle.rpc_schema.specs.declared.desc.Kind.TheVariants.{Plain, OneWay, Pipe, State}
use Rattle.rpc_schema.specs.declared.desc.RpcDesc.{RpcDesc}
use Rattle.rpc_talk.specs.Parts.{CallParts, cut_ending, cut_parts, held_by, is_ended, is_stream, is_tracked, parts_of}
use Rattle.rpc_talk.specs.Welcome.{accepted}
use Rattle.rpc_end.specs.Ends.{is_closed}
use Rattle.rpc_client.specs.declared.entry.Phase.{Phase}
use Rattle.rpc_client.specs.declared.entry.Phase.TheVariants as phase
use Rattle.rpc_client.specs.declared.error.AbortError.{AbortError}
use Rattle.rpc_client.specs.declared.error.AbortError.TheVariants as refused
use Rattle.rpc_client.specs.Clients.{ClientState, is_full as is_client_full}
use Rattle.rpc_client.specs.Kept.{IsCutWithin, IsKept, IsPhase, accepted_of as client_accepted, ending_kept, held_of, row_calls}
use Rattle.rpc_client.specs.Rows.{Row, abort_refusal, is_at_first, is_done}
use Rattle.rpc_client.specs.Tables.{call_number as row_number, find_row, is_answered as is_row_answered, is_unanswered as is_row_unanswered, is_waited_for, next_number as next_row_number}
use Rattle.rpc_client.proofs.Gots.{each_found}
use Rattle.rpc_book.specs.declared.made.Made.{Made}
use Rattle.rpc_book.specs.Books.{BookState, Booked, IsSoundBooked, accepted_in, calls_of, find_booked, held_in, parts_booked}
use Rattle.rpc_book.specs.Calls.{id_number, has_part, held_refusal, awaits_answer, is_book_full, is_one_way, is_unfinished, next_id_number}
use Rattle.rpc_book.specs.Inside.{IsBook, IsMadeOf, book_of}
use Rattle.rpc_book.proofs.Lists.{each_any}
use Rattle.rpc_book.proofs.Ties.{FoundBoth, calls_both, count_both, found_both, known, known_by}

-- ---- one row

-- nothing waits of a row whose ending was handed out
pub nothing_left : (m : ℕ) (closed : Bool) (answers : List Answer) (row : Row) → IsKept m closed answers row → row.handed ≡ true
    → drop row.taken (cut_parts row.cut (parts_of m row.desc answers).parts) ≡ []
nothing_left m closed answers row kept handed = sym kept.holds.waiting ∙ kept.holds.over handed

-- it has an ending if it was handed out or is left
has_ending : (m : ℕ) (answers : List Answer) (row : Row) → IsKept m false answers row
    → (row.handed || is_some row.ending) ≡ is_some (cut_ending row.cut (parts_of m row.desc answers).mark false)
has_ending m answers row kept = by row.handed refl
  where
    by : (h : Bool) → row.handed ≡ h → (h || is_some row.ending) ≡ is_some (cut_ending row.cut (parts_of m row.desc answers).mark false)
    by true is = sym (kept.holds.handed is)
    by false is = ap is_some (kept.holds.ending ∙ ap (λ b. ending_kept b (cut_ending row.cut (parts_of m row.desc answers).mark false)) is)

-- a stream without an ending is at its first answer where it has no part
at_first : (phase : Phase) (p : CallParts) (cut : Option ℕ) → IsPhase true phase p → is_some (cut_ending cut p.mark false) ≡ false
    → is_at_first phase ≡ not (has_part (cut_parts cut p.parts))
at_first phase p (Some c) at none = absurd cc
at_first phase.First p None (on, is) none = sym (ap (λ ps. not (has_part ps)) is)
at_first phase.Begun p None (on, (first, rest, is)) none = sym (ap (λ ps. not (has_part ps)) is)
at_first phase.Done p None (e, is) none = absurd (let line : true ≡ false = ap (λ k. is_some (cut_ending None k false)) (sym is) ∙ none in cc)

stream_tracked : (kind : Kind) → is_stream kind ≡ true → is_tracked kind ≡ true
stream_tracked Plain is = absurd cc
stream_tracked OneWay is = absurd cc
stream_tracked Pipe is = refl
stream_tracked State is = refl

abbrev refuses : Bool → Bool → Bool → Option AbortError
refuses ended stream first = if ended then Some refused.AlreadyEnded else if not stream then Some refused.NotStream else if first then Some refused.NotBegun else None

refuses_same : (a b s f g : Bool) → a ≡ b → (b ≡ false → s ≡ true → f ≡ g) → refuses a s f ≡ refuses b s g
refuses_same a true s f g is first = ap (λ x. refuses x s f) is
refuses_same a false false f g is first = ap (λ x. refuses x false f) is
refuses_same a false true f g is first = ap (λ x. refuses x true f) is ∙ ap (refuses false true) (first refl refl)

pub refusal_row : (m : ℕ) (answers : List Answer) (row : Row) → IsKept m false answers row
    → abort_refusal row ≡ held_refusal row.desc.kind (held_by (parts_of m row.desc answers) row.cut false)
refusal_row m answers row kept =
    let p = parts_of m row.desc answers in
    refuses_same (row.handed || is_some row.ending) (is_some (cut_ending row.cut p.mark false)) (is_stream row.desc.kind) (is_at_first row.phase) (not (has_part (cut_parts row.cut p.parts)))
    (has_ending m answers row kept)
    (λ none stream. at_first row.phase p row.cut (subst (λ b. IsPhase b row.phase p) (stream_tracked row.desc.kind stream) kept.phase) none)

-- so many parts a row has, of which some were taken and the others wait
pub parts_counted : (m : ℕ) (closed : Bool) (answers : List Answer) (row : Row) → IsKept m closed answers row
    → row.taken + length row.waiting ≡ length (cut_parts row.cut (parts_of m row.desc answers).parts)
parts_counted m closed answers row kept =
    let ps = cut_parts row.cut (parts_of m row.desc answers).parts in
    let left : length row.waiting ≡ length ps - row.taken = ap length kept.holds.waiting ∙ length-drop row.taken ps in
    let within : row.taken ≤ length ps = kept.holds.taken in
    omega (arith, left, within)

-- a row that waits for an answer has no ending yet
unfinished_row : (tracked : Bool) (phase : Phase) (p : CallParts) → IsPhase tracked phase p → (tracked && not (is_done phase)) ≡ (tracked && not (is_ended p.mark))
unfinished_row false phase p at = refl
unfinished_row true phase.First p (on, none) = ap (λ k. not (is_ended k)) (sym on)
unfinished_row true phase.Begun p (on, some) = ap (λ k. not (is_ended k)) (sym on)
unfinished_row true phase.Done p (e, is) = ap (λ k. not (is_ended k)) (sym is)

-- ---- a book

module _ (c : ClientState) (made : List Made) (got : List ℕ) (is : IsBook c made got) where
  abbrev pub book : BookState
  book = book_of c made got

  abbrev m : ℕ
  m = c.limits.max_message

  abbrev log : List Message
  log = client_accepted c.link.max c.rows got

  pub calls_same : calls_of book.made ≡ row_calls c.rows
  calls_same = calls_both made c.rows is.dispatches

  pub accepted_same : accepted_in book ≡ client_accepted c.link.max c.rows got
  accepted_same =
      ap (λ n. accepted n (calls_of book.made) (log_of n got)) (sym is.has.max) ∙ ap (λ cs. accepted c.link.max cs (log_of c.link.max got)) calls_same

  module _ (one : Made) (row : Row) (of : IsMadeOf one row) where
    pub parts_same : parts_booked book (known one row) ≡ parts_of c.link.max row.desc (responses_of row.id log)
    parts_same =
        ap (λ n. parts_of n one.desc (responses_of one.id (accepted_in book))) (sym is.has.max)
        ∙ (ap (λ a. parts_of c.link.max one.desc (responses_of one.id a)) accepted_same
        ∙ (ap (λ i. parts_of c.link.max one.desc (responses_of i log)) of.id
        ∙ ap (λ d. parts_of c.link.max d (responses_of row.id log)) of.desc))

    pub held_same : held_in book (known one row) ≡ held_of c got row
    held_same =
        ap (λ p. held_by p one.cut (is_closed c.link)) parts_same
        ∙ ap (λ cut. held_by (parts_of c.link.max row.desc (responses_of row.id log)) cut (is_closed c.link)) of.cut

    pub sound_same : IsKept c.link.max (is_closed c.link) (responses_of row.id log) row → IsSoundBooked book (known one row)
    sound_same kept = record {
      taken = subst (λ n. n ≤ length (held_in book (known one row)).parts) (sym of.taken)
          (subst (λ h. row.taken ≤ length h.parts) (sym held_same) kept.holds.taken);
      cut = subst (λ cut. IsCutWithin cut (parts_booked book (known one row)).parts) (sym of.cut)
          (subst (λ p. IsCutWithin row.cut p.parts) (sym parts_same) kept.holds.cut);
      handed = λ out. (
        ap (λ n. drop n (held_in book (known one row)).parts) of.taken
            ∙ (ap (λ h. drop row.taken h.parts) held_same ∙ nothing_left c.link.max (is_closed c.link) (responses_of row.id log) row kept out),
        ap (λ h. is_some h.ending) held_same ∙ kept.holds.handed out,
      );
    }

    unfinished_same : IsKept c.link.max (is_closed c.link) (responses_of row.id log) row → is_unfinished book (known one row) ≡ is_waited_for row
    unfinished_same kept =
        let p = parts_of c.link.max row.desc (responses_of row.id log) in
        ap (λ d. is_tracked d.kind && not (is_ended (parts_booked book (known one row)).mark)) of.desc
        ∙ (ap (λ q. is_tracked row.desc.kind && not (is_ended q.mark)) parts_same
        ∙ sym (unfinished_row (is_tracked row.desc.kind) row.phase p kept.phase))

  -- ---- counts

  pub number_same : (kind : Kind) → next_id_number kind book.made ≡ next_row_number kind c.rows
  number_same kind = by (is_tracked kind)
    where
      answered : count_by awaits_answer book.made ≡ count_by is_row_answered c.rows
      answered = count_both awaits_answer is_row_answered (λ r. Unit {0}) (λ one row of any. ap (λ d. is_tracked d.kind) of.desc) made c.rows is.dispatches (each_any c.rows)

      unanswered : count_by is_one_way book.made ≡ count_by is_row_unanswered c.rows
      unanswered = count_both is_one_way is_row_unanswered (λ r. Unit {0}) (λ one row of any. ap (λ d. not (is_tracked d.kind)) of.desc) made c.rows is.dispatches (each_any c.rows)

      by : (b : Bool) → id_number b book.made ≡ row_number b c.rows
      by true = ap (λ n. 2 * n) answered
      by false = ap (λ n. 2 * n + 1) unanswered

  pub full_same : (d : RpcDesc) → is_book_full book d ≡ is_client_full c d
  full_same d =
      ap (λ n. is_tracked d.kind && nat_le c.limits.max_open n)
      (count_both (is_unfinished book) is_waited_for (λ row. IsKept c.link.max (is_closed c.link) (responses_of row.id log) row) unfinished_same made c.rows is.dispatches is.has.kept)

  -- ---- what is found

  pub kept_row : (id : ℤ) (row : Row) → find_row id c.rows ≡ Some row → IsKept c.link.max (is_closed c.link) (responses_of row.id log) row
  kept_row id row found = each_found (λ r. IsKept c.link.max (is_closed c.link) (responses_of r.id log) r) id c.rows row is.has.kept found

  -- a dispatch has the id, and the client has it as this row; or neither has it
  pub by_found : (id : ℤ) (P : Option Booked → Option Row → Type 0) → (find_row id c.rows ≡ None → find_booked id book.made ≡ None → P None None)
      → ((one : Made) (row : Row) → IsMadeOf one row → find_row id c.rows ≡ Some row → find_booked id book.made ≡ Some (known one row) → P (Some (known one row)) (Some row))
      → P (find_booked id book.made) (find_row id c.rows)
  by_found id P none some = by (find_booked id book.made) (find_row id c.rows) refl refl (found_both id made c.rows is.dispatches)
    where
      by : (d : Option Booked) (r : Option Row) → find_booked id book.made ≡ d → find_row id c.rows ≡ r → FoundBoth d r → P d r
      by None None e f both = none f e
      by None (Some row) e f both = absurd both
      by (Some d) None e f both = absurd both
      by (Some d) (Some row) e f (of, handed) =
          let d_is : d ≡ known d.made row = ap (known_by d.made) handed in
          subst (λ x. P (Some x) (Some row)) (sym d_is) (some d.made row of f (e ∙ ap Some d_is))
