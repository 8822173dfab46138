-- Where a call stands among others.
use Rattle.std.proofs.Common.{◌≡◌, refl, sym, ap, ◌∙◌, subst, ℕ, zero, suc, ◌+◌, ◌<◌, ◌≤◌, ℤ, Bool, true, false, not, ◌^◌, ◌++◌, nat_lt, if◌then◌else◌, List, [], ◌∷◌, length, get_or, set, arith}
use Rattle.std.specs.Prelude.{Option, Some, None, Result, Ok, Err, IfOk, OnErr}
use Rattle.std.specs.List.{count_by, find, position, position_or_len}
use Rattle.std.proofs.lemmas.List.Folds.{find_at}
use Rattle.std.proofs.lemmas.List.Quantifiers.{position-Some}
use Rattle.std.proofs.lemmas.Option.{slice_get_past}
use Rattle.std.proofs.lemmas.List.{set-get_or}
use Rattle.std.proofs.lemmas.List.Sums.{sum_by-append, sum_by-set}
use Rattle.std.proofs.lemmas.Bool.{ltb-false}
use Rattle.std.proofs.lemmas.Bool.Decides.{Decides-int_eq}
use Rattle.rpc_msg.specs.declared.message.Answer.{Answer}
use Rattle.rpc_msg.specs.declared.shared.CloseCause.{CloseCause}
use Rattle.rpc_msg.specs.declared.shared.CloseCause.TheVariants as cause
use Rattle.rpc_msg.specs.declared.shared.Ending.{Ending}
use Rattle.rpc_msg.specs.declared.shared.Ending.TheVariants as ending
use Rattle.rpc_msg.specs.declared.shared.Part.{Part}
use Rattle.rpc_talk.specs.Parts.{takes_reply, is_tracked}
use Rattle.rpc_talk.specs.Said.{Said, Reply, Begun, Declined, Item, Eof, Unreadable, Failed}
use Rattle.rpc_talk.specs.Welcome.{is_error}
use Rattle.rpc_client.specs.declared.entry.Took.{Took}
use Rattle.rpc_client.specs.declared.entry.Took.TheVariants as took
use Rattle.rpc_client.specs.declared.error.AbortError.{AbortError}
use Rattle.rpc_client.specs.declared.error.AbortError.TheVariants as refused
use Rattle.rpc_msg.specs.declared.message.Message.{Message}
use Rattle.rpc_end.specs.Ends.{EndState, said}
use Rattle.rpc_client.specs.Rows.{Row, abort_refusal, row_aborted, after_take, answer_taken, row_answered, ending_left, finished, is_done, is_sent, next_said, row_taken, row_told, Becomes}
use Rattle.rpc_client.specs.Tables.{abort_data, find_row, has_row_id, is_answered, is_unanswered, rows_with, call_query, refusal_at, row_heard, rows_heard, with_row, AbortsIn, AbortsRow, AreCounted, RefusedBy, RowTaken, TakesRow}

pub not_found : (id : ℤ) (rows : List Row) → position (has_row_id id) rows ≡ None → find_row id rows ≡ None
not_found id rows none = by (nat_lt (position_or_len (has_row_id id) rows) (length rows)) refl none
  where
    by : (b : Bool) → nat_lt (position_or_len (has_row_id id) rows) (length rows) ≡ b → (if b then Some (position_or_len (has_row_id id) rows) else None) ≡ None → find_row id rows ≡ None
    by true is e = absurd cc
    by false is e = find_at (has_row_id id) rows ∙ slice_get_past rows (position_or_len (has_row_id id) rows) (ltb-false (position_or_len (has_row_id id) rows) (length rows) is)

first_found : (id : ℤ) (rows : List Row) (i : ℕ) (d : Row) → i < length rows → has_row_id id (get_or rows i d) ≡ true → ((k : ℕ) → k < i → has_row_id id (get_or rows k d) ≡ false)
    → (find_row id rows ≡ Some (get_or rows i d)) × ((new : Row) → new.id ≡ id → set rows i new ≡ with_row new rows)
first_found id [] i d lt here before = absurd (omega arith)
first_found id (row ∷ rows) zero d lt here before = (
  ap (λ b. if b then Some row else find_row id rows) here,
  λ new same. sym (ap (λ b. if b then new ∷ rows else row ∷ with_row new rows) (ap (λ x. has_row_id x row) same ∙ here)),
)
first_found id (row ∷ rows) (suc i) d lt here before =
    let other : has_row_id id row ≡ false = before zero (omega arith) in
    let (found, puts) = first_found id rows i d (omega arith) here (λ k le. before (suc k) (omega arith)) in (
      ap (λ b. if b then Some row else find_row id rows) other ∙ found,
      λ new same. ap (λ t. row ∷ t) (puts new same) ∙ sym (ap (λ b. if b then new ∷ rows else row ∷ with_row new rows) (ap (λ x. has_row_id x row) same ∙ other)),
    )

pub found : (id : ℤ) (rows : List Row) (i : ℕ) (d : Row) → position (has_row_id id) rows ≡ Some i
    → (i < length rows) × (find_row id rows ≡ Some (get_or rows i d)) × ((get_or rows i d).id ≡ id) × ((new : Row) → new.id ≡ id → set rows i new ≡ with_row new rows)
found id rows i d at =
    let (lt, here, before) = position-Some (has_row_id id) rows i d at in
    let (is, puts) = first_found id rows i d lt here before in
    (lt, is, (Decides-int_eq (get_or rows i d).id id).0 here, puts)

-- ---- how many calls there are

abbrev one_if : Bool → ℕ
one_if b = if b then 1 else 0

pub count_set : (p : Row → Bool) (rows : List Row) (i : ℕ) (new d : Row) → i < length rows → p new ≡ p (get_or rows i d) → count_by p (set rows i new) ≡ count_by p rows
count_set p rows i new d lt same =
    let sum : count_by p (set rows i new) + one_if (p (get_or rows i d)) ≡ count_by p rows + one_if (p new) = sum_by-set (λ x. one_if (p x)) rows i new d lt in
    let ones : one_if (p new) ≡ one_if (p (get_or rows i d)) = ap one_if same in
    omega (arith, sum, ones)

pub count_push : (p : Row → Bool) (rows : List Row) (new : Row) → count_by p (rows ++ new ∷ []) ≡ count_by p rows + one_if (p new)
count_push p rows new =
    let sum : count_by p (rows ++ new ∷ []) ≡ count_by p rows + (0 + one_if (p new)) = sum_by-append (λ x. one_if (p x)) rows (new ∷ []) in
    omega (arith, sum)

-- a row of the same procedure counts as the one before
pub counted_set : (rows : List Row) (i : ℕ) (new d : Row) (tracked one_way : ℕ) → i < length rows → new.desc ≡ (get_or rows i d).desc → AreCounted rows tracked one_way
    → AreCounted (set rows i new) tracked one_way
counted_set rows i new d tracked one_way lt same counted = record {
  answered = counted.answered ∙ sym (count_set is_answered rows i new d lt (ap (λ x. is_tracked x.kind) same));
  unanswered = counted.unanswered ∙ sym (count_set is_unanswered rows i new d lt (ap (λ x. not (is_tracked x.kind)) same));
  few = counted.few;
  few_one_way = counted.few_one_way;
}

-- ---- what an answer, a take and an abort leave of a row

abbrev pub Stays : Row → Row → Type 0
Stays row new = (new.id ≡ row.id) × (new.desc ≡ row.desc)

abbrev pub StaysIf : Row → Result Row CloseCause → Type 0
StaysIf row (Ok new) = Stays row new
StaysIf row (Err why) = Unit {0}

told_stays : (row : Row) (s : Said) → StaysIf row (row_told row s)
told_stays row (Reply v) = (refl, refl)
told_stays row (Begun v) = (refl, refl)
told_stays row (Declined v) = (refl, refl)
told_stays row (Item v) = (refl, refl)
told_stays row Eof = (refl, refl)
told_stays row (Failed e) = (refl, refl)
told_stays row (Unreadable why) = by (takes_reply row.desc.kind)
  where
    by : (b : Bool) → StaysIf row (if b then Ok (finished row (ending.BadReply why)) else Err (cause.BadStreamData row.id why))
    by true = (refl, refl)
    by false = tt

pub answered_stays : (m : ℕ) (row : Row) (a : Answer) → StaysIf row (row_answered m row a)
answered_stays m row a = by (is_tracked row.desc.kind) (is_done row.phase) (is_error a)
  where
    by : (b d e : Bool) → StaysIf row (if b then (if d then Err (cause.UnknownId row.id) else row_told row (next_said m row a)) else (if e then Ok row else Err (cause.UnknownId row.id)))
    by true true e = tt
    by true false e = told_stays row (next_said m row a)
    by false d true = (refl, refl)
    by false d false = tt

pub take_stays : (closed : Bool) (row : Row) → Stays row (after_take closed row)
take_stays closed row = by row.waiting (ending_left row.ending closed) row.handed
  where
    by : (ps : List Part) (e : Option Ending) (h : Bool) → Stays row (row_taken row ps e h)
    by (p ∷ ps) e h = (refl, refl)
    by [] e true = (refl, refl)
    by [] None false = (refl, refl)
    by [] (Some e) false = out (is_sent e)
      where
        out : (b : Bool) → Stays row (if b then record row { ending = Some ending.Sent } else record row { ending = None; handed = true })
        out true = (refl, refl)
        out false = (refl, refl)

-- ---- the clauses of the calls of a table

pub heard_at : (m : ℕ) (rows : List Row) (i : ℕ) (id : ℤ) (a : Answer) (new d : Row) (why : Option CloseCause) → position (has_row_id id) rows ≡ Some i
    → Becomes (row_answered m (get_or rows i d) a) (get_or rows i d) why new → Becomes (rows_heard m rows id a) rows why (set rows i new)
heard_at m rows i id a new d why at became =
    let (lt, is, same, puts) = found id rows i d at in
    subst (λ o. Becomes (row_heard m rows id a o) rows why (set rows i new)) (sym is)
    (by (row_answered m (get_or rows i d) a) (answered_stays m (get_or rows i d) a) became lt same puts)
  where
    by : (r : Result Row CloseCause) → StaysIf (get_or rows i d) r → Becomes r (get_or rows i d) why new → i < length rows → (get_or rows i d).id ≡ id
        → ((x : Row) → x.id ≡ id → set rows i x ≡ with_row x rows) → Becomes (rows_with rows r) rows why (set rows i new)
    by (Ok row) (stays, desc) (none, is) lt same puts = (none, puts new (ap (λ x. x.id) is ∙ (stays ∙ same)) ∙ ap (λ x. with_row x rows) is)
    by (Err w) stays (some, is) lt same puts = (some, ap (set rows i) is ∙ set-get_or rows i d)

pub taken_at : (closed : Bool) (rows : List Row) (i : ℕ) (id : ℤ) (answer : Took) (new d : Row) → position (has_row_id id) rows ≡ Some i
    → answer ≡ answer_taken closed (get_or rows i d) → new ≡ after_take closed (get_or rows i d) → TakesRow closed rows id answer (set rows i new)
taken_at closed rows i id answer new d at row_told is =
    let (lt, here, same, puts) = found id rows i d at in
    subst (RowTaken closed rows answer (set rows i new)) (sym here)
    (row_told, puts new (ap (λ x. x.id) is ∙ ((take_stays closed (get_or rows i d)).0 ∙ same)) ∙ ap (λ x. with_row x rows) is)

-- ---- as the code has them: `items` are the rows before, and the call with the id is at a place

abbrev pub IsAtPlace : List Row → List Row → ℤ → ℕ → Row → Type 0
IsAtPlace old items id i row = (items ≡ old) × (Some i ≡ position (has_row_id id) items) × (row ≡ get_or items i row)

pub hear_done : {E : Type 0} (r : Result (Option CloseCause) E) (m : ℕ) (old items : List Row) (i : ℕ) (id : ℤ) (a : Answer) (row new : Row) → IsAtPlace old items id i row
    → IfOk r (λ why. Becomes (row_answered m row a) row why new) → IfOk r (λ why. Becomes (rows_heard m old id a) old why (set items i new))
hear_done (Ok why) m old items i id a row new (same, at, value) became =
    subst (λ xs. Becomes (rows_heard m xs id a) xs why (set items i new)) same
    (heard_at m items i id a new row why (sym at) (subst (λ x. Becomes (row_answered m x a) x why new) value became))
hear_done (Err e) m old items i id a row new place became = tt

became_stays : (r : Result Row CloseCause) (row new : Row) (why : Option CloseCause) → StaysIf row r → Becomes r row why new → new.desc ≡ row.desc
became_stays (Ok x) row new why stays (none, is) = ap (λ y. y.desc) is ∙ stays.1
became_stays (Err w) row new why stays (some, is) = ap (λ y. y.desc) is

pub hear_counted : {E : Type 0} (r : Result (Option CloseCause) E) (m : ℕ) (old items : List Row) (i : ℕ) (id : ℤ) (a : Answer) (row new : Row) (tracked one_way : ℕ) → IsAtPlace old items id i row
    → IfOk r (λ why. Becomes (row_answered m row a) row why new) → OnErr r (new ≡ row) → AreCounted items tracked one_way → AreCounted (set items i new) tracked one_way
hear_counted (Ok why) m old items i id a row new tracked one_way (same, at, value) became kept counted =
    counted_set items i new row tracked one_way (found id items i row (sym at)).0
    (became_stays (row_answered m row a) row new why (answered_stays m row a) became ∙ ap (λ x. x.desc) value) counted
hear_counted (Err e) m old items i id a row new tracked one_way (same, at, value) became kept counted =
    counted_set items i new row tracked one_way (found id items i row (sym at)).0 (ap (λ x. x.desc) kept ∙ ap (λ x. x.desc) value) counted

pub take_done : (closed : Bool) (old items : List Row) (i : ℕ) (id : ℤ) (answer : Took) (row new : Row) → IsAtPlace old items id i row
    → answer ≡ answer_taken closed row → new ≡ after_take closed row → TakesRow closed old id answer (set items i new)
take_done closed old items i id answer row new (same, at, value) row_told is =
    subst (λ xs. TakesRow closed xs id answer (set items i new)) same
    (taken_at closed items i id answer new row (sym at) (row_told ∙ ap (answer_taken closed) value) (is ∙ ap (after_take closed) value))

pub take_counted : (closed : Bool) (old items : List Row) (i : ℕ) (id : ℤ) (row new : Row) (tracked one_way : ℕ) → IsAtPlace old items id i row
    → new ≡ after_take closed row → AreCounted items tracked one_way → AreCounted (set items i new) tracked one_way
take_counted closed old items i id row new tracked one_way (same, at, value) is counted =
    counted_set items i new row tracked one_way (found id items i row (sym at)).0
    (ap (λ x. x.desc) is ∙ ((take_stays closed row).1 ∙ ap (λ x. x.desc) value)) counted

-- no call has the id

pub strange_take : (closed : Bool) (old : List Row) (id : ℤ) → find_row id old ≡ None → TakesRow closed old id took.Stranger old
strange_take closed old id none = subst (RowTaken closed old took.Stranger old) (sym none) (refl, refl)

pub strange_answer : (m : ℕ) (old : List Row) (id : ℤ) (a : Answer) → find_row id old ≡ None → Becomes (rows_heard m old id a) old (Some (cause.UnknownId id)) old
strange_answer m old id a none = subst (λ o. Becomes (row_heard m old id a o) old (Some (cause.UnknownId id)) old) (sym none) (refl, refl)

pub no_place : (old items : List Row) (id : ℤ) → items ≡ old → None ≡ position (has_row_id id) items → find_row id old ≡ None
no_place old items id same none = subst (λ xs. find_row id xs ≡ None) same (not_found id items (sym none))

pub found_place : (old items : List Row) (i : ℕ) (id : ℤ) (row : Row) → IsAtPlace old items id i row → find_row id old ≡ Some row
found_place old items i id row (same, at, value) =
    subst (λ xs. find_row id xs ≡ Some row) same ((found id items i row (sym at)).1 ∙ ap Some (sym value))

-- ---- aborts

pub abort_done : (old items : List Row) (link behind : EndState) (i : ℕ) (id : ℤ) (row new : Row) (query : Message) → IsAtPlace old items id i row
    → None ≡ abort_refusal row → new ≡ row_aborted row → query ≡ call_query row.desc row.id abort_data → behind ≡ said link query
    → AbortsIn old link id (Ok tt) (set items i new) behind
abort_done old items link behind i id row new query (same, at, value) free is asks goes =
    let (lt, here, its, puts) = found id items i row (sym at) in
    let place = found_place old items i id row (same, at, value) in (
      subst (λ o. refusal_at o ≡ None) (sym place) (sym free),
      subst (λ o. AbortsRow old link o (set items i new) behind) (sym place)
          (puts new (ap (λ x. x.id) is ∙ (ap (λ x. x.id) value ∙ its)) ∙ (ap (λ x. with_row x items) is ∙ ap (with_row (row_aborted row)) same), goes ∙ ap (said link) asks),
    )

pub refused_done : (old items : List Row) (link : EndState) (i : ℕ) (id : ℤ) (row : Row) (why : AbortError) → IsAtPlace old items id i row
    → Some why ≡ abort_refusal row → AbortsIn old link id (Err why) (set items i row) link
refused_done old items link i id row why (same, at, value) is = (
  refused_by (refusal_at (find_row id old)) why (ap refusal_at (found_place old items i id row (same, at, value)) ∙ sym is),
  ap (set items i) value ∙ (set-get_or items i row ∙ same),
  refl,
)
  where
    refused_by : (o : Option AbortError) (e : AbortError) → o ≡ Some e → RefusedBy o e
    refused_by o refused.Closed is = is
    refused_by o refused.Stranger is = is
    refused_by o refused.AlreadyEnded is = is
    refused_by o refused.NotStream is = is
    refused_by o refused.NotBegun is = is
    refused_by o refused.OutOfMemory is = tt
