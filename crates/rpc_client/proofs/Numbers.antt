-- Rows with the same ids and procedures are the same calls.
use Rattle.std.proofs.Common.{◌≡◌, ◌≢◌, refl, sym, ap, ◌∙◌, subst, ℕ, ◌+◌, ℤ, Bool, true, false, not, if◌then◌else◌, List, [], ◌∷◌, ◌++◌, map, arith}
use Rattle.std.specs.List.{count_by}
use Rattle.std.proofs.lemmas.List.Sums.{sum_by-append}
use Rattle.readers.specs.Reader.{Each}
use Rattle.rpc_talk.specs.Parts.{is_tracked}
use Rattle.rpc_talk.specs.Welcome.{Call}
use Rattle.rpc_client.specs.Kept.{row_call, row_calls, HaveOwnIds, AreCalls, IsNumberedBy}
use Rattle.rpc_client.specs.Rows.{Row, IsCallable}
use Rattle.rpc_client.specs.Tables.{is_answered, is_unanswered}

count_cons : (p : Row → Bool) (row : Row) (rows : List Row) → count_by p (row ∷ rows) ≡ (if p row then 1 else 0) + count_by p rows
count_cons p row rows =
    let sum : count_by p ((row ∷ []) ++ rows) ≡ (0 + (if p row then 1 else 0)) + count_by p rows = sum_by-append (λ x. if p x then 1 else 0) (row ∷ []) rows in
    omega (arith, sum)

heads : (a b : Row) (rows new : List Row) → row_calls (a ∷ new) ≡ row_calls (b ∷ rows) → (a.id ≡ b.id) × (a.desc ≡ b.desc) × (row_calls new ≡ row_calls rows)
heads a b rows new is =
    let call : row_call a ≡ row_call b = cc in
    let rest : row_calls new ≡ row_calls rows = cc in
    (ap (λ c. c.id) call, ap (λ c. c.desc) call, rest)

count_same : (p : Bool → Bool) (new rows : List Row) → row_calls new ≡ row_calls rows → count_by (λ row. p (is_tracked row.desc.kind)) new ≡ count_by (λ row. p (is_tracked row.desc.kind)) rows
count_same p [] [] is = refl
count_same p [] (row ∷ rows) is = absurd cc
count_same p (row ∷ new) [] is = absurd cc
count_same p (a ∷ new) (b ∷ rows) is =
    let (id, desc, rest) = heads a b rows new is in
    let one : ◌≡◌ {A = ℕ} (if p (is_tracked a.desc.kind) then 1 else 0) (if p (is_tracked b.desc.kind) then 1 else 0) = ap (λ d. if p (is_tracked d.kind) then 1 else 0) desc in
    let both = count_same p new rows rest in
    let left = count_cons (λ row. p (is_tracked row.desc.kind)) a new in
    let right = count_cons (λ row. p (is_tracked row.desc.kind)) b rows in
    omega (arith, one, both, left, right)

each_same : (t o : ℕ) (new rows : List Row) → row_calls new ≡ row_calls rows → Each (λ row. IsNumberedBy (is_tracked row.desc.kind) t o row.id) rows
    → Each (λ row. IsNumberedBy (is_tracked row.desc.kind) t o row.id) new
each_same t o [] [] is all = tt
each_same t o [] (row ∷ rows) is all = absurd cc
each_same t o (row ∷ new) [] is all = absurd cc
each_same t o (a ∷ new) (b ∷ rows) is (here, all) =
    let (id, desc, rest) = heads a b rows new is in
    (subst (λ i. IsNumberedBy (is_tracked a.desc.kind) t o i) (sym id) (subst (λ d. IsNumberedBy (is_tracked d.kind) t o b.id) (sym desc) here), each_same t o new rows rest all)

differ_same : (id : ℤ) (new rows : List Row) → row_calls new ≡ row_calls rows → Each (λ row. row.id ≢ id) rows → Each (λ row. row.id ≢ id) new
differ_same id [] [] is all = tt
differ_same id [] (row ∷ rows) is all = absurd cc
differ_same id (row ∷ new) [] is all = absurd cc
differ_same id (a ∷ new) (b ∷ rows) is (here, all) =
    let (same, desc, rest) = heads a b rows new is in
    (λ e. here (sym same ∙ e), differ_same id new rows rest all)

apart_same : (new rows : List Row) → row_calls new ≡ row_calls rows → HaveOwnIds rows → HaveOwnIds new
apart_same [] [] is apart = tt
apart_same [] (row ∷ rows) is apart = absurd cc
apart_same (row ∷ new) [] is apart = absurd cc
apart_same (a ∷ new) (b ∷ rows) is (here, apart) =
    let (same, desc, rest) = heads a b rows new is in
    (subst (λ i. Each (λ other. other.id ≢ i) new) (sym same) (differ_same b.id new rows rest here), apart_same new rows rest apart)

callable_same : (new rows : List Row) → row_calls new ≡ row_calls rows → Each (λ row. IsCallable row.desc) rows → Each (λ row. IsCallable row.desc) new
callable_same [] [] is all = tt
callable_same [] (row ∷ rows) is all = absurd cc
callable_same (row ∷ new) [] is all = absurd cc
callable_same (a ∷ new) (b ∷ rows) is (here, all) =
    let (id, desc, rest) = heads a b rows new is in
    (subst IsCallable (sym desc) here, callable_same new rows rest all)

pub same_calls_are : (new rows : List Row) → row_calls new ≡ row_calls rows → AreCalls rows → AreCalls new
same_calls_are new rows is calls = record {
  callable = callable_same new rows is calls.callable;
  each = subst (λ t. Each (λ row. IsNumberedBy (is_tracked row.desc.kind) t (count_by is_unanswered new) row.id) new) (sym (count_same (λ b. b) new rows is))
      (subst (λ o. Each (λ row. IsNumberedBy (is_tracked row.desc.kind) (count_by is_answered rows) o row.id) new) (sym (count_same not new rows is))
      (each_same (count_by is_answered rows) (count_by is_unanswered rows) new rows is calls.each));
  apart = apart_same new rows is calls.apart;
}
