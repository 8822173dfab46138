-- One more answer to a call: what it makes of the row, and whether it is welcome.
use Rattle.std.proofs.Common.{◌≡◌, refl, sym, ap, ◌∙◌, subst, ℕ, zero, suc, ◌+◌, ◌≤◌, ℤ, Bool, true, false, not, ◌&&◌, if◌then◌else◌, List, [], ◌∷◌, ◌++◌, length, take, drop, arith}
use Rattle.std.specs.Prelude.{Option, Some, None, Result, Ok, Err}
use Rattle.std.proofs.lemmas.List.{append-nil, length-append}
use Rattle.std.specs.Option.{is_some}
use Rattle.rpc_msg.specs.declared.message.Answer.{Answer}
use Rattle.rpc_msg.specs.declared.shared.CloseCause.{CloseCause}
use Rattle.rpc_msg.specs.declared.shared.CloseCause.TheVariants as cause
use Rattle.rpc_msg.specs.declared.shared.Ending.{Ending}
use Rattle.rpc_msg.specs.declared.shared.Ending.TheVariants as ending
use Rattle.rpc_msg.specs.declared.shared.Part.{Part}
use Rattle.rpc_msg.specs.declared.shared.Part.TheVariants as part
use Rattle.rpc_talk.specs.Growing.{with_more}
use Rattle.rpc_talk.specs.Parts.{Fate, Goes_on, Ends, Broken, CallParts, no_parts, cut_parts, cut_ending, ending_of}
use Rattle.rpc_client.specs.declared.entry.Phase.TheVariants as phase
use Rattle.rpc_client.specs.Kept.{ending_kept, Holds, IsAt, IsCutWithin}
use Rattle.rpc_client.specs.Rows.{Row, part_added, ending_added, with_part, finished}

-- ---- lists

pub drop_more : {X : Type 0} (n : ℕ) (xs ys : List X) → n ≤ length xs → drop n (xs ++ ys) ≡ drop n xs ++ ys
drop_more zero xs ys le = refl
drop_more (suc n) [] ys le = absurd (omega arith)
drop_more (suc n) (x ∷ xs) ys le = drop_more n xs ys (omega arith)

pub take_fewer : {X : Type 0} (n : ℕ) (xs ys : List X) → n ≤ length xs → take n (xs ++ ys) ≡ take n xs
take_fewer zero xs ys le = refl
take_fewer (suc n) [] ys le = absurd (omega arith)
take_fewer (suc n) (x ∷ xs) ys le = ap (λ t. x ∷ t) (take_fewer n xs ys (omega arith))

-- ---- a part

-- of a call that goes on
one_part : Part → CallParts
one_part x = record { parts = x ∷ []; mark = Goes_on }

pub part_holds : (p : CallParts) (row : Row) (x : Part) → p.mark ≡ Goes_on → Holds p false row → Holds (with_more p (record { parts = x ∷ []; mark = Goes_on })) false (with_part row x)
part_holds p row x on holds = by row.cut refl
  where
    by : (cut : Option ℕ) → row.cut ≡ cut → Holds (with_more p (record { parts = x ∷ []; mark = Goes_on })) false (with_part row x)
    by None is =
        let within : row.taken ≤ length p.parts = subst (λ c. row.taken ≤ length (cut_parts c p.parts)) is holds.taken in
        let waits : row.waiting ≡ drop row.taken p.parts = holds.waiting ∙ ap (λ c. drop row.taken (cut_parts c p.parts)) is in
        let kept : row.handed ≡ true → false ≡ true = λ h. sym (ap (λ m. is_some (ending_of m false)) on) ∙ (sym (ap (λ c. is_some (cut_ending c p.mark false)) is) ∙ holds.handed h) in
        record {
          waiting = ap (λ c. part_added (is_some c) row.waiting x) is ∙ (ap (λ w. w ++ x ∷ []) waits
              ∙ (sym (drop_more row.taken p.parts (x ∷ []) within) ∙ ap (λ c. drop row.taken (cut_parts c (p.parts ++ x ∷ []))) (sym is)));
          taken = subst (λ c. row.taken ≤ length (cut_parts c (p.parts ++ x ∷ []))) (sym is) (omega (arith, within, length-append p.parts (x ∷ [])));
          ending = holds.ending ∙ ap (λ m. ending_kept row.handed (cut_ending row.cut m false)) on;
          handed = λ h. absurd (let never = kept h in cc);
          over = λ h. absurd (let never = kept h in cc);
          cut = subst (λ c. IsCutWithin c (p.parts ++ x ∷ [])) (sym is) tt;
        }
    by (Some c) is =
        let short : c ≤ length p.parts = subst (λ o. IsCutWithin o p.parts) is holds.cut in
        let same : cut_parts row.cut (p.parts ++ x ∷ []) ≡ cut_parts row.cut p.parts =
        ap (λ o. cut_parts o (p.parts ++ x ∷ [])) is ∙ (take_fewer c p.parts (x ∷ []) short ∙ ap (λ o. cut_parts o p.parts) (sym is)) in
        let waits : part_added (is_some row.cut) row.waiting x ≡ row.waiting = ap (λ o. part_added (is_some o) row.waiting x) is in
        record {
          waiting = waits ∙ (holds.waiting ∙ ap (drop row.taken) (sym same));
          taken = subst (λ ps. row.taken ≤ length ps) (sym same) holds.taken;
          ending = holds.ending ∙ ap (λ m. ending_kept row.handed (cut_ending row.cut m false)) on;
          handed = λ h. ap (λ m. is_some (cut_ending row.cut m false)) (sym on) ∙ holds.handed h;
          over = λ h. waits ∙ holds.over h;
          cut = subst (λ o. IsCutWithin o (p.parts ++ x ∷ [])) (sym is) (omega (arith, short, length-append p.parts (x ∷ [])));
        }

-- ---- an ending

pub end_holds : (p : CallParts) (row : Row) (e : Ending) → p.mark ≡ Goes_on → Holds p false row → Holds (with_more p (no_parts (Ends e))) false (finished row e)
end_holds p row e on holds = subst (λ ps. Holds (record { parts = ps; mark = Ends e }) false (finished row e)) (sym (append-nil p.parts)) (by row.cut refl)
  where
    by : (cut : Option ℕ) → row.cut ≡ cut → Holds (record { parts = p.parts; mark = Ends e }) false (finished row e)
    by None is =
        let kept : row.handed ≡ true → false ≡ true = λ h. sym (ap (λ m. is_some (ending_of m false)) on) ∙ (sym (ap (λ c. is_some (cut_ending c p.mark false)) is) ∙ holds.handed h) in
        record {
          waiting = holds.waiting;
          taken = holds.taken;
          ending = ap (λ c. ending_added (is_some c) row.ending e) is ∙ (row_told row.handed refl kept ∙ ap (λ c. ending_kept row.handed (cut_ending c (Ends e) false)) (sym is));
          handed = λ h. absurd (let never = kept h in cc);
          over = λ h. absurd (let never = kept h in cc);
          cut = holds.cut;
        }
      where
        row_told : (h : Bool) → row.handed ≡ h → (row.handed ≡ true → false ≡ true) → Some e ≡ ending_kept row.handed (Some e)
        row_told true ish never = absurd (let x = never ish in cc)
        row_told false ish never = ap (λ b. ending_kept b (Some e)) (sym ish)
    by (Some c) is =
        record {
          waiting = holds.waiting;
          taken = holds.taken;
          ending = ap (λ o. ending_added (is_some o) row.ending e) is
              ∙ (holds.ending ∙ (ap (λ o. ending_kept row.handed (cut_ending o p.mark false)) is ∙ ap (λ o. ending_kept row.handed (cut_ending o (Ends e) false)) (sym is)));
          handed = λ h. ap (λ o. is_some (cut_ending o (Ends e) false)) is ∙ (refl);
          over = holds.over;
          cut = holds.cut;
        }
