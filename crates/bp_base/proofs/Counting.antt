-- How wires and their counts go on over calls in a row.
use Rattle.std.proofs.Common.{◌≡◌, ℕ, arith, ◌∙◌, inl, inr, subst}
use Rattle.std.specs.Prelude.{◌⊎◌}
use Rattle.bp_base.specs.Faults.{Rose, BothGoOn}

-- a call after calls that did not fail
pub both_after : {W : Type 0} (faults_of : W → ℕ) (is_honest : W → Type 0)
    (up_old up_mid up_new down_old down_mid down_new : W) (failed : Type 0)
    → BothGoOn faults_of is_honest up_old up_mid down_old down_mid ⊥
    → BothGoOn faults_of is_honest up_mid up_new down_mid down_new failed
    → BothGoOn faults_of is_honest up_old up_new down_old down_new failed
both_after faults_of is_honest up_old up_mid up_new down_old down_mid down_new failed before next =
    let up_same : faults_of up_mid ≡ faults_of up_old = before.up_steady (λ none. none) in
    let down_same : faults_of down_mid ≡ faults_of down_old = before.down_steady (λ none. none) in
    let rise : Rose (faults_of up_mid) (faults_of up_new)
    ⊎ Rose (faults_of down_mid) (faults_of down_new)
    → Rose (faults_of up_old) (faults_of up_new) ⊎ Rose (faults_of down_old) (faults_of down_new) =
    elim [
      | inl up ↦ inl (subst (λ n. Rose n (faults_of up_new)) up_same up)
      | inr down ↦ inr (subst (λ n. Rose n (faults_of down_new)) down_same down)
    ] in
    record {
      up_honest = (
        λ h. next.up_honest.0 (before.up_honest.0 h),
        λ h. before.up_honest.1 (next.up_honest.1 h),
      );
      down_honest = (
        λ h. next.down_honest.0 (before.down_honest.0 h),
        λ h. before.down_honest.1 (next.down_honest.1 h),
      );
      up_later = let later = next.up_later in omega arith;
      down_later = let later = next.down_later in omega arith;
      rose = λ fault. rise (next.rose fault);
      up_steady = λ fine. next.up_steady fine ∙ up_same;
      down_steady = λ fine. next.down_steady fine ∙ down_same;
    }

-- a call that did not fail, as one that cannot fail
pub both_steady : {W : Type 0} (faults_of : W → ℕ) (is_honest : W → Type 0)
    (up_old up_new down_old down_new : W) (failed : Type 0) → ¬ failed
    → BothGoOn faults_of is_honest up_old up_new down_old down_new failed
    → BothGoOn faults_of is_honest up_old up_new down_old down_new ⊥
both_steady faults_of is_honest up_old up_new down_old down_new failed fine went = record {
  up_honest = went.up_honest;
  down_honest = went.down_honest;
  up_later = went.up_later;
  down_later = went.down_later;
  rose = λ none. absurd none;
  up_steady = λ _. went.up_steady fine;
  down_steady = λ _. went.down_steady fine;
}
