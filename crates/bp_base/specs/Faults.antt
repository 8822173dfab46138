-- How counts of faults go on over a call.
use Rattle.std.specs.Prelude.{◌≡◌, ℕ, ◌+◌, ◌-◌, ◌^◌, ◌≤◌, ◌↔◌, ◌⊎◌, min}

-- the last value of a count, which is a u64
abbrev pub last_count : ℕ
last_count = 2 ^ 64 - 1

-- a count that went up by one; at its last value it stays
abbrev pub counted : ℕ → ℕ
counted count = min (count + 1) last_count

-- a count rose; one that stands at its last value counts as risen
abbrev pub Rose : ℕ → ℕ → Type 0
Rose before now = counted before ≤ now

-- The count of faults of an object over a call: it never falls, it rose where the call failed, and
-- else it stands.
pub record Counts {T : Type 0} (faults_of : T → ℕ) (old new : T) (failed : Type 0) : Type 0 where
  pub later : faults_of old ≤ faults_of new
  pub rose : failed → Rose (faults_of old) (faults_of new)
  pub steady : ¬ failed → faults_of new ≡ faults_of old

-- a wire over a call: as honest as before, and its count
pub record GoesOn {W : Type 0} (faults_of : W → ℕ) (is_honest : W → Type 0) (old new : W)
    (failed : Type 0) : Type 0 where
  pub honest : is_honest old ↔ is_honest new
  pub faults : Counts faults_of old new failed

-- two wires over a call: as honest as before, and where it failed the count of one of them rose
pub record BothGoOn {W : Type 0} (faults_of : W → ℕ) (is_honest : W → Type 0)
    (up_old up_new down_old down_new : W) (failed : Type 0) : Type 0 where
  pub up_honest : is_honest up_old ↔ is_honest up_new
  pub down_honest : is_honest down_old ↔ is_honest down_new
  pub up_later : faults_of up_old ≤ faults_of up_new
  pub down_later : faults_of down_old ≤ faults_of down_new
  pub rose : failed → Rose (faults_of up_old) (faults_of up_new)
      ⊎ Rose (faults_of down_old) (faults_of down_new)
  pub up_steady : ¬ failed → faults_of up_new ≡ faults_of up_old
  pub down_steady : ¬ failed → faults_of down_new ≡ faults_of down_old
