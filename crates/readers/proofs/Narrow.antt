-- Right where some symbols may come is right where fewer may come.
use Rattle.std.proofs.Common.{List, [], ◌∷◌}
use Rattle.readers.specs.Reader.{Outcome, Each, RightIn, Right, ReadsIn}

-- symbols of a class are of a wider one
pub each_narrow : {S : Type 0} {V U : S → Type 0} → ((b : S) → V b → U b) → (s : List S) → Each V s → Each U s
each_narrow wider [] vs = tt
each_narrow wider (b ∷ s) vs = (wider b vs.0, each_narrow wider s vs.1)

-- whatever the fronts are
pub right_narrow_in : {S W A : Type 0} {V U E : S → Type 0} {F : List S → Type 0} {L : A → List S → Type 0} {R : List S → S → W → Type 0}
    {r : List S → Outcome S W A} → ((b : S) → V b → U b) → RightIn U E F L R r → RightIn V E F L R r
right_narrow_in wider right = record {
  sound = λ s a u vs h. right.sound s a u (each_narrow wider s vs) h;
  complete = right.complete;
  goes_on = λ s vs h. right.goes_on s (each_narrow wider s vs) h;
  faults = λ s n w vs h. right.faults s n w (each_narrow wider s vs) h;
}

-- where a front is what begins a text
pub right_narrow : {S W A : Type 0} {V U E : S → Type 0} {L : A → List S → Type 0} {R : List S → S → W → Type 0} {r : List S → Outcome S W A}
    → ((b : S) → V b → U b) → Right U E L R r → Right V E L R r
right_narrow wider right = right_narrow_in wider right

-- with the fronts
pub reads_narrow : {S W A : Type 0} {V U E : S → Type 0} {F : List S → Type 0} {L : A → List S → Type 0} {R : List S → S → W → Type 0}
    {r : List S → Outcome S W A} → ((b : S) → V b → U b) → ReadsIn U E F L R r → ReadsIn V E F L R r
reads_narrow wider reads = record { right = right_narrow_in wider reads.right; fronts = reads.fronts }
