-- The versions of a header, one by one.
use Rattle.std.proofs.Common.{◌≡◌, refl, sym, ap, ◌∙◌, ℕ, suc, ◌+◌, ◌-◌, ◌<◌, ◌≤◌, ℤ, List, [], ◌∷◌, ◌++◌, append_assoc, append-nil, arith}
use Rattle.std.specs.Prelude.{Err}
use Rattle.readers.specs.Reader.{Outcome, whole, more, bad, after, mapped, count}
use Rattle.bp_num.specs.NumberAt.{int_at}
use Rattle.bp_num.specs.declared.number.IntKind.TheVariants.{Int63}
use Rattle.bp_num.specs.declared.number.Why.{Why}
use Rattle.bp_codec.specs.declared.stop.Stop.{Stop}
use Rattle.bp_codec.specs.Keeping.{Gives}
use Rattle.rpc_msg.specs.Taken.{Halts}
use Rattle.rpc_msg.proofs.Halting.{halts, halts_after, halts_mapped}

abbrev Out : Type 0 → Type 0
Out A = Outcome ℕ Why A

-- behind some numbers, k of n, the others are read
abbrev pub IsOnward : List ℤ → ℕ → ℕ → List ℕ → Out (List ℤ) → Type 0
IsOnward front n k s total = mapped (λ vs. front ++ vs) (count (int_at Int63) (n - k) s) ≡ total

mapped_same : (o : Out (List ℤ)) → mapped (λ vs. [] ++ vs) o ≡ o
mapped_same (whole vs t) = refl
mapped_same more = refl
mapped_same (bad n w) = refl

pub onward_start : (n : ℕ) (s : List ℕ) → IsOnward [] n 0 s (count (int_at Int63) n s)
onward_start n s =
    let all : n - 0 ≡ n = omega arith in
    ap (λ j. mapped (λ vs. [] ++ vs) (count (int_at Int63) j s)) all ∙ mapped_same (count (int_at Int63) n s)

one_less : (n k : ℕ) → k < n → n - k ≡ suc (n - (k + 1))
one_less n k lt = omega arith

moved : (front : List ℤ) (v : ℤ) (o : Out (List ℤ)) → mapped (λ vs. front ++ vs) (mapped (λ us. v ∷ us) o) ≡ mapped (λ vs. (front ++ v ∷ []) ++ vs) o
moved front v (whole vs t) = ap (λ x. whole x t) (sym (append_assoc front (v ∷ []) vs))
moved front v more = refl
moved front v (bad n w) = refl

next : (front : List ℤ) (n k : ℕ) (s : List ℕ) (total : Out (List ℤ)) → k < n → IsOnward front n k s total
    → total ≡ mapped (λ vs. front ++ vs) (after (int_at Int63 s) (λ v u. mapped (λ us. v ∷ us) (count (int_at Int63) (n - (k + 1)) u)))
next front n k s total lt is = sym is ∙ ap (λ j. mapped (λ vs. front ++ vs) (count (int_at Int63) j s)) (one_less n k lt)

pub onward_go : (front : List ℤ) (n k : ℕ) (s u : List ℕ) (v : ℤ) (total : Out (List ℤ)) → k < n → int_at Int63 s ≡ whole v u → IsOnward front n k s total
    → IsOnward (front ++ v ∷ []) n (k + 1) u total
onward_go front n k s u v total lt reads is =
    sym (next front n k s total lt is ∙ (ap (λ o. mapped (λ vs. front ++ vs) (after o (λ v u. mapped (λ us. v ∷ us) (count (int_at Int63) (n - (k + 1)) u)))) reads
    ∙ moved front v (count (int_at Int63) (n - (k + 1)) u)))

pub onward_stop : (front : List ℤ) (n k : ℕ) (s new : List ℕ) (e : Stop) (total : Out (List ℤ)) → k < n → Gives (int_at Int63) s new (Err e) → IsOnward front n k s total → Halts e total new
onward_stop front n k s new e total lt stops is =
    let rest = λ (v : ℤ) (u : List ℕ). mapped (λ us. v ∷ us) (count (int_at Int63) (n - (k + 1)) u) in
    halts_mapped (λ vs. front ++ vs) (after (int_at Int63 s) rest) e new (next front n k s total lt is)
    (halts_after rest (int_at Int63 s) e new refl (halts (int_at Int63) s new e stops))

pub onward_done : (front : List ℤ) (n k : ℕ) (s : List ℕ) (total : Out (List ℤ)) → n ≤ k → IsOnward front n k s total → total ≡ whole front s
onward_done front n k s total le is =
    let none : n - k ≡ 0 = omega arith in
    sym is ∙ (ap (λ j. mapped (λ vs. front ++ vs) (count (int_at Int63) j s)) none ∙ ap (λ x. whole x s) (append-nil front))
