-- What the reading of a form's bytes says of a whole body.
use Rattle.std.proofs.Common.{◌≡◌, refl, sym, ap, ◌∙◌, subst, ℕ, ◌-◌, ◌≤◌, List, [], ◌∷◌, length, take, drop, arith}
use Rattle.std.specs.Prelude.{Result, Ok, Err}
use Rattle.std.proofs.lemmas.List.{length-drop, length-take, take_all}
use Rattle.readers.specs.Reader.{Outcome, whole, more, bad, mapped, Any, Front, Right, Each, IsByte, Stands, IsFaultAt}
use Rattle.readers.proofs.Places.{told_whole, told_more, told_bad, only_whole, only_more, only_bad}
use Rattle.bp_num.specs.declared.number.Why.{Why}
use Rattle.bp_value.specs.declared.value.Sexp.{Sexp}
use Rattle.bp_value.specs.declared.value.Value.{Value}
use Rattle.bp_value.specs.declared.value.Value.TheVariants as val
use Rattle.bp_value.specs.Faults.{IsGood}
use Rattle.bp_value.specs.Form.{Form, sexp}
use Rattle.bp_value.specs.Faults.{nodes}
use Rattle.bp_value.proofs.FaultSteps.{bare_node}
use Rattle.bp_value.proofs.FirstSteps.{bare_good}
use Rattle.bp_grammar.specs.Spells.{Spells}
use Rattle.bp_grammar.specs.Reasons.{FaultWhy}
use Rattle.bp_grammar.specs.Reading.{read, read_sexp}
use Rattle.bp_grammar.proofs.Good.{good_read}
use Rattle.bp_grammar.proofs.FrontsAre.{right_good, fronts_are}
use Rattle.bp_grammar.proofs.Telling.{tells_form}
use Rattle.bp_grammar.specs.Fronts.{Fronts}
use Rattle.bp_grammar.proofs.Right.{IsRead, form_in}
use Rattle.readers.proofs.Readers.{right_fronts}
use Rattle.bp_codec.specs.Decoded.{IsDecoded}
use Rattle.bp_codec.specs.declared.stop.Stop.{Stop}
use Rattle.bp_codec.specs.declared.stop.Stop.TheVariants as stop
use Rattle.rpc_msg.specs.declared.fault.MsgFault.TheVariants as fault
use Rattle.rpc_msg.specs.Bodies.{IsMsgFault, IsBodyRead}
use Rattle.rpc_msg.specs.Taken.{TakesAs, ended_at}
use Rattle.bp_codec.specs.declared.decoding.Decoded.TheVariants as decoded

-- ---- decoding, as a reading

module _ (m : ℕ) (f : Form) (good : IsGood f) where
  right : Right IsByte Any (Spells m f) (FaultWhy m f) (read m f)
  right = right_good m f good

  pub whole_read : (s : List ℕ) (v : Value) (k : ℕ) → IsDecoded m f s (decoded.Whole v k) → read m f s ≡ whole v (take (length s - k) (drop k s))
  whole_read s v k stands =
      let count = length-drop k s in
      only_whole IsByte (Spells m f) (FaultWhy m f) (read m f) right s v k stands ∙ ap (whole v) (sym (take_all (length s - k) (drop k s) (omega (arith, count))))

  pub more_read : (s : List ℕ) → Each IsByte s → IsDecoded m f s decoded.More → read m f s ≡ more
  more_read s vs front = only_more IsByte (Spells m f) (FaultWhy m f) (read m f) right s vs front

  pub bad_read : (s : List ℕ) (k : ℕ) (w : Why) → Each IsByte s → IsDecoded m f s (decoded.Bad k w)
      → read m f s ≡ bad (length (take (length s - k) (drop k s))) w
  bad_read s k w vs fault =
      let (n, sum, e) = only_bad IsByte (Spells m f) (FaultWhy m f) (read m f) right s k w vs fault (tells_form m f (good_read f good)).one in
      let dropped = length-drop k s in
      let left = length-take (length s - k) (drop k s) in
      let count : n ≡ length (take (length s - k) (drop k s)) = omega (arith, dropped, left, sum) in
      e ∙ ap (λ j. bad j w) count

-- ---- S-expressions

pub sexp_good : IsGood sexp
unfolding IsGood nodes
sexp_good = bare_good 1 sexp (bare_node 1 sexp (omega arith) refl (λ v. v) (λ v. v) (λ v. v) refl refl)

pub sexp_value : (m : ℕ) (s t : List ℕ) (v : Value) → read m sexp s ≡ whole v t → (x : Sexp) × (v ≡ val.Sexp x)
unfolding read
sexp_value m s t v e = by (read_sexp m 128 s) e
  where
    by : (o : Outcome ℕ Why Sexp) → mapped val.Sexp o ≡ whole v t → (x : Sexp) × (v ≡ val.Sexp x)
    by (whole x u) e = (x, cc)
    by more e = absurd (nothing e)
      where
        nothing : ◌≡◌ {A = Outcome ℕ Why Value} more (whole v t) → ⊥
        nothing e = cc
    by (bad n w) e = absurd (faulty e)
      where
        faulty : ◌≡◌ {A = Outcome ℕ Why Value} (bad n w) (whole v t) → ⊥
        faulty e = cc

-- ---- whole bodies

-- the reading of a form that can be read is right
pub right_read : (m : ℕ) (f : Form) → IsRead f → Right IsByte Any (Spells m f) (FaultWhy m f) (read m f)
right_read m f is =
    right_fronts IsByte Any (Fronts m f) (Front (Spells m f)) (Spells m f) (FaultWhy m f) (read m f)
    (λ p. (fronts_are m f is p).0) (λ p. (fronts_are m f is p).1) (form_in m f is).right

-- what the answer says of the body
pub body_told : {A : Type 0} (g : A → Value) (m : ℕ) (f : Form) (body rest : List ℕ) (r : Result A Stop) → IsRead f → Each IsByte body
    → TakesAs g (read m f) body rest r → IsBodyRead g m f body (ended_at (length body) (length rest) r)
body_told g m f body [] (Ok a) is vs reads =
    let (k, stands, left) = told_whole IsByte (Spells m f) (FaultWhy m f) (read m f) (right_read m f is) body (g a) [] vs reads in
    let dropped = length-drop k body in
    let none : length (drop k body) ≡ 0 = ap length (sym left) in
    let all : take k body ≡ body = take_all k body (omega (arith, dropped, none)) in
    subst (Spells m f (g a)) all stands.1
body_told g m f body (b ∷ rest) (Ok a) is vs reads =
    let (k, stands, left) = told_whole IsByte (Spells m f) (FaultWhy m f) (read m f) (right_read m f is) body (g a) (b ∷ rest) vs reads in
    let dropped = length-drop k body in
    let some : length (drop k body) ≡ length (b ∷ rest) = ap length (sym left) in
    let within : k ≤ length body = stands.0 in
    let at : k ≡ length body - length (b ∷ rest) = omega (arith, dropped, some, within) in
    ((g a, subst (λ j. Stands (Spells m f) body (g a) j) at stands), omega (arith, dropped, some, within))
body_told g m f body rest (Err stop.More) is vs reads =
    by rest (refl, told_more IsByte (Spells m f) (FaultWhy m f) (read m f) (right_read m f is) body vs reads)
  where
    by : (rest : List ℕ) → IsMsgFault m f body (fault.Cut (length body)) → IsBodyRead g m f body (ended_at (length body) (length rest) (Err stop.More))
    by [] x = x
    by (b ∷ rest) x = x
body_told g m f body rest (Err (stop.Bad w)) is vs reads =
    let (k, sum, at) = told_bad IsByte (Spells m f) (FaultWhy m f) (read m f) (right_read m f is) body (length rest) w vs reads in
    by rest (subst (λ j. IsFaultAt (Spells m f) (FaultWhy m f) body j w) (omega (arith, sum)) at)
  where
    by : (rest : List ℕ) → IsMsgFault m f body (fault.Bad (length body - length rest) w) → IsBodyRead g m f body (ended_at (length body) (length rest) (Err (stop.Bad w)))
    by [] x = x
    by (b ∷ rest) x = x
body_told g m f body [] (Err stop.OutOfMemory) is vs reads = tt
body_told g m f body (b ∷ rest) (Err stop.OutOfMemory) is vs reads = tt
