-- An answer of decoding says what stands in front, and no other answer does.
use Rattle.std.proofs.Common.{◌≡◌, sym, ap, ◌∙◌, subst, ℕ, ◌-◌, ◌≤◌, List, length, take, drop, arith}
use Rattle.std.proofs.lemmas.List.{length-drop, length-take}
use Rattle.readers.specs.Reader.{Outcome, whole, more, bad, Each, IsByte, Any, Right, IsFaultAt}
use Rattle.readers.proofs.Places.{told_whole, told_more, told_bad, only_whole, only_more, only_bad, prefix_free}
use Rattle.bp_num.specs.declared.number.Why.{Why}
use Rattle.bp_value.specs.declared.value.Value.{Value}
use Rattle.bp_value.specs.Form.{Form}
use Rattle.bp_value.specs.Faults.{IsGood}
use Rattle.bp_grammar.specs.Spells.{Spells}
use Rattle.bp_grammar.specs.Reasons.{FaultWhy}
use Rattle.bp_grammar.specs.Reading.{read}
use Rattle.bp_grammar.specs.Nodes.{node_count}
use Rattle.bp_grammar.proofs.Good.{good_read}
use Rattle.bp_grammar.proofs.FrontsAre.{right_good}
use Rattle.bp_grammar.proofs.Telling.{tells_form}
use Rattle.bp_grammar.proofs.Nodes.{nodes_spelled}
use Rattle.bp_codec.specs.Decoded.{IsDecoded, NoneBegins, HasNodes}
use Rattle.bp_codec.specs.declared.decoding.Decoded.{Decoded}
use Rattle.bp_codec.specs.declared.decoding.Decoded.TheVariants as decoded

-- the answer for a reading of n bytes
abbrev pub answer : ℕ → Outcome ℕ Why Value → Decoded
answer n (whole v u) = decoded.Whole v (n - length u)
answer n more = decoded.More
answer n (bad k w) = decoded.Bad (n - k) w

module _ (m : ℕ) (f : Form) (good : IsGood f) where
  right : Right IsByte Any (Spells m f) (FaultWhy m f) (read m f)
  right = right_good m f good

  pub told : (s : List ℕ) → Each IsByte s → (o : Outcome ℕ Why Value) → read m f s ≡ o → IsDecoded m f s (answer (length s) o)
  told s vs (whole v u) e =
      let (k, stands, rest) = told_whole IsByte (Spells m f) (FaultWhy m f) (read m f) right s v u vs e in
      let le : k ≤ length s = stands.0 in
      let left : length u ≡ length s - k = ap length rest ∙ length-drop k s in
      let used : length s - length u ≡ k = omega arith in
      (omega arith, subst (λ j. Spells m f v (take j s)) (sym used) stands.1)
  told s vs more e = told_more IsByte (Spells m f) (FaultWhy m f) (read m f) right s vs e
  told s vs (bad n w) e =
      let (k, sum, fault) = told_bad IsByte (Spells m f) (FaultWhy m f) (read m f) right s n w vs e in
      let at : k ≡ length s - n = omega arith in
      subst (λ j. IsFaultAt (Spells m f) (FaultWhy m f) s j w) at fault

  pub only : (s : List ℕ) → Each IsByte s → (o : Outcome ℕ Why Value) → read m f s ≡ o → (d : Decoded) → IsDecoded m f s d → d ≡ answer (length s) o
  only s vs o reads (decoded.Whole v k) stands =
      let e : read m f s ≡ whole v (drop k s) = only_whole IsByte (Spells m f) (FaultWhy m f) (read m f) right s v k stands in
      let le : k ≤ length s = stands.0 in
      let left : length (drop k s) ≡ length s - k = length-drop k s in
      let used : k ≡ length s - length (drop k s) = omega arith in
      ap (λ j. decoded.Whole v j) used ∙ ap (λ x. answer (length s) x) (sym e ∙ reads)
  only s vs o reads decoded.More front =
      ap (λ x. answer (length s) x) (sym (only_more IsByte (Spells m f) (FaultWhy m f) (read m f) right s vs front) ∙ reads)
  only s vs o reads (decoded.Bad k w) fault =
      let (n, sum, e) = only_bad IsByte (Spells m f) (FaultWhy m f) (read m f) right s k w vs fault (tells_form m f (good_read f good)).one in
      let at : k ≡ length s - n = omega arith in
      ap (λ j. decoded.Bad j w) at ∙ ap (λ x. answer (length s) x) (sym e ∙ reads)

  pub apart : NoneBegins m f
  apart v w t u x y tv uw same = prefix_free IsByte (Spells m f) (FaultWhy m f) (read m f) right v w t u x y tv uw same

  pub nodes : (s : List ℕ) (d : Decoded) → IsDecoded m f s d → HasNodes d
  nodes s (decoded.Whole v k) stands =
      let le : k ≤ length s = stands.0 in
      let count : node_count v ≤ length (take k s) = nodes_spelled m f v (take k s) stands.1 in
      let size : length (take k s) ≡ k = length-take k s ∙ omega arith in
      omega arith
  nodes s decoded.More front = tt
  nodes s (decoded.Bad k w) fault = tt
