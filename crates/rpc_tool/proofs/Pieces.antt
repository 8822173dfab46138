-- What a reader that was fed some bytes piece by piece says of all of them.
use Rattle.std.proofs.Common.{◌≡◌, sym, ap, ◌∙◌, subst, ℕ, zero, suc, ◌+◌, ◌-◌, ◌^◌, ◌<◌, ◌≤◌, List, [], ◌∷◌, ◌++◌, length, take, drop, append_assoc, arith}
use Rattle.std.proofs.lemmas.List.{length-append, length-take, take-append-drop}
use Rattle.readers.specs.Reader.{IsByte, Stands, IsProperFront, IsFaultAt}
use Rattle.readers.proofs.Places.{stands_by, told_more}
use Rattle.bp_num.specs.declared.number.Why.{Why}
use Rattle.bp_value.specs.declared.value.Value.{Value}
use Rattle.bp_value.specs.Form.{Form}
use Rattle.bp_grammar.specs.Spells.{Spells}
use Rattle.bp_grammar.specs.Reasons.{FaultWhy}
use Rattle.bp_grammar.specs.Reading.{read}
use Rattle.bp_grammar.proofs.FrontsAre.{right_good}
use Rattle.bp_codec.specs.Fed.{HasFed, IsFed}
use Rattle.bp_codec.specs.declared.decoding.Decoded.TheVariants as decoded
use Rattle.bp_codec.specs.declared.reader.Reader.{Reader}

-- the bytes before a place, and the piece from there to the next place
pieces_joined : {A : Type 0} (s : List A) (start next : ℕ) → start ≤ next → next ≤ length s
    → take start s ++ take (next - start) (drop start s) ≡ take next s
pieces_joined s zero next le within = ap (λ n. take n s) (omega arith)
pieces_joined [] (suc start) next le within = absurd (omega arith)
pieces_joined (b ∷ s) (suc start) zero le within = absurd (omega arith)
pieces_joined (b ∷ s) (suc start) (suc next) le within =
    let count : suc next - suc start ≡ next - start = omega arith in
    ap (λ n. b ∷ (take start s ++ take n (drop start s))) count ∙ ap (λ t. b ∷ t) (pieces_joined s start next (omega arith) (omega arith))

-- all that was fed ends before what was to be read
pub cut_short : (m : ℕ) (f : Form) (s : List ℕ) (r : Reader) → HasFed m f s r → IsProperFront (Spells m f) s
cut_short m f s r fed = told_more IsByte (Spells m f) (FaultWhy m f) (read m f) (right_good m f fed.good) s fed.bytes fed.begins

-- the piece of s between two places is fed behind those before it
module _ (m : ℕ) (f : Form) (s : List ℕ) (start next : ℕ) (le : start ≤ next) (within : next ≤ length s) where
  abbrev piece : List ℕ
  piece = take (next - start) (drop start s)

  all : s ≡ (take start s ++ piece) ++ drop next s
  all = sym (ap (λ t. t ++ drop next s) (pieces_joined s start next le within) ∙ take-append-drop next s)

  pub fed_on : (r : Reader) → HasFed m f (take start s ++ piece) r → HasFed m f (take next s) r
  fed_on r fed = subst (λ t. HasFed m f t r) (pieces_joined s start next le within) fed

  pub stands_in_all : (v : Value) (used : ℕ) → IsFed m f (take start s) piece (decoded.Whole v used) → Stands (Spells m f) s v (start + used)
  stands_in_all v used stands =
      let before = take start s in
      let k = length before + used in
      let came = before ++ piece in
      let cut : s ≡ take k came ++ (drop k came ++ drop next s) =
      all ∙ (ap (λ t. t ++ drop next s) (sym (take-append-drop k came)) ∙ append_assoc (take k came) (drop k came) (drop next s)) in
      let long : length before ≡ start = length-take start s ∙ omega arith in
      let end : length (take k came) ≡ start + used = length-take k came ∙ (let most : k ≤ length came = stands.0 in omega arith) in
      subst (λ j. Stands (Spells m f) s v j) end (stands_by (Spells m f) v s (take k came) (drop k came ++ drop next s) cut stands.1)

  pub faulty_in_all : length s < 2 ^ 64 → (at : ℕ) (w : Why) → IsFed m f (take start s) piece (decoded.Bad at w)
      → IsFaultAt (Spells m f) (FaultWhy m f) s at w
  faulty_in_all small at w (k, (p, b, v, cut, here, front, none, why), stays) =
      let whole : s ≡ p ++ b ∷ (v ++ drop next s) = all ∙ (ap (λ t. t ++ drop next s) cut ∙ append_assoc p (b ∷ v) (drop next s)) in
      let long : length s ≡ length p + suc (length (v ++ drop next s)) = ap length whole ∙ length-append p (b ∷ (v ++ drop next s)) in
      let low : at ≡ k = stays ∙ omega (arith, here) in
      (p, b, v ++ drop next s, whole, low ∙ here, front, none, why)
