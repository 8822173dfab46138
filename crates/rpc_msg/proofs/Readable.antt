-- The forms of what frames hold can be read: each variant has cases, and the tags of each polymorphic one differ.
use Rattle.std.proofs.Common.{◌≡◌, sym, ◌∙◌, ℕ, List, [], ◌∷◌, inl, inr, arith}
use Rattle.readers.specs.Keys.{AreApart}
use Rattle.bp_value.specs.Form.{Form}
use Rattle.bp_grammar.proofs.Right.{IsRead, ArePartsRead, AreCasesRead}
use Rattle.rpc_msg.specs.Forms.{header_form, version_form, error_form, answer_form, message_form, stream_query_form, first_form, part_form}

apart_one : (a : ℕ × List ℕ) → AreApart (a ∷ [])
apart_one a p q s (inl (p0, k)) (inl (q0, l)) = p0 ∙ sym q0
apart_one a p q s (inl x) (inr none) = absurd none
apart_one a p q s (inr none) y = absurd none

apart_two : (a b : ℕ × List ℕ) → (a.1 ≡ b.1 → ⊥) → AreApart (a ∷ b ∷ [])
apart_two a b differ p q s (inl (p0, k)) (inl (q0, l)) = p0 ∙ sym q0
apart_two a b differ p q s (inl (p0, k)) (inr (inl (q1, l))) = absurd (differ (sym k ∙ l))
apart_two a b differ p q s (inr (inl (p1, k))) (inl (q0, l)) = absurd (differ (sym l ∙ k))
apart_two a b differ p q s (inr (inl (p1, k))) (inr (inl (q1, l))) = p1 ∙ sym q1
apart_two a b differ p q s x (inr (inr none)) = absurd none
apart_two a b differ p q s (inr (inr none)) y = absurd none

pub header_read : IsRead header_form
unfolding IsRead
header_read = tt

version_read : IsRead version_form
unfolding IsRead ArePartsRead AreCasesRead
version_read = (omega arith, apart_one _, ((tt, tt), tt))

error_read : IsRead error_form
unfolding IsRead ArePartsRead AreCasesRead
error_read = (omega arith, ((tt, tt), (tt, ((tt, tt), ((tt, tt), ((tt, (version_read, tt)), ((tt, tt), tt)))))))

answer_read : IsRead answer_form
unfolding IsRead ArePartsRead AreCasesRead
answer_read = (omega arith, ((tt, tt), ((error_read, tt), tt)))

pub message_read : IsRead message_form
unfolding IsRead ArePartsRead AreCasesRead
message_read = (omega arith, (tt, (((tt, (tt, (tt, (tt, tt)))), tt), (((tt, (answer_read, tt)), tt), tt))))

pub stream_query_read : IsRead stream_query_form
unfolding IsRead ArePartsRead AreCasesRead
stream_query_read = (omega arith, apart_two _ _ differ, ((tt, tt), (tt, tt)))
  where
    differ : ◌≡◌ {A = List ℕ} (0xD1 ∷ 0xF5 ∷ 0x2F ∷ 0xE2 ∷ []) (0x21 ∷ 0x77 ∷ 0x4E ∷ 0x5C ∷ []) → ⊥
    differ e = let first : ◌≡◌ {A = ℕ} 0xD1 0x21 = cc in omega (arith, first)

pub part_read : IsRead part_form
unfolding IsRead ArePartsRead AreCasesRead
part_read = (omega arith, apart_two _ _ differ, ((tt, tt), (tt, tt)))
  where
    differ : ◌≡◌ {A = List ℕ} (0x79 ∷ 0x8A ∷ 0x00 ∷ 0x00 ∷ []) (0x39 ∷ 0x79 ∷ 0x69 ∷ 0x00 ∷ []) → ⊥
    differ e = let first : ◌≡◌ {A = ℕ} 0x79 0x39 = cc in omega (arith, first)

pub first_read : (first error : Form) → IsRead first → IsRead error → IsRead (first_form first error)
unfolding IsRead ArePartsRead AreCasesRead
first_read first error one other = (tt, ((omega arith, ((one, tt), ((other, tt), tt))), tt))
