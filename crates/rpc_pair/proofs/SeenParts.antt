-- What more answers add to the parts of a call, and to what it holds of them.
use Rattle.std.proofs.Common.{◌≡◌, refl, sym, ap, ◌∙◌, subst, ℕ, zero, suc, Bool, true, false, List, [], ◌∷◌, ◌++◌, take, append_assoc}
use Rattle.std.specs.Prelude.{Option, Some, None}
use Rattle.std.proofs.lemmas.List.{append-nil}
use Rattle.rpc_msg.specs.declared.message.Answer.{Answer}
use Rattle.rpc_msg.specs.declared.shared.Part.{Part}
use Rattle.rpc_schema.specs.declared.desc.RpcDesc.{RpcDesc}
use Rattle.rpc_talk.specs.Growing.{adds}
use Rattle.rpc_talk.specs.Parts.{cut_parts, goes_on, parts_of}
use Rattle.rpc_talk.specs.Said.{said_behind}
use Rattle.rpc_talk.proofs.OneMore.{parts_on, parts_over}
use Rattle.rpc_pair.specs.Seen.{AreFirstOf}

front_along : (a b c : List Part) → AreFirstOf a b → AreFirstOf b c → AreFirstOf a c
front_along a b c (x, one) (y, two) = (x ++ y, two ∙ (ap (λ t. t ++ y) one ∙ append_assoc a x y))

-- one more answer
one_front : (m : ℕ) (d : RpcDesc) (before : List Answer) (a : Answer) → AreFirstOf (parts_of m d before).parts (parts_of m d (before ++ a ∷ [])).parts
one_front m d before a = by (goes_on (parts_of m d before).mark) refl
  where
    by : (b : Bool) → goes_on (parts_of m d before).mark ≡ b → AreFirstOf (parts_of m d before).parts (parts_of m d (before ++ a ∷ [])).parts
    by true going = ((adds d.kind before (said_behind m d before a)).parts, ap (λ p. p.parts) (parts_on m d before a going))
    by false over = ([], ap (λ p. p.parts) (parts_over m d before a over) ∙ sym (append-nil (parts_of m d before).parts))

pub parts_front : (m : ℕ) (d : RpcDesc) (more before : List Answer) → AreFirstOf (parts_of m d before).parts (parts_of m d (before ++ more)).parts
parts_front m d [] before = ([], ap (λ answers. (parts_of m d answers).parts) (append-nil before) ∙ sym (append-nil (parts_of m d before).parts))
parts_front m d (a ∷ more) before =
    subst (λ answers. AreFirstOf (parts_of m d before).parts (parts_of m d answers).parts) (append_assoc before (a ∷ []) more)
    (front_along (parts_of m d before).parts (parts_of m d (before ++ a ∷ [])).parts (parts_of m d ((before ++ a ∷ []) ++ more)).parts
    (one_front m d before a) (parts_front m d more (before ++ a ∷ [])))

-- the first so many of the first are the first of so many
take_front : (n : ℕ) (some later : List Part) → AreFirstOf (take n some) (take n (some ++ later))
take_front zero some later = ([], refl)
take_front (suc n) [] later = (take (suc n) later, refl)
take_front (suc n) (p ∷ some) later = let (rest, same) = take_front n some later in (rest, ap (λ ps. p ∷ ps) same)

pub cut_front : (cut : Option ℕ) (some all : List Part) → AreFirstOf some all → AreFirstOf (cut_parts cut some) (cut_parts cut all)
cut_front None some all front = front
cut_front (Some n) some all (later, same) = subst (λ ps. AreFirstOf (take n some) (take n ps)) (sym same) (take_front n some later)
