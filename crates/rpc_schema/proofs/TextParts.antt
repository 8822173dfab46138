-- The parts of a text between the ends of its lines, and the lines by them.
use Rattle.std.proofs.Common.{◌≡◌, ◌≢◌, ℕ, ◌+◌, ◌-◌, ◌<◌, ◌≤◌, List, [], ◌∷◌, ◌++◌, length, take, drop, get_or, refl, sym, ap, ◌∙◌, arith, Bor}
use Rattle.std.proofs.lemmas.List.{take_all, take-append-drop, drop_more, get_or-map, length-map, take_more, map-append}
use Rattle.rpc_schema.specs.TextLines.{without_empty_last}
use Rattle.rpc_schema.specs.Reading.{slices}

without_empty_last_push : (lines : List (List ℕ)) (last : List ℕ) → length last ≡ 0 → without_empty_last (lines ++ last ∷ []) ≡ lines
without_empty_last_push lines [] e = empty lines where
  empty : (lines : List (List ℕ)) → without_empty_last (lines ++ [] ∷ []) ≡ lines
  empty [] = refl
  empty ([] ∷ []) = refl
  empty ([] ∷ line ∷ lines) = ap (λ rest. [] ∷ rest) (empty (line ∷ lines))
  empty ((b ∷ bs) ∷ lines) = ap (λ rest. (b ∷ bs) ∷ rest) (empty lines)
without_empty_last_push lines (b ∷ bs) e = absurd (omega arith)

without_empty_last_same : (lines : List (List ℕ)) (last : List ℕ) → length last ≢ 0
    → without_empty_last (lines ++ last ∷ []) ≡ lines ++ last ∷ []
without_empty_last_same [] [] some = absurd (some refl)
without_empty_last_same [] (b ∷ bs) some = refl
without_empty_last_same ([] ∷ []) last some = ap (λ rest. [] ∷ rest) (without_empty_last_same [] last some)
without_empty_last_same ([] ∷ line ∷ lines) last some = ap (λ rest. [] ∷ rest) (without_empty_last_same (line ∷ lines) last some)
without_empty_last_same ((b ∷ bs) ∷ lines) last some = ap (λ rest. (b ∷ bs) ∷ rest) (without_empty_last_same lines last some)

slices_last : (parts : List (Bor (List ℕ))) (default : Bor (List ℕ)) → 1 ≤ length parts
    → slices parts ≡ slices (take (length parts - 1) parts) ++ (get_or parts (length parts - 1) default).now ∷ []
slices_last parts default h =
    let all : take (length parts - 1 + 1) parts ≡ parts = take_all (length parts - 1 + 1) parts (omega arith) in
    ap slices (sym all ∙ take_more parts (length parts - 1) default (omega arith))
    ∙ map-append (λ (part : Bor (List ℕ)). part.now) (take (length parts - 1) parts) (get_or parts (length parts - 1) default ∷ [])

pub slices_cut : (parts : List (Bor (List ℕ))) (default : Bor (List ℕ)) → 1 ≤ length parts
    → length (get_or parts (length parts - 1) default).now ≡ 0
    → slices (take (length parts - 1) parts) ≡ without_empty_last (slices parts)
slices_cut parts default h empty =
    sym (ap without_empty_last (slices_last parts default h) ∙ without_empty_last_push (slices (take (length parts - 1) parts)) _ empty)

pub slices_whole : (parts : List (Bor (List ℕ))) (default : Bor (List ℕ)) → 1 ≤ length parts
    → length (get_or parts (length parts - 1) default).now ≢ 0
    → slices parts ≡ without_empty_last (slices parts)
slices_whole parts default h some =
    sym (ap without_empty_last (slices_last parts default h)
    ∙ (without_empty_last_same (slices (take (length parts - 1) parts)) _ some ∙ sym (slices_last parts default h)))

-- the part at an index, between those before it and those after
pub slices_split : (parts : List (Bor (List ℕ))) (i : ℕ) (default : Bor (List ℕ)) → i < length parts
    → take i (slices parts) ++ (get_or parts i default).now ∷ drop (i + 1) (slices parts) ≡ slices parts
slices_split parts i default lt =
    let within : i < length (slices parts) = omega (arith, length-map parts (λ (part : Bor (List ℕ)). part.now)) in
    ap (λ line. take i (slices parts) ++ line ∷ drop (i + 1) (slices parts))
    (sym (get_or-map (λ (part : Bor (List ℕ)). part.now) parts i default default.now lt))
    ∙ (ap (λ rest. take i (slices parts) ++ rest) (sym (drop_more (slices parts) i default.now within)) ∙ take-append-drop i (slices parts))
