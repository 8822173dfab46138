-- Two readings of lists that meet a token, and the word `int` in its place, go the same way.
use Rattle.std.proofs.Common.{◌≡◌, refl, Option, Some, None, Bool, true, false, if◌then◌else◌, ℕ, zero, suc, ◌+◌, ◌≤◌, ◌<◌, List, [], ◌∷◌, ◌++◌, length, inl, inr, arith}
use Rattle.std.proofs.lemmas.List.{length-append}
use Rattle.readers.specs.Reader.{Outcome, whole, more, bad, after, mapped, Any, IsNot, Right, Plain, Begins, rests, others, stop, maybe}
use Rattle.readers.specs.Until.{until}
use Rattle.readers.proofs.Readers.{each-any}
use Rattle.readers.proofs.Bounds.{leaves_less}
use Rattle.readers.proofs.Until.{leaves_fewer}
use Rattle.bp_text_grammar.specs.Tokens.{Token}
use Rattle.bp_text_grammar.specs.Texts.{Why, BadText}
use Rattle.bp_text_grammar.proofs.Twins.{Own, int_word, Passed, Twins, Short, IsBlind, short_reads, short_mapped, short_after, twins_short, mapped_twins, after_twins, early, here, if_twins, same_if_twins, stop_twins}

module _ (k : Own) (c : Token) (v : List Token) {A : Type 0} (E : Token → Type 0) (L : A → List Token → Type 0) (r : List Token → Outcome Token Why A)
    (right : Right Any E L Plain r) (twins : (p : List Token) → Twins k c v (r (p ++ c ∷ v)) (r (p ++ int_word ∷ []))) where
  -- what is left of the tokens around the one that is met is no more than there was
  less : (p q : List Token) (a : A) → r (p ++ c ∷ v) ≡ whole a (q ++ c ∷ v) → length q ≤ length p
  less p q a e =
      let (le, all) = leaves_less Any E L Plain r right (p ++ c ∷ v) a (q ++ c ∷ v) (each-any (p ++ c ∷ v)) e in
      let one : length (p ++ c ∷ v) ≡ length p + suc (length v) = length-append p (c ∷ v) in
      let two : length (q ++ c ∷ v) ≡ length q + suc (length v) = length-append q (c ∷ v) in
      omega arith

  -- ---- up to an end that is not used up

  module _ (sep ends : Token → Bool) (blind_sep : IsBlind k sep) (blind_ends : IsBlind k ends) where
    abbrev more_at : ℕ → A → List Token → Outcome Token Why (List A)
    more_at n a u = mapped (λ vs. a ∷ vs) (others sep ends BadText r n u)

    short_others : (n : ℕ) (s : List Token) → length s ≤ length v → Short v (others sep ends BadText r n s)
    unfolding others
    short_others zero [] le = omega arith
    short_others (suc n) [] le = omega arith
    short_others zero (b ∷ s) le = ended (ends b)
      where
        ended : (t : Bool) → Short {A = List A} v (if t then whole [] (b ∷ s) else bad (length (b ∷ s)) BadText)
        ended true = le
        ended false = le
    short_others (suc n) (b ∷ s) le =
        either (sep b) (ends b) (short_after v (r s) (more_at n) (short_reads E L r right v s (omega arith))
        (λ a u e fewer. short_mapped (λ vs. a ∷ vs) v (others sep ends BadText r n u) (short_others n u fewer)))
      where
        either : (t x : Bool) → Short v (after (r s) (more_at n))
            → Short {A = List A} v (if t then after (r s) (more_at n) else if x then whole [] (b ∷ s) else bad (length (b ∷ s)) BadText)
        either true x next = next
        either false true next = le
        either false false next = le

    passed_others : (n : ℕ) → Passed (others sep ends BadText r n [])
    unfolding others
    passed_others zero = refl
    passed_others (suc n) = refl

    others_from : (n m : ℕ) (p : List Token) → length p < n → length p < m
        → Twins k c v (others sep ends BadText r n (p ++ c ∷ v)) (others sep ends BadText r m (p ++ int_word ∷ []))
    unfolding others
    others_from zero m p lt le = absurd (omega arith)
    others_from (suc n) zero p lt le = absurd (omega arith)
    others_from (suc n) (suc m) [] lt le =
        if_twins k c v sep blind_sep (after (r v) (more_at n)) (if ends c then whole [] (c ∷ v) else bad (length (c ∷ v)) BadText)
        (after (r []) (more_at m)) (if ends int_word then whole [] (int_word ∷ []) else bad 1 BadText)
        (twins_short k c v (after (r v) (more_at n)) (after (r []) (more_at m)) (short_after v (r v) (more_at n) (short_reads E L r right v v (omega arith))
        (λ a u e fewer. short_mapped (λ vs. a ∷ vs) v (others sep ends BadText r n u) (short_others n u fewer))))
        (if_twins k c v ends blind_ends (whole [] (c ∷ v)) (bad (length (c ∷ v)) BadText) (whole [] (int_word ∷ [])) (bad 1 BadText)
        (inr ([], refl, λ own. refl)) (here k c v BadText (bad 1 BadText) refl (λ own. (BadText, refl))))
    others_from (suc n) (suc m) (b ∷ p) lt le =
        same_if_twins k c v (sep b) (after (r (p ++ c ∷ v)) (more_at n)) (if ends b then whole [] (b ∷ p ++ c ∷ v) else bad (length (b ∷ p ++ c ∷ v)) BadText)
        (after (r (p ++ int_word ∷ [])) (more_at m)) (if ends b then whole [] (b ∷ p ++ int_word ∷ []) else bad (length (b ∷ p ++ int_word ∷ [])) BadText)
        (after_twins k c v (r (p ++ c ∷ v)) (r (p ++ int_word ∷ [])) (more_at n) (more_at m) (twins p)
        (λ a u e fewer. short_mapped (λ vs. a ∷ vs) v (others sep ends BadText r n u) (short_others n u fewer))
        (λ a q e. let few : length q ≤ length p = less p q a e in
        mapped_twins k c v (λ vs. a ∷ vs) (others sep ends BadText r n (q ++ c ∷ v)) (others sep ends BadText r m (q ++ int_word ∷ [])) (others_from n m q (omega arith) (omega arith)))
        (λ a e. passed_mapped a (others sep ends BadText r m []) (passed_others m)))
        (same_if_twins k c v (ends b) (whole [] (b ∷ p ++ c ∷ v)) (bad (length (b ∷ p ++ c ∷ v)) BadText) (whole [] (b ∷ p ++ int_word ∷ [])) (bad (length (b ∷ p ++ int_word ∷ [])) BadText)
        (inr (b ∷ p, refl, λ own. refl)) (early k c v b p BadText (bad (length (b ∷ p ++ int_word ∷ [])) BadText)))
      where
        passed_mapped : (a : A) (o : Outcome Token Why (List A)) → Passed o → Passed (mapped (λ vs. a ∷ vs) o)
        passed_mapped a (whole x u) y = y
        passed_mapped a more y = y
        passed_mapped a (bad i w) y = y

    pub others_twins : (p : List Token) → Twins k c v (others sep ends BadText r (length (p ++ c ∷ v)) (p ++ c ∷ v)) (others sep ends BadText r (length (p ++ int_word ∷ [])) (p ++ int_word ∷ []))
    others_twins p =
        let one : length (p ++ c ∷ v) ≡ length p + suc (length v) = length-append p (c ∷ v) in
        let two : length (p ++ int_word ∷ []) ≡ length p + 1 = length-append p (int_word ∷ []) in
        others_from (length (p ++ c ∷ v)) (length (p ++ int_word ∷ [])) p (omega arith) (omega arith)

    -- ---- at most one value

    pub maybe_twins : (p : List Token) → Twins k c v (maybe sep ends BadText r (p ++ c ∷ v)) (maybe sep ends BadText r (p ++ int_word ∷ []))
    maybe_twins [] =
        if_twins k c v sep blind_sep (after (r v) (λ a. stop ends BadText (Some a))) (stop ends BadText None (c ∷ v)) (after (r []) (λ a. stop ends BadText (Some a))) (stop ends BadText None (int_word ∷ []))
        (twins_short k c v (after (r v) (λ a. stop ends BadText (Some a))) (after (r []) (λ a. stop ends BadText (Some a)))
        (short_after v (r v) (λ a. stop ends BadText (Some a)) (short_reads E L r right v v (omega arith)) (λ a u e fewer. short_stop (Some a) u fewer)))
        (stop_twins k c v ends None blind_ends [])
      where
        short_stop : (o : Option A) (u : List Token) → length u ≤ length v → Short v (stop ends BadText o u)
        short_stop o [] le = le
        short_stop o (b ∷ u) le = go (ends b)
          where
            go : (t : Bool) → Short v (if t then whole o (b ∷ u) else bad (length (b ∷ u)) BadText)
            go true = le
            go false = le
    maybe_twins (b ∷ p) =
        same_if_twins k c v (sep b) (after (r (p ++ c ∷ v)) (λ a. stop ends BadText (Some a))) (stop ends BadText None (b ∷ p ++ c ∷ v))
        (after (r (p ++ int_word ∷ [])) (λ a. stop ends BadText (Some a))) (stop ends BadText None (b ∷ p ++ int_word ∷ []))
        (after_twins k c v (r (p ++ c ∷ v)) (r (p ++ int_word ∷ [])) (λ a. stop ends BadText (Some a)) (λ a. stop ends BadText (Some a)) (twins p)
        (λ a u e fewer. short_stop (Some a) u fewer) (λ a q e. stop_twins k c v ends (Some a) blind_ends q) (λ a e. refl))
        (stop_twins k c v ends None blind_ends (b ∷ p))
      where
        short_stop : (o : Option A) (u : List Token) → length u ≤ length v → Short v (stop ends BadText o u)
        short_stop o [] le = le
        short_stop o (d ∷ u) le = go (ends d)
          where
            go : (t : Bool) → Short v (if t then whole o (d ∷ u) else bad (length (d ∷ u)) BadText)
            go true = le
            go false = le

  -- ---- up to a closing token

  module _ (sep close : Token → Bool) (blind_sep : IsBlind k sep) (blind_close : IsBlind k close) where
    abbrev rest_of : ℕ → A → List Token → Outcome Token Why (List A)
    rest_of n a u = mapped (λ vs. a ∷ vs) (rests sep close BadText r n u)

    short_rests : (n : ℕ) (s : List Token) → length s ≤ length v → Short v (rests sep close BadText r n s)
    unfolding rests
    short_rests zero [] le = tt
    short_rests (suc n) [] le = tt
    short_rests zero (b ∷ s) le = go (close b)
      where
        go : (t : Bool) → Short {A = List A} v (if t then whole [] s else bad (length (b ∷ s)) BadText)
        go true = omega arith
        go false = le
    short_rests (suc n) (b ∷ s) le =
        either (close b) (sep b) (short_after v (r s) (rest_of n) (short_reads E L r right v s (omega arith))
        (λ a u e fewer. short_mapped (λ vs. a ∷ vs) v (rests sep close BadText r n u) (short_rests n u fewer)))
      where
        either : (t x : Bool) → Short v (after (r s) (rest_of n))
            → Short {A = List A} v (if t then whole [] s else if x then after (r s) (rest_of n) else bad (length (b ∷ s)) BadText)
        either true x next = omega arith
        either false true next = next
        either false false next = le

    passed_rests : (a : A) (n : ℕ) → Passed (rest_of n a [])
    unfolding rests
    passed_rests a zero = tt
    passed_rests a (suc n) = tt

    rests_from : (n m : ℕ) (p : List Token) → length p < n → length p < m
        → Twins k c v (rests sep close BadText r n (p ++ c ∷ v)) (rests sep close BadText r m (p ++ int_word ∷ []))
    unfolding rests
    rests_from zero m p lt le = absurd (omega arith)
    rests_from (suc n) zero p lt le = absurd (omega arith)
    rests_from (suc n) (suc m) [] lt le =
        if_twins k c v close blind_close (whole [] v) (if sep c then after (r v) (rest_of n) else bad (length (c ∷ v)) BadText)
        (whole [] []) (if sep int_word then after (r []) (rest_of m) else bad 1 BadText) (inl (omega arith))
        (if_twins k c v sep blind_sep (after (r v) (rest_of n)) (bad (length (c ∷ v)) BadText) (after (r []) (rest_of m)) (bad 1 BadText)
        (twins_short k c v (after (r v) (rest_of n)) (after (r []) (rest_of m)) (short_after v (r v) (rest_of n) (short_reads E L r right v v (omega arith))
        (λ a u e fewer. short_mapped (λ vs. a ∷ vs) v (rests sep close BadText r n u) (short_rests n u fewer))))
        (here k c v BadText (bad 1 BadText) refl (λ own. (BadText, refl))))
    rests_from (suc n) (suc m) (b ∷ p) lt le =
        same_if_twins k c v (close b) (whole [] (p ++ c ∷ v)) (if sep b then after (r (p ++ c ∷ v)) (rest_of n) else bad (length (b ∷ p ++ c ∷ v)) BadText)
        (whole [] (p ++ int_word ∷ [])) (if sep b then after (r (p ++ int_word ∷ [])) (rest_of m) else bad (length (b ∷ p ++ int_word ∷ [])) BadText)
        (inr (p, refl, λ own. refl))
        (same_if_twins k c v (sep b) (after (r (p ++ c ∷ v)) (rest_of n)) (bad (length (b ∷ p ++ c ∷ v)) BadText) (after (r (p ++ int_word ∷ [])) (rest_of m)) (bad (length (b ∷ p ++ int_word ∷ [])) BadText)
        (after_twins k c v (r (p ++ c ∷ v)) (r (p ++ int_word ∷ [])) (rest_of n) (rest_of m) (twins p)
        (λ a u e fewer. short_mapped (λ vs. a ∷ vs) v (rests sep close BadText r n u) (short_rests n u fewer))
        (λ a q e. let few : length q ≤ length p = less p q a e in
        mapped_twins k c v (λ vs. a ∷ vs) (rests sep close BadText r n (q ++ c ∷ v)) (rests sep close BadText r m (q ++ int_word ∷ [])) (rests_from n m q (omega arith) (omega arith)))
        (λ a e. passed_rests a m))
        (early k c v b p BadText (bad (length (b ∷ p ++ int_word ∷ [])) BadText)))

    pub rests_twins : (p : List Token) → Twins k c v (rests sep close BadText r (length (p ++ c ∷ v)) (p ++ c ∷ v)) (rests sep close BadText r (length (p ++ int_word ∷ [])) (p ++ int_word ∷ []))
    rests_twins p =
        let one : length (p ++ c ∷ v) ≡ length p + suc (length v) = length-append p (c ∷ v) in
        let two : length (p ++ int_word ∷ []) ≡ length p + 1 = length-append p (int_word ∷ []) in
        rests_from (length (p ++ c ∷ v)) (length (p ++ int_word ∷ [])) p (omega arith) (omega arith)

  -- ---- up to a closing token, with no separator

  module _ (close : Token → Bool) (blind : IsBlind k close) (begins : Begins (λ t. IsNot close t × E t) L) where
    abbrev next_of : ℕ → A → List Token → Outcome Token Why (List A)
    next_of n a u = mapped (λ vs. a ∷ vs) (until close BadText r n u)

    fewer_left : (s u : List Token) (a : A) → r s ≡ whole a u → length u < length s
    fewer_left s u a e = (leaves_fewer Any E close BadText L Plain r right begins s a u (each-any s) e).0

    short_until : (n : ℕ) (s : List Token) → length s ≤ length v → Short v (until close BadText r n s)
    unfolding until
    short_until zero [] le = tt
    short_until (suc n) [] le = tt
    short_until zero (b ∷ s) le = go (close b)
      where
        go : (t : Bool) → Short {A = List A} v (if t then whole [] s else bad (length (b ∷ s)) BadText)
        go true = omega arith
        go false = le
    short_until (suc n) (b ∷ s) le =
        go (close b) (short_after v (r (b ∷ s)) (next_of n) (short_reads E L r right v (b ∷ s) le)
        (λ a u e fewer. short_mapped (λ vs. a ∷ vs) v (until close BadText r n u) (short_until n u fewer)))
      where
        go : (t : Bool) → Short v (after (r (b ∷ s)) (next_of n)) → Short {A = List A} v (if t then whole [] s else after (r (b ∷ s)) (next_of n))
        go true next = omega arith
        go false next = next

    passed_until : (a : A) (n : ℕ) → Passed (next_of n a [])
    unfolding until
    passed_until a zero = tt
    passed_until a (suc n) = tt

    until_from : (n m : ℕ) (p : List Token) → length p < n → length p < m
        → Twins k c v (until close BadText r n (p ++ c ∷ v)) (until close BadText r m (p ++ int_word ∷ []))
    unfolding until
    until_from zero m p lt le = absurd (omega arith)
    until_from (suc n) zero p lt le = absurd (omega arith)
    until_from (suc n) (suc m) [] lt le =
        if_twins k c v close blind (whole [] v) (after (r (c ∷ v)) (next_of n)) (whole [] []) (after (r (int_word ∷ [])) (next_of m)) (inl (omega arith))
        (after_twins k c v (r (c ∷ v)) (r (int_word ∷ [])) (next_of n) (next_of m) (twins [])
        (λ a u e fewer. short_mapped (λ vs. a ∷ vs) v (until close BadText r n u) (short_until n u fewer))
        (λ a q e. absurd (none a q e)) (λ a e. passed_until a m))
      where
        none : (a : A) (q : List Token) → r (c ∷ v) ≡ whole a (q ++ c ∷ v) → ⊥
        none a q e =
            let few : length (q ++ c ∷ v) < length (c ∷ v) = fewer_left (c ∷ v) (q ++ c ∷ v) a e in
            let one : length (q ++ c ∷ v) ≡ length q + suc (length v) = length-append q (c ∷ v) in
            omega arith
    until_from (suc n) (suc m) (b ∷ p) lt le =
        same_if_twins k c v (close b) (whole [] (p ++ c ∷ v)) (after (r (b ∷ p ++ c ∷ v)) (next_of n)) (whole [] (p ++ int_word ∷ [])) (after (r (b ∷ p ++ int_word ∷ [])) (next_of m))
        (inr (p, refl, λ own. refl))
        (after_twins k c v (r (b ∷ p ++ c ∷ v)) (r (b ∷ p ++ int_word ∷ [])) (next_of n) (next_of m) (twins (b ∷ p))
        (λ a u e fewer. short_mapped (λ vs. a ∷ vs) v (until close BadText r n u) (short_until n u fewer))
        (λ a q e. let few : length q < length (b ∷ p) = left q a e in
        mapped_twins k c v (λ vs. a ∷ vs) (until close BadText r n (q ++ c ∷ v)) (until close BadText r m (q ++ int_word ∷ [])) (until_from n m q (omega arith) (omega arith)))
        (λ a e. passed_until a m))
      where
        left : (q : List Token) (a : A) → r (b ∷ p ++ c ∷ v) ≡ whole a (q ++ c ∷ v) → length q < length (b ∷ p)
        left q a e =
            let few : length (q ++ c ∷ v) < length (b ∷ p ++ c ∷ v) = fewer_left (b ∷ p ++ c ∷ v) (q ++ c ∷ v) a e in
            let one : length (q ++ c ∷ v) ≡ length q + suc (length v) = length-append q (c ∷ v) in
            let two : length (p ++ c ∷ v) ≡ length p + suc (length v) = length-append p (c ∷ v) in
            omega arith

    pub until_twins : (p : List Token) → Twins k c v (until close BadText r (length (p ++ c ∷ v)) (p ++ c ∷ v)) (until close BadText r (length (p ++ int_word ∷ [])) (p ++ int_word ∷ []))
    until_twins p =
        let one : length (p ++ c ∷ v) ≡ length p + suc (length v) = length-append p (c ∷ v) in
        let two : length (p ++ int_word ∷ []) ≡ length p + 1 = length-append p (int_word ∷ []) in
        until_from (length (p ++ c ∷ v)) (length (p ++ int_word ∷ [])) p (omega arith) (omega arith)
