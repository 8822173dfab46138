-- Readers of runs, words, numbers of symbols and numbers of values are right.
use Rattle.std.proofs.Common.{◌≡◌, refl, sym, ap, ◌∙◌, subst, Some, None, Bool, true, false, ℕ, zero, suc, ◌≤◌, List, [], ◌∷◌, ◌++◌, length, inl, inr, arith}
use Rattle.std.proofs.lemmas.List.{append-nil, length-append}
use Rattle.readers.specs.Reader.{Outcome, whole, more, bad, mapped, Each, Follows, Any, Is, IsNot, Right, Plain, NoWhy, Then, Mapped, One, one, Count, CountWhy, count, Symbols, symbols, Run, RunWhy, run, Word, word, kept}
use Rattle.readers.proofs.Readers.{follows-any, right_then, right_mapped, right_same, right_done}
use Rattle.readers.proofs.Leaves.{is_or, pick_true, pick_false, plain, plain_then, plain_one}

-- ---- runs

module _ {S W : Type 0} (V : S → Type 0) (C : S → Bool) (w : W) where
  run_sound : (n : ℕ) (s a u : List S) → run C w n s ≡ whole a u → (t : List S) × (s ≡ t ++ u) × Run C n a t × Follows (IsNot C) u
  run_sound n [] a u h = let an : a ≡ [] = cc in let un : u ≡ [] = cc in ([], sym un, (an, omega arith, tt), subst (λ l. Follows (IsNot C) l) (sym un) tt)
  run_sound zero (b ∷ s) a u h = elim (is_or (C b)) [ inl c ↦ absurd (clash c) | inr c ↦ ends c ]
    where
      clash : C b ≡ true → ⊥
      clash c = let e : run C w zero (b ∷ s) ≡ bad (length (b ∷ s)) w = pick_true (C b) _ _ c in cc

      ends : C b ≡ false → (t : List S) × (b ∷ s ≡ t ++ u) × Run C zero a t × Follows (IsNot C) u
      ends c =
          let e : run C w zero (b ∷ s) ≡ whole [] (b ∷ s) = pick_false (C b) _ _ c in
          let an : a ≡ [] = cc in
          let un : b ∷ s ≡ u = cc in
          ([], un, (an, omega arith, tt), subst (λ l. Follows (IsNot C) l) un c)
  run_sound (suc n) (b ∷ s) a u h = elim (is_or (C b)) [ inl c ↦ goes (λ x y e. run_sound n s x y e) c (run C w n s) refl | inr c ↦ ends c ]
    where
      goes : ((x y : List S) → run C w n s ≡ whole x y → (t : List S) × (s ≡ t ++ y) × Run C n x t × Follows (IsNot C) y) → C b ≡ true → (o : Outcome S W (List S)) → run C w n s ≡ o → (t : List S) × (b ∷ s ≡ t ++ u) × Run C (suc n) a t × Follows (IsNot C) u
      goes rest c (whole x y) e =
          let step : run C w (suc n) (b ∷ s) ≡ whole (b ∷ x) y = pick_true (C b) _ _ c ∙ ap (λ o. mapped (λ t. b ∷ t) o) e in
          let ax : a ≡ b ∷ x = cc in
          let uy : y ≡ u = cc in
          let (t, cut, got, f) = rest x y e in
          (b ∷ t, ap (λ l. b ∷ l) cut ∙ ap (λ l. b ∷ t ++ l) uy, (ax ∙ ap (λ l. b ∷ l) got.0, omega (arith, got.1), (c, got.2)), subst (λ l. Follows (IsNot C) l) uy f)
      goes rest c more e = let step : run C w (suc n) (b ∷ s) ≡ more = pick_true (C b) _ _ c ∙ ap (λ o. mapped (λ t. b ∷ t) o) e in absurd cc
      goes rest c (bad k x) e = let step : run C w (suc n) (b ∷ s) ≡ bad k x = pick_true (C b) _ _ c ∙ ap (λ o. mapped (λ t. b ∷ t) o) e in absurd cc

      ends : C b ≡ false → (t : List S) × (b ∷ s ≡ t ++ u) × Run C (suc n) a t × Follows (IsNot C) u
      ends c =
          let e : run C w (suc n) (b ∷ s) ≡ whole [] (b ∷ s) = pick_false (C b) _ _ c in
          let an : a ≡ [] = cc in
          let un : b ∷ s ≡ u = cc in
          ([], un, (an, omega arith, tt), subst (λ l. Follows (IsNot C) l) un c)

  run_stops : (n : ℕ) (u : List S) → Follows (IsNot C) u → run C w n u ≡ whole [] u
  run_stops n [] f = refl
  run_stops zero (b ∷ u) f = pick_false (C b) _ _ f
  run_stops (suc n) (b ∷ u) f = pick_false (C b) _ _ f

  run_whole : (n : ℕ) (t u : List S) → length t ≤ n → Each (Is C) t → Follows (IsNot C) u → run C w n (t ++ u) ≡ whole t u
  run_whole n [] u le each f = run_stops n u f
  run_whole zero (b ∷ t) u le each f = absurd (omega arith)
  run_whole (suc n) (b ∷ t) u le each f = pick_true (C b) _ _ each.0 ∙ ap (λ o. mapped (λ t. b ∷ t) o) (run_whole n t u (omega arith) each.1 f)

  run_goes : {X : Type 0} (n : ℕ) (s : List S) → run C w n s ≡ more → X
  run_goes n [] h = absurd cc
  run_goes zero (b ∷ s) h = elim (is_or (C b)) [
    | inl c ↦ absurd (clash (bad (length (b ∷ s)) w) (pick_true (C b) _ _ c) (λ e. cc))
    | inr c ↦ absurd (clash (whole [] (b ∷ s)) (pick_false (C b) _ _ c) (λ e. cc))
  ]
    where
      clash : (o : Outcome S W (List S)) → run C w zero (b ∷ s) ≡ o → (o ≡ more → ⊥) → ⊥
      clash o e not = not (sym e ∙ h)
  run_goes {X = X} (suc n) (b ∷ s) h = elim (is_or (C b)) [ inl c ↦ go (λ e. run_goes n s e) c (run C w n s) refl | inr c ↦ absurd (ends c) ]
    where
      go : (run C w n s ≡ more → X) → C b ≡ true → (o : Outcome S W (List S)) → run C w n s ≡ o → X
      go rest c (whole x y) e = let step : run C w (suc n) (b ∷ s) ≡ whole (b ∷ x) y = pick_true (C b) _ _ c ∙ ap (λ o. mapped (λ t. b ∷ t) o) e in absurd cc
      go rest c more e = rest e
      go rest c (bad k x) e = let step : run C w (suc n) (b ∷ s) ≡ bad k x = pick_true (C b) _ _ c ∙ ap (λ o. mapped (λ t. b ∷ t) o) e in absurd cc

      ends : C b ≡ false → ⊥
      ends c = let e : run C w (suc n) (b ∷ s) ≡ whole [] (b ∷ s) = pick_false (C b) _ _ c in cc

  -- a fault comes after n symbols of the class
  run_fault : (n : ℕ) (s : List S) (k : ℕ) (x : W) → run C w n s ≡ bad k x
      → (p : List S) × (b : S) × (v : List S) × (s ≡ p ++ b ∷ v) × (k ≡ length (b ∷ v)) × Each (Is C) p × RunWhy C w n p b x
  run_fault n [] k x h = absurd cc
  run_fault zero (b ∷ s) k x h = elim (is_or (C b)) [ inl c ↦ here c | inr c ↦ absurd (ends c) ]
    where
      here : C b ≡ true → (p : List S) × (d : S) × (v : List S) × (b ∷ s ≡ p ++ d ∷ v) × (k ≡ length (d ∷ v)) × Each (Is C) p × RunWhy C w zero p d x
      here c =
          let e : run C w zero (b ∷ s) ≡ bad (length (b ∷ s)) w = pick_true (C b) _ _ c in
          let is_k : k ≡ length (b ∷ s) = cc in
          let is_x : x ≡ w = cc in
          ([], b, s, refl, is_k, tt, (is_x, refl, c))

      ends : C b ≡ false → ⊥
      ends c = let e : run C w zero (b ∷ s) ≡ whole [] (b ∷ s) = pick_false (C b) _ _ c in cc
  run_fault (suc n) (b ∷ s) k x h = elim (is_or (C b)) [ inl c ↦ go (λ e. run_fault n s k x e) c (run C w n s) refl | inr c ↦ absurd (ends c) ]
    where
      go : (run C w n s ≡ bad k x → (p : List S) × (d : S) × (v : List S) × (s ≡ p ++ d ∷ v) × (k ≡ length (d ∷ v)) × Each (Is C) p × RunWhy C w n p d x) → C b ≡ true → (o : Outcome S W (List S)) → run C w n s ≡ o
          → (p : List S) × (d : S) × (v : List S) × (b ∷ s ≡ p ++ d ∷ v) × (k ≡ length (d ∷ v)) × Each (Is C) p × RunWhy C w (suc n) p d x
      go rest c (whole y z) e = let step : run C w (suc n) (b ∷ s) ≡ whole (b ∷ y) z = pick_true (C b) _ _ c ∙ ap (λ o. mapped (λ t. b ∷ t) o) e in absurd cc
      go rest c more e = let step : run C w (suc n) (b ∷ s) ≡ more = pick_true (C b) _ _ c ∙ ap (λ o. mapped (λ t. b ∷ t) o) e in absurd cc
      go rest c (bad j y) e =
          let step : run C w (suc n) (b ∷ s) ≡ bad j y = pick_true (C b) _ _ c ∙ ap (λ o. mapped (λ t. b ∷ t) o) e in
          let same : run C w n s ≡ bad k x = cc in
          let (p, d, v, cut, left, each, why) = rest same in
          (b ∷ p, d, v, ap (λ l. b ∷ l) cut, left, (c, each), (why.0, omega (arith, why.1), why.2))

      ends : C b ≡ false → ⊥
      ends c = let e : run C w (suc n) (b ∷ s) ≡ whole [] (b ∷ s) = pick_false (C b) _ _ c in cc

  pub right_run : (n : ℕ) → Right V (IsNot C) (Run C n) (RunWhy C w n) (run C w n)
  right_run n = record {
    sound = λ s a u vs h. run_sound n s a u h;
    complete = λ a t u l f. run_whole n t u l.1 l.2 f ∙ ap (λ x. whole x u) (sym l.0);
    goes_on = λ s vs h. run_goes n s h;
    faults = λ s k x vs h. let (p, b, v, cut, left, each, why) = run_fault n s k x h in (
      p,
      b,
      v,
      record {
        place = cut;
        left = left;
        front = (p, [], rw append-nil (refl, omega (arith, why.1), each));
        no_front = λ (a, y, l). too_long p b y l.1 why.1;
      },
      why,
    );
  }
    where
      too_long : (p : List S) (b : S) (y : List S) → length ((p ++ b ∷ []) ++ y) ≤ n → length p ≡ n → ⊥
      too_long p b y le e = let lens = simp (length-append) at le in omega (arith, lens)

  pub plain_run : (n : ℕ) → Right V (IsNot C) (Run C n) Plain (run C w n)
  plain_run n = plain V (IsNot C) (Run C n) (RunWhy C w n) (run C w n) (right_run n)

-- ---- words

pub kept_is : {S : Type 0} (C : S → Bool) (b a : S) → kept C b ≡ Some a → (a ≡ b) × (C b ≡ true)
kept_is C b a e = elim (is_or (C b)) [ inl c ↦ same c | inr c ↦ absurd (clash c) ]
  where
    same : C b ≡ true → (a ≡ b) × (C b ≡ true)
    same c = let k : kept C b ≡ Some b = pick_true (C b) _ _ c in let ab : a ≡ b = cc in (ab, c)

    clash : C b ≡ false → ⊥
    clash c = let k : kept C b ≡ None = pick_false (C b) _ _ c in cc

module _ {S W : Type 0} (V : S → Type 0) (C : S → Bool) (w : W) (symbol : S) (of : C symbol ≡ true) where
  pub right_word : (n : ℕ) → Right V (IsNot C) (Word C n) Plain (word C w n)
  right_word n =
      right_same V (IsNot C) (Then (One (kept C)) (λ b. Mapped (λ t. b ∷ t) (Run C n))) (Word C n) Plain Plain (word C w n) into out (λ p b x y. tt)
      (plain_then V Any (IsNot C) (One (kept C)) (one (kept C) w) (λ b. Mapped (λ t. b ∷ t) (Run C n)) (λ b u. mapped (λ t. b ∷ t) (run C w n u))
      (plain_one V (kept C) w symbol symbol (pick_true (C symbol) _ _ of))
      (λ b. right_mapped V (IsNot C) (λ t. b ∷ t) (Run C n) Plain (run C w n) (plain_run V C w n))
      (λ b t l. (b ∷ [], [], ([], refl, (refl, omega arith, tt))))
      (λ a b u v m f. follows-any (u ++ v)))
    where
      into : (a s : List S) → Then (One (kept C)) (λ b. Mapped (λ t. b ∷ t) (Run C n)) a s → Word C n a s
      into a s (b, t, u, cut, (d, e, k), (r, ar, (ru, le, each))) =
          let (bd, cd) = kept_is C d b k in
          let whole_text : s ≡ d ∷ u = cut ∙ ap (λ l. l ++ u) e in
          let same : a ≡ s = cc in
          rw whole_text (same ∙ whole_text, omega arith, omega arith, (cd, each))

      out : (a s : List S) → Word C n a s → Then (One (kept C)) (λ b. Mapped (λ t. b ∷ t) (Run C n)) a s
      out a [] (e, low, high, each) = absurd (omega arith)
      out a (b ∷ s) (e, low, high, each) = (b, b ∷ [], s, refl, (b, refl, pick_true (C b) _ _ each.0), (s, e, (refl, omega arith, each.1)))

-- ---- a number of symbols

-- as many symbols as are wanted
abbrev pub padding : {S : Type 0} → S → ℕ → List S
padding symbol zero = []
padding symbol (suc n) = symbol ∷ padding symbol n

pub padded : {S : Type 0} (V : S → Type 0) (symbol : S) → V symbol → (n : ℕ) → (length (padding symbol n) ≡ n) × Each V (padding symbol n)
padded V symbol valid zero = (refl, tt)
padded V symbol valid (suc n) = let p = padded V symbol valid n in (omega (arith, p.0), (valid, p.1))

module _ {S W : Type 0} (V : S → Type 0) (symbol : S) (valid : V symbol) where
  symbols_sound : (n : ℕ) (s a u : List S) → Each V s → symbols {W = W} n s ≡ whole a u → (t : List S) × (s ≡ t ++ u) × Symbols V n a t × Follows Any u
  symbols_sound zero s a u vs h = let an : a ≡ [] = cc in let un : s ≡ u = cc in ([], un, (an, refl, tt), follows-any u)
  symbols_sound (suc n) [] a u vs h = absurd cc
  symbols_sound (suc n) (b ∷ s) a u vs h = go (λ x y e. symbols_sound n s x y vs.1 e) (symbols n s) refl
    where
      go : ((x y : List S) → symbols {W = W} n s ≡ whole x y → (t : List S) × (s ≡ t ++ y) × Symbols V n x t × Follows Any y) → (o : Outcome S W (List S)) → symbols n s ≡ o → (t : List S) × (b ∷ s ≡ t ++ u) × Symbols V (suc n) a t × Follows Any u
      go rest (whole x y) e =
          let step : symbols (suc n) (b ∷ s) ≡ whole (b ∷ x) y = ap (λ o. mapped (λ t. b ∷ t) o) e in
          let ax : a ≡ b ∷ x = cc in
          let uy : y ≡ u = cc in
          let (t, cut, got, f) = rest x y e in
          (b ∷ t, ap (λ l. b ∷ l) cut ∙ ap (λ l. b ∷ t ++ l) uy, (ax ∙ ap (λ l. b ∷ l) got.0, omega (arith, got.1), (vs.0, got.2)), follows-any u)
      go rest more e = let step : symbols (suc n) (b ∷ s) ≡ more = ap (λ o. mapped (λ t. b ∷ t) o) e in absurd cc
      go rest (bad k x) e = let step : symbols (suc n) (b ∷ s) ≡ bad k x = ap (λ o. mapped (λ t. b ∷ t) o) e in absurd cc

  symbols_whole : (n : ℕ) (t u : List S) → length t ≡ n → symbols {W = W} n (t ++ u) ≡ whole t u
  symbols_whole zero [] u e = refl
  symbols_whole zero (b ∷ t) u e = absurd (omega arith)
  symbols_whole (suc n) [] u e = absurd (omega arith)
  symbols_whole (suc n) (b ∷ t) u e = ap (λ o. mapped (λ t. b ∷ t) o) (symbols_whole n t u (omega arith))

  symbols_more : (n : ℕ) (s : List S) → Each V s → symbols {W = W} n s ≡ more → (x : List S) × (length (s ++ x) ≡ n) × Each V (s ++ x)
  symbols_more zero s vs h = absurd cc
  symbols_more (suc n) [] vs h = let p = padded V symbol valid (suc n) in (padding symbol (suc n), p.0, p.1)
  symbols_more (suc n) (b ∷ s) vs h = go (λ e. symbols_more n s vs.1 e) (symbols n s) refl
    where
      go : (symbols {W = W} n s ≡ more → (x : List S) × (length (s ++ x) ≡ n) × Each V (s ++ x)) → (o : Outcome S W (List S)) → symbols n s ≡ o → (x : List S) × (length (b ∷ s ++ x) ≡ suc n) × Each V (b ∷ s ++ x)
      go rest (whole x y) e = let step : symbols (suc n) (b ∷ s) ≡ whole (b ∷ x) y = ap (λ o. mapped (λ t. b ∷ t) o) e in absurd cc
      go rest more e = let (x, len, each) = rest e in (x, omega (arith, len), (vs.0, each))
      go rest (bad k x) e = let step : symbols (suc n) (b ∷ s) ≡ bad k x = ap (λ o. mapped (λ t. b ∷ t) o) e in absurd cc

  symbols_fault : {X : Type 0} (n : ℕ) (s : List S) (k : ℕ) (w : W) → symbols n s ≡ bad k w → X
  symbols_fault zero s k w h = absurd cc
  symbols_fault (suc n) [] k w h = absurd cc
  symbols_fault {X = X} (suc n) (b ∷ s) k w h = go (λ e. symbols_fault n s k w e) (symbols n s) refl
    where
      go : (symbols n s ≡ bad k w → X) → (o : Outcome S W (List S)) → symbols n s ≡ o → X
      go rest (whole x y) e = let step : symbols (suc n) (b ∷ s) ≡ whole (b ∷ x) y = ap (λ o. mapped (λ t. b ∷ t) o) e in absurd cc
      go rest more e = let step : symbols (suc n) (b ∷ s) ≡ more = ap (λ o. mapped (λ t. b ∷ t) o) e in absurd cc
      go rest (bad j y) e = let step : symbols (suc n) (b ∷ s) ≡ bad j y = ap (λ o. mapped (λ t. b ∷ t) o) e in let same : symbols n s ≡ bad k w = cc in rest same

  pub right_symbols : (n : ℕ) → Right V Any (Symbols V n) (NoWhy {W = W}) (symbols n)
  right_symbols n = record {
    sound = λ s a u vs h. symbols_sound n s a u vs h;
    complete = λ a t u l f. symbols_whole n t u l.1 ∙ ap (λ x. whole x u) (sym l.0);
    goes_on = λ s vs h. let (x, len, each) = symbols_more n s vs h in (s ++ x, x, (refl, len, each));
    faults = λ s k w vs h. symbols_fault n s k w h;
  }

-- ---- a number of values

module _ {S W A : Type 0} (V : S → Type 0) (L : A → List S → Type 0) (R : List S → S → W → Type 0) (r : List S → Outcome S W A) (right : Right V Any L R r)
    (value : A) (text : List S) (start : L value text) where
  pub counts : (n : ℕ) → (vs : List A) × (s : List S) × Count L n vs s
  counts zero = ([], [], (refl, refl))
  counts (suc n) = let (vs, s, l) = counts n in (value ∷ vs, text ++ s, (value, text, s, refl, start, (vs, refl, l)))

  pub right_count : (n : ℕ) → Right V Any (Count L n) (CountWhy L R n) (count r n)
  right_count zero = right_done V [] (CountWhy L R zero)
  right_count (suc n) =
      right_then V Any Any L R r (λ v. Mapped (λ us. v ∷ us) (Count L n)) (λ v. CountWhy L R n) (λ v u. mapped (λ us. v ∷ us) (count r n u))
      right (λ v t l. right_mapped V Any (λ us. v ∷ us) (Count L n) (CountWhy L R n) (count r n) (right_count n))
      (λ a t l. let (vs, s, m) = counts n in (a ∷ vs, s, (vs, refl, m)))
      (λ a b u v m f. follows-any (u ++ v))
