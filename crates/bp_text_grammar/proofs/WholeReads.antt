-- What the reading of all tokens says of a text, and of the place where it is refused.
use Rattle.std.proofs.Common.{◌≡◌, refl, sym, ap, ◌∙◌, subst, true, false, ℕ, ◌+◌, ◌-◌, List, [], ◌∷◌, ◌++◌, length, append_assoc, inl, inr, arith}
use Rattle.std.proofs.lemmas.List.{append-nil, length-append, map-append}
use Rattle.readers.specs.Reader.{Outcome, whole, more, bad, Any, Never, Ended, Follows, Front, FaultAt, Right}
use Rattle.readers.proofs.Readers.{each-any}
use Rattle.bp_text_grammar.specs.Tokens.{Token}
use Rattle.bp_text_grammar.specs.Lexing.{Stamped, Lexes}
use Rattle.bp_text_grammar.specs.Scanning.{lex}
use Rattle.bp_text_grammar.specs.Texts.{Why, BadText}
use Rattle.bp_text_grammar.specs.WholeTexts.{has_open, seen, kinds, IsTextOf, IsWrongAt, IsRefusedText}
use Rattle.bp_text_grammar.proofs.Exact.{lexes_some, lexes_once, lexes_lex, token_bytes}
use Rattle.bp_text_grammar.proofs.Told.{ended_front, front_ended}

pub kinds_join : (ts us : List Stamped) → kinds (ts ++ us) ≡ kinds ts ++ kinds us
kinds_join ts us = map-append (λ t. seen t.token) ts us

-- two parts of one list are as long as their rests
pub same_cut : {S : Type 0} (a p u x : List S) → a ++ u ≡ p ++ x → length u ≡ length x → (a ≡ p) × (u ≡ x)
same_cut [] [] u x e n = (refl, e)
same_cut [] (c ∷ p) u x e n = let lens = ap length e in let all = length-append p x in absurd (omega arith)
same_cut (b ∷ a) [] u x e n = let lens = ap length e in let all = length-append a u in absurd (omega arith)
same_cut (b ∷ a) (c ∷ p) u x e n =
    let bc : b ≡ c = cc in
    let rest : a ++ u ≡ p ++ x = cc in
    let (ap_, ux) = same_cut a p u x rest n in
    (ap (λ z. z ∷ a) bc ∙ ap (λ z. c ∷ z) ap_, ux)

module _ {A : Type 0} (L : A → List Token → Type 0) (R : List Token → Token → Why → Type 0) where
  ended_is : (a : A) (ts : List Token) → Ended L a ts → L a ts
  ended_is a ts (x, t, u, cut, l, (ax, un)) =
      let tst : ts ≡ t = cut ∙ (ap (λ y. t ++ y) un ∙ append-nil t) in
      subst (λ y. L a y) (sym tst) (subst (λ y. L y t) (sym ax) l)

  is_ended : (a : A) (ts : List Token) → L a ts → Ended L a ts
  is_ended a ts l = (a, ts, [], sym (append-nil ts), l, (refl, refl))

  -- the tokens of a text are those of the bytes
  text_tokens : (a : A) (s : List ℕ) → IsTextOf L a s → (has_open (lex s) ≡ false) × L a (kinds (lex s))
  text_tokens a s is =
      let same = lexes_lex is.tokens s is.lexed in
      (sym (ap has_open same) ∙ is.closed, subst (λ ts. L a (kinds ts)) same is.spelled)

  -- a text is nowhere refused
  pub refused_none : (s : List ℕ) (k : ℕ) (w : Why) (a : A) → IsRefusedText L R s k w → IsTextOf L a s → ⊥
  refused_none s k w a (inl wrong) is =
      let same = lexes_lex (wrong.before ++ wrong.wrong ∷ wrong.behind) s wrong.lexed in
      let parts : kinds (lex s) ≡ (kinds wrong.before ++ seen wrong.wrong.token ∷ []) ++ kinds wrong.behind =
      sym (ap kinds same) ∙ (kinds_join wrong.before (wrong.wrong ∷ wrong.behind)
      ∙ sym (append_assoc (kinds wrong.before) (seen wrong.wrong.token ∷ []) (kinds wrong.behind))) in
      wrong.no_front (a, kinds wrong.behind, subst (λ ts. L a ts) parts (text_tokens a s is).1)
  refused_none s k w a (inr (place, why, short)) is =
      let same = lexes_once is.tokens short.tokens s is.lexed short.lexed in
      short.unfinished a (sym (ap has_open same) ∙ is.closed) (subst (λ ts. L a (kinds ts)) same is.spelled)

  -- the first token of those that are left is at fault
  pub wrong_at : (s : List ℕ) (w : Why) (ts : List Stamped) (u : Stamped) (us : List Stamped) → lex s ≡ ts ++ u ∷ us → (p : List Token)
      (b : Token) (v : List Token)
      → FaultAt L (kinds (lex s)) p b v (length (kinds (u ∷ us))) → R p b w → (wrong : IsWrongAt L R s (length s - u.left) w) ×
      (wrong.before ≡ ts) × (kinds ts ≡ p)
  wrong_at s w ts u us cut p b v fault why =
      let (before, left) = same_cut (kinds ts) p (kinds (u ∷ us)) (b ∷ v) (sym (ap kinds cut ∙ kinds_join ts (u ∷ us)) ∙ fault.place) fault.left in
      let at : seen u.token ≡ b = cc in
      let lexed = subst (λ z. Lexes z s) cut (lexes_some s) in
      let (q, y, bytes, lens, starts, rest) = token_bytes ts us u s lexed in
      let all : length s ≡ length q + length y = ap length bytes ∙ length-append q y in (
        record {
          before = ts;
          wrong = u;
          behind = us;
          lexed = lexed;
          front = subst (λ z. Front L z) (sym before) fault.front;
          no_front = λ f. fault.no_front (subst (λ z. Front L z) (ap (λ z. z ++ seen u.token ∷ []) before ∙ ap (λ z. p ++ z ∷ []) at) f);
          why = subst (λ z. R z (seen u.token) w) (sym before) (subst (λ z. R p z w) (sym at) why);
          place = omega arith;
        },
        refl,
        before,
      )

  module _ (r : List Token → Outcome Token Why A) (right : Right Any Never (Ended L) R r) where
    whole_of : (a : A) (ts : List Token) → L a ts → r ts ≡ whole a []
    whole_of a ts l = sym (ap r (append-nil ts)) ∙ right.complete a ts [] (is_ended a ts l) tt

    pub one_text : (a b : A) (s : List ℕ) → IsTextOf L a s → IsTextOf L b s → a ≡ b
    one_text a b s first second =
        let e : ◌≡◌ {A = Outcome Token Why A} (whole a []) (whole b []) =
        sym (whole_of a (kinds (lex s)) (text_tokens a s first).1) ∙ whole_of b (kinds (lex s)) (text_tokens b s second).1 in
        cc

    -- nothing is left after a whole text
    pub read_all : (ts u : List Token) (a : A) → r ts ≡ whole a u → (u ≡ []) × L a ts
    read_all ts u a is = let (t, cut, l, f) = right.sound ts a u (each-any ts) is in go u cut f l
      where
        go : {t : List Token} (u : List Token) → ts ≡ t ++ u → Follows Never u → Ended L a t → (u ≡ []) × L a ts
        go {t = t} [] cut f l = (refl, subst (λ y. L a y) (sym (cut ∙ append-nil t)) (ended_is a t l))
        go (c ∷ u) cut f l = absurd f

    pub text_good : (s : List ℕ) (u : List Token) (a : A) → r (kinds (lex s)) ≡ whole a u → has_open (lex s) ≡ false → IsTextOf L a s
    text_good s u a is closed = record { tokens = lex s; lexed = lexes_some s; closed = closed; spelled = (read_all (kinds (lex s)) u a is).1 }

    pub text_open : (s : List ℕ) (u : List Token) (a : A) → r (kinds (lex s)) ≡ whole a u → has_open (lex s) ≡ true → IsRefusedText L R s
        (length s) BadText
    text_open s u a is opened =
        let l = (read_all (kinds (lex s)) u a is).1 in
        inr (
          refl,
          refl,
          record {
            tokens = lex s;
            lexed = lexes_some s;
            front = (a, [], subst (λ ts. L a ts) (sym (append-nil (kinds (lex s)))) l);
            unfinished = λ b closed m. absurd (cc (opened, closed));
          },
        )

    pub text_more : (s : List ℕ) → r (kinds (lex s)) ≡ more → IsRefusedText L R s (length s) BadText
    text_more s is = inr (
      refl,
      refl,
      record {
        tokens = lex s;
        lexed = lexes_some s;
        front = ended_front L (kinds (lex s)) (right.goes_on (kinds (lex s)) (each-any (kinds (lex s))) is);
        unfinished = λ b closed m. let no_end : ◌≡◌ {A = Outcome Token Why A} more (whole b []) = sym is ∙ whole_of b (kinds (lex s)) m in absurd cc;
      },
    )

    -- the tokens us are left, the first of which is at fault
    pub text_bad : (s : List ℕ) (w : Why) (ts : List Stamped) (u : Stamped) (us : List Stamped) → lex s ≡ ts ++ u ∷ us
        → r (kinds (lex s)) ≡ bad (length (kinds (u ∷ us))) w → IsWrongAt L R s (length s - u.left) w
    text_bad s w ts u us cut is =
        let (p, b, v, fault, why) = right.faults (kinds (lex s)) (length (kinds (u ∷ us))) w (each-any (kinds (lex s))) is in
        (wrong_at s w ts u us cut p b v
        (record {
          place = fault.place;
          left = fault.left;
          front = ended_front L p fault.front;
          no_front = λ f. fault.no_front
              (front_ended L (p ++ b ∷ []) f);
        }) why).0
