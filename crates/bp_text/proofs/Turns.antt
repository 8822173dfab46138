-- The turns of a loop that reads the values of a list.
use Rattle.std.proofs.Common.{◌≡◌, refl, sym, ap, ◌∙◌, true, false, Option, Some, None, ℕ, zero, suc, ◌+◌, ◌-◌, ◌<◌, ◌≤◌, List, [], ◌∷◌, ◌++◌, length, Ok, Err, inl, inr, arith}
use Rattle.std.proofs.lemmas.List.{append-nil, length-append, length-map}
use Rattle.readers.specs.Reader.{Outcome, whole, bad, after, mapped, leaf, one, rests}
use Rattle.readers.specs.Until.{until}
use Rattle.readers.proofs.Loops.{onward, after_self, after_mapped, after_whole, rests_go, rests_end, rests_other, rests_done, until_go, until_end, until_done}
use Rattle.readers.proofs.Leaves.{is_or, pick_true, pick_false}
use Rattle.bp_value.specs.declared.value.Sexp.{Sexp}
use Rattle.bp_value.specs.declared.value.Sexp.TheVariants as sx
use Rattle.bp_text_grammar.specs.Tokens.{Token}
use Rattle.bp_text_grammar.specs.Lexing.{Stamped}
use Rattle.bp_text_grammar.specs.Scanning.{lex}
use Rattle.bp_text_grammar.specs.Texts.{Why, BadText, semicolon, square_close, round_open, round_close, is_mark, mark_at, closed_at}
use Rattle.bp_text_grammar.specs.ValueTexts.{inside_at, sexp_at}
use Rattle.bp_text_grammar.specs.WholeTexts.{seen}
use Rattle.bp_text.specs.declared.halt.Halt.{Halt}
use Rattle.bp_text.specs.Unread.{Unread, ahead, Advances, HasOutcome, is_first, taken_at}
use Rattle.bp_text.specs.Leaves.{TokenReader, quoted_bytes_of, next_item_at}
use Rattle.bp_text.proofs.TokenSteps.{passes_lex}
use Rattle.bp_text.proofs.Ahead.{goes_none, goes_join}
use Rattle.bp_text.proofs.OneToken.{atom_reads}
use Rattle.bp_text.proofs.Readings.{gives_past, gives_as, gives_failed}

-- ---- how many tokens are left

pub no_more_ahead : (old new : Unread) → Advances old new → length (ahead new) ≤ length (ahead old)
no_more_ahead old new goes =
    let cut : lex old.rest ≡ goes.taken ++ lex new.rest = passes_lex goes.taken old.rest new.rest goes.passes in
    let lens : length (lex old.rest) ≡ length goes.taken + length (lex new.rest) = ap length cut ∙ length-append goes.taken (lex new.rest) in
    omega (arith, length-map (lex old.rest) token_of, length-map (lex new.rest) token_of)
  where
    token_of : Stamped → Token
    token_of t = seen t.token

pub taken_fewer : (ts us : List Token) → taken_at true ts ≡ whole tt us → length us < length ts
taken_fewer [] us is = absurd cc
taken_fewer (t ∷ ts) us is = let same : ts ≡ us = cc in omega (arith, ap length same)

pub mark_fewer : (m : ℕ) (ts us : List Token) → mark_at m ts ≡ whole tt us → length us < length ts
mark_fewer m [] us is = absurd cc
mark_fewer m (t ∷ ts) us is = elim (is_or (is_mark m t)) [
  | inl e ↦ there (sym (ap (λ o. leaf o (length (t ∷ ts)) BadText ts) (pick_true (is_mark m t) (Some tt) None e)) ∙ is)
  | inr e ↦ absurd (other (sym (ap (λ o. leaf o (length (t ∷ ts)) BadText ts) (pick_false (is_mark m t) (Some tt) None e)) ∙ is))
]
  where
    there : ◌≡◌ {A = Outcome Token Why (Unit {0})} (whole tt ts) (whole tt us) → length us < length (t ∷ ts)
    there h = let same : ts ≡ us = cc in omega (arith, ap length same)

    other : ◌≡◌ {A = Outcome Token Why (Unit {0})} (bad (length (t ∷ ts)) BadText) (whole tt us) → ⊥
    other h = cc

-- ---- a list whose reading is bounded by the number of tokens that are left

-- with the values so far, what is read of the rest is what is read of all
pub record Turning {A : Type 0} (all : ℕ → TokenReader (List A)) (total : Outcome Token Why (List A)) (old now : Unread) (values : List A) : Type 0 where
  pub goes : Advances old now
  pub bound : ℕ
  pub enough : length (ahead now) ≤ bound
  pub reads : onward (λ vs us. whole vs us) values (all bound (ahead now)) ≡ total

-- one turn gives no value where the list ends, or one, and the list goes on
abbrev pub turned : {A : Type 0} → (ℕ → TokenReader (List A)) → List A → ℕ → Option A → TokenReader (List A)
turned all values n None us = whole values us
turned all values n (Some v) us = onward (λ vs xs. whole vs xs) (values ++ v ∷ []) (all n us)

abbrev less_one : ℕ → ℕ
less_one zero = zero
less_one (suc n) = n

one_fewer : (now new n : ℕ) → now ≤ n → new < now → new ≤ less_one n
one_fewer now new zero le less = absurd (omega arith)
one_fewer now new (suc n) le less = omega arith

-- a reading that goes on after one that stops
pub stops_after : {A B : Type 0} (total : Outcome Token Why B) (o : Outcome Token Why A) (f : A → List Token → Outcome Token Why B) (old now new : Unread) (stop : Halt)
    → total ≡ after o f → Advances old now → HasOutcome o now new (Err stop) → HasOutcome total old new (Err stop)
stops_after total o f old now new stop e goes is =
    gives_as total (after o f) old new (Err stop) e (gives_past (after o f) old now new (Err stop) goes (gives_failed o f now new stop is))

abbrev pub Turns : {A : Type 0} → (ℕ → TokenReader (List A)) → TokenReader (Option A) → Type 0
Turns {A = A} all turn = (values : List A) (n : ℕ) (ts : List Token) → length ts ≤ n
    → onward (λ vs us. whole vs us) values (all n ts) ≡ after (turn ts) (turned all values (less_one n))

module _ {A : Type 0} (all : ℕ → TokenReader (List A)) (turn : TokenReader (Option A)) (turns : Turns all turn) (total : Outcome Token Why (List A)) (old now : Unread) (values : List A)
    (turning : Turning all total old now values) where
  total_is : total ≡ after (turn (ahead now)) (turned all values (less_one turning.bound))
  total_is = sym turning.reads ∙ turns values turning.bound (ahead now) turning.enough

  pub turn_end : (new : Unread) → HasOutcome (turn (ahead now)) now new (Ok None) → HasOutcome total old new (Ok values)
  turn_end new is = (goes_join old now new turning.goes is.0, total_is ∙ ap (λ o. after o (turned all values (less_one turning.bound))) is.1)

  pub turn_fails : (new : Unread) (stop : Halt) → HasOutcome (turn (ahead now)) now new (Err stop) → HasOutcome total old new (Err stop)
  turn_fails new stop is = stops_after total (turn (ahead now)) (turned all values (less_one turning.bound)) old now new stop total_is turning.goes is

  pub turn_goes : (new : Unread) (v : A) → HasOutcome (turn (ahead now)) now new (Ok (Some v)) → length (ahead new) < length (ahead now)
      → Turning all total old new (values ++ v ∷ [])
  turn_goes new v is fewer = record {
    goes = goes_join old now new turning.goes is.0;
    bound = less_one turning.bound;
    enough = one_fewer (length (ahead now)) (length (ahead new)) turning.bound turning.enough fewer;
    reads = sym (total_is ∙ ap (λ o. after o (turned all values (less_one turning.bound))) is.1);
  }

-- ---- one mark

mark_there : (m : ℕ) (c : Token) (ts : List Token) → is_mark m c ≡ true → mark_at m (c ∷ ts) ≡ whole tt ts
mark_there m c ts e = ap (λ o. leaf o (length (c ∷ ts)) BadText ts) (pick_true (is_mark m c) (Some tt) None e)

mark_not : (m : ℕ) (c : Token) (ts : List Token) → is_mark m c ≡ false → mark_at m (c ∷ ts) ≡ bad (length (c ∷ ts)) BadText
mark_not m c ts e = ap (λ o. leaf o (length (c ∷ ts)) BadText ts) (pick_false (is_mark m c) (Some tt) None e)

-- ---- the items of a list, after a first one

module _ {A : Type 0} (r : TokenReader A) where
  abbrev pub more_items : ℕ → TokenReader (List A)
  more_items n ts = rests (is_mark semicolon) (is_mark square_close) BadText r n ts

  pub items_turn : Turns more_items (next_item_at r)
  items_turn values zero [] le = rests_done r (λ vs us. whole vs us) values (is_mark semicolon) (is_mark square_close) BadText zero
  items_turn values (suc n) [] le = rests_done r (λ vs us. whole vs us) values (is_mark semicolon) (is_mark square_close) BadText (suc n)
  items_turn values zero (c ∷ ts) le = absurd (omega arith)
  items_turn values (suc n) (c ∷ ts) le = elim (is_or (is_mark square_close c)) [
    | inl e ↦
        rests_end r (λ vs us. whole vs us) values (is_mark semicolon) (is_mark square_close) BadText (suc n) c ts e
        ∙ sym (ap (λ o. after o (turned more_items values n))
        (pick_true (is_mark square_close c) _ _ e ∙ ap (λ (o : Outcome Token Why (Unit {0})). mapped (λ u. None) o) (mark_there square_close c ts e)))
    | inr e ↦ elim (is_or (is_mark semicolon c)) [
      | inl d ↦
          rests_go r (λ vs us. whole vs us) values (is_mark semicolon) (is_mark square_close) BadText n c ts e d
          ∙ sym (ap (λ o. after o (turned more_items values n))
          (pick_false (is_mark square_close c) _ _ e ∙ ap (λ (o : Outcome Token Why (Unit {0})). after o (λ u xs. mapped (λ v. Some v) (r xs))) (mark_there semicolon c ts d))
          ∙ after_mapped (r ts) (λ v. Some v) (turned more_items values n))
      | inr d ↦
          rests_other r (λ vs us. whole vs us) values (is_mark semicolon) (is_mark square_close) BadText (suc n) c ts e d
          ∙ sym (ap (λ o. after o (turned more_items values n))
          (pick_false (is_mark square_close c) _ _ e
          ∙ ap (λ (o : Outcome Token Why (Unit {0})). after o (λ u xs. mapped (λ v. Some v) (r xs))) (mark_not semicolon c ts d)))
    ]
  ]

-- ---- the items of an S-expression, each of depth at most d

abbrev pub inner : ℕ → ℕ → TokenReader (List Sexp)
inner zero n ts = closed_at round_close ts
inner (suc d) n ts = until (is_mark round_close) BadText (sexp_at (suc d)) n ts

pub inner_is : (d : ℕ) (ts : List Token) → inner d (length ts) ts ≡ inside_at d (sexp_at d) ts
inner_is zero ts = refl
inner_is (suc d) ts = refl

-- the list ends where no item may stand, and at its bracket
pub inner_end : (d : ℕ) (values : List Sexp) (n : ℕ) (ts : List Token) → (0 < d → is_first (is_mark round_close) ts ≡ true)
    → onward (λ vs us. whole vs us) values (inner d n ts) ≡ after (mark_at round_close ts) (λ u us. whole values us)
inner_end zero values n ts is = after_mapped (mark_at round_close ts) (λ u. []) (λ vs us. whole (values ++ vs) us) ∙ none_more (mark_at round_close ts)
  where
    none_more : (o : Outcome Token Why (Unit {0})) → after o (λ u us. whole (values ++ []) us) ≡ after o (λ u us. whole values us)
    none_more o = ap (λ vs. after o (λ u us. whole vs us)) (append-nil values)
inner_end (suc d) values n [] is = let some : false ≡ true = is (omega arith) in absurd cc
inner_end (suc d) values n (c ∷ ts) is =
    until_end (sexp_at (suc d)) (λ vs us. whole vs us) values (is_mark round_close) BadText n c ts (is (omega arith))
    ∙ sym (ap (λ (o : Outcome Token Why (Unit {0})). after o (λ u us. whole values us)) (mark_there round_close c ts (is (omega arith))))

pub inner_turn : (d : ℕ) (values : List Sexp) (n : ℕ) (ts : List Token) → 0 < d → is_first (is_mark round_close) ts ≡ false → length ts ≤ n
    → onward (λ vs us. whole vs us) values (inner d n ts) ≡ after (sexp_at d ts) (λ v us. onward (λ vs xs. whole vs xs) (values ++ v ∷ []) (inner d (less_one n) us))
unfolding sexp_at
inner_turn zero values n ts some is le = absurd (omega arith)
inner_turn (suc d) values n [] some is le = until_done (sexp_at (suc d)) (λ vs us. whole vs us) values (is_mark round_close) BadText n
inner_turn (suc d) values zero (c ∷ ts) some is le = absurd (omega arith)
inner_turn (suc d) values (suc n) (c ∷ ts) some is le = until_go (sexp_at (suc d)) (λ vs us. whole vs us) values (is_mark round_close) BadText n c ts is

module _ (d : ℕ) (total : Outcome Token Why (List Sexp)) (old now : Unread) (values : List Sexp) (turning : Turning (inner d) total old now values) where
  pub inner_goes : (new : Unread) (x : Sexp) → 0 < d → false ≡ is_first (is_mark round_close) (ahead now) → HasOutcome (sexp_at d (ahead now)) now new (Ok x)
      → length (ahead new) < length (ahead now) → Turning (inner d) total old new (values ++ x ∷ [])
  inner_goes new x some other is fewer = record {
    goes = goes_join old now new turning.goes is.0;
    bound = less_one turning.bound;
    enough = one_fewer (length (ahead now)) (length (ahead new)) turning.bound turning.enough fewer;
    reads =
        sym (after_whole (λ v us. onward (λ vs xs. whole vs xs) (values ++ v ∷ []) (inner d (less_one turning.bound) us)) is.1)
        ∙ (sym (inner_turn d values turning.bound (ahead now) some (sym other) turning.enough) ∙ turning.reads);
  }

  pub inner_fails : (new : Unread) (stop : Halt) → 0 < d → false ≡ is_first (is_mark round_close) (ahead now) → HasOutcome (sexp_at d (ahead now)) now new (Err stop)
      → HasOutcome total old new (Err stop)
  inner_fails new stop some other is =
      stops_after total (sexp_at d (ahead now)) (λ v us. onward (λ vs xs. whole vs xs) (values ++ v ∷ []) (inner d (less_one turning.bound) us)) old now new stop
      (sym turning.reads ∙ inner_turn d values turning.bound (ahead now) some (sym other) turning.enough) turning.goes is

  closed_is : (0 < d → is_first (is_mark round_close) (ahead now) ≡ true) → total ≡ after (mark_at round_close (ahead now)) (λ u us. whole values us)
  closed_is ends = sym turning.reads ∙ inner_end d values turning.bound (ahead now) ends

  pub inner_closes : (new : Unread) → (0 < d → is_first (is_mark round_close) (ahead now) ≡ true) → HasOutcome (mark_at round_close (ahead now)) now new (Ok tt)
      → HasOutcome total old new (Ok values)
  inner_closes new ends is = (goes_join old now new turning.goes is.0, closed_is ends ∙ after_whole (λ u us. whole values us) is.1)

  pub inner_stays : (new : Unread) (stop : Halt) → (0 < d → is_first (is_mark round_close) (ahead now) ≡ true)
      → HasOutcome (mark_at round_close (ahead now)) now new (Err stop) → HasOutcome total old new (Err stop)
  inner_stays new stop ends is =
      stops_after total (mark_at round_close (ahead now)) (λ u us. whole values us) old now new stop (closed_is ends) turning.goes is

pub inner_start : (d : ℕ) (c : Unread) (values : List Sexp) → values ≡ [] → Turning (inner d) (inside_at d (sexp_at d) (ahead c)) c c values
inner_start d c values none = record {
  goes = goes_none c;
  bound = length (ahead c);
  enough = omega arith;
  reads = ap (λ vs. onward (λ xs us. whole xs us) vs (inner d (length (ahead c)) (ahead c))) none ∙ (after_self (inner d (length (ahead c)) (ahead c)) ∙ inner_is d (ahead c));
}

-- ---- an S-expression

abbrev list_rest : ℕ → TokenReader Sexp
list_rest d ts = mapped sx.List (inside_at d (sexp_at d) ts)

pub sexp_list : (d : ℕ) (ts : List Token) → 0 < d → true ≡ is_first (is_mark round_open) ts
    → sexp_at d ts ≡ after (taken_at true ts) (λ u us. mapped sx.List (inside_at (d - 1) (sexp_at (d - 1)) us))
unfolding sexp_at
sexp_list zero ts some is = absurd (omega arith)
sexp_list (suc d) [] some is = absurd cc
sexp_list (suc d) (t ∷ ts) some is =
    pick_true (is_mark round_open t) _ _ (sym is)
    ∙ (ap (λ (o : Outcome Token Why (Unit {0})). after o (λ u us. list_rest d us)) (mark_there round_open t ts (sym is))
    ∙ ap (λ e. list_rest e ts) (let e : d ≡ suc d - 1 = omega arith in e))

pub sexp_atom : (d : ℕ) (ts : List Token) → 0 < d → false ≡ is_first (is_mark round_open) ts → sexp_at d ts ≡ mapped sx.Atom (one quoted_bytes_of BadText ts)
unfolding sexp_at
sexp_atom zero ts some is = absurd (omega arith)
sexp_atom (suc d) [] some is = refl
sexp_atom (suc d) (t ∷ ts) some is = pick_false (is_mark round_open t) _ _ (sym is) ∙ atom_reads (t ∷ ts)
