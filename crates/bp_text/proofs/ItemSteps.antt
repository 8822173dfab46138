-- The turns of a loop over the items of a list: the factors of a product, the fields of a record, the cases of a variant.
use Rattle.std.proofs.Common.{◌≡◌, refl, sym, ap, ◌∙◌, subst, ℕ, ◌<◌, Bool, true, false, Some, None, List, [], ◌∷◌, ◌++◌, length, Ok, Err, ◌⊎◌, inl, inr, arith}
use Rattle.readers.specs.Reader.{Outcome, whole, bad, after, Any, Right, Plain, one, leaf, rests, stop}
use Rattle.readers.proofs.Readers.{each-any}
use Rattle.readers.proofs.Leaves.{is_or, pick_true, pick_false}
use Rattle.readers.proofs.Bounds.{after_same}
use Rattle.readers.proofs.Loops.{onward, mapped_after, rests_go_on, rests_end, rests_other, rests_done}
use Rattle.bp_text_grammar.specs.Tokens.{Token}
use Rattle.bp_text_grammar.specs.Texts.{Why, BadText, is_mark, when, onto_at}
use Rattle.bp_text.specs.declared.halt.Halt.{Halt}
use Rattle.bp_text.specs.Items.{closing, ReadsUpTo}
use Rattle.bp_text.specs.Unread.{Unread, ahead, Advances, ReadsFrom}
use Rattle.bp_text.proofs.Ahead.{goes_none, goes_join}
use Rattle.bp_text.specs.Leaves.{TokenReader}
use Rattle.bp_text.proofs.Readings.{gives_as, gives_past, gives_failed}
use Rattle.bp_text.proofs.Turns.{no_more_ahead}
use Rattle.bp_text.proofs.CaseSteps.{takes_one}

-- what is read after some items, as what is read of all
abbrev pub gives_all : {A : Type 0} → List A → List Token → Outcome Token Why (List A)
gives_all vs u = whole vs u

-- the items so far, and what is read of an item and of those after it, are what is read of all
pub record Looping {A : Type 0} (r : TokenReader A) (next total : TokenReader (List A)) (start now : Unread) (items : List A) : Type 0 where
  pub goes : Advances start now
  pub going : after (r (ahead now)) (λ v u. onward gives_all (items ++ v ∷ []) (next u)) ≡ total (ahead start)

-- the same before what stands after an item
pub record Standing {A : Type 0} (next total : TokenReader (List A)) (start now : Unread) (items : List A) : Type 0 where
  pub goes : Advances start now
  pub between : onward gives_all items (next (ahead now)) ≡ total (ahead start)

pub loop_starts : {A : Type 0} (r : TokenReader A) (next : TokenReader (List A)) (c : Unread) (items : List A) → items ≡ []
    → Looping r next (onto_at r next) c c items
loop_starts r next c items none = subst (λ vs. Looping r next (onto_at r next) c c vs) (sym none) (record {
  goes = goes_none c;
  going = after_same (r (ahead c)) _ _ (λ v u is. sym (mapped_after (next u) (λ vs. v ∷ vs)));
})

module _ {A : Type 0} {r : TokenReader A} {next total : TokenReader (List A)} {start now : Unread} {items : List A}
    (loop : Looping r next total start now items) (new : Unread) where
  -- an item is read, and put to the others
  pub item_read : (v : A) (more_items : List A) → ReadsFrom {A = A} r now new (Ok v) → more_items ≡ items ++ v ∷ []
      → Standing next total start new more_items
  item_read v more_items (on, is) pushed = subst (λ vs. Standing next total start new vs) (sym pushed) (record {
    goes = goes_join start now new loop.goes on;
    between = sym (ap (λ o. after o (λ w u. onward gives_all (items ++ w ∷ []) (next u))) is) ∙ loop.going;
  })

  -- none is read
  pub item_failed : (e : Halt) → ReadsFrom {A = A} r now new (Err e) → ReadsFrom {A = List A} total start new (Err e)
  item_failed e is =
      gives_past (total (ahead start)) start now new (Err e) loop.goes
      (gives_as _ _ now new (Err e) (sym loop.going) (gives_failed (r (ahead now)) (λ v u. onward gives_all (items ++ v ∷ []) (next u)) now new e is))

-- ---- up to a closing mark

abbrev pub items_at : {A : Type 0} → ℕ → ℕ → TokenReader A → List Token → Outcome Token Why (List A)
items_at sep close r u = rests (is_mark sep) (is_mark close) BadText r (length u) u

module _ {A : Type 0} (sep close : ℕ) (E : Token → Type 0) (L : A → List Token → Type 0) (r : List Token → Outcome Token Why A)
    (right : Right Any E L Plain r) (front : List A) where
  -- what the mark after an item says
  abbrev after_mark : Bool → List Token → Outcome Token Why (List A)
  after_mark true w = whole front w
  after_mark false w = after (r w) (λ v u. onward gives_all (front ++ v ∷ []) (items_at sep close r u))

  by_mark : (u : List Token) → onward gives_all front (items_at sep close r u) ≡ after (one (closing sep close) BadText u) after_mark
  by_mark [] = rests_done r gives_all front (is_mark sep) (is_mark close) BadText (length {A = Token} [])
  by_mark (c ∷ u) = elim (is_or (is_mark close c)) [
    | inl e ↦ rests_end r gives_all front (is_mark sep) (is_mark close) BadText (length (c ∷ u)) c u e
        ∙ sym (ap (λ o. after (leaf o (length (c ∷ u)) BadText u) after_mark)
        (pick_true (is_mark close c) (Some true) (when (is_mark sep c) false) e))
    | inr e ↦ goes e (is_or (is_mark sep c))
  ]
    where
      said : is_mark close c ≡ false → closing sep close c ≡ when (is_mark sep c) false
      said e = pick_false (is_mark close c) (Some true) (when (is_mark sep c) false) e

      goes : is_mark close c ≡ false → (is_mark sep c ≡ true) ⊎ (is_mark sep c ≡ false)
          → onward gives_all front (items_at sep close r (c ∷ u)) ≡ after (one (closing sep close) BadText (c ∷ u)) after_mark
      goes e (inl d) =
          rests_go_on Any E L Plain r right gives_all front (is_mark sep) (is_mark close) BadText c u (each-any u) e d
          ∙ sym (ap (λ o. after (leaf o (length (c ∷ u)) BadText u) after_mark) (said e ∙ pick_true (is_mark sep c) (Some false) None d))
      goes e (inr d) =
          rests_other r gives_all front (is_mark sep) (is_mark close) BadText (length (c ∷ u)) c u e d
          ∙ sym (ap (λ o. after (leaf o (length (c ∷ u)) BadText u) after_mark) (said e ∙ pick_false (is_mark sep c) (Some false) None d))

  -- a list in which an item may be followed by what is looked at later, the marks among it
  abbrev item_then : A → TokenReader (List A)
  item_then v u = onward gives_all (front ++ v ∷ []) (items_at sep close r u)

  pub up_to_mark : (ends : Token → Bool) → ((c : Token) → ends c ≡ false → (is_mark close c ≡ false) × (is_mark sep c ≡ false))
      → (v : A) (u : List Token) → after (stop ends BadText v u) item_then ≡ item_then v u
  up_to_mark ends apart v [] = refl
  up_to_mark ends apart v (c ∷ u) = elim (is_or (ends c)) [
    | inl e ↦ ap (λ o. after o item_then) (pick_true (ends c) (whole v (c ∷ u)) (bad (length (c ∷ u)) BadText) e)
    | inr e ↦ let (no_close, no_sep) = apart c e in
        ap (λ o. after o item_then) (pick_false (ends c) (whole v (c ∷ u)) (bad (length (c ∷ u)) BadText) e)
        ∙ sym (rests_other r gives_all (front ++ v ∷ []) (is_mark sep) (is_mark close) BadText (length (c ∷ u)) c u no_close no_sep)
  ]

-- ---- one turn of such a list

module _ {A : Type 0} (sep close : ℕ) {E : Token → Type 0} {L : A → List Token → Type 0} {r : TokenReader A} (right : Right Any E L Plain r)
    {total : TokenReader (List A)} {start now : Unread} {items : List A} (new : Unread) where
  -- an item is read but for what may follow it
  pub item_up : (ends : Token → Bool) → ((c : Token) → ends c ≡ false → (is_mark close c ≡ false) × (is_mark sep c ≡ false))
      → Looping r (items_at sep close r) total start now items → (v : A) (more_items : List A)
      → ReadsUpTo {A = A} ends r now new (Ok v) → more_items ≡ items ++ v ∷ [] → Standing (items_at sep close r) total start new more_items
  item_up ends apart loop v more_items (on, is) pushed = subst (λ vs. Standing (items_at sep close r) total start new vs) (sym pushed) (record {
    goes = goes_join start now new loop.goes on;
    between =
        sym (up_to_mark sep close E L r right items ends apart v (ahead new))
        ∙ (sym (ap (λ o. after o (λ w u. onward gives_all (items ++ w ∷ []) (items_at sep close r u))) is) ∙ loop.going);
  })

  module _ (standing : Standing (items_at sep close r) total start now items) where
    -- neither mark is there
    pub loop_ended : (e : Halt) → ReadsFrom {A = Bool} (one (closing sep close) BadText) now new (Err e) → ReadsFrom {A = List A} total start new
        (Err e)
    loop_ended e is =
        gives_past (total (ahead start)) start now new (Err e) standing.goes
        (gives_as _ _ now new (Err e) (sym standing.between ∙ by_mark sep close E L r right items (ahead now))
        (gives_failed (one (closing sep close) BadText (ahead now)) (after_mark sep close E L r right items) now new e is))

    module _ (b : Bool) (is : ReadsFrom {A = Bool} (one (closing sep close) BadText) now new (Ok b)) where
      marked : (d : Bool) → b ≡ d → total (ahead start) ≡ after_mark sep close E L r right items d (ahead new)
      marked d e =
          sym standing.between
          ∙ (by_mark sep close E L r right items (ahead now)
          ∙ ap (λ o. after o (after_mark sep close E L r right items)) (is.1 ∙ ap (λ x. whole x (ahead new)) e))

      -- the list closes; it goes on
      pub loop_closed : (listed : List A) → b ≡ true → listed ≡ items → ReadsFrom {A = List A} total start new (Ok listed)
      loop_closed listed closes list = (goes_join start now new standing.goes is.0, marked true closes ∙ ap (λ vs. whole vs (ahead new)) (sym list))

      pub loop_on : b ≡ false → Looping r (items_at sep close r) total start new items
      loop_on on = record { goes = goes_join start now new standing.goes is.0; going = sym (marked false on) }

-- a mark is taken at least
pub loop_less : (sep close : ℕ) (now mid new : Unread) (b : Bool) → Advances now mid
    → ReadsFrom {A = Bool} (one (closing sep close) BadText) mid new (Ok b) → length (ahead new) < length (ahead now)
loop_less sep close now mid new b on is =
    let one_token = takes_one (closing sep close) (ahead mid) (ahead new) b is.1 in
    let no_more = no_more_ahead now mid on in
    omega arith
