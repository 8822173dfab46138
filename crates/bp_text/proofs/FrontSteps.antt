-- What the reading of a shape in front of a longer text says of the text.
use Rattle.std.proofs.Common.{◌≡◌, ◌≢◌, refl, sym, ap, ◌∙◌, subst, ℕ, ◌+◌, ◌-◌, List, [], ◌∷◌, ◌++◌, length, take, drop, Option, Some, None, Ok, Err, ◌⊎◌, inl, inr, arith}
use Rattle.std.proofs.lemmas.List.{append-nil, length-append}
use Rattle.std.proofs.Math.Seq.{take-append_seam, drop-append_seam}
use Rattle.readers.specs.Reader.{whole, more, bad, Each, Is, Front, FaultAt}
use Rattle.readers.proofs.Readers.{each-any, each-front}
use Rattle.bp_value.specs.declared.shape.Shape.{Shape}
use Rattle.bp_text_grammar.specs.Tokens.{Token}
use Rattle.bp_text_grammar.specs.Lexing.{Stamped, Lexes}
use Rattle.bp_text_grammar.specs.Scanning.{lex}
use Rattle.bp_text_grammar.specs.Texts.{Why, BadText, Float}
use Rattle.bp_text_grammar.specs.ShapeTexts.{IsShapeTokens, IsShapeFault, shape_at}
use Rattle.bp_text_grammar.specs.ShapeFronts.{IsLongestFront, before, taken, shape_front_at}
use Rattle.bp_text_grammar.specs.WholeTexts.{kinds, IsShapeText, IsShapeFront, IsNoShapeFront}
use Rattle.bp_text_grammar.proofs.Exact.{lexes_some, lexes_once}
use Rattle.bp_text_grammar.proofs.RightShapes.{right_shape}
use Rattle.bp_text_grammar.proofs.LongestFronts.{shape_front_good, shape_front_more}
use Rattle.bp_text_grammar.proofs.ShapeTokens.{is_spelled, shape_spelled}
use Rattle.bp_text_grammar.proofs.WholeReads.{kinds_join, same_cut, refused_none, wrong_at}
use Rattle.bp_text.specs.declared.error.TextError.{TextError}
use Rattle.bp_text.specs.declared.error.TextError.TheVariants as error
use Rattle.bp_text.specs.declared.halt.Halt.{Halt}
use Rattle.bp_text.specs.declared.halt.Halt.TheVariants as halt
use Rattle.bp_text.specs.Items.{halt_of}
use Rattle.bp_text.specs.TextAnswers.{error_of, IsReadAs, IsFrontReadAs, IsShapeIf}
use Rattle.bp_text.specs.Unread.{Unread, ahead, left_of, Advances, ReadsFrom}
use Rattle.bp_text.proofs.WholeSteps.{goes_lex}
use Rattle.bp_text.proofs.FrontBytes.{AreBytes, bytes_of_taken, front_bytes, holds_just}

front_spelled : (p : List Token) → Front IsShapeTokens p → Each (Is is_spelled) p
front_spelled p (a, x, l) = each-front (Is is_spelled) p x (shape_spelled a (p ++ x) l)

front_whole : (ts u : List Token) (a : Shape) → shape_at ts ≡ whole a u → shape_front_at ts ≡ whole a u
unfolding shape_front_at
front_whole ts u a is = ap (taken shape_at ts) is

front_none : (ts : List Token) → shape_at ts ≡ more → shape_front_at ts ≡ more
unfolding shape_front_at
front_none ts is = ap (taken shape_at ts) is

-- all tokens are taken, and are no text
pub front_more : (old : Unread) → shape_at (ahead old) ≡ more → IsNoShapeFront old.rest (length old.rest) BadText
front_more old is =
    let (longest, none) = shape_front_more (ahead old) (front_none (ahead old) is) in
    inr (refl, refl, record { tokens = lex old.rest; lexed = lexes_some old.rest; front = longest.front; unfinished = λ a closed l. none a l })

module _ (old new : Unread) (goes : Advances old new) where
  abbrev pub taken_tokens : List Token
  taken_tokens = kinds goes.taken

  abbrev pub used : ℕ
  used = length old.rest - length new.rest

  parts : ahead old ≡ taken_tokens ++ ahead new
  parts = ap kinds (goes_lex old new goes) ∙ kinds_join goes.taken (lex new.rest)

  -- the tokens that were taken are the longest front
  pub front_is : (a : Shape) → shape_front_at (ahead old) ≡ whole a (ahead new) → IsShapeFront old.rest a used
  front_is a is =
      let (t, longest, l) = shape_front_good (ahead old) (ahead new) a is in
      let (same, rest) = same_cut t taken_tokens (ahead new) (ahead new) (sym longest.cut ∙ parts) refl in
      let all : IsShapeTokens a taken_tokens = subst (λ z. IsShapeTokens a z) same l in
      record {
        all = lex old.rest;
        lexed = lexes_some old.rest;
        taken = taken_tokens;
        left = ahead new;
        longest = subst (λ z. IsLongestFront IsShapeTokens (ahead old) z (ahead new)) same longest;
        spelled = all;
        place = holds_just goes.taken old.rest new.rest (bytes_of_taken goes.taken old.rest new.rest (shape_spelled a taken_tokens all) goes.passes);
      }

  pub front_ok : (a : Shape) → shape_at (ahead old) ≡ whole a (ahead new) → IsShapeFront old.rest a used
  front_ok a is = front_is a (front_whole (ahead old) (ahead new) a is)

  -- the first token that is left is at fault
  module _ (w : Why) (is : shape_at (ahead old) ≡ bad (length (ahead new)) w) (p : List Token) (b : Token) (v : List Token)
      (fault : FaultAt IsShapeTokens (ahead old) p b v (length (ahead new))) (why : IsShapeFault p b w) where
    before_it : taken_tokens ≡ p
    before_it = (same_cut taken_tokens p (ahead new) (b ∷ v) (sym parts ∙ fault.place) fault.left).0

    bytes : AreBytes goes.taken old.rest new.rest
    bytes = bytes_of_taken goes.taken old.rest new.rest (subst (λ z. Each (Is is_spelled) z) (sym before_it)
        (front_spelled p fault.front)) goes.passes

    -- the tokens before it are the text of a shape
    text_before : (a : Shape) → IsShapeTokens a taken_tokens → IsShapeText a (take used old.rest)
    text_before a l = record {
      tokens = bytes.tokens;
      lexed = subst (λ z. Lexes bytes.tokens z) (sym (front_bytes goes.taken old.rest new.rest bytes)) bytes.lexed;
      closed = bytes.closed;
      spelled = subst (λ z. IsShapeTokens a z) (sym bytes.just) l;
    }

    before_text : (a : Shape) → IsShapeText a (take used old.rest) → IsShapeTokens a taken_tokens
    before_text a text =
        let same = lexes_once text.tokens bytes.tokens bytes.bytes
        (subst (λ z. Lexes text.tokens z) (front_bytes goes.taken old.rest new.rest bytes) text.lexed) bytes.lexed in
        subst (λ z. IsShapeTokens a z) (ap kinds same ∙ bytes.just) text.spelled

    reread : (a : Shape) → IsShapeTokens a taken_tokens → shape_front_at (ahead old) ≡ whole a (ahead new)
    unfolding shape_front_at
    reread a l =
        let lens : length (ahead old) ≡ length taken_tokens + length (ahead new) = ap length parts ∙ length-append taken_tokens (ahead new) in
        let at : length (ahead old) - length (ahead new) ≡ length taken_tokens = omega arith in
        let first : take (length (ahead old) - length (ahead new)) (ahead old) ≡ taken_tokens =
        ap (λ k. take k (ahead old)) at ∙ (ap (λ z. take (length taken_tokens) z) parts ∙ take-append_seam taken_tokens (ahead new)) in
        let rest : drop (length (ahead old) - length (ahead new)) (ahead old) ≡ ahead new =
        ap (λ k. drop k (ahead old)) at ∙ (ap (λ z. drop (length taken_tokens) z) parts ∙ drop-append_seam taken_tokens (ahead new)) in
        let again : shape_at taken_tokens ≡ whole a [] = sym (ap shape_at (append-nil taken_tokens)) ∙ right_shape.complete a taken_tokens [] l tt in
        ap (taken shape_at (ahead old)) is
        ∙ (ap (λ z. before (shape_at z) (drop (length (ahead old) - length (ahead new)) (ahead old)) (length (ahead new)) w) first
        ∙ (ap (λ o. before o (drop (length (ahead old) - length (ahead new)) (ahead old)) (length (ahead new)) w) again ∙ ap (λ z. whole a z) rest))

    found_front : (a : Shape) → IsShapeText a (take used old.rest) → IsShapeFront old.rest a used
    found_front a text = front_is a (reread a (before_text a text))

    no_front_here : ((a : Shape) → IsShapeText a (take used old.rest) → ⊥) → (us : List Stamped) → lex new.rest ≡ us
        → IsNoShapeFront old.rest (length old.rest - left_of us) w
    no_front_here none [] left = absurd (omega (arith, fault.left, ap (λ z. length (kinds z)) left))
    no_front_here none (u ∷ us) left =
        let here = subst (λ z. FaultAt IsShapeTokens (ahead old) p b v (length (kinds z))) left fault in
        let (wrong, same, cut) = wrong_at IsShapeTokens IsShapeFault old.rest w goes.taken u us
        (goes_lex old new goes ∙ ap (λ z. goes.taken ++ z) left) p b v here why in
        inl (wrong, λ a l. none a (text_before a (subst (λ z. IsShapeTokens a (kinds z)) same l)))

  module _ (w : Why) (is : shape_at (ahead old) ≡ bad (length (ahead new)) w) where
    pub front_before : (a : Shape) → IsShapeText a (take used old.rest) → IsShapeFront old.rest a used
    front_before a text =
        let (p, b, v, fault, why) = right_shape.faults (ahead old) (length (ahead new)) w (each-any (ahead old)) is in
        found_front w is p b v fault why a text

    pub front_bad : ((a : Shape) → IsShapeText a (take used old.rest) → ⊥) → IsNoShapeFront old.rest (length old.rest - left_of (lex new.rest)) w
    front_bad none =
        let (p, b, v, fault, why) = right_shape.faults (ahead old) (length (ahead new)) w (each-any (ahead old)) is in
        no_front_here w is p b v fault why none (lex new.rest) refl

-- ---- as the code finds it: s are the bytes, k how many of them were taken

-- a reading that stops at a fault has its reason
fault_why : (old new : Unread) (e : Halt) → (e ≡ halt.Bad) ⊎ (e ≡ halt.Float) → ReadsFrom {A = Shape} shape_at old new (Err e)
    → (w : Why) × Advances old new × (shape_at (ahead old) ≡ bad (length (ahead new)) w) × (e ≡ halt_of w)
fault_why old new halt.Bad some (goes, is) = (BadText, goes, is, refl)
fault_why old new halt.Float some (goes, is) = (Float, goes, is, refl)
fault_why old new halt.More (inl e) is = absurd cc
fault_why old new halt.More (inr e) is = absurd cc
fault_why old new halt.OutOfMemory (inl e) is = absurd cc
fault_why old new halt.OutOfMemory (inr e) is = absurd cc

front_fault : (s : List ℕ) (w : Why) (len left : ℕ) → IsNoShapeFront s (len - left) w → IsFrontReadAs s (Err (error_of (halt_of w) len left))
front_fault s BadText len left none = none
front_fault s Float len left none = none

module _ (s : List ℕ) (old new : Unread) (at : old.rest ≡ s) where
  pub got_more : (e : Halt) → e ≡ halt.More → ReadsFrom {A = Shape} shape_at old new (Err e) → IsNoShapeFront s (length s) BadText
  got_more halt.More same is = subst (λ z. IsNoShapeFront z (length z) BadText) at (front_more old is.1)
  got_more halt.Bad same is = absurd cc
  got_more halt.Float same is = absurd cc
  got_more halt.OutOfMemory same is = absurd cc

  module _ (k : ℕ) (taken_are : k ≡ length s - length new.rest) where
    of_used : (P : List ℕ → ℕ → Type 0) → P old.rest (length old.rest - length new.rest) → P s k
    of_used P is = subst (λ n. P s n) (sym taken_are) (subst (λ z. P z (length z - length new.rest)) at is)

    to_used : (P : List ℕ → ℕ → Type 0) → P s k → P old.rest (length old.rest - length new.rest)
    to_used P is = subst (λ z. P z (length z - length new.rest)) (sym at) (subst (λ n. P s n) taken_are is)

    pub got_front : (a : Shape) → ReadsFrom {A = Shape} shape_at old new (Ok a) → IsShapeFront s a k
    got_front a (goes, is) = of_used (λ z n. IsShapeFront z a n) (front_ok old new goes a is)

    module _ (e : Halt) (some : (e ≡ halt.Bad) ⊎ (e ≡ halt.Float)) (is : ReadsFrom {A = Shape} shape_at old new (Err e)) (o : Option Shape)
        (reads : IsShapeIf (take k s) o) where
      pub got_before : (a : Shape) → o ≡ Some a → IsShapeFront s a k
      got_before a found =
          let (w, goes, fault, same) = fault_why old new e some is in
          of_used (λ z n. IsShapeFront z a n)
          (front_before old new goes w fault a (to_used (λ z n. IsShapeText a (take n z)) (subst (λ p. IsShapeIf (take k s) p) found reads)))

      pub got_fault : (left : ℕ) → left ≡ left_of (lex new.rest) → o ≡ None → IsFrontReadAs s (Err (error_of e (length s) left))
      got_fault left left_is none =
          let (w, goes, fault, same) = fault_why old new e some is in
          let no_text = to_used (λ z n. (a : Shape) → IsShapeText a (take n z) → ⊥) (subst (λ p. IsShapeIf (take k s) p) none reads) in
          subst (λ x. IsFrontReadAs s (Err (error_of x (length s) left))) (sym same)
          (subst (λ n. IsFrontReadAs s (Err (error_of (halt_of w) (length s) n))) (sym left_is)
          (subst (λ z. IsFrontReadAs z (Err (error_of (halt_of w) (length z) (left_of (lex new.rest))))) at
          (front_fault old.rest w (length old.rest) (left_of (lex new.rest)) (front_bad old new goes w fault no_text))))

-- no text of a shape, where one was refused for another reason than memory
pub unread_none : (s : List ℕ) (e : TextError) → IsReadAs {A = Shape} IsShapeTokens IsShapeFault s (Err e) → e ≢ error.OutOfMemory
    → (a : Shape) → IsShapeText a s → ⊥
unread_none s (error.BadText at) refused some a text = refused_none IsShapeTokens IsShapeFault s at BadText a refused text
unread_none s (error.Float at) refused some a text = refused_none IsShapeTokens IsShapeFault s at Float a refused text
unread_none s (error.NotGood fault) refused some a text = refused
unread_none s error.OutOfMemory refused some a text = some refl
