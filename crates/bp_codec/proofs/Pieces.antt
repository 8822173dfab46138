-- What a reader answers for a piece is what decoding says of all bytes that were fed.
use Rattle.std.proofs.Common.{◌≡◌, refl, sym, ap, ◌∙◌, subst, ℕ, ◌+◌, ◌-◌, ◌^◌, ◌≤◌, min, List, [], ◌∷◌, ◌++◌, length, append_assoc, zero-add, ◌<◌, Result, Ok, Err, IfOk, ◌⊎◌, inl, inr, arith}
use Rattle.std.specs.Prelude.{MatchOption, Option, Some, None}
use Rattle.std.specs.Option.{unwrap_or}
use Rattle.std.proofs.lemmas.List.{append-nil, length-append}
use Rattle.readers.specs.Reader.{Outcome, whole, more, bad, Each, IsByte, Any, Front, FaultAt, Right, Stands, IsFaultAt}
use Rattle.readers.proofs.Readers.{cut_two, each-join, follows-any, snoc}
use Rattle.bp_num.specs.declared.number.Why.{Why}
use Rattle.bp_value.specs.declared.value.Value.{Value}
use Rattle.bp_value.specs.Form.{Form}
use Rattle.bp_value.specs.Faults.{IsGood}
use Rattle.bp_grammar.specs.Spells.{Spells}
use Rattle.bp_grammar.specs.Reasons.{FaultWhy}
use Rattle.bp_grammar.specs.Reading.{read}
use Rattle.bp_grammar.proofs.FrontsAre.{right_good}
use Rattle.bp_grammar.proofs.SomeBytes.{spelling_some, good_full}
use Rattle.bp_codec.specs.declared.decoding.Decoded.{Decoded}
use Rattle.bp_codec.specs.declared.decoding.Decoded.TheVariants as decoded
use Rattle.bp_codec.specs.declared.open.Open.{Open}
use Rattle.bp_codec.specs.declared.reader.Machine.{Machine}
use Rattle.bp_codec.specs.declared.reader.Progress.TheVariants as progress
use Rattle.bp_codec.specs.declared.reader.Reader.{Reader}
use Rattle.bp_codec.specs.declared.stop.Stop.{Stop}
use Rattle.bp_codec.specs.declared.stop.Stop.TheVariants as stop
use Rattle.bp_codec.specs.Decoded.{IsDecoded}
use Rattle.bp_codec.specs.Fed.{place, IsFed, ReadsOn, HasFed}
use Rattle.bp_codec.specs.Held.{IsHeld}
use Rattle.bp_codec.specs.Keeping.{LeavesSome}
use Rattle.bp_codec.specs.Opened.{opened, IsRoot}
use Rattle.bp_codec.specs.Plan.{Reading, AreRead, ReadAs}
use Rattle.bp_codec.specs.Taking.{Ends, EndsAll}
use Rattle.bp_codec.proofs.Roots.{root_reads}
use Rattle.bp_codec.proofs.Decodes.{answer, told, only}

-- ---- what is read of all bytes, where those before the piece begin a value

module _ (m : ℕ) (f : Form) (good : IsGood f) (s piece : List ℕ) (fed : Each IsByte s) (next : Each IsByte piece) (begins : read m f s ≡ more) where
  right : Right IsByte Any (Spells m f) (FaultWhy m f) (read m f)
  right = right_good m f good

  all : Each IsByte (s ++ piece)
  all = each-join IsByte s piece fed next

  lens : length (s ++ piece) ≡ length s + length piece
  lens = length-append s piece

  -- a whole value ends in the piece
  whole_in : (v : Value) (u : List ℕ) → read m f (s ++ piece) ≡ whole v u → length u ≤ length piece
  whole_in v u e = let (t, cut, spells, follows) = right.sound (s ++ piece) v u all e in within t spells (cut_two s piece t u cut)
    where
      within : (t : List ℕ) → Spells m f v t → ((y : List ℕ) × (t ≡ s ++ y) × (piece ≡ y ++ u)) ⊎ ((y : List ℕ) × (s ≡ t ++ y) × (u ≡ y ++ piece)) → length u ≤ length piece
      within t spells (inl (y, front, rest)) = let lens : length piece ≡ length y + length u = ap length rest ∙ length-append y u in omega arith
      within t spells (inr (y, front, rest)) =
          let before : read m f s ≡ whole v y = ap (read m f) front ∙ right.complete v t y spells (follows-any y) in
          absurd (clash (sym begins ∙ before))
        where
          clash : ◌≡◌ {A = Outcome ℕ Why Value} more (whole v y) → ⊥
          clash e = cc

  -- a faulty byte stands in the piece
  bad_in : (n : ℕ) (w : Why) → read m f (s ++ piece) ≡ bad n w → n ≤ length piece
  bad_in n w e = let (p, b, v, fault, why) = right.faults (s ++ piece) n w all e in within p b v fault (cut_two s piece p (b ∷ v) fault.place)
    where
      within : (p : List ℕ) (b : ℕ) (v : List ℕ) → FaultAt (Spells m f) (s ++ piece) p b v n
          → ((y : List ℕ) × (p ≡ s ++ y) × (piece ≡ y ++ b ∷ v)) ⊎ ((y : List ℕ) × (s ≡ p ++ y) × (b ∷ v ≡ y ++ piece)) → n ≤ length piece
      within p b v fault (inl (y, front, rest)) =
          let lens : length piece ≡ length y + length (b ∷ v) = ap length rest ∙ length-append y (b ∷ v) in
          let left : n ≡ length (b ∷ v) = fault.left in
          omega arith
      within p b v fault (inr ([], front, rest)) =
          let lens : length (b ∷ v) ≡ length piece = ap length rest in
          let left : n ≡ length (b ∷ v) = fault.left in
          omega arith
      within p b v fault (inr (c ∷ y, front, rest)) =
          let same : c ≡ b = cc in
          absurd (fault.no_front (begun p b y (front ∙ ap (λ z. p ++ z ∷ y) same) (right.goes_on s fed begins)))
        where
          begun : (p : List ℕ) (b : ℕ) (y : List ℕ) → s ≡ p ++ b ∷ y → Front (Spells m f) s → Front (Spells m f) (p ++ b ∷ [])
          begun p b y front (a, x, spells) =
              let line : s ++ x ≡ (p ++ b ∷ []) ++ (y ++ x) = ap (λ z. z ++ x) front ∙ (append_assoc p (b ∷ y) x ∙ sym (snoc p b (y ++ x))) in
              (a, y ++ x, subst (λ z. Spells m f a z) line spells)

  -- the answer for what is read of all bytes
  abbrev piece_answer : Outcome ℕ Why Value → Decoded
  piece_answer (whole v u) = decoded.Whole v (length piece - length u)
  piece_answer more = decoded.More
  piece_answer (bad n w) = decoded.Bad (min (place (length s) + (length piece - n)) (2 ^ 64 - 1)) w

  placed : (n : ℕ) → n ≤ length piece → min (place (length s) + (length piece - n)) (2 ^ 64 - 1) ≡ place (length (s ++ piece) - n)
  placed n le = omega (arith, lens)

  pub piece_told : (o : Outcome ℕ Why Value) → read m f (s ++ piece) ≡ o → IsFed m f s piece (piece_answer o)
  piece_told (whole v u) e =
      let le : length u ≤ length piece = whole_in v u e in
      let used : length (s ++ piece) - length u ≡ length s + (length piece - length u) = omega (arith, lens) in
      subst (λ k. IsDecoded m f (s ++ piece) (decoded.Whole v k)) used (told m f good (s ++ piece) all (whole v u) e)
  piece_told more e = told m f good (s ++ piece) all more e
  piece_told (bad n w) e = (length (s ++ piece) - n, told m f good (s ++ piece) all (bad n w) e, placed n (bad_in n w e))

  pub piece_only : (o : Outcome ℕ Why Value) → read m f (s ++ piece) ≡ o → (d : Decoded) → IsFed m f s piece d → d ≡ piece_answer o
  piece_only o e (decoded.Whole v used) stands = whole_only o e (only m f good (s ++ piece) all o e (decoded.Whole v (length s + used)) stands)
    where
      whole_only : (o : Outcome ℕ Why Value) → read m f (s ++ piece) ≡ o → decoded.Whole v (length s + used) ≡ answer (length (s ++ piece)) o → decoded.Whole v used ≡ piece_answer o
      whole_only (whole w u) e same =
          let le : length u ≤ length piece = whole_in w u e in
          let values : v ≡ w = cc in
          let counts : length s + used ≡ length (s ++ piece) - length u = cc in
          let here : used ≡ length piece - length u = omega (arith, lens) in
          ap (λ x. decoded.Whole x used) values ∙ ap (λ k. decoded.Whole w k) here
      whole_only more e same = absurd cc
      whole_only (bad n w) e same = absurd cc
  piece_only o e decoded.More front = more_only o (only m f good (s ++ piece) all o e decoded.More front)
    where
      more_only : (o : Outcome ℕ Why Value) → decoded.More ≡ answer (length (s ++ piece)) o → decoded.More ≡ piece_answer o
      more_only (whole w u) same = absurd cc
      more_only more same = refl
      more_only (bad n w) same = absurd cc
  piece_only o e (decoded.Bad at why) (k, fault, counted) = bad_only o e (only m f good (s ++ piece) all o e (decoded.Bad k why) fault)
    where
      bad_only : (o : Outcome ℕ Why Value) → read m f (s ++ piece) ≡ o → decoded.Bad k why ≡ answer (length (s ++ piece)) o → decoded.Bad at why ≡ piece_answer o
      bad_only (whole w u) e same = absurd cc
      bad_only more e same = absurd cc
      bad_only (bad n w) e same =
          let le : n ≤ length piece = bad_in n w e in
          let reasons : why ≡ w = cc in
          let places : k ≡ length (s ++ piece) - n = cc in
          ap (λ x. decoded.Bad x why) (counted ∙ (ap place places ∙ sym (placed n le))) ∙ ap (λ x. decoded.Bad (min (place (length s) + (length piece - n)) (2 ^ 64 - 1)) x) reasons

-- ---- a run over what was held and the piece

pub bytes_joined : (held before piece after view bytes : List ℕ) → before ≡ held → IsHeld before piece after → view ≡ after
    → ((h : List ℕ) → IsHeld h piece view → bytes ≡ h ++ piece) → bytes ≡ held ++ piece
bytes_joined held before piece after view bytes same holds shown joined =
    joined held (subst (λ h. IsHeld h piece view) same (subst (λ v. IsHeld before piece v) (sym shown) holds))

-- what a run read of all bytes, of which u are left
abbrev pub outcome_of : Result Value Stop → List ℕ → Outcome ℕ Why Value
outcome_of (Ok v) u = whole v u
outcome_of (Err stop.More) u = more
outcome_of (Err (stop.Bad w)) u = bad (length u) w
outcome_of (Err stop.OutOfMemory) u = more

-- a copy is held, or else what was held already
pub kept_by : {V : Type 0} (copy : Option V) (held : V) (items : V → List ℕ) (rest : List ℕ) → MatchOption copy (items held ≡ rest) (λ v. items v ≡ rest) → items (unwrap_or copy held) ≡ rest
kept_by None held items rest same = same
kept_by (Some v) held items rest same = same

pub left_some : (before piece after view bytes rest : List ℕ) → IsHeld before piece after → view ≡ after → ((h : List ℕ) → IsHeld h piece view → bytes ≡ h ++ piece)
    → LeavesSome bytes rest → LeavesSome (before ++ piece) rest
left_some before piece after view bytes rest holds shown joined some =
    subst (λ b. LeavesSome b rest) (joined before (subst (λ v. IsHeld before piece v) (sym shown) holds)) some

module _ (m : ℕ) (f : Form) (s : List ℕ) (r : Reader) (fed : HasFed m f s r) (machine : Machine) (going : r.progress ≡ progress.Reading machine)
    (piece : List ℕ) (next : Each IsByte piece) (bytes : List ℕ) (joined : bytes ≡ r.held.items ++ piece) (new : Open) (u : List ℕ) (result : Result Value Stop)
    (ends : EndsAll machine.plan.nodes.items machine.plan.tags.items r.max_len machine.levels new bytes u result) where
  goes_on : ReadsOn m (read m f) s r.held.items (progress.Reading machine)
  goes_on = subst (ReadsOn m (read m f) s r.held.items) going fed.goes_on

  abbrev reading : ℕ → Reading
  reading = goes_on.0

  ran : Ends (opened m reading machine.levels) (opened m reading new) (r.held.items ++ piece) u result
  ran = subst (λ b. Ends (opened m reading machine.levels) (opened m reading new) b u result) joined
      ((subst (λ k. EndsAll machine.plan.nodes.items machine.plan.tags.items k machine.levels new bytes u result) fed.limit ends) reading goes_on.1)

  behind : (x : List ℕ) → read m f ((s ++ piece) ++ x) ≡ opened m reading machine.levels ((r.held.items ++ piece) ++ x)
  behind x = ap (read m f) (append_assoc s piece x) ∙ (goes_on.2 (piece ++ x) ∙ ap (opened m reading machine.levels) (sym (append_assoc r.held.items piece x)))

  here : read m f (s ++ piece) ≡ opened m reading machine.levels ((r.held.items ++ piece) ++ [])
  here = ap (read m f) (sym (append-nil (s ++ piece))) ∙ behind []

  outcome_is : (e : Result Value Stop) → result ≡ e → (e ≡ Err stop.OutOfMemory → ⊥) → read m f (s ++ piece) ≡ outcome_of e u
  outcome_is e is some = by e (subst (Ends (opened m reading machine.levels) (opened m reading new) (r.held.items ++ piece) u) is ran) some
    where
      by : (e : Result Value Stop) → Ends (opened m reading machine.levels) (opened m reading new) (r.held.items ++ piece) u e → (e ≡ Err stop.OutOfMemory → ⊥) → read m f (s ++ piece) ≡ outcome_of e u
      by (Ok v) k some = here ∙ (k [] ∙ ap (λ x. whole v x) (append-nil u))
      by (Err stop.More) k some = here ∙ (k.0 [] ∙ (ap (opened m reading new) (append-nil u) ∙ k.1))
      by (Err (stop.Bad w)) k some = here ∙ (k [] ∙ ap (λ x. bad (length x) w) (append-nil u))
      by (Err stop.OutOfMemory) k some = absurd (some refl)

  pub fed_told : (e : Result Value Stop) → result ≡ e → (e ≡ Err stop.OutOfMemory → ⊥) → IsFed m f s piece (piece_answer m f fed.good s piece fed.bytes next fed.begins (outcome_of e u))
  fed_told e is some = piece_told m f fed.good s piece fed.bytes next fed.begins (outcome_of e u) (outcome_is e is some)

  pub fed_only : (e : Result Value Stop) → result ≡ e → (e ≡ Err stop.OutOfMemory → ⊥) → (d : Decoded) → IsFed m f s piece d → d ≡ piece_answer m f fed.good s piece fed.bytes next fed.begins (outcome_of e u)
  fed_only e is some d told = piece_only m f fed.good s piece fed.bytes next fed.begins (outcome_of e u) (outcome_is e is some) d told

  pub whole_told : (v : Value) (used : ℕ) → result ≡ Ok v → used ≡ length piece - length u → IsFed m f s piece (decoded.Whole v used)
  whole_told v used is count = subst (λ k. IsFed m f s piece (decoded.Whole v k)) (sym count) (fed_told (Ok v) is (λ e. cc))

  pub whole_only : (v : Value) (used : ℕ) → result ≡ Ok v → used ≡ length piece - length u → (d : Decoded) → IsFed m f s piece d → d ≡ decoded.Whole v used
  whole_only v used is count d told = fed_only (Ok v) is (λ e. cc) d told ∙ ap (λ k. decoded.Whole v k) (sym count)

  at_is : (used at : ℕ) → used ≡ length piece - length u → at ≡ min (r.fed + used) (2 ^ 64 - 1) → at ≡ min (place (length s) + (length piece - length u)) (2 ^ 64 - 1)
  at_is used at count counted = counted ∙ (ap (λ k. min (k + used) (2 ^ 64 - 1)) fed.count ∙ ap (λ k. min (place (length s) + k) (2 ^ 64 - 1)) count)

  pub bad_told : (w : Why) (used at : ℕ) → result ≡ Err (stop.Bad w) → used ≡ length piece - length u → at ≡ min (r.fed + used) (2 ^ 64 - 1) → IsFed m f s piece (decoded.Bad at w)
  bad_told w used at is count counted = subst (λ k. IsFed m f s piece (decoded.Bad k w)) (sym (at_is used at count counted)) (fed_told (Err (stop.Bad w)) is (λ e. cc))

  pub bad_only : (w : Why) (used at : ℕ) → result ≡ Err (stop.Bad w) → used ≡ length piece - length u → at ≡ min (r.fed + used) (2 ^ 64 - 1) → (d : Decoded) → IsFed m f s piece d → d ≡ decoded.Bad at w
  bad_only w used at is count counted d told = fed_only (Err (stop.Bad w)) is (λ e. cc) d told ∙ ap (λ k. decoded.Bad k w) (sym (at_is used at count counted))

  pub more_told : result ≡ Err stop.More → IsFed m f s piece decoded.More
  more_told is = fed_told (Err stop.More) is (λ e. cc)

  pub more_only : result ≡ Err stop.More → (d : Decoded) → IsFed m f s piece d → d ≡ decoded.More
  more_only is d told = fed_only (Err stop.More) is (λ e. cc) d told

  -- the reader goes on with what is left
  pub more_fed : result ≡ Err stop.More → (after : Reader) (held : after.held.items ≡ u) (on : Machine) → after.progress ≡ progress.Reading on → on.plan ≡ machine.plan → on.levels ≡ new
      → after.max_len ≡ r.max_len → after.fed ≡ min (r.fed + length piece) (2 ^ 64 - 1) → HasFed m f (s ++ piece) after
  more_fed is after held on going_on plan levels limit count =
      let wants : Ends (opened m reading machine.levels) (opened m reading new) (r.held.items ++ piece) u (Err stop.More) = subst (Ends (opened m reading machine.levels) (opened m reading new) (r.held.items ++ piece) u) is ran in
      let are : AreRead m on.plan.nodes.items on.plan.tags.items reading = subst (λ p. AreRead m p.nodes.items p.tags.items reading) (sym plan) goes_on.1 in
      let same : (x : List ℕ) → read m f ((s ++ piece) ++ x) ≡ opened m reading on.levels (after.held.items ++ x) =
      λ x. behind x ∙ (wants.0 x ∙ (ap (λ y. opened m reading new (y ++ x)) (sym held) ∙ ap (λ o. opened m reading o (after.held.items ++ x)) (sym levels))) in
      record {
        good = fed.good;
        limit = limit ∙ fed.limit;
        bytes = each-join IsByte s piece fed.bytes next;
        begins = outcome_is (Err stop.More) is (λ e. cc);
        count = count ∙ (ap (λ k. min (k + length piece) (2 ^ 64 - 1)) fed.count ∙ omega (arith, length-append s piece));
        goes_on = subst (ReadsOn m (read m f) (s ++ piece) after.held.items) (sym going_on) (reading, are, same);
      }

-- ---- before the first piece

-- no bytes are the front of a value, and no value
pub none_read : (m : ℕ) (f : Form) → IsGood f → read m f [] ≡ more
none_read m f good = by (read m f []) refl
  where
    right : Right IsByte Any (Spells m f) (FaultWhy m f) (read m f)
    right = right_good m f good

    some : (v : Value) (t u : List ℕ) → [] ≡ t ++ u → Spells m f v t → ⊥
    some v [] u cut spells = let le : 1 ≤ length {A = ℕ} [] = spelling_some m f v [] (good_full f good) spells in absurd (omega arith)
    some v (b ∷ t) u cut spells = cc

    none : (p : List ℕ) (b : ℕ) (v : List ℕ) → [] ≡ p ++ b ∷ v → ⊥
    none [] b v cut = cc
    none (c ∷ p) b v cut = cc

    by : (o : Outcome ℕ Why Value) → read m f [] ≡ o → read m f [] ≡ more
    by (whole v u) e = let (t, cut, spells, follows) = right.sound [] v u tt e in absurd (some v t u cut spells)
    by more e = e
    by (bad n w) e = let (p, b, v, fault, why) = right.faults [] n w tt e in absurd (none p b v fault.place)

pub new_fed : (m : ℕ) (f : Form) (good : IsGood f) (r : Reader) (machine : Machine) → ReadAs m machine.plan.nodes.items machine.plan.tags.items (read m f) → IsRoot machine.levels
    → r.progress ≡ progress.Reading machine → r.max_len ≡ m → r.held.items ≡ [] → r.fed ≡ 0 → HasFed m f [] r
new_fed m f good r machine (reading, are, is) root going limit held none = record {
  good = good;
  limit = limit;
  bytes = tt;
  begins = none_read m f good;
  count = none;
  goes_on = subst (ReadsOn m (read m f) [] r.held.items) (sym going) (reading, are, reads);
}
  where
    reads : (x : List ℕ) → read m f ([] ++ x) ≡ opened m reading machine.levels (r.held.items ++ x)
    reads x = ap (λ (g : Reading). g x) (sym is) ∙ (sym (root_reads m reading machine.levels x root) ∙ ap (λ h. opened m reading machine.levels (h ++ x)) (sym held))

-- ---- the first piece is all

pub first_told : (m : ℕ) (f : Form) (s : List ℕ) → length s < 2 ^ 64 → (d : Decoded) → IsFed m f [] s d → IsDecoded m f s d
first_told m f s few (decoded.Whole v used) stands = subst (Stands (Spells m f) s v) (zero-add used) stands
first_told m f s few decoded.More front = front
first_told m f s few (decoded.Bad at why) (k, fault, counted) =
    let le : k < length s = fault_within s k why fault in
    subst (λ x. IsFaultAt (Spells m f) (FaultWhy m f) s x why) (sym (counted ∙ omega arith)) fault
  where
    fault_within : (s : List ℕ) (k : ℕ) (why : Why) → IsFaultAt (Spells m f) (FaultWhy m f) s k why → k < length s
    fault_within s k why (p, b, v, cut, at, front, none, reason) =
        let lens : length s ≡ length p + length (b ∷ v) = ap length cut ∙ length-append p (b ∷ v) in
        omega arith

pub first_fed : (m : ℕ) (f : Form) (s : List ℕ) → length s < 2 ^ 64 → (d : Decoded) → IsDecoded m f s d → IsFed m f [] s d
first_fed m f s few (decoded.Whole v used) stands = subst (Stands (Spells m f) s v) (sym (zero-add used)) stands
first_fed m f s few decoded.More front = front
first_fed m f s few (decoded.Bad at why) (p, b, v, cut, is, front, none, reason) =
    let lens : length s ≡ length p + length (b ∷ v) = ap length cut ∙ length-append p (b ∷ v) in
    (at, (p, b, v, cut, is, front, none, reason), omega arith)

pub if_ok : {E : Type 0} {P Q : Decoded → Type 0} (result : Result Decoded E) → ((d : Decoded) → P d → Q d) → IfOk result P → IfOk result Q
if_ok (Ok d) go p = go d p
if_ok (Err e) go p = tt
