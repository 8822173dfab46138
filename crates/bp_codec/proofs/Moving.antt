-- A head is read where something comes next, and what it lets follow is put or opened.
use Rattle.std.proofs.Common.{◌≡◌, ◌≢◌, sym, ap, ◌∙◌, subst, ℕ, ◌≤◌, List, [], ◌∷◌, ◌++◌, length, slice_get, Some, Ok, Err, arith, Result, OnOk, IfErr, refl}
use Rattle.readers.specs.Reader.{Outcome, whole, after, Grows}
use Rattle.bp_num.specs.declared.number.Why.{Why}
use Rattle.bp_value.specs.declared.value.Value.{Value}
use Rattle.bp_codec.specs.declared.stop.Stop.{Stop}
use Rattle.bp_codec.specs.declared.stop.Stop.TheVariants as stop
use Rattle.bp_codec.specs.declared.levels.Left.{Left}
use Rattle.bp_codec.specs.declared.levels.Makes.{Makes}
use Rattle.bp_codec.specs.declared.levels.Level.{Level}
use Rattle.bp_codec.specs.declared.levels.Next.TheVariants as next
use Rattle.bp_codec.specs.declared.open.Open.{Open}
use Rattle.bp_codec.specs.declared.plan.Node.{Node}
use Rattle.bp_codec.specs.Keeping.{Gives}
use Rattle.bp_codec.specs.Plan.{Reading, node_reads, AreRead}
use Rattle.bp_codec.specs.Levels.{next_of, advanced, reach_of, made, next_reads, left_at, fills, waits, FillsOne}
use Rattle.bp_codec.specs.Opened.{opened, Reaches, Opens}
use Rattle.bp_codec.specs.Taking.{Moves, Enters, ComesNext}
use Rattle.bp_codec.proofs.Opening.{fill_next, reach_advanced, begun, begun_reaches, ends}
use Rattle.bp_codec.proofs.LevelSteps.{whole_goes, bad_goes}
use Rattle.bp_codec.proofs.Descending.{next_is}

-- ---- what a head lets follow

-- a value is put
module _ (ns : List Node) (tags : List ℕ) (m : ℕ) (old new : Open) (v : Value) (one : FillsOne old.top v new.top) (stack : new.stack.items ≡ old.stack.items) where
  pub enters_value : Enters ns tags m (λ reading t. whole v t) old new
  enters_value = record { same = same; reaches = reaches }
    where
      same : (reading : ℕ → Reading) (s t : List ℕ) → AreRead m ns tags reading → next_of old.top.left ≢ next.Nothing
          → next_reads m reading (next_of old.top.left) s ≡ whole v t → opened m reading old s ≡ opened m reading new t
      same reading s t are some reads =
          fill_next m reading old.top.left old.top.makes old.top.values.items (waits m reading ends old.stack.items) s some
          ∙ (ap (λ o. after o (λ w. fills m reading (advanced old.top.left) old.top.makes (old.top.values.items ++ w ∷ []) (waits m reading ends old.stack.items))) reads
          ∙ (ap (λ (l : Left). fills m reading l old.top.makes (old.top.values.items ++ v ∷ []) (waits m reading ends old.stack.items) t) (sym one.left)
          ∙ (ap (λ (k : Makes). fills m reading new.top.left k (old.top.values.items ++ v ∷ []) (waits m reading ends old.stack.items) t) (sym one.makes)
          ∙ (ap (λ (vs : List Value). fills m reading new.top.left new.top.makes vs (waits m reading ends old.stack.items) t) (sym one.values)
          ∙ ap (λ (ls : List Level). fills m reading new.top.left new.top.makes new.top.values.items (waits m reading ends ls) t) (sym stack)))))

      reaches : Reaches (length ns) old → Reaches (length ns) new
      reaches r =
          let le : reach_of (advanced old.top.left) ≤ reach_of old.top.left = reach_advanced old.top.left in
          let top : reach_of old.top.left ≤ length ns = r.top in
          record {
            top = subst (λ (l : Left). reach_of l ≤ length ns) (sym one.left) (omega arith);
            stack = λ k l e. r.stack k l (subst (λ (ls : List Level). slice_get ls k ≡ Some l) stack e);
          }

-- a level is opened
pub enters_level : (ns : List Node) (tags : List ℕ) (m : ℕ) (v : (ℕ → Reading) → Reading) (old : Open) (l : Left) (k : Makes) (new : Open) → Opens old l k new → reach_of l ≤ length ns
    → ((reading : ℕ → Reading) (t : List ℕ) → AreRead m ns tags reading → v reading t ≡ after (left_at m reading l t) (λ vs u. whole (made k vs) u)) → Enters ns tags m v old new
enters_level ns tags m v old l k new begins le is = record {
  same = λ reading s t are some reads. begun old l k new begins m reading s t some (reads ∙ is reading t are);
  reaches = begun_reaches old l k new begins (length ns) le;
}

-- ---- a head, and what it lets follow

module _ {A : Type 0} (h : List ℕ → Outcome ℕ Why A) (grows : Grows h) (k : (ℕ → Reading) → A → Reading) (ns : List Node) (tags : List ℕ) (max : ℕ) (old : Open) (s u : List ℕ)
    (reach : Reaches (length ns) old) (some : next_of old.top.left ≢ next.Nothing)
    (is : (reading : ℕ → Reading) → AreRead max ns tags reading → (t : List ℕ) → next_reads max reading (next_of old.top.left) t ≡ after (h t) (k reading)) where
  pub moves_on : (a : A) (new : Open) → Gives h s u (Ok a) → Enters ns tags max (λ reading. k reading a) old new → Moves ns tags max old new s u (Ok tt)
  moves_on a new gives enters = record {
    keeps = λ reading are x. enters.same reading (s ++ x) (u ++ x) are some (is reading are (s ++ x) ∙ ap (λ o. after o (k reading)) (whole_goes h grows s u a gives.0 x));
    taken = gives.1;
    reaches = enters.reaches reach;
  }

  -- what comes next reads as the head does, where that is no value
  stops_as : (reading : ℕ → Reading) → AreRead max ns tags reading → (t : List ℕ) → opened max reading old t ≡ after (after (h t) (k reading))
      (λ v. fills max reading (advanced old.top.left) old.top.makes (old.top.values.items ++ v ∷ []) (waits max reading ends old.stack.items))
  stops_as reading are t =
      fill_next max reading old.top.left old.top.makes old.top.values.items (waits max reading ends old.stack.items) t some
      ∙ ap (λ o. after o (λ v. fills max reading (advanced old.top.left) old.top.makes (old.top.values.items ++ v ∷ []) (waits max reading ends old.stack.items))) (is reading are t)

  pub moves_cut : Gives h s u (Err stop.More) → Moves ns tags max old old s u (Err stop.More)
  moves_cut gives = record {
    keeps = λ reading are. (
      λ x. ap (λ y. opened max reading old (y ++ x)) (sym gives.1),
      ap (λ y. opened max reading old y) gives.1 ∙ (stops_as reading are s
          ∙ ap (λ o. after (after o (k reading)) (λ v. fills max reading (advanced old.top.left) old.top.makes (old.top.values.items ++ v ∷ []) (waits max reading ends old.stack.items))) gives.0),
    );
    taken = (omega (arith, ap length gives.1), λ e. gives.1);
    reaches = reach;
  }

  pub moves_fault : (w : Why) → Gives h s u (Err (stop.Bad w)) → Moves ns tags max old old s u (Err (stop.Bad w))
  moves_fault w gives = record {
    keeps = λ reading are x. stops_as reading are (s ++ x)
        ∙ ap (λ o. after (after o (k reading)) (λ v. fills max reading (advanced old.top.left) old.top.makes (old.top.values.items ++ v ∷ []) (waits max reading ends old.stack.items)))
        (bad_goes h grows s u w gives x);
    taken = tt;
    reaches = tt;
  }

  pub moves_stop : (e : Stop) → Gives h s u (Err e) → Moves ns tags max old old s u (Err e)
  moves_stop stop.More gives = moves_cut gives
  moves_stop (stop.Bad w) gives = moves_fault w gives
  moves_stop stop.OutOfMemory gives = record { keeps = λ reading are. tt; taken = tt; reaches = tt }

-- no memory is left
pub moves_nothing : (ns : List Node) (tags : List ℕ) (max : ℕ) (old new : Open) (s u : List ℕ) → Moves ns tags max old new s u (Err stop.OutOfMemory)
moves_nothing ns tags max old new s u = record { keeps = λ reading are. tt; taken = tt; reaches = tt }

-- ---- by the result of what the head lets follow

module _ {A : Type 0} (h : List ℕ → Outcome ℕ Why A) (grows : Grows h) (k : (ℕ → Reading) → A → Reading) (ns : List Node) (tags : List ℕ) (max : ℕ) (old : Open) (s u : List ℕ)
    (some : next_of old.top.left ≢ next.Nothing)
    (reads : (reading : ℕ → Reading) → AreRead max ns tags reading → (t : List ℕ) → next_reads max reading (next_of old.top.left) t ≡ after (h t) (k reading)) (reach : Reaches (length ns) old) where
  pub next_stops : (e : Stop) → Gives h s u (Err e) → Moves ns tags max old old s u (Err e)
  next_stops e gives = moves_stop h grows k ns tags max old s u reach some reads e gives

  pub next_enters : (a : A) (new : Open) (result : Result (Unit {0}) Stop) → Gives h s u (Ok a) → OnOk result (Enters ns tags max (λ reading. k reading a) old new)
      → IfErr result (λ error. error ≡ stop.OutOfMemory) → Moves ns tags max old new s u result
  next_enters a new (Ok t) gives enters only = moves_on h grows k ns tags max old s u reach some reads a new gives enters
  next_enters a new (Err e) gives enters only = subst (λ x. Moves ns tags max old new s u (Err x)) (sym only) (moves_nothing ns tags max old new s u)

  pub next_puts : (a : A) (v : Value) (top : Level) (result : Result (Unit {0}) Stop) → Gives h s u (Ok a) → ((reading : ℕ → Reading) (t : List ℕ) → k reading a t ≡ whole v t)
      → OnOk result (FillsOne old.top v top) → IfErr result (λ error. error ≡ stop.OutOfMemory) → Moves ns tags max old (record { top = top; stack = old.stack }) s u result
  next_puts a v top result gives value one only = next_enters a (record { top = top; stack = old.stack }) result gives (enters result one) only
    where
      enters : (result : Result (Unit {0}) Stop) → OnOk result (FillsOne old.top v top) → OnOk result (Enters ns tags max (λ reading. k reading a) old (record { top = top; stack = old.stack }))
      enters (Ok t) one =
          let e = enters_value ns tags max old (record { top = top; stack = old.stack }) v one refl in
          record { same = λ reading s t are some is. e.same reading s t are some (is ∙ value reading t); reaches = e.reaches }
      enters (Err x) one = tt

  pub next_begins : (a : A) (l : Left) (mk : Makes) (new : Open) (result : Result (Unit {0}) Stop) → Gives h s u (Ok a) → reach_of l ≤ length ns
      → ((reading : ℕ → Reading) (t : List ℕ) → AreRead max ns tags reading → k reading a t ≡ after (left_at max reading l t) (λ vs u. whole (made mk vs) u))
      → OnOk result (Opens old l mk new) → IfErr result (λ error. error ≡ stop.OutOfMemory) → Moves ns tags max old new s u result
  next_begins a l mk new result gives le is begins only = next_enters a new result gives (enters result begins) only
    where
      enters : (result : Result (Unit {0}) Stop) → OnOk result (Opens old l mk new) → OnOk result (Enters ns tags max (λ reading. k reading a) old new)
      enters (Ok t) begins = enters_level ns tags max (λ reading. k reading a) old l mk new begins le is
      enters (Err x) begins = tt

-- ---- a node

module _ {A : Type 0} (h : List ℕ → Outcome ℕ Why A) (grows : Grows h) (k : (ℕ → Reading) → A → Reading) (ns : List Node) (tags : List ℕ) (max : ℕ) (n : Node) (old : Open) (s u : List ℕ)
    (is : (reading : ℕ → Reading) (t : List ℕ) → node_reads max ns tags reading n t ≡ after (h t) (k reading)) (comes : ComesNext ns n old) (reach : Reaches (length ns) old) where
  some : next_of old.top.left ≢ next.Nothing
  some e = let clash : next.Node comes.place ≡ next.Nothing = sym comes.next ∙ e in cc

  reads : (reading : ℕ → Reading) → AreRead max ns tags reading → (t : List ℕ) → next_reads max reading (next_of old.top.left) t ≡ after (h t) (k reading)
  reads reading are t = next_is max ns tags reading comes.place n (next_of old.top.left) are comes.at comes.next t ∙ is reading t

  pub node_stops : (e : Stop) → Gives h s u (Err e) → Moves ns tags max old old s u (Err e)
  node_stops = next_stops h grows k ns tags max old s u some reads reach

  pub node_enters : (a : A) (new : Open) (result : Result (Unit {0}) Stop) → Gives h s u (Ok a) → OnOk result (Enters ns tags max (λ reading. k reading a) old new)
      → IfErr result (λ error. error ≡ stop.OutOfMemory) → Moves ns tags max old new s u result
  node_enters = next_enters h grows k ns tags max old s u some reads reach

  pub node_puts : (a : A) (v : Value) (top : Level) (result : Result (Unit {0}) Stop) → Gives h s u (Ok a) → ((reading : ℕ → Reading) (t : List ℕ) → k reading a t ≡ whole v t)
      → OnOk result (FillsOne old.top v top) → IfErr result (λ error. error ≡ stop.OutOfMemory) → Moves ns tags max old (record { top = top; stack = old.stack }) s u result
  node_puts = next_puts h grows k ns tags max old s u some reads reach

  pub node_begins : (a : A) (l : Left) (mk : Makes) (new : Open) (result : Result (Unit {0}) Stop) → Gives h s u (Ok a) → reach_of l ≤ length ns
      → ((reading : ℕ → Reading) (t : List ℕ) → AreRead max ns tags reading → k reading a t ≡ after (left_at max reading l t) (λ vs u. whole (made mk vs) u))
      → OnOk result (Opens old l mk new) → IfErr result (λ error. error ≡ stop.OutOfMemory) → Moves ns tags max old new s u result
  node_begins = next_begins h grows k ns tags max old s u some reads reach
