-- A head that is read where the next value begins is the value that a level takes.
use Rattle.std.proofs.Common.{◌≡◌, ◌≢◌, sym, ap, ◌∙◌, subst, ℕ, ◌<◌, ◌≤◌, List, [], ◌∷◌, ◌++◌, length, Result, Ok, Err, OnOk, IfErr, arith, zero, suc, ◌-◌, refl}
use Rattle.std.proofs.lemmas.List.{length-append}
use Rattle.readers.specs.Reader.{Outcome, whole, more, bad, after, mapped, Goes, Grows}
use Rattle.bp_num.specs.declared.number.Why.{Why}
use Rattle.bp_value.specs.declared.value.Value.{Value}
use Rattle.bp_codec.specs.declared.stop.Stop.{Stop}
use Rattle.bp_codec.specs.declared.stop.Stop.TheVariants as stop
use Rattle.bp_codec.specs.declared.levels.Left.{Left}
use Rattle.bp_codec.specs.declared.levels.Left.TheVariants as left
use Rattle.bp_codec.specs.declared.levels.Makes.{Makes}
use Rattle.bp_codec.specs.declared.levels.Level.{Level}
use Rattle.bp_codec.specs.declared.levels.Next.TheVariants as next
use Rattle.bp_codec.specs.Keeping.{Gives, Keeps, LeavesSome, Cuts}
use Rattle.bp_codec.specs.Plan.{Reading}
use Rattle.bp_codec.specs.Levels.{next_of, advanced, reach_of, next_reads, Onward, fills, level_reads, FillsOne}
use Rattle.bp_codec.specs.Leaves.{TakesItems}
use Rattle.bp_codec.specs.Taking.{Takes, Unless}
use Rattle.bp_codec.proofs.Opening.{fill_next, reach_advanced}

-- ---- one head, whatever follows it

pub whole_goes : {A : Type 0} (r : List ℕ → Outcome ℕ Why A) → Grows r → (s u : List ℕ) (a : A) → r s ≡ whole a u → (x : List ℕ) → r (s ++ x) ≡ whole a (u ++ x)
whole_goes {A = A} r grows s u a e x = go (r s) e (grows s x)
  where
    go : (o : Outcome ℕ Why A) → o ≡ whole a u → Goes x o (r (s ++ x)) → r (s ++ x) ≡ whole a (u ++ x)
    go (whole b t) e g = let ab : b ≡ a = cc in let tu : t ≡ u = cc in g ∙ (ap (λ y. whole y (t ++ x)) ab ∙ ap (λ y. whole a (y ++ x)) tu)
    go more e g = absurd cc
    go (bad n w) e g = absurd cc

pub bad_goes : {A : Type 0} (r : List ℕ → Outcome ℕ Why A) → Grows r → (s u : List ℕ) (w : Why) → r s ≡ bad (length u) w → (x : List ℕ) → r (s ++ x) ≡ bad (length (u ++ x)) w
bad_goes {A = A} r grows s u w e x = go (r s) e (grows s x)
  where
    go : (o : Outcome ℕ Why A) → o ≡ bad (length u) w → Goes x o (r (s ++ x)) → r (s ++ x) ≡ bad (length (u ++ x)) w
    go (whole b t) e g = absurd cc
    go more e g = absurd cc
    go (bad n v) e g =
        let nu : n ≡ length u = cc in
        let vw : v ≡ w = cc in
        g ∙ (ap (λ y. bad y v) (omega (arith, nu, length-append u x)) ∙ ap (λ y. bad (length (u ++ x)) y) vw)

-- ---- a level

module _ (r : Reading) (grows : Grows r) (old : Level) (s u : List ℕ) where
  step : (m : ℕ) (reading : ℕ → Reading) (onward : Onward) → next_of old.left ≢ next.Nothing → ((t : List ℕ) → next_reads m reading (next_of old.left) t ≡ r t)
      → (t : List ℕ) → level_reads m reading old onward t ≡ after (r t) (λ v. fills m reading (advanced old.left) old.makes (old.values.items ++ v ∷ []) onward)
  step m reading onward some is t =
      fill_next m reading old.left old.makes old.values.items onward t some
      ∙ ap (λ o. after o (λ v. fills m reading (advanced old.left) old.makes (old.values.items ++ v ∷ []) onward)) (is t)

  pub takes_value : (v : Value) (new : Level) → r s ≡ whole v u → length u < length s → FillsOne old v new → Takes r old new s u (Ok tt)
  takes_value v new reads lt one = record {
    keeps = λ m reading onward some is x.
        step m reading onward some is (s ++ x)
        ∙ (ap (λ o. after o (λ w. fills m reading (advanced old.left) old.makes (old.values.items ++ w ∷ []) onward)) (whole_goes r grows s u v reads x)
        ∙ (ap (λ (l : Left). fills m reading l old.makes (old.values.items ++ v ∷ []) onward (u ++ x)) (sym one.left)
        ∙ (ap (λ (k : Makes). fills m reading new.left k (old.values.items ++ v ∷ []) onward (u ++ x)) (sym one.makes)
        ∙ ap (λ (vs : List Value). fills m reading new.left new.makes vs onward (u ++ x)) (sym one.values))));
    taken = lt;
    reach = subst (λ (l : Left). reach_of l ≤ reach_of old.left) (sym one.left) (reach_advanced old.left);
  }

  pub takes_cut : r s ≡ more → u ≡ s → Takes r old old s u (Err stop.More)
  takes_cut reads same = record {
    keeps = λ m reading onward some is. (
      λ x. ap (λ y. level_reads m reading old onward (y ++ x)) (sym same),
      ap (λ y. level_reads m reading old onward y) same ∙ (step m reading onward some is s ∙ ap (λ o. after o (λ w. fills m reading (advanced old.left) old.makes (old.values.items ++ w ∷ []) onward)) reads),
    );
    taken = (omega (arith, ap length same), λ e. same);
    reach = omega arith;
  }

  pub takes_fault : (w : Why) → r s ≡ bad (length u) w → Takes r old old s u (Err (stop.Bad w))
  takes_fault w reads = record {
    keeps = λ m reading onward some is x.
        step m reading onward some is (s ++ x)
        ∙ ap (λ o. after o (λ v. fills m reading (advanced old.left) old.makes (old.values.items ++ v ∷ []) onward)) (bad_goes r grows s u w reads x);
    taken = tt;
    reach = tt;
  }

  pub takes_nothing : (new : Level) → Takes r old new s u (Err stop.OutOfMemory)
  takes_nothing new = record { keeps = λ m reading onward some is. tt; taken = tt; reach = tt }

-- ---- by the result of putting the value

pub takes_put : (r : Reading) (old new : Level) (s u : List ℕ) (v : Value) (result : Result (Unit {0}) Stop) → Grows r → r s ≡ whole v u → length u < length s
    → OnOk result (FillsOne old v new) → IfErr result (λ error. error ≡ stop.OutOfMemory) → Takes r old new s u result
takes_put r old new s u v (Ok t) grows reads lt one only = takes_value r grows old s u v new reads lt one
takes_put r old new s u v (Err e) grows reads lt one only = subst (λ x. Takes r old new s u (Err x)) (sym only) (takes_nothing r grows old s u new)

pub takes_stop : (r : Reading) (old : Level) (s u : List ℕ) (e : Stop) → Grows r → Gives {A = Value} r s u (Err e) → Takes r old old s u (Err e)
takes_stop r old s u stop.More grows g = takes_cut r grows old s u g.0 g.1
takes_stop r old s u (stop.Bad w) grows g = takes_fault r grows old s u w g
takes_stop r old s u stop.OutOfMemory grows g = takes_nothing r grows old s u old

-- a function of a head that stops
pub stops_mapped : {A B : Type 0} (g : A → B) (h : List ℕ → Outcome ℕ Why A) (s u : List ℕ) (e : Stop) → Gives h s u (Err e) → Gives (λ t. mapped g (h t)) s u (Err e)
stops_mapped g h s u stop.More x = (ap (λ o. mapped g o) x.0, x.1)
stops_mapped g h s u (stop.Bad w) x = ap (λ o. mapped g o) x
stops_mapped g h s u stop.OutOfMemory x = tt

-- ---- items of a list, in one go

module _ (r : Reading) (grows : Grows r) (m : ℕ) (reading : ℕ → Reading) (node : ℕ) (k : Makes) (onward : Onward) (is : (t : List ℕ) → reading node t ≡ r t) where
  item_step : (n : ℕ) (front : List Value) → 0 < n → (t : List ℕ) → fills m reading (left.Items node n) k front onward t ≡ after (r t) (λ v. fills m reading (left.Items node (n - 1)) k (front ++ v ∷ []) onward)
  item_step zero front some t = absurd (omega arith)
  item_step (suc n) front some t =
      let less : n ≡ suc n - 1 = omega arith in
      fill_next m reading (left.Items node (suc n)) k front onward t (λ e. cc)
      ∙ (ap (λ o. after o (λ v. fills m reading (left.Items node n) k (front ++ v ∷ []) onward)) (is t)
      ∙ ap (λ j. after (r t) (λ v. fills m reading (left.Items node j) k (front ++ v ∷ []) onward)) less)

  pub item_taken : (n : ℕ) (front : List Value) (s u : List ℕ) (v : Value) → 0 < n → r s ≡ whole v u → (x : List ℕ)
      → fills m reading (left.Items node n) k front onward (s ++ x) ≡ fills m reading (left.Items node (n - 1)) k (front ++ v ∷ []) onward (u ++ x)
  item_taken n front s u v some reads x =
      item_step n front some (s ++ x) ∙ ap (λ o. after o (λ w. fills m reading (left.Items node (n - 1)) k (front ++ w ∷ []) onward)) (whole_goes r grows s u v reads x)

  pub item_stops : (n : ℕ) (front : List Value) (s u : List ℕ) (e : Stop) → 0 < n → Gives {A = Value} r s u (Err e)
      → Keeps {T = Unit {0}} (fills m reading (left.Items node n) k front onward) (fills m reading (left.Items node n) k front onward) s u (Err e)
  item_stops n front s u stop.More some g = (
    λ x. ap (λ y. fills m reading (left.Items node n) k front onward (y ++ x)) (sym g.1),
    ap (λ y. fills m reading (left.Items node n) k front onward y) g.1 ∙ (item_step n front some s ∙ ap (λ o. after o (λ w. fills m reading (left.Items node (n - 1)) k (front ++ w ∷ []) onward)) g.0),
  )
  item_stops n front s u (stop.Bad w) some g = λ x.
      item_step n front some (s ++ x) ∙ ap (λ o. after o (λ v. fills m reading (left.Items node (n - 1)) k (front ++ v ∷ []) onward)) (bad_goes r grows s u w g x)
  item_stops n front s u stop.OutOfMemory some g = tt

-- a step goes on where another left off
pub keeps_after : (T : Type 0) (A B C : Reading) (s t u : List ℕ) (e : Stop) → ((x : List ℕ) → A (s ++ x) ≡ B (t ++ x)) → Keeps {T = T} B C t u (Err e) → Keeps {T = T} A C s u (Err e)
keeps_after T A B C s t u stop.More same k = (λ x. same x ∙ k.0 x, k.1)
keeps_after T A B C s t u (stop.Bad w) same k = λ x. same x ∙ k x
keeps_after T A B C s t u stop.OutOfMemory same k = tt

-- a call takes what a later one leaves
pub cuts_after : {A : Type 0} (reads : List ℕ → Outcome ℕ Why A) (s t u : List ℕ) (e : Stop) → LeavesSome s t → Gives reads t u (Err e) → Cuts {T = Unit {0}} s u (Err e)
cuts_after reads s t u stop.More some gives =
    let same : length u ≡ length t = ap length gives.1 in
    let le : length t ≤ length s = some.0 in
    (omega arith, λ e. gives.1 ∙ some.1 (sym same ∙ e))
cuts_after reads s t u (stop.Bad w) some gives = tt
cuts_after reads s t u stop.OutOfMemory some gives = tt

-- the level of a list whose items were taken in one go
pub takes_items : (r : Reading) (old new : Level) (node n left_n : ℕ) (s u : List ℕ) (result : Result (Unit {0}) Stop) → old.left ≡ left.Items node n → new.left ≡ left.Items node left_n
    → new.makes ≡ old.makes → TakesItems r n old.values.items left_n new.values.items s u result → Cuts s u result → Takes r old new s u result
takes_items r old new node n left_n s u result was is makes keeps taken = record {
  keeps = λ m reading onward some reads. go m reading onward some reads;
  taken = taken;
  reach = reaches result;
}
  where
    reaches : (result : Result (Unit {0}) Stop) → Unless result (reach_of new.left ≤ reach_of old.left)
    reaches (Ok t) = let e : reach_of new.left ≡ suc node = ap reach_of is in let f : reach_of old.left ≡ suc node = ap reach_of was in omega arith
    reaches (Err stop.More) = let e : reach_of new.left ≡ suc node = ap reach_of is in let f : reach_of old.left ≡ suc node = ap reach_of was in omega arith
    reaches (Err (stop.Bad w)) = tt
    reaches (Err stop.OutOfMemory) = tt

    counted : (n : ℕ) → next_of (left.Items node n) ≢ next.Nothing → 0 < n
    counted zero some = absurd (some refl)
    counted (suc n) some = omega arith

    first : (n : ℕ) → 0 < n → next_of (left.Items node n) ≡ next.Node node
    first zero some = absurd (omega arith)
    first (suc n) some = refl

    go : (m : ℕ) (reading : ℕ → Reading) (onward : Onward) → next_of old.left ≢ next.Nothing → ((t : List ℕ) → next_reads m reading (next_of old.left) t ≡ r t)
        → Keeps (level_reads m reading old onward) (level_reads m reading new onward) s u result
    go m reading onward some reads =
        let has : 0 < n = counted n (subst (λ (l : Left). next_of l ≢ next.Nothing) was some) in
        let stands : next_of old.left ≡ next.Node node = ap (λ (l : Left). next_of l) was ∙ first n has in
        let at = keeps m reading node old.makes onward has (λ t. ap (λ x. next_reads m reading x t) (sym stands) ∙ reads t) in
        let P : Left → Left → Makes → Type 0 = λ a b c. Keeps (fills m reading a old.makes old.values.items onward) (fills m reading b c new.values.items onward) s u result in
        subst (λ a. P a new.left new.makes) (sym was) (subst (λ b. P (left.Items node n) b new.makes) (sym is) (subst (λ c. P (left.Items node n) (left.Items node left_n) c) (sym makes) at))
