-- Each kind of node as a head and what it lets follow.
use Rattle.std.proofs.Common.{◌≡◌, refl, sym, ap, ◌∙◌, Bool, true, false, ℕ, zero, suc, ◌+◌, ◌<◌, ◌≤◌, List, [], ◌∷◌, map, length, slice_get, Option, Some, Result, Ok, Err, OnOk, inl, inr, arith, rules}
use Rattle.readers.specs.Reader.{Outcome, whole, more, bad, after, mapped, one, count, Grows}
use Rattle.readers.specs.Keys.{Keyed, next, some_left, key_at}
use Rattle.readers.proofs.Keys.{next_out}
use Rattle.readers.proofs.Growing.{grows_after, grows_mapped, grows_one}
use Rattle.bp_num.specs.declared.number.Why.{Why}
use Rattle.bp_num.specs.declared.number.Why.TheVariants.{Byte, Case, Tag}
use Rattle.bp_num.specs.NumberAt.{nat_at}
use Rattle.bp_num.proofs.Growth.{grows_nat}
use Rattle.bp_value.specs.declared.value.Value.{Value, out-Value, the_lemmas as value_lemmas}
use Rattle.bp_value.specs.declared.value.Value.TheVariants as val
use Rattle.bp_value.specs.declared.value.Value.TheOpen as layer
use Rattle.bp_value.specs.declared.value.Sexp.{Sexp}
use Rattle.bp_value.specs.declared.value.Sexp.TheVariants as sx
use Rattle.bp_grammar.specs.Spells.{flag_of, place_of, room}
use Rattle.bp_grammar.specs.Reading.{sized_at, counted_at, at_flag, read_sexp}
use Rattle.bp_grammar.proofs.Growing.{grows_sized}
use Rattle.bp_codec.specs.declared.plan.Node.{Node}
use Rattle.bp_codec.specs.declared.plan.Node.TheVariants as node
use Rattle.bp_codec.specs.declared.levels.Level.{Level}
use Rattle.bp_codec.specs.declared.levels.Left.TheVariants as left
use Rattle.bp_codec.specs.declared.levels.Makes.TheVariants as makes
use Rattle.bp_codec.specs.declared.open.Open.{Open}
use Rattle.bp_codec.specs.declared.sexps.SexpHead.TheVariants as head
use Rattle.bp_codec.specs.Plan.{Reading, parts_at, args_in, keys_in, keys_from, case_at, node_reads}
use Rattle.bp_codec.specs.Levels.{made, left_at, sexp_in, sexp_of, sexp_value, FillsOne}
use Rattle.bp_codec.specs.Opened.{Opens}
use Rattle.bp_codec.specs.Sexps.{sexp_head_at, sexp_onward}
use Rattle.bp_codec.specs.Taking.{Enters}
use Rattle.bp_codec.proofs.Opening.{after_mapped, after_same}
use Rattle.bp_codec.proofs.Descending.{mapped_is}
use Rattle.bp_codec.proofs.Moving.{enters_value, enters_level}

-- ---- an option

abbrev pub option_onward : ℕ → (ℕ → Reading) → Bool → Reading
option_onward item reading b t = at_flag (λ t. whole val.Absent t) (λ t. mapped val.Present (reading item t)) b t

pub option_is : (m : ℕ) (ns : List Node) (tags : List ℕ) (item : ℕ) (reading : ℕ → Reading) (t : List ℕ)
    → node_reads m ns tags reading (node.Opt item) t ≡ after (one flag_of Byte t) (option_onward item reading)
unfolding node_reads
option_is m ns tags item reading t = after_same (one flag_of Byte t) _ (option_onward item reading) (λ b u. refl)

-- one value, and what is made of it
pub single : (m item : ℕ) (reading : ℕ → Reading) (t : List ℕ)
    → mapped val.Present (reading item t) ≡ after (left_at m reading (left.Items item 1) t) (λ vs u. whole (made makes.Present vs) u)
single m item reading t = go (reading item t)
  where
    go : (o : Outcome ℕ Why Value) → mapped val.Present o ≡ after (after o (λ v u. mapped (λ us. v ∷ us) (whole [] u))) (λ vs u. whole (made makes.Present vs) u)
    go (whole v u) = refl
    go more = refl
    go (bad n w) = refl

-- ---- a list

abbrev pub list_onward : ℕ → (ℕ → Reading) → ℕ → Reading
list_onward item reading n t = mapped val.Items (count (reading item) n t)

pub list_is : (m : ℕ) (ns : List Node) (tags : List ℕ) (item : ℕ) (reading : ℕ → Reading) (t : List ℕ)
    → node_reads m ns tags reading (node.List item) t ≡ after (nat_at m t) (list_onward item reading)
unfolding node_reads
list_is m ns tags item reading t = go (nat_at m t)
  where
    go : (o : Outcome ℕ Why ℕ) → mapped val.Items (after o (count (reading item))) ≡ after o (list_onward item reading)
    go (whole n u) = refl
    go more = refl
    go (bad n w) = refl

pub items_made : (m item n : ℕ) (reading : ℕ → Reading) (t : List ℕ)
    → list_onward item reading n t ≡ after (left_at m reading (left.Items item n) t) (λ vs u. whole (made makes.Items vs) u)
items_made m item n reading t = mapped_is val.Items (count (reading item) n t)

-- ---- a case of a variant

pub on_ok : {E P Q : Type 0} (result : Result (Unit {0}) E) → (P → Q) → OnOk result P → OnOk result Q
on_ok (Ok t) f p = f p
on_ok (Err e) f p = tt

pub sum_is : (m : ℕ) (ns : List Node) (tags : List ℕ) (first n : ℕ) (reading : ℕ → Reading) (t : List ℕ)
    → node_reads m ns tags reading (node.Sum first n) t ≡ after (one (place_of n) Case t) (case_at ns reading first)
unfolding node_reads
sum_is m ns tags first n reading t = refl

pub poly_is : (m : ℕ) (ns : List Node) (tags : List ℕ) (first n at : ℕ) (reading : ℕ → Reading) (t : List ℕ)
    → node_reads m ns tags reading (node.Poly first n at) t ≡ after (key_at Tag 4 (keys_from tags at n) t) (case_at ns reading first)
unfolding node_reads
poly_is m ns tags first n at reading t = refl

module _ (ns : List Node) (tags : List ℕ) (args place first n : ℕ) (old : Open) (at : slice_get ns args ≡ Some (node.Args first n)) where
  args_are : (reading : ℕ → Reading) (t : List ℕ) → mapped (val.Case place) (args_in reading (slice_get ns args) t) ≡ mapped (val.Case place) (parts_at reading first n t)
  args_are reading t = ap (λ (o : Option Node). mapped (val.Case place) (args_in reading o t)) at

  -- no arguments: the case is put
  pub enters_none : n ≡ 0 → (v : Value) → v ≡ val.Case place [] → (top : Level) → FillsOne old.top v top → (m : ℕ)
      → Enters ns tags m (λ reading t. mapped (val.Case place) (args_in reading (slice_get ns args) t)) old (record { top = top; stack = old.stack })
  enters_none none v is top one m =
      let e = enters_value ns tags m old (record { top = top; stack = old.stack }) v one refl in
      record {
        same = λ reading s t are some reads. e.same reading s t are some (reads ∙ (args_are reading t
            ∙ (ap (λ k. mapped (val.Case place) (parts_at reading first k t)) none ∙ ap (λ w. whole w t) (sym is))));
        reaches = e.reaches;
      }

  -- a level is opened for the arguments
  pub enters_args : (new : Open) → first + n ≤ length ns → Opens old (left.Parts first n) (makes.Case place) new → (m : ℕ)
      → Enters ns tags m (λ reading t. mapped (val.Case place) (args_in reading (slice_get ns args) t)) old new
  enters_args new le begins m =
      enters_level ns tags m (λ reading t. mapped (val.Case place) (args_in reading (slice_get ns args) t)) old (left.Parts first n) (makes.Case place) new begins le
      (λ reading t are. args_are reading t ∙ mapped_is (val.Case place) (parts_at reading first n t))

-- ---- the place of a key

-- a place that some key has
HasPlace : List (ℕ × List ℕ) → ℕ → Type 0
HasPlace ks p = (s : List ℕ) × Keyed ks p s

next_places : (b : ℕ) (ks : List (ℕ × List ℕ)) (p : ℕ) → HasPlace (next b ks) p → HasPlace ks p
unfolding HasPlace
next_places b ks p (s, k) = (b ∷ s, next_out b ks p s k)

key_place : (n : ℕ) (ks : List (ℕ × List ℕ)) (s u : List ℕ) (p : ℕ) → key_at Tag n ks s ≡ whole p u → HasPlace ks p
unfolding HasPlace
key_place zero [] s u p e = absurd cc
key_place zero (k ∷ ks) s u p e = let same : k.0 ≡ p = cc in (k.1, inl (sym same, refl))
key_place (suc n) ks [] u p e = absurd cc
key_place (suc n) ks (b ∷ s) u p e = next_places b ks p (left_place (next b ks) (λ js h. key_place n js s u p h) e)
  where
    left_place : (js : List (ℕ × List ℕ)) → ((is : List (ℕ × List ℕ)) → key_at Tag n is s ≡ whole p u → HasPlace is p) → some_left Tag (key_at Tag n) js b s ≡ whole p u → HasPlace js p
    left_place [] inner e = absurd cc
    left_place (j ∷ js) inner e = inner (j ∷ js) e

keyed_below : (n : ℕ) (words : List ℕ) (p : ℕ) (s : List ℕ) → Keyed (keys_in n words) p s → p < n + length words
keyed_below n [] p s k = absurd k
keyed_below n (w ∷ words) p s (inl x) = omega (arith, x.0)
keyed_below n (w ∷ words) p s (inr x) = let y = keyed_below (suc n) words p s x in omega (arith, y)

-- a tag that was read has a place among the tags
pub tag_within : (words s u : List ℕ) (p : ℕ) → key_at Tag 4 (keys_in 0 words) s ≡ whole p u → p < length words
unfolding HasPlace
tag_within words s u p e = let (t, k) = key_place 4 (keys_in 0 words) s u p e in omega (arith, keyed_below 0 words p t k)

-- ---- an S-expression

pub sexp_is : (m d : ℕ) (t : List ℕ) → sexp_value m (suc d) t ≡ after (sexp_head_at m d t) (sexp_onward m d)
unfolding read_sexp
sexp_is m d t = flagged (one flag_of Case t)
  where
    atom : (o : Outcome ℕ Why (List ℕ)) → mapped val.Sexp (mapped sx.Atom o) ≡ after (mapped head.Atom o) (sexp_onward m d)
    atom (whole a u) = refl
    atom more = refl
    atom (bad n w) = refl

    items : (o : Outcome ℕ Why (List Sexp)) → mapped val.Sexp (mapped sx.List o) ≡ mapped (λ xs. val.Sexp (sx.List xs)) o
    items (whole a u) = refl
    items more = refl
    items (bad n w) = refl

    listed : (o : Outcome ℕ Why ℕ) → mapped val.Sexp (mapped sx.List (after o (count (read_sexp m d)))) ≡ after (mapped head.List o) (sexp_onward m d)
    listed (whole n u) = items (count (read_sexp m d) n u)
    listed more = refl
    listed (bad n w) = refl

    flagged : (o : Outcome ℕ Why Bool) → mapped val.Sexp (after o (at_flag (λ t. mapped sx.Atom (sized_at m t)) (λ t. mapped sx.List (counted_at (room m d) (read_sexp m d) t))))
        ≡ after (after o (at_flag (λ t. mapped head.Atom (sized_at m t)) (λ t. mapped head.List (nat_at (room m d) t)))) (sexp_onward m d)
    flagged (whole false u) = atom (sized_at m u)
    flagged (whole true u) = listed (nat_at (room m d) u)
    flagged more = refl
    flagged (bad n w) = refl

pub grows_sexp_head : (m d : ℕ) → Grows (sexp_head_at m d)
grows_sexp_head m d =
    grows_after (one flag_of Case) (at_flag (λ t. mapped head.Atom (sized_at m t)) (λ t. mapped head.List (nat_at (room m d) t))) (grows_one flag_of Case) flagged
  where
    flagged : (b : Bool) → Grows (at_flag (λ t. mapped head.Atom (sized_at m t)) (λ t. mapped head.List (nat_at (room m d) t)) b)
    flagged false = grows_mapped head.Atom (sized_at m) (grows_sized m)
    flagged true = grows_mapped head.List (nat_at (room m d)) (grows_nat (room m d))

sexp_back : (x : Sexp) → sexp_of (val.Sexp x) ≡ x
sexp_back x = ap sexp_in (out-sexp x)
  where
    out-sexp : (x : Sexp) → out-Value (val.Sexp x) ≡ layer.Sexp x
    out-sexp x = search (rules, value_lemmas)

sexps_back : (xs : List Sexp) → map sexp_of (map val.Sexp xs) ≡ xs
sexps_back [] = refl
sexps_back (x ∷ xs) = ap (λ y. y ∷ map sexp_of (map val.Sexp xs)) (sexp_back x) ∙ ap (λ ys. x ∷ ys) (sexps_back xs)

-- S-expressions as values, one after the other
sexps_are : (m d n : ℕ) (t : List ℕ) → count (sexp_value m d) n t ≡ mapped (map val.Sexp) (count (read_sexp m d) n t)
sexps_are m d zero t = refl
sexps_are m d (suc n) t = go (read_sexp m d t) (λ u. sexps_are m d n u)
  where
    rest : (x : Sexp) (o : Outcome ℕ Why (List Sexp)) → mapped (λ vs. val.Sexp x ∷ vs) (mapped (map val.Sexp) o) ≡ mapped (map val.Sexp) (mapped (λ xs. x ∷ xs) o)
    rest x (whole xs u) = refl
    rest x more = refl
    rest x (bad n w) = refl

    go : (o : Outcome ℕ Why Sexp) → ((u : List ℕ) → count (sexp_value m d) n u ≡ mapped (map val.Sexp) (count (read_sexp m d) n u))
        → after (mapped val.Sexp o) (λ v u. mapped (λ vs. v ∷ vs) (count (sexp_value m d) n u)) ≡ mapped (map val.Sexp) (after o (λ x u. mapped (λ xs. x ∷ xs) (count (read_sexp m d) n u)))
    go (whole x u) inner = ap (λ o. mapped (λ vs. val.Sexp x ∷ vs) o) (inner u) ∙ rest x (count (read_sexp m d) n u)
    go more inner = refl
    go (bad k w) inner = refl

pub sexps_made : (m d n : ℕ) (reading : ℕ → Reading) (t : List ℕ)
    → sexp_onward m d (head.List n) t ≡ after (left_at m reading (left.Sexps d n) t) (λ vs u. whole (made makes.Sexp vs) u)
sexps_made m d n reading t =
    mapped_is (λ xs. val.Sexp (sx.List xs)) (count (read_sexp m d) n t)
    ∙ (after_same (count (read_sexp m d) n t) _ _ (λ xs u. ap (λ ys. whole (val.Sexp (sx.List ys)) u) (sym (sexps_back xs)))
    ∙ (sym (after_mapped (map val.Sexp) (count (read_sexp m d) n t) (λ vs u. whole (made makes.Sexp vs) u))
    ∙ ap (λ o. after o (λ vs u. whole (made makes.Sexp vs) u)) (sym (sexps_are m d n t))))
