-- The place of the line that a query calls, and who answers it.
use Rattle.std.proofs.Common.{◌≡◌, refl, sym, ap, ◌∙◌, ℕ, zero, suc, ℤ, Bool, true, false, cond, ◌&&◌, if◌then◌else◌, List, [], ◌∷◌, map, length}
use Rattle.std.specs.Prelude.{Option, Some, None, nat_lt, slice_get}
use Rattle.std.specs.List.{find, position, position_or_len}
use Rattle.std.specs.Str.{bytes_eq}
use Rattle.std.specs.Ordering.{int_eq}
use Rattle.std.proofs.lemmas.Bool.{lt-ltb, ltb-true}
use Rattle.std.proofs.lemmas.Bool.Decides.{Decides-int_eq}
use Rattle.std.proofs.lemmas.List.Folds.{find_at}
use Rattle.std.proofs.lemmas.Option.{slice_get-get_or, slice_get_within}
use Rattle.std.proofs.lemmas.Slice.Eq.{bytes_eq-Decides}
use Rattle.bp_value.specs.Names.{IsDistinct, IsNowhere}
use Rattle.bp_value.proofs.Distinct.{distinct_head, distinct_tail}
use Rattle.rpc_schema.specs.Choice.{is_offered}
use Rattle.rpc_schema.specs.Entries.{listing_of}
use Rattle.rpc_schema.specs.declared.desc.Entry.{Entry}
use Rattle.rpc_talk.specs.Acts.{Menu, Nobody, Line, is_menu, is_served, owner, owner_at}
use Rattle.rpc_meeting.specs.Talks.{is_entry, line_named}
use Rattle.rpc_meeting.proofs.Look.{no_some, some_is}
use Rattle.rpc_pair.proofs.Basics.{both_true, listing_made}

-- ---- a line that is answered

found_served : (es : List Entry) (tag : List ℕ) (version : ℤ) (e : Entry) → line_named es tag version ≡ Some e → is_offered e.side ≡ true → find (is_served tag version) es ≡ Some e
found_served [] tag version e here offered = absurd (no_some e here)
found_served (x ∷ es) tag version e here offered = by (is_entry tag version x) here (found_served es tag version e)
  where
    by : (b : Bool) → (if b then Some x else line_named es tag version) ≡ Some e
        → (line_named es tag version ≡ Some e → is_offered e.side ≡ true → find (is_served tag version) es ≡ Some e)
        → (if b && is_offered x.side then Some x else find (is_served tag version) es) ≡ Some e
    by true here later =
        ap (λ c. if c then Some x else find (is_served tag version) es) (ap (λ (y : Entry). is_offered y.side) (some_is x e here) ∙ offered) ∙ here
    by false here later = later here offered

module _ (es : List Entry) (tag : List ℕ) (version : ℤ) (e : Entry) (here : line_named es tag version ≡ Some e) (offered : is_offered e.side ≡ true) where
  -- it stands at its place
  pub place_line : slice_get es (position_or_len (is_served tag version) es) ≡ Some e
  place_line = sym (find_at (is_served tag version) es) ∙ found_served es tag version e here offered

  place_is : position (is_served tag version) es ≡ Some (position_or_len (is_served tag version) es)
  place_is =
      ap (λ b. cond b (Some (position_or_len (is_served tag version) es)) None)
      (lt-ltb (position_or_len (is_served tag version) es) (length es) (slice_get_within es (position_or_len (is_served tag version) es) e place_line))

  -- and answers a query of its name and version
  pub owner_line : is_menu tag version ≡ false → owner es tag version ≡ Line (position_or_len (is_served tag version) es)
  owner_line other = ap (λ b. if b then Menu else owner_at (position (is_served tag version) es)) other ∙ ap owner_at place_is

-- the menu answers its own name and version
pub owner_menu : (es : List Entry) (tag : List ℕ) (version : ℤ) → is_menu tag version ≡ true → owner es tag version ≡ Menu
owner_menu es tag version is = ap (λ b. if b then Menu else owner_at (position (is_served tag version) es)) is

-- ---- a line that is not answered

listing_is : (tag : List ℕ) (version : ℤ) (e : Entry) → is_entry tag version e ≡ true → listing_of e ≡ listing_made tag version
listing_is tag version e is =
    let (name, number) = both_true (bytes_eq e.desc.name tag) (int_eq e.desc.version version) is in
    ap (λ n. listing_made n e.desc.version) ((bytes_eq-Decides e.desc.name tag).0 name) ∙ ap (listing_made tag) ((Decides-int_eq e.desc.version version).0 number)

-- no other line has its name and version
none_named : (es : List Entry) (tag : List ℕ) (version : ℤ) (x : Entry) → is_entry tag version x ≡ true → IsNowhere (map listing_of es) (listing_of x) → line_named es tag version ≡ None
none_named [] tag version x is none = refl
none_named (y ∷ es) tag version x is none = by (is_entry tag version y) refl (none_named es tag version x is (λ k. none (suc k)))
  where
    by : (b : Bool) → is_entry tag version y ≡ b → line_named es tag version ≡ None → (if b then Some y else line_named es tag version) ≡ None
    by true at later = absurd (none zero (ap Some (listing_is tag version y at ∙ sym (listing_is tag version x is))))
    by false at later = later

-- no line, or one that only the caller has
abbrev pub IsNotOffered : Option Entry → Type 0
IsNotOffered None = Unit {0}
IsNotOffered (Some e) = is_offered e.side ≡ false

none_served : (es : List Entry) (tag : List ℕ) (version : ℤ) → IsDistinct (map listing_of es) → (o : Option Entry) → line_named es tag version ≡ o → IsNotOffered o
    → find (is_served tag version) es ≡ None
none_served [] tag version apart o here not_offered = refl
none_served (x ∷ es) tag version apart o here not_offered =
    by (is_entry tag version x) refl here (none_served es tag version (distinct_tail (listing_of x) (map listing_of es) apart))
  where
    by : (b : Bool) → is_entry tag version x ≡ b → (if b then Some x else line_named es tag version) ≡ o
        → ((o : Option Entry) → line_named es tag version ≡ o → IsNotOffered o → find (is_served tag version) es ≡ None)
        → (if b && is_offered x.side then Some x else find (is_served tag version) es) ≡ None
    by true at here later =
        ap (λ c. if c then Some x else find (is_served tag version) es) (subst_offered here)
        ∙ later None (none_named es tag version x at (distinct_head (listing_of x) (map listing_of es) apart)) tt
      where
        subst_offered : Some x ≡ o → is_offered x.side ≡ false
        subst_offered is = elim o as (λ p. Some x ≡ p → IsNotOffered p → is_offered x.side ≡ false) [
          | None ↦ λ e n. absurd (no_some x (sym e))
          | Some y ↦ λ e n. ap (λ (z : Entry). is_offered z.side) (some_is x y e) ∙ n
        ] is not_offered
    by false at here later = later o here not_offered

no_place : {X : Type 0} (p : X → Bool) (xs : List X) → find p xs ≡ None → position p xs ≡ None
no_place p [] none = refl
no_place p (x ∷ xs) none = by (nat_lt n (length (x ∷ xs))) refl
  where
    n : ℕ
    n = position_or_len p (x ∷ xs)

    by : (b : Bool) → nat_lt n (length (x ∷ xs)) ≡ b → cond b (Some n) None ≡ None
    by true e = absurd (no_some _ (sym none ∙ (find_at p (x ∷ xs) ∙ slice_get-get_or (x ∷ xs) n x (ltb-true n (length (x ∷ xs)) e))))
    by false e = refl

-- nobody answers a query whose line is not offered
pub owner_nobody : (es : List Entry) (tag : List ℕ) (version : ℤ) → IsDistinct (map listing_of es) → is_menu tag version ≡ false
    → (o : Option Entry) → line_named es tag version ≡ o → IsNotOffered o → owner es tag version ≡ Nobody
owner_nobody es tag version apart other o here not_offered =
    ap (λ b. if b then Menu else owner_at (position (is_served tag version) es)) other
    ∙ ap owner_at (no_place (is_served tag version) es (none_served es tag version apart o here not_offered))
