-- A dispatch that is changed at the place that the code finds.
use Rattle.std.proofs.Common.{◌≡◌, refl, sym, ap, ◌∙◌, ℕ, ℤ, List, get_or, set}
use Rattle.std.specs.Prelude.{Some, None}
use Rattle.std.specs.List.{find, position}
use Rattle.rpc_msg.specs.declared.shared.Part.{Part}
use Rattle.rpc_client.specs.declared.entry.Took.{Took}
use Rattle.rpc_client.specs.declared.entry.Took.TheVariants as took
use Rattle.rpc_book.specs.declared.made.Made.{Made}
use Rattle.rpc_book.specs.Books.{changed}
use Rattle.rpc_book.specs.Calls.{with_count}
use Rattle.rpc_book.specs.Inside.{has_made_id}
use Rattle.rpc_book.proofs.Lists.{changed_at, changed_same, not_changed}

module _ (id : ℤ) (f : Made → Made) (made : List Made) where
  pub changed_place : (i : ℕ) (one new : Made) → Some i ≡ position (has_made_id id) made → one ≡ get_or made i one → new ≡ f one → set made i new ≡ changed (has_made_id id) f made
  changed_place i one new at is after =
      let (lt, found, puts) = changed_at (has_made_id id) f made i one (sym at) in
      ap (set made i) (after ∙ ap f is) ∙ puts

  pub found_place : (i : ℕ) (one : Made) → Some i ≡ position (has_made_id id) made → one ≡ get_or made i one → find (has_made_id id) made ≡ Some one
  found_place i one at is =
      let (lt, found, puts) = changed_at (has_made_id id) f made i one (sym at) in
      found ∙ ap Some (sym is)

  pub no_place : None ≡ position (has_made_id id) made → made ≡ changed (has_made_id id) f made
  no_place none = sym (not_changed (has_made_id id) f made (sym none))

-- only parts are counted
pub not_counted : (answer : Took) → ((p : Part) → answer ≡ took.Part p → ⊥) → (id : ℤ) (made : List Made) → made ≡ changed (has_made_id id) (with_count answer) made
not_counted answer other id made = sym (changed_same (has_made_id id) (with_count answer) made (stays answer other))
  where
    stays : (a : Took) → ((p : Part) → a ≡ took.Part p → ⊥) → (one : Made) → with_count a one ≡ one
    stays (took.Part p) other one = absurd (other p refl)
    stays took.NotYet other one = refl
    stays (took.Ended e) other one = refl
    stays took.Over other one = refl
    stays took.Stranger other one = refl
