-- Room that is used up part by part.
use Rattle.std.proofs.Common.{◌≡◌, ℕ, ◌-◌, ◌≤◌, inl, inr, List, [], ◌++◌, length, Option, Some, None, arith, length-append}
use Rattle.std.specs.Option.{SomeIff}
use Rattle.std.proofs.lemmas.Bool.{cases_lt}
use Rattle.bp_codec.specs.Rooms.{Leaves}

-- one part, and then what is left
pub leaves_then : (room left : ℕ) (a b : List ℕ) (r : Option ℕ) → Leaves room a (Some left) → Leaves left b r → Leaves room (a ++ b) r
leaves_then room left a b (Some rest) first second = rw (length-append a b) (omega arith)
leaves_then room left a b None first second = rw (length-append a b) (omega arith)

-- a part for which there is no room
leaves_none : (room : ℕ) (a b : List ℕ) → Leaves room a None → Leaves room (a ++ b) None
leaves_none room a b first = rw (length-append a b) (omega arith)

-- ---- n bytes that were taken off, or for which there is no room

module _ (room n : ℕ) (a : List ℕ) (long : n ≡ length a) where
  pub taken : (r : Option ℕ) → SomeIff r (n ≤ room) (room - n) → Leaves room a r
  taken (Some left) is = let le : n ≤ room = is.0 in let rest : left ≡ room - n = is.1 in omega arith
  taken None is = elim (cases_lt room n) [ inl lt ↦ omega arith | inr le ↦ absurd (is le) ]

  pub taken_then : (left : ℕ) (b : List ℕ) (r : Option ℕ) → (n ≤ room) × (left ≡ room - n) → Leaves left b r → Leaves room (a ++ b) r
  taken_then left b r is second = leaves_then room left a b r (taken (Some left) is) second

  pub not_taken : (b : List ℕ) (r : Option ℕ) → r ≡ None → (n ≤ room → ⊥) → Leaves room (a ++ b) r
  not_taken b r none is = rw none (leaves_none room a b (taken None is))

-- ---- a loop that takes the whole off the room, of whose bytes the `rest` is to be taken off what is `left`

pub record Uses (room : ℕ) (whole : List ℕ) (left : ℕ) (rest : List ℕ) : Type 0 where
  pub uses : (r : Option ℕ) → Leaves left rest r → Leaves room whole r

pub uses_from : (room : ℕ) (whole : List ℕ) → Uses room whole room whole
uses_from room whole = record { uses = λ r p. p }

module _ (room : ℕ) (whole : List ℕ) (left : ℕ) (rest : List ℕ) (loop : Uses room whole left rest) where
  pub uses_next : (a b : List ℕ) (next : ℕ) → rest ≡ a ++ b → Leaves left a (Some next) → Uses room whole next b
  uses_next a b next is first = record { uses = λ r second. loop.uses r (rw is (leaves_then left next a b r first second)) }

  pub uses_none : (a b : List ℕ) (r : Option ℕ) → rest ≡ a ++ b → r ≡ None → Leaves left a None → Leaves room whole r
  uses_none a b r is none first = rw none (loop.uses None (rw is (leaves_none left a b first)))

  pub uses_done : rest ≡ [] → Leaves room whole (Some left)
  uses_done is = loop.uses (Some left) (rw is (omega arith))
