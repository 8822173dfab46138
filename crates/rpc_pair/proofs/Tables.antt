-- How the queries of a talk change, and that a server's table stands for them behind that.
use Rattle.std.proofs.Common.{◌≡◌, refl, sym, ap, ◌∙◌, ℕ, ◌+◌, ℤ, Bool, true, false, if◌then◌else◌, List, [], ◌∷◌, ◌++◌, map, filter, length, arith}
use Rattle.std.specs.Prelude.{Some, None}
use Rattle.std.specs.Ordering.{int_eq}
use Rattle.rpc_meeting.specs.Talks.{Common, Served, Talk, find_query, goes_on_still, is_begun, is_stopped, open_queries}
use Rattle.rpc_meeting.proofs.Look.{no_some, same, some_is}
use Rattle.rpc_meeting.proofs.Sound.{Apart, query_key}
use Rattle.rpc_server.specs.Servers.{ServerState}
use Rattle.rpc_server.specs.Tables.{IsPut, open_count, standing}
use Rattle.rpc_server.specs.declared.table.Standing.{Standing}
use Rattle.rpc_server.specs.declared.table.Standing.TheVariants.{Nowhere, Open, Stopped}
use Rattle.rpc_server.proofs.Places.{id_other}
use Rattle.rpc_pair.specs.Stands.{ServerStands, line_place, standing_as, standing_of_query}

-- ---- counts of open queries

-- one for a query that is open
abbrev pub one_if : Bool → ℕ
one_if b = if b then 1 else 0

-- one, where it goes on
abbrev pub one_open : Served → ℕ
one_open q = one_if (goes_on_still q)

-- by what its test is
pub one_is : (q : Served) (b : Bool) → goes_on_still q ≡ b → one_open q ≡ one_if b
one_is q b e = ap one_if e

open_first : (q : Served) (qs : List Served) → open_queries (q ∷ qs) ≡ one_open q + open_queries qs
open_first q qs = by (goes_on_still q)
  where
    by : (b : Bool) → length (if b then q ∷ filter goes_on_still qs else filter goes_on_still qs) ≡ (if b then 1 else 0) + length (filter goes_on_still qs)
    by true = omega arith
    by false = omega arith

-- one more query adds its part to the count
pub open_pushed : (qs : List Served) (q : Served) → open_queries (qs ++ q ∷ []) ≡ open_queries qs + one_open q
open_pushed [] q = omega (arith, open_first q [])
open_pushed (x ∷ qs) q = omega (arith, open_first x (qs ++ q ∷ []), open_first x qs, open_pushed qs q)

-- how one query stands counts as much
pub standing_count : (r : Common) (q : Served) → open_count (standing_of_query r q) ≡ one_open q
standing_count r q = by (goes_on_still q) (is_stopped q)
  where
    by : (a b : Bool) → open_count (if a then Open (line_place r.entries q.desc) (is_begun q) else if b then Stopped else Nowhere) ≡ (if a then 1 else 0)
    by true b = refl
    by false true = refl
    by false false = refl

-- ---- changes of one query

module _ (id : ℤ) (f : Served → Served) (keeps : (x : Served) → query_key (f x) ≡ query_key x) (others : (x : Served) → int_eq id x.id ≡ false → f x ≡ x) where
  none_changed : (qs : List Served) → find_query id qs ≡ None → map f qs ≡ qs
  none_changed [] none = refl
  none_changed (x ∷ qs) none = by (int_eq x.id id) refl none (none_changed qs)
    where
      by : (b : Bool) → int_eq x.id id ≡ b → (if b then Some x else find_query id qs) ≡ None → (find_query id qs ≡ None → map f qs ≡ qs) → f x ∷ map f qs ≡ x ∷ qs
      by true at none later = absurd (no_some x (sym none))
      by false at none later = ap (λ y. y ∷ map f qs) (others x (id_other x.id id at)) ∙ ap (λ ys. x ∷ ys) (later none)

  -- only its own part of the count changes
  pub open_changed : (qs : List Served) (q : Served) → Apart qs → find_query id qs ≡ Some q → open_queries (map f qs) + one_open q ≡ open_queries qs + one_open (f q)
  open_changed [] q apart here = absurd (no_some q here)
  open_changed (x ∷ qs) q (none, apart) here = by (int_eq x.id id) refl here (open_changed qs q apart)
    where
      by : (b : Bool) → int_eq x.id id ≡ b → (if b then Some x else find_query id qs) ≡ Some q
          → (find_query id qs ≡ Some q → open_queries (map f qs) + one_open q ≡ open_queries qs + one_open (f q))
          → open_queries (map f (x ∷ qs)) + one_open q ≡ open_queries (x ∷ qs) + one_open (f q)
      by true at is later =
          let first = some_is x q is in
          let rest : map f qs ≡ qs = none_changed qs (ap (λ i. find_query i qs) (sym (same x.id id at)) ∙ none) in
          omega (
            arith,
            open_first (f x) (map f qs),
            open_first x qs,
            ap open_queries rest,
            ap one_open first,
            ap (λ y. one_open (f y)) first,
          )
      by false at is later =
          omega (arith, open_first (f x) (map f qs), open_first x qs, ap one_open (others x (id_other x.id id at)), later is)

-- ---- the table behind a change

module _ (r : Common) (s new : ServerState) (t now : Talk) (id : ℤ) (st : Standing) (stands : ServerStands r s t) (rules : new.rules ≡ s.rules)
    (put : IsPut s.table id st new.table) where
  -- the id stands as its query does, and the others as they did
  pub stands_put : st ≡ standing_as r (find_query id now.queries)
      → ((other : ℤ) → int_eq id other ≡ false → find_query other now.queries ≡ find_query other t.queries)
      → open_queries now.queries + open_count (standing s.table id) ≡ open_queries t.queries + open_count st → ServerStands r new now
  stands_put own others count = record {
    rules = rules ∙ stands.rules;
    table = λ other. put.each other ∙ by other (int_eq other id) refl;
    count = omega (arith, put.count, stands.count, count);
  }
    where
      by : (other : ℤ) (b : Bool) → int_eq other id ≡ b → (if b then st else standing s.table other) ≡ standing_as r (find_query other now.queries)
      by other true at = own ∙ ap (λ i. standing_as r (find_query i now.queries)) (sym (same other id at))
      by other false at = stands.table other ∙ ap (standing_as r) (sym (others other (id_other other id at)))
