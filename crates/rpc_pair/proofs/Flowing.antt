-- What goes over an honest wire: all that an end wrote was put, and a front of it was given.
use Rattle.std.proofs.Common.{◌≡◌, sym, ap, ◌∙◌, subst, ℕ, ◌+◌, ◌≤◌, true, List, [], ◌++◌, length, take, append_assoc, arith}
use Rattle.std.specs.Prelude.{Option, Some}
use Rattle.std.specs.Io.KnownBytes.{append_known}
use Rattle.std.proofs.lemmas.List.{append-nil, length-append, length-take, nil_from_length}
use Rattle.std.proofs.Math.Seq.{take-append_seam}
use Rattle.bp_base.specs.Moves.{GivenIsFront, in_flight}
use Rattle.rpc_pair.specs.Moving.{IsSpent}
use Rattle.rpc_pair.specs.Pairs.{Came}
use Rattle.rpc_pair.specs.Wires.{Flows}
use Rattle.rpc_pair.proofs.Growing.{Grows}

-- these bytes were put and these given, where so many were told before; what was given is a front of what was put, and a wire that came short had no more in flight
pub record IsTold (sent given sent_now given_now : Option (List ℕ)) (put : List ℕ) (came : Came) : Type 0 where
  pub put_is : sent_now ≡ append_known sent put
  pub came_is : given_now ≡ append_known given came.bytes
  pub front : GivenIsFront sent_now given_now
  pub spent : came.short ≡ true → IsSpent (in_flight sent given_now)

-- the bytes that came are the next of a stream of which so many had come; where they came short they were the last
pub record ComesOf (stream : List ℕ) (moved : ℕ) (came : Came) : Type 0 where
  pub tail : List ℕ
  pub cut : take moved stream ++ (came.bytes ++ tail) ≡ stream
  pub spent : came.short ≡ true → tail ≡ []

module _ (stream : List ℕ) (moved : ℕ) (sent given sent_now given_now : Option (List ℕ)) (put_count moved_count : ℕ) (put : List ℕ) (came : Came)
    (flows : Flows stream moved sent given put_count moved_count) (told : IsTold sent given sent_now given_now put came) where
  abbrev got : List ℕ
  got = take moved stream ++ came.bytes

  sent_same : sent_now ≡ Some (stream ++ put)
  sent_same = told.put_is ∙ ap (λ k. append_known k put) flows.sent_is

  given_same : given_now ≡ Some got
  given_same = told.came_is ∙ ap (λ k. append_known k came.bytes) flows.given_is

  front_same : (rest : List ℕ) × (stream ++ put ≡ got ++ rest)
  front_same = subst (GivenIsFront (Some (stream ++ put))) given_same (subst (λ k. GivenIsFront k given_now) sent_same told.front)

  -- where nothing was put, what came is of what had been put before
  pub comes_of : put ≡ [] → ComesOf stream moved came
  comes_of none =
      let (rest, is) = front_same in
      let cut : stream ≡ got ++ rest = sym (ap (λ l. stream ++ l) none ∙ append-nil stream) ∙ is in
      record {
        tail = rest;
        cut = sym (cut ∙ append_assoc (take moved stream) came.bytes rest);
        spent = λ short. nil_from_length rest (omega (arith, all_gone short, ap length cut, length-append got rest));
      }
    where
      all_gone : came.short ≡ true → length stream ≤ length got
      all_gone short =
          let gone = subst (λ k. IsSpent (in_flight sent k)) given_same (told.spent short) in
          let left = subst (λ k. IsSpent (in_flight k (Some got))) flows.sent_is gone in
          omega (arith, left)

  -- All that is to go out was put: so it flows on.
  pub flows_on : (longer output : List ℕ) (after : ℕ) → Grows stream longer [] output → put ≡ output → after ≡ moved + length came.bytes → moved ≤ length stream
      → Flows longer after sent_now given_now (put_count + length output) (moved_count + length came.bytes)
  flows_on longer output after grows put_is count within =
      let more : stream ++ put ≡ longer = ap (λ l. stream ++ l) (put_is ∙ grows.output_is) ∙ sym grows.stream_is in
      let (rest, is) = front_same in
      let size : after ≡ length got = omega (arith, count, within, length-append (take moved stream) came.bytes, length-take moved stream) in
      let front : take after longer ≡ got
      = ap (λ n. take n longer) size ∙ (ap (take (length got)) (sym more ∙ is) ∙ take-append_seam got rest) in
      record {
        sent_is = sent_same ∙ ap (λ l. Some l) more;
        given_is = given_same ∙ ap (λ l. Some l) (sym front);
        put_counted = omega (arith, flows.put_counted, ap length more, length-append stream put, ap length put_is);
        moved_counted = omega (arith, flows.moved_counted, count);
      }
