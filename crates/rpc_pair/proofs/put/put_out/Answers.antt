use Rattle.std.proofs.Common.{rules, refl, sym, ap, ◌≡◌, ◌∙◌, subst, ℕ, List, ◌+◌, ◌++◌, ◌≤◌, min, length, take, drop, arith}
use Rattle.std.proofs.lemmas.List.{length-drop}
use Rattle.bp_base.specs.Told.{Gains}
use Rattle.bp_base.proofs.Telling.{Gains-nil, Gains-trans}
use Rattle.rpc_pair.proofs.Outgoing.{all_out, front_whole, moved_front, take_on}
use Rattle.rpc_pair.proofs.put.put_out.Goals as goal

pub pieces-init : goal.pieces-init
pieces-init g c = record {
  within = omega arith;
  room = refl;
  given = refl;
  honest = (λ h. h, λ h. h);
  steady = refl;
  keeps = g.met.E.Party.same c.args.end.now;
  out = sym (g.met.E.Party.none c.args.end.now);
  sent = Gains-nil g.W.Wire.sent c.args.wire.now;
}

pub returns-then-count-eq0-clause-sent : goal.returns-then-count-eq0-clause-sent
returns-then-count-eq0-clause-sent g c =
    let all = g.E.Party.output c.args.end.now in
    let left : g.E.Party.output c.pieces.end ≡ drop c.pieces.total all = ap g.E.Party.output c.pieces.invariant.out ∙ g.met.E.Party.left c.args.end.now c.pieces.total in
    let none : min (length c.pieces.buffer) (length (drop c.pieces.total all)) ≡ 0
    = ap (λ (xs : List ℕ). min (length c.pieces.buffer) (length xs)) (sym left) ∙ (sym c.take_out-count.ensures.count ∙ c.if-count-eq0.true) in
    let some : 1 ≤ length c.pieces.buffer = omega (arith, c.requires, c.pieces.invariant.room) in
    subst (Gains g.W.Wire.sent c.args.wire.now c.pieces.wire) (front_whole all c.pieces.total (all_out all c.pieces.total (length c.pieces.buffer) c.pieces.invariant.within some none))
    c.pieces.invariant.sent

pub returns-then-count-eq0-clause-count : goal.returns-then-count-eq0-clause-count
returns-then-count-eq0-clause-count g c =
    let all = g.E.Party.output c.args.end.now in
    let left : g.E.Party.output c.pieces.end ≡ drop c.pieces.total all = ap g.E.Party.output c.pieces.invariant.out ∙ g.met.E.Party.left c.args.end.now c.pieces.total in
    let none : min (length c.pieces.buffer) (length (drop c.pieces.total all)) ≡ 0
    = ap (λ (xs : List ℕ). min (length c.pieces.buffer) (length xs)) (sym left) ∙ (sym c.take_out-count.ensures.count ∙ c.if-count-eq0.true) in
    let some : 1 ≤ length c.pieces.buffer = omega (arith, c.requires, c.pieces.invariant.room) in
    all_out all c.pieces.total (length c.pieces.buffer) c.pieces.invariant.within some none

pub pieces-preserved : goal.pieces-preserved
pieces-preserved g c =
    let all = g.E.Party.output c.args.end.now in
    let n = c.take_out-count.result in
    let left : g.E.Party.output c.pieces.end ≡ drop c.pieces.total all = ap g.E.Party.output c.pieces.invariant.out ∙ g.met.E.Party.left c.args.end.now c.pieces.total in
    let count : n ≡ min (length c.pieces.buffer) (length (drop c.pieces.total all))
    = c.take_out-count.ensures.count ∙ ap (λ (xs : List ℕ). min (length c.pieces.buffer) (length xs)) left in
    let sum : c.in_ok-total.total ≡ c.pieces.total + n = search rules in
    let moved : take n c.take_out-count.new.into ≡ take n (drop c.pieces.total all)
    = ap (take n) (c.take_out-count.ensures.moved ∙ ap (λ xs. take n xs ++ drop n c.pieces.buffer) left) ∙ moved_front n (drop c.pieces.total all) (drop n c.pieces.buffer) (omega (arith, count)) in
    let gained : Gains g.W.Wire.sent c.pieces.wire c.put.new.wire (take n (drop c.pieces.total all)) = subst (Gains g.W.Wire.sent c.pieces.wire c.put.new.wire) moved c.in_ok-put.ensures.sent in
    record {
      within = omega (arith, sum, count, c.pieces.invariant.within, length-drop c.pieces.total all);
      room = search rules;
      given = search rules;
      honest = (search rules, search rules);
      steady = search rules;
      keeps = g.met.E.Party.along c.args.end.now c.pieces.end c.take_out-count.new.self c.pieces.invariant.keeps c.take_out-count.ensures.keeps;
      out = c.take_out-count.ensures.left
          ∙ (ap (λ e. g.E.Party.without e n) c.pieces.invariant.out ∙ (g.met.E.Party.both c.args.end.now c.pieces.total n ∙ ap (g.E.Party.without c.args.end.now) (sym sum)));
      sent = subst (Gains g.W.Wire.sent c.args.wire.now c.put.new.wire) (sym (take_on c.pieces.total n all c.pieces.invariant.within) ∙ ap (λ k. take k all) (sym sum))
          (Gains-trans g.W.Wire.sent c.args.wire.now c.pieces.wire c.put.new.wire (take c.pieces.total all) (take n (drop c.pieces.total all)) c.pieces.invariant.sent gained);
    }
