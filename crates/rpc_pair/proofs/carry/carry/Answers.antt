use Rattle.std.proofs.Common.{rules, refl, sym, ap, ◌≡◌, ◌∙◌, subst, ℕ, List, [], ◌∷◌, ◌-◌, ◌++◌, ◌<◌, min, length, take, true, false, arith, inl, inr}
use Rattle.std.specs.List.{concat}
use Rattle.std.proofs.lemmas.List.{append-nil, length-append, length-take}
use Rattle.bp_base.specs.Moves.{in_flight}
use Rattle.bp_base.specs.Told.{Gains}
use Rattle.bp_base.proofs.Telling.{Gains-trans}
use Rattle.rpc_pair.specs.Moving.{IsMove, IsSpent, TakesPiece}
use Rattle.rpc_pair.proofs.Carrying.{concat_more, spent_short}
use Rattle.rpc_pair.proofs.Leading.{leads_more}
use Rattle.rpc_pair.proofs.carry.carry.Goals.{then-pieces-test+else-not-is_closed, else-pieces-test}
use Rattle.rpc_pair.proofs.carry.carry.Goals as goal

pub pieces-preserved : goal.pieces-preserved
pieces-preserved g c =
    let (pieces, moved, gained, counted) = c.pieces.invariant.moved in
    let piece = c.get.new.into in
    let size : length piece ≡ c.min-size.result = search rules in
    let least : c.min-size.result ≡ min c.args.by c.pieces.left = search rules in
    let going : g.E.Party.closed c.pieces.end ≡ false = search rules in
    let more = concat_more pieces piece in
    record {
      within = omega (arith, c.pieces.invariant.within);
      room = search rules;
      sent = search rules;
      honest = (search rules, search rules);
      steady = search rules;
      keeps = g.met.E.Party.along c.args.end.now c.pieces.end c.take_piece.new.end c.pieces.invariant.keeps c.take_piece.ensures.keeps;
      moved = (
        pieces ++ piece ∷ [],
        leads_more (IsMove g.E.Party.closed (TakesPiece (g.E.Party.takes c.args.now) (g.E.Party.closes c.args.now)) c.args.by) (record { at = c.args.end.now; left = c.args.count })
            (record { at = c.pieces.end; left = c.pieces.left }) (record { at = c.take_piece.new.end; left = c.pieces.left - c.min-size.result }) pieces piece moved
            (record {
              going = going;
              some = c.pieces-test.true;
              size = size ∙ least;
              takes = c.in_ok-take_piece-in-Exact.ensures.took;
              left = ap (λ k. c.pieces.left - k) (sym size);
            }),
        subst (Gains g.W.Wire.given c.args.wire.now c.get.new.self) (sym more)
            (Gains-trans g.W.Wire.given c.args.wire.now c.pieces.wire c.get.new.self (concat pieces) piece gained c.in-Exact.ensures.given),
        omega (arith, ap (λ (l : List ℕ). length l) more, length-append (concat pieces) piece, counted, size, least),
      );
    }

pub returns-in-Less-clause-moved : goal.returns-in-Less-clause-moved
returns-in-Less-clause-moved g c =
    let (pieces, moved, gained, counted) = c.pieces.invariant.moved in
    let last = take c.in-Less.less c.get.new.into in
    let size : length c.get.new.into ≡ c.min-size.result = search rules in
    let least : c.min-size.result ≡ min c.args.by c.pieces.left = search rules in
    let less : c.in-Less.less < c.min-size.result = search rules in
    let long : length last ≡ c.in-Less.less = omega (arith, length-take c.in-Less.less c.get.new.into, size, less) in
    let going : g.E.Party.closed c.pieces.end ≡ false = search rules in
    record {
      bytes = concat pieces ++ last;
      short = true;
      gained = Gains-trans g.W.Wire.given c.args.wire.now c.pieces.wire c.get.new.self (concat pieces) last gained c.in-Less.ensures.given;
      counted = omega (arith, length-append (concat pieces) last, long, counted);
      moved = record {
        pieces = pieces;
        behind = record { at = c.pieces.end; left = c.pieces.left };
        moved = moved;
        last = last;
        all = refl;
        ends = (going, omega (arith, long, less, least), c.in_ok-take_piece-in-Less.ensures.took);
      };
      spent = λ honest e. subst (λ s. IsSpent (in_flight s (g.W.Wire.given c.get.new.self))) (sym c.in-Less.ensures.sent)
          (subst (λ k. IsSpent (in_flight (g.W.Wire.sent c.pieces.wire) k)) (sym c.in-Less.ensures.given)
          (spent_short (g.W.Wire.sent c.pieces.wire) (g.W.Wire.given c.pieces.wire) c.in-Less.less _ last (c.in-Less.ensures.all (c.pieces.invariant.honest.0 honest)) long));
    }

pub returns-clause-moved : goal.returns-clause-moved
returns-clause-moved g c =
    let (pieces, moved, gained, counted) = c.pieces.invariant.moved in
    record {
      bytes = concat pieces;
      short = false;
      gained = gained;
      counted = omega (arith, counted);
      moved = record {
        pieces = pieces;
        behind = record { at = c.pieces.end; left = c.pieces.left };
        moved = moved;
        last = [];
        all = sym (append-nil (concat pieces));
        ends = (
          refl,
          refl,
          elim c.pieces-test.branch [
            | then-pieces-test+else-not-is_closed w ↦ inr (search rules)
            | else-pieces-test w ↦ inl (omega arith)
          ],
        );
      };
      spent = λ honest e. absurd cc;
    }
