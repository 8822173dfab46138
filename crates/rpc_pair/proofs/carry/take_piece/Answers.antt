use Rattle.std.proofs.Common.{rules, refl, ◌≡◌, ◌≢◌, [], ◌∷◌, ◌++◌, drop, inl, inr}
use Rattle.std.proofs.lemmas.List.{nil_from_length}
use Rattle.bp_num.proofs.Payloads.{bytes_are}
use Rattle.rpc_pair.specs.Moving.{IsFeed}
use Rattle.rpc_pair.proofs.Leading.{leads_more}
use Rattle.rpc_pair.proofs.carry.take_piece.Goals as goal

pub feeds-preserved : goal.feeds-preserved
feeds-preserved g c =
    let (counts, fed) = c.feeds.invariant.feeds in
    let some : c.feeds.left.now ≢ [] = search rules in
    let left : c.behind-left.result.now ≡ drop c.in-Ok.count c.feeds.left.now = search rules in
    record {
      feeds = (
        counts ++ c.in-Ok.count ∷ [],
        leads_more (IsFeed (g.E.Party.takes c.args.now)) (record { at = c.args.end.now; piece = c.args.piece.now }) (record { at = c.feeds.end; piece = c.feeds.left.now })
            (record { at = c.feed.new.self; piece = c.behind-left.result.now }) counts c.in-Ok.count fed
            (record { some = some; feeds = c.in-Ok.ensures.took; left = left }),
      );
      now = refl;
      keeps = g.met.E.Party.along c.args.end.now c.feeds.end c.feed.new.self c.feeds.invariant.keeps c.feed.ensures.keeps;
    }

pub returns-in-Err-Closed-clause-took : goal.returns-in-Err-Closed-clause-took
returns-in-Err-Closed-clause-took g c =
    let (counts, fed) = c.feeds.invariant.feeds in
    let some : c.feeds.left.now ≢ [] = search rules in
    record {
      bytes = bytes_are c.args.piece.now c.type_inv.piece;
      counts = counts;
      behind = record { at = c.feeds.end; piece = c.feeds.left.now };
      fed = fed;
      ends = inr (some, search rules);
    }

pub returns-clause-took : goal.returns-clause-took
returns-clause-took g c =
    let (counts, fed) = c.feeds.invariant.feeds in
    record {
      bytes = bytes_are c.args.piece.now c.type_inv.piece;
      counts = counts;
      behind = record { at = c.feeds.end; piece = c.feeds.left.now };
      fed = fed;
      ends = inl (nil_from_length c.feeds.left.now (search rules), refl);
    }

pub feeds-init : goal.feeds-init
feeds-init g c = record { feeds = ([], refl); now = refl; keeps = g.met.E.Party.same c.args.end.now }

pub returns-in-Err-Closed-clause-keeps : goal.returns-in-Err-Closed-clause-keeps
returns-in-Err-Closed-clause-keeps g c = g.met.E.Party.along c.args.end.now c.feeds.end c.feed.new.self c.feeds.invariant.keeps c.feed.ensures.keeps

pub returns-in-Err-OutOfMemory-clause-keeps : goal.returns-in-Err-OutOfMemory-clause-keeps
returns-in-Err-OutOfMemory-clause-keeps g c = g.met.E.Party.along c.args.end.now c.feeds.end c.feed.new.self c.feeds.invariant.keeps c.feed.ensures.keeps
