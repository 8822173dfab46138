use Rattle.std.proofs.Common.{arith, Some, ◌≡◌, ◌+◌, ◌-◌, ◌<◌, ◌≤◌, [], ◌++◌, length, take, drop, min, sym, ap, ◌∙◌, add-one, length-take, length-drop}
use Rattle.std.proofs.lemmas.List.{take_all}
use Rattle.bp_base.proofs.Copying.{front_copied}
use Rattle.bp_base.proofs.Giving.{slice_get_index, bytes_before_next, bytes_from_next, bytes_before_more, bytes_from_more, bytes_from_end, counted_more, next_piece_next, next_piece_here, next_piece_end, take_fitting}
use Rattle.bp_base.specs.Faults.{last_count}
use Rattle.bp_base.specs.Places.{bytes_before, bytes_from, next_piece}
use Rattle.bp_base.proofs.pieces.Pieces.give.Goals as goal

pub invariant_of-self : goal.invariant_of-self
invariant_of-self c =
    let p = c.pieces.self in
    let piece = c.index-piece.result.now in
    let count = c.copy_front-count.result in
    let more = take count (drop p.at piece.items) in
    let is = slice_get_index p.pieces.items p.whole piece
    (omega (arith, c.pieces-test.true, c.len.ensures, p.pieces.ok.0)) c.index-piece.ensures in
    let grown = bytes_before_more p.pieces.items p.whole p.at count piece is in
    let long : length more ≡ count =
    omega (
      arith,
      length-take count (drop p.at piece.items),
      length-drop p.at piece.items,
      c.copy_front-count.ensures.count,
      ap length c.deref.ensures.value,
    ) in
    record {
      counted = c.saturating_add-self.ensures
          ∙ counted_more p.given count (bytes_before p.pieces.items p.whole p.at) more _
          p.counted grown long;
    }

pub invariant_of-self-in-pieces : goal.invariant_of-self-in-pieces
invariant_of-self-in-pieces c =
    let p = c.pieces.self in
    let piece = c.index-piece.result.now in
    let is = slice_get_index p.pieces.items p.whole piece
    (omega (arith, c.pieces-test.true, c.len.ensures, p.pieces.ok.0)) c.index-piece.ensures in
    let past : length piece.items ≤ p.at =
    omega (arith, c.if-self-len.false, c.len-in-pieces.ensures, piece.ok.0) in
    let same = ap (λ n. bytes_before p.pieces.items n 0) (add-one p.whole)
    ∙ bytes_before_next p.pieces.items p.whole p.at piece is past in
    record { counted = p.counted ∙ ap (λ l. min (length l) last_count) (sym same) }

pub returns-then-self-len-clause-given : goal.returns-then-self-len-clause-given
returns-then-self-len-clause-given c =
    let first = c.args.self.now in
    let p = c.pieces.self in
    let piece = c.index-piece.result.now in
    let count = c.copy_front-count.result in
    let is = slice_get_index p.pieces.items p.whole piece
    (omega (arith, c.pieces-test.true, c.len.ensures, p.pieces.ok.0)) c.index-piece.ensures in
    let next = front_copied count p.at c.deref.result.now piece.items c.copy_front-count.new.into
    c.deref.ensures.value c.copy_front-count.ensures.copied in
    ap Some (
    bytes_before_more p.pieces.items p.whole p.at count piece is
    ∙ ap (λ l. l ++ take count (drop p.at piece.items)) c.pieces.invariant.before
    ∙ ap (λ l. bytes_before first.pieces.items first.whole first.at ++ l) next
    )

pub returns-then-self-len-clause-left : goal.returns-then-self-len-clause-left
returns-then-self-len-clause-left c =
    let p = c.pieces.self in
    let piece = c.index-piece.result.now in
    let count = c.copy_front-count.result in
    let is = slice_get_index p.pieces.items p.whole piece
    (omega (arith, c.pieces-test.true, c.len.ensures, p.pieces.ok.0)) c.index-piece.ensures in
    let next = front_copied count p.at c.deref.result.now piece.items c.copy_front-count.new.into
    c.deref.ensures.value c.copy_front-count.ensures.copied in
    ap Some (
    sym c.pieces.invariant.left
    ∙ bytes_from_more p.pieces.items p.whole p.at count piece is
    ∙ ap (λ l. l ++ bytes_from p.pieces.items p.whole (p.at + count)) next
    )

pub returns-then-self-len-clause-piece : goal.returns-then-self-len-clause-piece
returns-then-self-len-clause-piece c =
    let p = c.pieces.self in
    let piece = c.index-piece.result.now in
    let count = c.copy_front-count.result in
    let into = c.copy_front-count.new.into in
    let left = drop p.at piece.items in
    let is = slice_get_index p.pieces.items p.whole piece
    (omega (arith, c.pieces-test.true, c.len.ensures, p.pieces.ok.0)) c.index-piece.ensures in
    let next = front_copied count p.at c.deref.result.now piece.items into
    c.deref.ensures.value c.copy_front-count.ensures.copied in
    let slice = c.deref.result.now in
    let fits : count ≡ min (length left) (length c.args.into.now) =
    omega (
      arith,
      c.copy_front-count.ensures.count,
      ap length c.deref.ensures.value,
      length-take (length slice - p.at) (drop p.at slice),
      length-drop p.at slice,
      length-drop p.at piece.items,
      c.pieces.auto.into,
    ) in
    let some : p.at < length piece.items =
    omega (arith, c.if-self-len.true, c.len-in-pieces.ensures, piece.ok.0) in
    sym next ∙ take_fitting left count (length c.args.into.now) fits
    ∙ ap (take (length c.args.into.now))
    (sym (next_piece_here p.pieces.items p.whole p.at piece is some) ∙ c.pieces.invariant.next)

pub returns-clause-piece : goal.returns-clause-piece
returns-clause-piece c =
    let p = c.pieces.self in
    let room = length c.args.into.now in
    let none = sym c.pieces.invariant.next ∙ next_piece_end p.pieces.items p.whole p.at
    (omega (arith, c.pieces-test.false, c.len.ensures, p.pieces.ok.0)) in
    sym (ap (take room) none ∙ take_all room [] (omega arith))

pub pieces-preserved : goal.pieces-preserved
pieces-preserved c =
    let p = c.pieces.self in
    let piece = c.index-piece.result.now in
    let is = slice_get_index p.pieces.items p.whole piece
    (omega (arith, c.pieces-test.true, c.len.ensures, p.pieces.ok.0)) c.index-piece.ensures in
    let past : length piece.items ≤ p.at =
    omega (arith, c.if-self-len.false, c.len-in-pieces.ensures, piece.ok.0) in
    record {
      before = ap (λ n. bytes_before p.pieces.items n 0) (add-one p.whole)
          ∙ bytes_before_next p.pieces.items p.whole p.at piece is past ∙ c.pieces.invariant.before;
      left = ap (λ n. bytes_from p.pieces.items n 0) (add-one p.whole)
          ∙ bytes_from_next p.pieces.items p.whole p.at piece is past ∙ c.pieces.invariant.left;
      next = ap (λ n. next_piece p.pieces.items n 0) (add-one p.whole)
          ∙ next_piece_next p.pieces.items p.whole p.at piece is past ∙ c.pieces.invariant.next;
      into_same = c.pieces.invariant.into_same;
    }

pub returns-clause-at_end : goal.returns-clause-at_end
returns-clause-at_end c _ =
    let p = c.pieces.self in
    bytes_from_end p.pieces.items p.whole p.at
    (omega (arith, c.pieces-test.false, c.len.ensures, p.pieces.ok.0))
