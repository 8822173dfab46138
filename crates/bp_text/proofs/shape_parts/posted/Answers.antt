use Rattle.std.proofs.Common.{◌≡◌, sym, ap, ◌∙◌, ◌-◌, ◌+◌, if◌then◌else◌, codes, arith}
use Rattle.readers.proofs.Leaves.{pick_true, pick_false}
use Rattle.bp_value.specs.declared.shape.Shape.TheVariants as shp
use Rattle.bp_text_grammar.specs.Texts.{is_word}
use Rattle.bp_text.specs.Given.{token_of}
use Rattle.bp_text.specs.Items.{posted_at}
use Rattle.bp_text.specs.Unread.{ahead, is_first}
use Rattle.bp_text.proofs.Ahead.{goes_join}
use Rattle.bp_text.proofs.PostSteps.{posts_go}
use Rattle.bp_text.proofs.shape_parts.posted.Goals as goal
use Rattle.bp_text.proofs.shape_parts.posted.Goals.{then-is_list, else-is_list}

pub posts-preserved : goal.posts-preserved
posts-preserved c =
    let old = c.posts.tokens in
    let new = c.take.new.self in
    let shape = c.posts.shape in
    let made : c.if-is_list.shape ≡ (if is_first (is_word (codes "list")) (ahead old) then shp.List shape else shp.Opt shape) =
    elim c.if-is_list.branch [
      | then-is_list w ↦ w.shape-is ∙ (ap shp.List c.in_ok-inner.ensures ∙ sym (pick_true _ (shp.List shape) (shp.Opt shape) (sym
          c.is_word-is_list.ensures ∙ w.if-is_list.true)))
      | else-is_list w ↦ w.shape-is ∙ (ap shp.Opt c.in_ok-inner.ensures ∙ sym (pick_false _ (shp.List shape) (shp.Opt shape) (sym
          c.is_word-is_list.ensures ∙ w.if-is_list.false)))
    ] in
    let some = sym c.is_post.ensures ∙ c.posts-test.true in
    record {
      goes = goes_join c.args.tokens.now old new c.posts.invariant.goes c.in_ok-take.ensures.0;
      posting =
          posts_go shape c.if-is_list.shape (64 - c.posts.count) (64 - (c.posts.count + 1)) (ahead old) (ahead new) (token_of c.in_ok-take.field-0)
          (posted_at c.args.base (ahead c.args.tokens.now)) c.in_ok-take.ensures.1 (omega arith) some made c.posts.invariant.posting;
      within = omega arith;
    }
