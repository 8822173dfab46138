-- What is read of the words that are left, with as many as may still come, is what is read of all.
use Rattle.std.proofs.Common.{◌≤◌, ◌-◌}
use Rattle.bp_text.specs.Items.{posted_at}
use Rattle.bp_text.specs.Unread.{ahead, Advances}
use Rattle.bp_text.proofs.PostSteps.{Posting}
use Rattle.bp_text.proofs.shape_parts.posted.Given as goal

abbrev pub invariant-posts : goal.invariant-posts
invariant-posts l = record {
  goes : Advances l.initial.tokens l.tokens;
  posting : Posting l.shape (64 - l.count) (ahead l.tokens) (posted_at l.fn.base (ahead l.initial.tokens));
  within : l.count ≤ 64;
}

abbrev pub decreases-posts : goal.decreases-posts
decreases-posts l = 64 - l.count
