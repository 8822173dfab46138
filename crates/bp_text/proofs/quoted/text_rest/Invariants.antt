-- The bytes so far, and what is read of the rest, are what is read of all.
use Rattle.std.proofs.Common.{◌≤◌, length}
use Rattle.bp_text_grammar.specs.Scanning as scanning
use Rattle.bp_text.proofs.QuotedSteps.{Reading}
use Rattle.bp_text.proofs.quoted.text_rest.Given as goal

abbrev pub invariant-bytes : goal.invariant-bytes
invariant-bytes l = record {
  reading : Reading l.bytes.items l.rest.now (scanning.text_rest l.initial.rest.now);
  shorter : length l.rest.now ≤ length l.initial.rest.now;
}

abbrev pub decreases-bytes : goal.decreases-bytes
decreases-bytes l = length l.rest.now
