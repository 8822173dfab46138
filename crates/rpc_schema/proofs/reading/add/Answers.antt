-- The set says whether an earlier entry has the name and version.
use Rattle.std.proofs.Common.{◌≡◌, refl, sym, subst, cond, not, true, rules}
use Rattle.std.specs.BTreeSet.{contains}
use Rattle.std.specs.Ordering.{is_eq}
use Rattle.rpc_schema.specs.declared.desc.Listing.{Listing}
use Rattle.rpc_schema.specs.Entries.{listing_cmp}
use Rattle.rpc_schema.specs.Reading.{Marks}
use Rattle.rpc_schema.proofs.ReadingSteps.{marks_more, marked_earlier, marked_new}
use Rattle.rpc_schema.proofs.reading.add.Goals as goal

pub returns-then-not-branch-clause-refused : goal.returns-then-not-branch-clause-refused
returns-then-not-branch-clause-refused c = (
  refl,
  (
    c.in_ok-entry.entry,
    c.in_ok-entry.ensures.spelled,
    marked_earlier c.args.seen.now c.args.entries.now.items c.in_ok-entry.entry c.in_ok-insert.field-0 c.requires
        (subst (λ l. c.in_ok-insert.field-0 ≡ not (contains listing_cmp c.args.seen.now l)) c.in_ok-listing.ensures c.in_ok-insert.ensures.added)
        (search rules),
  ),
)

pub returns-clause-marks : goal.returns-clause-marks
returns-clause-marks c =
    subst (λ es. Marks c.insert.new.self es) (sym c.in_ok-push.ensures.items)
    (marks_more c.args.seen.now c.insert.new.self c.args.entries.now.items c.in_ok-entry.entry c.requires
    (subst (λ l. (q : Listing) → contains listing_cmp c.insert.new.self q ≡ cond (is_eq (listing_cmp l q)) true (contains listing_cmp c.args.seen.now q))
    c.in_ok-listing.ensures c.in_ok-insert.ensures.updates.0))

pub returns-clause-added : goal.returns-clause-added
returns-clause-added c = (
  c.in_ok-entry.entry,
  c.in_ok-push.ensures.items,
  c.in_ok-entry.ensures.good,
  c.in_ok-entry.ensures.spelled,
  marked_new c.args.seen.now c.args.entries.now.items c.in_ok-entry.entry c.in_ok-insert.field-0 c.requires
      (subst (λ l. c.in_ok-insert.field-0 ≡ not (contains listing_cmp c.args.seen.now l)) c.in_ok-listing.ensures c.in_ok-insert.ensures.added)
      (search rules),
)
