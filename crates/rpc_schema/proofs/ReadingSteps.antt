-- What the reading of a schema keeps from line to line, and what its refusals mean.
use Rattle.std.proofs.Common.{◌≡◌, refl, sym, ap, ◌∙◌, subst, Bool, true, false, not, cond, ◌||◌, ℕ, ◌+◌, ◌<◌, ◌≤◌, List, [], ◌∷◌, ◌++◌, length, take, drop, get_or, map, inl, inr, Bor, arith}
use Rattle.std.specs.List.{All, AllZip, Contains, list_any}
use Rattle.std.specs.BTreeSet.{BTreeSet, contains}
use Rattle.std.specs.Ordering.{eq_by_cmp, is_eq}
use Rattle.std.proofs.lemmas.Cmp.{eq_by_cmp_equiv, then_total, on_total, nat_list_cmp_total, int_cmp_total}
use Rattle.std.proofs.lemmas.List.Folds.{list_any-append}
use Rattle.std.proofs.lemmas.List.{map-append, take_more, get_or-map, length-map, length-take-le, take_all}
use Rattle.std.proofs.lemmas.List.Elements.{All-push}
use Rattle.bp_value.specs.Names.{IsDistinct}
use Rattle.bp_value.proofs.Distinct.{none_distinct}
use Rattle.rpc_schema.specs.declared.desc.Entry.{Entry}
use Rattle.rpc_schema.specs.declared.desc.Listing.{Listing}
use Rattle.rpc_schema.specs.declared.error.SchemaError.{SchemaError}
use Rattle.rpc_schema.specs.declared.error.SchemaError.TheVariants as error
use Rattle.rpc_schema.specs.Entries.{IsEntry, listing_of, listing_cmp}
use Rattle.rpc_schema.specs.TextLines.{Numbered, is_skipped, lines_kept}
use Rattle.rpc_schema.specs.SchemaTexts.{IsEntryLine, AreEntryLines, ReachesLine, IsBadSchemaLine, IsTwice, RefusesLines}
use Rattle.rpc_schema.specs.Reading.{slices, Marks, FollowsLine, RefusesNext}
use Rattle.rpc_schema.proofs.Distinct.{distinct_push, any_contains, contains_any}
use Rattle.rpc_schema.proofs.TextParts.{slices_split}
use Rattle.rpc_schema.proofs.KeptLines.{kept_skip, kept_read}

-- ---- one line more

abbrev pub kept : List (List ℕ) → List Numbered
kept ls = lines_kept 1 ls

module _ (xs : List (List ℕ)) (l : List ℕ) (i : ℕ) (count : length xs ≡ i) where
  at : 1 + length xs ≡ i + 1
  at = omega (arith, count)

  pub lines_go : (old new : List Entry) → FollowsLine (i + 1) l old new → AreEntryLines old (kept xs) → AreEntryLines new (kept (xs ++ l ∷ []))
  lines_go old new (inl (skipped, same)) good =
      subst (λ ks. AreEntryLines new ks) (sym (kept_skip 1 xs l (i + 1) at skipped)) (subst (λ es. AreEntryLines es (kept xs)) (sym same) good)
  lines_go old new (inr (read, (e, is, entry, spelled, other))) good =
      subst (λ ks. AreEntryLines new ks) (sym (kept_read 1 xs l (i + 1) at [] read)) (subst (λ es. AreEntryLines es (kept xs ++ record { number = i + 1; bytes = l } ∷ [])) (sym is)
      (record {
        lines = zip_push old (kept xs) good.lines;
        apart = subst (λ ls. IsDistinct ls) (sym (map-append listing_of old (e ∷ []))) (distinct_push (map listing_of old) (listing_of e) good.apart other);
      }))
    where
      zip_push : (es : List Entry) (ls : List Numbered) → AllZip IsEntryLine es ls
          → AllZip IsEntryLine (es ++ e ∷ []) (ls ++ record { number = i + 1; bytes = l } ∷ [])
      zip_push [] [] h = (spelled, tt)
      zip_push (f ∷ es) (k ∷ ls) h = (h.0, zip_push es ls h.1)
      zip_push [] (k ∷ ls) h = absurd h
      zip_push (f ∷ es) [] h = absurd h

  -- the line is the first one at fault
  reaches : (ys : List (List ℕ)) (es : List Entry) → is_skipped l ≡ false → AreEntryLines es (kept xs)
      → ReachesLine (kept (xs ++ l ∷ ys)) (record { number = i + 1; bytes = l })
  reaches ys es read good = record {
    before = kept xs;
    behind = lines_kept (i + 1 + 1) ys;
    cut = kept_read 1 xs l (i + 1) at ys read;
    entries = es;
    good = good;
  }

  refused_line : (ys ls : List (List ℕ)) (es : List Entry) (e : SchemaError) → ls ≡ xs ++ l ∷ ys → AreEntryLines es (kept xs)
      → RefusesNext (i + 1) l es e → RefusesLines (kept ls) e
  refused_line ys ls es (error.BadLine number place) is good (read, (same, refused)) =
      subst (λ n. IsBadSchemaLine (kept ls) n place) (sym same)
      (record { bytes = l; reached = subst (λ ks. ReachesLine (kept ks) (record { number = i + 1; bytes = l })) (sym is) (reaches ys es read good); refused = refused })
  refused_line ys ls es (error.Twice number) is good (read, (same, (e, spelled, earlier))) =
      subst (λ n. IsTwice (kept ls) n) (sym same)
      (record {
        bytes = l;
        reached = record {
          before = kept xs;
          behind = lines_kept (i + 1 + 1) ys;
          cut = ap kept is ∙ kept_read 1 xs l (i + 1) at ys read;
          entries = es;
          good = good;
        };
        entry = e;
        line = spelled;
        earlier = earlier;
      })
  refused_line ys ls es error.OutOfMemory is good h = tt

-- ---- the slices of a text

pub slices_length : (parts : List (Bor (List ℕ))) (i : ℕ) → i < length parts → length (take i (slices parts)) ≡ i
slices_length parts i within =
    let all : length (slices parts) ≡ length parts = length-map parts (λ (part : Bor (List ℕ)). part.now) in
    length-take-le i (slices parts) (omega (arith, all, within))

pub slices_more : (parts : List (Bor (List ℕ))) (i : ℕ) (d : Bor (List ℕ)) → i < length parts
    → take (i + 1) (slices parts) ≡ take i (slices parts) ++ (get_or parts i d).now ∷ []
slices_more parts i d within =
    let all : length (slices parts) ≡ length parts = length-map parts (λ (part : Bor (List ℕ)). part.now) in
    take_more (slices parts) i d.now (omega (arith, all, within))
    ∙ ap (λ l. take i (slices parts) ++ l ∷ []) (get_or-map (λ (part : Bor (List ℕ)). part.now) parts i d d.now within)

pub slices_all : (parts : List (Bor (List ℕ))) (i : ℕ) → length parts ≤ i → take i (slices parts) ≡ slices parts
slices_all parts i past =
    let all : length (slices parts) ≡ length parts = length-map parts (λ (part : Bor (List ℕ)). part.now) in
    take_all i (slices parts) (omega (arith, all, past))

pub lines_more : (parts : List (Bor (List ℕ))) (i : ℕ) (d : Bor (List ℕ)) (old new : List Entry) → i < length parts
    → FollowsLine (i + 1) (get_or parts i d).now old new → AreEntryLines old (kept (take i (slices parts)))
    → AreEntryLines new (kept (take (i + 1) (slices parts)))
lines_more parts i d old new within follows good =
    subst (λ ls. AreEntryLines new (kept ls)) (sym (slices_more parts i d within))
    (lines_go (take i (slices parts)) (get_or parts i d).now i (slices_length parts i within) old new follows good)

pub each_more : (parts : List (Bor (List ℕ))) (i : ℕ) (d : Bor (List ℕ)) (old new : List Entry) → FollowsLine (i + 1) (get_or parts i d).now old new
    → All IsEntry old → All IsEntry new
each_more parts i d old new (inl (skipped, same)) each = subst (All IsEntry) (sym same) each
each_more parts i d old new (inr (read, (e, is, entry, spelled, other))) each = subst (All IsEntry) (sym is) (All-push IsEntry old e each entry)

pub line_refused : (parts : List (Bor (List ℕ))) (i : ℕ) (d : Bor (List ℕ)) (es : List Entry) (e : SchemaError) → i < length parts
    → AreEntryLines es (kept (take i (slices parts))) → RefusesNext (i + 1) (get_or parts i d).now es e
    → RefusesLines (kept (slices parts)) e
line_refused parts i d es e within good refused =
    refused_line (take i (slices parts)) (get_or parts i d).now i (slices_length parts i within) (drop (i + 1) (slices parts)) (slices parts) es e
    (sym (slices_split parts i d within)) good refused

-- ---- none, and all lines

pub none_read : AreEntryLines [] []
none_read = record { lines = tt; apart = none_distinct }

pub all_read : (parts : List (Bor (List ℕ))) (i : ℕ) (es : List Entry) → length parts ≤ i → AreEntryLines es (kept (take i (slices parts)))
    → AreEntryLines es (kept (slices parts))
all_read parts i es past good = subst (λ ls. AreEntryLines es (kept ls)) (slices_all parts i past) good

-- ---- the set of names and versions

listing_alike : (a b : Listing) → is_eq (listing_cmp a b) ≡ is_eq (listing_cmp b a)
listing_alike a b =
    (eq_by_cmp_equiv {R = listing_cmp} (then_total (on_total (λ l. l.name) nat_list_cmp_total) (on_total (λ l. l.version) int_cmp_total))).symm a b

pub marks_more : (old new : BTreeSet Listing) (es : List Entry) (e : Entry) → Marks old es
    → ((q : Listing) → contains listing_cmp new q ≡ cond (is_eq (listing_cmp (listing_of e) q)) true (contains listing_cmp old q))
    → Marks new (es ++ e ∷ [])
marks_more old new es e marks updates l =
    let end : list_any (eq_by_cmp listing_cmp l) (map listing_of (es ++ e ∷ []))
    ≡ (list_any (eq_by_cmp listing_cmp l) (map listing_of es) || (is_eq (listing_cmp l (listing_of e)) || false)) =
    ap (list_any (eq_by_cmp listing_cmp l)) (map-append listing_of es (e ∷ []))
    ∙ list_any-append (eq_by_cmp listing_cmp l) (map listing_of es) (listing_of e ∷ []) in
    updates l ∙ (ap (λ b. cond b true (contains listing_cmp old l)) (listing_alike (listing_of e) l)
    ∙ (ap (λ b. cond (is_eq (listing_cmp l (listing_of e))) true b) (marks l)
    ∙ (either (is_eq (listing_cmp l (listing_of e))) (list_any (eq_by_cmp listing_cmp l) (map listing_of es)) ∙ sym end)))
  where
    either : (a b : Bool) → cond a true b ≡ (b || (a || false))
    either true true = refl
    either true false = refl
    either false true = refl
    either false false = refl

-- the set has the name and version of an earlier entry, or of none
pub marked_earlier : (seen : BTreeSet Listing) (es : List Entry) (e : Entry) (added : Bool) → Marks seen es → added ≡ not (contains listing_cmp seen (listing_of e))
    → added ≡ false → Contains (map listing_of es) (listing_of e)
marked_earlier seen es e added marks is new =
    any_contains (map listing_of es) (listing_of e) (sym (marks (listing_of e)) ∙ back (contains listing_cmp seen (listing_of e)) (sym is ∙ new))
  where
    back : (b : Bool) → not b ≡ false → b ≡ true
    back true e = refl
    back false e = absurd cc

pub marked_new : (seen : BTreeSet Listing) (es : List Entry) (e : Entry) (added : Bool) → Marks seen es → added ≡ not (contains listing_cmp seen (listing_of e))
    → added ≡ true → Contains (map listing_of es) (listing_of e) → ⊥
marked_new seen es e added marks is new earlier =
    let there : contains listing_cmp seen (listing_of e) ≡ true = marks (listing_of e) ∙ contains_any (map listing_of es) (listing_of e) earlier in
    let none : true ≡ false = sym (sym is ∙ new) ∙ ap not there in
    absurd cc
