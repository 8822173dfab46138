-- A text is that of one list of entries, and has no line at fault.
use Rattle.std.proofs.Common.{◌≡◌, refl, ap, ◌∙◌, subst, ℕ, List, [], ◌∷◌, ◌++◌, map, Err}
use Rattle.std.proofs.lemmas.List.{map-append}
use Rattle.std.specs.List.{AllZip, Contains}
use Rattle.bp_value.specs.Names.{IsDistinct}
use Rattle.rpc_schema.specs.declared.desc.Entry.{Entry}
use Rattle.rpc_schema.specs.declared.error.SchemaError.{SchemaError}
use Rattle.rpc_schema.specs.declared.error.SchemaError.TheVariants as error
use Rattle.rpc_schema.specs.Entries.{listing_of}
use Rattle.rpc_schema.specs.TextLines.{Numbered}
use Rattle.rpc_schema.specs.SchemaLines.{IsLineRefusedAt}
use Rattle.rpc_schema.specs.SchemaTexts.{IsEntryLine, AreEntryLines, ReachesLine, RefusesLines, GivesSchema}
use Rattle.rpc_schema.proofs.LineLaws.{sure_line}
use Rattle.rpc_schema.proofs.Distinct.{distinct_behind}

entry_once : (e f : Entry) (l : Numbered) → IsEntryLine e l → IsEntryLine f l → e ≡ f
entry_once e f l x y = ((sure_line l.number).once e f l.bytes [] [] x y).0

entries_once : (es fs : List Entry) (ls : List Numbered) → AllZip IsEntryLine es ls → AllZip IsEntryLine fs ls → es ≡ fs
entries_once [] [] [] x y = refl
entries_once (e ∷ es) (f ∷ fs) (l ∷ ls) x y =
    ap (λ first. first ∷ es) (entry_once e f l x.0 y.0) ∙ ap (λ rest. f ∷ rest) (entries_once es fs ls x.1 y.1)
entries_once [] (f ∷ fs) [] x y = absurd y
entries_once (e ∷ es) fs [] x y = absurd x
entries_once [] fs (l ∷ ls) x y = absurd x
entries_once (e ∷ es) [] (l ∷ ls) x y = absurd y

pub schema_once : (es fs : List Entry) (ls : List Numbered) → AreEntryLines es ls → AreEntryLines fs ls → es ≡ fs
schema_once es fs ls x y = entries_once es fs ls x.lines y.lines

-- the entry of a line that stands between others
record Between (es : List Entry) (before : List Numbered) (l : Numbered) : Type 0 where
  fore : List Entry
  entry : Entry
  hind : List Entry
  parts : es ≡ fore ++ entry ∷ hind
  earlier : AllZip IsEntryLine fore before
  here : IsEntryLine entry l

between : (es : List Entry) (before : List Numbered) (l : Numbered) (behind : List Numbered) → AllZip IsEntryLine es (before ++ l ∷ behind)
    → Between es before l
between [] [] l behind h = absurd h
between (e ∷ es) [] l behind h = record { fore = []; entry = e; hind = es; parts = refl; earlier = tt; here = h.0 }
between [] (k ∷ before) l behind h = absurd h
between (e ∷ es) (k ∷ before) l behind h =
    let b = between es before l behind h.1 in
    record {
      fore = e ∷ b.fore;
      entry = b.entry;
      hind = b.hind;
      parts = ap (λ rest. e ∷ rest) b.parts;
      earlier = (h.0, b.earlier);
      here = b.here;
    }

pub good_not_bad : (es : List Entry) (ls : List Numbered) (l : Numbered) (at : ℕ) → AreEntryLines es ls → ReachesLine ls l → IsLineRefusedAt l.bytes at → ⊥
good_not_bad es ls l at good r (x, refused, place) =
    let b = between es r.before l r.behind (subst (λ ks. AllZip IsEntryLine es ks) r.cut good.lines) in
    (sure_line l.number).apart b.entry l.bytes [] x b.here refused

pub good_not_twice : (es : List Entry) (ls : List Numbered) (l : Numbered) (e : Entry) → AreEntryLines es ls → (r : ReachesLine ls l) → IsEntryLine e l
    → Contains (map listing_of r.entries) (listing_of e) → ⊥
good_not_twice es ls l e good r line earlier =
    let b = between es r.before l r.behind (subst (λ ks. AllZip IsEntryLine es ks) r.cut good.lines) in
    let fore : r.entries ≡ b.fore = entries_once r.entries b.fore r.before r.good.lines b.earlier in
    let same : e ≡ b.entry = entry_once e b.entry l line b.here in
    let listings : map listing_of es ≡ map listing_of b.fore ++ listing_of b.entry ∷ map listing_of b.hind =
    ap (map listing_of) b.parts ∙ map-append listing_of b.fore (b.entry ∷ b.hind) in
    distinct_behind (map listing_of b.fore) (listing_of b.entry) (map listing_of b.hind) (subst (λ ks. IsDistinct ks) listings good.apart)
    (subst (λ (f : Entry). Contains (map listing_of b.fore) (listing_of f)) same
    (subst (λ (fs : List Entry). Contains (map listing_of fs) (listing_of e)) fore earlier))

-- lines of a schema are refused only where memory runs out
pub refuses_none : (ls : List Numbered) (e : SchemaError) (es : List Entry) → RefusesLines ls e → AreEntryLines es ls → GivesSchema es (Err e)
refuses_none ls (error.BadLine number place) es bad good =
    absurd (good_not_bad es ls (record { number = number; bytes = bad.bytes }) place good bad.reached bad.refused)
refuses_none ls (error.Twice number) es twice good =
    absurd (good_not_twice es ls (record { number = number; bytes = twice.bytes }) twice.entry good twice.reached twice.line twice.earlier)
refuses_none ls error.OutOfMemory es h good = tt
