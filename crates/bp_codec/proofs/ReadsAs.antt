-- Where all nodes are made, they read what the grammar's readers read.
use Rattle.std.proofs.Common.{◌≡◌, ℕ, zero, suc, ◌+◌, ◌<◌, Option, Some, None, List, [], ◌∷◌, length, get_or, slice_get, refl, sym, ap, ◌∙◌, arith}
use Rattle.std.proofs.lemmas.Option.{slice_get-get_or, slice_get_within}
use Rattle.readers.specs.Reader.{whole, more, after, mapped, one}
use Rattle.bp_num.specs.declared.number.Why.TheVariants.{Byte}
use Rattle.bp_value.specs.declared.value.Value.TheVariants as val
use Rattle.bp_value.specs.Form.{Form, Parts, Cases, unit, bool, char, int, int32, int64, text, opt, listed, tuple, fields, sum, poly, sexp, end, part, end_cases, case}
use Rattle.bp_grammar.specs.Spells.{flag_of}
use Rattle.bp_grammar.specs.Reading.{read, read_parts, read_case, at_flag, counted_at}
use Rattle.bp_codec.specs.declared.plan.Node.{Node}
use Rattle.bp_codec.specs.declared.plan.Node.TheVariants as node
use Rattle.bp_codec.specs.Plan.{Reading, parts_at, args_in, case_at, node_reads, AreRead, ReadAs}
use Rattle.bp_codec.specs.Sources.{Origin, value, args, part_origins, case_origins, children, own_tags, node_at}
use Rattle.bp_codec.proofs.Standing.{Stands, stands_head, stands_tail, stands_get}
use Rattle.bp_codec.proofs.Built.{IsMade, AreBuilt}
use Rattle.bp_codec.proofs.Choices.{after_place, after_key}
use Rattle.bp_codec.proofs.Fit.{made_of}

-- what is read where something stands to be made
abbrev reads : ℕ → Option Origin → Reading
reads m None s = more
reads m (Some (value f)) s = read m f s
reads m (Some (args fs)) s = more

abbrev reading : ℕ → List Origin → ℕ → Reading
reading m os i s = reads m (slice_get os i) s

parts_read : (m : ℕ) (os : List Origin) (first : ℕ) (fs : Parts) (s : List ℕ) → Stands os first (part_origins fs)
    → parts_at (reading m os) first (length (part_origins fs)) s ≡ read_parts m fs s
unfolding part_origins read_parts
parts_read m os first end s stands = refl
parts_read m os first (part name f fs) s stands = λ i.
    after (reads m (stands_head os first (value f) (part_origins fs) stands i) s)
    (λ v t. mapped (λ vs. v ∷ vs) (parts_read m os (suc first) fs t (stands_tail os first (value f) (part_origins fs) stands) i))

-- the arguments at a place
case_there : (cs : Cases) (place : ℕ) → place < length (case_origins cs)
    → (fs : Parts) × (slice_get (case_origins cs) place ≡ Some (args fs)) × ((m : ℕ) (s : List ℕ) → read_case m cs place s ≡ read_parts m fs s)
unfolding case_origins read_case
case_there end_cases place lt = absurd (omega arith)
case_there (case name fs cs) zero lt = (fs, refl, λ m s. refl)
case_there (case name fs cs) (suc place) lt = case_there cs place (omega arith)

args_read : (m : ℕ) (os : List Origin) (first at : ℕ) (fs : Parts) (s : List ℕ) → Stands os first (children (args fs))
    → args_in (reading m os) (Some (node_at (args fs) first at)) s ≡ read_parts m fs s
unfolding children node_at
args_read m os first at fs s stands = parts_read m os first fs s stands

module _ (m : ℕ) (f : Form) (os : List Origin) (ns : List Node) (tags : List ℕ) (built : AreBuilt f os ns tags) (all : length ns ≡ length os) where
  case_reads : (first : ℕ) (cs : Cases) → Stands os first (case_origins cs) → (place : ℕ) (s : List ℕ) → place < length (case_origins cs)
      → case_at ns (reading m os) first place s ≡ mapped (val.Case place) (read_case m cs place s)
  case_reads first cs stands place s lt =
      let (fs, here, same) = case_there cs place lt in
      let at_o = stands_get os first (case_origins cs) place (args fs) stands here in
      let below : first + place < length ns = let within = slice_get_within os (first + place) (args fs) at_o in omega arith in
      let at_n = slice_get-get_or ns (first + place) node.Unit below in
      let h = made_of f os ns tags built all (first + place) (args fs) (get_or ns (first + place) node.Unit) at_o at_n in
      ap (mapped (val.Case place)) (ap (λ o. args_in (reading m os) o s) (at_n ∙ ap (λ n. Some n) h.5)
      ∙ (args_read m os h.0 h.1 fs s h.3 ∙ sym (same m s)))

  made_reads : (o : Origin) (first at : ℕ) (s : List ℕ) → Stands os first (children o) → Stands tags at (own_tags o)
      → reads m (Some o) s ≡ node_reads m ns tags (reading m os) (node_at o first at) s
  unfolding children own_tags node_at node_reads read
  made_reads (value unit) first at s kids own = refl
  made_reads (value bool) first at s kids own = refl
  made_reads (value char) first at s kids own = refl
  made_reads (value int) first at s kids own = refl
  made_reads (value int32) first at s kids own = refl
  made_reads (value int64) first at s kids own = refl
  made_reads (value text) first at s kids own = refl
  made_reads (value (opt f)) first at s kids own = λ i.
      after (one flag_of Byte s) (at_flag (λ t. whole val.Absent t) (λ t. mapped val.Present (reads m (sym (stands_head os first (value f) [] kids) i) t)))
  made_reads (value (listed f)) first at s kids own = λ i.
      mapped val.Items (counted_at m (reads m (sym (stands_head os first (value f) [] kids) i)) s)
  made_reads (value (tuple fs)) first at s kids own = ap (mapped val.Parts) (sym (parts_read m os first fs s kids))
  made_reads (value (fields fs)) first at s kids own = ap (mapped val.Parts) (sym (parts_read m os first fs s kids))
  made_reads (value (sum cs)) first at s kids own =
      sym (after_place cs s (case_at ns (reading m os) first) (λ place t. mapped (val.Case place) (read_case m cs place t)) (case_reads first cs kids))
  made_reads (value (poly cs)) first at s kids own =
      sym (after_key tags at cs s (case_at ns (reading m os) first) (λ place t. mapped (val.Case place) (read_case m cs place t)) own (case_reads first cs kids))
  made_reads (value sexp) first at s kids own = refl
  made_reads (args fs) first at s kids own = refl

  are_read : AreRead m ns tags (reading m os)
  are_read k n at =
      let h : IsMade os tags k n = built.made k n at in
      λ i s. (ap (λ o. reads m o s) h.stands ∙ (made_reads h.of h.first h.at s h.children_at h.tags_at
      ∙ ap (λ x. node_reads m ns tags (reading m os) x s) (sym h.is))) i

  pub read_as : ReadAs m ns tags (read m f)
  read_as = (reading m os, are_read, λ i s. reads m (built.root i) s)
