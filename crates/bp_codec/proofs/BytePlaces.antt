-- No variant of a good form has more cases than a byte can count.
use Rattle.std.proofs.Common.{ℕ, ◌+◌, ◌≤◌, length, arith}
use Rattle.bp_value.specs.Form.{Form, Parts, Cases, unit, bool, char, int, int32, int64, text, opt, listed, tuple, fields, sum, poly, sexp, end, part, end_cases, case}
use Rattle.bp_value.specs.Faults.{nodes, part_nodes, case_nodes, case_names, IsGood}
use Rattle.bp_value.proofs.Good.{AreGood, good_root, good_node, good_opt, good_listed, good_tuple, good_fields, good_sum, good_poly, good_part, good_case, few_members}
use Rattle.bp_grammar.proofs.Good.{case_count-is}
use Rattle.bp_codec.specs.Fitting.{HasBytePlaces, HavePartsBytePlaces, HaveCasesBytePlaces}

mutual
  unfolding HasBytePlaces HavePartsBytePlaces HaveCasesBytePlaces

  node_places : (d : ℕ) (f : Form) → AreGood (nodes d f) → HasBytePlaces f
  node_places d unit good = tt
  node_places d bool good = tt
  node_places d char good = tt
  node_places d int good = tt
  node_places d int32 good = tt
  node_places d int64 good = tt
  node_places d text good = tt
  node_places d (opt f) good = node_places (d + 1) f (good_opt d f good)
  node_places d (listed f) good = node_places (d + 1) f (good_listed d f good)
  node_places d (tuple fs) good = parts_places (d + 1) fs (good_tuple d fs good)
  node_places d (fields fs) good = parts_places (d + 1) fs (good_fields d fs good)
  node_places d (sum cs) good =
      let few : length (case_names cs) ≤ 256 = few_members d (sum cs) (good_node d (sum cs) good) in
      (omega (arith, case_count-is cs), cases_places (d + 1) cs (good_sum d cs good))
  node_places d (poly cs) good = cases_places (d + 1) cs (good_poly d cs good)
  node_places d sexp good = tt

  parts_places : (d : ℕ) (fs : Parts) → AreGood (part_nodes d fs) → HavePartsBytePlaces fs
  parts_places d end good = tt
  parts_places d (part name f fs) good = let both = good_part d name f fs good in (node_places d f both.0, parts_places d fs both.1)

  cases_places : (d : ℕ) (cs : Cases) → AreGood (case_nodes d cs) → HaveCasesBytePlaces cs
  cases_places d end_cases good = tt
  cases_places d (case name fs cs) good = let both = good_case d name fs cs good in (parts_places d fs both.0, cases_places d cs both.1)

pub good_places : (f : Form) → IsGood f → HasBytePlaces f
good_places f good = node_places 1 f (good_root f good)
