use Rattle.std.proofs.Common.{◌≡◌, refl, sym, ap, ◌∙◌, subst, length, take, drop, arith}
use Rattle.std.proofs.lemmas.List.{length-take, length-drop}
use Rattle.readers.specs.Reader.{one}
use Rattle.bp_num.specs.declared.number.Why.TheVariants.{Byte}
use Rattle.bp_grammar.specs.Spells.{unit_of, char_of}
use Rattle.bp_codec.specs.declared.levels.Next.TheVariants as next
use Rattle.bp_codec.specs.declared.plan.Node.TheVariants as node
use Rattle.bp_codec.specs.declared.plan.Plan.{Plan}
use Rattle.bp_codec.specs.Leaves.{bool_value, number_value, text_value}
use Rattle.bp_codec.specs.Nodes.{ArePlaced}
use Rattle.bp_codec.specs.Opened.{IsNoParts}
use Rattle.bp_codec.specs.Plan.{node_reads}
use Rattle.bp_codec.proofs.Descending.{node_at}
use Rattle.bp_codec.specs.Taking.{ComesNext}
use Rattle.bp_codec.proofs.Dispatch.{comes_next, leaf_moves, sexp_next, sexp_node, args_stop}
use Rattle.bp_codec.proofs.open.Open.take.Goals as goal

placed : (p : Plan) → ArePlaced p.nodes.items p.tags.items
placed p = record { opts = p.opts; lists = p.lists; parts = p.parts; sums = p.sums; polys = p.polys; args = p.args }

pub returns-in-Sexp : goal.returns-in-Sexp
returns-in-Sexp c = c.take_sexp.ensures.moves c.args.plan.now.nodes.items c.args.plan.now.tags.items (sexp_next c.args.plan.now.nodes.items c.args.plan.now.tags.items c.args.max c.args.self.now c.in-Sexp.depth (c.requires.next ∙ c.in-Sexp.is)) c.requires.reach

pub take_sum-requires-clause-cases : goal.take_sum-requires-clause-cases
take_sum-requires-clause-cases c = let comes = comes_next c.args.plan.now.nodes.items c.args.self.now c.args.next c.in-Node.place c.index.result.now (node.Sum c.in-Sum.first c.in-Sum.count) c.requires.next c.in-Node.is c.requires.parts c.index.ensures c.in-Sum.is in c.args.plan.now.sums comes.place c.in-Sum.first c.in-Sum.count comes.at

pub unreachable-requires-in-Parts : goal.unreachable-requires-in-Parts
unreachable-requires-in-Parts c =
    let parts : IsNoParts c.args.plan.now.nodes.items (next.Node c.in-Node.place) = subst (IsNoParts c.args.plan.now.nodes.items) c.in-Node.is c.requires.parts in
    parts.1 c.in-Parts.first c.in-Parts.count (node_at c.args.plan.now.nodes.items c.in-Node.place c.index.result.now (node.Parts c.in-Parts.first c.in-Parts.count) parts.0 c.index.ensures c.in-Parts.is)

pub returns-in-Unit : goal.returns-in-Unit
unfolding node_reads
returns-in-Unit c =
    leaf_moves (one unit_of Byte) c.args.plan.now.nodes.items c.args.plan.now.tags.items c.args.max (node.Unit) c.args.self.now c.take_unit.new.self c.args.rest.now.now c.take_unit.new.rest.now c.take_unit.result (λ reading t. refl)
    (comes_next c.args.plan.now.nodes.items c.args.self.now c.args.next c.in-Node.place c.index.result.now (node.Unit) c.requires.next c.in-Node.is c.requires.parts c.index.ensures c.in-Unit.is) c.requires.reach c.take_unit.ensures

pub returns-in-Bool : goal.returns-in-Bool
unfolding node_reads
returns-in-Bool c =
    leaf_moves (bool_value) c.args.plan.now.nodes.items c.args.plan.now.tags.items c.args.max (node.Bool) c.args.self.now c.take_bool.new.self c.args.rest.now.now c.take_bool.new.rest.now c.take_bool.result (λ reading t. refl)
    (comes_next c.args.plan.now.nodes.items c.args.self.now c.args.next c.in-Node.place c.index.result.now (node.Bool) c.requires.next c.in-Node.is c.requires.parts c.index.ensures c.in-Bool.is) c.requires.reach c.take_bool.ensures

pub returns-in-Char : goal.returns-in-Char
unfolding node_reads
returns-in-Char c =
    leaf_moves (one char_of Byte) c.args.plan.now.nodes.items c.args.plan.now.tags.items c.args.max (node.Char) c.args.self.now c.take_char.new.self c.args.rest.now.now c.take_char.new.rest.now c.take_char.result (λ reading t. refl)
    (comes_next c.args.plan.now.nodes.items c.args.self.now c.args.next c.in-Node.place c.index.result.now (node.Char) c.requires.next c.in-Node.is c.requires.parts c.index.ensures c.in-Char.is) c.requires.reach c.take_char.ensures

pub returns-in-Int : goal.returns-in-Int
unfolding node_reads
returns-in-Int c =
    leaf_moves (number_value c.in-Int.kind) c.args.plan.now.nodes.items c.args.plan.now.tags.items c.args.max (node.Int c.in-Int.kind) c.args.self.now c.take_numbers.new.self c.args.rest.now.now c.take_numbers.new.rest.now c.take_numbers.result (λ reading t. refl)
    (comes_next c.args.plan.now.nodes.items c.args.self.now c.args.next c.in-Node.place c.index.result.now (node.Int c.in-Int.kind) c.requires.next c.in-Node.is c.requires.parts c.index.ensures c.in-Int.is) c.requires.reach c.take_numbers.ensures

pub returns-in-Text : goal.returns-in-Text
unfolding node_reads
returns-in-Text c =
    leaf_moves (text_value c.args.max) c.args.plan.now.nodes.items c.args.plan.now.tags.items c.args.max (node.Text) c.args.self.now c.take_texts.new.self c.args.rest.now.now c.take_texts.new.rest.now c.take_texts.result (λ reading t. refl)
    (comes_next c.args.plan.now.nodes.items c.args.self.now c.args.next c.in-Node.place c.index.result.now (node.Text) c.requires.next c.in-Node.is c.requires.parts c.index.ensures c.in-Text.is) c.requires.reach c.take_texts.ensures

pub returns-in-Opt : goal.returns-in-Opt
returns-in-Opt c = c.take_option.ensures c.args.max c.args.plan.now.nodes.items c.args.plan.now.tags.items (placed c.args.plan.now) (comes_next c.args.plan.now.nodes.items c.args.self.now c.args.next c.in-Node.place c.index.result.now (node.Opt c.in-Opt.item) c.requires.next c.in-Node.is c.requires.parts c.index.ensures c.in-Opt.is) c.requires.reach

pub returns-in-List : goal.returns-in-List
returns-in-List c = c.take_list.ensures.moves c.args.plan.now.nodes.items c.args.plan.now.tags.items (placed c.args.plan.now) (comes_next c.args.plan.now.nodes.items c.args.self.now c.args.next c.in-Node.place c.index.result.now (node.List c.in-List.item) c.requires.next c.in-Node.is c.requires.parts c.index.ensures c.in-List.is) c.requires.reach

pub returns-in-Sum : goal.returns-in-Sum
returns-in-Sum c = c.take_sum.ensures c.args.max (comes_next c.args.plan.now.nodes.items c.args.self.now c.args.next c.in-Node.place c.index.result.now (node.Sum c.in-Sum.first c.in-Sum.count) c.requires.next c.in-Node.is c.requires.parts c.index.ensures c.in-Sum.is) c.requires.reach

pub tags_at-tags-requires : goal.tags_at-tags-requires
tags_at-tags-requires c = let comes = (comes_next c.args.plan.now.nodes.items c.args.self.now c.args.next c.in-Node.place c.index.result.now (node.Poly c.in-Poly.first c.in-Poly.count c.in-Poly.tags) c.requires.next c.in-Node.is c.requires.parts c.index.ensures c.in-Poly.is) in let fits = c.args.plan.now.polys comes.place c.in-Poly.first c.in-Poly.count c.in-Poly.tags comes.at in fits.1

pub returns-in-Sexp-index : goal.returns-in-Sexp-index
returns-in-Sexp-index c =
    c.take_sexp-in-Sexp-index.ensures.moves c.args.plan.now.nodes.items c.args.plan.now.tags.items (sexp_node c.args.plan.now.nodes.items c.args.plan.now.tags.items c.args.max c.args.self.now (comes_next c.args.plan.now.nodes.items c.args.self.now c.args.next c.in-Node.place c.index.result.now (node.Sexp) c.requires.next c.in-Node.is c.requires.parts c.index.ensures c.in-Sexp-index.is)) c.requires.reach

pub returns-in-Args : goal.returns-in-Args
returns-in-Args c = args_stop c.args.plan.now.nodes.items c.args.plan.now.tags.items c.args.max c.in-Args.first c.in-Args.count c.args.self.now c.args.rest.now.now (comes_next c.args.plan.now.nodes.items c.args.self.now c.args.next c.in-Node.place c.index.result.now (node.Args c.in-Args.first c.in-Args.count) c.requires.next c.in-Node.is c.requires.parts c.index.ensures c.in-Args.is) c.requires.reach

pub returns-in-Poly : goal.returns-in-Poly
returns-in-Poly c =
    let comes = (comes_next c.args.plan.now.nodes.items c.args.self.now c.args.next c.in-Node.place c.index.result.now (node.Poly c.in-Poly.first c.in-Poly.count c.in-Poly.tags) c.requires.next c.in-Node.is c.requires.parts c.index.ensures c.in-Poly.is) in
    let fits = c.args.plan.now.polys comes.place c.in-Poly.first c.in-Poly.count c.in-Poly.tags comes.at in
    let is = c.tags_at-tags.ensures in
    let count : length c.tags_at-tags.result.now ≡ c.in-Poly.count =
    ap length is ∙ (length-take c.in-Poly.count (drop c.in-Poly.tags c.args.plan.now.tags.items) ∙ omega (arith, length-drop c.in-Poly.tags c.args.plan.now.tags.items, fits.1)) in
    let here : ComesNext c.args.plan.now.nodes.items (node.Poly c.in-Poly.first (length c.tags_at-tags.result.now) c.in-Poly.tags) c.args.self.now =
    subst (λ n. ComesNext c.args.plan.now.nodes.items (node.Poly c.in-Poly.first n c.in-Poly.tags) c.args.self.now) (sym count) comes in
    c.take_poly.ensures c.args.max c.in-Poly.tags (is ∙ ap (λ n. take n (drop c.in-Poly.tags c.args.plan.now.tags.items)) (sym count)) here c.requires.reach
