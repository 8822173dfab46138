-- What stands for the parts and cases of a shape, in order; and the nodes that are made of it.
use Rattle.std.proofs.Common.{◌≡◌, ℕ, ◌≤◌, List, [], ◌∷◌, ◌++◌, map, length, take, refl, sym, ap, ◌∙◌, append-nil}
use Rattle.std.specs.Int.{w32, cast_unsigned}
use Rattle.std.specs.Option.{option_map}
use Rattle.std.proofs.lemmas.List.{take_all, length-map}
use Rattle.bp_value.specs.declared.shape.Shape.{Shape}
use Rattle.bp_value.specs.declared.shape.Case.{Case}
use Rattle.bp_value.specs.declared.shape.Field.{Field}
use Rattle.bp_value.specs.declared.shape.PolyCase.{PolyCase}
use Rattle.bp_value.specs.Tags.{tag_of}
use Rattle.bp_value.specs.Form.{poly, form_of, parts, named_parts, cases, argument, field_form, case_form, poly_form}
use Rattle.bp_codec.specs.declared.plan.Node.{Node}
use Rattle.bp_codec.specs.declared.plan.Node.TheVariants as node
use Rattle.bp_codec.specs.Sources.{Origin, value, args, part_origins, case_origins, tag_words, children, own_tags, node_at, Places, Expands}

pub shape_origins : (ss : List Shape) → part_origins (parts (map form_of ss)) ≡ map (λ s. value (form_of s)) ss
unfolding part_origins
shape_origins [] = refl
shape_origins (s ∷ ss) = ap (λ os. value (form_of s) ∷ os) (shape_origins ss)

pub field_origins : (fs : List Field) → part_origins (named_parts (map field_form fs)) ≡ map (λ f. value (form_of f.shape)) fs
unfolding part_origins
field_origins [] = refl
field_origins (f ∷ fs) = ap (λ os. value (form_of f.shape) ∷ os) (field_origins fs)

pub sum_origins : (cs : List Case) → case_origins (cases (map case_form cs)) ≡ map (λ c. args (parts (map form_of c.args))) cs
unfolding case_origins
sum_origins [] = refl
sum_origins (c ∷ cs) = ap (λ os. args (parts (map form_of c.args)) ∷ os) (sum_origins cs)

pub poly_origins : (cs : List PolyCase) → case_origins (cases (map poly_form cs)) ≡ map (λ c. args (argument (option_map form_of c.arg))) cs
unfolding case_origins
poly_origins [] = refl
poly_origins (c ∷ cs) = ap (λ os. args (argument (option_map form_of c.arg)) ∷ os) (poly_origins cs)

pub poly_words : (cs : List PolyCase) → tag_words (cases (map poly_form cs)) ≡ map (λ c. cast_unsigned w32 (tag_of c.name)) cs
unfolding tag_words
poly_words [] = refl
poly_words (c ∷ cs) = ap (λ ws. cast_unsigned w32 (tag_of c.name) ∷ ws) (poly_words cs)

-- what was placed, where all are
pub placed_all : {A B : Type 0} (h : A → B) (xs : List A) (i : ℕ) (os old new : List B) → length xs ≤ i → new ≡ old ++ map h (take i xs) → os ≡ map h xs
    → new ≡ old ++ os
placed_all h xs i os old new over is same = is ∙ ap (λ l. old ++ l) (ap (map h) (take_all i xs over) ∙ sym same)

-- ---- nodes

module _ (o : Origin) (n : Node) (os : List Origin) (tags : List ℕ) (none : [] ≡ own_tags o) where
  -- the children are placed
  pub expands : (new : List Origin) (first : ℕ) → Places (children o) os new first → ((at : ℕ) → n ≡ node_at o first at) → Expands o os new tags tags n
  expands new first placed is = record {
    made = is (length tags) ∙ ap (λ k. node_at o k (length tags)) placed.0;
    children_last = placed.1;
    tags_last = sym (append-nil tags) ∙ ap (λ ts. tags ++ ts) none;
  }

  -- there are none
  pub expands_leaf : [] ≡ children o → ((at : ℕ) → n ≡ node_at o (length os) at) → Expands o os os tags tags n
  expands_leaf childless is = expands os (length os) (refl, sym (append-nil os) ∙ ap (λ ks. os ++ ks) childless) is

pub shape_count : (ss : List Shape) → length ss ≡ length (part_origins (parts (map form_of ss)))
shape_count ss = sym (ap length (shape_origins ss) ∙ length-map ss (λ s. value (form_of s)))

pub field_count : (fs : List Field) → length fs ≡ length (part_origins (named_parts (map field_form fs)))
field_count fs = sym (ap length (field_origins fs) ∙ length-map fs (λ f. value (form_of f.shape)))

pub sum_count : (cs : List Case) → length cs ≡ length (case_origins (cases (map case_form cs)))
sum_count cs = sym (ap length (sum_origins cs) ∙ length-map cs (λ c. args (parts (map form_of c.args))))

poly_count : (cs : List PolyCase) → length cs ≡ length (case_origins (cases (map poly_form cs)))
poly_count cs = sym (ap length (poly_origins cs) ∙ length-map cs (λ c. args (argument (option_map form_of c.arg))))

-- the sources and the tags of all cases are placed
pub expands_poly : (cs : List PolyCase) (old new : List Origin) (old_tags new_tags : List ℕ) (i first at count : ℕ) → length cs ≤ i
    → new ≡ old ++ map (λ c. args (argument (option_map form_of c.arg))) (take i cs)
    → new_tags ≡ old_tags ++ map (λ c. cast_unsigned w32 (tag_of c.name)) (take i cs)
    → first ≡ length old → at ≡ length old_tags → count ≡ length cs
    → Expands (value (poly (cases (map poly_form cs)))) old new old_tags new_tags (node.Poly first count at)
unfolding children own_tags node_at
expands_poly cs old new old_tags new_tags i first at count over placed tagged is_first is_at is_count = record {
  made = λ j. node.Poly (is_first j) ((is_count ∙ poly_count cs) j) (is_at j);
  children_last = placed_all (λ c. args (argument (option_map form_of c.arg))) cs i (case_origins (cases (map poly_form cs))) old new over placed (poly_origins cs);
  tags_last = placed_all (λ c. cast_unsigned w32 (tag_of c.name)) cs i (tag_words (cases (map poly_form cs))) old_tags new_tags over tagged (poly_words cs);
}
