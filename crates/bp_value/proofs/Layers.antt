-- Values and S-expressions one layer at a time: which variant one is, and that a variant's fields
-- are its own.
use Rattle.std.proofs.Common.{◌≡◌, ℕ, ℤ, Bool, List, sym, ap, ◌∙◌, rules}
use Rattle.bp_value.specs.declared.value.Sexp.{Sexp, out-Sexp, the_lemmas}
use Rattle.bp_value.specs.declared.value.Sexp.TheVariants as sx
use Rattle.bp_value.specs.declared.value.Sexp.TheOpen as sexp_layer
use Rattle.bp_value.specs.declared.value.Value.{Value, out-Value, the_lemmas as value_lemmas}
use Rattle.bp_value.specs.declared.value.Value.TheVariants as val
use Rattle.bp_value.specs.declared.value.Value.TheOpen as layer

-- ---- S-expressions

same_sexp_layer : {s u : Sexp} {a b : sexp_layer.Sexp-F Sexp}
    → out-Sexp s ≡ a → out-Sexp u ≡ b → s ≡ u → a ≡ b
same_sexp_layer p q e = sym p ∙ ap out-Sexp e ∙ q

pub out_atom : (t : List ℕ) → out-Sexp (sx.Atom t) ≡ sexp_layer.Atom t
out_atom t = search (rules, the_lemmas)

pub out_list : (ss : List Sexp) → out-Sexp (sx.List ss) ≡ sexp_layer.List ss
out_list ss = search (rules, the_lemmas)

pub atom_is : (t u : List ℕ) → sx.Atom t ≡ sx.Atom u → t ≡ u
atom_is t u e = let same = same_sexp_layer (out_atom t) (out_atom u) e in cc

pub list_is : (ss us : List Sexp) → sx.List ss ≡ sx.List us → ss ≡ us
list_is ss us e = let same = same_sexp_layer (out_list ss) (out_list us) e in cc

pub atom_no_list : (t : List ℕ) (ss : List Sexp) → sx.Atom t ≡ sx.List ss → ⊥
atom_no_list t ss e = let same = same_sexp_layer (out_atom t) (out_list ss) e in cc

-- ---- values: the layer of each variant

pub out_unit : out-Value val.Unit ≡ layer.Unit
out_unit = search (rules, value_lemmas)

pub out_absent : out-Value val.Absent ≡ layer.Absent
out_absent = search (rules, value_lemmas)

pub out_bool : (b : Bool) → out-Value (val.Bool b) ≡ layer.Bool b
out_bool b = search (rules, value_lemmas)

pub out_char : (b : ℕ) → out-Value (val.Char b) ≡ layer.Char b
out_char b = search (rules, value_lemmas)

pub out_num : (n : ℤ) → out-Value (val.Num n) ≡ layer.Num n
out_num n = search (rules, value_lemmas)

pub out_text : (t : List ℕ) → out-Value (val.Text t) ≡ layer.Text t
out_text t = search (rules, value_lemmas)

pub out_present : (v : Value) → out-Value (val.Present v) ≡ layer.Present v
out_present v = search (rules, value_lemmas)

pub out_items : (vs : List Value) → out-Value (val.Items vs) ≡ layer.Items vs
out_items vs = search (rules, value_lemmas)

pub out_parts : (vs : List Value) → out-Value (val.Parts vs) ≡ layer.Parts vs
out_parts vs = search (rules, value_lemmas)

pub out_sexp : (s : Sexp) → out-Value (val.Sexp s) ≡ layer.Sexp s
out_sexp s = search (rules, value_lemmas)

pub out_case : (place : ℕ) (vs : List Value) → out-Value (val.Case place vs) ≡ layer.Case place vs
out_case place vs = search (rules, value_lemmas)

-- ---- one variant of two values has one content

same_layer : {v w : Value} {a b : layer.Value-F Value}
    → out-Value v ≡ a → out-Value w ≡ b → v ≡ w → a ≡ b
same_layer p q e = sym p ∙ ap out-Value e ∙ q

pub bool_is : (b c : Bool) → val.Bool b ≡ val.Bool c → b ≡ c
bool_is b c e = let same = same_layer (out_bool b) (out_bool c) e in cc

pub char_is : (b c : ℕ) → val.Char b ≡ val.Char c → b ≡ c
char_is b c e = let same = same_layer (out_char b) (out_char c) e in cc

pub num_is : (n m : ℤ) → val.Num n ≡ val.Num m → n ≡ m
num_is n m e = let same = same_layer (out_num n) (out_num m) e in cc

pub text_is : (t u : List ℕ) → val.Text t ≡ val.Text u → t ≡ u
text_is t u e = let same = same_layer (out_text t) (out_text u) e in cc

pub present_is : (v w : Value) → val.Present v ≡ val.Present w → v ≡ w
present_is v w e = let same = same_layer (out_present v) (out_present w) e in cc

pub items_is : (vs ws : List Value) → val.Items vs ≡ val.Items ws → vs ≡ ws
items_is vs ws e = let same = same_layer (out_items vs) (out_items ws) e in cc

pub parts_is : (vs ws : List Value) → val.Parts vs ≡ val.Parts ws → vs ≡ ws
parts_is vs ws e = let same = same_layer (out_parts vs) (out_parts ws) e in cc

pub sexp_is : (s u : Sexp) → val.Sexp s ≡ val.Sexp u → s ≡ u
sexp_is s u e = let same = same_layer (out_sexp s) (out_sexp u) e in cc

pub case_place : (p q : ℕ) (vs ws : List Value) → val.Case p vs ≡ val.Case q ws → p ≡ q
case_place p q vs ws e = let same = same_layer (out_case p vs) (out_case q ws) e in cc

pub case_is : (p q : ℕ) (vs ws : List Value) → val.Case p vs ≡ val.Case q ws → vs ≡ ws
case_is p q vs ws e = let same = same_layer (out_case p vs) (out_case q ws) e in cc

pub present_there : (v : Value) → val.Present v ≡ val.Absent → ⊥
present_there v e = let same = same_layer (out_present v) out_absent e in cc
