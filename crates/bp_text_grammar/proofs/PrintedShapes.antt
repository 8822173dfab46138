-- Parts of shapes are printed as they are read: what follows a base, tuples, options, lists, fields and cases.
use Rattle.std.proofs.Common.{◌≡◌, refl, sym, ap, ◌∙◌, subst, Option, Some, None, true, false, if◌then◌else◌, ℕ, zero, suc, ◌+◌, ◌<◌, ◌≤◌, nat_le, List, [], ◌∷◌, ◌++◌, length, map, append_assoc, codes, inl, inr, arith}
use Rattle.std.specs.Option.{option_map}
use Rattle.std.proofs.lemmas.List.{append-nil, length-append, length-map}
use Rattle.readers.specs.Reader.{Each, Is, Mapped, One, Others, Maybe}
use Rattle.readers.proofs.Readers.{each-join}
use Rattle.readers.proofs.Leaves.{pick_true}
use Rattle.bp_value.specs.declared.shape.Shape.{Shape}
use Rattle.bp_value.specs.declared.shape.Shape.TheVariants as shp
use Rattle.bp_value.specs.declared.shape.Case.{Case}
use Rattle.bp_value.specs.declared.shape.Field.{Field}
use Rattle.bp_value.specs.declared.shape.PolyCase.{PolyCase}
use Rattle.bp_value.specs.Names.{IsShapeName}
use Rattle.bp_value.specs.Limits.{longest_name}
use Rattle.bp_value.specs.Form.{tuple, form_of, parts, argument, unnamed}
use Rattle.bp_value.specs.Faults.{nodes, part_nodes}
use Rattle.bp_value.proofs.Forms.{form_of-Opt, form_of-List, form_of-Tuple}
use Rattle.bp_value.proofs.Good.{AreGood, good_node, good_opt, good_listed, good_tuple, good_part, shallow, tuple_count}
use Rattle.bp_text_grammar.specs.Tokens.{Token, Word, Mark}
use Rattle.bp_text_grammar.specs.Texts.{round_open, round_close, star, colon, backtick, is_word}
use Rattle.bp_text_grammar.specs.ShapeTexts.{most_posts, name_of, base_of, is_star, is_post, is_of, posted, no_arguments, IsPart, AreFactors, IsProduct, IsField, IsSumCase, IsPolyCase, IsBase}
use Rattle.bp_text_grammar.specs.PrintedPieces.{Piece, tight, spaced, after_blank, tokens_of}
use Rattle.bp_text_grammar.specs.PrintedShapes.{as_part, more_factors, factors, after_of, of_arguments, of_argument, shape_printed}
use Rattle.bp_text_grammar.proofs.Words.{mark_text}
use Rattle.bp_text_grammar.proofs.PieceTokens.{tokens_join, tokens_blank, tokens_after_blank}
use Rattle.bp_text_grammar.proofs.ShapeLayers.{case_printed, field_printed, poly_printed, case_printed_is, field_printed_is, poly_printed_is, printed_Opt, printed_List, printed_Tuple}

-- ---- a part: a base, and the words after it

-- a text of a part at the depth d, with k brackets left: each word after the base is one node less deep
pub record PartText (k d : ℕ) (s : Shape) (ts : List Token) : Type 0 where
  pub base : Shape
  pub front : List Token
  pub posts : List Token
  pub cut : ts ≡ front ++ posts
  pub is_base : IsBase k base front
  pub are_posts : Each (Is is_post) posts
  pub made : s ≡ posted base posts
  pub few : length posts + d ≤ most_posts

part_is : {k d : ℕ} {s : Shape} {ts : List Token} → PartText k d s ts → IsPart (IsBase k) s ts
part_is p = (p.base, p.front, p.posts, p.cut, p.is_base, (p.posts, p.made, (refl, omega (arith, p.few), p.are_posts)))

alone_is : {k d : ℕ} {s : Shape} {ts : List Token} → PartText k d s ts → IsProduct (IsBase k) s ts
alone_is {s = s} {ts = ts} p = (s ∷ [], refl, (s, ts, [], sym (append-nil ts), part_is p, ([], refl, refl)))

pub base_alone : (k d : ℕ) (s : Shape) (ts : List Token) → d ≤ most_posts → IsBase k s ts → PartText k d s ts
base_alone k d s ts le l = record { base = s; front = ts; posts = []; cut = sym (append-nil ts); is_base = l; are_posts = tt; made = refl; few = omega arith }

posted_more : (s : Shape) (ws : List Token) (t : Token) → posted s (ws ++ t ∷ []) ≡ posted (posted s ws) (t ∷ [])
posted_more s [] t = refl
posted_more s (w ∷ ws) t = posted_more (if is_word (codes "list") w then shp.List s else shp.Opt s) ws t

-- one word more
one_post : (k d : ℕ) (s : Shape) (ts : List Token) (t : Token) → is_post t ≡ true → PartText k (d + 1) s ts → PartText k d (posted s (t ∷ [])) (ts ++ t ∷ [])
one_post k d s ts t is p = record {
  base = p.base;
  front = p.front;
  posts = p.posts ++ t ∷ [];
  cut = ap (λ x. x ++ t ∷ []) p.cut ∙ append_assoc p.front p.posts (t ∷ []);
  is_base = p.is_base;
  are_posts = each-join (Is is_post) p.posts (t ∷ []) p.are_posts (is, tt);
  made = ap (λ x. posted x (t ∷ [])) p.made ∙ sym (posted_more p.base p.posts t);
  few = omega (arith, p.few, length-append p.posts (t ∷ []));
}

-- ---- what is printed of a shape, at each depth with enough brackets left

abbrev pub IsPrinted : Shape → Type 0
IsPrinted s = (d k : ℕ) → AreGood (nodes d (form_of s)) → 65 ≤ d + k
    → PartText k d s (tokens_of (as_part (shape_printed s))) × IsProduct (IsBase k) s (tokens_of (shape_printed s).1)

abbrev pub FieldIsPrinted : Field → Type 0
FieldIsPrinted f = (d k : ℕ) → IsShapeName f.name → AreGood (nodes d (form_of f.shape)) → 65 ≤ d + k → IsField (IsBase k) f (tokens_of (field_printed f))

abbrev pub CaseIsPrinted : Case → Type 0
CaseIsPrinted c = (d k : ℕ) → IsShapeName c.name → AreGood (part_nodes d (parts (map form_of c.args))) → 65 ≤ d + k → IsSumCase (IsBase k) c (tokens_of (case_printed c))

abbrev pub PolyIsPrinted : PolyCase → Type 0
PolyIsPrinted c = (d k : ℕ) → IsShapeName c.name → AreGood (part_nodes d (argument (option_map form_of c.arg))) → 65 ≤ d + k → IsPolyCase (IsBase k) c (tokens_of (poly_printed c))

abbrev pub Printable : Type 0
Printable = (s : Shape) × IsPrinted s

pub depth_of : (d : ℕ) (s : Shape) → AreGood (nodes d (form_of s)) → d ≤ 64
depth_of d s good = shallow d (form_of s) (good_node d (form_of s) good)

-- one that is no tuple
pub single : (s : Shape) (ps : List Piece) → shape_printed s ≡ (false, ps) → ((d k : ℕ) → AreGood (nodes d (form_of s)) → 65 ≤ d + k → PartText k d s (tokens_of ps)) → IsPrinted s
single s ps e text d k good le =
    let p = text d k good le in
    (subst (λ x. PartText k d s (tokens_of (as_part x))) (sym e) p, subst (λ x. IsProduct (IsBase k) s (tokens_of x.1)) (sym e) (alone_is p))

-- ---- bases

pub some_bracket : (d k : ℕ) → d ≤ 64 → 65 ≤ d + k → (j : ℕ) × (k ≡ suc j) × (65 ≤ (d + 1) + j)
some_bracket d zero le enough = absurd (omega arith)
some_bracket d (suc j) le enough = (j, refl, omega arith)

word_base : (k : ℕ) (s : Shape) (w : List ℕ) → base_of (Word w) ≡ Some s → IsBase k s (Word w ∷ [])
unfolding IsBase
word_base zero s w e = (Word w, refl, e)
word_base (suc k) s w e = inr (inr (inr (Word w, refl, e)))

pub leaf : (s : Shape) (w : List ℕ) → base_of (Word w) ≡ Some s → shape_printed s ≡ (false, tight (Word w) ∷ []) → IsPrinted s
leaf s w e printed =
    single s (tight (Word w) ∷ []) printed (λ d k good le. base_alone k d s (Word w ∷ []) (depth_of d s good) (word_base k s w e))

-- ---- tuples and arguments

-- a star and a part, and so on
others_printed : (d k : ℕ) (es : List Printable) → AreGood (part_nodes d (parts (map form_of (map (λ e. e.0) es)))) → 65 ≤ d + k
    → Others is_star (IsPart (IsBase k)) (map (λ e. e.0) es) (tokens_of (more_factors (map shape_printed (map (λ e. e.0) es))))
others_printed d k [] good le = refl
others_printed d k (e ∷ es) good le =
    let both = good_part d [] (form_of e.0) (parts (map form_of (map (λ e. e.0) es))) good in (
      Mark star,
      tokens_of (as_part (shape_printed e.0)),
      tokens_of (more_factors (map shape_printed (map (λ e. e.0) es))),
      refl,
      ap (λ ts. Mark star ∷ ts) (tokens_after_blank (as_part (shape_printed e.0)) (more_factors (map shape_printed (map (λ e. e.0) es)))),
      part_is (e.1 d k both.0 le).0,
      others_printed d k es both.1 le,
    )

factors_printed : (d k : ℕ) (e : Printable) (es : List Printable) → AreGood (part_nodes d (parts (map form_of (map (λ e. e.0) (e ∷ es))))) → 65 ≤ d + k
    → AreFactors (IsBase k) (map (λ e. e.0) (e ∷ es)) (tokens_of (factors (map shape_printed (map (λ e. e.0) (e ∷ es)))))
factors_printed d k e es good le =
    let both = good_part d [] (form_of e.0) (parts (map form_of (map (λ e. e.0) es))) good in (
      e.0,
      tokens_of (as_part (shape_printed e.0)),
      tokens_of (more_factors (map shape_printed (map (λ e. e.0) es))),
      tokens_join (as_part (shape_printed e.0)) (more_factors (map shape_printed (map (λ e. e.0) es))),
      part_is (e.1 d k both.0 le).0,
      (map (λ e. e.0) es, refl, others_printed d k es both.1 le),
    )

-- two factors or more are a tuple
tuple_is : (k : ℕ) (ss : List Shape) (ts : List Token) → 2 ≤ length ss → AreFactors (IsBase k) ss ts → IsProduct (IsBase k) (shp.Tuple ss) ts
tuple_is k [] ts le l = absurd (omega arith)
tuple_is k (s ∷ []) ts le l = absurd (omega arith)
tuple_is k (s ∷ t ∷ ss) ts le l = (s ∷ t ∷ ss, refl, l)

in_brackets : (k : ℕ) (s : Shape) (ps : List Piece) → IsProduct (IsBase k) s (tokens_of ps)
    → IsBase (suc k) s (tokens_of (tight (Mark round_open) ∷ ps ++ tight (Mark round_close) ∷ []))
unfolding IsBase
in_brackets k s ps l = inl (
  tt,
  Mark round_open ∷ [],
  tokens_of (ps ++ tight (Mark round_close) ∷ []),
  refl,
  mark_text round_open,
  (s, tokens_of ps, Mark round_close ∷ [], tokens_join ps (tight (Mark round_close) ∷ []), l, (tt, refl, mark_text round_close)),
)

tuple_product : (d k : ℕ) (es : List Printable) → 2 ≤ length (map (λ e. e.0) es) → AreGood (part_nodes d (parts (map form_of (map (λ e. e.0) es)))) → 65 ≤ d + k
    → IsProduct (IsBase k) (shp.Tuple (map (λ e. e.0) es)) (tokens_of (factors (map shape_printed (map (λ e. e.0) es))))
tuple_product d k [] two good le = absurd (omega arith)
tuple_product d k (e ∷ es) two good le = tuple_is k (map (λ e. e.0) (e ∷ es)) (tokens_of (factors (map shape_printed (map (λ e. e.0) (e ∷ es))))) two (factors_printed d k e es good le)

pub tuple_printed : (es : List Printable) → IsPrinted (shp.Tuple (map (λ e. e.0) es))
tuple_printed es d k good le =
    let ss = map (λ e. e.0) es in
    let here : AreGood (nodes d (tuple (parts (map form_of ss)))) = subst (λ f. AreGood (nodes d f)) (form_of-Tuple ss) good in
    let low : d ≤ 64 = depth_of d (shp.Tuple ss) good in
    let (j, is_k, enough) = some_bracket d k low le in
    let two : 2 ≤ length (map unnamed (map form_of ss)) = (tuple_count d (map unnamed (map form_of ss)) (good_node d (tuple (parts (map form_of ss))) here)).0 in
    let some : 2 ≤ length ss = omega (arith, two, length-map (map form_of ss) unnamed, length-map ss form_of) in
    let inner = good_tuple d (parts (map form_of ss)) here in (
      subst (λ x. PartText k d (shp.Tuple ss) (tokens_of (as_part x))) (sym (printed_Tuple ss))
          (base_alone k d (shp.Tuple ss) (tokens_of (as_part (true, factors (map shape_printed ss)))) low
          (subst (λ i. IsBase i (shp.Tuple ss) (tokens_of (as_part (true, factors (map shape_printed ss))))) (sym is_k)
          (in_brackets j (shp.Tuple ss) (factors (map shape_printed ss)) (tuple_product (d + 1) j es some inner enough)))),
      subst (λ x. IsProduct (IsBase k) (shp.Tuple ss) (tokens_of x.1)) (sym (printed_Tuple ss)) (tuple_product (d + 1) k es some inner (omega arith)),
    )

-- ---- options and lists

pub option_printed : (e : Printable) → IsPrinted (shp.Opt e.0)
option_printed e =
    single (shp.Opt e.0) (as_part (shape_printed e.0) ++ spaced (Word (codes "option")) ∷ []) (printed_Opt e.0)
    (λ d k good le. subst (λ ts. PartText k d (shp.Opt e.0) ts) (sym (tokens_join (as_part (shape_printed e.0)) (spaced (Word (codes "option")) ∷ [])))
    (one_post k d e.0 (tokens_of (as_part (shape_printed e.0))) (Word (codes "option")) refl
    (e.1 (d + 1) k (good_opt d (form_of e.0) (subst (λ f. AreGood (nodes d f)) (form_of-Opt e.0) good)) (omega arith)).0))

pub list_printed : (e : Printable) → IsPrinted (shp.List e.0)
list_printed e =
    single (shp.List e.0) (as_part (shape_printed e.0) ++ spaced (Word (codes "list")) ∷ []) (printed_List e.0)
    (λ d k good le. subst (λ ts. PartText k d (shp.List e.0) ts) (sym (tokens_join (as_part (shape_printed e.0)) (spaced (Word (codes "list")) ∷ [])))
    (one_post k d e.0 (tokens_of (as_part (shape_printed e.0))) (Word (codes "list")) refl
    (e.1 (d + 1) k (good_listed d (form_of e.0) (subst (λ f. AreGood (nodes d f)) (form_of-List e.0) good)) (omega arith)).0))

-- ---- members

name_printed : (n : List ℕ) → IsShapeName n → One name_of n (Word n ∷ [])
name_printed [] is = absurd is
name_printed (b ∷ n) is = (Word (b ∷ n), refl, pick_true (nat_le (length (b ∷ n)) longest_name) (Some (b ∷ n)) None (short is.1))
  where
    short : length n < longest_name → nat_le (length (b ∷ n)) longest_name ≡ true
    short lt = grind arith

pub field_is_printed : (n : List ℕ) (e : Printable) → FieldIsPrinted (record { name = n; shape = e.0 })
field_is_printed n e d k is good le =
    subst (λ ps. IsField (IsBase k) (record { name = n; shape = e.0 }) (tokens_of ps)) (sym (field_printed_is (record { name = n; shape = e.0 }))) (
      n,
      Word n ∷ [],
      Mark colon ∷ tokens_of (after_blank (shape_printed e.0).1),
      refl,
      name_printed n is,
      (
        tt,
        Mark colon ∷ [],
        tokens_of (shape_printed e.0).1,
        ap (λ ts. Mark colon ∷ ts) (tokens_blank (shape_printed e.0).1),
        mark_text colon,
        (e.0, refl, (e.1 d k good le).1),
      ),
    )

-- what follows `of`
of_printed : {A : Type 0} (L : A → List Token → Type 0) (a : A) (ps : List Piece) → L a (tokens_of ps) → Maybe is_of L (Some a) (tokens_of (after_of ps))
of_printed L a ps l = (Word (codes "of"), tokens_of ps, refl, ap (λ ts. Word (codes "of") ∷ ts) (tokens_blank ps), l)

pub case_is_printed : (n : List ℕ) (es : List Printable) → CaseIsPrinted (record { name = n; args = map (λ e. e.0) es })
case_is_printed n es d k is good le =
    subst (λ ps. IsSumCase (IsBase k) (record { name = n; args = map (λ e. e.0) es }) (tokens_of ps)) (sym (case_printed_is (record { name = n; args = map (λ e. e.0) es })))
    (n, Word n ∷ [], tokens_of (of_arguments (map shape_printed (map (λ e. e.0) es))), refl, name_printed n is, some es good)
  where
    some : (es : List Printable) → AreGood (part_nodes d (parts (map form_of (map (λ e. e.0) es))))
        → Mapped {B = Case} (λ o. record { name = n; args = no_arguments o }) (Maybe is_of (AreFactors (IsBase k))) (record { name = n; args = map (λ e. e.0) es }) (tokens_of (of_arguments (map shape_printed (map (λ e. e.0) es))))
    some [] good = (None, refl, refl)
    some (e ∷ es) good =
        (Some (map (λ e. e.0) (e ∷ es)), refl, of_printed (AreFactors (IsBase k)) (map (λ e. e.0) (e ∷ es)) (factors (map shape_printed (map (λ e. e.0) (e ∷ es)))) (factors_printed d k e es good le))

pub poly_is_printed : (n : List ℕ) (o : Option Printable) → PolyIsPrinted (record { name = n; arg = option_map (λ e. e.0) o })
poly_is_printed n o d k is good le =
    subst (λ ps. IsPolyCase (IsBase k) (record { name = n; arg = option_map (λ e. e.0) o }) (tokens_of ps)) (sym (poly_printed_is (record { name = n; arg = option_map (λ e. e.0) o }))) (
      tt,
      Mark backtick ∷ [],
      Word n ∷ tokens_of (of_argument (option_map shape_printed (option_map (λ e. e.0) o))),
      refl,
      mark_text backtick,
      (n, Word n ∷ [], tokens_of (of_argument (option_map shape_printed (option_map (λ e. e.0) o))), refl, name_printed n is, some o good),
    )
  where
    some : (o : Option Printable) → AreGood (part_nodes d (argument (option_map form_of (option_map (λ e. e.0) o))))
        → Mapped {B = PolyCase} (λ o. record { name = n; arg = o }) (Maybe is_of (IsProduct (IsBase k))) (record { name = n; arg = option_map (λ e. e.0) o }) (tokens_of (of_argument (option_map shape_printed (option_map (λ e. e.0) o))))
    some None good = (None, refl, refl)
    some (Some e) good =
        (Some e.0, refl, of_printed (IsProduct (IsBase k)) e.0 (shape_printed e.0).1 (e.1 d k (good_part d [] (form_of e.0) (argument None) good).0 le).1)
