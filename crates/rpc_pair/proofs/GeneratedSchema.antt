-- The lines of a generated run's schema are those of its entries.
use Rattle.std.proofs.Common.{◌≡◌, refl, sym, ap, ◌∙◌, ℕ, zero, suc, ◌<◌, pos, true, List, [], ◌++◌, length, map, codes, Option, Some, None, arith}
use Rattle.std.proofs.lemmas.Fmt.{decimal_digit}
use Rattle.bp_value.specs.declared.shape.Shape.TheVariants as shp
use Rattle.bp_value.specs.Names.{IsDistinct}
use Rattle.bp_text_grammar.specs.Scanning.{after_blanks, span}
use Rattle.rpc_schema.specs.declared.desc.Kind.{Kind}
use Rattle.rpc_schema.specs.declared.desc.Kind.TheVariants.{Plain, OneWay, Pipe, State}
use Rattle.rpc_schema.specs.declared.desc.Side.TheVariants.{Both}
use Rattle.rpc_schema.specs.declared.desc.Listing.{Listing}
use Rattle.rpc_schema.specs.Entries.{is_visible, IsRpcName, listing_of}
use Rattle.rpc_schema.specs.LineParts.{behind_word, front_word, starts_blank}
use Rattle.rpc_schema.specs.SchemaLines.{IsLineHead, IsLineOf, kind_word}
use Rattle.rpc_schema.specs.SchemaTexts.{AreEntryLines}
use Rattle.rpc_schema.specs.TextLines.{lines_kept}
use Rattle.rpc_pair.specs.Generated.{entry_both, generated_entries, generated_lines}
use Rattle.rpc_pair.proofs.ShapeParts.{final, int_error, ints_arrow, string_arrow, string_error, string_last, strings_item, unit_arrow, unit_last}

-- ---- names

pub echo_name : IsRpcName (codes "echo")
echo_name = record {
  visible = (refl, (refl, (refl, (refl, tt))));
  some = omega arith;
  short = omega arith;
  other = λ e. let long : 4 ≡ 20 = ap (λ (w : List ℕ). length w) e in absurd (omega arith);
}

pub log_name : IsRpcName (codes "log")
log_name = record {
  visible = (refl, (refl, (refl, tt)));
  some = omega arith;
  short = omega arith;
  other = λ e. let long : 3 ≡ 20 = ap (λ (w : List ℕ). length w) e in absurd (omega arith);
}

pub each_name : IsRpcName (codes "each")
each_name = record {
  visible = (refl, (refl, (refl, (refl, tt))));
  some = omega arith;
  short = omega arith;
  other = λ e. let long : 4 ≡ 20 = ap (λ (w : List ℕ). length w) e in absurd (omega arith);
}

pub book_name : IsRpcName (codes "book")
book_name = record {
  visible = (refl, (refl, (refl, (refl, tt))));
  some = omega arith;
  short = omega arith;
  other = λ e. let long : 4 ≡ 20 = ap (λ (w : List ℕ). length w) e in absurd (omega arith);
}

-- ---- lines

-- `KIND NAME 1 both =`
head_both : (kind : Kind) (name s named versioned sided marked rest : List ℕ)
    → front_word s ≡ kind_word kind → named ≡ behind_word s
    → starts_blank named ≡ true → span is_visible (after_blanks named) ≡ (name, versioned) → IsRpcName name
    → front_word versioned ≡ codes "1" → sided ≡ behind_word versioned
    → front_word sided ≡ codes "both" → marked ≡ behind_word sided → after_blanks marked ≡ codes "=" ++ rest
    → IsLineHead (record { kind = kind; name = name; version = pos 1; side = Both }) s rest
head_both kind name s named versioned sided marked rest word after blank run good one left both right equals = (
  kind,
  named,
  (word, after),
  (name, versioned, ((blank, run), good), (pos 1, sided, ((1, refl, omega arith, one ∙ sym (decimal_digit 1 (omega arith))), left), (Both, rest, (Both, marked, (both, right), (tt, rest, equals, (refl, refl))), (refl, refl)))),
)

echo_line : IsLineOf 1 (entry_both 1 (codes "echo") Plain shp.Text shp.Text shp.Unit shp.Unit) (codes "plain echo 1 both = string -> string") []
echo_line = (
  record { kind = Plain; name = codes "echo"; version = pos 1; side = Both },
  codes " string -> string",
  head_both Plain (codes "echo") (codes "plain echo 1 both = string -> string") (codes " echo 1 both = string -> string")
      (codes " 1 both = string -> string") (codes " both = string -> string") (codes " = string -> string") (codes " string -> string")
      refl refl refl refl echo_name refl refl refl refl refl,
  (
    record { query = shp.Text; first = shp.Text; item = shp.Unit; error = shp.Unit },
    [],
    (shp.Text, codes " -> string", string_arrow, (shp.Text, [], (tt, codes " string", refl, string_last), (refl, refl))),
    (None, [], (refl, refl), (refl, refl)),
  ),
)

log_line : IsLineOf 2 (entry_both 2 (codes "log") OneWay shp.Text shp.Unit shp.Unit shp.Unit) (codes "oneway log 1 both = string") []
log_line = (
  record { kind = OneWay; name = codes "log"; version = pos 1; side = Both },
  codes " string",
  head_both OneWay (codes "log") (codes "oneway log 1 both = string") (codes " log 1 both = string")
      (codes " 1 both = string") (codes " both = string") (codes " = string") (codes " string")
      refl refl refl refl log_name refl refl refl refl refl,
  (
    record { query = shp.Text; first = shp.Unit; item = shp.Unit; error = shp.Unit },
    [],
    (shp.Text, [], string_last, (refl, refl)),
    (None, [], (refl, refl), (refl, refl)),
  ),
)

each_line : IsLineOf 3 (entry_both 3 (codes "each") Pipe (shp.List shp.Int) shp.Unit shp.Int shp.Unit) (codes "pipe each 1 both = int list -> int ! unit") []
each_line = (
  record { kind = Pipe; name = codes "each"; version = pos 1; side = Both },
  codes " int list -> int ! unit",
  head_both Pipe (codes "each") (codes "pipe each 1 both = int list -> int ! unit") (codes " each 1 both = int list -> int ! unit")
      (codes " 1 both = int list -> int ! unit") (codes " both = int list -> int ! unit") (codes " = int list -> int ! unit")
      (codes " int list -> int ! unit") refl refl refl refl each_name refl refl refl refl refl,
  (
    record { query = shp.List shp.Int; first = shp.Unit; item = shp.Int; error = shp.Unit },
    [],
    (
      shp.List shp.Int,
      codes " -> int ! unit",
      ints_arrow,
      (shp.Int, codes " ! unit", (tt, codes " int ! unit", refl, int_error), (shp.Unit, [], (tt, codes " unit", refl, unit_last), (refl, refl))),
    ),
    (None, [], (refl, refl), (refl, refl)),
  ),
)

book_line : IsLineOf 4 (entry_both 4 (codes "book") State shp.Unit (shp.List shp.Text) shp.Text shp.Unit)
    (codes "state book 1 both = unit -> string list, string ! unit") []
book_line = (
  record { kind = State; name = codes "book"; version = pos 1; side = Both },
  codes " unit -> string list, string ! unit",
  head_both State (codes "book") (codes "state book 1 both = unit -> string list, string ! unit")
      (codes " book 1 both = unit -> string list, string ! unit") (codes " 1 both = unit -> string list, string ! unit")
      (codes " both = unit -> string list, string ! unit") (codes " = unit -> string list, string ! unit")
      (codes " unit -> string list, string ! unit") refl refl refl refl book_name refl refl refl refl refl,
  (
    record { query = shp.Unit; first = shp.List shp.Text; item = shp.Text; error = shp.Unit },
    [],
    (
      shp.Unit,
      codes " -> string list, string ! unit",
      unit_arrow,
      (
        shp.List shp.Text,
        codes ", string ! unit",
        (tt, codes " string list, string ! unit", refl, strings_item),
        (shp.Text, codes " ! unit", (tt, codes " string ! unit", refl, string_error), (shp.Unit, [], (tt, codes " unit", refl, unit_last), (refl, refl))),
      ),
    ),
    (None, [], (refl, refl), (refl, refl)),
  ),
)

-- ---- all lines

-- no two names end with one byte
key : Option Listing → ℕ
key None = 0
key (Some l) = final 0 l.name

entries_apart : IsDistinct (map listing_of generated_entries)
unfolding key
entries_apart zero (suc zero) less within same = let e : ◌≡◌ {A = ℕ} 111 103 = ap key same in absurd (omega (arith, e))
entries_apart zero (suc (suc zero)) less within same = let e : ◌≡◌ {A = ℕ} 111 104 = ap key same in absurd (omega (arith, e))
entries_apart zero (suc (suc (suc zero))) less within same = let e : ◌≡◌ {A = ℕ} 111 107 = ap key same in absurd (omega (arith, e))
entries_apart (suc zero) (suc (suc zero)) less within same = let e : ◌≡◌ {A = ℕ} 103 104 = ap key same in absurd (omega (arith, e))
entries_apart (suc zero) (suc (suc (suc zero))) less within same = let e : ◌≡◌ {A = ℕ} 103 107 = ap key same in absurd (omega (arith, e))
entries_apart (suc (suc zero)) (suc (suc (suc zero))) less within same = let e : ◌≡◌ {A = ℕ} 104 107 = ap key same in absurd (omega (arith, e))
entries_apart a b less within same = let small : b < 4 = within in absurd (omega arith)

pub generated_schema : AreEntryLines generated_entries (lines_kept 1 generated_lines)
generated_schema = record { lines = (echo_line, (log_line, (each_line, (book_line, tt)))); apart = entries_apart }
