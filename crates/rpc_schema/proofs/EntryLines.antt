-- What the lines of a schema spell are entries of one schema.
use Rattle.std.proofs.Common.{◌≡◌, sym, subst, ℕ, List, [], ◌∷◌, length, inl, inr}
use Rattle.std.specs.Prelude.{Option, Some, None, IfSome}
use Rattle.std.specs.List.{All, AllZip}
use Rattle.std.proofs.lemmas.List.Elements.{All-cons, All-nil}
use Rattle.bp_value.specs.declared.value.Value.{Value}
use Rattle.bp_value.specs.Form.{Form}
use Rattle.bp_text_grammar.specs.WholeTexts.{IsValueText, kinds}
use Rattle.bp_text_grammar.proofs.ReadFits.{value_fits}
use Rattle.bp_text_grammar.proofs.ShortTokens.{text_short}
use Rattle.rpc_schema.specs.declared.desc.Behaviour.{Behaviour}
use Rattle.rpc_schema.specs.declared.desc.Entry.{Entry}
use Rattle.rpc_schema.specs.declared.desc.RpcDesc.{RpcDesc}
use Rattle.rpc_schema.specs.Entries.{AreEntries, IsAnyOf, IsEntry, Suits}
use Rattle.rpc_schema.specs.SchemaLines.{IsLineOf, IsTail, desc_of}
use Rattle.rpc_schema.specs.SchemaTexts.{AreEntryLines, IsEntryLine}
use Rattle.rpc_schema.specs.TextLines.{Numbered}
use Rattle.rpc_schema.proofs.GoodLines.{entry_good, head_good, shapes_good}

-- a value that a text spells is of its form
text_of_form : (f : Form) (v : Value) (s : List ℕ) → IsValueText f v s → IsAnyOf f v
text_of_form f v s is = (length s, value_fits (length s) f v (kinds is.tokens) is.spelled (text_short is.tokens s is.lexed))

-- a behaviour that stands at the end of a line suits it
tail_suits : (d : RpcDesc) (b : Option Behaviour) (s u : List ℕ) → IsTail d b s u → IfSome b (Suits d)
tail_suits d None s u tail = tt
tail_suits d (Some b) s u (a, t, is, (inl (c, t1, ((spelled, suits), cut), (e, t2, ended, known)))) = subst (Suits d) (sym known.0) suits
tail_suits d (Some b) s u (a, t, is, (inr (c, t1, ((word, plain), cut), (v, made, text, end)))) =
    subst (Suits d) (sym made) (plain, text_of_form _ v t1 text)

line_good : (n : ℕ) (e : Entry) (s u : List ℕ) → IsLineOf n e s u → IsEntry e
line_good n e s u (head, t, is, (shapes, t1, are, (b, t2, tail, known))) =
    subst IsEntry (sym known.0)
    (entry_good n head shapes b (head_good head s t is) (shapes_good head.kind shapes t t1 are) (tail_suits (desc_of head shapes) b t1 t2 tail))

all_good : (es : List Entry) (ls : List Numbered) → AllZip IsEntryLine es ls → All IsEntry es
all_good [] [] lines = All-nil IsEntry
all_good [] (l ∷ ls) lines = absurd lines
all_good (e ∷ es) [] lines = absurd lines
all_good (e ∷ es) (l ∷ ls) (line, lines) = All-cons IsEntry e es (line_good l.number e l.bytes [] line) (all_good es ls lines)

pub lines_entries : (es : List Entry) (ls : List Numbered) → AreEntryLines es ls → AreEntries es
lines_entries es ls are = record { each = all_good es ls are.lines; apart = are.apart }
