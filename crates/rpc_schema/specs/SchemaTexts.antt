-- Texts of schemas, and the first line at fault.
use Rattle.std.specs.Prelude.{◌≡◌, ℕ, List, [], ◌∷◌, ◌++◌, map, Result, Ok, Err}
use Rattle.std.specs.List.{AllZip, Contains}
use Rattle.bp_value.specs.Names.{IsDistinct}
use Rattle.rpc_schema.specs.declared.desc.Entry.{Entry}
use Rattle.rpc_schema.specs.declared.error.SchemaError.{SchemaError}
use Rattle.rpc_schema.specs.declared.error.SchemaError.TheVariants as error
use Rattle.rpc_schema.specs.Entries.{listing_of}
use Rattle.rpc_schema.specs.TextLines.{Numbered, lines_read}
use Rattle.rpc_schema.specs.SchemaLines.{IsLineOf, IsLineRefusedAt}

-- the entry is that of the line, to the line's end
abbrev pub IsEntryLine : Entry → Numbered → Type 0
IsEntryLine e l = IsLineOf l.number e l.bytes []

-- lines of the entries, of which no two have one name and version
pub record AreEntryLines (es : List Entry) (ls : List Numbered) : Type 0 where
  pub lines : AllZip IsEntryLine es ls
  pub apart : IsDistinct (map listing_of es)

abbrev pub IsSchemaText : List Entry → List ℕ → Type 0
IsSchemaText es text = AreEntryLines es (lines_read text)

-- the lines before this one are of entries
pub record ReachesLine (ls : List Numbered) (l : Numbered) : Type 0 where
  pub before : List Numbered
  pub behind : List Numbered
  pub cut : ls ≡ before ++ l ∷ behind
  pub entries : List Entry
  pub good : AreEntryLines entries before

-- the first line at fault is of no entry, and refused at this byte
pub record IsBadSchemaLine (ls : List Numbered) (number at : ℕ) : Type 0 where
  pub bytes : List ℕ
  pub reached : ReachesLine ls (record { number = number; bytes = bytes })
  pub refused : IsLineRefusedAt bytes at

-- the first line at fault has the name and version of an earlier one
pub record IsTwice (ls : List Numbered) (number : ℕ) : Type 0 where
  pub bytes : List ℕ
  pub reached : ReachesLine ls (record { number = number; bytes = bytes })
  pub entry : Entry
  pub line : IsEntryLine entry (record { number = number; bytes = bytes })
  pub earlier : Contains (map listing_of reached.entries) (listing_of entry)

-- ---- answers

-- why the lines are no schema
abbrev pub RefusesLines : List Numbered → SchemaError → Type 0
RefusesLines ls (error.BadLine number at) = IsBadSchemaLine ls number at
RefusesLines ls (error.Twice number) = IsTwice ls number
RefusesLines ls error.OutOfMemory = Unit {0}

abbrev pub RefusesSchema : List ℕ → SchemaError → Type 0
RefusesSchema text e = RefusesLines (lines_read text) e

-- these entries are given, if memory does not run out
abbrev pub GivesSchema : List Entry → Result (List Entry) SchemaError → Type 0
GivesSchema es (Ok given) = given ≡ es
GivesSchema es (Err error.OutOfMemory) = Unit {0}
GivesSchema es (Err e) = ⊥
