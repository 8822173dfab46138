-- What `menu` has to write.
use Rattle.std.specs.Prelude.{◌≡◌, ℕ, ℤ, nat_eq, List, ◌++◌, codes, Option, Some, None}
use Rattle.std.specs.List.{AllZip, slice_split, flat_map}
use Rattle.bp_value.specs.Form.{form_of}
use Rattle.bp_grammar.specs.Spells.{Spells}
use Rattle.bp_text_grammar.specs.Texts.{comma}
use Rattle.bp_text_grammar.specs.Printed.{decimal_text, quoted_text}
use Rattle.rpc_schema.specs.declared.desc.Listing.{Listing}
use Rattle.rpc_schema.specs.Choice.{menu_shape, menu_value, IsChoice}
use Rattle.rpc_schema.specs.SchemaLines.{SpellsVersion}
use Rattle.rpc_tool.specs.Lines.{line}
use Rattle.rpc_tool.specs.HexTexts.{IsHexText}
use Rattle.rpc_tool.specs.ValueCommands.{longest_shown}

-- ---- the word for versions

-- what stands before, between and after the commas spells these versions, one each
abbrev pub AreVersions : List ℤ → List ℕ → Type 0
AreVersions own word = AllZip SpellsVersion own (slice_split (λ b. nat_eq b comma) word)

-- ---- what is written

-- an entry
abbrev pub listing_line : Listing → List ℕ
listing_line l = line (quoted_text l.name ++ (codes " " ++ decimal_text l.version))

abbrev pub choice_text : Option ℤ → List ℕ
choice_text (Some version) = decimal_text version
choice_text None = codes "none"

-- the entries in the menu's order, and the version that is chosen
abbrev pub menu_text : List Listing → Option ℤ → List ℕ
menu_text ls choice = flat_map listing_line ls ++ line (codes "choice " ++ choice_text choice)

-- the input is hex of a spelling of a menu, and the choice is the greatest common version, or none
abbrev pub IsMenuShown : List ℕ → List ℤ → List ℕ → List ℕ → Type 0
IsMenuShown name own input text = (ls : List Listing) × (choice : Option ℤ) × (bytes : List ℕ) × IsHexText bytes input
    × Spells longest_shown (form_of menu_shape) (menu_value ls) bytes × IsChoice own ls name choice × (text ≡ menu_text ls choice)
