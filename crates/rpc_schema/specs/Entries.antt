-- What every entry of a schema is, and in which order procedures stand.
use Rattle.std.specs.Prelude.{◌≡◌, ◌≢◌, ℕ, ◌<◌, ◌≤◌, ◌^◌, ℤ, pos, Bool, List, length, map, codes, IfSome}
use Rattle.std.specs.List.{All}
use Rattle.std.specs.Int.{is_in_range}
use Rattle.std.specs.Cmp.Lexicographic.{slice_cmp}
use Rattle.std.specs.declared.cmp.Ordering.{Ordering}
use Rattle.std.specs.Ordering.{nat_cmp, int_cmp, on, then_cmp}
use Rattle.readers.specs.Reader.{Each, Is}
use Rattle.bp_value.specs.declared.shape.Shape.{Shape}
use Rattle.bp_value.specs.declared.shape.Shape.TheVariants as shp
use Rattle.bp_value.specs.declared.value.Value.{Value}
use Rattle.bp_value.specs.Form.{Form, form_of}
use Rattle.bp_value.specs.Faults.{IsGood}
use Rattle.bp_value.specs.Fits.{Fits}
use Rattle.bp_value.specs.Names.{IsDistinct}
use Rattle.rpc_schema.specs.declared.desc.Kind.{Kind}
use Rattle.rpc_schema.specs.declared.desc.Kind.TheVariants.{Plain, OneWay, Pipe, State}
use Rattle.rpc_schema.specs.declared.desc.RpcDesc.{RpcDesc}
use Rattle.rpc_schema.specs.declared.desc.Behaviour.{Behaviour}
use Rattle.rpc_schema.specs.declared.desc.Behaviour.TheVariants as act
use Rattle.rpc_schema.specs.declared.desc.Entry.{Entry}
use Rattle.rpc_schema.specs.declared.desc.Listing.{Listing}

-- ---- names and versions

-- printable ASCII, but no blank
abbrev pub is_visible : ℕ → Bool
is_visible b = is_in_range 0x21 0x7E b

-- the procedure that every end answers by itself
abbrev pub menu_name : List ℕ
menu_name = codes "__Versioned_rpc.Menu"

abbrev pub longest_rpc_name : ℕ
longest_rpc_name = 255

pub record IsRpcName (name : List ℕ) : Type 0 where
  pub visible : Each (Is is_visible) name
  pub some : 1 ≤ length name
  pub short : length name ≤ longest_rpc_name
  pub other : name ≢ menu_name

-- versions have 62 bits
abbrev pub IsVersion : ℤ → Type 0
IsVersion v = (n : ℕ) × (v ≡ pos n) × (n < 2 ^ 62)

-- ---- a procedure

-- the shapes that a kind does not use are Unit: of those of its first answer, of its items and of its error
abbrev pub IsUsedBy : Kind → Shape → Shape → Shape → Type 0
IsUsedBy Plain first item error = (item ≡ shp.Unit) × (error ≡ shp.Unit)
IsUsedBy OneWay first item error = (first ≡ shp.Unit) × (item ≡ shp.Unit) × (error ≡ shp.Unit)
IsUsedBy Pipe first item error = first ≡ shp.Unit
IsUsedBy State first item error = Unit {0}

-- what every description of a line is
pub record IsDesc (d : RpcDesc) : Type 0 where
  pub name : IsRpcName d.name
  pub version : IsVersion d.version
  pub query : IsGood (form_of d.query)
  pub first : IsGood (form_of d.first)
  pub item : IsGood (form_of d.item)
  pub error : IsGood (form_of d.error)
  pub used : IsUsedBy d.kind d.first d.item d.error

-- a list of texts
abbrev pub text_list : Shape
text_list = shp.List shp.Text

-- a value of the form, however long its texts and lists are
abbrev pub IsAnyOf : Form → Value → Type 0
IsAnyOf f v = (m : ℕ) × Fits m f v

-- a behaviour suits a procedure, by its kind and its shapes
abbrev pub Suits : RpcDesc → Behaviour → Type 0
Suits d act.Echo = (d.kind ≡ Plain) × (d.first ≡ d.query)
Suits d (act.Const v) = (d.kind ≡ Plain) × IsAnyOf (form_of d.first) v
Suits d act.Notes = (d.kind ≡ Plain) × (d.query ≡ shp.Unit) × (d.first ≡ text_list)
Suits d act.Note = (d.kind ≡ OneWay) × (d.query ≡ shp.Text)
Suits d act.Each = (d.kind ≡ Pipe) × (d.query ≡ shp.List d.item)
Suits d act.Follow = (d.kind ≡ State) × (d.query ≡ shp.Unit) × (d.first ≡ text_list) × (d.item ≡ shp.Text)

-- ---- the entries of a schema

pub record IsEntry (e : Entry) : Type 0 where
  pub desc : IsDesc e.desc
  pub behaviour : IfSome e.behaviour (Suits e.desc)

-- the name and the version of an entry
abbrev pub listing_of : Entry → Listing
listing_of e = record { name = e.desc.name; version = e.desc.version }

-- no two have the same name and version
pub record AreEntries (es : List Entry) : Type 0 where
  pub each : All IsEntry es
  pub apart : IsDistinct (map listing_of es)

-- ---- order

-- by the bytes of the name, and then by the version
abbrev pub listing_cmp : Listing → Listing → Ordering
listing_cmp = then_cmp (on (λ l. l.name) (slice_cmp nat_cmp)) (on (λ l. l.version) int_cmp)
