-- What is found in a schema, what is offered by it, and which version is chosen.
use Rattle.std.specs.Prelude.{◌≡◌, ℕ, ℤ, pos, ◌≤ℤ◌, Bool, true, false, List, [], ◌∷◌, map, filter, Option, Some, None, slice_get, ◌⊎◌}
use Rattle.std.specs.List.{Contains}
use Rattle.std.specs.List.Sorted.{IsPermutation, IsSorted}
use Rattle.bp_value.specs.declared.shape.Shape.{Shape}
use Rattle.bp_value.specs.declared.shape.Shape.TheVariants as shp
use Rattle.bp_value.specs.declared.value.Value.{Value}
use Rattle.bp_value.specs.declared.value.Value.TheVariants as val
use Rattle.rpc_schema.specs.declared.desc.Kind.TheVariants.{Plain}
use Rattle.rpc_schema.specs.declared.desc.Side.{Side}
use Rattle.rpc_schema.specs.declared.desc.Side.TheVariants.{Both, Caller, Callee}
use Rattle.rpc_schema.specs.declared.desc.RpcDesc.{RpcDesc}
use Rattle.rpc_schema.specs.declared.desc.Entry.{Entry}
use Rattle.rpc_schema.specs.declared.desc.Listing.{Listing}
use Rattle.rpc_schema.specs.Entries.{menu_name, listing_of, listing_cmp}

-- ---- finding

-- the entry is one of this name and version, and the end of this side has it
pub record IsSought (name : List ℕ) (version : ℤ) (side : Side) (e : Entry) : Type 0 where
  pub same_name : e.desc.name ≡ name
  pub same_version : e.desc.version ≡ version
  pub there : (e.side ≡ side) ⊎ (e.side ≡ Both)

-- such an entry stands at the place
abbrev pub StandsAt : List Entry → List ℕ → ℤ → Side → ℕ → Type 0
StandsAt es name version side place = (e : Entry) × (slice_get es place ≡ Some e) × IsSought name version side e

-- ---- menus

-- the end that answers has the entry
abbrev pub is_offered : Side → Bool
is_offered Both = true
is_offered Callee = true
is_offered Caller = false

-- the names and versions of those that are offered
abbrev pub offered : List Entry → List Listing
offered es = map listing_of (filter (λ e. is_offered e.side) es)

-- they are all in the menu, each once, in order
pub record IsMenuOf (es : List Entry) (listings : List Listing) : Type 0 where
  pub all : IsPermutation (offered es) listings
  pub sorted : IsSorted listing_cmp listings

-- `(string * int) list`
abbrev pub menu_shape : Shape
menu_shape = shp.List (shp.Tuple (shp.Text ∷ shp.Int ∷ []))

abbrev pub menu_description : RpcDesc
menu_description = record { name = menu_name; version = pos 1; kind = Plain; query = shp.Unit; first = menu_shape; item = shp.Unit; error = shp.Unit }

-- the value of some listings in the answer
abbrev pub listing_value : Listing → Value
listing_value l = val.Parts (val.Text l.name ∷ val.Num l.version ∷ [])

-- a value that is that of some listing
abbrev pub IsListing : Value → Type 0
IsListing v = (l : Listing) × (v ≡ listing_value l)

abbrev pub menu_value : List Listing → Value
menu_value ls = val.Items (map listing_value ls)

-- ---- choice

-- the version is one's own, and stands in the menu under the name
abbrev pub IsCommon : List ℤ → List Listing → List ℕ → ℤ → Type 0
IsCommon own listings name version = Contains own version × Contains listings (record { name = name; version = version })

pub record IsBest (own : List ℤ) (listings : List Listing) (name : List ℕ) (version : ℤ) : Type 0 where
  pub common : IsCommon own listings name version
  pub greatest : (other : ℤ) → IsCommon own listings name other → other ≤ℤ version

-- the greatest common version, or none
abbrev pub IsChoice : List ℤ → List Listing → List ℕ → Option ℤ → Type 0
IsChoice own listings name (Some version) = IsBest own listings name version
IsChoice own listings name None = (version : ℤ) → IsCommon own listings name version → ⊥

-- the choice so far is not below a version
abbrev pub IsAtLeast : Option ℤ → ℤ → Type 0
IsAtLeast (Some best) version = version ≤ℤ best
IsAtLeast None version = ⊥
