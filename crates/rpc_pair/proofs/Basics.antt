-- Tests that hold together, listings and kinds, as other proofs use them.
use Rattle.std.proofs.Common.{◌≡◌, refl, ℕ, ℤ, Bool, true, false, ◌&&◌, ◌||◌, List}
use Rattle.rpc_schema.specs.declared.desc.Kind.{Kind}
use Rattle.rpc_schema.specs.declared.desc.Kind.TheVariants.{Plain, OneWay, Pipe, State}
use Rattle.rpc_schema.specs.declared.desc.Listing.{Listing}
use Rattle.rpc_talk.specs.Parts.{is_stream, is_tracked}

-- two tests that hold together hold each
pub both_true : (a b : Bool) → (a && b) ≡ true → (a ≡ true) × (b ≡ true)
both_true true true e = (refl, refl)
both_true true false e = absurd cc
both_true false b e = absurd cc

-- three tests that hold each hold together
pub three_true : (x y z : Bool) → x ≡ true → y ≡ true → z ≡ true → (x && y && z) ≡ true
three_true true true true e f g = refl
three_true true true false e f g = absurd cc
three_true true false z e f g = absurd cc
three_true false y z e f g = absurd cc

-- a test that fails makes both fail
pub and_false : (b : Bool) → (b && false) ≡ false
and_false true = refl
and_false false = refl

-- a test that holds makes one of both hold
pub or_true : (b : Bool) → (b || true) ≡ true
or_true true = refl
or_true false = refl

-- an answer to a stream is waited for
pub stream_tracked : (kind : Kind) → is_stream kind ≡ true → is_tracked kind ≡ true
stream_tracked Plain e = absurd cc
stream_tracked OneWay e = absurd cc
stream_tracked Pipe e = refl
stream_tracked State e = refl

-- a name and a version
abbrev pub listing_made : List ℕ → ℤ → Listing
listing_made name version = record { name = name; version = version }
