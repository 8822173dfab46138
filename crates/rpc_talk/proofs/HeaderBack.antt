-- The header that offers version 1 alone opens a stream.
use Rattle.std.proofs.Common.{◌≡◌, refl, ap, ℕ, ◌≤◌, pos, true, [], ◌∷◌, inl, lit<}
use Rattle.bp_value.specs.declared.value.Value.TheVariants as val
use Rattle.bp_grammar.specs.Spells.{Spells}
use Rattle.rpc_msg.specs.declared.message.Header.{Header}
use Rattle.rpc_msg.specs.Forms.{header_form}
use Rattle.rpc_msg.specs.Values.{header_value}
use Rattle.rpc_log.specs.Logs.{is_opening, opens}
use Rattle.rpc_log.proofs.Told.{spelled_header}

abbrev first_version : Header
first_version = record { versions = pos 1 ∷ [] }

version_spelled : (m : ℕ) → 1 ≤ m → Spells m header_form (header_value first_version) (1 ∷ 1 ∷ [])
unfolding Spells
version_spelled m le = (
  val.Num (pos 1) ∷ [],
  refl,
  (
    1,
    1 ∷ [],
    1 ∷ [],
    refl,
    inl (lit< tt, le, refl),
    (val.Num (pos 1), 1 ∷ [], [], refl, (pos 1, refl, (lit< tt, inl (1, lit< tt, refl, refl))), ([], refl, (refl, refl))),
  ),
)

pub version_opens : (m : ℕ) → 1 ≤ m → opens m (1 ∷ 1 ∷ []) ≡ true
version_opens m le = ap is_opening (spelled_header m (1 ∷ 1 ∷ []) first_version (version_spelled m le))
