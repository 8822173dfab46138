-- What the words of `menu` ask for.
use Rattle.std.specs.Prelude.{◌≡◌, ℕ, ℤ, List}
use Rattle.rpc_tool.specs.MenuCommands.{AreVersions}
use Rattle.rpc_tool.specs.declared.versions.Wanted.{Wanted}

-- the word is of no versions
abbrev pub IsNoVersions : List ℕ → Type 0
IsNoVersions word = (own : List ℤ) → AreVersions own word → ⊥

-- a name, and the versions of a word
abbrev pub IsWantedBy : Wanted → List ℕ → List ℕ → Type 0
IsWantedBy wanted name word = (wanted.name ≡ name) × AreVersions wanted.own word
