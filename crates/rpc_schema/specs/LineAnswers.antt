-- What the calls that take a part of a line give.
use Rattle.std.specs.Prelude.{◌≡◌, List, ℕ, Option, Some, None, Result, Ok, Err}
use Rattle.bp_text_grammar.specs.Scanning.{after_blanks}
use Rattle.rpc_schema.specs.declared.stop.Stop.{Stop}
use Rattle.rpc_schema.specs.declared.stop.Stop.TheVariants as stop
use Rattle.rpc_schema.specs.LineParts.{behind_word}

-- The part P is taken, from the bytes `old` on up to `new`; or the line is refused for N, where `new` begins.
abbrev pub TakesOne : {A : Type 0} → (A → List ℕ → List ℕ → Type 0) → (List ℕ → List ℕ → Type 0) → List ℕ → List ℕ → Result A Stop → Type 0
TakesOne P N old new (Ok a) = P a old new
TakesOne P N old new (Err stop.Refused) = N old new
TakesOne P N old new (Err stop.OutOfMemory) = Unit {0}

-- the word in front is taken, where it has a value; else the line is refused there
abbrev pub TakesWord : {A : Type 0} → Option A → List ℕ → List ℕ → Result A Stop → Type 0
TakesWord (Some a) old new result = (result ≡ Ok a) × (new ≡ behind_word old)
TakesWord None old new result = (result ≡ Err stop.Refused) × (new ≡ after_blanks old)
