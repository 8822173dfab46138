-- What bodies are to a log: the first opens it, and each other is a message of it.
use Rattle.std.specs.Prelude.{◌≡◌, ℕ, true, List, [], ◌∷◌, map, Some}
use Rattle.rpc_msg.specs.declared.message.Message.{Message}
use Rattle.rpc_log.specs.Logs.{opens}
use Rattle.rpc_log.specs.Readings.{message_in}

-- each body reads as the message at its place
abbrev pub AreReadAs : ℕ → List (List ℕ) → List Message → Type 0
AreReadAs m bodies log = map (message_in m) bodies ≡ map Some log

abbrev pub AreOpened : ℕ → List (List ℕ) → List Message → Type 0
AreOpened m [] log = log ≡ []
AreOpened m (head ∷ bodies) log = (opens m head ≡ true) × AreReadAs m bodies log
