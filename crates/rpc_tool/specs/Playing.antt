-- A replay behind some of its events.
use Rattle.std.specs.Prelude.{◌≡◌, ℕ, List, map, Option}
use Rattle.std.specs.List.{flat_map}
use Rattle.rpc_msg.specs.Limits.{usual_limits}
use Rattle.rpc_schedule.specs.declared.event.Lined.{Lined}
use Rattle.rpc_schema.specs.declared.desc.Entry.{Entry}
use Rattle.rpc_meeting.specs.Talks.{Common}
use Rattle.rpc_meeting.specs.Worlds.{World, first_world}
use Rattle.rpc_pair.specs.Pairs.{PairState}
use Rattle.rpc_pair.specs.Played.{IsPlayed, Turn}
use Rattle.rpc_pair.specs.Rules.{IsOfSchema}
use Rattle.rpc_pair.specs.Wires.{StandsOver}
use Rattle.rpc_tool.specs.Replayed.{AreScenes, Scene, told_scene, told_turn}
use Rattle.rpc_tool.specs.Reports.{Told, told_text}

abbrev pub told_texts : List Told → List ℕ
told_texts tolds = flat_map told_text tolds

-- both ends played these events over any wires, and this was written of them
pub record PlayedSo (entries : List Entry) (done : List Lined) (text : List ℕ) (p : PairState) (up_sent up_given down_sent down_given : Option (List ℕ)) : Type 0 where
  pub turns : List Turn
  pub played : IsPlayed entries usual_limits done turns p up_sent up_given down_sent down_given
  pub texts : text ≡ told_texts (map told_turn turns)

abbrev pub PlayedOver : {W : Type 0} → (W → Option (List ℕ)) → (W → Option (List ℕ)) → List Entry → List Lined → List ℕ → PairState → W → W → Type 0
PlayedOver sent given entries done text p up down = PlayedSo entries done text p (sent up) (given up) (sent down) (given down)

-- over honest wires the pair stands for the world that these events lead to, and this was written of that
pub record SteppedOver {W : Type 0} (sent given : W → Option (List ℕ)) (entries : List Entry) (done : List Lined) (text : List ℕ) (p : PairState) (up down : W) : Type 0 where
  pub rules : Common
  pub entries_are : rules.entries ≡ entries
  pub limits_are : rules.limits ≡ usual_limits
  pub schema : IsOfSchema rules
  pub scenes : List Scene
  pub world : World
  pub all : map (λ (s : Scene). s.lined) scenes ≡ done
  pub run : AreScenes rules first_world scenes world
  pub stands : StandsOver sent given rules world p up down
  pub texts : text ≡ told_texts (map (told_scene rules) scenes)
