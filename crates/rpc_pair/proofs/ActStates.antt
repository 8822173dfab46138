-- How a query stands behind an act that is done at its time: over, or a stream that has begun; and no abort stopped it before.
use Rattle.std.proofs.Common.{◌≡◌, refl, sym, ◌∙◌, true, false, not, List, [], ◌∷◌, ◌++◌, map}
use Rattle.std.specs.Prelude.{None}
use Rattle.std.specs.List.{list_any}
use Rattle.rpc_schema.specs.declared.desc.Kind.{Kind}
use Rattle.rpc_schema.specs.declared.desc.Kind.TheVariants.{Plain, OneWay, Pipe, State}
use Rattle.rpc_talk.specs.Acts.{Act, Reply, Fail, Begin, Decline, Give, End, Stop, finishes, suits}
use Rattle.rpc_talk.specs.Legal.{AreLegal, ArePlain, AreLater, AreStream}
use Rattle.rpc_talk.specs.Parts.{CallParts, goes_on, kind_parts, later_parts}
use Rattle.rpc_meeting.specs.Steps.{wrong_time}
use Rattle.rpc_meeting.specs.Talks.{act_said, is_nil, is_stop}

abbrev parts_by : Kind → List Act → CallParts
parts_by kind acts = kind_parts kind (map act_said acts)

-- behind these acts and one more: whether the query goes on, has begun, and was stopped by none of the acts before
pub record IsBehind (kind : Kind) (acts : List Act) (act : Act) : Type 0 where
  pub going : goes_on (parts_by kind (acts ++ act ∷ [])).mark ≡ not (finishes act)
  pub begun : finishes act ≡ false → not (is_nil (parts_by kind (acts ++ act ∷ [])).parts) ≡ true
  pub unstopped : list_any is_stop acts ≡ false

-- ---- a plain procedure

plain_first : (act : Act) → suits act Plain ≡ true → IsBehind Plain [] act
plain_first (Reply v) fits = record { going = refl; begun = λ e. absurd cc; unstopped = refl }
plain_first (Fail text) fits = record { going = refl; begun = λ e. absurd cc; unstopped = refl }
plain_first (Begin v) fits = absurd cc
plain_first (Decline v) fits = absurd cc
plain_first (Give v) fits = absurd cc
plain_first End fits = absurd cc
plain_first Stop fits = absurd cc

plain_behind : (acts : List Act) (act : Act) → ArePlain acts → goes_on (parts_by Plain acts).mark ≡ true → suits act Plain ≡ true → IsBehind Plain acts act
plain_behind [] act legal going fits = plain_first act fits
plain_behind (Reply v ∷ acts) act legal going fits = absurd cc
plain_behind (Fail text ∷ acts) act legal going fits = absurd cc
plain_behind (Begin v ∷ acts) act legal going fits = absurd legal
plain_behind (Decline v ∷ acts) act legal going fits = absurd legal
plain_behind (Give v ∷ acts) act legal going fits = absurd legal
plain_behind (End ∷ acts) act legal going fits = absurd legal
plain_behind (Stop ∷ acts) act legal going fits = absurd legal

-- ---- a stream

abbrev IsLaterBehind : List Act → Act → Type 0
IsLaterBehind acts act = (goes_on (later_parts (map act_said (acts ++ act ∷ []))).mark ≡ not (finishes act)) × (list_any is_stop acts ≡ false)

later_next : (act : Act) → suits act Pipe ≡ true → wrong_time act true ≡ None → IsLaterBehind [] act
later_next (Reply v) fits time = absurd cc
later_next (Fail text) fits time = (refl, refl)
later_next (Begin v) fits time = absurd cc
later_next (Decline v) fits time = absurd cc
later_next (Give v) fits time = (refl, refl)
later_next End fits time = (refl, refl)
later_next Stop fits time = (refl, refl)

later_behind : (acts : List Act) (act : Act) → AreLater acts → goes_on (later_parts (map act_said acts)).mark ≡ true → suits act Pipe ≡ true → wrong_time act true ≡ None
    → IsLaterBehind acts act
later_behind [] act legal going fits time = later_next act fits time
later_behind (Give v ∷ acts) act legal going fits time = later_behind acts act legal going fits time
later_behind (Reply v ∷ acts) act legal going fits time = absurd legal
later_behind (Fail text ∷ acts) act legal going fits time = absurd cc
later_behind (Begin v ∷ acts) act legal going fits time = absurd legal
later_behind (Decline v ∷ acts) act legal going fits time = absurd legal
later_behind (End ∷ acts) act legal going fits time = absurd cc
later_behind (Stop ∷ acts) act legal going fits time = absurd cc

stream_first : (act : Act) → suits act Pipe ≡ true → wrong_time act false ≡ None → IsBehind Pipe [] act
stream_first (Reply v) fits time = absurd cc
stream_first (Fail text) fits time = record { going = refl; begun = λ e. absurd cc; unstopped = refl }
stream_first (Begin v) fits time = record { going = refl; begun = λ e. refl; unstopped = refl }
stream_first (Decline v) fits time = record { going = refl; begun = λ e. absurd cc; unstopped = refl }
stream_first (Give v) fits time = absurd cc
stream_first End fits time = absurd cc
stream_first Stop fits time = absurd cc

stream_behind : (acts : List Act) (act : Act) → AreStream acts → goes_on (parts_by Pipe acts).mark ≡ true → suits act Pipe ≡ true
    → wrong_time act (not (is_nil (parts_by Pipe acts).parts)) ≡ None → IsBehind Pipe acts act
stream_behind [] act legal going fits time = stream_first act fits time
stream_behind (Begin v ∷ acts) act legal going fits time =
    let (goes, unstopped) = later_behind acts act legal going fits time in
    record { going = goes; begun = λ e. refl; unstopped = unstopped }
stream_behind (Reply v ∷ acts) act legal going fits time = absurd legal
stream_behind (Fail text ∷ acts) act legal going fits time = absurd cc
stream_behind (Decline v ∷ acts) act legal going fits time = absurd cc
stream_behind (Give v ∷ acts) act legal going fits time = absurd legal
stream_behind (End ∷ acts) act legal going fits time = absurd legal
stream_behind (Stop ∷ acts) act legal going fits time = absurd legal

-- ---- any

suits_state : (act : Act) → suits act State ≡ suits act Pipe
suits_state (Reply v) = refl
suits_state (Fail text) = refl
suits_state (Begin v) = refl
suits_state (Decline v) = refl
suits_state (Give v) = refl
suits_state End = refl
suits_state Stop = refl

state_behind : (acts : List Act) (act : Act) → IsBehind Pipe acts act → IsBehind State acts act
state_behind acts act b = record { going = b.going; begun = b.begun; unstopped = b.unstopped }

-- by legal acts that leave it going on, and one more of its kind and at its time
pub act_behind : (kind : Kind) (acts : List Act) (act : Act) → AreLegal kind acts → goes_on (parts_by kind acts).mark ≡ true → suits act kind ≡ true
    → wrong_time act (not (is_nil (parts_by kind acts).parts)) ≡ None → IsBehind kind acts act
act_behind Plain acts act legal going fits time = plain_behind acts act legal going fits
act_behind OneWay acts act legal going fits time = absurd cc
act_behind Pipe acts act legal going fits time = stream_behind acts act legal going fits time
act_behind State acts act legal going fits time = state_behind acts act (stream_behind acts act legal going (sym (suits_state act) ∙ fits) time)
