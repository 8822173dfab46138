-- What an act makes of the parts of its query: whether it goes on, and whether it has begun.
use Rattle.std.proofs.Common.{◌≡◌, refl, Bool, true, false, not, List, [], ◌∷◌, ◌++◌, map}
use Rattle.std.specs.Prelude.{None}
use Rattle.rpc_schema.specs.declared.desc.Kind.{Kind}
use Rattle.rpc_schema.specs.declared.desc.Kind.TheVariants.{Plain, OneWay, Pipe, State}
use Rattle.rpc_schema.specs.declared.desc.RpcDesc.{RpcDesc}
use Rattle.rpc_talk.specs.Acts.{Act, Reply, Fail, Begin, Decline, Give, End, Stop, suits}
use Rattle.rpc_talk.specs.Legal.{ArePlain, AreLater, AreStream, AreLegal}
use Rattle.rpc_talk.specs.Parts.{CallParts, goes_on, later_parts, stream_parts, plain_parts, kind_parts}
use Rattle.rpc_meeting.specs.Steps.{wrong_time}
use Rattle.rpc_meeting.specs.Talks.{act_said, acts_parts, is_nil}

abbrev later_of : List Act → CallParts
later_of acts = later_parts (map act_said acts)

abbrev stream_of : List Act → CallParts
stream_of acts = stream_parts (map act_said acts)

-- ---- legal acts go on, or are over

-- one more act of a stream that has begun
later_legal : (acts : List Act) (act : Act) → AreLater acts → goes_on (later_of acts).mark ≡ true → AreLater (act ∷ []) → AreLater (acts ++ act ∷ [])
later_legal [] act legal going fits = fits
later_legal (Reply v ∷ acts) act legal going fits = absurd legal
later_legal (Fail text ∷ acts) act legal going fits = absurd cc
later_legal (Begin v ∷ acts) act legal going fits = absurd legal
later_legal (Decline v ∷ acts) act legal going fits = absurd legal
later_legal (Give v ∷ acts) act legal going fits = later_legal acts act legal going fits
later_legal (End ∷ acts) act legal going fits = absurd cc
later_legal (Stop ∷ acts) act legal going fits = absurd cc

-- the acts that a begun stream takes, and those that one takes that has not begun
abbrev pub is_begun_of : List Act → Bool
is_begun_of acts = not (is_nil (stream_of acts).parts)

late_act : (act : Act) → suits act Pipe ≡ true → wrong_time act true ≡ None → AreLater (act ∷ [])
late_act (Reply v) fits time = absurd cc
late_act (Fail text) fits time = refl
late_act (Begin v) fits time = absurd cc
late_act (Decline v) fits time = absurd cc
late_act (Give v) fits time = tt
late_act End fits time = refl
late_act Stop fits time = refl

early_act : (act : Act) → suits act Pipe ≡ true → wrong_time act false ≡ None → AreStream (act ∷ [])
early_act (Reply v) fits time = absurd cc
early_act (Fail text) fits time = refl
early_act (Begin v) fits time = tt
early_act (Decline v) fits time = refl
early_act (Give v) fits time = absurd cc
early_act End fits time = absurd cc
early_act Stop fits time = absurd cc

stream_legal : (acts : List Act) (act : Act) → AreStream acts → goes_on (stream_of acts).mark ≡ true → suits act Pipe ≡ true → wrong_time act (is_begun_of acts) ≡ None
    → AreStream (acts ++ act ∷ [])
stream_legal [] act legal going fits time = early_act act fits time
stream_legal (Begin v ∷ acts) act legal going fits time = later_legal acts act legal going (late_act act fits time)
stream_legal (Reply v ∷ acts) act legal going fits time = absurd legal
stream_legal (Fail text ∷ acts) act legal going fits time = absurd cc
stream_legal (Decline v ∷ acts) act legal going fits time = absurd cc
stream_legal (Give v ∷ acts) act legal going fits time = absurd legal
stream_legal (End ∷ acts) act legal going fits time = absurd legal
stream_legal (Stop ∷ acts) act legal going fits time = absurd legal

plain_act : (act : Act) → suits act Plain ≡ true → ArePlain (act ∷ [])
plain_act (Reply v) fits = refl
plain_act (Fail text) fits = refl
plain_act (Begin v) fits = absurd cc
plain_act (Decline v) fits = absurd cc
plain_act (Give v) fits = absurd cc
plain_act End fits = absurd cc
plain_act Stop fits = absurd cc

plain_legal : (acts : List Act) (act : Act) → ArePlain acts → goes_on (plain_parts (map act_said acts)).mark ≡ true → suits act Plain ≡ true → ArePlain (acts ++ act ∷ [])
plain_legal [] act legal going fits = plain_act act fits
plain_legal (Reply v ∷ acts) act legal going fits = absurd cc
plain_legal (Fail text ∷ acts) act legal going fits = absurd cc
plain_legal (Begin v ∷ acts) act legal going fits = absurd legal
plain_legal (Decline v ∷ acts) act legal going fits = absurd legal
plain_legal (Give v ∷ acts) act legal going fits = absurd legal
plain_legal (End ∷ acts) act legal going fits = absurd legal
plain_legal (Stop ∷ acts) act legal going fits = absurd legal

-- an act that comes at its time, by a handler of its kind, to a query that goes on, leaves its acts legal
abbrev pub has_begun : RpcDesc → List Act → Bool
has_begun d acts = not (is_nil (acts_parts d acts).parts)

legal_by : (kind : Kind) (acts : List Act) (act : Act) → AreLegal kind acts → goes_on (kind_parts kind (map act_said acts)).mark ≡ true → suits act kind ≡ true
    → wrong_time act (not (is_nil (kind_parts kind (map act_said acts)).parts)) ≡ None → AreLegal kind (acts ++ act ∷ [])
legal_by Plain acts act legal going fits time = plain_legal acts act legal going fits
legal_by OneWay acts act legal going fits time = absurd cc
legal_by Pipe acts act legal going fits time = stream_legal acts act legal going fits time
legal_by State acts act legal going fits time = stream_legal acts act legal going (suits_state act fits) time
  where
    suits_state : (act : Act) → suits act State ≡ true → suits act Pipe ≡ true
    suits_state (Reply v) fits = fits
    suits_state (Fail text) fits = fits
    suits_state (Begin v) fits = fits
    suits_state (Decline v) fits = fits
    suits_state (Give v) fits = fits
    suits_state End fits = fits
    suits_state Stop fits = fits

pub legal_more : (d : RpcDesc) (acts : List Act) (act : Act) → AreLegal d.kind acts → goes_on (acts_parts d acts).mark ≡ true → suits act d.kind ≡ true
    → wrong_time act (has_begun d acts) ≡ None → AreLegal d.kind (acts ++ act ∷ [])
legal_more d acts act legal going fits time = legal_by d.kind acts act legal going fits time
