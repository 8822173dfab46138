-- Answers that are welcome one after the other, and acts that are.
use Rattle.std.proofs.Common.{◌≡◌, refl, sym, ap, ◌∙◌, ℕ, Bool, true, false, not, ◌&&◌, List, [], ◌∷◌, ◌++◌, append_assoc}
use Rattle.std.specs.Prelude.{None}
use Rattle.std.proofs.lemmas.List.{append-nil}
use Rattle.rpc_msg.specs.declared.message.Answer.{Answer}
use Rattle.rpc_msg.specs.declared.shared.Part.{Part}
use Rattle.rpc_schema.specs.declared.desc.Kind.{Kind}
use Rattle.rpc_schema.specs.declared.desc.Kind.TheVariants.{Plain, OneWay, Pipe, State}
use Rattle.rpc_schema.specs.declared.desc.RpcDesc.{RpcDesc}
use Rattle.rpc_talk.specs.Acts.{Act, Reply, Fail, Begin, Decline, Give, End, Stop, says, suits}
use Rattle.rpc_talk.specs.Growing.{with_more, stream_adds, adds}
use Rattle.rpc_talk.specs.Parts.{CallParts, goes_on, is_broken, is_stream, later_parts, stream_parts, kind_parts, parts_of}
use Rattle.rpc_talk.specs.Said.{Said, Reply, Begun, Declined, Item, Eof, Unreadable, Failed, said_behind, says_in}
use Rattle.rpc_talk.specs.Said as said
use Rattle.rpc_talk.specs.Welcome.{is_welcome_by, is_welcome_answer}
use Rattle.rpc_talk.proofs.OneMore.{parts_on, parts_over}
use Rattle.rpc_meeting.specs.Steps.{wrong_time}
use Rattle.rpc_meeting.specs.Talks.{act_said, is_nil}
use Rattle.rpc_meeting.proofs.Calls.{AreWelcome, IsClear, AreClear, has_begun}

-- ---- one after the other

pub welcome_push : (m : ℕ) (d : RpcDesc) (before answers : List Answer) (a : Answer) → AreWelcome m d before answers → is_welcome_answer m d (before ++ answers) a ≡ true
    → AreWelcome m d before (answers ++ a ∷ [])
welcome_push m d before [] a are is = (ap (λ xs. is_welcome_answer m d xs a) (sym (append-nil before)) ∙ is, tt)
welcome_push m d before (b ∷ answers) a (first, later) is =
    (first, welcome_push m d (before ++ b ∷ []) answers a later (ap (λ xs. is_welcome_answer m d xs a) (append_assoc before (b ∷ []) answers) ∙ is))

pub welcome_at : (m : ℕ) (d : RpcDesc) (before answers later : List Answer) (a : Answer) → AreWelcome m d before (answers ++ a ∷ later) → is_welcome_answer m d (before ++ answers) a ≡ true
welcome_at m d before [] later a (first, rest) = ap (λ xs. is_welcome_answer m d xs a) (append-nil before) ∙ first
welcome_at m d before (b ∷ answers) later a (first, rest) =
    ap (λ xs. is_welcome_answer m d xs a) (sym (append_assoc before (b ∷ []) answers)) ∙ welcome_at m d (before ++ b ∷ []) answers later a rest

pub clear_push : (says : List Said) (s : Said) → AreClear says → IsClear s → AreClear (says ++ s ∷ [])
clear_push [] s are is = (is, tt)
clear_push (x ∷ says) s (first, later) is = (first, clear_push says s later is)

pub clear_front : (says later : List Said) → AreClear (says ++ later) → AreClear says
clear_front [] later are = tt
clear_front (x ∷ says) later (first, rest) = (first, clear_front says later rest)

pub act_clear : (act : Act) → IsClear (act_said act)
act_clear (Reply v) = tt
act_clear (Fail text) = tt
act_clear (Begin v) = tt
act_clear (Decline v) = tt
act_clear (Give v) = tt
act_clear End = tt
act_clear Stop = tt

-- ---- a beginning stays

abbrev grown : CallParts → Bool
grown p = not (is_nil p.parts)

joined_grown : (p q : CallParts) → grown p ≡ true → grown (with_more p q) ≡ true
joined_grown p q e = by p.parts e
  where
    by : (ps : List Part) → not (is_nil ps) ≡ true → not (is_nil (ps ++ q.parts)) ≡ true
    by [] e = absurd cc
    by (x ∷ ps) e = refl

pub begun_more : (m : ℕ) (d : RpcDesc) (before : List Answer) (a : Answer) → has_begun m d before ≡ true → has_begun m d (before ++ a ∷ []) ≡ true
begun_more m d before a begun = by (goes_on (parts_of m d before).mark) refl
  where
    by : (b : Bool) → goes_on (parts_of m d before).mark ≡ b → has_begun m d (before ++ a ∷ []) ≡ true
    by true going = ap grown (parts_on m d before a going) ∙ joined_grown (parts_of m d before) (adds d.kind before (said_behind m d before a)) begun
    by false over = ap grown (parts_over m d before a over) ∙ begun

pub begun_on : (m : ℕ) (d : RpcDesc) (before later : List Answer) → has_begun m d before ≡ true → has_begun m d (before ++ later) ≡ true
begun_on m d before [] begun = ap (has_begun m d) (append-nil before) ∙ begun
begun_on m d before (a ∷ later) begun =
    ap (has_begun m d) (sym (append_assoc before (a ∷ []) later)) ∙ begun_on m d (before ++ a ∷ []) later (begun_more m d before a begun)

-- an ending stays
pub over_on : (m : ℕ) (d : RpcDesc) (before later : List Answer) → goes_on (parts_of m d before).mark ≡ false → parts_of m d (before ++ later) ≡ parts_of m d before
over_on m d before [] over = ap (parts_of m d) (append-nil before)
over_on m d before (a ∷ later) over =
    let one = parts_over m d before a over in
    ap (parts_of m d) (sym (append_assoc before (a ∷ []) later))
    ∙ (over_on m d (before ++ a ∷ []) later (ap (λ p. goes_on p.mark) one ∙ over) ∙ one)

-- what goes on, went on before
pub went_on : (m : ℕ) (d : RpcDesc) (before later : List Answer) → goes_on (parts_of m d (before ++ later)).mark ≡ true → goes_on (parts_of m d before).mark ≡ true
went_on m d before later going = by (goes_on (parts_of m d before).mark) refl
  where
    by : (b : Bool) → goes_on (parts_of m d before).mark ≡ b → goes_on (parts_of m d before).mark ≡ true
    by true e = e
    by false e = absurd (let line : false ≡ true = sym e ∙ (ap (λ p. goes_on p.mark) (sym (over_on m d before later e)) ∙ going) in cc)

-- ---- acts

-- a stream that goes on and was answered has begun
first_begun : (s : Said) (says : List Said) → goes_on (stream_parts (s ∷ says)).mark ≡ true → grown (stream_parts (s ∷ says)) ≡ true
first_begun (said.Reply v) says going = absurd cc
first_begun (Begun v) says going = refl
first_begun (Declined v) says going = absurd cc
first_begun (Item v) says going = absurd cc
first_begun Eof says going = absurd cc
first_begun (Unreadable why) says going = absurd cc
first_begun (Failed e) says going = absurd cc

early : (act : Act) → suits act Pipe ≡ true → wrong_time act false ≡ None → is_broken (stream_parts (act_said act ∷ [])).mark ≡ false
early (Reply v) fits time = absurd cc
early (Fail text) fits time = refl
early (Begin v) fits time = refl
early (Decline v) fits time = refl
early (Give v) fits time = absurd cc
early End fits time = absurd cc
early Stop fits time = absurd cc

late : (act : Act) → suits act Pipe ≡ true → wrong_time act true ≡ None → is_broken (later_parts (act_said act ∷ [])).mark ≡ false
late (Reply v) fits time = absurd cc
late (Fail text) fits time = refl
late (Begin v) fits time = absurd cc
late (Decline v) fits time = absurd cc
late (Give v) fits time = refl
late End fits time = refl
late Stop fits time = refl

stream_adds_right : (m : ℕ) (d : RpcDesc) (answers : List Answer) (act : Act) → goes_on (stream_parts (says_in m d answers)).mark ≡ true
    → suits act Pipe ≡ true → wrong_time act (grown (stream_parts (says_in m d answers))) ≡ None → is_broken (stream_adds answers (act_said act)).mark ≡ false
stream_adds_right m d [] act going fits time = early act fits time
stream_adds_right m d (b ∷ answers) act going fits time =
    late act fits (ap (wrong_time act) (sym (first_begun (said_behind m d [] b) _ going)) ∙ time)

suits_pipe : (act : Act) → suits act State ≡ true → suits act Pipe ≡ true
suits_pipe (Reply v) fits = fits
suits_pipe (Fail text) fits = fits
suits_pipe (Begin v) fits = fits
suits_pipe (Decline v) fits = fits
suits_pipe (Give v) fits = fits
suits_pipe End fits = fits
suits_pipe Stop fits = fits

no_one_way : (act : Act) → suits act OneWay ≡ true → ⊥
no_one_way (Reply v) fits = cc
no_one_way (Fail text) fits = cc
no_one_way (Begin v) fits = cc
no_one_way (Decline v) fits = cc
no_one_way (Give v) fits = cc
no_one_way End fits = cc
no_one_way Stop fits = cc

both_true : (a b : Bool) → a ≡ true → b ≡ false → (a && not b) ≡ true
both_true a b e f = ap (λ x. x && not b) e ∙ ap not f

-- an act that comes at its time to a query that goes on, and is read as what it says, is welcome
module _ (m : ℕ) (d : RpcDesc) (answers : List Answer) (a : Answer) (act : Act) (going : goes_on (parts_of m d answers).mark ≡ true)
    (read : said_behind m d answers a ≡ act_said act) where
  adds_right : (kind : Kind) → d.kind ≡ kind → is_stream kind ≡ true → suits act kind ≡ true → wrong_time act (has_begun m d answers) ≡ None
      → is_broken (adds kind answers (act_said act)).mark ≡ false
  adds_right Plain e stream fits time = absurd cc
  adds_right OneWay e stream fits time = absurd cc
  adds_right Pipe e stream fits time =
      stream_adds_right m d answers act (ap (λ k. goes_on (kind_parts k (says_in m d answers)).mark) (sym e) ∙ going) fits
      (ap (λ k. wrong_time act (grown (kind_parts k (says_in m d answers)))) (sym e) ∙ time)
  adds_right State e stream fits time =
      stream_adds_right m d answers act (ap (λ k. goes_on (kind_parts k (says_in m d answers)).mark) (sym e) ∙ going) (suits_pipe act fits)
      (ap (λ k. wrong_time act (grown (kind_parts k (says_in m d answers)))) (sym e) ∙ time)

  parts_after : parts_of m d (answers ++ a ∷ []) ≡ with_more (parts_of m d answers) (adds d.kind answers (act_said act))
  parts_after = parts_on m d answers a going ∙ ap (λ s. with_more (parts_of m d answers) (adds d.kind answers s)) read

  not_broken : is_stream d.kind ≡ true → suits act d.kind ≡ true → wrong_time act (has_begun m d answers) ≡ None → is_broken (parts_of m d (answers ++ a ∷ [])).mark ≡ false
  not_broken stream fits time = ap (λ p. is_broken p.mark) parts_after ∙ adds_right d.kind refl stream fits time

  pub act_welcome : suits act d.kind ≡ true → wrong_time act (has_begun m d answers) ≡ None → is_welcome_answer m d answers a ≡ true
  act_welcome fits time = by d.kind refl
    where
      by : (kind : Kind) → d.kind ≡ kind → is_welcome_by kind m d answers a ≡ true
      by Plain e = going
      by OneWay e = absurd (no_one_way act (ap (suits act) (sym e) ∙ fits))
      by Pipe e = both_true (goes_on (parts_of m d answers).mark) (is_broken (parts_of m d (answers ++ a ∷ [])).mark) going (not_broken (ap is_stream e) fits time)
      by State e = both_true (goes_on (parts_of m d answers).mark) (is_broken (parts_of m d (answers ++ a ∷ [])).mark) going (not_broken (ap is_stream e) fits time)
