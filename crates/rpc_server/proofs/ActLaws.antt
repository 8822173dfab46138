-- What an act answers and leaves, by the steps that it takes.
use Rattle.std.proofs.Common.{◌≡◌, refl, sym, ap, ◌∙◌, subst, ℕ, ◌+◌, ◌<◌, ◌≤◌, ℤ, Bool, true, false, cond, List, [], ◌∷◌, ◌++◌, length, length-append, arith}
use Rattle.std.specs.Prelude.{Option, Some, None, Result, Ok, Err, slice_get, nat_le, MatchOption}
use Rattle.std.specs.Option.{is_some}
use Rattle.bp_num.specs.Forms.{written_nat, written_int}
use Rattle.bp_grammar.specs.Written.{written, written_bytes}
use Rattle.bp_value.specs.Fits.{Fits}
use Rattle.bp_value.specs.Form.{form_of}
use Rattle.bp_value.specs.declared.value.Value.{Value}
use Rattle.rpc_end.specs.Ends.{EndState, is_closed, said}
use Rattle.rpc_msg.specs.declared.message.Answer.{Answer}
use Rattle.rpc_msg.specs.declared.message.Answer.TheVariants as answer
use Rattle.rpc_msg.specs.declared.message.Response.{Response}
use Rattle.rpc_msg.specs.Forms.{message_form, response_form, answer_form}
use Rattle.rpc_msg.specs.Values.{message_value, response_value, answer_value}
use Rattle.rpc_msg.proofs.Bytes.{bytes_response, bytes_of_response, bytes_ok}
use Rattle.rpc_schema.specs.declared.desc.Entry.{Entry}
use Rattle.rpc_schema.specs.declared.desc.RpcDesc.{RpcDesc}
use Rattle.rpc_talk.specs.Acts.{Act, Reply, Fail, Begin, Decline, Give, End, Stop, suits, finishes, answer_by, response, is_short, body_of}
use Rattle.rpc_server.specs.Acting.{begun_refusal, kind_refusal, standing_refusal, act_refusal, place_at, FitsAct, stands_behind, answer_to, HasActed, RespondsTo, IsActRefused, ActsBy, IsActed}
use Rattle.rpc_server.specs.Doing.{Sends, IsPlaceOf, AnswersAt, Admits}
use Rattle.rpc_server.specs.Rules.{Rules}
use Rattle.rpc_server.specs.Servers.{ServerState, IsServer, IsStanding}
use Rattle.rpc_server.specs.Steps.{told_act, step_of, step_refusal, step_kind_refusal, step_standing_refusal, IsAdmitted, telling_after, shape_for, data_for, MakesData}
use Rattle.rpc_server.specs.Tables.{place_in_schema, standing, unfinished, open_count, IsPut}
use Rattle.rpc_server.specs.declared.error.ActError.{ActError}
use Rattle.rpc_server.specs.declared.error.ActError.TheVariants as refused
use Rattle.rpc_server.specs.declared.steps.Step.{Step}
use Rattle.rpc_server.specs.declared.steps.Step.TheVariants as step
use Rattle.rpc_server.specs.declared.steps.Telling.{Telling}
use Rattle.rpc_server.specs.declared.steps.Telling.TheVariants as telling
use Rattle.rpc_server.specs.declared.table.Standing.{Standing}
use Rattle.rpc_server.specs.declared.table.Standing.TheVariants.{Nowhere, Open, Stopped}
use Rattle.rpc_server.specs.declared.table.Tracked.{Tracked}
use Rattle.rpc_server.proofs.Serving.{server_put, same_server, same_state, after_good}
use borrow.Author.Tests.{leb-true}

some_none : {A : Type 0} (a : A) → Some a ≡ None → ⊥
some_none a e = cc

none_some : {A : Type 0} (a : A) → None ≡ Some a → ⊥
none_some a e = cc

some_is : {A : Type 0} (a b : A) → Some a ≡ Some b → a ≡ b
some_is a b e = cc

-- ---- acts and their steps

entry_same : (what : Act) (begun : Bool) (e : Entry) → kind_refusal what begun (Some e) ≡ step_kind_refusal (step_of what) begun (Some e)
entry_same (Reply v) begun e = refl
entry_same (Fail text) begun e = refl
entry_same (Begin v) begun e = refl
entry_same (Decline v) begun e = refl
entry_same (Give v) begun e = refl
entry_same End begun e = refl
entry_same Stop begun e = refl

kind_same : (what : Act) (begun : Bool) (o : Option Entry) → kind_refusal what begun o ≡ step_kind_refusal (step_of what) begun o
kind_same what begun None = refl
kind_same what begun (Some e) = entry_same what begun e

step_same : (r : Rules) (what : Act) (s : Standing) → standing_refusal r what s ≡ step_standing_refusal r (step_of what) s
step_same r what Nowhere = refl
step_same r what Stopped = refl
step_same r what (Open place begun) = kind_same what begun (slice_get r.entries place)

pub step_told : (t : Telling) (v : Value) → step_of (told_act t v) ≡ step.Tells t
step_told telling.Reply v = refl
step_told telling.Begin v = refl
step_told telling.Decline v = refl
step_told telling.Item v = refl

-- ---- admission

pub closed_refused : (s : ServerState) (id : ℤ) (what : Act) → is_closed s.link ≡ true → act_refusal s id what ≡ Some refused.Closed
closed_refused s id what is = ap (λ t. cond t (Some refused.Closed) (standing_refusal s.rules what (standing s.table id))) is

pub going_refused : (s : ServerState) (id : ℤ) (what : Act) → is_closed s.link ≡ false
    → act_refusal s id what ≡ step_standing_refusal s.rules (step_of what) (standing s.table id)
going_refused s id what is =
    ap (λ t. cond t (Some refused.Closed) (standing_refusal s.rules what (standing s.table id))) is ∙ step_same s.rules what (standing s.table id)

pub admitted : (s : ServerState) (id : ℤ) (what : Act) (by : Step) (at : Standing) (result : Result ℕ ActError) → step_of what ≡ by
    → is_closed s.link ≡ false → at ≡ standing s.table id → IsAdmitted (step_standing_refusal s.rules by at) at result → Admits s id what result
admitted s id what by at (Ok place) steps going here (none, there) = record {
  at = ap place_in_schema (sym here) ∙ there;
  free = going_refused s id what going ∙ (ap (λ x. step_standing_refusal s.rules x (standing s.table id)) steps
      ∙ (ap (step_standing_refusal s.rules by) (sym here) ∙ none));
}
admitted s id what by at (Err why) steps going here some =
    going_refused s id what going ∙ (ap (λ x. step_standing_refusal s.rules x (standing s.table id)) steps
    ∙ (ap (step_standing_refusal s.rules by) (sym here) ∙ some))

-- ---- the entry that is called

-- an act that is not refused is done with a query to an entry, which it suits
pub record IsCalled (s : ServerState) (id : ℤ) (place : ℕ) (what : Act) : Type 0 where
  pub entry : Entry
  pub there : slice_get s.rules.entries place ≡ Some entry
  pub fit : suits what entry.desc.kind ≡ true

pub called : (s : ServerState) (id : ℤ) (place : ℕ) (what : Act) → IsPlaceOf s id place what → IsCalled s id place what
called s id place what is = by (is_closed s.link) (standing s.table id) is.at is.free
  where
    entry : (begun : Bool) (o : Option Entry) → slice_get s.rules.entries place ≡ o → kind_refusal what begun o ≡ None → IsCalled s id place what
    entry begun None there none = absurd (some_none refused.NoSuch none)
    entry begun (Some e) there none = fits (suits what e.desc.kind) refl none
      where
        fits : (t : Bool) → suits what e.desc.kind ≡ t → cond t (begun_refusal what begun) (Some refused.WrongKind) ≡ None → IsCalled s id place what
        fits true fit none = record { entry = e; there = there; fit = fit }
        fits false fit none = absurd (some_none refused.WrongKind none)

    by : (closed : Bool) (at : Standing) → place_in_schema at ≡ Some place → cond closed (Some refused.Closed) (standing_refusal s.rules what at) ≡ None
        → IsCalled s id place what
    by true at here none = absurd (some_none refused.Closed none)
    by false Nowhere here none = absurd (none_some place here)
    by false Stopped here none = absurd (none_some place here)
    by false (Open k begun) here none =
        entry begun (slice_get s.rules.entries place) refl
        (ap (λ j. kind_refusal what begun (slice_get s.rules.entries j)) (sym (some_is k place here)) ∙ none)

pub acted : (old new : ServerState) (id : ℤ) (place : ℕ) (what : Act) (result : Result (Unit {0}) ActError) → IsPlaceOf old id place what
    → AnswersAt old place id what result new → IsActed old id what result new
acted old new id place what result is answers =
    let c = called old id place what is in
    subst (λ o. ActsBy o old id what result new) (sym is.free) (place, c.entry, is.at, c.there, answers c.entry c.there)

pub refused_is : (old new : ServerState) (id : ℤ) (what : Act) (why told : ActError) → act_refusal old id what ≡ Some why → told ≡ why
    → IsActRefused old id why new → IsActed old id what (Err told) new
refused_is old new id what why told is same left =
    subst (λ o. ActsBy o old id what (Err told) new) (sym is) (ap (λ e. Err e) same, left)

-- ---- what goes out

-- a message is longer than its data
pub long_data : (m : ℕ) (id : ℤ) (bytes : List ℕ) → m < length bytes → is_short m (response id (answer.Ok bytes)) ≡ false
long_data m id bytes lt = over (length (body_of (response id (answer.Ok bytes)))) longer
  where
    over : (n : ℕ) → m < n → nat_le n m ≡ false
    over n lt = by (nat_le n m) refl
      where
        by : (t : Bool) → nat_le n m ≡ t → nat_le n m ≡ false
        by true e = absurd (omega (arith, lt, leb-true n m e))
        by false e = e

    r : Response
    r = record { id = id; result = answer.Ok bytes }

    longer : m < length (body_of (response id (answer.Ok bytes)))
    longer = rw (bytes_response r, bytes_of_response r, bytes_ok bytes)
        (omega (arith, lt, length-append (written_int id) (0 ∷ written_bytes bytes), length-append (written_nat (length bytes)) bytes))

fits_told : (m : ℕ) (t : Telling) (d : RpcDesc) (v : Value) → Fits m (form_of (shape_for t d)) v → FitsAct m d (told_act t v)
fits_told m telling.Reply d v x = x
fits_told m telling.Begin d v x = x
fits_told m telling.Decline d v x = x
fits_told m telling.Item d v x = x

told_fits : (m : ℕ) (t : Telling) (d : RpcDesc) (v : Value) → FitsAct m d (told_act t v) → Fits m (form_of (shape_for t d)) v
told_fits m telling.Reply d v x = x
told_fits m telling.Begin d v x = x
told_fits m telling.Decline d v x = x
told_fits m telling.Item d v x = x

answer_told : (t : Telling) (d : RpcDesc) (v : Value) → answer_by d (told_act t v) ≡ answer.Ok (data_for t d v)
answer_told telling.Reply d v = refl
answer_told telling.Begin d v = refl
answer_told telling.Decline d v = refl
answer_told telling.Item d v = refl

pub after_told : (t : Telling) (v : Value) (place : ℕ) → telling_after t place ≡ stands_behind (told_act t v) place
after_told telling.Reply v place = refl
after_told telling.Begin v place = refl
after_told telling.Decline v place = refl
after_told telling.Item v place = refl

-- an answer was to go out
pub sent : (old : ServerState) (place : ℕ) (d : RpcDesc) (id : ℤ) (what : Act) (a : Answer) (s : Standing) (result : Result (Unit {0}) ActError)
    (table : List Tracked) (link : EndState) → FitsAct old.rules.limits.max_message d what → answer_by d what ≡ a → s ≡ stands_behind what place
    → Sends old.rules.limits.max_message old.table old.link id a s result table link
    → RespondsTo old place d id what result (record { rules = old.rules; table = table; link = link })
sent old place d id what a s (Ok u) table link fits is after (short, put, goes) = (
  fits,
  ap (λ x. is_short old.rules.limits.max_message (response id x)) is ∙ short,
  record {
    rules = refl;
    table = subst (λ x. IsPut old.table id x table) after put;
    link = goes ∙ ap (λ x. said old.link (response id x)) (sym is);
  },
)
sent old place d id what a s (Err (refused.TooLong max)) table link fits is after (long, same, kept, left) =
    (fits, ap (λ x. is_short old.rules.limits.max_message (response id x)) is ∙ long, same, same_state old table link kept left)
sent old place d id what a s (Err refused.OutOfMemory) table link fits is after (kept, left) = same_state old table link kept left
sent old place d id what a s (Err refused.Closed) table link fits is after x = x
sent old place d id what a s (Err refused.NoSuch) table link fits is after x = x
sent old place d id what a s (Err refused.Stopped) table link fits is after x = x
sent old place d id what a s (Err refused.WrongKind) table link fits is after x = x
sent old place d id what a s (Err refused.AlreadyBegun) table link fits is after x = x
sent old place d id what a s (Err refused.NotBegun) table link fits is after x = x
sent old place d id what a s (Err refused.BadValue) table link fits is after x = absurd x

-- a value was told
pub told_sent : (old : ServerState) (place : ℕ) (id : ℤ) (t : Telling) (v : Value) (bytes : List ℕ) (s : Standing) (result : Result (Unit {0}) ActError)
    (table : List Tracked) (link : EndState)
    → ((e : Entry) → slice_get old.rules.entries place ≡ Some e → MakesData old.rules.limits.max_message t e.desc v (Ok bytes))
    → s ≡ stands_behind (told_act t v) place → Sends old.rules.limits.max_message old.table old.link id (answer.Ok bytes) s result table link
    → AnswersAt old place id (told_act t v) result (record { rules = old.rules; table = table; link = link })
told_sent old place id t v bytes s result table link makes after sends e there =
    let (fits, is) = makes e there in
    sent old place e.desc id (told_act t v) (answer.Ok bytes) s result table link (fits_told old.rules.limits.max_message t e.desc v fits)
    (answer_told t e.desc v ∙ ap (λ b. answer.Ok b) (sym is)) after sends

pub told_refused : (old : ServerState) (place : ℕ) (id : ℤ) (t : Telling) (v : Value) (why : ActError)
    → ((e : Entry) → slice_get old.rules.entries place ≡ Some e → MakesData old.rules.limits.max_message t e.desc v (Err why))
    → AnswersAt old place id (told_act t v) (Err why) old
told_refused old place id t v refused.BadValue makes e there = ((λ fits. makes e there (told_fits old.rules.limits.max_message t e.desc v fits)), refl)
told_refused old place id t v (refused.TooLong max) makes e there =
    let m = old.rules.limits.max_message in
    let (fits, same, long) = makes e there in
    (fits_told m t e.desc v fits, ap (λ a. is_short m (response id a)) (answer_told t e.desc v) ∙ long_data m id (data_for t e.desc v) long, same, refl)
told_refused old place id t v refused.OutOfMemory makes e there = refl
told_refused old place id t v refused.Closed makes e there = makes e there
told_refused old place id t v refused.NoSuch makes e there = makes e there
told_refused old place id t v refused.Stopped makes e there = makes e there
told_refused old place id t v refused.WrongKind makes e there = makes e there
told_refused old place id t v refused.AlreadyBegun makes e there = makes e there
told_refused old place id t v refused.NotBegun makes e there = makes e there

-- ---- what every server keeps, behind an act

-- the query is kept
pub is_kept : (s : ServerState) (id : ℤ) (place : ℕ) → place_at s id ≡ Some place → standing s.table id ≡ Nowhere → ⊥
is_kept s id place at nowhere = none_some place (sym (ap place_in_schema nowhere) ∙ at)

one_open : (s : Standing) (place : ℕ) → place_in_schema s ≡ Some place → open_count s ≡ 1
one_open Nowhere place at = absurd (none_some place at)
one_open (Open k begun) place at = refl
one_open Stopped place at = absurd (none_some place at)

one_at_most : (s : Standing) → open_count s ≤ 1
one_at_most Nowhere = omega arith
one_at_most (Open k begun) = omega arith
one_at_most Stopped = omega arith

pub server_sent : (old : ServerState) (id : ℤ) (place : ℕ) (what : Act) (a : Answer) (s : Standing) (result : Result (Unit {0}) ActError)
    (table : List Tracked) (link : EndState) → IsServer old.rules old.table old.link → IsPlaceOf old id place what → s ≡ stands_behind what place
    → Sends old.rules.limits.max_message old.table old.link id a s result table link → IsServer old.rules table link
server_sent old id place what a s (Ok u) table link kept is after (short, put, goes) =
    let c = called old id place what is in
    let good = after_good old.rules (standing old.table id) what place c.entry is.at c.there (kept.stands id) c.fit in
    server_put old.rules old.table table old.link link id s kept put (subst (IsStanding old.rules.entries) (sym after) good)
    (omega (arith, kept.few, one_open (standing old.table id) place is.at, one_at_most s)) (ap (λ (l : EndState). l.max) goes)
server_sent old id place what a s (Err (refused.TooLong max)) table link kept is after (long, same, left, stays) = same_server old.rules kept left stays
server_sent old id place what a s (Err refused.OutOfMemory) table link kept is after (left, stays) = same_server old.rules kept left stays
server_sent old id place what a s (Err refused.Closed) table link kept is after x = absurd x
server_sent old id place what a s (Err refused.NoSuch) table link kept is after x = absurd x
server_sent old id place what a s (Err refused.Stopped) table link kept is after x = absurd x
server_sent old id place what a s (Err refused.WrongKind) table link kept is after x = absurd x
server_sent old id place what a s (Err refused.AlreadyBegun) table link kept is after x = absurd x
server_sent old id place what a s (Err refused.NotBegun) table link kept is after x = absurd x
server_sent old id place what a s (Err refused.BadValue) table link kept is after x = absurd x
