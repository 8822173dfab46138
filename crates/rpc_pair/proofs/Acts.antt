-- What a handler does at a server has the answer that it has in the world, and the server goes along with the talk.
use Rattle.std.proofs.Common.{◌≡◌, refl, sym, ap, ◌∙◌, subst, ℕ, ℤ, Bool, true, false, not, ◌&&◌, ◌||◌, if◌then◌else◌, List, [], ◌∷◌, map, length, arith, ◌⊎◌, inl, inr}
use Rattle.std.specs.Prelude.{Option, Some, None, Result, Ok, Err, slice_get}
use Rattle.std.specs.List.{list_any}
use Rattle.std.specs.Option.{option_map}
use Rattle.std.specs.Ordering.{int_eq}
use Rattle.std.proofs.lemmas.List.{append-nil}
use Rattle.std.proofs.lemmas.List.Folds.{list_any-append}
use Rattle.rpc_msg.specs.Forms.{part_form}
use Rattle.rpc_msg.specs.Values.{eof_value}
use Rattle.rpc_msg.specs.declared.message.Answer.{Answer}
use Rattle.rpc_msg.specs.declared.message.Answer.TheVariants as answer
use Rattle.rpc_schema.specs.declared.desc.Entry.{Entry}
use Rattle.rpc_schema.specs.declared.desc.RpcDesc.{RpcDesc}
use Rattle.rpc_end.specs.Ends.{is_closed, said}
use Rattle.rpc_log.specs.Logs.{responses_of}
use Rattle.rpc_talk.specs.Acts.{Act, Reply, Fail, Begin, Decline, Give, End, Stop, answer_by, finishes, is_short, response, suits}
use Rattle.bp_grammar.specs.Written.{written}
use Rattle.rpc_meeting.specs.declared.answer.Refusal.TheVariants as world
use Rattle.rpc_meeting.specs.declared.answer.StepAnswer.TheVariants.{Refused, Done}
use Rattle.rpc_meeting.specs.declared.answer.Refusal.{Refusal}
use Rattle.rpc_meeting.specs.Steps.{Stepped, act_open, act_query, act_server, done, may_be_long, refused, wrong_time}
use Rattle.rpc_meeting.specs.Talks.{Common, Dispatch, Served, find_made, find_query, goes_on_still, is_begun, is_stop, is_stopped, told_stopped, with_act, with_answer, with_told}
use Rattle.rpc_meeting.specs.Worlds.{World, arrived, is_shut, set_talk}
use Rattle.rpc_meeting.proofs.Calls.{Ask, IsCall, IsHandled, IsLine, asks_of}
use Rattle.rpc_meeting.proofs.Lines.{acted_one, most, owed_at, told_one}
use Rattle.rpc_meeting.proofs.Look.{find_key, find_map, find_map_other, no_true, some_is}
use Rattle.rpc_meeting.proofs.Owners.{IsGiven}
use Rattle.rpc_meeting.proofs.Sound.{IsSound, act_other, act_same, query_key, told_other, told_same}
use Rattle.rpc_server.specs.Acting.{ActsBy, FitsAct, HasActed, IsActed, IsActRefused, RespondsTo, act_refusal, answer_to, begun_refusal, kind_refusal, standing_refusal, stands_behind}
use Rattle.rpc_server.specs.Rules.{Rules}
use Rattle.rpc_server.specs.Servers.{ServerState}
use Rattle.rpc_server.specs.Tables.{open_count, place_in_schema, standing}
use Rattle.rpc_server.specs.declared.error.ActError.{ActError}
use Rattle.rpc_server.specs.declared.error.ActError.TheVariants as why
use Rattle.rpc_server.specs.declared.table.Standing.{Standing}
use Rattle.rpc_server.specs.declared.table.Standing.TheVariants.{Nowhere, Open, Stopped}
use Rattle.rpc_server.proofs.DataBytes.{eof_bytes}
use Rattle.rpc_server.proofs.Short.{short_data}
use Rattle.rpc_pair.specs.Rules.{IsOfSchema, rules_of}
use Rattle.rpc_pair.specs.Stands.{ActsAlong, GoesAlong, ServerStands, answer_as, line_place, standing_as, standing_of_query}
use Rattle.rpc_pair.proofs.ActStates.{IsBehind, act_behind}
use Rattle.rpc_pair.proofs.Places.{place_line}
use Rattle.rpc_pair.proofs.Schemas.{room, schema_ok}
use Rattle.rpc_pair.proofs.ServedLines.{IsAnswered, kept_line}
use Rattle.rpc_pair.proofs.Stops.{going_stands, quiet_stands, stopped_stands}
use Rattle.rpc_pair.proofs.Tables.{one_is, one_open, open_changed, standing_count, stands_put}
use Rattle.rpc_pair.proofs.Basics.{and_false}

-- ---- the tests of an act

-- its value is of its shape, in the server's words
given_fits : (m : ℕ) (d : RpcDesc) (act : Act) → IsGiven m d act → FitsAct m d act
given_fits m d (Reply v) given = given
given_fits m d (Fail text) given = tt
given_fits m d (Begin v) given = given
given_fits m d (Decline v) given = given
given_fits m d (Give v) given = given
given_fits m d End given = tt
given_fits m d Stop given = tt

-- a refusal that leaves all as it was
abbrev Keeps : ActError → Type 0
Keeps e = (old new : ServerState) (id : ℤ) → IsActRefused old id e new → new ≡ old

-- it comes at its time in both; or it is refused in both, for the same
abbrev IsTimed : Act → Bool → Type 0
IsTimed act begun =
    ((begun_refusal act begun ≡ None) × (wrong_time act begun ≡ None))
    ⊎ ((e : ActError) × (reason : Refusal) × (begun_refusal act begun ≡ Some e) × (wrong_time act begun ≡ Some reason) × (answer_as (Err e) ≡ Some (Refused reason)) × Keeps e)

timed : (act : Act) (begun : Bool) → IsTimed act begun
timed (Reply v) begun = inl (refl, refl)
timed (Fail text) begun = inl (refl, refl)
timed (Begin v) true = inr (why.AlreadyBegun, world.AlreadyBegun, refl, refl, refl, λ old new id kept. kept)
timed (Begin v) false = inl (refl, refl)
timed (Decline v) true = inr (why.AlreadyBegun, world.AlreadyBegun, refl, refl, refl, λ old new id kept. kept)
timed (Decline v) false = inl (refl, refl)
timed (Give v) true = inl (refl, refl)
timed (Give v) false = inr (why.NotBegun, world.NotBegun, refl, refl, refl, λ old new id kept. kept)
timed End true = inl (refl, refl)
timed End false = inr (why.NotBegun, world.NotBegun, refl, refl, refl, λ old new id kept. kept)
timed Stop true = inl (refl, refl)
timed Stop false = inr (why.NotBegun, world.NotBegun, refl, refl, refl, λ old new id kept. kept)

-- an end of a stream is never too long
pub eof_short : (r : Common) → IsOfSchema r → (id : ℤ) → is_short (most r) (response id (answer.Ok (written part_form eof_value))) ≡ true
eof_short r is id = short_data (most r) id (written part_form eof_value) (omega (arith, ap length eof_bytes, room r is))

end_short : (r : Common) → IsOfSchema r → (d : RpcDesc) (id : ℤ) (act : Act) → is_short (most r) (response id (answer_by d act)) ≡ false → may_be_long act ≡ true
end_short r is d id (Reply v) long = refl
end_short r is d id (Fail text) long = refl
end_short r is d id (Begin v) long = refl
end_short r is d id (Decline v) long = refl
end_short r is d id (Give v) long = refl
end_short r is d id End long = absurd (no_true (sym (eof_short r is id) ∙ long))
end_short r is d id Stop long = absurd (no_true (sym (eof_short r is id) ∙ long))

module _ (r : Common) (is : IsOfSchema r) (w : World) (sound : IsSound r w.talk (arrived w)) (s : ServerState) (stands : ServerStands r s w.talk)
    (shut : is_closed s.link ≡ is_shut w.server) (d : Dispatch) (own : find_made d.id w.talk.made ≡ Some d) (act : Act) (fits : suits act d.desc.kind ≡ true)
    (given : IsGiven (most r) d.desc act) (handles : is_stop act ≡ false) (result : Result (Unit {0}) ActError) (new : ServerState) where
  abbrev Along : Stepped → Type 0
  Along to = ActsAlong (answer_as result) r s w.talk to new

  -- it is refused, and all is as it was
  kept_goes : (e : ActError) (reason : Refusal) → answer_as (Err e) ≡ Some (Refused reason) → result ≡ Err e → new ≡ s → Along (refused w reason)
  kept_goes e reason tells is_err same =
      subst (λ o. ActsAlong o r s w.talk (refused w reason) new) (sym (ap answer_as is_err ∙ tells))
      (refl, subst (GoesAlong r s.link w.talk w.talk) (sym same) (record { stands = stands; more = []; downs = sym (append-nil w.talk.downs); said = refl }))

  -- why it is refused, by how its query stands
  refusal_is : is_shut w.server ≡ false → (st : Standing) → standing s.table d.id ≡ st → act_refusal s d.id act ≡ standing_refusal (rules_of r) act st
  refusal_is opened st here =
      ap (λ b. if b then Some why.Closed else standing_refusal s.rules act (standing s.table d.id)) (shut ∙ opened)
      ∙ (ap (λ x. standing_refusal x act (standing s.table d.id)) stands.rules ∙ ap (standing_refusal (rules_of r) act) here)

  by_refusal : (o : Option ActError) → act_refusal s d.id act ≡ o → IsActed s d.id act result new → ActsBy o s d.id act result new
  by_refusal o e acted = subst (λ x. ActsBy x s d.id act result new) e acted

  server_is : is_shut w.server ≡ false → (o : Option Served) → find_query d.id w.talk.queries ≡ o → act_server r w d.id act ≡ act_query r w act o
  server_is opened o here = ap (λ b. if b then refused w world.Closed else act_query r w act (find_query d.id w.talk.queries)) opened ∙ ap (act_query r w act) here

  none_goes : is_shut w.server ≡ false → find_query d.id w.talk.queries ≡ None → IsActed s d.id act result new → Along (act_server r w d.id act)
  none_goes opened here acted =
      let (tells, same) = by_refusal (Some why.NoSuch) (refusal_is opened Nowhere (stands.table d.id ∙ ap (standing_as r) here)) acted in
      subst Along (sym (server_is opened None here)) (kept_goes why.NoSuch world.NoSuch refl tells same)

  module _ (q : Served) (here : find_query d.id w.talk.queries ≡ Some q) (opened : is_shut w.server ≡ false) where
    key : q.id ≡ d.id
    key = find_key query_key d.id w.talk.queries q here

    abbrev asks : List Ask
    asks = asks_of r.entries d.id w.talk.ups

    abbrev came : List Ask
    came = asks_of r.entries d.id (arrived w)

    abbrev answers : List Answer
    answers = responses_of d.id w.talk.downs

    call : IsCall r d asks came (Some q) answers
    call =
        subst (λ o. IsCall r d asks came o answers) here
        (subst (λ o. IsLine r o asks came (find_query d.id w.talk.queries) answers) own (sound.lines d.id))

    same : q.desc ≡ d.desc
    same = (owed_at r d q asks came answers call).0

    had : IsHandled (most r) q
    had = (owed_at r d q asks came answers call).2

    line : IsAnswered r d.desc
    line = kept_line r (schema_ok r is) d q asks came answers call

    abbrev place : ℕ
    place = line_place r.entries q.desc

    entry_here : slice_get r.entries place ≡ Some line.entry
    entry_here =
        ap (λ x. slice_get r.entries (line_place r.entries x)) same
        ∙ place_line r.entries d.desc.name d.desc.version line.entry line.here line.offered

    stands_here : standing s.table d.id ≡ standing_of_query r q
    stands_here = stands.table d.id ∙ ap (standing_as r) here

    -- what the world does with an act on a query that was stopped, and on any other that is over
    abbrev told_step : Stepped
    told_step = record { world = set_talk w (told_stopped w.talk q.id); outcome = Refused world.Stopped }

    abbrev over_step : Bool → Stepped
    over_step b = if b then told_step else refused w world.NoSuch

    step_is : act_server r w d.id act ≡ (if goes_on_still q then act_open r w q act (wrong_time act (is_begun q)) else over_step (is_stopped q))
    step_is = server_is opened (Some q) here

    step_over : goes_on_still q ≡ false → (b : Bool) → is_stopped q ≡ b → act_server r w d.id act ≡ over_step b
    step_over over b e =
        step_is ∙ (ap (λ x. if x then act_open r w q act (wrong_time act (is_begun q)) else over_step (is_stopped q)) over ∙ ap over_step e)

    -- where its query is over
    over_goes : goes_on_still q ≡ false → is_stopped q ≡ false → IsActed s d.id act result new → Along (act_server r w d.id act)
    over_goes over quiet acted =
        let (tells, kept) = by_refusal (Some why.NoSuch) (refusal_is opened Nowhere (stands_here ∙ quiet_stands r q over quiet)) acted in
        subst Along (sym (step_over over false quiet)) (kept_goes why.NoSuch world.NoSuch refl tells kept)

    -- where an abort stopped it, which is told
    told_here : find_query d.id (map (with_told q.id) w.talk.queries) ≡ Some (told_one q)
    told_here = find_map query_key (with_told q.id) (λ x. refl) d.id w.talk.queries ∙ (ap (option_map (with_told q.id)) here ∙ ap Some (told_same q))

    told_quiet : is_stopped (told_one q) ≡ false
    told_quiet = and_false (list_any is_stop q.acts)

    stopped_goes : goes_on_still q ≡ false → is_stopped q ≡ true → IsActed s d.id act result new → Along (act_server r w d.id act)
    stopped_goes over stops acted =
        let old : standing s.table d.id ≡ Stopped = stands_here ∙ stopped_stands r q over stops in
        let (tells, (rules, put, link)) = by_refusal (Some why.Stopped) (refusal_is opened Stopped old) acted in
        subst Along (sym (step_over over true stops)) (subst (λ x. ActsAlong (answer_as x) r s w.talk told_step new) (sym tells) (
          refl,
          record {
            stands = stands_put r s new w.talk (told_stopped w.talk q.id) d.id Nowhere stands rules put
                (sym (ap (standing_as r) told_here ∙ quiet_stands r (told_one q) over told_quiet))
                (λ other apart. find_map_other query_key (with_told q.id) (λ x. refl) other w.talk.queries
                (told_other q.id other (ap (λ i. int_eq i other) key ∙ apart)))
                (omega (
                  arith,
                  open_changed d.id (with_told q.id) (λ x. refl)
                      (λ x e. told_other q.id x.id (ap (λ i. int_eq i x.id) key ∙ e) x refl) w.talk.queries q sound.apart here,
                  ap open_count old,
                  one_is q false over,
                  ap one_open (told_same q) ∙ one_is (told_one q) false over,
                ));
            more = [];
            downs = sym (append-nil w.talk.downs);
            said = link;
          },
        ))

    -- ---- a query that goes on

    module _ (going : goes_on_still q ≡ true) where
      open_here : standing s.table d.id ≡ Open place (is_begun q)
      open_here = stands_here ∙ going_stands r q going

      step_open : (o : Option Refusal) → wrong_time act (is_begun q) ≡ o → act_server r w d.id act ≡ act_open r w q act o
      step_open o e = step_is ∙ (ap (λ x. if x then act_open r w q act (wrong_time act (is_begun q)) else over_step (is_stopped q)) going ∙ ap (act_open r w q act) e)

      open_refusal : (o : Option ActError) → begun_refusal act (is_begun q) ≡ o → act_refusal s d.id act ≡ o
      open_refusal o e =
          refusal_is opened (Open place (is_begun q)) open_here
          ∙ (ap (kind_refusal act (is_begun q)) entry_here
          ∙ (ap (λ b. if b then begun_refusal act (is_begun q) else Some why.WrongKind) (ap (λ (x : RpcDesc). suits act x.kind) line.is_desc ∙ fits) ∙ e))

      -- it comes too early or too late
      untimely_goes : (e : ActError) (reason : Refusal) → begun_refusal act (is_begun q) ≡ Some e → wrong_time act (is_begun q) ≡ Some reason → answer_as (Err e) ≡ Some (Refused reason) → Keeps e
          → IsActed s d.id act result new → Along (act_server r w d.id act)
      untimely_goes e reason refuses time tells keeps acted =
          let (is_err, kept) = by_refusal (Some e) (open_refusal (Some e) refuses) acted in
          subst Along (sym (step_open (Some reason) time)) (kept_goes e reason tells is_err (keeps s new d.id kept))

      -- it comes at its time
      module _ (time : wrong_time act (is_begun q) ≡ None) where
        behind : IsBehind q.desc.kind q.acts act
        behind = act_behind q.desc.kind q.acts act had.legal going (ap (λ (x : RpcDesc). suits act x.kind) same ∙ fits) time

        acted_here : find_query d.id (map (with_act q.id act) w.talk.queries) ≡ Some (acted_one q act)
        acted_here = find_map query_key (with_act q.id act) (λ x. refl) d.id w.talk.queries ∙ (ap (option_map (with_act q.id act)) here ∙ ap Some (act_same act q))

        no_stop : is_stopped (acted_one q act) ≡ false
        no_stop =
            ap (λ b. b && not q.told)
            (list_any-append is_stop q.acts (act ∷ []) ∙ (ap (λ b. b || (is_stop act || false)) behind.unstopped ∙ ap (λ b. false || (b || false)) handles))

        -- how its query stands behind it
        stands_then : stands_behind act place ≡ standing_of_query r (acted_one q act)
        stands_then = by (finishes act) refl
          where
            by : (b : Bool) → finishes act ≡ b → (if finishes act then Nowhere else Open place true) ≡ standing_of_query r (acted_one q act)
            by true e =
                ap (λ b. if b then Nowhere else Open place true) e
                ∙ sym (quiet_stands r (acted_one q act) (behind.going ∙ ap not e) no_stop)
            by false e =
                ap (λ b. if b then Nowhere else Open place true) e
                ∙ sym (going_stands r (acted_one q act) (behind.going ∙ ap not e) ∙ ap (Open place) (behind.begun e))

        step_done : is_short (most r) (response q.id (answer_by q.desc act)) ≡ true → act_server r w d.id act ≡ done (set_talk w (with_answer w.talk q act))
        step_done short =
            step_open None time
            ∙ ap (λ b. if b then refused w world.TooLong else done (set_talk w (with_answer w.talk q act)))
            (ap (λ b. may_be_long act && not b) short ∙ and_false (may_be_long act))

        step_long : is_short (most r) (response q.id (answer_by q.desc act)) ≡ false → act_server r w d.id act ≡ refused w world.TooLong
        step_long long =
            step_open None time
            ∙ ap (λ b. if b then refused w world.TooLong else done (set_talk w (with_answer w.talk q act)))
            (ap (λ b. may_be_long act && not b) long ∙ ap (λ b. b && true) (end_short r is q.desc q.id act long))

        done_goes : HasActed s place q.desc d.id act new → is_short (most r) (response q.id (answer_by q.desc act)) ≡ true
            → ActsAlong (Some Done) r s w.talk (done (set_talk w (with_answer w.talk q act))) new
        done_goes has short = (
          refl,
          record {
            stands = stands_put r s new w.talk (with_answer w.talk q act) d.id (stands_behind act place) stands has.rules has.table
                (stands_then ∙ sym (ap (standing_as r) acted_here))
                (λ other apart. find_map_other query_key (with_act q.id act) (λ x. refl) other w.talk.queries
                (act_other q.id other act (ap (λ i. int_eq i other) key ∙ apart)))
                (omega (
                  arith,
                  open_changed d.id (with_act q.id act) (λ x. refl)
                      (λ x e. act_other q.id x.id act (ap (λ i. int_eq i x.id) key ∙ e) x refl) w.talk.queries q sound.apart here,
                  ap open_count open_here,
                  one_is q true going,
                  ap open_count stands_then ∙ standing_count r (acted_one q act),
                  ap one_open (act_same act q),
                ));
            more = response q.id (answer_by q.desc act) ∷ [];
            downs = refl;
            said = has.link ∙ ap (λ i. said s.link (response i (answer_by q.desc act))) (sym key);
          },
        )

        responds_goes : (x : Result (Unit {0}) ActError) → RespondsTo s place q.desc d.id act x new
            → ActsAlong (answer_as x) r s w.talk (act_server r w d.id act) new
        responds_goes x responds = by x responds
          where
            limit : s.rules.limits.max_message ≡ most r
            limit = ap (λ (x : Rules). x.limits.max_message) stands.rules

            -- the test of its length is that of the world
            length_is : (b : Bool) → is_short s.rules.limits.max_message (answer_to q.desc d.id act) ≡ b → is_short (most r) (response q.id (answer_by q.desc act)) ≡ b
            length_is b e = ap (λ m. is_short m (response q.id (answer_by q.desc act))) (sym limit) ∙ (ap (λ i. is_short s.rules.limits.max_message (response i (answer_by q.desc act))) key ∙ e)

            fitting : FitsAct s.rules.limits.max_message q.desc act
            fitting = subst (λ m. FitsAct m q.desc act) (sym limit) (subst (λ x. FitsAct (most r) x act) (sym same) (given_fits (most r) d.desc act given))

            by : (x : Result (Unit {0}) ActError) → RespondsTo s place q.desc d.id act x new → ActsAlong (answer_as x) r s w.talk (act_server r w d.id act) new
            by (Ok u) (fit, short, has) =
                let is_short_now = length_is true short in
                subst (λ to. ActsAlong (Some Done) r s w.talk to new) (sym (step_done is_short_now)) (done_goes has is_short_now)
            by (Err why.BadValue) (unfit, kept) = absurd (unfit fitting)
            by (Err (why.TooLong max)) (fit, long, is_max, kept) =
                subst (λ to. ActsAlong (Some (Refused world.TooLong)) r s w.talk to new) (sym (step_long (length_is false long)))
                (refl, subst (GoesAlong r s.link w.talk w.talk) (sym kept) (record { stands = stands; more = []; downs = sym (append-nil w.talk.downs); said = refl }))
            by (Err why.OutOfMemory) kept = kept
            by (Err why.Closed) never = absurd never
            by (Err why.NoSuch) never = absurd never
            by (Err why.Stopped) never = absurd never
            by (Err why.WrongKind) never = absurd never
            by (Err why.AlreadyBegun) never = absurd never
            by (Err why.NotBegun) never = absurd never

        -- it is done at the place of its line, for the procedure of its query
        timely_goes : begun_refusal act (is_begun q) ≡ None → IsActed s d.id act result new → Along (act_server r w d.id act)
        timely_goes free acted =
            let (at, e, at_is, there, responds) = by_refusal None (open_refusal None free) acted in
            let place_is : at ≡ place = some_is at place (sym at_is ∙ ap place_in_schema open_here) in
            let entry_is : e ≡ line.entry
            = some_is e line.entry (sym there ∙ (ap (slice_get s.rules.entries) place_is ∙ (ap (λ (x : Rules). slice_get x.entries place) stands.rules ∙ entry_here))) in
            let desc_is : e.desc ≡ q.desc = ap (λ (x : Entry). x.desc) entry_is ∙ (line.is_desc ∙ sym same) in
            responds_goes result (subst (λ p. RespondsTo s p q.desc d.id act result new) place_is (subst (λ x. RespondsTo s at x d.id act result new) desc_is responds))

      going_goes : IsActed s d.id act result new → Along (act_server r w d.id act)
      going_goes acted = by (timed act (is_begun q))
        where
          by : IsTimed act (is_begun q) → Along (act_server r w d.id act)
          by (inl (free, time)) = timely_goes time free acted
          by (inr (e, reason, refuses, time, tells, keeps)) = untimely_goes e reason refuses time tells keeps acted

    some_goes : (a b : Bool) → goes_on_still q ≡ a → is_stopped q ≡ b → IsActed s d.id act result new → Along (act_server r w d.id act)
    some_goes true b going e acted = going_goes going acted
    some_goes false true over e acted = stopped_goes over e acted
    some_goes false false over e acted = over_goes over e acted

  by_shut : (b : Bool) → is_shut w.server ≡ b → (o : Option Served) → find_query d.id w.talk.queries ≡ o → IsActed s d.id act result new → Along (act_server r w d.id act)
  by_shut true closed o here acted =
      let (tells, kept) = by_refusal (Some why.Closed)
      (ap (λ b. if b then Some why.Closed else standing_refusal s.rules act (standing s.table d.id)) (shut ∙ closed)) acted in
      subst Along (sym (ap (λ b. if b then refused w world.Closed else act_query r w act (find_query d.id w.talk.queries)) closed))
      (kept_goes why.Closed world.Closed refl tells kept)
  by_shut false opened None here acted = none_goes opened here acted
  by_shut false opened (Some q) here acted = some_goes q here opened (goes_on_still q) (is_stopped q) refl refl acted

  -- An act has the answer that it has in the world, and the server stands for the talk behind it; what it said is what goes down by it.
  pub act_goes : IsActed s d.id act result new → Along (act_server r w d.id act)
  act_goes acted = by_shut (is_shut w.server) refl (find_query d.id w.talk.queries) refl acted
