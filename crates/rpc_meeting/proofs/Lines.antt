-- One id: what each effect on the talk makes of what is so of it.
use Rattle.std.proofs.Common.{◌≡◌, refl, sym, ap, ◌∙◌, subst, ℕ, ℤ, Bool, true, false, not, ◌&&◌, if◌then◌else◌, List, [], ◌∷◌, ◌++◌, map}
use Rattle.std.specs.Prelude.{Option, Some, None}
use Rattle.std.proofs.lemmas.List.{map-append}
use Rattle.bp_value.specs.declared.value.Sexp.TheVariants as sexp
use Rattle.bp_value.specs.Form.{form_of}
use Rattle.bp_grammar.specs.Written.{written}
use Rattle.rpc_msg.specs.Forms.{part_form}
use Rattle.rpc_msg.specs.Values.{eof_value}
use Rattle.rpc_msg.specs.declared.message.Answer.{Answer}
use Rattle.rpc_msg.specs.declared.message.Answer.TheVariants as answer
use Rattle.rpc_msg.specs.declared.message.RpcError.{RpcError}
use Rattle.rpc_msg.specs.declared.message.RpcError.TheVariants as error
use Rattle.rpc_schema.specs.declared.desc.Kind.{Kind}
use Rattle.rpc_schema.specs.declared.desc.Kind.TheVariants.{Plain, OneWay, Pipe, State}
use Rattle.rpc_schema.specs.declared.desc.RpcDesc.{RpcDesc}
use Rattle.rpc_talk.specs.Acts.{Act, answer_by, answer_too_long, failed_with, fitting, is_short, response, says, suits, unimplemented}
use Rattle.rpc_talk.specs.Acts as acts
use Rattle.rpc_talk.specs.Legal.{AreLegal}
use Rattle.rpc_talk.specs.Growing.{adds}
use Rattle.rpc_talk.specs.Parts.{goes_on, is_broken, is_stream, is_tracked, kind_parts, parts_of}
use Rattle.rpc_talk.specs.Said.{Eof, Failed, later_by, part_said, said_behind, says_in}
use Rattle.rpc_talk.specs.Welcome.{is_welcome_answer, is_welcome_by}
use Rattle.rpc_talk.proofs.OneMore.{parts_on, says_more}
use Rattle.rpc_meeting.specs.Deeds.{NotBegun}
use Rattle.rpc_meeting.specs.Steps.{wrong_time}
use Rattle.rpc_meeting.specs.Talks.{Common, Dispatch, Served, Answerer, Menu, Nobody, Listener, Handler, act_said, is_nil, goes_on_still, is_begun, menu_answer, answerer, said_parts, stops_one}
use Rattle.rpc_meeting.proofs.ActMarks.{legal_more}
use Rattle.rpc_meeting.proofs.Calls.{Ask, Begins, Stops, AreClear, AreWelcome, IsCall, IsClear, IsHandled, IsKnown, IsLine, Owed, asks_cut, has_begun, is_open_one, stops_query}
use Rattle.rpc_meeting.proofs.Look.{no_true, some_is}
use Rattle.rpc_meeting.proofs.Owners.{IsOk, owner_handler, owner_menu}
use Rattle.rpc_meeting.proofs.Welcomed.{act_clear, act_welcome, begun_more, clear_push, welcome_push}

abbrev pub most : Common → ℕ
most r = r.limits.max_message

no_query : (q : Served) → Some q ≡ None → ⊥
no_query q e = cc

no_cons : {X : Type 0} (x : X) (xs : List X) → ◌≡◌ {A = List X} [] (x ∷ xs) → ⊥
no_cons x xs e = cc

-- ---- a dispatch is made

module _ (r : Common) (d : Dispatch) (known : IsKnown r d.desc) (uncut : d.cut ≡ None) where
  pub call_dispatched : (came : List Ask) (query : Option Served) (answers : List Answer) → IsLine r None [] came query answers → came ≡ []
      → IsLine r (Some d) (Begins d.desc.name d.desc.version ∷ []) came query answers
  call_dispatched came query answers (asks_none, query_none, answers_none) none = record {
    known = known;
    asks_are = ap (λ c. Begins d.desc.name d.desc.version ∷ asks_cut c d.desc) (sym uncut);
    before = λ e. (query_none, answers_none);
    after = λ x xs e. absurd (no_cons x xs (sym none ∙ e));
    welcome = subst (λ xs. AreWelcome (most r) d.desc [] xs) (sym answers_none) tt;
    clear = subst (λ xs. AreClear (says_in (most r) d.desc xs)) (sym answers_none) tt;
    cut = λ n e. absurd (let line : None ≡ Some n = sym uncut ∙ e in cc);
    stopped = λ x y zs e. absurd (no_cons x (y ∷ zs) (sym none ∙ e));
  }

-- ---- it is aborted

module _ (r : Common) (d : Dispatch) (n : ℕ) where
  abbrev cut_one : Dispatch
  cut_one = record { label = d.label; id = d.id; desc = d.desc; cut = Some n }

  owed_cut : (o : Answerer) (query : Option Served) (answers : List Answer) → Owed o r d query answers → Owed o r cut_one query answers
  owed_cut Menu query answers owed = owed
  owed_cut Nobody query answers owed = owed
  owed_cut Listener query answers owed = owed
  owed_cut (Handler desc) query answers owed = owed

  pub call_aborted : (asks came : List Ask) (query : Option Served) (answers : List Answer) → IsCall r d asks came query answers → d.cut ≡ None
      → is_stream d.desc.kind ≡ true → has_begun (most r) d.desc answers ≡ true → IsCall r cut_one (asks ++ Stops d.desc.name d.desc.version ∷ []) came query answers
  call_aborted asks came query answers c uncut stream begun = record {
    known = c.known;
    asks_are = ap (λ xs. xs ++ Stops d.desc.name d.desc.version ∷ []) (c.asks_are ∙ ap (λ x. Begins d.desc.name d.desc.version ∷ asks_cut x d.desc) uncut);
    before = c.before;
    after = λ x xs e. owed_cut (answerer r d.desc.name d.desc.version) query answers (c.after x xs e);
    welcome = c.welcome;
    clear = c.clear;
    cut = λ k e. (stream, begun);
    stopped = c.stopped;
  }

-- ---- its handler acts

-- what an act has to be for a query that goes on
pub record IsTimely (m : ℕ) (q : Served) (act : Act) : Type 0 where
  pub suit : suits act q.desc.kind ≡ true
  pub time : wrong_time act (is_begun q) ≡ None
  pub read : said_behind m q.desc (says q.desc q.acts) (answer_by q.desc act) ≡ act_said act

abbrev pub acted_one : Served → Act → Served
acted_one q act = record { id = q.id; desc = q.desc; acts = q.acts ++ act ∷ []; told = q.told }

says_push : (d : RpcDesc) (done : List Act) (act : Act) → says d (done ++ act ∷ []) ≡ says d done ++ answer_by d act ∷ []
says_push d done act = map-append (answer_by d) done (act ∷ [])

pub handled_more : (m : ℕ) (q : Served) (act : Act) → IsHandled m q → goes_on_still q ≡ true → IsTimely m q act → IsHandled m (acted_one q act)
handled_more m q act had going timely = record {
  tracked = had.tracked;
  legal = legal_more q.desc q.acts act had.legal going timely.suit timely.time;
  read =
      ap (says_in m q.desc) (says_push q.desc q.acts act)
      ∙ (says_more m q.desc (says q.desc q.acts) (answer_by q.desc act)
      ∙ (ap (λ xs. xs ++ said_behind m q.desc (says q.desc q.acts) (answer_by q.desc act) ∷ []) had.read
      ∙ (ap (λ s. map act_said q.acts ++ s ∷ []) timely.read
      ∙ sym (map-append act_said q.acts (act ∷ [])))));
}

-- what the answers of a query make of its call is what its acts make of it
pub handled_parts : (m : ℕ) (q : Served) → IsHandled m q → parts_of m q.desc (says q.desc q.acts) ≡ said_parts q
handled_parts m q had = ap (kind_parts q.desc.kind) had.read

-- the query that is owed to a call that came is that of its handler
module _ (r : Common) (d : Dispatch) (q : Served) where
  owed_query : (o : Answerer) (answers : List Answer) → Owed o r d (Some q) answers → (q.desc ≡ d.desc) × (answers ≡ says d.desc q.acts) × IsHandled (most r) q
  owed_query Menu answers (none, is) = absurd (no_query q none)
  owed_query Nobody answers (none, is) = absurd (no_query q none)
  owed_query Listener answers (none, is) = absurd (no_query q none)
  owed_query (Handler desc) answers (p, here, same, is, had) =
      let qp : q ≡ p = some_is q p here in
      (ap (λ (x : Served). x.desc) qp ∙ same, is ∙ ap (λ (x : Served). says d.desc x.acts) (sym qp), subst (IsHandled (most r)) (sym qp) had)

  -- it is there only where its call came
  came_first : (asks came : List Ask) (answers : List Answer) → IsCall r d asks came (Some q) answers → came ≡ [] → ⊥
  came_first asks came answers c none = no_query q (c.before none).0

  pub owed_at : (asks came : List Ask) (answers : List Answer) → IsCall r d asks came (Some q) answers → (q.desc ≡ d.desc) × (answers ≡ says d.desc q.acts) × IsHandled (most r) q
  owed_at asks [] answers c = absurd (came_first asks [] answers c refl)
  owed_at asks (x ∷ came) answers c = owed_query (answerer r d.desc.name d.desc.version) answers (c.after x came refl)

  -- what the answers make of the call is what the acts make of the query
  pub call_parts : (asks came : List Ask) (answers : List Answer) → IsCall r d asks came (Some q) answers → parts_of (most r) d.desc answers ≡ said_parts q
  call_parts asks came answers c =
      let (same, is, had) = owed_at asks came answers c in
      ap (parts_of (most r) d.desc) is ∙ (ap (λ e. parts_of (most r) e (says e q.acts)) (sym same) ∙ handled_parts (most r) q had)

module _ (r : Common) (d : Dispatch) (q : Served) (act : Act) (going : goes_on_still q ≡ true) (timely : IsTimely (most r) q act) where
  owed_acted : (o : Answerer) (answers : List Answer) → Owed o r d (Some q) answers → Owed o r d (Some (acted_one q act)) (answers ++ answer_by q.desc act ∷ [])
  owed_acted Menu answers (none, is) = absurd (no_query q none)
  owed_acted Nobody answers (none, is) = absurd (no_query q none)
  owed_acted Listener answers (none, is) = absurd (no_query q none)
  owed_acted (Handler desc) answers owed =
      let (same, is, had) = owed_query r d q (Handler desc) answers owed in (
        acted_one q act,
        refl,
        same,
        ap (λ xs. xs ++ answer_by q.desc act ∷ []) is ∙ (ap (λ e. says d.desc q.acts ++ answer_by e act ∷ []) same ∙ sym (says_push d.desc q.acts act)),
        handled_more (most r) q act had going timely,
      )

  pub call_acted : (asks came : List Ask) (answers : List Answer) → IsCall r d asks came (Some q) answers
      → IsCall r d asks came (Some (acted_one q act)) (answers ++ answer_by q.desc act ∷ [])
  call_acted asks came answers c =
      let (same, is, had) = owed_at r d q asks came answers c in
      let said_is : answers ≡ says q.desc q.acts = is ∙ ap (λ e. says e q.acts) (sym same) in
      let parts_are : parts_of (most r) q.desc answers ≡ said_parts q = ap (parts_of (most r) q.desc) said_is ∙ handled_parts (most r) q had in
      let read : said_behind (most r) q.desc answers (answer_by q.desc act) ≡ act_said act
      = ap (λ xs. said_behind (most r) q.desc xs (answer_by q.desc act)) said_is ∙ timely.read in
      let welcome : is_welcome_answer (most r) q.desc answers (answer_by q.desc act) ≡ true
      = act_welcome (most r) q.desc answers (answer_by q.desc act) act (ap (λ p. goes_on p.mark) parts_are ∙ going) read timely.suit
      (ap (λ p. wrong_time act (not (is_nil p.parts))) parts_are ∙ timely.time) in
      record {
        known = c.known;
        asks_are = c.asks_are;
        before = λ none. absurd (came_first r d q asks came answers c none);
        after = λ x xs e. owed_acted (answerer r d.desc.name d.desc.version) answers (c.after x xs e);
        welcome = welcome_push (most r) d.desc [] answers (answer_by q.desc act) c.welcome (ap (λ e. is_welcome_answer (most r) e answers (answer_by q.desc act)) (sym same) ∙ welcome);
        clear = subst AreClear (sym (says_more (most r) d.desc answers (answer_by q.desc act)))
            (clear_push (says_in (most r) d.desc answers) (said_behind (most r) d.desc answers (answer_by q.desc act)) c.clear
            (subst IsClear (sym read ∙ ap (λ e. said_behind (most r) e answers (answer_by q.desc act)) same) (act_clear act)));
        cut = λ n e. let (stream, begun) = c.cut n e in (stream, begun_more (most r) d.desc answers (answer_by q.desc act) begun);
        stopped = λ x y zs e. absurd (let line : goes_on_still q ≡ false = c.stopped x y zs e in no_true (sym going ∙ line));
      }

-- ---- its call comes to the server

-- an error is welcome as a first answer
error_welcome : (m : ℕ) (d : RpcDesc) (e : RpcError) → is_welcome_answer m d [] (answer.Error e) ≡ true
error_welcome m d e = by d.kind refl
  where
    by : (kind : Kind) → d.kind ≡ kind → is_welcome_by kind m d [] (answer.Error e) ≡ true
    by Plain is = ap (λ k. goes_on (kind_parts k []).mark) is
    by OneWay is = refl
    by Pipe is = ap (λ k. goes_on (kind_parts k []).mark && not (is_broken (kind_parts k (Failed e ∷ [])).mark)) is
    by State is = ap (λ k. goes_on (kind_parts k []).mark && not (is_broken (kind_parts k (Failed e ∷ [])).mark)) is

-- so is any answer of a plain procedure
plain_welcome : (m : ℕ) (d : RpcDesc) (a : Answer) → d.kind ≡ Plain → is_welcome_answer m d [] a ≡ true
plain_welcome m d a is = ap (λ k. is_welcome_by k m d [] a) is ∙ ap (λ k. goes_on (kind_parts k []).mark) is

-- what an end writes by itself in place of an error is an error
fitting_error : (m : ℕ) (id : ℤ) (e : RpcError) → (f : RpcError) × (fitting m id (answer.Error e) ≡ answer.Error f)
fitting_error m id e = by (is_short m (response id (answer.Error e)))
  where
    by : (b : Bool) → (f : RpcError) × ((if b then answer.Error e else failed_with answer_too_long) ≡ answer.Error f)
    by true = (e, refl)
    by false = (error.Uncaught (sexp.Atom answer_too_long), refl)

module _ (r : Common) (d : Dispatch) (ok : IsOk r) where
  -- what the server says at once, and what it keeps
  abbrev pub said_to : Answerer → List Answer
  said_to Menu = menu_answer r d.id ∷ []
  said_to Nobody = fitting (most r) d.id (unimplemented d.desc.name d.desc.version) ∷ []
  said_to Listener = []
  said_to (Handler desc) = []

  abbrev pub kept_by : Answerer → Option Served
  kept_by Menu = None
  kept_by Nobody = None
  kept_by Listener = None
  kept_by (Handler desc) = Some (record { id = d.id; desc = desc; acts = []; told = false })

  legal_none : (kind : Kind) → is_tracked kind ≡ true → AreLegal kind []
  legal_none Plain t = tt
  legal_none OneWay t = refl
  legal_none Pipe t = tt
  legal_none State t = tt

  owed_first : (o : Answerer) → IsKnown r d.desc → answerer r d.desc.name d.desc.version ≡ o → Owed o r d (kept_by o) (said_to o)
  owed_first Menu known is = (refl, refl)
  owed_first Nobody known is = (refl, refl)
  owed_first Listener known is = (refl, refl)
  owed_first (Handler desc) known is =
      let (same, tracked) = owner_handler r d.desc desc ok known is in
      let kept : Served = record { id = d.id; desc = desc; acts = []; told = false } in
      let tracks : is_tracked desc.kind ≡ true = ap (λ (x : RpcDesc). is_tracked x.kind) same ∙ tracked in
      (kept, refl, same, refl, record { tracked = tracks; legal = legal_none desc.kind tracks; read = refl })

  welcome_first : (o : Answerer) → IsKnown r d.desc → answerer r d.desc.name d.desc.version ≡ o → AreWelcome (most r) d.desc [] (said_to o)
  welcome_first Menu known is =
      (plain_welcome (most r) d.desc (menu_answer r d.id) (ap (λ (x : RpcDesc). x.kind) (owner_menu r d.desc ok known is)), tt)
  welcome_first Nobody known is =
      let (f, same) = fitting_error (most r) d.id (error.Unimplemented d.desc.name d.desc.version) in
      (ap (is_welcome_answer (most r) d.desc []) same ∙ error_welcome (most r) d.desc f, tt)
  welcome_first Listener known is = tt
  welcome_first (Handler desc) known is = tt

  clear_first : (o : Answerer) → IsKnown r d.desc → answerer r d.desc.name d.desc.version ≡ o → AreClear (says_in (most r) d.desc (said_to o))
  clear_first Menu known is = subst (λ x. AreClear (says_in (most r) x (menu_answer r d.id ∷ []))) (sym (owner_menu r d.desc ok known is)) (ok.clear d.id)
  clear_first Nobody known is =
      let (f, same) = fitting_error (most r) d.id (error.Unimplemented d.desc.name d.desc.version) in
      subst (λ a. AreClear (says_in (most r) d.desc (a ∷ []))) (sym same) (tt, tt)
  clear_first Listener known is = tt
  clear_first (Handler desc) known is = tt

  -- nothing came before it
  pub call_arrives : (asks came : List Ask) (query : Option Served) (answers : List Answer) (x : Ask) → IsCall r d asks came query answers → came ≡ []
      → (o : Answerer) → answerer r d.desc.name d.desc.version ≡ o → IsCall r d asks (came ++ x ∷ []) (kept_by o) (answers ++ said_to o)
  call_arrives asks came query answers x c none o is =
      let (no_query, no_answers) = c.before none in
      let said_are : answers ++ said_to o ≡ said_to o = ap (λ xs. xs ++ said_to o) no_answers in
      record {
        known = c.known;
        asks_are = c.asks_are;
        before = λ e. absurd (no_push came x e);
        after = λ y ys e. subst (λ w. Owed w r d (kept_by o) (answers ++ said_to o)) (sym is)
            (subst (Owed o r d (kept_by o)) (sym said_are) (owed_first o c.known is));
        welcome = subst (AreWelcome (most r) d.desc []) (sym said_are) (welcome_first o c.known is);
        clear = subst (λ xs. AreClear (says_in (most r) d.desc xs)) (sym said_are) (clear_first o c.known is);
        cut = λ n e. absurd (no_begun answers no_answers (c.cut n e).1);
        stopped = λ y z zs e. absurd (one_only came x y z zs none e);
      }
    where
      no_push : (xs : List Ask) (x : Ask) → xs ++ x ∷ [] ≡ [] → ⊥
      no_push [] x e = cc
      no_push (y ∷ xs) x e = cc

      one_only : (xs : List Ask) (x y z : Ask) (zs : List Ask) → xs ≡ [] → xs ++ x ∷ [] ≡ y ∷ (z ∷ zs) → ⊥
      one_only xs x y z zs none e = let line : x ∷ [] ≡ y ∷ (z ∷ zs) = ap (λ l. l ++ x ∷ []) (sym none) ∙ e in cc

      none_begun : (kind : Kind) → not (is_nil (kind_parts kind []).parts) ≡ true → ⊥
      none_begun Plain e = cc
      none_begun OneWay e = cc
      none_begun Pipe e = cc
      none_begun State e = cc

      no_begun : (done : List Answer) → done ≡ [] → has_begun (most r) d.desc done ≡ true → ⊥
      no_begun done none e = none_begun d.desc.kind (ap (has_begun (most r) d.desc) (sym none) ∙ e)

-- ---- its abort comes to the server

all_three : (a b c : Bool) → a ≡ true → b ≡ true → c ≡ true → (a && b && c) ≡ true
all_three true true true e f g = refl
all_three true true false e f g = absurd cc
all_three true false c e f g = absurd cc
all_three false b c e f g = absurd cc

three_all : (a b c : Bool) → (a && b && c) ≡ true → (b ≡ true) × (c ≡ true) × (a ≡ true)
three_all true true true e = (refl, refl, refl)
three_all true true false e = absurd cc
three_all true false c e = absurd cc
three_all false b c e = absurd cc

-- the end of a stream that has begun is read so
later_eof : (m : ℕ) (d : RpcDesc) (before : List Answer) → is_stream d.kind ≡ true → has_begun m d before ≡ true → part_said m (form_of d.item) (written part_form eof_value) ≡ Eof
    → said_behind m d before (answer_by d acts.Stop) ≡ Eof
later_eof m d [] stream begun eof = absurd (no_part d.kind begun)
  where
    no_part : (kind : Kind) → not (is_nil (kind_parts kind []).parts) ≡ true → ⊥
    no_part Plain e = cc
    no_part OneWay e = cc
    no_part Pipe e = cc
    no_part State e = cc
later_eof m d (b ∷ before) stream begun eof = by d.kind stream
  where
    by : (kind : Kind) → is_stream kind ≡ true → later_by kind m d (written part_form eof_value) ≡ Eof
    by Plain s = absurd cc
    by OneWay s = absurd cc
    by Pipe s = eof
    by State s = eof

-- and it is over behind that
pub stop_over : (m : ℕ) (q : Served) → IsHandled m q → goes_on_still q ≡ true → is_begun q ≡ true → is_stream q.desc.kind ≡ true → IsTimely m q acts.Stop → goes_on_still (acted_one q acts.Stop) ≡ false
stop_over m q had going begun stream timely =
    ap (λ p. goes_on p.mark) (sym (handled_parts m (acted_one q acts.Stop) (handled_more m q acts.Stop had going timely))
    ∙ (ap (parts_of m q.desc) (says_push q.desc q.acts acts.Stop)
    ∙ parts_on m q.desc (says q.desc q.acts) (answer_by q.desc acts.Stop) (ap (λ p. goes_on p.mark) (handled_parts m q had) ∙ going)))
    ∙ (ap (λ s. goes_on (adds q.desc.kind (says q.desc q.acts) s).mark) timely.read
    ∙ by q.desc.kind q.acts stream (ap (λ p. not (is_nil p.parts)) (handled_parts m q had) ∙ begun))
  where
    some_said : (kind : Kind) → not (is_nil (kind_parts kind []).parts) ≡ true → ⊥
    some_said Plain e = cc
    some_said OneWay e = cc
    some_said Pipe e = cc
    some_said State e = cc

    by : (kind : Kind) (done : List Act) → is_stream kind ≡ true → has_begun m q.desc (says q.desc done) ≡ true → goes_on (adds kind (says q.desc done) Eof).mark ≡ false
    by Plain done s b = absurd cc
    by OneWay done s b = absurd cc
    by Pipe [] s b = absurd (some_said q.desc.kind b)
    by Pipe (a ∷ done) s b = refl
    by State [] s b = absurd (some_said q.desc.kind b)
    by State (a ∷ done) s b = refl

module _ (r : Common) (d : Dispatch) where
  -- where its query is over, or becomes so
  pub call_came : (asks came : List Ask) (query : Option Served) (answers : List Answer) (x y : Ask) → IsCall r d asks came query answers → came ≡ x ∷ [] → is_open_one query ≡ false
      → IsCall r d asks (came ++ y ∷ []) query answers
  call_came asks came query answers x y c one over = record {
    known = c.known;
    asks_are = c.asks_are;
    before = λ e. absurd (let line : x ∷ (y ∷ []) ≡ [] = ap (λ l. l ++ y ∷ []) (sym one) ∙ e in cc);
    after = λ z zs e. c.after x [] one;
    welcome = c.welcome;
    clear = c.clear;
    cut = c.cut;
    stopped = λ z w zs e. over;
  }

  -- an aborted call whose query is not stopped by that has none that is open
  pub call_over : (asks came : List Ask) (query : Option Served) (answers : List Answer) (n : ℕ) → IsCall r d asks came query answers → d.cut ≡ Some n
      → stops_query query ≡ false → is_open_one query ≡ false
  call_over asks came None answers n c cut stops = refl
  call_over asks came (Some q) answers n c cut stops = by (goes_on_still q) refl
    where
      by : (b : Bool) → goes_on_still q ≡ b → goes_on_still q ≡ false
      by false e = e
      by true e = absurd (
          let (stream, begun) = c.cut n cut in
          let (same, is, had) = owed_at r d q asks came answers c in
          let line : stops_one q ≡ true = all_three (is_stream q.desc.kind) (goes_on_still q) (is_begun q)
          (ap (λ (k : RpcDesc). is_stream k.kind) same ∙ stream) e (ap (λ p. not (is_nil p.parts)) (sym (call_parts r d q asks came answers c)) ∙ begun) in
          no_true (sym line ∙ stops))

  -- one that is stopped by it
  module _ (q : Served) (ok : IsOk r) (stops : stops_one q ≡ true) where
    pub stop_open : (goes_on_still q ≡ true) × (is_begun q ≡ true) × (is_stream q.desc.kind ≡ true)
    stop_open = three_all (is_stream q.desc.kind) (goes_on_still q) (is_begun q) stops

    pub stop_timely : (asks came : List Ask) (answers : List Answer) → IsCall r d asks came (Some q) answers → IsTimely (most r) q acts.Stop
    stop_timely asks came answers c =
        let (going, begun, stream) = stop_open in
        let (same, is, had) = owed_at r d q asks came answers c in
        record {
          suit = stream;
          time = ap (λ b. if b then None else Some NotBegun) begun;
          read = later_eof (most r) q.desc (says q.desc q.acts) stream (ap (λ p. not (is_nil p.parts)) (handled_parts (most r) q had) ∙ begun) (ok.eof (form_of q.desc.item));
        }

    pub call_stopped : (asks came : List Ask) (answers : List Answer) (x y : Ask) → IsCall r d asks came (Some q) answers → came ≡ x ∷ []
        → IsCall r d asks (came ++ y ∷ []) (Some (acted_one q acts.Stop)) (answers ++ answer_by q.desc acts.Stop ∷ [])
    call_stopped asks came answers x y c one =
        let (going, begun, stream) = stop_open in
        let (same, is, had) = owed_at r d q asks came answers c in
        let timely = stop_timely asks came answers c in
        call_came asks came (Some (acted_one q acts.Stop)) (answers ++ answer_by q.desc acts.Stop ∷ []) x y
        (call_acted r d q acts.Stop going timely asks came answers c) one
        (stop_over (most r) q had going begun stream timely)

-- ---- an act on it was refused because it was stopped

abbrev pub told_one : Served → Served
told_one q = record { id = q.id; desc = q.desc; acts = q.acts; told = true }

module _ (r : Common) (d : Dispatch) (q : Served) where
  handled_told : IsHandled (most r) q → IsHandled (most r) (told_one q)
  handled_told had = record { tracked = had.tracked; legal = had.legal; read = had.read }

  owed_told : (o : Answerer) (answers : List Answer) → Owed o r d (Some q) answers → Owed o r d (Some (told_one q)) answers
  owed_told Menu answers (none, is) = absurd (no_query q none)
  owed_told Nobody answers (none, is) = absurd (no_query q none)
  owed_told Listener answers (none, is) = absurd (no_query q none)
  owed_told (Handler desc) answers owed =
      let (same, is, had) = owed_query r d q (Handler desc) answers owed in
      (told_one q, refl, same, is, handled_told had)

  pub call_told : (asks came : List Ask) (answers : List Answer) → IsCall r d asks came (Some q) answers → IsCall r d asks came (Some (told_one q)) answers
  call_told asks came answers c = record {
    known = c.known;
    asks_are = c.asks_are;
    before = λ none. absurd (came_first r d q asks came answers c none);
    after = λ x xs e. owed_told (answerer r d.desc.name d.desc.version) answers (c.after x xs e);
    welcome = c.welcome;
    clear = c.clear;
    cut = c.cut;
    stopped = c.stopped;
  }
