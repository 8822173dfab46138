-- Fewer queries are open at the server than dispatches are unfinished at the client, when one more comes.
use Rattle.std.proofs.Common.{◌≡◌, refl, sym, ap, ◌∙◌, subst, ℕ, suc, ◌<◌, ℤ, Bool, true, false, not, ◌&&◌, ◌||◌, if◌then◌else◌, List, [], ◌∷◌, ◌++◌, map, filter, length, arith}
use Rattle.std.specs.Prelude.{Some, None}
use Rattle.std.specs.List.{IsDistinct, AllByRecursion, list_any}
use Rattle.std.specs.Ordering.{int_eq}
use Rattle.std.proofs.lemmas.Cmp.{int_eq_equiv}
use Rattle.std.proofs.lemmas.Map.Made.{length-le_from_is_member}
use Rattle.std.proofs.lemmas.Bool.Decides.{Decides-int_eq}
use Rattle.rpc_msg.specs.declared.message.Query.{Query}
use Rattle.rpc_msg.specs.declared.message.Message.{Message}
use Rattle.rpc_msg.specs.declared.message.Message.TheVariants as message
use Rattle.rpc_schema.specs.declared.desc.Kind.{Kind}
use Rattle.rpc_schema.specs.declared.desc.Kind.TheVariants.{Plain, OneWay, Pipe, State}
use Rattle.rpc_schema.specs.declared.desc.RpcDesc.{RpcDesc}
use Rattle.rpc_log.specs.Logs.{responses_of}
use Rattle.rpc_talk.specs.Parts.{Fate, Goes_on, Ends, Broken, goes_on, is_ended, is_tracked, kind_parts, parts_of}
use Rattle.rpc_meeting.specs.Talks.{Common, Dispatch, Served, Talk, Handler, find_made, find_query, is_abort_query, goes_on_still, waits_still, open_queries, answerer, parts_in, waiting_count}
use Rattle.rpc_meeting.proofs.Calls.{IsLine, asks_of}
use Rattle.rpc_meeting.proofs.Filters.{answers_join}
use Rattle.rpc_meeting.proofs.Heard.{IsAsked, asked, own_owner, same_owner}
use Rattle.rpc_meeting.proofs.Lines.{call_parts, most, owed_at}
use Rattle.rpc_meeting.proofs.Look.{find_key, no_some, no_true, same, some_is}
use Rattle.rpc_meeting.proofs.Owners.{IsOk, owner_handler}
use Rattle.rpc_meeting.proofs.Sound.{Apart, IsSound, owner_of_query, query_key}
use Rattle.rpc_meeting.proofs.Welcomed.{went_on}

turned : (i j : ℤ) → int_eq i j ≡ true → int_eq j i ≡ true
turned i j e = (Decides-int_eq j i).1 (sym (same i j e))

turned_not : (i j : ℤ) → int_eq i j ≡ false → int_eq j i ≡ false
turned_not i j e = by (int_eq j i) refl
  where
    by : (b : Bool) → int_eq j i ≡ b → int_eq j i ≡ false
    by true t = absurd (no_true (sym (turned j i t) ∙ e))
    by false t = t

mapped_length : {X : Type 0} (f : X → ℤ) (xs : List X) → length (map f xs) ≡ length xs
mapped_length f [] = refl
mapped_length f (x ∷ xs) = ap suc (mapped_length f xs)

-- ---- the ids of open queries

abbrev open_ids : List Served → List ℤ
open_ids queries = map query_key (filter goes_on_still queries)

-- none has the id of one that is not found
none_open : (i : ℤ) (qs : List Served) → find_query i qs ≡ None → AllByRecursion (λ y. int_eq i y ≡ false) (open_ids qs)
none_open i [] e = tt
none_open i (q ∷ qs) e = by (none_open i qs) (int_eq q.id i) refl (goes_on_still q) e
  where
    by : (find_query i qs ≡ None → AllByRecursion (λ y. int_eq i y ≡ false) (open_ids qs)) → (b : Bool) → int_eq q.id i ≡ b → (o : Bool) → (if b then Some q else find_query i qs) ≡ None
        → AllByRecursion (λ y. int_eq i y ≡ false) (map query_key (if o then q ∷ filter goes_on_still qs else filter goes_on_still qs))
    by later true at o none = absurd (no_some q (sym none))
    by later false at true none = (turned_not q.id i at, later none)
    by later false at false none = later none

open_distinct : (qs : List Served) → Apart qs → IsDistinct int_eq (open_ids qs)
unfolding IsDistinct
open_distinct [] a = tt
open_distinct (q ∷ qs) (none, later) = by (goes_on_still q) (none_open q.id qs none) (open_distinct qs later)
  where
    by : (o : Bool) → AllByRecursion (λ y. int_eq q.id y ≡ false) (open_ids qs) → IsDistinct int_eq (open_ids qs)
        → IsDistinct int_eq (map query_key (if o then q ∷ filter goes_on_still qs else filter goes_on_still qs))
    by true none later = (none, later)
    by false none later = later

abbrev Finds : ℤ → List Served → Type 0
Finds i qs = list_any (int_eq i) (open_ids qs) ≡ true → (p : Served) × (find_query i qs ≡ Some p) × (goes_on_still p ≡ true)

-- one that is there is the id of a query that is found, and open
open_found : (i : ℤ) (qs : List Served) → Apart qs → list_any (int_eq i) (open_ids qs) ≡ true → (q : Served) × (find_query i qs ≡ Some q) × (goes_on_still q ≡ true)
open_found i [] a e = absurd cc
open_found i (q ∷ qs) (none, later) e = by (open_found i qs later) (goes_on_still q) refl (int_eq q.id i) refl e
  where
    rest : Finds i qs → int_eq q.id i ≡ false → list_any (int_eq i) (open_ids qs) ≡ true → (p : Served) × (find_query i (q ∷ qs) ≡ Some p) × (goes_on_still p ≡ true)
    rest finds at there =
        let (p, found, is) = finds there in
        (p, ap (λ b. if b then Some q else find_query i qs) at ∙ found, is)

    other : Finds i qs → int_eq q.id i ≡ true → list_any (int_eq i) (open_ids qs) ≡ true → ⊥
    other finds at there =
        let (p, found, is) = finds there in
        no_some p (sym none ∙ (ap (λ k. find_query k qs) (same q.id i at) ∙ found))

    by : Finds i qs → (o : Bool) → goes_on_still q ≡ o → (b : Bool) → int_eq q.id i ≡ b → list_any (int_eq i) (map query_key (if o then q ∷ filter goes_on_still qs else filter goes_on_still qs)) ≡ true
        → (p : Served) × (find_query i (q ∷ qs) ≡ Some p) × (goes_on_still p ≡ true)
    by finds true is true at there = (q, ap (λ b. if b then Some q else find_query i qs) at, is)
    by finds true is false at there = rest finds at (sym (ap (λ b. b || list_any (int_eq i) (open_ids qs)) (turned_not q.id i at)) ∙ there)
    by finds false is true at there = absurd (other finds at there)
    by finds false is false at there = rest finds at there

-- ---- the ids of unfinished dispatches

abbrev unfinished_ids : ℕ → List Message → List Dispatch → List ℤ
unfinished_ids m come made = map (λ (d : Dispatch). d.id) (filter (waits_still m come) made)

or_true : (b : Bool) → (b || true) ≡ true
or_true true = refl
or_true false = refl

unfinished_there : (m : ℕ) (come : List Message) (i : ℤ) (made : List Dispatch) (d : Dispatch) → find_made i made ≡ Some d → waits_still m come d ≡ true
    → list_any (int_eq i) (unfinished_ids m come made) ≡ true
unfinished_there m come i [] d e is = absurd (no_some d e)
unfinished_there m come i (x ∷ made) d e is = by (int_eq x.id i) refl (waits_still m come x) refl e (unfinished_there m come i made d)
  where
    by : (b : Bool) → int_eq x.id i ≡ b → (u : Bool) → waits_still m come x ≡ u → (if b then Some x else find_made i made) ≡ Some d
        → (find_made i made ≡ Some d → waits_still m come d ≡ true → list_any (int_eq i) (unfinished_ids m come made) ≡ true)
        → list_any (int_eq i) (map (λ (y : Dispatch). y.id) (if u then x ∷ filter (waits_still m come) made else filter (waits_still m come) made)) ≡ true
    by true at true un here later = ap (λ b. b || list_any (int_eq i) (unfinished_ids m come made)) (turned x.id i at)
    by true at false un here later = absurd (no_true (sym is ∙ (ap (waits_still m come) (sym (some_is x d here)) ∙ un)))
    by false at true un here later = ap (λ b. int_eq i x.id || b) (later here is) ∙ or_true (int_eq i x.id)
    by false at false un here later = later here is

-- ---- what is open at the server is unfinished at the client

not_ended : (mark : Fate) → goes_on mark ≡ true → is_ended mark ≡ false
not_ended Goes_on e = refl
not_ended (Ends x) e = absurd cc
not_ended Broken e = absurd cc

both : (a b : Bool) → a ≡ true → b ≡ false → (a && not b) ≡ true
both a b e f = ap (λ x. x && not b) e ∙ ap not f

begins_going : (kind : Kind) → is_tracked kind ≡ true → goes_on (kind_parts kind []).mark ≡ true
begins_going Plain e = refl
begins_going OneWay e = absurd cc
begins_going Pipe e = refl
begins_going State e = refl

module _ (r : Common) (ok : IsOk r) (t : Talk) (came rest come more : List Message) (cut : come ++ more ≡ t.downs) (s : IsSound r t came) where
  going_come : (d : Dispatch) → goes_on (parts_of (most r) d.desc (responses_of d.id t.downs)).mark ≡ true → goes_on (parts_in (most r) come d).mark ≡ true
  going_come d going =
      went_on (most r) d.desc (responses_of d.id come) (responses_of d.id more)
      (ap (λ xs. goes_on (parts_of (most r) d.desc xs).mark) (sym (answers_join d.id come more) ∙ ap (responses_of d.id) cut) ∙ going)

  still_open : (i : ℤ) (q : Served) → find_query i t.queries ≡ Some q → goes_on_still q ≡ true → (d : Dispatch) × (find_made i t.made ≡ Some d) × (waits_still (most r) come d ≡ true)
  still_open i q there going =
      let (d, made_is, call) = owner_of_query r (find_made i t.made) (asks_of r.entries i t.ups) (asks_of r.entries i came) q (responses_of i t.downs)
      (subst (λ o. IsLine r (find_made i t.made) (asks_of r.entries i t.ups) (asks_of r.entries i came) o (responses_of i t.downs)) there (s.lines i)) in
      let key : d.id ≡ i = find_key (λ (x : Dispatch). x.id) i t.made d made_is in
      let (same_desc, said_is, had) = owed_at r d q (asks_of r.entries i t.ups) (asks_of r.entries i came) (responses_of i t.downs) call in
      let parts_are = call_parts r d q (asks_of r.entries i t.ups) (asks_of r.entries i came) (responses_of i t.downs) call in
      let going_all : goes_on (parts_of (most r) d.desc (responses_of d.id t.downs)).mark ≡ true
      = ap (λ k. goes_on (parts_of (most r) d.desc (responses_of k t.downs)).mark) key ∙ (ap (λ p. goes_on p.mark) parts_are ∙ going) in (
        d,
        made_is,
        both (is_tracked d.desc.kind) (is_ended (parts_in (most r) come d).mark) (ap (λ (x : RpcDesc). is_tracked x.kind) (sym same_desc) ∙ had.tracked)
            (not_ended (parts_in (most r) come d).mark (going_come d going_all)),
      )

  -- so is the one that comes
  module _ (q : Query) (now : came ++ message.Query q ∷ rest ≡ t.ups) (begins : is_abort_query r.entries q ≡ false) (desc : RpcDesc) (handled : answerer r q.tag q.version ≡ Handler desc) where
    new_call : (d : Dispatch) × IsAsked r ok t came rest s q now d
    new_call = asked r ok t came rest s q now

    new_unfinished : (d : Dispatch) → IsAsked r ok t came rest s q now d → waits_still (most r) come d ≡ true
    new_unfinished d is =
        let (none, tag, version) = own_owner r ok t came rest s q now begins d is in
        let owner_is : answerer r d.desc.name d.desc.version ≡ Handler desc = same_owner r ok t came rest s q now begins d is ∙ handled in
        let (same_desc, tracked) = owner_handler r d.desc desc ok is.2.known owner_is in
        let no_answers : responses_of d.id t.downs ≡ [] = ap (λ k. responses_of k t.downs) is.1 ∙ (is.2.before none).1 in
        let going : goes_on (parts_of (most r) d.desc (responses_of d.id t.downs)).mark ≡ true
        = ap (λ xs. goes_on (parts_of (most r) d.desc xs).mark) no_answers ∙ begins_going d.desc.kind tracked in
        both (is_tracked d.desc.kind) (is_ended (parts_in (most r) come d).mark) tracked (not_ended (parts_in (most r) come d).mark (going_come d going))

    all_there : (i : ℤ) → list_any (int_eq i) (q.id ∷ open_ids t.queries) ≡ true → list_any (int_eq i) (unfinished_ids (most r) come t.made) ≡ true
    all_there i e = by (int_eq i q.id) refl e
      where
        by : (b : Bool) → int_eq i q.id ≡ b → (b || list_any (int_eq i) (open_ids t.queries)) ≡ true → list_any (int_eq i) (unfinished_ids (most r) come t.made) ≡ true
        by true at there =
            let (d, is) = new_call in
            unfinished_there (most r) come i t.made d (ap (λ k. find_made k t.made) (same i q.id at) ∙ is.0) (new_unfinished d is)
        by false at there =
            let (p, found, going) = open_found i t.queries s.apart there in
            let (d, made_is, un) = still_open i p found going in
            unfinished_there (most r) come i t.made d made_is un

    not_there : find_query q.id t.queries ≡ None
    not_there =
        let (d, is) = new_call in
        (is.2.before (own_owner r ok t came rest s q now begins d is).0).0

    pub few_open : open_queries t.queries < waiting_count (most r) come t.made
    unfolding IsDistinct
    few_open =
        let few = length-le_from_is_member int_eq_equiv (q.id ∷ open_ids t.queries) (unfinished_ids (most r) come t.made)
        (none_open q.id t.queries not_there, open_distinct t.queries s.apart) all_there in
        omega (arith, few, mapped_length query_key (filter goes_on_still t.queries), mapped_length (λ (d : Dispatch). d.id) (filter (waits_still (most r) come) t.made))
