-- What is so of every id, and that each effect on the talk keeps it.
use Rattle.std.proofs.Common.{◌≡◌, refl, sym, ap, ◌∙◌, subst, ℕ, suc, ◌+◌, ◌*◌, ◌<◌, ℤ, pos, Bool, true, false, not, if◌then◌else◌, List, [], ◌∷◌, ◌++◌, map, filter, length, arith, ◌⊎◌, inl, inr}
use Rattle.std.specs.Prelude.{Option, Some, None}
use Rattle.std.specs.Option.{option_map}
use Rattle.std.specs.Ordering.{int_eq}
use Rattle.readers.specs.Reader.{Each}
use Rattle.bp_value.specs.declared.value.Value.{Value}
use Rattle.rpc_msg.specs.declared.message.Answer.{Answer}
use Rattle.rpc_msg.specs.declared.message.Message.{Message}
use Rattle.rpc_msg.specs.declared.message.Message.TheVariants as message
use Rattle.rpc_schema.specs.declared.desc.Kind.{Kind}
use Rattle.rpc_log.specs.Logs.{responses_of}
use Rattle.rpc_talk.specs.Acts.{Act, answer_by, response}
use Rattle.rpc_talk.specs.Parts.{is_stream, is_tracked}
use Rattle.rpc_meeting.specs.Talks.{Common, Dispatch, Served, Talk, abort_body, abort_of, with_abort, with_answer, cut_at, with_dispatch, down_beat, find_made, find_query, is_abort_query, goes_on_still, is_tracked_dispatch, sort_number, new_id, one_ways_of, query_body, query_of, told_stopped, tracked_of, up_beat, with_act, with_told}
use Rattle.rpc_meeting.proofs.Calls.{Ask, Begins, Stops, IsCall, IsKnown, IsLine, LineAt, ask_by, asks_of, has_begun}
use Rattle.rpc_meeting.proofs.Filters.{answers_beat, answers_other, answers_same, asks_beat, asks_join, asks_other, asks_same}
use Rattle.rpc_meeting.proofs.Lines.{IsTimely, acted_one, call_aborted, call_acted, call_dispatched, call_told, most, told_one}
use Rattle.rpc_meeting.proofs.Look.{apart_ids, each_found, each_map, each_more, each_push, find_key, find_map, find_map_other, find_push_new, find_push_old, find_push_other, itself, same}

-- ---- what is so of a talk

-- a dispatch has the id of its place among those of its sort
abbrev pub IsNumbered : List Dispatch → Dispatch → Type 0
IsNumbered made d =
    ((is_tracked_dispatch d ≡ true) × (j : ℕ) × (d.id ≡ pos (2 * j)) × (j < tracked_of made))
    ⊎ ((is_tracked_dispatch d ≡ false) × (j : ℕ) × (d.id ≡ pos (2 * j + 1)) × (j < one_ways_of made))

abbrev pub Apart : List Served → Type 0
Apart [] = Unit {0}
Apart (q ∷ later) = (find_query q.id later ≡ None) × Apart later

pub record IsSound (r : Common) (t : Talk) (came : List Message) : Type 0 where
  pub lines : (id : ℤ) → LineAt r t came id
  pub own : Each (λ (d : Dispatch). find_made d.id t.made ≡ Some d) t.made
  pub numbered : Each (IsNumbered t.made) t.made
  pub apart : Apart t.queries

-- ---- an id that an effect does not touch

pub same_line : (r : Common) (a c : Option Dispatch) (asks asks_now came came_now : List Ask) (q p : Option Served) (said said_now : List Answer)
    → c ≡ a → asks_now ≡ asks → came_now ≡ came → p ≡ q → said_now ≡ said → IsLine r a asks came q said → IsLine r c asks_now came_now p said_now
same_line r a c asks asks_now came came_now q p said said_now e1 e2 e3 e4 e5 line =
    subst (λ x. IsLine r x asks_now came_now p said_now) (sym e1)
    (subst (λ x. IsLine r a x came_now p said_now) (sym e2)
    (subst (λ x. IsLine r a asks x p said_now) (sym e3)
    (subst (λ x. IsLine r a asks came x said_now) (sym e4)
    (subst (λ x. IsLine r a asks came q x) (sym e5) line))))

-- an id either is another one's, or not
pub tells : (i j : ℤ) → (int_eq i j ≡ true) ⊎ (int_eq i j ≡ false)
tells i j = by (int_eq i j) refl
  where
    by : (b : Bool) → int_eq i j ≡ b → (int_eq i j ≡ true) ⊎ (int_eq i j ≡ false)
    by true e = inl e
    by false e = inr e

-- ---- counts of dispatches

tracked_push : (made : List Dispatch) (d : Dispatch) → is_tracked_dispatch d ≡ true → (tracked_of (made ++ d ∷ []) ≡ tracked_of made + 1) × (one_ways_of (made ++ d ∷ []) ≡ one_ways_of made)
tracked_push [] d e = (ap (λ b. length (if b then d ∷ [] else [])) e, ap (λ b. length (if not b then d ∷ [] else [])) e)
tracked_push (x ∷ made) d e = by (is_tracked_dispatch x) (tracked_push made d e)
  where
    by : (b : Bool) → (tracked_of (made ++ d ∷ []) ≡ tracked_of made + 1) × (one_ways_of (made ++ d ∷ []) ≡ one_ways_of made)
        → (length (if b then x ∷ filter is_tracked_dispatch (made ++ d ∷ []) else filter is_tracked_dispatch (made ++ d ∷ []))
        ≡ length (if b then x ∷ filter is_tracked_dispatch made else filter is_tracked_dispatch made) + 1)
        × (length (if not b then x ∷ filter (λ y. not (is_tracked_dispatch y)) (made ++ d ∷ []) else filter (λ y. not (is_tracked_dispatch y)) (made ++ d ∷ []))
        ≡ length (if not b then x ∷ filter (λ y. not (is_tracked_dispatch y)) made else filter (λ y. not (is_tracked_dispatch y)) made))
    by true (one, two) = (omega (arith, one), two)
    by false (one, two) = (one, ap suc two)

one_way_push : (made : List Dispatch) (d : Dispatch) → is_tracked_dispatch d ≡ false → (tracked_of (made ++ d ∷ []) ≡ tracked_of made) × (one_ways_of (made ++ d ∷ []) ≡ one_ways_of made + 1)
one_way_push [] d e = (ap (λ b. length (if b then d ∷ [] else [])) e, ap (λ b. length (if not b then d ∷ [] else [])) e)
one_way_push (x ∷ made) d e = by (is_tracked_dispatch x) (one_way_push made d e)
  where
    by : (b : Bool) → (tracked_of (made ++ d ∷ []) ≡ tracked_of made) × (one_ways_of (made ++ d ∷ []) ≡ one_ways_of made + 1)
        → (length (if b then x ∷ filter is_tracked_dispatch (made ++ d ∷ []) else filter is_tracked_dispatch (made ++ d ∷ []))
        ≡ length (if b then x ∷ filter is_tracked_dispatch made else filter is_tracked_dispatch made))
        × (length (if not b then x ∷ filter (λ y. not (is_tracked_dispatch y)) (made ++ d ∷ []) else filter (λ y. not (is_tracked_dispatch y)) (made ++ d ∷ []))
        ≡ length (if not b then x ∷ filter (λ y. not (is_tracked_dispatch y)) made else filter (λ y. not (is_tracked_dispatch y)) made) + 1)
    by true (one, two) = (ap suc one, two)
    by false (one, two) = (one, omega (arith, two))

pos_is : (a b : ℕ) → pos a ≡ pos b → a ≡ b
pos_is a b e = cc

-- ---- the next id is new

next_new : (made : List Dispatch) (kind : Kind) (d : Dispatch) → IsNumbered made d → d.id ≡ new_id made kind → ⊥
next_new made kind d numbered e = by (is_tracked kind) numbered e
  where
    by : (b : Bool) → IsNumbered made d → d.id ≡ sort_number b made → ⊥
    by true (inl (t, j, is, lt)) e = let line : 2 * j ≡ 2 * tracked_of made = pos_is _ _ (sym is ∙ e) in omega (arith, line, lt)
    by true (inr (t, j, is, lt)) e = let line : 2 * j + 1 ≡ 2 * tracked_of made = pos_is _ _ (sym is ∙ e) in omega (arith, line)
    by false (inl (t, j, is, lt)) e = let line : 2 * j ≡ 2 * one_ways_of made + 1 = pos_is _ _ (sym is ∙ e) in omega (arith, line)
    by false (inr (t, j, is, lt)) e = let line : 2 * j + 1 ≡ 2 * one_ways_of made + 1 = pos_is _ _ (sym is ∙ e) in omega (arith, line, lt)

pub next_none : (made : List Dispatch) (kind : Kind) → Each (IsNumbered made) made → find_made (new_id made kind) made ≡ None
next_none made kind all = by (find_made (new_id made kind) made) refl
  where
    by : (o : Option Dispatch) → find_made (new_id made kind) made ≡ o → find_made (new_id made kind) made ≡ None
    by None e = e
    by (Some d) e = absurd (next_new made kind d (each_found (λ (x : Dispatch). x.id) (IsNumbered made) (new_id made kind) made d all e)
        (find_key (λ (x : Dispatch). x.id) (new_id made kind) made d e))

-- ---- a dispatch is made

numbered_more : (made : List Dispatch) (d x : Dispatch) → IsNumbered made x → IsNumbered (made ++ d ∷ []) x
numbered_more made d x n = by (is_tracked_dispatch d) refl n
  where
    by : (b : Bool) → is_tracked_dispatch d ≡ b → IsNumbered made x → IsNumbered (made ++ d ∷ []) x
    by true e (inl (t, j, is, lt)) = inl (t, j, is, omega (arith, lt, (tracked_push made d e).0))
    by true e (inr (t, j, is, lt)) = inr (t, j, is, omega (arith, lt, (tracked_push made d e).1))
    by false e (inl (t, j, is, lt)) = inl (t, j, is, omega (arith, lt, (one_way_push made d e).0))
    by false e (inr (t, j, is, lt)) = inr (t, j, is, omega (arith, lt, (one_way_push made d e).1))

numbered_new : (made : List Dispatch) (d : Dispatch) → d.id ≡ new_id made d.desc.kind → IsNumbered (made ++ d ∷ []) d
numbered_new made d is = by (is_tracked d.desc.kind) refl is
  where
    by : (b : Bool) → is_tracked d.desc.kind ≡ b → d.id ≡ sort_number b made → IsNumbered (made ++ d ∷ []) d
    by true e is = inl (e, tracked_of made, is, omega (arith, (tracked_push made d e).0))
    by false e is = inr (e, one_ways_of made, is, omega (arith, (one_way_push made d e).1))

abbrev pub made_key : Dispatch → ℤ
made_key d = d.id

abbrev pub query_key : Served → ℤ
query_key q = q.id

module _ (r : Common) (t : Talk) (came rest : List Message) (cut : came ++ rest ≡ t.ups) (s : IsSound r t came) where
  -- what is asked of nobody did not come
  none_line : (id : ℤ) → find_made id t.made ≡ None → IsLine r None (asks_of r.entries id t.ups) (asks_of r.entries id came) (find_query id t.queries) (responses_of id t.downs)
  none_line id none = subst (λ o. IsLine r o (asks_of r.entries id t.ups) (asks_of r.entries id came) (find_query id t.queries) (responses_of id t.downs)) none (s.lines id)

  front_none : {X : Type 0} (xs ys : List X) → xs ++ ys ≡ [] → xs ≡ []
  front_none [] ys e = refl
  front_none (x ∷ xs) ys e = absurd cc

  none_came : (id : ℤ) → find_made id t.made ≡ None → asks_of r.entries id came ≡ []
  none_came id none =
      front_none (asks_of r.entries id came) (asks_of r.entries id rest)
      (sym (asks_join r.entries id came rest) ∙ (ap (asks_of r.entries id) cut ∙ (none_line id none).0))

  module _ (d : Dispatch) (v : Value) (known : IsKnown r d.desc) (uncut : d.cut ≡ None) (numbered : d.id ≡ new_id t.made d.desc.kind)
      (call : (id : ℤ) → is_abort_query r.entries (record { tag = d.desc.name; version = d.desc.version; id = id; body = query_body d.desc v }) ≡ false) where
    new_none : find_made d.id t.made ≡ None
    new_none = ap (λ i. find_made i t.made) numbered ∙ next_none t.made d.desc.kind s.numbered

    dispatched_line : (id : ℤ) → (int_eq d.id id ≡ true) ⊎ (int_eq d.id id ≡ false) → LineAt r (with_dispatch t d v) came id
    dispatched_line id (inl e) =
        let here : d.id ≡ id = same d.id id e in
        let none : find_made id t.made ≡ None = ap (λ i. find_made i t.made) (sym here) ∙ new_none in
        let (no_asks, no_query, no_answers) = none_line id none in
        let asks_are : asks_of r.entries id (t.ups ++ query_of d v ∷ []) ≡ Begins d.desc.name d.desc.version ∷ []
        = asks_same r.entries id t.ups (record { tag = d.desc.name; version = d.desc.version; id = d.id; body = query_body d.desc v }) here
        ∙ (ap (λ xs. xs ++ ask_by (is_abort_query r.entries (record { tag = d.desc.name; version = d.desc.version; id = d.id; body = query_body d.desc v })) d.desc.name d.desc.version ∷ []) no_asks
        ∙ ap (λ b. ask_by b d.desc.name d.desc.version ∷ []) (call d.id)) in
        subst (λ o. IsLine r o (asks_of r.entries id (t.ups ++ query_of d v ∷ [])) (asks_of r.entries id came) (find_query id t.queries) (responses_of id t.downs))
        (sym (find_push_new made_key id t.made d none here))
        (subst (λ xs. IsLine r (Some d) xs (asks_of r.entries id came) (find_query id t.queries) (responses_of id t.downs)) (sym asks_are)
        (call_dispatched r d known uncut (asks_of r.entries id came) (find_query id t.queries) (responses_of id t.downs) (refl, no_query, no_answers) (none_came id none)))
    dispatched_line id (inr e) =
        same_line r (find_made id t.made) (find_made id (t.made ++ d ∷ [])) (asks_of r.entries id t.ups) (asks_of r.entries id (t.ups ++ query_of d v ∷ []))
        (asks_of r.entries id came) (asks_of r.entries id came) (find_query id t.queries) (find_query id t.queries) (responses_of id t.downs) (responses_of id t.downs)
        (find_push_other made_key id t.made d e)
        (asks_other r.entries id t.ups (record { tag = d.desc.name; version = d.desc.version; id = d.id; body = query_body d.desc v }) e)
        refl refl refl (s.lines id)

    pub sound_dispatched : IsSound r (with_dispatch t d v) came
    sound_dispatched = record {
      lines = λ id. dispatched_line id (tells d.id id);
      own = each_push (λ (x : Dispatch). find_made x.id (t.made ++ d ∷ []) ≡ Some x) t.made d
          (each_more (λ (x : Dispatch). find_made x.id t.made ≡ Some x) (λ (x : Dispatch). find_made x.id (t.made ++ d ∷ []) ≡ Some x) t.made
          (λ x e. find_push_old made_key x.id t.made (d ∷ []) x e) s.own)
          (find_push_new made_key d.id t.made d new_none refl);
      numbered = each_push (IsNumbered (t.made ++ d ∷ [])) t.made d
          (each_more (IsNumbered t.made) (IsNumbered (t.made ++ d ∷ [])) t.made (λ x n. numbered_more t.made d x n) s.numbered)
          (numbered_new t.made d numbered);
      apart = s.apart;
    }

-- ---- a dispatch is aborted

cut_key : (id : ℤ) (n : ℕ) (x : Dispatch) → made_key (cut_at id n x) ≡ made_key x
cut_key id n x = refl

abbrev cut_if : ℕ → Dispatch → Bool → Dispatch
cut_if n x b = record { label = x.label; id = x.id; desc = x.desc; cut = if b then Some n else x.cut }

other_test : (id i j : ℤ) → int_eq id i ≡ false → j ≡ i → int_eq j id ≡ false
other_test id i j e here = by (int_eq j id) refl
  where
    by : (b : Bool) → int_eq j id ≡ b → int_eq j id ≡ false
    by true at = absurd (apart_ids id i e (sym (same j id at) ∙ here))
    by false at = at

-- another one is left as it was
pub cut_other : (id i : ℤ) (n : ℕ) → int_eq id i ≡ false → (x : Dispatch) → x.id ≡ i → cut_at id n x ≡ x
cut_other id i n e x here = ap (cut_if n x) (other_test id i x.id e here)

cut_same : (n : ℕ) (x : Dispatch) → cut_at x.id n x ≡ cut_if n x true
cut_same n x = ap (cut_if n x) (itself x.id)

tracked_map : (id : ℤ) (n : ℕ) (made : List Dispatch) → (tracked_of (map (cut_at id n) made) ≡ tracked_of made) × (one_ways_of (map (cut_at id n) made) ≡ one_ways_of made)
tracked_map id n [] = (refl, refl)
tracked_map id n (x ∷ made) = by (is_tracked x.desc.kind) (tracked_map id n made)
  where
    by : (b : Bool) → (tracked_of (map (cut_at id n) made) ≡ tracked_of made) × (one_ways_of (map (cut_at id n) made) ≡ one_ways_of made)
        → (length (if b then cut_at id n x ∷ filter is_tracked_dispatch (map (cut_at id n) made) else filter is_tracked_dispatch (map (cut_at id n) made))
        ≡ length (if b then x ∷ filter is_tracked_dispatch made else filter is_tracked_dispatch made))
        × (length (if not b then cut_at id n x ∷ filter (λ y. not (is_tracked_dispatch y)) (map (cut_at id n) made) else filter (λ y. not (is_tracked_dispatch y)) (map (cut_at id n) made))
        ≡ length (if not b then x ∷ filter (λ y. not (is_tracked_dispatch y)) made else filter (λ y. not (is_tracked_dispatch y)) made))
    by true (one, two) = (ap suc one, two)
    by false (one, two) = (one, ap suc two)

numbered_cut : (id : ℤ) (n : ℕ) (made : List Dispatch) (x : Dispatch) → IsNumbered made x → IsNumbered (map (cut_at id n) made) (cut_at id n x)
numbered_cut id n made x (inl (t, j, is, lt)) = inl (t, j, is, omega (arith, lt, (tracked_map id n made).0))
numbered_cut id n made x (inr (t, j, is, lt)) = inr (t, j, is, omega (arith, lt, (tracked_map id n made).1))

module _ (r : Common) (t : Talk) (came : List Message) (s : IsSound r t came) (d : Dispatch) (n : ℕ) (here : find_made d.id t.made ≡ Some d) (uncut : d.cut ≡ None)
    (stream : is_stream d.desc.kind ≡ true) (begun : has_begun (most r) d.desc (responses_of d.id t.downs) ≡ true)
    (stops : is_abort_query r.entries (record { tag = d.desc.name; version = d.desc.version; id = d.id; body = abort_body }) ≡ true) where
  cut_found : (x : Dispatch) → find_made x.id t.made ≡ Some x → find_made x.id (map (cut_at d.id n) t.made) ≡ Some (cut_at d.id n x)
  cut_found x e = find_map made_key (cut_at d.id n) (cut_key d.id n) x.id t.made ∙ ap (option_map (cut_at d.id n)) e

  own_call : IsCall r d (asks_of r.entries d.id t.ups) (asks_of r.entries d.id came) (find_query d.id t.queries) (responses_of d.id t.downs)
  own_call = subst (λ o. IsLine r o (asks_of r.entries d.id t.ups) (asks_of r.entries d.id came) (find_query d.id t.queries) (responses_of d.id t.downs)) here (s.lines d.id)

  aborted_own : LineAt r (with_abort t d n) came d.id
  aborted_own =
      let asks_are : asks_of r.entries d.id (t.ups ++ abort_of d ∷ []) ≡ asks_of r.entries d.id t.ups ++ Stops d.desc.name d.desc.version ∷ []
      = asks_same r.entries d.id t.ups (record { tag = d.desc.name; version = d.desc.version; id = d.id; body = abort_body }) refl
      ∙ ap (λ b. asks_of r.entries d.id t.ups ++ ask_by b d.desc.name d.desc.version ∷ []) stops in
      subst (λ o. IsLine r o (asks_of r.entries d.id (t.ups ++ abort_of d ∷ [])) (asks_of r.entries d.id came) (find_query d.id t.queries) (responses_of d.id t.downs))
      (sym (cut_found d here ∙ ap Some (cut_same n d)))
      (subst (λ xs. IsLine r (Some (cut_if n d true)) xs (asks_of r.entries d.id came) (find_query d.id t.queries) (responses_of d.id t.downs)) (sym asks_are)
      (call_aborted r d n (asks_of r.entries d.id t.ups) (asks_of r.entries d.id came) (find_query d.id t.queries) (responses_of d.id t.downs) own_call uncut stream begun))

  aborted_line : (id : ℤ) → (int_eq d.id id ≡ true) ⊎ (int_eq d.id id ≡ false) → LineAt r (with_abort t d n) came id
  aborted_line id (inl e) = subst (LineAt r (with_abort t d n) came) (same d.id id e) aborted_own
  aborted_line id (inr e) =
      same_line r (find_made id t.made) (find_made id (map (cut_at d.id n) t.made)) (asks_of r.entries id t.ups) (asks_of r.entries id (t.ups ++ abort_of d ∷ []))
      (asks_of r.entries id came) (asks_of r.entries id came) (find_query id t.queries) (find_query id t.queries) (responses_of id t.downs) (responses_of id t.downs)
      (find_map_other made_key (cut_at d.id n) (cut_key d.id n) id t.made (cut_other d.id id n e))
      (asks_other r.entries id t.ups (record { tag = d.desc.name; version = d.desc.version; id = d.id; body = abort_body }) e)
      refl refl refl (s.lines id)

  pub sound_aborted : IsSound r (with_abort t d n) came
  sound_aborted = record {
    lines = λ id. aborted_line id (tells d.id id);
    own = each_map (λ (x : Dispatch). find_made x.id t.made ≡ Some x) (λ (x : Dispatch). find_made x.id (map (cut_at d.id n) t.made) ≡ Some x) (cut_at d.id n) t.made
        (λ x e. cut_found x e) s.own;
    numbered = each_map (IsNumbered t.made) (IsNumbered (map (cut_at d.id n) t.made)) (cut_at d.id n) t.made (numbered_cut d.id n t.made) s.numbered;
    apart = s.apart;
  }

-- ---- a handler acts

apart_map : (f : Served → Served) → ((x : Served) → query_key (f x) ≡ query_key x) → (qs : List Served) → Apart qs → Apart (map f qs)
apart_map f keeps [] a = tt
apart_map f keeps (q ∷ qs) (none, later) =
    (ap (λ i. find_query i (map f qs)) (keeps q) ∙ (find_map query_key f keeps q.id qs ∙ ap (option_map f) none), apart_map f keeps qs later)

abbrev act_if : Act → Served → Bool → Served
act_if act x b = record { id = x.id; desc = x.desc; acts = if b then x.acts ++ act ∷ [] else x.acts; told = x.told }

pub act_other : (id i : ℤ) (act : Act) → int_eq id i ≡ false → (x : Served) → x.id ≡ i → with_act id act x ≡ x
act_other id i act e x here = ap (act_if act x) (other_test id i x.id e here)

pub act_same : (act : Act) (x : Served) → with_act x.id act x ≡ acted_one x act
act_same act x = ap (act_if act x) (itself x.id)

-- the dispatch of a query that the server has
pub owner_of_query : (r : Common) (o : Option Dispatch) (asks came : List Ask) (q : Served) (said : List Answer) → IsLine r o asks came (Some q) said
    → (d : Dispatch) × (o ≡ Some d) × IsCall r d asks came (Some q) said
owner_of_query r None asks came q said (a, b, c) = absurd cc
owner_of_query r (Some d) asks came q said line = (d, refl, line)

module _ (r : Common) (t : Talk) (came : List Message) (s : IsSound r t came) (q : Served) (act : Act) (here : find_query q.id t.queries ≡ Some q)
    (going : goes_on_still q ≡ true) (timely : IsTimely (most r) q act) where
  acted_own : LineAt r (with_answer t q act) came q.id
  acted_own =
      let (d, made_is, call) = owner_of_query r (find_made q.id t.made) (asks_of r.entries q.id t.ups) (asks_of r.entries q.id came) q (responses_of q.id t.downs)
      (subst (λ o. IsLine r (find_made q.id t.made) (asks_of r.entries q.id t.ups) (asks_of r.entries q.id came) o (responses_of q.id t.downs)) here (s.lines q.id)) in
      let query_is : find_query q.id (map (with_act q.id act) t.queries) ≡ Some (acted_one q act)
      = find_map query_key (with_act q.id act) (λ x. refl) q.id t.queries ∙ (ap (option_map (with_act q.id act)) here ∙ ap Some (act_same act q)) in
      same_line r (Some d) (find_made q.id t.made) (asks_of r.entries q.id t.ups) (asks_of r.entries q.id t.ups) (asks_of r.entries q.id came) (asks_of r.entries q.id came)
      (Some (acted_one q act)) (find_query q.id (map (with_act q.id act) t.queries)) (responses_of q.id t.downs ++ answer_by q.desc act ∷ [])
      (responses_of q.id (t.downs ++ response q.id (answer_by q.desc act) ∷ [])) made_is refl refl query_is (answers_same q.id t.downs (answer_by q.desc act))
      (call_acted r d q act going timely (asks_of r.entries q.id t.ups) (asks_of r.entries q.id came) (responses_of q.id t.downs) call)

  acted_line : (id : ℤ) → (int_eq q.id id ≡ true) ⊎ (int_eq q.id id ≡ false) → LineAt r (with_answer t q act) came id
  acted_line id (inl e) = subst (LineAt r (with_answer t q act) came) (same q.id id e) acted_own
  acted_line id (inr e) =
      same_line r (find_made id t.made) (find_made id t.made) (asks_of r.entries id t.ups) (asks_of r.entries id t.ups)
      (asks_of r.entries id came) (asks_of r.entries id came) (find_query id t.queries) (find_query id (map (with_act q.id act) t.queries))
      (responses_of id t.downs) (responses_of id (t.downs ++ response q.id (answer_by q.desc act) ∷ [])) refl refl refl
      (find_map_other query_key (with_act q.id act) (λ x. refl) id t.queries (act_other q.id id act e))
      (answers_other id q.id t.downs (answer_by q.desc act) e) (s.lines id)

  pub sound_acted : IsSound r (with_answer t q act) came
  sound_acted = record {
    lines = λ id. acted_line id (tells q.id id);
    own = s.own;
    numbered = s.numbered;
    apart = apart_map (with_act q.id act) (λ x. refl) t.queries s.apart;
  }

-- ---- an act was refused because its query was stopped

abbrev told_if : Served → Bool → Served
told_if x b = record { id = x.id; desc = x.desc; acts = x.acts; told = if b then true else x.told }

pub told_other : (id i : ℤ) → int_eq id i ≡ false → (x : Served) → x.id ≡ i → with_told id x ≡ x
told_other id i e x here = ap (told_if x) (other_test id i x.id e here)

pub told_same : (x : Served) → with_told x.id x ≡ told_one x
told_same x = ap (told_if x) (itself x.id)

module _ (r : Common) (t : Talk) (came : List Message) (s : IsSound r t came) (q : Served) (here : find_query q.id t.queries ≡ Some q) where
  told_own : LineAt r (told_stopped t q.id) came q.id
  told_own =
      let (d, made_is, call) = owner_of_query r (find_made q.id t.made) (asks_of r.entries q.id t.ups) (asks_of r.entries q.id came) q (responses_of q.id t.downs)
      (subst (λ o. IsLine r (find_made q.id t.made) (asks_of r.entries q.id t.ups) (asks_of r.entries q.id came) o (responses_of q.id t.downs)) here (s.lines q.id)) in
      let query_is : find_query q.id (map (with_told q.id) t.queries) ≡ Some (told_one q)
      = find_map query_key (with_told q.id) (λ x. refl) q.id t.queries ∙ (ap (option_map (with_told q.id)) here ∙ ap Some (told_same q)) in
      same_line r (Some d) (find_made q.id t.made) (asks_of r.entries q.id t.ups) (asks_of r.entries q.id t.ups) (asks_of r.entries q.id came) (asks_of r.entries q.id came)
      (Some (told_one q)) (find_query q.id (map (with_told q.id) t.queries)) (responses_of q.id t.downs) (responses_of q.id t.downs) made_is refl refl query_is refl
      (call_told r d q (asks_of r.entries q.id t.ups) (asks_of r.entries q.id came) (responses_of q.id t.downs) call)

  told_line : (id : ℤ) → (int_eq q.id id ≡ true) ⊎ (int_eq q.id id ≡ false) → LineAt r (told_stopped t q.id) came id
  told_line id (inl e) = subst (LineAt r (told_stopped t q.id) came) (same q.id id e) told_own
  told_line id (inr e) =
      same_line r (find_made id t.made) (find_made id t.made) (asks_of r.entries id t.ups) (asks_of r.entries id t.ups)
      (asks_of r.entries id came) (asks_of r.entries id came) (find_query id t.queries) (find_query id (map (with_told q.id) t.queries))
      (responses_of id t.downs) (responses_of id t.downs) refl refl refl
      (find_map_other query_key (with_told q.id) (λ x. refl) id t.queries (told_other q.id id e)) refl (s.lines id)

  pub sound_told : IsSound r (told_stopped t q.id) came
  sound_told = record {
    lines = λ id. told_line id (tells q.id id);
    own = s.own;
    numbered = s.numbered;
    apart = apart_map (with_told q.id) (λ x. refl) t.queries s.apart;
  }

-- ---- heartbeats

module _ (r : Common) (t : Talk) (came : List Message) (s : IsSound r t came) where
  pub sound_up_beat : IsSound r (up_beat t) came
  sound_up_beat = record {
    lines = λ id. same_line r (find_made id t.made) (find_made id t.made) (asks_of r.entries id t.ups) (asks_of r.entries id (t.ups ++ message.Heartbeat ∷ []))
        (asks_of r.entries id came) (asks_of r.entries id came) (find_query id t.queries) (find_query id t.queries) (responses_of id t.downs) (responses_of id t.downs)
        refl (asks_beat r.entries id t.ups) refl refl refl (s.lines id);
    own = s.own;
    numbered = s.numbered;
    apart = s.apart;
  }

  pub sound_down_beat : IsSound r (down_beat t) came
  sound_down_beat = record {
    lines = λ id. same_line r (find_made id t.made) (find_made id t.made) (asks_of r.entries id t.ups) (asks_of r.entries id t.ups)
        (asks_of r.entries id came) (asks_of r.entries id came) (find_query id t.queries) (find_query id t.queries)
        (responses_of id t.downs) (responses_of id (t.downs ++ message.Heartbeat ∷ [])) refl refl refl refl (answers_beat id t.downs) (s.lines id);
    own = s.own;
    numbered = s.numbered;
    apart = s.apart;
  }
