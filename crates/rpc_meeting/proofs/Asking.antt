-- Dispatches and aborts keep what is so of a world.
use Rattle.std.proofs.Common.{◌≡◌, refl, sym, ap, ◌∙◌, subst, ℕ, suc, ◌+◌, ◌-◌, ◌*◌, ◌^◌, ◌≤◌, ◌<◌, ℤ, pos, Bool, true, false, not, ◌&&◌, if◌then◌else◌, List, [], ◌∷◌, ◌++◌, map, filter, length, nat_le, int_lt, arith, ◌⊎◌, inl, inr}
use Rattle.std.specs.Prelude.{Option, Some, None}
use Rattle.std.specs.List.{find}
use Rattle.std.specs.Option.{is_some}
use Rattle.std.specs.Str.{bytes_eq}
use Rattle.std.specs.Ordering.{int_eq}
use Rattle.std.proofs.lemmas.Bool.{ltb-false}
use Rattle.std.proofs.lemmas.Bool.Decides.{Decides-int_eq}
use Rattle.std.proofs.lemmas.List.{append-nil}
use Rattle.std.proofs.lemmas.Slice.Eq.{bytes_eq-Decides}
use Rattle.readers.specs.Reader.{Each}
use Rattle.bp_value.specs.declared.shape.Shape.TheVariants as shp
use Rattle.bp_value.specs.Fits.{Fits, InRange}
use Rattle.bp_value.specs.Form.{form_of}
use Rattle.bp_value.proofs.Fitted.{range_is}
use Rattle.bp_value.proofs.Forms.{form_of-Unit}
use Rattle.bp_value.specs.declared.value.Value.{Value}
use Rattle.bp_value.specs.declared.value.Value.TheVariants as val
use Rattle.rpc_msg.specs.declared.message.Message.{Message}
use Rattle.rpc_schema.specs.declared.desc.Entry.{Entry}
use Rattle.rpc_log.specs.Logs.{responses_of}
use Rattle.rpc_talk.specs.Acts.{is_short}
use Rattle.rpc_talk.specs.Parts.{Held, cut_ending, cut_parts, is_ended, is_stream, is_tracked}
use Rattle.rpc_meeting.specs.Deeds.{AlreadyEnded, Closed, IdsSpent, NotBegun, NotOpen, NotStream, TooLong, TooManyOpen, find_label}
use Rattle.rpc_meeting.specs.Steps.{Stepped, abort_held, dispatch, done, last_id, refused}
use Rattle.rpc_meeting.specs.Talks.{Common, Dispatch, with_abort, abort_of, cut_at, with_dispatch, line_named, find_made, find_query, is_entry, is_nil, is_tracked_dispatch, waits_still, new_id, one_ways_of, parts_in, query_of, received, sort_number, tracked_of, waiting_count}
use Rattle.rpc_meeting.specs.Worlds.{World, arrived, come, has_header, header_size, is_shut, set_talk}
use Rattle.rpc_meeting.proofs.Calls.{IsCall, IsKnown, IsLine, asks_of, has_begun}
use Rattle.rpc_meeting.proofs.Carried.{asked_range, carried_aborted, carried_dispatched}
use Rattle.rpc_meeting.proofs.Filters.{answers_join}
use Rattle.rpc_meeting.proofs.Goods.{IsGood, good_talk}
use Rattle.rpc_meeting.proofs.Lines.{most}
use Rattle.rpc_meeting.proofs.Look.{no_some, no_true, some_is}
use Rattle.rpc_meeting.proofs.Owners.{IsOk}
use Rattle.rpc_meeting.proofs.Sound.{sound_aborted, sound_dispatched}
use Rattle.rpc_meeting.proofs.Welcomed.{begun_on}
use Rattle.rpc_meeting.proofs.Whole.{tells_le, whole_prefix}

-- ---- one of two steps

pub if_good : (r : Common) (b : Bool) (x y : Stepped) → (b ≡ true → IsGood r x.world) → (b ≡ false → IsGood r y.world) → IsGood r (if b then x else y).world
if_good r true x y f g = f refl
if_good r false x y f g = g refl

-- ---- what is found

pub found_is : {X : Type 0} (p : X → Bool) (xs : List X) (x : X) → find p xs ≡ Some x → p x ≡ true
found_is p [] x e = absurd (no_some x e)
found_is p (y ∷ xs) x e = by (p y) refl e (found_is p xs x)
  where
    by : (b : Bool) → p y ≡ b → (if b then Some y else find p xs) ≡ Some x → (find p xs ≡ Some x → p x ≡ true) → p x ≡ true
    by true at here later = ap p (sym (some_is y x here)) ∙ at
    by false at here later = later here

pub each_find : {X : Type 0} (P : X → Type 0) (p : X → Bool) (xs : List X) (x : X) → Each P xs → find p xs ≡ Some x → P x
each_find P p [] x all e = absurd (no_some x e)
each_find P p (y ∷ xs) x all e = by (p y) e (each_find P p xs x all.1)
  where
    by : (b : Bool) → (if b then Some y else find p xs) ≡ Some x → (find p xs ≡ Some x → P x) → P x
    by true here later = subst P (some_is y x here) all.0
    by false here later = later here

both_true : (a b : Bool) → (a && b) ≡ true → (a ≡ true) × (b ≡ true)
both_true true true e = (refl, refl)
both_true true false e = absurd cc
both_true false b e = absurd cc

-- a line that is found has the name and the version
pub entry_named : (es : List Entry) (tag : List ℕ) (version : ℤ) (e : Entry) → line_named es tag version ≡ Some e → line_named es e.desc.name e.desc.version ≡ Some e
entry_named es tag version e here =
    let (same_tag, same_version) = both_true (bytes_eq e.desc.name tag) (int_eq e.desc.version version) (found_is (is_entry tag version) es e here) in
    ap (λ n. line_named es n e.desc.version) ((bytes_eq-Decides e.desc.name tag).0 same_tag)
    ∙ (ap (line_named es tag) ((Decides-int_eq e.desc.version version).0 same_version) ∙ here)

-- ---- counts

unfinished_push : (m : ℕ) (come : List Message) (made : List Dispatch) (d : Dispatch) → waiting_count m come (made ++ d ∷ []) ≤ waiting_count m come made + 1
unfinished_push m come [] d = by (waits_still m come d)
  where
    by : (b : Bool) → length (if b then d ∷ [] else []) ≤ 0 + 1
    by true = omega arith
    by false = omega arith
unfinished_push m come (x ∷ made) d = by (waits_still m come x) (unfinished_push m come made d)
  where
    by : (b : Bool) → waiting_count m come (made ++ d ∷ []) ≤ waiting_count m come made + 1
        → length (if b then x ∷ filter (waits_still m come) (made ++ d ∷ []) else filter (waits_still m come) (made ++ d ∷ []))
        ≤ length (if b then x ∷ filter (waits_still m come) made else filter (waits_still m come) made) + 1
    by true le = omega (arith, le)
    by false le = le

-- a one-way dispatch is never waited for
unfinished_one_way : (m : ℕ) (come : List Message) (made : List Dispatch) (d : Dispatch) → is_tracked_dispatch d ≡ false → waiting_count m come (made ++ d ∷ []) ≡ waiting_count m come made
unfinished_one_way m come [] d one_way = ap (λ b. length (if b && not (is_ended (parts_in m come d).mark) then d ∷ [] else [])) one_way
unfinished_one_way m come (x ∷ made) d one_way = by (waits_still m come x) (unfinished_one_way m come made d one_way)
  where
    by : (b : Bool) → waiting_count m come (made ++ d ∷ []) ≡ waiting_count m come made
        → length (if b then x ∷ filter (waits_still m come) (made ++ d ∷ []) else filter (waits_still m come) (made ++ d ∷ []))
        ≡ length (if b then x ∷ filter (waits_still m come) made else filter (waits_still m come) made)
    by true e = ap suc e
    by false e = e

-- an aborted one is waited for as before
unfinished_cut : (m : ℕ) (come : List Message) (id : ℤ) (n : ℕ) (made : List Dispatch) → waiting_count m come (map (cut_at id n) made) ≡ waiting_count m come made
unfinished_cut m come id n [] = refl
unfinished_cut m come id n (x ∷ made) = by (waits_still m come x) (unfinished_cut m come id n made)
  where
    by : (b : Bool) → waiting_count m come (map (cut_at id n) made) ≡ waiting_count m come made
        → length (if b then cut_at id n x ∷ filter (waits_still m come) (map (cut_at id n) made) else filter (waits_still m come) (map (cut_at id n) made))
        ≡ length (if b then x ∷ filter (waits_still m come) made else filter (waits_still m come) made)
    by true e = ap suc e
    by false e = e

-- ---- ids and values

not_not : (b : Bool) → not b ≡ false → b ≡ true
not_not true e = refl
not_not false e = absurd cc

pos_range : (n : ℕ) → int_lt last_id (pos n) ≡ false → InRange 62 (pos n)
pos_range n given = (range_is 62 (pos n)).1 (omega (arith, ltb-false (2 ^ 61) n given))

-- an id that is given has 63 bits
given_range : (made : List Dispatch) (d : Dispatch) → d.id ≡ new_id made d.desc.kind → int_lt last_id d.id ≡ false → InRange 62 d.id
given_range made d numbered given = subst (InRange 62) (sym numbered) (by (is_tracked d.desc.kind) (ap (int_lt last_id) (sym numbered) ∙ given))
  where
    by : (b : Bool) → int_lt last_id (sort_number b made) ≡ false → InRange 62 (sort_number b made)
    by true e = pos_range (2 * tracked_of made) e
    by false e = pos_range (2 * one_ways_of made + 1) e

-- the value that asks for the menu is of its shape
pub unit_fits : (m : ℕ) → Fits m (form_of shp.Unit) val.Unit
unfolding Fits
unit_fits m = subst (λ f. Fits m f val.Unit) (sym form_of-Unit) refl

module _ (r : Common) (ok : IsOk r) (w : World) (g : IsGood r w) where
  -- ---- a dispatch is made

  module _ (d : Dispatch) (v : Value) (known : IsKnown r d.desc) (uncut : d.cut ≡ None) (numbered : d.id ≡ new_id w.talk.made d.desc.kind)
      (fits : Fits (most r) (form_of d.desc.query) v) where
    few_now : (is_tracked d.desc.kind && nat_le r.limits.max_open (waiting_count (most r) (come w) w.talk.made)) ≡ false
        → waiting_count (most r) (come w) (w.talk.made ++ d ∷ []) ≤ r.limits.max_open
    few_now room = by (is_tracked d.desc.kind) refl room
      where
        by : (b : Bool) → is_tracked d.desc.kind ≡ b → (b && nat_le r.limits.max_open (waiting_count (most r) (come w) w.talk.made)) ≡ false
            → waiting_count (most r) (come w) (w.talk.made ++ d ∷ []) ≤ r.limits.max_open
        by false one_way room = subst (λ n. n ≤ r.limits.max_open) (sym (unfinished_one_way (most r) (come w) w.talk.made d one_way)) g.few
        by true tracked room = space (tells_le r.limits.max_open (waiting_count (most r) (come w) w.talk.made)) (unfinished_push (most r) (come w) w.talk.made d)
          where
            space : ((nat_le r.limits.max_open (waiting_count (most r) (come w) w.talk.made) ≡ true) × (r.limits.max_open ≤ waiting_count (most r) (come w) w.talk.made))
                ⊎ ((nat_le r.limits.max_open (waiting_count (most r) (come w) w.talk.made) ≡ false) × (waiting_count (most r) (come w) w.talk.made < r.limits.max_open))
                → waiting_count (most r) (come w) (w.talk.made ++ d ∷ []) ≤ waiting_count (most r) (come w) w.talk.made + 1
                → waiting_count (most r) (come w) (w.talk.made ++ d ∷ []) ≤ r.limits.max_open
            space (inl (e, full)) le = absurd (no_true (sym e ∙ room))
            space (inr (e, some)) le = omega (arith, some, le)

    good_dispatched : is_short (most r) (query_of d v) ≡ true → int_lt last_id d.id ≡ false
        → (is_tracked d.desc.kind && nat_le r.limits.max_open (waiting_count (most r) (come w) w.talk.made)) ≡ false → IsGood r (set_talk w (with_dispatch w.talk d v))
    good_dispatched short given room =
        let (rest, cut) = whole_prefix w.talk.ups (w.up - header_size) in
        good_talk r w g (with_dispatch w.talk d v) (query_of d v ∷ [], refl) ([], sym (append-nil w.talk.downs))
        (sound_dispatched r w.talk (arrived w) rest cut g.sound d v known uncut numbered (λ id. ok.calls d.desc id v known)) g.marks
        (carried_dispatched r w.talk g.carried d v known (given_range w.talk.made d numbered given) fits short) (few_now room)

    pub good_dispatch : IsGood r (dispatch r w d v).world
    good_dispatch =
        if_good r (is_shut w.client) (refused w Closed) _ (λ e. g) (λ e.
        if_good r (not (has_header w.got)) (refused w NotOpen) _ (λ e. g) (λ e.
        if_good r (not (is_short (most r) (query_of d v))) (refused w TooLong) _ (λ e. g) (λ short.
        if_good r (is_tracked d.desc.kind && nat_le r.limits.max_open (waiting_count (most r) (come w) w.talk.made)) (refused w TooManyOpen) _ (λ e. g) (λ room.
        if_good r (int_lt last_id d.id) (refused w IdsSpent) (done (set_talk w (with_dispatch w.talk d v))) (λ e. g)
        (λ given. good_dispatched (not_not (is_short (most r) (query_of d v)) short) given room)))))

  -- ---- a dispatch is aborted

  module _ (label : List ℕ) (d : Dispatch) (here : find_label label w.talk.made ≡ Some d) where
    pub own : find_made d.id w.talk.made ≡ Some d
    own = each_find (λ (x : Dispatch). find_made x.id w.talk.made ≡ Some x) (λ (x : Dispatch). bytes_eq x.label label) w.talk.made d g.sound.own here

    call : IsCall r d (asks_of r.entries d.id w.talk.ups) (asks_of r.entries d.id (arrived w)) (find_query d.id w.talk.queries) (responses_of d.id w.talk.downs)
    call = subst (λ o. IsLine r o (asks_of r.entries d.id w.talk.ups) (asks_of r.entries d.id (arrived w)) (find_query d.id w.talk.queries) (responses_of d.id w.talk.downs)) own (g.sound.lines d.id)

    pub found_known : IsKnown r d.desc
    found_known = call.known

    abbrev h : Held
    h = received (most r) (come w) false d

    not_cut : is_some h.ending ≡ false → d.cut ≡ None
    not_cut e = by d.cut refl
      where
        by : (o : Option ℕ) → d.cut ≡ o → d.cut ≡ None
        by None is = is
        by (Some n) is = absurd (no_true (sym (ap (λ o. is_some (cut_ending o (parts_in (most r) (come w) d).mark false)) is) ∙ e))

    begun_down : is_some h.ending ≡ false → is_nil h.parts ≡ false → has_begun (most r) d.desc (responses_of d.id w.talk.downs) ≡ true
    begun_down e some =
        let (rest, cut) = whole_prefix w.talk.downs (w.got - header_size) in
        let now : not (is_nil (parts_in (most r) (come w) d).parts) ≡ true = ap not (ap (λ o. is_nil (cut_parts o (parts_in (most r) (come w) d).parts)) (sym (not_cut e)) ∙ some) in
        ap (λ l. has_begun (most r) d.desc (responses_of d.id l)) (sym cut)
        ∙ (ap (has_begun (most r) d.desc) (answers_join d.id (come w) rest) ∙ begun_on (most r) d.desc (responses_of d.id (come w)) (responses_of d.id rest) now)

    good_aborted : (n : ℕ) → is_some h.ending ≡ false → is_stream d.desc.kind ≡ true → is_nil h.parts ≡ false → IsGood r (set_talk w (with_abort w.talk d n))
    good_aborted n ending stream parts =
        good_talk r w g (with_abort w.talk d n) (abort_of d ∷ [], refl) ([], sym (append-nil w.talk.downs))
        (sound_aborted r w.talk (arrived w) g.sound d n own (not_cut ending) stream (begun_down ending parts) (ok.aborts d.desc d.id call.known stream)) g.marks
        (carried_aborted r w.talk g.carried d n call.known (asked_range r d.id w.talk.ups _ _ g.carried.ups call.asks_are) stream)
        (subst (λ k. k ≤ r.limits.max_open) (sym (unfinished_cut (most r) (come w) d.id n w.talk.made)) g.few)

    pub good_abort : IsGood r (abort_held r w d h).world
    good_abort =
        if_good r (is_shut w.client) (refused w Closed) _ (λ e. g) (λ e.
        if_good r (is_some h.ending) (refused w AlreadyEnded) _ (λ e. g) (λ ending.
        if_good r (not (is_stream d.desc.kind)) (refused w NotStream) _ (λ e. g) (λ stream.
        if_good r (is_nil h.parts) (refused w NotBegun) (done (set_talk w (with_abort w.talk d (length h.parts)))) (λ e. g) (λ parts.
        good_aborted (length h.parts) ending (not_not (is_stream d.desc.kind) stream) parts))))
