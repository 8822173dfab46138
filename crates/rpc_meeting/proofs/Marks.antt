-- An act that stops a query stands only where its abort came, and an act was refused for that only behind it.
use Rattle.std.proofs.Common.{◌≡◌, refl, sym, ap, ◌∙◌, subst, ℤ, Bool, true, false, not, ◌&&◌, ◌||◌, if◌then◌else◌, List, [], ◌∷◌, ◌++◌, map, ◌⊎◌, inl, inr}
use Rattle.std.specs.Prelude.{Option, Some, None}
use Rattle.std.specs.List.{list_any}
use Rattle.std.specs.Option.{option_map}
use Rattle.std.specs.Ordering.{int_eq}
use Rattle.std.proofs.lemmas.List.Folds.{list_any-append}
use Rattle.rpc_msg.specs.declared.message.Query.{Query}
use Rattle.rpc_msg.specs.declared.message.Message.{Message}
use Rattle.rpc_msg.specs.declared.message.Message.TheVariants as message
use Rattle.rpc_schema.specs.declared.desc.RpcDesc.{RpcDesc}
use Rattle.rpc_talk.specs.Acts.{Act}
use Rattle.rpc_talk.specs.Acts as acts
use Rattle.rpc_meeting.specs.Talks.{Common, Answerer, Dispatch, Menu, Nobody, Listener, Handler, Served, Talk, answerer, asked_by, find_query, heard_up, is_abort_query, is_stop, is_stopped, new_query, stop_query, stopped, stops_one, told_stopped, with_act, with_answer, with_told}
use Rattle.rpc_meeting.proofs.Calls.{Ask, Begins, ask_by, asks_of}
use Rattle.rpc_meeting.proofs.Filters.{asks_join, asks_same}
use Rattle.rpc_meeting.proofs.Heard.{ComesNext, asked, own_owner, stops_begins}
use Rattle.rpc_meeting.proofs.Lines.{acted_one}
use Rattle.rpc_meeting.proofs.Look.{find_key, find_map, find_map_other, find_push_new, find_push_other, same, some_is}
use Rattle.rpc_meeting.proofs.Owners.{IsOk}
use Rattle.rpc_meeting.proofs.Sound.{IsSound, act_other, act_same, query_key, tells, told_other, told_same}

-- the call came, and its abort
abbrev pub CameTwice : List Ask → Type 0
CameTwice came = (x : Ask) × (y : Ask) × (later : List Ask) × (came ≡ x ∷ (y ∷ later))

pub record IsMarked (q : Served) (came : List Ask) : Type 0 where
  pub stop : list_any is_stop q.acts ≡ true → CameTwice came
  pub told : q.told ≡ true → list_any is_stop q.acts ≡ true

abbrev pub MarksAt : Common → Talk → List Message → ℤ → Type 0
MarksAt r t came id = (q : Served) → find_query id t.queries ≡ Some q → IsMarked q (asks_of r.entries id came)

-- of every query that the server has
abbrev pub AreMarked : Common → Talk → List Message → Type 0
AreMarked r t came = (id : ℤ) → MarksAt r t came id

-- ---- more that comes

twice_more : (came more : List Ask) → CameTwice came → CameTwice (came ++ more)
twice_more came more (x, y, later, is) = (x, y, later ++ more, ap (λ c. c ++ more) is)

marked_more : (q : Served) (came more : List Ask) → IsMarked q came → IsMarked q (came ++ more)
marked_more q came more m = record { stop = λ s. twice_more came more (m.stop s); told = m.told }

pub marks_come : (r : Common) (t : Talk) (came more : List Message) → AreMarked r t came → AreMarked r t (came ++ more)
marks_come r t came more all id q here =
    subst (IsMarked q) (sym (asks_join r.entries id came more)) (marked_more q (asks_of r.entries id came) (asks_of r.entries id more) (all id q here))

-- ---- a handler acts

or_true : (b : Bool) → (b || true) ≡ true
or_true true = refl
or_true false = refl

or_false : (b : Bool) → (b || false) ≡ b
or_false true = refl
or_false false = refl

no_stop : (done : List Act) (act : Act) → is_stop act ≡ false → list_any is_stop (done ++ act ∷ []) ≡ list_any is_stop done
no_stop done act e = list_any-append is_stop done (act ∷ []) ∙ (ap (λ b. list_any is_stop done || (b || false)) e ∙ or_false (list_any is_stop done))

marked_acted : (q : Served) (act : Act) (came : List Ask) → is_stop act ≡ false → IsMarked q came → IsMarked (acted_one q act) came
marked_acted q act came e m = record {
  stop = λ s. m.stop (sym (no_stop q.acts act e) ∙ s);
  told = λ s. no_stop q.acts act e ∙ m.told s;
}

module _ (r : Common) (t : Talk) (came : List Message) (all : AreMarked r t came) (q : Served) (here : find_query q.id t.queries ≡ Some q) where
  -- of the changed query, and of the others
  changed : (f : Served → Served) → ((x : Served) → query_key (f x) ≡ query_key x) → ((id : ℤ) → int_eq q.id id ≡ false → (x : Served) → x.id ≡ id → f x ≡ x)
      → ((came : List Ask) → IsMarked q came → IsMarked (f q) came) → AreMarked r (record { ups = t.ups; downs = t.downs; made = t.made; queries = map f t.queries }) came
  changed f keeps others own id p found = by (tells q.id id)
    where
      by : (int_eq q.id id ≡ true) ⊎ (int_eq q.id id ≡ false) → IsMarked p (asks_of r.entries id came)
      by (inl e) =
          let at : q.id ≡ id = same q.id id e in
          let there : find_query id (map f t.queries) ≡ Some (f q)
          = find_map query_key f keeps id t.queries ∙ ap (option_map f) (ap (λ i. find_query i t.queries) (sym at) ∙ here) in
          subst (λ x. IsMarked x (asks_of r.entries id came)) (some_is (f q) p (sym there ∙ found))
          (own (asks_of r.entries id came) (subst (λ i. IsMarked q (asks_of r.entries i came)) at (all q.id q here)))
      by (inr e) = all id p (sym (find_map_other query_key f keeps id t.queries (others id e)) ∙ found)

  pub marks_acted : (act : Act) → is_stop act ≡ false → AreMarked r (with_answer t q act) came
  marks_acted act e = changed (with_act q.id act) (λ x. refl) (λ id o x h. act_other q.id id act o x h)
      (λ c m. subst (λ x. IsMarked x c) (sym (act_same act q)) (marked_acted q act c e m))

  pub marks_told : is_stopped q ≡ true → AreMarked r (told_stopped t q.id) came
  marks_told s = changed (with_told q.id) (λ x. refl) (λ id o x h. told_other q.id id o x h)
      (λ c m. subst (λ x. IsMarked x c) (sym (told_same q)) (record { stop = m.stop; told = λ u. first_of (list_any is_stop q.acts) (not q.told) s }))
    where
      first_of : (a b : Bool) → (a && b) ≡ true → a ≡ true
      first_of true b e = refl
      first_of false b e = absurd cc

  -- its abort comes, and stops it
  marks_stop : (now : List Message) → CameTwice (asks_of r.entries q.id (came ++ now)) → AreMarked r (with_answer t q acts.Stop) (came ++ now)
  marks_stop now twice id p found = by (tells q.id id)
    where
      by : (int_eq q.id id ≡ true) ⊎ (int_eq q.id id ≡ false) → IsMarked p (asks_of r.entries id (came ++ now))
      by (inl e) =
          let at : q.id ≡ id = same q.id id e in
          let there : find_query id (map (with_act q.id acts.Stop) t.queries) ≡ Some (acted_one q acts.Stop)
          = find_map query_key (with_act q.id acts.Stop) (λ x. refl) id t.queries
          ∙ (ap (option_map (with_act q.id acts.Stop)) (ap (λ i. find_query i t.queries) (sym at) ∙ here) ∙ ap Some (act_same acts.Stop q)) in
          subst (λ x. IsMarked x (asks_of r.entries id (came ++ now))) (some_is (acted_one q acts.Stop) p (sym there ∙ found)) (record {
            stop = λ s. subst (λ i. CameTwice (asks_of r.entries i (came ++ now))) at twice;
            told = λ s. list_any-append is_stop q.acts (acts.Stop ∷ []) ∙ or_true (list_any is_stop q.acts);
          })
      by (inr e) =
          marks_come r t came now all id p (sym (find_map_other query_key (with_act q.id acts.Stop) (λ x. refl) id t.queries (act_other q.id id acts.Stop e)) ∙ found)

-- ---- a query comes

module _ (r : Common) (t : Talk) (came : List Message) (all : AreMarked r t came) (q : Query) (none : find_query q.id t.queries ≡ None) where
  new_marked : (desc : RpcDesc) (came : List Ask) → IsMarked (new_query q desc) came
  new_marked desc came = record { stop = λ s. absurd cc; told = λ s. absurd cc }

  marks_entered : (desc : RpcDesc) → AreMarked r (record { ups = t.ups; downs = t.downs; made = t.made; queries = t.queries ++ new_query q desc ∷ [] }) came
  marks_entered desc id p found = by (tells q.id id)
    where
      by : (int_eq q.id id ≡ true) ⊎ (int_eq q.id id ≡ false) → IsMarked p (asks_of r.entries id came)
      by (inl e) =
          let at : q.id ≡ id = same q.id id e in
          let there = find_push_new query_key id t.queries (new_query q desc) (ap (λ i. find_query i t.queries) (sym at) ∙ none) at in
          subst (λ x. IsMarked x (asks_of r.entries id came)) (some_is (new_query q desc) p (sym there ∙ found)) (new_marked desc (asks_of r.entries id came))
      by (inr e) = all id p (sym (find_push_other query_key id t.queries (new_query q desc) e) ∙ found)

  marks_asked : (o : Answerer) → AreMarked r (asked_by o r t q) came
  marks_asked Menu id p found = all id p found
  marks_asked Nobody id p found = all id p found
  marks_asked Listener id p found = all id p found
  marks_asked (Handler desc) id p found = marks_entered desc id p found

-- ---- any message

module _ (r : Common) (ok : IsOk r) (t : Talk) (came rest : List Message) (s : IsSound r t came) (all : AreMarked r t came) where
  module _ (q : Query) (cut : came ++ message.Query q ∷ rest ≡ t.ups) where
    -- an abort is the second that comes
    abort_twice : is_abort_query r.entries q ≡ true → CameTwice (asks_of r.entries q.id (came ++ message.Query q ∷ []))
    abort_twice stops = let (d, is) = asked r ok t came rest s q cut in by d is.3
      where
        by : (d : Dispatch) → ComesNext (asks_of r.entries q.id came) (ask_by (is_abort_query r.entries q) q.tag q.version) d.desc.name d.desc.version d.cut
            → CameTwice (asks_of r.entries q.id (came ++ message.Query q ∷ []))
        by d (inl (none, is)) = absurd (stops_begins q.tag d.desc.name q.version d.desc.version (ap (λ b. ask_by b q.tag q.version) (sym stops) ∙ is))
        by d (inr (one, is, n, is_cut)) =
            let ask = ask_by (is_abort_query r.entries q) q.tag q.version in
            (Begins d.desc.name d.desc.version, ask, [], asks_same r.entries q.id came q refl ∙ ap (λ xs. xs ++ ask ∷ []) one)

    marks_query_stopped : is_abort_query r.entries q ≡ true → (o : Option Served) → find_query q.id t.queries ≡ o → AreMarked r (stop_query t o) (came ++ message.Query q ∷ [])
    marks_query_stopped stops None here = marks_come r t came (message.Query q ∷ []) all
    marks_query_stopped stops (Some p) here = by (stops_one p)
      where
        key : p.id ≡ q.id
        key = find_key query_key q.id t.queries p here

        twice : CameTwice (asks_of r.entries p.id (came ++ message.Query q ∷ []))
        twice = subst (λ i. CameTwice (asks_of r.entries i (came ++ message.Query q ∷ []))) (sym key) (abort_twice stops)

        by : (b : Bool) → AreMarked r (if b then with_answer t p acts.Stop else t) (came ++ message.Query q ∷ [])
        by true = marks_stop r t came all p (ap (λ i. find_query i t.queries) key ∙ here) (message.Query q ∷ []) twice
        by false = marks_come r t came (message.Query q ∷ []) all

    -- one that is new has no mark
    marks_query_asked : is_abort_query r.entries q ≡ false → AreMarked r (asked_by (answerer r q.tag q.version) r t q) (came ++ message.Query q ∷ [])
    marks_query_asked begins =
        let (d, is) = asked r ok t came rest s q cut in
        let none : find_query q.id t.queries ≡ None = (is.2.before (own_owner r ok t came rest s q cut begins d is).0).0 in
        marks_come r (asked_by (answerer r q.tag q.version) r t q) came (message.Query q ∷ []) (marks_asked r t came all q none (answerer r q.tag q.version))

  pub marks_heard : (a : Message) → came ++ a ∷ rest ≡ t.ups → AreMarked r (heard_up r t a) (came ++ a ∷ [])
  marks_heard message.Heartbeat cut = marks_come r t came (message.Heartbeat ∷ []) all
  marks_heard (message.Response a) cut = marks_come r t came (message.Response a ∷ []) all
  marks_heard (message.Query q) cut = by (is_abort_query r.entries q) refl
    where
      by : (b : Bool) → is_abort_query r.entries q ≡ b
          → AreMarked r (if b then stopped t q.id else asked_by (answerer r q.tag q.version) r t q) (came ++ message.Query q ∷ [])
      by true e = marks_query_stopped q cut e (find_query q.id t.queries) refl
      by false e = marks_query_asked q cut e
