-- What an answer says, by its place, and what it makes of a row.
use Rattle.std.proofs.Common.{◌≡◌, refl, sym, ap, ◌∙◌, subst, ℕ, zero, suc, ℤ, Bool, true, false, not, ◌&&◌, if◌then◌else◌, List, [], ◌∷◌, ◌++◌, length, map}
use Rattle.std.specs.Prelude.{Option, Some, None, Result, Ok, Err}
use Rattle.std.specs.Option.{option_map, option_and_then}
use Rattle.bp_value.specs.declared.value.Value.{Value}
use Rattle.bp_value.specs.Form.{Form, form_of}
use Rattle.rpc_msg.specs.declared.fault.MsgFault.{MsgFault}
use Rattle.rpc_msg.specs.declared.message.Answer.{Answer}
use Rattle.rpc_msg.specs.declared.message.Answer.TheVariants as answer
use Rattle.rpc_msg.specs.declared.shared.CloseCause.{CloseCause}
use Rattle.rpc_msg.specs.declared.shared.CloseCause.TheVariants as cause
use Rattle.rpc_msg.specs.declared.shared.Ending.{Ending}
use Rattle.rpc_msg.specs.declared.shared.Ending.TheVariants as ending
use Rattle.rpc_msg.specs.declared.shared.Part.{Part}
use Rattle.rpc_msg.specs.declared.shared.Part.TheVariants as part
use Rattle.rpc_msg.specs.Forms.{first_form, part_form}
use Rattle.rpc_log.specs.Readings.{only_told, text_told, parts_told, case_told}
use Rattle.rpc_schema.specs.declared.desc.Kind.{Kind}
use Rattle.rpc_schema.specs.declared.desc.Kind.TheVariants.{Plain, OneWay, Pipe, State}
use Rattle.rpc_talk.specs.Causes.{said_cause, answer_cause}
use Rattle.rpc_talk.specs.Growing.{with_more}
use Rattle.rpc_talk.specs.Said.{Said, Reply, Begun, Declined, Item, Eof, Unreadable, Failed, value_read, said_by, said_or_none, plain_said, result_at, result_in, first_told, first_said, item_said, text_said, part_case, part_told, part_said, answer_said, said_behind, says_in}
use Rattle.rpc_talk.specs.Parts.{Fate, Goes_on, Ends, Broken, CallParts, no_parts, later_parts, stream_parts, plain_ending, plain_parts, parts_of, goes_on, is_broken, takes_reply, is_tracked}
use Rattle.rpc_talk.specs.Welcome.{is_welcome_answer, is_welcome_stream}
use Rattle.rpc_talk.proofs.OneMore.{parts_on}
use Rattle.rpc_client.specs.declared.entry.Phase.{Phase}
use Rattle.rpc_client.specs.declared.entry.Phase.TheVariants as phase
use Rattle.rpc_client.specs.Kept.{Holds, IsAt, IsPhase, IsKept}
use Rattle.rpc_client.specs.Rows.{Row, row_answered, finished, row_told, with_part}
use Rattle.rpc_client.proofs.RowSteps.{part_holds, end_holds}

-- ---- what may be said

abbrev IsPlainSaid : Said → Type 0
IsPlainSaid (Reply v) = Unit {0}
IsPlainSaid (Begun v) = ⊥
IsPlainSaid (Declined v) = ⊥
IsPlainSaid (Item v) = ⊥
IsPlainSaid Eof = ⊥
IsPlainSaid (Unreadable why) = Unit {0}
IsPlainSaid (Failed e) = Unit {0}

abbrev IsFirstSaid : Said → Type 0
IsFirstSaid (Reply v) = ⊥
IsFirstSaid (Begun v) = Unit {0}
IsFirstSaid (Declined v) = Unit {0}
IsFirstSaid (Item v) = ⊥
IsFirstSaid Eof = ⊥
IsFirstSaid (Unreadable why) = Unit {0}
IsFirstSaid (Failed e) = Unit {0}

abbrev IsLaterSaid : Said → Type 0
IsLaterSaid (Reply v) = ⊥
IsLaterSaid (Begun v) = ⊥
IsLaterSaid (Declined v) = ⊥
IsLaterSaid (Item v) = Unit {0}
IsLaterSaid Eof = Unit {0}
IsLaterSaid (Unreadable why) = Unit {0}
IsLaterSaid (Failed e) = Unit {0}

plain_sort : (m : ℕ) (f : Form) (a : Answer) → IsPlainSaid (answer_said (plain_said m f) a)
plain_sort m f (answer.Error e) = tt
plain_sort m f (answer.Ok body) = by (value_read m f body)
  where
    by : (r : Result Value MsgFault) → IsPlainSaid (said_by Reply r)
    by (Ok v) = tt
    by (Err why) = tt

result_sort : (place : ℕ) (o : Option Value) → IsFirstSaid (said_or_none (option_map Begun o)) × IsFirstSaid (said_or_none (option_map Declined o))
result_sort place None = (tt, tt)
result_sort place (Some v) = (tt, tt)

first_sort : (m : ℕ) (f g : Form) (a : Answer) → IsFirstSaid (answer_said (first_said m f g) a)
first_sort m f g (answer.Error e) = tt
first_sort m f g (answer.Ok body) = by (value_read m (first_form f g) body)
  where
    by_case : (c : Option (ℕ × List Value)) → IsFirstSaid (said_or_none (option_and_then (λ c. result_at c.0 c.1) c))
    by_case None = tt
    by_case (Some (zero, vs)) = (result_sort 0 (only_told vs)).0
    by_case (Some (suc place, vs)) = (result_sort 0 (only_told vs)).1

    by_parts : (o : Option (List Value)) → IsFirstSaid (said_or_none (option_and_then result_in o))
    by_parts None = tt
    by_parts (Some []) = tt
    by_parts (Some (unused ∷ [])) = tt
    by_parts (Some (unused ∷ result ∷ [])) = by_case (case_told result)
    by_parts (Some (unused ∷ result ∷ more ∷ vs)) = tt

    by : (r : Result Value MsgFault) → IsFirstSaid (said_by first_told r)
    by (Ok v) = by_parts (parts_told v)
    by (Err why) = tt

later_sort : (m : ℕ) (f : Form) (a : Answer) → IsLaterSaid (answer_said (part_said m f) a)
later_sort m f (answer.Error e) = tt
later_sort m f (answer.Ok body) = by (value_read m part_form body)
  where
    by_item : (front : ℕ) (r : Result Value MsgFault) → IsLaterSaid (item_said m f front r)
    by_item front (Ok v) = tt
    by_item front (Err why) = tt

    by_text : (count : ℕ) (o : Option (List ℕ)) → IsLaterSaid (said_or_none (option_map (text_said m f count) o))
    by_text count None = tt
    by_text count (Some text) = by_item _ (value_read m f text)

    by_case : (count : ℕ) (c : Option (ℕ × List Value)) → IsLaterSaid (said_or_none (option_and_then (λ c. part_case m f count c.0 c.1) c))
    by_case count None = tt
    by_case count (Some (zero, vs)) = by_text count (option_and_then text_told (only_told vs))
    by_case count (Some (suc place, vs)) = tt

    by : (r : Result Value MsgFault) → IsLaterSaid (said_by (part_told m f (length body)) r)
    by (Ok v) = by_case (length body) (case_told v)
    by (Err why) = tt

-- ---- what it makes of a row

-- of the parts q, with it: the row has them, or they are broken, and why the client closes
abbrev Leads : CallParts → Row → Said → Result Row CloseCause → Type 0
Leads q row s (Ok new) = (is_broken q.mark ≡ false) × Holds q false new × IsAt new.phase q × (new.id ≡ row.id) × (new.desc ≡ row.desc)
Leads q row s (Err why) = (is_broken q.mark ≡ true) × (why ≡ said_cause row.id s)

some_part : (xs : List Part) (x : Part) → (first : Part) × (rest : List Part) × (xs ++ x ∷ [] ≡ first ∷ rest)
some_part [] x = (x, [], refl)
some_part (y ∷ xs) x = (y, xs ++ x ∷ [], refl)

module _ (row : Row) (p : CallParts) (on : p.mark ≡ Goes_on) (holds : Holds p false row) where
  ends : (e : Ending) (s : Said) → Leads (with_more p (no_parts (Ends e))) row s (Ok (finished row e))
  ends e s = (refl, end_holds p row e on holds, (e, refl), refl, refl)

  gives : (x : Part) (s : Said) → Leads (with_more p (record { parts = x ∷ []; mark = Goes_on })) row s (Ok (with_part row x))
  gives x s = (refl, part_holds p row x on holds, (refl, some_part p.parts x), refl, refl)

  -- the first answer of a stream
  first_leads : (s : Said) → takes_reply row.desc.kind ≡ false → IsFirstSaid s → Leads (with_more p (stream_parts (s ∷ []))) row s (row_told row s)
  first_leads (Reply v) stream sort = absurd sort
  first_leads (Begun v) stream sort = gives (part.First v) (Begun v)
  first_leads (Declined v) stream sort = ends (ending.Declined v) (Declined v)
  first_leads (Item v) stream sort = absurd sort
  first_leads Eof stream sort = absurd sort
  first_leads (Unreadable why) stream sort =
      subst (λ b. Leads (with_more p (no_parts Broken)) row (Unreadable why) (if b then Ok (finished row (ending.BadReply why)) else Err (cause.BadStreamData row.id why)))
      (sym stream) (refl, refl)
  first_leads (Failed e) stream sort = ends (ending.Failed e) (Failed e)

  -- a later one
  later_leads : (s : Said) → takes_reply row.desc.kind ≡ false → IsLaterSaid s → Leads (with_more p (later_parts (s ∷ []))) row s (row_told row s)
  later_leads (Reply v) stream sort = absurd sort
  later_leads (Begun v) stream sort = absurd sort
  later_leads (Declined v) stream sort = absurd sort
  later_leads (Item v) stream sort = gives (part.Item v) (Item v)
  later_leads Eof stream sort = ends ending.Eof Eof
  later_leads (Unreadable why) stream sort =
      subst (λ b. Leads (with_more p (no_parts Broken)) row (Unreadable why) (if b then Ok (finished row (ending.BadReply why)) else Err (cause.BadStreamData row.id why)))
      (sym stream) (refl, refl)
  later_leads (Failed e) stream sort = ends (ending.Failed e) (Failed e)

  -- the answer of a plain procedure
  plain_leads : (s : Said) → takes_reply row.desc.kind ≡ true → IsPlainSaid s → Leads (with_more p (plain_parts (s ∷ []))) row s (row_told row s)
  plain_leads (Reply v) plain sort = ends (ending.Reply v) (Reply v)
  plain_leads (Begun v) plain sort = absurd sort
  plain_leads (Declined v) plain sort = absurd sort
  plain_leads (Item v) plain sort = absurd sort
  plain_leads Eof plain sort = absurd sort
  plain_leads (Unreadable why) plain sort =
      subst (λ b. Leads (with_more p (no_parts (Ends (ending.BadReply why)))) row (Unreadable why) (if b then Ok (finished row (ending.BadReply why)) else Err (cause.BadStreamData row.id why)))
      (sym plain) (ends (ending.BadReply why) (Unreadable why))
  plain_leads (Failed e) plain sort = ends (ending.Failed e) (Failed e)

-- ---- a call that goes on

-- behind these answers, one more: the row is kept and the answer is welcome, or it is not and why the client closes
abbrev pub Steps : ℕ → Row → List Answer → Answer → Result Row CloseCause → Type 0
Steps m row before a (Ok new) =
    (is_welcome_answer m row.desc before a ≡ true) × IsKept m false (before ++ a ∷ []) new × (new.id ≡ row.id) × (new.desc ≡ row.desc)
Steps m row before a (Err why) = (is_welcome_answer m row.desc before a ≡ false) × (why ≡ answer_cause m row.id row.desc before a)

-- a plain call that goes on has no answer
plain_none : (s : Said) (says : List Said) → (plain_parts (s ∷ says)).mark ≡ Goes_on → ⊥
plain_none (Reply v) says e = cc
plain_none (Begun v) says e = cc
plain_none (Declined v) says e = cc
plain_none (Item v) says e = cc
plain_none Eof says e = cc
plain_none (Unreadable why) says e = cc
plain_none (Failed e) says is = cc

no_plain_parts : (says : List Said) → (plain_parts says).parts ≡ []
no_plain_parts [] = refl
no_plain_parts (s ∷ says) = refl

-- a stream that goes on and has no part has no answer
stream_none : (s : Said) (says : List Said) → (stream_parts (s ∷ says)).mark ≡ Goes_on → (stream_parts (s ∷ says)).parts ≡ [] → ⊥
stream_none (Reply v) says e none = cc
stream_none (Begun v) says e none = cc
stream_none (Declined v) says e none = cc
stream_none (Item v) says e none = cc
stream_none Eof says e none = cc
stream_none (Unreadable why) says e none = cc
stream_none (Failed e) says is none = cc

both_true : (x y : Bool) → x ≡ true → y ≡ false → (x && not y) ≡ true
both_true true false e h = refl
both_true true true e h = absurd cc
both_true false y e h = absurd cc

second_broken : (x y : Bool) → y ≡ true → (x && not y) ≡ false
second_broken true true h = refl
second_broken true false h = absurd cc
second_broken false y h = refl

first_false : (x y : Bool) → x ≡ false → (x && y) ≡ false
first_false false y e = refl
first_false true y e = absurd cc

plain_whole : (s : Said) → IsPlainSaid s → is_broken (plain_ending s) ≡ false
plain_whole (Reply v) sort = refl
plain_whole (Begun v) sort = absurd sort
plain_whole (Declined v) sort = absurd sort
plain_whole (Item v) sort = absurd sort
plain_whole Eof sort = absurd sort
plain_whole (Unreadable why) sort = refl
plain_whole (Failed e) sort = refl

module _ (m : ℕ) (row0 : Row) (a : Answer) where
  -- the row, as one of a kind that has come so far
  abbrev as_of : Kind → Phase → Row
  as_of kind phase = record row0 { desc = record row0.desc { kind = kind }; phase = phase }

  -- what is one more answer's, where the parts before and with it are these
  leads_steps : (before : List Answer) (row : Row) (p q : CallParts) (s : Said) → parts_of m row.desc before ≡ p → parts_of m row.desc (before ++ a ∷ []) ≡ q → p.mark ≡ Goes_on
      → (r : Result Row CloseCause) → Leads q row s r → is_tracked row.desc.kind ≡ true
      → (is_broken q.mark ≡ false → is_welcome_answer m row.desc before a ≡ true)
      → (is_broken q.mark ≡ true → (is_welcome_answer m row.desc before a ≡ false) × (answer_cause m row.id row.desc before a ≡ said_cause row.id s))
      → Steps m row before a r
  leads_steps before row p q s is_p is_q on (Ok new) (whole, holds, at, id, desc) tracked welcomes closes = (
    welcomes whole,
    record {
      holds = subst (λ ps. Holds ps false new) (sym is_q ∙ ap (λ d. parts_of m d (before ++ a ∷ [])) (sym desc)) holds;
      phase = subst (λ b. IsPhase b new.phase (parts_of m new.desc (before ++ a ∷ []))) (sym (ap (λ d. is_tracked d.kind) desc ∙ tracked))
          (subst (IsAt new.phase) (sym is_q ∙ ap (λ d. parts_of m d (before ++ a ∷ [])) (sym desc)) at);
    },
    id,
    desc,
  )
  leads_steps before row p q s is_p is_q on (Err why) (broken, is) tracked welcomes closes = ((closes broken).0, is ∙ sym (closes broken).1)

  -- ---- a Pipe

  pipe_first : (before : List Answer) → IsKept m false before (as_of Pipe phase.First) → Steps m (as_of Pipe phase.First) before a (row_answered m (as_of Pipe phase.First) a)
  pipe_first [] kept =
      let row = as_of Pipe phase.First in
      let s = answer_said (first_said m (form_of row.desc.first) (form_of row.desc.error)) a in
      leads_steps [] row (no_parts Goes_on) (stream_parts (s ∷ [])) s refl refl refl (row_told row s)
      (first_leads row (no_parts Goes_on) refl kept.holds s refl (first_sort m (form_of row.desc.first) (form_of row.desc.error) a)) refl
      (λ e. ap not e) (λ e. (ap not e, refl))
  pipe_first (b ∷ before) kept =
      absurd (stream_none (answer_said (first_said m (form_of row0.desc.first) (form_of row0.desc.error)) b) (map (answer_said (part_said m (form_of row0.desc.item))) before)
      kept.phase.0 kept.phase.1)

  pipe_later : (before : List Answer) → IsKept m false before (as_of Pipe phase.Begun) → Steps m (as_of Pipe phase.Begun) before a (row_answered m (as_of Pipe phase.Begun) a)
  pipe_later [] kept = let (on, (first, rest, is)) = kept.phase in absurd (let none : [] ≡ first ∷ rest = is in cc)
  pipe_later (b ∷ before) kept =
      let row = as_of Pipe phase.Begun in
      let s = answer_said (part_said m (form_of row.desc.item)) a in
      let p = parts_of m row.desc (b ∷ before) in
      let on : p.mark ≡ Goes_on = kept.phase.0 in
      let is = parts_on m row.desc (b ∷ before) a (ap goes_on on) in
      leads_steps (b ∷ before) row p (with_more p (later_parts (s ∷ []))) s refl is on (row_told row s)
      (later_leads row p on kept.holds s refl (later_sort m (form_of row.desc.item) a)) refl
      (λ e. both_true (goes_on p.mark) (is_broken (parts_of m row.desc ((b ∷ before) ++ a ∷ [])).mark) (ap goes_on on) (ap (λ q. is_broken q.mark) is ∙ e))
      (λ e. (
        second_broken (goes_on p.mark) (is_broken (parts_of m row.desc ((b ∷ before) ++ a ∷ [])).mark) (ap (λ q. is_broken q.mark) is ∙ e),
        ap (λ x. if x then said_cause row.id s else cause.UnknownId row.id) (ap goes_on on),
      ))

  pipe_done : (before : List Answer) → IsKept m false before (as_of Pipe phase.Done) → Steps m (as_of Pipe phase.Done) before a (row_answered m (as_of Pipe phase.Done) a)
  pipe_done before kept =
      let row = as_of Pipe phase.Done in
      let p = parts_of m row.desc before in
      let over : goes_on p.mark ≡ false = ap goes_on kept.phase.1 in (
        first_false (goes_on p.mark) (not (is_broken (parts_of m row.desc (before ++ a ∷ [])).mark)) over,
        sym (ap (λ x. if x then said_cause row.id (said_behind m row.desc before a) else cause.UnknownId row.id) over),
      )

  -- ---- a State

  state_first : (before : List Answer) → IsKept m false before (as_of State phase.First) → Steps m (as_of State phase.First) before a (row_answered m (as_of State phase.First) a)
  state_first [] kept =
      let row = as_of State phase.First in
      let s = answer_said (first_said m (form_of row.desc.first) (form_of row.desc.error)) a in
      leads_steps [] row (no_parts Goes_on) (stream_parts (s ∷ [])) s refl refl refl (row_told row s)
      (first_leads row (no_parts Goes_on) refl kept.holds s refl (first_sort m (form_of row.desc.first) (form_of row.desc.error) a)) refl
      (λ e. ap not e) (λ e. (ap not e, refl))
  state_first (b ∷ before) kept =
      absurd (stream_none (answer_said (first_said m (form_of row0.desc.first) (form_of row0.desc.error)) b) (map (answer_said (part_said m (form_of row0.desc.item))) before)
      kept.phase.0 kept.phase.1)

  state_later : (before : List Answer) → IsKept m false before (as_of State phase.Begun) → Steps m (as_of State phase.Begun) before a (row_answered m (as_of State phase.Begun) a)
  state_later [] kept = let (on, (first, rest, is)) = kept.phase in absurd (let none : [] ≡ first ∷ rest = is in cc)
  state_later (b ∷ before) kept =
      let row = as_of State phase.Begun in
      let s = answer_said (part_said m (form_of row.desc.item)) a in
      let p = parts_of m row.desc (b ∷ before) in
      let on : p.mark ≡ Goes_on = kept.phase.0 in
      let is = parts_on m row.desc (b ∷ before) a (ap goes_on on) in
      leads_steps (b ∷ before) row p (with_more p (later_parts (s ∷ []))) s refl is on (row_told row s)
      (later_leads row p on kept.holds s refl (later_sort m (form_of row.desc.item) a)) refl
      (λ e. both_true (goes_on p.mark) (is_broken (parts_of m row.desc ((b ∷ before) ++ a ∷ [])).mark) (ap goes_on on) (ap (λ q. is_broken q.mark) is ∙ e))
      (λ e. (
        second_broken (goes_on p.mark) (is_broken (parts_of m row.desc ((b ∷ before) ++ a ∷ [])).mark) (ap (λ q. is_broken q.mark) is ∙ e),
        ap (λ x. if x then said_cause row.id s else cause.UnknownId row.id) (ap goes_on on),
      ))

  state_done : (before : List Answer) → IsKept m false before (as_of State phase.Done) → Steps m (as_of State phase.Done) before a (row_answered m (as_of State phase.Done) a)
  state_done before kept =
      let row = as_of State phase.Done in
      let p = parts_of m row.desc before in
      let over : goes_on p.mark ≡ false = ap goes_on kept.phase.1 in (
        first_false (goes_on p.mark) (not (is_broken (parts_of m row.desc (before ++ a ∷ [])).mark)) over,
        sym (ap (λ x. if x then said_cause row.id (said_behind m row.desc before a) else cause.UnknownId row.id) over),
      )

  -- ---- a plain call

  plain_first : (before : List Answer) → IsKept m false before (as_of Plain phase.First) → Steps m (as_of Plain phase.First) before a (row_answered m (as_of Plain phase.First) a)
  plain_first [] kept =
      let row = as_of Plain phase.First in
      let s = answer_said (plain_said m (form_of row.desc.first)) a in
      let sort = plain_sort m (form_of row.desc.first) a in
      leads_steps [] row (no_parts Goes_on) (plain_parts (s ∷ [])) s refl refl refl (row_told row s) (plain_leads row (no_parts Goes_on) refl kept.holds s refl sort) refl
      (λ e. refl) (λ e. absurd (let never : true ≡ false = sym e ∙ plain_whole s sort in cc))
  plain_first (b ∷ before) kept =
      absurd (plain_none (answer_said (plain_said m (form_of row0.desc.first)) b) (map (answer_said (plain_said m (form_of row0.desc.first))) before) kept.phase.0)

  plain_begun : (before : List Answer) → IsKept m false before (as_of Plain phase.Begun) → Steps m (as_of Plain phase.Begun) before a (row_answered m (as_of Plain phase.Begun) a)
  plain_begun before kept =
      let row = as_of Plain phase.Begun in
      let (on, (first, rest, is)) = kept.phase in
      absurd (let none : [] ≡ first ∷ rest = sym (no_plain_parts (says_in m row.desc before)) ∙ is in cc)

  plain_done : (before : List Answer) → IsKept m false before (as_of Plain phase.Done) → Steps m (as_of Plain phase.Done) before a (row_answered m (as_of Plain phase.Done) a)
  plain_done before kept = (ap goes_on kept.phase.1, refl)

  -- ---- a one-way call

  one_way : (phase : Phase) (before : List Answer) → IsKept m false before (as_of OneWay phase) → Steps m (as_of OneWay phase) before a (row_answered m (as_of OneWay phase) a)
  one_way phase before kept = by a
    where
      by : (b : Answer) → Steps m (as_of OneWay phase) before b (row_answered m (as_of OneWay phase) b)
      by (answer.Ok body) = (refl, refl)
      by (answer.Error e) = (refl, record { holds = kept.holds; phase = tt }, refl, refl)

  -- ---- any call

  steps_by : (kind : Kind) (phase : Phase) (before : List Answer) → IsKept m false before (as_of kind phase) → Steps m (as_of kind phase) before a (row_answered m (as_of kind phase) a)
  steps_by Plain phase.First before kept = plain_first before kept
  steps_by Plain phase.Begun before kept = plain_begun before kept
  steps_by Plain phase.Done before kept = plain_done before kept
  steps_by OneWay phase before kept = one_way phase before kept
  steps_by Pipe phase.First before kept = pipe_first before kept
  steps_by Pipe phase.Begun before kept = pipe_later before kept
  steps_by Pipe phase.Done before kept = pipe_done before kept
  steps_by State phase.First before kept = state_first before kept
  steps_by State phase.Begun before kept = state_later before kept
  steps_by State phase.Done before kept = state_done before kept

-- one more answer to a call
pub row_steps : (m : ℕ) (row : Row) (before : List Answer) (a : Answer) → IsKept m false before row → Steps m row before a (row_answered m row a)
row_steps m row before a kept = steps_by m row a row.desc.kind row.phase before kept
