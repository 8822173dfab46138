-- A text is that of one schedule, and has no line at fault.
use Rattle.std.proofs.Common.{◌≡◌, ◌≢◌, refl, sym, ap, ◌∙◌, subst, ℕ, List, [], ◌∷◌, ◌++◌, inl, inr, Result, Ok, Err, IfOk, IfErr}
use Rattle.std.specs.List.{AllZip}
use Rattle.std.proofs.lemmas.List.Elements.{All-head, All-tail}
use Rattle.rpc_schema.specs.declared.desc.Entry.{Entry}
use Rattle.rpc_schema.specs.declared.error.SchemaError.TheVariants as schema_error
use Rattle.rpc_schema.specs.TextLines.{Numbered}
use Rattle.rpc_schema.specs.SchemaTexts.{AreEntryLines}
use Rattle.rpc_schema.proofs.TextLaws.{schema_once, refuses_none}
use Rattle.rpc_schedule.specs.declared.event.Event.{Event}
use Rattle.rpc_schedule.specs.declared.event.Lined.{Lined}
use Rattle.rpc_schedule.specs.declared.error.ScheduleError.{ScheduleError}
use Rattle.rpc_schedule.specs.declared.error.ScheduleError.TheVariants as error
use Rattle.rpc_schedule.specs.declared.schedule.Schedule.{Schedule}
use Rattle.rpc_schedule.specs.Schedules.{schema_end, NoMark, IsCut, IsSchemaPart, schema_lines, event_lines, IsLinedEvent, AreScheduleLines, IsBadEventLine, RefusesSchedule, GivesSchedule}
use Rattle.rpc_schedule.proofs.EventLaws.{sure_event}

-- ---- the line between the schema and the events

heads_are : {A : Type 0} (x y : A) (xs ys : List A) → x ∷ xs ≡ y ∷ ys → (x ≡ y) × (xs ≡ ys)
heads_are x y xs ys e = (cc, cc)

one_place : (hs ks bs cs : List (List ℕ)) → hs ++ schema_end ∷ bs ≡ ks ++ schema_end ∷ cs → NoMark hs → NoMark ks → (hs ≡ ks) × (bs ≡ cs)
one_place [] [] bs cs e none nothing = (refl, (heads_are schema_end schema_end bs cs e).1)
one_place [] (k ∷ ks) bs cs e none nothing =
    absurd (All-head (λ l. l ≢ schema_end) k ks nothing (sym (heads_are schema_end k bs (ks ++ schema_end ∷ cs) e).0))
one_place (h ∷ hs) [] bs cs e none nothing =
    absurd (All-head (λ l. l ≢ schema_end) h hs none (heads_are h schema_end (hs ++ schema_end ∷ bs) cs e).0)
one_place (h ∷ hs) (k ∷ ks) bs cs e none nothing =
    let (first, rest) = heads_are h k (hs ++ schema_end ∷ bs) (ks ++ schema_end ∷ cs) e in
    let (same, behind) = one_place hs ks bs cs rest (All-tail (λ l. l ≢ schema_end) h hs none) (All-tail (λ l. l ≢ schema_end) k ks nothing) in
    (ap (λ z. z ∷ hs) first ∙ ap (λ zs. k ∷ zs) same, behind)

one_cut : (ls hs ks bs cs : List (List ℕ)) → IsCut ls hs bs → IsCut ls ks cs → (hs ≡ ks) × (bs ≡ cs)
one_cut ls hs ks bs cs x y = one_place hs ks bs cs (sym x.place ∙ y.place) x.first y.first

has_mark : (hs bs : List (List ℕ)) → NoMark (hs ++ schema_end ∷ bs) → ⊥
has_mark [] bs none = All-head (λ l. l ≢ schema_end) schema_end bs none refl
has_mark (h ∷ hs) bs none = has_mark hs bs (All-tail (λ l. l ≢ schema_end) h (hs ++ schema_end ∷ bs) none)

cut_marked : (ls hs bs : List (List ℕ)) → IsCut ls hs bs → NoMark ls → ⊥
cut_marked ls hs bs cut none = has_mark hs bs (subst NoMark cut.place none)

-- the lines of the schema are those before `--`
one_part : (ls hs ks bs : List (List ℕ)) → IsSchemaPart ls hs → IsCut ls ks bs → hs ≡ ks
one_part ls hs ks bs (inl (cs, x)) cut = (one_cut ls hs ks cs bs x cut).0
one_part ls hs ks bs (inr (none, same)) cut = absurd (cut_marked ls ks bs cut none)

-- ---- events

event_once : (e f : Lined) (l : Numbered) → IsLinedEvent e l → IsLinedEvent f l → e ≡ f
event_once e f l x y =
    ap (λ (n : ℕ). record { line = n; event = e.event }) (x.0 ∙ sym y.0)
    ∙ ap (λ (v : Event). record { line = f.line; event = v }) (sure_event.once e.event f.event l.bytes [] [] x.1 y.1).0

events_once : (es fs : List Lined) (ls : List Numbered) → AllZip IsLinedEvent es ls → AllZip IsLinedEvent fs ls → es ≡ fs
events_once [] [] [] x y = refl
events_once (e ∷ es) (f ∷ fs) (l ∷ ls) x y =
    ap (λ first. first ∷ es) (event_once e f l x.0 y.0) ∙ ap (λ rest. f ∷ rest) (events_once es fs ls x.1 y.1)
events_once [] (f ∷ fs) [] x y = absurd y
events_once (e ∷ es) fs [] x y = absurd x
events_once [] fs (l ∷ ls) x y = absurd x
events_once (e ∷ es) [] (l ∷ ls) x y = absurd y

-- a line that stands between others is that of an event
between : (es : List Lined) (before : List Numbered) (l : Numbered) (behind : List Numbered) → AllZip IsLinedEvent es (before ++ l ∷ behind)
    → (e : Lined) × IsLinedEvent e l
between [] [] l behind h = absurd h
between (e ∷ es) [] l behind h = (e, h.0)
between [] (k ∷ before) l behind h = absurd h
between (e ∷ es) (k ∷ before) l behind h = between es before l behind h.1

good_not_bad : (es : List Lined) (ls : List Numbered) (number at : ℕ) → AllZip IsLinedEvent es ls → IsBadEventLine ls number at → ⊥
good_not_bad es ls number at good bad =
    let (e, is) = between es bad.before (record { number = number; bytes = bad.bytes }) bad.behind (subst (λ ks. AllZip IsLinedEvent es ks) bad.cut good) in
    let (x, refused, place) = bad.refused in
    sure_event.apart e.event bad.bytes [] x is.1 refused

-- ---- schedules

schedule_once : (s t : Schedule) (ls : List (List ℕ)) → AreScheduleLines s ls → AreScheduleLines t ls → s ≡ t
schedule_once s t ls x y =
    let (heads, behind) = one_cut ls x.heads y.heads x.behind y.behind x.cut y.cut in
    let entries : s.schema ≡ t.schema =
    schema_once s.schema t.schema (schema_lines y.heads) (subst (λ hs. AreEntryLines s.schema (schema_lines hs)) heads x.schema) y.schema in
    let events : s.events ≡ t.events =
    events_once s.events t.events (event_lines y.heads y.behind)
    (subst (λ bs. AllZip IsLinedEvent s.events (event_lines y.heads bs)) behind
    (subst (λ hs. AllZip IsLinedEvent s.events (event_lines hs x.behind)) heads x.events)) y.events in
    ap (λ (es : List Entry). record { schema = es; events = s.events }) entries
    ∙ ap (λ (es : List Lined). record { schema = t.schema; events = es }) events

-- lines of a schedule are refused only where memory runs out
refuses_no_schedule : (ls : List (List ℕ)) (e : ScheduleError) (s : Schedule) → RefusesSchedule ls e → AreScheduleLines s ls → GivesSchedule s (Err e)
refuses_no_schedule ls (error.BadLine number place) s (inl (heads, part, bad)) good =
    let same = one_part ls heads good.heads good.behind part good.cut in
    absurd (refuses_none (schema_lines heads) (schema_error.BadLine number place) s.schema bad
    (subst (λ hs. AreEntryLines s.schema (schema_lines hs)) (sym same) good.schema))
refuses_no_schedule ls (error.BadLine number place) s (inr (inl h)) good = absurd (cut_marked ls good.heads good.behind good.cut h.0)
refuses_no_schedule ls (error.BadLine number place) s (inr (inr bad)) good =
    let (heads, behind) = one_cut ls bad.heads good.heads bad.behind good.behind bad.cut good.cut in
    absurd (good_not_bad s.events (event_lines good.heads good.behind) number place good.events
    (subst (λ bs. IsBadEventLine (event_lines good.heads bs) number place) behind
    (subst (λ hs. IsBadEventLine (event_lines hs bad.behind) number place) heads bad.event)))
refuses_no_schedule ls (error.Twice number) s (heads, part, twice) good =
    let same = one_part ls heads good.heads good.behind part good.cut in
    absurd (refuses_none (schema_lines heads) (schema_error.Twice number) s.schema twice
    (subst (λ hs. AreEntryLines s.schema (schema_lines hs)) (sym same) good.schema))
refuses_no_schedule ls error.OutOfMemory s h good = tt

-- what is given is the only schedule
pub only_schedule : (ls : List (List ℕ)) (r : Result Schedule ScheduleError) → IfOk r (λ s. AreScheduleLines s ls) → IfErr r (RefusesSchedule ls)
    → (t : Schedule) → AreScheduleLines t ls → GivesSchedule t r
only_schedule ls (Ok s) good bad t is = schedule_once s t ls good is
only_schedule ls (Err e) good bad t is = refuses_no_schedule ls e t bad is
