-- From what was written to what the status means.
use Rattle.std.proofs.Common.{arith, ◌≡◌, ◌<◌, ℕ, List, [], ◌∷◌, length, take, codes, refl, sym, ap, ◌∙◌, subst, inl, inr}
use Rattle.std.specs.Prelude.{Option, Some, None, String, ◌⊎◌, ◌↔◌, IfOk, IfSome, Result, Ok, Err}
use Rattle.std.specs.declared.alloc.Global.{Global}
use Rattle.std.proofs.lemmas.List.{take_all}
use Rattle.rpc_schedule.specs.declared.schedule.Schedule.{Schedule}
use Rattle.rpc_schema.specs.TextLines.{text_lines}
use Rattle.rpc_schedule.specs.declared.error.ScheduleError.{ScheduleError}
use Rattle.rpc_schedule.specs.Schedules.{IsScheduleText, RefusesSchedule}
use Rattle.rpc_tool.specs.ScheduleRefusals.{IsFault, schedule_refused}
use Rattle.rpc_tool.specs.declared.command.Command.{Command}
use Rattle.rpc_tool.specs.declared.command.Misuse.{Misuse}
use Rattle.rpc_tool.specs.declared.command.Misuse.TheVariants as misuse
use Rattle.bp_value.specs.declared.OutOfMemory as oom
use Rattle.rpc_tool.specs.declared.answers.Answer.{Answer}
use Rattle.rpc_tool.specs.declared.answers.Answer.TheVariants as answer
use Rattle.rpc_tool.specs.Answers.{Answers}
use Rattle.rpc_tool.specs.declared.status.Status.{Status}
use Rattle.rpc_tool.specs.declared.status.Status.TheVariants.{Done, Refused, BadShape, Usage, ReadFault, WriteFault, WireFault, OutOfMemory, TooLong}
use Rattle.rpc_tool.specs.Commands.{IsNamed, IsDone, IsRefusal, IsReplay}
use Rattle.rpc_tool.specs.declared.command.Command.TheVariants.{Show, Write, Frames, Menu, Replay}
use Rattle.rpc_tool.specs.Limits.{most_input}
use Rattle.rpc_tool.specs.Means.{code_of, IsAnswer, IsSaid, IsAnswered, WasGiven, IsReadThrough, IsReadWhole, IsReportOfInput, MayRunOut, Means}

-- ---- answers

-- all of a text is its longest front
pub written_front : (Writes : List ℕ → Type 0) (text : List ℕ) → Writes text
    → (count : ℕ) × Writes (take count text)
written_front Writes text written =
    (length text, subst Writes (sym (take_all (length text) text (omega arith))) written)

-- an answer that was written is what the status says
pub answered_said : (Reports : Schedule → List ℕ → Type 0) (named : Result Command Misuse)
    (input : List ℕ) (Writes : List ℕ → Type 0) (status : Status) (text : List ℕ) (result : Status)
    → IsAnswer Reports named input status text → IsAnswered status text Writes result
    → IsSaid Reports named input Writes result
answered_said Reports named input Writes status text result answer (inr failed) =
    subst (λ r. IsSaid Reports named input Writes r) (sym failed.0)
    (status, text, failed.1.0, answer, failed.1.1)
answered_said Reports (Ok c) input Writes Done text result answer (inl done) =
    subst (λ r. IsSaid Reports (Ok c) input Writes r) (sym done.0) (text, answer, done.1)
answered_said Reports (Ok c) input Writes Refused text result answer (inl done) =
    subst (λ r. IsSaid Reports (Ok c) input Writes r) (sym done.0) (text, answer, done.1)
answered_said Reports (Err misuse.Usage) input Writes Usage text result answer (inl done) =
    subst (λ r. IsSaid Reports (Err misuse.Usage) input Writes r) (sym done.0) (text, answer, done.1)
answered_said Reports (Err (misuse.BadShape error)) input Writes BadShape text result answer (inl done) =
    subst (λ r. IsSaid Reports (Err (misuse.BadShape error)) input Writes r) (sym done.0) (text, answer, done.1)
answered_said Reports named input Writes status text result answer (inl done) = absurd answer

-- a refusal was written, or memory ran out before it was made
pub refused_said : (Reports : Schedule → List ℕ → Type 0) (named : Result Command Misuse) (input : List ℕ)
    (Writes : List ℕ → Type 0) (status : Status) (text : List ℕ) (result : Status) → IsAnswer Reports named input status text
    → MayRunOut named → IsAnswered status text Writes result ⊎ ((result ≡ OutOfMemory) × Writes [])
    → IsSaid Reports named input Writes result
refused_said Reports named input Writes status text result answer may (inl answered) =
    answered_said Reports named input Writes status text result answer answered
refused_said Reports named input Writes status text result answer may (inr memory) =
    subst (λ r. IsSaid Reports named input Writes r) (sym memory.0) (may, memory.1)

-- the line about a schedule that is refused was written, or memory ran out before it was made
pub schedule_said : (Reports : Schedule → List ℕ → Type 0) (input : List ℕ) (Writes : List ℕ → Type 0) (error : ScheduleError) (result : Status)
    → RefusesSchedule (text_lines input) error → (IsFault error × IsAnswered Refused (schedule_refused error) Writes result) ⊎ ((result ≡ OutOfMemory) × Writes [])
    → IsSaid Reports (Ok Replay) input Writes result
schedule_said Reports input Writes error result refuses (inl (fault, answered)) =
    answered_said Reports (Ok Replay) input Writes Refused (schedule_refused error) result (error, fault, refuses, refl) answered
schedule_said Reports input Writes error result refuses (inr memory) =
    subst (λ r. IsSaid Reports (Ok Replay) input Writes r) (sym memory.0) (tt, memory.1)

-- what a command has made was written
pub given_said : (Reports : Schedule → List ℕ → Type 0) (command : Command) (input : List ℕ) (Writes : List ℕ → Type 0)
    (made : Result Answer oom.OutOfMemory) (result : Status) → IfOk made (Answers (IsDone Reports command input) (IsRefusal command input))
    → WasGiven made Writes result → IsSaid Reports (Ok command) input Writes result
given_said Reports command input Writes (Ok (answer.Done text)) result done answered =
    answered_said Reports (Ok command) input Writes Done text.items result done answered
given_said Reports command input Writes (Ok (answer.Refused text)) result refusal answered =
    answered_said Reports (Ok command) input Writes Refused text.items result refusal answered
given_said Reports command input Writes (Err e) result made (memory, none) =
    subst (λ r. IsSaid Reports (Ok command) input Writes r) (sym memory) (tt, none)

-- and the input was read for it
pub given_through : (made : Result Answer oom.OutOfMemory) (Writes : List ℕ → Type 0) (result : Status) → WasGiven made Writes result → IsReadThrough result
given_through (Ok (answer.Done text)) Writes result (inl written) = subst IsReadThrough (sym written.0) tt
given_through (Ok (answer.Done text)) Writes result (inr failed) = subst IsReadThrough (sym failed.0) tt
given_through (Ok (answer.Refused text)) Writes result (inl written) = subst IsReadThrough (sym written.0) tt
given_through (Ok (answer.Refused text)) Writes result (inr failed) = subst IsReadThrough (sym failed.0) tt
given_through (Err e) Writes result memory = subst IsReadThrough (sym memory.0) tt

-- a line that is written before the input is read is no sign of bytes that came
abbrev pub IsBefore : Status → Type 0
IsBefore Usage = Unit {0}
IsBefore BadShape = Unit {0}
IsBefore OutOfMemory = Unit {0}
IsBefore WriteFault = Unit {0}
IsBefore status = ⊥

pub before_read : (Writes : List ℕ → Type 0) (status : Status) (text : List ℕ) (result : Status) → IsBefore status
    → IsAnswered status text Writes result → IsBefore result
before_read Writes status text result before (inl written) = subst IsBefore (sym written.0) before
before_read Writes status text result before (inr failed) = subst IsBefore (sym failed.0) tt

pub before_refused : (Writes : List ℕ → Type 0) (text : List ℕ) (result : Status)
    → IsAnswered BadShape text Writes result ⊎ ((result ≡ OutOfMemory) × Writes []) → IsBefore result
before_refused Writes text result (inl answered) = before_read Writes BadShape text result tt answered
before_refused Writes text result (inr memory) = subst IsBefore (sym memory.0) tt

pub before_short : (result : Status) → IsBefore result → result ≡ TooLong → ⊥
before_short result before long = let wrong = subst IsBefore long before in wrong

pub before_whole : (result : Status) → IsBefore result → IsReadWhole result → ⊥
before_whole Done before whole = before
before_whole Refused before whole = before
before_whole WireFault before whole = before
before_whole Usage before whole = whole
before_whole BadShape before whole = whole
before_whole OutOfMemory before whole = whole
before_whole WriteFault before whole = whole
before_whole ReadFault before whole = whole
before_whole TooLong before whole = whole

-- once the input was read, it was not too long
pub not_too_long : (status : Status) → IsReadThrough status → status ≡ TooLong → ⊥
not_too_long status through same = let wrong = subst IsReadThrough same through in wrong

-- a run that stopped before it read its input whole
pub stopped : (Reports : Schedule → List ℕ → Type 0) (Comes : List ℕ → Type 0)
    (left : Option (List ℕ)) (Ended : Type 0) (Writes : List ℕ → Type 0) (words : List (String Global))
    (named : Result Command Misuse) (status : Status) (bytes : List ℕ) → IsNamed words named
    → Comes bytes → (status ≡ TooLong ↔ most_input < length bytes) → (IsReadWhole status → ⊥)
    → IsSaid Reports named bytes Writes status
    → Means Reports Comes left Ended Writes words (code_of status)
stopped Reports Comes left Ended Writes words named status bytes is_named came too_long cut said = record {
  named = named;
  is_named = is_named;
  status = status;
  coded = refl;
  bytes = bytes;
  came = came;
  too_long = too_long;
  whole = λ whole. absurd (cut whole);
  ended = λ whole. absurd (cut whole);
  said = said;
}

-- ---- a replay that was done

abbrev first_byte : List (List ℕ) → ℕ
first_byte [] = 0
first_byte ([] ∷ words) = 0
first_byte ((b ∷ word) ∷ words) = b

-- the words of a replay name no other command
replay_named : (words : List (String Global)) (named : Result Command Misuse) → IsNamed words named → IsReplay words → named ≡ Ok Replay
replay_named words (Ok Replay) is replay = refl
replay_named words (Ok Frames) is replay = absurd (apart (sym is ∙ replay))
  where
    apart : ◌≡◌ {A = List (List ℕ)} (codes "frames" ∷ []) (codes "replay" ∷ []) → ⊥
    apart e = let letters : 102 ≡ 114 = ap first_byte e in omega (arith, letters)
replay_named words (Ok (Show shape)) (word, is, good) replay = absurd (apart word (sym is ∙ replay))
  where
    apart : (word : List ℕ) → ◌≡◌ {A = List (List ℕ)} (codes "show" ∷ word ∷ []) (codes "replay" ∷ []) → ⊥
    apart word e = cc
replay_named words (Ok (Write shape)) (word, is, good) replay = absurd (apart word (sym is ∙ replay))
  where
    apart : (word : List ℕ) → ◌≡◌ {A = List (List ℕ)} (codes "write" ∷ word ∷ []) (codes "replay" ∷ []) → ⊥
    apart word e = cc
replay_named words (Ok (Menu wanted)) (name, word, is, wants) replay = absurd (apart name word (sym is ∙ replay))
  where
    apart : (name word : List ℕ) → ◌≡◌ {A = List (List ℕ)} (codes "menu" ∷ name ∷ word ∷ []) (codes "replay" ∷ []) → ⊥
    apart name word e = cc
replay_named words (Err misuse.Usage) is replay = absurd (is (inr (inr (inl replay))))
replay_named words (Err (misuse.BadShape error)) (word, inl is, refuses) replay = absurd (apart word (sym is ∙ replay))
  where
    apart : (word : List ℕ) → ◌≡◌ {A = List (List ℕ)} (codes "show" ∷ word ∷ []) (codes "replay" ∷ []) → ⊥
    apart word e = cc
replay_named words (Err (misuse.BadShape error)) (word, inr is, refuses) replay = absurd (apart word (sym is ∙ replay))
  where
    apart : (word : List ℕ) → ◌≡◌ {A = List (List ℕ)} (codes "write" ∷ word ∷ []) (codes "replay" ∷ []) → ⊥
    apart word e = cc
replay_named words (Err misuse.OutOfMemory) (name, word, is) replay = absurd (apart name word (sym is ∙ replay))
  where
    apart : (name word : List ℕ) → ◌≡◌ {A = List (List ℕ)} (codes "menu" ∷ name ∷ word ∷ []) (codes "replay" ∷ []) → ⊥
    apart name word e = cc

done_code : (s : Status) → code_of s ≡ code_of Done → s ≡ Done
done_code Done e = refl
done_code Refused e = absurd (omega (arith, e))
done_code BadShape e = absurd (omega (arith, e))
done_code Usage e = absurd (omega (arith, e))
done_code ReadFault e = absurd (omega (arith, e))
done_code WriteFault e = absurd (omega (arith, e))
done_code WireFault e = absurd (omega (arith, e))
done_code OutOfMemory e = absurd (omega (arith, e))
done_code TooLong e = absurd (omega (arith, e))

-- its report is of the schedule that the input spells
module _ (Reports Other : Schedule → List ℕ → Type 0) (turn : (s : Schedule) (text : List ℕ) → Reports s text → Other s text) (left : Option (List ℕ))
    (Writes : List ℕ → Type 0) where
  report_of : (bytes : List ℕ) → IsSaid Reports (Ok Replay) bytes Writes Done → IfSome left (λ text. bytes ≡ text) → IsReportOfInput Other left Writes
  report_of bytes (report, (s, spelled, reported), written) whole = by left whole
    where
      by : (left : Option (List ℕ)) → IfSome left (λ text. bytes ≡ text) → IsReportOfInput Other left Writes
      by None whole = tt
      by (Some text) whole = record {
        schedule = s;
        spelled = subst (IsScheduleText s) whole spelled;
        report = report;
        reported = turn s report reported;
        written = written;
      }

  pub replay_reports : (Comes : List ℕ → Type 0) (Ended : Type 0) (words : List (String Global)) (code : ℕ) → Means Reports Comes left Ended Writes words code
      → IsReplay words → code ≡ code_of Done → IsReportOfInput Other left Writes
  replay_reports Comes Ended words code m replay done =
      let status = done_code m.status (sym m.coded ∙ done) in
      let said = subst (λ n. IsSaid Reports n m.bytes Writes Done) (replay_named words m.named m.is_named replay)
      (subst (λ z. IsSaid Reports m.named m.bytes Writes z) status m.said) in
      report_of m.bytes said (m.whole (subst (λ z. IsReadWhole z) (sym status) tt))

-- ---- from the bytes that came to the whole input

pub whole_came : (left : Option (List ℕ)) (all bytes : List ℕ) → all ≡ bytes
    → IfSome left (λ text. all ≡ text) → IfSome left (λ text. bytes ≡ text)
whole_came None all bytes same whole = whole
whole_came (Some text) all bytes same whole = sym same ∙ whole
