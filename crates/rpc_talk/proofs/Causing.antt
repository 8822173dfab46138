-- The fault of a stream, by the bodies and messages that were taken of it and what comes next.
use Rattle.std.proofs.Common.{◌≡◌, refl, sym, ap, ◌∙◌, ℕ, ◌+◌, true, false, if◌then◌else◌, List, [], ◌∷◌, ◌++◌, length, append_assoc, arith}
use Rattle.std.specs.Prelude.{Option, Some, None}
use Rattle.std.proofs.lemmas.List.{append-nil, length-append}
use Rattle.bp_num.specs.Forms.{little_endian}
use Rattle.rpc_frame.specs.Frames.{frame, frames}
use Rattle.rpc_frame.proofs.HeadSteps.{length-little}
use Rattle.rpc_msg.specs.declared.message.Header.{Header}
use Rattle.rpc_msg.specs.declared.message.Message.{Message}
use Rattle.rpc_msg.specs.declared.shared.CloseCause.{CloseCause}
use Rattle.rpc_log.specs.Logs.{opens, is_opening}
use Rattle.rpc_log.specs.Readings.{message_in, header_in}
use Rattle.rpc_talk.specs.Causes.{bad_header, bad_message, unwelcome, message_cause, with_message, cause_after, header_cause, cause_in}
use Rattle.rpc_talk.specs.Opened.{AreReadAs, AreOpened}
use Rattle.rpc_talk.specs.Welcome.{Call, is_welcome}
use Rattle.rpc_talk.proofs.Accepting.{IsTaken, taken_first}
use Rattle.rpc_talk.proofs.Opening.{first_read}

frame_length : (body : List ℕ) → length (frame body) ≡ 8 + length body
frame_length body = length-append (little_endian 8 (length body)) body ∙ ap (λ n. n + length body) (length-little 8 (length body))

frames_length : (body : List ℕ) (bodies : List (List ℕ)) → length (frames (body ∷ bodies)) ≡ 8 + length body + length (frames bodies)
frames_length body bodies = length-append (frame body) (frames bodies) ∙ ap (λ n. n + length (frames bodies)) (frame_length body)

module _ (m : ℕ) (calls : List Call) (end : Option CloseCause) where
  -- ---- messages

  welcome_cause : (before : List Message) (start : ℕ) (body : List ℕ) (later : List (List ℕ)) (a : Message) → message_in m body ≡ Some a → is_welcome m calls before a ≡ true
      → cause_after end m calls before start (body ∷ later) ≡ cause_after end m calls (before ++ a ∷ []) (start + 8 + length body) later
  welcome_cause before start body later a read welcome =
      ap (λ o. message_cause (bad_message m (start + 8) body) m calls before (cause_after end m calls (with_message before o) (start + 8 + length body) later) o) read
      ∙ ap (λ b. if b then cause_after end m calls (before ++ a ∷ []) (start + 8 + length body) later else unwelcome m calls before a) welcome

  -- messages that are welcome leave what is behind them
  cause_on : (before log : List Message) (start : ℕ) (bodies later : List (List ℕ)) → AreReadAs m bodies log → IsTaken m calls before log
      → cause_after end m calls before start (bodies ++ later) ≡ cause_after end m calls (before ++ log) (start + length (frames bodies)) later
  cause_on before [] start [] later read all =
      let at : start ≡ start + 0 = omega (arith) in
      ap (λ b. cause_after end m calls b start later) (sym (append-nil before)) ∙ ap (λ n. cause_after end m calls (before ++ []) n later) at
  cause_on before (a ∷ log) start [] later read all = absurd cc
  cause_on before [] start (body ∷ bodies) later read all = absurd cc
  cause_on before (a ∷ log) start (body ∷ bodies) later read all =
      let (head, tail) = first_read m body bodies a log read in
      let (welcome, rest) = taken_first m calls before a log all in
      let at : start + 8 + length body + length (frames bodies) ≡ start + length (frames (body ∷ bodies)) = omega (arith, frames_length body bodies) in
      welcome_cause before start body (bodies ++ later) a head welcome
      ∙ (cause_on (before ++ a ∷ []) log (start + 8 + length body) bodies later tail rest
      ∙ (ap (λ b. cause_after end m calls b (start + 8 + length body + length (frames bodies)) later) (append_assoc before (a ∷ []) log)
      ∙ ap (λ n. cause_after end m calls (before ++ a ∷ log) n later) at))

  -- ---- the header

  opening : (later : Option CloseCause) (head : List ℕ) → opens m head ≡ true → header_cause (bad_header m head) later (header_in m head) ≡ later
  opening later head is_open = by (header_in m head) is_open
    where
      by : (o : Option Header) → is_opening o ≡ true → header_cause (bad_header m head) later o ≡ later
      by None is = absurd cc
      by (Some header) is = ap (λ b. if b then later else Some CloseCause.NoCommonProtocol) is

  -- of a stream that was opened, the fault is that of what is behind its log
  pub opened_cause : (head : List ℕ) (bodies later : List (List ℕ)) (log : List Message) → AreOpened m (head ∷ bodies) log → IsTaken m calls [] log
      → cause_in end m calls (head ∷ bodies ++ later) ≡ cause_after end m calls log (length (frames (head ∷ bodies))) later
  opened_cause head bodies later log (is_open, read) all =
      opening (cause_after end m calls [] (8 + length head) (bodies ++ later)) head is_open
      ∙ (cause_on [] log (8 + length head) bodies later read all
      ∙ ap (λ n. cause_after end m calls log n later) (sym (frames_length head bodies)))

  -- ---- what comes next

  -- nothing that is at fault
  pub none_behind : (bodies : List (List ℕ)) (log : List Message) → AreOpened m bodies log → IsTaken m calls [] log → cause_in end m calls bodies ≡ end
  none_behind [] log is all = refl
  none_behind (head ∷ bodies) log is all = ap (λ bs. cause_in end m calls (head ∷ bs)) (sym (append-nil bodies)) ∙ opened_cause head bodies [] log is all

  -- a body that is no message
  pub unread_behind : (head : List ℕ) (bodies : List (List ℕ)) (log : List Message) (body : List ℕ) → AreOpened m (head ∷ bodies) log → IsTaken m calls [] log
      → message_in m body ≡ None → cause_in end m calls (head ∷ bodies ++ body ∷ []) ≡ bad_message m (length (frames (head ∷ bodies)) + 8) body
  unread_behind head bodies log body is all none =
      let start = length (frames (head ∷ bodies)) in
      opened_cause head bodies (body ∷ []) log is all
      ∙ ap (λ o. message_cause (bad_message m (start + 8) body) m calls log (cause_after end m calls (with_message log o) (start + 8 + length body) []) o) none

  -- a message that is not welcome
  pub unwelcome_behind : (head : List ℕ) (bodies : List (List ℕ)) (log : List Message) (body : List ℕ) (a : Message) → AreOpened m (head ∷ bodies) log → IsTaken m calls [] log
      → message_in m body ≡ Some a → is_welcome m calls log a ≡ false → cause_in end m calls (head ∷ bodies ++ body ∷ []) ≡ unwelcome m calls log a
  unwelcome_behind head bodies log body a is all read not_welcome =
      let start = length (frames (head ∷ bodies)) in
      opened_cause head bodies (body ∷ []) log is all
      ∙ (ap (λ o. message_cause (bad_message m (start + 8) body) m calls log (cause_after end m calls (with_message log o) (start + 8 + length body) []) o) read
      ∙ ap (λ b. if b then cause_after end m calls (log ++ a ∷ []) (start + 8 + length body) [] else unwelcome m calls log a) not_welcome)
