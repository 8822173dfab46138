-- Bodies that are a log: one more, and what the log of their stream is.
use Rattle.std.proofs.Common.{◌≡◌, refl, sym, ap, ◌∙◌, ℕ, if◌then◌else◌, List, [], ◌∷◌, ◌++◌, map}
use Rattle.std.specs.Prelude.{Some}
use Rattle.std.proofs.lemmas.List.{map-append}
use Rattle.rpc_msg.specs.declared.message.Message.{Message}
use Rattle.rpc_log.specs.Logs.{then_messages, messages_in, log_in}
use Rattle.rpc_log.specs.Readings.{message_in}
use Rattle.rpc_talk.specs.Opened.{AreReadAs, AreOpened}

-- ---- messages

pub no_more : (m : ℕ) (log : List Message) → AreReadAs m [] log → log ≡ []
no_more m [] read = refl
no_more m (a ∷ log) read = absurd cc

pub first_read : (m : ℕ) (body : List ℕ) (bodies : List (List ℕ)) (a : Message) (log : List Message) → AreReadAs m (body ∷ bodies) (a ∷ log)
    → (message_in m body ≡ Some a) × AreReadAs m bodies log
first_read m body bodies a log read =
    let head : message_in m body ≡ Some a = cc in
    let tail : map (message_in m) bodies ≡ map Some log = cc in
    (head, tail)

pub one_more : (m : ℕ) (bodies : List (List ℕ)) (log : List Message) (body : List ℕ) (a : Message) → AreReadAs m bodies log → message_in m body ≡ Some a
    → AreReadAs m (bodies ++ body ∷ []) (log ++ a ∷ [])
one_more m bodies log body a read is =
    map-append (message_in m) bodies (body ∷ []) ∙ (ap (λ xs. xs ++ message_in m body ∷ []) read
    ∙ (ap (λ x. map Some log ++ x ∷ []) is ∙ sym (map-append Some log (a ∷ []))))

-- ---- opened logs

pub more_opened : (m : ℕ) (head : List ℕ) (bodies : List (List ℕ)) (log : List Message) (body : List ℕ) (a : Message) → AreOpened m (head ∷ bodies) log
    → message_in m body ≡ Some a → AreOpened m (head ∷ bodies ++ body ∷ []) (log ++ a ∷ [])
more_opened m head bodies log body a (is_open, read) is = (is_open, one_more m bodies log body a read is)

messages_are : (m : ℕ) (bodies : List (List ℕ)) (log : List Message) → AreReadAs m bodies log → messages_in m bodies ≡ log
messages_are m [] log read = sym (no_more m log read)
messages_are m (body ∷ bodies) [] read = absurd cc
messages_are m (body ∷ bodies) (a ∷ log) read =
    let (head, tail) = first_read m body bodies a log read in
    ap (λ o. then_messages o (messages_in m bodies)) head ∙ ap (λ xs. a ∷ xs) (messages_are m bodies log tail)

-- they are the log of their stream
pub opened_log : (m : ℕ) (bodies : List (List ℕ)) (log : List Message) → AreOpened m bodies log → log_in m bodies ≡ log
opened_log m [] log is = sym is
opened_log m (head ∷ bodies) log (is_open, read) = ap (λ b. if b then messages_in m bodies else []) is_open ∙ messages_are m bodies log read
