-- A message that can be spelled, and is short, is read back.
use Rattle.std.proofs.Common.{◌≡◌, refl, ℕ, ◌+◌, ◌<◌, ◌≤◌, ◌^◌, true, Some, List, [], ◌∷◌, length, inl, arith}
use Rattle.bp_value.specs.declared.value.Sexp.TheVariants as sx
use Rattle.bp_value.specs.declared.value.Value.TheVariants as val
use Rattle.bp_value.specs.Fits.{FitsSexp, Fits, FitParts, FitCase}
use Rattle.bp_grammar.proofs.SomeBytes.{IsFull, ArePartsFull, AreCasesFull}
use Rattle.bp_grammar.proofs.Written.{written_spells}
use Rattle.rpc_msg.specs.declared.message.Query.{Query}
use Rattle.rpc_msg.specs.declared.message.Answer.{Answer}
use Rattle.rpc_msg.specs.declared.message.Answer.TheVariants as answer
use Rattle.rpc_msg.specs.declared.message.RpcError.{RpcError}
use Rattle.rpc_msg.specs.declared.message.RpcError.TheVariants as error
use Rattle.rpc_msg.specs.declared.message.Message.{Message}
use Rattle.rpc_msg.specs.declared.message.Message.TheVariants as message
use Rattle.rpc_msg.specs.Forms.{version_form, error_form, query_form, answer_form, response_form, message_form}
use Rattle.rpc_msg.specs.Values.{unimplemented_values, error_value, query_value, answer_value, response_value, message_value}
use Rattle.rpc_log.specs.Readings.{message_in}
use Rattle.rpc_log.proofs.Told.{spelled_message}
use Rattle.rpc_schema.specs.Entries.{IsAnyOf}
use Rattle.rpc_talk.specs.Acts.{body_of, cannot_read, failed_with, is_short, unreadable_query}
use Rattle.rpc_talk.specs.Spellable.{IsShallow, IsSpellableError, IsSpellableAnswer, IsSpellable}
use Rattle.rpc_talk.proofs.ShortBodies.{short_body}
use Rattle.rpc_talk.proofs.ShortFits.{short_fits}

-- ---- no part of a message takes no byte

version_full : IsFull version_form
unfolding IsFull ArePartsFull AreCasesFull
version_full = ((tt, tt), tt)

error_full : IsFull error_form
unfolding IsFull ArePartsFull AreCasesFull
error_full = ((tt, tt), (tt, ((tt, tt), ((tt, tt), ((tt, (version_full, tt)), ((tt, tt), tt))))))

answer_full : IsFull answer_form
unfolding IsFull ArePartsFull AreCasesFull
answer_full = ((tt, tt), ((error_full, tt), tt))

query_full : IsFull query_form
unfolding IsFull ArePartsFull
query_full = (tt, (tt, (tt, (tt, (tt, tt)))))

response_full : IsFull response_form
unfolding IsFull ArePartsFull
response_full = (tt, (tt, (answer_full, tt)))

message_full : IsFull message_form
unfolding IsFull ArePartsFull AreCasesFull
message_full = (tt, ((query_full, tt), ((response_full, tt), tt)))

-- ---- messages that can be spelled fit

error_fits : (e : RpcError) → IsSpellableError e → IsAnyOf error_form (error_value e)
unfolding Fits FitParts FitCase
error_fits (error.BinIo s) (k, fits) = (k, (0, (val.Sexp s ∷ [], refl, ((s, refl, fits), tt))))
error_fits error.ConnectionClosed is = (0, (1, ([], refl, tt)))
error_fits (error.WriteError s) (k, fits) = (k, (2, (val.Sexp s ∷ [], refl, ((s, refl, fits), tt))))
error_fits (error.Uncaught s) (k, fits) = (k, (3, (val.Sexp s ∷ [], refl, ((s, refl, fits), tt))))
error_fits (error.Unimplemented tag version) within = (
  length tag,
  (
    4,
    (
      unimplemented_values (tag, version),
      refl,
      ((tag, refl, omega arith), ((0, (val.Num version ∷ [], refl, ((version, refl, within), tt))), tt)),
    ),
  ),
)
error_fits (error.UnknownId id) within = (0, (5, (val.Num id ∷ [], refl, ((id, refl, within), tt))))

answer_fits : (a : Answer) → IsSpellableAnswer a → IsAnyOf answer_form (answer_value a)
unfolding Fits FitParts FitCase
answer_fits (answer.Ok body) is = (length body, (0, (val.Text body ∷ [], refl, ((body, refl, omega arith), tt))))
answer_fits (answer.Error e) is = let (k, fits) = error_fits e is in (k, (1, (error_value e ∷ [], refl, (fits, tt))))

query_fits : (k : ℕ) (q : Query) → IsSpellable (message.Query q) → length q.tag ≤ k → length q.body ≤ k → Fits k query_form (query_value q)
unfolding Fits FitParts
query_fits k q is tag body = (
  val.Text q.tag ∷ val.Num q.version ∷ val.Num q.id ∷ val.Text q.body ∷ [],
  refl,
  ((q.tag, refl, tag), ((q.version, refl, is.0), ((q.id, refl, is.1), ((q.body, refl, body), tt)))),
)

pub spellable_fits : (a : Message) → IsSpellable a → IsAnyOf message_form (message_value a)
unfolding Fits FitParts FitCase
spellable_fits message.Heartbeat is = (0, (0, ([], refl, tt)))
spellable_fits (message.Query q) is =
    let k = length q.tag + length q.body in
    (k, (1, (query_value q ∷ [], refl, (query_fits k q is (omega arith) (omega arith), tt))))
spellable_fits (message.Response r) is =
    let (k, fits) = answer_fits r.result is.1 in
    (k, (2, (response_value r ∷ [], refl, ((val.Num r.id ∷ answer_value r.result ∷ [], refl, ((r.id, refl, is.0), (fits, tt))), tt))))

-- ---- reading back

pub message_back : (m : ℕ) (a : Message) → m < 2 ^ 64 → IsAnyOf message_form (message_value a) → is_short m a ≡ true
    → message_in m (body_of a) ≡ Some a
message_back m a small (k, fits) short =
    spelled_message m (body_of a) a
    (written_spells m message_form (message_value a) small
    (short_fits k m message_form (message_value a) message_full fits (short_body m a short)))

pub message_reads : (m : ℕ) (a : Message) → m < 2 ^ 64 → IsSpellable a → is_short m a ≡ true → message_in m (body_of a) ≡ Some a
message_reads m a small is short = message_back m a small (spellable_fits a is) short

-- ---- answers that an end makes

atom_shallow : (t : List ℕ) → IsShallow (sx.Atom t)
unfolding FitsSexp
atom_shallow t = (length t, inl (t, refl, omega arith))

pub failed_spellable : (t : List ℕ) → IsSpellableAnswer (failed_with t)
failed_spellable t = atom_shallow t

pub unreadable_spellable : IsSpellableAnswer cannot_read
unreadable_spellable = atom_shallow unreadable_query
