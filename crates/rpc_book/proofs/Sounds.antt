-- What holds of every book.
use Rattle.std.proofs.Common.{◌≡◌, refl, sym, ap, ◌∙◌, subst, ℕ, List, [], ◌∷◌}
use Rattle.std.specs.Prelude.{None}
use Rattle.rpc_frame.specs.Streams.{bodies}
use Rattle.rpc_msg.specs.declared.message.Message.{Message}
use Rattle.rpc_log.specs.Logs.{log_of, responses_of}
use Rattle.rpc_talk.specs.Causes.{cause_of}
use Rattle.rpc_talk.specs.Opened.{AreOpened}
use Rattle.rpc_talk.proofs.StreamCauses.{no_frame_cause}
use Rattle.rpc_end.specs.Ends.{is_closed}
use Rattle.rpc_end.specs.Taken.{HasTaken, has_first}
use Rattle.rpc_end.proofs.Taken.{limit_few}
use Rattle.rpc_client.specs.Clients.{ClientState}
use Rattle.rpc_client.specs.Kept.{IsGoing, IsKept, accepted_of as client_accepted, row_calls}
use Rattle.rpc_client.proofs.Dispatches.{all_accepted, taken_log}
use Rattle.rpc_client.proofs.Gots.{fine}
use Rattle.rpc_book.specs.declared.made.Made.{Made}
use Rattle.rpc_book.specs.Books.{HasNoFault, IsSound, IsSoundBooked, accepted_in, begins, calls_of, messages_of}
use Rattle.rpc_book.specs.Inside.{IsBook, book_of}
use Rattle.rpc_book.proofs.Same.{accepted_same, calls_same, sound_same}
use Rattle.rpc_book.proofs.Ties.{each_both, ids_both}

-- the first body of an opened log is its header
pub opened_first : (m : ℕ) (bs : List (List ℕ)) (log : List Message) → AreOpened m bs log → has_first bs ≡ begins m bs
opened_first m [] log is = refl
opened_first m (head ∷ bs) log (opened, read) = sym opened

module _ (c : ClientState) (made : List Made) (got : List ℕ) (is : IsBook c made got) where
  pub bodies_same : (going : IsGoing c got) → bodies c.limits.max_message got ≡ going.bodies
  bodies_same going =
      ap (λ n. bodies n got) (sym is.has.max)
      ∙ (no_frame_cause c.link.max (limit_few c.link.max is.has.limit) got going.bodies c.link.held is.has.bytes going.took.bodies_are).1

  pub log_same : (going : IsGoing c got) → messages_of (book_of c made got) ≡ going.log
  log_same going = ap (λ n. log_of n got) (sym is.has.max) ∙ taken_log c.link got going.bodies going.log is.has.limit is.has.bytes going.took

  pub all_same : (going : IsGoing c got) → accepted_in (book_of c made got) ≡ going.log
  all_same going = accepted_same c made got is ∙ all_accepted c got is.has.limit is.has.bytes going

  -- the fault of some bytes
  pub fault_same : (s : List ℕ) → cause_of c.limits.max_message (calls_of (book_of c made got).made) s ≡ cause_of c.link.max (row_calls c.rows) s
  fault_same s =
      ap (λ n. cause_of n (calls_of (book_of c made got).made) s) (sym is.has.max) ∙ ap (λ cs. cause_of c.link.max cs s) (calls_same c made got is)

  no_fault : c.link.cause ≡ None → HasNoFault (book_of c made got)
  no_fault open_ =
      let going = is.has.going open_ in
      let opened = opened_first c.link.max going.bodies going.log going.took.read in
      record {
        took = subst (λ bs. HasTaken c.link got bs (messages_of (book_of c made got))) (sym (bodies_same going)) (subst (HasTaken c.link got going.bodies) (sym (log_same going)) going.took);
        accepted = all_same going ∙ sym (log_same going);
        fault = fault_same got ∙ fine c got open_ is.has;
        header = going.took.greeted ∙ (opened ∙ (ap (λ n. begins n going.bodies) is.has.max ∙ ap (begins c.limits.max_message) (sym (bodies_same going))));
      }

  pub sound : IsSound (book_of c made got)
  sound = record {
    max = is.has.max;
    room = is.room;
    bytes = is.has.bytes;
    made = each_both (λ row. IsKept c.link.max (is_closed c.link) (responses_of row.id (client_accepted c.link.max c.rows got)) row) (IsSoundBooked (book_of c made got))
        (sound_same c made got is) made c.rows is.dispatches is.has.kept;
    ids = ids_both made c.rows is.dispatches is.has.calls.apart;
    going = no_fault;
  }
