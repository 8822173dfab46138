-- What a book took of all that came is what it shows.
use Rattle.std.proofs.Common.{◌≡◌, refl, sym, ap, ◌∙◌, subst, ℕ, ◌^◌, ◌<◌, false, true, List, [], ◌∷◌, ◌++◌, inl, inr}
use Rattle.std.specs.Prelude.{Option, Some, None}
use Rattle.std.proofs.lemmas.List.{append-nil}
use Rattle.std.proofs.lemmas.List.Elements.{filter_map-append}
use Rattle.readers.specs.Reader.{Each, IsByte}
use Rattle.rpc_msg.specs.declared.message.Message.{Message}
use Rattle.rpc_msg.specs.declared.shared.CloseCause.{CloseCause}
use Rattle.rpc_msg.specs.declared.shared.CloseCause.TheVariants as cause
use Rattle.rpc_msg.specs.declared.shared.Part.{Part}
use Rattle.rpc_log.specs.Logs.{log_of, response_for, responses_of}
use Rattle.rpc_talk.specs.Parts.{Held, cut_parts, held_by, parts_of}
use Rattle.rpc_talk.specs.Welcome.{accepted}
use Rattle.rpc_end.specs.Ends.{is_closed}
use Rattle.rpc_book.specs.Books.{BookState, Booked, calls_of, held_in}
use Rattle.rpc_pair.specs.Seen.{BookShows, CauseShows, AreFirstOf, fault_given, held_given, is_journal_full}
use Rattle.rpc_pair.proofs.SeenCauses.{IsFault, is_fault}
use Rattle.rpc_pair.proofs.SeenFaults.{accepted_grows, fault_stays}
use Rattle.rpc_pair.proofs.SeenParts.{cut_front, parts_front}
use Rattle.rpc_pair.proofs.SeenTook.{IsOwnCause, Took, TookAll, TookFault, TookFull}

pub each_of_all : {X : Type 0} (P : X → Type 0) → ((x : X) → P x) → (xs : List X) → Each P xs
each_of_all P all [] = tt
each_of_all P all (x ∷ xs) = (all x, each_of_all P all xs)

same_front : (a b : List Part) → a ≡ b → AreFirstOf a b
same_front a b same = ([], sym same ∙ sym (append-nil a))

module _ (given : List ℕ) (b : BookState) (few : b.limits.max_message < 256 ^ 8) (bytes : Each IsByte given) where
  abbrev m : ℕ
  m = b.limits.max_message

  -- what the messages that are accepted make of a dispatch
  abbrev held_of_log : Booked → List Message → Held
  held_of_log d log = held_by (parts_of m d.made.desc (responses_of d.made.id log)) d.made.cut (is_closed b.link)

  -- ---- it took all

  own_shows : (o : Option CloseCause) → IsOwnCause o → b.got ≡ given → fault_given b given ≡ None → CauseShows b given o
  own_shows None own got none = (got, none)
  own_shows (Some (cause.Late last now)) own got none = (got, none)
  own_shows (Some cause.EndOfInput) own got none = (got, none)
  own_shows (Some cause.ClosedHere) own got none = (got, none)
  own_shows (Some _) own got none = absurd own

  all_shows : TookAll given b → IsOwnCause b.link.cause → BookShows given b
  all_shows all own =
      let held : (d : Booked) → held_in b d ≡ held_given b given d = λ d. ap (λ bs. held_given b bs d) (sym all.all) in
      record {
        bytes = bytes;
        left = [];
        front = all.all ∙ sym (append-nil b.got);
        held = λ any. each_of_all (λ d. held_in b d ≡ held_given b given d) held b.made;
        parts = each_of_all (λ d. AreFirstOf (held_in b d).parts (held_given b given d).parts) (λ d. same_front _ _ (ap (λ h. h.parts) (held d))) b.made;
        cause = own_shows b.link.cause own (sym all.all) (ap (fault_given b) all.all ∙ all.calm);
      }

  -- ---- it took them up to a fault

  fault_shows : (why : CloseCause) → IsFault why → fault_given b given ≡ Some why → CauseShows b given (Some why)
  fault_shows (cause.BadFrame at) fault is = is
  fault_shows (cause.BadHeader why) fault is = is
  fault_shows cause.NoCommonProtocol fault is = is
  fault_shows (cause.BadMessage why) fault is = is
  fault_shows (cause.UnknownId id) fault is = is
  fault_shows (cause.BadStreamData id why) fault is = is
  fault_shows _ fault is = absurd fault

  stop_shows : (why : CloseCause) → TookFault given b why → BookShows given b
  stop_shows why stops =
      let all_bytes = subst (Each IsByte) stops.front bytes in
      let (cause_is, log_is) = fault_stays m few (calls_of b.made) b.got stops.left all_bytes why stops.fault in
      let log : accepted m (calls_of b.made) (log_of m given) ≡ accepted m (calls_of b.made) (log_of m b.got)
      = ap (λ s. accepted m (calls_of b.made) (log_of m s)) stops.front ∙ log_is in
      let held : (d : Booked) → held_in b d ≡ held_given b given d = λ d. ap (held_of_log d) (sym log) in
      record {
        bytes = bytes;
        left = stops.left;
        front = stops.front;
        held = λ any. each_of_all (λ d. held_in b d ≡ held_given b given d) held b.made;
        parts = each_of_all (λ d. AreFirstOf (held_in b d).parts (held_given b given d).parts) (λ d. same_front _ _ (ap (λ h. h.parts) (held d))) b.made;
        cause = subst (CauseShows b given) (sym stops.closed)
            (fault_shows why (is_fault m (calls_of b.made) b.got why stops.fault) (ap (fault_given b) stops.front ∙ cause_is));
      }

  -- ---- it took as many as it has room for

  full_parts : TookFull given b → (d : Booked) → AreFirstOf (held_in b d).parts (held_given b given d).parts
  full_parts full d =
      let all_bytes = subst (Each IsByte) full.front bytes in
      let (later, grown) = accepted_grows m few (calls_of b.made) b.got full.left all_bytes full.calm in
      let id = d.made.id in
      let before = responses_of id (accepted m (calls_of b.made) (log_of m b.got)) in
      let answers : responses_of id (accepted m (calls_of b.made) (log_of m given)) ≡ before ++ responses_of id later
      = ap (λ s. responses_of id (accepted m (calls_of b.made) (log_of m s))) full.front
      ∙ (ap (responses_of id) grown ∙ filter_map-append (response_for id) (accepted m (calls_of b.made) (log_of m b.got)) later) in
      subst (λ answers. AreFirstOf (held_in b d).parts (cut_parts d.made.cut (parts_of m d.made.desc answers).parts)) (sym answers)
      (cut_front d.made.cut (parts_of m d.made.desc before).parts (parts_of m d.made.desc (before ++ responses_of id later)).parts
      (parts_front m d.made.desc (responses_of id later) before))

  full_shows : TookFull given b → BookShows given b
  full_shows full = record {
    bytes = bytes;
    left = full.left;
    front = full.front;
    held = λ none. absurd (let line : true ≡ false = sym (ap is_journal_full full.closed) ∙ none in cc);
    parts = each_of_all (λ d. AreFirstOf (held_in b d).parts (held_given b given d).parts) (full_parts full) b.made;
    cause = subst (CauseShows b given) (sym full.closed) (refl, full.over);
  }

  pub took_shows : Took given b → BookShows given b
  took_shows (inl (all, own)) = all_shows all own
  took_shows (inr (inl (why, stops))) = stop_shows why stops
  took_shows (inr (inr full)) = full_shows full
