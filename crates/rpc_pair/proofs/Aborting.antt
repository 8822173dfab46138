-- An abort at a book has the answer that it has in the world, and the book goes along with the talk.
use Rattle.std.proofs.Common.{◌≡◌, refl, sym, ap, ◌∙◌, subst, ℕ, Bool, true, false, not, if◌then◌else◌, List, [], ◌∷◌, map, length}
use Rattle.std.specs.Prelude.{Option, Some, None, Result, Ok, Err}
use Rattle.std.specs.Option.{is_some, option_map}
use Rattle.std.proofs.lemmas.List.{append-nil}
use Rattle.rpc_msg.specs.declared.shared.Part.{Part}
use Rattle.rpc_end.specs.Ends.{is_closed}
use Rattle.rpc_talk.specs.Parts.{Held, is_stream}
use Rattle.rpc_meeting.specs.declared.answer.Refusal.TheVariants as world
use Rattle.rpc_meeting.specs.declared.answer.StepAnswer.TheVariants.{Refused, Done}
use Rattle.rpc_meeting.specs.declared.answer.Refusal.{Refusal}
use Rattle.rpc_meeting.specs.Steps.{Stepped, abort_held, done, refused}
use Rattle.rpc_meeting.specs.Talks.{Common, Dispatch, abort_of, cut_at, find_made, is_nil, received, with_abort}
use Rattle.rpc_meeting.specs.Worlds.{World, come, is_shut, set_talk}
use Rattle.rpc_meeting.proofs.Lines.{most}
use Rattle.rpc_client.specs.declared.error.AbortError.{AbortError}
use Rattle.rpc_client.specs.declared.error.AbortError.TheVariants as unstopped
use Rattle.rpc_book.specs.Books.{BookState, Booked, HaveDistinctIds, changed, find_booked, has_booked_id, held_in}
use Rattle.rpc_book.specs.Calls.{Aborts, IsAbortedAt, cut_refusal, cut_to, has_part, refusal_for}
use Rattle.rpc_pair.specs.Callers.{AsksAlong, BooksAlong, aborted_as}
use Rattle.rpc_pair.specs.Standing.{booked_of}
use Rattle.rpc_pair.proofs.Bookings.{booked_found, cut_same, ids_cut}
use Rattle.rpc_pair.proofs.Held.{HasHeard, held_same}

-- it has begun where it has a part
first_same : (ps : List Part) → not (has_part ps) ≡ is_nil ps
first_same [] = refl
first_same (p ∷ ps) = refl

module _ (r : Common) (w : World) (b : BookState) (heard : HasHeard r b w.talk (come w)) (shut : is_closed b.link ≡ is_shut w.client)
    (d : Dispatch) (own : find_made d.id w.talk.made ≡ Some d) (result : Result (Unit {0}) AbortError) (new : BookState) where
  abbrev h : Held
  h = received (most r) (come w) false d

  abbrev step_now : Stepped
  step_now = abort_held r w d h

  found : find_booked d.id b.made ≡ Some (booked_of d)
  found = ap (find_booked d.id) heard.stands.made ∙ (booked_found d.id w.talk.made ∙ ap (option_map booked_of) own)

  -- ---- the book's tests are the world's

  abbrev step_by : Bool → Bool → Bool → Bool → Stepped
  step_by closed ended stream first =
      if closed then refused w world.Closed else if ended then refused w world.AlreadyEnded else if not stream then refused w world.NotStream
      else if first then refused w world.NotBegun else done (set_talk w (with_abort w.talk d (length h.parts)))

  abbrev refusal_by : Bool → Bool → Bool → Bool → Option AbortError
  refusal_by closed ended stream first =
      if closed then Some unstopped.Closed else if ended then Some unstopped.AlreadyEnded else if not stream then Some unstopped.NotStream
      else if first then Some unstopped.NotBegun else None

  -- what a book that is open holds is what the world tests
  held_now : is_closed b.link ≡ false → held_in b (booked_of d) ≡ h
  held_now going = held_same r b w.talk (come w) heard d ∙ ap (λ c. received (most r) (come w) c d) going

  refusal_is : cut_refusal b d.id ≡ refusal_by (is_closed b.link) (is_some h.ending) (is_stream d.desc.kind) (is_nil h.parts)
  refusal_is = by (is_closed b.link) refl
    where
      by : (c : Bool) → is_closed b.link ≡ c
          → (if c then Some unstopped.Closed else refusal_for b (find_booked d.id b.made)) ≡ refusal_by c (is_some h.ending) (is_stream d.desc.kind) (is_nil h.parts)
      by true is = refl
      by false going =
          ap (refusal_for b) found
          ∙ (ap (λ x. refusal_by false (is_some x.ending) (is_stream d.desc.kind) (not (has_part x.parts))) (held_now going)
          ∙ ap (refusal_by false (is_some h.ending) (is_stream d.desc.kind)) (first_same h.parts))

  step_is : step_now ≡ step_by (is_closed b.link) (is_some h.ending) (is_stream d.desc.kind) (is_nil h.parts)
  step_is = ap (λ c. step_by c (is_some h.ending) (is_stream d.desc.kind) (is_nil h.parts)) (sym shut)

  -- it is done, or refused for the same reason
  abbrev IsDecided : Option AbortError → Stepped → Type 0
  IsDecided None to = (is_closed b.link ≡ false) × (to ≡ done (set_talk w (with_abort w.talk d (length h.parts))))
  IsDecided (Some e) to = (reason : Refusal) × (to ≡ refused w reason) × (aborted_as (Err e) ≡ Some (Refused reason))

  decided : IsDecided (cut_refusal b d.id) step_now
  decided =
      subst (λ o. IsDecided o step_now) (sym refusal_is)
      (subst (IsDecided (refusal_by (is_closed b.link) (is_some h.ending) (is_stream d.desc.kind) (is_nil h.parts))) (sym step_is)
      (by (is_closed b.link) refl (is_some h.ending) (is_stream d.desc.kind) (is_nil h.parts)))
    where
      by : (c : Bool) → is_closed b.link ≡ c → (e s n : Bool) → IsDecided (refusal_by c e s n) (step_by c e s n)
      by true is e s n = (world.Closed, refl, refl)
      by false is true s n = (world.AlreadyEnded, refl, refl)
      by false is false false n = (world.NotStream, refl, refl)
      by false is false true true = (world.NotBegun, refl, refl)
      by false is false true false = (is, refl)

  decided_as : (o : Option AbortError) → cut_refusal b d.id ≡ o → IsDecided o step_now
  decided_as o is = subst (λ x. IsDecided x step_now) is decided

  -- ---- answers

  -- it is refused, and all is as it was
  refuses_goes : (e : AbortError) → cut_refusal b d.id ≡ Some e → new ≡ b → AsksAlong (aborted_as (Err e)) r b w.talk step_now new
  refuses_goes e refuses same =
      let (reason, step, tells) = decided_as (Some e) refuses in
      subst (λ x. AsksAlong x r b w.talk step_now new) (sym tells)
      (subst (λ to. AsksAlong (Some (Refused reason)) r b w.talk to new) (sym step) (
        refl,
        subst (BooksAlong r b w.talk w.talk) (sym same) (record { stands = heard.stands; got = refl; more = []; ups = sym (append-nil w.talk.ups); said = refl }),
      ))

  abbrev cut_made : ℕ → List Booked → List Booked
  cut_made n made = changed (has_booked_id d.id) (cut_to n) made

  cuts_goes : cut_refusal b d.id ≡ None → Aborts b d.id (Some (booked_of d)) new → AsksAlong (Some Done) r b w.talk step_now new
  cuts_goes free same =
      let (going, step) = decided_as None free in
      let count : length (held_in b (booked_of d)).parts ≡ length h.parts = ap (λ x. length x.parts) (held_now going) in
      let n = length (held_in b (booked_of d)).parts in
      let cut : cut_made n b.made ≡ map booked_of (map (cut_at d.id (length h.parts)) w.talk.made)
      = ap (cut_made n) heard.stands.made
      ∙ (cut_same d.id n w.talk.made (subst HaveDistinctIds heard.stands.made heard.stands.ids) ∙ ap (λ k. map booked_of (map (cut_at d.id k) w.talk.made)) count) in
      subst (λ to. AsksAlong (Some Done) r b w.talk to new) (sym step) (
        refl,
        subst (BooksAlong r b w.talk (with_abort w.talk d (length h.parts))) (sym same) (record {
          stands = record { limits = heard.stands.limits; made = cut; ids = ids_cut d.id n b.made heard.stands.ids };
          got = refl;
          more = abort_of d ∷ [];
          ups = refl;
          said = refl;
        }),
      )

  -- An abort has the answer that it has in the world, and the book stands for the talk behind it; what it said is what goes up by it.
  pub abort_goes : IsAbortedAt b d.id result new → AsksAlong (aborted_as result) r b w.talk step_now new
  abort_goes did = by result did
    where
      by : (x : Result (Unit {0}) AbortError) → IsAbortedAt b d.id x new → AsksAlong (aborted_as x) r b w.talk step_now new
      by (Ok u) (free, aborts) = cuts_goes free (subst (λ o. Aborts b d.id o new) found aborts)
      by (Err unstopped.Closed) (why, same) = refuses_goes unstopped.Closed why same
      by (Err unstopped.Stranger) (why, same) = refuses_goes unstopped.Stranger why same
      by (Err unstopped.AlreadyEnded) (why, same) = refuses_goes unstopped.AlreadyEnded why same
      by (Err unstopped.NotStream) (why, same) = refuses_goes unstopped.NotStream why same
      by (Err unstopped.NotBegun) (why, same) = refuses_goes unstopped.NotBegun why same
      by (Err unstopped.OutOfMemory) (why, same) = same
