-- What a pair keeps over the calls of its ends.
use Rattle.std.proofs.Common.{◌≡◌, refl, sym, ap, subst, ℕ, ℤ, Bool, true, false, List, [], ◌∷◌, ◌++◌, if◌then◌else◌}
use Rattle.std.specs.Prelude.{Option, Some, None, Result, Ok, Err}
use Rattle.readers.specs.Reader.{Each}
use Rattle.bp_value.specs.declared.value.Value.{Value}
use Rattle.rpc_msg.specs.declared.shared.FeedError.{FeedError}
use Rattle.rpc_msg.specs.declared.shared.FeedError.TheVariants as feed
use Rattle.rpc_msg.specs.declared.shared.Ticket.{Ticket}
use Rattle.rpc_schema.specs.declared.desc.RpcDesc.{RpcDesc}
use Rattle.rpc_end.specs.Ends.{EndState}
use Rattle.rpc_end.specs.declared.end.Next.{Next}
use Rattle.rpc_end.specs.declared.end.Next.TheVariants as next
use Rattle.rpc_msg.specs.declared.message.Message.{Message}
use Rattle.rpc_msg.specs.declared.message.Message.TheVariants as message
use Rattle.rpc_msg.specs.declared.shared.CloseCause.{CloseCause}
use Rattle.rpc_talk.specs.Acts.{Act}
use Rattle.rpc_client.specs.declared.error.AbortError.{AbortError}
use Rattle.rpc_client.specs.declared.error.DispatchError.{DispatchError}
use Rattle.rpc_server.specs.Acting.{IsActed, ActsBy, IsActRefused, RespondsTo, act_refusal}
use Rattle.rpc_server.specs.Servers.{ServerState, Does, DoesAsTaken, Hears, IsServerFed}
use Rattle.rpc_server.specs.declared.arrival.Arrival.{Arrival}
use Rattle.rpc_server.specs.declared.arrival.ServerFed.{ServerFed}
use Rattle.rpc_server.specs.declared.error.ActError.{ActError}
use Rattle.rpc_server.specs.declared.error.ActError.TheVariants as refused
use Rattle.rpc_book.specs.Books.{BookState, Booked, changed, find_booked, has_booked_id}
use Rattle.rpc_book.specs.Calls.{Aborts, IsAbortedAt, IsBooked, cut_to}
use Rattle.rpc_pair.specs.Kept.{BookKeeps, IsKept, IsOwn}

-- ---- a server keeps its rules

refused_rules : (old new : ServerState) (id : ℤ) (why : ActError) → IsActRefused old id why new → new.rules ≡ old.rules
refused_rules old new id refused.Stopped (rules, put, link) = rules
refused_rules old new id refused.Closed same = ap (λ (s : ServerState). s.rules) same
refused_rules old new id refused.NoSuch same = ap (λ (s : ServerState). s.rules) same
refused_rules old new id refused.WrongKind same = ap (λ (s : ServerState). s.rules) same
refused_rules old new id refused.AlreadyBegun same = ap (λ (s : ServerState). s.rules) same
refused_rules old new id refused.NotBegun same = ap (λ (s : ServerState). s.rules) same
refused_rules old new id refused.BadValue same = ap (λ (s : ServerState). s.rules) same
refused_rules old new id (refused.TooLong max) same = ap (λ (s : ServerState). s.rules) same
refused_rules old new id refused.OutOfMemory same = ap (λ (s : ServerState). s.rules) same

responds_rules : (old new : ServerState) (place : ℕ) (d : RpcDesc) (id : ℤ) (act : Act) (result : Result (Unit {0}) ActError) → RespondsTo old place d id act result new
    → new.rules ≡ old.rules
responds_rules old new place d id act (Ok u) (fits, short, did) = did.rules
responds_rules old new place d id act (Err refused.BadValue) (why, same) = ap (λ (s : ServerState). s.rules) same
responds_rules old new place d id act (Err (refused.TooLong max)) (fits, long, most, same) = ap (λ (s : ServerState). s.rules) same
responds_rules old new place d id act (Err refused.OutOfMemory) same = ap (λ (s : ServerState). s.rules) same
responds_rules old new place d id act (Err refused.Closed) gone = absurd gone
responds_rules old new place d id act (Err refused.NoSuch) gone = absurd gone
responds_rules old new place d id act (Err refused.Stopped) gone = absurd gone
responds_rules old new place d id act (Err refused.WrongKind) gone = absurd gone
responds_rules old new place d id act (Err refused.AlreadyBegun) gone = absurd gone
responds_rules old new place d id act (Err refused.NotBegun) gone = absurd gone

pub acted_rules : (old new : ServerState) (id : ℤ) (act : Act) (result : Result (Unit {0}) ActError) → IsActed old id act result new → new.rules ≡ old.rules
acted_rules old new id act result acted = by (act_refusal old id act) acted
  where
    by : (o : Option ActError) → ActsBy o old id act result new → new.rules ≡ old.rules
    by (Some why) (tells, refuses) = refused_rules old new id why refuses
    by None (place, e, there, is, responds) = responds_rules old new place e.desc id act result responds

does_rules : (old new : ServerState) (now : ℕ) (link : EndState) (a : Message) (result : Result (Option Arrival) CloseCause) → Does old now link a result new → new.rules ≡ old.rules
does_rules old new now link message.Heartbeat result (tells, same) = ap (λ (s : ServerState). s.rules) same
does_rules old new now link (message.Response r) result (tells, same) = ap (λ (s : ServerState). s.rules) same
does_rules old new now link (message.Query q) result (tells, heard, link_is) = heard.rules

hears_rules : (old new : ServerState) (now used : ℕ) (a : Message) (link : EndState) (result : Result ServerFed FeedError) → Hears old now used a link result new → new.rules ≡ old.rules
hears_rules old new now used a link (Ok fed) (count, does) = does_rules old new now link a (Ok fed.arrival) does
hears_rules old new now used a link (Err (feed.Closed why)) does = does_rules old new now link a (Err why) does
hears_rules old new now used a link (Err feed.OutOfMemory) same = ap (λ (s : ServerState). s.rules) same

pub fed_rules : (old new : ServerState) (piece : List ℕ) (now : ℕ) (result : Result ServerFed FeedError) → IsServerFed old piece now result new → new.rules ≡ old.rules
fed_rules old new piece now result (taken, link, next_is, does) = by taken does
  where
    by : (taken : Result Next FeedError) → DoesAsTaken old now taken link result new → new.rules ≡ old.rules
    by (Ok (next.Part used)) (tells, same) = ap (λ (s : ServerState). s.rules) same
    by (Ok (next.Message got)) hears = hears_rules old new now got.used got.message link result hears
    by (Err why) (tells, same) = ap (λ (s : ServerState). s.rules) same

-- ---- a book keeps its limits, and what is known of its dispatches

each_more : {X : Type 0} (P : X → Type 0) (xs : List X) (x : X) → Each P xs → P x → Each P (xs ++ x ∷ [])
each_more P [] x all here = (here, tt)
each_more P (y ∷ xs) x all here = (all.0, each_more P xs x all.1 here)

each_changed : {X : Type 0} (P : X → Type 0) (p : X → Bool) (f : X → X) (xs : List X) → ((x : X) → P x → P (f x)) → Each P xs → Each P (changed p f xs)
each_changed P p f [] keeps all = tt
each_changed P p f (x ∷ xs) keeps all = by (p x) (each_changed P p f xs keeps all.1)
  where
    by : (b : Bool) → Each P (changed p f xs) → Each P (if b then f x ∷ xs else x ∷ changed p f xs)
    by true later = (keeps x all.0, all.1)
    by false later = (all.0, later)

same_keeps : (old new : BookState) → new ≡ old → BookKeeps old new
same_keeps old new same = record { limits = ap (λ (b : BookState). b.limits) same; kept = λ all. subst (λ (b : BookState). Each IsKept b.made) (sym same) all }

pub booked_keeps : (old new : BookState) (label : List ℕ) (d : RpcDesc) (v : Value) (result : Result Ticket DispatchError) → IsOwn d → IsBooked old label d v result new → BookKeeps old new
booked_keeps old new label d v (Ok ticket) own (may, id, is, fresh) = record {
  limits = ap (λ (b : BookState). b.limits) is;
  kept = λ all. subst (λ (b : BookState). Each IsKept b.made) (sym is) (each_more IsKept old.made _ all (record { own = own; whole = refl; fresh = refl }));
}
booked_keeps old new label d v (Err why) own (refuses, same) = same_keeps old new same

pub aborted_keeps : (old new : BookState) (id : ℤ) (result : Result (Unit {0}) AbortError) → IsAbortedAt old id result new → BookKeeps old new
aborted_keeps old new id (Err why) (refuses, same) = same_keeps old new same
aborted_keeps old new id (Ok u) (none, aborts) = by (find_booked id old.made) aborts
  where
    by : (o : Option Booked) → Aborts old id o new → BookKeeps old new
    by None gone = absurd gone
    by (Some d) is = record {
      limits = ap (λ (b : BookState). b.limits) is;
      kept = λ all. subst (λ (b : BookState). Each IsKept b.made) (sym is)
          (each_changed IsKept (has_booked_id id) (cut_to _) old.made (λ x kept. record { own = kept.own; whole = kept.whole; fresh = kept.fresh }) all);
    }
