-- A message that comes to a server closes it never, and the server goes along with the talk.
use Rattle.std.proofs.Common.{◌≡◌, refl, sym, ap, ◌∙◌, subst, ℕ, List, [], ◌∷◌, ◌++◌, inl, inr, ◌⊎◌}
use Rattle.std.specs.Prelude.{Option, None, Result, Ok}
use Rattle.std.proofs.lemmas.List.{append-nil}
use Rattle.rpc_msg.specs.declared.message.Message.{Message}
use Rattle.rpc_msg.specs.declared.message.Message.TheVariants as message
use Rattle.rpc_msg.specs.declared.message.Query.{Query}
use Rattle.rpc_msg.specs.declared.shared.CloseCause.{CloseCause}
use Rattle.rpc_end.specs.Ends.{EndState, heard}
use Rattle.rpc_meeting.specs.Talks.{Common, Talk, heard_up}
use Rattle.rpc_meeting.proofs.Carried.{IsAbortTo, IsAsking, IsCallTo}
use Rattle.rpc_server.specs.Servers.{ServerState, Does, settled, with_end}
use Rattle.rpc_server.specs.declared.arrival.Arrival.{Arrival}
use Rattle.rpc_pair.specs.Rules.{IsOfSchema}
use Rattle.rpc_pair.specs.Stands.{HearsAlong, ServerStands}
use Rattle.rpc_pair.proofs.Meets.{Meets, next_up}
use Rattle.rpc_pair.proofs.NewCalls.{call_goes}
use Rattle.rpc_pair.proofs.Stops.{abort_goes}

module _ (r : Common) (is : IsOfSchema r) (s : ServerState) (t : Talk) (came rest got : List Message) (meets : Meets r t came got) (stands : ServerStands r s t)
    (now : ℕ) (link : EndState) (result : Result (Option Arrival) CloseCause) (new : ServerState) where
  -- a heartbeat
  beat_goes : Does s now link message.Heartbeat result new → HearsAlong r link now t t result new
  beat_goes (tells, same) =
      subst (λ x. HearsAlong r link now t t x new) (sym tells)
      (subst (λ x. HearsAlong r link now t t (Ok None) x) (sym (same_new)) (record {
        stands = record { rules = stands.rules; table = stands.table; count = stands.count };
        more = [];
        downs = sym (append-nil t.downs);
        said = refl;
      }))
    where
      same_new : new ≡ with_end s (heard link now)
      same_new = same ∙ ap (λ x. with_end s (settled link now x)) tells

  -- a query
  query_goes : (q : Query) → came ++ message.Query q ∷ rest ≡ t.ups → Does s now link (message.Query q) result new → (a : IsAsking r q) → IsCallTo r a.desc q ⊎ IsAbortTo a.desc q
      → HearsAlong r link now t (heard_up r t (message.Query q)) result new
  query_goes q cut did a (inl call) = call_goes r is s t came rest got meets stands now link result new q cut did a call
  query_goes q cut did a (inr abort) = abort_goes r is s t came rest got meets stands now link result new q cut did a abort

  -- The next message that comes closes no server. The server stands for the talk behind it, and what it said is what goes down by it.
  pub arrival_goes : (m : Message) → came ++ m ∷ rest ≡ t.ups → Does s now link m result new → HearsAlong r link now t (heard_up r t m) result new
  arrival_goes message.Heartbeat cut did = beat_goes did
  arrival_goes (message.Response a) cut did = absurd (next_up r t came rest got (message.Response a) cut meets)
  arrival_goes (message.Query q) cut did =
      let a : IsAsking r q = next_up r t came rest got (message.Query q) cut meets in
      query_goes q cut did a a.says
