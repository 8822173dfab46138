-- What turns over any wires show of both ends.
use Rattle.std.specs.Prelude.{ℕ, List, Option}
use Rattle.rpc_msg.specs.Limits.{AreLimits}
use Rattle.rpc_msg.specs.declared.shared.Limits.{Limits}
use Rattle.rpc_schedule.specs.declared.event.Lined.{Lined}
use Rattle.rpc_schema.specs.declared.desc.Entry.{Entry}
use Rattle.rpc_pair.specs.Pairs.{IsNewPair, PairState, all_put}
use Rattle.rpc_pair.specs.Played.{AreTurns, IsPlayed, Turn}
use Rattle.rpc_pair.specs.Seen.{RunShows}
use Rattle.rpc_pair.proofs.SeenCounts.{counts_show}
use Rattle.rpc_pair.proofs.SeenHappens.{causes_show}
use Rattle.rpc_pair.proofs.SeenRuns.{client_shows}
use Rattle.rpc_pair.proofs.SeenServerRuns.{server_shows}

-- Turns that follow a start show both ends by all bytes that came, by what happened, and by how many bytes went over the wires.
pub run_shows : (entries : List Entry) (limits : Limits) (p : PairState) (turns : List Turn) (new : PairState) → AreLimits limits → IsNewPair entries limits p
    → AreTurns (all_put p) turns new → RunShows limits turns new
run_shows entries limits p turns new are fresh run =
    let client = client_shows entries limits p turns new are fresh run in
    let server = server_shows entries limits p turns new are fresh run in
    record {
      client = client.0;
      client_limits = client.1;
      server = server.0;
      server_limits = server.1;
      causes = causes_show entries limits p turns new fresh run;
      counts = counts_show entries limits p turns new fresh run;
    }

-- So does a whole schedule.
pub played_shows : (entries : List Entry) (limits : Limits) (events : List Lined) (turns : List Turn) (last : PairState) (up_sent up_given down_sent down_given : Option (List ℕ))
    → AreLimits limits → IsPlayed entries limits events turns last up_sent up_given down_sent down_given → RunShows limits turns last
played_shows entries limits events turns last up_sent up_given down_sent down_given are played =
    run_shows entries limits played.first turns last are played.fresh played.run
