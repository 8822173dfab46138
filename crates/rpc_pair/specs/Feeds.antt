-- What a feed does to either end.
use Rattle.std.specs.Prelude.{ℕ, List, Option, Result, Ok, Err}
use Rattle.rpc_msg.specs.declared.shared.CloseCause.{CloseCause}
use Rattle.rpc_msg.specs.declared.shared.FeedError.{FeedError}
use Rattle.rpc_msg.specs.declared.shared.FeedError.TheVariants as feed
use Rattle.rpc_book.specs.Books.{BookState}
use Rattle.rpc_book.specs.Feeds.{IsBookFed}
use Rattle.rpc_server.specs.Servers.{ServerState, IsServerFed}
use Rattle.rpc_server.specs.declared.arrival.Arrival.{Arrival}

-- so many bytes are taken, or the end is closed
abbrev pub IsFedAs : {S : Type 0} → (ℕ → S → Type 0) → (S → Type 0) → Result ℕ FeedError → S → Type 0
IsFedAs Takes Closes (Ok count) new = Takes count new
IsFedAs Takes Closes (Err (feed.Closed why)) new = Closes new
IsFedAs Takes Closes (Err feed.OutOfMemory) new = Unit {0}

-- ---- a server

abbrev pub ServerTakes : ℕ → ServerState → List ℕ → ℕ → ServerState → Type 0
ServerTakes now old piece count new = (arrival : Option Arrival) × IsServerFed old piece now (Ok (record { used = count; arrival = arrival })) new

abbrev pub ServerCloses : ℕ → ServerState → List ℕ → ServerState → Type 0
ServerCloses now old piece new = (why : CloseCause) × IsServerFed old piece now (Err (feed.Closed why)) new

-- ---- a book

abbrev pub BookTakes : ℕ → BookState → List ℕ → ℕ → BookState → Type 0
BookTakes now old piece count new = IsBookFed old piece now (Ok count) new

abbrev pub BookCloses : ℕ → BookState → List ℕ → BookState → Type 0
BookCloses now old piece new = (why : CloseCause) × IsBookFed old piece now (Err (feed.Closed why)) new
