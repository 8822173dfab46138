-- What a book is inside: a client, the dispatches without what the client knows of them, and the bytes that came.
use Rattle.std.specs.Prelude.{◌≡◌, ℕ, ◌+◌, ◌≤◌, ◌^◌, ℤ, Bool, false, List, [], ◌∷◌, ◌++◌, length, Option, Some, None, Result, Ok, Err}
use Rattle.std.specs.Ordering.{int_eq}
use Rattle.rpc_msg.specs.declared.shared.FeedError.{FeedError}
use Rattle.rpc_msg.specs.declared.shared.FeedError.TheVariants as feed
use Rattle.rpc_client.specs.Clients.{ClientState}
use Rattle.rpc_client.specs.Kept.{HasGot}
use Rattle.rpc_client.specs.Rows.{Row}
use Rattle.rpc_book.specs.declared.made.Made.{Made}
use Rattle.rpc_book.specs.Books.{BookState, Booked}

abbrev pub has_made_id : ℤ → Made → Bool
has_made_id id made = int_eq made.id id

-- a dispatch is what the client has of it
pub record IsMadeOf (made : Made) (row : Row) : Type 0 where
  pub id : made.id ≡ row.id
  pub desc : made.desc ≡ row.desc
  pub cut : made.cut ≡ row.cut
  pub taken : made.taken ≡ row.taken

abbrev pub AreMadeOf : List Made → List Row → Type 0
AreMadeOf [] [] = Unit {0}
AreMadeOf [] (row ∷ rows) = ⊥
AreMadeOf (made ∷ others) [] = ⊥
AreMadeOf (made ∷ others) (row ∷ rows) = IsMadeOf made row × AreMadeOf others rows

-- the client knows which endings were handed out
abbrev pub dispatches : List Made → List Row → List Booked
dispatches [] rows = []
dispatches (made ∷ others) [] = []
dispatches (made ∷ others) (row ∷ rows) = record { made = made; handed = row.handed } ∷ dispatches others rows

abbrev pub book_of : ClientState → List Made → List ℕ → BookState
book_of c made got = record { limits = c.limits; made = dispatches made c.rows; got = got; link = c.link }

pub record IsBook (c : ClientState) (made : List Made) (got : List ℕ) : Type 0 where
  pub has : HasGot c got
  pub dispatches : AreMadeOf made c.rows
  pub room : length got ≤ 2 ^ 30

-- ---- what the helpers of a book do

-- a dispatch is cut behind the parts that were taken, and so many more
abbrev pub cut_behind : ℕ → Made → Made
cut_behind waiting made = record made { cut = Some (made.taken + waiting) }

-- so many parts of a row wait, if its ending was not handed out
abbrev pub IsWaiting : Option Row → ℕ → Type 0
IsWaiting None n = Unit {0}
IsWaiting (Some row) n = row.handed ≡ false → n ≡ length row.waiting

-- the bytes are kept, unless memory ran out
abbrev pub kept_behind : List ℕ → List ℕ → Result ℕ FeedError → List ℕ
kept_behind got bytes (Ok n) = got ++ bytes
kept_behind got bytes (Err (feed.Closed why)) = got ++ bytes
kept_behind got bytes (Err feed.OutOfMemory) = got
