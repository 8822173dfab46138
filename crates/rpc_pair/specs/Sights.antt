-- What is seen of both ends at one moment: what each dispatch holds, how each end stands, and how many bytes were put and moved. It is
-- the same of a pair and of the world that it stands for, and it is all that a report shows.
use Rattle.std.specs.Prelude.{ℕ, ℤ, Bool, true, false, List, length, map, Option, Some, None}
use Rattle.std.specs.Option.{option_map}
use Rattle.rpc_msg.specs.declared.shared.CloseCause.{CloseCause}
use Rattle.rpc_schema.specs.declared.desc.RpcDesc.{RpcDesc}
use Rattle.rpc_end.specs.Ends.{EndState}
use Rattle.rpc_talk.specs.Parts.{Held}
use Rattle.rpc_meeting.specs.Talks.{Common, Dispatch, received}
use Rattle.rpc_meeting.specs.Worlds.{Side, World, come, has_header, is_shut, stream_of}
use Rattle.rpc_book.specs.Books.{BookState, Booked, held_in}
use Rattle.rpc_pair.specs.declared.moved.Moved.{Moved}
use Rattle.rpc_pair.specs.Links.{cause_as}
use Rattle.rpc_pair.specs.Pairs.{PairState}

-- a dispatch
pub record Seen : Type 0 where
  pub label : List ℕ
  pub id : ℤ
  pub desc : RpcDesc
  pub held : Held

-- an end before the other end's header came, then, and closed
pub data Condition : Type 0 where
  Opening : Condition
  Opened : Condition
  Shut : CloseCause → Condition

pub record Sight : Type 0 where
  pub dispatches : List Seen
  pub client : Condition
  pub server : Condition
  pub moved : Moved

abbrev pub condition : Option CloseCause → Bool → Condition
condition (Some why) greeted = Shut why
condition None true = Opened
condition None false = Opening

-- ---- of a pair

abbrev pub seen_in : BookState → Booked → Seen
seen_in b d = record { label = d.made.label; id = d.made.id; desc = d.made.desc; held = held_in b d }

abbrev pub end_condition : EndState → Condition
end_condition e = condition e.cause e.greeted

abbrev pub pair_sight : PairState → Sight
pair_sight p = record {
  dispatches = map (seen_in p.book) p.book.made;
  client = end_condition p.book.link;
  server = end_condition p.server.link;
  moved = p.moved;
}

-- ---- of a world

abbrev pub seen_of : Common → World → Dispatch → Seen
seen_of r w d = record { label = d.label; id = d.id; desc = d.desc; held = received r.limits.max_message (come w) (is_shut w.client) d }

-- by the bytes that came to it
abbrev pub side_condition : Side → ℕ → Condition
side_condition s came = condition (option_map cause_as s.cause) (has_header came)

abbrev pub world_sight : Common → World → Sight
world_sight r w = record {
  dispatches = map (seen_of r w) w.talk.made;
  client = side_condition w.client w.got;
  server = side_condition w.server w.up;
  moved = record { up = w.up; up_put = length (stream_of w.talk.ups); down = w.down; down_put = length (stream_of w.talk.downs) };
}
