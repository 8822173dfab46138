-- What the memory forms hold, and what they were made with.
use Rattle.std.specs.Prelude.{◌≡◌, ℕ, ◌-◌, ◌↔◌, List, Some, take, vec_len, Contains}
use Rattle.std.specs.declared.option.Option.{Option}
use Rattle.bp_base.specs.Faults.{counted}
use Rattle.bp_base.specs.Places.{bytes_before, bytes_from, next_piece}
use Rattle.bp_base.specs.declared.calls.Calls.{Calls}
use Rattle.bp_base.specs.declared.pieces.Pieces.{Pieces}
use Rattle.bp_base.specs.declared.queue.Queue.{Queue}
use Rattle.bp_base.specs.declared.sources.MemSource.{MemSource}
use Rattle.bp_base.specs.declared.sources.SteadySource.{SteadySource}
use Rattle.bp_base.specs.declared.sinks.MemSink.{MemSink}
use Rattle.bp_base.specs.declared.wires.MemWire.{MemWire}
use Rattle.bp_base.specs.declared.wires.BentWire.{BentWire}

-- ---- which calls fail

-- the numbers of the calls that fail, and the number of the next call
abbrev pub numbered : Calls → List ℕ × ℕ
numbered calls = (calls.fails.items, calls.made)

abbrev pub source_calls : MemSource → List ℕ × ℕ
source_calls source = numbered source.calls

abbrev pub sink_calls : MemSink → List ℕ × ℕ
sink_calls sink = numbered sink.calls

abbrev pub wire_calls : MemWire → List ℕ × ℕ
wire_calls wire = numbered wire.calls

-- the next call is one of those that fail
abbrev pub IsListed : List ℕ × ℕ → Type 0
IsListed calls = Contains calls.0 calls.1

-- the same once one more call was made
abbrev pub after_call : List ℕ × ℕ → List ℕ × ℕ
after_call calls = (calls.0, counted calls.1)

-- A call failed exactly where its number is listed. The list stays, and the next call has the next
-- number.
pub record FailsAsListed {T : Type 0} (calls_of : T → List ℕ × ℕ) (old new : T)
    (failed : Type 0) : Type 0 where
  pub exactly : failed ↔ IsListed (calls_of old)
  pub calls : calls_of new ≡ after_call (calls_of old)

-- ---- what is held

-- the bytes of some pieces that were given, and those that are left
abbrev pub pieces_given : Pieces → Option (List ℕ)
pieces_given p = Some (bytes_before p.pieces.items p.whole p.at)

abbrev pub pieces_left : Pieces → Option (List ℕ)
pieces_left p = Some (bytes_from p.pieces.items p.whole p.at)

-- those left of the next piece that has any
abbrev pub pieces_next : Pieces → List ℕ
pieces_next p = next_piece p.pieces.items p.whole p.at

abbrev pub source_next : MemSource → List ℕ
source_next source = pieces_next source.pieces

abbrev pub steady_next : SteadySource → List ℕ
steady_next source = pieces_next source.pieces

-- the bytes that were put into a queue, and those that were taken out of it again
abbrev pub queue_put : Queue → Option (List ℕ)
queue_put q = Some q.bytes.items

abbrev pub queue_taken : Queue → Option (List ℕ)
queue_taken q = Some (take q.taken q.bytes.items)

-- how many bytes a sink still takes
abbrev pub room_of : MemSink → ℕ
room_of sink = vec_len sink.buffer - sink.len

-- the place of the byte that a bent wire changes, and the byte that it gives there
abbrev pub bend_of : BentWire → ℕ × ℕ
bend_of wire = (wire.at, wire.byte)
