-- An event that was read can be stepped.
use Rattle.rpc_schedule.specs.EventLines.{IsGoodEvent}
use Rattle.rpc_schedule.specs.declared.event.Event.{Event}
use Rattle.rpc_schedule.specs.declared.event.Event.TheVariants as ev
use Rattle.rpc_pair.specs.Pairs.{IsMovable}

pub good_movable : (e : Event) → IsGoodEvent e → IsMovable e
good_movable (ev.Up count by) (most, some, few) = (some, few)
good_movable (ev.Down count by) (most, some, few) = (some, few)
good_movable (ev.Ask label name version text) good = tt
good_movable (ev.Menu label) good = tt
good_movable (ev.Best label name text) good = tt
good_movable (ev.Abort label) good = tt
good_movable (ev.Reply label text) good = tt
good_movable (ev.Begin label text) good = tt
good_movable (ev.Decline label text) good = tt
good_movable (ev.Item label text) good = tt
good_movable (ev.Fail label text) good = tt
good_movable (ev.End label) good = tt
good_movable (ev.At now) good = tt
good_movable ev.CloseClient good = tt
good_movable ev.CloseServer good = tt
good_movable ev.EofClient good = tt
good_movable ev.EofServer good = tt
good_movable (ev.Show label) good = tt
