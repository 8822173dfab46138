-- The schedule of a generated run: 4000 rounds in blocks of ten, each of which calls one of four procedures.
use Rattle.std.specs.Prelude.{ℕ, zero, suc, pos, ◌+◌, ◌-◌, ◌*◌, ◌/◌, ◌%◌, ◌^◌, List, [], ◌∷◌, ◌++◌, map, reverse, replicate, length, codes, flat_map, Some, None, if◌then◌else◌, nat_eq}
use Rattle.std.specs.Fmt.{decimal}
use Rattle.std.specs.List.{range_with_len, enumerate_from}
use Rattle.bp_value.specs.declared.shape.Shape.{Shape}
use Rattle.bp_value.specs.declared.shape.Shape.TheVariants as shp
use Rattle.bp_text_grammar.specs.Lexing.{quote}
use Rattle.rpc_schema.specs.declared.desc.Kind.{Kind}
use Rattle.rpc_schema.specs.declared.desc.Kind.TheVariants.{Plain, OneWay, Pipe, State}
use Rattle.rpc_schema.specs.declared.desc.Side.TheVariants.{Both}
use Rattle.rpc_schema.specs.declared.desc.Entry.{Entry}
use Rattle.rpc_schedule.specs.declared.event.Event.{Event}
use Rattle.rpc_schedule.specs.declared.event.Event.TheVariants as ev
use Rattle.rpc_schedule.specs.declared.event.Lined.{Lined}
use Rattle.rpc_schedule.specs.declared.schedule.Schedule.{Schedule}
use Rattle.rpc_pair.specs.declared.generating.rounds.Called.{Called}
use Rattle.rpc_pair.specs.declared.generating.rounds.Called.TheVariants.{Echo, Log, Each, Book}
use Rattle.rpc_pair.specs.declared.generating.rounds.Round.{Round}

-- ---- the schema

-- its lines
abbrev pub generated_lines : List (List ℕ)
generated_lines =
    codes "plain echo 1 both = string -> string"
    ∷ codes "oneway log 1 both = string"
    ∷ codes "pipe each 1 both = int list -> int ! unit"
    ∷ codes "state book 1 both = unit -> string list, string ! unit"
    ∷ []

-- a procedure of both ends, of version 1
abbrev pub entry_both : ℕ → List ℕ → Kind → Shape → Shape → Shape → Shape → Entry
entry_both line name kind query first item error = record {
  desc = record { name = name; version = pos 1; kind = kind; query = query; first = first; item = item; error = error };
  side = Both;
  behaviour = None;
  line = line;
}

-- what they say
abbrev pub generated_entries : List Entry
generated_entries =
    entry_both 1 (codes "echo") Plain shp.Text shp.Text shp.Unit shp.Unit
    ∷ entry_both 2 (codes "log") OneWay shp.Text shp.Unit shp.Unit shp.Unit
    ∷ entry_both 3 (codes "each") Pipe (shp.List shp.Int) shp.Unit shp.Int shp.Unit
    ∷ entry_both 4 (codes "book") State shp.Unit (shp.List shp.Text) shp.Text shp.Unit
    ∷ []

-- ---- rounds

unfoldable pub round_count : ℕ
round_count = 4000

-- how many rounds a block has
abbrev pub block_size : ℕ
block_size = 10

-- the generator's next number
abbrev pub next_drawn : ℕ → ℕ
next_drawn x = (x * 6364136223846793005 + 1442695040888963407) % 2 ^ 64

-- its number in round k: from n on it is drawn once before each round
unfoldable pub drawn : ℕ → ℕ → ℕ
drawn n zero = n
drawn n (suc k) = next_drawn (drawn n k)

abbrev pub round : ℕ → ℕ → Round
round n k = record { number = k; drawn = drawn n k }

-- the rounds from 1 on
abbrev pub rounds : ℕ → List Round
rounds n = map (round n) (range_with_len 1 round_count)

abbrev pub random : Round → ℕ
random d = d.drawn / 2 ^ 33

-- the most bytes of a piece
abbrev pub piece : Round → ℕ
piece d = 1 + random d % 7

-- which procedure a round calls
abbrev pub called : Round → Called
called d =
    if nat_eq (d.number % 4) 1 then Echo
    else if nat_eq (d.number % 4) 2 then Log
    else if nat_eq (d.number % 4) 3 then Each
    else Book

-- ---- texts

abbrev pub round_label : Round → List ℕ
round_label d = codes "d" ++ decimal d.number

abbrev pub in_quotes : List ℕ → List ℕ
in_quotes w = quote ∷ (w ++ quote ∷ [])

-- letters `a`
abbrev pub echo_text : Round → List ℕ
echo_text d = in_quotes (replicate (random d % 100) 97)

-- how many elements the list of a round has: they count from 0
abbrev pub element_count : Round → ℕ
element_count d = d.number % 5

abbrev pub with_marks : List ℕ → List ℕ
with_marks [] = []
with_marks (m ∷ []) = decimal m
with_marks (m ∷ ms) = decimal m ++ (codes "; " ++ with_marks ms)

abbrev pub each_text : Round → List ℕ
each_text d = codes "[" ++ (with_marks (range_with_len 0 (element_count d)) ++ codes "]")

-- ---- the events of a round

abbrev pub calls_with : Round → List ℕ → List ℕ → Event
calls_with d name text = ev.Ask (round_label d) name (pos 1) text

abbrev pub calls_as : Called → Round → Event
calls_as Echo d = calls_with d (codes "echo") (echo_text d)
calls_as Log d = calls_with d (codes "log") (in_quotes (codes "n"))
calls_as Each d = calls_with d (codes "each") (each_text d)
calls_as Book d = calls_with d (codes "book") (codes "()")

-- it calls, and some bytes go up
abbrev pub round_events : Round → List Event
round_events d = calls_as (called d) d ∷ ev.Up (Some (random d % 64)) (piece d) ∷ []

-- ---- the events of a block

abbrev pub begins_with : Round → List ℕ → Event
begins_with d text = ev.Begin (round_label d) text

abbrev pub gives : Round → List ℕ → Event
gives d text = ev.Item (round_label d) text

abbrev pub answers_as : Called → Round → List Event
answers_as Echo d = ev.Reply (round_label d) (echo_text d) ∷ []
answers_as Log d = []
answers_as Each d = begins_with d (codes "()") ∷ (map (λ m. gives d (decimal m)) (range_with_len 0 (element_count d)) ++ ev.End (round_label d) ∷ [])
answers_as Book d = begins_with d (codes "[]") ∷ replicate 3 (gives d (in_quotes (codes "u")))

-- what the handler of a round's call does
abbrev pub answers : Round → List Event
answers d = answers_as (called d) d

-- an item that goes out while its stream is aborted
abbrev pub late_as : Called → Round → List Event
late_as Book d = gives d (in_quotes (codes "v")) ∷ ev.Abort (round_label d) ∷ []
late_as Echo d = []
late_as Log d = []
late_as Each d = []

abbrev pub late : Round → List Event
late d = late_as (called d) d

-- All goes up; the calls of the rounds are answered from the last one back; all goes down; and streams are aborted.
abbrev pub block_events : ℕ → List Round → List Event
block_events by ds = ev.Up None by ∷ (flat_map answers (reverse ds) ++ ev.Down None by ∷ flat_map late ds)

-- the rounds of the block that ends with round k
abbrev pub block_to : ℕ → ℕ → List Round
block_to n k = map (round n) (range_with_len (k + 1 - block_size) block_size)

-- ---- the whole

-- round k, and the end of its block where it is the last of one
abbrev pub events_at : ℕ → ℕ → List Event
events_at n k =
    round_events (round n k) ++ (if nat_eq (k % block_size) 0 then block_events (piece (round n k)) (block_to n k) else [])

abbrev pub all_moves : ℕ → List Event
all_moves by = ev.Up None by ∷ ev.Down None by ∷ []

unfoldable pub generated_events : ℕ → List Event
generated_events n = all_moves 65536 ++ (flat_map (events_at n) (range_with_len 1 round_count) ++ all_moves 7)

-- their lines follow those of the schema and the line `--`
abbrev pub first_line : ℕ
first_line = length generated_lines + 2

abbrev pub with_lines : List Event → List Lined
with_lines es = map (λ p. record { line = p.0; event = p.1 }) (enumerate_from first_line es)

unfoldable pub generated : ℕ → Schedule
generated n = record { schema = generated_entries; events = with_lines (generated_events n) }
