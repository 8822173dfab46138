-- The summary of a generated run: how many dispatches, parts and endings there are, and how both ends stand.
use Rattle.std.specs.Prelude.{ℕ, Bool, true, false, List, [], ◌∷◌, ◌++◌, length, map, codes, sum_by, count_by, Option, Some, None}
use Rattle.std.specs.Fmt.{decimal}
use Rattle.rpc_msg.specs.declared.shared.Ending.{Ending}
use Rattle.rpc_msg.specs.declared.shared.Ending.TheVariants as ending
use Rattle.rpc_msg.specs.declared.shared.Part.{Part}
use Rattle.rpc_msg.specs.declared.shared.Part.TheVariants as part
use Rattle.rpc_schema.specs.TextLines.{line_end}
use Rattle.rpc_talk.specs.Parts.{Held}
use Rattle.rpc_meeting.specs.Talks.{received}
use Rattle.rpc_meeting.specs.Worlds.{World, come, is_shut}

-- ---- counts

abbrev pub is_first_part : Part → Bool
is_first_part (part.First v) = true
is_first_part (part.Item v) = false

abbrev pub is_item_part : Part → Bool
is_item_part (part.First v) = false
is_item_part (part.Item v) = true

abbrev pub is_reply_ending : Ending → Bool
is_reply_ending (ending.Reply v) = true
is_reply_ending _ = false

abbrev pub is_sent_ending : Ending → Bool
is_sent_ending ending.Sent = true
is_sent_ending _ = false

abbrev pub is_eof_ending : Ending → Bool
is_eof_ending ending.Eof = true
is_eof_ending _ = false

abbrev pub is_aborted_ending : Ending → Bool
is_aborted_ending ending.Aborted = true
is_aborted_ending _ = false

abbrev pub has_ending : (Ending → Bool) → Option Ending → Bool
has_ending test None = false
has_ending test (Some e) = test e

-- how many parts of a sort there are, and how many endings
abbrev pub part_count : (Part → Bool) → List Held → ℕ
part_count test helds = sum_by (λ held. count_by test held.parts) helds

abbrev pub ending_count : (Ending → Bool) → List Held → ℕ
ending_count test helds = count_by (λ held. has_ending test held.ending) helds

-- ---- the text

abbrev pub count_line : List ℕ → ℕ → List ℕ
count_line words n = words ++ (decimal n ++ line_end ∷ [])

-- of what the dispatches received
abbrev pub tally_text : List Held → List ℕ
tally_text helds =
    count_line (codes "dispatches ") (length helds)
    ++ (count_line (codes "firsts ") (part_count is_first_part helds)
    ++ (count_line (codes "items ") (part_count is_item_part helds)
    ++ (count_line (codes "reply ") (ending_count is_reply_ending helds)
    ++ (count_line (codes "sent ") (ending_count is_sent_ending helds)
    ++ (count_line (codes "eof ") (ending_count is_eof_ending helds)
    ++ count_line (codes "aborted ") (ending_count is_aborted_ending helds))))))

-- and the lines in which a replay tells how the client and the server stand
abbrev pub summary_text : List Held → List ℕ → List ℕ → List ℕ
summary_text helds client server = tally_text helds ++ (client ++ server)

-- ---- of a world, with this limit on texts and lists

abbrev pub all_received : ℕ → World → List Held
all_received m w = map (received m (come w) (is_shut w.client)) w.talk.made

abbrev pub world_summary : ℕ → World → List ℕ → List ℕ → List ℕ
world_summary m w client server = summary_text (all_received m w) client server
