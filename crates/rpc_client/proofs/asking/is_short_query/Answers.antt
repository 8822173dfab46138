use Rattle.std.proofs.Common.{rules, ◌≡◌, length, w64}
use mir.Val.{SFits}
use Rattle.bp_num.specs.Forms.{written_int}
use Rattle.bp_codec.proofs.Ranges.{number_back}
use Rattle.rpc_client.proofs.Queries.{short_query}
use Rattle.rpc_client.proofs.asking.is_short_query.Goals as goal

pub returns : goal.returns
returns c =
    let q = c.in-Query.query in
    let version_fits : SFits w64 q.version = search rules in
    let id_fits : SFits w64 q.id = search rules in
    let version = rw (number_back q.version version_fits) at c.int_len.ensures in
    let id = rw (number_back q.id id_fits) at c.int_len-2.ensures in
    rw c.in-Query.is (short_query q c.args.max c.text_len.result c.text_len-2.result c.int_len.result c.int_len-2.result c.saturating_add-texts.result c.saturating_add.result c.requires.limit
    (search rules) (search rules) version id c.saturating_add-texts.ensures c.saturating_add.ensures)
