use Rattle.std.proofs.Common.{rules, ◌≡◌, length, w64}
use mir.Val.{SFits}
use Rattle.bp_num.specs.Forms.{written_int}
use Rattle.bp_codec.proofs.Ranges.{number_back}
use Rattle.rpc_client.proofs.Queries.{short_refusal}
use Rattle.rpc_client.proofs.asking.is_short_refusal.Goals as goal

pub returns : goal.returns
returns c =
    let q = c.args.query.now in
    let version_fits : SFits w64 q.version = search rules in
    let id_fits : SFits w64 q.id = search rules in
    let version = rw (number_back q.version version_fits) at c.int_len.ensures in
    let id = rw (number_back q.id id_fits) at c.int_len-2.ensures in
    short_refusal q.id q.tag q.version c.args.max c.text_len.result c.int_len.result c.int_len-2.result c.saturating_add-texts.result c.saturating_add.result c.requires
    (search rules) version id c.saturating_add-texts.ensures c.saturating_add.ensures
