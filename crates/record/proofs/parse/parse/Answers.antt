-- Past the map, each field that reads is a step of the definition's reading, and one that doesn't ends it.
use Rattle.std.proofs.Common.{ap, ◌∙◌}
use Rattle.model.specs.Record.{stands}
use Rattle.record.specs.Reads.{reading_of}
use Rattle.record.proofs.ParseLaws.{no_process, no_channel, no_body, no_row, a_row}
use Rattle.record.proofs.parse.parse.Goals as goal

pub returns-in_err-process : goal.returns-in_err-process
unfolding stands
returns-in_err-process c =
    ap reading_of c.from_residual.ensures
    ∙ no_process c.args.bytes.now c.in-len2-up.len_at_least c.good_map.ensures c.if-not-good_map.false
    c.in_err-process.ensures

pub returns-in_err-channel : goal.returns-in_err-channel
unfolding stands
returns-in_err-channel c =
    ap reading_of c.from_residual-in_err-channel.ensures
    ∙ no_channel c.args.bytes.now c.in-len2-up.len_at_least c.good_map.ensures c.if-not-good_map.false
    c.in_ok-process.ensures c.in_err-channel.ensures

pub returns-in_err-body : goal.returns-in_err-body
unfolding stands
returns-in_err-body c =
    ap reading_of c.from_residual-in_err-body.ensures
    ∙ no_body c.args.bytes.now c.in-len2-up.len_at_least c.good_map.ensures c.if-not-good_map.false
    c.in_ok-process.ensures c.in_ok-channel.ensures c.in_err-body.ensures

pub returns-in_err-record : goal.returns-in_err-record
unfolding stands
returns-in_err-record c =
    ap reading_of c.from_residual-in_err-record.ensures
    ∙ no_row c.args.bytes.now c.in-len2-up.len_at_least c.good_map.ensures c.if-not-good_map.false
    c.in_ok-process.ensures c.in_ok-channel.ensures c.in_ok-body.ensures c.in_err-record.ensures

pub returns : goal.returns
unfolding stands
returns c =
    a_row c.args.bytes.now c.in-len2-up.len_at_least c.good_map.ensures c.if-not-good_map.false
    c.in_ok-process.ensures c.in_ok-channel.ensures c.in_ok-body.ensures c.in_ok-record.ensures
