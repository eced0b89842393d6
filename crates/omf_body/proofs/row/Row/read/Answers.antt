use Rattle.std.proofs.Common.{◌≡◌, [], rules}
use Rattle.omf_body.proofs.Rows.{one_more, all_read, shown_spelled}
use Rattle.omf_body.proofs.row.Row.read.Goals as goal

pub loop-cursor-preserved : goal.loop-cursor-preserved
loop-cursor-preserved g c =
    one_more g.E.Entry.layout c.args.bytes.now c.loop-cursor.cursor c.read.new.cursor c.in_ok-read.field-0 c.loop-cursor.invariant
    c.in_ok-read.ensures.spelled c.in_ok-read.ensures.sound

pub invariant_of-result : goal.invariant_of-result
invariant_of-result g c =
    let end : c.loop-cursor.cursor ≡ [] = search rules in
    shown_spelled g.E.Entry.layout g.met.E.Entry.laws c.args.bytes.now c.loop-cursor.invariant.front
    (all_read g.E.Entry.layout c.args.bytes.now c.loop-cursor.cursor c.loop-cursor.invariant end)

pub returns-clause-spelled : goal.returns-clause-spelled
returns-clause-spelled g c =
    let end : c.loop-cursor.cursor ≡ [] = search rules in
    shown_spelled g.E.Entry.layout g.met.E.Entry.laws c.args.bytes.now c.loop-cursor.invariant.front
    (all_read g.E.Entry.layout c.args.bytes.now c.loop-cursor.cursor c.loop-cursor.invariant end)
