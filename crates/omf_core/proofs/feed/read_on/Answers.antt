use Rattle.std.proofs.Common.{rules, ℕ, ◌+◌, nat_eq, drop, sym, subst, arith, Fits, w64}
use Rattle.omf_core.specs.Feed.{ReadsUpTo, ended, cut_off}
use Rattle.omf_core.proofs.FeedLemmas.{all_bytes, reads_next, to_open, to_ended, counted_below, cut_off_here, lasting, counted_have_none}
use Rattle.omf_core.proofs.feed.read_on.Goals as goal

pub overflow_add-read : goal.overflow_add-read
overflow_add-read c =
    let read = c.loop-read.read in
    let below = counted_below c.args.bytes.now read.at read.count (to_open c.args.bytes.now read.at read.count read.ended c.loop-read-test.true c.loop-read.invariant) in
    let spelled = c.in-Ok.ensures.read in
    let after : Fits w64 c.in-Ok.after = search rules in
    omega (arith, spelled.all_counted)

pub loop-read-preserved : goal.loop-read-preserved
loop-read-preserved c =
    let read = c.loop-read.read in
    let before = to_open c.args.bytes.now read.at read.count read.ended c.loop-read-test.true c.loop-read.invariant in
    subst (λ (b : ℕ). ReadsUpTo c.args.bytes.now c.in-Ok.after (c.loop-read.read.count + 1) (nat_eq c.in-Ok.record.kind b)) (sym c.byte.ensures)
    (reads_next c.args.bytes.now read.at c.in-Ok.after read.count c.in-Ok.record.kind c.in-Ok.record.body.now before c.in-Ok.ensures.read)

pub loop-read-smaller : goal.loop-read-smaller
loop-read-smaller c =
    let spelled = c.in-Ok.ensures.read in
    omega (arith, spelled.all_counted, spelled.within)

pub returns-in-Err-clause-counted : goal.returns-in-Err-clause-counted
returns-in-Err-clause-counted c =
    let read = c.loop-read.read in
    let before = to_open c.args.bytes.now read.at read.count read.ended c.loop-read-test.true c.loop-read.invariant in
    cut_off read.at before (cut_off_here (drop read.at c.args.bytes.now) read.at c.in-Err.fault c.in-Err.ensures.fault (sym c.if-is_truncated.ensures))

pub returns-in-Err-clause-none_lasts : goal.returns-in-Err-clause-none_lasts
returns-in-Err-clause-none_lasts c = λ fault lasts.
    let read = c.loop-read.read in
    let before = to_open c.args.bytes.now read.at read.count read.ended c.loop-read-test.true c.loop-read.invariant in
    counted_have_none c.args.bytes.now read.count fault (all_bytes c.args.bytes.now c.type_inv.bytes)
    (cut_off read.at before (cut_off_here (drop read.at c.args.bytes.now) read.at c.in-Err.fault c.in-Err.ensures.fault (sym c.if-is_truncated.ensures))) lasts

pub returns-in-Err-2-clause-fault : goal.returns-in-Err-2-clause-fault
returns-in-Err-2-clause-fault c =
    let read = c.loop-read.read in
    let before = to_open c.args.bytes.now read.at read.count read.ended c.loop-read-test.true c.loop-read.invariant in
    lasting c.args.bytes.now read.at read.count c.in-Err.fault before (sym c.in-Err.ensures.fault)
    (sym c.if-is_truncated.ensures)

pub returns-clause-counted : goal.returns-clause-counted
returns-clause-counted c =
    let read = c.loop-read.read in
    ended read.at (to_ended c.args.bytes.now read.at read.count read.ended c.loop-read-test.false c.loop-read.invariant)

pub returns-clause-none_lasts : goal.returns-clause-none_lasts
returns-clause-none_lasts c = λ fault lasts.
    let read = c.loop-read.read in
    counted_have_none c.args.bytes.now read.count fault (all_bytes c.args.bytes.now c.type_inv.bytes)
    (ended read.at (to_ended c.args.bytes.now read.at read.count read.ended c.loop-read-test.false c.loop-read.invariant)) lasts
