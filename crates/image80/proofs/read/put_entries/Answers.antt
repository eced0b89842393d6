use Rattle.std.proofs.Common.{◌+◌, ◌∙◌, ap, sym, length, ◌==◌}
use Rattle.image80.proofs.SeenLemmas.{seen_more}
use Rattle.image80.proofs.TextLemmas.{bad_line, bad_end, good_more}
use Rattle.image80.proofs.read.put_entries.Goals as goal

pub returns-in_default-2-clause-refused : goal.returns-in_default-2-clause-refused
returns-in_default-2-clause-refused c = λ text is.
    bad_line c.args.version text c.loop-line.rest.now c.in-Some.line.now c.in-Some.after.now c.loop-line.entries.items (c.len.result + 2)
    (c.loop-line.invariant.good text is) c.in-Some.ensures.found
    (λ entry proper spelled. sym (c.loop-line.invariant.seen entry) ∙ (rw c.in_default-2.is at c.in_ok-entry.ensures.none) entry proper spelled)
    (ap (λ n. n + 2) (c.len.ensures ∙ c.loop-line.entries.ok.0))

pub returns-then-not-is_empty-clause-refused : goal.returns-then-not-is_empty-clause-refused
returns-then-not-is_empty-clause-refused c = λ text is.
    bad_end c.args.version text c.loop-line.rest.now c.loop-line.entries.items (c.len-then-not-is_empty.result + 2)
    (c.loop-line.invariant.good text is) c.in_default.ensures.absent (λ empty. let e = ap (λ r. length r == 0) empty in cc) (ap (λ n. n + 2) (c.len-then-not-is_empty.ensures ∙ c.loop-line.entries.ok.0))

pub loop-line-preserved : goal.loop-line-preserved
loop-line-preserved c =
    let spelled = rw c.in-Some-2.is at c.in_ok-entry.ensures.spelled in
    let proper = rw c.in-Some-2.is at c.in_ok-entry.ensures.proper in
    let new = rw c.in-Some-2.is at c.in_ok-entry.ensures.new in
    record {
      good = λ text is. rw c.in_ok-push.ensures.items (good_more c.args.version text c.loop-line.rest.now c.in-Some.line.now c.in-Some.after.now c.loop-line.entries.items c.in-Some-2.entry
          (c.loop-line.invariant.good text is) c.in-Some.ensures.found spelled proper (sym (c.loop-line.invariant.seen c.in-Some-2.entry) ∙ new));
      seen = rw c.in_ok-push.ensures.items (seen_more c.loop-line.seen c.add.new.self c.loop-line.entries.items c.in-Some-2.entry c.loop-line.invariant.seen c.add.ensures);
    }
