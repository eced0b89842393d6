use Rattle.std.proofs.Common.{◌+◌, ◌∙◌, ◌==◌, ap, sym, length}
use Rattle.board80.specs.Board.{IsOutside}
use Rattle.board80.proofs.BoardLemmas.{bad_end, bad_line, good_more, misfit, taken_refuses}
use Rattle.board80.proofs.read.read_lines.Goals as goal

pub returns-in_default-2-clause-refused : goal.returns-in_default-2-clause-refused
returns-in_default-2-clause-refused c = λ whole is.
    bad_line whole c.loop-part.rest.now c.in-Some.part.now c.in-Some.after.now c.loop-part.lines.items (c.len-number.result + 2)
    (c.loop-part.invariant.good whole is) c.in-Some.ensures.found (rw c.in_default-2.is at c.in_ok-line.ensures.none) (ap (λ n. n + 2) (c.len-number.ensures ∙ c.loop-part.lines.ok.0))

pub returns-then-not-leaves_free-clause-refused : goal.returns-then-not-leaves_free-clause-refused
returns-then-not-leaves_free-clause-refused c = λ whole is.
    rw c.taken_fault.ensures
    (taken_refuses whole c.loop-part.rest.now c.in-Some.part.now c.in-Some.after.now c.loop-part.lines.items c.in-Some-2.line (c.len-number.result + 2)
    (c.loop-part.invariant.good whole is) c.in-Some.ensures.found (rw c.in-Some-2.is at c.in_ok-line.ensures.spelled) (rw c.in-Some-2.is at c.in_ok-line.ensures.proper)
    (λ free. let yes = (c.leaves_free.ensures c.loop-part.lines.items c.loop-part.invariant.seen).1 free in cc)
    (ap (λ n. n + 2) (c.len-number.ensures ∙ c.loop-part.lines.ok.0)))

pub returns-then-not-is_inside-clause-refused : goal.returns-then-not-is_inside-clause-refused
returns-then-not-is_inside-clause-refused c = λ whole is.
    misfit whole c.loop-part.rest.now c.in-Some.part.now c.in-Some.after.now c.loop-part.lines.items c.in-Some-2.line (c.len-number.result + 2) IsOutside
    (c.loop-part.invariant.good whole is) c.in-Some.ensures.found (rw c.in-Some-2.is at c.in_ok-line.ensures.spelled) (rw c.in-Some-2.is at c.in_ok-line.ensures.proper)
    (record {
      free = (c.leaves_free.ensures c.loop-part.lines.items c.loop-part.invariant.seen).0 (cc);
      outside = sym (c.is_inside.ensures c.loop-part.lines.items c.loop-part.invariant.seen) ∙ (cc);
    })
    (ap (λ n. n + 2) (c.len-number.ensures ∙ c.loop-part.lines.ok.0))

pub returns-then-not-is_empty-clause-refused : goal.returns-then-not-is_empty-clause-refused
returns-then-not-is_empty-clause-refused c = λ whole is.
    bad_end whole c.loop-part.rest.now c.loop-part.lines.items (c.len.result + 2)
    (c.loop-part.invariant.good whole is) c.in_default.ensures.absent (λ empty. let e = ap (λ r. length r == 0) empty in cc) (ap (λ n. n + 2) (c.len.ensures ∙ c.loop-part.lines.ok.0))

pub loop-part-preserved : goal.loop-part-preserved
loop-part-preserved c = record {
  good = λ whole is. rw c.in_ok-push.ensures.items
      (good_more whole c.loop-part.rest.now c.in-Some.part.now c.in-Some.after.now c.loop-part.lines.items c.in-Some-2.line
      (c.loop-part.invariant.good whole is) c.in-Some.ensures.found (rw c.in-Some-2.is at c.in_ok-line.ensures.spelled)
      (record {
        proper = rw c.in-Some-2.is at c.in_ok-line.ensures.proper;
        free = (c.leaves_free.ensures c.loop-part.lines.items c.loop-part.invariant.seen).0 (cc);
        inside = sym (c.is_inside.ensures c.loop-part.lines.items c.loop-part.invariant.seen) ∙ (cc);
      }));
  seen = rw c.in_ok-push.ensures.items (c.add.ensures c.loop-part.lines.items c.loop-part.invariant.seen);
}
