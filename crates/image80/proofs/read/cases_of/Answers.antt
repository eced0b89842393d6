use Rattle.std.proofs.Common.{◌∙◌, Some, None, ap, sym, subst, take, append-nil, rules}
use Rattle.std.proofs.lemmas.List.{take_all}
use Rattle.std.proofs.lemmas.List.Sorted.{IsNonDecreasingBy-from_sort_by_key}
use Rattle.image80.specs.RegionsText.{case_of, case_lines}
use Rattle.image80.proofs.CasesLemmas.{AreDrawn, drawn_more, lines_more, by_address_from}
use Rattle.image80.proofs.read.cases_of.Goals as goal
use Rattle.image80.proofs.read.cases_of.Goals.{in-Some+in_ok-case_of+in_ok-push, in_default}

pub loop-entry-preserved : goal.loop-entry-preserved
loop-entry-preserved c =
    elim c.match-case.branch [
      | in-Some+in_ok-case_of+in_ok-push w ↦
          rw (w.cases-is, w.in_ok-push.ensures.items, lines_more c.args.entries.now c.loop-entry.entry-index c.entry-item.result c.loop-entry-test.true (Some w.in-Some.line.now) (ap case_of (sym c.entry-item.is) ∙ w.in-Some.ensures.some))
          (drawn_more (case_lines (take c.loop-entry.entry-index c.args.entries.now)) c.loop-entry.cases.items w.in-Some.line.now w.in_ok-case_of.field-0 c.loop-entry.invariant w.in_ok-case_of.ensures)
      | in_default w ↦
          rw (w.cases-is, lines_more c.args.entries.now c.loop-entry.entry-index c.entry-item.result c.loop-entry-test.true None (ap case_of (sym c.entry-item.is) ∙ w.in_default.ensures.none), append-nil (case_lines (take c.loop-entry.entry-index c.args.entries.now)))
          c.loop-entry.invariant
    ]

pub returns : goal.returns
returns c =
    by_address_from (case_lines c.args.entries.now) c.loop-entry.cases.items _
    (subst (λ entries. AreDrawn (case_lines entries) c.loop-entry.cases.items) (take_all c.loop-entry.entry-index c.args.entries.now c.loop-entry-test.false) c.loop-entry.invariant)
    c.sort_unstable_by_key.ensures.permutation
    (IsNonDecreasingBy-from_sort_by_key (λ case. case.at) _ c.sort_unstable_by_key.ensures.sorted (λ a r q k. search rules))
    c.requires
