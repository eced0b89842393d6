use Rattle.std.specs.Prelude.{◌<◌, ◌+◌, ℕ, List, drop, length, refl, is_some}
use Rattle.std.specs.List.{cons_option}
use Rattle.std.proofs.Common.{◌∙◌, ap, sym, subst}
use Rattle.link80.specs.Gathered.{mains_from}
use Rattle.link80.proofs.GatheredLemmas.{mains_at, a_main, two_are, main_here, no_main_here}
use Rattle.link80.proofs.mains.main_of.Goals as goal
use Rattle.link80.proofs.mains.main_of.Goals.{then-is_some+else-is_some-2, else-is_some}

pub returns-then-is_some-2-clause-fault : goal.returns-then-is_some-2-clause-fault
returns-then-is_some-2-clause-fault c =
    let rest : List ℕ = mains_from (c.loop-number.number + 1) (drop (c.loop-number.number + 1) c.args.modules.now) in
    let here = mains_at c.args.modules.now c.loop-number.number c.get.result.now c.get.ensures
    ∙ ap (λ o. cons_option o rest)
    (a_main c.get.result.now.start c.loop-number.number (ap is_some (sym c.start.ensures.value)
    ∙ sym c.if-is_some.ensures)) in (
      refl,
      subst (λ l. 1 < length l) (ap (cons_option c.loop-number.main) (sym here)
          ∙ c.loop-number.invariant) (two_are c.loop-number.main c.loop-number.number rest (sym c.if-is_some-2.ensures)),
    )

pub loop-number-preserved : goal.loop-number-preserved
loop-number-preserved c = elim c.if-is_some.branch [
  | then-is_some+else-is_some-2 w ↦
      ap (λ o. cons_option o (mains_from (c.loop-number.number + 1) (drop (c.loop-number.number + 1) c.args.modules.now)))
      w.main-is
      ∙ main_here c.args.modules.now c.loop-number.number c.get.result.now c.loop-number.main c.get.ensures
      (ap is_some (sym c.start.ensures.value) ∙ sym w.if-is_some.ensures) (sym w.if-is_some-2.ensures)
      ∙ c.loop-number.invariant
  | else-is_some w ↦ ap (λ o.
      cons_option o (mains_from (c.loop-number.number + 1) (drop (c.loop-number.number + 1) c.args.modules.now))) w.main-is
      ∙ no_main_here c.args.modules.now c.loop-number.number c.get.result.now c.loop-number.main c.get.ensures
      (ap is_some (sym c.start.ensures.value) ∙ sym w.if-is_some.ensures)
      ∙ c.loop-number.invariant
]
