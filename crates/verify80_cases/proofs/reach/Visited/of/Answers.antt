use Rattle.std.proofs.Common.{[], ◌∷◌, refl, subst}
use Rattle.std.specs.Prelude.{take}
use Rattle.std.proofs.lemmas.List.{take_all}
use Rattle.verify80_cases.specs.Reach.{IsDone}
use Rattle.verify80_cases.proofs.ReachLemmas.{entered_more}
use Rattle.verify80_cases.proofs.reach.Visited.of.Goals as goal

pub explore-requires : goal.explore-requires
explore-requires c = (c.in_ok-visited.ensures c.args.code.now).size

pub explore-requires-in-loop-entry : goal.explore-requires-in-loop-entry
explore-requires-in-loop-entry c = c.loop-entry.invariant.done.size

pub loop-entry-init : goal.loop-entry-init
loop-entry-init c = record {
  done = subst (λ s. IsDone c.args.code.now (s ∷ []) c.explore.new.self.marks.items c.explore.new.self.order.items) c.start.ensures
      (c.in_ok-explore.ensures [] (c.in_ok-visited.ensures c.args.code.now));
}

pub loop-entry-preserved : goal.loop-entry-preserved
loop-entry-preserved c =
    let i = c.loop-entry.entry-index in
    let entries = c.args.entries.now in
    let image = c.args.code.now in
    record {
      done = entered_more image entries i 0 _ c.explore-in-loop-entry.new.self.marks.items c.explore-in-loop-entry.new.self.order.items c.loop-entry-test.true refl
          (c.in_ok-explore-2.ensures (image.start ∷ take i entries) c.loop-entry.invariant.done);
    }

pub returns : goal.returns
returns c =
    subst (λ es. IsDone c.args.code.now (c.args.code.now.start ∷ es) c.loop-entry.visited.marks.items c.loop-entry.visited.order.items)
    (take_all c.loop-entry.entry-index c.args.entries.now c.loop-entry-test.false) c.loop-entry.invariant.done
