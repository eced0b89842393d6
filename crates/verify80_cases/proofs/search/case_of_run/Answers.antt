use Rattle.std.proofs.Common.{rules, ◌<◌, length, refl, subst}
use Rattle.std.proofs.lemmas.List.Filters.{dedup_is}
use Rattle.image80.specs.Image.{Located}
use Rattle.verify80_cases.specs.Suggested.{AreEntries}
use Rattle.verify80_cases.proofs.TableLemmas.{suggested_case}
use Rattle.verify80_cases.proofs.search.case_of_run.Goals as goal

pub invariant_of-result : goal.invariant_of-result
invariant_of-result c =
    let image = c.args.image.now in
    let reached = c.args.reached.now in
    let taken = c.args.taken.now in
    let run = c.args.run in
    let goals = c.in_ok-targets.targets.items in
    let entries : AreEntries image reached taken run.kind run.first run.limit goals =
    subst (λ (i : Located). AreEntries i reached taken run.kind run.first run.limit goals) c.requires.seen c.in_ok-targets.ensures.entries in
    let some : 0 < length goals = search rules in
    (suggested_case image reached taken run.kind c.args.at run.first run.limit goals _ c.ranges.at.fits c.requires.reached c.requires.begun entries c.in_ok-targets.ensures.words some
    c.sort_unstable.ensures.permutation c.sort_unstable.ensures.sorted c.dedup.new.self.items _ _ (dedup_is _ _ _ c.dedup.ensures.filtered) refl refl).suggested.rules

pub returns : goal.returns
returns c =
    let image = c.args.image.now in
    let reached = c.args.reached.now in
    let taken = c.args.taken.now in
    let run = c.args.run in
    let goals = c.in_ok-targets.targets.items in
    let entries : AreEntries image reached taken run.kind run.first run.limit goals =
    subst (λ (i : Located). AreEntries i reached taken run.kind run.first run.limit goals) c.requires.seen c.in_ok-targets.ensures.entries in
    let some : 0 < length goals = search rules in (
      suggested_case image reached taken run.kind c.args.at run.first run.limit goals _ c.ranges.at.fits c.requires.reached c.requires.begun entries c.in_ok-targets.ensures.words some
          c.sort_unstable.ensures.permutation c.sort_unstable.ensures.sorted c.dedup.new.self.items _ _ (dedup_is _ _ _ c.dedup.ensures.filtered) (search rules) (search rules),
      refl,
    )
