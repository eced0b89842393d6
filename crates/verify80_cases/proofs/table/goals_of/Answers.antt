use Rattle.std.proofs.Common.{◌≡◌, ◌+◌, ◌*◌, ◌<◌, ◌∷◌, [], Some, None, arith, subst, sym, ◌∙◌, rules, if◌then◌else◌}
use Rattle.std.proofs.lemmas.List.{length-append}
use Rattle.std.proofs.lemmas.List.Elements.{All-push}
use Rattle.image80.specs.Image.{memory_of}
use Rattle.verify80_cases.specs.Suggested.{goal_of, is_entry, stride}
use Rattle.verify80_cases.proofs.TableLemmas.{entry_is, one_more}
use Rattle.verify80_cases.proofs.table.goals_of.Goals as goal

pub loop-number-preserved : goal.loop-number-preserved
loop-number-preserved c =
    let image = c.args.code.now in
    let reached = c.args.reached.now in
    let taken = c.args.taken.now in
    let kind = c.args.table.kind in
    let first = c.args.table.first in
    let n = c.loop-number.number in
    let goals = c.loop-number.goals.items in
    let found = entry_is image reached taken kind (first + stride kind * n) c.in-Some.goal
    (subst (λ a. Some c.in-Some.goal ≡ (if is_entry kind image reached taken a then Some (goal_of kind (memory_of image.chunks) a) else None)) c.address_of-address.ensures.is
    (sym c.in-Some.is ∙ c.target_at.ensures)) in
    rw c.in_ok-push.ensures.items
    (record {
      first = one_more image reached taken kind first n c.in-Some.goal goals c.loop-number.invariant.count c.loop-number.invariant.first found.0 found.1;
      count = omega (arith, length-append goals (c.in-Some.goal ∷ []), c.loop-number.invariant.count);
      words = All-push (λ goal. goal < 65536) goals c.in-Some.goal c.loop-number.invariant.words (search rules);
    })
