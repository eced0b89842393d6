use Rattle.std.proofs.Common.{subst, sym}
use Rattle.std.proofs.lemmas.List.Elements.{All-push}
use Rattle.verify80_cases.specs.Reading.{AreRests, IsRest}
use Rattle.verify80_cases.proofs.RestLemmas.{all_but_last, first_target, rest_behind}
use Rattle.verify80_cases.proofs.reading.Reader.next_target.Goals as goal

pub returns-in_ok-push-clause-rests : goal.returns-in_ok-push-clause-rests
returns-in_ok-push-clause-rests c =
    let code = c.args.code.now in
    let marks = c.args.visited.now.marks.items in
    let rest = c.in-Some.rest in
    let next = c.in-Some-behind_first.next in
    let front = c.pop.new.self.items in
    let split = all_but_last (IsRest code marks) c.loop.self.unfinished.items front rest c.in-Some.ensures.items c.loop.invariant.rests in
    subst (AreRests code marks) (sym c.in_ok-push.ensures.items)
    (All-push (IsRest code marks) front next split.0
    (rest_behind code marks rest next c.in-Some-first_goal.goal split.1 c.in-Some-first_goal.ensures c.in-Some-behind_first.ensures))

pub returns-in_default-behind_first-clause-target : goal.returns-in_default-behind_first-clause-target
returns-in_default-behind_first-clause-target c =
    let code = c.args.code.now in
    let marks = c.args.visited.now.marks.items in
    let rest = c.in-Some.rest in
    let split = all_but_last (IsRest code marks) c.loop.self.unfinished.items c.pop.new.self.items rest c.in-Some.ensures.items c.loop.invariant.rests in
    first_target code marks rest c.in-Some-first_goal.goal split.1 c.in-Some-first_goal.ensures
