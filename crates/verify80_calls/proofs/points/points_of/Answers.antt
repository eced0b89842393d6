use Rattle.std.proofs.Common.{rules, of_calls}
use Rattle.std.proofs.lemmas.Fn.{always_returns_same}
use Rattle.frames80.specs.Procedures.{slot_of}
use Rattle.verify80_calls.proofs.PointLemmas.{before_first, up_to_last_of, of_parts, is_before, is_not_behind}
use Rattle.verify80_calls.proofs.points.points_of.Goals as goal

pub returns : goal.returns
returns c = λ code are.
    let points = c.args.points.now in
    let first = c.partition_point-first.result in
    let count = c.partition_point-count.result in
    let place = slot_of c.args.procedure in
    of_parts code c.args.procedure points are first count c.split_at.result.1.now c.split_at-2.result.0.now c.split_at.ensures.back c.split_at-2.ensures.front
    (c.partition_point-first.ensures.partitioned (is_before place) (always_returns_same _ _ _ (λ a r f k. search (rules, of_calls))) (before_first code points place are))
    (c.partition_point-count.ensures.partitioned (is_not_behind place) (always_returns_same _ _ _ (λ a r f k. search (rules, of_calls)))
    (up_to_last_of code points first place c.split_at.result.1.now are c.split_at.ensures.back))
    c.partition_point-first.ensures.bound c.partition_point-count.ensures.bound
