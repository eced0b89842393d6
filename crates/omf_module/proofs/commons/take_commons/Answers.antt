use Rattle.std.proofs.Common.{rules, ◌≡◌, List, [], sym, subst, ◌++◌, ◌∷◌}
use Rattle.omf_model.specs.declared.symbols.Common.{Common}
use Rattle.omf_module.specs.Reading.{common_of}
use Rattle.omf_module.proofs.CommonLemmas.{CommonsSoFar, one_taken, refused, not_empty}
use Rattle.omf_module.proofs.commons.take_commons.Goals as goal

pub returns-in-Err-clause-fault : goal.returns-in-Err-clause-fault
returns-in-Err-clause-fault c = λ _.
    refused c.args.commons.now.items c.args.body.now c.loop-cursor.commons.items c.loop-cursor.cursor c.in-Err.fault
    c.of_commons.result c.loop-cursor.invariant
    (not_empty c.loop-cursor.cursor (search rules))
    (search rules) c.of_commons.ensures

pub loop-cursor-preserved : goal.loop-cursor-preserved
loop-cursor-preserved c =
    let now = c.loop-cursor.commons.items in
    let e = c.in-Ok.common in
    let same : c.push.new.self.items ≡ now ++ common_of e ∷ [] = search rules in
    subst (λ (x : List Common). CommonsSoFar c.args.commons.now.items c.args.body.now x c.new_common.new.cursor) (sym same)
    (one_taken c.args.commons.now.items c.args.body.now now c.loop-cursor.cursor c.new_common.new.cursor e c.loop-cursor.invariant
    (search rules) c.in-Ok.ensures.spelled c.in-Ok.ensures.named (search rules))
