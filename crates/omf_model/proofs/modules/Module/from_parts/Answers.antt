use Rattle.omf_model.proofs.RuleLemmas.{others_fail, fixups_fail, both_kept}
use Rattle.omf_model.proofs.modules.Module.from_parts.Goals as goal

pub returns-then-not-keeps_rules_but_for_fixups-clause-rule :
    goal.returns-then-not-keeps_rules_but_for_fixups-clause-rule
returns-then-not-keeps_rules_but_for_fixups-clause-rule c = λ _. others_fail c.args.parts c.keeps_rules_but_for_fixups.result c.keeps_rules_but_for_fixups.ensures c.if-not-keeps_rules_but_for_fixups.true

pub returns-in-Ok-false-clause-rule : goal.returns-in-Ok-false-clause-rule
returns-in-Ok-false-clause-rule c = λ _. fixups_fail c.args.parts c.in-Ok-false.field-0 c.in-Ok-false.ensures c.in-Ok-false.field-0-test

pub with_segments-requires-clause-rules : goal.with_segments-requires-clause-rules
with_segments-requires-clause-rules c = both_kept c.args.parts c.keeps_rules_but_for_fixups.result c.in-Ok-true.field-0 c.keeps_rules_but_for_fixups.ensures c.if-not-keeps_rules_but_for_fixups.false c.in-Ok-true.ensures c.in-Ok-true.field-0-test

pub returns-clause-kept : goal.returns-clause-kept
returns-clause-kept c = both_kept c.args.parts c.keeps_rules_but_for_fixups.result c.in-Ok-true.field-0 c.keeps_rules_but_for_fixups.ensures c.if-not-keeps_rules_but_for_fixups.false c.in-Ok-true.ensures c.in-Ok-true.field-0-test
