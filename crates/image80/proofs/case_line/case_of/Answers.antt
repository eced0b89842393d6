use Rattle.std.proofs.Common.{subst, ◌∙◌}
use Rattle.std.proofs.lemmas.List.Filters.{dedup_is}
use Rattle.image80.specs.Reading.{IsCaseOf}
use Rattle.image80.proofs.CasesLemmas.{case_of_line}
use Rattle.image80.proofs.case_line.case_of.Goals as goal

pub invariant_of-result : goal.invariant_of-result
invariant_of-result c =
    (case_of_line (record { at = c.line.inside.at; targets = c.line.inside.targets.items }) _ _ c.dedup.new.self.items c.line.invariant (c.in_ok-targets.ensures.items ∙ c.deref.ensures.value)
    c.sort_unstable.ensures.permutation c.sort_unstable.ensures.sorted (dedup_is _ _ _ c.dedup.ensures.filtered)).rules

pub returns : goal.returns
returns c =
    subst (λ line. IsCaseOf line (record { at = c.line.inside.at; targets = c.dedup.new.self.items })) c.line.view_is
    (case_of_line (record { at = c.line.inside.at; targets = c.line.inside.targets.items }) _ _ c.dedup.new.self.items c.line.invariant (c.in_ok-targets.ensures.items ∙ c.deref.ensures.value)
    c.sort_unstable.ensures.permutation c.sort_unstable.ensures.sorted (dedup_is _ _ _ c.dedup.ensures.filtered))
