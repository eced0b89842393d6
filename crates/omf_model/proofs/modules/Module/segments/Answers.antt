use Rattle.std.proofs.Common.{◌≤◌, ℕ, List, length, subst, sym, ap, ◌∙◌}
use Rattle.omf_model.specs.declared.segment.Segment.{Segment}
use Rattle.omf_model.specs.Modules.{ModuleValue}
use Rattle.omf_model.specs.FewSegments.{canonical_few}
use Rattle.omf_model.proofs.modules.Module.segments.Goals as goal

pub returns-clause-few : goal.returns-clause-few
returns-clause-few c =
    subst (λ (s : List (ℕ × Segment)). length s ≤ 255)
    (sym c.self.invariant.canonical ∙ ap (λ (m : ModuleValue). m.segments) c.self.view_is)
    (canonical_few c.self.inside.segments.items c.self.inside.commons.items)
