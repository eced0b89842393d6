-- What is made of parts that keep the rules keeps them.
use Rattle.std.proofs.Common.{◌≡◌, ℕ, List, subst, sym, IsTrue}
use Rattle.omf_model.specs.declared.segment.Segment.{Segment}
use Rattle.omf_model.specs.Segments.{canonical_segments}
use Rattle.omf_model.specs.Modules.{ModuleValue}
use Rattle.omf_model.specs.Rules.{keeps_rules, has_names, IsModule}
use Rattle.omf_model.proofs.CanonicalLemmas.{made_is_module}
use Rattle.omf_model.proofs.modules.Module.with_segments.Goals as goal

pub invariant_of-result : goal.invariant_of-result
invariant_of-result c =
    let p : ModuleValue = record { name = c.parts.inside.name; segments = c.parts.inside.segments.items; commons = c.parts.inside.commons.items; publics = c.parts.inside.publics.items; externals = c.parts.inside.externals.items; contents = c.parts.inside.contents.items; start = c.parts.inside.start } in
    let kept : IsTrue (keeps_rules p) = subst (λ (v : ModuleValue). IsTrue (keeps_rules v)) (sym c.parts.view_is) c.requires.rules in
    let names : IsTrue (has_names p) = subst (λ (v : ModuleValue). IsTrue (has_names v)) (sym c.parts.view_is) c.requires.names in
    let listed : c.args.segments.items ≡ canonical_segments p.segments p.commons = subst (λ (v : ModuleValue). c.args.segments.items ≡ canonical_segments v.segments v.commons) (sym c.parts.view_is) c.requires.canonical in
    subst (λ (s : List (ℕ × Segment)). IsModule (record p { segments = s })) (sym listed) (made_is_module p kept names)
