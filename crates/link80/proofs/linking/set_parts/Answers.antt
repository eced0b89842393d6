use Rattle.std.specs.Prelude.{ℕ, List, map}
use Rattle.std.proofs.Common.{◌∙◌, ap, refl}
use Rattle.omf_model.specs.Modules.{ModuleValue}
use Rattle.link80.specs.Linked.{linked_commons, linked_ids, linked_segment}
use Rattle.link80.proofs.linking.set_parts.Goals as goal

pub returns-clause-parts : goal.returns-clause-parts
returns-clause-parts c =
    let segments_are = c.in_ok-parts-inside.ensures
    ∙ ap (λ (ms : List ModuleValue). map (λ (id : ℕ). (id, linked_segment ms id)) (linked_ids ms)) c.tables.view_is in
    let commons_are = c.in_ok-parts-inside-2.ensures ∙ ap linked_commons c.tables.view_is in
    let externals_are = c.in_ok-parts-inside-3.ensures ∙ c.unresolved.ensures in
    λ j. record {
      name = (c.parts.view_is j).name;
      segments = segments_are j;
      commons = commons_are j;
      publics = (c.parts.view_is j).publics;
      externals = externals_are j;
      contents = c.in_ok-parts-inside-4.ensures.contents j;
      start = c.start_of-parts-inside.ensures j;
    }
