use Rattle.std.specs.Prelude.{List, map, IfOk, IfErr}
use Rattle.std.proofs.Common.{◌∙◌, ap, sym, subst}
use Rattle.omf_model.specs.declared.symbols.Public.{Public}
use Rattle.omf_model.specs.Modules.{ModuleValue}
use Rattle.link80.specs.Linked.{linked_publics}
use Rattle.link80.specs.LinkFault.{duplicate_public, segment_too_long}
use Rattle.link80.specs.Linking.{IsFirstFault, IsLinkOf}
use Rattle.link80.proofs.linking.link_declared.Goals as goal

pub link_laid-requires-clause-names : goal.link_laid-requires-clause-names
link_laid-requires-clause-names c = c.requires.names
    ∙ ap (λ (ms : List ModuleValue). map (λ (p : Public). p.name) (linked_publics ms)) (sym c.in_ok-laid.ensures.same)

pub link_laid-requires-clause-once : goal.link_laid-requires-clause-once
link_laid-requires-clause-once c = ap duplicate_public c.in_ok-laid.ensures.same ∙ c.requires.once

pub link_laid-requires-clause-segments_fit : goal.link_laid-requires-clause-segments_fit
link_laid-requires-clause-segments_fit c = ap segment_too_long c.in_ok-laid.ensures.same ∙ c.in_ok-laid.ensures.fit

pub returns-clause-made : goal.returns-clause-made
returns-clause-made c =
    subst (λ (ms : List ModuleValue). IfOk c.link_laid.result (λ made. IsLinkOf c.args.name.now ms made.0 made.1.items))
    c.in_ok-laid.ensures.same c.link_laid.ensures.made

pub returns-clause-fault : goal.returns-clause-fault
returns-clause-fault c =
    subst (λ (ms : List ModuleValue). IfErr c.link_laid.result (IsFirstFault ms)) c.in_ok-laid.ensures.same
    c.link_laid.ensures.fault
