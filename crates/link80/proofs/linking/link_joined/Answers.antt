use Rattle.std.specs.Prelude.{◌≡◌, None}
use Rattle.std.specs.List.{AllByRecursion}
use Rattle.std.proofs.Common.{◌∙◌, ap, subst, IsTrue}
use Rattle.std.proofs.lemmas.Result.{err_from_is_err_and}
use Rattle.omf_model.specs.Modules.{made_of}
use Rattle.omf_model.specs.Rules.{IsModule, keeps_rules}
use Rattle.link80.specs.Linked.{linked_parts, unresolved}
use Rattle.link80.specs.LinkFault.{link_fault}
use Rattle.link80.proofs.linking.link_joined.Goals as goal

pub returns-in_err-tables-clause-fault : goal.returns-in_err-tables-clause-fault
returns-in_err-tables-clause-fault c =
    let p = err_from_is_err_and c.from_residual.result c.from_residual.ensures.1 in
    rw (p.1, p.2) (λ real. c.requires.no_other_fault ∙ c.in_err-tables.ensures.fault real)

pub from_sound_parts-requires : goal.from_sound_parts-requires
from_sound_parts-requires c =
    let none : link_fault c.args.joined.now ≡ None = c.requires.no_other_fault ∙ c.in_ok-tables.ensures.fit in
    let sound : AllByRecursion IsModule c.args.joined.now =
    subst (AllByRecursion IsModule) c.in_ok-tables.ensures.same c.in_ok-parts.ensures.sound in
    let keeps : IsTrue (keeps_rules (linked_parts c.args.name.now c.args.joined.now)) =
    c.linked_module_keeps_rules.ensures.rules c.args.name.now c.args.joined.now sound none in
    let parts_are = c.in_ok-parts.ensures.parts ∙ ap (linked_parts c.args.name.now) c.in_ok-tables.ensures.same in
    ap keeps_rules parts_are ∙ keeps

pub returns-clause-made : goal.returns-clause-made
returns-clause-made c =
    let same = c.in_ok-tables.ensures.same in
    record {
      program_is = c.in_ok-linked.ensures ∙ ap made_of (c.in_ok-parts.ensures.parts ∙ ap (linked_parts c.args.name.now) same);
      names_are = c.in_ok-parts.ensures.unresolved ∙ ap unresolved same;
      no_fault = c.requires.no_other_fault ∙ c.in_ok-tables.ensures.fit;
      sound = subst (AllByRecursion IsModule) same c.in_ok-parts.ensures.sound;
    }
