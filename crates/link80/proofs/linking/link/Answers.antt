use Rattle.std.specs.List.{AllByRecursion}
use Rattle.std.proofs.Common.{◌∙◌, ap, sym, subst}
use Rattle.omf_model.specs.Rules.{IsModule}
use Rattle.link80.specs.Linked.{linked, unresolved}
use Rattle.link80.specs.LinkFault.{link_fault}
use Rattle.link80.specs.Selection.{modules_with}
use Rattle.link80.proofs.linking.link.Goals as goal

pub returns-clause-linked : goal.returns-clause-linked
returns-clause-linked c =
    let modules_are = c.in_ok-modules.ensures ∙ ap (modules_with c.args.roots.now c.args.libraries.now) c.deref.ensures.value in
    c.in_ok-linked.ensures.made.program_is ∙ ap (linked c.args.name.now) modules_are

pub returns-clause-unresolved : goal.returns-clause-unresolved
returns-clause-unresolved c =
    let modules_are = c.in_ok-modules.ensures ∙ ap (modules_with c.args.roots.now c.args.libraries.now) c.deref.ensures.value in
    c.in_ok-linked.ensures.made.names_are ∙ ap unresolved modules_are

pub returns-clause-no_fault : goal.returns-clause-no_fault
returns-clause-no_fault c =
    let modules_are = c.in_ok-modules.ensures ∙ ap (modules_with c.args.roots.now c.args.libraries.now) c.deref.ensures.value in
    ap link_fault (sym modules_are) ∙ c.in_ok-linked.ensures.made.no_fault

pub returns-clause-sound : goal.returns-clause-sound
returns-clause-sound c =
    let modules_are = c.in_ok-modules.ensures ∙ ap (modules_with c.args.roots.now c.args.libraries.now) c.deref.ensures.value in
    subst (AllByRecursion IsModule) modules_are c.in_ok-linked.ensures.made.sound
