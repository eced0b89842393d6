use Rattle.std.proofs.Common.{rules, sym, subst, ◌∙◌, List, Some, ◌≡◌}
use Rattle.std.proofs.lemmas.Option.{none-some}
use Rattle.link80.specs.{LinkFault.link_fault, Selection.CannotBeLinked, Selection.modules_with}
use Rattle.omf_model.specs.Modules.{ModuleValue}
use Rattle.link80_select.specs.declared.chosen.Chosen.{Chosen}
use Rattle.plm80_console.specs.AnswerLaws.{blames_so}
use Rattle.plm80_objects.proofs.link.link_read.Goals as goal

pub returns-in-Ok-made-clause-links : goal.returns-in-Ok-made-clause-links
returns-in-Ok-made-clause-links g c = record {
  made = c.in-Ok.linked;
  selection = search rules;
  is_made = search rules;
  name_is = search rules;
  writes = c.in-Ok-made.ensures;
}

pub returns-in-Err-clause-fault : goal.returns-in-Err-clause-fault
returns-in-Err-clause-fault g c =
    blames_so
    (λ other made selection is_made.
    let roots = c.args.files.now.roots.items in
    let libraries = c.args.files.now.libraries.items in
    let cannot = subst (λ (rs : List ModuleValue). CannotBeLinked rs libraries c.in-Err.fault) c.deref.ensures.value
    (subst (λ (ls : List (List ModuleValue)). CannotBeLinked c.deref.result.now ls c.in-Err.fault) c.deref-2.ensures.value (c.in-Err.ensures.fault other)) in
    let same = c.selections_are_unique.ensures roots libraries cannot.taken made.taken.items cannot.selection.chosen cannot.selection.ascending
    selection.chosen selection.ascending in
    none-some c.in-Err.fault
    (sym is_made.no_fault ∙ subst (λ (taken : List Chosen). link_fault (modules_with roots libraries taken) ≡ Some c.in-Err.fault) same cannot.first))
    c.report_link_fault.ensures
