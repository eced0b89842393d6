use Rattle.std.specs.Prelude.{◌≡◌, ◌++◌, ℕ, Some, List, map}
use Rattle.std.proofs.Common.{◌∙◌, ap, subst, Bor}
use Rattle.omf_model.specs.Modules.{ModuleValue}
use Rattle.omf_model.specs.declared.modules.Module.{Module}
use Rattle.link80_select.specs.declared.chosen.Chosen.{Chosen}
use Rattle.link80.specs.LinkFault.{link_fault}
use Rattle.link80.specs.Selection.{modules_with}
use Rattle.link80_text.specs.Causes.{cause_text, files_with}
use Rattle.link80_text.proofs.causes.cause_text.append_cause.Goals as goal

pub returns : goal.returns
returns c =
    let roots = c.args.sources.now.roots.now in
    let libraries = c.args.sources.now.libraries.now in
    let root_files = map (λ f. f.now) c.args.sources.now.root_files.now in
    let library_files = map (λ f. f.now) c.args.sources.now.library_files.now in
    let fault = c.args.fault.now in
    let text = c.args.text.now.items in
    let taken = c.in-Ok.taken.items in
    let modules = ap (λ (l : List (Bor Module)). map (λ m. m.now) l) c.deref-4.ensures.value ∙ c.in_ok-modules.ensures
    ∙ ap (λ (l : List Chosen). modules_with roots libraries l) c.deref.ensures.value in
    let files = ap (λ (l : List (Bor (List ℕ))). map (λ f. f.now) l) c.deref-3.ensures.value ∙ c.in_ok-files.ensures
    ∙ ap (λ (l : List Chosen). files_with root_files library_files l) c.deref-2.ensures.value in
    record {
      taken = taken;
      selection = record { chosen = c.in-Ok.ensures.chosen; ascending = c.in-Ok.ensures.ascending };
      first = λ cannot. subst (λ (l : List Chosen). link_fault (modules_with roots libraries l) ≡ Some fault)
          (c.selections_are_unique.ensures roots libraries cannot.taken taken cannot.selection.chosen cannot.selection.ascending
          c.in-Ok.ensures.chosen c.in-Ok.ensures.ascending) cannot.first;
      after_is = c.in_ok-append_lines.ensures
          ∙ ap (λ (l : List (List ℕ)). text ++ cause_text l (map (λ m. m.now) c.deref-4.result.now) fault) files
          ∙ ap (λ (l : List ModuleValue). text ++ cause_text (files_with root_files library_files taken) l fault) modules;
    }
