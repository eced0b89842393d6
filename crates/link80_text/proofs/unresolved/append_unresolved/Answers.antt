use Rattle.std.specs.Prelude.{OnOk}
use Rattle.std.specs.List.{flat_map}
use Rattle.std.proofs.Common.{◌≡◌, ◌++◌, ◌∙◌, ap, subst, ℕ, List, map, Bor}
use Rattle.omf_model.specs.declared.modules.Module.{Module}
use Rattle.omf_model.specs.Modules.{ModuleValue}
use Rattle.link80_select.specs.declared.chosen.Chosen.{Chosen}
use Rattle.link80.specs.Selection.{modules_with}
use Rattle.link80_text.specs.Parts.{modules_of, needing_text, unresolved_text}
use Rattle.link80_text.proofs.unresolved.append_unresolved.Goals as goal

pub returns : goal.returns
returns c =
    let roots = c.args.roots.now in
    let libraries = c.args.libraries.now in
    let linked = modules_of roots libraries c.args.made.now in
    let modules : map (λ (m : Bor Module). m.now) c.deref-3.result.now ≡ linked =
    ap (λ (l : List (Bor Module)). map (λ (m : Bor Module). m.now) l) c.deref-3.ensures.value
    ∙ (c.in_ok-modules.ensures ∙ ap (λ (t : List Chosen). modules_with roots libraries t) c.deref.ensures.value) in
    let text : flat_map (needing_text (map (λ (m : Bor Module). m.now) c.deref-3.result.now)) c.deref-4.result.now ≡ unresolved_text linked =
    ap (λ (ms : List ModuleValue). flat_map (needing_text ms) c.deref-4.result.now) modules
    ∙ ap (λ (names : List (List ℕ)). flat_map (needing_text linked) names) (c.deref-4.ensures.value ∙ c.requires.names_are) in
    subst (λ (t : List ℕ). OnOk c.append_names.result (c.append_names.new.text.items ≡ c.args.text.now.items ++ t)) text c.append_names.ensures
