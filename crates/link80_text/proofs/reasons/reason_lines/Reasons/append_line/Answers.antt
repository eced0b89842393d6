use Rattle.std.specs.Prelude.{◌≡◌, ◌++◌, [], ℕ, List, Some, length, map, slice_get, slice_index_or, option_copied, OnOk, refl}
use Rattle.std.proofs.Common.{◌∙◌, rules, ap, sym, subst}
use Rattle.std.proofs.lemmas.Option.{none-some}
use Rattle.std.proofs.lemmas.Result.{on_ok_weaker}
use Rattle.omf_model.specs.Modules.{ModuleValue}
use Rattle.link80_select.specs.Selected.{module_at}
use Rattle.link80_text.specs.Found.{PrintsLine, ReasonsValue}
use Rattle.link80_text.specs.Reasons.{reason_line}
use Rattle.link80_text.proofs.ReasonLemmas.{by_inside, mapped_at, name_inside, need_at, reason_is}
use Rattle.link80_text.proofs.reasons.reason_lines.Reasons.append_line.Goals as goal

pub index-by-requires : goal.index-by-requires
index-by-requires c =
    let at = c.requires in
    let inside = by_inside (λ m. m.now) c.self.inside.roots.now c.self.inside.libraries.now c.self.inside.taken.now
    c.self.inside.modules.items c.self.inside.needs.items c.args.number c.self.invariant c.args.place
    (ap (λ (v : ReasonsValue). slice_get v.taken c.args.number) c.self.view_is ∙ at) c.index-need.result.now c.index-need.ensures in
    search (rules, inside)

pub bounds-externals-need : goal.bounds-externals-need
bounds-externals-need c =
    let inside = name_inside (λ m. m.now) c.self.inside.roots.now c.self.inside.libraries.now c.self.inside.taken.now
    c.self.inside.modules.items c.self.inside.needs.items c.args.number c.self.invariant c.args.place
    (ap (λ (v : ReasonsValue). slice_get v.taken c.args.number) c.self.view_is ∙ c.requires) c.index-need.result.now c.index-need.ensures
    c.index-by.result.now c.index-by.ensures in
    search (rules, inside, c.externals.ensures.value)

pub offset_bounds-externals-need : goal.offset_bounds-externals-need
offset_bounds-externals-need c =
    let inside = name_inside (λ m. m.now) c.self.inside.roots.now c.self.inside.libraries.now c.self.inside.taken.now
    c.self.inside.modules.items c.self.inside.needs.items c.args.number c.self.invariant c.args.place
    (ap (λ (v : ReasonsValue). slice_get v.taken c.args.number) c.self.view_is ∙ c.requires) c.index-need.result.now c.index-need.ensures
    c.index-by.result.now c.index-by.ensures in
    let len = ap (λ (l : List (List ℕ)). length l) c.externals.ensures.value in
    search (rules, inside, len, c.externals.type_inv)

pub unreachable-requires : goal.unreachable-requires
unreachable-requires c =
    let at = ap (λ (v : ReasonsValue). slice_get v.taken c.args.number) c.self.view_is ∙ c.requires in
    let reason = reason_is (λ m. m.now) c.self.inside.roots.now c.self.inside.libraries.now c.self.inside.taken.now
    c.self.inside.modules.items c.self.inside.needs.items c.args.number c.self.invariant c.args.place at c.index-need.result.now
    c.index-need.ensures c.index-by.result.now c.index-by.ensures c.index-externals-need.result
    (search (rules, c.index-externals-need.is, c.externals.ensures.value)) in
    none-some reason.sought.first.provider
    (sym (ap (λ o. option_copied o) c.in-None.is) ∙ c.module_at.ensures ∙ reason.sought.first.there)

pub returns : goal.returns
returns c =
    let at = ap (λ (v : ReasonsValue). slice_get v.taken c.args.number) c.self.view_is ∙ c.requires in
    let need = c.index-need.result.now in
    let name : List ℕ = c.index-externals-need.result in
    let by : ModuleValue = c.index-by.result.now.now in
    let reason = reason_is (λ m. m.now) c.self.inside.roots.now c.self.inside.libraries.now c.self.inside.taken.now
    c.self.inside.modules.items c.self.inside.needs.items c.args.number c.self.invariant c.args.place at need
    c.index-need.ensures c.index-by.result.now c.index-by.ensures name
    (search (rules, c.index-externals-need.is, c.externals.ensures.value)) in
    let there = need_at (λ m. m.now) c.self.inside.roots.now c.self.inside.libraries.now c.self.inside.taken.now
    c.self.inside.modules.items c.self.inside.needs.items c.args.number c.self.invariant c.args.place at need c.index-need.ensures in
    let provider : ModuleValue = c.in-Some.provider.now in
    let found : module_at c.self.inside.libraries.now c.args.place ≡ Some provider = sym c.module_at.ensures
    ∙ ap (λ o. option_copied o) c.in-Some.is in
    let path : List ℕ = slice_index_or (map (λ p. p.now) c.args.paths.now) c.args.place.library [] in
    let same : reason_line c.name.result.now name c.name-in-Some.result.now c.path_of.result.now
    ≡ reason_line provider.name name by.name path =
    ap (λ n. reason_line n name c.name-in-Some.result.now c.path_of.result.now) c.name.ensures
    ∙ ap (λ n. reason_line provider.name name n c.path_of.result.now) c.name-in-Some.ensures
    ∙ ap (reason_line provider.name name by.name) c.path_of.ensures in
    subst (λ (v : ReasonsValue). OnOk c.append_line.result (PrintsLine v (map (λ p. p.now) c.args.paths.now) c.args.number c.args.place
    c.args.text.now.items c.append_line.new.text.items)) c.self.view_is
    (on_ok_weaker c.append_line.result (λ e. record {
      line = record { by = need.by; text = reason_line provider.name name by.name path };
      is_line = record {
        provider = provider;
        name = name;
        by = by;
        there = found;
        reason = reason;
        line_is = refl;
      };
      named = mapped_at c.self.inside.needs.items c.args.number need there;
      after_is = e ∙ ap (λ l. c.args.text.now.items ++ l) same;
    }) c.append_line.ensures)
