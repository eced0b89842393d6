use Rattle.std.proofs.Common.{◌≤◌, ℕ, Option, List, ◌++◌, map, length, subst, sym, ap, ◌∙◌}
use Rattle.std.specs.List.{AllByRecursion, flat_map}
use Rattle.omf_body.specs.declared.body.Body.TheVariants.{ModuleEnd}
use Rattle.omf_body.specs.Bodies.{record_bytes}
use Rattle.omf_model.specs.declared.symbols.Common.{Common}
use Rattle.omf_model.specs.declared.symbols.Public.{Public}
use Rattle.omf_model.specs.Contents.{ContentValue}
use Rattle.omf_module.specs.Writing.{common_body, public_body, external_body, content_bodies, end_body}
use Rattle.omf_module.proofs.ShortLemmas.{module_contents_short}
use Rattle.omf_module.proofs.WritingLemmas.{module_written}
use Rattle.omf_module.proofs.writing.append_module.Goals as goal

pub append_contents-requires : goal.append_contents-requires
append_contents-requires c =
    subst (λ (xs : List ContentValue). AllByRecursion (λ (x : ContentValue). length x.bytes ≤ 65531) xs)
    (sym c.contents.ensures.value) (module_contents_short c.args.source.now c.contents.ensures.rules)

pub returns-clause-written : goal.returns-clause-written
returns-clause-written c =
    module_written c.args.source.now c.args.out.now.items c.append_header.new.out.items c.append_commons.new.out.items
    c.append_publics.new.out.items c.append_externals.new.out.items c.append_contents.new.out.items c.append_end.new.out.items
    c.in_ok-append_header.ensures
    (c.in_ok-append_commons.ensures
    ∙ ap (λ (x : List Common). c.append_header.new.out.items
    ++ flat_map record_bytes (map common_body x)) c.commons.ensures.value)
    (c.in_ok-append_publics.ensures
    ∙ ap (λ (x : List Public). c.append_commons.new.out.items
    ++ flat_map record_bytes (map public_body x)) c.publics.ensures.value)
    (c.in_ok-append_externals.ensures
    ∙ ap (λ (x : List (List ℕ)). c.append_publics.new.out.items
    ++ flat_map record_bytes (map external_body x)) c.externals.ensures.value)
    (c.in_ok-append_contents.ensures
    ∙ ap (λ (x : List ContentValue). c.append_externals.new.out.items
    ++ flat_map record_bytes (flat_map content_bodies x)) c.contents.ensures.value)
    (c.in_ok-append_end.ensures
    ∙ ap (λ (x : Option (ℕ × ℕ)). c.append_contents.new.out.items
    ++ record_bytes (ModuleEnd (end_body x))) c.start.ensures.value)
