use Rattle.std.specs.Prelude.{◌≡◌, ◌<◌, ℕ, List, [], Option, Some, refl, length, slice_get, true, unwrap_or, nat_lt}
use Rattle.std.proofs.Common.{◌∙◌, ap, sym, arith, get_or}
use Rattle.std.proofs.lemmas.Bool.Decides.{nat_tests}
use Rattle.std.proofs.lemmas.Option.{slice_get_read}
use Rattle.omf_model.specs.Rules.{has_target}
use Rattle.link80.specs.Linked.{linked_reference, public_of, to_public}
use Rattle.link80.proofs.UnresolvedLemmas.{among_here, among_all}
use Rattle.link80.proofs.symbol_tables.SymbolTables.reference.Goals as goal

-- the external that is read
external_at : (externals own : List (List ℕ)) (index from : ℕ) (item name : List ℕ) → externals ≡ own → from ≡ index
    → nat_lt index (length own) ≡ true → item ≡ get_or externals from item → name ≡ item →
    slice_get own index ≡ Some name
external_at externals own index from item name same from_is below is named =
    let within : from < length externals = grind (arith, nat_tests, below, from_is, ap length same) in
    ap (λ l. slice_get l index) (sym same) ∙ ap (slice_get externals) (sym from_is)
    ∙ slice_get_read externals (length externals) from item refl within is ∙ ap Some (sym named)

pub reference_to-requires : goal.reference_to-requires
reference_to-requires c =
    let there : nat_lt c.in-External.index (length c.args.source.now.externals) ≡ true =
    ap (has_target c.args.source.now.commons (length c.args.source.now.externals)) (sym c.in-External.is)
    ∙ c.requires.there in
    let at = external_at c.externals.result.now c.args.source.now.externals c.in-External.index c.from.result
    c.index-externals-from.result c.bytes.result.now c.externals.ensures.value c.from.ensures there c.index-externals-from.is
    c.bytes.ensures.value in
    among_all c.args.self.now c.args.number c.args.source.now c.bytes.result.now c.requires.here
    (among_here c.args.source.now.externals c.in-External.index c.bytes.result.now at)

pub returns-in-External : goal.returns-in-External
returns-in-External c =
    let there : nat_lt c.in-External.index (length c.args.source.now.externals) ≡ true =
    ap (has_target c.args.source.now.commons (length c.args.source.now.externals)) (sym c.in-External.is)
    ∙ c.requires.there in
    let at = external_at c.externals.result.now c.args.source.now.externals c.in-External.index c.from.result
    c.index-externals-from.result c.bytes.result.now c.externals.ensures.value c.from.ensures there c.index-externals-from.is
    c.bytes.ensures.value in
    c.reference_to.ensures
    ∙ ap (λ name. to_public c.args.self.now name (public_of c.args.self.now name))
    (sym (ap (λ (o : Option (List ℕ)). unwrap_or o []) at))
    ∙ ap (linked_reference c.args.self.now (c.args.number, c.args.source.now)) (sym c.in-External.is)
