use Rattle.std.proofs.Common.{◌≤◌, ◌/◌, ◌∙◌, ℕ, sym, subst, ap}
use Rattle.std.specs.List.{flat_map, AllByRecursion}
use Rattle.omf_library.specs.Writing.{location_bytes}
use Rattle.omf_library.proofs.WritingLemmas.{places_fit}
use Rattle.omf_library.proofs.writing.index_of.Goals as goal

pub locations_of-requires : goal.locations_of-requires
locations_of-requires c =
    subst (AllByRecursion (λ (p : ℕ). p / 128 ≤ 65535)) (sym c.requires.places)
    (places_fit c.args.modules.now (sym c.is_too_large.ensures ∙ c.if-is_too_large.false))

pub returns-clause-locations : goal.returns-clause-locations
returns-clause-locations c = c.in_ok-locations.ensures ∙ ap (flat_map location_bytes) c.requires.places

pub returns-clause-names : goal.returns-clause-names
returns-clause-names c = c.in_ok-names.ensures

pub returns-clause-dictionary : goal.returns-clause-dictionary
returns-clause-dictionary c = c.in_ok-dictionary.ensures

pub returns-clause-fits : goal.returns-clause-fits
returns-clause-fits c = sym c.is_too_large.ensures ∙ c.if-is_too_large.false

pub is_too_large-requires-clause-names : goal.is_too_large-requires-clause-names
is_too_large-requires-clause-names c = c.deref.ensures.value ∙ c.in_ok-names.ensures

pub is_too_large-requires-clause-places : goal.is_too_large-requires-clause-places
is_too_large-requires-clause-places c = c.requires.places

pub is_too_large-requires-clause-dictionary : goal.is_too_large-requires-clause-dictionary
is_too_large-requires-clause-dictionary c = c.deref-2.ensures.value ∙ c.in_ok-dictionary.ensures

pub is_too_large-requires-clause-bytes : goal.is_too_large-requires-clause-bytes
is_too_large-requires-clause-bytes c = c.requires.bytes
