-- What the names of a module stand for, in a table of them.
use Rattle.std.specs.Prelude.{◌≡◌, ℕ, suc, ◌<◌, if◌then◌else◌, Option, Some, None, option_map, List, [], ◌∷◌, length, find, slice_get}
use Rattle.std.specs.Option.{option_or}
use Rattle.std.specs.Map.{lookup}
use Rattle.omf_core.specs.Name.{same_name}
use Rattle.omf_model.specs.declared.fixup.Target.TheVariants as target
use Rattle.omf_model.specs.declared.symbols.Public.{Public}
use Rattle.omf_model.specs.Modules.{ModuleValue}
use Rattle.rom80_pattern.specs.declared.resolving.Resolved.{Resolved}
use Rattle.rom80_pattern.specs.Modules.{resolved_external}

-- the place of a public
abbrev pub place_of_public : Public → Resolved
place_of_public p = record { target = target.Segment p.segment; addend = p.offset }

-- the place of the first of these publics that has the name
abbrev pub declared_at : List Public → List ℕ → Option Resolved
declared_at publics name = option_map place_of_public (find (λ p. same_name p.name name) publics)

-- the word of an external
abbrev pub word_of_external : ℕ → Resolved
word_of_external index = record { target = target.External index; addend = 0 }

-- the index of the first of these names that is this one
abbrev pub index_in : List (List ℕ) → List ℕ → Option ℕ
index_in [] name = None
index_in (n ∷ ns) name = if same_name n name then Some 0 else option_map suc (index_in ns name)

-- what a table has for a name
abbrev pub meaning_in : List (List ℕ × Resolved) → List ℕ → Option Resolved
meaning_in meanings name = lookup (same_name name) meanings

-- a table has the places of these publics by their names, and the words of those of these externals that aren't declared
pub record AreNames (publics : List Public) (externals : List (List ℕ)) (meanings : List (List ℕ × Resolved)) : Type 0 where
  pub each : (name : List ℕ) → meaning_in meanings name ≡ option_or (declared_at publics name) (option_map word_of_external (index_in externals name))

-- the name has this meaning in the new table, and every other name what it had
pub record SetsName (name : List ℕ) (meaning : Resolved) (old new : List (List ℕ × Resolved)) : Type 0 where
  pub set : (other : List ℕ) → meaning_in new other ≡ (if same_name name other then Some meaning else meaning_in old other)

-- the name has this meaning in the new table if it had none
pub record AddsName (name : List ℕ) (meaning : Resolved) (old new : List (List ℕ × Resolved)) : Type 0 where
  pub added : (other : List ℕ) → meaning_in new other ≡ option_or (meaning_in old other) (if same_name name other then Some meaning else None)

-- the list has what each external of a module stands for, up to the greatest index that a fixup can have
pub record AreExternals (m : ModuleValue) (externals : List Resolved) : Type 0 where
  pub each : (index : ℕ) → index < length m.externals → index < 65536 → slice_get externals index ≡ Some (resolved_external m index)
