-- The public names of an image: those of its module, at the addresses where LOCATE puts them.
-- (8080 Object Module Formats, public declarations record; ISIS-II User's Guide, LOCATE without PURGE.)
use Rattle.std.specs.Prelude.{◌≡◌, ℕ, List, map}
use Rattle.std.specs.List.{flat_map}
use Rattle.omf_model.specs.declared.symbols.Public.{Public}
use Rattle.omf_model.specs.Segments.{absolute_id}
use Rattle.omf_model.specs.Modules.{ModuleValue}
use Rattle.omf_module.specs.Spelled.{SpellsFile}
use Rattle.place80.specs.declared.placed_segments.Placed.{Placed}
use Rattle.place80.specs.Layout.{place_among}

-- a public at its address, which is its offset in the absolute segment
abbrev pub absolute_public : List Placed → Public → Public
absolute_public segments public =
    record { name = public.name; segment = absolute_id; offset = place_among segments public.segment public.offset }

-- the publics of a module at their addresses
abbrev pub publics_at : List Placed → List Public → List Public
publics_at segments publics = map (absolute_public segments) publics

-- the bytes are an object file, and these are the publics of its modules
pub record HasPublics (bytes : List ℕ) (publics : List Public) : Type 0 where
  pub modules : List ModuleValue
  pub file : SpellsFile bytes modules
  pub are : publics ≡ flat_map (λ m. m.publics) modules
