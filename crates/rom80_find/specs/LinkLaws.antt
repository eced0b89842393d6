-- A link whose modules all lie in a dump, where its bases put them, has the dump's bytes.
-- (ISIS-II User's Guide: LINK lays the parts of CODE one after another, LOCATE gives segments bases; of two contents over a byte
-- the later one stands.)
use Rattle.std.specs.Prelude.{◌≡◌, ℕ, ◌%◌, ◌<◌, true, Some, List, [], ◌∷◌, length, IsTrue}
use Rattle.std.specs.List.{AllByRecursion, enumerate_from}
use Rattle.omf_model.specs.declared.fixup.Target.TheVariants as target
use Rattle.omf_model.specs.Segments.{has_segment}
use Rattle.omf_model.specs.Modules.{ModuleValue}
use Rattle.omf_model.specs.Rules.{is_sound}
use Rattle.omf_model.specs.Place.{Bases, place_in}
use Rattle.omf_model.specs.ImageByte.{target_word, chunk_of, chunk_covers, chunks_of, image_byte}
use Rattle.rom80_find.specs.Dump.{DumpValue, dump_byte}
use Rattle.rom80_find.specs.Chunks.{is_code, is_covered}
use Rattle.rom80_find.specs.Lies.{LiesByBases}

-- Bases of a module alone that go with those of a link: they give it its part's place, its segments' places, and its externals'
-- words there.
pub record GoWith (bases : Bases) (modules : List ModuleValue) (number : ℕ) (m : ModuleValue) (own : Bases) : Type 0 where
  pub segments : (id : ℕ) → has_segment m.commons id ≡ true → place_in own (m ∷ []) 0 m id 0 ≡ place_in bases modules number m id 0
  pub externals : (index : ℕ) → index < length m.externals
      → target_word own (m ∷ []) (0, m) (target.External index) ≡ target_word bases modules (number, m) (target.External index)

-- the module with this number lies in the dump with such bases
pub record LiesInLink (dump : DumpValue) (bases : Bases) (modules : List ModuleValue) (e : ℕ × ModuleValue) : Type 0 where
  pub sound : IsTrue (is_sound e.1)
  pub address : ℕ
  pub own : Bases
  pub lies : LiesByBases dump e.1 address own
  pub with_link : GoWith bases modules e.0 e.1 own

-- of a module's contents only ones in CODE cover the address
abbrev pub OnlyCodeCovers : Bases → List ModuleValue → (address : ℕ) → ℕ × ModuleValue → Type 0
OnlyCodeCovers bases modules address e =
    AllByRecursion (λ c. chunk_covers address (chunk_of bases modules e c) ≡ true → is_code c ≡ true) e.1.contents

-- If all modules of a link lie in the dump so, the dump has the byte that LINK and LOCATE give each address that contents cover, all of them in
-- CODE.
abbrev pub LinkHasTheBytes : Type 0
LinkHasTheBytes =
    (dump : DumpValue) (bases : Bases) (modules : List ModuleValue) (address : ℕ)
    → AllByRecursion (LiesInLink dump bases modules) (enumerate_from 0 modules)
    → AllByRecursion (OnlyCodeCovers bases modules address) (enumerate_from 0 modules)
    → is_covered (chunks_of bases modules) address ≡ true
    → dump_byte dump address ≡ Some (image_byte bases modules address % 256)
