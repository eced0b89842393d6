-- Modules that lie in a dump with the bases that their linked module is located with, and the image of it.
-- (ISIS-II User's Guide: LINK lays the parts of CODE one after another, LOCATE gives segments bases and refuses those that overlap;
-- of two contents over a byte the later one stands.)
use Rattle.std.specs.Prelude.{◌≡◌, ℕ, ◌%◌, Bool, true, ◌&&◌, Some, List}
use Rattle.std.specs.List.{AllByRecursion, list_any, enumerate_from}
use Rattle.omf_model.specs.Modules.{ModuleValue}
use Rattle.omf_model.specs.Rules.{IsModule}
use Rattle.omf_model.specs.Place.{Bases}
use Rattle.omf_model.specs.ImageByte.{chunk_of, chunk_covers, image_byte}
use Rattle.image80.specs.Image.{Located, PlacedBytes, byte_at}
use Rattle.place80.specs.declared.options.Options.{Options}
use Rattle.place80.specs.Locating.{HoldsProgram}
use Rattle.link80.specs.Linked.{linked}
use Rattle.laws80.specs.Built.{linked_bases, HoldsModules, HasNoFault}
use Rattle.rom80_find.specs.Dump.{DumpValue, dump_byte}
use Rattle.rom80_find.specs.Chunks.{is_code}
use Rattle.rom80_find.specs.LinkLaws.{LiesInLink}

-- a content in CODE of the module with this number covers the address, if the link's modules have these bases
abbrev pub covers_in_code : Bases → List ModuleValue → (address : ℕ) → ℕ × ModuleValue → Bool
covers_in_code bases modules address e =
    list_any (λ c. is_code c && chunk_covers address (chunk_of bases modules e c)) e.1.contents

-- one of the modules has such a content
abbrev pub is_in_code : Bases → List ModuleValue → (address : ℕ) → Bool
is_in_code bases modules address = list_any (covers_in_code bases modules address) (enumerate_from 0 modules)

-- Nothing forbids to link the modules, nor to locate what they are linked into with these options; and each of them lies in the
-- dump with bases that go with those that it is located with: its part's place, its segments' places and its externals' words.
pub record AreRebuilt (dump : DumpValue) (options : Options) (name : List ℕ) (modules : List ModuleValue) : Type 0 where
  pub modules_are : AllByRecursion IsModule modules
  pub no_fault : HasNoFault options name modules
  pub lie : AllByRecursion (LiesInLink dump (linked_bases options name modules) modules) (enumerate_from 0 modules)

-- At each address that a content in CODE covers the dump has the byte that the modules give.
abbrev pub BytesAreTheDumps : Type 0
BytesAreTheDumps =
    (dump : DumpValue) (options : Options) (name : List ℕ) (modules : List ModuleValue) (address : ℕ)
    → AreRebuilt dump options name modules
    → is_in_code (linked_bases options name modules) modules address ≡ true
    → dump_byte dump address ≡ Some (image_byte (linked_bases options name modules) modules address % 256)

-- It is the byte of the chunks that `locate` answers of the linked module.
abbrev pub LocatedImageIsTheDumps : Type 0
LocatedImageIsTheDumps =
    (dump : DumpValue) (options : Options) (name : List ℕ) (modules : List ModuleValue) (chunks : List PlacedBytes)
    (address : ℕ)
    → AreRebuilt dump options name modules
    → HoldsProgram options (linked name modules) chunks
    → is_in_code (linked_bases options name modules) modules address ≡ true
    → dump_byte dump address ≡ Some (byte_at chunks address % 256)

-- And that of the image that `build` answers of the modules.
abbrev pub BuiltImageIsTheDumps : Type 0
BuiltImageIsTheDumps =
    (dump : DumpValue) (options : Options) (name : List ℕ) (modules : List ModuleValue) (image : Located) (address : ℕ)
    → AreRebuilt dump options name modules
    → HoldsModules options name modules image
    → is_in_code (linked_bases options name modules) modules address ≡ true
    → dump_byte dump address ≡ Some (byte_at image.chunks address % 256)
