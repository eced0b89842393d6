-- What the files that `link` takes are, by their first byte.
use Rattle.std.specs.Prelude.{◌≡◌, ℕ, Bool, true, false, ◌==◌, List, [], ◌∷◌}
use Rattle.omf_core.specs.{Kind.kind_byte, declared.kind.RecordKind.TheVariants.LibraryHeader}
use Rattle.omf_model.specs.Modules.{ModuleValue}
use Rattle.omf_module.specs.{Reading.OrNoMemory as OrNoModuleMemory, Spelled.SpellsFile, Spelled.FaultsFile}
use Rattle.omf_library.specs.{Fault.OrNoMemory as OrNoLibraryMemory, Spelled.SpellsLibrary, Spelled.FaultsLibrary}
use Rattle.plm80_console.specs.{Journal.Journal, Journal.and_read, Pieces.HasTakenFile, Pieces.HasTakenLibrary}
use Rattle.plm80_files.specs.declared.{link_feed.LinkFeed.LinkFeed, link_feed.LinkFile.LinkFile, file_fault.FileFault.FileFault}
use Rattle.plm80_files.specs.declared.link_feed.LinkFeed.TheVariants as feed
use Rattle.plm80_files.specs.declared.link_feed.LinkFile.TheVariants as file
use Rattle.plm80_files.specs.declared.file_fault.FileFault.TheVariants as fault

-- The first byte of a file says what it is: a library begins with the kind of its header, which no object file begins with.
-- (8080 Object Module Formats: library header record.)
abbrev pub begins_library : List ℕ → Bool
begins_library [] = false
begins_library (byte ∷ bytes) = byte == kind_byte LibraryHeader

-- a byte has come, and says which of both it is
pub record HasBegun (is_library : Bool) (bytes : List ℕ) : Type 0 where
  pub first : ℕ
  pub rest : List ℕ
  pub is : bytes ≡ first ∷ rest
  pub kind : (first == kind_byte LibraryHeader) ≡ is_library

-- an object file or a library, which is known once a byte has come
abbrev pub HasTakenEither : LinkFeed → List ℕ → Type 0
HasTakenEither (feed.Empty alloc) bytes = bytes ≡ []
HasTakenEither (feed.ObjectFile f) bytes = HasTakenFile f bytes × HasBegun false bytes
HasTakenEither (feed.Library f) bytes = HasTakenLibrary f bytes × HasBegun true bytes

-- what a file is by its first byte: the modules of an object file, or a library
abbrev pub SpellsEither : List ℕ → LinkFile → Type 0
SpellsEither bytes (file.Modules ms) = SpellsFile bytes ms.items × (begins_library bytes ≡ false)
SpellsEither bytes (file.Library ms) = SpellsLibrary bytes ms × (begins_library bytes ≡ true)

-- why bytes aren't what their first byte says
abbrev pub FaultsEither : List ℕ → FileFault → Type 0
FaultsEither bytes (fault.Module f) = OrNoModuleMemory (FaultsFile bytes) f × (begins_library bytes ≡ false)
FaultsEither bytes (fault.Library f) = OrNoLibraryMemory (FaultsLibrary bytes) f × (begins_library bytes ≡ true)

-- the file of a path was read, and this is what it is
abbrev pub IsLinkFileRead : (path : List ℕ) → (old new : Journal) → LinkFile → Type 0
IsLinkFileRead path old new file = (bytes : List ℕ) × (new ≡ and_read old path bytes) × SpellsEither bytes file

-- it was read, and these are its modules
abbrev pub AreModulesRead : (path : List ℕ) → (old new : Journal) → List ModuleValue → Type 0
AreModulesRead path old new modules = (bytes : List ℕ) × (new ≡ and_read old path bytes) × SpellsFile bytes modules
