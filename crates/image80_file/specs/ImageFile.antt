-- Images as object files: a file of one absolute module. What it doesn't hold of an image are the regions.
-- (8080 Object Module Formats: absolute segment, module, object file. That a module with externals, references or parts that
-- aren't absolute is no image, and the numbers of the faults, are this project's own.)
use Rattle.std.specs.Prelude.{◌≡◌, ℕ, ◌==◌, Bool, true, ◌&&◌, if◌then◌else◌, IsTrue, List, [], ◌∷◌, length, map, Option, Some, None, Result, Ok, Err}
use Rattle.std.specs.List.{list_all, AllByRecursion}
use Rattle.omf_core.specs.Name.{is_name}
use Rattle.omf_module.specs.declared.fault.Cause.{Cause}
use Rattle.omf_module.specs.declared.fault.Cause.TheVariants.{Memory as OutOfMemory}
use Rattle.omf_module.specs.declared.fault.ModuleFault.{ModuleFault}
use Rattle.omf_model.specs.declared.symbols.Public.{Public}
use Rattle.omf_model.specs.Contents.{ContentValue}
use Rattle.omf_model.specs.Segments.{absolute_id}
use Rattle.omf_model.specs.Modules.{ModuleValue}
use Rattle.omf_module.specs.Spelled.{SpellsFile, FaultsFile}
use Rattle.omf_module.specs.Writing.{file_bytes}
use Rattle.image80_file.specs.declared.image_fault.ImageFault.{ImageFault}
use Rattle.image80_file.specs.declared.image_fault.ImageFault.TheVariants.{Module, NotOneModule, NotAbsolute, NoStart, Memory}
use Rattle.image80.specs.Image.{PlacedBytes, Located, IsChunk}

-- an image without its regions: an absolute program
pub record AbsoluteProgram : Type 0 where
  pub name : List ℕ
  pub chunks : List PlacedBytes
  pub start : ℕ

abbrev pub without_regions : Located → AbsoluteProgram
without_regions image = record { name = image.name; chunks = image.chunks; start = image.start }

-- ---- written

-- the content of the absolute segment that a chunk is; nothing in it is a reference
abbrev pub chunk_content : PlacedBytes → ContentValue
chunk_content chunk = record { segment = absolute_id; offset = chunk.address; bytes = chunk.bytes; fixups = [] }

-- the module of an image with publics: its name, one content for each chunk, in order, and its start; it has no segments of its own
abbrev pub named_module : Located → List Public → ModuleValue
named_module image publics = record {
  name = image.name;
  segments = [];
  commons = [];
  publics = publics;
  externals = [];
  contents = map chunk_content image.chunks;
  start = Some (absolute_id, image.start);
}

-- and without
abbrev pub image_module : Located → ModuleValue
image_module image = named_module image []

-- the object file of an image
abbrev pub image_bytes : Located → List ℕ
image_bytes image = file_bytes (image_module image ∷ [])

-- ---- read

-- the content is absolute, and no part of it is a reference
abbrev pub is_absolute_content : ContentValue → Bool
is_absolute_content content = content.segment == absolute_id && length content.fixups == 0

-- the start, if there is one, is absolute
abbrev pub is_absolute_start : Option (ℕ × ℕ) → Bool
is_absolute_start None = true
is_absolute_start (Some place) = place.0 == absolute_id

-- nothing of the module waits for other modules or for a place
abbrev pub is_absolute : ModuleValue → Bool
is_absolute m = length m.externals == 0 && list_all is_absolute_content m.contents && is_absolute_start m.start

-- the chunk that a content of the absolute segment is
abbrev pub content_chunk : ContentValue → PlacedBytes
content_chunk content = record { address = content.offset; bytes = content.bytes }

abbrev pub program_from : ModuleValue → Option (ℕ × ℕ) → Result AbsoluteProgram ImageFault
program_from m None = Err NoStart
program_from m (Some place) = Ok (record { name = m.name; chunks = map content_chunk m.contents; start = place.1 })

-- the program of a module that is absolute and has a start
abbrev pub program_of : ModuleValue → Result AbsoluteProgram ImageFault
program_of m = if is_absolute m then program_from m m.start else Err NotAbsolute

abbrev pub program_of_one : List ModuleValue → Result AbsoluteProgram ImageFault
program_of_one [] = Err NotOneModule
program_of_one (m ∷ []) = program_of m
program_of_one (m ∷ other ∷ others) = Err NotOneModule

-- The bytes spell the program: they are an object file of one module, which is absolute and has a start.
pub record SpellsImage (bytes : List ℕ) (program : AbsoluteProgram) : Type 0 where
  pub modules : List ModuleValue
  pub file : SpellsFile bytes modules
  pub is : program_of_one modules ≡ Ok program

-- why they spell none: the first fault of the file, or what forbids its modules
pub data FaultsImage (bytes : List ℕ) : ImageFault → Type 0 where
  of_file : (fault : ModuleFault) → FaultsFile bytes fault → FaultsImage bytes (Module fault)
  of_modules : (modules : List ModuleValue) (fault : ImageFault) → SpellsFile bytes modules → program_of_one modules ≡ Err fault
      → FaultsImage bytes fault

-- ---- laws

-- What is written of an image spells it.
abbrev pub WrittenImageIsSpelled : Type 0
WrittenImageIsSpelled =
    (image : Located)
    → IsTrue (is_name image.name)
    → AllByRecursion IsChunk image.chunks
    → SpellsImage (image_bytes image) (without_regions image)

-- The module of an image is read as that image, whatever its publics are.
abbrev pub NamedModuleIsRead : Type 0
NamedModuleIsRead = (image : Located) (publics : List Public) → program_of (named_module image publics) ≡ Ok (without_regions image)

-- Bytes spell one image at most, or have one first fault, and never both.
abbrev pub OneImage : Type 0
OneImage = (bytes : List ℕ) (p q : AbsoluteProgram) → SpellsImage bytes p → SpellsImage bytes q → p ≡ q

abbrev pub OneImageFault : Type 0
OneImageFault = (bytes : List ℕ) (f g : ImageFault) → FaultsImage bytes f → FaultsImage bytes g → f ≡ g

abbrev pub NeverBothImage : Type 0
NeverBothImage = (bytes : List ℕ) (p : AbsoluteProgram) (f : ImageFault) → SpellsImage bytes p → FaultsImage bytes f → ⊥

-- ---- faults

-- the fault for a fault of the object file: running out of memory is `Memory`
abbrev pub of_cause : Cause → ModuleFault → ImageFault
of_cause OutOfMemory fault = Memory
of_cause cause fault = Module fault

abbrev pub of_module_fault : ModuleFault → ImageFault
of_module_fault fault = of_cause fault.cause fault

-- the number of a fault
abbrev pub image_fault_code : ImageFault → ℕ
image_fault_code (Module fault) = 1
image_fault_code NotOneModule = 2
image_fault_code NotAbsolute = 3
image_fault_code NoStart = 4
image_fault_code Memory = 5
