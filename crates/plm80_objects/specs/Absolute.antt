-- What `absolute` writes: the image of dumps; and `extract`: bytes of an image.
-- (ISIS-II User's Guide: absolute object modules.)
use Rattle.std.specs.Prelude.{◌≡◌, ◌==◌, ◌<◌, ◌+◌, ℕ, Bool, true, if◌then◌else◌, All, IsTrue, List, [], ◌∷◌, ◌++◌, length, map}
use Rattle.std.specs.{Borrow.Bor, List.AllPairs, List.AllZip, List.after_first, List.flat_map}
use Rattle.omf_core.specs.Name.{is_name}
use Rattle.image80.specs.Image.{Located, PlacedBytes}
use Rattle.image80_file.specs.ImageFile.{SpellsImage, image_bytes, without_regions}
use Rattle.rom80.specs.Rom.{bytes_over, chunks_of, is_among, sum_line}
use Rattle.rom80_find.specs.Dump.{DumpValue}
use Rattle.plm80_console.specs.Answer.{AnswerValue, Gives, GivesUp, writes}
use Rattle.plm80_console.specs.{Journal.FileValue, Journal.Journal, NumberText.IsWordText, NumberText.word_value}
use Rattle.plm80_objects.specs.{declared.absolute.AbsoluteArguments.AbsoluteArguments, declared.absolute.RomFile.RomFile}
use Rattle.plm80_objects.specs.{declared.extract.Extent.Extent, declared.extract.ExtractArguments.ExtractArguments, Arguments.IsExtentOf}
use Rattle.plm80_objects.specs.{Compare.IsDump}

-- the image of a name, with these chunks and this start, goes to its path
pub record WritesImage (path name : List ℕ) (chunks : List PlacedBytes) (start : ℕ) (answer : AnswerValue) : Type 0 where
  pub image : Located
  pub name_is : image.name ≡ name
  pub chunks_are : image.chunks ≡ chunks
  pub start_is : image.start ≡ start
  pub answer_is : answer ≡ writes path (image_bytes image) []

-- an address in hexadecimal, an equals sign, and a path
pub record IsRomFile (text : List ℕ) (file : RomFile) : Type 0 where
  pub digits : List ℕ
  pub is_word : IsWordText digits
  pub first_is : file.first ≡ word_value digits
  pub text_is : text ≡ digits ++ 61 ∷ file.path.now

-- the first dump is of one file, from an address in hexadecimal on; the further ones are of the files that these texts name, in order
abbrev pub AreRomFiles : (path first : List ℕ) → (further : List (Bor (List ℕ))) → List RomFile → Type 0
AreRomFiles path first further [] = ⊥
AreRomFiles path first further (file ∷ files) =
    (file.path.now ≡ path) × (IsWordText first × (file.first ≡ word_value first)) × AllZip (λ text rom. IsRomFile text.now rom) further files

-- the dumps that files have, each from its address on
abbrev pub dumps_of : List RomFile → List FileValue → List DumpValue
dumps_of (rom ∷ roms) (file ∷ files) = record { first = rom.first; bytes = file.bytes } ∷ dumps_of roms files
dumps_of roms files = []

-- the dump has a byte at the address
abbrev pub has_byte : (address : ℕ) → DumpValue → Bool
has_byte address dump = is_among dump.first (length dump.bytes) address

-- two dumps have a byte at one address
abbrev pub Overlap : DumpValue → DumpValue → Type 0
Overlap dump other = (address : ℕ) × (has_byte address dump ≡ true) × (has_byte address other ≡ true)

-- each of these dumps has bytes and ends in memory, and no two overlap
pub record AreDumps (dumps : List DumpValue) : Type 0 where
  pub whole : All (λ dump. IsDump dump.first dump.bytes) dumps
  pub apart : AllPairs (λ dump other. Overlap dump other → ⊥) dumps

-- the chunks of dumps, one after another
abbrev pub chunks_from : List DumpValue → List PlacedBytes
chunks_from dumps = flat_map (λ dump. chunks_of dump.first dump.bytes) dumps

-- the files and their addresses are those that the arguments write
abbrev pub AreRomsOf : AbsoluteArguments → List RomFile → Type 0
AreRomsOf arguments roms = AreRomFiles arguments.bytes.now arguments.first.text.now arguments.further.items roms

-- the image of the dumps that the arguments write, which has a name and a start, goes to its path
pub record WritesDumps (arguments : AbsoluteArguments) (files : List FileValue) (answer : AnswerValue) : Type 0 where
  pub roms : List RomFile
  pub are_roms : AreRomsOf arguments roms
  pub named : IsTrue (is_name arguments.name.text.now)
  pub starts : IsWordText arguments.start.text.now
  pub are_dumps : AreDumps (dumps_of roms files)
  pub writes : WritesImage arguments.image.now arguments.name.text.now (chunks_from (dumps_of roms files)) (word_value arguments.start.text.now) answer

-- the path of the first dump, and those that stand behind the first equals sign of each further one's text
abbrev pub dump_paths : AbsoluteArguments → List (List ℕ)
dump_paths arguments = arguments.bytes.now ∷ map (λ text. after_first (λ byte. byte == 61) text.now) arguments.further.items

abbrev pub GivesDumps : AbsoluteArguments → (old new : Journal) → (status : ℕ) → Type 0
GivesDumps arguments = Gives (WritesDumps arguments) (dump_paths arguments)

abbrev pub GivesUpDumps : AbsoluteArguments → (old new : Journal) → Type 0
GivesUpDumps arguments = GivesUp (WritesDumps arguments) (dump_paths arguments)

-- ---- extract

-- the bytes of an image over a range, which doesn't go past FFFF, go to a file, and the line of their sum is printed if it is asked for
pub record ExtractsFile (arguments : ExtractArguments) (files : List FileValue) (answer : AnswerValue) : Type 0 where
  pub file : FileValue
  pub files_are : files ≡ file ∷ []
  pub image : Located
  pub contents : SpellsImage file.bytes (without_regions image)
  pub extent : Extent
  pub is_extent : IsExtentOf arguments extent
  pub in_memory : ¬ (65536 < extent.first + extent.length)
  pub answer_is : let bytes = bytes_over extent.fill image.chunks extent.first extent.length in
      answer ≡ writes arguments.out.now bytes (if arguments.sum then sum_line bytes else [])
