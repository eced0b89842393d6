-- Why the bytes of a file, from an address on, are no dump; memory may have run out in place of it. And dumps that were read.
-- (The names of the faults are this project's own.)
use Rattle.std.specs.Prelude.{◌≡◌, ℕ, ◌+◌, ◌<◌, ◌≤◌, List, [], length, map}
use Rattle.std.specs.List.{list_any}
use Rattle.image80.specs.Image.{PlacedBytes}
use Rattle.rom80.specs.declared.fault.RomFault.TheVariants.{PastMemory, Memory, EmptyFile, DumpsOverlap}
use Rattle.rom80.specs.{Rom.ShareAnAddress, Rom.is_covered, declared.fault.RomFault.RomFault}
use Rattle.plm80_console.specs.Journal.{FileValue, Journal}
use Rattle.plm80_objects.specs.Absolute.{AreDumps, chunks_from, dumps_of, has_byte}
use Rattle.plm80_objects.specs.{Read.AreRead, declared.absolute.RomFile.RomFile}

-- why they are none beside the dumps of these chunks
abbrev pub IsRefusedWith : List PlacedBytes → (first : ℕ) → (bytes : List ℕ) → RomFault → Type 0
IsRefusedWith chunks first bytes PastMemory = 65536 < first + length bytes
IsRefusedWith chunks first bytes EmptyFile = length bytes ≡ 0
IsRefusedWith chunks first bytes DumpsOverlap = (first + length bytes ≤ 65536) × ShareAnAddress chunks first (length bytes)
IsRefusedWith chunks first bytes Memory = Unit {0}

-- why they are none alone
abbrev pub IsRefused : (first : ℕ) → (bytes : List ℕ) → RomFault → Type 0
IsRefused = IsRefusedWith []

-- ---- dumps that were read

-- these are the chunks of the dumps that files have, and cover the dumps' addresses
pub record HaveDumps (roms : List RomFile) (files : List FileValue) (chunks : List PlacedBytes) : Type 0 where
  pub are_dumps : AreDumps (dumps_of roms files)
  pub chunks_are : chunks ≡ chunks_from (dumps_of roms files)
  pub covered : (address : ℕ) → is_covered chunks address ≡ list_any (has_byte address) (dumps_of roms files)

abbrev pub rom_paths : List RomFile → List (List ℕ)
rom_paths roms = map (λ (rom : RomFile). rom.path.now) roms

-- all of these files were read, and these are the chunks of their dumps
abbrev pub AreDumpsRead : (roms : List RomFile) → (old new : Journal) → (chunks : List PlacedBytes) → Type 0
AreDumpsRead roms = AreRead (HaveDumps roms) (rom_paths roms)
