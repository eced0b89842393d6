-- What is wrong with dumps, object files and libraries to which there is no answer, and with what they spell.
use Rattle.std.specs.Prelude.{◌⊎◌, ℕ, List, [], ◌∷◌, ◌++◌}
use Rattle.omf_model.specs.Modules.{ModuleValue}
use Rattle.omf_module.specs.Spelled.{SpellsFile}
use Rattle.image80.specs.declared.range.Range.{Range}
use Rattle.link80.specs.{declared.linking.Linked.Linked, Selection.IsSelection}
use Rattle.link80_text.specs.Parts.{IsMade}
use Rattle.place80.specs.declared.options.Options.{Options}
use Rattle.plm80_console.specs.{Answer.AnswerValue, Journal.FileValue}
use Rattle.plm80_objects.specs.{declared.absolute.AbsoluteArguments.AbsoluteArguments, declared.absolute.RomFile.RomFile}
use Rattle.plm80_objects.specs.{declared.locate.LocateArguments.LocateArguments, Absolute.AreDumps, Absolute.AreRomsOf, Absolute.dumps_of}
use Rattle.plm80_objects.specs.Modules.{WritesLocated}

-- they don't spell one module
abbrev pub SpellsNoProgram : (bytes : List ℕ) → Type 0
SpellsNoProgram bytes = (program : ModuleValue) → SpellsFile bytes (program ∷ []) → ⊥

-- this holds of the bytes of one of these files
abbrev pub OfOne : (Wrong : List ℕ → Type 0) → List FileValue → Type 0
OfOne Wrong [] = ⊥
OfOne Wrong (file ∷ files) = Wrong file.bytes ⊎ OfOne Wrong files

-- no image of a program is written by these arguments and options, with this memory of a board
abbrev pub LocatesNone : LocateArguments → Options → (rom ram : List Range) → ModuleValue → Type 0
LocatesNone arguments options rom ram program = (answer : AnswerValue) → WritesLocated arguments options rom ram program answer → ⊥

-- nothing is linked of these modules and libraries
abbrev pub LinksNone : (roots : List ModuleValue) → (libraries : List (List ModuleValue)) → Type 0
LinksNone roots libraries = (made : Linked) → IsSelection roots libraries made.taken.items → IsMade roots libraries made → ⊥

-- whatever bytes the files behind these have, they are no dumps that can be one image
abbrev pub HaveNoDumps : List RomFile → List FileValue → Type 0
HaveNoDumps roms files = (others : List FileValue) → AreDumps (dumps_of roms (files ++ others)) → ⊥

-- the arguments write no dumps
abbrev pub WriteNoDumps : AbsoluteArguments → Type 0
WriteNoDumps arguments = (roms : List RomFile) → AreRomsOf arguments roms → ⊥
