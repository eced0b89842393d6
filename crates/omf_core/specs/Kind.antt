-- The type byte of each kind of record. (8080 Object Module Formats, record types.)
use Rattle.std.specs.Prelude.{ℕ}
use Rattle.omf_core.specs.declared.kind.RecordKind.{RecordKind}
use Rattle.omf_core.specs.declared.kind.RecordKind.TheVariants.{ModuleHeader, ModuleEnd, Content, LineNumbers, EndOfFile, Ancestor, LocalSymbols}
use Rattle.omf_core.specs.declared.kind.RecordKind.TheVariants.{PublicDeclarations, ExternalNames, ExternalReferences, Relocation, IntersegmentReferences}
use Rattle.omf_core.specs.declared.kind.RecordKind.TheVariants.{LibraryModuleLocations, LibraryModuleNames, LibraryDictionary, LibraryHeader, NamedCommons}

abbrev pub kind_byte : RecordKind → ℕ
kind_byte ModuleHeader = 0x02
kind_byte ModuleEnd = 0x04
kind_byte Content = 0x06
kind_byte LineNumbers = 0x08
kind_byte EndOfFile = 0x0E
kind_byte Ancestor = 0x10
kind_byte LocalSymbols = 0x12
kind_byte PublicDeclarations = 0x16
kind_byte ExternalNames = 0x18
kind_byte ExternalReferences = 0x20
kind_byte Relocation = 0x22
kind_byte IntersegmentReferences = 0x24
kind_byte LibraryModuleLocations = 0x26
kind_byte LibraryModuleNames = 0x28
kind_byte LibraryDictionary = 0x2A
kind_byte LibraryHeader = 0x2C
kind_byte NamedCommons = 0x2E
