-- The places of a module's pattern are those of the module.
use Rattle.std.specs.Prelude.{◌↔◌, ℕ, ◌<◌, List, length, IsTrue}
use Rattle.std.specs.List.{AllByRecursion}
use Rattle.omf_model.specs.Modules.{ModuleValue}
use Rattle.omf_model.specs.Rules.{is_sound}
use Rattle.rom80_find.specs.Dump.{DumpValue}
use Rattle.rom80_pattern.specs.Modules.{code_bytes, code_length}
use Rattle.rom80_find.specs.declared.words.Word.{Word}
use Rattle.rom80_find.specs.Places.{LiesAt, AreBelow, ArePlaces}
use Rattle.rom80_find.specs.Words.{AreOnlyWords, IsOfATarget}
use Rattle.rom80_find.specs.Lies.{HasModule, AreModulePlaces, AreModuleWords, MayBeListed}

-- there are values with which the code lies at an address, and it has a byte, exactly if there are bases with which the module
-- lies there
abbrev pub PatternsLieAsModules : Type 0
PatternsLieAsModules =
    (dump : DumpValue) (m : ModuleValue) (address : ℕ)
    → IsTrue (is_sound m) → code_length m < 65536 → address < 65536
    → (0 < length (code_bytes m)) × LiesAt dump (code_bytes m) address ↔ HasModule dump m address

-- the addresses at which the code lies are those at which the module lies
abbrev pub PatternPlacesAreModulePlaces : Type 0
PatternPlacesAreModulePlaces =
    (dump : DumpValue) (m : ModuleValue) (places : List ℕ)
    → IsTrue (is_sound m) → code_length m < 65536 → 0 < length (code_bytes m)
    → ArePlaces dump (code_bytes m) 65536 places → AreModulePlaces dump m places

-- a value that can be one word only is a base, or the word of a name, that can be that one only
abbrev pub PatternWordsAreModuleWords : Type 0
PatternWordsAreModuleWords =
    (dump : DumpValue) (m : ModuleValue) (address count : ℕ) (words : List Word)
    → IsTrue (is_sound m) → code_length m < 65536 → 0 < length (code_bytes m) → address < 65536
    → AreBelow count (code_bytes m) → AreOnlyWords dump (code_bytes m) address count words
    → AreModuleWords dump m address words

-- a value that can be one word only is that of a target that may be listed
abbrev pub PatternWordsMayBeListed : Type 0
PatternWordsMayBeListed =
    (dump : DumpValue) (m : ModuleValue) (address count : ℕ) (words : List Word)
    → IsTrue (is_sound m) → AreOnlyWords dump (code_bytes m) address count words → AllByRecursion IsOfATarget words
    → AllByRecursion (λ w. MayBeListed m w.target) words
