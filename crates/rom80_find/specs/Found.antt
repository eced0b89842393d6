-- What is found of modules in a dump, and the text of it. (The form of the lines is this project's own.)
use Rattle.std.specs.Prelude.{◌≡◌, ℕ, ◌<◌, nat_lt, Bool, true, false, not, List, [], ◌++◌, length, take, filter}
use Rattle.std.specs.List.{AllByRecursion, AllZip, concat, flat_map, list_any}
use Rattle.omf_model.specs.Modules.{ModuleValue}
use Rattle.rom80_find.specs.Dump.{DumpValue}
use Rattle.rom80_pattern.specs.Modules.{code_bytes}
use Rattle.rom80_find.specs.declared.words.Word.{Word}
use Rattle.rom80_pattern.specs.CodeBytes.{is_plain}
use Rattle.rom80_find.specs.Words.{AreAscending}
use Rattle.rom80_find.specs.Lies.{AreModulePlaces, AreModuleWords, MayBeListed}
use Rattle.rom80_find.specs.declared.lines.finding.Finding.{Finding}
use Rattle.rom80_find.specs.declared.lines.finding.Finding.TheVariants.{Short, Missing, There}
use Rattle.rom80_find.specs.Lines.{place_text, more_line, missing_line, short_line, count_line}

-- the text of a place: its lines, with the words that the module's targets can only have there, by ascending numbers
pub record IsPlaceText (dump : DumpValue) (m : ModuleValue) (address : ℕ) (text : List ℕ) : Type 0 where
  pub words : List Word
  pub are : AreModuleWords dump m address words
  pub listed : AllByRecursion (λ w. MayBeListed m w.target) words
  pub ascending : AreAscending words
  pub text_is : text ≡ place_text m address words

-- the text of a module's places: the texts of the first sixteen, and how many more there are
pub record IsPlacesText (dump : DumpValue) (m : ModuleValue) (places text : List ℕ) : Type 0 where
  pub texts : List (List ℕ)
  pub each : AllZip (IsPlaceText dump m) (take 16 places) texts
  pub text_is : text ≡ concat texts ++ more_line (length places)

-- a module with fewer than four bytes outside fixups isn't looked for
abbrev pub is_short : ModuleValue → Bool
is_short m = nat_lt (length (filter is_plain (code_bytes m))) 4

-- what is found of a module, and its text
pub data IsFound (dump : DumpValue) (m : ModuleValue) : Finding → List ℕ → Type 0 where
  short : is_short m ≡ true → IsFound dump m Short (short_line m.name)
  missing : is_short m ≡ false → AreModulePlaces dump m [] → IsFound dump m Missing (missing_line m.name)
  there : (places text : List ℕ) → is_short m ≡ false → AreModulePlaces dump m places → 0 < length places
      → IsPlacesText dump m places text → IsFound dump m There text

-- ---- the modules of an object file: the text of each, and whether none is missing

-- the module was looked for and has no place
abbrev pub is_missing : Finding → Bool
is_missing Short = false
is_missing Missing = true
is_missing There = false

pub record PrintsModules (dump : DumpValue) (modules : List ModuleValue) (are_there : Bool) (before after : List ℕ) : Type 0 where
  pub findings : List (Finding × List ℕ)
  pub each : AllZip (λ m f. IsFound dump m f.0 f.1) modules findings
  pub there_is : are_there ≡ not (list_any (λ f. is_missing f.0) findings)
  pub after_is : after ≡ before ++ flat_map (λ f. f.1) findings

-- ---- the modules of a library: the texts of those that have a place, and how many have none

-- the module has a place
abbrev pub has_place : Finding → Bool
has_place Short = false
has_place Missing = false
has_place There = true

pub record PrintsMembers (dump : DumpValue) (modules : List ModuleValue) (before after : List ℕ) : Type 0 where
  pub findings : List (Finding × List ℕ)
  pub each : AllZip (λ m f. IsFound dump m f.0 f.1) modules findings
  pub after_is : after ≡ before ++ (flat_map (λ f. f.1) (filter (λ f. has_place f.0) findings)
      ++ count_line (length (filter (λ f. not (has_place f.0)) findings)) (length modules))
