-- What becomes of a file that is replaced, and of a copy of the old one.
-- (When a copy is kept, and under which names, is this project's own.)
use Rattle.std.specs.Prelude.{◌≡◌, ◌⊎◌, ℕ, ◌==◌, Bool, if◌then◌else◌, List, ◌++◌, codes}
use Rattle.std.specs.Fmt.{decimal}
use Rattle.plm80_console.specs.Journal.{FileValue, Journal, and_copied, and_reported, and_unwritten, and_written, file_value}
use Rattle.plm80_console.specs.declared.new_file.NewFile.{NewFile}

abbrev pub new_file_value : NewFile → FileValue
new_file_value file = file_value file.path.now file.bytes.now

-- ---- a file that isn't brought to its place, which is reported

-- the file of this path was tried, and spoiled or not; nothing else was done
abbrev pub NotSettled : (path : List ℕ) → (old new : Journal) → Type 0
NotSettled path old new = (spoiled : Bool) × (new ≡ and_reported (and_unwritten old path spoiled))

-- ---- copies of old files

-- the paths under which a copy of a file may be kept, in their order: with a tilde, and then with a number behind it
abbrev pub kept_text : (path : List ℕ) → (number : ℕ) → List ℕ
kept_text path number = if number == 0 then path ++ codes "~" else path ++ (codes "~" ++ decimal number)

-- a copy of the old file was kept under one of its names, or none was
abbrev pub IsKept : (path : List ℕ) → (old new : Journal) → Type 0
IsKept path old new = (new ≡ old) ⊎ ((number : ℕ) × (new ≡ and_copied old (kept_text path number)))

-- it was replaced, and the copy, if there is one, was kept before
abbrev pub IsReplacedKeeping : (path bytes : List ℕ) → (old new : Journal) → Type 0
IsReplacedKeeping path bytes old new = (between : Journal) × IsKept path old between × (new ≡ and_written between path bytes)

-- it wasn't, which was reported, once; nothing else was done but that the copy may have been kept before
pub record GaveUpKeeping (path : List ℕ) (old new : Journal) : Type 0 where
  pub between : Journal
  pub kept : IsKept path old between
  pub fault : NotSettled path between new
