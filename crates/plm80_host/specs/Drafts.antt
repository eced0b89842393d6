-- How a new file comes into its place.
use Rattle.std.specs.Prelude.{◌≡◌, ◌⊎◌, ℕ, ◌==◌, Bool, ◌&&◌, ◌||◌, not, is_none, if◌then◌else◌, IfSome, List, ◌++◌, length, take, codes, string_bytes}
use Rattle.std.specs.{Fmt.decimal, Str.bytes_eq}
use Rattle.plm80_console.specs.{Journal.Journal, Journal.and_written, Replaced.NotSettled, declared.new_file.NewFile.NewFile}
use Rattle.plm80_host.specs.declared.replacing.Draft.{Draft}

-- a path that names no file: none at all, or a hyphen alone
abbrev pub is_no_path : (path : List ℕ) → Bool
is_no_path path = length path == 0 || bytes_eq path (codes "-")

-- it is written in its place, where it may fail as it is written
abbrev pub is_in_place : Draft → Bool
is_in_place draft = is_none draft.beside

-- both with the one first that is written in place, if only one is; else in the order in which they were given
abbrev pub in_order : (first second : Draft) → Draft × Draft
in_order first second = if is_in_place second && not (is_in_place first) then (second, first) else (first, second)

-- a path or a beginning of it
abbrev pub IsBeginning : (path beginning : List ℕ) → Type 0
IsBeginning path beginning = (beginning ≡ path) ⊎ ((n : ℕ) × (beginning ≡ take n path))

-- a name that begins as a path does
pub record IsNamed (path name : List ℕ) : Type 0 where
  pub beginning : List ℕ
  pub number : ℕ
  pub begins : IsBeginning path beginning
  pub is : name ≡ beginning ++ (codes ".new" ++ decimal number)

-- the draft of this file and of no other; it is in the file of such a name, or it is written in place
pub record IsDraftOf (file : NewFile) (draft : Draft) : Type 0 where
  pub file_is : draft.file ≡ file
  pub named : IfSome draft.beside (λ beside. IsNamed file.path.now (string_bytes beside))

-- the same, with the name
pub record IsDraftIn (file : NewFile) (name : List ℕ) (draft : Draft) : Type 0 where
  pub file_is : draft.file ≡ file
  pub named : IfSome draft.beside (λ beside. string_bytes beside ≡ name)

-- ---- drafts that aren't brought to their places, which is reported

-- the first of two was not, and nothing was written; or the second was not, and the first was written
abbrev pub NotBothSettled : (first second : NewFile) → (old new : Journal) → Type 0
NotBothSettled first second old new =
    NotSettled first.path.now old new
    ⊎ ((between : Journal) × NotSettled second.path.now old between × (new ≡ and_written between first.path.now first.bytes.now))
