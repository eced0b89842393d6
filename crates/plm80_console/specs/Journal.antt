-- What a run did with the world outside: with files, standard input, standard output and standard error.
-- (Which of it a command owes is this project's own.)
use Rattle.std.specs.Prelude.{◌≡◌, ℕ, ◌+◌, Bool, List, [], ◌∷◌, ◌++◌, Option, IfSome, length, map, take}

-- a file: its path, and all of its bytes
pub record FileValue : Type 0 where
  pub path : List ℕ
  pub bytes : List ℕ

-- the file of this path, with these bytes
abbrev pub file_value : (path bytes : List ℕ) → FileValue
file_value path bytes = record { path = path; bytes = bytes }

abbrev pub paths_of : List FileValue → List (List ℕ)
paths_of files = map (λ (file : FileValue). file.path) files

-- Files that were read whole, in order; all bytes of standard input, if they were read; files that were written whole, in order, each with
-- how many bytes had been printed before it; bytes that were printed on standard output; how many faults were printed on standard error
-- that blame arguments or files, each of which is there as a contract says, and how many others; the paths of files that were to be
-- written and weren't, each with whether it may have neither its old bytes nor its new ones, since writing it in place failed; and the
-- paths under which copies of files were kept, each with how many files had been written before it.
pub record Journal : Type 0 where
  pub read : List FileValue
  pub input : List ℕ
  pub written : List (FileValue × ℕ)
  pub printed : List ℕ
  pub blamed : ℕ
  pub reported : ℕ
  pub unwritten : List (List ℕ × Bool)
  pub copies : List (List ℕ × ℕ)

abbrev pub nothing_done : Journal
nothing_done = record { read = []; input = []; written = []; printed = []; blamed = 0; reported = 0; unwritten = []; copies = [] }

-- ---- one thing more

abbrev pub and_read : Journal → (path bytes : List ℕ) → Journal
and_read journal path bytes = record journal { read = journal.read ++ file_value path bytes ∷ [] }

abbrev pub and_input : Journal → (bytes : List ℕ) → Journal
and_input journal bytes = record journal { input = journal.input ++ bytes }

abbrev pub and_written : Journal → (path bytes : List ℕ) → Journal
and_written journal path bytes = record journal { written = journal.written ++ (file_value path bytes, length journal.printed) ∷ [] }

abbrev pub and_printed : Journal → (bytes : List ℕ) → Journal
and_printed journal bytes = record journal { printed = journal.printed ++ bytes }

abbrev pub and_reported : Journal → Journal
and_reported journal = record journal { reported = journal.reported + 1 }

abbrev pub and_blamed : Journal → Journal
and_blamed journal = record journal { blamed = journal.blamed + 1 }

abbrev pub and_unwritten : Journal → (path : List ℕ) → (spoiled : Bool) → Journal
and_unwritten journal path spoiled = record journal { unwritten = journal.unwritten ++ (path, spoiled) ∷ [] }

abbrev pub and_copied : Journal → (path : List ℕ) → Journal
and_copied journal path = record journal { copies = journal.copies ++ (path, length journal.written) ∷ [] }

-- what was written to an output was printed: the bytes that are known of it
abbrev pub IsTakenBack : (written : Option (List ℕ)) → (old new : Journal) → Type 0
IsTakenBack written old new = (bytes : List ℕ) × (new ≡ and_printed old bytes) × IfSome written (λ known. known ≡ bytes)

-- files that were read, one after another
abbrev pub and_read_files : Journal → List FileValue → Journal
and_read_files journal [] = journal
and_read_files journal (file ∷ files) = and_read_files (and_read journal file.path file.bytes) files

-- ---- faults

-- A fault was reported, once: before a file was read, or behind the first of the files of these paths, which were read in their order.
-- Nothing else was done: nothing was printed, and no file was written or tried.
pub data OnlyReports (paths : List (List ℕ)) (old new : Journal) : Type 0 where
  unread : new ≡ and_reported old → OnlyReports paths old new
  read : (files : List FileValue) (rest : List (List ℕ)) → paths ≡ paths_of files ++ rest
      → new ≡ and_reported (and_read_files old files) → OnlyReports paths old new

-- A fault was reported, once. It blames arguments or files only if this holds of them. Nothing else was done.
pub data Blames (Wrong : Type 0) (old new : Journal) : Type 0 where
  other : new ≡ and_reported old → Blames Wrong old new
  wrong : Wrong → new ≡ and_blamed old → Blames Wrong old new

-- The same before a file was read, or behind the first of the files of these paths, which were read in their order.
pub data OnlyBlames (Wrong : List FileValue → Type 0) (paths : List (List ℕ)) (old new : Journal) : Type 0 where
  other : OnlyReports paths old new → OnlyBlames Wrong paths old new
  wrong : (files : List FileValue) (rest : List (List ℕ)) → paths ≡ paths_of files ++ rest → Wrong files
      → new ≡ and_blamed (and_read_files old files) → OnlyBlames Wrong paths old new

-- A fault was reported, once, behind a front part of these bytes, which was printed.
abbrev pub StopsPrinting : (bytes : List ℕ) → (old new : Journal) → Type 0
StopsPrinting bytes old new = (count : ℕ) × (new ≡ and_reported (and_printed old (take count bytes)))
