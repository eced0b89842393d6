-- What a command does in the end, as a value: the files that it writes, the lines that it prints, and its exit status.
-- (The order, files before lines but for those of a run, and the statuses are this project's own.)
use Rattle.std.specs.Prelude.{◌≡◌, ◌⊎◌, ℕ, Bool, List, [], ◌∷◌, ◌++◌}
use Rattle.plm80_console.specs.Journal.{FileValue, Journal, OnlyReports, StopsPrinting, and_blamed, and_printed, and_read_files, and_reported, and_unwritten, and_written, file_value, paths_of}
use Rattle.plm80_console.specs.declared.answer.WrittenFiles.TheVariants.{Nothing, One, Both}
use Rattle.plm80_console.specs.declared.answer.{WrittenFile.WrittenFile, WrittenFiles.WrittenFiles}

-- lines that are printed first, which runs and traces alone have; the files; and the lines that are printed behind them
pub record AnswerValue : Type 0 where
  pub first : List ℕ
  pub files : List FileValue
  pub lines : List ℕ
  pub status : ℕ

abbrev pub file_of : WrittenFile → FileValue
file_of file = file_value file.path.now file.bytes.items

-- the files in the order in which they are written
abbrev pub files_of : WrittenFiles → List FileValue
files_of Nothing = []
files_of (One file) = file_of file ∷ []
files_of (Both first second) = file_of first ∷ file_of second ∷ []

-- lines are printed, and no file is written
abbrev pub prints : (lines : List ℕ) → (status : ℕ) → AnswerValue
prints lines status = record { first = []; files = []; lines = lines; status = status }

-- a file is written, and then lines are printed
abbrev pub writes : (path bytes lines : List ℕ) → AnswerValue
writes path bytes lines = record { first = []; files = file_value path bytes ∷ []; lines = lines; status = 0 }

-- the same lines and status, behind a file
abbrev pub behind_file : (path bytes : List ℕ) → AnswerValue → AnswerValue
behind_file path bytes answer = record answer { files = file_value path bytes ∷ [] }

-- two files are written
abbrev pub writes_both : (first second : FileValue) → AnswerValue
writes_both first second = record { first = []; files = first ∷ second ∷ []; lines = []; status = 0 }

-- ---- what becomes of an answer

-- files are written, one after another
abbrev pub and_files : Journal → List FileValue → Journal
and_files journal [] = journal
and_files journal (file ∷ files) = and_files (and_written journal file.path file.bytes) files

-- its files are written and its lines are printed, those in front before the files and the others behind them; nothing else is done
abbrev pub and_given : Journal → AnswerValue → Journal
and_given journal answer = and_printed (and_files (and_printed journal answer.first) answer.files) answer.lines

pub record IsGiven (answer : AnswerValue) (old new : Journal) (status : ℕ) : Type 0 where
  pub journal : new ≡ and_given old answer
  pub status_is : status ≡ answer.status

-- A fault was reported, once, since one of these files couldn't be written: it was tried behind some of the others, which were written, in
-- their order or from the last one on; no further one was tried.
pub record StopsWriting (files : List FileValue) (old new : Journal) : Type 0 where
  pub done : List FileValue
  pub failed : FileValue
  pub rest : List FileValue
  pub are : (files ≡ done ++ failed ∷ rest) ⊎ (files ≡ rest ++ failed ∷ done)
  pub spoiled : Bool
  pub journal : new ≡ and_reported (and_unwritten (and_files old done) failed.path spoiled)

-- An answer was given in part, and then a fault was reported, once: as the lines in front were printed, as the files were written, or as
-- the lines behind them were printed. What was printed is a front part of its lines, and nothing else was done.
pub data GaveUp (answer : AnswerValue) (old new : Journal) : Type 0 where
  starting : StopsPrinting answer.first old new → GaveUp answer old new
  writing : StopsWriting answer.files (and_printed old answer.first) new → GaveUp answer old new
  printing : StopsPrinting answer.lines (and_files (and_printed old answer.first) answer.files) new → GaveUp answer old new

-- an answer of these was given
pub record IsAnswered (Answers : AnswerValue → Type 0) (old new : Journal) (status : ℕ) : Type 0 where
  pub answer : AnswerValue
  pub answers : Answers answer
  pub given : IsGiven answer old new status

-- one of them was given up, or there was none, which was reported
pub data IsGivenUp (Answers : AnswerValue → Type 0) (old new : Journal) : Type 0 where
  before : new ≡ and_reported old → IsGivenUp Answers old new
  within : (answer : AnswerValue) → Answers answer → GaveUp answer old new → IsGivenUp Answers old new

-- A command is done: the files of its arguments were read, in their order; its answer, which is one to these files, was given; nothing else
-- was done, and no fault was reported.
pub record Gives (Answers : List FileValue → AnswerValue → Type 0) (paths : List (List ℕ)) (old new : Journal) (status : ℕ) : Type 0 where
  pub files : List FileValue
  pub paths_are : paths_of files ≡ paths
  pub answer : AnswerValue
  pub answers : Answers files answer
  pub given : IsGiven answer (and_read_files old files) new status

-- With the bytes of these files there is no answer to the files of these paths, whatever bytes the others have.
abbrev pub NoAnswer : (Answers : List FileValue → AnswerValue → Type 0) → (paths : List (List ℕ)) → List FileValue → Type 0
NoAnswer Answers paths files = (others : List FileValue) (answer : AnswerValue) → paths_of (files ++ others) ≡ paths → Answers (files ++ others) answer → ⊥

-- A command gave up, which was reported: as it read the files of its arguments, or before it had an answer to them, and arguments or files
-- were blamed only if there is no answer to them; or they were read, in their order, and it gave up as it gave its answer to them.
pub data GivesUp (Answers : List FileValue → AnswerValue → Type 0) (paths : List (List ℕ)) (old new : Journal) : Type 0 where
  before : OnlyReports paths old new → GivesUp Answers paths old new
  unanswered : (files : List FileValue) (rest : List (List ℕ)) → paths ≡ paths_of files ++ rest → NoAnswer Answers paths files
      → new ≡ and_blamed (and_read_files old files) → GivesUp Answers paths old new
  within : (files : List FileValue) (answer : AnswerValue) → paths_of files ≡ paths → Answers files answer
      → GaveUp answer (and_read_files old files) new → GivesUp Answers paths old new
