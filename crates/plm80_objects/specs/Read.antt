-- Files that are read one after another, and what they have.
-- (That a command reads the files of its arguments in their order, each once, is this project's own.)
use Rattle.std.specs.Prelude.{◌≡◌, ℕ, List}
use Rattle.plm80_console.specs.Journal.{FileValue, Journal, and_read_files, paths_of}

-- the files of these paths were read, and this is what they have
pub record AreRead {X : Type 0} (Have : List FileValue → X → Type 0) (paths : List (List ℕ)) (old new : Journal) (read : X) : Type 0 where
  pub files : List FileValue
  pub paths_are : paths_of files ≡ paths
  pub have : Have files read
  pub journal : new ≡ and_read_files old files
