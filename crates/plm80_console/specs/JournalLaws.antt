-- What holds of journals between which files were read. (It follows from what reading adds to a journal.)
use Rattle.std.specs.Prelude.{◌≡◌, ℕ, List, ◌++◌}
use Rattle.plm80_console.specs.Journal.{FileValue, Journal, OnlyReports, and_read_files, paths_of}

-- What only reads some further files and reports a fault, behind files that were read, only reads and reports since before them.
abbrev pub FaultsFollowReading : Type 0
FaultsFollowReading =
    (old between new : Journal) (files : List FileValue) (paths further rest : List (List ℕ)) → paths ≡ paths_of files ++ (further ++ rest)
    → between ≡ and_read_files old files → OnlyReports further between new → OnlyReports paths old new
