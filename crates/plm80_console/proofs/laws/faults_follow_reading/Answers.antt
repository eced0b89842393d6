use Rattle.std.proofs.Common.{◌≡◌, ℕ, List, [], ◌∷◌, ◌++◌, append_assoc, refl, ◌∙◌, ap, sym}
use Rattle.std.proofs.lemmas.List.{map-append}
use Rattle.plm80_console.specs.Journal.{FileValue, Journal, and_read, and_read_files, and_reported, paths_of}
use Rattle.plm80_console.specs.{Journal.OnlyReports.read, Journal.OnlyReports.unread, JournalLaws.FaultsFollowReading}
use Rattle.plm80_console.proofs.laws.faults_follow_reading.Goals as goal

-- files behind files
read_behind : (old : Journal) (files further : List FileValue) → and_read_files (and_read_files old files) further ≡ and_read_files old (files ++ further)
read_behind old [] further = refl
read_behind old (file ∷ files) further = read_behind (and_read old file.path file.bytes) files further

-- their paths, and those of files that weren't read
paths_behind : (files further : List FileValue) (left rest : List (List ℕ))
    → paths_of files ++ ((paths_of further ++ left) ++ rest) ≡ paths_of (files ++ further) ++ (left ++ rest)
paths_behind files further left rest =
    ap (λ (ps : List (List ℕ)). paths_of files ++ ps) (append_assoc (paths_of further) left rest)
    ∙ sym (append_assoc (paths_of files) (paths_of further) (left ++ rest))
    ∙ ap (λ (ps : List (List ℕ)). ps ++ (left ++ rest)) (sym (map-append (λ (file : FileValue). file.path) files further))

follow : FaultsFollowReading
follow old between new files paths further rest are were_read (unread is) = read files (further ++ rest) are (is ∙ ap and_reported were_read)
follow old between new files paths further rest are were_read (read own left first is) =
    read (files ++ own) (left ++ rest)
    (are ∙ ap (λ (ps : List (List ℕ)). paths_of files ++ (ps ++ rest)) first ∙ paths_behind files own left rest)
    (is ∙ ap (λ (j : Journal). and_reported (and_read_files j own)) were_read ∙ ap and_reported (read_behind old files own))

pub returns : goal.returns
returns c = follow
