-- What a note adds to a journal.
use Rattle.plm80_console.specs.Journal.{Journal, and_blamed, and_copied, and_input, and_printed, and_read, and_reported, and_unwritten, and_written}
use Rattle.plm80_host.specs.declared.notes.Note.{Note}
use Rattle.plm80_host.specs.declared.notes.Note.TheVariants as note

abbrev pub noted : Journal → Note → Journal
noted journal (note.Read path bytes) = and_read journal path.now bytes.now
noted journal (note.ReadPieces path pieces) = and_read journal path.now pieces.now.journal.printed
noted journal (note.Input bytes) = and_input journal bytes.now
noted journal (note.Written path bytes) = and_written journal path.now bytes.now
noted journal (note.Piece bytes) = and_printed journal bytes.now
noted journal (note.Printed pieces) = and_printed journal pieces.now.journal.printed
noted journal note.Reported = and_reported journal
noted journal note.Blamed = and_blamed journal
noted journal (note.Unwritten path spoiled) = and_unwritten journal path.now spoiled
noted journal (note.Copied path) = and_copied journal path.now
