use Rattle.std.proofs.Common.{[], ◌∷◌, refl}
use Rattle.plm80_console.specs.{AnswerLaws.blamed_after, Journal.file_value}
use Rattle.plm80_files.specs.Wrong.{OfFirst, SpellsNeither}
use Rattle.plm80_files.proofs.FaultLemmas.{neither}
use Rattle.plm80_files.proofs.link_feed.read_link_file.Goals as goal

pub returns-in-Err-clause-fault : goal.returns-in-Err-clause-fault
returns-in-Err-clause-fault g c =
    let path = c.args.path.now in
    let read = c.in_ok-read_in_pieces.ensures.read in
    blamed_after (g.C.Console.journal c.args.console.now) (g.C.Console.journal c.read_in_pieces.new.self) (g.C.Console.journal c.report.new.console)
    (file_value path read.0 ∷ []) (path ∷ []) refl read.1 (OfFirst SpellsNeither)
    (neither c.one_file_reading.ensures.never_both c.one_library.ensures.never_both read.0 c.in-Err.fault (c.in-Err.ensures.fault read.0 (read.2 refl)))
    c.report.ensures
