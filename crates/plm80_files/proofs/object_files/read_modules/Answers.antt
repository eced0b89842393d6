use Rattle.std.proofs.Common.{◌≡◌, [], ◌∷◌, refl}
use Rattle.omf_module.specs.{Fault.no_memory, Spelled.FaultsFile}
use Rattle.plm80_console.specs.{AnswerLaws.blamed_after, Journal.file_value}
use Rattle.plm80_files.specs.Wrong.{OfFirst, SpellsNoModules}
use Rattle.plm80_files.proofs.{FaultLemmas.no_modules, PieceLemmas.new_file, PieceLemmas.refused}
use Rattle.plm80_files.proofs.object_files.read_modules.Goals as goal

pub returns-in-Err-clause-fault : goal.returns-in-Err-clause-fault
returns-in-Err-clause-fault g c =
    let path = c.args.path.now in
    let read = c.in_ok-read_in_pieces.ensures.read in
    let feed = c.read_in_pieces.new.feed in
    let fault = c.in-Err.fault in
    let faults = refused FaultsFile no_memory fault feed.bytes read.0 feed.kept (λ f some. let e = c.in-Err.ensures.kept f some in (let same : fault ≡ f = cc in same))
    c.in-Err.ensures.fault (read.2 (new_file c.new-feed.result c.new-feed.ensures)) in
    blamed_after (g.C.Console.journal c.args.console.now) (g.C.Console.journal c.read_in_pieces.new.self) (g.C.Console.journal c.report.new.console)
    (file_value path read.0 ∷ []) (path ∷ []) refl read.1 (OfFirst SpellsNoModules)
    (no_modules c.one_file_reading.ensures.never_both read.0 fault faults) c.report.ensures
