use Rattle.std.proofs.Common.{ℕ, List, [], ◌∷◌, Result, Ok, Err, IfErr}
use Rattle.plm80_console.specs.{Answer.StopsWriting, Journal.Journal, Journal.file_value, Replaced.NotSettled}
use Rattle.plm80_console.proofs.JournalLemmas.{one_unwritten}
use Rattle.plm80_console.proofs.console.Console.write_files.Goals as goal

-- the only file wasn't written
unwritten : {A E : Type 0} (r : Result A E) (path bytes : List ℕ) (old new : Journal) → IfErr r (λ _. NotSettled path old new)
    → IfErr r (λ _. StopsWriting (file_value path bytes ∷ []) old new)
unwritten (Ok x) path bytes old new fault = tt
unwritten (Err e) path bytes old new fault = one_unwritten path bytes old new fault

pub returns-in-One-clause-fault : goal.returns-in-One-clause-fault
returns-in-One-clause-fault g c =
    rw c.in-One.is
    (unwritten c.replace.result c.in-One.file.path.now c.in-One.file.bytes.items (g.Self.Console.journal c.args.self.now)
    (g.Self.Console.journal c.replace.new.self) c.replace.ensures.fault)
