use Rattle.std.proofs.Common.{◌≡◌, ℕ, List, [], ◌∷◌, Result, Ok, Err, IfErr, refl, ◌∙◌, ap}
use Rattle.plm80_console.specs.{Journal.Journal, Journal.OnlyReports, Journal.OnlyReports.read, Journal.and_read, Journal.and_reported, Journal.file_value}
use Rattle.plm80_names.proofs.named_files.ProgramTexts.read.Goals as goal

-- the second of two files can't be read
behind_first : {A E : Type 0} (r : Result A E) (first second bytes : List ℕ) (old between new : Journal) → between ≡ and_read old first bytes
    → new ≡ and_reported between → IfErr r (λ _. OnlyReports (first ∷ second ∷ []) old new)
behind_first (Ok x) first second bytes old between new were is = tt
behind_first (Err e) first second bytes old between new were is = read (file_value first bytes ∷ []) (second ∷ []) refl (is ∙ ap and_reported were)

pub returns-in_err-regions-clause-fault : goal.returns-in_err-regions-clause-fault
returns-in_err-regions-clause-fault g c =
    behind_first c.from_residual-in_err-regions.result c.args.image.now c.args.regions.now c.in_ok-image.image.bytes.items
    (g.C.Console.journal c.args.console.now) (g.C.Console.journal c.read_file.new.self) (g.C.Console.journal c.read_file-2.new.self)
    c.in_ok-image.ensures.read c.in_err-regions.ensures.fault
