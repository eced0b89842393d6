use Rattle.plm80_regions.proofs.Names.{[], ◌∷◌, refl, file_value, AnswersRegions}
use Rattle.plm80_console.specs.AnswerLaws.{gives_or_gives_up, wrong_files}
use Rattle.plm80_regions.proofs.Names.{◌≡◌, ℕ, List}
use Rattle.std.specs.Prelude.{◌++◌}
use Rattle.image80.specs.{Regions.Areas, RegionsText.Refuses, RegionsText.Spells, declared.fault.RegionsFault.RegionsFault}
use Rattle.image80.specs.declared.fault.RegionsFault.TheVariants.{Memory}
use Rattle.plm80_console.specs.{Answer.AnswerValue, Journal.FileValue}
use Rattle.plm80_regions.proofs.regions.migrate_file.Goals as goal

-- a text that is refused has no answer, unless memory ran out
refused_regions : ((text : List ℕ) (areas : Areas) (fault : RegionsFault) → Spells text areas → Refuses text fault → fault ≡ Memory)
    → (path : List ℕ) (file : FileValue) (fault : RegionsFault) → Refuses file.bytes fault
    → (others : List FileValue) (answer : AnswerValue) → AnswersRegions path ((file ∷ []) ++ others) answer → fault ≡ Memory
refused_regions not_refused path file fault refuses [] answer writes = not_refused file.bytes writes.migrated.areas fault writes.migrated.old refuses
refused_regions not_refused path file fault refuses (other ∷ others) answer writes = absurd writes

pub returns-in-Ok : goal.returns-in-Ok
returns-in-Ok g c =
    let path = c.args.arguments.old.now in
    let both = gives_or_gives_up (AnswersRegions c.args.arguments.new.now) (path ∷ []) (g.C.Console.journal c.args.console.now)
    (g.C.Console.journal c.read_file.new.self) (g.C.Console.journal c.give.new.self) (file_value path c.in_ok-old.old.bytes.items ∷ []) refl
    c.in_ok-old.ensures.read c.in-Ok.answer c.give.result c.in-Ok.ensures.text c.give.ensures.given c.give.ensures.fault in
    record { done = both.0; fault = both.1 }

pub returns-clause-fault : goal.returns-clause-fault
returns-clause-fault g c =
    let path = c.args.arguments.old.now in
    wrong_files (AnswersRegions c.args.arguments.new.now) (path ∷ []) (g.C.Console.journal c.args.console.now) (g.C.Console.journal c.read_file.new.self)
    (g.C.Console.journal c.report_regions.new.console) (file_value path c.in_ok-old.old.bytes.items ∷ []) refl c.in_ok-old.ensures.read
    (λ no_memory others answer named answers.
    no_memory (refused_regions c.text_of_regions_is_read_as_itself.ensures.not_refused c.args.arguments.new.now (file_value path c.in_ok-old.old.bytes.items)
    c.in-Err.fault c.in-Err.ensures.fault others answer answers))
    c.report_regions.ensures
