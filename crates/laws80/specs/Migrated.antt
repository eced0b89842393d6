-- What a session says of three texts, if the regions are a text and if they are its migration. (This project's own.)
use Rattle.std.specs.Prelude.{ℕ, List, [], ◌↔◌, Result}
use Rattle.image80.specs.RegionsText.{Migrates}
use Rattle.loader80.specs.declared.replies.Outcome.{Outcome}
use Rattle.loader80.specs.declared.fault.SessionFault.{SessionFault}
use Rattle.loader80.specs.Session.{Says}
use Rattle.loader80.specs.Texts.{Texts}

-- the texts with these regions
abbrev pub with_regions : Texts → List ℕ → Texts
with_regions t regions = record { image = t.image; regions = regions; inputs = t.inputs }

-- an answer and a transcript are said of the texts exactly if they are said of them with their regions migrated
abbrev pub MigratedTextsSayTheSame : Type 0
MigratedTextsSayTheSame =
    (limit steps : ℕ) (t : Texts) (migrated : List ℕ) (answer : Result Outcome SessionFault) (transcript : List ℕ) → Migrates t.regions [] migrated →
    (Says limit steps t answer transcript ↔ Says limit steps (with_regions t migrated) answer transcript)
