-- Two texts that spell the same regions have the same said of them.
use Rattle.std.specs.Prelude.{◌≡◌, ℕ, List, Result, Ok, Err}
use Rattle.std.proofs.Common.{subst}
use Rattle.image80.specs.Regions.{Areas}
use Rattle.image80.specs.RegionsText.{Spells, Refuses}
use Rattle.image80.specs.Image.{Located}
use Rattle.image80.specs.declared.fault.RegionsFault.{RegionsFault}
use Rattle.image80.specs.declared.fault.RegionsFault.TheVariants as regions
use Rattle.loader80.specs.declared.replies.Outcome.{Outcome}
use Rattle.loader80.specs.declared.fault.SessionFault.{SessionFault}
use Rattle.loader80.specs.declared.fault.SessionFault.TheVariants.{Read, Write, Image, Regions, Inputs, Refused, Memory, TooLong}
use Rattle.loader80.specs.Session.{Says, SpellsProgram}
use Rattle.loader80.specs.Texts.{Texts}
use Rattle.laws80.specs.Migrated.{with_regions}

-- a text spells one list of regions at most, and none if it is refused
abbrev pub OneReading : Type 0
OneReading = (text : List ℕ) (areas others : Areas) → Spells text areas → Spells text others → areas ≡ others

abbrev pub NotRefused : Type 0
NotRefused = (text : List ℕ) (areas : Areas) (fault : RegionsFault) → Spells text areas → Refuses text fault → fault ≡ regions.Memory

module _ (one_reading : OneReading) (not_refused : NotRefused) (t : Texts) (text : List ℕ) (areas : Areas) (old : Spells t.regions areas) (new : Spells text areas) where
  program : (image : Located) → SpellsProgram t image → SpellsProgram (with_regions t text) image
  program image h = record {
    contents = h.contents;
    regions = subst (λ (a : Areas). Spells text a) (one_reading t.regions areas image.regions old h.regions) new;
  }

  pub says_so : (limit steps : ℕ) (answer : Result Outcome SessionFault) (transcript : List ℕ) → Says limit steps t answer transcript → Says limit steps (with_regions t text) answer transcript
  says_so limit steps (Ok o) transcript h = record { image = h.image; program = program h.image h.program; inputs = h.inputs; rows = h.rows; vouched = h.vouched; ran = h.ran }
  says_so limit steps (Err (Regions f)) transcript h = absurd (h.1 (not_refused t.regions areas f old h.0))
  says_so limit steps (Err (Image f)) transcript h = ((areas, new), h.1, h.2, h.3)
  says_so limit steps (Err (Inputs n)) transcript h = ((h.0.0, program h.0.0 h.0.1), h.1, h.2)
  says_so limit steps (Err (Refused r)) transcript h = ((h.0.0, program h.0.0 h.0.1, h.0.2), h.1, h.2, h.3)
  says_so limit steps (Err Memory) transcript h = h
  says_so limit steps (Err (Read k)) transcript h = absurd h
  says_so limit steps (Err Write) transcript h = absurd h
  says_so limit steps (Err (TooLong k)) transcript h = absurd h
