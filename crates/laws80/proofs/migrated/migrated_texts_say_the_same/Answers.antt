use Rattle.std.proofs.Common.{ℕ, List, subst, sym}
use Rattle.image80.specs.RegionsText.{Spells}
use Rattle.laws80.proofs.SayingLemmas.{says_so}
use Rattle.laws80.specs.Migrated.{with_regions}
use Rattle.laws80.proofs.migrated.migrated_texts_say_the_same.Goals as goal

pub returns : goal.returns
returns c = λ limit steps t migrated answer transcript migrates.
    let law = c.text_of_regions_is_read_as_itself.ensures in
    let new = subst (λ (text : List ℕ). Spells text migrates.areas) (sym migrates.appended) migrates.same in (
      says_so law.one_reading law.not_refused t migrated migrates.areas migrates.old new limit steps answer transcript,
      says_so law.one_reading law.not_refused (with_regions t migrated) t.regions migrates.areas new migrates.old limit steps answer transcript,
    )
