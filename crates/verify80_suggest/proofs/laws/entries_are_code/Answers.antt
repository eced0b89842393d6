use Rattle.verify80_suggest.proofs.WalkLemmas.{entry_reached, lacking}
use Rattle.verify80_suggest.proofs.laws.entries_are_code.Goals as goal

pub returns : goal.returns
returns c = λ image known first second tableless notes new is at has none.
    lacking image known first second tableless notes new is c.spelling_laws.ensures.sizes at
    (entry_reached image known first second tableless notes new is at has) none
