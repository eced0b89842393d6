use Rattle.verify80_suggest.proofs.WalkLemmas.{outside, walks}
use Rattle.verify80_suggest.proofs.laws.fetches_outside_lack_bytes.Goals as goal

pub returns-clause-walks : goal.returns-clause-walks
returns-clause-walks c = λ image known first second tableless notes new is p at f walk.
    walks image known first second tableless notes new is c.looks_are_exact.ensures.found c.looks_are_exact.ensures.fault p at f walk

pub returns-clause-outside : goal.returns-clause-outside
returns-clause-outside c = λ image known first second tableless notes new is at wrong.
    outside image known first second tableless notes new is c.looks_are_exact.ensures.found c.looks_are_exact.ensures.fault c.spelling_laws.ensures.sizes at wrong
