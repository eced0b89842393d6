-- the causes so far are those of the first pairs
use Rattle.verify80_stores.proofs.Names.{◌≡◌, All, map, take, Cause, IsCause}
use Rattle.verify80_stores.proofs.causes.causes_of.Given as goal

abbrev pub invariant-loop-pointer : goal.invariant-loop-pointer
invariant-loop-pointer l =
    (map (λ (cause : Cause). cause.pointer) l.causes.items ≡ take l.pointer-index l.pointers) × All (IsCause l.image l.quiet l.search) l.causes.items
