-- the pairs so far are those of the first stores
use Rattle.verify80_stores.proofs.Names.{◌≡◌, map, take}
use Rattle.verify80_stores.specs.Causes.{pointer_of}
use Rattle.verify80_stores.proofs.causes.store_pointers.Given as goal

abbrev pub invariant-loop-store : goal.invariant-loop-store
invariant-loop-store l = l.pointers.items ≡ map pointer_of (take l.store-index l.stores)
