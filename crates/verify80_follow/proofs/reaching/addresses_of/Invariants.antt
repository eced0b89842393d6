use Rattle.std.specs.Prelude.{◌≡◌, map, take}
use Rattle.verify80_follow.proofs.reaching.addresses_of.Given as goal

-- those so far
abbrev pub invariant-loop-store : goal.invariant-loop-store
invariant-loop-store l = l.addresses.items ≡ map (λ s. s.at) (take l.store-index l.stores)
