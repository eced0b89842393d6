use Rattle.verify80_stores.proofs.Names.{◌≡◌, ◌++◌, take, flat_map, store_line}
use Rattle.verify80_stores.proofs.lines.append_stores.Given as goal

abbrev pub invariant-loop-store : goal.invariant-loop-store
invariant-loop-store l = l.text.items ≡ l.initial.text.items ++ flat_map store_line (take l.store-index l.stores)
