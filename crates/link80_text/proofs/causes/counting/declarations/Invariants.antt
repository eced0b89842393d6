use Rattle.std.proofs.Common.{◌≡◌, ◌++◌, drop, map}
use Rattle.std.specs.List.{flat_map, enumerate_from}
use Rattle.link80_text.specs.Causes.{declarations_in, declarations}
use Rattle.link80_text.proofs.causes.counting.declarations.Given as goal

-- the numbers so far, and those of the modules that are left
abbrev pub invariant-loop-number : goal.invariant-loop-number
invariant-loop-number l =
    l.numbers.items ++ flat_map (declarations_in l.name) (enumerate_from l.number (map (λ m. m.now) (drop l.number l.modules)))
    ≡ declarations (map (λ m. m.now) l.modules) l.name
