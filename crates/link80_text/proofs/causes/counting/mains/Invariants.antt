use Rattle.std.proofs.Common.{◌≡◌, ◌++◌, drop, map, filter_map}
use Rattle.std.specs.List.{enumerate_from}
use Rattle.link80_text.specs.Causes.{main_number, mains}
use Rattle.link80_text.proofs.causes.counting.mains.Given as goal

-- the numbers so far, and those of the main programs that are left
abbrev pub invariant-loop-number : goal.invariant-loop-number
invariant-loop-number l =
    l.numbers.items ++ filter_map main_number (enumerate_from l.number (map (λ m. m.now) (drop l.number l.modules)))
    ≡ mains (map (λ m. m.now) l.modules)
