use Rattle.std.proofs.Common.{◌≡◌, ◌++◌, drop, filter_map}
use Rattle.link80_text.specs.Causes.{declaration, declarations_in}
use Rattle.link80_text.proofs.causes.counting.append_declarations.Given as goal

-- the numbers so far, and those by the publics that are left
abbrev pub invariant-loop-public : goal.invariant-loop-public
invariant-loop-public l =
    l.numbers.items ++ filter_map (declaration l.name l.number) (drop l.public-index l.source.publics)
    ≡ l.initial.numbers.items ++ declarations_in l.name (l.number, l.source)
