use Rattle.std.proofs.Common.{◌≡◌, ◌++◌, drop, map}
use Rattle.std.specs.List.{flat_map}
use Rattle.link80_text.specs.Causes.{line_of}
use Rattle.link80_text.proofs.causes.lines.append_first_two.Given as goal

-- the lines so far, and those of the numbers that are left
abbrev pub invariant-loop-number : goal.invariant-loop-number
invariant-loop-number l =
    l.text.items ++ flat_map (line_of (map (λ f. f.now) l.files) (map (λ m. m.now) l.modules) l.does)
    (drop l.number-index l.number-items)
    ≡ l.initial.text.items ++ flat_map (line_of (map (λ f. f.now) l.files) (map (λ m. m.now) l.modules) l.does) l.number-items
