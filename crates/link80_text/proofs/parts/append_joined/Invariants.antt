use Rattle.std.proofs.Common.{◌≡◌, ◌++◌, drop, map}
use Rattle.link80_text.specs.Words.{joined_text}
use Rattle.link80_text.proofs.parts.append_joined.Given as goal

-- the lines so far, and those of the modules that are left
abbrev pub invariant-loop-source : goal.invariant-loop-source
invariant-loop-source l =
    l.text.items ++ joined_text l.commons l.id (map (λ m. m.now) (drop l.source-index l.modules))
    ≡ l.initial.text.items ++ joined_text l.commons l.id (map (λ m. m.now) l.modules)
