use Rattle.std.proofs.Common.{◌≡◌, drop}
use Rattle.place80.specs.Uses.{refers_to, no_word, first_use, first_use_of}
use Rattle.place80.proofs.causes.names.first_use_of.Given as goal

-- the first of the contents that are left is the first of all
abbrev pub invariant-loop-content : goal.invariant-loop-content
invariant-loop-content l =
    first_use no_word (λ f. refers_to l.program.externals l.name f.target) (drop l.content-index l.program.contents)
    ≡ first_use_of l.program l.name
