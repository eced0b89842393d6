use Rattle.std.proofs.Common.{◌≡◌, drop}
use Rattle.place80.specs.Uses.{refers_to, no_word, first_given, use_of, first_use_in}
use Rattle.place80.proofs.causes.names.first_in.Given as goal

-- the first of the fixups that are left is the first of all
abbrev pub invariant-loop-fixup : goal.invariant-loop-fixup
invariant-loop-fixup l =
    first_given (use_of no_word (λ f. refers_to l.externals l.name f.target) l.content) (drop l.fixup-index l.content.fixups)
    ≡ first_use_in no_word (λ f. refers_to l.externals l.name f.target) l.content
