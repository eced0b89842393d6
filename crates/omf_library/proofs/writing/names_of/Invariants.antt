-- what is made
use Rattle.std.proofs.Common.{◌≡◌, take}
use Rattle.omf_library.specs.Writing.{names_body}
use Rattle.omf_library.proofs.writing.names_of.Given as goal

abbrev pub invariant-loop-source : goal.invariant-loop-source
invariant-loop-source l = l.body.items ≡ names_body (take l.source-index l.modules)
