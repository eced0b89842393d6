use Rattle.std.proofs.Common.{◌≡◌, ◌-◌, ◌++◌}
use Rattle.image80_source.specs.SourceText.{begins, label_equate, label_equates}
use Rattle.image80_source.proofs.RestLemmas.{rest_of}
use Rattle.image80_source.proofs.text.append_equates.Given as goal

abbrev pub invariant-loop-address : goal.invariant-loop-address
invariant-loop-address l =
    l.out.items ++ rest_of (λ address. label_equate l.labels (begins l.lines address) address) l.address (65536 - l.address)
    ≡ l.initial.out.items ++ label_equates l.labels l.lines
