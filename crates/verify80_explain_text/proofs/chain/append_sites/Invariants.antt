use Rattle.std.proofs.Common.{◌≡◌, ◌++◌, take}
use Rattle.std.specs.List.{flat_map}
use Rattle.verify80_explain_text.specs.Explained.{site_line}
use Rattle.verify80_explain_text.proofs.chain.append_sites.Given as goal

abbrev pub invariant-loop-call : goal.invariant-loop-call
invariant-loop-call l = l.text.items ≡ l.initial.text.items ++ flat_map (site_line l.image l.publics) (take l.call-index l.calls)
