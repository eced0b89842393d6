use Rattle.std.proofs.Common.{◌≡◌, ◌++◌, take}
use Rattle.std.specs.List.{flat_map}
use Rattle.verify80_explain_text.specs.Explained.{call_line}
use Rattle.verify80_explain_text.proofs.calls.append_calls.Given as goal

abbrev pub invariant-loop-call : goal.invariant-loop-call
invariant-loop-call l = l.text.items ≡ l.initial.text.items ++ flat_map (call_line l.image l.publics) (take l.call-index l.calls)
