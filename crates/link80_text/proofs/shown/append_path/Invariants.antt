-- the text so far, and the bytes that are left
use Rattle.std.proofs.Common.{◌≡◌, ◌++◌, length}
use Rattle.link80_text.specs.ShownPaths.{shown_path, shown_rest}
use Rattle.link80_text.proofs.shown.append_path.Given as goal

abbrev pub invariant-loop-rest : goal.invariant-loop-rest
invariant-loop-rest l = l.text.items ++ shown_rest l.left l.rest ≡ l.initial.text.items ++ shown_path l.fn.path

abbrev pub decreases-loop-rest : goal.decreases-loop-rest
decreases-loop-rest l = length l.rest
