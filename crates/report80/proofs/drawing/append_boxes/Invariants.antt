use Rattle.std.proofs.Common.{◌≡◌, ◌++◌, take}
use Rattle.std.specs.List.{flat_map}
use Rattle.report80.specs.DrawingText.{box_text}
use Rattle.report80.proofs.drawing.append_boxes.Given as goal

abbrev pub invariant-loop-node : goal.invariant-loop-node
invariant-loop-node l = l.page ≡ l.initial.page ++ flat_map (box_text l.image l.publics) (take l.node-index l.nodes)
