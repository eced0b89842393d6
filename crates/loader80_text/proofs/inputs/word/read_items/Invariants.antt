use Rattle.std.proofs.Common.{◌≡◌, ◌++◌, length}
use Rattle.std.specs.Option.{option_map}
use Rattle.loader80_text.specs.Text.{IsRepeated}
use Rattle.loader80_text.specs.Words.{items_of}
use Rattle.std.specs.Prelude.{All}
use Rattle.loader80_text.proofs.inputs.word.read_items.Given as goal

abbrev pub invariant-loop-item : goal.invariant-loop-item
invariant-loop-item l = record {
  read : option_map (λ later. l.inputs.items ++ later) (items_of l.port l.rest) ≡ items_of l.port l.items;
  repeated : All IsRepeated l.inputs.items;
}

abbrev pub decreases-loop-item : goal.decreases-loop-item
decreases-loop-item l = length l.rest
