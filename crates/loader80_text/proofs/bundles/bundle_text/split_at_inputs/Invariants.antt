use Rattle.std.proofs.Common.{◌≡◌, ◌-◌, ◌≤◌, length, take, drop}
use Rattle.std.specs.Option.{option_map}
use Rattle.image80.specs.Lines.{parts}
use Rattle.loader80_text.specs.BundleText.{sides_after, sides_of}
use Rattle.loader80_text.proofs.bundles.bundle_text.split_at_inputs.Given as goal

abbrev pub invariant-loop-line : goal.invariant-loop-line
invariant-loop-line l = record {
  in_range : l.at ≤ length l.text;
  parted : sides_of (parts l.text) ≡ option_map (sides_after (take l.at l.text)) (sides_of (parts (drop l.at l.text)));
}

abbrev pub decreases-loop-line : goal.decreases-loop-line
decreases-loop-line l = length l.text - l.at
