use Rattle.std.proofs.Common.{◌≡◌, ◌≤◌, drop, length}
use Rattle.std.specs.List.{AllByRecursion}
use Rattle.omf_model.specs.Contents.{ContentValue}
use Rattle.place80.specs.PlaceFault.{absolute_places, with_each}
use Rattle.place80.specs.PlaceFault.{first_sharing}
use Rattle.place80.proofs.overlap.first_of_contents.Given as goal

-- the first pair with the contents that are left is the first of all; these have few bytes
abbrev pub invariant-loop-content : goal.invariant-loop-content
invariant-loop-content l = record {
  found : first_sharing (with_each l.segments (absolute_places (drop l.content-index l.contents)))
      ≡ first_sharing (with_each l.segments (absolute_places l.program.contents));
  few : AllByRecursion (λ (c : ContentValue). length c.bytes ≤ 65531) (drop l.content-index l.contents);
}
