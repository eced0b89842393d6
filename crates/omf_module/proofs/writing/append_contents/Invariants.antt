-- what is written, and that what is left is short
use Rattle.std.proofs.Common.{◌≡◌, ◌≤◌, ◌++◌, drop, take, length}
use Rattle.std.specs.List.{flat_map, AllByRecursion}
use Rattle.omf_body.specs.Bodies.{record_bytes}
use Rattle.omf_model.specs.Contents.{ContentValue}
use Rattle.omf_module.specs.Writing.{content_bodies}
use Rattle.omf_module.proofs.writing.append_contents.Given as goal

abbrev pub invariant-loop-content : goal.invariant-loop-content
invariant-loop-content l = record {
  written : l.out.items
      ≡ l.initial.out.items ++ flat_map record_bytes (flat_map content_bodies (take l.content-index l.contents));
  short : AllByRecursion (λ (c : ContentValue). length c.bytes ≤ 65531) (drop l.content-index l.contents);
}
