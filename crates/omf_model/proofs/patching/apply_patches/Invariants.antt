use Rattle.std.proofs.Common.{◌≡◌, length, drop}
use Rattle.std.specs.Prelude.{IsTrue}
use Rattle.omf_model.specs.Patches.{with_patches, are_inside, are_apart}
use Rattle.omf_model.proofs.patching.apply_patches.Given as goal

-- the rest of the patches on these bytes is all patches on the first bytes
abbrev pub invariant-loop-patch : goal.invariant-loop-patch
invariant-loop-patch l = record {
  rest : with_patches (drop l.patch-index l.patches) l.bytes ≡ with_patches l.patches l.fn.bytes;
  whole : length l.bytes ≡ length l.fn.bytes;
  inside : IsTrue (are_inside (length l.fn.bytes) (drop l.patch-index l.patches));
  apart : IsTrue (are_apart (drop l.patch-index l.patches));
}
