-- what is left, after what was seen, passes as all does
use Rattle.std.proofs.Common.{◌≡◌, [], take, drop, vec_len}
use Rattle.omf_model.specs.Contents.{is_taken}
use Rattle.omf_model.specs.Marks.{AreMarks}
use Rattle.omf_model.specs.Rules.{each_after, is_fitting}
use Rattle.omf_model.proofs.marks.are_fitting.Given as goal

abbrev pub invariant-loop-fixup : goal.invariant-loop-fixup
invariant-loop-fixup l = record {
  all : each_after (is_fitting l.commons l.externals l.first l.size) (take l.fixup-index l.fixups) (drop l.fixup-index l.fixups) ≡ each_after (is_fitting l.commons l.externals l.first l.size) [] l.fixups;
  marked : AreMarks l.marks.items l.first (is_taken (take l.fixup-index l.fixups));
  as_many : vec_len l.marks ≡ l.size;
}
