use Rattle.std.proofs.Common.{Bool, false, ap, ◌∙◌, List, length}
use Rattle.std.proofs.lemmas.List.{length-replicate}
use Rattle.plm80_programs.proofs.MarkLemmas.{no_marks}
use Rattle.plm80_programs.proofs.reached.set_marks.Goals as goal

pub loop-place-init : goal.loop-place-init
loop-place-init c = record {
  whole = ap (λ (l : List Bool). length l) c.requires ∙ length-replicate {A = Bool} 65536 false;
  each = λ at. no_marks c.args.marks.now.items c.requires at;
}
