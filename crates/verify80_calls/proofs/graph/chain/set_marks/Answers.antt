use Rattle.std.proofs.Common.{Bool, false, ap, ◌∙◌, List, length}
use Rattle.std.proofs.lemmas.List.{length-replicate}
use Rattle.verify80_calls.proofs.TableLemmas.{no_marks}
use Rattle.verify80_calls.proofs.graph.chain.set_marks.Goals as goal

pub loop-link-init : goal.loop-link-init
loop-link-init c = record {
  whole = ap (λ (l : List Bool). length l) c.requires ∙ length-replicate {A = Bool} 65536 false;
  each = λ at. no_marks c.args.marks.now c.requires at;
}
