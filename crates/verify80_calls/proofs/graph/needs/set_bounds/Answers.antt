use Rattle.std.proofs.Common.{ℕ, ap, ◌∙◌, List, length}
use Rattle.std.proofs.lemmas.List.{length-replicate}
use Rattle.verify80_calls.proofs.TableLemmas.{no_bounds}
use Rattle.verify80_calls.proofs.graph.needs.set_bounds.Goals as goal

pub loop-done-init : goal.loop-done-init
loop-done-init c = record {
  whole = ap (λ (l : List ℕ). length l) c.requires ∙ length-replicate {A = ℕ} 65536 0;
  each = λ entry lt. no_bounds c.args.nodes.now c.args.bounds.now c.requires entry;
}
