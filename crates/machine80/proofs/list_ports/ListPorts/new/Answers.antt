use Rattle.std.proofs.Common.{ℕ, ◌≤◌, List, length, ◌∙◌, ap, subst, sym, arith}
use Rattle.std.specs.Prelude.{All}
use Rattle.std.proofs.lemmas.List.Elements.{All-replicate}
use Rattle.machine80.specs.ListPorts.{queues}
use Rattle.machine80.proofs.Queues.{queues-first}
use Rattle.machine80.proofs.list_ports.ListPorts.new.Goals as goal

pub invariant_of-result : goal.invariant_of-result
invariant_of-result c =
    let fits : ℕ → Type 0 = λ place. place ≤ length c.args.inputs.pairs.items in
    subst (λ (places : List ℕ). All fits places) (sym c.first_places.ensures) (All-replicate fits 256 0 (omega arith))

pub returns-clause-inputs : goal.returns-clause-inputs
returns-clause-inputs c = ap (λ (places : List ℕ). queues places c.args.inputs.pairs.items) c.first_places.ensures ∙ queues-first c.args.inputs.pairs.items
