use Rattle.std.proofs.Common.{◌∙◌, ap, sym, List, ℕ, arith, ◌≡◌, ◌∷◌, [], ◌+◌, drop, refl}
use Rattle.std.proofs.lemmas.List.{drop_all}
use Rattle.machine80.specs.Ports.{next_input, bytes_of, PortLists}
use Rattle.machine80.specs.ListPorts.{queue, queues}
use Rattle.machine80.proofs.Queues.{length-queues, next_input-queues, without_next-queues, taken_of}
use Rattle.machine80.proofs.list_ports.ListPortsPorts.take.Goals as goal

pub returns-in-Some-clause-byte : goal.returns-in-Some-clause-byte
returns-in-Some-clause-byte c =
    let pairs : List (ℕ × ℕ) = c.self.inside.pairs.items in
    let found : queue c.self.inside.places pairs c.args.port ≡ c.in-Some.byte ∷ bytes_of c.args.port (drop (c.in-Some.at + 1) pairs) = rw c.as_slice.ensures.value at c.in-Some.ensures.1 in
    let same : queues c.self.inside.places pairs ≡ c.args.self.now.inputs = ap (λ (v : PortLists). v.inputs) c.self.view_is in
    sym (next_input-queues c.self.inside.places pairs c.args.port _ (omega arith) found) ∙ ap (λ (l : List (List ℕ)). next_input l c.args.port) same

pub returns-in-Some-clause-taken : goal.returns-in-Some-clause-taken
returns-in-Some-clause-taken c =
    let pairs : List (ℕ × ℕ) = c.self.inside.pairs.items in
    let found : queue c.self.inside.places pairs c.args.port ≡ c.in-Some.byte ∷ bytes_of c.args.port (drop (c.in-Some.at + 1) pairs) = rw c.as_slice.ensures.value at c.in-Some.ensures.1 in
    taken_of _ _ _ c.args.port c.self.view_is
    (without_next-queues c.self.inside.places pairs c.args.port (c.in-Some.at + 1) _ (omega arith) c.self.told found refl)

pub returns-in-Some-clause-whole : goal.returns-in-Some-clause-whole
returns-in-Some-clause-whole c = length-queues _ _

pub returns-in-None-clause-byte : goal.returns-in-None-clause-byte
returns-in-None-clause-byte c =
    let pairs : List (ℕ × ℕ) = c.self.inside.pairs.items in
    let found : queue c.self.inside.places pairs c.args.port ≡ [] = rw c.as_slice.ensures.value at c.in-None.ensures in
    let same : queues c.self.inside.places pairs ≡ c.args.self.now.inputs = ap (λ (v : PortLists). v.inputs) c.self.view_is in
    sym (next_input-queues c.self.inside.places pairs c.args.port _ (omega arith) found) ∙ ap (λ (l : List (List ℕ)). next_input l c.args.port) same

pub returns-in-None-clause-taken : goal.returns-in-None-clause-taken
returns-in-None-clause-taken c =
    let pairs : List (ℕ × ℕ) = c.self.inside.pairs.items in
    let found : queue c.self.inside.places pairs c.args.port ≡ [] = rw c.as_slice.ensures.value at c.in-None.ensures in
    let none_left : bytes_of c.args.port (drop c.len.result pairs) ≡ [] = ap (λ (l : List (ℕ × ℕ)). bytes_of c.args.port l) (drop_all c.len.result pairs (omega arith)) in
    taken_of _ _ _ c.args.port c.self.view_is
    (without_next-queues c.self.inside.places pairs c.args.port c.len.result _ (omega arith) c.self.told found none_left)

pub returns-in-None-clause-whole : goal.returns-in-None-clause-whole
returns-in-None-clause-whole c = length-queues _ _
