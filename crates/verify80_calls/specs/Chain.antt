-- The calls of which the main program's bound is made. (This project's own.)
use Rattle.std.specs.Prelude.{ℕ, zero, suc, ◌==◌, Bool, ◌&&◌, pos, ◌+ℤ◌, List, [], ◌∷◌, Option, find, length}
use Rattle.std.specs.Option.{option_and_then, option_map_or}
use Rattle.std.specs.Ordering.{int_eq}
use Rattle.frames80.specs.declared.procedure.Procedure.{Procedure}
use Rattle.frames80.specs.declared.procedure.Procedure.TheVariants.{Main, Entry}
use Rattle.frames80.specs.PointNumbers.{same_procedure}
use Rattle.verify80_calls.specs.declared.calls.Call.{Call}
use Rattle.verify80_calls.specs.declared.graph.call_graph.Node.{Node}
use Rattle.verify80_calls.specs.declared.graph.chain.Link.{Link}
use Rattle.verify80_calls.specs.Nodes.{needs, node_of}

-- whether the caller's bytes at a call, and those that the call needs, add up to a bound
abbrev pub reaches : List Node → (bound : ℕ) → Call → Bool
reaches nodes bound call = int_eq (call.depth +ℤ pos (needs nodes call.target)) (pos bound)

-- the first of a procedure's calls that adds up to its bound
abbrev pub first_deepest : List Node → Node → Option Call
first_deepest nodes node = find (reaches nodes node.bound) node.calls.items

abbrev pub deepest_call : List Node → Procedure → Option Call
deepest_call nodes caller = option_and_then (first_deepest nodes) (node_of nodes caller)

abbrev pub link : Procedure → Call → Link
link caller call = record { caller = caller; call = call }

-- the chain from a procedure on, of a given number of calls at most: its first call that adds up to its bound, and the chain of what
-- that calls
abbrev pub chain_from : List Node → (most : ℕ) → Procedure → List Link
chain_from nodes zero caller = []
chain_from nodes (suc most) caller =
    option_map_or (λ call. link caller call ∷ chain_from nodes most (Entry call.target)) (deepest_call nodes caller) []

-- the chain from the main program on, of as many calls at most as there are procedures
abbrev pub chain_of : List Node → List Link
chain_of nodes = chain_from nodes (length nodes) Main

-- whether a call of a chain is the procedure's, and stands at the address
abbrev pub is_link : Procedure → (at : ℕ) → Link → Bool
is_link caller at link = same_procedure link.caller caller && link.call.at == at
