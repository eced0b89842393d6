-- What holds of every graph's chain, over the definitions alone.
use Rattle.std.specs.Prelude.{◌≡◌, ℕ, ℤ, pos, ◌+ℤ◌, List, [], ◌∷◌, All, map}
use Rattle.frames80.specs.declared.procedure.Procedure.{Procedure}
use Rattle.frames80.specs.declared.procedure.Procedure.TheVariants.{Main, Entry}
use Rattle.verify80_flow.specs.Accepted.{IsAccepted}
use Rattle.verify80_flow.specs.Use.{EndsChain}
use Rattle.verify80.specs.Looking.{code_of}
use Rattle.verify80.specs.Vouched.{Voucher}
use Rattle.verify80_calls.specs.declared.graph.call_graph.Node.{Node}
use Rattle.verify80_calls.specs.declared.graph.chain.Link.{Link}
use Rattle.verify80_calls.specs.Nodes.{HasItsCalls, bound_of, heading_of, headings}
use Rattle.verify80_calls.specs.Chain.{chain_from, chain_of}

-- the procedure to which a chain leads
abbrev pub end_of : Procedure → List Link → Procedure
end_of procedure [] = procedure
end_of procedure (link ∷ chain) = end_of (Entry link.call.target) chain

-- the bytes of a chain's calls: the caller's at each, and those of its return address
abbrev pub bytes_of : List Link → ℤ
bytes_of [] = pos 0
bytes_of (link ∷ chain) = (link.call.depth +ℤ pos 2) +ℤ bytes_of chain

-- The bound of a procedure is made of the bytes of its chain's calls, and the bound of the procedure to which the chain leads.
abbrev pub BoundsAreMadeOfChains : Type 0
BoundsAreMadeOfChains = (nodes : List Node) (most : ℕ) (procedure : Procedure)
    → pos (bound_of nodes procedure)
    ≡ bytes_of (chain_from nodes most procedure) +ℤ pos (bound_of nodes (end_of procedure (chain_from nodes most procedure)))

-- the nodes are those of a program that is accepted
pub record AreNodesOf (program : Voucher) (nodes : List Node) : Type 0 where
  pub accepted : IsAccepted (code_of program.image) program.rows program.stack_bytes
  pub headings : map heading_of nodes ≡ headings program
  pub calls : All (HasItsCalls (code_of program.image)) nodes

-- the procedure to which the chain from the main program leads
abbrev pub last_of : List Node → Procedure
last_of nodes = end_of Main (chain_of nodes)

-- The chain of a program that is accepted leads to a procedure that has a walk whose depth is its bound: nothing is left to call.
abbrev pub ChainsEndInWalks : Type 0
ChainsEndInWalks = (program : Voucher) (nodes : List Node) → AreNodesOf program nodes
    → EndsChain (code_of program.image) (last_of nodes) (pos (bound_of nodes (last_of nodes)))
