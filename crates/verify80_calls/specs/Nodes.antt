-- The procedures of a program, each with its bound and its calls. (This project's own.)
use Rattle.std.specs.Prelude.{◌≡◌, ℕ, ◌+◌, Bool, List, ◌∷◌, Option, find, map}
use Rattle.std.specs.Option.{option_map_or}
use Rattle.frames80.specs.declared.procedure.Procedure.{Procedure}
use Rattle.frames80.specs.declared.procedure.Procedure.TheVariants.{Main, Entry}
use Rattle.frames80.specs.Code.{Code}
use Rattle.frames80.specs.PointNumbers.{same_procedure}
use Rattle.verify80_flow.specs.declared.report.ProcRow.{ProcRow}
use Rattle.verify80.specs.Vouched.{Voucher}
use Rattle.verify80_calls.specs.Calls.{AreCalls}
use Rattle.verify80_calls.specs.declared.graph.call_graph.Node.{Node}

-- ---- the nodes of a program

-- a procedure, the address where it begins, and its bound
pub record Heading : Type 0 where
  pub procedure : Procedure
  pub address : ℕ
  pub bound : ℕ

abbrev pub heading_of : Node → Heading
heading_of node = record { procedure = node.procedure; address = node.address; bound = node.bound }

-- the main program's: the image's start, and the bytes of stack that the program needs
abbrev pub main_heading : Voucher → Heading
main_heading program = record { procedure = Main; address = program.image.start; bound = program.stack_bytes }

-- that of a row's procedure
abbrev pub row_heading : ProcRow → Heading
row_heading row = record { procedure = Entry row.entry; address = row.entry; bound = row.bound }

-- those of a program: the main program's, and then each row's
abbrev pub headings : Voucher → List Heading
headings program = main_heading program ∷ map row_heading program.rows

-- a node has exactly the calls of its procedure
abbrev pub HasItsCalls : Code → Node → Type 0
HasItsCalls code node = AreCalls code node.procedure node.calls.items

-- a node has the heading of a row
pub record IsNodeOf (row : ProcRow) (node : Node) : Type 0 where
  pub heading : heading_of node ≡ row_heading row

-- ---- what calls need

abbrev pub is_node_of : Procedure → Node → Bool
is_node_of procedure node = same_procedure node.procedure procedure

-- the node of a procedure
abbrev pub node_of : List Node → Procedure → Option Node
node_of nodes procedure = find (is_node_of procedure) nodes

-- the bound of a procedure
abbrev pub bound_of : List Node → Procedure → ℕ
bound_of nodes procedure = option_map_or (λ (node : Node). node.bound) (node_of nodes procedure) 0

-- the bytes of stack that a call needs: those of its return address, and its callee's bound
abbrev pub needs : List Node → (target : ℕ) → ℕ
needs nodes target = 2 + bound_of nodes (Entry target)
