-- The calls of a program as a graph for Graphviz. (Words and quotes: The DOT Language, Graphviz. What stands in labels is this
-- project's own.)
use Rattle.std.specs.Prelude.{ℕ, ◌==◌, Bool, ◌||◌, if◌then◌else◌, List, [], ◌∷◌, ◌++◌, codes}
use Rattle.std.specs.Fmt.{signed_decimal}
use Rattle.std.specs.List.{flat_map, list_any}
use Rattle.image80.specs.Image.{Located}
use Rattle.omf_model.specs.declared.symbols.Public.{Public}
use Rattle.image80_text.specs.NameText.{name_text}
use Rattle.frames80.specs.declared.procedure.Procedure.{Procedure}
use Rattle.frames80.specs.declared.procedure.Procedure.TheVariants.{Main, Entry}
use Rattle.verify80_calls.specs.declared.calls.Call.{Call}
use Rattle.verify80_calls.specs.declared.graph.call_graph.Node.{Node}
use Rattle.verify80_calls.specs.declared.graph.chain.Link.{Link}
use Rattle.verify80_calls.specs.Chain.{chain_of, is_link}
use Rattle.verify80_calls.specs.ListText.{bound_text, node_word, with_address}

-- what a procedure is called in the graph: MAIN, or its entry
abbrev pub entry_id : (entry : ℕ) → List ℕ
entry_id entry = with_address (codes "    \"") entry ++ codes "\""

abbrev pub node_id : Procedure → List ℕ
node_id Main = codes "    \"MAIN\""
node_id (Entry entry) = entry_id entry

-- ---- boxes

-- a byte inside a label: a quote and a backslash follow a backslash
abbrev pub escaped : ℕ → List ℕ
escaped byte = if byte == 34 || byte == 92 then 92 ∷ byte ∷ [] else byte ∷ []

-- the name of an address inside a label
abbrev pub escaped_name : Located → List Public → (address : ℕ) → List ℕ
escaped_name image publics address = flat_map escaped (name_text image.regions.code publics address)

abbrev pub label_begin : Node → List ℕ
label_begin node = codes " [label=\"" ++ with_address (node_word [] node.procedure) node.address

-- the box of a procedure: in its label the address, the name and, on a line of its own, the bound
abbrev pub box_line : Located → List Public → Node → List ℕ
box_line image publics node =
    node_id node.procedure ++ (label_begin node
    ++ (escaped_name image publics node.address ++ (bound_text (codes "\\n") node.bound ++ codes "\"];\n")))

-- ---- edges

abbrev pub edge_end : (is_bold : Bool) → List ℕ
edge_end is_bold = if is_bold then codes ", style=bold];\n" else codes "];\n"

-- the label of a call: where it stands, and the caller's bytes there
abbrev pub edge_label : Call → List ℕ
edge_label call = with_address (codes "\" [label=\"") call.at ++ (codes ": " ++ (signed_decimal call.depth ++ codes "\""))

-- the edge of a call, in bold if it is one of the chain
abbrev pub edge_line : (chain : List Link) → Procedure → Call → List ℕ
edge_line chain caller call = node_id caller
    ++ (with_address (codes " -> \"") call.target ++ (edge_label call ++ edge_end (list_any (is_link caller call.at) chain)))

-- the edges of a procedure's calls
abbrev pub edges : (chain : List Link) → Node → List ℕ
edges chain node = flat_map (edge_line chain node.procedure) node.calls.items

-- ---- the graph

-- the boxes of the procedures, and the edges of their calls
abbrev pub graph_text : Located → List Public → List Node → List ℕ
graph_text image publics nodes = codes "digraph calls {\n    node [shape=box];\n"
    ++ (flat_map (box_line image publics) nodes ++ (flat_map (edges (chain_of nodes)) nodes ++ codes "}\n"))
