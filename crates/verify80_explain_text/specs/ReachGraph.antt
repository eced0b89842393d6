-- Where walks stand as a graph for Graphviz. (Words and quotes: The DOT Language, Graphviz. What stands in labels is this project's
-- own.)
use Rattle.std.specs.Prelude.{ℕ, if◌then◌else◌, List, [], ◌∷◌, ◌++◌, codes, Option, Some, None}
use Rattle.std.specs.Fmt.{decimal, signed_decimal}
use Rattle.std.specs.List.{flat_map}
use Rattle.image80.specs.Image.{Located}
use Rattle.omf_model.specs.declared.symbols.Public.{Public}
use Rattle.frames80.specs.declared.procedure.Procedure.{Procedure}
use Rattle.frames80.specs.declared.procedure.Procedure.TheVariants.{Main, Entry}
use Rattle.frames80.specs.Code.{Code}
use Rattle.verify80.specs.Looking.{code_of}
use Rattle.verify80_flow.specs.declared.refusal.Refusal.{Refusal}
use Rattle.verify80_calls.specs.GraphText.{escaped_name, node_id}
use Rattle.verify80_explain.specs.declared.chain.Standing.{Standing}
use Rattle.verify80_explain.specs.declared.reaching.ReachedPoint.{ReachedPoint}
use Rattle.verify80_explain_text.specs.Explained.{with_address}
use Rattle.verify80_explain_text.specs.Reaching.{address_of, called_at, is_before, lines_by, refusal_text}

-- ---- boxes

-- what stands before the address in a label
abbrev pub label_word : Procedure → List ℕ
label_word Main = codes " [label=\"MAIN "
label_word (Entry entry) = codes " [label=\""

-- the label of a box: a word and an address with its name, and that the bound isn't known
abbrev pub box_label : Located → List Public → (word : List ℕ) → (address : ℕ) → List ℕ
box_label image publics word address =
    with_address word address ++ (escaped_name image publics address ++ codes "\\nBOUND ?\"];\n")

-- the box of a procedure
abbrev pub box_line : Located → List Public → Procedure → List ℕ
box_line image publics procedure = node_id procedure ++ box_label image publics (label_word procedure) (address_of image procedure)

abbrev pub box_unless : Located → List Public → Option Procedure → Procedure → List ℕ
box_unless image publics before procedure = if is_before before procedure then [] else box_line image publics procedure

-- the box of a point's procedure, if it is another one
abbrev pub box_of : Located → List Public → Option Procedure → ReachedPoint → List ℕ
box_of image publics before point = box_unless image publics before point.standing.procedure

-- ---- edges

-- the label of an edge: where it begins, and what the procedure has on the stack there
abbrev pub edge_label : Standing → List ℕ
edge_label standing = with_address (codes "\" [label=\"") standing.at ++ (codes ": " ++ (signed_decimal standing.depth ++ codes "\""))

abbrev pub call_edge : Standing → Option ℕ → List ℕ
call_edge standing None = []
call_edge standing (Some target) =
    node_id standing.procedure ++ (with_address (codes " -> \"") target ++ (edge_label standing ++ codes "];\n"))

-- an edge to an address with a refusal
abbrev pub refused_end : Standing → Refusal → List ℕ
refused_end standing refusal =
    with_address (codes " -> \"") standing.at ++ (refusal_text refusal ++ (edge_label standing ++ codes ", color=red];\n"))

abbrev pub refused_edge : Standing → Option Refusal → List ℕ
refused_edge standing None = []
refused_edge standing (Some refusal) =
    node_id standing.procedure ++ refused_end standing refusal

-- those of the call at a point, and of its refusal
abbrev pub edge_lines : Code → ReachedPoint → List ℕ
edge_lines code point = call_edge point.standing (called_at code point.standing.at) ++ refused_edge point.standing point.refusal

-- ---- the graph

-- the lines before the boxes: that nothing is proved, with the number of refusals, for readers of the text and of the picture
abbrev pub graph_head : (refusals : ℕ) → List ℕ
graph_head refusals = codes "// NOT PROVED REFUSALS " ++ (decimal refusals
    ++ (codes "\ndigraph calls {\n    label=\"NOT PROVED, REFUSALS " ++ (decimal refusals ++ codes "\";\n    node [shape=box];\n")))

abbrev pub graph_text : Located → List Public → (refusals : ℕ) → List ReachedPoint → List ℕ
graph_text image publics refusals points = graph_head refusals
    ++ (lines_by (box_of image publics) None points ++ (flat_map (edge_lines (code_of image)) points ++ codes "}\n"))
