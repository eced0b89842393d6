-- Nodes that are appended.
use Rattle.std.proofs.Common.{◌≡◌, ℕ, ◌+◌, List, [], ◌∷◌, ◌++◌, map, take, ap, sym, ◌∙◌, append_assoc}
use Rattle.std.proofs.lemmas.List.{map-append}
use Rattle.verify80_flow.specs.declared.report.ProcRow.{ProcRow}
use Rattle.verify80_calls.specs.declared.graph.call_graph.Node.{Node}
use Rattle.verify80_calls.specs.Nodes.{Heading, IsNodeOf, heading_of, row_heading}

-- the heading of one more row
pub one_more : (old : List Heading) (nodes : List Node) (node : Node) (rows : List ProcRow) (i : ℕ) (row : ProcRow)
    → take (i + 1) rows ≡ take i rows ++ row ∷ [] → map heading_of nodes ≡ old ++ map row_heading (take i rows)
    → IsNodeOf row node → map heading_of (nodes ++ node ∷ []) ≡ old ++ map row_heading (take (i + 1) rows)
one_more old nodes node rows i row more before same =
    map-append heading_of nodes (node ∷ []) ∙ ap (λ (h : Heading). map heading_of nodes ++ h ∷ []) same.heading
    ∙ ap (λ (hs : List Heading). hs ++ row_heading row ∷ []) before
    ∙ append_assoc old (map row_heading (take i rows)) (row_heading row ∷ [])
    ∙ ap (λ (hs : List Heading). old ++ hs) (sym (map-append row_heading (take i rows) (row ∷ [])) ∙ ap (map row_heading) (sym more))
