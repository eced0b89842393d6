-- Bounds of procedures and calls of chains, by address.
use Rattle.std.specs.Prelude.{◌≡◌, ℕ, ◌<◌, ◌==◌, Bool, false, List, length, slice_index, slice_index_or}
use Rattle.std.specs.List.{list_any}
use Rattle.frames80.specs.declared.procedure.Procedure.TheVariants.{Entry}
use Rattle.verify80_calls.specs.declared.graph.call_graph.Node.{Node}
use Rattle.verify80_calls.specs.declared.graph.chain.Link.{Link}
use Rattle.verify80_calls.specs.Nodes.{bound_of}

-- the bound of each entry
pub record AreBounds (nodes : List Node) (bounds : List ℕ) : Type 0 where
  pub whole : length bounds ≡ 65536
  pub each : (entry : ℕ) → entry < 65536 → slice_index bounds entry ≡ bound_of nodes (Entry entry)

-- whether a call stands at an address
abbrev pub stands_at : (at : ℕ) → Link → Bool
stands_at at link = link.call.at == at

-- the addresses at which calls of a chain stand
pub record AreMarks (chain : List Link) (marks : List Bool) : Type 0 where
  pub whole : length marks ≡ 65536
  pub each : (at : ℕ) → slice_index_or marks at false ≡ list_any (stands_at at) chain
