-- What a page shows of what each procedure of a program needs of its stack. (The lines are those that `calls` prints.)
use Rattle.std.specs.Prelude.{ℕ, List}
use Rattle.std.specs.List.{flat_map}
use Rattle.image80.specs.Image.{Located}
use Rattle.omf_model.specs.declared.symbols.Public.{Public}
use Rattle.verify80_calls.specs.declared.graph.call_graph.Node.{Node}
use Rattle.verify80_calls.specs.ListText.{node_line}

-- each procedure, with its bytes of stack
abbrev pub chart_text : Located → List Public → List Node → List ℕ
chart_text image publics nodes = flat_map (node_line image publics) nodes
