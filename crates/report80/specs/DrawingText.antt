-- What the drawing of a program's calls shows: a box for each procedure. (That as many as sixty are drawn is this project's own.)
use Rattle.std.specs.Prelude.{◌<◌, ◌≤◌, ℕ, List, [], ◌∷◌, ◌++◌, codes, length, nat_le, if◌then◌else◌}
use Rattle.std.specs.Fmt.{decimal}
use Rattle.std.specs.List.{flat_map}
use Rattle.text80.specs.Digits.{word_text}
use Rattle.image80.specs.Image.{Located}
use Rattle.image80_text.specs.NameText.{name_text}
use Rattle.omf_model.specs.declared.symbols.Public.{Public}
use Rattle.page80.specs.declared.picture.Frame.{Frame}
use Rattle.verify80_calls.specs.declared.graph.call_graph.Node.{Node}

-- a box has the address of a procedure with its name, and its bound
abbrev pub box_text : Located → List Public → Node → List ℕ
box_text image publics node =
    (word_text node.address ++ name_text image.regions.code publics node.address) ++ (10 ∷ [] ++ (codes "BOUND " ++ (decimal node.bound ++ 10 ∷ [])))

abbrev pub boxes_text : Located → List Public → List Node → List ℕ
boxes_text image publics nodes = flat_map (box_text image publics) nodes

-- sixty procedures are drawn, more aren't
abbrev pub drawing_text : Located → List Public → List Node → List ℕ
drawing_text image publics nodes = if nat_le (length nodes) 60 then boxes_text image publics nodes else []

-- a drawing with room for a box
pub record IsBoard (frame : Frame) : Type 0 where
  pub wide : 150 ≤ frame.width
  pub high : 50 ≤ frame.height
  pub width : frame.width < 10000
  pub height : frame.height < 10000
