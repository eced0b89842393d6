-- The source of an image. (That it begins with the names of ports and of addresses is this project's own.)
use Rattle.std.specs.Prelude.{◌≡◌, ℕ, List, Option, All}
use Rattle.std.specs.List.{flat_map}
use Rattle.decode80.specs.declared.fetching.Fetched.{Fetched}
use Rattle.image80.specs.Image.{Located}
use Rattle.omf_model.specs.declared.symbols.Public.{Public}
use Rattle.image80_source.specs.declared.line.Line.{Line}
use Rattle.image80_source.specs.Labels.{LabelTables}
use Rattle.image80_source.specs.Lines.{IsFound, contents_of, line_bytes}
use Rattle.image80_source.specs.SourceText.{source_text}

-- Lines that stand for each byte of the contents once, in order, and instructions only where a table has one; and the text of these
-- lines.
pub record IsSourceOf (image : Located) (publics : List Public) (table : List (Option Fetched)) (shown : List ℕ) : Type 0 where
  pub lines : List Line
  pub labels : LabelTables
  pub bytes : flat_map line_bytes lines ≡ contents_of image.chunks
  pub instructions : All (IsFound table) lines
  pub regions_are : labels.regions ≡ image.regions
  pub publics_are : labels.publics ≡ publics
  pub text_is : shown ≡ source_text labels lines image.start
