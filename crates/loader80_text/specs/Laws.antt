-- The text of repeated bytes is a text of inputs, by the loader's definition. (This project's own.)
use Rattle.std.specs.Prelude.{◌≡◌, ℕ, None, List}
use Rattle.loader80.specs.InputsText.{bad_line, inputs_of}
use Rattle.loader80_text.specs.declared.inputs.repeated.Repeated.{Repeated}
use Rattle.loader80_text.specs.Text.{pairs_of}

-- each of its lines is one of inputs, and they spell these bytes
pub record SpellsInputs (inputs : List Repeated) (text : List ℕ) : Type 0 where
  pub lines : bad_line text ≡ None
  pub pairs : inputs_of text ≡ pairs_of inputs
