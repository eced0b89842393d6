-- The three texts of a bundle: the image in hexadecimal on the first line, the regions up to the first line `INPUTS`, and the
-- inputs.
use Rattle.std.specs.Prelude.{ℕ, List, [], ◌∷◌, ◌++◌, Option, None, Some, codes, if◌then◌else◌}
use Rattle.std.specs.List.{join_with_byte}
use Rattle.std.specs.Option.{option_map}
use Rattle.std.specs.Str.{bytes_eq}
use Rattle.image80.specs.Lines.{parts}
use Rattle.loader80.specs.HexText.{bytes_spelled}
use Rattle.loader80.specs.Texts.{Texts}
use Rattle.loader80_text.specs.declared.bundles.bundle_text.BundleTexts.{BundleTexts}

-- the bytes of the texts that a bundle was parted into
abbrev pub texts_of : BundleTexts → Texts
texts_of parts = record { image = parts.image.items; regions = parts.regions.now; inputs = parts.inputs.now }

-- what stands before and after the line that parts them
pub record Sides : Type 0 where
  pub before : List ℕ
  pub after : List ℕ

-- more bytes in front
abbrev pub sides_after : List ℕ → Sides → Sides
sides_after front sides = record { before = front ++ sides.before; after = sides.after }

-- the text that is cut at its line feeds into these parts
abbrev pub text_joined : List (List ℕ) → List ℕ
text_joined parts = join_with_byte 10 parts

-- the texts before and after the first line `INPUTS`; the last part has no line feed and is no line
abbrev pub sides_of : List (List ℕ) → Option Sides
sides_of [] = None
sides_of (last ∷ []) = None
sides_of (line ∷ next ∷ lines) =
    if bytes_eq line (codes "INPUTS") then Some (record { before = []; after = text_joined (next ∷ lines) })
    else option_map (sides_after (line ++ 10 ∷ [])) (sides_of (next ∷ lines))

-- an image beside the texts that follow it
abbrev pub texts_from : Option (List ℕ) → Option Sides → Option Texts
texts_from (Some image) (Some sides) = Some (record { image = image; regions = sides.before; inputs = sides.after })
texts_from _ _ = None

-- the texts of the parts of a bundle: the first of them is a line only if another one follows
abbrev pub texts_in : List (List ℕ) → Option Texts
texts_in [] = None
texts_in (line ∷ lines) = texts_from (bytes_spelled line) (sides_of lines)

-- the three texts of a bundle, None if it can't be parted so
abbrev pub bundle_texts : List ℕ → Option Texts
bundle_texts bundle = texts_in (parts bundle)
