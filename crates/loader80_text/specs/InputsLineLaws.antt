-- Where a bundle's regions end and its inputs begin, in other words: at the first line `INPUTS`. (It follows from the
-- definitions.)
use Rattle.std.specs.Prelude.{◌≡◌, ◌<◌, ◌↔◌, ℕ, false, Some, codes, List, [], ◌∷◌, ◌++◌, length, IsTrue}
use Rattle.std.specs.List.{AllByRecursion, flat_map}
use Rattle.std.specs.Str.{bytes_eq}
use Rattle.loader80_text.specs.BundleText.{Sides, sides_of, text_joined}

-- the lines, each with its line feed
abbrev pub lines_text : List (List ℕ) → List ℕ
lines_text lines = flat_map (λ line. line ++ 10 ∷ []) lines

-- The parts have a line `INPUTS`, which others follow, and no line before it is one. The lines before it are the one text, and
-- the parts after it, joined by line feeds, the other.
pub record IsParted (parts : List (List ℕ)) (sides : Sides) : Type 0 where
  pub earlier : List (List ℕ)
  pub line : List ℕ
  pub later : List (List ℕ)
  pub whole : parts ≡ earlier ++ line ∷ later
  pub is : IsTrue (bytes_eq line (codes "INPUTS"))
  pub others : AllByRecursion (λ l. bytes_eq l (codes "INPUTS") ≡ false) earlier
  pub followed : 0 < length later
  pub before : sides.before ≡ lines_text earlier
  pub after : sides.after ≡ text_joined later

-- the texts are parted exactly so
abbrev pub PartedAtTheFirst : Type 0
PartedAtTheFirst = (parts : List (List ℕ)) (sides : Sides) → sides_of parts ≡ Some sides ↔ IsParted parts sides
