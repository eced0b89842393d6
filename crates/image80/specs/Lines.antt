-- Texts over whole lines.
-- (The texts are this project's own. A line ends with one line feed, and not with a carriage return and a line feed as in the
-- files of the ISIS-II User's Guide.)
use Rattle.std.specs.Prelude.{◌==◌, ℕ, Bool, List, [], ◌∷◌, ◌++◌}
use Rattle.std.specs.List.{slice_split, flat_map}

-- whether a byte is a line feed
abbrev pub is_line_feed : ℕ → Bool
is_line_feed byte = byte == 10

-- the parts of a text between its line feeds: one more than there are line feeds
abbrev pub parts : List ℕ → List (List ℕ)
parts text = slice_split is_line_feed text

-- the text of lines, each with its line feed
abbrev pub text_of : List (List ℕ) → List ℕ
text_of lines = flat_map (λ line. line ++ 10 ∷ []) lines
