-- The text that spells repeated bytes, a line for each, and what it spells. (The form of the lines is the loader's.)
use Rattle.std.specs.Prelude.{◌<◌, ℕ, List, [], ◌∷◌, ◌++◌, replicate}
use Rattle.std.specs.List.{flat_map}
use Rattle.hex.specs.Hex.{encode_upper}
use Rattle.loader80_text.specs.declared.inputs.repeated.Repeated.{Repeated}

-- what a line has before its line feed: the port, a space, and the byte a given number of times
abbrev pub content_of : Repeated → List ℕ
content_of r = encode_upper (r.port ∷ []) ++ 32 ∷ encode_upper (replicate r.count r.byte)

abbrev pub line_of : Repeated → List ℕ
line_of r = content_of r ++ 10 ∷ []

-- the text of all lines
abbrev pub text_of : List Repeated → List ℕ
text_of inputs = flat_map line_of inputs

-- what is spelled: each byte with its port, a given number of times
abbrev pub pairs_of : List Repeated → List (ℕ × ℕ)
pairs_of inputs = flat_map (λ (r : Repeated). replicate r.count (r.port, r.byte)) inputs

-- ports and bytes are such, and each byte waits once at least
pub record IsRepeated (r : Repeated) : Type 0 where
  pub some : 0 < r.count
  pub port : r.port < 256
  pub byte : r.byte < 256
