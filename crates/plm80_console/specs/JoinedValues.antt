-- Values of options that begin with a hyphen: clap takes such a word for an option of its own, unless an equals sign joins it to that before it.
use Rattle.std.specs.Prelude.{ℕ, ◌==◌, ◌&&◌, Bool, not, List, [], ◌∷◌, ◌++◌, codes, is_some, if◌then◌else◌}
use Rattle.std.specs.{List.list_any, Str.bytes_eq}
use Rattle.clap.specs.{Lexer.strip_byte, Walk.Rule}

-- the word is this option, which takes a value
abbrev pub is_option : (word : List ℕ) → Rule → Bool
is_option word rule = not (rule.value_names == 0) && bytes_eq word (codes "--" ++ rule.id)

-- the words of a command with these arguments; those behind `--` stay as they are
abbrev pub joined_values : List Rule → (words : List (List ℕ)) → List (List ℕ)
joined_values rules [] = []
joined_values rules (word ∷ []) = word ∷ []
joined_values rules (word ∷ value ∷ rest) =
    if bytes_eq word (codes "--") then word ∷ value ∷ rest
    else (if list_any (is_option word) rules && is_some (strip_byte 45 value) then (word ++ codes "=" ++ value) ∷ joined_values rules rest
    else word ∷ joined_values rules (value ∷ rest))
