-- The fixups that LOCATE can't do: the first that refers to a name, and the first that takes the high byte of an address which
-- isn't a multiple of 256; and names that differ in case alone.
-- (ISIS-II User's Guide, LOCATE: unresolved references. That such high bytes are refused is this project's own.)
use Rattle.std.specs.Prelude.{ℕ, Bool, false, not, ◌&&◌, if◌then◌else◌, Option, Some, None, List, [], ◌∷◌, find, map}
use Rattle.std.specs.Option.{option_or}
use Rattle.std.specs.Char.{to_ascii_lowercase}
use Rattle.omf_core.specs.Name.{same_name}
use Rattle.omf_model.specs.declared.fixup.Fixup.{Fixup}
use Rattle.omf_model.specs.declared.fixup.Target.{Target}
use Rattle.omf_model.specs.declared.fixup.Target.TheVariants as target
use Rattle.omf_model.specs.declared.symbols.Public.{Public}
use Rattle.omf_model.specs.Contents.{ContentValue}
use Rattle.omf_model.specs.Modules.{ModuleValue}
use Rattle.omf_model.specs.HighReferences.{loses_with}
use Rattle.omf_model.specs.ImageByte.{name_at}
use Rattle.place80.specs.declared.placed_segments.Placed.{Placed}
use Rattle.place80.specs.Locating.{word_among}
use Rattle.place80.specs.declared.causes.uses.Use.{Use}

-- the first value that the elements of a list give
abbrev pub first_given : {X Y : Type 0} → (X → Option Y) → List X → Option Y
first_given f [] = None
first_given f (x ∷ xs) = option_or (f x) (first_given f xs)

-- the word that each target has, and whether a fixup is sought: where it is in its module, and that word
abbrev pub use_of : (Target → ℕ) → (Fixup → Bool) → ContentValue → Fixup → Option Use
use_of word is_sought c f =
    if is_sought f then Some (record { segment = c.segment; offset = f.offset; word = word f.target }) else None

abbrev pub first_use_in : (Target → ℕ) → (Fixup → Bool) → ContentValue → Option Use
first_use_in word is_sought c = first_given (use_of word is_sought c) c.fixups

-- the first, by content and by record
abbrev pub first_use : (Target → ℕ) → (Fixup → Bool) → List ContentValue → Option Use
first_use word is_sought contents = first_given (first_use_in word is_sought) contents

-- ---- a name

abbrev pub refers_to : (externals : List (List ℕ)) → (name : List ℕ) → Target → Bool
refers_to externals name (target.Segment id) = false
refers_to externals name (target.External index) = same_name (name_at externals index) name

abbrev pub no_word : Target → ℕ
no_word target = 0

abbrev pub first_use_of : ModuleValue → (name : List ℕ) → Option Use
first_use_of m name = first_use no_word (λ f. refers_to m.externals name f.target) m.contents

-- a name that differs, but is the same in lower case
abbrev pub differs_in_case : List ℕ → List ℕ → Bool
differs_in_case other name =
    same_name (map to_ascii_lowercase other) (map to_ascii_lowercase name) && not (same_name other name)

-- the first public with such a name
abbrev pub alike : ModuleValue → (name : List ℕ) → Option Public
alike m name = find (λ p. differs_in_case p.name name) m.publics

-- ---- high bytes

abbrev pub first_high : List Placed → ModuleValue → Option Use
first_high segments m = first_use (word_among segments) (loses_with (word_among segments)) m.contents
