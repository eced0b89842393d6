-- The lines of a module in a dump.
-- (ISIS-II User's Guide, LOCATE: bases of segments, the top of STACK. The form of the lines is this project's own.)
use Rattle.std.specs.Prelude.{ℕ, ◌-◌, ◌==◌, nat_lt, if◌then◌else◌, List, [], ◌∷◌, ◌++◌, codes, slice_get}
use Rattle.std.specs.List.{flat_map}
use Rattle.std.specs.Option.{option_map_or}
use Rattle.std.specs.Fmt.{decimal}
use Rattle.text80.specs.Digits.{word_text}
use Rattle.omf_core.specs.SegmentId.{stack_id}
use Rattle.omf_model.specs.declared.fixup.Target.{Target}
use Rattle.omf_model.specs.declared.fixup.Target.TheVariants as target
use Rattle.omf_model.specs.declared.symbols.Common.{Common}
use Rattle.omf_model.specs.Modules.{ModuleValue}
use Rattle.omf_text.specs.Places.{place_words}
use Rattle.rom80_pattern.specs.Modules.{code_length}
use Rattle.rom80_find.specs.declared.words.Word.{Word}

-- ---- the line of a place: its address, the length of CODE, the module's name, and the bases of segments, the top of STACK last

abbrev pub extent_words : (address length : ℕ) → List ℕ
extent_words address length = codes "MODULE " ++ (word_text address ++ 32 ∷ word_text length)

abbrev pub heading : ModuleValue → (address : ℕ) → List ℕ
heading m address = extent_words address (code_length m) ++ 32 ∷ m.name

-- a segment, its base, and a named common's name
abbrev pub base_words : List Common → (id base : ℕ) → List ℕ
base_words commons id base = 32 ∷ place_words commons id base

-- a target with its word is a base, if it is a segment but STACK
abbrev pub base_of : List Common → Target → (word : ℕ) → List ℕ
base_of commons (target.Segment id) word = if id == stack_id then [] else base_words commons id word
base_of commons (target.External index) word = []

abbrev pub base_part : List Common → Word → List ℕ
base_part commons w = base_of commons w.target w.word

-- a target with its word is the top, if it is STACK
abbrev pub top_of : Target → (word : ℕ) → List ℕ
top_of (target.Segment id) word = if id == stack_id then codes " TOP " ++ word_text word else []
top_of (target.External index) word = []

abbrev pub top_part : Word → List ℕ
top_part w = top_of w.target w.word

abbrev pub place_line : ModuleValue → (address : ℕ) → List Word → List ℕ
place_line m address words = heading m address ++ (flat_map (base_part m.commons) words ++ (flat_map top_part words ++ 10 ∷ []))

-- ---- below it the names that the module needs, each with its address

abbrev pub name_line : (address : ℕ) → (name : List ℕ) → List ℕ
name_line address name = codes "  " ++ (word_text address ++ 32 ∷ (name ++ 10 ∷ []))

abbrev pub name_of : List (List ℕ) → Target → (word : ℕ) → List ℕ
name_of externals (target.Segment id) word = []
name_of externals (target.External index) word = option_map_or (name_line word) (slice_get externals index) []

abbrev pub needed_line : List (List ℕ) → Word → List ℕ
needed_line externals w = name_of externals w.target w.word

-- the lines of a place
abbrev pub place_text : ModuleValue → (address : ℕ) → List Word → List ℕ
place_text m address words = place_line m address words ++ flat_map (needed_line m.externals) words

-- ---- lines of numbers, in decimal, and of names

-- how many places there are beyond sixteen, if there are any
abbrev pub more_line : (count : ℕ) → List ℕ
more_line count = if nat_lt 16 count then codes "MORE " ++ (decimal (count - 16) ++ 10 ∷ []) else []

abbrev pub missing_line : (name : List ℕ) → List ℕ
missing_line name = codes "MISSING " ++ (name ++ 10 ∷ [])

abbrev pub short_line : (name : List ℕ) → List ℕ
short_line name = codes "SHORT " ++ (name ++ 10 ∷ [])

-- how many modules of a library are missing, and how many it has
abbrev pub count_line : (missing all : ℕ) → List ℕ
count_line missing all = codes "MISSING " ++ (decimal missing ++ (codes " OF " ++ (decimal all ++ 10 ∷ [])))
