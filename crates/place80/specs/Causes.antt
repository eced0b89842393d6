-- Where in a module the cause of a fault of LOCATE is, line by line.
-- (ISIS-II User's Guide, LOCATE: unresolved references, overlapping and out of bounds segments. The form of the lines is this
-- project's own.)
use Rattle.std.specs.Prelude.{ℕ, ◌%◌, nat_lt, if◌then◌else◌, Option, List, [], ◌∷◌, ◌++◌, codes}
use Rattle.std.specs.Option.{option_map_or}
use Rattle.text80.specs.Digits.{word_text}
use Rattle.omf_core.specs.SegmentId.{code_id, segment_word}
use Rattle.omf_model.specs.declared.symbols.Common.{Common}
use Rattle.omf_model.specs.declared.symbols.Public.{Public}
use Rattle.omf_model.specs.Modules.{ModuleValue}
use Rattle.place80.specs.declared.options.Options.{Options}
use Rattle.place80.specs.declared.placed_segments.Placed.{Placed}
use Rattle.place80.specs.declared.place_fault.PlaceFault.{PlaceFault}
use Rattle.place80.specs.declared.place_fault.PlaceFault.TheVariants.{Unresolved, NoStart, OutsideMemory, Overlap, HighNotPaged, StartNotCode, Memory}
use Rattle.place80.specs.Layout.{layout_of, place_among, placed_in}
use Rattle.place80.specs.declared.causes.uses.Use.{Use}
use Rattle.omf_text.specs.Places.{common_part, place_words}
use Rattle.place80.specs.Uses.{first_use_of, alike, first_high}
use Rattle.place80.specs.PlaceFault.{first_outside, all_pairs, first_sharing}
use Rattle.place80.specs.Restart.{restart_pairs}

-- ---- an unresolved name: the first fixup that refers to it, and a public whose name differs in case alone

abbrev pub use_line : List Common → Use → List ℕ
use_line commons u = codes "  " ++ (place_words commons u.segment u.offset ++ codes " refers to it\n")

abbrev pub alike_line : Public → List ℕ
alike_line p = codes "  the public " ++ (p.name ++ codes " differs in case alone\n")

abbrev pub unresolved_text : ModuleValue → (name : List ℕ) → List ℕ
unresolved_text m name =
    option_map_or (use_line m.commons) (first_use_of m name) [] ++ option_map_or alike_line (alike m name) []

-- ---- placed segments: the word, the first address and the length of each

-- An address up to 10000, or a length: four digits, five if it is 10000. No segment before the first that is outside memory ends
-- above that, so no base of these is greater.
abbrev pub number_text : ℕ → List ℕ
number_text n = if nat_lt n 65536 then word_text n else 49 ∷ word_text (n % 65536)

abbrev pub placed_line : List Common → Placed → List ℕ
placed_line commons p =
    codes "  " ++ (segment_word p.id ++ 32 ∷ (number_text p.base ++ 32 ∷ (number_text p.length ++ (common_part commons p.id ++ 10 ∷ []))))

abbrev pub outside_text : ModuleValue → List Placed → List ℕ
outside_text m segments = option_map_or (placed_line m.commons) (first_outside m segments) []

abbrev pub pair_lines : List Common → Placed × Placed → List ℕ
pair_lines commons pq = placed_line commons pq.0 ++ placed_line commons pq.1

-- the first two that share an address, those of the program before those with a restart
abbrev pub first_overlap : ModuleValue → List Placed → Option (Placed × Placed)
first_overlap m segments = first_sharing (all_pairs m segments ++ restart_pairs m segments)

abbrev pub overlap_text : ModuleValue → List Placed → List ℕ
overlap_text m segments = option_map_or (pair_lines m.commons) (first_overlap m segments) []

-- ---- a high byte: the module, the address, and where the fixup is

abbrev pub high_line : ModuleValue → Use → List ℕ
high_line m u =
    codes "  " ++ (m.name ++ (codes " uses the high byte of " ++ (word_text u.word
    ++ (codes " at " ++ (place_words m.commons u.segment u.offset ++ 10 ∷ [])))))

abbrev pub high_text : ModuleValue → List Placed → List ℕ
high_text m segments = option_map_or (high_line m) (first_high segments m) []

-- ---- a start outside CODE: its address, and CODE

abbrev pub start_line : List Common → List Placed → ℕ × ℕ → List ℕ
start_line commons segments start =
    codes "  START " ++ (word_text (place_among segments start.0 start.1) ++ (10 ∷ placed_line commons (placed_in segments code_id)))

abbrev pub start_text : ModuleValue → List Placed → List ℕ
start_text m segments = option_map_or (start_line m.commons segments) m.start []

-- ---- the lines of a fault

abbrev pub cause_text : Options → ModuleValue → PlaceFault → List ℕ
cause_text options m (Unresolved name) = unresolved_text m name
cause_text options m NoStart = []
cause_text options m (OutsideMemory id) = outside_text m (layout_of options m)
cause_text options m (Overlap first second) = overlap_text m (layout_of options m)
cause_text options m HighNotPaged = high_text m (layout_of options m)
cause_text options m StartNotCode = start_text m (layout_of options m)
cause_text options m Memory = []
