-- The tables of addresses by which a program jumps: words in a row from an address on that an LXI loads, each of them a target that is
-- declared for a PCHL; or such words with a key of one byte before or behind each. (8080 tables of the PL/M-80 compiler's DO CASE: an
-- address is two bytes, low byte first. Which words are taken for a table, and that a key is one byte, is this project's own.)
use Rattle.std.specs.Prelude.{◌≡◌, ◌+◌, ◌-◌, ◌<◌, ◌↔◌, ◌&&◌, ◌||◌, ℕ, Bool, false, not, nat_le, List, [], Contains, length, get_or, if◌then◌else◌}
use Rattle.image80.specs.declared.range.Range.{Range}
use Rattle.image80.specs.Image.{Located, memory_of}
use Rattle.image80.specs.Range.{in_ranges}
use Rattle.verify80.specs.Looking.{declared_targets}
use Rattle.verify80.specs.LookLaws.{fetch_at}
use Rattle.verify80_cases.specs.Marks.{AreMarks, marked}
use Rattle.verify80_cases.specs.Reach.{IsMarked, given}
use Rattle.verify80_cases.specs.Suggested.{is_free, loaded_word, word_in, word_place}
use Rattle.verify80_cases.specs.declared.table.KeyOrder.{KeyOrder}
use Rattle.verify80_cases.specs.declared.table.KeyOrder.TheVariants.{KeyFirst, KeyLast}

-- the word that an LXI at a marked address loads
unfoldable pub loads_at : Located → (reached : List Bool) → ℕ → List ℕ
loads_at image reached at = if get_or reached at false then given (loaded_word (fetch_at image.regions (memory_of image.chunks) at)) else []

-- an LXI at a marked address below a limit loads an address
pub record IsLoadedBelow (image : Located) (reached : List Bool) (limit address : ℕ) : Type 0 where
  pub at : ℕ
  pub below : at < limit
  pub loads : Contains (loads_at image reached at) address

-- exactly the addresses are marked that an LXI at a marked address below a limit loads
pub record AreLoadedBelow (image : Located) (reached : List Bool) (limit : ℕ) (loaded : List Bool) : Type 0 where
  pub size : length loaded ≡ 65536
  pub exact : (address : ℕ) → IsMarked loaded address ↔ IsLoadedBelow image reached limit address

abbrev pub AreLoaded : Located → (reached loaded : List Bool) → Type 0
AreLoaded image reached loaded = AreLoadedBelow image reached 65536 loaded

-- an address is a target that is declared for an address below a limit
pub record IsGoalBelow (image : Located) (limit address : ℕ) : Type 0 where
  pub at : ℕ
  pub below : at < limit
  pub goes : Contains (declared_targets image.regions at) address

-- exactly the targets are marked that are declared for addresses below a limit
pub record AreGoalsBelow (image : Located) (limit : ℕ) (goals : List Bool) : Type 0 where
  pub size : length goals ≡ 65536
  pub exact : (address : ℕ) → IsMarked goals address ↔ IsGoalBelow image limit address

abbrev pub AreGoals : Located → (goals : List Bool) → Type 0
AreGoals image goals = AreGoalsBelow image 65536 goals

-- whether a table may have a word at an address: its two bytes are code and in no instruction that is reached, and it is a target
abbrev pub may_be_word : Located → (covered goals : List Bool) → ℕ → Bool
may_be_word image covered goals address =
    nat_le (address + 2) 65536
    && (is_free image covered address && (is_free image covered (address + 1) && marked goals (word_in (memory_of image.chunks) address)))

-- whether a table may have an entry with a key at an address: its three bytes are code and in no instruction that is reached, and the word
-- beside the key is a target
abbrev pub may_be_keyed : Located → KeyOrder → (covered goals : List Bool) → ℕ → Bool
may_be_keyed image order covered goals address =
    nat_le (address + 3) 65536
    && ((is_free image covered address && (is_free image covered (address + 1) && is_free image covered (address + 2)))
    && marked goals (word_in (memory_of image.chunks) (word_place order address)))

-- whether a table with keys begins at an address that an LXI loads: one of words doesn't; and behind an entry with its key last stands another
abbrev pub begins_keyed : Located → KeyOrder → (covered loaded goals : List Bool) → ℕ → Bool
begins_keyed image KeyFirst covered loaded goals address = marked loaded address && not (may_be_word image covered goals address)
begins_keyed image KeyLast covered loaded goals address =
    marked loaded address && (not (may_be_word image covered goals (address + 2)) && may_be_keyed image KeyLast covered goals (address + 3))

-- whether a table has an entry of `size` bytes at an address: it may, and the table begins there or goes on behind the entry before
abbrev pub has_entry : (size : ℕ) → (begins may : ℕ → Bool) → (marks : List Bool) → ℕ → Bool
has_entry size begins may marks address = (begins address || (nat_le size address && marked marks (address - size))) && may address

-- exactly the addresses below a limit are marked at which a table has an entry
pub record AreEntriesBelow (size : ℕ) (begins may : ℕ → Bool) (limit : ℕ) (marks : List Bool) : Type 0 where
  pub count : length marks ≡ limit
  pub exact : (address : ℕ) → address < limit → marked marks address ≡ has_entry size begins may marks address

-- whether a table of words has one at an address
abbrev pub is_word : Located → (covered loaded goals words : List Bool) → ℕ → Bool
is_word image covered loaded goals words address = has_entry 2 (marked loaded) (may_be_word image covered goals) words address

abbrev pub AreWordsBelow : Located → (covered loaded goals : List Bool) → (limit : ℕ) → (words : List Bool) → Type 0
AreWordsBelow image covered loaded goals limit words = AreEntriesBelow 2 (marked loaded) (may_be_word image covered goals) limit words

-- whether a table with keys has an entry at an address
abbrev pub is_keyed : Located → KeyOrder → (covered loaded goals marks : List Bool) → ℕ → Bool
is_keyed image order covered loaded goals marks address =
    has_entry 3 (begins_keyed image order covered loaded goals) (may_be_keyed image order covered goals) marks address

abbrev pub AreKeyedBelow : Located → KeyOrder → (covered loaded goals : List Bool) → (limit : ℕ) → (marks : List Bool) → Type 0
AreKeyedBelow image order covered loaded goals limit marks =
    AreEntriesBelow 3 (begins_keyed image order covered loaded goals) (may_be_keyed image order covered goals) limit marks

-- whether an address is in a word, or in an entry with a key
abbrev pub in_word : (words : List Bool) → ℕ → Bool
in_word words address = marked words address || (nat_le 1 address && marked words (address - 1))

abbrev pub in_keyed : (marks : List Bool) → ℕ → Bool
in_keyed marks address = in_word marks address || (nat_le 2 address && marked marks (address - 2))

-- whether an address is in a table
abbrev pub in_table : (words firsts lasts : List Bool) → ℕ → Bool
in_table words firsts lasts address = in_word words address || (in_keyed firsts address || in_keyed lasts address)

-- exactly the addresses are marked that are in a table, for tables that begin where a reached LXI points
pub record AreTables (image : Located) (reached covered tables : List Bool) : Type 0 where
  pub loaded : List Bool
  pub are_loaded : AreLoaded image reached loaded
  pub goals : List Bool
  pub are_goals : AreGoals image goals
  pub words : List Bool
  pub are_words : AreWordsBelow image covered loaded goals 65536 words
  pub firsts : List Bool
  pub are_firsts : AreKeyedBelow image KeyFirst covered loaded goals 65536 firsts
  pub lasts : List Bool
  pub are_lasts : AreKeyedBelow image KeyLast covered loaded goals 65536 lasts
  pub are_tables : AreMarks (in_table words firsts lasts) 65536 tables

-- whether an address is to be code: it is in an instruction that is reached, or in a table, and that in none of the ranges of RAM
abbrev pub is_code : (covered tables : List Bool) → (ram : List Range) → ℕ → Bool
is_code covered tables ram address = marked covered address || (marked tables address && not (in_ranges ram address))
