-- The values of targets that a dump leaves only one word for.
use Rattle.std.specs.Prelude.{◌≡◌, ◌↔◌, ℕ, ◌%◌, ◌<◌, ◌≤◌, ◌==◌, ◌&&◌, nat_le, nat_lt, Bool, true, false, List, slice_index_or}
use Rattle.std.specs.List.{list_any, All, AllPairs}
use Rattle.rom80_find.specs.Dump.{DumpValue}
use Rattle.rom80_pattern.specs.declared.code_byte.CodeByte.{CodeByte}
use Rattle.rom80_pattern.specs.CodeBytes.{number_of, has_small_id}
use Rattle.rom80_find.specs.declared.candidates.Candidates.{Candidates}
use Rattle.rom80_find.specs.declared.candidates.Candidates.TheVariants.{Any, Low, Window}
use Rattle.rom80_find.specs.declared.words.Word.{Word}
use Rattle.rom80_find.specs.Places.{LiesAt, IsOnly}

-- the value with this number has this word
abbrev pub has_word : List Word → (number word : ℕ) → Bool
has_word words number word = list_any (λ w. number_of w.target == number && w.word == word) words

-- The words are those of the values that have only one, but for absolute bytes and CODE.
pub record AreOnlyWords (dump : DumpValue) (code : List CodeByte) (address count : ℕ) (words : List Word) : Type 0 where
  pub lies : LiesAt dump code address
  pub within : (number word : ℕ) → has_word words number word ≡ true → (2 ≤ number) × (number < count)
  pub each : (number word : ℕ) → 2 ≤ number → number < count →
      (has_word words number word ≡ true) ↔ ((word < 65536) × IsOnly dump code address number word)

-- the words come by ascending numbers of their targets
abbrev pub AreAscending : List Word → Type 0
AreAscending words = AllPairs (λ (v w : Word). number_of v.target < number_of w.target) words

-- the word's target is one that its number alone says
abbrev pub IsOfATarget : Word → Type 0
IsOfATarget w = has_small_id w.target ≡ true

-- the words come by ascending numbers of their targets, all below one
pub record AreAscendingBelow (stop : ℕ) (words : List Word) : Type 0 where
  pub below : All (λ (w : Word). number_of w.target < stop) words
  pub ascending : AreAscending words

-- this word is the only candidate
abbrev pub is_single : Candidates → ℕ → Bool
is_single Any word = false
is_single (Low low) word = false
is_single (Window first more) word = more == 0 && first % 65536 == word

-- the words are the single candidates of a table, for the numbers from 2 up to one
pub record AreSingle (table : List Candidates) (stop : ℕ) (words : List Word) : Type 0 where
  pub each : (number word : ℕ) → has_word words number word ≡ (nat_le 2 number && (nat_lt number stop && is_single (slice_index_or table number Any) word))
