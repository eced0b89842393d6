-- The addresses that instructions name: those of variables, and that of the stack. (Intel 8080 Microcomputer Systems User's Manual:
-- STA and LDA name a byte, SHLD and LHLD two, LXI SP the address above the stack.)
use Rattle.std.specs.Prelude.{◌≡◌, ◌+◌, ◌<◌, ◌≤◌, ◌↔◌, ◌⊎◌, ℕ, Bool, false, List, [], ◌++◌, Contains, Option, None, Some, Result, Ok, Err, length, get_or, if◌then◌else◌}
use Rattle.decode80.specs.declared.fetching.Fetched.{Fetched}
use Rattle.decode80.specs.declared.fetching.FetchFault.{FetchFault}
use Rattle.decode80.specs.declared.instr.Instr.{Instr}
use Rattle.decode80.specs.declared.instr.Instr.TheVariants.{Sta, Lda, Shld, Lhld, Lxi}
use Rattle.decode80.specs.declared.pair.Pair.TheVariants.{Sp}
use Rattle.decode80.specs.Fetch.{ahead}
use Rattle.image80.specs.Image.{Located, memory_of}
use Rattle.verify80.specs.LookLaws.{fetch_at}
use Rattle.verify80_suggest.specs.declared.setters.Setter.{Setter}
use Rattle.verify80_cases.specs.Reach.{IsMarked, given}

-- the first byte that an instruction names
abbrev pub first_name : Instr → Option ℕ
first_name (Sta address) = Some address
first_name (Lda address) = Some address
first_name (Shld address) = Some address
first_name (Lhld address) = Some address
first_name _ = None

-- the second one
abbrev pub second_name : Instr → Option ℕ
second_name (Shld address) = Some (ahead address 1)
second_name (Lhld address) = Some (ahead address 1)
second_name _ = None

-- the bytes that what was fetched names
abbrev pub names_of : Result Fetched FetchFault → List ℕ
names_of (Err _) = []
names_of (Ok found) = given (first_name found.instr) ++ given (second_name found.instr)

-- the bytes that the instruction at a marked address names
unfoldable pub names_at : Located → (reached : List Bool) → ℕ → List ℕ
names_at image reached at = if get_or reached at false then names_of (fetch_at image.regions (memory_of image.chunks) at) else []

-- an instruction at a marked address below a limit names an address
pub record IsNamedBelow (image : Located) (reached : List Bool) (limit address : ℕ) : Type 0 where
  pub at : ℕ
  pub below : at < limit
  pub names : Contains (names_at image reached at) address

-- exactly the addresses are marked that instructions at marked addresses below a limit name
pub record AreNamedBelow (image : Located) (reached : List Bool) (limit : ℕ) (named : List Bool) : Type 0 where
  pub size : length named ≡ 65536
  pub exact : (address : ℕ) → IsMarked named address ↔ IsNamedBelow image reached limit address

abbrev pub AreNamed : Located → (reached named : List Bool) → Type 0
AreNamed image reached named = AreNamedBelow image reached 65536 named

-- a list of addresses is marked, and nothing else is changed
pub record Marks (old : List Bool) (names : List ℕ) (new : List Bool) : Type 0 where
  pub size : length new ≡ 65536
  pub marked : (address : ℕ) → Contains names address → IsMarked new address
  pub kept : (address : ℕ) → IsMarked old address → IsMarked new address
  pub only : (address : ℕ) → IsMarked new address → IsMarked old address ⊎ Contains names address

-- the word that an instruction writes to SP
abbrev pub stack_word : Instr → Option ℕ
stack_word (Lxi Sp word) = Some word
stack_word _ = None

abbrev pub word_of : Result Fetched FetchFault → Option ℕ
word_of (Err _) = None
word_of (Ok found) = stack_word found.instr

-- the word that the instruction at a marked address writes to SP
unfoldable pub word_at : Located → (reached : List Bool) → ℕ → Option ℕ
word_at image reached at = if get_or reached at false then word_of (fetch_at image.regions (memory_of image.chunks) at) else None

-- no instruction at a marked address of a range of addresses sets SP
abbrev pub SetsNone : Located → (reached : List Bool) → (from to : ℕ) → Type 0
SetsNone image reached from to = (at : ℕ) → from ≤ at → at < to → word_at image reached at ≡ None

-- the first two instructions at marked addresses that set SP, as addresses and words
pub record IsSetter (image : Located) (reached : List Bool) (from : ℕ) (setter : Setter) : Type 0 where
  pub after : from ≤ setter.at
  pub word : word_at image reached setter.at ≡ Some setter.word
  pub first : SetsNone image reached from setter.at

abbrev pub FirstSetter : Located → (reached : List Bool) → (from : ℕ) → Option Setter → Type 0
FirstSetter image reached from None = SetsNone image reached from 65536
FirstSetter image reached from (Some setter) = IsSetter image reached from setter

abbrev pub SecondSetter : Located → (reached : List Bool) → (first second : Option Setter) → Type 0
SecondSetter image reached None second = second ≡ None
SecondSetter image reached (Some setter) second = FirstSetter image reached (setter.at + 1) second

pub record AreSetters (image : Located) (reached : List Bool) (first second : Option Setter) : Type 0 where
  pub is_first : FirstSetter image reached 0 first
  pub is_second : SecondSetter image reached first second
