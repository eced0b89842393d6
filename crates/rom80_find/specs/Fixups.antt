-- The bytes of a module's code in fixups.
use Rattle.std.specs.Prelude.{◌≡◌, ◌≢◌, ℕ, ◌+◌, ◌%◌, ◌<◌, not, Bool, true, List, [], ◌∷◌, filter}
use Rattle.std.specs.List.{AllByRecursion, list_all}
use Rattle.std.specs.List.Sorted.{IsNonDecreasingBy, IsPermutation}
use Rattle.rom80_find.specs.Dump.{DumpValue}
use Rattle.rom80_pattern.specs.declared.code_byte.CodeByte.{CodeByte}
use Rattle.rom80_pattern.specs.CodeBytes.{number_of, is_plain}
use Rattle.rom80_find.specs.Marks.{has_row}
use Rattle.rom80_find.specs.Places.{fits, is_known}

-- the bytes come by ascending numbers of their targets
abbrev pub AreSorted : List CodeByte → Type 0
AreSorted bytes = IsNonDecreasingBy (λ b. number_of b.target) bytes

-- the bytes of the code in fixups, in this order
pub record AreFixupsOf (code fixups : List CodeByte) : Type 0 where
  pub same : IsPermutation (filter (λ b. not (is_plain b)) code) fixups
  pub sorted : AreSorted fixups

-- the dump has a byte in place of each of these, with CODE at the address
abbrev pub are_there : DumpValue → (address : ℕ) → List CodeByte → Bool
are_there dump address bytes = list_all (λ b. has_row dump 256 ((address + b.offset) % 65536)) bytes

-- the number of the first one's target
abbrev pub first_number : List CodeByte → ℕ
first_number [] = 0
first_number (b ∷ bytes) = number_of b.target

-- none of the first ones is of the target of one of the others
abbrev pub AreApart : (bytes others : List CodeByte) → Type 0
AreApart bytes others = AllByRecursion (λ b. AllByRecursion (λ c. number_of b.target ≢ number_of c.target) others) bytes

-- all are of the target with this number
abbrev pub AreOf : (number : ℕ) → List CodeByte → Type 0
AreOf number bytes = AllByRecursion (λ b. number_of b.target ≡ number) bytes

-- with this word as their target's value the dump has all the bytes, with CODE at the address
abbrev pub all_fit : DumpValue → (address : ℕ) → List CodeByte → (word : ℕ) → Bool
all_fit dump address bytes word = list_all (λ b. fits dump address b word) bytes

-- there is such a word, which the target with this number may have
pub record HasWord (dump : DumpValue) (address number : ℕ) (bytes : List CodeByte) : Type 0 where
  pub word : ℕ
  pub small : word < 65536
  pub known : is_known address number word ≡ true
  pub fit : all_fit dump address bytes word ≡ true
