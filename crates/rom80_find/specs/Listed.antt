-- The first of the addresses at which code lies, and how many there are.
use Rattle.std.specs.Prelude.{◌≡◌, ℕ, List, length, take}
use Rattle.rom80_find.specs.declared.places.Places.{Places}

-- the addresses that are kept are the first sixteen of a list, and the count is that of the list
pub record Shows (places : Places) (all : List ℕ) : Type 0 where
  pub first_are : places.first.items ≡ take 16 all
  pub count_is : places.count ≡ length all

-- they are those of a list of which something holds
pub record Lists (Are : List ℕ → Type 0) (places : Places) : Type 0 where
  pub all : List ℕ
  pub are : Are all
  pub shows : Shows places all
