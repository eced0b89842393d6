-- Tables that are read as they are found. (This project's own.)
use Rattle.std.specs.Prelude.{◌≡◌, ℕ, ◌+◌, ◌*◌, ◌<◌, Bool, true, List, All, Option, Some}
use Rattle.image80.specs.Image.{Located, memory_of}
use Rattle.verify80.specs.LookLaws.{fetch_at}
use Rattle.verify80_cases.specs.Suggested.{GoesByTable, compared_byte, could_be_entry, goal_of, loaded_word, stride}
use Rattle.verify80_cases.specs.declared.table.EntryRun.{EntryRun}
use Rattle.verify80_cases.specs.declared.table.Table.{Table}

-- a limit is the byte of the CPI, or more than there are entries
pub data IsLimitOf (image : Located) (comparison : Option ℕ) (limit : ℕ) : Type 0 where
  none : limit ≡ 65536 → IsLimitOf image comparison limit
  compared : (cpi : ℕ) → comparison ≡ Some cpi → compared_byte (fetch_at image.regions (memory_of image.chunks) cpi) ≡ Some limit →
      IsLimitOf image comparison limit

-- the first entry of a table is at the word of its LXI
pub record IsRunOf (image : Located) (table : Table) (run : EntryRun) : Type 0 where
  pub kind : run.kind ≡ table.kind
  pub loaded : loaded_word (fetch_at image.regions (memory_of image.chunks) table.lxi) ≡ Some run.first
  pub is_limit : IsLimitOf image table.comparison run.limit

-- what is left of a table behind as many entries as were read
pub record IsRest (image : Located) (reached : List Bool) (rest : EntryRun) : Type 0 where
  pub at : ℕ
  pub table : ℕ
  pub limit : ℕ
  pub by : GoesByTable image reached at rest.kind table limit
  pub number : ℕ
  pub first : rest.first ≡ table + stride rest.kind * number
  pub left : rest.limit + number ≡ limit
  pub passed : (k : ℕ) → k < number → could_be_entry rest.kind image (table + stride rest.kind * k) ≡ true

-- where the first entry of what is left leads: there is one, and it could be an entry
pub record IsFirstGoal (image : Located) (rest : EntryRun) (goal : ℕ) : Type 0 where
  pub some : 0 < rest.limit
  pub entry : could_be_entry rest.kind image rest.first ≡ true
  pub is : goal ≡ goal_of rest.kind (memory_of image.chunks) rest.first

-- what is left behind its first entry
pub record IsBehindFirst (rest next : EntryRun) : Type 0 where
  pub kind : next.kind ≡ rest.kind
  pub first : next.first ≡ rest.first + stride rest.kind
  pub limit : next.limit + 1 ≡ rest.limit

abbrev pub AreRests : Located → (reached : List Bool) → List EntryRun → Type 0
AreRests image reached rests = All (IsRest image reached) rests
