-- Records that follow one another. (8080 Object Module Formats: a module is a sequence of records.)
use Rattle.std.specs.Prelude.{◌≡◌, ℕ, ◌+◌, List, [], ◌∷◌, ◌++◌, length}
use Rattle.omf_core.specs.Record.{SpellsRecord, spelling}

-- a record as a value, wherever its bytes lie
pub record RecordValue : Type 0 where
  pub kind : ℕ
  pub body : List ℕ

-- The bytes from place `from` up to place `to` spell these records, one after another.
abbrev pub SpellsRecords : List ℕ → ℕ → ℕ → List RecordValue → Type 0
SpellsRecords bytes from to [] = from ≡ to
SpellsRecords bytes from to (r ∷ rs) =
    SpellsRecord bytes from (from + 4 + length r.body) r.kind r.body
    × SpellsRecords bytes (from + 4 + length r.body) to rs

-- the bytes that are written for records, one after another
abbrev pub spellings : List RecordValue → List ℕ
spellings [] = []
spellings (r ∷ rs) = spelling r.kind r.body ++ spellings rs
