-- Entries that a body repeats. (8080 Object Module Formats: the repeated fields of a record.)
use Rattle.std.specs.Prelude.{◌≡◌, ℕ, ◌<◌, Bool, List, [], ◌∷◌, ◌++◌, length, zero, suc, Result, Ok, Err, IsTrue}
use Rattle.std.specs.List.{flat_map, list_all}
use Rattle.omf_body.specs.declared.fault.FieldFault.{FieldFault}
use Rattle.omf_body.specs.Fields.{◌>>=◌}

-- How entries of one kind lie in a body: the bytes of each, which have listed values, and what the first bytes of a list
-- read as: an entry and the bytes after it, or the fault of its first field that has one.
pub record Layout (E : Type 0) : Type 0 where
  pub bytes : E → List ℕ
  pub is_sound : E → Bool
  pub read : List ℕ → Result (E × List ℕ) FieldFault

-- What is written of an entry is read as that entry, whatever follows; it has a byte at least.
pub record IsLayout (E : Type 0) (layout : Layout E) : Type 0 where
  pub again : (e : E) (rest : List ℕ) → IsTrue (layout.is_sound e) → layout.read (layout.bytes e ++ rest) ≡ Ok (e, rest)
  pub some : (e : E) → 0 < length (layout.bytes e)

-- The bytes are those of the entries, joined.
pub record SpellsRow {E : Type 0} (layout : Layout E) (bytes : List ℕ) (entries : List E) : Type 0 where
  pub joined : bytes ≡ flat_map layout.bytes entries
  pub sound : IsTrue (list_all layout.is_sound entries)

-- The bytes are those of some entries, and then of none: what is left isn't empty, and reads as the fault.
pub record FaultsRow {E : Type 0} (layout : Layout E) (bytes : List ℕ) (fault : FieldFault) : Type 0 where
  pub front : List E
  pub rest : List ℕ
  pub joined : bytes ≡ flat_map layout.bytes front ++ rest
  pub sound : IsTrue (list_all layout.is_sound front)
  pub some : 0 < length rest
  pub here : layout.read rest ≡ Err fault

-- What a row shows of its bytes: the entries, if the bytes spell some, which are then these alone. (Each entry takes a byte
-- at least, so there are at most as many as bytes: that is the number.)
abbrev pub read_row : {E : Type 0} → Layout E → ℕ → List ℕ → Result (List E) FieldFault
read_row layout zero bytes = Ok []
read_row layout (suc n) [] = Ok []
read_row layout (suc n) (b ∷ bytes) = layout.read (b ∷ bytes) >>= λ e. read_row layout n e.1 >>= λ es. Ok (e.0 ∷ es)

abbrev pub entries_or_none : {E : Type 0} → Result (List E) FieldFault → List E
entries_or_none (Ok entries) = entries
entries_or_none (Err fault) = []

unfoldable pub entries_of : {E : Type 0} → Layout E → List ℕ → List E
entries_of layout bytes = entries_or_none (read_row layout (length bytes) bytes)
