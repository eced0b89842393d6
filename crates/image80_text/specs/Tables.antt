-- Tables of publics: for each address the number of the first public there, and that of the nearest one at or below it.
-- (This project's own. What is looked up is `public_at` and `nearest_from`.)
use Rattle.std.specs.Prelude.{◌≡◌, ℕ, ◌<◌, ◌==◌, ◌&&◌, nat_le, is_none, if◌then◌else◌, Option, Some, None, List, [], ◌∷◌, position, slice_get, slice_index_or, slice_set}
use Rattle.std.specs.Option.{option_and_then, option_or}
use Rattle.image80.specs.declared.range.Range.{Range}
use Rattle.omf_model.specs.declared.symbols.Public.{Public}
use Rattle.image80_text.specs.Names.{is_at}
use Rattle.image80_text.specs.NameText.{nearest_from}

-- what a table has for an address
abbrev pub entry_at : List (Option ℕ) → ℕ → Option ℕ
entry_at table address = slice_index_or table address None

-- the public with a number
abbrev pub public_with : List Public → Option ℕ → Option Public
public_with publics number = option_and_then (slice_get publics) number

-- for each address the number of the first public there
abbrev pub AreFirst : List Public → List (Option ℕ) → Type 0
AreFirst publics table = (address : ℕ) → address < 65536 → entry_at table address ≡ position (is_at address) publics

-- for each address the nearest public at or below it, of several there the first
abbrev pub AreNearest : List Public → List (Option ℕ) → Type 0
AreNearest publics table =
    (address : ℕ) → address < 65536 → public_with publics (entry_at table address) ≡ nearest_from publics address address

-- ---- how they are made and read

-- a public is noted at its address, unless an earlier one is there
abbrev pub noted : List (Option ℕ) → Public → (number : ℕ) → List (Option ℕ)
noted table p number =
    if p.segment == 0 && is_none (entry_at table p.offset) then slice_set table p.offset (Some number) else table

-- each entry, or if it is none the last one before it that isn't
unfoldable pub filled_from : (last : Option ℕ) → List (Option ℕ) → List (Option ℕ)
filled_from last [] = []
filled_from last (entry ∷ entries) = option_or entry last ∷ filled_from (option_or entry last) entries

-- a public that isn't below an address
abbrev pub not_below : ℕ → Option Public → Option Public
not_below first None = None
not_below first (Some p) = if nat_le first p.offset then Some p else None

-- the nearest public at or below an address that isn't below the range
abbrev pub nearest_within : List Public → Option Range → (address : ℕ) → Option Public
nearest_within publics range address =
    option_and_then (λ r. not_below r.first (nearest_from publics address address)) range
