-- The twelve unused first bytes, computed over all 256.
use Rattle.std.proofs.Common.{◌≡◌, ℕ, ◌<◌, ◌↔◌, Bool, true, List, Option, Some, None, refl, ap, sym, ◌∙◌, length, get_or, map, arith, Contains, nat_eq}
use Rattle.std.specs.Option.{is_none, option_map}
use Rattle.std.specs.List.{range_with_len, list_any}
use Rattle.std.proofs.lemmas.Bool.{eqb-true}
use Rattle.std.proofs.lemmas.List.FromFn.{get_or-map-range_with_len}
use Rattle.std.proofs.lemmas.Map.Views.{Contains-from_any, list_any-from_Contains}
use Rattle.std.proofs.lemmas.Cmp.{nat_eq_equiv}
use Rattle.decode80.specs.declared.instr.Instr.{Instr}
use Rattle.decode80.specs.Spelling.{spelling, unused_bytes}
use Rattle.decode80.specs.Decoded.{row, completed, decoded, length_at}

-- whether a first byte is one of the twelve
abbrev is_unused : ℕ → Bool
is_unused first = list_any (nat_eq first) unused_bytes

-- whether a first byte has no row
abbrev has_no_row : ℕ → Bool
has_no_row first = is_none (row first)

unused-computed : map has_no_row (range_with_len 0 256) ≡ map is_unused (range_with_len 0 256)
unfolding row
unused-computed = refl

at_byte : (test : ℕ → Bool) (first : ℕ) → first < 256 → get_or (map test (range_with_len 0 256)) first true ≡ test first
at_byte test first below = get_or-map-range_with_len test 0 256 first first true below (omega arith)

pub has_no_row-is_unused : (first : ℕ) → first < 256 → has_no_row first ≡ is_unused first
has_no_row-is_unused first below =
    sym (at_byte has_no_row first below) ∙ ap (λ (tests : List Bool). get_or tests first true) unused-computed ∙ at_byte is_unused first below

none-from_test : {X : Type 0} (o : Option X) → is_none o ≡ true → o ≡ None
none-from_test None test = refl
none-from_test (Some x) test = cc

pub row-None : (first : ℕ) → first < 256 → (row first ≡ None) ↔ Contains unused_bytes first
row-None first below = (
  (λ (none : row first ≡ None). Contains-from_any eqb-true first unused_bytes (sym (has_no_row-is_unused first below) ∙ ap is_none none)),
  (λ (listed : Contains unused_bytes first). none-from_test (row first) (has_no_row-is_unused first below ∙ list_any-from_Contains nat_eq_equiv first unused_bytes listed)),
)

-- a map of an option keeps whether there is a value
pub option_map-None : {X Y : Type 0} (f : X → Y) (o : Option X) → (option_map f o ≡ None) ↔ (o ≡ None)
option_map-None f None = ((λ h. refl), (λ h. refl))
option_map-None f (Some x) = ((λ h. cc), (λ h. cc))

pub decoded-None : (first second third : ℕ) → first < 256 → (decoded first second third ≡ None) ↔ Contains unused_bytes first
unfolding decoded
decoded-None first second third below =
    let maps = option_map-None (completed second third) (row first) in
    let rows = row-None first below in
    ((λ h. rows.0 (maps.0 h)), (λ h. maps.1 (rows.1 h)))

pub unused_clause : (first second third : ℕ) (r : Option (Instr × ℕ)) → first < 256 → r ≡ decoded first second third → (r ≡ None) ↔ Contains unused_bytes first
unused_clause first second third r below value =
    let decodes = decoded-None first second third below in
    ((λ h. decodes.0 (sym value ∙ h)), (λ h. value ∙ decodes.1 h))

pub length_at-None : (first : ℕ) → first < 256 → (length_at first ≡ None) ↔ Contains unused_bytes first
unfolding length_at
length_at-None first below =
    let maps = option_map-None (λ (i : Instr). length (spelling i)) (row first) in
    let rows = row-None first below in
    ((λ h. rows.0 (maps.0 h)), (λ h. maps.1 (rows.1 h)))

pub unused_length : (first : ℕ) (r : Option ℕ) → first < 256 → r ≡ length_at first → (r ≡ None) ↔ Contains unused_bytes first
unused_length first r below value =
    let lengths = length_at-None first below in
    ((λ h. lengths.0 (sym value ∙ h)), (λ h. value ∙ lengths.1 h))
