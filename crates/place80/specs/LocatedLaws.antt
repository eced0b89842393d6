-- What the regions of a located program are, in terms of addresses.
-- (ISIS-II User's Guide, LOCATE: the segments CODE, DATA, STACK and MEMORY, and the stack's top.)
use Rattle.std.specs.Prelude.{◌≡◌, ℕ, ◌+◌, ◌≤◌, ◌==◌, Bool, ◌&&◌, List, All}
use Rattle.std.specs.List.{list_any}
use Rattle.omf_model.specs.Segments.{code_id, stack_id}
use Rattle.place80.specs.declared.placed_segments.Placed.{Placed}
use Rattle.image80.specs.Range.{in_range}
use Rattle.image80.specs.Regions.{Areas, Arranges, in_code, in_data, top_of}
use Rattle.place80.specs.Layout.{placed_in, top_in}
use Rattle.place80.specs.PlaceFault.{is_in_placed}
use Rattle.place80.specs.Locating.{is_data, located_code, located_stack, located_data}

-- whether an address is in one of the segments whose ids are chosen
abbrev pub is_in_any : (ℕ → Bool) → List Placed → ℕ → Bool
is_in_any chosen segments address = list_any (λ p. chosen p.id && is_in_placed p address) segments

-- the regions hold the addresses of the segments: code those of CODE, data those of all others but STACK, and the stack those
-- of STACK, which ends where the stack's top is
pub record HoldsSegments (segments : List Placed) (areas : Areas) : Type 0 where
  pub code : (address : ℕ) → in_code areas address ≡ is_in_any (λ id. id == code_id) segments address
  pub data_ranges : (address : ℕ) → in_data areas address ≡ is_in_any is_data segments address
  pub stack : (address : ℕ) → in_range areas.stack address ≡ is_in_placed (placed_in segments stack_id) address
  pub top : top_of areas ≡ top_in segments

-- so do those of a located program, whose segments end with memory or before it
abbrev pub LocatedRegionsHoldSegments : Type 0
LocatedRegionsHoldSegments =
    (segments : List Placed) (areas : Areas)
    → All (λ p. p.base + p.length ≤ 65536) segments
    → Arranges (located_code segments) (located_stack segments) (located_data segments) areas
    → HoldsSegments segments areas
