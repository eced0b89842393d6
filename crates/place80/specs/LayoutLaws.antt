-- What it means that segments are laid out, said of the whole list of them and of each two neighbours, that segments overlap,
-- and that they fit. (ISIS-II User's Guide, LOCATE: the order of segments, their bases, and the sizes of STACK and MEMORY.)
use Rattle.std.specs.Prelude.{◌≡◌, ◌↔◌, ℕ, ◌+◌, ◌≤◌, ◌==◌, true, false, unwrap_or, None, List, [], ◌∷◌, map, length, All, AllPairs, IsTrue}
use Rattle.std.specs.List.{AllByRecursion, list_any}
use Rattle.omf_model.specs.Contents.{ContentValue}
use Rattle.omf_model.specs.Segments.{absolute_id, memory_id, has_common_id, has_segment}
use Rattle.omf_model.specs.Modules.{ModuleValue}
use Rattle.omf_model.specs.Place.{rounded, place_in}
use Rattle.omf_model.specs.Rules.{each_after, is_new_common}
use Rattle.place80.specs.declared.options.Options.{Options}
use Rattle.place80.specs.declared.placed_segments.Placed.{Placed}
use Rattle.place80.specs.Layout.{default_base, order_of, given_base, given_length, own_segment, place_among, bases_of, layout_of}
use Rattle.place80.specs.PlaceFault.{overlaps, is_in_placed, absolute_place, layout_fault}

-- it has the length that is given for it, or its own
abbrev pub HasItsLength : Options → ModuleValue → Placed → Type 0
HasItsLength options m p = p.length ≡ unwrap_or (given_length options p.id) (own_segment m p.id).length

-- it stands at the base that is given for it, or at the end of the one before it, at the next multiple of 256 if it is
-- paged
abbrev pub Follows : Options → ModuleValue → Placed → Placed → Type 0
Follows options m before p =
    p.base ≡ unwrap_or (given_base options p.id) (rounded (own_segment m p.id).paged (before.base + before.length))

-- each stands so after the one before it
abbrev pub AllFollow : Options → ModuleValue → Placed → List Placed → Type 0
AllFollow options m before [] = Unit {0}
AllFollow options m before (p ∷ ps) = Follows options m before p × AllFollow options m p ps

-- the segments of the program in their order, CODE at the base that is given for it or at 3000h
pub record IsLaidOut (options : Options) (m : ModuleValue) (segments : List Placed) : Type 0 where
  pub code : Placed
  pub others : List Placed
  pub whole : segments ≡ code ∷ others
  pub order : map (λ p. p.id) segments ≡ order_of m.commons
  pub lengths : AllByRecursion (HasItsLength options m) segments
  pub first : code.base ≡ unwrap_or options.code default_base
  pub follow : AllFollow options m code others

-- the layout is laid out, and no other list of segments is
abbrev pub LayoutIsLaidOut : Type 0
LayoutIsLaidOut = (options : Options) (m : ModuleValue) → IsLaidOut options m (layout_of options m)

abbrev pub LaidOutInOneWay : Type 0
LaidOutInOneWay = (options : Options) (m : ModuleValue) (segments : List Placed) → IsLaidOut options m segments
    → segments ≡ layout_of options m

-- each segment that a program has is placed, but the absolute one, if the ids of its named commons are such ids
abbrev pub SegmentsArePlaced : Type 0
SegmentsArePlaced = (options : Options) (m : ModuleValue) (id : ℕ)
    → ((i : ℕ) → has_common_id m.commons i ≡ true → (6 ≤ i) × (i ≤ 254)) → has_segment m.commons id ≡ true → (id == absolute_id) ≡ false
    → list_any (λ p. p.id == id) (layout_of options m) ≡ true

-- under the bases that placed segments give, an offset in a segment of a program has the place that it has by the segments
abbrev pub PlacesAreBySegments : Type 0
PlacesAreBySegments = (segments : List Placed) (m : ModuleValue) (id offset : ℕ)
    → IsTrue (each_after is_new_common [] m.commons) → has_segment m.commons id ≡ true
    → place_in (bases_of m.commons segments) (m ∷ []) 0 m id offset ≡ place_among segments id offset

-- two segments overlap exactly where an address lies in both
abbrev pub OverlapIsASharedAddress : Type 0
OverlapIsASharedAddress = (p q : Placed)
    → overlaps p q ≡ true ↔ ((address : ℕ) × (is_in_placed p address ≡ true) × (is_in_placed q address ≡ true))

-- the segment ends with memory or before it, and if it is MEMORY, it holds all of its content
pub record LiesInMemory (contents : List ContentValue) (p : Placed) : Type 0 where
  pub «end» : p.base + p.length ≤ 65536
  pub content : p.id ≡ memory_id → All (λ c. c.segment ≡ memory_id → c.offset + length c.bytes ≤ p.length) contents

-- no address lies in both
abbrev pub AreApart : Placed → Placed → Type 0
AreApart p q = (address : ℕ) → is_in_placed p address ≡ true → is_in_placed q address ≡ false

-- segments that fit: each lies in memory, and no address lies in two of them, or in one and in an absolute content
pub record Fit (m : ModuleValue) (segments : List Placed) : Type 0 where
  pub in_memory : All (LiesInMemory m.contents) segments
  pub apart : AllPairs AreApart segments
  pub absolute_apart : All (λ c. c.segment ≡ absolute_id → All (AreApart (absolute_place c)) segments) m.contents

-- a layout has no fault exactly where its segments fit
abbrev pub NoFaultWhereSegmentsFit : Type 0
NoFaultWhereSegmentsFit = (options : Options) (m : ModuleValue) → layout_fault options m ≡ None ↔ Fit m (layout_of options m)
