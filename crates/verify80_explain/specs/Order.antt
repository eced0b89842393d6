-- The order in which refusals and points are listed. (This project's own.)
use Rattle.std.specs.Prelude.{◌≡◌, ℕ, List, Option}
use Rattle.std.specs.declared.cmp.Ordering.{Ordering}
use Rattle.std.specs.List.Sorted.{IsStrictlySortedBy}
use Rattle.std.specs.Option.{option_cmp, option_map}
use Rattle.std.specs.Ordering.{int_cmp, nat_cmp, ordering_then}
use Rattle.frames80.specs.Procedures.{slot_of}
use Rattle.verify80_flow.specs.declared.refusal.Refusal.{Refusal}
use Rattle.verify80_flow.specs.Refusal.{refusal_address, refusal_code}
use Rattle.verify80_explain.specs.declared.explaining_all.ShownRefusal.{ShownRefusal}
use Rattle.verify80_explain.specs.declared.reaching.ReachedPoint.{ReachedPoint}

-- by address, those without one first, and those of one address by number
abbrev pub refusal_cmp : Refusal → Refusal → Ordering
refusal_cmp one other =
    ordering_then (option_cmp nat_cmp (refusal_address one) (refusal_address other)) (nat_cmp (refusal_code one) (refusal_code other))

-- refusals ascend so that each comes once
abbrev pub AreAscending : List Refusal → Type 0
AreAscending refusals = IsStrictlySortedBy refusal_cmp refusals

-- refusals that are shown ascend so, too
abbrev pub shown_cmp : ShownRefusal → ShownRefusal → Ordering
shown_cmp one other = refusal_cmp one.refusal other.refusal

abbrev pub AreShownInOrder : List ShownRefusal → Type 0
AreShownInOrder shown = IsStrictlySortedBy shown_cmp shown

-- the number of a point's refusal, if it has one
abbrev pub number_of : ReachedPoint → Option ℕ
number_of point = option_map refusal_code point.refusal

-- points: the main program's first, then those of other procedures by entry; of one procedure by address, by depth, and by the refusal's
-- number, those without one first
abbrev pub point_cmp : ReachedPoint → ReachedPoint → Ordering
point_cmp one other =
    ordering_then (nat_cmp (slot_of one.standing.procedure) (slot_of other.standing.procedure))
    (ordering_then (nat_cmp one.standing.at other.standing.at)
    (ordering_then (int_cmp one.standing.depth other.standing.depth)
    (option_cmp nat_cmp (number_of one) (number_of other))))

-- points ascend so that each comes once
abbrev pub ArePointsInOrder : List ReachedPoint → Type 0
ArePointsInOrder points = IsStrictlySortedBy point_cmp points

-- two refusals have the same address and the same number
pub record AreSame (one other : Refusal) : Type 0 where
  pub address : refusal_address one ≡ refusal_address other
  pub code : refusal_code one ≡ refusal_code other
