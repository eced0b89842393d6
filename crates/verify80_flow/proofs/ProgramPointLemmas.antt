-- The points that are kept of a filled table are those of walks.
use Rattle.std.proofs.Common.{◌≡◌, ◌<◌, ◌≤◌, ◌+◌, ℕ, zero, suc, false, eqb, List, [], ◌∷◌, ◌++◌, length, get_or, map, take, inl, inr, refl, sym, ap, subst, ◌∙◌, arith}
use Rattle.std.specs.Prelude.{AllPairs, Contains, IsPermutation, Some, slice_get}
use Rattle.std.specs.List.{IsDistinct}
use Rattle.std.specs.List.Sorted.{IsNonDecreasingBy}
use Rattle.std.proofs.lemmas.Bool.{cases_Bool, eqb-true}
use Rattle.std.proofs.lemmas.Bool.Decides.{nat_tests}
use Rattle.std.proofs.lemmas.List.{map-append}
use Rattle.std.proofs.lemmas.List.Sorted.{IsPermutation-map, All-permutation, Contains-permutation}
use Rattle.std.proofs.lemmas.Map.Keys.{IsDistinct-IsPermutation, IsDistinct-from_apart, apart_from_distinct}
use Rattle.std.proofs.lemmas.Option.{none-some, same_Some}
use Rattle.frames80.specs.Procedures.{slot_of}
use Rattle.frames80.specs.Code.{Code}
use Rattle.verify80_flow.specs.declared.report.ProgramPoint.{ProgramPoint}
use Rattle.verify80_flow.specs.Points.{Point, AreAddresses, AreApart}
use Rattle.verify80_flow.specs.Shown.{FrameLaws}
use Rattle.verify80_flow.specs.Known.{Known, IsFilled}
use Rattle.verify80_flow.specs.ProgramPoints.{ArePoints, AreOfTable, IsReachedPoint, program_point, rank_of}
use Rattle.verify80_flow.proofs.GraphLemmas.{has_walk, walk_at}
use Rattle.verify80_flow.proofs.SurveyLemmas.{slot_apart}
use Rattle.verify80_flow.proofs.VisitLemmas.{some_at}

-- one more point is kept
take_next : (points : List Point) (i : ℕ) (point : Point) → slice_get points i ≡ Some point → take (suc i) points ≡ take i points ++ point ∷ []
take_next [] i point there = absurd (none-some point there)
take_next (first ∷ points) zero point there = ap (λ (x : Point). x ∷ []) (same_Some first point there)
take_next (first ∷ points) (suc i) point there = ap (λ l. first ∷ l) (take_next points i point there)

pub one_more : (points : List Point) (i : ℕ) (point : Point) (kept more : List ProgramPoint) → slice_get points i ≡ Some point →
    kept ≡ map program_point (take i points) → more ≡ kept ++ program_point point ∷ [] → more ≡ map program_point (take (i + 1) points)
one_more points i point kept more there before is =
    is ∙ ap (λ l. l ++ program_point point ∷ []) before
    ∙ sym (map-append program_point (take i points) (point ∷ []))
    ∙ ap (map program_point) (sym (take_next points i point there))
    ∙ ap (λ n. map program_point (take n points)) next
  where
    next : suc i ≡ i + 1
    next = omega arith

-- what holds of what is kept of each point
each_kept : (P : ProgramPoint → Type 0) (points : List Point) → ((i : ℕ) (point : Point) → slice_get points i ≡ Some point → P (program_point point)) →
    (i : ℕ) (d : ProgramPoint) → i < length (map program_point points) → P (get_or (map program_point points) i d)
each_kept P [] holds i d less = absurd (omega arith)
each_kept P (point ∷ points) holds zero d less = holds 0 point refl
each_kept P (point ∷ points) holds (suc i) d less = each_kept P points (λ j other at. holds (suc j) other at) i d (omega arith)

contains_kept : (points : List Point) (i : ℕ) (point : Point) → slice_get points i ≡ Some point → Contains (map program_point points) (program_point point)
contains_kept [] i point there = absurd (none-some point there)
contains_kept (first ∷ points) zero point there = (0, omega arith, ap program_point (same_Some first point there))
contains_kept (first ∷ points) (suc i) point there =
    let found : Contains (map program_point points) (program_point point) = contains_kept points i point there in
    (suc found.0, omega (arith, found.1), found.2)

-- the ranks of what is kept, by place
abbrev ranks : List Point → List ℕ
ranks points = map rank_of (map program_point points)

rank_at : (points : List Point) (i d : ℕ) (point : Point) → slice_get points i ≡ Some point → get_or (ranks points) i d ≡ rank_of (program_point point)
rank_at [] i d point there = absurd (none-some point there)
rank_at (first ∷ points) zero d point there = ap (λ (x : Point). rank_of (program_point x)) (same_Some first point there)
rank_at (first ∷ points) (suc i) d point there = rank_at points i d point there

as_many : (points : List Point) → length (ranks points) ≡ length points
as_many [] = refl
as_many (point ∷ points) = ap suc (as_many points)

-- no two points have one rank
ranks_apart : (points : List Point) → AreApart points → AreAddresses points → IsDistinct eqb (ranks points)
ranks_apart points apart addresses = IsDistinct-from_apart eqb (ranks points) (λ i j d order inside.
    let low = some_at points i (let many = as_many points in omega (arith, many)) in
    let high = some_at points j (let many = as_many points in omega (arith, many)) in
    elim (cases_Bool (eqb (get_or (ranks points) i d) (get_or (ranks points) j d))) [
      | inl e ↦
          let same : rank_of (program_point low.0) ≡ rank_of (program_point high.0) =
          sym (rank_at points i d low.0 low.1) ∙ eqb-true (get_or (ranks points) i d) (get_or (ranks points) j d) e ∙ rank_at points j d high.0 high.1 in
          let one = addresses.within i low.0 low.1 in
          let other = addresses.within j high.0 high.1 in
          let slots : slot_of low.0.procedure ≡ slot_of high.0.procedure = omega (arith, same, one, other) in
          let places : low.0.at ≡ high.0.at = omega (arith, same, slots) in
          let here : i ≡ j = apart.apart i j low.0 high.0 low.1 high.1 (slot_apart low.0.procedure high.0.procedure slots) places in
          absurd (omega (arith, here, order))
      | inr e ↦ e
    ])

get_or-rank : (points : List ProgramPoint) (i : ℕ) (d : ProgramPoint) → get_or (map rank_of points) i (rank_of d) ≡ rank_of (get_or points i d)
get_or-rank [] i d = refl
get_or-rank (point ∷ points) zero d = refl
get_or-rank (point ∷ points) (suc i) d = get_or-rank points i d

length-rank : (points : List ProgramPoint) → length (map rank_of points) ≡ length points
length-rank [] = refl
length-rank (point ∷ points) = ap suc (length-rank points)

flips : (x y : ℕ) → eqb x y ≡ eqb y x
flips x y = grind (arith, nat_tests)

-- points that are sorted, of which no two have one rank, rise
rising : (before points : List ProgramPoint) → IsPermutation before points → IsNonDecreasingBy rank_of points → IsDistinct eqb (map rank_of before) →
    AllPairs (λ (a b : ProgramPoint). rank_of a < rank_of b) points
rising before points moved up distinct = λ i j d order inside.
    let apart : IsDistinct eqb (map rank_of points) =
    IsDistinct-IsPermutation eqb flips (map rank_of before) (map rank_of points) (IsPermutation-map rank_of before points moved) distinct in
    let rises : rank_of (get_or points i d) ≤ rank_of (get_or points j d) = up i j d (omega (arith, order)) inside in
    let unlike : eqb (get_or (map rank_of points) i (rank_of d)) (get_or (map rank_of points) j (rank_of d)) ≡ false =
    apart_from_distinct eqb (map rank_of points) i j (rank_of d) apart order (subst (λ n. j < n) (sym (length-rank points)) inside) in
    let other : eqb (rank_of (get_or points i d)) (rank_of (get_or points j d)) ≡ false =
    ap (λ a. eqb a (rank_of (get_or points j d))) (sym (get_or-rank points i d)) ∙ ap (λ b. eqb (get_or (map rank_of points) i (rank_of d)) b) (sym (get_or-rank points j d)) ∙ unlike in
    below (rank_of (get_or points i d)) (rank_of (get_or points j d)) rises other
  where
    below : (m n : ℕ) → m ≤ n → eqb m n ≡ false → m < n
    below m n rises other = grind (arith, nat_tests)

-- what is kept of a filled table
pub are_points : FrameLaws → (code : Code) (known : Known) → IsFilled code known → AreAddresses known.points → (points : List ProgramPoint) →
    AreOfTable known points → ArePoints code points
are_points laws code known filled addresses points of = record {
  each = All-permutation (IsReachedPoint code) (map program_point known.points) points of.same (each_kept (IsReachedPoint code) known.points reached);
  all = λ p at f walk.
      let has = has_walk laws code known filled p at f walk in
      record {
        point = program_point has.point;
        there = Contains-permutation (map program_point known.points) points (program_point has.point) of.same (contains_kept known.points has.number has.point has.there);
        procedure = has.procedure;
        at = has.address;
        words = has.covers.counts.words;
        taken = has.covers.counts.taken;
      };
  in_order = rising (map program_point known.points) points of.same of.in_order (ranks_apart known.points filled.small.apart addresses);
  addresses = All-permutation (λ (point : ProgramPoint). point.at < 65536) (map program_point known.points) points of.same
      (each_kept (λ (point : ProgramPoint). point.at < 65536) known.points (λ i point there. addresses.within i point there));
}
  where
    reached : (i : ℕ) (point : Point) → slice_get known.points i ≡ Some point → IsReachedPoint code (program_point point)
    reached i point there =
        let w = walk_at code known filled i point there in
        record { frame = w.frame; walk = w.walk; words = w.covers.counts.words; taken = w.covers.counts.taken }
