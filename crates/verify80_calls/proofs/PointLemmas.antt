-- The points of a procedure stand together among those of a program.
use Rattle.std.proofs.Common.{◌≡◌, ◌<◌, ◌≤◌, ◌+◌, ◌-◌, ℕ, Bool, true, false, nat_lt, nat_le, List, length, get_or, take, drop, inl, inr, refl, sym, ap, subst, ◌∙◌, arith}
use Rattle.std.specs.Prelude.{All, AllPairs}
use Rattle.std.specs.List.Sorted.{IsPartitionedBy, IsPartitionPoint}
use Rattle.std.proofs.lemmas.Bool.{cases_lt}
use Rattle.std.proofs.lemmas.Bool.Decides.{nat_tests}
use Rattle.std.proofs.lemmas.List.{get_or-take, get_or-drop, length-take, length-drop}
use Rattle.std.proofs.lemmas.List.Elements.{All-take, All-drop}
use Rattle.frames80.specs.StackFrame.{StackFrame}
use Rattle.frames80.specs.declared.procedure.Procedure.{Procedure}
use Rattle.frames80.specs.declared.procedure.Procedure.TheVariants.{Main, Entry}
use Rattle.frames80.specs.Procedures.{slot_of}
use Rattle.frames80.specs.Code.{Code}
use Rattle.verify80_flow.specs.declared.report.ProgramPoint.{ProgramPoint}
use Rattle.verify80_flow.specs.ProgramPoints.{ArePoints, HasReachedPoint, IsReachedPoint, rank_of}
use Rattle.verify80_calls.specs.Points.{ArePointsOf}

same_slot : (p q : Procedure) → slot_of p ≡ slot_of q → p ≡ q
same_slot Main Main e = refl
same_slot Main (Entry n) e = absurd (omega (arith, e))
same_slot (Entry m) Main e = absurd (omega (arith, e))
same_slot (Entry m) (Entry n) e = ap Entry (omega (arith, e))

-- points rise
record Rise (points : List ProgramPoint) : Type 0 where
  pairs : AllPairs (λ (a b : ProgramPoint). rank_of a < rank_of b) points
  addresses : All (λ (point : ProgramPoint). point.at < 65536) points

-- the procedures of points that rise don't fall
slots_rise : (points : List ProgramPoint) → Rise points → (i j : ℕ) (d : ProgramPoint) → i ≤ j → j < length points →
    slot_of (get_or points i d).procedure ≤ slot_of (get_or points j d).procedure
slots_rise points rise i j d order inside = elim (cases_lt i j) [
  | inl below ↦
      let ranks = rise.pairs i j d below inside in
      let low = rise.addresses j d inside in
      omega (arith, ranks, low)
  | inr same ↦
      let e : i ≡ j = omega (arith, order, same) in
      subst (λ k. slot_of (get_or points i d).procedure ≤ slot_of (get_or points k d).procedure) e (omega arith)
]

-- whether the procedure of a point is before a place, or not behind it
abbrev pub is_before : (place : ℕ) → ProgramPoint → Bool
is_before place point = nat_lt (slot_of point.procedure) place

abbrev pub is_not_behind : (place : ℕ) → ProgramPoint → Bool
is_not_behind place point = nat_le (slot_of point.procedure) place

lower : (m n place : ℕ) → m ≤ n → nat_lt n place ≡ true → nat_lt m place ≡ true
lower m n place order less = grind (arith, nat_tests)

lower_too : (m n place : ℕ) → m ≤ n → nat_le n place ≡ true → nat_le m place ≡ true
lower_too m n place order less = grind (arith, nat_tests)

not_less : (m n : ℕ) → nat_lt m n ≡ false → n ≤ m
not_less m n wrong = grind (arith, nat_tests)

at_most : (m n : ℕ) → nat_le m n ≡ true → m ≤ n
at_most m n holds = grind (arith, nat_tests)

less_same : (m n : ℕ) → m ≡ n → nat_lt m n ≡ true → ⊥
less_same m n same less = grind (arith, nat_tests)

more_same : (m n : ℕ) → m ≡ n → nat_le m n ≡ false → ⊥
more_same m n same more = grind (arith, nat_tests)

rise_dropped : (points : List ProgramPoint) (first : ℕ) → Rise points → Rise (drop first points)
rise_dropped points first rise = record {
  pairs = λ i j d order inside.
      let long = length-drop first points in
      subst (λ (a : ProgramPoint). rank_of a < rank_of (get_or (drop first points) j d)) (sym (get_or-drop first points i d))
      (subst (λ (b : ProgramPoint). rank_of (get_or points (first + i) d) < rank_of b) (sym (get_or-drop first points j d))
      (rise.pairs (first + i) (first + j) d (omega (arith, order)) (omega (arith, inside, long))));
  addresses = All-drop (λ (point : ProgramPoint). point.at < 65536) first points rise.addresses;
}

rise_of : (code : Code) (points : List ProgramPoint) → ArePoints code points → Rise points
rise_of code points are = record { pairs = are.in_order; addresses = are.addresses }

-- so a search by procedure finds where those before a place end, and where those up to it do
pub before_first : (code : Code) (points : List ProgramPoint) (place : ℕ) → ArePoints code points → IsPartitionedBy (is_before place) points
before_first code points place are = λ i j d order inside less.
    lower (slot_of (get_or points i d).procedure) (slot_of (get_or points j d).procedure) place (slots_rise points (rise_of code points are) i j d order inside) less

pub up_to_last : (code : Code) (points : List ProgramPoint) (first place : ℕ) → ArePoints code points → IsPartitionedBy (is_not_behind place) (drop first points)
up_to_last code points first place are = λ i j d order inside less.
    lower_too (slot_of (get_or (drop first points) i d).procedure) (slot_of (get_or (drop first points) j d).procedure) place
    (slots_rise (drop first points) (rise_dropped points first (rise_of code points are)) i j d order inside) less

-- the points between the two are those of the procedure
module _ (code : Code) (p : Procedure) (points : List ProgramPoint) (are : ArePoints code points) (first count : ℕ)
    (starts : IsPartitionPoint (λ (y : ProgramPoint). is_before (slot_of p) y ≡ true) (λ (y : ProgramPoint). is_before (slot_of p) y ≡ false) points first)
    (ends : IsPartitionPoint (λ (y : ProgramPoint). is_not_behind (slot_of p) y ≡ true) (λ (y : ProgramPoint). is_not_behind (slot_of p) y ≡ false) (drop first points) count)
    (first_in : first ≤ length points) (count_in : count ≤ length (drop first points)) where
  abbrev between : List ProgramPoint
  between = take count (drop first points)

  long : length between ≡ count
  long = let l = length-take count (drop first points) in omega (arith, l, count_in)

  read : (i : ℕ) (d : ProgramPoint) → i < count → get_or between i d ≡ get_or points (first + i) d
  read i d less = get_or-take count (drop first points) i d less ∙ get_or-drop first points i d

  inside : (i : ℕ) → i < count → first + i < length points
  inside i less = let l = length-drop first points in omega (arith, less, l, count_in)

  slot_at : (i : ℕ) (d : ProgramPoint) → i < count → slot_of (get_or points (first + i) d).procedure ≡ slot_of p
  slot_at i d less =
      let high : slot_of p ≤ slot_of (get_or points (first + i) d).procedure =
      not_less (slot_of (get_or points (first + i) d).procedure) (slot_of p) (starts.1 (first + i) d (omega arith) (inside i less)) in
      let low : slot_of (get_or points (first + i) d).procedure ≤ slot_of p =
      at_most (slot_of (get_or points (first + i) d).procedure) (slot_of p)
      (subst (λ (x : ProgramPoint). is_not_behind (slot_of p) x ≡ true) (get_or-drop first points i d) (ends.0 i d (omega arith) less)) in
      omega (arith, high, low)

  there : (at : ℕ) (f : StackFrame) → HasReachedPoint points p at f → HasReachedPoint between p at f
  there at f has = record {
    point = has.point;
    there = (k - first, omega (arith, above, below, long), read (k - first) has.point (omega (arith, above, below)) ∙ ap (λ n. get_or points n has.point) back ∙ has.there.2);
    procedure = has.procedure;
    at = has.at;
    words = has.words;
    taken = has.taken;
  }
    where
      k : ℕ
      k = has.there.0

      own : slot_of (get_or points k has.point).procedure ≡ slot_of p
      own = ap (λ (x : ProgramPoint). slot_of x.procedure) has.there.2 ∙ ap slot_of has.procedure

      above : first ≤ k
      above = elim (cases_lt k first) [
        | inl less ↦ absurd (less_same (slot_of (get_or points k has.point).procedure) (slot_of p) own (starts.0 k has.point (omega arith) less))
        | inr more ↦ more
      ]

      back : first + (k - first) ≡ k
      back = omega (arith, above)

      below : k - first < count
      below = elim (cases_lt (k - first) count) [
        | inl less ↦ less
        | inr past ↦
            let l = length-drop first points in
            let in_it : k - first < length (drop first points) = let h = has.there.1 in omega (arith, l, above, h) in
            let seen : is_not_behind (slot_of p) (get_or points k has.point) ≡ false =
            ap (λ n. is_not_behind (slot_of p) (get_or points n has.point)) (sym back)
            ∙ ap (λ (x : ProgramPoint). is_not_behind (slot_of p) x) (sym (get_or-drop first points (k - first) has.point))
            ∙ ends.1 (k - first) has.point past in_it in
            absurd (more_same (slot_of (get_or points k has.point).procedure) (slot_of p) own seen)
      ]

  pub of_procedure : ArePointsOf code p between
  of_procedure = record {
    own = λ i d less.
        let l : i < count = subst (λ n. i < n) long less in
        ap (λ (x : ProgramPoint). x.procedure) (read i d l) ∙ same_slot (get_or points (first + i) d).procedure p (slot_at i d l);
    each = All-take (IsReachedPoint code) count (drop first points) (All-drop (IsReachedPoint code) first points are.each);
    all = λ at f walk. there at f (are.all p at f walk);
    by_address = λ i j d order less.
        let high : j < count = subst (λ n. j < n) long less in
        let low : i < count = omega (arith, order, high) in
        let ranks = are.in_order (first + i) (first + j) d (omega (arith, order)) (inside j high) in
        let one = slot_at i d low in
        let other = slot_at j d high in
        let rises : (get_or points (first + i) d).at < (get_or points (first + j) d).at = omega (arith, ranks, one, other) in
        subst (λ (a : ProgramPoint). a.at < (get_or between j d).at) (sym (read i d low))
        (subst (λ (b : ProgramPoint). (get_or points (first + i) d).at < b.at) (sym (read j d high)) rises);
  }

-- the same of parts of the list
pub up_to_last_of : (code : Code) (points : List ProgramPoint) (first place : ℕ) (rest : List ProgramPoint) → ArePoints code points → rest ≡ drop first points →
    IsPartitionedBy (is_not_behind place) rest
up_to_last_of code points first place rest are is = subst (IsPartitionedBy (is_not_behind place)) (sym is) (up_to_last code points first place are)

pub of_parts : (code : Code) (p : Procedure) (points : List ProgramPoint) → ArePoints code points → (first count : ℕ) (rest own : List ProgramPoint) →
    rest ≡ drop first points → own ≡ take count rest →
    IsPartitionPoint (λ (y : ProgramPoint). is_before (slot_of p) y ≡ true) (λ (y : ProgramPoint). is_before (slot_of p) y ≡ false) points first →
    IsPartitionPoint (λ (y : ProgramPoint). is_not_behind (slot_of p) y ≡ true) (λ (y : ProgramPoint). is_not_behind (slot_of p) y ≡ false) rest count →
    first ≤ length points → count ≤ length rest → ArePointsOf code p own
of_parts code p points are first count rest own rest_is own_is starts ends first_in count_in =
    subst (ArePointsOf code p) (sym (own_is ∙ ap (take count) rest_is))
    (of_procedure code p points are first count starts
    (subst (λ (l : List ProgramPoint). IsPartitionPoint (λ (y : ProgramPoint). is_not_behind (slot_of p) y ≡ true) (λ (y : ProgramPoint). is_not_behind (slot_of p) y ≡ false) l count) rest_is ends)
    first_in (subst (λ (l : List ProgramPoint). count ≤ length l) rest_is count_in))
