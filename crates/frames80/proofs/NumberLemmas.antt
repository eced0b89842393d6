-- PointNumbers by procedure and address: in a table of the first point of each address, and a map of further ones.
use Rattle.std.specs.Prelude.{◌≡◌, ◌≢◌, ◌<◌, ℕ, Bool, true, false, nat_lt, List, Option, Some, None, length, slice_index_or, slice_set, refl, if◌then◌else◌}
use Rattle.std.specs.List.{All}
use Rattle.std.specs.Ordering.{nat_cmp, is_eq}
use Rattle.std.specs.BTreeMap.{get, is_at, IsEmpty, IsUnchanged, Updates}
use Rattle.std.specs.Map.{lookup}
use Rattle.std.proofs.Common.{◌⊎◌, inl, inr, ap, sym, ◌∙◌, arith, true≢false}
use Rattle.std.proofs.lemmas.Bool.{cases_eq}
use Rattle.std.proofs.lemmas.Bool.Decides.{nat_tests}
use Rattle.std.proofs.lemmas.List.{get_or-set_same, get_or-set_other, get_or_past}
use Rattle.frames80.specs.declared.procedure.Procedure.{Procedure}
use Rattle.frames80.specs.declared.point_numbers.FirstPoint.{FirstPoint}
use Rattle.frames80.specs.declared.point_numbers.PointNumbers.{PointNumbers}
use Rattle.frames80.specs.PointNumbers.{same_procedure, same_is, is_same, procedure_number, place_number, number_of, is_free, number_at, same_place, HasNone, SameNumbers, Puts}

-- the number of a first point is that of its own procedure alone
own_number : (point : FirstPoint) (p : Procedure) (further : Option ℕ) → same_procedure point.procedure p ≡ true → number_of (Some point) p further ≡ Some point.number
own_number point p further same = ap (λ (b : Bool). if b then Some point.number else further) same

pub further_number : (point : FirstPoint) (p : Procedure) (further : Option ℕ) → same_procedure point.procedure p ≡ false → number_of (Some point) p further ≡ further
further_number point p further other = ap (λ (b : Bool). if b then Some point.number else further) other

pub taken_number : (first : Option FirstPoint) (p : Procedure) (further : Option ℕ) → is_free first p ≡ false → number_of first p further ≡ further
taken_number None p further taken = absurd (true≢false taken)
taken_number (Some point) p further taken = further_number point p further taken

other_number : (first : Option FirstPoint) (p q : Procedure) (further : Option ℕ) → is_free first p ≡ true → same_procedure p q ≡ false → number_of first q further ≡ further
other_number None p q further free other = refl
other_number (Some point) p q further free other =
    further_number point q further (ap (λ (r : Procedure). same_procedure r q) (same_is point.procedure p free) ∙ other)

-- an address of memory, and another
below : (at : ℕ) (found : Option ℕ) (i : ℕ) → (if nat_lt at 65536 then found else None) ≡ Some i → at < 65536
below at found i e = by (nat_lt at 65536) refl e
  where
    by : (b : Bool) → nat_lt at 65536 ≡ b → (if b then found else None) ≡ Some i → at < 65536
    by true is e = grind (arith, nat_tests)
    by false is e = absurd (let wrong : None ≡ Some i = e in cc)

abbrev found_at : PointNumbers → Procedure → ℕ → Option ℕ
found_at numbers procedure at = number_of (slice_index_or numbers.first.items at None) procedure (get nat_cmp numbers.further (place_number procedure at))

pub number_below : (numbers : PointNumbers) (procedure : Procedure) (at i : ℕ) → number_at numbers procedure at ≡ Some i → at < 65536
unfolding number_at
number_below numbers procedure at i e = below at (found_at numbers procedure at) i e

in_memory : (at : ℕ) (found : Option ℕ) → at < 65536 → (if nat_lt at 65536 then found else None) ≡ found
in_memory at found inside = let test : nat_lt at 65536 ≡ true = grind (arith, nat_tests) in ap (λ (b : Bool). if b then found else None) test

pub number_here : (numbers : PointNumbers) (procedure : Procedure) (at : ℕ) → at < 65536
    → number_at numbers procedure at ≡ number_of (slice_index_or numbers.first.items at None) procedure (get nat_cmp numbers.further (place_number procedure at))
unfolding number_at
number_here numbers procedure at inside = in_memory at (found_at numbers procedure at) inside

-- the number is that of the first point there, or a further one
pub number_first : (numbers : PointNumbers) (procedure : Procedure) (at : ℕ) (point : FirstPoint) → at < 65536 → slice_index_or numbers.first.items at None ≡ Some point
    → same_procedure point.procedure procedure ≡ true → number_at numbers procedure at ≡ Some point.number
number_first numbers procedure at point inside first same =
    number_here numbers procedure at inside
    ∙ ap (λ (kept : Option FirstPoint). number_of kept procedure (get nat_cmp numbers.further (place_number procedure at))) first
    ∙ own_number point procedure (get nat_cmp numbers.further (place_number procedure at)) same

pub number_further : (numbers : PointNumbers) (procedure : Procedure) (at : ℕ) (first : Option FirstPoint) → at < 65536 → slice_index_or numbers.first.items at None ≡ first
    → ((further : Option ℕ) → number_of first procedure further ≡ further) → number_at numbers procedure at ≡ get nat_cmp numbers.further (place_number procedure at)
number_further numbers procedure at first inside there taken =
    number_here numbers procedure at inside
    ∙ ap (λ (kept : Option FirstPoint). number_of kept procedure (get nat_cmp numbers.further (place_number procedure at))) there
    ∙ taken (get nat_cmp numbers.further (place_number procedure at))

-- an empty table and an empty map have no number
none_there : (b : Bool) (found : Option ℕ) → found ≡ None → (if b then found else None) ≡ None
none_there true found none = none
none_there false found none = refl

none_at : (first : List (Option FirstPoint)) → All (λ (point : Option FirstPoint). point ≡ None) first → (at : ℕ) → slice_index_or first at None ≡ None
none_at first none at = by (nat_lt at (length first)) refl
  where
    by : (b : Bool) → nat_lt at (length first) ≡ b → slice_index_or first at None ≡ None
    by true is = none at None (grind (arith, nat_tests))
    by false is = get_or_past first at None (grind (arith, nat_tests))

pub none_kept : (numbers : PointNumbers) → All (λ (point : Option FirstPoint). point ≡ None) numbers.first.items → IsEmpty numbers.further → HasNone numbers
unfolding number_at
none_kept numbers first empty = record {
  none = λ procedure at.
      none_there (nat_lt at 65536) (found_at numbers procedure at)
      (ap (λ (point : Option FirstPoint). number_of point procedure (get nat_cmp numbers.further (place_number procedure at))) (none_at numbers.first.items first at)
      ∙ ap (λ (entries : List (ℕ × ℕ)). lookup (is_at (nat_cmp (place_number procedure at))) entries) empty);
}

apart : (p q : Procedure) (a b : ℕ) → a < 65536 → b < 65536 → same_place p a q b ≡ false → is_eq (nat_cmp (place_number p a) (place_number q b)) ≡ false
apart p q a b inside other differ =
    let different : place_number p a ≢ place_number q b =
    λ same.
    let procedures : procedure_number p ≡ procedure_number q = omega (arith, same, inside, other) in
    let addresses : a ≡ b = omega (arith, same, inside, other) in
    let both : same_place p a q b ≡ true = rw (procedures, addresses) (grind (arith, nat_tests)) in
    true≢false (sym both ∙ differ) in
    grind (arith, nat_tests, different)

-- at one address another place is one of another procedure
other_procedure : (p q : Procedure) (a b : ℕ) → a ≡ b → same_place p a q b ≡ false → same_procedure p q ≡ false
other_procedure p q a b here differ = by (same_procedure p q) refl
  where
    by : (t : Bool) → same_procedure p q ≡ t → same_procedure p q ≡ false
    by true same =
        let procedures : procedure_number p ≡ procedure_number q = ap (λ (r : Procedure). procedure_number r) (same_is p q same) in
        let both : same_place p a q b ≡ true = rw (procedures, here) (grind (arith, nat_tests)) in
        absurd (true≢false (sym both ∙ differ))
    by false other = other

-- a first point
abbrev pub first_point : Procedure → ℕ → FirstPoint
first_point procedure number = record { procedure = procedure; number = number }

module _ (old new : PointNumbers) where
  pub same_numbers : new.first.items ≡ old.first.items → IsUnchanged old.further new.further → SameNumbers old new
  unfolding number_at
  same_numbers first further = record { same = λ procedure at. rw (first, further) refl }

  -- a number that the map is given
  pub put_further : (procedure : Procedure) (at number : ℕ) → at < 65536 → new.first.items ≡ old.first.items
      → ((further : Option ℕ) → number_of (slice_index_or old.first.items at None) procedure further ≡ further)
      → Updates nat_cmp old.further new.further (place_number procedure at) (Some number) → Puts old new procedure at number
  unfolding number_at
  put_further procedure at number inside first taken updates = record {
    put = number_here new procedure at inside ∙ as_before procedure at ∙ taken (get nat_cmp new.further (place_number procedure at)) ∙ updates.1;
    others = λ p a differ. by p a differ (nat_lt a 65536) refl;
  }
    where
      as_before : (p : Procedure) (a : ℕ) → found_at new p a ≡ number_of (slice_index_or old.first.items a None) p (get nat_cmp new.further (place_number p a))
      as_before p a = ap (λ (points : List (Option FirstPoint)). number_of (slice_index_or points a None) p (get nat_cmp new.further (place_number p a))) first

      by : (p : Procedure) (a : ℕ) → same_place procedure at p a ≡ false → (b : Bool) → nat_lt a 65536 ≡ b → number_at new p a ≡ number_at old p a
      by p a differ true is =
          let below_there : a < 65536 = grind (arith, nat_tests) in
          number_here new p a below_there
          ∙ as_before p a
          ∙ ap (λ (further : Option ℕ). number_of (slice_index_or old.first.items a None) p further) (updates.2 (place_number p a) (apart procedure p at a inside below_there differ))
          ∙ sym (number_here old p a below_there)
      by p a differ false is = rw is refl

  -- a number that the table is given
  pub put_first : (procedure : Procedure) (at number : ℕ) → at < 65536 → at < length old.first.items → is_free (slice_index_or old.first.items at None) procedure ≡ true
      → new.first.items ≡ slice_set old.first.items at (Some (first_point procedure number)) → new.further ≡ old.further → Puts old new procedure at number
  unfolding number_at
  put_first procedure at number inside within free first further = record {
    put = number_here new procedure at inside ∙ put_there;
    others = λ p a differ. by p a differ (nat_lt a 65536) refl;
  }
    where
      written : (p : Procedure) (a : ℕ) → found_at new p a ≡ number_of (slice_index_or (slice_set old.first.items at (Some (first_point procedure number))) a None) p (get nat_cmp old.further (place_number p a))
      written p a = rw (first, further) refl

      put_there : found_at new procedure at ≡ Some number
      put_there =
          written procedure at
          ∙ ap (λ (kept : Option FirstPoint). number_of kept procedure (get nat_cmp old.further (place_number procedure at))) (get_or-set_same old.first.items at (Some (first_point procedure number)) None within)
          ∙ own_number (first_point procedure number) procedure (get nat_cmp old.further (place_number procedure at)) (is_same procedure)

      elsewhere : (p : Procedure) (a : ℕ) → same_place procedure at p a ≡ false → found_at new p a ≡ found_at old p a
      elsewhere p a differ = on (cases_eq a at)
        where
          on : (a ≡ at) ⊎ (a ≢ at) → found_at new p a ≡ found_at old p a
          on (inl here) =
              let other = other_procedure procedure p at a (sym here) differ in
              let further = get nat_cmp old.further (place_number p a) in
              written p a
              ∙ ap (λ (n : ℕ). number_of (slice_index_or (slice_set old.first.items at (Some (first_point procedure number))) n None) p further) here
              ∙ ap (λ (kept : Option FirstPoint). number_of kept p further) (get_or-set_same old.first.items at (Some (first_point procedure number)) None within)
              ∙ further_number (first_point procedure number) p further other
              ∙ sym (ap (λ (n : ℕ). number_of (slice_index_or old.first.items n None) p further) here ∙ other_number (slice_index_or old.first.items at None) procedure p further free other)
          on (inr another) =
              written p a
              ∙ ap (λ (kept : Option FirstPoint). number_of kept p (get nat_cmp old.further (place_number p a))) (get_or-set_other old.first.items at a (Some (first_point procedure number)) None another)

      by : (p : Procedure) (a : ℕ) → same_place procedure at p a ≡ false → (b : Bool) → nat_lt a 65536 ≡ b → number_at new p a ≡ number_at old p a
      by p a differ true is =
          let below_there : a < 65536 = grind (arith, nat_tests) in
          number_here new p a below_there ∙ elsewhere p a differ ∙ sym (number_here old p a below_there)
      by p a differ false is = rw is refl
