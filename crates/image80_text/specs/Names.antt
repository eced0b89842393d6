-- Names for the addresses of an image. Its publics are declarations of segment 0, whose offsets are addresses.
-- (8080 Object Module Formats, public declarations record; ISIS-II User's Guide, LOCATE without PURGE. That the nearest name is
-- sought in one range of code is this project's own.)
use Rattle.std.specs.Prelude.{◌≡◌, ℕ, ◌≤◌, ◌==◌, Bool, true, false, ◌&&◌, nat_le, Option, Some, None, List, find}
use Rattle.std.specs.List.{AllByRecursion}
use Rattle.image80.specs.declared.range.Range.{Range}
use Rattle.image80.specs.Range.{in_range}
use Rattle.omf_model.specs.declared.symbols.Public.{Public}

-- the public is at this address
abbrev pub is_at : ℕ → Public → Bool
is_at address p = p.segment == 0 && p.offset == address

-- the first public at an address
abbrev pub public_at : List Public → ℕ → Option Public
public_at publics address = find (is_at address) publics

-- the public is in the range, at or below an address of it
abbrev pub lies_below : Range → ℕ → Public → Bool
lies_below range address p = p.segment == 0 && nat_le range.first p.offset && nat_le p.offset address

-- the greatest public in the range at or below the address, and of several there the first
pub record IsNearest (range : Range) (address : ℕ) (publics : List Public) (p : Public) : Type 0 where
  pub lies : lies_below range address p ≡ true
  pub greatest : AllByRecursion (λ q. lies_below range address q ≡ true → q.offset ≤ p.offset) publics
  pub first : public_at publics p.offset ≡ Some p

-- the nearest public of a range; none exactly where no public is in the range at or below the address
abbrev pub IsNearestIn : Range → (address : ℕ) → List Public → Option Public → Type 0
IsNearestIn range address publics None = AllByRecursion (λ q. lies_below range address q ≡ false) publics
IsNearestIn range address publics (Some p) = IsNearest range address publics p

-- the nearest public of the range that contains the address, none if no range does
abbrev pub IsNearestWithin : Option Range → (address : ℕ) → List Public → Option Public → Type 0
IsNearestWithin None address publics answer = answer ≡ None
IsNearestWithin (Some range) address publics answer = IsNearestIn range address publics answer

abbrev pub IsNearestOf : List Range → (address : ℕ) → List Public → Option Public → Type 0
IsNearestOf code address publics answer = IsNearestWithin (find (λ range. in_range range address) code) address publics answer
