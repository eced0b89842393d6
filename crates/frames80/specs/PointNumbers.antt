-- The numbers that are kept of addresses of procedures. (This project's own.)
use Rattle.std.specs.Prelude.{◌≡◌, ℕ, ◌+◌, ◌*◌, ◌<◌, Bool, ◌&&◌, nat_eq, nat_lt, true, false, if◌then◌else◌, Option, Some, None, slice_index_or, refl}
use Rattle.std.proofs.Common.{ap, sym, true≢false}
use Rattle.std.specs.Cmp.{unsigned_Decides}
use Rattle.std.specs.Ordering.{nat_cmp}
use Rattle.std.specs.BTreeMap.{get}
use Rattle.frames80.specs.declared.procedure.Procedure.{Procedure}
use Rattle.frames80.specs.declared.procedure.Procedure.TheVariants.{Main, Entry}
use Rattle.frames80.specs.declared.point_numbers.FirstPoint.{FirstPoint}
use Rattle.frames80.specs.declared.point_numbers.PointNumbers.{PointNumbers}

-- whether two procedures are the same: exactly if they are equal
abbrev pub same_procedure : Procedure → Procedure → Bool
same_procedure Main Main = true
same_procedure Main (Entry b) = false
same_procedure (Entry a) Main = false
same_procedure (Entry a) (Entry b) = nat_eq a b

pub same_is : (p q : Procedure) → same_procedure p q ≡ true → p ≡ q
same_is Main Main same = refl
same_is Main (Entry b) same = absurd (true≢false (sym same))
same_is (Entry a) Main same = absurd (true≢false (sym same))
same_is (Entry a) (Entry b) same = ap (λ n. Entry n) ((unsigned_Decides a b).0 same)

pub is_same : (p : Procedure) → same_procedure p p ≡ true
is_same Main = refl
is_same (Entry a) = (unsigned_Decides a a).1 refl

-- a number for each procedure, and for each address of each
abbrev pub procedure_number : Procedure → ℕ
procedure_number Main = 0
procedure_number (Entry entry) = entry + 1

abbrev pub place_number : Procedure → ℕ → ℕ
place_number procedure at = 65536 * procedure_number procedure + at

-- the number of the first point at an address, if that is one of the procedure, and else a further one
abbrev pub number_of : Option FirstPoint → Procedure → Option ℕ → Option ℕ
number_of None procedure further = further
number_of (Some point) procedure further = if same_procedure point.procedure procedure then Some point.number else further

-- whether no other procedure has the first point at an address
abbrev pub is_free : Option FirstPoint → Procedure → Bool
is_free None procedure = true
is_free (Some point) procedure = same_procedure point.procedure procedure

-- the number that is kept of an address of a procedure
unfoldable pub number_at : PointNumbers → Procedure → ℕ → Option ℕ
number_at numbers procedure at =
    if nat_lt at 65536 then number_of (slice_index_or numbers.first.items at None) procedure
    (get nat_cmp numbers.further (place_number procedure at)) else None

-- whether two addresses of procedures are the same
abbrev pub same_place : Procedure → ℕ → Procedure → ℕ → Bool
same_place p a q b = nat_eq (procedure_number p) (procedure_number q) && nat_eq a b

-- no number is kept
pub record HasNone (numbers : PointNumbers) : Type 0 where
  pub none : (procedure : Procedure) (at : ℕ) → number_at numbers procedure at ≡ None

-- the same numbers are kept
pub record SameNumbers (old new : PointNumbers) : Type 0 where
  pub same : (procedure : Procedure) (at : ℕ) → number_at new procedure at ≡ number_at old procedure at

-- a number is kept of that address of that procedure, and elsewhere nothing has changed
pub record Puts (old new : PointNumbers) (procedure : Procedure) (at number : ℕ) : Type 0 where
  pub put : number_at new procedure at ≡ Some number
  pub others : (p : Procedure) (a : ℕ) → same_place procedure at p a ≡ false → number_at new p a ≡ number_at old p a

-- a number is kept only of an address of memory
abbrev pub NumbersAreOfAddresses : Type 0
NumbersAreOfAddresses = (numbers : PointNumbers) (procedure : Procedure) (at number : ℕ) →
    number_at numbers procedure at ≡ Some number → at < 65536
