-- Of which instructions a trail is made: of those that were passed. (This project's own.)
use Rattle.std.specs.Prelude.{ℕ, Bool, List, Contains, Option, None, Some, IfSome}
use Rattle.image80.specs.Image.{Located}
use Rattle.verify80_cases.specs.declared.bound.Bound.{Bound}
use Rattle.verify80_cases.specs.declared.bound.Bound.TheVariants.{Unknown, Compared, Below, Index, Added}
use Rattle.verify80_cases.specs.declared.trail.Load.{Load}
use Rattle.verify80_cases.specs.declared.trail.Load.TheVariants.{Nothing, Base, Indexed, Points, LowInA, NextOfA, HighInH, Low, Next, Word, Exchanged}
use Rattle.verify80_cases.specs.declared.trail.Trail.{Trail}
use Rattle.verify80_cases.specs.Standing.{StandsBefore}

-- the LXI of what is loaded
abbrev pub lxi_of : Load → Option ℕ
lxi_of Nothing = None
lxi_of (Base lxi) = Some lxi
lxi_of (Indexed lxi) = Some lxi
lxi_of (Points lxi) = Some lxi
lxi_of (LowInA lxi) = Some lxi
lxi_of (NextOfA lxi) = Some lxi
lxi_of (HighInH lxi) = Some lxi
lxi_of (Low lxi) = Some lxi
lxi_of (Next lxi) = Some lxi
lxi_of (Word lxi) = Some lxi
lxi_of (Exchanged lxi) = Some lxi

-- the CPI of a bound
abbrev pub cpi_of : Bound → Option ℕ
cpi_of Unknown = None
cpi_of (Compared cpi) = Some cpi
cpi_of (Below cpi) = Some cpi
cpi_of (Index cpi _) = Some cpi
cpi_of (Added cpi) = Some cpi

-- an address, if there is one, is among those that were passed
abbrev pub IsPassed : List ℕ → Option ℕ → Type 0
IsPassed passed place = IfSome place (Contains passed)

-- all that a trail has is among those that were passed
pub record ArePassed (passed : List ℕ) (trail : Trail) : Type 0 where
  pub bc : IsPassed passed trail.bc
  pub de : IsPassed passed trail.de
  pub load : IsPassed passed (lxi_of trail.load)
  pub bound : IsPassed passed (cpi_of trail.bound)

-- an address, if there is one, stands before another one
abbrev pub IsBefore : Located → (reached : List Bool) → (at : ℕ) → Option ℕ → Type 0
IsBefore image reached at place = IfSome place (λ p. StandsBefore image reached p at)

-- all that a trail has stands before an address
pub record AreBefore (image : Located) (reached : List Bool) (at : ℕ) (trail : Trail) : Type 0 where
  pub load : IsBefore image reached at (lxi_of trail.load)
  pub bound : IsBefore image reached at (cpi_of trail.bound)
