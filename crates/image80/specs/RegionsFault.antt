-- The faults of a regions text by their numbers. (The text and the numbers are this project's own.)
use Rattle.std.specs.Prelude.{ℕ}
use Rattle.image80.specs.declared.fault.RegionsFault.{RegionsFault}
use Rattle.image80.specs.declared.fault.RegionsFault.TheVariants.{BadLine, BadVersion, RegionsOverlap, NoStack, Memory}

-- the number of a fault
abbrev pub code_of : RegionsFault → ℕ
code_of (BadLine line) = 1
code_of BadVersion = 2
code_of RegionsOverlap = 3
code_of NoStack = 4
code_of Memory = 5
