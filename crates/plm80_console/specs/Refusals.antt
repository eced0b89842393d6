-- How a command line is refused in which arguments share a path.
-- (clap: the kinds of its errors, which set the text that it prints.)
use Rattle.std.specs.Prelude.{◌≡◌, ◌⊎◌}
use Rattle.clap.specs.declared.error.kind.ErrorKind.TheVariants.{ArgumentConflict, OutOfMemory}
use Rattle.clap.specs.{declared.error.Error.Error, Values.kind_of}

-- arguments are in conflict, or memory ran out for the words
abbrev pub IsConflict : Error → Type 0
IsConflict error = (kind_of error ≡ ArgumentConflict) ⊎ (kind_of error ≡ OutOfMemory)
