-- The numbers of the faults of a session.
use Rattle.std.specs.Prelude.{ℕ}
use Rattle.loader80.specs.declared.fault.SessionFault.{SessionFault}
use Rattle.loader80.specs.declared.fault.SessionFault.TheVariants.{Read, Write, Image, Regions, Inputs, Refused, Memory, TooLong}

abbrev pub session_code : SessionFault → ℕ
session_code (Read _) = 1
session_code Write = 2
session_code (Image _) = 3
session_code (Regions _) = 4
session_code (Inputs _) = 5
session_code (Refused _) = 6
session_code Memory = 7
session_code (TooLong _) = 8
