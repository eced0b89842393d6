-- The numbers of the faults of a bundle: those of a session on its parts, and one of its own.
use Rattle.std.specs.Prelude.{ℕ}
use Rattle.loader80.specs.Fault.{session_code}
use Rattle.loader80_text.specs.declared.bundles.fault.BundleFault.{BundleFault}
use Rattle.loader80_text.specs.declared.bundles.fault.BundleFault.TheVariants.{Session, BadBundle}

abbrev pub bundle_code : BundleFault → ℕ
bundle_code (Session fault) = session_code fault
bundle_code BadBundle = 9
