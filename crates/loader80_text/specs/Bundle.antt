-- What a bundle answers and writes, over a reader and a writer whose bytes are known.
use Rattle.std.specs.Prelude.{◌≡◌, ℕ, List, [], Option, None, Some, Result, Ok, Err}
use Rattle.std.specs.Io.KnownBytes.{Appends}
use Rattle.loader80.specs.declared.replies.Outcome.{Outcome}
use Rattle.loader80.specs.declared.fault.SessionFault.{SessionFault}
use Rattle.loader80.specs.declared.fault.SessionFault.TheVariants.{Read, Write, Memory, TooLong}
use Rattle.loader80_text.specs.declared.bundles.fault.BundleFault.{BundleFault}
use Rattle.loader80_text.specs.declared.bundles.fault.BundleFault.TheVariants.{Session, BadBundle}
use Rattle.loader80.specs.Texts.{Texts}
use Rattle.loader80.specs.Sends.{Sends}

-- the greatest number of bytes of a bundle whose three parts can be within their limits: two digits for each byte of the image,
-- and a line feed; the regions; the line INPUTS and its line feed; the inputs
abbrev pub bundle_limit : ℕ
bundle_limit = 4194312

-- a bundle of three parts is answered as a session on them, and one without is bad. A read that fails is reported of the
-- bundle itself, and in either case memory may run out
abbrev pub BundleSends : (limit steps : ℕ) → Option Texts → Result Outcome BundleFault → (old new : Option (List ℕ)) → Type 0
BundleSends limit steps (Some t) (Ok o) old new = Sends limit steps t (Ok o) old new
BundleSends limit steps (Some t) (Err (Session (Read k))) old new = (k ≡ 1) × Appends old new []
BundleSends limit steps (Some t) (Err (Session f)) old new = Sends limit steps t (Err f) old new
BundleSends limit steps (Some t) (Err BadBundle) old new = ⊥
BundleSends limit steps None (Err BadBundle) old new = Appends old new []
BundleSends limit steps None (Err (Session (Read k))) old new = (k ≡ 1) × Appends old new []
BundleSends limit steps None (Err (Session Memory)) old new = Appends old new []
BundleSends limit steps None answer old new = ⊥

-- a bundle that is too long is answered so, unless a read fails or memory runs out before; nothing is written
abbrev pub BundleTooLong : Result Outcome BundleFault → (old new : Option (List ℕ)) → Type 0
BundleTooLong (Err (Session (TooLong k))) old new = (k ≡ 1) × Appends old new []
BundleTooLong (Err (Session (Read k))) old new = (k ≡ 1) × Appends old new []
BundleTooLong (Err (Session Memory)) old new = Appends old new []
BundleTooLong answer old new = ⊥

-- the failures of the reader and of the writer that an answer means
abbrev pub bundle_read_failures : Result Outcome BundleFault → ℕ
bundle_read_failures (Err (Session (Read k))) = 1
bundle_read_failures answer = 0

abbrev pub bundle_write_failures : Result Outcome BundleFault → ℕ
bundle_write_failures (Err (Session Write)) = 1
bundle_write_failures answer = 0

-- the answer of a session as that of a bundle
abbrev pub of_session : Result Outcome SessionFault → Result Outcome BundleFault
of_session (Ok o) = Ok o
of_session (Err fault) = Err (Session fault)
