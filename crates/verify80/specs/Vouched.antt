-- An image that was vouched for, and what is known of it.
use Rattle.std.specs.Prelude.{ℕ, List}
use Rattle.image80.specs.Image.{Located}
use Rattle.verify80_flow.specs.declared.report.ProcRow.{ProcRow}
use Rattle.verify80_flow.specs.Accepted.{IsAccepted}
use Rattle.machine80.specs.World.{NeverGoesWrong}
use Rattle.verify80.specs.Looking.{code_of}

-- the image, the bytes of stack that it needs, and its procedures
pub record Voucher : Type 0 where
  pub image : Located
  pub stack_bytes : ℕ
  pub rows : List ProcRow

-- the verifier accepts the image with these rows and bytes, and no run of it goes wrong
pub record IsVouched (image : Located) (listed : List ProcRow) (bytes : ℕ) : Type 0 where
  pub accepted : IsAccepted (code_of image) listed bytes
  pub never_goes_wrong : NeverGoesWrong image bytes
