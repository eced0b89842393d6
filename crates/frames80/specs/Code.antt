-- What the verifier goes by: the instruction at each address, or why none may be executed there, the targets that are declared
-- for a PCHL there, the address where the main program starts, and the stack's top and length. (This project's own.)
use Rattle.std.specs.Prelude.{ℕ, List, Result}
use Rattle.decode80.specs.declared.fetching.Fetched.{Fetched}
use Rattle.frames80.specs.declared.role.Role.{Role}
use Rattle.frames80.specs.declared.role.Role.TheVariants.{Main as MainRole, Entry as EntryRole}
use Rattle.frames80.specs.declared.procedure.Procedure.{Procedure}
use Rattle.frames80.specs.declared.procedure.Procedure.TheVariants.{Main, Entry}
use Rattle.frames80.specs.declared.code.LookFault.{LookFault}

pub record Code : Type 0 where
  pub look : ℕ → Result Fetched LookFault
  pub targets : ℕ → List ℕ
  pub start : ℕ
  pub top : ℕ
  pub stack : ℕ

-- what a procedure is to its frames: the main program may load the stack's top into SP
abbrev pub role_of : Code → Procedure → Role
role_of code Main = MainRole code.top
role_of code (Entry _) = EntryRole
