-- A callee with enough words above the caller's bottom word comes back.
use Rattle.std.specs.Prelude.{◌≡◌, ℕ, ◌≤◌, false, List, drop, nat_lt, Result, Ok}
use Rattle.std.proofs.Common.{ap, arith}
use Rattle.std.proofs.lemmas.Bool.Decides.{nat_tests}
use Rattle.frames80.specs.declared.word.Word.{Word}
use Rattle.frames80.specs.declared.role.Role.{Role}
use Rattle.frames80.specs.declared.fault.CallFault.{CallFault}
use Rattle.frames80.specs.StackFrame.{StackFrame, unknown}
use Rattle.frames80.specs.Calls.{after_call, room}

not_short : (have wants : ℕ) → wants ≤ have → nat_lt have wants ≡ false
not_short have wants enough = grind (arith, nat_tests)

pub came : (role : Role) (wants taken : ℕ) (f : StackFrame) (rest : List Word) → wants ≤ room role f.words → drop taken f.words ≡ rest →
    after_call role wants taken f ≡ Ok (record { taken = f.taken; words = rest; pairs = unknown })
came role wants taken f rest enough left = rw (not_short (room role f.words) wants enough) (ap {B = Result StackFrame CallFault} (λ (ws : List Word). Ok (record { taken = f.taken; words = ws; pairs = unknown })) left)
