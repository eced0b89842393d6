-- The numbers of the faults, which are those of the verifier's refusals. (They are this project's own.)
use Rattle.std.specs.Prelude.{ℕ}
use Rattle.frames80.specs.declared.fault.FrameFault.{FrameFault}
use Rattle.frames80.specs.declared.fault.FrameFault.TheVariants.{Sphl, StackByByte, SetsStack, PopsBelow, ReturnNotOwn, ReturnFromMain, Memory}
use Rattle.frames80.specs.declared.fault.CallFault.{CallFault}
use Rattle.frames80.specs.declared.fault.CallFault.TheVariants.{ShortArguments, Memory as CallMemory}

abbrev pub frame_fault_code : FrameFault → ℕ
frame_fault_code Sphl = 4
frame_fault_code StackByByte = 6
frame_fault_code SetsStack = 7
frame_fault_code PopsBelow = 9
frame_fault_code ReturnNotOwn = 10
frame_fault_code ReturnFromMain = 11
frame_fault_code Memory = 18

abbrev pub call_fault_code : CallFault → ℕ
call_fault_code ShortArguments = 14
call_fault_code CallMemory = 18
