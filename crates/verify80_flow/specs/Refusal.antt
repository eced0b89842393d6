-- Refusals: their numbers, names and addresses, and those for faults of looks and of frames at an address. (This project's own.)
use Rattle.std.specs.Prelude.{ℕ, Bool, true, false, List, Option, Some, None, codes}
use Rattle.frames80.specs.declared.fault.FrameFault.{FrameFault}
use Rattle.frames80.specs.declared.fault.FrameFault.TheVariants.{Sphl as FrameSphl, StackByByte as FrameStackByByte, SetsStack as FrameSetsStack}
use Rattle.frames80.specs.declared.fault.FrameFault.TheVariants.{PopsBelow as FramePopsBelow, ReturnNotOwn as FrameReturnNotOwn}
use Rattle.frames80.specs.declared.fault.FrameFault.TheVariants.{ReturnFromMain as FrameReturnFromMain, Memory as FrameMemory}
use Rattle.frames80.specs.declared.code.LookFault.{LookFault}
use Rattle.frames80.specs.declared.code.LookFault.TheVariants.{Outside, Unused, EnablesInterrupts as LooksAtEi, Pchl as LooksAtPchl, DirectStore as LooksAtStore}
use Rattle.verify80_flow.specs.declared.refusal.Refusal.{Refusal}
use Rattle.verify80_flow.specs.declared.refusal.Refusal.TheVariants.{FetchOutside, UnusedOpcode, EnablesInterrupts, Sphl, Pchl, StackByByte, SetsStack}
use Rattle.verify80_flow.specs.declared.refusal.Refusal.TheVariants.{DirectStore, PopsBelow, ReturnNotOwn, ReturnFromMain, HeightsDiffer, UnevenArguments}
use Rattle.verify80_flow.specs.declared.refusal.Refusal.TheVariants.{ShortArguments, Recursion, StackTooSmall, TooManyPoints, Memory}

abbrev pub refusal_code : Refusal → ℕ
refusal_code (FetchOutside at) = 1
refusal_code (UnusedOpcode at) = 2
refusal_code (EnablesInterrupts at) = 3
refusal_code (Sphl at) = 4
refusal_code (Pchl at) = 5
refusal_code (StackByByte at) = 6
refusal_code (SetsStack at) = 7
refusal_code (DirectStore at) = 8
refusal_code (PopsBelow at) = 9
refusal_code (ReturnNotOwn at) = 10
refusal_code (ReturnFromMain at) = 11
refusal_code (HeightsDiffer at) = 12
refusal_code (UnevenArguments at) = 13
refusal_code (ShortArguments at) = 14
refusal_code (Recursion at) = 15
refusal_code (StackTooSmall need has) = 16
refusal_code TooManyPoints = 17
refusal_code Memory = 18

-- whether a refusal is for a word of a frame, that it isn't the return address
abbrev pub rests_on_a_word : Refusal → Bool
rests_on_a_word (ReturnNotOwn at) = true
rests_on_a_word _ = false

-- the name that is printed
abbrev pub refusal_name : Refusal → List ℕ
refusal_name (FetchOutside at) = codes "FetchOutside"
refusal_name (UnusedOpcode at) = codes "UnusedOpcode"
refusal_name (EnablesInterrupts at) = codes "EnablesInterrupts"
refusal_name (Sphl at) = codes "Sphl"
refusal_name (Pchl at) = codes "Pchl"
refusal_name (StackByByte at) = codes "StackByByte"
refusal_name (SetsStack at) = codes "SetsStack"
refusal_name (DirectStore at) = codes "DirectStore"
refusal_name (PopsBelow at) = codes "PopsBelow"
refusal_name (ReturnNotOwn at) = codes "ReturnNotOwn"
refusal_name (ReturnFromMain at) = codes "ReturnFromMain"
refusal_name (HeightsDiffer at) = codes "HeightsDiffer"
refusal_name (UnevenArguments at) = codes "UnevenArguments"
refusal_name (ShortArguments at) = codes "ShortArguments"
refusal_name (Recursion at) = codes "Recursion"
refusal_name (StackTooSmall need has) = codes "StackTooSmall"
refusal_name TooManyPoints = codes "TooManyPoints"
refusal_name Memory = codes "Memory"

-- the address that is named, if there is one
abbrev pub refusal_address : Refusal → Option ℕ
refusal_address (FetchOutside at) = Some at
refusal_address (UnusedOpcode at) = Some at
refusal_address (EnablesInterrupts at) = Some at
refusal_address (Sphl at) = Some at
refusal_address (Pchl at) = Some at
refusal_address (StackByByte at) = Some at
refusal_address (SetsStack at) = Some at
refusal_address (DirectStore at) = Some at
refusal_address (PopsBelow at) = Some at
refusal_address (ReturnNotOwn at) = Some at
refusal_address (ReturnFromMain at) = Some at
refusal_address (HeightsDiffer at) = Some at
refusal_address (UnevenArguments at) = Some at
refusal_address (ShortArguments at) = Some at
refusal_address (Recursion at) = Some at
refusal_address (StackTooSmall need has) = None
refusal_address TooManyPoints = None
refusal_address Memory = None

abbrev pub refusal_of : FrameFault → ℕ → Refusal
refusal_of FrameSphl at = Sphl at
refusal_of FrameStackByByte at = StackByByte at
refusal_of FrameSetsStack at = SetsStack at
refusal_of FramePopsBelow at = PopsBelow at
refusal_of FrameReturnNotOwn at = ReturnNotOwn at
refusal_of FrameReturnFromMain at = ReturnFromMain at
refusal_of FrameMemory at = Memory

abbrev pub look_refusal : LookFault → ℕ → Refusal
look_refusal Outside at = FetchOutside at
look_refusal Unused at = UnusedOpcode at
look_refusal LooksAtEi at = EnablesInterrupts at
look_refusal LooksAtPchl at = Pchl at
look_refusal LooksAtStore at = DirectStore at
