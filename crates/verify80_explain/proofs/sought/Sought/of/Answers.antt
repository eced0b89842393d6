use Rattle.verify80_flow.specs.declared.refusal.Refusal.TheVariants.{FetchOutside, UnusedOpcode, EnablesInterrupts, Sphl, Pchl, StackByByte}
use Rattle.verify80_flow.specs.declared.refusal.Refusal.TheVariants.{SetsStack, DirectStore, PopsBelow, ReturnNotOwn, ReturnFromMain}
use Rattle.frames80.specs.declared.code.LookFault.TheVariants.{Outside, Unused, EnablesInterrupts as LooksAtEi, Pchl as LooksAtPchl, DirectStore as LooksAtStore}
use Rattle.frames80.specs.declared.fault.FrameFault.TheVariants.{Sphl as FrameSphl, StackByByte as FrameStackByByte, SetsStack as FrameSetsStack}
use Rattle.frames80.specs.declared.fault.FrameFault.TheVariants.{PopsBelow as FramePopsBelow, ReturnNotOwn as FrameReturnNotOwn, ReturnFromMain as FrameReturnFromMain}
use Rattle.verify80_explain.proofs.SoughtLemmas.{look-sought, frame-sought, heights-sought, returns-sought, shortage-sought, ring-sought}
use Rattle.verify80_explain.proofs.sought.Sought.of.Goals as goal

pub returns-in-FetchOutside : goal.returns-in-FetchOutside
returns-in-FetchOutside c = rw c.in-FetchOutside.is (rw c.fault.ensures (look-sought (FetchOutside c.in-FetchOutside.at) c.in-FetchOutside.at Outside (λ code shown wrong leads. record { fault = wrong; leads = leads })))

pub returns-in-UnusedOpcode : goal.returns-in-UnusedOpcode
returns-in-UnusedOpcode c = rw c.in-UnusedOpcode.is (rw c.fault-in-UnusedOpcode.ensures (look-sought (UnusedOpcode c.in-UnusedOpcode.at) c.in-UnusedOpcode.at Unused (λ code shown wrong leads. record { fault = wrong; leads = leads })))

pub returns-in-EnablesInterrupts : goal.returns-in-EnablesInterrupts
returns-in-EnablesInterrupts c = rw c.in-EnablesInterrupts.is (rw c.fault-in-EnablesInterrupts.ensures (look-sought (EnablesInterrupts c.in-EnablesInterrupts.at) c.in-EnablesInterrupts.at LooksAtEi (λ code shown wrong leads. record { fault = wrong; leads = leads })))

pub returns-in-Pchl : goal.returns-in-Pchl
returns-in-Pchl c = rw c.in-Pchl.is (rw c.fault-in-Pchl.ensures (look-sought (Pchl c.in-Pchl.at) c.in-Pchl.at LooksAtPchl (λ code shown wrong leads. record { fault = wrong; leads = leads })))

pub returns-in-DirectStore : goal.returns-in-DirectStore
returns-in-DirectStore c = rw c.in-DirectStore.is (rw c.fault-in-DirectStore.ensures (look-sought (DirectStore c.in-DirectStore.at) c.in-DirectStore.at LooksAtStore (λ code shown wrong leads. record { fault = wrong; leads = leads })))

pub returns-in-Sphl : goal.returns-in-Sphl
returns-in-Sphl c = rw c.in-Sphl.is (rw c.fault-in-Sphl.ensures (frame-sought (Sphl c.in-Sphl.at) c.in-Sphl.at FrameSphl (λ code shown wrong leads. record { fault = wrong; leads = leads })))

pub returns-in-StackByByte : goal.returns-in-StackByByte
returns-in-StackByByte c = rw c.in-StackByByte.is (rw c.fault-in-StackByByte.ensures (frame-sought (StackByByte c.in-StackByByte.at) c.in-StackByByte.at FrameStackByByte (λ code shown wrong leads. record { fault = wrong; leads = leads })))

pub returns-in-SetsStack : goal.returns-in-SetsStack
returns-in-SetsStack c = rw c.in-SetsStack.is (rw c.fault-in-SetsStack.ensures (frame-sought (SetsStack c.in-SetsStack.at) c.in-SetsStack.at FrameSetsStack (λ code shown wrong leads. record { fault = wrong; leads = leads })))

pub returns-in-PopsBelow : goal.returns-in-PopsBelow
returns-in-PopsBelow c = rw c.in-PopsBelow.is (rw c.fault-in-PopsBelow.ensures (frame-sought (PopsBelow c.in-PopsBelow.at) c.in-PopsBelow.at FramePopsBelow (λ code shown wrong leads. record { fault = wrong; leads = leads })))

pub returns-in-ReturnNotOwn : goal.returns-in-ReturnNotOwn
returns-in-ReturnNotOwn c = rw c.in-ReturnNotOwn.is (rw c.fault-in-ReturnNotOwn.ensures (frame-sought (ReturnNotOwn c.in-ReturnNotOwn.at) c.in-ReturnNotOwn.at FrameReturnNotOwn (λ code shown wrong leads. record { fault = wrong; leads = leads })))

pub returns-in-ReturnFromMain : goal.returns-in-ReturnFromMain
returns-in-ReturnFromMain c = rw c.in-ReturnFromMain.is (rw c.fault-in-ReturnFromMain.ensures (frame-sought (ReturnFromMain c.in-ReturnFromMain.at) c.in-ReturnFromMain.at FrameReturnFromMain (λ code shown wrong leads. record { fault = wrong; leads = leads })))

pub returns-in-HeightsDiffer : goal.returns-in-HeightsDiffer
returns-in-HeightsDiffer c = rw c.in-HeightsDiffer.is (rw c.clash.ensures (heights-sought c.in-HeightsDiffer.at))

pub returns-in-UnevenArguments : goal.returns-in-UnevenArguments
returns-in-UnevenArguments c = rw c.in-UnevenArguments.is (rw c.clash-in-UnevenArguments.ensures (returns-sought c.in-UnevenArguments.at))

pub returns-in-ShortArguments : goal.returns-in-ShortArguments
returns-in-ShortArguments c = rw c.in-ShortArguments.is (rw c.clash-in-ShortArguments.ensures (shortage-sought c.in-ShortArguments.at))

pub returns-in-Recursion : goal.returns-in-Recursion
returns-in-Recursion c = rw c.in-Recursion.is (rw c.ring.ensures (ring-sought c.in-Recursion.at))
