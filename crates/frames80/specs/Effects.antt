-- What each instruction does to a frame. (The instructions and the registers they write are those of the Intel 8080 Assembly
-- Language Programming Manual; that SPHL, INX SP, DCX SP and most of LXI SP are refused, and
-- that PCHL leads to declared targets, is this project's own.)
use Rattle.std.specs.Prelude.{◌*◌, Option, None, Some}
use Rattle.decode80.specs.declared.register.Register.{Register}
use Rattle.decode80.specs.declared.register.Register.TheVariants.{A, B, C, D, E, H, L}
use Rattle.decode80.specs.declared.pair.Pair.{Pair}
use Rattle.decode80.specs.declared.pair.Pair.TheVariants.{Bc, De, Hl, Sp}
use Rattle.decode80.specs.declared.pair.StackPair.{StackPair}
use Rattle.decode80.specs.declared.pair.StackPair.TheVariants.{Bc as StackBc, De as StackDe, Hl as StackHl, Psw}
use Rattle.decode80.specs.declared.instr.Instr.{Instr}
use Rattle.decode80.specs.declared.instr.Instr.TheVariants.{Mov, Load, Store, Mvi, MviMemory, Lxi, Dad, Inx, Dcx, Inr, InrMemory, Dcr, DcrMemory}
use Rattle.decode80.specs.declared.instr.Instr.TheVariants.{Operate, Jmp, JumpIf, Call, CallIf, Ret, ReturnIf, Rst, Push, Pop, Stax, Ldax, Shld, Lhld}
use Rattle.decode80.specs.declared.instr.Instr.TheVariants.{Sta, Lda, Rotate, Daa, Cma, Stc, Cmc, Xthl, Pchl, Xchg, Sphl, In, Out, Ei, Di, Nop, Hlt}
use Rattle.decode80.specs.Restart.{restart_number}
use Rattle.frames80.specs.declared.fault.FrameFault.TheVariants.{Sphl as SetsPointer, StackByByte}
use Rattle.frames80.specs.declared.frame_pair.FramePair.{FramePair}
use Rattle.frames80.specs.declared.frame_pair.FramePair.TheVariants.{Bc as FrameBc, De as FrameDe, Hl as FrameHl}
use Rattle.frames80.specs.declared.effect.Change.{Change}
use Rattle.frames80.specs.declared.effect.Change.TheVariants.{Keep, Push as PushPair, PushAny, Pop as PopPair, Drop, Swap, Exchange, Forget, SetStack}
use Rattle.frames80.specs.declared.effect.Effect.{Effect}
use Rattle.frames80.specs.declared.effect.Effect.TheVariants.{Change as Changes, Halt, Jump, JumpIf as JumpsIf, Case, Call as Calls, CallIf as CallsIf, Return, ReturnIf as ReturnsIf, Refuse}

-- a register is written: its pair may hold any word from then on. A is in no pair that is followed
abbrev pub written : Register → Change
written B = Forget FrameBc
written C = Forget FrameBc
written D = Forget FrameDe
written E = Forget FrameDe
written H = Forget FrameHl
written L = Forget FrameHl
written A = Keep

-- a pair is loaded, incremented or decremented: it may hold any word from then on; of SP the effect is the other one given
abbrev pub loaded : Pair → Effect → Effect
loaded Bc else_ = Changes (Forget FrameBc)
loaded De else_ = Changes (Forget FrameDe)
loaded Hl else_ = Changes (Forget FrameHl)
loaded Sp else_ = else_

-- the pair of a frame that PUSH and POP name; PSW, A and the flags, is none of them
abbrev pub in_frame : StackPair → Option FramePair
in_frame StackBc = Some FrameBc
in_frame StackDe = Some FrameDe
in_frame StackHl = Some FrameHl
in_frame Psw = None

-- PUSH: of PSW, A and the flags, it is any word
abbrev pub pushed_by : StackPair → Change
pushed_by StackBc = PushPair FrameBc
pushed_by StackDe = PushPair FrameDe
pushed_by StackHl = PushPair FrameHl
pushed_by Psw = PushAny

-- POP: into PSW, the word is lost
abbrev pub popped_by : StackPair → Change
popped_by StackBc = PopPair FrameBc
popped_by StackDe = PopPair FrameDe
popped_by StackHl = PopPair FrameHl
popped_by Psw = Drop

-- the effect of each instruction. Those from MOV M on write neither a pair nor the stack: stores, what works on A alone,
-- IN, OUT, EI, DI and NOP
abbrev pub effect_of : Instr → Effect
effect_of (Mov to _) = Changes (written to)
effect_of (Load to) = Changes (written to)
effect_of (Mvi to _) = Changes (written to)
effect_of (Inr to) = Changes (written to)
effect_of (Dcr to) = Changes (written to)
effect_of (Lxi pair word) = loaded pair (Changes (SetStack word))
effect_of (Inx pair) = loaded pair (Refuse StackByByte)
effect_of (Dcx pair) = loaded pair (Refuse StackByByte)
effect_of (Dad _) = Changes (Forget FrameHl)
effect_of (Lhld _) = Changes (Forget FrameHl)
effect_of (Push pair) = Changes (pushed_by pair)
effect_of (Pop pair) = Changes (popped_by pair)
effect_of Xthl = Changes Swap
effect_of Xchg = Changes Exchange
effect_of Sphl = Refuse SetsPointer
effect_of Pchl = Case
effect_of (Jmp to) = Jump to
effect_of (JumpIf _ to) = JumpsIf to
effect_of (Call to) = Calls to
effect_of (CallIf _ to) = CallsIf to
effect_of (Rst number) = Calls (8 * restart_number number)
effect_of Ret = Return
effect_of (ReturnIf _) = ReturnsIf
effect_of Hlt = Halt
effect_of (Store _) = Changes Keep
effect_of (MviMemory _) = Changes Keep
effect_of InrMemory = Changes Keep
effect_of DcrMemory = Changes Keep
effect_of (Stax _) = Changes Keep
effect_of (Sta _) = Changes Keep
effect_of (Shld _) = Changes Keep
effect_of (Ldax _) = Changes Keep
effect_of (Lda _) = Changes Keep
effect_of (Operate _ _) = Changes Keep
effect_of (Rotate _) = Changes Keep
effect_of Daa = Changes Keep
effect_of Cma = Changes Keep
effect_of Stc = Changes Keep
effect_of Cmc = Changes Keep
effect_of (In _) = Changes Keep
effect_of (Out _) = Changes Keep
effect_of Ei = Changes Keep
effect_of Di = Changes Keep
effect_of Nop = Changes Keep

-- the change that an effect makes before it goes on
abbrev pub change_of : Effect → Change
change_of (Changes change) = change
change_of Halt = Keep
change_of (Jump _) = Keep
change_of (JumpsIf _) = Keep
change_of Case = Keep
change_of (Calls _) = Keep
change_of (CallsIf _) = Keep
change_of Return = Keep
change_of ReturnsIf = Keep
change_of (Refuse _) = Keep
