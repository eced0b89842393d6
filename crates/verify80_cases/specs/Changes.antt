-- What an instruction may change on the way to a PCHL: nothing of the machine's but that. (Intel 8080 Microcomputer Systems User's
-- Manual, chapter 4, as the facts of each instruction have it. That a call may change anything, and that an index may be doubled, is
-- this project's own.)
use Rattle.std.specs.Prelude.{◌≡◌, ◌⊎◌, ◌<◌, ◌*◌, ◌&&◌, ◌||◌, Bool, true, false, not, Some}
use Rattle.decode80.specs.declared.fetching.Fetched.{Fetched}
use Rattle.decode80.specs.declared.flow.Flow.{Flow}
use Rattle.decode80.specs.declared.flow.Flow.TheVariants.{Calls, CallsIf}
use Rattle.decode80.specs.declared.instr.Instr.{Instr}
use Rattle.decode80.specs.declared.instr.Instr.TheVariants.{Operate, Rotate}
use Rattle.decode80.specs.declared.operation.Operand.TheVariants.{Register as InRegister}
use Rattle.decode80.specs.declared.operation.Operation.TheVariants.{Add, And, Or}
use Rattle.decode80.specs.declared.pair.Pair.{Pair}
use Rattle.decode80.specs.declared.pair.Pair.TheVariants.{Bc, De, Hl}
use Rattle.decode80.specs.declared.register.Register.TheVariants.{A}
use Rattle.decode80.specs.declared.rotation.Rotation.TheVariants.{Left}
use Rattle.decode80.specs.declared.writes.Writes.{Writes}
use Rattle.decode80.specs.declared.writes.Writes.TheVariants.{One}
use Rattle.decode80.specs.Facts.{affects_carry, flags, flow, writes, writes_pair}
use Rattle.image80.specs.Regions.{Areas}
use Rattle.machine80.specs.declared.registers.Registers.{Registers}
use Rattle.machine80.specs.Cpu.{word}
use Rattle.machine80.specs.Step.{Machine, Next, fetch, step_of}

-- whether an instruction is a call
abbrev pub calls : Flow → Bool
calls (Calls _) = true
calls (CallsIf _ _) = true
calls _ = false

abbrev pub is_call : Instr → Bool
is_call instr = calls (flow instr)

-- whether it may change a pair
abbrev pub may_change : Instr → Pair → Bool
may_change instr pair = is_call instr || writes_pair (writes instr) pair

-- whether A is written
abbrev pub writes_a : Writes → Bool
writes_a (One A) = true
writes_a _ = false

-- whether an instruction on A leaves or doubles it
abbrev pub leaves_or_doubles : Instr → Bool
leaves_or_doubles (Operate Add (InRegister A)) = true
leaves_or_doubles (Operate And (InRegister A)) = true
leaves_or_doubles (Operate Or (InRegister A)) = true
leaves_or_doubles (Rotate Left) = true
leaves_or_doubles _ = false

-- whether it may change A otherwise than by doubling it
abbrev pub may_change_a : Instr → Bool
may_change_a instr = is_call instr || (writes_a (writes instr) && not (leaves_or_doubles instr))

-- whether it may change the carry flag
abbrev pub may_change_carry : Instr → Bool
may_change_carry instr = is_call instr || affects_carry (flags instr)

-- what an instruction may not change is as it was; A may be doubled, if its double is a byte
pub record LeavesTheRest (instr : Instr) (before after : Registers) : Type 0 where
  pub bc : may_change instr Bc ≡ false → word after.b after.c ≡ word before.b before.c
  pub de : may_change instr De ≡ false → word after.d after.e ≡ word before.d before.e
  pub hl : may_change instr Hl ≡ false → word after.h after.l ≡ word before.h before.l
  pub a : may_change_a instr ≡ false → before.a < 128 → (after.a ≡ before.a) ⊎ (after.a ≡ 2 * before.a)
  pub carry : may_change_carry instr ≡ false → after.flags.carry ≡ before.flags.carry

-- The machine's step leaves what the instruction at the program counter may not change.
abbrev pub StepsLeaveTheRest : Type 0
StepsLeaveTheRest = (regions : Areas) (refused : Bool) (m after : Machine) (found : Fetched) →
    fetch regions m.memory m.cpu.pc ≡ Some found → step_of regions refused m ≡ Next after → LeavesTheRest found.instr m.cpu.registers after.cpu.registers
