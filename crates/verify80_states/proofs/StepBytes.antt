-- One step of a machine that holds bytes.
use Rattle.verify80_states.proofs.Names.{arith, [], ◌≡◌, ℕ, ◌/◌, ◌%◌, Bool, true, false, List, length, refl, if◌then◌else◌, All-nil, Instr, Mov, Load}
use Rattle.verify80_states.proofs.Names.{Store, Mvi, MviMemory, Lxi, Dad, Inx, Dcx, Inr, InrMemory, Dcr, DcrMemory, Operate, Call, CallIf, Rst, Push}
use Rattle.verify80_states.proofs.Names.{Pop, Stax, Ldax, Shld, Lhld, Sta, Lda, Rotate, Daa, Cma, Stc, Cmc, Xthl, Xchg, InRegister, Memory, Immediate}
use Rattle.verify80_states.proofs.Names.{ahead, HasOperandInRange, Cpu, holds, increment_answer, decrement_answer, register_of, with_register, hl_of}
use Rattle.verify80_states.proofs.Names.{pair_of, byte_in, push_bytes, stores, changed, Machine, IsByte, IsWord, HasBytes, AreBytes, HoldsBytes}
use Rattle.verify80_states.proofs.Names.{BytesStayBytes, MemoryKeepsItsLength, FetchedOperandsAreBounded, operand_of, Operand, Operation, Registers}
use Rattle.machine80.specs.Arithmetic.{complement_of, pair_sum}
use Rattle.verify80_states.proofs.ArithmeticBounds.{ahead_is_word, behind_is_word, operation_is_byte, increment_is_byte, decrement_is_byte, decimal_is_byte, rotation_is_byte}
use Rattle.verify80_states.proofs.RegisterBytes.{register_is_byte, high_is_byte, low_is_byte, flags_written, accumulator_written, hl_written, register_written, pair_written, stack_pair_written}
use Rattle.verify80_states.proofs.StepLeads.{any_step}
use Rattle.verify80_states.proofs.ByteLemmas.{byte_at, one_each, two_each, StoresByte, StoresBytes, stored_are_bytes, stored_length, input_is_byte, inputs_left}

-- what the accumulator's operations take
pub operand_is_byte : (o : Operation) (operand : Operand) (memory : List ℕ) (r : Registers) → HasOperandInRange (Operate o operand) → HasBytes memory → AreBytes r → IsByte (operand_of operand memory r)
operand_is_byte o (InRegister register) memory r small held bytes = register_is_byte r register bytes
operand_is_byte o Memory memory r small held bytes = byte_at memory (hl_of r) held
operand_is_byte o (Immediate byte) memory r small held bytes = small

-- registers after an instruction
pub changed_bytes : (i : Instr) (memory : List ℕ) (cpu : Cpu) → HasOperandInRange i → HasBytes memory → AreBytes cpu.registers → AreBytes (changed i memory cpu).registers
unfolding pair_sum complement_of
changed_bytes (Mov to from) memory cpu small held bytes = register_written cpu.registers to _ (register_is_byte cpu.registers from bytes) bytes
changed_bytes (Load to) memory cpu small held bytes = register_written cpu.registers to _ (byte_at memory _ held) bytes
changed_bytes (Mvi to byte) memory cpu small held bytes = register_written cpu.registers to byte small bytes
changed_bytes (Lxi pair n) memory cpu small held bytes = pair_written cpu pair n small bytes
changed_bytes (Inx pair) memory cpu small held bytes = pair_written cpu pair _ (ahead_is_word (pair_of cpu pair) 1) bytes
changed_bytes (Dcx pair) memory cpu small held bytes = pair_written cpu pair _ (behind_is_word (pair_of cpu pair) 1) bytes
changed_bytes (Ldax pair) memory cpu small held bytes = accumulator_written cpu.registers _ cpu.registers.flags (byte_at memory _ held) bytes
changed_bytes (Lda address) memory cpu small held bytes = accumulator_written cpu.registers _ cpu.registers.flags (byte_at memory address held) bytes
changed_bytes (Lhld address) memory cpu small held bytes = hl_written cpu.registers _ _ (byte_at memory (ahead address 1) held) (byte_at memory address held) bytes
changed_bytes Xchg memory cpu small held bytes = record { a = bytes.a; b = bytes.b; c = bytes.c; d = bytes.h; e = bytes.l; h = bytes.d; l = bytes.e }
changed_bytes (Pop pair) memory cpu small held bytes = stack_pair_written cpu.registers pair _ _ (byte_at memory (ahead cpu.sp 1) held) (byte_at memory cpu.sp held) bytes
changed_bytes Xthl memory cpu small held bytes = hl_written cpu.registers _ _ (byte_at memory (ahead cpu.sp 1) held) (byte_at memory cpu.sp held) bytes
changed_bytes (Operate o operand) memory cpu small held bytes = accumulator_written cpu.registers _ _
    (operation_is_byte o cpu.registers.a (operand_of operand memory cpu.registers) cpu.registers.flags bytes.a (operand_is_byte o operand memory cpu.registers small held bytes)) bytes
changed_bytes (Inr r) memory cpu small held bytes = flags_written (with_register cpu.registers r (increment_answer (register_of cpu.registers r) cpu.registers.flags).value) _
    (register_written cpu.registers r _ (increment_is_byte (register_of cpu.registers r) cpu.registers.flags) bytes)
changed_bytes (Dcr r) memory cpu small held bytes = flags_written (with_register cpu.registers r (decrement_answer (register_of cpu.registers r) cpu.registers.flags).value) _
    (register_written cpu.registers r _ (decrement_is_byte (register_of cpu.registers r) cpu.registers.flags) bytes)
changed_bytes InrMemory memory cpu small held bytes = flags_written cpu.registers _ bytes
changed_bytes DcrMemory memory cpu small held bytes = flags_written cpu.registers _ bytes
changed_bytes (Dad pair) memory cpu small held bytes = flags_written
    (record cpu.registers { h = pair_sum (hl_of cpu.registers) (pair_of cpu pair) / 256; l = pair_sum (hl_of cpu.registers) (pair_of cpu pair) % 256 }) _
    (hl_written cpu.registers _ _ (omega arith) (omega arith) bytes)
changed_bytes (Rotate n) memory cpu small held bytes = accumulator_written cpu.registers _ _ (rotation_is_byte n cpu.registers.a cpu.registers.flags bytes.a) bytes
changed_bytes Daa memory cpu small held bytes = accumulator_written cpu.registers _ _ (decimal_is_byte cpu.registers.a cpu.registers.flags) bytes
changed_bytes Cma memory cpu small held bytes = accumulator_written cpu.registers _ cpu.registers.flags (omega arith) bytes
changed_bytes Stc memory cpu small held bytes = flags_written cpu.registers _ bytes
changed_bytes Cmc memory cpu small held bytes = flags_written cpu.registers _ bytes
changed_bytes i memory cpu small held bytes = bytes

-- what an instruction stores
maybe_stores : (t : Bool) (bytes : List (ℕ × ℕ)) → StoresBytes bytes → StoresBytes (if t then bytes else [])
maybe_stores true bytes small = small
maybe_stores false bytes small = All-nil StoresByte

pub stores_bytes : (i : Instr) (next : ℕ) (memory : List ℕ) (cpu : Cpu) → HasOperandInRange i → IsWord next → AreBytes cpu.registers → StoresBytes (stores i next memory cpu)
stores_bytes (Store from) next memory cpu small after bytes = one_each StoresByte _ (register_is_byte cpu.registers from bytes)
stores_bytes (MviMemory byte) next memory cpu small after bytes = one_each StoresByte _ small
stores_bytes InrMemory next memory cpu small after bytes = one_each StoresByte _ (increment_is_byte (byte_in memory (hl_of cpu.registers)) cpu.registers.flags)
stores_bytes DcrMemory next memory cpu small after bytes = one_each StoresByte _ (decrement_is_byte (byte_in memory (hl_of cpu.registers)) cpu.registers.flags)
stores_bytes (Stax pair) next memory cpu small after bytes = one_each StoresByte _ bytes.a
stores_bytes (Sta address) next memory cpu small after bytes = one_each StoresByte _ bytes.a
stores_bytes (Shld address) next memory cpu small after bytes = two_each StoresByte _ _ bytes.l bytes.h
stores_bytes (Push pair) next memory cpu small after bytes = two_each StoresByte _ _ (high_is_byte cpu.registers pair bytes) (low_is_byte cpu.registers pair bytes)
stores_bytes (Call to) next memory cpu small after bytes = two_each StoresByte _ _ (omega arith) (omega arith)
stores_bytes (CallIf condition to) next memory cpu small after bytes = maybe_stores (holds condition cpu.registers.flags) (push_bytes cpu.sp (next / 256) (next % 256))
    (two_each StoresByte _ _ (omega arith) (omega arith))
stores_bytes (Rst n) next memory cpu small after bytes = two_each StoresByte _ _ (omega arith) (omega arith)
stores_bytes Xthl next memory cpu small after bytes = two_each StoresByte _ _ bytes.l bytes.h
stores_bytes i next memory cpu small after bytes = All-nil StoresByte

-- the laws
pub bytes_stay : FetchedOperandsAreBounded → BytesStayBytes
bytes_stay bounded = λ regions refused m after held is. any_step HoldsBytes regions refused m after is
    (λ found fetched. let bound = bounded regions m.memory m.cpu.pc found held.memory fetched in record {
      input = λ port byte got. record {
        registers = accumulator_written m.cpu.registers byte m.cpu.registers.flags (input_is_byte m.inputs port byte held.inputs got) held.registers;
        memory = held.memory;
        inputs = inputs_left m.inputs port held.inputs;
      };
      output = λ port. record { registers = held.registers; memory = held.memory; inputs = held.inputs };
      other = λ jumps halts. record {
        registers = changed_bytes found.instr m.memory m.cpu bound.operand held.memory held.registers;
        memory = stored_are_bytes (stores found.instr found.next m.memory m.cpu) m.memory (stores_bytes found.instr found.next m.memory m.cpu bound.operand bound.next held.registers) held.memory;
        inputs = held.inputs;
      };
    })

pub length_stays : MemoryKeepsItsLength
length_stays = λ regions refused m after is. any_step (λ (x : Machine). length x.memory ≡ length m.memory) regions refused m after is
    (λ found fetched. record {
      input = λ port byte got. refl;
      output = λ port. refl;
      other = λ jumps halts. stored_length (stores found.instr found.next m.memory m.cpu) m.memory;
    })
