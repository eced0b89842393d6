-- The row of an instruction's first byte is the instruction, with 0 for its byte or word.
use Rattle.std.proofs.Common.{◌≡◌, Some, refl}
use Rattle.decode80.specs.declared.register.Register.{Register}
use Rattle.decode80.specs.declared.register.Register.TheVariants.{B, C, D, E, H, L, A}
use Rattle.decode80.specs.declared.operation.Operation.{Operation}
use Rattle.decode80.specs.declared.operation.Operation.TheVariants.{Add, AddCarry, Subtract, SubtractBorrow, And, ExclusiveOr, Or, Compare}
use Rattle.decode80.specs.declared.operation.Operand.TheVariants.{Register as InRegister, Memory, Immediate}
use Rattle.decode80.specs.declared.instr.Instr.{Instr}
use Rattle.decode80.specs.declared.instr.Instr.TheVariants.{Mov, Load, Store, Mvi, MviMemory, Lxi, Dad, Inx, Dcx, Inr, InrMemory, Dcr, DcrMemory}
use Rattle.decode80.specs.declared.instr.Instr.TheVariants.{Operate, Jmp, JumpIf, Call, CallIf, Ret, ReturnIf, Rst, Push, Pop, Stax, Ldax, Shld, Lhld}
use Rattle.decode80.specs.declared.instr.Instr.TheVariants.{Sta, Lda, Rotate, Daa, Cma, Stc, Cmc, Xthl, Pchl, Xchg, Sphl, In, Out, Ei, Di, Nop, Hlt}
use Rattle.decode80.specs.Spelling.{opcode}
use Rattle.decode80.specs.Decoded.{row, with_operand}
use Rattle.decode80.proofs.Cases.{by_register, by_pair, by_stack_pair, by_index_pair, by_condition, by_operation, by_rotation, by_restart}

row-mov : (d s : Register) → row (opcode (Mov d s)) ≡ Some (Mov d s)
unfolding row
row-mov B s = by_register (λ s. row (opcode (Mov B s)) ≡ Some (Mov B s)) refl refl refl refl refl refl refl s
row-mov C s = by_register (λ s. row (opcode (Mov C s)) ≡ Some (Mov C s)) refl refl refl refl refl refl refl s
row-mov D s = by_register (λ s. row (opcode (Mov D s)) ≡ Some (Mov D s)) refl refl refl refl refl refl refl s
row-mov E s = by_register (λ s. row (opcode (Mov E s)) ≡ Some (Mov E s)) refl refl refl refl refl refl refl s
row-mov H s = by_register (λ s. row (opcode (Mov H s)) ≡ Some (Mov H s)) refl refl refl refl refl refl refl s
row-mov L s = by_register (λ s. row (opcode (Mov L s)) ≡ Some (Mov L s)) refl refl refl refl refl refl refl s
row-mov A s = by_register (λ s. row (opcode (Mov A s)) ≡ Some (Mov A s)) refl refl refl refl refl refl refl s

row-operate : (o : Operation) (s : Register) → row (opcode (Operate o (InRegister s))) ≡ Some (Operate o (InRegister s))
unfolding row
row-operate Add s = by_register (λ s. row (opcode (Operate Add (InRegister s))) ≡ Some (Operate Add (InRegister s))) refl refl refl refl refl refl refl s
row-operate AddCarry s = by_register (λ s. row (opcode (Operate AddCarry (InRegister s))) ≡ Some (Operate AddCarry (InRegister s))) refl refl refl refl refl refl refl s
row-operate Subtract s = by_register (λ s. row (opcode (Operate Subtract (InRegister s))) ≡ Some (Operate Subtract (InRegister s))) refl refl refl refl refl refl refl s
row-operate SubtractBorrow s = by_register (λ s. row (opcode (Operate SubtractBorrow (InRegister s))) ≡ Some (Operate SubtractBorrow (InRegister s))) refl refl refl refl refl refl refl s
row-operate And s = by_register (λ s. row (opcode (Operate And (InRegister s))) ≡ Some (Operate And (InRegister s))) refl refl refl refl refl refl refl s
row-operate ExclusiveOr s = by_register (λ s. row (opcode (Operate ExclusiveOr (InRegister s))) ≡ Some (Operate ExclusiveOr (InRegister s))) refl refl refl refl refl refl refl s
row-operate Or s = by_register (λ s. row (opcode (Operate Or (InRegister s))) ≡ Some (Operate Or (InRegister s))) refl refl refl refl refl refl refl s
row-operate Compare s = by_register (λ s. row (opcode (Operate Compare (InRegister s))) ≡ Some (Operate Compare (InRegister s))) refl refl refl refl refl refl refl s

pub row-opcode : (i : Instr) → row (opcode i) ≡ Some (with_operand 0 0 i)
unfolding row
row-opcode (Mov d s) = row-mov d s
row-opcode (Load d) = by_register (λ d. row (opcode (Load d)) ≡ Some (with_operand 0 0 (Load d))) refl refl refl refl refl refl refl d
row-opcode (Store s) = by_register (λ s. row (opcode (Store s)) ≡ Some (with_operand 0 0 (Store s))) refl refl refl refl refl refl refl s
row-opcode (Mvi d b) = by_register (λ d. row (opcode (Mvi d b)) ≡ Some (with_operand 0 0 (Mvi d b))) refl refl refl refl refl refl refl d
row-opcode (MviMemory b) = refl
row-opcode (Lxi r w) = by_pair (λ r. row (opcode (Lxi r w)) ≡ Some (with_operand 0 0 (Lxi r w))) refl refl refl refl r
row-opcode (Dad r) = by_pair (λ r. row (opcode (Dad r)) ≡ Some (with_operand 0 0 (Dad r))) refl refl refl refl r
row-opcode (Inx r) = by_pair (λ r. row (opcode (Inx r)) ≡ Some (with_operand 0 0 (Inx r))) refl refl refl refl r
row-opcode (Dcx r) = by_pair (λ r. row (opcode (Dcx r)) ≡ Some (with_operand 0 0 (Dcx r))) refl refl refl refl r
row-opcode (Inr d) = by_register (λ d. row (opcode (Inr d)) ≡ Some (with_operand 0 0 (Inr d))) refl refl refl refl refl refl refl d
row-opcode InrMemory = refl
row-opcode (Dcr d) = by_register (λ d. row (opcode (Dcr d)) ≡ Some (with_operand 0 0 (Dcr d))) refl refl refl refl refl refl refl d
row-opcode DcrMemory = refl
row-opcode (Operate o (InRegister s)) = row-operate o s
row-opcode (Operate o Memory) = by_operation (λ o. row (opcode (Operate o Memory)) ≡ Some (with_operand 0 0 (Operate o Memory))) refl refl refl refl refl refl refl refl o
row-opcode (Operate o (Immediate b)) = by_operation (λ o. row (opcode (Operate o (Immediate b))) ≡ Some (with_operand 0 0 (Operate o (Immediate b)))) refl refl refl refl refl refl refl refl o
row-opcode (Jmp w) = refl
row-opcode (JumpIf c w) = by_condition (λ c. row (opcode (JumpIf c w)) ≡ Some (with_operand 0 0 (JumpIf c w))) refl refl refl refl refl refl refl refl c
row-opcode (Call w) = refl
row-opcode (CallIf c w) = by_condition (λ c. row (opcode (CallIf c w)) ≡ Some (with_operand 0 0 (CallIf c w))) refl refl refl refl refl refl refl refl c
row-opcode Ret = refl
row-opcode (ReturnIf c) = by_condition (λ c. row (opcode (ReturnIf c)) ≡ Some (with_operand 0 0 (ReturnIf c))) refl refl refl refl refl refl refl refl c
row-opcode (Rst n) = by_restart (λ n. row (opcode (Rst n)) ≡ Some (with_operand 0 0 (Rst n))) refl refl refl refl refl refl refl refl n
row-opcode (Push r) = by_stack_pair (λ r. row (opcode (Push r)) ≡ Some (with_operand 0 0 (Push r))) refl refl refl refl r
row-opcode (Pop r) = by_stack_pair (λ r. row (opcode (Pop r)) ≡ Some (with_operand 0 0 (Pop r))) refl refl refl refl r
row-opcode (Stax r) = by_index_pair (λ r. row (opcode (Stax r)) ≡ Some (with_operand 0 0 (Stax r))) refl refl r
row-opcode (Ldax r) = by_index_pair (λ r. row (opcode (Ldax r)) ≡ Some (with_operand 0 0 (Ldax r))) refl refl r
row-opcode (Shld w) = refl
row-opcode (Lhld w) = refl
row-opcode (Sta w) = refl
row-opcode (Lda w) = refl
row-opcode (Rotate n) = by_rotation (λ n. row (opcode (Rotate n)) ≡ Some (with_operand 0 0 (Rotate n))) refl refl refl refl n
row-opcode Daa = refl
row-opcode Cma = refl
row-opcode Stc = refl
row-opcode Cmc = refl
row-opcode Xthl = refl
row-opcode Pchl = refl
row-opcode Xchg = refl
row-opcode Sphl = refl
row-opcode (In b) = refl
row-opcode (Out b) = refl
row-opcode Ei = refl
row-opcode Di = refl
row-opcode Nop = refl
row-opcode Hlt = refl
