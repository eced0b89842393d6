-- The text of an instruction, as an assembler listing has it: the mnemonic, then a space and the operands joined by commas.
-- Mnemonics are those of the Intel 8080 Assembly Language Programming Manual. Pairs are written B D H SP PSW, bytes with two
-- and words with four upper case hexadecimal digits, the number of RST with one digit.
use Rattle.std.specs.Prelude.{ℕ, List, [], ◌∷◌, ◌++◌, codes}
use Rattle.std.specs.List.{flat_map}
use Rattle.decode80.specs.declared.register.Register.{Register}
use Rattle.decode80.specs.declared.register.Register.TheVariants.{B, C, D, E, H, L, A}
use Rattle.decode80.specs.declared.pair.Pair.{Pair}
use Rattle.decode80.specs.declared.pair.Pair.TheVariants.{Bc, De, Hl, Sp}
use Rattle.decode80.specs.declared.pair.StackPair.{StackPair}
use Rattle.decode80.specs.declared.pair.StackPair.TheVariants.{Bc as StackBc, De as StackDe, Hl as StackHl, Psw}
use Rattle.decode80.specs.declared.pair.IndexPair.{IndexPair}
use Rattle.decode80.specs.declared.pair.IndexPair.TheVariants.{Bc as IndexBc, De as IndexDe}
use Rattle.decode80.specs.declared.condition.Condition.{Condition}
use Rattle.decode80.specs.declared.condition.Condition.TheVariants.{NonZero, Zero, NoCarry, Carry, ParityOdd, ParityEven, Plus, Minus}
use Rattle.decode80.specs.declared.operation.Operation.{Operation}
use Rattle.decode80.specs.declared.operation.Operation.TheVariants.{Add, AddCarry, Subtract, SubtractBorrow, And, ExclusiveOr, Or, Compare}
use Rattle.decode80.specs.declared.operation.Operand.{Operand}
use Rattle.decode80.specs.declared.operation.Operand.TheVariants.{Register as InRegister, Memory, Immediate}
use Rattle.decode80.specs.declared.rotation.Rotation.{Rotation}
use Rattle.decode80.specs.declared.rotation.Rotation.TheVariants.{Left, Right, LeftThroughCarry, RightThroughCarry}
use Rattle.decode80.specs.declared.instr.Instr.{Instr}
use Rattle.decode80.specs.declared.instr.Instr.TheVariants.{Mov, Load, Store, Mvi, MviMemory, Lxi, Dad, Inx, Dcx, Inr, InrMemory, Dcr, DcrMemory}
use Rattle.decode80.specs.declared.instr.Instr.TheVariants.{Operate, Jmp, JumpIf, Call, CallIf, Ret, ReturnIf, Rst, Push, Pop, Stax, Ldax, Shld, Lhld}
use Rattle.decode80.specs.declared.instr.Instr.TheVariants.{Sta, Lda, Rotate, Daa, Cma, Stc, Cmc, Xthl, Pchl, Xchg, Sphl, In, Out, Ei, Di, Nop, Hlt}
use Rattle.decode80.specs.Restart.{restart_number}
use Rattle.text80.specs.Digits.{digit_text, byte_text, word_text}

abbrev pub register_text : Register → List ℕ
register_text B = codes "B"
register_text C = codes "C"
register_text D = codes "D"
register_text E = codes "E"
register_text H = codes "H"
register_text L = codes "L"
register_text A = codes "A"

abbrev pub memory_text : List ℕ
memory_text = codes "M"

abbrev pub pair_text : Pair → List ℕ
pair_text Bc = codes "B"
pair_text De = codes "D"
pair_text Hl = codes "H"
pair_text Sp = codes "SP"

abbrev pub stack_pair_text : StackPair → List ℕ
stack_pair_text StackBc = codes "B"
stack_pair_text StackDe = codes "D"
stack_pair_text StackHl = codes "H"
stack_pair_text Psw = codes "PSW"

abbrev pub index_pair_text : IndexPair → List ℕ
index_pair_text IndexBc = codes "B"
index_pair_text IndexDe = codes "D"

-- what follows J, C and R
abbrev pub condition_text : Condition → List ℕ
condition_text NonZero = codes "NZ"
condition_text Zero = codes "Z"
condition_text NoCarry = codes "NC"
condition_text Carry = codes "C"
condition_text ParityOdd = codes "PO"
condition_text ParityEven = codes "PE"
condition_text Plus = codes "P"
condition_text Minus = codes "M"

abbrev pub rotation_text : Rotation → List ℕ
rotation_text Left = codes "RLC"
rotation_text Right = codes "RRC"
rotation_text LeftThroughCarry = codes "RAL"
rotation_text RightThroughCarry = codes "RAR"

-- an operation on a register or M
abbrev pub operation_text : Operation → List ℕ
operation_text Add = codes "ADD"
operation_text AddCarry = codes "ADC"
operation_text Subtract = codes "SUB"
operation_text SubtractBorrow = codes "SBB"
operation_text And = codes "ANA"
operation_text ExclusiveOr = codes "XRA"
operation_text Or = codes "ORA"
operation_text Compare = codes "CMP"

-- an operation on a byte
abbrev pub immediate_text : Operation → List ℕ
immediate_text Add = codes "ADI"
immediate_text AddCarry = codes "ACI"
immediate_text Subtract = codes "SUI"
immediate_text SubtractBorrow = codes "SBI"
immediate_text And = codes "ANI"
immediate_text ExclusiveOr = codes "XRI"
immediate_text Or = codes "ORI"
immediate_text Compare = codes "CPI"

abbrev pub operate_text : Operation → Operand → List ℕ
operate_text o (Immediate b) = immediate_text o
operate_text o s = operation_text o

abbrev pub mnemonic : Instr → List ℕ
mnemonic (Mov d s) = codes "MOV"
mnemonic (Load d) = codes "MOV"
mnemonic (Store s) = codes "MOV"
mnemonic (Mvi d b) = codes "MVI"
mnemonic (MviMemory b) = codes "MVI"
mnemonic (Lxi r w) = codes "LXI"
mnemonic (Dad r) = codes "DAD"
mnemonic (Inx r) = codes "INX"
mnemonic (Dcx r) = codes "DCX"
mnemonic (Inr d) = codes "INR"
mnemonic InrMemory = codes "INR"
mnemonic (Dcr d) = codes "DCR"
mnemonic DcrMemory = codes "DCR"
mnemonic (Operate o s) = operate_text o s
mnemonic (Jmp w) = codes "JMP"
mnemonic (JumpIf c w) = codes "J" ++ condition_text c
mnemonic (Call w) = codes "CALL"
mnemonic (CallIf c w) = codes "C" ++ condition_text c
mnemonic Ret = codes "RET"
mnemonic (ReturnIf c) = codes "R" ++ condition_text c
mnemonic (Rst n) = codes "RST"
mnemonic (Push r) = codes "PUSH"
mnemonic (Pop r) = codes "POP"
mnemonic (Stax r) = codes "STAX"
mnemonic (Ldax r) = codes "LDAX"
mnemonic (Shld w) = codes "SHLD"
mnemonic (Lhld w) = codes "LHLD"
mnemonic (Sta w) = codes "STA"
mnemonic (Lda w) = codes "LDA"
mnemonic (Rotate n) = rotation_text n
mnemonic Daa = codes "DAA"
mnemonic Cma = codes "CMA"
mnemonic Stc = codes "STC"
mnemonic Cmc = codes "CMC"
mnemonic Xthl = codes "XTHL"
mnemonic Pchl = codes "PCHL"
mnemonic Xchg = codes "XCHG"
mnemonic Sphl = codes "SPHL"
mnemonic (In b) = codes "IN"
mnemonic (Out b) = codes "OUT"
mnemonic Ei = codes "EI"
mnemonic Di = codes "DI"
mnemonic Nop = codes "NOP"
mnemonic Hlt = codes "HLT"

abbrev pub operand_text : Operand → List ℕ
operand_text (InRegister s) = register_text s
operand_text Memory = memory_text
operand_text (Immediate b) = byte_text b

-- the texts of the operands, in order
abbrev pub operand_texts : Instr → List (List ℕ)
operand_texts (Mov d s) = register_text d ∷ register_text s ∷ []
operand_texts (Load d) = register_text d ∷ memory_text ∷ []
operand_texts (Store s) = memory_text ∷ register_text s ∷ []
operand_texts (Mvi d b) = register_text d ∷ byte_text b ∷ []
operand_texts (MviMemory b) = memory_text ∷ byte_text b ∷ []
operand_texts (Lxi r w) = pair_text r ∷ word_text w ∷ []
operand_texts (Dad r) = pair_text r ∷ []
operand_texts (Inx r) = pair_text r ∷ []
operand_texts (Dcx r) = pair_text r ∷ []
operand_texts (Inr d) = register_text d ∷ []
operand_texts InrMemory = memory_text ∷ []
operand_texts (Dcr d) = register_text d ∷ []
operand_texts DcrMemory = memory_text ∷ []
operand_texts (Operate o s) = operand_text s ∷ []
operand_texts (Jmp w) = word_text w ∷ []
operand_texts (JumpIf c w) = word_text w ∷ []
operand_texts (Call w) = word_text w ∷ []
operand_texts (CallIf c w) = word_text w ∷ []
operand_texts (Rst n) = digit_text (restart_number n) ∷ []
operand_texts (Push r) = stack_pair_text r ∷ []
operand_texts (Pop r) = stack_pair_text r ∷ []
operand_texts (Stax r) = index_pair_text r ∷ []
operand_texts (Ldax r) = index_pair_text r ∷ []
operand_texts (Shld w) = word_text w ∷ []
operand_texts (Lhld w) = word_text w ∷ []
operand_texts (Sta w) = word_text w ∷ []
operand_texts (Lda w) = word_text w ∷ []
operand_texts (In b) = byte_text b ∷ []
operand_texts (Out b) = byte_text b ∷ []
operand_texts i = []

-- a space and the operands joined by commas; nothing if there is none
abbrev pub joined : List (List ℕ) → List ℕ
joined [] = []
joined (x ∷ xs) = codes " " ++ x ++ flat_map (λ y. codes "," ++ y) xs

abbrev pub text : Instr → List ℕ
text i = mnemonic i ++ joined (operand_texts i)
