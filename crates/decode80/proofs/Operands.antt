-- The bytes after an opcode are its instruction's operand, both ways.
use Rattle.std.proofs.Common.{◌≡◌, ℕ, ◌+◌, ◌*◌, ◌/◌, ◌%◌, ◌<◌, List, ◌∷◌, ◌++◌, length, drop, refl, ap, arith}
use Rattle.decode80.specs.declared.operation.Operand.TheVariants.{Register as InRegister, Memory, Immediate}
use Rattle.decode80.specs.declared.instr.Instr.{Instr}
use Rattle.decode80.specs.declared.instr.Instr.TheVariants.{Mvi, MviMemory, Lxi, Operate, Jmp, JumpIf, Call, CallIf, Shld, Lhld, Sta, Lda, In, Out}
use Rattle.decode80.specs.Spelling.{spelling, opcode, BeginsWith}
use Rattle.decode80.specs.Decoded.{with_operand}

-- a spelling is its first byte and others
pub spelling-cons : (i : Instr) → spelling i ≡ opcode i ∷ drop 1 (spelling i)
spelling-cons (Operate o (InRegister s)) = refl
spelling-cons (Operate o Memory) = refl
spelling-cons (Operate o (Immediate b)) = refl
spelling-cons i = refl

pub length-with_operand : (i : Instr) (b c : ℕ) → length (spelling (with_operand b c i)) ≡ length (spelling i)
length-with_operand (Operate o (InRegister s)) b c = refl
length-with_operand (Operate o Memory) b c = refl
length-with_operand (Operate o (Immediate x)) b c = refl
length-with_operand i b c = refl

-- the byte, or the word, that a spelling says
byte_said : (a b n opcode : ℕ) (more rest : List ℕ) → a ∷ b ∷ more ≡ opcode ∷ n ∷ rest → b ≡ n
byte_said a b n opcode more rest same = cc

word_said : (a b c w opcode : ℕ) (more rest : List ℕ) → a ∷ b ∷ c ∷ more ≡ opcode ∷ w % 256 ∷ w / 256 ∷ rest → b + 256 * c ≡ w
word_said a b c w opcode more rest same =
    let low : b ≡ w % 256 = cc in
    let high : c ≡ w / 256 = cc in
    omega arith

-- the operand that a spelling says gives the instruction back
pub with_operand_said : (i : Instr) (a b c : ℕ) (more rest : List ℕ) → a ∷ b ∷ c ∷ more ≡ spelling i ++ rest → with_operand b c (with_operand 0 0 i) ≡ i
with_operand_said (Mvi d n) a b c more rest same = ap (λ x. Mvi d x) (byte_said _ _ _ _ _ _ same)
with_operand_said (MviMemory n) a b c more rest same = ap (λ x. MviMemory x) (byte_said _ _ _ _ _ _ same)
with_operand_said (Operate o (Immediate n)) a b c more rest same = ap (λ x. Operate o (Immediate x)) (byte_said _ _ _ _ _ _ same)
with_operand_said (Operate o (InRegister s)) a b c more rest same = refl
with_operand_said (Operate o Memory) a b c more rest same = refl
with_operand_said (In n) a b c more rest same = ap (λ x. In x) (byte_said _ _ _ _ _ _ same)
with_operand_said (Out n) a b c more rest same = ap (λ x. Out x) (byte_said _ _ _ _ _ _ same)
with_operand_said (Lxi r w) a b c more rest same = ap (λ x. Lxi r x) (word_said _ _ _ w _ _ _ same)
with_operand_said (Jmp w) a b c more rest same = ap (λ x. Jmp x) (word_said _ _ _ w _ _ _ same)
with_operand_said (JumpIf t w) a b c more rest same = ap (λ x. JumpIf t x) (word_said _ _ _ w _ _ _ same)
with_operand_said (Call w) a b c more rest same = ap (λ x. Call x) (word_said _ _ _ w _ _ _ same)
with_operand_said (CallIf t w) a b c more rest same = ap (λ x. CallIf t x) (word_said _ _ _ w _ _ _ same)
with_operand_said (Shld w) a b c more rest same = ap (λ x. Shld x) (word_said _ _ _ w _ _ _ same)
with_operand_said (Lhld w) a b c more rest same = ap (λ x. Lhld x) (word_said _ _ _ w _ _ _ same)
with_operand_said (Sta w) a b c more rest same = ap (λ x. Sta x) (word_said _ _ _ w _ _ _ same)
with_operand_said (Lda w) a b c more rest same = ap (λ x. Lda x) (word_said _ _ _ w _ _ _ same)
with_operand_said i a b c more rest same = refl

-- the bytes of a word, low byte first
low_byte : (b c : ℕ) → b < 256 → (b + 256 * c) % 256 ≡ b
low_byte b c small = omega arith

high_byte : (b c : ℕ) → b < 256 → (b + 256 * c) / 256 ≡ c
high_byte b c small = omega arith

word_spelled : (a b c : ℕ) (more : List ℕ) → b < 256 → a ∷ b ∷ c ∷ more ≡ a ∷ (b + 256 * c) % 256 ∷ (b + 256 * c) / 256 ∷ more
word_spelled a b c more small = simp (low_byte b c small, high_byte b c small)

-- an opcode and its operand begin with the spelling
pub BeginsWith-with_operand : (i : Instr) (b c : ℕ) (more : List ℕ) → b < 256 → BeginsWith (opcode i ∷ b ∷ c ∷ more) (with_operand b c i)
BeginsWith-with_operand (Mvi d n) b c more small = (c ∷ more, refl)
BeginsWith-with_operand (MviMemory n) b c more small = (c ∷ more, refl)
BeginsWith-with_operand (Operate o (Immediate n)) b c more small = (c ∷ more, refl)
BeginsWith-with_operand (Operate o (InRegister s)) b c more small = (b ∷ c ∷ more, refl)
BeginsWith-with_operand (Operate o Memory) b c more small = (b ∷ c ∷ more, refl)
BeginsWith-with_operand (In n) b c more small = (c ∷ more, refl)
BeginsWith-with_operand (Out n) b c more small = (c ∷ more, refl)
BeginsWith-with_operand (Lxi r w) b c more small = (more, word_spelled _ b c more small)
BeginsWith-with_operand (Jmp w) b c more small = (more, word_spelled _ b c more small)
BeginsWith-with_operand (JumpIf t w) b c more small = (more, word_spelled _ b c more small)
BeginsWith-with_operand (Call w) b c more small = (more, word_spelled _ b c more small)
BeginsWith-with_operand (CallIf t w) b c more small = (more, word_spelled _ b c more small)
BeginsWith-with_operand (Shld w) b c more small = (more, word_spelled _ b c more small)
BeginsWith-with_operand (Lhld w) b c more small = (more, word_spelled _ b c more small)
BeginsWith-with_operand (Sta w) b c more small = (more, word_spelled _ b c more small)
BeginsWith-with_operand (Lda w) b c more small = (more, word_spelled _ b c more small)
BeginsWith-with_operand i b c more small = (b ∷ c ∷ more, refl)
