-- Registers and pairs of bytes, read and written.
use Rattle.verify80_states.proofs.Names.{arith, ℕ, ◌/◌, ◌%◌, Register, Pair, StackPair, IndexPair, IndexBc, IndexDe, A, B, C, D, E}
use Rattle.verify80_states.proofs.Names.{H, L, Bc, De, Hl, Sp, StackBc, StackDe, StackHl, Psw, Flags, Registers, Cpu, register_of}
use Rattle.verify80_states.proofs.Names.{with_register, hl_of, with_pair, index_pair_of, with_stack_pair, IsByte, IsWord, AreBytes}
use Rattle.machine80.specs.Cpu.{high_of, low_of}
use Rattle.verify80_states.proofs.ArithmeticBounds.{word_of_bytes, flags_are_byte}

-- read
pub register_is_byte : (r : Registers) (from : Register) → AreBytes r → IsByte (register_of r from)
register_is_byte r A bytes = bytes.a
register_is_byte r B bytes = bytes.b
register_is_byte r C bytes = bytes.c
register_is_byte r D bytes = bytes.d
register_is_byte r E bytes = bytes.e
register_is_byte r H bytes = bytes.h
register_is_byte r L bytes = bytes.l

pub pointed_is_word : (r : Registers) (pair : IndexPair) → AreBytes r → IsWord (index_pair_of r pair)
pointed_is_word r IndexBc bytes = word_of_bytes r.b r.c bytes.b bytes.c
pointed_is_word r IndexDe bytes = word_of_bytes r.d r.e bytes.d bytes.e

pub hl_is_word : (r : Registers) → AreBytes r → IsWord (hl_of r)
hl_is_word r bytes = word_of_bytes r.h r.l bytes.h bytes.l

pub high_is_byte : (r : Registers) (pair : StackPair) → AreBytes r → IsByte (high_of r pair)
high_is_byte r StackBc bytes = bytes.b
high_is_byte r StackDe bytes = bytes.d
high_is_byte r StackHl bytes = bytes.h
high_is_byte r Psw bytes = bytes.a

pub low_is_byte : (r : Registers) (pair : StackPair) → AreBytes r → IsByte (low_of r pair)
low_is_byte r StackBc bytes = bytes.c
low_is_byte r StackDe bytes = bytes.e
low_is_byte r StackHl bytes = bytes.l
low_is_byte r Psw bytes = flags_are_byte r.flags

-- written; flags are no bytes of their own
pub flags_written : (r : Registers) (f : Flags) → AreBytes r → AreBytes (record r { flags = f })
flags_written r f bytes = record { a = bytes.a; b = bytes.b; c = bytes.c; d = bytes.d; e = bytes.e; h = bytes.h; l = bytes.l }

pub accumulator_written : (r : Registers) (byte : ℕ) (f : Flags) → IsByte byte → AreBytes r → AreBytes (record r { a = byte; flags = f })
accumulator_written r byte f small bytes = record { a = small; b = bytes.b; c = bytes.c; d = bytes.d; e = bytes.e; h = bytes.h; l = bytes.l }

pub bc_written : (r : Registers) (high low : ℕ) → IsByte high → IsByte low → AreBytes r → AreBytes (record r { b = high; c = low })
bc_written r high low h l bytes = record { a = bytes.a; b = h; c = l; d = bytes.d; e = bytes.e; h = bytes.h; l = bytes.l }

pub de_written : (r : Registers) (high low : ℕ) → IsByte high → IsByte low → AreBytes r → AreBytes (record r { d = high; e = low })
de_written r high low h l bytes = record { a = bytes.a; b = bytes.b; c = bytes.c; d = h; e = l; h = bytes.h; l = bytes.l }

pub hl_written : (r : Registers) (high low : ℕ) → IsByte high → IsByte low → AreBytes r → AreBytes (record r { h = high; l = low })
hl_written r high low h l bytes = record { a = bytes.a; b = bytes.b; c = bytes.c; d = bytes.d; e = bytes.e; h = h; l = l }

pub register_written : (r : Registers) (to : Register) (byte : ℕ) → IsByte byte → AreBytes r → AreBytes (with_register r to byte)
register_written r A byte small bytes = accumulator_written r byte r.flags small bytes
register_written r B byte small bytes = bc_written r byte r.c small bytes.c bytes
register_written r C byte small bytes = bc_written r r.b byte bytes.b small bytes
register_written r D byte small bytes = de_written r byte r.e small bytes.e bytes
register_written r E byte small bytes = de_written r r.d byte bytes.d small bytes
register_written r H byte small bytes = hl_written r byte r.l small bytes.l bytes
register_written r L byte small bytes = hl_written r r.h byte bytes.h small bytes

pub pair_written : (cpu : Cpu) (pair : Pair) (n : ℕ) → IsWord n → AreBytes cpu.registers → AreBytes (with_pair cpu pair n).registers
pair_written cpu Bc n small bytes = bc_written cpu.registers (n / 256) (n % 256) (omega arith) (omega arith) bytes
pair_written cpu De n small bytes = de_written cpu.registers (n / 256) (n % 256) (omega arith) (omega arith) bytes
pair_written cpu Hl n small bytes = hl_written cpu.registers (n / 256) (n % 256) (omega arith) (omega arith) bytes
pair_written cpu Sp n small bytes = bytes

pub stack_pair_written : (r : Registers) (pair : StackPair) (high low : ℕ) → IsByte high → IsByte low → AreBytes r → AreBytes (with_stack_pair r pair high low)
stack_pair_written r StackBc high low h l bytes = bc_written r high low h l bytes
stack_pair_written r StackDe high low h l bytes = de_written r high low h l bytes
stack_pair_written r StackHl high low h l bytes = hl_written r high low h l bytes
stack_pair_written r Psw high low h l bytes = record { a = h; b = bytes.b; c = bytes.c; d = bytes.d; e = bytes.e; h = bytes.h; l = bytes.l }
