-- What is known of a machine at an instruction beside its stack: what its registers may hold, some of its flags, what was compared last,
-- and bytes of memory; and what becomes of that when registers and flags are written. (The registers and flags are those of the
-- Intel 8080 Microcomputer Systems User's Manual, chapter 4; that they are followed by spans is this project's own.)
use Rattle.std.specs.Prelude.{◌≡◌, ◌<◌, ◌==◌, ◌⊎◌, ℕ, Bool, true, List, Option, None, Some, nat_lt, slice_get, if◌then◌else◌, IfSome}
use Rattle.decode80.specs.{declared.register.Register.Register, declared.pair.Pair.Pair, Fetch.ahead}
use Rattle.decode80.specs.declared.register.Register.TheVariants.{A, B, C, D, E, H, L}
use Rattle.decode80.specs.declared.pair.Pair.TheVariants.{Bc, De, Hl, Sp}
use Rattle.machine80.specs.{declared.flags.Flags.Flags, declared.registers.Registers.Registers, Cpu.word, Cpu.register_of, Effects.byte_in, Step.Machine}
use Rattle.verify80_spans.specs.{declared.span.Span.Span, declared.byte_span.ByteSpan.ByteSpan, declared.byte_span.Outcome.Outcome}
use Rattle.verify80_states.specs.{declared.states.cells.Cells.Cells, declared.states.pairs.PairSpan.PairSpan, declared.states.known.Known.Known}
use Rattle.verify80_states.specs.{declared.states.following.StackTop.StackTop, declared.states.variables.Variable.Variable, Variables.is_bit}
use Rattle.verify80_spans.specs.Span.{Within, ByteWithin, IsInside, IsByteInside, IsKnown, any_word, any_byte, byte_alone, is_byte_alone, next_span}
use Rattle.verify80_spans.specs.Span.{previous_span, next_byte, previous_byte, sum_span, sum_of, meet, meet_bytes, high_of, low_of, joined, zero_of, sign_of}
use Rattle.verify80_states.specs.Cells.{HoldsCells, AreCellsInside, AreQuietCells, bytes_at, no_cells, cut_cells}

-- the word of a pair is one of its words, and its low byte one of its low bytes
pub record HoldsPair (p : PairSpan) (h l : ℕ) : Type 0 where
  pub words : Within p.words (word h l)
  pub low : ByteWithin p.low l

-- Z says whether A is a number, and CY whether it is below that
abbrev pub Compares : Option ℕ → (a : ℕ) → Flags → Type 0
Compares compared a flags = IfSome compared (λ n. (flags.zero ≡ (a == n)) × (flags.carry ≡ nat_lt a n))

-- what is known of Z, CY and S, and what was compared last
pub record HoldsFlags (z cy s : Option Bool) (n : Option ℕ) (a : ℕ) (flags : Flags) : Type 0 where
  pub zero : IsKnown z flags.zero
  pub carry : IsKnown cy flags.carry
  pub sign : IsKnown s flags.sign
  pub compared : Compares n a flags

-- what is known of registers and flags: A also has the byte of the register that it was copied from, or to
pub record HoldsRegisters (s : Known) (r : Registers) : Type 0 where
  pub a : ByteWithin s.a r.a
  pub bc : HoldsPair s.bc r.b r.c
  pub de : HoldsPair s.de r.d r.e
  pub hl : HoldsPair s.hl r.h r.l
  pub copy : register_of r s.copy ≡ r.a
  pub flags : HoldsFlags s.zero s.carry s.sign s.compared r.a r.flags

-- a byte of memory is that of A, if one is named
abbrev pub HoldsSource : Option ℕ → (memory : List ℕ) → (a : ℕ) → Type 0
HoldsSource source memory a = IfSome source (λ at. byte_in memory at ≡ a)

-- what is known of a machine
pub record HoldsKnown (s : Known) (m : Machine) : Type 0 where
  pub registers : HoldsRegisters s m.cpu.registers
  pub cells : HoldsCells s.cells m.memory
  pub source : HoldsSource s.source m.memory m.cpu.registers.a

-- what is known of the top of the stack of a machine: SP, if it is, and the word there
pub record HoldsTop (top : StackTop) (m : Machine) : Type 0 where
  pub pointer : IfSome top.pointer (λ n. (m.cpu.sp ≡ n) × (n < 65536))
  pub word : HoldsPair top.word (byte_in m.memory (ahead m.cpu.sp 1)) (byte_in m.memory m.cpu.sp)

-- what is known says nothing that something else doesn't
pub record IsPairInside (inner outer : PairSpan) : Type 0 where
  pub words : IsInside inner.words outer.words
  pub low : IsByteInside inner.low outer.low

abbrev pub IsSameIfKnown : {T : Type 0} → (inner outer : Option T) → Type 0
IsSameIfKnown inner None = Unit {0}
IsSameIfKnown inner (Some x) = inner ≡ Some x

abbrev pub IsCopyInside : (inner outer : Register) → Type 0
IsCopyInside inner A = Unit {0}
IsCopyInside inner outer = inner ≡ outer

pub record AreRegistersInside (inner outer : Known) : Type 0 where
  pub a : IsByteInside inner.a outer.a
  pub bc : IsPairInside inner.bc outer.bc
  pub de : IsPairInside inner.de outer.de
  pub hl : IsPairInside inner.hl outer.hl

-- a variable that a set names is named by another, or said by its cells; and so is each that a state names
pub record IsVariableInside (number : ℕ) (v : Variable) (inner : ℕ) (cells : Cells) (outer : ℕ) : Type 0 where
  pub either : is_bit outer number ≡ true → (is_bit inner number ≡ true) ⊎ IsByteInside (bytes_at cells v.at) v.bytes

abbrev pub IsSetInside : List Variable → (inner outer : Known) → Type 0
IsSetInside variables inner outer = (number : ℕ) (v : Variable) → slice_get variables number ≡ Some v → IsVariableInside number v inner.set inner.cells outer.set

pub record IsKnownInside (variables : List Variable) (inner outer : Known) : Type 0 where
  pub registers : AreRegistersInside inner outer
  pub copy : IsCopyInside inner.copy outer.copy
  pub zero : IsSameIfKnown inner.zero outer.zero
  pub carry : IsSameIfKnown inner.carry outer.carry
  pub sign : IsSameIfKnown inner.sign outer.sign
  pub compared : IsSameIfKnown inner.compared outer.compared
  pub cells : AreCellsInside variables inner.set inner.cells outer.cells
  pub set : IsSetInside variables inner outer
  pub source : IsSameIfKnown inner.source outer.source

-- it says something of quiet addresses alone
abbrev pub IsQuietSource : (quiet : ℕ → Bool) → Option ℕ → Type 0
IsQuietSource quiet source = IfSome source (λ at. quiet at ≡ true)

pub record IsQuietKnown (quiet : ℕ → Bool) (s : Known) : Type 0 where
  pub cells : AreQuietCells quiet s.cells
  pub source : IsQuietSource quiet s.source

-- nothing is known
abbrev pub any_pair : PairSpan
any_pair = record { words = any_word; low = any_byte }

abbrev pub nothing_known : Known
nothing_known = record {
  a = any_byte;
  bc = any_pair;
  de = any_pair;
  hl = any_pair;
  copy = A;
  zero = None;
  carry = None;
  sign = None;
  compared = None;
  cells = no_cells;
  source = None;
  set = 0;
}

-- a pair of these words, and one of these halves
abbrev pub pair_of_words : Span → PairSpan
pair_of_words span = record { words = span; low = low_of span }

abbrev pub pair_of_halves : (high low : ByteSpan) → PairSpan
pair_of_halves high low = record { words = joined high low; low = low }

-- what a register may hold
abbrev pub byte_of : Known → Register → ByteSpan
byte_of s A = s.a
byte_of s B = high_of s.bc.words
byte_of s C = s.bc.low
byte_of s D = high_of s.de.words
byte_of s E = s.de.low
byte_of s H = high_of s.hl.words
byte_of s L = s.hl.low

-- what a pair may be: nothing is known of SP
abbrev pub span_of : Known → Pair → PairSpan
span_of s Bc = s.bc
span_of s De = s.de
span_of s Hl = s.hl
span_of s Sp = any_pair

-- the copy of A when a register is written, and when a pair is
abbrev pub copy_without : Register → (copy : Register) → Register
copy_without A copy = A
copy_without B B = A
copy_without C C = A
copy_without D D = A
copy_without E E = A
copy_without H H = A
copy_without L L = A
copy_without to copy = copy

abbrev pub copy_outside : Pair → (copy : Register) → Register
copy_outside Bc B = A
copy_outside Bc C = A
copy_outside De D = A
copy_outside De E = A
copy_outside Hl H = A
copy_outside Hl L = A
copy_outside pair copy = copy

-- a pair is another one, with the same copy of A
abbrev pub with_pair : Known → Pair → PairSpan → Known
with_pair s Bc span = record s { bc = span }
with_pair s De span = record s { de = span }
with_pair s Hl span = record s { hl = span }
with_pair s Sp span = s

-- a register is written: the other half of its pair stays
abbrev pub with_byte : Known → Register → ByteSpan → Known
with_byte s A byte = record s { a = byte; copy = A; compared = None; source = None }
with_byte s B byte = record s { bc = pair_of_halves byte s.bc.low; copy = copy_without B s.copy }
with_byte s C byte = record s { bc = pair_of_halves (high_of s.bc.words) byte; copy = copy_without C s.copy }
with_byte s D byte = record s { de = pair_of_halves byte s.de.low; copy = copy_without D s.copy }
with_byte s E byte = record s { de = pair_of_halves (high_of s.de.words) byte; copy = copy_without E s.copy }
with_byte s H byte = record s { hl = pair_of_halves byte s.hl.low; copy = copy_without H s.copy }
with_byte s L byte = record s { hl = pair_of_halves (high_of s.hl.words) byte; copy = copy_without L s.copy }

-- a pair is written
abbrev pub with_span : Known → Pair → PairSpan → Known
with_span s pair span = record (with_pair s pair span) { copy = copy_outside pair s.copy }

-- the flags are those of a result
abbrev pub with_outcome : Known → Outcome → Known
with_outcome s out = record s { zero = zero_of out.value; sign = sign_of out.value; carry = out.carry; compared = None }

-- A was compared with bytes: if that is one, with that
abbrev pub compared_with : ByteSpan → Option ℕ
compared_with byte = if is_byte_alone byte then Some byte.first else None

-- the carry alone is written
abbrev pub with_carry : Known → Option Bool → Known
with_carry s carry = record s { carry = carry; compared = None }

-- the flags are whatever they are
abbrev pub with_any_flags : Known → Known
with_any_flags s = record s { zero = None; carry = None; sign = None; compared = None }

-- a register is known to hold one of these bytes too
abbrev pub cut_high : PairSpan → ByteSpan → PairSpan
cut_high p byte = record p { words = meet p.words (joined byte any_byte) }

abbrev pub cut_low : PairSpan → ByteSpan → PairSpan
cut_low p byte = record { words = meet p.words (joined (high_of p.words) (meet_bytes p.low byte)); low = meet_bytes p.low byte }

-- one more, one less, and the sums with another: the low byte is followed by itself too
abbrev pub next_pair : PairSpan → PairSpan
next_pair p = cut_low (pair_of_words (next_span p.words)) (next_byte p.low)

abbrev pub previous_pair : PairSpan → PairSpan
previous_pair p = cut_low (pair_of_words (previous_span p.words)) (previous_byte p.low)

abbrev pub sum_pair : PairSpan → PairSpan → PairSpan
sum_pair p q = cut_low (pair_of_words (sum_span p.words q.words)) (sum_of p.low q.low (byte_alone 0)).value

abbrev pub cut_copy : Known → Register → ByteSpan → Known
cut_copy s A byte = s
cut_copy s B byte = with_pair s Bc (cut_high s.bc byte)
cut_copy s C byte = with_pair s Bc (cut_low s.bc byte)
cut_copy s D byte = with_pair s De (cut_high s.de byte)
cut_copy s E byte = with_pair s De (cut_low s.de byte)
cut_copy s H byte = with_pair s Hl (cut_high s.hl byte)
cut_copy s L byte = with_pair s Hl (cut_low s.hl byte)

-- A is known to hold one of these bytes too, and so are the register and the byte of memory that have its byte
abbrev pub cut : Known → ByteSpan → Known
cut s byte = record (cut_copy s s.copy byte) { a = meet_bytes s.a byte; cells = cut_cells s.source byte s.cells }
