-- What becomes of a state at each instruction. (The registers and flags that each instruction writes are those of the Intel 8080
-- Microcomputer Systems User's Manual, chapter 4; that spans are followed is this project's own.)
use Rattle.std.specs.Prelude.{◌&&◌, ℕ, Bool, true, false, not, List, Option, None, Some, nat_le, unwrap_or, if◌then◌else◌}
use Rattle.decode80.specs.{declared.register.Register.Register, declared.pair.Pair.Pair, declared.pair.StackPair.StackPair, declared.pair.IndexPair.IndexPair}
use Rattle.decode80.specs.{declared.pair.IndexPair.TheVariants.Bc as IndexBc, declared.pair.IndexPair.TheVariants.De as IndexDe, declared.instr.Instr.Instr}
use Rattle.decode80.specs.{declared.operation.Operation.Operation, declared.operation.Operand.Operand, declared.operation.Operand.TheVariants.Register as InRegister}
use Rattle.decode80.specs.{declared.operation.Operand.TheVariants.Memory, declared.operation.Operand.TheVariants.Immediate, Fetch.ahead}
use Rattle.decode80.specs.declared.register.Register.TheVariants.{A, D, E, H, L}
use Rattle.decode80.specs.declared.pair.Pair.TheVariants.{Bc, De, Hl, Sp}
use Rattle.decode80.specs.declared.pair.StackPair.TheVariants.{Bc as StackBc, De as StackDe, Hl as StackHl, Psw}
use Rattle.decode80.specs.declared.instr.Instr.TheVariants.{Mov, Load, Mvi, Lxi, Dad, Inx, Dcx, Inr, InrMemory, Dcr, DcrMemory, Operate}
use Rattle.decode80.specs.declared.instr.Instr.TheVariants.{Store, MviMemory, Call, CallIf, Ret, ReturnIf, Rst, Push, Pop, Stax, Ldax}
use Rattle.decode80.specs.declared.instr.Instr.TheVariants.{Shld, Lhld, Sta, Lda, Rotate, Daa, Cma, Stc, Cmc, Xthl, Xchg, Sphl, In}
use Rattle.decode80.specs.declared.operation.Operation.TheVariants.{Subtract, And, ExclusiveOr, Or, Compare}
use Rattle.verify80_spans.specs.{declared.span.Span.Span, declared.byte_span.ByteSpan.ByteSpan, declared.byte_span.Outcome.Outcome}
use Rattle.verify80_states.specs.{declared.states.cells.Cells.Cells, declared.states.pairs.PairSpan.PairSpan, declared.states.words.Words.Words}
use Rattle.verify80_states.specs.{declared.states.known.Known.Known, declared.states.state.State.State, declared.states.following.StackTop.StackTop}
use Rattle.verify80_states.specs.{declared.states.memory_after.StoredByte.StoredByte, declared.states.variables.Variable.Variable}
use Rattle.verify80_states.specs.{Marks.entry_at, Variables.takes, Cells.bytes_at, Cells.cells_after}
use Rattle.verify80_spans.specs.Span.{any_byte, word_alone, byte_alone, is_alone, next_byte, previous_byte, sum_carries, high_of, operated, rotated, complemented, uncarried}
use Rattle.verify80_states.specs.Known.{any_pair, pair_of_words, pair_of_halves, next_pair, previous_pair, sum_pair, byte_of}
use Rattle.verify80_states.specs.Known.{span_of, with_byte, with_span, with_outcome, with_carry, with_any_flags, compared_with}
use Rattle.verify80_states.specs.State.{no_words, pushed, popped}

-- a byte of code, if code is there, or what is known otherwise; and what is known of a word
abbrev pub code_or : Option ℕ → (otherwise : ByteSpan) → ByteSpan
code_or None otherwise = otherwise
code_or (Some byte) otherwise = byte_alone byte

abbrev pub known_pair : Option PairSpan → PairSpan
known_pair word = unwrap_or word any_pair

-- a byte that is read at an address: only code and cells are known; and one where a pair points to
abbrev pub loaded_at : List (Option ℕ) → Cells → ℕ → ByteSpan
loaded_at code cells at = code_or (entry_at code at) (bytes_at cells at)

abbrev pub loaded : List (Option ℕ) → Cells → Span → ByteSpan
loaded code cells at = if is_alone at then loaded_at code cells at.first else any_byte

-- a register is copied; one of them may be A
abbrev pub moved : (to from : Register) → Known → Known
moved A from s = record (with_byte s A (byte_of s from)) { copy = from }
moved to A s = record (with_byte s to s.a) { copy = to }
moved to from s = with_byte s to (byte_of s from)

-- a register and Z and S are written, and CY stays
abbrev pub counted : Register → ByteSpan → Known → Known
counted register byte s = with_outcome (with_byte s register byte) (record { value = byte; carry = s.carry })

-- a result comes into A; of bits Z and CY are as if it was compared with 0
abbrev pub resulted : Outcome → Known → Known
resulted out s = with_outcome (with_byte s A out.value) out

abbrev pub tested : Known → Known
tested s = record s { compared = Some 0 }

abbrev pub is_accumulator : Operand → Bool
is_accumulator (InRegister A) = true
is_accumulator operand = false

abbrev pub operand_bytes : List (Option ℕ) → Operand → Known → ByteSpan
operand_bytes code (InRegister register) s = byte_of s register
operand_bytes code Memory s = loaded code s.cells s.hl.words
operand_bytes code (Immediate byte) s = byte_alone byte

-- an operation on A and a byte; `itself` if that is A
abbrev pub after_operation : Operation → (itself : Bool) → ByteSpan → Known → Known
after_operation Compare itself byte s = record (with_outcome s (operated Compare s.a byte s.carry)) { compared = compared_with byte }
after_operation And true byte s = tested (with_outcome s (uncarried s.a))
after_operation Or true byte s = tested (with_outcome s (uncarried s.a))
after_operation ExclusiveOr true byte s = tested (resulted (uncarried (byte_alone 0)) s)
after_operation Subtract true byte s = tested (resulted (uncarried (byte_alone 0)) s)
after_operation And false byte s = tested (resulted (operated And s.a byte s.carry) s)
after_operation Or false byte s = tested (resulted (operated Or s.a byte s.carry) s)
after_operation ExclusiveOr false byte s = tested (resulted (operated ExclusiveOr s.a byte s.carry) s)
after_operation operation itself byte s = resulted (operated operation s.a byte s.carry) s

-- what DAD adds, and its carry: SP is known if it is given
abbrev pub summand : Pair → (pointer : Option ℕ) → Known → PairSpan
summand Sp (Some n) s = pair_of_words (word_alone n)
summand Sp None s = any_pair
summand pair pointer s = span_of s pair

abbrev pub added_carry : Pair → (pointer : Option ℕ) → Known → Option Bool
added_carry Sp (Some n) s = sum_carries s.hl.words (word_alone n)
added_carry Sp None s = None
added_carry pair pointer s = sum_carries s.hl.words (span_of s pair).words

abbrev pub turned : Option Bool → Option Bool
turned None = None
turned (Some carry) = Some (not carry)

abbrev pub exchanged : Register → Register
exchanged D = H
exchanged E = L
exchanged H = D
exchanged L = E
exchanged register = register

abbrev pub exchanged_pairs : Known → Known
exchanged_pairs s = record s { de = s.hl; hl = s.de; copy = exchanged s.copy }

abbrev pub index_words : Known → IndexPair → Span
index_words s IndexBc = s.bc.words
index_words s IndexDe = s.de.words

abbrev pub popped_to : StackPair → PairSpan → Known → Known
popped_to StackBc word s = with_span s Bc word
popped_to StackDe word s = with_span s De word
popped_to StackHl word s = with_span s Hl word
popped_to Psw word s = with_any_flags (with_byte s A (high_of word.words))

-- registers and flags after an instruction, given what is known of the top of the stack
abbrev pub registers_after : (code : List (Option ℕ)) → Instr → StackTop → Known → Known
registers_after code (Mov to from) top s = moved to from s
registers_after code (Load to) top s = with_byte s to (loaded code s.cells s.hl.words)
registers_after code (Mvi to byte) top s = with_byte s to (byte_alone byte)
registers_after code (Inr register) top s = counted register (next_byte (byte_of s register)) s
registers_after code (Dcr register) top s = counted register (previous_byte (byte_of s register)) s
registers_after code InrMemory top s = with_outcome s (record { value = next_byte (loaded code s.cells s.hl.words); carry = s.carry })
registers_after code DcrMemory top s = with_outcome s (record { value = previous_byte (loaded code s.cells s.hl.words); carry = s.carry })
registers_after code (Lxi pair n) top s = with_span s pair (pair_of_words (word_alone n))
registers_after code (Inx pair) top s = with_span s pair (next_pair (span_of s pair))
registers_after code (Dcx pair) top s = with_span s pair (previous_pair (span_of s pair))
registers_after code (Dad pair) top s = with_carry (with_span s Hl (sum_pair s.hl (summand pair top.pointer s))) (added_carry pair top.pointer s)
registers_after code (Operate operation operand) top s = after_operation operation (is_accumulator operand) (operand_bytes code operand s) s
registers_after code (Rotate rotation) top s = with_carry (with_byte s A (rotated rotation s.a s.carry)) None
registers_after code Daa top s = with_any_flags (with_byte s A any_byte)
registers_after code Cma top s = with_byte s A (complemented s.a)
registers_after code Stc top s = with_carry s (Some true)
registers_after code Cmc top s = with_carry s (turned s.carry)
registers_after code (Ldax pair) top s = with_byte s A (loaded code s.cells (index_words s pair))
registers_after code (Lda address) top s = with_byte s A (loaded_at code s.cells address)
registers_after code (In port) top s = with_byte s A any_byte
registers_after code (Lhld address) top s = with_byte (with_byte s H (loaded_at code s.cells (ahead address 1))) L (loaded_at code s.cells address)
registers_after code Xchg top s = exchanged_pairs s
registers_after code (Pop pair) top s = popped_to pair top.word s
registers_after code Xthl top s = with_span s Hl top.word
registers_after code instr top s = s

-- the word that is pushed: PSW is A and the flags
abbrev pub pushed_pair : Known → StackPair → PairSpan
pushed_pair s StackBc = s.bc
pushed_pair s StackDe = s.de
pushed_pair s StackHl = s.hl
pushed_pair s Psw = pair_of_halves s.a any_byte

-- a call that is taken pushes the address after it
abbrev pub called : (taken : Bool) → (next : ℕ) → Words → Words
called true next w = pushed w (Some (pair_of_words (word_alone next)))
called false next w = w

-- a return that is taken pops it
abbrev pub returned : (taken : Bool) → Words → Words
returned true w = popped w
returned false w = w

-- the words on the stack after an instruction at which the processor goes the other way or not
abbrev pub words_after : Instr → (taken : Bool) → (next : ℕ) → State → Words
words_after (Push pair) taken next s = pushed s.words (Some (pushed_pair s.known pair))
words_after (Pop pair) taken next s = popped s.words
words_after Xthl taken next s = record s.words { first = Some s.known.hl }
words_after (Call to) taken next s = called taken next s.words
words_after (CallIf condition to) taken next s = called taken next s.words
words_after (Rst number) taken next s = called taken next s.words
words_after Ret taken next s = popped s.words
words_after (ReturnIf condition) taken next s = returned taken s.words
words_after (Lxi Sp n) taken next s = no_words
words_after (Inx Sp) taken next s = no_words
words_after (Dcx Sp) taken next s = no_words
words_after Sphl taken next s = no_words
words_after instr taken next s = s.words

-- the bytes that an instruction stores where a pair points to or at an address that it names: none, one, or the two of SHLD
abbrev pub one_byte : Span → ByteSpan → Option StoredByte × Option StoredByte
one_byte at bytes = (Some (record { at = at; bytes = bytes }), None)

abbrev pub stored_bytes : (code : List (Option ℕ)) → Instr → Known → Option StoredByte × Option StoredByte
stored_bytes code (Store register) s = one_byte s.hl.words (byte_of s register)
stored_bytes code (MviMemory byte) s = one_byte s.hl.words (byte_alone byte)
stored_bytes code InrMemory s = one_byte s.hl.words (next_byte (loaded code s.cells s.hl.words))
stored_bytes code DcrMemory s = one_byte s.hl.words (previous_byte (loaded code s.cells s.hl.words))
stored_bytes code (Stax pair) s = one_byte (index_words s pair) s.a
stored_bytes code (Sta address) s = one_byte (word_alone address) s.a
stored_bytes code (Shld address) s =
    (Some (record { at = word_alone address; bytes = s.hl.low }), Some (record { at = word_alone (ahead address 1); bytes = high_of s.hl.words }))
stored_bytes code instr s = (None, None)

-- an address, if it is the only one of a span; and one where a byte isn't stored
abbrev pub only_address : Span → Option ℕ
only_address span = if is_alone span then Some span.first else None

abbrev pub address_after : Option StoredByte → Option ℕ → Option ℕ
address_after None address = address
address_after (Some b) None = None
address_after (Some b) (Some at) = if nat_le b.at.first at && nat_le at b.at.last then None else Some at

-- the address of a byte that A has after an instruction, given what it stores, and what is left of that when the registers are written
abbrev pub source_after : Instr → Known → Option StoredByte × Option StoredByte → Option ℕ → Option ℕ
source_after (Lda address) s stored left = Some address
source_after (Sta address) s stored left = Some address
source_after (Load A) s stored left = only_address s.hl.words
source_after (Store A) s stored left = only_address s.hl.words
source_after instr s stored left = address_after stored.1 (address_after stored.0 left)

-- all that is known of registers, flags and memory after an instruction
abbrev pub known_after : (code : List (Option ℕ)) → Instr → StackTop → Known → Known
known_after code instr top s = record (registers_after code instr top s) {
  cells = cells_after (stored_bytes code instr s).1 (cells_after (stored_bytes code instr s).0 s.cells);
  source = source_after instr s (stored_bytes code instr s) (registers_after code instr top s).source;
  set = s.set;
}

-- what the words of a state say of the top of the stack: nothing of SP
abbrev pub top_word : Words → StackTop
top_word w = record { pointer = None; word = known_pair w.first }

-- and all of a state
abbrev pub state_after : (code : List (Option ℕ)) → Instr → (taken : Bool) → (next : ℕ) → State → State
state_after code instr taken next s = record { known = known_after code instr (top_word s.words) s.known; words = words_after instr taken next s }

-- whether each byte that an instruction stores where a variable may be is one of the variable's bytes
abbrev pub is_steady : (code : List (Option ℕ)) → Instr → Known → Variable → Bool
is_steady code instr s v = takes v (stored_bytes code instr s).0 && takes v (stored_bytes code instr s).1
