-- Registers and flags at each kind of instruction.
use Rattle.verify80_states.proofs.Names.{◌≡◌, ◌<◌, ◌==◌, ℕ, ◌+◌, ◌-◌, ◌*◌, ◌/◌, ◌%◌, Bool, true, false, not, List, Option, None, Some, nat_lt, bit_and, bit_or}
use Rattle.verify80_states.proofs.Names.{bit_xor, refl, arith, sym, ap, nat_tests, and_self, or_self, xor_self, Register, Pair, IndexPair, IndexBc, IndexDe, A}
use Rattle.verify80_states.proofs.Names.{H, L, Bc, De, Hl, Sp, StackBc, StackDe, StackHl, Psw, Instr, Operation, Operand, Mov, Load, Mvi, Lxi, Dad, Inx, Dcx}
use Rattle.verify80_states.proofs.Names.{Inr, InrMemory, Dcr, DcrMemory, Operate, Pop, Ldax, Lhld, Lda, Rotate, Daa, Cma, Stc, Cmc, Xthl, Xchg, In, Subtract}
use Rattle.verify80_states.proofs.Names.{And, ExclusiveOr, Or, Compare, InRegister, Memory, Immediate, Left, Right, LeftThroughCarry, RightThroughCarry}
use Rattle.verify80_states.proofs.Names.{HasOperandInRange, Areas, Registers, Cpu, flags_from, byte_in, operand_of, changed, decimal_answer, word, register_of}
use Rattle.verify80_states.proofs.Names.{with_register, hl_of, pair_of, with_pair, index_pair_of, Span, ByteSpan, Outcome, PairSpan, Known, Cells, HasBytes}
use Rattle.verify80_states.proofs.Names.{AreBytes, ReadsCode, HoldsCells, Within, ByteWithin, any_byte, word_alone, byte_alone, is_alone, is_byte_alone, next_byte}
use Rattle.verify80_states.proofs.Names.{previous_byte, operated, rotated, complemented, uncarried, HoldsPair, HoldsRegisters, HoldsWord, Compares, any_pair}
use Rattle.verify80_states.proofs.Names.{pair_of_words, next_pair, previous_pair, sum_pair, compared_with, byte_of, span_of, with_byte, with_span, known_pair}
use Rattle.verify80_states.proofs.Names.{loaded_at, loaded, moved, counted, resulted, tested, is_accumulator, operand_bytes, after_operation, added_carry}
use Rattle.verify80_states.proofs.Names.{turned, exchanged, index_words, registers_after, cond_both, subst, StackTop, IfSome, summand, sum_carries, with_any_flags}
use Rattle.verify80_spans.specs.Span.{IsKnown, high_of}
use Rattle.decode80.specs.{Fetch.ahead, Fetch.behind}
use Rattle.machine80.specs.{Flags.bit_of, Flags.flags_of_result}
use Rattle.machine80.specs.Arithmetic.{byte_answer, sum_answer, difference_answer, operation_answer, increment_answer, decrement_answer}
use Rattle.machine80.specs.Arithmetic.{rotation_answer, pair_sum, pair_sum_flags, complement_of, carry_set, carry_turned}
use Rattle.verify80_states.proofs.{CellReads.read_within, StepBytes.operand_is_byte, ByteLemmas.byte_at as memory_byte}
use Rattle.verify80_states.proofs.{ArithmeticBounds.decimal_is_byte, RegisterBytes.register_is_byte, RegisterBytes.register_written}
use Rattle.verify80_states.proofs.SpanLemmas.{any_byte_within, alone_within, next_byte_within, previous_byte_within, carries}
use Rattle.verify80_states.proofs.OutcomeLemmas.{Makes, result_of, carry_of, operated_makes, is_first}
use Rattle.verify80_states.proofs.StateLemmas.{split_holds, high_holds, byte_holds, with_byte_holds, bc_written_holds, de_written_holds}
use Rattle.verify80_states.proofs.StateLemmas.{hl_written_holds, with_span_holds, outcome_holds, carry_holds, any_flags_hold, compared_holds}
use Rattle.verify80_states.proofs.StateLemmas.{copy_holds, next_holds, previous_holds, sum_holds, any_pair_holds, any_sum_holds}

-- what is read
pub word_first : (s : Span) (n : ℕ) → is_alone s ≡ true → Within s n → s.first ≡ n
word_first s n alone inside = grind (arith, nat_tests)

pub loaded_within : (code : List (Option ℕ)) (cells : Cells) (memory : List ℕ) (s : Span) (n : ℕ) → ReadsCode code memory → HoldsCells cells memory → HasBytes memory → Within s n → ByteWithin (loaded code cells s) (byte_in memory n)
loaded_within code cells memory s n reads holds bytes inside = cond_both (is_alone s) (loaded_at code cells s.first) any_byte (λ (b : ByteSpan). ByteWithin b (byte_in memory n))
    (λ alone. subst (λ k. ByteWithin (loaded_at code cells k) (byte_in memory n)) (sym (word_first s n alone inside)) (read_within code cells memory n reads holds bytes))
    (λ several. any_byte_within (byte_in memory n) (memory_byte memory n bytes))

pub popped_holds : (regions : Areas) (o : Option PairSpan) (memory : List ℕ) (sp : ℕ) → HoldsWord regions o memory sp sp → HasBytes memory → HoldsPair (known_pair o) (byte_in memory (ahead sp 1)) (byte_in memory sp)
popped_holds regions None memory sp holds bytes = any_pair_holds _ _ (memory_byte memory (ahead sp 1) bytes) (memory_byte memory sp bytes)
popped_holds regions (Some pair) memory sp holds bytes = holds.within

-- a register is copied
copied : (r : Registers) (from : Register) → register_of (with_register r A (register_of r from)) from ≡ register_of r from
copied r A = refl
copied r from = refl

moved_holds : (s : Known) (r : Registers) (to from : Register) → AreBytes r → HoldsRegisters s r → HoldsRegisters (moved to from s) (with_register r to (register_of r from))
moved_holds s r A from bytes holds =
    copy_holds (with_byte s A (byte_of s from)) (with_register r A (register_of r from)) from
    (with_byte_holds s r A (byte_of s from) (register_of r from) bytes holds (byte_holds s r from bytes holds)) (copied r from)
moved_holds s r to A bytes holds = copy_holds (with_byte s to s.a) (with_register r to r.a) to (with_byte_holds s r to s.a r.a bytes holds holds.a) refl
moved_holds s r to from bytes holds = with_byte_holds s r to (byte_of s from) (register_of r from) bytes holds (byte_holds s r from bytes holds)

counted_holds : (s : Known) (r : Registers) (to : Register) (span : ByteSpan) (byte : ℕ) (half : Bool) → AreBytes r → HoldsRegisters s r → ByteWithin span byte →
    HoldsRegisters (counted to span s) (record (with_register r to byte) { flags = flags_of_result byte half r.flags.carry })
counted_holds s r to span byte half bytes holds inside =
    outcome_holds (with_byte s to span) (with_register r to byte) (record { value = span; carry = s.carry }) byte half r.flags.carry
    (with_byte_holds s r to span byte bytes holds inside) (record { value = inside; carry = holds.flags.carry })

-- operations on A
resulted_holds : (s : Known) (r : Registers) (out : Outcome) (byte : ℕ) (half full : Bool) → AreBytes r → HoldsRegisters s r → Makes out byte full →
    HoldsRegisters (resulted out s) (record r { a = byte; flags = flags_of_result byte half full })
resulted_holds s r out byte half full bytes holds makes =
    outcome_holds (with_byte s A out.value) (record r { a = byte }) out byte half full (with_byte_holds s r A out.value byte bytes holds makes.value) makes

tested_holds : (s : Known) (r : Registers) (half : Bool) → HoldsRegisters s (record r { flags = flags_of_result r.a half false }) → HoldsRegisters (tested s) (record r { flags = flags_of_result r.a half false })
unfolding flags_of_result
tested_holds s r half holds = compared_holds s (record r { flags = flags_of_result r.a half false }) (Some 0) holds (refl, grind (arith, nat_tests))

logical_holds : (s : Known) (r : Registers) (out : Outcome) (byte : ℕ) (half : Bool) → AreBytes r → HoldsRegisters s r → Makes out byte false →
    HoldsRegisters (tested (resulted out s)) (record r { a = byte; flags = flags_of_result byte half false })
logical_holds s r out byte half bytes holds makes = tested_holds (resulted out s) (record r { a = byte }) half (resulted_holds s r out byte half false bytes holds makes)

same_test : (p q : Bool) → (p ≡ true → q ≡ true) → (p ≡ false → q ≡ false) → p ≡ q
same_test true q first second = sym (first refl)
same_test false q first second = sym (second refl)

compares : (t : ByteSpan) (r : Registers) (v : ℕ) (half : Bool) (b : Bool) → is_byte_alone t ≡ b → r.a < 256 → v < 256 → ByteWithin t v →
    Compares (compared_with t) r.a (flags_of_result ((256 + r.a - (v + 0)) % 256) half (nat_lt r.a (v + 0)))
unfolding flags_of_result
compares t r v half true alone small other inside =
    let same : t.first ≡ v = is_first t v alone inside in
    rw alone (
      same_test ((256 + r.a - (v + 0)) % 256 == 0) (r.a == t.first) (λ h. grind (arith, nat_tests)) (λ h. grind (arith, nat_tests)),
      same_test (nat_lt r.a (v + 0)) (nat_lt r.a t.first) (λ h. grind (arith, nat_tests)) (λ h. grind (arith, nat_tests)),
    )
compares t r v half false alone small other inside = rw alone tt

module _ (s : Known) (r : Registers) (t : ByteSpan) (v : ℕ) (bytes : AreBytes r) (small : v < 256) (holds : HoldsRegisters s r) (inside : ByteWithin t v) where
  abbrev Done : Operation → Bool → Type 0
  Done o itself = let answer = operation_answer o r.a v r.flags in HoldsRegisters (after_operation o itself t s) (record r { a = answer.value; flags = answer.flags })

  plain : (o : Operation) → Makes (operated o s.a t s.carry) (result_of o r.a v r.flags) (carry_of o r.a v r.flags)
  plain o = operated_makes o s.a t s.carry r.a v r.flags bytes.a small holds.a inside holds.flags.carry

  operated_holds : (o : Operation) → Done o false
  unfolding operation_answer sum_answer difference_answer byte_answer
  operated_holds And = logical_holds s r (operated And s.a t s.carry) (bit_and r.a v) _ bytes holds (plain And)
  operated_holds Or = logical_holds s r (operated Or s.a t s.carry) (bit_or r.a v) _ bytes holds (plain Or)
  operated_holds ExclusiveOr = logical_holds s r (operated ExclusiveOr s.a t s.carry) (bit_xor r.a v) _ bytes holds (plain ExclusiveOr)
  operated_holds Compare =
      compared_holds _ (record r { flags = flags_of_result ((256 + r.a - (v + 0)) % 256) _ (nat_lt r.a (v + 0)) }) (compared_with t)
      (outcome_holds s r (operated Compare s.a t s.carry) ((256 + r.a - (v + 0)) % 256) _ (nat_lt r.a (v + 0)) holds (plain Compare))
      (compares t r v _ (is_byte_alone t) refl bytes.a small inside)
  operated_holds o = resulted_holds s r (operated o s.a t s.carry) (result_of o r.a v r.flags) _ (carry_of o r.a v r.flags) bytes holds (plain o)

-- an operation on A and itself
module _ (s : Known) (r : Registers) (t : ByteSpan) (bytes : AreBytes r) (holds : HoldsRegisters s r) where
  same_a : (half : Bool) → HoldsRegisters (after_operation And true t s) (record r { a = r.a; flags = flags_of_result r.a half false })
  same_a half = tested_holds _ r half (outcome_holds s r (uncarried s.a) r.a half false holds (record { value = holds.a; carry = refl }))

  cleared : (half : Bool) → HoldsRegisters (after_operation ExclusiveOr true t s) (record r { a = 0; flags = flags_of_result 0 half false })
  cleared half = logical_holds s r (uncarried (byte_alone 0)) 0 half bytes holds (record { value = alone_within 0; carry = refl })

  nothing_left : (256 + r.a - (r.a + 0)) % 256 ≡ 0
  nothing_left = omega arith

  nothing_borrowed : nat_lt r.a (r.a + 0) ≡ false
  nothing_borrowed = grind (arith, nat_tests)

operates : (o : Operation) (itself : Bool) (s : Known) (r : Registers) (t : ByteSpan) (v : ℕ) → AreBytes r → v < 256 → HoldsRegisters s r → ByteWithin t v → (itself ≡ true → v ≡ r.a) →
    (let answer = operation_answer o r.a v r.flags in HoldsRegisters (after_operation o itself t s) (record r { a = answer.value; flags = answer.flags }))
unfolding operation_answer difference_answer byte_answer
operates And true s r t v bytes small holds inside same = rw (same refl) (rw (and_self r.a) (same_a s r t bytes holds _))
operates Or true s r t v bytes small holds inside same = rw (same refl) (rw (or_self r.a) (same_a s r t bytes holds _))
operates ExclusiveOr true s r t v bytes small holds inside same = rw (same refl) (rw (xor_self r.a) (cleared s r t bytes holds _))
operates Subtract true s r t v bytes small holds inside same = rw (same refl) (rw (nothing_left s r t bytes holds, nothing_borrowed s r t bytes holds) (cleared s r t bytes holds _))
operates o itself s r t v bytes small holds inside same = operated_holds s r t v bytes small holds inside o

pub is_itself : (operand : Operand) (memory : List ℕ) (r : Registers) → is_accumulator operand ≡ true → operand_of operand memory r ≡ r.a
is_itself (InRegister A) memory r is = refl
is_itself operand memory r is = cc

-- rotations
left_within : (s : ByteSpan) (a : ℕ) (known : Option Bool) → ByteWithin s a → a < 256 → ByteWithin (rotated Left s known) (a * 2 % 256 + a / 128)
left_within s a known inside small = record { above = grind (arith, nat_tests); below = grind (arith, nat_tests) }

right_within : (s : ByteSpan) (a : ℕ) (known : Option Bool) → ByteWithin s a → a < 256 → ByteWithin (rotated Right s known) (a / 2 + a % 2 * 128)
right_within s a known inside small = record { above = grind (arith, nat_tests); below = grind (arith, nat_tests) }

through_left : (s : ByteSpan) (a : ℕ) (known : Option Bool) (carry : Bool) → IsKnown known carry → ByteWithin s a → a < 256 → ByteWithin (rotated LeftThroughCarry s known) (a * 2 % 256 + bit_of carry)
unfolding bit_of
through_left s a None true is inside small = any_byte_within (a * 2 % 256 + 1) (omega arith)
through_left s a None false is inside small = any_byte_within (a * 2 % 256 + 0) (omega arith)
through_left s a (Some true) true is inside small = record { above = grind (arith, nat_tests); below = grind (arith, nat_tests) }
through_left s a (Some false) false is inside small = record { above = grind (arith, nat_tests); below = grind (arith, nat_tests) }
through_left s a (Some true) false is inside small = cc
through_left s a (Some false) true is inside small = cc

through_right : (s : ByteSpan) (a : ℕ) (known : Option Bool) (carry : Bool) → IsKnown known carry → ByteWithin s a → a < 256 → ByteWithin (rotated RightThroughCarry s known) (a / 2 + bit_of carry * 128)
unfolding bit_of
through_right s a None true is inside small = any_byte_within (a / 2 + 1 * 128) (omega arith)
through_right s a None false is inside small = any_byte_within (a / 2 + 0 * 128) (omega arith)
through_right s a (Some true) true is inside small = record { above = omega arith; below = omega arith }
through_right s a (Some false) false is inside small = record { above = omega arith; below = omega arith }
through_right s a (Some true) false is inside small = cc
through_right s a (Some false) true is inside small = cc

-- the other kinds
adjusts : (s : Known) (r : Registers) → AreBytes r → HoldsRegisters s r → (let answer = decimal_answer r.a r.flags in HoldsRegisters (with_any_flags (with_byte s A any_byte)) (record r { a = answer.value; flags = answer.flags }))
adjusts s r bytes holds =
    let byte = (decimal_answer r.a r.flags).value in
    any_flags_hold (with_byte s A any_byte) (record r { a = byte }) (decimal_answer r.a r.flags).flags
    (with_byte_holds s r A any_byte byte bytes holds (any_byte_within byte (decimal_is_byte r.a r.flags)))

turn : (o : Option Bool) (b : Bool) → IsKnown o b → IsKnown (turned o) (not b)
turn None b is = tt
turn (Some known) b is = ap (λ (x : Bool). not x) is

exchanges_copy : (copy : Register) (r : Registers) → register_of r copy ≡ r.a → register_of (record r { d = r.h; e = r.l; h = r.d; l = r.e }) (exchanged copy) ≡ r.a
exchanges_copy A r same = same
exchanges_copy copy r same = same

-- pairs are counted and added
pub index_within : (s : Known) (r : Registers) (pair : IndexPair) → HoldsRegisters s r → Within (index_words s pair) (index_pair_of r pair)
index_within s r IndexBc holds = holds.bc.words
index_within s r IndexDe holds = holds.de.words

abbrev Counts : (PairSpan → PairSpan) → (ℕ → ℕ) → Type 0
Counts count step = (p : PairSpan) (h l : ℕ) → h < 256 → l < 256 → HoldsPair p h l → (let n = step (word h l) in HoldsPair (count p) (n / 256) (n % 256))

counts : (count : PairSpan → PairSpan) (step : ℕ → ℕ) (s : Known) (cpu : Cpu) (pair : Pair) → Counts count step → AreBytes cpu.registers → HoldsRegisters s cpu.registers →
    HoldsRegisters (with_span s pair (count (span_of s pair))) (with_pair cpu pair (step (pair_of cpu pair))).registers
counts count step s cpu Bc law bytes holds = with_span_holds s cpu Bc (count s.bc) _ holds (law s.bc _ _ bytes.b bytes.c holds.bc)
counts count step s cpu De law bytes holds = with_span_holds s cpu De (count s.de) _ holds (law s.de _ _ bytes.d bytes.e holds.de)
counts count step s cpu Hl law bytes holds = with_span_holds s cpu Hl (count s.hl) _ holds (law s.hl _ _ bytes.h bytes.l holds.hl)
counts count step s cpu Sp law bytes holds = holds

adds : (s : Known) (cpu : Cpu) (span : PairSpan) (n : ℕ) (known : Option Bool) → HoldsRegisters s cpu.registers → (let sum = (hl_of cpu.registers + n) % 65536 in HoldsPair (sum_pair s.hl span) (sum / 256) (sum % 256)) →
    IsKnown known (nat_lt 65535 (hl_of cpu.registers + n)) → (let sum = pair_sum (hl_of cpu.registers) n in
    HoldsRegisters (record (with_span s Hl (sum_pair s.hl span)) { carry = known; compared = None })
    (record cpu.registers { h = sum / 256; l = sum % 256; flags = pair_sum_flags (hl_of cpu.registers) n cpu.registers.flags }))
unfolding pair_sum pair_sum_flags
adds s cpu span n known holds inside carry =
    let sum = (hl_of cpu.registers + n) % 65536 in
    carry_holds (with_span s Hl (sum_pair s.hl span)) (record cpu.registers { h = sum / 256; l = sum % 256 }) known (nat_lt 65535 (hl_of cpu.registers + n))
    (with_span_holds s cpu Hl (sum_pair s.hl span) sum holds inside) carry

adds_pointer : (s : Known) (cpu : Cpu) (pointer : Option ℕ) → AreBytes cpu.registers → HoldsRegisters s cpu.registers → IfSome pointer (λ n. (cpu.sp ≡ n) × (n < 65536)) → (let sum = pair_sum (hl_of cpu.registers) cpu.sp in
    HoldsRegisters (record (with_span s Hl (sum_pair s.hl (summand Sp pointer s))) { carry = added_carry Sp pointer s; compared = None })
    (record cpu.registers { h = sum / 256; l = sum % 256; flags = pair_sum_flags (hl_of cpu.registers) cpu.sp cpu.registers.flags }))
adds_pointer s cpu None bytes holds is = adds s cpu any_pair cpu.sp None holds (any_sum_holds s.hl _ _ cpu.sp bytes.h bytes.l holds.hl) tt
adds_pointer s cpu (Some n) bytes holds is =
    let alone : Within (word_alone n) (word (cpu.sp / 256) (cpu.sp % 256)) = (let same = is.0 in record { above = omega (arith, same); below = omega (arith, same) }) in
    let pair : HoldsPair (pair_of_words (word_alone n)) (cpu.sp / 256) (cpu.sp % 256) = split_holds (word_alone n) cpu.sp (let same = is.0 in record { above = omega (arith, same); below = omega (arith, same) }) in
    let small = is.1 in let same = is.0 in
    adds s cpu (pair_of_words (word_alone n)) cpu.sp (sum_carries s.hl.words (word_alone n)) holds
    (subst (λ k. let sum = (hl_of cpu.registers + k) % 65536 in HoldsPair (sum_pair s.hl (pair_of_words (word_alone n))) (sum / 256) (sum % 256)) (omega arith)
    (sum_holds s.hl (pair_of_words (word_alone n)) cpu.registers.h cpu.registers.l (cpu.sp / 256) (cpu.sp % 256) bytes.h bytes.l (omega (arith, small, same)) (omega arith) holds.hl pair))
    (subst (λ k. IsKnown (sum_carries s.hl.words (word_alone n)) (nat_lt 65535 (hl_of cpu.registers + k))) (omega arith) (carries s.hl.words (word_alone n) _ _ holds.hl.words alone))

module _ (code : List (Option ℕ)) (memory : List ℕ) (reads : ReadsCode code memory) (held : HasBytes memory) where
  loads : (s : Known) (r : Registers) (to : Register) (span : Span) (at : ℕ) → AreBytes r → HoldsRegisters s r → HoldsCells s.cells memory → Within span at → HoldsRegisters (with_byte s to (loaded code s.cells span)) (with_register r to (byte_in memory at))
  loads s r to span at bytes holds cells inside = with_byte_holds s r to (loaded code s.cells span) (byte_in memory at) bytes holds (loaded_within code s.cells memory span at reads cells held inside)

  operand_within : (operand : Operand) (s : Known) (r : Registers) → AreBytes r → HoldsRegisters s r → HoldsCells s.cells memory → ByteWithin (operand_bytes code operand s) (operand_of operand memory r)
  operand_within (InRegister register) s r bytes holds cells = byte_holds s r register bytes holds
  operand_within Memory s r bytes holds cells = loaded_within code s.cells memory s.hl.words (hl_of r) reads cells held holds.hl.words
  operand_within (Immediate byte) s r bytes holds cells = alone_within byte

  pub changed_registers : (i : Instr) (cpu : Cpu) (top : StackTop) (s : Known) → HasOperandInRange i → AreBytes cpu.registers → HoldsRegisters s cpu.registers → IfSome top.pointer (λ n. (cpu.sp ≡ n) × (n < 65536)) →
      HoldsPair top.word (byte_in memory (ahead cpu.sp 1)) (byte_in memory cpu.sp) → HoldsCells s.cells memory → HoldsRegisters (registers_after code i top s) (changed i memory cpu).registers
  unfolding ahead behind increment_answer decrement_answer byte_answer rotation_answer complement_of carry_set carry_turned
  changed_registers (Mov to from) cpu top s small bytes holds pointer word cells = moved_holds s cpu.registers to from bytes holds
  changed_registers (Load to) cpu top s small bytes holds pointer word cells = loads s cpu.registers to s.hl.words (hl_of cpu.registers) bytes holds cells holds.hl.words
  changed_registers (Mvi to byte) cpu top s small bytes holds pointer word cells = with_byte_holds s cpu.registers to (byte_alone byte) byte bytes holds (alone_within byte)
  changed_registers (Inr to) cpu top s small bytes holds pointer word cells = counted_holds s cpu.registers to (next_byte (byte_of s to)) ((register_of cpu.registers to + 1) % 256) _ bytes holds
      (next_byte_within (byte_of s to) (register_of cpu.registers to) (register_is_byte cpu.registers to bytes) (byte_holds s cpu.registers to bytes holds))
  changed_registers (Dcr to) cpu top s small bytes holds pointer word cells = counted_holds s cpu.registers to (previous_byte (byte_of s to)) ((register_of cpu.registers to + 255) % 256) _ bytes holds
      (previous_byte_within (byte_of s to) (register_of cpu.registers to) (register_is_byte cpu.registers to bytes) (byte_holds s cpu.registers to bytes holds))
  changed_registers InrMemory cpu top s small bytes holds pointer word cells =
      let inside = loaded_within code s.cells memory s.hl.words (hl_of cpu.registers) reads cells held holds.hl.words in
      let counted = next_byte_within (loaded code s.cells s.hl.words) (byte_in memory (hl_of cpu.registers)) (memory_byte memory (hl_of cpu.registers) held) inside in
      outcome_holds s cpu.registers (record { value = next_byte (loaded code s.cells s.hl.words); carry = s.carry }) _ _ cpu.registers.flags.carry holds (record { value = counted; carry = holds.flags.carry })
  changed_registers DcrMemory cpu top s small bytes holds pointer word cells =
      let inside = loaded_within code s.cells memory s.hl.words (hl_of cpu.registers) reads cells held holds.hl.words in
      let counted = previous_byte_within (loaded code s.cells s.hl.words) (byte_in memory (hl_of cpu.registers)) (memory_byte memory (hl_of cpu.registers) held) inside in
      outcome_holds s cpu.registers (record { value = previous_byte (loaded code s.cells s.hl.words); carry = s.carry }) _ _ cpu.registers.flags.carry holds (record { value = counted; carry = holds.flags.carry })
  changed_registers (Lxi pair n) cpu top s small bytes holds pointer word cells = with_span_holds s cpu pair (pair_of_words (word_alone n)) n holds (split_holds (word_alone n) n (record { above = omega arith; below = omega arith }))
  changed_registers (Inx pair) cpu top s small bytes holds pointer word cells = counts next_pair (λ n. ahead n 1) s cpu pair next_holds bytes holds
  changed_registers (Dcx pair) cpu top s small bytes holds pointer word cells = counts previous_pair (λ n. behind n 1) s cpu pair previous_holds bytes holds
  changed_registers (Dad Bc) cpu top s small bytes holds pointer word cells = adds s cpu s.bc _ (added_carry Bc top.pointer s) holds
      (sum_holds s.hl s.bc _ _ _ _ bytes.h bytes.l bytes.b bytes.c holds.hl holds.bc)
      (carries s.hl.words s.bc.words _ _ holds.hl.words holds.bc.words)
  changed_registers (Dad De) cpu top s small bytes holds pointer word cells = adds s cpu s.de _ (added_carry De top.pointer s) holds
      (sum_holds s.hl s.de _ _ _ _ bytes.h bytes.l bytes.d bytes.e holds.hl holds.de)
      (carries s.hl.words s.de.words _ _ holds.hl.words holds.de.words)
  changed_registers (Dad Hl) cpu top s small bytes holds pointer word cells = adds s cpu s.hl _ (added_carry Hl top.pointer s) holds
      (sum_holds s.hl s.hl _ _ _ _ bytes.h bytes.l bytes.h bytes.l holds.hl holds.hl)
      (carries s.hl.words s.hl.words _ _ holds.hl.words holds.hl.words)
  changed_registers (Dad Sp) cpu top s small bytes holds pointer word cells = adds_pointer s cpu top.pointer bytes holds pointer
  changed_registers (Operate o operand) cpu top s small bytes holds pointer word cells =
      operates o (is_accumulator operand) s cpu.registers (operand_bytes code operand s) (operand_of operand memory cpu.registers) bytes (operand_is_byte o operand memory cpu.registers small held bytes) holds
      (operand_within operand s cpu.registers bytes holds cells) (is_itself operand memory cpu.registers)
  changed_registers (Rotate Left) cpu top s small bytes holds pointer word cells =
      carry_holds _ (record cpu.registers { a = cpu.registers.a * 2 % 256 + cpu.registers.a / 128 }) None _ (with_byte_holds s cpu.registers A _ _ bytes holds (left_within s.a cpu.registers.a s.carry holds.a bytes.a)) tt
  changed_registers (Rotate Right) cpu top s small bytes holds pointer word cells =
      carry_holds _ (record cpu.registers { a = cpu.registers.a / 2 + cpu.registers.a % 2 * 128 }) None _ (with_byte_holds s cpu.registers A _ _ bytes holds (right_within s.a cpu.registers.a s.carry holds.a bytes.a)) tt
  changed_registers (Rotate LeftThroughCarry) cpu top s small bytes holds pointer word cells =
      let carry = cpu.registers.flags.carry in
      carry_holds _ (record cpu.registers { a = cpu.registers.a * 2 % 256 + bit_of carry }) None _ (with_byte_holds s cpu.registers A _ _ bytes holds (through_left s.a cpu.registers.a s.carry carry holds.flags.carry holds.a bytes.a)) tt
  changed_registers (Rotate RightThroughCarry) cpu top s small bytes holds pointer word cells =
      let carry = cpu.registers.flags.carry in
      carry_holds _ (record cpu.registers { a = cpu.registers.a / 2 + bit_of carry * 128 }) None _ (with_byte_holds s cpu.registers A _ _ bytes holds (through_right s.a cpu.registers.a s.carry carry holds.flags.carry holds.a bytes.a)) tt
  changed_registers Daa cpu top s small bytes holds pointer word cells = adjusts s cpu.registers bytes holds
  changed_registers Cma cpu top s small bytes holds pointer word cells =
      let inside = holds.a in
      with_byte_holds s cpu.registers A (complemented s.a) (255 - cpu.registers.a) bytes holds (record { above = omega (arith, inside.above, inside.below); below = omega (arith, inside.above, inside.below) })
  changed_registers Stc cpu top s small bytes holds pointer word cells = carry_holds s cpu.registers (Some true) true holds refl
  changed_registers Cmc cpu top s small bytes holds pointer word cells = carry_holds s cpu.registers (turned s.carry) (not cpu.registers.flags.carry) holds (turn s.carry cpu.registers.flags.carry holds.flags.carry)
  changed_registers (Ldax pair) cpu top s small bytes holds pointer word cells = loads s cpu.registers A (index_words s pair) (index_pair_of cpu.registers pair) bytes holds cells (index_within s cpu.registers pair holds)
  changed_registers (Lda address) cpu top s small bytes holds pointer word cells =
      with_byte_holds s cpu.registers A (loaded_at code s.cells address) (byte_in memory address) bytes holds (read_within code s.cells memory address reads cells held)
  changed_registers (Lhld address) cpu top s small bytes holds pointer word cells =
      let high = byte_in memory (ahead address 1) in
      let one = with_byte_holds s cpu.registers H (loaded_at code s.cells (ahead address 1)) high bytes holds (read_within code s.cells memory (ahead address 1) reads cells held) in
      with_byte_holds (with_byte s H (loaded_at code s.cells (ahead address 1))) (record cpu.registers { h = high }) L (loaded_at code s.cells address) (byte_in memory address)
      (register_written cpu.registers H high (memory_byte memory (ahead address 1) held) bytes) one (read_within code s.cells memory address reads cells held)
  changed_registers Xchg cpu top s small bytes holds pointer word cells =
      record { a = holds.a; bc = holds.bc; de = holds.hl; hl = holds.de; copy = exchanges_copy s.copy cpu.registers holds.copy; flags = holds.flags }
  changed_registers (Pop StackBc) cpu top s small bytes holds pointer word cells = bc_written_holds s cpu.registers top.word _ _ holds word
  changed_registers (Pop StackDe) cpu top s small bytes holds pointer word cells = de_written_holds s cpu.registers top.word _ _ holds word
  changed_registers (Pop StackHl) cpu top s small bytes holds pointer word cells = hl_written_holds s cpu.registers top.word _ _ holds word
  changed_registers (Pop Psw) cpu top s small bytes holds pointer word cells =
      let high = high_of top.word.words in
      any_flags_hold (with_byte s A high) (record cpu.registers { a = byte_in memory (ahead cpu.sp 1) }) (flags_from (byte_in memory cpu.sp))
      (with_byte_holds s cpu.registers A high (byte_in memory (ahead cpu.sp 1)) bytes holds
      (high_holds top.word _ (byte_in memory cpu.sp) (memory_byte memory cpu.sp held) word))
  changed_registers Xthl cpu top s small bytes holds pointer word cells = hl_written_holds s cpu.registers top.word _ _ holds word
  changed_registers (In port) cpu top s small bytes holds pointer word cells = with_byte_holds s cpu.registers A any_byte cpu.registers.a bytes holds (any_byte_within cpu.registers.a bytes.a)
  changed_registers i cpu top s small bytes holds pointer word cells = holds
