-- What an instruction stores: to data what its state says, or to the stack; all other bytes stay.
use Rattle.verify80_states.proofs.Names.{arith, ◌≡◌, ◌≢◌, ◌<◌, ℕ, ◌/◌, ◌%◌, Bool, true, false, List, [], ◌∷◌, Option, None, Some, All, All-nil, All-head}
use Rattle.verify80_states.proofs.Names.{All-tail, slice_index, slice_set, refl, if◌then◌else◌, sym, ap, ◌∙◌, true≢false, get_or-set_other, Instr, Store}
use Rattle.verify80_states.proofs.Names.{MviMemory, InrMemory, DcrMemory, Stax, Sta, Shld, Push, Call, CallIf, Rst, Xthl, ahead, behind, HasOperandInRange}
use Rattle.verify80_states.proofs.Names.{in_range, Areas, in_code, in_data, Registers, Cpu, Direct, Stack, StoreOutside, holds_of, hl_of, byte_in, push_bytes}
use Rattle.verify80_states.proofs.Names.{stores, stored, guard, first_outside, ends_at, ByteSpan, Known, StoredByte, HasBytes, AreBytes, ReadsCode, Within}
use Rattle.verify80_states.proofs.Names.{ByteWithin, byte_alone, word_alone, next_byte, previous_byte, HoldsCells, HoldsRegisters, byte_of, loaded, stored_bytes}
use Rattle.machine80.specs.Arithmetic.{byte_answer, increment_answer, decrement_answer}
use Rattle.verify80_states.proofs.{ByteLemmas.byte_at as memory_byte, ByteLemmas.two_each, ArithmeticBounds.ahead_is_word, ArithmeticBounds.increment_is_byte}
use Rattle.verify80_states.proofs.{ArithmeticBounds.decrement_is_byte, RegisterBytes.register_is_byte, RegisterBytes.pointed_is_word}
use Rattle.verify80_states.proofs.{RegisterBytes.hl_is_word, StateLemmas.byte_holds, FollowLemmas.loaded_within, FollowLemmas.index_within}
use Rattle.verify80_states.proofs.SpanLemmas.{alone_within, high_within, next_byte_within, previous_byte_within}
use Rattle.verify80_states.proofs.MemoryLemmas.{Ground, passed, passed_two, one_stored, two_stored}

-- a byte that is stored to data is what a state says
pub record IsStored (regions : Areas) (b : StoredByte) (x : ℕ × ℕ) : Type 0 where
  pub there : Within b.at x.0
  pub is : ByteWithin b.bytes x.1
  pub small : x.0 < 65536
  pub byte : x.1 < 256
  pub inside : in_data regions x.0 ≡ true

-- all that is stored is what a state says, or on the stack
abbrev pub OnStack : Areas → ℕ × ℕ → Type 0
OnStack regions x = in_range regions.stack x.0 ≡ true

abbrev pub AreStored : Areas → Option StoredByte → Option StoredByte → List (ℕ × ℕ) → Type 0
AreStored regions None None bytes = All (OnStack regions) bytes
AreStored regions (Some b) None (x ∷ []) = IsStored regions b x
AreStored regions (Some b) (Some c) (x ∷ y ∷ []) = IsStored regions b x × IsStored regions c y
AreStored regions b c bytes = ⊥

word_within : (n : ℕ) → Within (word_alone n) n
word_within n = record { above = omega arith; below = omega arith }

module _ (regions : Areas) where
  on_stack : (a b x y : ℕ) → (in_range regions.stack a ≡ true) × (in_range regions.stack b ≡ true) → All (OnStack regions) ((a, x) ∷ (b, y) ∷ [])
  on_stack a b x y there = two_each (OnStack regions) (a, x) (b, y) there.0 there.1

  maybe_on_stack : (t : Bool) (sp high low : ℕ) → ends_at (first_outside (in_range regions.stack) (if t then behind sp 1 ∷ behind sp 2 ∷ [] else [])) Stack (ends_at None Direct (ends_at None StoreOutside None)) ≡ None →
      All (OnStack regions) (if t then push_bytes sp high low else [])
  maybe_on_stack true sp high low pass = on_stack _ _ _ _ (passed_two (in_range regions.stack) (behind sp 1) (behind sp 2) Stack _ pass)
  maybe_on_stack false sp high low pass = All-nil (OnStack regions)

  by_hl : (s : Known) (r : Registers) (span : ByteSpan) (byte : ℕ) → AreBytes r → HoldsRegisters s r → in_data regions (hl_of r) ≡ true → ByteWithin span byte → byte < 256 → IsStored regions (record { at = s.hl.words; bytes = span }) (hl_of r, byte)
  by_hl s r span byte bytes holds there is small = record { there = holds.hl.words; is = is; small = hl_is_word r bytes; byte = small; inside = there }

  pub are_stored : (code : List (Option ℕ)) (m : List ℕ) (i : Instr) (next : ℕ) (cpu : Cpu) (s : Known) → ReadsCode code m → HasBytes m → guard regions i cpu ≡ None → HasOperandInRange i → AreBytes cpu.registers → HoldsRegisters s cpu.registers → HoldsCells s.cells m →
      AreStored regions (stored_bytes code i s).0 (stored_bytes code i s).1 (stores i next m cpu)
  unfolding increment_answer decrement_answer byte_answer
  are_stored code m (Store r) next cpu s reads held pass small bytes holds cells =
      by_hl s cpu.registers (byte_of s r) _ bytes holds (passed (in_data regions) _ StoreOutside None pass) (byte_holds s cpu.registers r bytes holds) (register_is_byte cpu.registers r bytes)
  are_stored code m (MviMemory byte) next cpu s reads held pass small bytes holds cells = by_hl s cpu.registers (byte_alone byte) byte bytes holds (passed (in_data regions) _ StoreOutside None pass) (alone_within byte) small
  are_stored code m InrMemory next cpu s reads held pass small bytes holds cells =
      let byte = byte_in m (hl_of cpu.registers) in
      let inside = loaded_within code s.cells m s.hl.words (hl_of cpu.registers) reads cells held holds.hl.words in
      by_hl s cpu.registers (next_byte (loaded code s.cells s.hl.words)) _ bytes holds (passed (in_data regions) _ StoreOutside None pass)
      (next_byte_within (loaded code s.cells s.hl.words) byte (memory_byte m (hl_of cpu.registers) held) inside) (increment_is_byte byte cpu.registers.flags)
  are_stored code m DcrMemory next cpu s reads held pass small bytes holds cells =
      let byte = byte_in m (hl_of cpu.registers) in
      let inside = loaded_within code s.cells m s.hl.words (hl_of cpu.registers) reads cells held holds.hl.words in
      by_hl s cpu.registers (previous_byte (loaded code s.cells s.hl.words)) _ bytes holds (passed (in_data regions) _ StoreOutside None pass)
      (previous_byte_within (loaded code s.cells s.hl.words) byte (memory_byte m (hl_of cpu.registers) held) inside) (decrement_is_byte byte cpu.registers.flags)
  are_stored code m (Stax pair) next cpu s reads held pass small bytes holds cells =
      record { there = index_within s cpu.registers pair holds; is = holds.a; small = pointed_is_word cpu.registers pair bytes; byte = bytes.a; inside = passed (in_data regions) _ StoreOutside None pass }
  are_stored code m (Sta w) next cpu s reads held pass small bytes holds cells = record { there = word_within w; is = holds.a; small = small; byte = bytes.a; inside = passed (in_data regions) w Direct None pass }
  are_stored code m (Shld w) next cpu s reads held pass small bytes holds cells =
      let both = passed_two (in_data regions) w (ahead w 1) Direct None pass in
      let high = high_within s.hl.words cpu.registers.h cpu.registers.l bytes.l holds.hl.words in (
        record { there = word_within w; is = holds.hl.low; small = small; byte = bytes.l; inside = both.0 },
        record { there = word_within (ahead w 1); is = high; small = ahead_is_word w 1; byte = bytes.h; inside = both.1 },
      )
  are_stored code m (Push pair) next cpu s reads held pass small bytes holds cells = on_stack _ _ _ _ (passed_two (in_range regions.stack) (behind cpu.sp 1) (behind cpu.sp 2) Stack _ pass)
  are_stored code m (Call w) next cpu s reads held pass small bytes holds cells = on_stack _ _ _ _ (passed_two (in_range regions.stack) (behind cpu.sp 1) (behind cpu.sp 2) Stack _ pass)
  are_stored code m (Rst n) next cpu s reads held pass small bytes holds cells = on_stack _ _ _ _ (passed_two (in_range regions.stack) (behind cpu.sp 1) (behind cpu.sp 2) Stack _ pass)
  are_stored code m Xthl next cpu s reads held pass small bytes holds cells = on_stack _ _ _ _ (passed_two (in_range regions.stack) cpu.sp (ahead cpu.sp 1) Stack _ pass)
  are_stored code m (CallIf c w) next cpu s reads held pass small bytes holds cells = maybe_on_stack (holds_of c cpu.registers.flags) cpu.sp (next / 256) (next % 256) pass
  are_stored code m i next cpu s reads held pass small bytes holds cells = All-nil (OnStack regions)

  -- what is stored on the stack is stored nowhere else
  pub stack_stored : (bytes : List (ℕ × ℕ)) (m : List ℕ) (a : ℕ) → All (OnStack regions) bytes → in_range regions.stack a ≡ false → slice_index (stored m bytes) a ≡ slice_index m a
  stack_stored [] m a are off = refl
  stack_stored (x ∷ xs) m a are off =
      stack_stored xs (slice_set m x.0 x.1) a (All-tail (OnStack regions) x xs are) off
      ∙ get_or-set_other m x.0 a x.1 0 (λ e. true≢false (sym (All-head (OnStack regions) x xs are) ∙ ap (in_range regions.stack) (sym e) ∙ off))

  -- code stays
  module _ (ground : Ground regions) where
    not_data : (a b : ℕ) → in_code regions a ≡ true → in_data regions b ≡ true → a ≢ b
    not_data a b code data_there = λ e. true≢false (sym data_there ∙ ap (in_data regions) (sym e) ∙ ground.code_or_data a code)

    pub code_kept : (b c : Option StoredByte) (bytes : List (ℕ × ℕ)) (m : List ℕ) (a : ℕ) → AreStored regions b c bytes → in_code regions a ≡ true → slice_index (stored m bytes) a ≡ slice_index m a
    code_kept None None bytes m a are here = stack_stored bytes m a are (ground.code_or_stack a here)
    code_kept (Some b) None (x ∷ []) m a are here = one_stored m a x.0 x.1 (not_data a x.0 here are.inside)
    code_kept (Some b) (Some c) (x ∷ y ∷ []) m a are here = two_stored m a x.0 y.0 x.1 y.1 (not_data a x.0 here are.0.inside) (not_data a y.0 here are.1.inside)
    code_kept b c bytes m a are here = absurd are
