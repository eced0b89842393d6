-- The byte of memory that A has, along a step.
use Rattle.verify80_states.proofs.Names.{◌≡◌, ◌&&◌, ℕ, Bool, true, false, List, [], ◌∷◌, Option, None, Some, nat_le, length, bit_and, bit_or, refl, and_self}
use Rattle.verify80_states.proofs.Names.{or_self, subst, sym, ap, ◌∙◌, arith, get_or-set_same, A, Sp, Psw, Instr, Operation, Mov, Load, Store, Mvi, Lxi, Inx}
use Rattle.verify80_states.proofs.Names.{Dcx, Inr, Dcr, Operate, Pop, Ldax, Sta, Lda, Rotate, Daa, Cma, In, Subtract, And, ExclusiveOr, Or, Compare}
use Rattle.verify80_states.proofs.Names.{HasOperandInRange, Areas, in_data, Registers, Cpu, hl_of, operand_of, stores, stored, changed, Span, ByteSpan, Known}
use Rattle.verify80_states.proofs.Names.{AreBytes, HoldsRegisters, HoldsSource, IsQuietSource, Within, is_alone, is_accumulator, operand_bytes, after_operation}
use Rattle.verify80_states.proofs.Names.{only_address, registers_after, source_after, address_after, stored_bytes, StoredByte, slice_set, cond_both, StackTop}
use Rattle.machine80.specs.Arithmetic.{byte_answer, operation_answer}
use Rattle.verify80_states.proofs.{RegisterBytes.hl_is_word, FollowLemmas.word_first, FollowLemmas.is_itself, CellLemmas.apart_from}
use Rattle.verify80_states.proofs.{CellLemmas.source_beside, MemoryLemmas.Ground, MemoryLemmas.one_stored, StoredLemmas.AreStored, StoredLemmas.stack_stored}

-- a byte is read or stored at an address of a span
only_is : (span : Span) (n : ℕ) (m : List ℕ) (a : ℕ) (b : Bool) → is_alone span ≡ b → Within span n → HoldsSource (Some n) m a → HoldsSource (only_address span) m a
only_is span n m a true alone inside is = rw alone (subst (λ k. HoldsSource (Some k) m a) (sym (word_first span n alone inside)) is)
only_is span n m a false alone inside is = rw alone tt

outside_is : (s : StoredByte) (o : Option ℕ) (m : List ℕ) (b x a : ℕ) → Within s.at b → HoldsSource o m a → HoldsSource (address_after (Some s) o) (stored m ((b, x) ∷ [])) a
outside_is s None m b x a inside is = tt
outside_is s (Some at) m b x a inside is = cond_both (nat_le s.at.first at && nat_le at s.at.last) None (Some at) (λ (o : Option ℕ). HoldsSource o (stored m ((b, x) ∷ [])) a)
    (λ within. tt) (λ apart. one_stored m at b x (apart_from s.at at b apart inside) ∙ is)

-- what the byte of memory is, and that its address is data
abbrev IsSource : Areas → Option ℕ → (memory : List ℕ) → (a : ℕ) → Type 0
IsSource regions o memory a = HoldsSource o memory a × IsQuietSource (in_data regions) o

-- an operation leaves A, or nothing is known then
operated_source : (o : Operation) (itself : Bool) (t : ByteSpan) (s : Known) (r : Registers) (v : ℕ) (m : List ℕ) (regions : Areas) → (itself ≡ true → v ≡ r.a) → IsSource regions s.source m r.a →
    IsSource regions (after_operation o itself t s).source m (operation_answer o r.a v r.flags).value
unfolding operation_answer byte_answer
operated_source Compare itself t s r v m regions same is = is
operated_source And true t s r v m regions same is = subst (λ n. IsSource regions s.source m n) (sym (ap (λ n. bit_and r.a n) (same refl) ∙ and_self r.a)) is
operated_source Or true t s r v m regions same is = subst (λ n. IsSource regions s.source m n) (sym (ap (λ n. bit_or r.a n) (same refl) ∙ or_self r.a)) is
operated_source ExclusiveOr true t s r v m regions same is = (tt, tt)
operated_source Subtract true t s r v m regions same is = (tt, tt)
operated_source o itself t s r v m regions same is = (tt, tt)

module _ (regions : Areas) (ground : Ground regions) (code : List (Option ℕ)) (m : List ℕ) (whole : length m ≡ 65536) where
  -- when registers are written
  left_source : (i : Instr) (cpu : Cpu) (top : StackTop) (s : Known) → IsSource regions s.source m cpu.registers.a → IsSource regions (registers_after code i top s).source m (changed i m cpu).registers.a
  left_source (Operate o operand) cpu top s is = operated_source o (is_accumulator operand) (operand_bytes code operand s) s cpu.registers (operand_of operand m cpu.registers) m regions (is_itself operand m cpu.registers) is
  left_source (Mov A from) cpu top s is = (tt, tt)
  left_source (Mov to A) cpu top s is = is
  left_source (Load A) cpu top s is = (tt, tt)
  left_source (Mvi A b) cpu top s is = (tt, tt)
  left_source (Inr A) cpu top s is = (tt, tt)
  left_source (Dcr A) cpu top s is = (tt, tt)
  left_source (Pop Psw) cpu top s is = (tt, tt)
  left_source (Rotate n) cpu top s is = (tt, tt)
  left_source (Ldax pair) cpu top s is = (tt, tt)
  left_source (Lda w) cpu top s is = (tt, tt)
  left_source (In port) cpu top s is = (tt, tt)
  left_source Daa cpu top s is = (tt, tt)
  left_source Cma cpu top s is = (tt, tt)
  left_source (Lxi Sp n) cpu top s is = is
  left_source (Inx Sp) cpu top s is = is
  left_source (Dcx Sp) cpu top s is = is
  left_source i cpu top s is = is

  -- when bytes are stored
  source_kept : (b c : Option StoredByte) (bytes : List (ℕ × ℕ)) (o : Option ℕ) (a : ℕ) → AreStored regions b c bytes → IsSource regions o m a → HoldsSource (address_after c (address_after b o)) (stored m bytes) a
  source_kept None None bytes o a are is = source_beside (in_data regions) m (stored m bytes) o a (λ at here. stack_stored regions bytes m at are (ground.data_or_stack at here)) is.1 is.0
  source_kept (Some b) None (x ∷ []) o a are is = outside_is b o m x.0 x.1 a are.there is.0
  source_kept (Some b) (Some c) (x ∷ y ∷ []) o a are is = outside_is c (address_after (Some b) o) (slice_set m x.0 x.1) y.0 y.1 a are.1.there (outside_is b o m x.0 x.1 a are.0.there is.0)
  source_kept b c bytes o a are is = absurd are

  pub source_changed : (i : Instr) (next : ℕ) (cpu : Cpu) (top : StackTop) (s : Known) → AreStored regions (stored_bytes code i s).0 (stored_bytes code i s).1 (stores i next m cpu) → HasOperandInRange i → AreBytes cpu.registers → IsQuietSource (in_data regions) s.source → HoldsRegisters s cpu.registers →
      HoldsSource s.source m cpu.registers.a → HoldsSource (source_after i s (stored_bytes code i s) (registers_after code i top s).source) (stored m (stores i next m cpu)) (changed i m cpu).registers.a
  source_changed (Lda w) next cpu top s are_stored small bytes are holds is = refl
  source_changed (Sta w) next cpu top s are_stored small bytes are holds is = get_or-set_same m w cpu.registers.a 0 (omega (arith, small, whole))
  source_changed (Load A) next cpu top s are_stored small bytes are holds is = only_is s.hl.words (hl_of cpu.registers) m _ (is_alone s.hl.words) refl holds.hl.words refl
  source_changed (Store A) next cpu top s are_stored small bytes are holds is =
      only_is s.hl.words (hl_of cpu.registers) (slice_set m (hl_of cpu.registers) cpu.registers.a) cpu.registers.a (is_alone s.hl.words) refl holds.hl.words
      (get_or-set_same m (hl_of cpu.registers) cpu.registers.a 0 (let word = hl_is_word cpu.registers bytes in omega (arith, word, whole)))
  source_changed i next cpu top s are_stored small bytes are holds is =
      source_kept (stored_bytes code i s).0 (stored_bytes code i s).1 (stores i next m cpu) (registers_after code i top s).source (changed i m cpu).registers.a are_stored (left_source i cpu top s (is, are))
