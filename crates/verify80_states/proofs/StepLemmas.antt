-- What is known, and a state, along a step.
use Rattle.verify80_states.proofs.Names.{◌≡◌, ◌<◌, ℕ, Bool, true, List, Option, None, Some, length, slice_index, refl, A, In, Out, Instr}
use Rattle.verify80_states.proofs.Names.{Fetched, flow, HasOperandInRange, Areas, in_code, in_data, Registers, stored, stores, without_next}
use Rattle.verify80_states.proofs.Names.{Machine, Next, fetch, guard, proceeded, step_of, Cells, Known, StackTop, State, AreBytes, HasBytes}
use Rattle.verify80_states.proofs.Names.{HoldsBytes, registers_after, known_after, state_after, top_word, ReadsCode, is_taken, any_byte, Holds}
use Rattle.verify80_states.proofs.Names.{HoldsKnown, HoldsRegisters, HoldsTop, HoldsWords, IsQuietKnown, IsQuietState, with_byte, stored_bytes}
use Rattle.verify80_states.proofs.{StepLeads.step_leads, SpanLemmas.any_byte_within, StateLemmas.with_byte_holds, FollowLemmas.changed_registers}
use Rattle.verify80_states.proofs.{FollowLemmas.popped_holds, MemoryLemmas.Ground, MemoryLemmas.words_changed, CellLemmas.cells_kept}
use Rattle.verify80_states.proofs.{SourceLemmas.source_changed, StoredLemmas.are_stored, StoredLemmas.code_kept}

-- registers of which the same is known, whatever is known of memory
pub other_known : (s : Known) (cells : Cells) (source : Option ℕ) (set : ℕ) (r : Registers) → HoldsRegisters s r → HoldsRegisters (record s { cells = cells; source = source; set = set }) r
other_known s cells source set r holds = record { a = holds.a; bc = holds.bc; de = holds.de; hl = holds.hl; copy = holds.copy; flags = holds.flags }

-- IN brings a byte, and OUT changes nothing
pub known_brought : (code : List (Option ℕ)) (m : Machine) (port byte next : ℕ) (inputs : List (List ℕ)) (top : StackTop) (s : Known) → AreBytes m.cpu.registers → byte < 256 → HoldsKnown s m →
    HoldsKnown (known_after code (In port) top s) (record m { cpu = record m.cpu { registers = record m.cpu.registers { a = byte }; pc = next }; inputs = inputs })
known_brought code m port byte next inputs top s bytes small holds = record {
  registers = other_known (with_byte s A any_byte) s.cells None s.set _ (with_byte_holds s m.cpu.registers A any_byte byte bytes holds.registers (any_byte_within byte small));
  cells = holds.cells;
  source = tt;
}

pub known_taken : (code : List (Option ℕ)) (m : Machine) (port next : ℕ) (outputs : List (ℕ × ℕ)) (top : StackTop) (s : Known) → HoldsKnown s m →
    HoldsKnown (known_after code (Out port) top s) (record m { cpu = record m.cpu { pc = next }; outputs = outputs })
known_taken code m port next outputs top s holds = record { registers = other_known s s.cells s.source s.set m.cpu.registers holds.registers; cells = holds.cells; source = holds.source }

module _ (regions : Areas) (ground : Ground regions) (code : List (Option ℕ)) where
  -- what any other instruction makes of what is known
  pub known_proceeds : (m : Machine) (i : Instr) (next : ℕ) (top : StackTop) (s : Known) → HasOperandInRange i → HoldsBytes m → length m.memory ≡ 65536 → ReadsCode code m.memory → IsQuietKnown (in_data regions) s → HoldsTop top m →
      guard regions i m.cpu ≡ None → HasBytes (stored m.memory (stores i next m.memory m.cpu)) → HoldsKnown s m → HoldsKnown (known_after code i top s) (proceeded i next m)
  known_proceeds m i next top s small bytes whole reads are tops pass after holds =
      let r = bytes.registers in
      let stored = are_stored regions code m.memory i next m.cpu s reads bytes.memory pass small r holds.registers holds.cells in
      record {
        registers = other_known (registers_after code i top s) _ _ _ _ (changed_registers code m.memory reads bytes.memory i m.cpu top s small r holds.registers tops.pointer tops.word holds.cells);
        cells = cells_kept regions ground (stored_bytes code i s).0 (stored_bytes code i s).1 (stores i next m.memory m.cpu) s.cells m.memory stored whole bytes.memory after are.cells holds.cells;
        source = source_changed regions ground code m.memory whole i next m.cpu top s stored small r are.source holds.registers holds.source;
      }

  -- what the words of a state say of the top of the stack
  top_holds : (s : State) (m : Machine) → HasBytes m.memory → HoldsWords regions s.words m.memory m.cpu.sp → HoldsTop (top_word s.words) m
  top_holds s m bytes words = record { pointer = tt; word = popped_holds regions s.words.first m.memory m.cpu.sp words.first bytes }

  -- what an instruction makes of a state holds after the step
  pub step_state : (refused : Bool) (m after : Machine) (found : Fetched) (s : State) → HasOperandInRange found.instr → HoldsBytes m → HoldsBytes after → length m.memory ≡ 65536 → ReadsCode code m.memory → IsQuietState (in_data regions) s →
      fetch regions m.memory m.cpu.pc ≡ Some found → step_of regions refused m ≡ Next after → Holds regions s m →
      Holds regions (state_after code found.instr (is_taken (flow found.instr) m.cpu.registers.flags) found.next s) after
  step_state refused m after found s small bytes now whole reads are fetched is holds =
      step_leads (λ i (n : Machine). HoldsBytes n → Holds regions (state_after code i (is_taken (flow i) m.cpu.registers.flags) found.next s) n) regions refused m after found fetched is
      (λ pass. record {
        input = λ port byte got there. record { known = known_brought code m port byte found.next (without_next m.inputs port) (top_word s.words) s.known bytes.registers there.registers.a holds.known; words = holds.words };
        output = λ port there. record { known = known_taken code m port found.next _ (top_word s.words) s.known holds.known; words = holds.words };
        other = λ jumps halts there. record {
          known = known_proceeds m found.instr found.next (top_word s.words) s.known small bytes whole reads are (top_holds s m bytes.memory holds.words) pass there.memory holds.known;
          words = words_changed regions ground m.memory whole found.instr found.next m.cpu s pass holds.known.registers holds.words;
        };
      }) now

  -- what holds of a byte, and of what an instruction may store there, holds of it after the step
  pub step_byte : (P : ℕ → Type 0) (refused : Bool) (m after : Machine) (found : Fetched) (a : ℕ) → fetch regions m.memory m.cpu.pc ≡ Some found → step_of regions refused m ≡ Next after → P (slice_index m.memory a) →
      (guard regions found.instr m.cpu ≡ None → P (slice_index (stored m.memory (stores found.instr found.next m.memory m.cpu)) a)) → P (slice_index after.memory a)
  step_byte P refused m after found a fetched is before kept = step_leads (λ i (n : Machine). P (slice_index n.memory a)) regions refused m after found fetched is
      (λ pass. record { input = λ port byte got. before; output = λ port. before; other = λ jumps halts. kept pass })

  -- code stays
  pub step_code : (refused : Bool) (m after : Machine) (found : Fetched) (s : Known) (a : ℕ) → HasOperandInRange found.instr → HoldsBytes m → ReadsCode code m.memory → HoldsKnown s m →
      fetch regions m.memory m.cpu.pc ≡ Some found → step_of regions refused m ≡ Next after → in_code regions a ≡ true → slice_index after.memory a ≡ slice_index m.memory a
  step_code refused m after found s a small bytes reads holds fetched is here =
      step_byte (λ n. n ≡ slice_index m.memory a) refused m after found a fetched is refl
      (λ pass. code_kept regions ground (stored_bytes code found.instr s).0 (stored_bytes code found.instr s).1 (stores found.instr found.next m.memory m.cpu) m.memory a
      (are_stored regions code m.memory found.instr found.next m.cpu s reads bytes.memory pass small bytes.registers holds.registers holds.cells) here)
