-- The laws of what is known, for whoever follows the stack.
use Rattle.verify80_states.proofs.Names.{◌≡◌, ◌<◌, ℕ, Bool, true, List, [], Option, None, Some, length, refl, subst, sym, ◌∙◌, same_Some, In, Out, Hlt}
use Rattle.verify80_states.proofs.Names.{Instr, Condition, HasOperandInRange, Areas, in_data, holds_of, stores, Machine, guard, proceeded, Known, StackTop}
use Rattle.verify80_states.proofs.Names.{HoldsBytes, IsWord, ReadsCode, given, HoldsKnown, HoldsTop, IsQuietKnown, ByteWithin, byte_alone, HoldsSet}
use Rattle.verify80.specs.Boards.{unguarded}
use Rattle.verify80_states.specs.Laws.{IsFollowedBy, LeavesKnown, KnownHolds}
use Rattle.verify80_states.proofs.{MemoryLemmas.Ground, RegisterBytes.accumulator_written, StepBytes.changed_bytes, ByteLemmas.stored_are_bytes}
use Rattle.verify80_states.proofs.{ByteLemmas.stored_length, StepBytes.stores_bytes, SpanLemmas.alone_within, GivenLemmas.cut_known, GivenLemmas.given_holds}
use Rattle.verify80_states.proofs.{InsideLemmas.known_around, StoredLemmas.are_stored, StoredLemmas.code_kept, KeepLemmas.nothing_known_holds}
use Rattle.verify80_states.specs.Following.{stored_bytes}
use Rattle.verify80_states.proofs.StepLemmas.{known_brought, known_taken, known_proceeds}

module _ (regions : Areas) (ground : Ground regions) (code : List (Option ℕ)) (top : StackTop) (s : Known) (m : Machine) (bytes : HoldsBytes m) (whole : length m.memory ≡ 65536) (reads : ReadsCode code m.memory) (are : IsQuietKnown (in_data regions) s) (tops : HoldsTop top m) (holds : HoldsKnown s m) where
  brought : (port byte next : ℕ) → byte < 256 → IsFollowedBy regions code (In port) top s m (record m { cpu = record m.cpu { registers = record m.cpu.registers { a = byte }; pc = next } })
  brought port byte next small = record {
    known = known_brought code m port byte next m.inputs top s bytes.registers small holds;
    bytes = record { registers = accumulator_written m.cpu.registers byte m.cpu.registers.flags small bytes.registers; memory = bytes.memory; inputs = bytes.inputs };
    whole = whole;
    same_code = λ address here. refl;
  }

  taken : (port next : ℕ) → IsFollowedBy regions code (Out port) top s m (record m { cpu = record m.cpu { pc = next } })
  taken port next = record {
    known = known_taken code m port next m.outputs top s holds;
    bytes = record { registers = bytes.registers; memory = bytes.memory; inputs = bytes.inputs };
    whole = whole;
    same_code = λ address here. refl;
  }

  goes_on : (i : Instr) (next : ℕ) → HasOperandInRange i → IsWord next → guard regions i m.cpu ≡ None → IsFollowedBy regions code i top s m (proceeded i next m)
  goes_on i next small word pass =
      let r = bytes.registers in
      let memory = stored_are_bytes (stores i next m.memory m.cpu) m.memory (stores_bytes i next m.memory m.cpu small word r) bytes.memory in
      record {
        known = known_proceeds regions ground code m i next top s small bytes whole reads are tops pass memory holds;
        bytes = record { registers = changed_bytes i m.memory m.cpu small bytes.memory r; memory = memory; inputs = bytes.inputs };
        whole = stored_length (stores i next m.memory m.cpu) m.memory ∙ whole;
        same_code = λ address here. code_kept regions ground (stored_bytes code i s).0 (stored_bytes code i s).1 (stores i next m.memory m.cpu) m.memory address
            (are_stored regions code m.memory i next m.cpu s reads bytes.memory pass small r holds.registers holds.cells) here;
      }

  pub followed_by : (i : Instr) (byte next : ℕ) (after : Machine) → HasOperandInRange i → IsWord next → byte < 256 → guard regions i m.cpu ≡ None → unguarded i byte next m ≡ Some after → IsFollowedBy regions code i top s m after
  followed_by Hlt byte next after small word bits pass is = cc
  followed_by (In port) byte next after small word bits pass is = subst (λ (n : Machine). IsFollowedBy regions code (In port) top s m n) (same_Some _ _ is) (brought port byte next bits)
  followed_by (Out port) byte next after small word bits pass is = subst (λ (n : Machine). IsFollowedBy regions code (Out port) top s m n) (same_Some _ _ is) (taken port next)
  followed_by i byte next after small word bits pass is = subst (λ (n : Machine). IsFollowedBy regions code i top s m n) (same_Some _ _ is) (goes_on i next small word pass)

pub leaves_known : (quiet : ℕ → Bool) (condition : Condition) (wanted : Bool) (s : Known) (m : Machine) → HoldsBytes m → HoldsKnown s m → IsQuietKnown quiet s → holds_of condition m.cpu.registers.flags ≡ wanted → LeavesKnown quiet m (given condition wanted s)
leaves_known quiet condition wanted s m bytes holds are is = let left = given_holds quiet m bytes.registers condition wanted s holds are is in record { left = left.left; is = left.is; holds = left.holds; are = left.are }

-- no variable is named where there are none
no_set : (set : ℕ) (memory : List ℕ) → HoldsSet [] set memory
no_set set memory v named = absurd (let there = named.there in cc there)

pub known_holds : (m : Machine) → HoldsBytes m → KnownHolds m
known_holds m bytes = record {
  nothing = nothing_known_holds 0 m bytes;
  around = λ inner outer inside holds. known_around [] inner outer m bytes.memory inside (no_set inner.set m.memory) holds;
  cuts = λ s byte holds same. cut_known (λ at. true) m bytes.registers s (byte_alone byte) holds (subst (λ n. ByteWithin (byte_alone byte) n) (sym same) (alone_within byte));
}
