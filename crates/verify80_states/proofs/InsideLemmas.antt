-- What a state says, one says that is around it.
use Rattle.verify80_states.proofs.Names.{◌≡◌, ◌⊎◌, ℕ, Bool, true, List, Option, None, Some, refl, subst, inl, inr, Register, A, ahead, Areas, Registers}
use Rattle.verify80_states.proofs.Names.{word, register_of, byte_in, Machine, PairSpan, Words, State, Variable, HoldsSet, is_bit, bytes_at, HasBytes}
use Rattle.verify80_states.proofs.Names.{ByteWithin, IsByteInside, Holds, HoldsPair, HoldsWord, HoldsWords, HoldsSource, Compares, IsPairInside}
use Rattle.verify80_states.proofs.Names.{IsSameIfKnown, IsCopyInside, IsWordInside, AreWordsInside, IsStateInside, Known, HoldsKnown, IsKnownInside}
use Rattle.verify80_spans.specs.Span.{IsKnown}
use Rattle.verify80_states.proofs.{CellReads.cells_within, SpanLemmas.inside_within, SpanLemmas.byte_inside_within, CellLemmas.cells_around}

pair_around : (p q : PairSpan) (h l : ℕ) → IsPairInside p q → HoldsPair p h l → HoldsPair q h l
pair_around p q h l inside holds = record { words = inside_within p.words q.words (word h l) inside.words holds.words; low = byte_inside_within p.low q.low l inside.low holds.low }

same_around : {T : Type 0} (P : Option T → Type 0) (o u : Option T) → P None → IsSameIfKnown o u → P o → P u
same_around P o None none inside holds = none
same_around P o (Some x) none inside holds = subst P inside holds

copy_around : (c d : Register) (r : Registers) → IsCopyInside c d → register_of r c ≡ r.a → register_of r d ≡ r.a
copy_around c A r inside same = refl
copy_around c d r inside same = subst (λ (x : Register). register_of r x ≡ r.a) inside same

word_around : (regions : Areas) (o u : Option PairSpan) (memory : List ℕ) (sp at : ℕ) → IsWordInside o u → HoldsWord regions o memory sp at → HoldsWord regions u memory sp at
word_around regions o None memory sp at inside holds = tt
word_around regions None (Some q) memory sp at inside holds = absurd inside
word_around regions (Some p) (Some q) memory sp at inside holds =
    record { low = holds.low; high = holds.high; above = holds.above; filled = holds.filled; within = pair_around p q _ _ inside holds.within }

words_around : (regions : Areas) (w v : Words) (memory : List ℕ) (sp : ℕ) → AreWordsInside w v → HoldsWords regions w memory sp → HoldsWords regions v memory sp
words_around regions w v memory sp inside holds = record {
  first = word_around regions w.first v.first memory sp sp inside.first holds.first;
  second = word_around regions w.second v.second memory sp (ahead sp 2) inside.second holds.second;
  third = word_around regions w.third v.third memory sp (ahead sp 4) inside.third holds.third;
  fourth = word_around regions w.fourth v.fourth memory sp (ahead sp 6) inside.fourth holds.fourth;
}

pub known_around : (variables : List Variable) (s t : Known) (m : Machine) → HasBytes m.memory → IsKnownInside variables s t → HoldsSet variables s.set m.memory → HoldsKnown s m → HoldsKnown t m
known_around variables s t m bytes inside named holds =
    let r = m.cpu.registers in
    let h = holds.registers in
    record {
      registers = record {
        a = byte_inside_within s.a t.a r.a inside.registers.a h.a;
        bc = pair_around s.bc t.bc r.b r.c inside.registers.bc h.bc;
        de = pair_around s.de t.de r.d r.e inside.registers.de h.de;
        hl = pair_around s.hl t.hl r.h r.l inside.registers.hl h.hl;
        copy = copy_around s.copy t.copy r inside.copy h.copy;
        flags = record {
          zero = same_around (λ (o : Option Bool). IsKnown o r.flags.zero) s.zero t.zero tt inside.zero h.flags.zero;
          carry = same_around (λ (o : Option Bool). IsKnown o r.flags.carry) s.carry t.carry tt inside.carry h.flags.carry;
          sign = same_around (λ (o : Option Bool). IsKnown o r.flags.sign) s.sign t.sign tt inside.sign h.flags.sign;
          compared = same_around (λ (o : Option ℕ). Compares o r.a r.flags) s.compared t.compared tt inside.compared h.flags.compared;
        };
      };
      cells = cells_around variables s.set m.memory bytes named s.cells t.cells inside.cells holds.cells;
      source = same_around (λ (o : Option ℕ). HoldsSource o m.memory r.a) s.source t.source tt inside.source holds.source;
    }

pub state_around : (regions : Areas) (variables : List Variable) (s t : State) (m : Machine) → HasBytes m.memory → IsStateInside variables s t → HoldsSet variables s.known.set m.memory → Holds regions s m → Holds regions t m
state_around regions variables s t m bytes inside named holds =
    record { known = known_around variables s.known t.known m bytes inside.known named holds.known; words = words_around regions s.words t.words m.memory m.cpu.sp inside.words holds.words }

-- variables that it names have their bytes
pub set_around : (variables : List Variable) (s t : Known) (m : Machine) → HasBytes m.memory → IsKnownInside variables s t → HoldsSet variables s.set m.memory → HoldsKnown s m → HoldsSet variables t.set m.memory
set_around variables s t m bytes inside named holds v of = by ((inside.set of.number v of.there).either of.named) where
  by : (is_bit s.set of.number ≡ true) ⊎ IsByteInside (bytes_at s.cells v.at) v.bytes → ByteWithin v.bytes (byte_in m.memory v.at)
  by (inl so) = named v (record { number = of.number; there = of.there; named = so })
  by (inr said) = byte_inside_within (bytes_at s.cells v.at) v.bytes (byte_in m.memory v.at) said (cells_within s.cells m.memory v.at holds.cells bytes)
