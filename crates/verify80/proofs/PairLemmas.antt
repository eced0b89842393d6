-- The register pairs after an instruction: each has the word from where the instruction's effect takes it.
use Rattle.std.specs.Prelude.{◌≡◌, ℕ, true, List, refl}
use Rattle.decode80.specs.declared.register.Register.{Register}
use Rattle.decode80.specs.declared.register.Register.TheVariants.{A, B, C, D, E, H, L}
use Rattle.decode80.specs.declared.pair.Pair.TheVariants.{Bc as PairBc, De as PairDe, Hl as PairHl, Sp}
use Rattle.decode80.specs.declared.instr.Instr.{Instr}
use Rattle.decode80.specs.declared.instr.Instr.TheVariants.{Mov, Load, Mvi, Lxi, Inx, Dcx, Inr, Dcr, Dad, Lhld, Xchg, Push, Pop, Xthl}
use Rattle.decode80.specs.declared.instr.Instr.TheVariants.{Sphl, Pchl, Jmp, JumpIf, Call, CallIf, Ret, ReturnIf, Rst, Hlt, In, Out}
use Rattle.frames80.specs.declared.frame_pair.FramePair.{FramePair}
use Rattle.frames80.specs.declared.frame_pair.FramePair.TheVariants.{Bc, De, Hl}
use Rattle.frames80.specs.declared.effect.Change.{Change}
use Rattle.frames80.specs.declared.effect.Change.TheVariants.{Keep}
use Rattle.frames80.specs.declared.effect.Effect.{Effect}
use Rattle.frames80.specs.declared.effect.Effect.TheVariants.{Change as Changes}
use Rattle.frames80.specs.Effects.{effect_of, written}
use Rattle.frames80.specs.Places.{InPair, InWord, Source, From, Unknown, source}
use Rattle.machine80.specs.declared.flags.Flags.{Flags}
use Rattle.machine80.specs.declared.registers.Registers.{Registers}
use Rattle.machine80.specs.declared.cpu.Cpu.{Cpu}
use Rattle.machine80.specs.Arithmetic.{increment_answer, decrement_answer}
use Rattle.machine80.specs.Cpu.{word, register_of, with_register}
use Rattle.machine80.specs.Effects.{changed}
use Rattle.verify80.proofs.StoreLemmas.{is_plain}

-- the word in a pair
abbrev pub pair_value : Registers → FramePair → ℕ
pair_value r Bc = word r.b r.c
pair_value r De = word r.d r.e
pair_value r Hl = word r.h r.l

-- a pair has the word of the pair that it comes from
abbrev pub BringsPair : Registers → Registers → FramePair → Source → Type 0
BringsPair old new pair (From (InPair other)) = pair_value new pair ≡ pair_value old other
BringsPair old new pair (From (InWord i)) = ⊥
BringsPair old new pair Unknown = Unit {0}

-- the change of an effect that is one
abbrev pub change_by : Effect → Change
change_by (Changes change) = change
change_by _ = Keep

written_pairs : (r : Registers) (to : Register) (byte : ℕ) (pair : FramePair) → BringsPair r (with_register r to byte) pair (source (written to) (InPair pair))
written_pairs r A byte Bc = refl
written_pairs r A byte De = refl
written_pairs r A byte Hl = refl
written_pairs r B byte Bc = tt
written_pairs r B byte De = refl
written_pairs r B byte Hl = refl
written_pairs r C byte Bc = tt
written_pairs r C byte De = refl
written_pairs r C byte Hl = refl
written_pairs r D byte Bc = refl
written_pairs r D byte De = tt
written_pairs r D byte Hl = refl
written_pairs r E byte Bc = refl
written_pairs r E byte De = tt
written_pairs r E byte Hl = refl
written_pairs r H byte Bc = refl
written_pairs r H byte De = refl
written_pairs r H byte Hl = tt
written_pairs r L byte Bc = refl
written_pairs r L byte De = refl
written_pairs r L byte Hl = tt

-- flags are in no pair
answered_pairs : (r : Registers) (to : Register) (byte : ℕ) (pair : FramePair) (flags : Flags) → BringsPair r (record (with_register r to byte) { flags = flags }) pair (source (written to) (InPair pair))
answered_pairs r A byte Bc flags = refl
answered_pairs r A byte De flags = refl
answered_pairs r A byte Hl flags = refl
answered_pairs r B byte Bc flags = tt
answered_pairs r B byte De flags = refl
answered_pairs r B byte Hl flags = refl
answered_pairs r C byte Bc flags = tt
answered_pairs r C byte De flags = refl
answered_pairs r C byte Hl flags = refl
answered_pairs r D byte Bc flags = refl
answered_pairs r D byte De flags = tt
answered_pairs r D byte Hl flags = refl
answered_pairs r E byte Bc flags = refl
answered_pairs r E byte De flags = tt
answered_pairs r E byte Hl flags = refl
answered_pairs r H byte Bc flags = refl
answered_pairs r H byte De flags = refl
answered_pairs r H byte Hl flags = tt
answered_pairs r L byte Bc flags = refl
answered_pairs r L byte De flags = refl
answered_pairs r L byte Hl flags = tt

pub plain_pairs : (i : Instr) (memory : List ℕ) (cpu : Cpu) (pair : FramePair) → is_plain i ≡ true → BringsPair cpu.registers (changed i memory cpu).registers pair (source (change_by (effect_of i)) (InPair pair))
plain_pairs (Mov to from) memory cpu pair plain = written_pairs cpu.registers to _ pair
plain_pairs (Load to) memory cpu pair plain = written_pairs cpu.registers to _ pair
plain_pairs (Mvi to byte) memory cpu pair plain = written_pairs cpu.registers to byte pair
plain_pairs (Inr to) memory cpu pair plain = answered_pairs cpu.registers to _ pair (increment_answer (register_of cpu.registers to) cpu.registers.flags).flags
plain_pairs (Dcr to) memory cpu pair plain = answered_pairs cpu.registers to _ pair (decrement_answer (register_of cpu.registers to) cpu.registers.flags).flags
plain_pairs (Lxi PairBc n) memory cpu Bc plain = tt
plain_pairs (Lxi PairBc n) memory cpu De plain = refl
plain_pairs (Lxi PairBc n) memory cpu Hl plain = refl
plain_pairs (Lxi PairDe n) memory cpu Bc plain = refl
plain_pairs (Lxi PairDe n) memory cpu De plain = tt
plain_pairs (Lxi PairDe n) memory cpu Hl plain = refl
plain_pairs (Lxi PairHl n) memory cpu Bc plain = refl
plain_pairs (Lxi PairHl n) memory cpu De plain = refl
plain_pairs (Lxi PairHl n) memory cpu Hl plain = tt
plain_pairs (Lxi Sp n) memory cpu pair plain = cc
plain_pairs (Inx PairBc) memory cpu Bc plain = tt
plain_pairs (Inx PairBc) memory cpu De plain = refl
plain_pairs (Inx PairBc) memory cpu Hl plain = refl
plain_pairs (Inx PairDe) memory cpu Bc plain = refl
plain_pairs (Inx PairDe) memory cpu De plain = tt
plain_pairs (Inx PairDe) memory cpu Hl plain = refl
plain_pairs (Inx PairHl) memory cpu Bc plain = refl
plain_pairs (Inx PairHl) memory cpu De plain = refl
plain_pairs (Inx PairHl) memory cpu Hl plain = tt
plain_pairs (Inx Sp) memory cpu pair plain = cc
plain_pairs (Dcx PairBc) memory cpu Bc plain = tt
plain_pairs (Dcx PairBc) memory cpu De plain = refl
plain_pairs (Dcx PairBc) memory cpu Hl plain = refl
plain_pairs (Dcx PairDe) memory cpu Bc plain = refl
plain_pairs (Dcx PairDe) memory cpu De plain = tt
plain_pairs (Dcx PairDe) memory cpu Hl plain = refl
plain_pairs (Dcx PairHl) memory cpu Bc plain = refl
plain_pairs (Dcx PairHl) memory cpu De plain = refl
plain_pairs (Dcx PairHl) memory cpu Hl plain = tt
plain_pairs (Dcx Sp) memory cpu pair plain = cc
plain_pairs (Dad from) memory cpu Bc plain = refl
plain_pairs (Dad from) memory cpu De plain = refl
plain_pairs (Dad from) memory cpu Hl plain = tt
plain_pairs (Lhld at) memory cpu Bc plain = refl
plain_pairs (Lhld at) memory cpu De plain = refl
plain_pairs (Lhld at) memory cpu Hl plain = tt
plain_pairs Xchg memory cpu Bc plain = refl
plain_pairs Xchg memory cpu De plain = refl
plain_pairs Xchg memory cpu Hl plain = refl
plain_pairs (Push _) memory cpu pair plain = cc
plain_pairs (Pop _) memory cpu pair plain = cc
plain_pairs Xthl memory cpu pair plain = cc
plain_pairs Sphl memory cpu pair plain = cc
plain_pairs Pchl memory cpu pair plain = cc
plain_pairs (Jmp _) memory cpu pair plain = cc
plain_pairs (JumpIf _ _) memory cpu pair plain = cc
plain_pairs (Call _) memory cpu pair plain = cc
plain_pairs (CallIf _ _) memory cpu pair plain = cc
plain_pairs Ret memory cpu pair plain = cc
plain_pairs (ReturnIf _) memory cpu pair plain = cc
plain_pairs (Rst _) memory cpu pair plain = cc
plain_pairs Hlt memory cpu pair plain = cc
plain_pairs (In _) memory cpu pair plain = cc
plain_pairs (Out _) memory cpu pair plain = cc
plain_pairs i memory cpu Bc plain = refl
plain_pairs i memory cpu De plain = refl
plain_pairs i memory cpu Hl plain = refl
