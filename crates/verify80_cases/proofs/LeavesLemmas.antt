-- A step leaves what its instruction may not change.
use Rattle.std.specs.Prelude.{◌≡◌, ◌⊎◌, ℕ, ◌<◌, ◌*◌, ◌&&◌, ◌||◌, Bool, true, false, not, List, Option, None, Some, bit_or, refl}
use Rattle.std.specs.Int.Bits.{and_self, or_add_and}
use Rattle.std.proofs.Common.{ap, arith, inl, inr, subst, sym, ◌∙◌, true≢false}
use Rattle.decode80.specs.declared.fetching.Fetched.{Fetched}
use Rattle.decode80.specs.declared.instr.Instr.{Instr}
use Rattle.decode80.specs.declared.instr.Instr.TheVariants.{Hlt, In, Operate, Out, Pchl, Rotate}
use Rattle.decode80.specs.declared.operation.Operand.TheVariants.{Register as InRegister}
use Rattle.decode80.specs.declared.operation.Operation.TheVariants.{Add, And, Or}
use Rattle.decode80.specs.declared.pair.Pair.TheVariants.{Bc, De, Hl, Sp}
use Rattle.decode80.specs.declared.register.Register.TheVariants.{A, B, C, D, E, H, L}
use Rattle.decode80.specs.declared.rotation.Rotation.TheVariants.{Left}
use Rattle.decode80.specs.declared.writes.Writes.{Writes}
use Rattle.decode80.specs.declared.writes.Writes.TheVariants.{Nothing, One, Both, DeAndHl}
use Rattle.decode80.specs.declared.writes.AffectedFlags.{AffectedFlags}
use Rattle.decode80.specs.declared.writes.AffectedFlags.TheVariants.{NoFlags, CarryAlone, AllButCarry, AllFlags}
use Rattle.decode80.specs.Facts.{affects_carry, flags, writes, writes_pair}
use Rattle.image80.specs.Regions.{Areas, targets_at}
use Rattle.machine80.specs.declared.cpu.Cpu.{Cpu}
use Rattle.machine80.specs.declared.end.End.{End}
use Rattle.machine80.specs.declared.flags.Flags.{Flags}
use Rattle.machine80.specs.declared.registers.Registers.{Registers}
use Rattle.machine80.specs.Arithmetic.{byte_answer, operation_answer, rotation_answer, sum_answer}
use Rattle.machine80.specs.Cpu.{hl_of, word}
use Rattle.machine80.specs.Effects.{changed}
use Rattle.machine80.specs.FactsLaws.{InstructionsKeepToFacts, KeepsFlags, KeepsToFacts, writes_register}
use Rattle.machine80.specs.Ports.{next_input}
use Rattle.machine80.specs.Step.{Machine, Turn, Next, Stop, fetch, guard, guarded, execute, turn_of, jump_end, proceeded, with_input, step_on, step_of}
use Rattle.verify80_cases.specs.Changes.{LeavesTheRest, is_call, leaves_or_doubles, may_change_a, writes_a}

neither : (a b : Bool) → (a || b) ≡ false → b ≡ false
neither false b e = e
neither true b e = absurd (true≢false e)

-- a pair that isn't written: neither of its registers is
bc_apart : (w : Writes) → writes_pair w Bc ≡ false → (writes_register w B ≡ false) × (writes_register w C ≡ false)
bc_apart Nothing h = (refl, refl)
bc_apart (One A) h = (refl, refl)
bc_apart (One B) h = absurd (true≢false h)
bc_apart (One C) h = absurd (true≢false h)
bc_apart (One D) h = (refl, refl)
bc_apart (One E) h = (refl, refl)
bc_apart (One H) h = (refl, refl)
bc_apart (One L) h = (refl, refl)
bc_apart (Both Bc) h = absurd (true≢false h)
bc_apart (Both De) h = (refl, refl)
bc_apart (Both Hl) h = (refl, refl)
bc_apart (Both Sp) h = (refl, refl)
bc_apart DeAndHl h = (refl, refl)

de_apart : (w : Writes) → writes_pair w De ≡ false → (writes_register w D ≡ false) × (writes_register w E ≡ false)
de_apart Nothing h = (refl, refl)
de_apart (One A) h = (refl, refl)
de_apart (One B) h = (refl, refl)
de_apart (One C) h = (refl, refl)
de_apart (One D) h = absurd (true≢false h)
de_apart (One E) h = absurd (true≢false h)
de_apart (One H) h = (refl, refl)
de_apart (One L) h = (refl, refl)
de_apart (Both Bc) h = (refl, refl)
de_apart (Both De) h = absurd (true≢false h)
de_apart (Both Hl) h = (refl, refl)
de_apart (Both Sp) h = (refl, refl)
de_apart DeAndHl h = absurd (true≢false h)

hl_apart : (w : Writes) → writes_pair w Hl ≡ false → (writes_register w H ≡ false) × (writes_register w L ≡ false)
hl_apart Nothing h = (refl, refl)
hl_apart (One A) h = (refl, refl)
hl_apart (One B) h = (refl, refl)
hl_apart (One C) h = (refl, refl)
hl_apart (One D) h = (refl, refl)
hl_apart (One E) h = (refl, refl)
hl_apart (One H) h = absurd (true≢false h)
hl_apart (One L) h = absurd (true≢false h)
hl_apart (Both Bc) h = (refl, refl)
hl_apart (Both De) h = (refl, refl)
hl_apart (Both Hl) h = absurd (true≢false h)
hl_apart (Both Sp) h = (refl, refl)
hl_apart DeAndHl h = absurd (true≢false h)

a_apart : (w : Writes) → writes_a w ≡ false → writes_register w A ≡ false
a_apart Nothing h = refl
a_apart (One A) h = absurd (true≢false h)
a_apart (One B) h = refl
a_apart (One C) h = refl
a_apart (One D) h = refl
a_apart (One E) h = refl
a_apart (One H) h = refl
a_apart (One L) h = refl
a_apart (Both Bc) h = refl
a_apart (Both De) h = refl
a_apart (Both Hl) h = refl
a_apart (Both Sp) h = refl
a_apart DeAndHl h = refl

carry_apart : (f : AffectedFlags) (before after : Flags) → affects_carry f ≡ false → KeepsFlags f before after → after.carry ≡ before.carry
carry_apart NoFlags before after h keeps = ap (λ (x : Flags). x.carry) keeps
carry_apart CarryAlone before after h keeps = absurd (true≢false h)
carry_apart AllButCarry before after h keeps = keeps
carry_apart AllFlags before after h keeps = absurd (true≢false h)

same_word : (h l h' l' : ℕ) → h' ≡ h → l' ≡ l → word h' l' ≡ word h l
same_word h l h' l' high low = ap (λ x. word x l') high ∙ ap (word h) low

-- A is left, or doubled
added_a : (a : ℕ) (f : Flags) → a < 128 → (operation_answer Add a a f).value ≡ 2 * a
unfolding operation_answer sum_answer byte_answer
added_a a f small = omega (arith, small)

anded_a : (a : ℕ) (f : Flags) → (operation_answer And a a f).value ≡ a
unfolding operation_answer byte_answer
anded_a a f = and_self a

or_self : (a : ℕ) → bit_or a a ≡ a
or_self a = omega (arith, or_add_and a a, and_self a)

ored_a : (a : ℕ) (f : Flags) → (operation_answer Or a a f).value ≡ a
unfolding operation_answer byte_answer
ored_a a f = or_self a

turned_a : (a : ℕ) (f : Flags) → a < 128 → (rotation_answer Left a f).value ≡ 2 * a
unfolding rotation_answer
turned_a a f small = omega (arith, small)

doubles : (i : Instr) (memory : List ℕ) (cpu : Cpu) → leaves_or_doubles i ≡ true → cpu.registers.a < 128 →
    ((changed i memory cpu).registers.a ≡ cpu.registers.a) ⊎ ((changed i memory cpu).registers.a ≡ 2 * cpu.registers.a)
doubles (Operate Add (InRegister A)) memory cpu is small = inr (added_a cpu.registers.a cpu.registers.flags small)
doubles (Operate And (InRegister A)) memory cpu is small = inl (anded_a cpu.registers.a cpu.registers.flags)
doubles (Operate Or (InRegister A)) memory cpu is small = inl (ored_a cpu.registers.a cpu.registers.flags)
doubles (Rotate Left) memory cpu is small = inr (turned_a cpu.registers.a cpu.registers.flags small)
doubles i memory cpu is small = cc

machine_of : Machine → Turn → Machine
machine_of otherwise (Next m) = m
machine_of otherwise (Stop e) = otherwise

next_in : {m n : Machine} → Next m ≡ Next n → m ≡ n
unfolding machine_of
next_in {m} h = ap (machine_of m) h

module _ (law : InstructionsKeepToFacts) where
  a_kept : (i : Instr) (memory : List ℕ) (cpu : Cpu) → may_change_a i ≡ false → cpu.registers.a < 128 →
      ((changed i memory cpu).registers.a ≡ cpu.registers.a) ⊎ ((changed i memory cpu).registers.a ≡ 2 * cpu.registers.a)
  a_kept i memory cpu may small = step (leaves_or_doubles i) refl (neither (is_call i) (writes_a (writes i) && not (leaves_or_doubles i)) may)
    where
      both : (a : Bool) → (a && true) ≡ false → a ≡ false
      both false e = refl
      both true e = e

      step : (b : Bool) → leaves_or_doubles i ≡ b → (writes_a (writes i) && not (leaves_or_doubles i)) ≡ false →
          ((changed i memory cpu).registers.a ≡ cpu.registers.a) ⊎ ((changed i memory cpu).registers.a ≡ 2 * cpu.registers.a)
      step true is e = doubles i memory cpu is small
      step false is e =
          inl ((law i 0 memory cpu).registers A
          (a_apart (writes i) (both (writes_a (writes i)) (subst (λ b. (writes_a (writes i) && not b) ≡ false) is e))))

  changes : (i : Instr) (memory : List ℕ) (cpu : Cpu) → LeavesTheRest i cpu.registers (changed i memory cpu).registers
  changes i memory cpu =
      let keeps : KeepsToFacts i 0 memory cpu = law i 0 memory cpu in
      record {
        bc = λ may.
            let apart = bc_apart (writes i) (neither (is_call i) (writes_pair (writes i) Bc) may) in
            same_word _ _ _ _ (keeps.registers B apart.0) (keeps.registers C apart.1);
        de = λ may.
            let apart = de_apart (writes i) (neither (is_call i) (writes_pair (writes i) De) may) in
            same_word _ _ _ _ (keeps.registers D apart.0) (keeps.registers E apart.1);
        hl = λ may.
            let apart = hl_apart (writes i) (neither (is_call i) (writes_pair (writes i) Hl) may) in
            same_word _ _ _ _ (keeps.registers H apart.0) (keeps.registers L apart.1);
        a = a_kept i memory cpu;
        carry = λ may. carry_apart (flags i) _ _ (neither (is_call i) (affects_carry (flags i)) may) keeps.flags;
      }

  same : (i : Instr) (r : Registers) → LeavesTheRest i r r
  same i r = record { bc = λ may. refl; de = λ may. refl; hl = λ may. refl; a = λ may small. inl refl; carry = λ may. refl }

  proceeds : (i : Instr) (next : ℕ) (m after : Machine) → Next (proceeded i next m) ≡ Next after → LeavesTheRest i m.cpu.registers after.cpu.registers
  proceeds i next m after h = subst (λ (n : Machine). LeavesTheRest i m.cpu.registers n.cpu.registers) (next_in h) (changes i m.memory m.cpu)

  reads : (next port : ℕ) (m after : Machine) (byte : Option ℕ) → with_input m next port byte ≡ Next after → LeavesTheRest (In port) m.cpu.registers after.cpu.registers
  reads next port m after None h = cc
  reads next port m after (Some byte) h =
      subst (λ (n : Machine). LeavesTheRest (In port) m.cpu.registers n.cpu.registers) (next_in h)
      (record { bc = λ may. refl; de = λ may. refl; hl = λ may. refl; a = λ may small. absurd (true≢false may); carry = λ may. refl })

  writes_port : (regions : Areas) (refused : Bool) (next port : ℕ) (m after : Machine) → execute regions refused (Out port) next m ≡ Next after → LeavesTheRest (Out port) m.cpu.registers after.cpu.registers
  writes_port regions true next port m after h = cc
  writes_port regions false next port m after h = subst (λ (n : Machine). LeavesTheRest (Out port) m.cpu.registers n.cpu.registers) (next_in h) (same (Out port) m.cpu.registers)

  jumps : (e : Option End) (next : ℕ) (m after : Machine) → turn_of e (proceeded Pchl next m) ≡ Next after → LeavesTheRest Pchl m.cpu.registers after.cpu.registers
  jumps None next m after h = proceeds Pchl next m after h
  jumps (Some e) next m after h = cc

  executes : (regions : Areas) (refused : Bool) (i : Instr) (next : ℕ) (m after : Machine) → execute regions refused i next m ≡ Next after → LeavesTheRest i m.cpu.registers after.cpu.registers
  executes regions refused Hlt next m after h = cc
  executes regions refused (In port) next m after h = reads next port m after (next_input m.inputs port) h
  executes regions refused (Out port) next m after h = writes_port regions refused next port m after h
  executes regions refused Pchl next m after h = jumps (jump_end (targets_at regions m.cpu.pc) (hl_of m.cpu.registers)) next m after h
  executes regions refused i next m after h = proceeds i next m after h

  guarded_leaves : (regions : Areas) (refused : Bool) (g : Option End) (found : Fetched) (m after : Machine) → guarded regions g refused found m ≡ Next after →
      LeavesTheRest found.instr m.cpu.registers after.cpu.registers
  guarded_leaves regions refused None found m after h = executes regions refused found.instr found.next m after h
  guarded_leaves regions refused (Some e) found m after h = cc

  pub step_leaves : (regions : Areas) (refused : Bool) (m after : Machine) (found : Fetched) → fetch regions m.memory m.cpu.pc ≡ Some found → step_of regions refused m ≡ Next after →
      LeavesTheRest found.instr m.cpu.registers after.cpu.registers
  step_leaves regions refused m after found fetched h =
      guarded_leaves regions refused (guard regions found.instr m.cpu) found m after
      (sym (ap (λ (o : Option Fetched). step_on regions refused o m) fetched) ∙ h)
