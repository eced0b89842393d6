-- The byte of a port, and the line of a machine.
use Rattle.std.specs.Prelude.{◌≡◌, ℕ, ◌-◌, ◌+◌, Bool, List, ◌++◌, Option, None, Some, length, drop, codes, refl}
use Rattle.std.proofs.Common.{◌∙◌, ap, sym, subst, arith, append_assoc, length-append}
use Rattle.decode80.specs.declared.instr.Instr.{Instr}
use Rattle.decode80.specs.declared.instr.Instr.TheVariants.{In, Out}
use Rattle.decode80.specs.declared.fetching.Fetched.{Fetched}
use Rattle.decode80.specs.declared.pair.Pair.TheVariants.{Bc, De, Hl}
use Rattle.text80.specs.Digits.{byte_text, word_text}
use Rattle.image80.specs.Regions.{Areas}
use Rattle.machine80.specs.declared.cpu.Cpu.{Cpu}
use Rattle.machine80.specs.Cpu.{pair_of}
use Rattle.machine80.specs.Flags.{flags_byte}
use Rattle.machine80.specs.declared.end.End.{End}
use Rattle.machine80.specs.Ports.{next_input}
use Rattle.machine80.specs.Step.{Machine, Turn, Next, Stop, step_of, step_on, guarded, guard, fetch, turn_of, with_input}
use Rattle.loader80_trace.specs.Lines.{byte_seen, port_byte, machine_line, filled, fetched_line, instruction_line, registers_text}

-- the accumulator after a turn
abbrev accumulator_then : Turn → Option ℕ
accumulator_then (Next m) = Some m.cpu.registers.a
accumulator_then (Stop e) = None

-- what an input took is in the accumulator then
input_seen : (m : Machine) (next port : ℕ) (waiting : Option ℕ) (ending : Option End) (after : Machine) → with_input m next port waiting ≡ turn_of ending after →
    byte_seen (In port) m.cpu.registers.a ending after.cpu.registers.a ≡ waiting
input_seen m next port None None after turn = cc
input_seen m next port None (Some e) after turn = refl
input_seen m next port (Some byte) None after turn = sym (ap accumulator_then turn)
input_seen m next port (Some byte) (Some e) after turn = cc

instr_seen : (regions : Areas) (refused : Bool) (instr : Instr) (next : ℕ) (m : Machine) (ending : Option End) (after : Machine) →
    guarded regions (guard regions instr m.cpu) refused (record { instr = instr; next = next }) m ≡ turn_of ending after →
    byte_seen instr m.cpu.registers.a ending after.cpu.registers.a ≡ port_byte instr m
instr_seen regions refused (In port) next m ending after turn = input_seen m next port (next_input m.inputs port) ending after turn
instr_seen regions refused (Out port) next m ending after turn = refl
instr_seen regions refused instr next m ending after turn = refl

pub port_byte_seen : (regions : Areas) (refused : Bool) (found : Fetched) (m : Machine) (ending : Option End) (after : Machine) → fetch regions m.memory m.cpu.pc ≡ Some found →
    step_of regions refused m ≡ turn_of ending after → byte_seen found.instr m.cpu.registers.a ending after.cpu.registers.a ≡ port_byte found.instr m
port_byte_seen regions refused found m ending after fetched turn =
    instr_seen regions refused found.instr found.next m ending after (subst (λ (o : Option Fetched). step_on regions refused o m ≡ turn_of ending after) fetched turn)

-- the line of a machine whose instruction was fetched
pub line_seen : (regions : Areas) (refused : Bool) (found : Fetched) (m : Machine) (ending : Option End) (after : Machine) → fetch regions m.memory m.cpu.pc ≡ Some found →
    step_of regions refused m ≡ turn_of ending after → instruction_line found.instr (byte_seen found.instr m.cpu.registers.a ending after.cpu.registers.a) m.cpu ≡ machine_line regions m
line_seen regions refused found m ending after fetched turn =
    ap (λ (byte : Option ℕ). instruction_line found.instr byte m.cpu) (port_byte_seen regions refused found m ending after fetched turn)
    ∙ sym (ap (λ (o : Option Fetched). fetched_line o m) fetched)

-- what is appended part by part
pub joined : (old a b c d e f n₁ n₂ n₃ n₄ n₅ n₆ : List ℕ) → n₁ ≡ old ++ a → n₂ ≡ n₁ ++ b → n₃ ≡ n₂ ++ c → n₄ ≡ n₃ ++ d → n₅ ≡ n₄ ++ e → n₆ ≡ n₅ ++ f →
    n₆ ≡ old ++ (a ++ (b ++ (c ++ (d ++ (e ++ f)))))
joined old a b c d e f n₁ n₂ n₃ n₄ n₅ n₆ e₁ e₂ e₃ e₄ e₅ e₆ =
    let all : n₆ ≡ (((((old ++ a) ++ b) ++ c) ++ d) ++ e) ++ f = cc in
    all ∙ simp append_assoc

-- spaces behind what was appended
pub filled_up : (old a b n₁ n₂ n₃ : List ℕ) (before : ℕ) → before ≡ length old → n₁ ≡ old ++ a → n₂ ≡ n₁ ++ b → n₃ ≡ n₂ ++ drop (length n₂ - before) (codes "          ") → n₃ ≡ old ++ filled (a ++ b)
filled_up old a b n₁ n₂ n₃ before e e₁ e₂ e₃ =
    let there : n₂ ≡ old ++ (a ++ b) = e₂ ∙ ap (λ (l : List ℕ). l ++ b) e₁ ∙ append_assoc old a b in
    let long : length n₂ ≡ length old + length (a ++ b) = ap length there ∙ length-append old (a ++ b) in
    let shown : length n₂ - before ≡ length (a ++ b) = omega arith in
    e₃ ∙ ap (λ (k : ℕ). n₂ ++ drop k (codes "          ")) shown ∙ ap (λ (l : List ℕ). l ++ drop (length (a ++ b)) (codes "          ")) there
    ∙ append_assoc old (a ++ b) (drop (length (a ++ b)) (codes "          "))

-- the registers, by the values that were read of them
pub registers_read : (cpu : Cpu) (flags bc de hl : ℕ) → flags ≡ flags_byte cpu.registers.flags → bc ≡ pair_of cpu Bc → de ≡ pair_of cpu De → hl ≡ pair_of cpu Hl →
    (codes " | A=" ++ byte_text cpu.registers.a) ++ ((codes " F=" ++ byte_text flags) ++ ((codes " BC=" ++ word_text bc) ++ ((codes " DE=" ++ word_text de) ++ ((codes " HL=" ++ word_text hl) ++ (codes " SP=" ++ word_text cpu.sp)))))
    ≡ registers_text cpu
registers_read cpu flags bc de hl e₁ e₂ e₃ e₄ = rw (e₁, e₂, e₃, e₄) refl
