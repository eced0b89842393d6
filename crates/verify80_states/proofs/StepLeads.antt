-- What holds after a step, whatever that is: an input, an output, or what all other instructions do.
use Rattle.verify80_states.proofs.Names.{[], ◌≡◌, ℕ, ◌++◌, Bool, true, false, ◌∷◌, Option, None, Some, refl, if◌then◌else◌, subst, sym, ap, ◌∙◌}
use Rattle.verify80_states.proofs.Names.{Instr, In, Out, Pchl, Hlt, Fetched, Areas, targets_at, End, hl_of, next_input, without_next, Machine, Turn}
use Rattle.verify80_states.proofs.Names.{Next, Stop, fetch, guard, guarded, execute, turn_of, jump_end, proceeded, with_input, step_on, step_of}

-- what holds of the machine after a turn, if the turn leads to one
abbrev Leads : (Machine → Type 0) → Turn → Type 0
Leads P (Next after) = P after
Leads P (Stop e) = Unit {0}

-- what holds of an instruction and the machine after it, whichever way it goes
pub record Goes (P : Instr → Machine → Type 0) (regions : Areas) (i : Instr) (next : ℕ) (m : Machine) : Type 0 where
  pub input : (port byte : ℕ) → next_input m.inputs port ≡ Some byte → P (In port) (record m { cpu = record m.cpu { registers = record m.cpu.registers { a = byte }; pc = next }; inputs = without_next m.inputs port })
  pub output : (port : ℕ) → P (Out port) (record m { cpu = record m.cpu { pc = next }; outputs = m.outputs ++ (port, m.cpu.registers.a) ∷ [] })
  pub other : (i ≡ Pchl → jump_end (targets_at regions m.cpu.pc) (hl_of m.cpu.registers) ≡ None) → (i ≡ Hlt → ⊥) → P i (proceeded i next m)

turn_leads : (P : Machine → Type 0) (ended : Option End) (after : Machine) → (ended ≡ None → P after) → Leads P (turn_of ended after)
turn_leads P None after holds = holds refl
turn_leads P (Some e) after holds = tt

output_leads : (P : Machine → Type 0) (refused : Bool) (e : End) (after : Machine) → P after → Leads P (if refused then Stop e else Next after)
output_leads P true e after holds = tt
output_leads P false e after holds = holds

input_leads : (P : Machine → Type 0) (m : Machine) (next port : ℕ) (o : Option ℕ) →
    ((byte : ℕ) → o ≡ Some byte → P (record m { cpu = record m.cpu { registers = record m.cpu.registers { a = byte }; pc = next }; inputs = without_next m.inputs port })) →
    Leads P (with_input m next port o)
input_leads P m next port None holds = tt
input_leads P m next port (Some byte) holds = holds byte refl

execute_leads : (P : Instr → Machine → Type 0) (regions : Areas) (refused : Bool) (i : Instr) (next : ℕ) (m : Machine) → Goes P regions i next m → Leads (P i) (execute regions refused i next m)
execute_leads P regions refused Hlt next m goes = tt
execute_leads P regions refused (In port) next m goes = input_leads (P (In port)) m next port (next_input m.inputs port) (goes.input port)
execute_leads P regions refused (Out port) next m goes = output_leads (P (Out port)) refused _ _ (goes.output port)
execute_leads P regions refused Pchl next m goes = turn_leads (P Pchl) (jump_end (targets_at regions m.cpu.pc) (hl_of m.cpu.registers)) (proceeded Pchl next m) (λ no_end. goes.other (λ e. no_end) (λ e. cc))
execute_leads P regions refused i next m goes = goes.other (λ e. cc) (λ e. cc)

guarded_leads : (P : Instr → Machine → Type 0) (regions : Areas) (e : Option End) (refused : Bool) (found : Fetched) (m : Machine) → (e ≡ None → Goes P regions found.instr found.next m) → Leads (P found.instr) (guarded regions e refused found m)
guarded_leads P regions (Some e) refused found m goes = tt
guarded_leads P regions None refused found m goes = execute_leads P regions refused found.instr found.next m (goes refl)

-- after a step that leads on and fetches an instruction
pub step_leads : (P : Instr → Machine → Type 0) (regions : Areas) (refused : Bool) (m after : Machine) (found : Fetched) → fetch regions m.memory m.cpu.pc ≡ Some found → step_of regions refused m ≡ Next after →
    (guard regions found.instr m.cpu ≡ None → Goes P regions found.instr found.next m) → P found.instr after
step_leads P regions refused m after found fetched is goes =
    subst (λ (t : Turn). Leads (P found.instr) t) (sym (ap (λ (o : Option Fetched). step_on regions refused o m) fetched) ∙ is)
    (guarded_leads P regions (guard regions found.instr m.cpu) refused found m goes)

-- after any step that leads on
pub any_step : (P : Machine → Type 0) (regions : Areas) (refused : Bool) (m after : Machine) → step_of regions refused m ≡ Next after →
    ((found : Fetched) → fetch regions m.memory m.cpu.pc ≡ Some found → Goes (λ i. P) regions found.instr found.next m) → P after
any_step P regions refused m after is goes = by (fetch regions m.memory m.cpu.pc) refl where
  by : (o : Option Fetched) → fetch regions m.memory m.cpu.pc ≡ o → P after
  by None e = (let stops : step_on regions refused None m ≡ Next after = sym (ap (λ (o : Option Fetched). step_on regions refused o m) e) ∙ is in cc)
  by (Some found) e = step_leads (λ i. P) regions refused m after found e is (λ pass. goes found e)
