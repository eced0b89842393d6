-- Where the machine goes at each instruction.
use Rattle.verify80_states.proofs.Names.{sym, [], ◌≡◌, ◌⊎◌, ℕ, ◌==◌, Bool, true, false, not, List, Contains, Option, None, Some, IsSome, refl, if◌then◌else◌}
use Rattle.verify80_states.proofs.Names.{list_any, option_map_or, inl, inr, Instr, Flow, Pchl, Hlt, Pop, Jumps, JumpsIf, JumpsToHl, Calls, CallsIf, Returns}
use Rattle.verify80_states.proofs.Names.{ReturnsIf, Halts, flow, Areas, targets_at, JumpOutside, Cpu, Flags, holds, hl_of, goes_to, target, is_return_taken}
use Rattle.verify80_states.proofs.Names.{returns, Machine, Next, jump_end, proceeded, declared_targets, fetch, step_of, Fetched, Contains-from_any, eqb-true}
use Rattle.verify80_states.proofs.StepLeads.{step_leads}

-- where a flow leads, returns that are taken aside, by the flags and HL
abbrev pub Leads : Flow → Flags → (targets : List ℕ) → (next hl to : ℕ) → Type 0
Leads (Jumps address) flags targets next hl to = to ≡ address
Leads (JumpsIf condition address) flags targets next hl to = ((holds condition flags ≡ true) × (to ≡ address)) ⊎ ((holds condition flags ≡ false) × (to ≡ next))
Leads JumpsToHl flags targets next hl to = Contains targets to × (to ≡ hl)
Leads (Calls address) flags targets next hl to = to ≡ address
Leads (CallsIf condition address) flags targets next hl to = ((holds condition flags ≡ true) × (to ≡ address)) ⊎ ((holds condition flags ≡ false) × (to ≡ next))
Leads Returns flags targets next hl to = ⊥
Leads (ReturnsIf condition) flags targets next hl to = (holds condition flags ≡ false) × (to ≡ next)
Leads Halts flags targets next hl to = ⊥
Leads w flags targets next hl to = to ≡ next

-- either way of a test
either : (b : Bool) (address next : ℕ) → ((b ≡ true) × ((if b then address else next) ≡ address)) ⊎ ((b ≡ false) × ((if b then address else next) ≡ next))
either true address next = inl (refl, refl)
either false address next = inr (refl, refl)

returns_or_not : (b : Bool) (word next : ℕ) → ((b ≡ true) × ((if b then word else next) ≡ (if b then word else next))) ⊎ ((b ≡ false) × ((if b then word else next) ≡ next))
returns_or_not true word next = inl (refl, refl)
returns_or_not false word next = inr (refl, refl)

-- what is no jump by HL and no halt
goes : (w : Flow) (targets : List ℕ) (next hl : ℕ) (memory : List ℕ) (cpu : Cpu) → (w ≡ JumpsToHl → ⊥) → (w ≡ Halts → ⊥) →
    ((is_return_taken w cpu.registers.flags ≡ true) × (goes_to w next memory cpu ≡ goes_to w next memory cpu)) ⊎ Leads w cpu.registers.flags targets next hl (goes_to w next memory cpu)
goes (JumpsIf condition to) targets next hl memory cpu no_jump no_halt = inr (either (holds condition cpu.registers.flags) to next)
goes JumpsToHl targets next hl memory cpu no_jump no_halt = absurd (no_jump refl)
goes (CallsIf condition to) targets next hl memory cpu no_jump no_halt = inr (either (holds condition cpu.registers.flags) to next)
goes Returns targets next hl memory cpu no_jump no_halt = inl (refl, refl)
goes (ReturnsIf condition) targets next hl memory cpu no_jump no_halt = returns_or_not (holds condition cpu.registers.flags) _ next
goes Halts targets next hl memory cpu no_jump no_halt = absurd (no_halt refl)
goes w targets next hl memory cpu no_jump no_halt = inr refl

-- PCHL goes to a declared target
jumps_to : (b : Bool) (targets : List ℕ) (to : ℕ) → list_any (λ target. target == to) targets ≡ b → (if not b then Some (JumpOutside to) else None) ≡ None → Contains targets to
jumps_to true targets to e no_end = Contains-from_any {eq = λ x y. y == x} (λ x y same. sym (eqb-true y x same)) to targets e
jumps_to false targets to e no_end = cc

declared_jump : (declared : Option (List ℕ)) (to : ℕ) → IsSome declared → jump_end declared to ≡ None → Contains (option_map_or (λ targets. targets) declared []) to
declared_jump None to some no_end = cc
declared_jump (Some targets) to some no_end = jumps_to (list_any (λ target. target == to) targets) targets to refl no_end

-- where a step goes: behind a call by a return that is taken, or where its flow leads
pub record GoesOn (regions : Areas) (i : Instr) (next : ℕ) (m after : Machine) : Type 0 where
  pub way : ((returns i m.cpu.registers.flags ≡ true) × (after.cpu.pc ≡ target i next m.memory m.cpu))
      ⊎ Leads (flow i) m.cpu.registers.flags (declared_targets regions m.cpu.pc) next (hl_of m.cpu.registers) after.cpu.pc

by_target : (regions : Areas) (i : Instr) (next : ℕ) (m : Machine) → (flow i ≡ JumpsToHl → ⊥) → (flow i ≡ Halts → ⊥) → GoesOn regions i next m (proceeded i next m)
by_target regions i next m no_jump no_halt = record { way = goes (flow i) (declared_targets regions m.cpu.pc) next (hl_of m.cpu.registers) m.memory m.cpu no_jump no_halt }

proceeds_on : (regions : Areas) (i : Instr) (next : ℕ) (m : Machine) → (i ≡ Pchl → IsSome (targets_at regions m.cpu.pc)) → (i ≡ Pchl → jump_end (targets_at regions m.cpu.pc) (hl_of m.cpu.registers) ≡ None) → (i ≡ Hlt → ⊥) →
    GoesOn regions i next m (proceeded i next m)
proceeds_on regions Hlt next m declared jumps halts = absurd (halts refl)
proceeds_on regions Pchl next m declared jumps halts = record { way = inr (declared_jump (targets_at regions m.cpu.pc) (hl_of m.cpu.registers) (declared refl) (jumps refl), refl) }
proceeds_on regions (Pop pair) next m declared jumps halts = by_target regions (Pop pair) next m (λ e. cc) (λ e. cc)
proceeds_on regions i next m declared jumps halts = by_target regions i next m (λ e. cc) (λ e. cc)

pub step_goes : (regions : Areas) (refused : Bool) (m after : Machine) (found : Fetched) → fetch regions m.memory m.cpu.pc ≡ Some found → step_of regions refused m ≡ Next after →
    (found.instr ≡ Pchl → IsSome (targets_at regions m.cpu.pc)) → GoesOn regions found.instr found.next m after
step_goes regions refused m after found fetched is declared = step_leads (λ i n. GoesOn regions i found.next m n) regions refused m after found fetched is
    (λ pass. record { input = λ port byte got. record { way = inr refl }; output = λ port. record { way = inr refl }; other = proceeds_on regions found.instr found.next m declared })
