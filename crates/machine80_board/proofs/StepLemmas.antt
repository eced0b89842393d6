-- Steps of runs on a board.
use Rattle.std.proofs.Common.{◌≡◌, ◌≢◌, ℕ, zero, suc, ◌-◌, ◌<◌, ◌≤◌, Bool, true, false, cond, not, List, [], ◌∷◌, ◌++◌, length, refl, ap, sym, subst, ◌∙◌, arith, append-nil, get_or-set_other}
use Rattle.std.specs.Prelude.{◌&&◌, slice_get, slice_set, slice_index, filter, find, map, replicate, is_some, Option, Some, None}
use Rattle.std.specs.Result.{result_ok}
use Rattle.std.proofs.lemmas.List.{length-replicate}
use Rattle.std.proofs.lemmas.List.Elements.{All-cons, All-nil}
use Rattle.decode80.specs.declared.fetching.Fetched.{Fetched}
use Rattle.decode80.specs.declared.instr.Instr.{Instr}
use Rattle.decode80.specs.declared.instr.Instr.TheVariants.{In, Out}
use Rattle.decode80.specs.Fetch.{FetchReadsCodeAlone, direct_bytes}
use Rattle.image80.specs.Regions.{Areas, AreRegions, in_code, in_data}
use Rattle.machine80.specs.declared.cpu.Cpu.{Cpu}
use Rattle.machine80.specs.declared.end.End.{End}
use Rattle.machine80.specs.declared.end.End.TheVariants.{InputEnd, OutputRefused}
use Rattle.machine80.specs.Effects.{pointed_bytes}
use Rattle.machine80.specs.Ports.{next_input, without_next}
use Rattle.machine80.specs.Step.{Machine, Next, execute, fetch, guard, guarded, machine, step_of, step_on, with_input}
use Rattle.board80.specs.declared.line.Line.{Line}
use Rattle.board80.specs.declared.place.Place.{Place}
use Rattle.board80.specs.declared.place.Place.TheVariants.{Port, Cell}
use Rattle.board80.specs.Board.{in_device}
use Rattle.machine80_board.specs.declared.end.BoardEnd.TheVariants.{OfMachine}
use Rattle.machine80_board.specs.declared.output.Output.{Output}
use Rattle.machine80_board.specs.declared.rules.Running.{Running}
use Rattle.machine80_board.specs.BoardRun.{BoardState, DevicesAreData, EndsBy, IsAnswered, Steps, answered, is_empty_place, no_inputs, refused_output, unanswered, refused}
use Rattle.machine80_board.specs.Exchanges.{answer_at, is_answered, loads, outputs_of, places_read}
use Rattle.machine80_board.specs.Keeping.{HaveGiven, HaveSeen, is_apart, IsNow, LeadsOn, answering_cells, outputs_among}

-- a state by its parts
abbrev pub state : Cpu → List ℕ → List Place → List Output → BoardState
state cpu memory reads outputs = record { machine = machine cpu memory no_inputs []; reads = reads; outputs = outputs }

pub state_is : (lines : List Line) (s : BoardState) (r : Running) → IsNow lines s r → state r.cpu r.bus s.reads r.outputs.items ≡ s
state_is lines s r now = ap (λ (m : Machine). record { machine = m; reads = s.reads; outputs = r.outputs.items }) (sym now.is)
    ∙ ap (λ (l : List Output). record { machine = s.machine; reads = s.reads; outputs = l }) (sym now.outputs)

pub step_found : (regions : Areas) (was : Bool) (m : Machine) (found : Fetched) → fetch regions m.memory m.cpu.pc ≡ Some found → step_of regions was m ≡ guarded regions (guard regions found.instr m.cpu) was found m
step_found regions was m found h = ap (λ o. step_on regions was o m) h

waits_at : (xs : List (List ℕ)) (port byte : ℕ) → port < length xs → next_input (slice_set xs port (byte ∷ [])) port ≡ Some byte
waits_at [] port byte below = absurd (omega arith)
waits_at (x ∷ xs) zero byte below = refl
waits_at (x ∷ xs) (suc port) byte below = waits_at xs port byte (omega arith)

waits : (port byte : ℕ) → port < 256 → next_input (slice_set no_inputs port (byte ∷ [])) port ≡ Some byte
unfolding no_inputs
waits port byte below = waits_at no_inputs port byte (let w : length no_inputs ≡ 256 = length-replicate {A = List ℕ} 256 [] in omega (arith, w, below))

none_at : (n port : ℕ) → next_input (replicate n []) port ≡ None
none_at zero port = refl
none_at (suc n) zero = refl
none_at (suc n) (suc port) = none_at n port

left_at : (n port : ℕ) → without_next (replicate n []) port ≡ replicate n []
left_at zero port = refl
left_at (suc n) zero = refl
left_at (suc n) (suc port) = ap (λ l. [] ∷ l) (left_at n port)

pub none_waits : (port : ℕ) → None ≡ next_input no_inputs port
unfolding no_inputs
none_waits port = sym (none_at 256 port)

pub none_taken : (port : ℕ) → no_inputs ≡ without_next no_inputs port
unfolding no_inputs
none_taken port = sym (left_at 256 port)

pub inputs_whole : length no_inputs ≡ 256
unfolding no_inputs
inputs_whole = length-replicate {A = List ℕ} 256 []

pub get_none : {A : Type 0} (n : ℕ) → slice_get {X = A} [] n ≡ None
get_none n = refl

-- IN
in_steps : (lines : List Line) (regions : Areas) (most : ℕ) (cpu : Cpu) (memory : List ℕ) (reads : List Place) (outputs : List Output) (port next byte : ℕ) →
    fetch regions memory cpu.pc ≡ Some (record { instr = In port; next = next }) → port < 256 → byte < 256 → Some byte ≡ answer_at lines reads outputs (Port port) →
    Steps lines regions most (state cpu memory reads outputs) (state (record cpu { registers = record cpu.registers { a = byte }; pc = next }) memory (reads ++ Port port ∷ []) (outputs ++ []))
in_steps lines regions most cpu memory reads outputs port next byte fetched port_in small is =
    let m : Machine = machine cpu memory (slice_set no_inputs port (byte ∷ [])) [] in
    record {
      by = record {
        found = record { instr = In port; next = next };
        fetched = fetched;
        bytes = byte ∷ [];
        answers = ap (λ o. o ∷ []) (sym is);
        small = All-cons (λ b. b < 256) byte [] small (All-nil (λ b. b < 256));
      };
      there = record m { cpu = record cpu { registers = record cpu.registers { a = byte }; pc = next }; inputs = without_next (slice_set no_inputs port (byte ∷ [])) port };
      step = step_found regions false m (record { instr = In port; next = next }) fetched ∙ ap (with_input m next port) (waits port byte port_in);
      room = refl;
      is = refl;
    }

pub same_found : (found : Fetched) (i : Instr) (next : ℕ) → found.instr ≡ i → found.next ≡ next → found ≡ record { instr = i; next = next }
same_found found i next a b = ap (λ x. record { instr = x; next = found.next }) a ∙ ap (λ n. record { instr = i; next = n }) b

fetched_as : (lines : List Line) (regions : Areas) (s : BoardState) (r : Running) (found : Fetched) (i : Instr) (next : ℕ) → IsNow lines s r → fetch regions s.machine.memory s.machine.cpu.pc ≡ Some found → found.instr ≡ i → found.next ≡ next →
    fetch regions r.bus r.cpu.pc ≡ Some (record { instr = i; next = next })
fetched_as lines regions s r found i next now fetched a b =
    subst (λ (m : Machine). fetch regions m.memory m.cpu.pc ≡ Some (record { instr = i; next = next })) now.is
    (fetched ∙ ap (λ (f : Fetched). Some f) (same_found found i next a b))

pub input_leads : (lines : List Line) (regions : Areas) (most : ℕ) (s : BoardState) (old new : Running) (found : Fetched) (port next byte : ℕ) → IsNow lines s old →
    fetch regions s.machine.memory s.machine.cpu.pc ≡ Some found → found.instr ≡ In port → found.next ≡ next → port < 256 → byte < 256 → Some byte ≡ answer_at lines s.reads s.outputs (Port port) →
    HaveGiven lines new.cursors.items (s.reads ++ Port port ∷ []) → new.cpu ≡ record old.cpu { registers = record old.cpu.registers { a = byte }; pc = next } → new.bus ≡ old.bus → new.last.items ≡ old.last.items → new.outputs.items ≡ old.outputs.items →
    LeadsOn lines regions most s new
input_leads lines regions most s old new found port next byte now fetched is_in is_next port_in small is given cpu bus last outs =
    let here = fetched_as lines regions s old found (In port) next now fetched is_in is_next in
    let e = state_is lines s old now in
    let step = in_steps lines regions most old.cpu old.bus s.reads old.outputs.items port next byte here port_in small (is ∙ ap (λ (l : List Output). answer_at lines s.reads l (Port port)) now.outputs) in
    record {
      next = state (record old.cpu { registers = record old.cpu.registers { a = byte }; pc = next }) old.bus (s.reads ++ Port port ∷ []) (old.outputs.items ++ []);
      steps = subst (λ (x : BoardState). Steps lines regions most x (state (record old.cpu { registers = record old.cpu.registers { a = byte }; pc = next }) old.bus (s.reads ++ Port port ∷ []) (old.outputs.items ++ []))) e step;
      now = record {
        is = ap (λ (c : Cpu). machine c old.bus no_inputs []) (sym cpu) ∙ ap (λ (b : List ℕ). machine new.cpu b no_inputs []) (sym bus);
        outputs = append-nil old.outputs.items ∙ sym outs;
        given = given;
        seen = subst (λ (l : List Output). HaveSeen new.last.items l) (now.outputs ∙ sym (append-nil old.outputs.items)) (subst (λ (l : List (Option ℕ)). HaveSeen l s.outputs) (sym last) now.seen);
      };
    }

-- a port with nothing left
first_empty : (lines : List Line) (s : BoardState) (place : Place) (rest : List Place) → None ≡ answer_at lines s.reads s.outputs place → find (is_empty_place lines s) (place ∷ rest) ≡ Some place
first_empty lines s place rest is = ap (λ (o : Option ℕ). cond (not (is_some o)) (Some place) (find (is_empty_place lines s) rest)) (sym is)

pub input_ends : (lines : List Line) (regions : Areas) (most : ℕ) (s : BoardState) (found : Fetched) (port : ℕ) →
    fetch regions s.machine.memory s.machine.cpu.pc ≡ Some found → found.instr ≡ In port → None ≡ answer_at lines s.reads s.outputs (Port port) → EndsBy lines regions most s (OfMachine (InputEnd port))
input_ends lines regions most s found port fetched is_in is =
    unanswered found (Port port) fetched (ap (λ (i : Instr). find (is_empty_place lines s) (places_read lines i s.machine.cpu.registers)) is_in ∙ first_empty lines s (Port port) [] is) refl

-- OUT
abbrev port_output : ℕ → Cpu → Output
port_output port cpu = record { place = Port port; byte = cpu.registers.a }

out_step : (regions : Areas) (cpu : Cpu) (memory : List ℕ) (port next : ℕ) → fetch regions memory cpu.pc ≡ Some (record { instr = Out port; next = next }) →
    step_of regions false (machine cpu memory no_inputs []) ≡ Next (machine (record cpu { pc = next }) memory no_inputs ((port, cpu.registers.a) ∷ []))
out_step regions cpu memory port next fetched = step_found regions false (machine cpu memory no_inputs []) (record { instr = Out port; next = next }) fetched

out_answered : (lines : List Line) (regions : Areas) (cpu : Cpu) (memory : List ℕ) (reads : List Place) (outputs : List Output) (port next : ℕ) → fetch regions memory cpu.pc ≡ Some (record { instr = Out port; next = next }) →
    IsAnswered lines regions (state cpu memory reads outputs)
out_answered lines regions cpu memory reads outputs port next fetched = record {
  found = record { instr = Out port; next = next };
  fetched = fetched;
  bytes = [];
  answers = refl;
  small = All-nil (λ b. b < 256);
}

room_one : (n : ℕ) (o : Output) → 0 < n → slice_get (o ∷ []) n ≡ None
room_one zero o some = absurd (omega arith)
room_one (suc n) o some = refl

no_room : (most : ℕ) (before : List Output) (o : Output) → most ≤ length before → refused_output most before (o ∷ []) ≡ Some o
no_room most before o full = ap (λ n. slice_get (o ∷ []) n) (let e : most - length before ≡ 0 = omega (arith, full) in e)

pub output_leads : (lines : List Line) (regions : Areas) (most : ℕ) (s : BoardState) (old new : Running) (found : Fetched) (port next : ℕ) → IsNow lines s old →
    fetch regions s.machine.memory s.machine.cpu.pc ≡ Some found → found.instr ≡ Out port → found.next ≡ next → length old.outputs.items < most →
    new.cpu ≡ record old.cpu { pc = next } → new.bus ≡ old.bus → new.cursors.items ≡ old.cursors.items → new.outputs.items ≡ old.outputs.items ++ record { place = Port port; byte = old.cpu.registers.a } ∷ [] →
    (HaveSeen old.last.items old.outputs.items → HaveSeen new.last.items new.outputs.items) → LeadsOn lines regions most s new
unfolding out_answered
output_leads lines regions most s old new found port next now fetched is_out is_next below cpu bus cursors outs seen =
    let here = fetched_as lines regions s old found (Out port) next now fetched is_out is_next in
    let e = state_is lines s old now in
    let o : Output = port_output port old.cpu in
    let t : BoardState = state (record old.cpu { pc = next }) old.bus (s.reads ++ []) (old.outputs.items ++ o ∷ []) in
    let step : Steps lines regions most (state old.cpu old.bus s.reads old.outputs.items) t = record {
      by = out_answered lines regions old.cpu old.bus s.reads old.outputs.items port next here;
      there = machine (record old.cpu { pc = next }) old.bus no_inputs ((port, old.cpu.registers.a) ∷ []);
      step = out_step regions old.cpu old.bus port next here;
      room = room_one (most - length old.outputs.items) o (omega (arith, below));
      is = refl;
    } in
    record {
      next = t;
      steps = subst (λ (x : BoardState). Steps lines regions most x t) e step;
      now = record {
        is = ap (λ (c : Cpu). machine c old.bus no_inputs []) (sym cpu) ∙ ap (λ (b : List ℕ). machine new.cpu b no_inputs []) (sym bus);
        outputs = sym outs;
        given = subst (λ (l : List Place). HaveGiven lines new.cursors.items l) (sym (append-nil s.reads)) (subst (λ c. HaveGiven lines c s.reads) (sym cursors) now.given);
        seen = subst (λ (l : List Output). HaveSeen new.last.items l) outs (seen (subst (λ (l : List Output). HaveSeen old.last.items l) now.outputs now.seen));
      };
    }

pub output_ends : (lines : List Line) (regions : Areas) (most : ℕ) (s : BoardState) (old : Running) (found : Fetched) (port next : ℕ) → IsNow lines s old →
    fetch regions s.machine.memory s.machine.cpu.pc ≡ Some found → found.instr ≡ Out port → found.next ≡ next → most ≤ length old.outputs.items → EndsBy lines regions most s (OfMachine (OutputRefused port))
unfolding out_answered
output_ends lines regions most s old found port next now fetched is_out is_next full =
    let here = fetched_as lines regions s old found (Out port) next now fetched is_out is_next in
    subst (λ (x : BoardState). EndsBy lines regions most x (OfMachine (OutputRefused port))) (state_is lines s old now)
    (refused (out_answered lines regions old.cpu old.bus s.reads old.outputs.items port next here)
    (machine (record old.cpu { pc = next }) old.bus no_inputs ((port, old.cpu.registers.a) ∷ [])) (port_output port old.cpu)
    (out_step regions old.cpu old.bus port next here) (no_room most old.outputs.items (port_output port old.cpu) full) refl)

-- ---- any other instruction

pub places_apart : (lines : List Line) (i : Instr) (cpu : Cpu) → is_apart i ≡ true → places_read lines i cpu.registers ≡ answering_cells lines (loads i cpu.registers)
places_apart lines (In port) cpu h = absurd (cc)
places_apart lines i cpu h = refl

pub outputs_apart : (lines : List Line) (i : Instr) (cpu : Cpu) (after : List ℕ) → is_apart i ≡ true → outputs_of lines i cpu.registers after ≡ outputs_among lines (direct_bytes i ++ pointed_bytes i cpu.registers) after
outputs_apart lines (Out port) cpu after h = absurd (cc)
outputs_apart lines i cpu after h = refl

executes_apart : (regions : Areas) (was : Bool) (i : Instr) (next : ℕ) (m : Machine) → is_apart i ≡ true → execute regions was i next m ≡ execute regions false i next m
executes_apart regions was (Out port) next m h = absurd (cc)
executes_apart regions was (In port) next m h = absurd (cc)
executes_apart regions was i next m h = refl

guarded_apart : (regions : Areas) (o : Option End) (was : Bool) (found : Fetched) (m : Machine) → is_apart found.instr ≡ true → guarded regions o was found m ≡ guarded regions o false found m
guarded_apart regions (Some e) was found m h = refl
guarded_apart regions None was found m h = executes_apart regions was found.instr found.next m h

-- whether outputs are was counts for nothing there
pub steps_apart : (regions : Areas) (was : Bool) (m : Machine) (found : Fetched) → fetch regions m.memory m.cpu.pc ≡ Some found → is_apart found.instr ≡ true → step_of regions was m ≡ step_of regions false m
steps_apart regions was m found fetched h =
    step_found regions was m found fetched ∙ guarded_apart regions (guard regions found.instr m.cpu) was found m h ∙ sym (step_found regions false m found fetched)

-- answers leave code as it is
module _ (lines : List Line) (regions : Areas) (in_data_all : DevicesAreData lines regions)
    (apart : (areas : Areas) (address : ℕ) → AreRegions areas → in_code areas address ≡ true → in_data areas address ≡ false) (rules : AreRegions regions) where
  first_true : (a b : Bool) → (a && b) ≡ true → a ≡ true
  first_true true b h = refl
  first_true false b h = h

  not_code : (x address : ℕ) → in_code regions address ≡ true → is_answered lines x ≡ true → address ≢ x
  not_code x address code is = λ e.
      let device : in_device lines x ≡ true = first_true (in_device lines x) _ is in
      let no : in_data regions address ≡ false = apart regions address rules code in
      let yes : in_data regions address ≡ true = subst (λ a. in_data regions a ≡ true) (sym e) (in_data_all x device) in
      let bad : true ≡ false = sym yes ∙ no in cc

  pub code_left : (xs : List ℕ) (bytes : List ℕ) (m : Machine) (address : ℕ) → in_code regions address ≡ true →
      slice_index (answered (answering_cells lines xs) bytes m).memory address ≡ slice_index m.memory address
  code_left [] bytes m address code = refl
  code_left (x ∷ xs) bytes m address code = left_by (is_answered lines x) refl (λ bs n. code_left xs bs n address code) bytes
    where
      left_by : (is : Bool) → is_answered lines x ≡ is → ((bs : List ℕ) (n : Machine) → slice_index (answered (answering_cells lines xs) bs n).memory address ≡ slice_index n.memory address) → (bytes : List ℕ) →
          slice_index (answered (map (λ a. Cell a) (cond is (x ∷ filter (is_answered lines) xs) (filter (is_answered lines) xs))) bytes m).memory address ≡ slice_index m.memory address
      left_by true h rest (b ∷ bs) = rest bs (record m { memory = slice_set m.memory x b }) ∙ get_or-set_other m.memory x address b 0 (not_code x address code h)
      left_by true h rest [] = refl
      left_by false h rest bs = rest bs m

  pub cpu_left : (places : List Place) (bytes : List ℕ) (m : Machine) → (answered places bytes m).cpu ≡ m.cpu
  cpu_left (Port port ∷ places) (byte ∷ bytes) m = cpu_left places bytes (record m { inputs = slice_set m.inputs port (byte ∷ []) })
  cpu_left (Cell address ∷ places) (byte ∷ bytes) m = cpu_left places bytes (record m { memory = slice_set m.memory address byte })
  cpu_left [] bytes m = refl
  cpu_left (Port port ∷ places) [] m = refl
  cpu_left (Cell address ∷ places) [] m = refl

  -- so the same instruction is fetched
  pub fetched_same : FetchReadsCodeAlone → (xs bytes : List ℕ) (m : Machine) (found : Fetched) → fetch regions m.memory m.cpu.pc ≡ Some found →
      fetch regions (answered (answering_cells lines xs) bytes m).memory m.cpu.pc ≡ Some found
  unfolding fetch
  fetched_same alone xs bytes m found h =
      ap result_ok (alone (in_code regions) (λ place. slice_index (answered (answering_cells lines xs) bytes m).memory place) (λ place. slice_index m.memory place) (λ address code. code_left xs bytes m address code) m.cpu.pc) ∙ h
