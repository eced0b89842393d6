-- The line of a state, and the byte of its port.
use Rattle.std.proofs.Common.{◌≡◌, ℕ, zero, suc, ◌<◌, Bool, true, false, List, [], ◌∷◌, cond, not, length, refl, ap, sym, ◌∙◌, arith}
use Rattle.std.specs.Prelude.{find, map, slice_set, is_none, is_some, Option, Some, None}
use Rattle.std.proofs.lemmas.List.{length-replicate}
use Rattle.decode80.specs.declared.fetching.Fetched.{Fetched}
use Rattle.decode80.specs.declared.instr.Instr.{Instr}
use Rattle.decode80.specs.declared.instr.Instr.TheVariants.{In, Out}
use Rattle.image80.specs.Regions.{Areas}
use Rattle.machine80.specs.declared.cpu.Cpu.{Cpu}
use Rattle.machine80.specs.Ports.{next_input}
use Rattle.machine80.specs.Step.{Machine, Next, fetch, guard, guarded, step_of, step_on, with_input}
use Rattle.board80.specs.declared.line.Line.{Line}
use Rattle.board80.specs.declared.place.Place.{Place}
use Rattle.board80.specs.declared.place.Place.TheVariants.{Port}
use Rattle.machine80_board.specs.declared.end.BoardEnd.{BoardEnd}
use Rattle.machine80_board.specs.declared.output.Output.{Output}
use Rattle.machine80_board.specs.declared.rules.Running.{Running}
use Rattle.machine80_board.specs.BoardRun.{BoardState, EndsBy, IsAnswered, answered, is_empty_place, machine_by, no_inputs, outputs_by, refused_output, unfetched, unanswered, stopped, refused}
use Rattle.machine80_board.specs.Exchanges.{answer_at, outputs_of, places_read}
use Rattle.machine80_board.specs.Keeping.{IsNow, LeadsOn, Turned}
use Rattle.loader80_trace.specs.Lines.{instruction_line}
use Rattle.loader80_board.specs.BoardLines.{fetched_line, port_byte, state_line}
use Rattle.loader80_board.specs.Keeping.{ReadsPort, byte_seen}
use Rattle.loader80_board.proofs.DecideLemmas.{never, next_is, some_is}

-- what waits at a port that one byte was put to
waits_one : (inputs : List (List ℕ)) (port byte other : ℕ) → next_input (slice_set inputs port (byte ∷ [])) port ≡ Some other → byte ≡ other
waits_one [] port byte other h = absurd (let bad : None ≡ Some other = h in cc)
waits_one (x ∷ xs) zero byte other h = some_is h
waits_one (x ∷ xs) (suc port) byte other h = waits_one xs port byte other h

waits : (inputs : List (List ℕ)) (port byte : ℕ) → port < length inputs → next_input (slice_set inputs port (byte ∷ [])) port ≡ Some byte
waits [] port byte below = absurd (omega arith)
waits (x ∷ xs) zero byte below = refl
waits (x ∷ xs) (suc port) byte below = waits xs port byte (omega arith)

inputs_whole : length no_inputs ≡ 256
unfolding no_inputs
inputs_whole = length-replicate {A = List ℕ} 256 []

-- an input byte comes into the accumulator
took : (m there : Machine) (next port : ℕ) (o : Option ℕ) → with_input m next port o ≡ Next there → o ≡ Some there.cpu.registers.a
took m there next port None h = absurd (never h)
took m there next port (Some byte) h = ap (λ (x : Machine). Some x.cpu.registers.a) (next_is h)

-- the one byte that one place answers
pub record IsOne (o : Option ℕ) (bytes : List ℕ) : Type 0 where
  pub byte : ℕ
  pub answer : o ≡ Some byte
  pub only : bytes ≡ byte ∷ []

is_one : (o : Option ℕ) (bytes : List ℕ) → o ∷ [] ≡ map Some bytes → IsOne o bytes
is_one o [] h = absurd (cc)
is_one o (byte ∷ []) h = (let both : o ∷ [] ≡ Some byte ∷ [] = h in record { byte = byte; answer = (cc); only = refl })
is_one o (byte ∷ other ∷ bytes) h = absurd (let both : o ∷ [] ≡ Some byte ∷ Some other ∷ map Some bytes = h in cc)

-- a machine whose port has this byte
abbrev fed : Machine → (port byte : ℕ) → Machine
fed m port byte = record m { inputs = slice_set m.inputs port (byte ∷ []) }

-- IN with its answer
pub record Inputs (lines : List Line) (regions : Areas) (s : BoardState) (by : IsAnswered lines regions s) (port : ℕ) : Type 0 where
  pub byte : ℕ
  pub answer : answer_at lines s.reads s.outputs (Port port) ≡ Some byte
  pub turn : step_of regions false (machine_by by) ≡ with_input (fed s.machine port byte) by.found.next port (next_input (slice_set s.machine.inputs port (byte ∷ [])) port)

inputs : (lines : List Line) (regions : Areas) (s : BoardState) (by : IsAnswered lines regions s) (found : Fetched) (port : ℕ) → fetch regions s.machine.memory s.machine.cpu.pc ≡ Some found → found.instr ≡ In port → Inputs lines regions s by port
inputs lines regions s by found port fetched is =
    let here : found ≡ by.found = some_is (sym fetched ∙ by.fetched) in
    let instr : by.found.instr ≡ In port = ap (λ (f : Fetched). f.instr) (sym here) ∙ is in
    let one = is_one (answer_at lines s.reads s.outputs (Port port)) by.bytes (sym (ap (λ (i : Instr). map (answer_at lines s.reads s.outputs) (places_read lines i s.machine.cpu.registers)) instr) ∙ by.answers) in
    let same : machine_by by ≡ fed s.machine port one.byte =
    ap (λ (i : Instr). answered (places_read lines i s.machine.cpu.registers) by.bytes s.machine) instr
    ∙ ap (λ (l : List ℕ). answered (Port port ∷ []) l s.machine) one.only in
    let m : Machine = fed s.machine port one.byte in
    record {
      byte = one.byte;
      answer = one.answer;
      turn = ap (λ (x : Machine). step_of regions false x) same
          ∙ ap (λ (o : Option Fetched). step_on regions false o m) by.fetched
          ∙ ap (λ (i : Instr). guarded regions (guard regions i m.cpu) false (record { instr = i; next = by.found.next }) m) instr;
    }

-- the run goes on with the byte that the port answered
went_in : (lines : List Line) (regions : Areas) (most : ℕ) (s : BoardState) (new : Running) (found : Fetched) (port : ℕ) → fetch regions s.machine.memory s.machine.cpu.pc ≡ Some found → found.instr ≡ In port → LeadsOn lines regions most s new →
    Some new.cpu.registers.a ≡ answer_at lines s.reads s.outputs (Port port)
went_in lines regions most s new found port fetched is leads =
    let steps = leads.steps in
    let i = inputs lines regions s steps.by found port fetched is in
    let taken = took (fed s.machine port i.byte) steps.there steps.by.found.next port (next_input (slice_set s.machine.inputs port (i.byte ∷ [])) port) (sym i.turn ∙ steps.step) in
    let byte : i.byte ≡ steps.there.cpu.registers.a = waits_one s.machine.inputs port i.byte steps.there.cpu.registers.a taken in
    let new_is : steps.there.cpu ≡ new.cpu = ap (λ (x : BoardState). x.machine.cpu) (sym steps.is) ∙ ap (λ (m : Machine). m.cpu) leads.now.is in
    sym (ap (λ (c : Cpu). Some c.registers.a) new_is) ∙ sym (ap (λ (b : ℕ). Some b) byte) ∙ sym i.answer

empty_place : (lines : List Line) (s : BoardState) (place first : Place) → find (is_empty_place lines s) (place ∷ []) ≡ Some first → answer_at lines s.reads s.outputs place ≡ None
empty_place lines s place first h = by_answer (answer_at lines s.reads s.outputs place) refl
  where
    by_answer : (o : Option ℕ) → answer_at lines s.reads s.outputs place ≡ o → answer_at lines s.reads s.outputs place ≡ None
    by_answer None is = is
    by_answer (Some byte) is = absurd (let none : find (is_empty_place lines s) (place ∷ []) ≡ None = ap (λ (o : Option ℕ). cond (not (is_some o)) (Some place) None) is in let bad : Some first ≡ None = sym h ∙ none in cc)

-- or it ends where nothing answers
ended_in : (lines : List Line) (regions : Areas) (most : ℕ) (s : BoardState) (ending : BoardEnd) (found : Fetched) (port : ℕ) → port < length s.machine.inputs → fetch regions s.machine.memory s.machine.cpu.pc ≡ Some found → found.instr ≡ In port → EndsBy lines regions most s ending →
    None ≡ answer_at lines s.reads s.outputs (Port port)
ended_in lines regions most s ending found port small fetched is (unfetched none _) = absurd (let bad : None ≡ Some found = sym none ∙ fetched in cc)
ended_in lines regions most s ending found port small fetched is (unanswered there place again first _) =
    let here : there ≡ found = some_is (sym again ∙ fetched) in
    let instr : there.instr ≡ In port = ap (λ (f : Fetched). f.instr) here ∙ is in
    sym (empty_place lines s (Port port) place (sym (ap (λ (i : Instr). find (is_empty_place lines s) (places_read lines i s.machine.cpu.registers)) instr) ∙ first))
ended_in lines regions most s ending found port small fetched is (stopped by e stops _) = absurd (
    let i = inputs lines regions s by found port fetched is in
    let goes = i.turn ∙ ap (with_input (fed s.machine port i.byte) by.found.next port) (waits s.machine.inputs port i.byte small) in
    never (sym stops ∙ goes))
ended_in lines regions most s ending found port small fetched is (refused by there output goes first _) = absurd (
    let here : by.found ≡ found = some_is (sym by.fetched ∙ fetched) in
    let instr : by.found.instr ≡ In port = ap (λ (f : Fetched). f.instr) here ∙ is in
    let none : outputs_by by there.memory ≡ [] = ap (λ (i : Instr). outputs_of lines i s.machine.cpu.registers there.memory) instr in
    let bad : Some output ≡ None = sym first ∙ ap (λ (l : List Output). refused_output most s.outputs l) none in
    cc)

-- the byte of an instruction's port
byte_of : (lines : List Line) (regions : Areas) (most : ℕ) (s : BoardState) (old new : Running) (ending : Option BoardEnd) (found : Fetched) → IsNow lines s old → fetch regions s.machine.memory s.machine.cpu.pc ≡ Some found → Turned lines regions most s old new ending →
    (i : Instr) → found.instr ≡ i → ReadsPort i → byte_seen i old.cpu.registers.a (is_none ending) new.cpu.registers.a ≡ port_byte lines s i
byte_of lines regions most s old new None found now fetched turned (In port) is small = went_in lines regions most s new found port fetched is turned
byte_of lines regions most s old new (Some e) found now fetched turned (In port) is small =
    let whole : length s.machine.inputs ≡ 256 = ap (λ (m : Machine). length m.inputs) now.is ∙ inputs_whole in
    ended_in lines regions most s e found port (omega (arith, whole, small)) fetched is turned.ends
byte_of lines regions most s old new ending found now fetched turned (Out port) is small = sym (ap (λ (m : Machine). Some m.cpu.registers.a) now.is)
byte_of lines regions most s old new ending found now fetched turned i is small = refl

-- the line of a step that was made
pub line_is : (lines : List Line) (regions : Areas) (most : ℕ) (s : BoardState) (old new : Running) (ending : Option BoardEnd) (found : Fetched) → IsNow lines s old → fetch regions old.bus old.cpu.pc ≡ Some found → ReadsPort found.instr → Turned lines regions most s old new ending →
    instruction_line found.instr (byte_seen found.instr old.cpu.registers.a (is_none ending) new.cpu.registers.a) old.cpu ≡ state_line lines regions s
line_is lines regions most s old new ending found now fetched small turned =
    let here : fetch regions s.machine.memory s.machine.cpu.pc ≡ Some found = ap (λ (m : Machine). fetch regions m.memory m.cpu.pc) now.is ∙ fetched in
    ap (λ (b : Option ℕ). instruction_line found.instr b old.cpu) (byte_of lines regions most s old new ending found now here turned found.instr refl small)
    ∙ sym (ap (λ (m : Machine). instruction_line found.instr (port_byte lines s found.instr) m.cpu) now.is)
    ∙ sym (ap (λ (o : Option Fetched). fetched_line lines o s) here)

-- no line where nothing was fetched
pub no_line : (lines : List Line) (regions : Areas) (s : BoardState) (old : Running) → IsNow lines s old → fetch regions old.bus old.cpu.pc ≡ None → state_line lines regions s ≡ []
no_line lines regions s old now none = ap (λ (o : Option Fetched). fetched_line lines o s) (ap (λ (m : Machine). fetch regions m.memory m.cpu.pc) now.is ∙ none)

-- a test of an end, the other way round
pub goes_on : (ending : Option BoardEnd) (is : Bool) → is_some ending ≡ not is → is ≡ is_none ending
goes_on None true h = refl
goes_on None false h = absurd (cc)
goes_on (Some e) true h = absurd (cc)
goes_on (Some e) false h = refl
