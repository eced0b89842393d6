-- Runs among devices are runs on boards.
use Rattle.std.proofs.Common.{◌≡◌, ◌≢◌, ℕ, zero, suc, ◌<◌, ◌≤◌, Bool, true, false, cond, not, List, [], ◌∷◌, length, refl, ap, sym, subst, ◌∙◌, arith, length-set, get_or-set_other}
use Rattle.std.specs.Prelude.{◌&&◌, if◌then◌else◌, slice_get, slice_set, slice_index, filter, map, replicate, All, Option, Some, None}
use Rattle.std.proofs.lemmas.List.Elements.{All-cons, All-nil, All-head, All-tail}
use Rattle.decode80.specs.declared.fetching.Fetched.{Fetched}
use Rattle.decode80.specs.declared.instr.Instr.{Instr}
use Rattle.decode80.specs.declared.instr.Instr.TheVariants.{In, Out, Hlt, Pchl}
use Rattle.decode80.specs.Fetch.{direct_bytes}
use Rattle.image80.specs.Image.{Located, memory_of}
use Rattle.image80.specs.Memory.{length-memory_of}
use Rattle.image80.specs.Range.{in_range}
use Rattle.image80.specs.Regions.{Areas, AreRegions, in_code, in_data, targets_at}
use Rattle.machine80.specs.declared.cpu.Cpu.{Cpu}
use Rattle.machine80.specs.declared.end.End.{End}
use Rattle.machine80.specs.declared.end.End.TheVariants.{Stack, Direct, StoreOutside, JumpOutside}
use Rattle.machine80.specs.declared.registers.Registers.{Registers}
use Rattle.machine80.specs.Cpu.{hl_of}
use Rattle.machine80.specs.Effects.{pointed_bytes, stack_bytes}
use Rattle.machine80.specs.Ports.{next_input}
use Rattle.machine80.specs.Run.{world_of}
use Rattle.machine80.specs.Step.{Machine, Next, Stop, ends_at, execute, fetch, first_outside, guard, guarded, leads_outside, machine, proceeded, step_on, turn_of, with_input}
use Rattle.machine80.specs.World.{World, places_after}
use Rattle.verify80.specs.Boards.{Anywhere, Disturbs, Executes, PromiseIsKeptOnBoards, unguarded, with_memory}
use Rattle.verify80_states.specs.QuietBoards.{OnQuietBoard, begins as begins_quiet, disturbed as disturbed_quiet, executed as executed_quiet}
use Rattle.loader80_board.specs.QuietLaws.{is_on_board}
use Rattle.verify80_states.specs.Bytes.{BytesStayBytes, HasBytes, HoldsBytes, IsByte}
use Rattle.board80.specs.declared.line.Line.{Line}
use Rattle.board80.specs.declared.place.Place.{Place}
use Rattle.board80.specs.declared.place.Place.TheVariants.{Port, Cell}
use Rattle.board80.specs.Board.{in_device}
use Rattle.machine80_board.specs.BoardRun.{BoardState, DevicesAreData, IsReached, Steps, answered, board_start, machine_by, no_inputs, reads_by, without_ports, begins as begun, goes_on}
use Rattle.machine80_board.specs.Exchanges.{is_answered, loads, places_read}
use Rattle.loader80_board.proofs.FetchLemmas.{anywhere_of}
use Rattle.loader80_board.specs.OnBoards.{LeavesQuiet, RunsAreOnBoards, RunsAreOnQuietBoards, StartsHoldBytes}

-- ---- what answers leave of a machine

pub cpu_left : (places : List Place) (bytes : List ℕ) (m : Machine) → (answered places bytes m).cpu ≡ m.cpu
cpu_left (Port port ∷ places) (byte ∷ bytes) m = cpu_left places bytes (record m { inputs = slice_set m.inputs port (byte ∷ []) })
cpu_left (Cell address ∷ places) (byte ∷ bytes) m = cpu_left places bytes (record m { memory = slice_set m.memory address byte })
cpu_left [] bytes m = refl
cpu_left (Port port ∷ places) [] m = refl
cpu_left (Cell address ∷ places) [] m = refl

outputs_left : (places : List Place) (bytes : List ℕ) (m : Machine) → (answered places bytes m).outputs ≡ m.outputs
outputs_left (Port port ∷ places) (byte ∷ bytes) m = outputs_left places bytes (record m { inputs = slice_set m.inputs port (byte ∷ []) })
outputs_left (Cell address ∷ places) (byte ∷ bytes) m = outputs_left places bytes (record m { memory = slice_set m.memory address byte })
outputs_left [] bytes m = refl
outputs_left (Port port ∷ places) [] m = refl
outputs_left (Cell address ∷ places) [] m = refl

size_left : (places : List Place) (bytes : List ℕ) (m : Machine) → length (answered places bytes m).memory ≡ length m.memory
size_left (Port port ∷ places) (byte ∷ bytes) m = size_left places bytes (record m { inputs = slice_set m.inputs port (byte ∷ []) })
size_left (Cell address ∷ places) (byte ∷ bytes) m = size_left places bytes (record m { memory = slice_set m.memory address byte }) ∙ length-set m.memory address byte
size_left [] bytes m = refl
size_left (Port port ∷ places) [] m = refl
size_left (Cell address ∷ places) [] m = refl

set_all : {A : Type 0} (P : A → Type 0) (xs : List A) (i : ℕ) (x : A) → P x → All P xs → All P (slice_set xs i x)
set_all P [] i x px all = All-nil P
set_all P (y ∷ ys) zero x px all = All-cons P x ys px (All-tail P y ys all)
set_all P (y ∷ ys) (suc i) x px all = All-cons P y (slice_set ys i x) (All-head P y ys all) (set_all P ys i x px (All-tail P y ys all))

bytes_left : (places : List Place) (bytes : List ℕ) (m : Machine) → All (λ byte. byte < 256) bytes → HoldsBytes m → HoldsBytes (answered places bytes m)
bytes_left (Port port ∷ places) (byte ∷ bytes) m small holds = bytes_left places bytes (record m { inputs = slice_set m.inputs port (byte ∷ []) }) (All-tail (λ b. b < 256) byte bytes small) (record {
  registers = holds.registers;
  memory = holds.memory;
  inputs = set_all HasBytes m.inputs port (byte ∷ []) (All-cons IsByte byte [] (All-head (λ b. b < 256) byte bytes small) (All-nil IsByte)) holds.inputs;
})
bytes_left (Cell address ∷ places) (byte ∷ bytes) m small holds = bytes_left places bytes (record m { memory = slice_set m.memory address byte }) (All-tail (λ b. b < 256) byte bytes small) (record {
  registers = holds.registers;
  memory = set_all IsByte m.memory address byte (All-head (λ b. b < 256) byte bytes small) holds.memory;
  inputs = holds.inputs;
})
bytes_left [] bytes m small holds = holds
bytes_left (Port port ∷ places) [] m small holds = holds
bytes_left (Cell address ∷ places) [] m small holds = holds

first_true : (a b : Bool) → (a && b) ≡ true → a ≡ true
first_true true b h = refl
first_true false b h = absurd (cc)

-- an address that is no device's is left as it is
others_left : (lines : List Line) (xs : List ℕ) (bytes : List ℕ) (m : Machine) (address : ℕ) → in_device lines address ≡ false →
    slice_index (answered (map (λ a. Cell a) (filter (is_answered lines) xs)) bytes m).memory address ≡ slice_index m.memory address
others_left lines [] bytes m address free = refl
others_left lines (x ∷ xs) bytes m address free = left_by (is_answered lines x) refl (λ bs n. others_left lines xs bs n address free) bytes
  where
    other : is_answered lines x ≡ true → address ≢ x
    other h = λ e. let yes : in_device lines x ≡ true = first_true (in_device lines x) _ h in let no : in_device lines x ≡ false = subst (λ a. in_device lines a ≡ false) e free in let bad : true ≡ false = sym yes ∙ no in absurd (cc)

    left_by : (is : Bool) → is_answered lines x ≡ is → ((bs : List ℕ) (n : Machine) → slice_index (answered (map (λ a. Cell a) (filter (is_answered lines) xs)) bs n).memory address ≡ slice_index n.memory address) → (bytes : List ℕ) →
        slice_index (answered (map (λ a. Cell a) (cond is (x ∷ filter (is_answered lines) xs) (filter (is_answered lines) xs))) bytes m).memory address ≡ slice_index m.memory address
    left_by true h rest (b ∷ bs) = rest bs (record m { memory = slice_set m.memory x b }) ∙ get_or-set_other m.memory x address b 0 (other h)
    left_by true h rest [] = refl
    left_by false h rest bs = rest bs m

places_left : (lines : List Line) (i : Instr) (r : Registers) (bytes : List ℕ) (m : Machine) (address : ℕ) → in_device lines address ≡ false →
    slice_index (answered (places_read lines i r) bytes m).memory address ≡ slice_index m.memory address
places_left lines (In port) r (byte ∷ bytes) m address free = refl
places_left lines (In port) r [] m address free = refl
places_left lines i r bytes m address free = others_left lines (loads i r) bytes m address free

-- ---- a guarded step is one that nothing guards, which stays inside

next_is : {a b : Machine} → Next a ≡ Next b → a ≡ b
next_is {a} {b} h = let e : Next a ≡ Next b = h in cc

never : {e : End} {m : Machine} → Stop e ≡ Next m → ⊥
never {e} {m} h = let bad : Stop e ≡ Next m = h in cc

pub record Opens (regions : Areas) (i : Instr) (next : ℕ) (m there : Machine) : Type 0 where
  pub byte : ℕ
  pub small : byte < 256
  pub after : Machine
  pub goes : unguarded i byte next m ≡ Some after
  pub is : after ≡ record there { inputs = m.inputs; outputs = m.outputs }
  pub jumps : i ≡ Pchl → leads_outside (targets_at regions m.cpu.pc) (hl_of m.cpu.registers) ≡ false

waiting_bytes : (inputs : List (List ℕ)) (port byte : ℕ) → All HasBytes inputs → next_input inputs port ≡ Some byte → byte < 256
waiting_bytes [] port byte all is = absurd (let e : None ≡ Some byte = is in cc)
waiting_bytes (x ∷ xs) zero byte all is = first x (All-head HasBytes x xs all) is
  where
    first : (x : List ℕ) → HasBytes x → slice_get x 0 ≡ Some byte → byte < 256
    first [] h is = absurd (let e : None ≡ Some byte = is in cc)
    first (b ∷ bs) h is = let e : b ≡ byte = (let f : Some b ≡ Some byte = is in cc) in subst IsByte e (All-head IsByte b bs h)
waiting_bytes (x ∷ xs) (suc port) byte all is = waiting_bytes xs port byte (All-tail HasBytes x xs all) is

opens_in : (regions : Areas) (port next : ℕ) (m there : Machine) (inputs : List (List ℕ)) (o : Option ℕ) → next_input inputs port ≡ o → All HasBytes inputs →
    with_input (record m { inputs = inputs }) next port o ≡ Next there → Opens regions (In port) next m there
opens_in regions port next m there inputs None is all h = absurd (never h)
opens_in regions port next m there inputs (Some byte) is all h = record {
  byte = byte;
  small = waiting_bytes inputs port byte all is;
  after = record m { cpu = record m.cpu { registers = record m.cpu.registers { a = byte }; pc = next } };
  goes = refl;
  is = ap (λ (t : Machine). record t { inputs = m.inputs; outputs = m.outputs }) (next_is h);
  jumps = λ e. absurd (cc);
}

opens_jump : (regions : Areas) (next : ℕ) (m there : Machine) (inputs : List (List ℕ)) (outside : Bool) → leads_outside (targets_at regions m.cpu.pc) (hl_of m.cpu.registers) ≡ outside →
    turn_of (if outside then Some (JumpOutside (hl_of m.cpu.registers)) else None) (proceeded Pchl next (record m { inputs = inputs })) ≡ Next there → Opens regions Pchl next m there
opens_jump regions next m there inputs true is h = absurd (never h)
opens_jump regions next m there inputs false is h = record {
  byte = 0;
  small = omega arith;
  after = proceeded Pchl next m;
  goes = refl;
  is = ap (λ (t : Machine). record t { inputs = m.inputs; outputs = m.outputs }) (next_is h);
  jumps = λ e. is;
}

opens : (regions : Areas) (i : Instr) (next : ℕ) (m there : Machine) (inputs : List (List ℕ)) → All HasBytes inputs → execute regions false i next (record m { inputs = inputs }) ≡ Next there → Opens regions i next m there
opens regions Hlt next m there inputs all h = absurd (never h)
opens regions (In port) next m there inputs all h = opens_in regions port next m there inputs (next_input inputs port) refl all h
opens regions (Out port) next m there inputs all h = record {
  byte = 0;
  small = omega arith;
  after = record m { cpu = record m.cpu { pc = next } };
  goes = refl;
  is = ap (λ (t : Machine). record t { inputs = m.inputs; outputs = m.outputs }) (next_is h);
  jumps = λ e. absurd (cc);
}
opens regions Pchl next m there inputs all h = opens_jump regions next m there inputs (leads_outside (targets_at regions m.cpu.pc) (hl_of m.cpu.registers)) refl h
opens regions i next m there inputs all h = record {
  byte = 0;
  small = omega arith;
  after = proceeded i next m;
  goes = refl;
  is = ap (λ (t : Machine). record t { inputs = m.inputs; outputs = m.outputs }) (next_is h);
  jumps = λ e. absurd (cc);
}

unstopped : (regions : Areas) (o : Option End) (found : Fetched) (m there : Machine) → guarded regions o false found m ≡ Next there → (o ≡ None) × (execute regions false found.instr found.next m ≡ Next there)
unstopped regions None found m there h = (refl, h)
unstopped regions (Some e) found m there h = absurd (never h)

third_none : (one two three : Option ℕ) (f g h : ℕ → End) → ends_at one f (ends_at two g (ends_at three h None)) ≡ None → three ≡ None
third_none None None None f g h e = refl
third_none None None (Some a) f g h e = absurd (cc)
third_none None (Some a) three f g h e = absurd (cc)
third_none (Some a) two three f g h e = absurd (cc)

all_inside : (inside : ℕ → Bool) (xs : List ℕ) → first_outside inside xs ≡ None → All (λ x. inside x ≡ true) xs
all_inside inside [] h = All-nil (λ x. inside x ≡ true)
all_inside inside (x ∷ xs) h = by_test (inside x) refl (λ rest. all_inside inside xs rest) h
  where
    by_test : (is : Bool) → inside x ≡ is → (first_outside inside xs ≡ None → All (λ x. inside x ≡ true) xs) → cond (not is) (Some x) (first_outside inside xs) ≡ None → All (λ x. inside x ≡ true) (x ∷ xs)
    by_test true e rest h = All-cons (λ x. inside x ≡ true) x xs e (rest h)
    by_test false e rest h = absurd (cc)

-- ---- the run

none_waits : All HasBytes no_inputs
unfolding no_inputs
none_waits = empty 256
  where
    empty : (n : ℕ) → All HasBytes (replicate n [])
    empty zero = All-nil HasBytes
    empty (suc n) = All-cons HasBytes [] (replicate n []) (All-nil IsByte) (empty n)

-- the instruction that a step executes
pub record Fetches (regions : Areas) (m there : Machine) : Type 0 where
  pub found : Fetched
  pub inside : fetch regions m.memory m.cpu.pc ≡ Some found
  pub stepped : guarded regions (guard regions found.instr m.cpu) false found m ≡ Next there

fetches : (regions : Areas) (m there : Machine) (o : Option Fetched) → fetch regions m.memory m.cpu.pc ≡ o → step_on regions false o m ≡ Next there → Fetches regions m there
fetches regions m there None is h = absurd (never h)
fetches regions m there (Some found) is h = record { found = found; inside = is; stepped = h }

pub starts_hold_bytes : StartsHoldBytes
starts_hold_bytes image are_bytes = record {
  registers = record { a = omega arith; b = omega arith; c = omega arith; d = omega arith; e = omega arith; h = omega arith; l = omega arith };
  memory = are_bytes;
  inputs = none_waits;
}

module _ (code_or_data : (areas : Areas) (address : ℕ) → AreRegions areas → in_code areas address ≡ true → in_data areas address ≡ false)
    (data_or_stack : (areas : Areas) (address : ℕ) → AreRegions areas → in_data areas address ≡ true → in_range areas.stack address ≡ false)
    (stay : BytesStayBytes) (image : Located) (rules : AreRegions image.regions) (are_bytes : All (λ byte. byte < 256) (memory_of image.chunks))
    (lines : List Line) (in_data_all : DevicesAreData lines image.regions) (quiet : ℕ → Bool) (apart : LeavesQuiet lines quiet) where
  abbrev IsOn : World → Type 0
  IsOn w = OnQuietBoard image.regions quiet Anywhere (board_start image).machine true true w

  -- a state with its world
  record Stands (s : BoardState) : Type 0 where
    world : World
    same : world.machine ≡ s.machine
    on : IsOn world
    holds : HoldsBytes s.machine
    closed : s.machine ≡ without_ports s.machine

  no_device : (address : ℕ) (is : Bool) → in_device lines address ≡ is → in_data image.regions address ≡ false → in_device lines address ≡ false
  no_device address false is lacks = is
  no_device address true is lacks = absurd (let yes_it_is : in_data image.regions address ≡ true = in_data_all address is in let bad : true ≡ false = sym yes_it_is ∙ lacks in cc)

  no_data : (address : ℕ) (is : Bool) → in_data image.regions address ≡ is → in_range image.regions.stack address ≡ true → in_data image.regions address ≡ false
  no_data address false is here = is
  no_data address true is here = absurd (let no : in_range image.regions.stack address ≡ false = data_or_stack image.regions address rules is in let bad : true ≡ false = sym here ∙ no in cc)

  no_quiet : (address : ℕ) (is : Bool) → in_device lines address ≡ is → quiet address ≡ true → in_device lines address ≡ false
  no_quiet address false is here = is
  no_quiet address true is here = absurd (let no : quiet address ≡ false = apart address is in let bad : true ≡ false = sym here ∙ no in cc)

  goes : (most : ℕ) (s t : BoardState) → Stands s → Steps lines image.regions most s t → Stands t
  goes most s t at step =
      let by = step.by in
      let fed : Machine = machine_by by in
      let places : List Place = reads_by by in
      let m : Machine = record s.machine { memory = fed.memory } in
      let holds : HoldsBytes fed = bytes_left places by.bytes s.machine by.small at.holds in
      let cpu : fed.cpu ≡ s.machine.cpu = cpu_left places by.bytes s.machine in
      let outs : fed.outputs ≡ s.machine.outputs = outputs_left places by.bytes s.machine in
      let shape : fed ≡ record m { inputs = fed.inputs } = ap (λ (c : Cpu). machine c fed.memory fed.inputs fed.outputs) cpu ∙ ap (λ o. machine s.machine.cpu fed.memory fed.inputs o) outs in
      let left : (address : ℕ) → in_device lines address ≡ false → slice_index fed.memory address ≡ slice_index s.machine.memory address = λ address free. places_left lines by.found.instr s.machine.cpu.registers by.bytes s.machine address free in
      let w : World = record { machine = s.machine; places = at.world.places } in
      let on_w : IsOn w = subst (λ (x : Machine). IsOn (record { machine = x; places = at.world.places })) at.same at.on in
      let v : World = with_memory w fed.memory in
      let disturbs : Disturbs image.regions s.machine.cpu.sp w v = record {
        memory = fed.memory;
        leaves = record {
          code = λ address here. left address (no_device address (in_device lines address) refl (code_or_data image.regions address rules here));
          pushed = λ address pushed. left address (no_device address (in_device lines address) refl (no_data address (in_data image.regions address) refl pushed.in_stack));
          size = size_left places by.bytes s.machine;
          bytes = holds.memory;
        };
        is = refl;
      } in
      let on_v : IsOn v = disturbed_quiet true w v on_w disturbs (λ address here. left address (no_quiet address (in_device lines address) refl here)) in
      let p = fetches image.regions fed step.there (fetch image.regions fed.memory fed.cpu.pc) refl step.step in
      let fetched : fetch image.regions fed.memory s.machine.cpu.pc ≡ Some p.found = subst (λ (c : Cpu). fetch image.regions fed.memory c.pc ≡ Some p.found) cpu p.inside in
      let free = unstopped image.regions (guard image.regions p.found.instr fed.cpu) p.found fed step.there p.stepped in
      let executes : execute image.regions false p.found.instr p.found.next (record m { inputs = fed.inputs }) ≡ Next step.there = subst (λ (x : Machine). execute image.regions false p.found.instr p.found.next x ≡ Next step.there) shape free.1 in
      let o = opens image.regions p.found.instr p.found.next m step.there fed.inputs holds.inputs executes in
      let guard_here : guard image.regions p.found.instr m.cpu ≡ None = subst (λ (c : Cpu). guard image.regions p.found.instr c ≡ None) cpu free.0 in
      let stores : All (λ address. in_data image.regions address ≡ true) (pointed_bytes p.found.instr m.cpu.registers) =
      all_inside (in_data image.regions) (pointed_bytes p.found.instr m.cpu.registers) (third_none (first_outside (in_range image.regions.stack) (stack_bytes p.found.instr m.cpu)) (first_outside (in_data image.regions) (direct_bytes p.found.instr))
      (first_outside (in_data image.regions) (pointed_bytes p.found.instr m.cpu.registers)) Stack Direct StoreOutside guard_here) in
      let there_is : o.after ≡ without_ports step.there = o.is ∙ ap (λ (x : Machine). record step.there { inputs = x.inputs; outputs = x.outputs }) at.closed in
      let next : World = record { machine = o.after; places = places_after p.found.instr p.found.next m.cpu.registers.flags at.world.places } in
      let by_board : Executes image.regions Anywhere v next = record {
        found = p.found;
        byte = o.byte;
        after = o.after;
        fetched = anywhere_of image.regions fed.memory s.machine.cpu.pc p.found fetched;
        small = o.small;
        inside = λ here. record { stores = stores; jumps = o.jumps };
        goes = o.goes;
        is = refl;
      } in
      let after_holds : HoldsBytes step.there = stay image.regions false fed step.there holds step.step in
      let machine_is : t.machine ≡ without_ports step.there = ap (λ (x : BoardState). x.machine) step.is in
      record {
        world = next;
        same = there_is ∙ sym machine_is;
        on = executed_quiet true true v next on_v by_board refl;
        holds = subst HoldsBytes (sym machine_is) (record { registers = after_holds.registers; memory = after_holds.memory; inputs = none_waits });
        closed = machine_is ∙ ap without_ports (sym machine_is);
      }

  stands : (most steps : ℕ) (s : BoardState) → IsReached lines image.regions most (board_start image) steps s → Stands s
  stands most steps s (begun _ is) = subst Stands (sym is) (record {
    world = world_of (board_start image).machine;
    same = refl;
    on = begins_quiet true (world_of (board_start image).machine) refl refl;
    holds = starts_hold_bytes image are_bytes;
    closed = refl;
  })
  stands most steps s (goes_on n r _ reached step) = goes most r s (stands most n r reached) step

-- a run that leaves quiet addresses alone is one on a quiet board
pub runs_on_quiet_boards : ((areas : Areas) (address : ℕ) → AreRegions areas → in_code areas address ≡ true → in_data areas address ≡ false) →
    ((areas : Areas) (address : ℕ) → AreRegions areas → in_data areas address ≡ true → in_range areas.stack address ≡ false) → BytesStayBytes → RunsAreOnQuietBoards
runs_on_quiet_boards code_or_data data_or_stack stay image rules are_bytes lines in_data_all quiet apart most steps s reached =
    let at = stands code_or_data data_or_stack stay image rules are_bytes lines in_data_all quiet apart most steps s reached in record { world = at.world; same = at.same; on = at.on }

-- and one on a board, if nothing is quiet
pub runs_on_boards : RunsAreOnQuietBoards → PromiseIsKeptOnBoards → RunsAreOnBoards
runs_on_boards on_quiet kept image bytes rules fitted enough are_bytes lines in_data_all most steps s reached =
    let at = on_quiet image rules are_bytes lines in_data_all (λ (address : ℕ). false) (λ address is. refl) most steps s reached in
    let on = is_on_board image.regions (λ (address : ℕ). false) Anywhere (board_start image).machine true true at.world at.on in
    record {
      world = at.world;
      same = at.same;
      on = on;
      promise = kept image bytes rules fitted enough (board_start image).machine true (record { pc = refl; sp = refl; whole = length-memory_of image.chunks; code = λ a here. refl }) at.world true on;
    }
