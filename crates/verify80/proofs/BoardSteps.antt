-- A step that nothing guards is a guarded one, if the guard would say nothing.
use Rattle.std.specs.Prelude.{◌≡◌, ◌≢◌, ℕ, zero, suc, ◌+◌, ◌<◌, Bool, true, false, not, ◌&&◌, ◌||◌, nat_eq, nat_le}
use Rattle.std.specs.Prelude.{slice_index, List, [], ◌∷◌, ◌++◌, Option, None, Some, All, Result, Ok, Err, refl, if◌then◌else◌}
use Rattle.std.specs.List.{list_all, range_with_len}
use Rattle.std.specs.Result.{result_ok}
use Rattle.std.proofs.Common.{◌∙◌, ap, sym, subst, arith, cond}
use Rattle.std.proofs.lemmas.List.Elements.{All-nil, All-cons}
use Rattle.decode80.specs.declared.instr.Instr.{Instr}
use Rattle.decode80.specs.declared.instr.Instr.TheVariants.{Hlt, In, Out, Pchl}
use Rattle.decode80.specs.declared.fetching.FetchFault.{FetchFault}
use Rattle.decode80.specs.declared.fetching.FetchFault.TheVariants.{Outside}
use Rattle.decode80.specs.declared.fetching.Fetched.{Fetched}
use Rattle.decode80.specs.Decoded.{decoded}
use Rattle.decode80.specs.Spelling.{opcode}
use Rattle.decode80.specs.Fetch.{ahead, all_code, admitted_if_used, fetch as fetch_in}
use Rattle.image80.specs.Regions.{Areas, in_code, targets_at}
use Rattle.image80.specs.Image.{Located}
use Rattle.machine80.specs.declared.end.End.TheVariants.{JumpOutside}
use Rattle.machine80.specs.Cpu.{hl_of}
use Rattle.machine80.specs.Ports.{next_input, without_next}
use Rattle.machine80.specs.Step.{Machine, Next, execute, fetch, first_outside, leads_outside, proceeded, turn_of, with_input}
use Rattle.machine80.specs.World.{World, places_after}
use Rattle.verify80.specs.Looking.{halt_follows}
use Rattle.verify80.specs.LookLaws.{fetch_at}
use Rattle.verify80.specs.Boards.{Anywhere, IsFollowed, OnBoard, begins, disturbed, executed, StaysInside, fetched_anywhere, sets_sp, unguarded}

-- ---- what is fetched inside code is fetched without a look at regions too

all_true : (xs : List ℕ) → list_all (λ (x : ℕ). true) xs ≡ true
all_true [] = refl
all_true (x ∷ xs) = all_true xs

wider : (first others more : Bool) → more ≡ true → (first && others) ≡ true → (first && more) ≡ true
wider true others more is h = is
wider false others more is h = cc

all_anywhere : (code : ℕ → Bool) (address count : ℕ) → all_code code address count ≡ true → all_code (λ (place : ℕ). true) address count ≡ true
unfolding all_code
all_anywhere code address count h =
    wider (nat_le (address + count) 65536) (list_all code (range_with_len address count)) (list_all (λ (place : ℕ). true) (range_with_len address count)) (all_true (range_with_len address count)) h

by_test : (one other : Bool) (answer found : Fetched) → (one ≡ true → other ≡ true) → (if one then Ok answer else Err Outside) ≡ Ok found → (if other then Ok answer else Err Outside) ≡ Ok found
by_test true other answer found more h = ap (λ (b : Bool). if b then Ok answer else Err Outside) (more refl) ∙ h
by_test false other answer found more h = absurd (cc)

admits_anywhere : (code : ℕ → Bool) (address : ℕ) (o : Option (Instr × ℕ)) (found : Fetched) → admitted_if_used code address o ≡ Ok found → admitted_if_used (λ (place : ℕ). true) address o ≡ Ok found
admits_anywhere code address None found h = absurd (cc)
admits_anywhere code address (Some i) found h =
    by_test (all_code code address i.1) (all_code (λ (place : ℕ). true) address i.1) (record { instr = i.0; next = ahead address i.1 }) found (all_anywhere code address i.1) h

passes : (test : Bool) (answer : Result Fetched FetchFault) (found : Fetched) → (if test then answer else Err Outside) ≡ Ok found → answer ≡ Ok found
passes true answer found h = h
passes false answer found h = absurd (cc)

fetches_anywhere : (code : ℕ → Bool) (held : ℕ → ℕ) (address : ℕ) (found : Fetched) → fetch_in code held address ≡ Ok found → fetch_in (λ (place : ℕ). true) held address ≡ Ok found
unfolding fetch_in
fetches_anywhere code held address found h =
    let o : Option (Instr × ℕ) = decoded (held address) (held (ahead address 1)) (held (ahead address 2)) in
    admits_anywhere code address o found (passes (code address) (admitted_if_used code address o) found h)

is_ok : (answer : Result Fetched FetchFault) (found : Fetched) → result_ok answer ≡ Some found → answer ≡ Ok found
is_ok (Ok one) found h = cc
is_ok (Err fault) found h = absurd (cc)

pub fetched_inside : (regions : Areas) (memory : List ℕ) (address : ℕ) (found : Fetched) → fetch regions memory address ≡ Some found → fetched_anywhere memory address ≡ Some found
unfolding fetch
fetched_inside regions memory address found h =
    ap result_ok (fetches_anywhere (in_code regions) _ address found (is_ok _ found h))

pub fetched_of : (regions : Areas) (memory : List ℕ) (address : ℕ) (found : Fetched) → fetch_at regions memory address ≡ Ok found → fetch regions memory address ≡ Some found
unfolding fetch
fetched_of regions memory address found h = ap result_ok h

-- ---- none of the addresses is outside

pub none_of : (inside : ℕ → Bool) (xs : List ℕ) → All (λ x. inside x ≡ true) xs → first_outside inside xs ≡ None
none_of inside [] all = refl
none_of inside (x ∷ xs) all =
    ap (λ (b : Bool). cond (not b) (Some x) (first_outside inside xs)) (all 0 0 (omega arith))
    ∙ none_of inside xs (λ k d below. all (suc k) d (omega arith))

-- ---- the guarded step, with a byte at the port that IN names

at_port : (byte port : ℕ) → List (List ℕ)
at_port byte zero = (byte ∷ []) ∷ []
at_port byte (suc port) = [] ∷ at_port byte port

waits : (byte port : ℕ) → next_input (at_port byte port) port ≡ Some byte
unfolding at_port
waits byte zero = refl
waits byte (suc port) = waits byte port

no_bytes : All (λ byte. byte < 256) []
no_bytes = All-nil (λ byte. byte < 256)

are_small : (byte port : ℕ) → byte < 256 → All (All (λ byte. byte < 256)) (at_port byte port)
unfolding at_port
are_small byte zero small = All-cons (All (λ byte. byte < 256)) (byte ∷ []) [] (All-cons (λ byte. byte < 256) byte [] small no_bytes) (All-nil (All (λ byte. byte < 256)))
are_small byte (suc port) small = All-cons (All (λ byte. byte < 256)) [] (at_port byte port) no_bytes (are_small byte port small)

abbrev machine_or : Machine → Option Machine → Machine
machine_or otherwise None = otherwise
machine_or otherwise (Some m) = m

pub same_machine : {m after : Machine} → Some m ≡ Some after → m ≡ after
same_machine {m} h = ap (machine_or m) h

-- an instruction executed with other bytes at the ports leads to the same, but for what the ports hold
pub record Bridges (regions : Areas) (i : Instr) (next : ℕ) (m after : Machine) : Type 0 where
  pub inputs : List (List ℕ)
  pub bytes : All (All (λ byte. byte < 256)) inputs
  pub there : Machine
  pub executes : execute regions false i next (record m { inputs = inputs }) ≡ Next there
  pub is : record there { inputs = m.inputs; outputs = m.outputs } ≡ after

pub bridges : (regions : Areas) (i : Instr) (byte next : ℕ) (m after : Machine) → byte < 256 → (i ≡ Pchl → leads_outside (targets_at regions m.cpu.pc) (hl_of m.cpu.registers) ≡ false) →
    unguarded i byte next m ≡ Some after → Bridges regions i next m after
bridges regions Hlt byte next m after small inside h = absurd (cc)
bridges regions (In port) byte next m after small inside h = record {
  inputs = at_port byte port;
  bytes = are_small byte port small;
  there = record m { cpu = record m.cpu { registers = record m.cpu.registers { a = byte }; pc = next }; inputs = without_next (at_port byte port) port };
  executes = ap (with_input (record m { inputs = at_port byte port }) next port) (waits byte port);
  is = same_machine h;
}
bridges regions (Out port) byte next m after small inside h = record {
  inputs = [];
  bytes = All-nil (All (λ byte. byte < 256));
  there = record m { cpu = record m.cpu { pc = next }; inputs = []; outputs = m.outputs ++ (port, m.cpu.registers.a) ∷ [] };
  executes = refl;
  is = same_machine h;
}
bridges regions Pchl byte next m after small inside h = record {
  inputs = [];
  bytes = All-nil (All (λ byte. byte < 256));
  there = proceeded Pchl next (record m { inputs = [] });
  executes = ap (λ (b : Bool). turn_of (if b then Some (JumpOutside (hl_of m.cpu.registers)) else None) (proceeded Pchl next (record m { inputs = [] }))) (inside refl);
  is = same_machine h;
}
bridges regions i byte next m after small inside h = record {
  inputs = [];
  bytes = All-nil (All (λ byte. byte < 256));
  there = proceeded i next (record m { inputs = [] });
  executes = refl;
  is = same_machine h;
}

-- ---- a run goes on unless its instruction is HLT

leads : (i : Instr) (byte next : ℕ) (m : Machine) → i ≢ Hlt → (after : Machine) × (unguarded i byte next m ≡ Some after)
leads Hlt byte next m on = absurd (on refl)
leads (In port) byte next m on = (record m { cpu = record m.cpu { registers = record m.cpu.registers { a = byte }; pc = next } }, refl)
leads (Out port) byte next m on = (record m { cpu = record m.cpu { pc = next } }, refl)
leads i byte next m on = (proceeded i next m, refl)

pub followed : (regions : Areas) (listed : ℕ → Type 0) (w : World) (found : Fetched) → fetched_anywhere w.machine.memory w.machine.cpu.pc ≡ Some found → found.instr ≢ Hlt →
    (listed w.machine.cpu.pc → StaysInside regions w.machine found.instr) → (byte : ℕ) → byte < 256 → IsFollowed regions listed byte w
followed regions listed w found fetched on inside byte small =
    let l = leads found.instr byte found.next w.machine on in
    record {
      next = record { machine = l.0; places = places_after found.instr found.next w.machine.cpu.registers.flags w.places };
      step = record { found = found; byte = byte; after = l.0; fetched = fetched; small = small; inside = inside; goes = l.1; is = refl };
      brought = refl;
    }

-- ---- if SP is set when a run begins, it stays so

pub stays_set : (regions : Areas) (listed : ℕ → Type 0) (start : Machine) (set : Bool) (w : World) → OnBoard regions listed start true set w → set ≡ true
stays_set regions listed start set w (begins _ _ is same) = same
stays_set regions listed start set w (disturbed _ v _ on by) = stays_set regions listed start set v on
stays_set regions listed start set w (executed before _ v _ on by is) = is ∙ ap (λ (b : Bool). b || sets_sp by.found.instr) (stays_set regions listed start before v on)

-- the worlds of a board whose run begins with SP at the stack's top
abbrev pub OnSetBoard : Located → Machine → World → Type 0
OnSetBoard image start w = OnBoard image.regions Anywhere start true true w

pub is_on_set : (image : Located) (start : Machine) (set : Bool) (w : World) → OnBoard image.regions Anywhere start true set w → OnSetBoard image start w
is_on_set image start set w on = subst (λ (b : Bool). OnBoard image.regions Anywhere start true b w) (stays_set image.regions Anywhere start set w on) on

-- ---- the HLT behind an EI is the board's too

first_of : (a b : Bool) → (a && b) ≡ true → a ≡ true
first_of true b h = refl
first_of false b h = absurd (cc)

pub halts_there : (regions : Areas) (old memory : List ℕ) (at : ℕ) → ((address : ℕ) → in_code regions address ≡ true → slice_index old address ≡ slice_index memory address) →
    halt_follows regions old at ≡ true → halt_follows regions memory at ≡ true
halts_there regions old memory at same h =
    ap (λ (byte : ℕ). in_code regions (ahead at 1) && nat_eq byte (opcode Hlt)) (sym (same (ahead at 1) (first_of (in_code regions (ahead at 1)) (nat_eq (slice_index old (ahead at 1)) (opcode Hlt)) h))) ∙ h
