-- On a board each world keeps to the table of states, so its stores go as they are listed.
use Rattle.verify80_stores.proofs.Names.{◌≡◌, ◌≢◌, ◌⊎◌, ℕ, Bool, true, false, List, [], All, Any, Contains, Option, Some, length, refl, ◌∙◌, subst, sym}
use Rattle.verify80_stores.proofs.Names.{ap, inl, inr, get_or, true≢false, Contains-get_or, Pchl, Fetched, Range, Areas, in_data, targets_at, Located}
use Rattle.verify80_stores.proofs.Names.{pointed_bytes, target, hl_of, Machine, leads_outside, world_of, World, IsNewest, fetched_by, places_after}
use Rattle.verify80_stores.proofs.Names.{places_then, returns, code_of, declared_targets, is_pchl, IsStart, NeverGoesWrongFromPowerOn, StandsOnWalk}
use Rattle.verify80_stores.proofs.Names.{StaysOnWalks, AreReached, Disturbs, fetched_anywhere, StaysInside, Executes, OnBoard, with_respected_pointer}
use Rattle.verify80_stores.proofs.Names.{respected_pointer, begins, disturbed, executed, Anywhere, KeepsPromise, MayStart, Placed, HoldsBytes, BytesStayBytes}
use Rattle.verify80_stores.proofs.Names.{KeepsTo, KeepsToCalls, RunsKeepTo, IsKnown, OpenStore, stores_by_pair, GoesAsListed, AreShown, KeptTable, AreKnown}
use Rattle.verify80_stores.proofs.Names.{AreAllBelow, AreOpen, Note, is_at, IsListedAt, KeepsWholePromise, PromiseHoldsOnBoards, PromiseHoldsOnQuietBoards}
use Rattle.verify80_stores.proofs.Names.{StaysQuiet, OnQuietBoard, is_quiet, begins_quiet, disturbed_quiet, executed_quiet, and_right, is_listed}
use Rattle.verify80_stores.proofs.StoreLemmas.{KeepsToEach, goes_if, jump_there, listed_or_not, not_outside}

-- what the ports hold counts for nothing
stands_so : (image : Located) (m : Machine) (places : List ℕ) (inputs : List (List ℕ)) (outputs : List (ℕ × ℕ)) → StandsOnWalk image (record { machine = record m { inputs = inputs; outputs = outputs }; places = places }) →
    StandsOnWalk image (record { machine = m; places = places })
stands_so image m places inputs outputs s = record { reached = s.reached; found = s.found; looked = s.looked; fetched = s.fetched }

abbrev keeps_so : (image : Located) (table : List Placed) (m : Machine) (places : List ℕ) (inputs : List (List ℕ)) (outputs : List (ℕ × ℕ)) → KeepsTo image table (record { machine = m; places = places }) →
    KeepsTo image table (record { machine = record m { inputs = inputs; outputs = outputs }; places = places })
keeps_so image table m places inputs outputs k = record {
  place = k.place;
  placed = k.placed;
  there = k.there;
  at = k.at;
  holds = record { known = record { registers = k.holds.known.registers; cells = k.holds.known.cells; source = k.holds.known.source }; words = k.holds.words };
  code = k.code;
  whole = k.whole;
}

-- a machine on which a run may begin is one with SP at the stack's top, but for SP
set_start : Located → (began : Bool) → Machine → Machine
set_start image began m = (with_respected_pointer image.regions began (world_of m)).machine

begins_set : (image : Located) (began : Bool) (m : Machine) → MayStart image began m → IsStart image (set_start image began m)
unfolding set_start
begins_set image true m is = is
begins_set image false m unset = record { pc = unset.pc; sp = refl; whole = unset.whole; code = unset.code }

set_world : (image : Located) (began : Bool) (m : Machine) → with_respected_pointer image.regions began (world_of m) ≡ world_of (set_start image began m)
unfolding set_start
set_world image true m = refl
set_world image false m = refl

set_bytes : (image : Located) (began : Bool) (m : Machine) → HoldsBytes m → HoldsBytes (set_start image began m)
unfolding set_start
set_bytes image true m held = held
set_bytes image false m held = record { registers = held.registers; memory = held.memory; inputs = held.inputs }

-- what disturbs a world disturbs it so, whatever its SP is
respected_disturbs : (regions : Areas) (set : Bool) (w v : World) → Disturbs regions (respected_pointer regions set w) w v → Disturbs regions (with_respected_pointer regions set w).machine.cpu.sp (with_respected_pointer regions set w) (with_respected_pointer regions set v)
respected_disturbs regions true w v by = by
respected_disturbs regions false w v by = record { memory = by.memory; leaves = by.leaves; is = ap (with_respected_pointer regions false) by.is }

respected_quiet : (regions : Areas) (quiet : ℕ → Bool) (set : Bool) (w v : World) (by : Disturbs regions (respected_pointer regions set w) w v) → StaysQuiet quiet w.machine.memory by.memory →
    StaysQuiet quiet (with_respected_pointer regions set w).machine.memory (respected_disturbs regions set w v by).memory
unfolding respected_disturbs
respected_quiet regions quiet true w v by stays = stays
respected_quiet regions quiet false w v by stays = stays

module _ (image : Located) (bytes : ℕ) (quiet : ℕ → Bool) (reached : List (Option Fetched)) (notes : List Note) (addresses : List ℕ) (stores : List OpenStore) (jumps open_jumps : List ℕ)
    (sound : NeverGoesWrongFromPowerOn image bytes) (walks : StaysOnWalks image) (are : AreReached (code_of image) reached) (whole : length reached ≡ 65536) (keeps : (t : KeptTable image quiet) → RunsKeepTo image t.table)
    (shown : AreShown image quiet reached notes) (each_store : AreAllBelow (is_at stores_by_pair reached) 65536 addresses)
    (open_below : AreOpen reached notes stores) (each_jump : AreAllBelow (is_at is_pchl reached) 65536 jumps) (each_open_jump : AreAllBelow (is_listed is_pchl true reached notes) 65536 open_jumps)
    (known : AreKnown image bytes) (stay : BytesStayBytes) where
  -- what a world of the board keeps to: each table, and what is owed to open calls
  abbrev Keeps : KeptTable image quiet → World → Type 0
  Keeps t w = KeepsToCalls image t.kept.returns t.kept.variables t.table w

  keeps_now : (t : KeptTable image quiet) (w : World) (inputs : List (List ℕ)) → Keeps t w → Keeps t (record { machine = record w.machine { inputs = inputs }; places = w.places })
  keeps_now t w inputs k = record { keeps = keeps_so image t.table w.machine w.places inputs w.machine.outputs k.keeps; set = k.set; owes = k.owes }

  keeps_then : (t : KeptTable image quiet) (w : World) (inputs : List (List ℕ)) (outputs : List (ℕ × ℕ)) (m : Machine) (places : List ℕ) → Keeps t (record { machine = m; places = places }) →
      Keeps t (record { machine = record m { inputs = inputs; outputs = outputs }; places = places })
  keeps_then t w inputs outputs m places k = record { keeps = keeps_so image t.table m places inputs outputs k.keeps; set = k.set; owes = k.owes }

  abbrev Listed : ℕ → Type 0
  Listed at = IsListedAt stores open_jumps at

  module _ (start : Machine) (is_start : IsStart image start) where
    -- a world of the board with SP at the stack's top when it began, at which each step so far has stayed inside
    record Stands (w : World) : Type 0 where
      on : OnBoard image.regions Anywhere start true true w
      keeps_each : (t : KeptTable image quiet) → Keeps t w
      held : HoldsBytes w.machine

    each_of : (w : World) (s : Stands w) → KeepsToEach image quiet w
    each_of w s = λ t. (s.keeps_each t).keeps

    promise_of : (w : World) → Stands w → KeepsPromise image Anywhere bytes w
    promise_of w s = known.promise start true is_start w true s.on

    stands_of : (w : World) → Stands w → StandsOnWalk image w
    stands_of w s = (known.boards start true is_start w true s.on).stands

    module _ (w : World) (s : Stands w) (found : Fetched) (fetched : fetched_anywhere w.machine.memory w.machine.cpu.pc ≡ Some found) where
      same : (promise_of w s).found ≡ found
      same = let p = (promise_of w s).anywhere in cc (p, fetched)

      fetched_here : fetched_by image.regions w ≡ Some found
      fetched_here = (promise_of w s).inside ∙ ap (λ (x : Fetched). Some x) same

      goes_listed : All (GoesAsListed image.regions stores w.machine.cpu.pc) (pointed_bytes found.instr w.machine.cpu.registers)
      goes_listed k d inside =
          goes_if image bytes quiet reached notes addresses stores jumps open_jumps sound walks are whole keeps shown each_store open_below each_jump each_open_jump w found (stands_of w s) (each_of w s) fetched_here
          (get_or (pointed_bytes found.instr w.machine.cpu.registers) k d) (Contains-get_or (pointed_bytes found.instr w.machine.cpu.registers) k d inside)

      jump_listed : found.instr ≡ Pchl → Contains open_jumps w.machine.cpu.pc ⊎ Contains (declared_targets image.regions w.machine.cpu.pc) (hl_of w.machine.cpu.registers)
      jump_listed is =
          jump_there image bytes quiet reached notes addresses stores jumps open_jumps sound walks are whole keeps shown each_store open_below each_jump each_open_jump w found (stands_of w s) (each_of w s) fetched_here
          (ap is_pchl is)

      -- a step that isn't listed stays inside, and one that is does so by the premise
      module _ (inside : Listed w.machine.cpu.pc → StaysInside image.regions w.machine found.instr) where
        stores_inside : Any (λ store. store.at ≡ w.machine.cpu.pc) stores ⊎ All (λ store. store.at ≢ w.machine.cpu.pc) stores → All (λ address. in_data image.regions address ≡ true) (pointed_bytes found.instr w.machine.cpu.registers)
        stores_inside (inl listed) = (inside (inl listed)).stores
        stores_inside (inr none) = λ k d within. (goes_listed k d within).unlisted none

        jumps_inside : found.instr ≡ Pchl → Contains open_jumps w.machine.cpu.pc ⊎ Contains (declared_targets image.regions w.machine.cpu.pc) (hl_of w.machine.cpu.registers) →
            leads_outside (targets_at image.regions w.machine.cpu.pc) (hl_of w.machine.cpu.registers) ≡ false
        jumps_inside is (inl listed) = (inside (inr listed)).jumps is
        jumps_inside is (inr target) = not_outside (targets_at image.regions w.machine.cpu.pc) (hl_of w.machine.cpu.registers) target

        stays : StaysInside image.regions w.machine found.instr
        stays = record { stores = stores_inside (listed_or_not w.machine.cpu.pc stores); jumps = λ is. jumps_inside is (jump_listed is) }

    -- a step leads to such a world
    module _ (w v : World) (s : Stands w) (e : Executes image.regions Anywhere w v) where
      newest : (found : Fetched) → fetched_by image.regions w ≡ Some found → returns found.instr w.machine.cpu.registers.flags ≡ true → IsNewest (target found.instr found.next w.machine.memory w.machine.cpu) w.places
      newest found fetched taken =
          let p = promise_of w s in
          let one : p.found ≡ found = (let f : fetched_by image.regions w ≡ Some p.found = p.inside in cc) in
          subst (λ (x : Fetched). returns x.instr w.machine.cpu.registers.flags ≡ true → IsNewest (target x.instr x.next w.machine.memory w.machine.cpu) w.places) one p.returning taken

      goes_on : Stands v
      goes_on =
          let on : OnBoard image.regions Anywhere start true true v = executed true true w v s.on e refl in
          let g = known.guarded start true is_start w v true s.on e in
          let places : List ℕ = places_after e.found.instr e.found.next w.machine.cpu.registers.flags w.places in
          let u : World = record { machine = record w.machine { inputs = g.inputs }; places = w.places } in
          let there : World = record { machine = g.there; places = places } in
          let v_is : v ≡ record { machine = record g.there { inputs = w.machine.inputs; outputs = w.machine.outputs }; places = places } =
          e.is ∙ ap (λ (m : Machine). record { machine = m; places = places }) (sym g.is) in
          let held : HoldsBytes u.machine = record { registers = s.held.registers; memory = s.held.memory; inputs = g.bytes } in
          let held_there : HoldsBytes g.there = stay image.regions false u.machine g.there held g.step in
          let walk = known.boards start true is_start w true s.on in
          let p = promise_of w s in
          let known_here : IsKnown image u = record {
            stands = record { reached = walk.stands.reached; found = walk.stands.found; looked = walk.stands.looked; fetched = walk.stands.fetched };
            returning = λ found fetched taken. newest found fetched taken;
            inside = record { found = p.found; fetched = p.inside; direct = p.direct; declared = p.declared };
          } in
          let stands_there : StandsOnWalk image there = stands_so image g.there places w.machine.inputs w.machine.outputs (subst (StandsOnWalk image) v_is (known.boards start true is_start v true on).stands) in
          let newer : places ≡ places_then (fetched_by image.regions w) w.machine.cpu.registers.flags w.places =
          sym (ap (λ (o : Option Fetched). places_then o w.machine.cpu.registers.flags w.places) (fetched_here w s e.found e.fetched)) in
          record {
            on = on;
            keeps_each = λ t.
                subst (Keeps t) (sym v_is)
                (keeps_then t w w.machine.inputs w.machine.outputs g.there places (t.kept.steps false u there known_here stands_there held held_there (keeps_now t w g.inputs (s.keeps_each t)) g.step newer));
            held = subst (λ (x : World). HoldsBytes x.machine) (sym v_is) (record { registers = held_there.registers; memory = held_there.memory; inputs = s.held.inputs });
          }

    -- and so does what devices write
    moves : (w v : World) → Stands w → (by : Disturbs image.regions w.machine.cpu.sp w v) → StaysQuiet quiet w.machine.memory by.memory → Stands v
    moves w v s by stays = record {
      on = disturbed true w v s.on by;
      keeps_each = λ t. subst (Keeps t) (sym by.is) (t.kept.disturbed w by.memory by.leaves stays (s.keeps_each t));
      held = subst (λ (x : World). HoldsBytes x.machine) (sym by.is) (record { registers = s.held.registers; memory = by.leaves.bytes; inputs = s.held.inputs });
    }

    begun : HoldsBytes start → Stands (world_of start)
    begun held =
        let on : OnBoard image.regions Anywhere start true true (world_of start) = begins true (world_of start) refl refl in
        let stands = (known.boards start true is_start (world_of start) true on).stands in
        record {
          on = on;
          keeps_each = λ t. t.kept.starts start is_start.pc is_start.code is_start.whole held stands;
          held = held;
        }

    -- the same of a world with any SP, as long as that isn't set
    respected : (set : Bool) (w : World) → Stands (with_respected_pointer image.regions set w) → (found : Fetched) → fetched_anywhere w.machine.memory w.machine.cpu.pc ≡ Some found →
        All (GoesAsListed image.regions stores w.machine.cpu.pc) (pointed_bytes found.instr w.machine.cpu.registers) × (
        (found.instr ≡ Pchl → Contains open_jumps w.machine.cpu.pc ⊎ Contains (declared_targets image.regions w.machine.cpu.pc) (hl_of w.machine.cpu.registers))
        × ((Listed w.machine.cpu.pc → StaysInside image.regions w.machine found.instr) → StaysInside image.regions w.machine found.instr)
        )
    respected true w s found fetched = (goes_listed w s found fetched, (jump_listed w s found fetched, stays w s found fetched))
    respected false w s found fetched =
        let v = with_respected_pointer image.regions false w in (
          goes_listed v s found fetched,
          (
            jump_listed v s found fetched,
            λ inside.
                let there = stays v s found fetched (λ listed. record { stores = (inside listed).stores; jumps = (inside listed).jumps }) in
                record { stores = there.stores; jumps = there.jumps },
          ),
        )

  module _ (start : Machine) (began : Bool) (may_start : MayStart image began start) (start_bytes : HoldsBytes start) where
    abbrev StandsRespected : Bool → World → Type 0
    StandsRespected set w = Stands (set_start image began start) (begins_set image began start may_start) (with_respected_pointer image.regions set w)

    record Goes (set : Bool) (w : World) : Type 0 where
      on : OnBoard image.regions Anywhere start began set w
      stands : StandsRespected set w

    always : (set : Bool) (w : World) → OnQuietBoard image.regions quiet Listed start began set w → Goes set w
    always set w (begins_quiet _ _ is same) = record {
      on = begins set w is same;
      stands =
          let s = begun (set_start image began start) (begins_set image began start may_start) (set_bytes image began start start_bytes) in
          subst (λ (x : World). StandsRespected set x) (sym is)
          (subst (λ (x : Bool). StandsRespected x (world_of start)) (sym same)
          (subst (Stands (set_start image began start) (begins_set image began start may_start)) (sym (set_world image began start)) s));
    }
    always set w (disturbed_quiet _ v _ on by stays) =
        let g = always set v on in
        record {
          on = disturbed set v w g.on by;
          stands =
              moves (set_start image began start) (begins_set image began start may_start) (with_respected_pointer image.regions set v) (with_respected_pointer image.regions set w) g.stands
              (respected_disturbs image.regions set v w by) (respected_quiet image.regions quiet set v w by stays);
        }
    always set w (executed_quiet before _ v _ on by is) =
        let g = always before v on in
        let inside = (respected (set_start image began start) (begins_set image began start may_start) before v g.stands by.found by.fetched).1.1 by.inside in
        let e : Executes image.regions Anywhere v w =
        record { found = by.found; byte = by.byte; after = by.after; fetched = by.fetched; small = by.small; inside = λ listed. inside; goes = by.goes; is = by.is } in
        record {
          on = executed before set v w g.on e is;
          stands =
              goes_on (set_start image began start) (begins_set image began start may_start) (with_respected_pointer image.regions before v) (with_respected_pointer image.regions set w) g.stands
              (known.unset start began may_start v w before set g.on e is);
        }

    keeps_whole : (set : Bool) (w : World) → OnQuietBoard image.regions quiet Listed start began set w → KeepsWholePromise image bytes stores open_jumps w
    keeps_whole set w on =
        let g = always set w on in
        let p = known.promise start began may_start w set g.on in
        let respects = respected (set_start image began start) (begins_set image began start may_start) set w g.stands p.found p.anywhere in
        record {
          promise = record {
            found = p.found;
            anywhere = p.anywhere;
            inside = p.inside;
            of_image = p.of_image;
            direct = p.direct;
            declared = p.declared;
            returning = p.returning;
            stack = p.stack;
            halts = p.halts;
            goes_on = λ not_halt inside byte small.
                let f = p.goes_on not_halt (λ anywhere. respects.1.1 inside) byte small in
                let e = f.step in
                record {
                  next = f.next;
                  step = record { found = e.found; byte = e.byte; after = e.after; fetched = e.fetched; small = e.small; inside = λ listed. e.inside tt; goes = e.goes; is = e.is };
                  brought = f.brought;
                };
          };
          stores = respects.0;
          jumps = respects.1.0;
        }

  -- so the promise holds on quiet boards
  pub holds_on_quiet_boards : PromiseHoldsOnQuietBoards image quiet bytes stores open_jumps
  holds_on_quiet_boards start began may_start start_bytes w set on = keeps_whole start began may_start start_bytes set w on

-- where nothing is quiet, each board is a quiet one
all_quiet : (regions : Areas) (quiet : ℕ → Bool) (listed : ℕ → Type 0) (start : Machine) (began : Bool) → ((at : ℕ) → quiet at ≡ false) → (set : Bool) (w : World) → OnBoard regions listed start began set w →
    OnQuietBoard regions quiet listed start began set w
all_quiet regions quiet listed start began none set w (begins _ _ is same) = begins_quiet set w is same
all_quiet regions quiet listed start began none set w (disturbed _ v _ on by) =
    disturbed_quiet set v w (all_quiet regions quiet listed start began none set v on) by (λ at here. absurd (true≢false (sym here ∙ none at)))
all_quiet regions quiet listed start began none set w (executed before _ v _ on by is) = executed_quiet before set v w (all_quiet regions quiet listed start began none before v on) by is

pub holds_on_boards : (image : Located) (ranges : List Range) (bytes : ℕ) (stores : List OpenStore) (open_jumps : List ℕ) → PromiseHoldsOnQuietBoards image (is_quiet image.regions ranges) bytes stores open_jumps → ranges ≡ [] →
    PromiseHoldsOnBoards image bytes stores open_jumps
holds_on_boards image ranges bytes stores open_jumps holds none start began may_start start_bytes w set on =
    holds start began may_start start_bytes w set
    (all_quiet image.regions (is_quiet image.regions ranges) (IsListedAt stores open_jumps) start began (λ at. ap (λ (r : List Range). is_quiet image.regions r at) none ∙ and_right (in_data image.regions at) false refl) set w on)
