-- On a board each world is watched, and stands on a walk.
use Rattle.std.specs.Prelude.{◌≡◌, ℕ, suc, ◌+◌, ◌-◌, ◌<◌, ◌≤◌, Bool, true, false, slice_index, List, Option, None, Some, All, length}
use Rattle.std.proofs.Common.{◌∙◌, ap, sym, subst, arith}
use Rattle.decode80.specs.declared.fetching.Fetched.{Fetched}
use Rattle.decode80.specs.Fetch.{direct_bytes, FetchReadsCodeAlone}
use Rattle.frames80.specs.Places.{ChangesByPlaces, ReturnsByPlaces}
use Rattle.frames80.specs.declared.procedure.Procedure.TheVariants.{Main}
use Rattle.image80.specs.Regions.{in_data}
use Rattle.image80.specs.Image.{Located, memory_of}
use Rattle.machine80.specs.declared.end.End.{End}
use Rattle.machine80.specs.declared.end.End.TheVariants.{StoreOutside}
use Rattle.machine80.specs.Effects.{pointed_bytes, target}
use Rattle.machine80.specs.Step.{Machine, Next, execute, guard, guarded, ends_at, step_on}
use Rattle.machine80.specs.World.{World, places_after, returns}
use Rattle.verify80_flow.specs.Fitting.{Table, Fits, IsFitted}
use Rattle.verify80_flow.specs.FittingLaws.{NoFault}
use Rattle.verify80.specs.Looking.{code_of}
use Rattle.verify80.specs.LookLaws.{LooksFindWhatIsAdmitted, IsAdmitted}
use Rattle.verify80.specs.Starts.{IsStart}
use Rattle.verify80.specs.Reached.{IsBehindCall}
use Rattle.verify80.specs.Boards.{IsPushed, LeavesProgram, respected_pointer, with_memory, fetched_anywhere, unguarded, StaysInside}
use Rattle.verify80.specs.Boards.{Executes, OnBoard, begins, disturbed, executed, Anywhere, KeepsPromise, KeepsToWalks, IsGuarded}
use Rattle.verify80.proofs.StoreLemmas.{Ground, pushed_keep_words}
use Rattle.verify80.proofs.ChainLemmas.{Watched, chain_kept}
use Rattle.verify80.proofs.ArriveLemmas.{here_height, in_words, stack_in_memory}
use Rattle.verify80.proofs.WalkLemmas.{OnWalk}
use Rattle.verify80.proofs.Headline.{Finds, finds, begins_watched, passes_guard, same_found, all_pass}
use Rattle.verify80.proofs.Along.{starts, along}
use Rattle.verify80.proofs.BoardSteps.{fetched_inside, fetched_of, none_of, bridges, followed, stays_set, OnSetBoard, halts_there}

found_in : {a b : Fetched} → Some a ≡ Some b → a ≡ b
found_in {a} h = let e : Some a ≡ Some _ = h in cc

-- a world on a walk
abbrev Walks : Located → World → Type 0
Walks image w = OnWalk (code_of image) w.machine.cpu.pc w.places

module _ (image : Located) (table : Table) (most : ℕ) (rules : Ground image.regions) (fits : Fits (code_of image) table) (printed : table.bound Main ≡ most) (within : most ≤ image.regions.stack.length)
    (changes : ChangesByPlaces) (returns_law : ReturnsByPlaces) (looks : LooksFindWhatIsAdmitted) (fetches : FetchReadsCodeAlone) where
  abbrev Watches : World → Type 0
  Watches w = Watched image table most w

  abbrev finds_of : (w : World) → Watches w → Finds image table most rules fits printed within changes returns_law looks fetches w
  finds_of w s = finds image table most rules fits printed within changes returns_law looks fetches w s

  -- what the ports hold counts for nothing
  with_ports : (m : Machine) (places : List ℕ) (inputs : List (List ℕ)) (outputs : List (ℕ × ℕ)) → Watches (record { machine = m; places = places }) →
      Watches (record { machine = record m { inputs = inputs; outputs = outputs }; places = places })
  with_ports m places inputs outputs s = record {
    procedure = s.procedure;
    frame = s.frame;
    base = s.base;
    place = s.place;
    there = s.there;
    pointer = s.pointer;
    words = s.words;
    pairs = s.pairs;
    chain = s.chain;
    code = s.code;
    size = s.size;
  }

  -- nor do the bytes that are neither code nor pushed
  leaves_watched : (w : World) (memory : List ℕ) → Watches w → LeavesProgram image.regions w.machine.cpu.sp w.machine.memory memory → Watches (with_memory w memory)
  leaves_watched w memory s leaves =
      let high = here_height image table most rules fits within w s in
      let lies = stack_in_memory image.regions rules in
      let words = pushed_keep_words image.regions (s.base + length s.frame.words) w.machine.memory memory (omega (arith, high, within)) lies.«end» lies.length
      (subst (λ (sp : ℕ). (a : ℕ) → IsPushed image.regions sp a → slice_index memory a ≡ slice_index w.machine.memory a) s.pointer leaves.pushed) in
      record {
        procedure = s.procedure;
        frame = s.frame;
        base = s.base;
        place = s.place;
        there = s.there;
        pointer = s.pointer;
        words = λ i own. words.same (s.base + length s.frame.words - suc i) (let less = in_words s.frame.words i own in omega (arith, less)) ∙ s.words i own;
        pairs = s.pairs;
        chain = chain_kept table most (image.regions.stack.first + image.regions.stack.length) w.machine.memory memory s.procedure s.base s.frame.taken s.place w.places
            (record { same = λ k less. words.same k (omega (arith, less)) }) s.chain;
        code = record { bytes = λ a here. s.code.bytes a here ∙ sym (leaves.code a here) };
        size = leaves.size ∙ s.size;
      }

  -- what the board fetches is what was found
  finds_same : (w : World) (s : Watches w) (found : Fetched) → fetched_anywhere w.machine.memory w.machine.cpu.pc ≡ Some found → (finds_of w s).found ≡ found
  finds_same w s found h =
      let f = finds_of w s in
      found_in (sym (fetched_inside image.regions w.machine.memory w.machine.cpu.pc f.found f.fetched) ∙ h)

  -- what the board executes is a guarded step of the same world with other bytes at its ports
  abbrev with_inputs : World → List (List ℕ) → World
  with_inputs w inputs = record { machine = record w.machine { inputs = inputs }; places = w.places }

  record Steps (w : World) (s : Watches w) (found : Fetched) (after : Machine) : Type 0 where
    inputs : List (List ℕ)
    bytes : All (All (λ byte. byte < 256)) inputs
    there : Machine
    watched : Watches (with_inputs w inputs)
    same : (finds_of (with_inputs w inputs) watched).found ≡ found
    free : guard image.regions (finds_of (with_inputs w inputs) watched).found.instr w.machine.cpu ≡ None
    executes : execute image.regions false (finds_of (with_inputs w inputs) watched).found.instr (finds_of (with_inputs w inputs) watched).found.next (with_inputs w inputs).machine ≡ Next there
    is : record there { inputs = w.machine.inputs; outputs = w.machine.outputs } ≡ after

  steps : (w : World) (s : Watches w) (e_found : Fetched) (byte : ℕ) (after : Machine) → byte < 256 → fetched_anywhere w.machine.memory w.machine.cpu.pc ≡ Some e_found → StaysInside image.regions w.machine e_found.instr →
      unguarded e_found.instr byte e_found.next w.machine ≡ Some after → Steps w s e_found after
  steps w s found byte after small fetched inside goes =
      let b = bridges image.regions found.instr byte found.next w.machine after small inside.jumps goes in
      let v : World = with_inputs w b.inputs in
      let t : Watches v = with_ports w.machine w.places b.inputs w.machine.outputs s in
      let f = finds_of v t in
      let same : f.found ≡ found = finds_same v t found fetched in
      record {
        inputs = b.inputs;
        bytes = b.bytes;
        there = b.there;
        watched = t;
        same = same;
        free = passes_guard image table most rules fits printed within changes returns_law looks fetches v f
            ∙ ap (λ (o : Option ℕ). ends_at o StoreOutside None) (none_of (in_data image.regions) (pointed_bytes f.found.instr w.machine.cpu.registers)
            (subst (λ (x : Fetched). All (λ address. in_data image.regions address ≡ true) (pointed_bytes x.instr w.machine.cpu.registers)) (sym same) inside.stores));
        executes = subst (λ (x : Fetched). execute image.regions false x.instr x.next v.machine ≡ Next b.there) (sym same) b.executes;
        is = b.is;
      }

  executes_steps : (w v : World) (s : Watches w) (e : Executes image.regions Anywhere w v) → Steps w s e.found e.after
  executes_steps w v s e = steps w s e.found e.byte e.after e.small e.fetched (e.inside tt) e.goes

  -- so it leads to a watched world
  goes_watched : (w : World) (s : Watches w) (found : Fetched) (after : Machine) (g : Steps w s found after) → Watches (record { machine = after; places = places_after found.instr found.next w.machine.cpu.registers.flags w.places })
  goes_watched w s found after g =
      let f = finds_of (with_inputs w g.inputs) g.watched in
      let places : List ℕ = places_after f.found.instr f.found.next w.machine.cpu.registers.flags w.places in
      let on : Watches (record { machine = g.there; places = places }) = f.safe.goes_on false g.there g.free g.executes in
      subst (λ (x : Fetched). Watches (record { machine = after; places = places_after x.instr x.next w.machine.cpu.registers.flags w.places })) g.same
      (subst (λ (m : Machine). Watches (record { machine = m; places = places })) g.is
      (with_ports g.there places w.machine.inputs w.machine.outputs on))

  executes_watched : (w v : World) → Watches w → Executes image.regions Anywhere w v → Watches v
  executes_watched w v s e = subst Watches (sym e.is) (goes_watched w s e.found e.after (executes_steps w v s e))

  module _ (start : Machine) (is_start : IsStart image start) where
    watched_on_board : (set : Bool) (w : World) → OnBoard image.regions Anywhere start true set w → Watches w
    watched_on_board set w (begins _ _ is same) = subst Watches (sym is) (begins_watched image table most rules fits printed within changes returns_law looks fetches start is_start)
    watched_on_board set w (disturbed _ v _ on by) =
        let leaves : LeavesProgram image.regions v.machine.cpu.sp v.machine.memory by.memory =
        subst (λ (b : Bool). LeavesProgram image.regions (respected_pointer image.regions b v) v.machine.memory by.memory) (stays_set image.regions Anywhere start set v on) by.leaves in
        subst Watches (sym by.is) (leaves_watched v by.memory (watched_on_board set v on) leaves)
    watched_on_board set w (executed before _ v _ on by is) = executes_watched v w (watched_on_board before v on) by

    pub keeps_promise : (w : World) → OnSetBoard image start w → KeepsPromise image Anywhere most w
    keeps_promise w on =
        let s = watched_on_board true w on in
        let f = finds_of w s in
        let admitted : IsAdmitted image.regions (memory_of image.chunks) w.machine.cpu.pc f.found = (looks image.regions (memory_of image.chunks) w.machine.cpu.pc f.found).0 f.looked in
        record {
          found = f.found;
          anywhere = fetched_inside image.regions w.machine.memory w.machine.cpu.pc f.found f.fetched;
          inside = f.fetched;
          of_image = fetched_of image.regions (memory_of image.chunks) w.machine.cpu.pc f.found admitted.fetched;
          direct = all_pass (in_data image.regions) (direct_bytes f.found.instr) f.stores;
          declared = f.declared;
          returning = f.safe.returning;
          stack = f.safe.touches.below;
          halts = λ is_ei. halts_there image.regions (memory_of image.chunks) w.machine.memory w.machine.cpu.pc s.code.bytes (admitted.halts is_ei);
          goes_on = λ on inside byte small.
              followed image.regions Anywhere w f.found (fetched_inside image.regions w.machine.memory w.machine.cpu.pc f.found f.fetched) on inside byte small;
        }

    pub steps_are_guarded : (w v : World) → OnSetBoard image start w → (e : Executes image.regions Anywhere w v) → IsGuarded image.regions w.machine e.after
    steps_are_guarded w v on e =
        let g = executes_steps w v (watched_on_board true w on) e in
        let u = with_inputs w g.inputs in
        let f = finds_of u g.watched in
        record {
          inputs = g.inputs;
          bytes = g.bytes;
          there = g.there;
          step = ap (λ (o : Option Fetched). step_on image.regions false o u.machine) f.fetched
              ∙ ap (λ (o : Option End). guarded image.regions o false f.found u.machine) g.free ∙ g.executes;
          is = g.is;
        }

    module _ (none : NoFault (code_of image)) where
      goes_on_walks : (w : World) (s : Watches w) (o : Walks image w) (found : Fetched) (after : Machine) (g : Steps w s found after) →
          OnWalk (code_of image) after.cpu.pc (places_after found.instr found.next w.machine.cpu.registers.flags w.places)
      goes_on_walks w s o found after g =
          let v = with_inputs w g.inputs in
          let f = finds_of v g.watched in
          let a = along image table most rules fits printed within changes returns_law looks fetches none v f o in
          let places : List ℕ = places_after f.found.instr f.found.next w.machine.cpu.registers.flags w.places in
          let on : OnWalk (code_of image) g.there.cpu.pc places = a.goes_on false g.there g.executes in
          subst (λ (x : Fetched). OnWalk (code_of image) after.cpu.pc (places_after x.instr x.next w.machine.cpu.registers.flags w.places)) g.same
          (subst (λ (m : Machine). OnWalk (code_of image) m.cpu.pc places) g.is on)

      walks_on_board : (set : Bool) (w : World) → OnBoard image.regions Anywhere start true set w → Walks image w
      walks_on_board set w (begins _ _ is same) = subst (Walks image) (sym is) (starts image table most rules fits printed within changes returns_law looks fetches none start is_start)
      walks_on_board set w (disturbed _ v _ on by) = subst (Walks image) (sym by.is) (walks_on_board set v on)
      walks_on_board set w (executed before _ v _ on by is) =
          let s = watched_on_board before v on in
          subst (Walks image) (sym by.is) (goes_on_walks v s (walks_on_board before v on) by.found by.after (executes_steps v w s by))

      pub keeps_to_walks : (w : World) → OnSetBoard image start w → KeepsToWalks image w
      keeps_to_walks w on =
          let s = watched_on_board true w on in
          let o = walks_on_board true w on in
          let f = finds_of w s in
          record {
            stands = record { reached = record { procedure = o.procedure; frame = o.frame; walk = o.walk }; found = f.found; looked = f.looked; fetched = f.fetched };
            returning = λ found fetched taken.
                let same = same_found image table most rules fits printed within changes returns_law looks fetches w f found fetched in
                subst (λ (x : Fetched). returns x.instr w.machine.cpu.registers.flags ≡ true → IsBehindCall (code_of image) (target x.instr x.next w.machine.memory w.machine.cpu)) same
                (along image table most rules fits printed within changes returns_law looks fetches none w f o).behind taken;
          }

-- an image that is fitted keeps its promise on boards
pub fitted_keeps_promise : ChangesByPlaces → ReturnsByPlaces → LooksFindWhatIsAdmitted → FetchReadsCodeAlone → (image : Located) (bytes : ℕ) → Ground image.regions → IsFitted (code_of image) bytes →
    bytes ≤ image.regions.stack.length → (start : Machine) → IsStart image start → (w : World) → OnSetBoard image start w → KeepsPromise image Anywhere bytes w
fitted_keeps_promise changes returns_law looks fetches image bytes ground fitted enough start is_start w on =
    keeps_promise image fitted.table bytes ground fitted.fits fitted.printed enough changes returns_law looks fetches start is_start w on

-- its steps there are guarded ones
pub fitted_steps_are_guarded : ChangesByPlaces → ReturnsByPlaces → LooksFindWhatIsAdmitted → FetchReadsCodeAlone → (image : Located) (bytes : ℕ) → Ground image.regions → IsFitted (code_of image) bytes →
    bytes ≤ image.regions.stack.length → (start : Machine) → IsStart image start → (w v : World) → OnSetBoard image start w → (e : Executes image.regions Anywhere w v) → IsGuarded image.regions w.machine e.after
fitted_steps_are_guarded changes returns_law looks fetches image bytes ground fitted enough start is_start w v on e =
    steps_are_guarded image fitted.table bytes ground fitted.fits fitted.printed enough changes returns_law looks fetches start is_start w v on e

-- and it stays on its walks
pub fitted_keeps_to_walks : ChangesByPlaces → ReturnsByPlaces → LooksFindWhatIsAdmitted → FetchReadsCodeAlone → (image : Located) (bytes : ℕ) → Ground image.regions → (fitted : IsFitted (code_of image) bytes) →
    NoFault (code_of image) → bytes ≤ image.regions.stack.length → (start : Machine) → IsStart image start → (w : World) → OnSetBoard image start w → KeepsToWalks image w
fitted_keeps_to_walks changes returns_law looks fetches image bytes ground fitted none enough start is_start w on =
    keeps_to_walks image fitted.table bytes ground fitted.fits fitted.printed enough changes returns_law looks fetches start is_start none w on
