-- A live machine keeps its promise: between interrupts a state of the program's table holds, and while a handler is executed one of the handler's table
-- does, below the bytes that the program has on the stack. When it is over, it has done no more than a device, or a state of the program's table holds of
-- which nothing is known.
use Rattle.std.specs.Prelude.{◌≡◌, ◌≢◌, ◌⊎◌, ◌≤◌, ◌<◌, ◌+◌, ◌-◌, ◌||◌, ℕ, zero, suc, ◌/◌, ◌%◌, Bool, true, false, List, [], ◌∷◌}
use Rattle.std.specs.Prelude.{◌++◌, Option, None, Some, Result, Ok, Err, All, Contains, length, nat_eq, slice_index, if◌then◌else◌}
use Rattle.std.specs.{Result.result_ok}
use Rattle.std.proofs.Common.{ap, arith, get_or, inl, inr, refl, subst, sym, true≢false, ◌∙◌}
use Rattle.std.proofs.lemmas.{Bool.Decides.nat_tests}
use Rattle.std.proofs.lemmas.List.Elements.{All-append, All-cons, All-head, All-nil, All-tail, Contains-get_or}
use Rattle.decode80.specs.{Decoded.decoded, Facts.flow, Fetch.admitted_if_used, Fetch.ahead, Fetch.behind, Fetch.direct_bytes}
use Rattle.decode80.specs.{Fetch.fetch as fetch_in, declared.fetching.FetchFault.FetchFault}
use Rattle.decode80.specs.{declared.fetching.FetchFault.TheVariants.Outside, declared.fetching.Fetched.Fetched, declared.instr.Instr.Instr}
use Rattle.decode80.specs.declared.instr.Instr.TheVariants.{Di, Ei, Hlt, Lxi, Pchl, Ret}
use Rattle.decode80.specs.declared.pair.Pair.TheVariants.{Sp}
use Rattle.decode80.specs.declared.pair.StackPair.{StackPair}
use Rattle.decode80.specs.declared.pair.StackPair.TheVariants.{Bc as StackBc, De as StackDe, Hl as StackHl, Psw}
use Rattle.image80.specs.{Image.Located, Image.memory_of, Range.IsInMemory, Range.in_range, Range.in_ranges, Regions.AreRegions}
use Rattle.image80.specs.{Regions.Areas, Regions.held, Regions.in_code, Regions.in_data, Regions.targets_at, Regions.top_of}
use Rattle.image80.specs.declared.range.Range.{Range}
use Rattle.machine80.specs.{Cpu.hl_of, Effects.byte_in, Effects.pointed_bytes, Effects.stack_bytes, Effects.stored, Effects.stores}
use Rattle.machine80.specs.{Effects.target, Effects.word_in, FactsLaws.stacked_by, World.World}
use Rattle.machine80.specs.{World.places_after, World.returns, declared.cpu.Cpu.Cpu, declared.registers.Registers.Registers}
use Rattle.machine80.specs.Step.{Machine, fetch, proceeded}
use Rattle.verify80.specs.Boards.{Disturbs, Executes, IsPushed, StaysInside, fetched_anywhere, respected_pointer, sets_sp, unguarded, with_memory}
use Rattle.verify80.specs.LookLaws.{fetch_at}
use Rattle.verify80.specs.Looking.{declared_targets, is_declared}
use Rattle.verify80_states.specs.{Bytes.HoldsBytes, Known.nothing_known, QuietBoards.StaysQuiet, Steps.HasCode}
use Rattle.verify80_follow.specs.declared.{followed.FollowedState.FollowedState, followed.Listed.Listed, followed.Way.Way, stack.StackBounds.StackBounds}
use Rattle.verify80_follow.specs.InterruptedBoards.{Wakes, enabled_after, with_pc}
use Rattle.verify80_follow.specs.Stack.{bounds_of, pointer_at}
use Rattle.verify80_follow.specs.Held.{Entry, HoldsBeside, HoldsPairHeld, HoldsSaved, count_of, nothing_beside}
use Rattle.verify80_follow.specs.Follows.{Fitting, Follows, IsWay, fitting, StateFollows, StateStands, places_among, stack_of, uses_pointer, entered_stack, ways_of}
use Rattle.verify80_follow.specs.Handling.{BeginsAnew, EndsAt, GivesBack, HandlerTable, Handles, HandlesAmong, IsReturn, entered_beside, entered_pair, handler_fitting, on_stack}
use Rattle.verify80_follow.specs.Promise.{GoesToListed, IsLeftOpenAt, IsOnStack, IsReady, KeepsFollowed, KnowsWorld}
use Rattle.verify80_follow.specs.Live.{Enable, HandlerBounds, IsHaltedBefore, KeepsHandler, LiesBelow, LiveMachinesKeepThePromise, OnLiveBoard, PromiseOfLive, Takes, begins, disturbed}
use Rattle.verify80_follow.specs.Live.{enable_after, entering, executed, interrupted, is_back, may_come, off, on, passed, soon, under_after, world_after}
use Rattle.verify80_follow.proofs.{FetchLemmas.anywhere_of, FetchLemmas.fetched_here, FetchLemmas.inside_of, GroundLemmas.Ground, RelativeLemmas.fits_more, RelativeLemmas.moved}
use Rattle.verify80_follow.proofs.CallLemmas.{Knows as KnowsCalls, begun as begun_calls, disturbs as disturbs_calls, executes as executes_calls}
use Rattle.verify80_follow.proofs.CallLemmas.{in_main, keeps as keeps_calls, ready as ready_calls, stands as stands_calls, wakes as wakes_calls}
use Rattle.verify80_follow.proofs.PartLemmas.{executes_moved, into_back, into_bytes, into_stack, into_whole, off_part, off_stack, part_below}
use Rattle.verify80_follow.proofs.PartLemmas.{part_inside, regions_below, same_ok, stacked_within, stands_at, two_above}
use Rattle.verify80_follow.specs.StepLaws.{StepLaws}
use Rattle.verify80_follow.proofs.FollowLemmas.{disturbs as disturbs_table, enters as enters_table, executes_found, goes_on}
use Rattle.verify80_follow.proofs.FollowLemmas.{keeps as keeps_table, leaves, nobody, one_of, points, same_some, stays_inside, touches_stack}
use Rattle.verify80_follow.proofs.HeldLemmas.{all_of, nothing_holds, stored_other, two_of}
use Rattle.verify80_stores.specs.Opening.{pointer_span}
use Rattle.verify80_follow.proofs.GuardLemmas.{Touches, all_of_list, at_count}
use Rattle.verify80_follow.proofs.StackLemmas.{next_pointer, pointer_below, pointer_is, range_high}

-- flags of both boards
flag_same : (i : Instr) (flag : Enable) → enabled_after i (may_come flag) ≡ may_come (enable_after i flag)
flag_same Ei flag = refl
flag_same Di flag = refl
flag_same i off = refl
flag_same i soon = refl
flag_same i on = refl

flags_more : (i : Instr) (flag : Enable) (enabled : Bool) → (may_come flag ≡ true → enabled ≡ true) → may_come (enable_after i flag) ≡ true → enabled_after i enabled ≡ true
flags_more Ei flag enabled more is = refl
flags_more Di flag enabled more is = cc
flags_more i off enabled more is = cc
flags_more i soon enabled more is = more refl
flags_more i on enabled more is = more refl

-- an unguarded step leaves what waits at the ports
ports : (i : Instr) (byte next : ℕ) (m after : Machine) → unguarded i byte next m ≡ Some after → (after.inputs ≡ m.inputs) × (after.outputs ≡ m.outputs)
ports Hlt byte next m after is = cc
ports i byte next m after is = subst (λ (n : Machine). (n.inputs ≡ m.inputs) × (n.outputs ≡ m.outputs)) (same_some _ _ is) (refl, refl)

-- a RET
ret_goes : (byte next : ℕ) (m after : Machine) → unguarded Ret byte next m ≡ Some after → after ≡ proceeded Ret next m
ret_goes byte next m after is = sym (same_some _ _ is)

-- records of which each part is the same
same_registers : (r s : Registers) → r.a ≡ s.a → r.b ≡ s.b → r.c ≡ s.c → r.d ≡ s.d → r.e ≡ s.e → r.h ≡ s.h → r.l ≡ s.l → r.flags ≡ s.flags → r ≡ s
same_registers r s a b c d e h l flags =
    ap (λ n. record r { a = n }) a ∙ ap (λ n. record r { a = s.a; b = n }) b ∙ ap (λ n. record r { a = s.a; b = s.b; c = n }) c ∙ ap (λ n. record r { a = s.a; b = s.b; c = s.c; d = n }) d
    ∙ ap (λ n. record r { a = s.a; b = s.b; c = s.c; d = s.d; e = n }) e ∙ ap (λ n. record r { a = s.a; b = s.b; c = s.c; d = s.d; e = s.e; h = n }) h
    ∙ ap (λ n. record r { a = s.a; b = s.b; c = s.c; d = s.d; e = s.e; h = s.h; l = n }) l ∙ ap (λ n. record s { flags = n }) flags

same_cpu : (p q : Cpu) → p.registers ≡ q.registers → p.sp ≡ q.sp → p.pc ≡ q.pc → p ≡ q
same_cpu p q registers sp pc = ap (λ r. record p { registers = r }) registers ∙ ap (λ n. record p { registers = q.registers; sp = n }) sp ∙ ap (λ n. record q { pc = n }) pc

same_machine : (p q : Machine) → p.cpu ≡ q.cpu → p.memory ≡ q.memory → p.inputs ≡ q.inputs → p.outputs ≡ q.outputs → p ≡ q
same_machine p q cpu memory inputs outputs =
    ap (λ c. record p { cpu = c }) cpu ∙ ap (λ l. record p { cpu = q.cpu; memory = l }) memory ∙ ap (λ l. record p { cpu = q.cpu; memory = q.memory; inputs = l }) inputs ∙ ap (λ l. record q { outputs = l }) outputs

nat_eq_same : (n : ℕ) → nat_eq n n ≡ true
nat_eq_same n = grind (arith, nat_tests)

ei_goes : (byte next : ℕ) (m after : Machine) → unguarded Ei byte next m ≡ Some after → after ≡ proceeded Ei next m
ei_goes byte next m after is = sym (same_some _ _ is)

fetched_ok : (regions : Areas) (memory : List ℕ) (at : ℕ) (found : Fetched) → fetch regions memory at ≡ Some found → fetch_at regions memory at ≡ Ok found
unfolding fetch
fetched_ok regions memory at found is = of (fetch_at regions memory at) refl is where
  of : (r : Result Fetched FetchFault) → fetch_at regions memory at ≡ r → result_ok r ≡ Some found → fetch_at regions memory at ≡ Ok found
  of (Ok other) was some = was ∙ ap (λ (f : Fetched). Ok f) (same_some other found some)
  of (Err fault) was none = cc

-- an LXI that sets SP
lxi_goes : (n byte next : ℕ) (m after : Machine) → unguarded (Lxi Sp n) byte next m ≡ Some after → after ≡ proceeded (Lxi Sp n) next m
lxi_goes n byte next m after is = sym (same_some _ _ is)

sets_uses : (i : Instr) → uses_pointer i ≡ false → sets_sp i ≡ false
sets_uses (Lxi Sp n) fixed = cc
sets_uses i fixed = refl

-- code is in memory
front_of : {X : Type 0} (P : X → Type 0) (xs ys : List X) → All P (xs ++ ys) → All P xs
front_of P [] ys each = All-nil P
front_of P (x ∷ xs) ys each = All-cons P x xs (All-head P x (xs ++ ys) each) (front_of P xs ys (All-tail P x (xs ++ ys) each))

small_in : (ranges : List Range) (a : ℕ) → All IsInMemory ranges → in_ranges ranges a ≡ true → a < 65536
small_in [] a each there = cc
small_in (x ∷ xs) a each there = by (small_in xs a (All-tail IsInMemory x xs each)) (in_range x a) refl there where
  by : (in_ranges xs a ≡ true → a < 65536) → (b : Bool) → in_range x a ≡ b → (b || in_ranges xs a) ≡ true → a < 65536
  by rest true is any = let high = range_high x.first x.length a is in let ends = (All-head IsInMemory x xs each).«end» in omega (arith, high, ends)
  by rest false is any = rest any

tested : (test : Bool) (answer : Result Fetched FetchFault) (found : Fetched) → (if test then answer else Err Outside) ≡ Ok found → test ≡ true
tested true answer found h = refl
tested false answer found h = absurd (cc)

fetched_small : (regions : Areas) → AreRegions regions → (memory : List ℕ) (at : ℕ) (found : Fetched) → fetch_at regions memory at ≡ Ok found → at < 65536
unfolding fetch_in
fetched_small regions rules memory at found is =
    small_in regions.code at (front_of IsInMemory regions.code (regions.stack ∷ regions.data_ranges) rules.in_memory) (tested (in_code regions at) (admitted_if_used (in_code regions) at (decoded (slice_index memory at) (slice_index memory (ahead at 1)) (slice_index memory (ahead at 2)))) found is)

module _ (laws : StepLaws) (grounds : (regions : Areas) → AreRegions regions → Ground regions) (image : Located) (quiet : ℕ → Bool) (is_set : Bool) (handlers places : List ℕ) (ways : List Way) (listed : Listed) (main : ℕ) (inner : HandlerBounds) (rules : AreRegions image.regions)
    (quiet_data : (at : ℕ) → quiet at ≡ true → in_data image.regions at ≡ true) (loud : (at : ℕ) → quiet at ≡ true → inner.written at ≡ false) (mtable : List FollowedState) (main_fits : Follows image true quiet is_set (ways_of ways places) listed mtable main)
    (placed : (at : ℕ) → Contains (places_among mtable main_fits.summaries) at → Contains places at)
    (tables : (h : ℕ) → Contains handlers h → HandlesAmong image mtable inner.written quiet inner.ways places listed inner.bytes h) (room : main + inner.bytes ≤ image.regions.stack.length) where
  abbrev ground : Ground image.regions
  ground = grounds image.regions rules

  abbrev below : (count : ℕ) → Located
  below count = on_stack image (part_below image.regions count)

  -- what the program's table is fitted to, and a handler's
  abbrev main_fitting : Fitting
  main_fitting = fitting image true quiet main_fits.code (ways_of ways places) listed main_fits.summaries mtable main

  abbrev fitted : {h : ℕ} → HandlerTable image mtable inner.written quiet inner.ways places listed inner.bytes h → Fitting
  fitted of = handler_fitting image quiet of.fits.code (ways_of of.ways places) listed of.table of.bytes

  ground_below : (count : ℕ) → Ground (below count).regions
  ground_below count = grounds (below count).regions (regions_below image.regions count rules)

  -- where the part of the stack ends
  top_is : (count : ℕ) → count ≤ image.regions.stack.length → pointer_at (bounds_of (below count)) 0 ≡ pointer_at (bounds_of image) count
  top_is count few = let ends = ground.stack_ends in omega (arith, few, ends)

  below_top : (b : StackBounds) (n : ℕ) → n ≤ 65535 → pointer_at b n ≡ behind (pointer_at b 0) n
  unfolding behind
  below_top b n few = omega (arith, few)

  never_at_top : (b : StackBounds) (n : ℕ) → 1 ≤ n → n < 65536 → b.top < 65536 → pointer_at b n ≢ pointer_at b 0
  never_at_top b n some few small = λ same. absurd (omega (arith, same, some, few, small))

  -- what a handler has left alone so far
  record LeftAlone (u w : World) : Type 0 where
    pushed : (a : ℕ) → IsPushed image.regions u.machine.cpu.sp a → slice_index w.machine.memory a ≡ slice_index u.machine.memory a
    quiet_same : StaysQuiet quiet u.machine.memory w.machine.memory
    inputs : w.machine.inputs ≡ u.machine.inputs
    outputs : w.machine.outputs ≡ u.machine.outputs

  abbrev entry_of : World → Entry
  entry_of u = record { registers = u.machine.cpu.registers; back = u.machine.cpu.pc }

  few_main : main ≤ image.regions.stack.length
  few_main = omega (arith, room)

  -- what is known between interrupts
  abbrev MainKnows : (set enabled : Bool) → World → Type 0
  MainKnows set enabled w = KnowsCalls laws grounds image true quiet is_set (ways_of ways places) listed mtable main rules quiet_data main_fits few_main placed set enabled w

  main_disturbs : (set enabled : Bool) (w v : World) → MainKnows set enabled w → (by : Disturbs image.regions (respected_pointer image.regions set w) w v) → StaysQuiet quiet w.machine.memory by.memory → MainKnows set enabled v
  main_disturbs = disturbs_calls laws grounds image true quiet is_set (ways_of ways places) listed mtable main rules quiet_data main_fits few_main placed

  main_executes : (before may : Bool) (w v : World) → MainKnows before may w → (by : Executes image.regions (IsLeftOpenAt listed) w v) → MainKnows (before || sets_sp by.found.instr) (enabled_after by.found.instr may) v
  main_executes = executes_calls laws grounds image true quiet is_set (ways_of ways places) listed mtable main rules quiet_data main_fits few_main placed

  main_wakes : (set : Bool) (w v : World) → MainKnows set true w → Wakes w v → MainKnows set true v
  main_wakes set w v k by = wakes_calls laws grounds image true quiet is_set (ways_of ways places) listed mtable main rules quiet_data main_fits few_main placed set true w v k refl refl by

  main_keeps : (set enabled : Bool) (w : World) → MainKnows set enabled w → KeepsFollowed image true main (ways_of ways places) listed w
  main_keeps = keeps_calls laws grounds image true quiet is_set (ways_of ways places) listed mtable main rules quiet_data main_fits few_main placed

  main_stands : (set enabled : Bool) (w : World) → MainKnows set enabled w → Contains (places_among mtable main_fits.summaries) w.machine.cpu.pc
  main_stands = stands_calls laws grounds image true quiet is_set (ways_of ways places) listed mtable main rules quiet_data main_fits few_main placed

  main_ready : (set : Bool) (w : World) → MainKnows set true w → IsReady image main set w
  main_ready set w k = ready_calls laws grounds image true quiet is_set (ways_of ways places) listed mtable main rules quiet_data main_fits few_main placed set true w k refl refl

  module _ (start : Machine) (pc : start.cpu.pc ≡ image.start) (whole : length start.memory ≡ 65536) (code : HasCode image start.memory) (held : HoldsBytes start) (top : is_set ≡ true → start.cpu.sp ≡ top_of image.regions) where
    record Runs (set : Bool) (flag : Enable) (w : World) : Type 0 where
      enabled : Bool
      main_known : MainKnows set enabled w
      more : may_come flag ≡ true → enabled ≡ true

    -- what is known while a handler is executed
    record Handling (u : World) (flag : Enable) (w : World) : Type 0 where
      h : ℕ
      of : HandlerTable image mtable inner.written quiet inner.ways places listed inner.bytes h
      placed_in : All (λ s. Contains places s.at) of.table
      count : ℕ
      few : count ≤ main
      at : u.machine.cpu.sp ≡ pointer_at (bounds_of image) count
      u_known : MainKnows true true u
      u_small : u.machine.cpu.pc < 65536
      known : KnowsWorld (below count) true (entry_of u) of.table true (may_come flag) w
      left : LeftAlone u w
      now : (flag ≡ off) ⊎ ((flag ≡ soon) × (IsReturn image w.machine.cpu.pc × (w.machine.cpu.sp ≡ pointer_at (bounds_of (below count)) 2)))

    abbrev Knows : (set : Bool) → Enable → Option World → World → Type 0
    Knows set flag None w = Runs set flag w
    Knows set flag (Some u) w = (set ≡ true) × Handling u flag w

    -- in a handler
    module _ (u : World) (flag : Enable) (w : World) (x : Handling u flag w) where
      abbrev m : Machine
      m = w.machine

      abbrev part : Located
      part = below x.count

      abbrev fitted_below : Fitting
      fitted_below = moved (fitted x.of) (part_below image.regions x.count)

      state : FollowedState
      state = x.known.state

      handles : Handles mtable inner.written x.of.bounds (fitted x.of) x.known.state
      handles = one_of (Handles mtable inner.written x.of.bounds (fitted x.of)) x.of.table x.known.place x.known.state x.of.fits.states x.known.there

      abbrev found : Fetched
      found = handles.found

      low : x.count ≤ image.regions.stack.length
      low = let few = x.few in omega (arith, few, room)

      wide : x.of.bounds.length ≤ image.regions.stack.length - x.count
      wide = let few = x.few in let less = x.of.room in omega (arith, few, less, room)

      enough_room : x.of.bytes ≤ image.regions.stack.length - x.count
      enough_room = let few = x.few in let less = x.of.few in omega (arith, few, less, room)

      top_here : pointer_at (bounds_of part) 0 ≡ u.machine.cpu.sp
      top_here = top_is x.count low ∙ sym x.at

      fetched : fetch_at image.regions m.memory m.cpu.pc ≡ Ok found
      fetched = subst (λ n. fetch_at image.regions m.memory n ≡ Ok found) x.known.at (fetched_here laws.reads image m.memory x.known.state.at found x.known.code handles.executed.fetched)

      anywhere : fetched_anywhere m.memory m.cpu.pc ≡ Some found
      anywhere = anywhere_of image.regions m.memory m.cpu.pc found fetched

      -- a state that fits as any does
      module _ (fixed : uses_pointer found.instr ≡ false) (fits : StateFollows x.of.bounds (fitted x.of) x.known.state) where
        found_same : found ≡ fits.stands.found
        found_same = same_ok (fetch_at image.regions (memory_of image.chunks) x.known.state.at) found fits.stands.found handles.executed.fetched fits.stands.executed.fetched

        abbrev entry : StateFollows (bounds_of part) fitted_below x.known.state
        entry = fits_more x.of.bounds (bounds_of part) wide (fitted x.of) (part_below image.regions x.count) x.known.state fits (subst (λ (f : Fetched). uses_pointer f.instr ≡ false) found_same fixed) handles.enough

        abbrev stood : StateStands fitted_below x.known.state
        stood = entry.stands

        kept : KeepsFollowed part true x.of.bytes (ways_of x.of.ways places) listed w
        kept = keeps_table laws fitted_below (entry_of u) true (regions_below image.regions x.count rules) (ground_below x.count) quiet_data x.of.fits.are_code enough_room true (may_come flag) w x.known entry

        touches : All (Touches part.regions (ground_below x.count) x.of.bytes) (stack_bytes fits.stands.found.instr m.cpu)
        touches = touches_stack laws fitted_below (entry_of u) true (regions_below image.regions x.count rules) (ground_below x.count) quiet_data x.of.fits.are_code enough_room true (may_come flag) w x.known entry

        pointed_written : (k d : ℕ) → k < length (pointed_bytes fits.stands.found.instr m.cpu.registers) → in_data image.regions (get_or (pointed_bytes fits.stands.found.instr m.cpu.registers) k d) ≡ true → inner.written (get_or (pointed_bytes fits.stands.found.instr m.cpu.registers) k d) ≡ true
        pointed_written k d inside =
            let p = points laws fitted_below (entry_of u) true (regions_below image.regions x.count rules) (ground_below x.count) quiet_data x.of.fits.are_code enough_room true (may_come flag) w x.known stood
            (get_or (pointed_bytes fits.stands.found.instr m.cpu.registers) k d) (Contains-get_or (pointed_bytes fits.stands.found.instr m.cpu.registers) k d inside) in
            handles.pointed p.span (subst (λ (f : Fetched). pointer_span f.instr x.known.state.known ≡ Some p.span) (sym found_same) p.is) (get_or (pointed_bytes fits.stands.found.instr m.cpu.registers) k d) p.within

        -- an instruction of it
        module _ (v : World) (by : Executes image.regions (IsLeftOpenAt listed) w v) where
          abbrev by_part : Executes part.regions (IsLeftOpenAt listed) w v
          by_part = executes_moved image (part_below image.regions x.count) (IsLeftOpenAt listed) w v by

          by_found : by.found ≡ fits.stands.found
          by_found = same_some by.found found (sym by.fetched ∙ anywhere) ∙ found_same

          known_then : KnowsWorld part true (entry_of u) x.of.table true (enabled_after by.found.instr (may_come flag)) v
          known_then = executes_found laws fitted_below (entry_of u) true (regions_below image.regions x.count rules) (ground_below x.count) quiet_data x.of.fits.are_code enough_room true (may_come flag) w x.known entry v by_part by_found

          goes : unguarded fits.stands.found.instr by.byte fits.stands.found.next m ≡ Some by.after
          goes = subst (λ (f : Fetched). unguarded f.instr by.byte f.next m ≡ Some by.after) by_found by.goes

          stays : StaysInside part.regions m fits.stands.found.instr
          stays = stays_inside laws fitted_below (entry_of u) true (regions_below image.regions x.count rules) (ground_below x.count) quiet_data x.of.fits.are_code enough_room true (may_come flag) w x.known stood
              (λ at. subst (λ (f : Fetched). StaysInside part.regions m f.instr) by_found (by_part.inside at))

          memory_then : v.machine.memory ≡ stored m.memory (stores fits.stands.found.instr fits.stands.found.next m.memory m.cpu)
          memory_then = ap (λ (z : World). z.machine.memory) by.is ∙ (leaves fits.stands.found.instr by.byte fits.stands.found.next m by.after goes).memory

          -- a byte to which nothing is stored
          byte_same : (a : ℕ) → ((b : ℕ) → in_range (part_below image.regions x.count) b ≡ true → a ≢ b) → All (λ (b : ℕ). a ≢ b) (direct_bytes fits.stands.found.instr) → All (λ (b : ℕ). a ≢ b) (pointed_bytes fits.stands.found.instr m.cpu.registers) →
              slice_index v.machine.memory a ≡ slice_index m.memory a
          byte_same a off_part direct pointed =
              ap (λ (l : List ℕ). slice_index l a) memory_then
              ∙ stored_other (stores fits.stands.found.instr fits.stands.found.next m.memory m.cpu) m.memory a
              (subst (λ (l : List ℕ). All (λ (b : ℕ). a ≢ b) l) (sym (laws.facts fits.stands.found.instr fits.stands.found.next m.memory m.cpu).stored)
              (All-append (λ (b : ℕ). a ≢ b) (stacked_by (flow fits.stands.found.instr) m.cpu) (direct_bytes fits.stands.found.instr ++ pointed_bytes fits.stands.found.instr m.cpu.registers)
              (stacked_within (λ (b : ℕ). a ≢ b) (flow fits.stands.found.instr) m.cpu (all_of (Touches part.regions (ground_below x.count) x.of.bytes) (λ (b : ℕ). a ≢ b) (stack_bytes fits.stands.found.instr m.cpu) (λ b it. off_part b it.there) touches))
              (All-append (λ (b : ℕ). a ≢ b) (direct_bytes fits.stands.found.instr) (pointed_bytes fits.stands.found.instr m.cpu.registers) direct pointed)))

          data_all : (xs : List ℕ) (a : ℕ) → in_range image.regions.stack a ≡ true → All (λ b. in_data image.regions b ≡ true) xs → All (λ (b : ℕ). a ≢ b) xs
          data_all xs a there each = all_of (λ b. in_data image.regions b ≡ true) (λ (b : ℕ). a ≢ b) xs (λ b is same. true≢false (sym there ∙ ap (in_range image.regions.stack) same ∙ ground.data_or_stack b is)) each

          direct_data : All (λ b. in_data image.regions b ≡ true) (direct_bytes fits.stands.found.instr)
          direct_data = all_of_list (in_data image.regions) (direct_bytes fits.stands.found.instr) fits.stands.executed.stores

          is_loud : (a b : ℕ) → quiet a ≡ true → a ≡ b → (in_data image.regions b ≡ true → inner.written b ≡ true) → ⊥
          is_loud a b is same says = true≢false (sym (says (ap (in_data image.regions) (sym same) ∙ quiet_data a is)) ∙ ap inner.written (sym same) ∙ loud a is)

          left_then : LeftAlone u v
          left_then = record {
            pushed = λ a is. byte_same a (above_part a is) (data_all (direct_bytes fits.stands.found.instr) a is.in_stack direct_data) (data_all (pointed_bytes fits.stands.found.instr m.cpu.registers) a is.in_stack stays.stores) ∙ x.left.pushed a is;
            quiet_same = λ a is. byte_same a (λ b there same. true≢false (sym (part_inside image.regions x.count b there) ∙ sym (ap (in_range image.regions.stack) same) ∙ ground.data_or_stack a (quiet_data a is)))
                (all_of (λ b. in_data image.regions b ≡ true → inner.written b ≡ true) (λ (b : ℕ). a ≢ b) (direct_bytes fits.stands.found.instr) (λ b says same. is_loud a b is same says) (subst (λ (f : Fetched). All (λ b. in_data image.regions b ≡ true → inner.written b ≡ true) (direct_bytes f.instr)) found_same handles.direct))
                (λ k d inside same. is_loud a (get_or (pointed_bytes fits.stands.found.instr m.cpu.registers) k d) is same (pointed_written k d inside))
                ∙ x.left.quiet_same a is;
            inputs = ap (λ (z : World). z.machine.inputs) by.is ∙ (ports fits.stands.found.instr by.byte fits.stands.found.next m by.after goes).0 ∙ x.left.inputs;
            outputs = ap (λ (z : World). z.machine.outputs) by.is ∙ (ports fits.stands.found.instr by.byte fits.stands.found.next m by.after goes).1 ∙ x.left.outputs;
          }
            where
              above_part : (a : ℕ) → IsPushed image.regions u.machine.cpu.sp a → (b : ℕ) → in_range (part_below image.regions x.count) b ≡ true → a ≢ b
              above_part a is b there = by_count x.count refl where
                by_count : (n : ℕ) → x.count ≡ n → a ≢ b
                by_count zero none = absurd (is.filled (x.at ∙ ap (λ n. pointer_at (bounds_of image) n) none ∙ omega arith))
                by_count (suc n) some =
                    let high = range_high image.regions.stack.first (image.regions.stack.length - x.count) b there in
                    let above = is.above in
                    let sp = x.at ∙ pointer_is image.regions ground x.count (omega (arith, some)) low in
                    λ same. absurd (omega (arith, same, high, above, sp, low))

          -- the state behind it has its word to return to, so SP isn't what it was
          then_handles : Handles mtable inner.written x.of.bounds (fitted x.of) known_then.state
          then_handles = one_of (Handles mtable inner.written x.of.bounds (fitted x.of)) x.of.table known_then.place known_then.state x.of.fits.states known_then.there

          pointer_then : v.machine.cpu.sp ≡ pointer_at (bounds_of part) (count_of (stack_of known_then.state))
          pointer_then = stands_at (bounds_of part) v.machine.cpu.sp v.machine.memory (stack_of known_then.state) then_handles.enough known_then.stack

          not_over : v.machine.cpu.sp ≢ u.machine.cpu.sp
          not_over = λ same.
              never_at_top (bounds_of part) (count_of (stack_of known_then.state)) (let two = then_handles.enough in omega (arith, two)) (let few = then_handles.few in let less = enough_room in let short = ground.stack_short in omega (arith, few, less, short)) (omega arith)
              (sym pointer_then ∙ same ∙ sym top_here)

          -- what is known behind it
          handling_then : (then_flag : Enable) → then_flag ≡ enable_after by.found.instr flag → (then_flag ≡ off) ⊎ ((then_flag ≡ soon) × (IsReturn image v.machine.cpu.pc × (v.machine.cpu.sp ≡ pointer_at (bounds_of part) 2))) → Handling u then_flag v
          handling_then then_flag is now_then = record {
            h = x.h;
            of = x.of;
            placed_in = x.placed_in;
            count = x.count;
            few = x.few;
            at = x.at;
            u_known = x.u_known;
            u_small = x.u_small;
            known = subst (λ (b : Bool). KnowsWorld part true (entry_of u) x.of.table true b v) (flag_same by.found.instr flag ∙ ap may_come (sym is)) known_then;
            left = left_then;
            now = now_then;
          }

      -- a state that gives all back
      module _ (is_ret : found.instr ≡ Ret) (gives : GivesBack x.known.state) where
        pointer_here : m.cpu.sp ≡ pointer_at (bounds_of part) 2
        pointer_here = stands_at (bounds_of part) m.cpu.sp m.memory (stack_of x.known.state) handles.enough x.known.stack ∙ ap (λ n. pointer_at (bounds_of part) n) gives.alone

        registers_are : m.cpu.registers ≡ u.machine.cpu.registers
        registers_are =
            let psw = x.known.held.psw.in_place gives.psw in let bc = x.known.held.bc.in_place gives.bc in let de = x.known.held.de.in_place gives.de in let hl = x.known.held.hl.in_place gives.hl in
            same_registers m.cpu.registers u.machine.cpu.registers psw.0 bc.0 bc.1 de.0 de.1 hl.0 hl.1 psw.1

        two_fit : 2 ≤ image.regions.stack.length - x.count
        two_fit = let enough = handles.enough in let few = handles.few in let less = enough_room in omega (arith, enough, few, less)

        next_up : ahead m.cpu.sp 1 ≡ pointer_at (bounds_of part) 1
        next_up = ap (λ n. ahead n 1) pointer_here ∙ next_pointer part.regions (ground_below x.count) 1 two_fit

        twice_up : ahead m.cpu.sp 2 ≡ u.machine.cpu.sp
        twice_up = ap (λ n. ahead n 2) pointer_here ∙ two_above (bounds_of part) ∙ top_here

        back_is : word_in m.memory m.cpu.sp ≡ u.machine.cpu.pc
        back_is =
            let saved = subst (λ (o : Option ℕ). HoldsSaved (bounds_of part) m.memory (u.machine.cpu.pc / 256) (u.machine.cpu.pc % 256) (count_of (stack_of x.known.state)) o) gives.back x.known.held.back in
            let low = ap (λ n. byte_in m.memory n) pointer_here ∙ saved.1.low_is in
            let high = ap (λ n. byte_in m.memory n) next_up ∙ saved.1.high_is in
            omega (arith, low, high)

        module _ (v : World) (by : Executes image.regions (IsLeftOpenAt listed) w v) where
          found_is : by.found ≡ found
          found_is = same_some by.found found (sym by.fetched ∙ anywhere)

          after_is : v.machine ≡ proceeded Ret found.next m
          after_is = ap (λ (z : World). z.machine) by.is ∙ ret_goes by.byte found.next m by.after (subst (λ (i : Instr). unguarded i by.byte found.next m ≡ Some by.after) is_ret (subst (λ (f : Fetched). unguarded f.instr by.byte f.next m ≡ Some by.after) found_is by.goes))

          cpu_is : v.machine.cpu ≡ u.machine.cpu
          cpu_is = ap (λ (z : Machine). z.cpu) after_is ∙ same_cpu (proceeded Ret found.next m).cpu u.machine.cpu registers_are twice_up back_is

          machine_is : v.machine ≡ record u.machine { memory = m.memory }
          machine_is = after_is ∙ same_machine (proceeded Ret found.next m) (record u.machine { memory = m.memory }) (same_cpu (proceeded Ret found.next m).cpu u.machine.cpu registers_are twice_up back_is) refl x.left.inputs x.left.outputs

          over : is_back u v ≡ true
          over = ap (λ (n : ℕ). nat_eq n u.machine.cpu.sp) (ap (λ (c : Cpu). c.sp) cpu_is) ∙ nat_eq_same u.machine.cpu.sp

          -- the interrupted world, after what a device may do
          back_again : MainKnows true true (record { machine = v.machine; places = u.places })
          back_again = main_disturbs true true u (record { machine = v.machine; places = u.places }) x.u_known
              (record {
                memory = m.memory;
                leaves = record { code = λ a there. x.known.code a there ∙ sym (x.u_known.known.code a there); pushed = x.left.pushed; size = x.known.whole ∙ sym x.u_known.known.whole; bytes = x.known.bytes.memory };
                is = ap (λ (z : Machine). record { machine = z; places = u.places }) machine_is;
              }) x.left.quiet_same

      -- a state behind which the program begins anew
      module _ (anew : BeginsAnew image mtable found) where
        was_off : flag ≡ off
        was_off = by x.now where
          no_return : IsReturn image m.cpu.pc → ⊥
          no_return back =
              let returns_here = ap (λ (f : Fetched). f.instr) (same_ok (fetch_at image.regions (memory_of image.chunks) m.cpu.pc) found back.found (subst (λ n. fetch_at image.regions (memory_of image.chunks) n ≡ Ok found) x.known.at handles.executed.fetched) back.fetched) ∙ back.returns in
              let never : Lxi Sp (top_of image.regions) ≡ Ret = sym anew.sets ∙ returns_here in cc

          by : (flag ≡ off) ⊎ ((flag ≡ soon) × (IsReturn image m.cpu.pc × (m.cpu.sp ≡ pointer_at (bounds_of part) 2))) → flag ≡ off
          by (inl is_off) = is_off
          by (inr both) = absurd (no_return both.1.0)

        module _ (v : World) (by : Executes image.regions (IsLeftOpenAt listed) w v) where
          abbrev fresh : Machine
          fresh = proceeded (Lxi Sp (top_of image.regions)) found.next m

          anew_found : by.found ≡ found
          anew_found = same_some by.found found (sym by.fetched ∙ anywhere)

          after_is_fresh : by.after ≡ fresh
          after_is_fresh = lxi_goes (top_of image.regions) by.byte found.next m by.after (subst (λ (i : Instr). unguarded i by.byte found.next m ≡ Some by.after) anew.sets (subst (λ (f : Fetched). unguarded f.instr by.byte f.next m ≡ Some by.after) anew_found by.goes))

          abbrev begun_world : List ℕ → World
          begun_world calls = record { machine = fresh; places = calls }

          fresh_bytes : HoldsBytes fresh
          fresh_bytes = record { registers = x.known.bytes.registers; memory = x.known.bytes.memory; inputs = x.known.bytes.inputs }

          begun_known : (calls : List ℕ) → MainKnows true false (begun_world calls)
          begun_known calls = in_main laws grounds image true quiet is_set (ways_of ways places) listed mtable main rules quiet_data main_fits few_main placed true false (begun_world calls) (enters_table laws main_fitting nobody is_set rules ground quiet_data main_fits.are_code few_main true false nothing_beside (begun_world calls) nothing_known (Some [])
              anew.has (λ is. is) (nothing_holds (bounds_of image) nobody false 0 fresh) (λ on is. cc) (laws.holds fresh fresh_bytes).nothing (record { pointer = omega arith; within = omega arith; each = tt }, refl) fresh_bytes x.known.whole (λ a there. x.known.code a there))

          anew_known : MainKnows true false v
          anew_known =
              let calls = places_after by.found.instr by.found.next m.cpu.registers.flags w.places in
              subst (λ (z : World). MainKnows true false z) (sym (by.is ∙ ap (λ (z : Machine). record { machine = z; places = calls }) after_is_fresh)) (begun_known calls)

      -- devices
      disturbs_handler : (v : World) (by : Disturbs image.regions m.cpu.sp w v) → StaysQuiet quiet m.memory by.memory → Handling u flag v
      disturbs_handler v by stays = subst (λ (z : World). Handling u flag z) (sym by.is) (record {
        h = x.h;
        of = x.of;
        placed_in = x.placed_in;
        count = x.count;
        few = x.few;
        at = x.at;
        u_known = x.u_known;
        u_small = x.u_small;
        known = disturbs_table laws fitted_below (entry_of u) true (regions_below image.regions x.count rules) (ground_below x.count) quiet_data x.of.fits.are_code enough_room true (may_come flag) w (with_memory w by.memory) x.known handles.knows
            (record { memory = by.memory; leaves = record { code = by.leaves.code; pushed = λ a is. by.leaves.pushed a (wider a is); size = by.leaves.size; bytes = by.leaves.bytes }; is = refl }) stays;
        left = record {
          pushed = λ a is. by.leaves.pushed a (record { in_stack = is.in_stack; above = lower a is; filled = filled_here }) ∙ x.left.pushed a is;
          quiet_same = λ a is. stays a is ∙ x.left.quiet_same a is;
          inputs = x.left.inputs;
          outputs = x.left.outputs;
        };
        now = x.now;
      }) where
        sp_is : m.cpu.sp ≡ pointer_at (bounds_of part) (count_of (stack_of x.known.state))
        sp_is = stands_at (bounds_of part) m.cpu.sp m.memory (stack_of x.known.state) handles.enough x.known.stack

        here_is : m.cpu.sp ≡ image.regions.stack.first + (image.regions.stack.length - x.count) - count_of (stack_of x.known.state)
        here_is = sp_is ∙ pointer_is part.regions (ground_below x.count) (count_of (stack_of x.known.state)) (let two = handles.enough in omega (arith, two)) (let few = handles.few in let less = enough_room in omega (arith, few, less))

        filled_here : m.cpu.sp ≢ top_of image.regions
        filled_here = λ same.
            let ends = ground.stack_ends in let short = ground.stack_short in let two = handles.enough in let few = handles.few in let less = enough_room in
            absurd (omega (arith, same, here_is, ends, short, two, few, less))

        wider : (a : ℕ) → IsPushed part.regions m.cpu.sp a → IsPushed image.regions m.cpu.sp a
        wider a is = record { in_stack = part_inside image.regions x.count a is.in_stack; above = is.above; filled = filled_here }

        lower : (a : ℕ) → IsPushed image.regions u.machine.cpu.sp a → m.cpu.sp ≤ a
        lower a is = by_count x.count refl where
          by_count : (n : ℕ) → x.count ≡ n → m.cpu.sp ≤ a
          by_count zero none = absurd (is.filled (x.at ∙ ap (λ n. pointer_at (bounds_of image) n) none ∙ omega arith))
          by_count (suc n) some =
              let above = is.above in
              let sp = x.at ∙ pointer_is image.regions ground x.count (omega (arith, some)) low in
              omega (arith, above, sp, here_is)

    -- an interrupt that comes between two instructions of the program
    module _ (u : World) (u_known : MainKnows true true u) (ready : IsReady image main true u) (u_small : u.machine.cpu.pc < 65536) (h : ℕ) (has : Contains handlers h) where
      abbrev of : HandlerTable image mtable inner.written quiet inner.ways places listed inner.bytes h
      of = (tables h has).of

      abbrev n : ℕ
      n = ready.count

      low_n : n ≤ image.regions.stack.length
      low_n = let few = ready.few in omega (arith, few, room)

      abbrev into : World
      into = record { machine = entering u.machine u.machine.cpu.pc h; places = u.places }

      at_top : u.machine.cpu.sp ≡ pointer_at (bounds_of (below n)) 0
      at_top = ready.pointer ∙ sym (top_is n low_n)

      two_fit_here : 2 ≤ image.regions.stack.length - n
      two_fit_here = let few = ready.few in let less = of.few in let some = started.few in let enough = started.enough in omega (arith, few, less, some, enough, room) where
        started : Handles mtable inner.written of.bounds (fitted of) of.fits.start.state
        started = one_of (Handles mtable inner.written of.bounds (fitted of)) of.table of.fits.start.place of.fits.start.state of.fits.states of.fits.start.there

      -- a byte off the stack, and one that is pushed
      off_it : (a : ℕ) → in_range image.regions.stack a ≡ false → slice_index into.machine.memory a ≡ slice_index u.machine.memory a
      off_it = off_stack grounds image rules n low_n u.machine u.machine.cpu.pc h u_small at_top two_fit_here u_known.known.bytes u_known.known.whole

      above_it : (a : ℕ) → IsPushed image.regions u.machine.cpu.sp a → slice_index into.machine.memory a ≡ slice_index u.machine.memory a
      above_it a is = off_part grounds image rules n low_n u.machine u.machine.cpu.pc h u_small at_top two_fit_here u_known.known.bytes u_known.known.whole a (by (in_range (part_below image.regions n) a) refl) where
        by_count : (k : ℕ) → n ≡ k → in_range (part_below image.regions n) a ≡ true → ⊥
        by_count zero none there = is.filled (ready.pointer ∙ ap (λ k. pointer_at (bounds_of image) k) none ∙ omega arith)
        by_count (suc k) some there =
            let above = is.above in
            let high = range_high image.regions.stack.first (image.regions.stack.length - n) a there in
            let sp = ready.pointer ∙ pointer_is image.regions ground n (omega (arith, some)) low_n in
            omega (arith, above, high, sp, low_n)

        by : (b : Bool) → in_range (part_below image.regions n) a ≡ b → in_range (part_below image.regions n) a ≡ false
        by true there = absurd (by_count n refl there)
        by false out = out

      into_held_bytes : HoldsBytes into.machine
      into_held_bytes = into_bytes grounds image rules n low_n u.machine u.machine.cpu.pc h u_small at_top two_fit_here u_known.known.bytes u_known.known.whole

      kept_pair : (pair : StackPair) → HoldsPairHeld (bounds_of (below n)) (entry_of u) pair entered_pair 2 into.machine
      kept_pair StackBc = record { in_place = λ is. (refl, refl); saved = tt }
      kept_pair StackDe = record { in_place = λ is. (refl, refl); saved = tt }
      kept_pair StackHl = record { in_place = λ is. (refl, refl); saved = tt }
      kept_pair Psw = record { in_place = λ is. (refl, refl); saved = tt }

      into_held : HoldsBeside (bounds_of (below n)) (entry_of u) entered_beside 2 into.machine
      into_held = record {
        psw = kept_pair Psw;
        bc = kept_pair StackBc;
        de = kept_pair StackDe;
        hl = kept_pair StackHl;
        back = into_back grounds image rules n low_n u.machine u.machine.cpu.pc h u_small at_top two_fit_here u_known.known.bytes u_known.known.whole;
      }

      enters_handler : Handling u off into
      enters_handler = record {
        h = h;
        of = of;
        placed_in = (tables h has).placed;
        count = n;
        few = ready.few;
        at = ready.pointer;
        u_known = u_known;
        u_small = u_small;
        known = enters_table laws (moved (fitted of) (part_below image.regions n)) (entry_of u) true (regions_below image.regions n rules) (ground_below n) quiet_data of.fits.are_code (let few = ready.few in let less = of.few in omega (arith, few, less, room)) true false entered_beside into nothing_known entered_stack
            of.fits.start (λ is. is) into_held (λ h is. refl) (laws.holds into.machine into_held_bytes).nothing
            (into_stack grounds image rules n low_n u.machine u.machine.cpu.pc h u_small at_top two_fit_here u_known.known.bytes u_known.known.whole, refl) into_held_bytes
            (into_whole grounds image rules n low_n u.machine u.machine.cpu.pc h u_small at_top two_fit_here u_known.known.bytes u_known.known.whole) (λ a there. off_it a (ground.code_or_stack a there) ∙ u_known.known.code a there);
        left = record { pushed = above_it; quiet_same = λ a is. off_it a (ground.data_or_stack a (quiet_data a is)); inputs = refl; outputs = refl };
        now = inl refl;
      }

    -- an interrupt, of a world that goes on at a place
    comes : (set : Bool) (u : World) → MainKnows set true u → u.machine.cpu.pc < 65536 → (h : ℕ) → Contains handlers h → Knows set off (Some u) (record { machine = entering u.machine u.machine.cpu.pc h; places = u.places })
    comes set u known small h has =
        let ready = main_ready set u known in
        (ready.is_set, enters_handler u (subst (λ (b : Bool). MainKnows b true u) ready.is_set known) (subst (λ (b : Bool). IsReady image main b u) ready.is_set ready) small h has)

    small_there : (set : Bool) (u : World) → MainKnows set true u → u.machine.cpu.pc < 65536
    small_there set u known =
        let keeps = main_keeps set true u known in
        fetched_small image.regions rules (memory_of image.chunks) u.machine.cpu.pc keeps.found (fetched_ok image.regions (memory_of image.chunks) u.machine.cpu.pc keeps.found keeps.of_image)

    comes_at : (set : Bool) (was : Enable) (w : World) → Runs set was w → (place h : ℕ) → Takes was w place → Contains handlers h → Knows set off (Some (with_pc w place)) (record { machine = entering w.machine place h; places = w.places })
    comes_at set was w runs place h (inl (is_on, at)) has =
        let sure = runs.more (ap may_come is_on) in
        let known = subst (λ (b : Bool). MainKnows set b w) sure runs.main_known in
        subst (λ (n : ℕ). Knows set off (Some (with_pc w n)) (record { machine = entering w.machine n h; places = w.places })) (sym at)
        (comes set w known (small_there set w known) h has)
    comes_at set was w runs place h (inr (may, halted)) has =
        let sure = runs.more may in
        let known = subst (λ (b : Bool). MainKnows set b w) sure runs.main_known in
        let woken = main_wakes set w (with_pc w halted.found.next) known (record { found = halted.found; fetched = halted.fetched; halts = halted.halts; is = refl }) in
        subst (λ (n : ℕ). Knows set off (Some (with_pc w n)) (record { machine = entering w.machine n h; places = w.places })) halted.next
        (comes set (with_pc w halted.found.next) woken (small_there set (with_pc w halted.found.next) woken) h has)

    -- an instruction of a handler
    goes_on_in : (u : World) (was : Enable) (w : World) (x : Handling u was w) (v : World) (by : Executes image.regions (IsLeftOpenAt listed) w v) → Knows true (enable_after by.found.instr was) (under_after by.found.instr (Some u) v) (world_after by.found.instr (Some u) v)
    goes_on_in u was w x v by = split (handles u was w x).goes where
      found_here : by.found ≡ (handles u was w x).found
      found_here = same_some by.found (handles u was w x).found (sym by.fetched ∙ anywhere u was w x)

      Then : (sets back : Bool) → Type 0
      Then sets back = Knows true (enable_after by.found.instr was) (if sets then None else (if back then None else Some u)) (if sets then v else (if back then record { machine = v.machine; places = u.places } else v))

      Now : Type 0
      Now = Then (sets_sp by.found.instr) (is_back u v)

      settled : (sets back : Bool) → sets_sp by.found.instr ≡ sets → is_back u v ≡ back → Then sets back → Now
      settled sets back same is holds = subst (λ (b : Bool). Then b (is_back u v)) (sym same) (subst (λ (b : Bool). Then sets b) (sym is) holds)

      nat_apart : (a b : ℕ) → a ≢ b → nat_eq a b ≡ false
      nat_apart a b apart = by_test (nat_eq a b) refl where
        by_test : (t : Bool) → nat_eq a b ≡ t → nat_eq a b ≡ false
        by_test true is = absurd (apart (grind (arith, nat_tests, is)))
        by_test false is = is

      plain : uses_pointer (handles u was w x).found.instr ≡ false → (fits : StateFollows x.of.bounds (fitted x.of) x.known.state) → Now
      plain fixed fits = settled false false (ap (λ (f : Fetched). sets_sp f.instr) found_here ∙ sets_uses (handles u was w x).found.instr fixed) (nat_apart v.machine.cpu.sp u.machine.cpu.sp (not_over u was w x fixed fits v by))
          (refl, handling_then u was w x fixed fits v by (enable_after by.found.instr was) refl (now_then x.now)) where
            lets_here : by.found.instr ≡ Ei → IsReturn image v.machine.cpu.pc × (v.machine.cpu.sp ≡ pointer_at (bounds_of (below x.count)) 2)
            lets_here is =
                let ei : (handles u was w x).found.instr ≡ Ei = ap (λ (f : Fetched). f.instr) (sym found_here) ∙ is in
                let both = (handles u was w x).lets ei in
                let after = ei_goes by.byte by.found.next w.machine by.after (subst (λ (i : Instr). unguarded i by.byte by.found.next w.machine ≡ Some by.after) is by.goes) in
                let sp_here = stands_at (bounds_of (below x.count)) w.machine.cpu.sp w.machine.memory (stack_of x.known.state) (handles u was w x).enough x.known.stack in (
                  subst (λ n. IsReturn image n) (sym (ap (λ (z : World). z.machine.cpu.pc) by.is ∙ ap (λ (z : Machine). z.cpu.pc) after ∙ ap (λ (f : Fetched). f.next) found_here)) both.1,
                  ap (λ (z : World). z.machine.cpu.sp) by.is ∙ ap (λ (z : Machine). z.cpu.sp) after ∙ sp_here ∙ ap (λ n. pointer_at (bounds_of (below x.count)) n) both.0.alone,
                )

            by_instr : (i : Instr) → by.found.instr ≡ i → (enable_after i off ≡ off) ⊎ ((enable_after i off ≡ soon) × (IsReturn image v.machine.cpu.pc × (v.machine.cpu.sp ≡ pointer_at (bounds_of (below x.count)) 2)))
            by_instr Ei is = inr (refl, lets_here is)
            by_instr i is = inl refl

            now_then : (was ≡ off) ⊎ ((was ≡ soon) × (IsReturn image w.machine.cpu.pc × (w.machine.cpu.sp ≡ pointer_at (bounds_of (below x.count)) 2))) →
                (enable_after by.found.instr was ≡ off) ⊎ ((enable_after by.found.instr was ≡ soon) × (IsReturn image v.machine.cpu.pc × (v.machine.cpu.sp ≡ pointer_at (bounds_of (below x.count)) 2)))
            now_then (inl is_off) = subst (λ (f : Enable). (enable_after by.found.instr f ≡ off) ⊎ ((enable_after by.found.instr f ≡ soon) × (IsReturn image v.machine.cpu.pc × (v.machine.cpu.sp ≡ pointer_at (bounds_of (below x.count)) 2)))) (sym is_off) (by_instr by.found.instr refl)
            now_then (inr (is_soon, (back, two))) = absurd (not_over u was w x fixed fits v by (
                let ret = ap (λ (f : Fetched). f.instr) (same_ok (fetch_at image.regions (memory_of image.chunks) w.machine.cpu.pc) (handles u was w x).found back.found (fetched_there (handles u was w x).executed.fetched) back.fetched) ∙ back.returns in
                let after = ret_goes by.byte by.found.next w.machine by.after (subst (λ (i : Instr). unguarded i by.byte by.found.next w.machine ≡ Some by.after) (ap (λ (f : Fetched). f.instr) found_here ∙ ret) by.goes) in
                ap (λ (z : World). z.machine.cpu.sp) by.is ∙ ap (λ (z : Machine). z.cpu.sp) after ∙ ap (λ n. ahead n 2) two ∙ two_above (bounds_of (below x.count)) ∙ top_here u was w x)) where
                  fetched_there : fetch_at image.regions (memory_of image.chunks) x.known.state.at ≡ Ok (handles u was w x).found → fetch_at image.regions (memory_of image.chunks) w.machine.cpu.pc ≡ Ok (handles u was w x).found
                  fetched_there is = subst (λ n. fetch_at image.regions (memory_of image.chunks) n ≡ Ok (handles u was w x).found) x.known.at is

      ends : ((handles u was w x).found.instr ≡ Ret) × GivesBack x.known.state → Now
      ends (is_ret, gives) = settled false true (ap (λ (f : Fetched). sets_sp f.instr) found_here ∙ ap sets_sp is_ret) (over u was w x is_ret gives v by) (record { enabled = true; main_known = back_again u was w x is_ret gives v by; more = λ may. refl })

      starts_anew : BeginsAnew image mtable (handles u was w x).found → Now
      starts_anew anew = settled true (is_back u v) (ap (λ (f : Fetched). sets_sp f.instr) found_here ∙ ap sets_sp anew.sets) refl (record {
        enabled = false;
        main_known = anew_known u was w x anew v by;
        more = λ may. absurd (true≢false (sym may ∙ ap may_come (ap (λ (i : Instr). enable_after i was) (ap (λ (f : Fetched). f.instr) found_here ∙ anew.sets) ∙ ap passed (was_off u was w x anew))));
      })

      split : EndsAt image mtable (handles u was w x).found x.known.state ⊎ ((uses_pointer (handles u was w x).found.instr ≡ false) × StateFollows x.of.bounds (fitted x.of) x.known.state) → Now
      split (inl (inl both)) = ends both
      split (inl (inr anew)) = starts_anew anew
      split (inr (fixed, fits)) = plain fixed fits

    disturbs_set : (set : Bool) (u : World) (flag : Enable) (v w : World) → set ≡ true → Handling u flag v → (by : Disturbs image.regions (respected_pointer image.regions set v) v w) → StaysQuiet quiet v.machine.memory by.memory → Handling u flag w
    disturbs_set true u flag v w h x by stays = disturbs_handler u flag v x w by stays
    disturbs_set false u flag v w h x by stays = cc

    -- each world of a live machine is known
    knows : (set : Bool) (flag : Enable) (under : Option World) (w : World) → OnLiveBoard image.regions quiet handlers (IsLeftOpenAt listed) start is_set set flag under w → Knows set flag under w
    knows set flag under w (begins _ _ _ _ is same is_off none) =
        subst (λ (o : Option World). Knows set flag o w) (sym none) (record { enabled = false; main_known = started; more = λ may. absurd (let no : may_come flag ≡ false = ap may_come is_off in true≢false (sym may ∙ no)) }) where
          started : MainKnows set false w
          started = subst (λ (b : Bool). MainKnows b false w) (sym same) (subst (λ (z : World). MainKnows is_set false z) (sym is) (begun_calls laws grounds image true quiet is_set (ways_of ways places) listed mtable main rules quiet_data main_fits few_main placed start pc whole code held top))
    knows set flag None w (disturbed _ _ _ v _ before by stays) = let runs = knows set flag None v before in record { enabled = runs.enabled; main_known = main_disturbs set runs.enabled v w runs.main_known by stays; more = runs.more }
    knows set flag (Some u) w (disturbed _ _ _ v _ before by stays) =
        let known = knows set flag (Some u) v before in
        (known.0, disturbs_set set u flag v w known.0 known.1 by stays)
    knows set flag under w (executed before _ was _ None _ v there _ is by same is_flag is_under is_there) =
        let runs = knows before was None v is in
        subst (λ (o : Option World). Knows set flag o w) (sym is_under) (subst (λ (z : World). Runs set flag z) (sym is_there) (record {
          enabled = enabled_after by.found.instr runs.enabled;
          main_known = subst (λ (b : Bool). MainKnows b (enabled_after by.found.instr runs.enabled) there) (sym same) (main_executes before runs.enabled v there runs.main_known by);
          more = λ may. flags_more by.found.instr was runs.enabled runs.more (subst (λ (f : Enable). may_come f ≡ true) is_flag may);
        }))
    knows set flag under w (executed before _ was _ (Some u) _ v there _ is by same is_flag is_under is_there) =
        let known = knows before was (Some u) v is in
        subst (λ (o : Option World). Knows set flag o w) (sym is_under) (subst (λ (z : World). Knows set flag (under_after by.found.instr (Some u) there) z) (sym is_there)
        (subst (λ (f : Enable). Knows set f (under_after by.found.instr (Some u) there) (world_after by.found.instr (Some u) there)) (sym is_flag)
        (subst (λ (b : Bool). Knows b (enable_after by.found.instr was) (under_after by.found.instr (Some u) there) (world_after by.found.instr (Some u) there)) (sym (same ∙ ap (λ (b : Bool). b || sets_sp by.found.instr) known.0)) (goes_on_in u was v known.1 there by))))
    knows set flag under w (interrupted _ was _ _ v _ place h before takes has is is_off is_under) =
        let runs = knows set was None v before in
        subst (λ (o : Option World). Knows set flag o w) (sym is_under) (subst (λ (z : World). Knows set flag (Some (with_pc v place)) z) (sym is) (subst (λ (f : Enable). Knows set f (Some (with_pc v place)) (record { machine = entering v.machine place h; places = v.places })) (sym is_off) (comes_at set was v runs place h takes has)))

    -- and what is promised of it holds
    module _ (u : World) (flag : Enable) (w : World) (x : Handling u flag w) where
      abbrev here : Fetched
      here = (handles u flag w x).found

      abbrev at : Machine
      at = w.machine

      abbrev Fits : Type 0
      Fits = StateFollows x.of.bounds (fitted x.of) x.known.state

      abbrev Either : Type 0
      Either = EndsAt image mtable here x.known.state ⊎ ((uses_pointer here.instr ≡ false) × Fits)

      kept_found : (fixed : uses_pointer here.instr ≡ false) (fits : Fits) → (kept u flag w x fixed fits).found ≡ here
      kept_found fixed fits = same_some (kept u flag w x fixed fits).found here (sym (kept u flag w x fixed fits).anywhere ∙ anywhere u flag w x)

      pointed_of : Either → All (GoesToListed image.regions listed.stores.items at.cpu.pc) (pointed_bytes here.instr at.cpu.registers)
      pointed_of (inl (inl both)) = subst (λ (i : Instr). All (GoesToListed image.regions listed.stores.items at.cpu.pc) (pointed_bytes i at.cpu.registers)) (sym both.0) (All-nil (GoesToListed image.regions listed.stores.items at.cpu.pc))
      pointed_of (inl (inr anew)) = subst (λ (i : Instr). All (GoesToListed image.regions listed.stores.items at.cpu.pc) (pointed_bytes i at.cpu.registers)) (sym anew.sets) (All-nil (GoesToListed image.regions listed.stores.items at.cpu.pc))
      pointed_of (inr (fixed, fits)) = subst (λ (f : Fetched). All (GoesToListed image.regions listed.stores.items at.cpu.pc) (pointed_bytes f.instr at.cpu.registers)) (kept_found fixed fits) (kept u flag w x fixed fits).pointed

      abbrev MayWrite : ℕ → Type 0
      MayWrite a = in_data image.regions a ≡ true → inner.written a ≡ true

      writes_by_pair : Either → All MayWrite (pointed_bytes here.instr at.cpu.registers)
      writes_by_pair (inl (inl both)) = subst (λ (i : Instr). All MayWrite (pointed_bytes i at.cpu.registers)) (sym both.0) (All-nil MayWrite)
      writes_by_pair (inl (inr anew)) = subst (λ (i : Instr). All MayWrite (pointed_bytes i at.cpu.registers)) (sym anew.sets) (All-nil MayWrite)
      writes_by_pair (inr (fixed, fits)) = subst (λ (f : Fetched). All MayWrite (pointed_bytes f.instr at.cpu.registers)) (sym (found_same u flag w x fixed fits)) (pointed_written u flag w x fixed fits)

      abbrev Back : ℕ → Type 0
      Back to = (to ≡ u.machine.cpu.pc) ⊎ IsWay image (ways_of inner.ways places) at.cpu.pc to

      among_all : (to : ℕ) → IsWay (below x.count) (ways_of x.of.ways places) at.cpu.pc to → IsWay image (ways_of inner.ways places) at.cpu.pc to
      among_all to (inl behind_call) = inl (record { at = behind_call.at; placed = behind_call.placed; found = behind_call.found; fetched = behind_call.fetched; calls = behind_call.calls; next = behind_call.next })
      among_all to (inr there) = inr (x.of.among (record { at = at.cpu.pc; to = to }) there)

      returning_of : Either → returns here.instr at.cpu.registers.flags ≡ true → Back (target here.instr here.next at.memory at.cpu)
      returning_of (inl (inl both)) taken = inl (ap (λ (i : Instr). target i here.next at.memory at.cpu) both.0 ∙ back_is u flag w x both.0 both.1)
      returning_of (inl (inr anew)) taken = absurd (true≢false (sym taken ∙ ap (λ (i : Instr). returns i at.cpu.registers.flags) anew.sets))
      returning_of (inr (fixed, fits)) taken =
          let same = kept_found fixed fits in
          inr (among_all (target here.instr here.next at.memory at.cpu) (subst (λ (f : Fetched). IsWay (below x.count) (ways_of x.of.ways places) at.cpu.pc (target f.instr f.next at.memory at.cpu)) same
          ((kept u flag w x fixed fits).returning (subst (λ (f : Fetched). returns f.instr at.cpu.registers.flags ≡ true) (sym same) taken))))

      no_pchl : (i : Instr) → here.instr ≡ i → i ≢ Pchl → here.instr ≡ Pchl → ⊥
      no_pchl i is other jumps = other (sym is ∙ jumps)

      jumping_of : Either → here.instr ≡ Pchl → targets_at image.regions at.cpu.pc ≡ None → IsWay image (ways_of inner.ways places) at.cpu.pc (hl_of at.cpu.registers)
      jumping_of (inl (inl both)) jumps none = absurd (no_pchl Ret both.0 (λ e. cc) jumps)
      jumping_of (inl (inr anew)) jumps none = absurd (no_pchl (Lxi Sp (top_of image.regions)) anew.sets (λ e. cc) jumps)
      jumping_of (inr (fixed, fits)) jumps none = among_all (hl_of at.cpu.registers) ((kept u flag w x fixed fits).jumping (ap (λ (f : Fetched). f.instr) (kept_found fixed fits) ∙ jumps) none)

      declared_of : Either → here.instr ≡ Pchl → is_declared image.regions at.cpu.pc ≡ true → Contains (declared_targets image.regions at.cpu.pc) (hl_of at.cpu.registers) ⊎ Contains listed.jumps.items at.cpu.pc
      declared_of (inl (inl both)) jumps some = absurd (no_pchl Ret both.0 (λ e. cc) jumps)
      declared_of (inl (inr anew)) jumps some = absurd (no_pchl (Lxi Sp (top_of image.regions)) anew.sets (λ e. cc) jumps)
      declared_of (inr (fixed, fits)) jumps some = (kept u flag w x fixed fits).declared (ap (λ (f : Fetched). f.instr) (kept_found fixed fits) ∙ jumps) some

      abbrev On : ℕ → Type 0
      On a = IsOnStack image (main + inner.bytes) a

      deeper : (a : ℕ) → Touches (below x.count).regions (ground_below x.count) x.of.bytes a → On a
      deeper a it =
          let less = it.below.1.0 in let at_it = it.below.1.1 in let few = x.few in let some = x.of.few in let ends = ground.stack_ends in
          record {
            in_stack = part_inside image.regions x.count a it.there;
            below = (it.below.0 + x.count, (omega (arith, less, few, some), omega (arith, at_it, ends, few, room)));
          }

      deep : 2 ≤ x.of.bytes
      deep = let two = (handles u flag w x).enough in let few = (handles u flag w x).few in omega (arith, two, few)

      stack_of_it : Either → All On (stack_bytes here.instr at.cpu)
      stack_of_it (inl (inl both)) = subst (λ (i : Instr). All On (stack_bytes i at.cpu)) (sym both.0) (two_of On at.cpu.sp (ahead at.cpu.sp 1)
          (deeper at.cpu.sp (subst (λ a. Touches (below x.count).regions (ground_below x.count) x.of.bytes a) (sym (pointer_here u flag w x both.0 both.1)) (at_count (below x.count).regions (ground_below x.count) x.of.bytes 2 (omega arith) deep (two_fit u flag w x both.0 both.1))))
          (deeper (ahead at.cpu.sp 1) (subst (λ a. Touches (below x.count).regions (ground_below x.count) x.of.bytes a) (sym (next_up u flag w x both.0 both.1)) (at_count (below x.count).regions (ground_below x.count) x.of.bytes 1 (omega arith) (omega (arith, deep)) (let two = two_fit u flag w x both.0 both.1 in omega (arith, two))))))
      stack_of_it (inl (inr anew)) = subst (λ (i : Instr). All On (stack_bytes i at.cpu)) (sym anew.sets) (All-nil On)
      stack_of_it (inr (fixed, fits)) = subst (λ (f : Fetched). All On (stack_bytes f.instr at.cpu)) (sym (found_same u flag w x fixed fits))
          (all_of (Touches (below x.count).regions (ground_below x.count) x.of.bytes) On (stack_bytes fits.stands.found.instr at.cpu) deeper (touches u flag w x fixed fits))

      -- no interrupt may come: interrupts are off, or let in behind the RET that is executed
      halts_not : IsReturn image at.cpu.pc → (place : ℕ) → IsHaltedBefore w place → ⊥
      halts_not ret place halted =
          let fetched_ret : fetched_anywhere at.memory at.cpu.pc ≡ Some ret.found = anywhere_of image.regions at.memory at.cpu.pc ret.found (fetched_here laws.reads image at.memory at.cpu.pc ret.found x.known.code ret.fetched) in
          let same : Hlt ≡ Ret = sym halted.halts ∙ ap (λ (f : Fetched). f.instr) (same_some halted.found ret.found (sym halted.fetched ∙ fetched_ret)) ∙ ret.returns in
          cc

      alone_of : (flag ≡ off) ⊎ ((flag ≡ soon) × (IsReturn image at.cpu.pc × (at.cpu.sp ≡ pointer_at (bounds_of (below x.count)) 2))) → (place : ℕ) → Takes flag w place → ⊥
      alone_of (inl is_off) place (inl both) = absurd (let same : off ≡ on = sym is_off ∙ both.0 in cc)
      alone_of (inl is_off) place (inr both) = absurd (let may = both.0 in true≢false (sym may ∙ ap may_come is_off))
      alone_of (inr is_soon) place (inl both) = absurd (let same : soon ≡ on = sym is_soon.0 ∙ both.0 in cc)
      alone_of (inr is_soon) place (inr both) = halts_not is_soon.1.0 place both.1

      -- SP lies below where it was
      lies_below : LiesBelow u.machine.cpu.sp inner.bytes at.cpu.sp
      lies_below =
          let states = handles u flag w x in
          let some = states.few in let less = x.of.few in let fit = enough_room u flag w x in let short = ground.stack_short in
          record {
            count = count_of (stack_of x.known.state);
            some = states.enough;
            few = omega (arith, some, less);
            is = stands_at (bounds_of (below x.count)) at.cpu.sp at.memory (stack_of x.known.state) states.enough x.known.stack
                ∙ below_top (bounds_of (below x.count)) (count_of (stack_of x.known.state)) (omega (arith, some, fit, short))
                ∙ ap (λ a. behind a (count_of (stack_of x.known.state))) (top_here u flag w x);
          }

      anew_of : Either → sets_sp here.instr ≡ true → here.instr ≡ Lxi Sp (top_of image.regions)
      anew_of (inl (inl both)) sets = absurd (true≢false (sym sets ∙ ap sets_sp both.0))
      anew_of (inl (inr anew)) sets = anew.sets
      anew_of (inr (fixed, fits)) sets = absurd (true≢false (sym sets ∙ sets_uses here.instr fixed))

      back_of : (v : World) → Executes image.regions (IsLeftOpenAt listed) w v → sets_sp here.instr ≡ false → is_back u v ≡ true → Either → v.machine.cpu ≡ u.machine.cpu
      back_of v by unset over_then (inl (inl both)) = cpu_is u flag w x both.0 both.1 v by
      back_of v by unset over_then (inl (inr anew)) = absurd (true≢false (sym (ap sets_sp anew.sets) ∙ unset))
      back_of v by unset over_then (inr (fixed, fits)) = absurd (not_over u flag w x fixed fits v by (grind (arith, nat_tests, over_then)))

      keeps_handler : KeepsHandler image places main inner listed flag u w
      keeps_handler = record {
        found = here;
        anywhere = anywhere u flag w x;
        of_image = inside_of image.regions (memory_of image.chunks) at.cpu.pc here (subst (λ n. fetch_at image.regions (memory_of image.chunks) n ≡ Ok here) x.known.at (handles u flag w x).executed.fetched);
        direct = all_of_list (in_data image.regions) (direct_bytes here.instr) (handles u flag w x).executed.stores;
        pointed = pointed_of (handles u flag w x).goes;
        writes = All-append MayWrite (direct_bytes here.instr) (pointed_bytes here.instr at.cpu.registers) (handles u flag w x).direct (writes_by_pair (handles u flag w x).goes);
        returning = returning_of (handles u flag w x).goes;
        jumping = jumping_of (handles u flag w x).goes;
        declared = declared_of (handles u flag w x).goes;
        stack = stack_of_it (handles u flag w x).goes;
        alone = alone_of x.now;
        lies = lies_below;
        pushed = x.left.pushed;
        anew = anew_of (handles u flag w x).goes;
        gives_back = λ v by unset over_then. back_of v by unset over_then (handles u flag w x).goes;
        goes_on = λ no_halt inside byte small.
            let l = goes_on here.instr byte here.next at no_halt in
            record {
              next = record { machine = l.0; places = places_after here.instr here.next at.cpu.registers.flags w.places };
              step = record { found = here; byte = byte; after = l.0; fetched = anywhere u flag w x; small = small; inside = inside; goes = l.1; is = refl };
              brought = refl;
            };
      }

    -- where the program is between interrupts, an interrupt pushes onto STACK
    pushes_of : (set : Bool) (flag : Enable) (w : World) (runs : Runs set flag w) → (place handler : ℕ) → Takes flag w place → Contains handlers handler →
        All (IsOnStack image (main + inner.bytes)) (behind w.machine.cpu.sp 1 ∷ behind w.machine.cpu.sp 2 ∷ [])
    pushes_of set flag w runs place h takes has = by (main_ready set w (subst (λ (b : Bool). MainKnows set b w) (runs.more (comes_so takes)) runs.main_known)) where
      comes_so : Takes flag w place → may_come flag ≡ true
      comes_so (inl both) = ap may_come both.0
      comes_so (inr both) = both.0

      of : HandlerTable image mtable inner.written quiet inner.ways places listed inner.bytes h
      of = (tables h has).of

      started : Handles mtable inner.written of.bounds (fitted of) of.fits.start.state
      started = one_of (Handles mtable inner.written of.bounds (fitted of)) of.table of.fits.start.place of.fits.start.state of.fits.states of.fits.start.there

      by : IsReady image main set w → All (IsOnStack image (main + inner.bytes)) (behind w.machine.cpu.sp 1 ∷ behind w.machine.cpu.sp 2 ∷ [])
      by ready =
          let few = ready.few in let less = of.few in let some = started.few in let enough = started.enough in
          let pointers = pointer_below image.regions ground ready.count (omega (arith, few, less, some, enough, room)) in
          two_of (IsOnStack image (main + inner.bytes)) (behind w.machine.cpu.sp 1) (behind w.machine.cpu.sp 2)
          (subst (λ a. IsOnStack image (main + inner.bytes) a) (sym (ap (λ a. behind a 1) ready.pointer ∙ pointers.0)) (on_it (ready.count + 1) (omega arith) (omega (arith, few, less, some, enough))))
          (subst (λ a. IsOnStack image (main + inner.bytes) a) (sym (ap (λ a. behind a 2) ready.pointer ∙ pointers.1)) (on_it (ready.count + 2) (omega arith) (omega (arith, few, less, some, enough)))) where
            on_it : (n : ℕ) → 0 < n → n ≤ main + inner.bytes → IsOnStack image (main + inner.bytes) (pointer_at (bounds_of image) n)
            on_it n some few = let it = at_count image.regions ground (main + inner.bytes) n some few (omega (arith, few, room)) in record { in_stack = it.there; below = it.below }

  pub live_keeps : PromiseOfLive image quiet is_set handlers places ways listed main inner
  live_keeps start pc whole code held top w set flag None board =
      let runs = knows start pc whole code held top set flag None w board in (
        placed w.machine.cpu.pc (main_stands set runs.enabled w runs.main_known),
        record { keeps = main_keeps set runs.enabled w runs.main_known; pushes = pushes_of start pc whole code held top set flag w runs },
      )
  live_keeps start pc whole code held top w set flag (Some u) board =
      let known = knows start pc whole code held top set flag (Some u) w board in (
        subst (λ n. Contains places n) known.1.known.at (one_of (λ (s : FollowedState). Contains places s.at) known.1.of.table known.1.known.place known.1.known.state known.1.placed_in known.1.known.there),
        keeps_handler start pc whole code held top u flag w known.1,
      )

pub live_promise : StepLaws → ((regions : Areas) → AreRegions regions → Ground regions) → LiveMachinesKeepThePromise
live_promise laws grounds image quiet is_set handlers places ways listed mtable main inner rules quiet_data loud main_fits placed tables room = live_keeps laws grounds image quiet is_set handlers places ways listed main inner rules quiet_data loud mtable main_fits placed tables room
