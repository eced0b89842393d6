-- Calls that are stepped over: what is known of a world is a state of the procedure that is executed, in its part of the stack, and for each procedure that
-- waits for it a state behind its call, and that what lies on the stack above that part is what this state knows.
use Rattle.std.specs.Prelude.{◌≡◌, ◌≢◌, ◌⊎◌, ◌≤◌, ◌<◌, ◌+◌, ◌-◌, ◌||◌, ℕ, suc, ◌/◌, ◌%◌, Bool, true, false, List, [], ◌∷◌, Option}
use Rattle.std.specs.Prelude.{None, Some, All, Contains, IfSome, IsSome, is_some, length, slice_index, if◌then◌else◌}
use Rattle.std.proofs.Common.{ap, arith, get_or, inl, inr, refl, subst, sym, true≢false, ◌∙◌}
use Rattle.std.proofs.lemmas.{Bool.Decides.nat_tests}
use Rattle.std.proofs.lemmas.List.Elements.{All-contains, All-nil}
use Rattle.decode80.specs.{Facts.flow, Fetch.ahead, Fetch.behind, Fetch.direct_bytes, declared.condition.Condition.Condition}
use Rattle.decode80.specs.{declared.fetching.Fetched.Fetched, declared.flow.Flow.Flow, declared.instr.Instr.Instr}
use Rattle.decode80.specs.declared.flow.Flow.TheVariants.{Calls, CallsIf, Returns, ReturnsIf}
use Rattle.decode80.specs.declared.instr.Instr.TheVariants.{Call, CallIf, Pchl, Ret, ReturnIf, Rst}
use Rattle.decode80.specs.declared.pair.StackPair.{StackPair}
use Rattle.decode80.specs.declared.pair.StackPair.TheVariants.{Bc as StackBc, De as StackDe, Hl as StackHl, Psw}
use Rattle.image80.specs.{Image.Located, Image.memory_of, Range.in_range, Regions.AreRegions, Regions.Areas, Regions.in_data, Regions.top_of}
use Rattle.machine80.specs.{Effects.byte_in, Effects.pointed_bytes, Effects.push_bytes}
use Rattle.machine80.specs.{Effects.stack_bytes, Effects.stored, Effects.touched_by, Effects.word_in, Flags.holds as holds_of}
use Rattle.machine80.specs.{Run.world_of, declared.flags.Flags.Flags}
use Rattle.machine80.specs.Step.{Machine, fetch, proceeded}
use Rattle.machine80.specs.World.{IsJustBelow, World, is_return_taken, places_after}
use Rattle.verify80.specs.Boards.{Disturbs, Executes, IsPushed, LeavesProgram, StaysInside, fetched_anywhere, respected_pointer, sets_sp, unguarded}
use Rattle.verify80_spans.specs.declared.byte_span.ByteSpan.{ByteSpan}
use Rattle.verify80_spans.specs.Span.{ByteWithin}
use Rattle.verify80_states.specs.{Bytes.HoldsBytes, Known.nothing_known, QuietBoards.StaysQuiet, Steps.HasCode, Steps.is_taken}
use Rattle.verify80_states.specs.Invariants.{invariant_is_kept}
use Rattle.verify80_follow.specs.declared.{calls.Summary.Summary, followed.FollowedState.FollowedState, followed.Listed.Listed, stack.StackBounds.StackBounds}
use Rattle.verify80_follow.specs.InterruptedBoards.{OnInterruptedBoard, Wakes, begins, disturbed, enabled_after, executed, woken}
use Rattle.verify80_follow.specs.Stack.{HoldsFrom, HoldsStack, bounds_of, pointer_at}
use Rattle.verify80_follow.specs.Held.{Entry, HoldsBeside, HoldsPairHeld, HoldsSaved, count_of, no_pair}
use Rattle.verify80_follow.specs.Follows.{FitsSummary, Follows, Goes, Has, IsBehindCall, IsWay, PassesBy, ReturnsBack, StateStands}
use Rattle.verify80_follow.specs.Follows.{StepsOver, Summarizes, beside_call, called, entered_stack, is_call, is_return, places_among, stack_of}
use Rattle.verify80_follow.specs.Handling.{on_stack}
use Rattle.verify80_follow.specs.Live.{entering}
use Rattle.verify80_follow.specs.Promise.{FollowedProgramsKeepThePromise, IsLeftOpenAt, IsOnStack, IsReady, KeepsFollowed, KnowsWorld, PromiseOfFollowed, PromiseOfInterrupted}
use Rattle.verify80_follow.proofs.{GroundLemmas.Ground, HeldLemmas.all_of, HeldLemmas.two_of, PlaceLemmas.inner_placed, PlaceLemmas.main_placed, RelativeLemmas.summary_more}
use Rattle.verify80_follow.specs.StepLaws.{StepLaws}
use Rattle.verify80_follow.proofs.FollowLemmas.{anywhere, begun as begun_table, bounded, direct as direct_in}
use Rattle.verify80_follow.proofs.FollowLemmas.{disturbs as disturbs_table, enters, executes_found, executes_passed}
use Rattle.verify80_follow.proofs.FollowLemmas.{keeps as keeps_table, keeps_by, nobody, one_of, same_some, stays_inside, touches_stack, wakes_found}
use Rattle.verify80_follow.proofs.GuardLemmas.{Touches, at_count}
use Rattle.verify80_follow.proofs.PartLemmas.{byte_kept, executes_moved, into_back, into_bytes, into_stack, into_whole, off_part, off_stack, part_below, part_inside, regions_below, two_above}
use Rattle.verify80_follow.specs.Follows.{Fitting, Ways, fitting, summary_fitting, ways_of}
use Rattle.verify80_follow.proofs.StackLemmas.{next_pointer, on_stack as on_part, pointer_below, pointer_is, range_high}

-- a call that is taken, and a return
call_taken : (c : Condition) (to next : ℕ) (m : Machine) → holds_of c m.cpu.registers.flags ≡ true → proceeded (CallIf c to) next m ≡ entering m next to
call_taken c to next m taken = ap (λ (b : Bool). record m { cpu = record m.cpu { sp = if b then behind m.cpu.sp 2 else m.cpu.sp; pc = if b then to else next }; memory = stored m.memory (if b then push_bytes m.cpu.sp (next / 256) (next % 256) else []) }) taken

called_machine : (i : Instr) (to byte next : ℕ) (m after : Machine) → called (flow i) ≡ Some to → is_taken (flow i) m.cpu.registers.flags ≡ true → unguarded i byte next m ≡ Some after → after ≡ entering m next to
called_machine (Call w) to byte next m after is taken goes = sym (same_some _ _ goes) ∙ ap (λ n. entering m next n) (same_some w to is)
called_machine (Rst n) to byte next m after is taken goes = sym (same_some _ _ goes) ∙ ap (λ k. entering m next k) (same_some _ to is)
called_machine (CallIf c w) to byte next m after is taken goes = sym (same_some _ _ goes) ∙ call_taken c w next m taken ∙ ap (λ n. entering m next n) (same_some w to is)
called_machine i to byte next m after is taken goes = cc

abbrev returned : Machine → Machine
returned m = record m { cpu = record m.cpu { sp = ahead m.cpu.sp 2; pc = word_in m.memory m.cpu.sp } }

return_taken_to : (c : Condition) (next : ℕ) (m : Machine) → holds_of c m.cpu.registers.flags ≡ true → proceeded (ReturnIf c) next m ≡ returned m
return_taken_to c next m taken = ap (λ (b : Bool). record m { cpu = record m.cpu { sp = if b then ahead m.cpu.sp 2 else m.cpu.sp; pc = if b then word_in m.memory m.cpu.sp else next } }) taken

returned_machine : (i : Instr) (byte next : ℕ) (m after : Machine) → is_return (flow i) ≡ true → is_taken (flow i) m.cpu.registers.flags ≡ true → unguarded i byte next m ≡ Some after → after ≡ returned m
returned_machine Ret byte next m after is taken goes = sym (same_some _ _ goes)
returned_machine (ReturnIf c) byte next m after is taken goes = sym (same_some _ _ goes) ∙ return_taken_to c next m taken
returned_machine i byte next m after is taken goes = cc

-- what such an instruction touches of the stack, if it isn't taken: nothing
untouched : (f : Flow) (m : Machine) → (is_some (called f) || is_return f) ≡ true → is_taken f m.cpu.registers.flags ≡ false → touched_by f m.cpu ≡ []
untouched (CallsIf c to) m kind off = rw off refl
untouched (ReturnsIf c) m kind off = rw off refl
untouched (Calls to) m kind off = cc
untouched Returns m kind off = cc
untouched f m kind off = cc

-- it isn't PCHL, and calls don't return
no_pchl : (f : Flow) (i : Instr) → flow i ≡ f → (is_some (called f) || is_return f) ≡ true → i ≢ Pchl
no_pchl f Pchl is kind = λ same. absurd (let it : (is_some (called (flow Pchl)) || is_return (flow Pchl)) ≡ true = subst (λ (g : Flow). (is_some (called g) || is_return g) ≡ true) (sym is) kind in true≢false (sym it))
no_pchl f i is kind = λ same. cc

-- what is executed: the program, or a procedure that a call steps over, below a number of bytes of the stack
pub record Level : Type 0 where
  pub table : List FollowedState
  pub most : ℕ
  pub base : ℕ
  pub entered : Entry
  pub inner : Bool

plus_none : (n : ℕ) → n ≡ n + 0
plus_none n = omega arith

minus_none : (n : ℕ) → n - 0 ≡ n
minus_none n = omega arith

-- ranges that begin alike
in_longer : (first short long a : ℕ) → short ≤ long → in_range (record { first = first; length = short }) a ≡ true → in_range (record { first = first; length = long }) a ≡ true
in_longer first short long a more there = grind (arith, nat_tests, there, more)

out_of : (first size n a : ℕ) → in_range (record { first = first; length = size }) a ≡ true → in_range (record { first = first; length = size - n }) a ≡ false → first + (size - n) ≤ a
out_of first size n a there out = grind (arith, nat_tests, there, out)

range_apart : (first size n c d : ℕ) → n + c ≤ size → 1 ≤ d → d ≤ c → in_range (record { first = first; length = size - (n + c) }) (first + (size - n) - d) ≡ true → ⊥
range_apart first size n c d less one inside there = let high = range_high first (size - (n + c)) (first + (size - n) - d) there in omega (arith, high, less, one, inside)

-- a call that is taken touches the two bytes below SP, and a return the two at SP
called_touches : (f : Flow) (to : ℕ) (m : Machine) → called f ≡ Some to → is_taken f m.cpu.registers.flags ≡ true → touched_by f m.cpu ≡ behind m.cpu.sp 1 ∷ behind m.cpu.sp 2 ∷ []
called_touches (Calls w) to m is taken = refl
called_touches (CallsIf c w) to m is taken = rw taken refl
called_touches f to m is taken = cc

returned_touches : (f : Flow) (m : Machine) → is_return f ≡ true → is_taken f m.cpu.registers.flags ≡ true → touched_by f m.cpu ≡ m.cpu.sp ∷ ahead m.cpu.sp 1 ∷ []
returned_touches Returns m is taken = refl
returned_touches (ReturnsIf c) m is taken = rw taken refl
returned_touches f m is taken = cc

call_kind : (f : Flow) (to : ℕ) → called f ≡ Some to → (is_some (called f) || is_return f) ≡ true
call_kind f to is = ap (λ (o : Option ℕ). is_some o || is_return f) is

return_kind : (f : Flow) → is_return f ≡ true → (is_some (called f) || is_return f) ≡ true
return_kind Returns is = refl
return_kind (ReturnsIf c) is = refl
return_kind f is = cc

calls_it : (f : Flow) (to : ℕ) → called f ≡ Some to → is_call f ≡ true
calls_it (Calls w) to is = refl
calls_it (CallsIf c w) to is = refl
calls_it f to is = cc

calls_no_return : (f : Flow) (to : ℕ) (flags : Flags) → called f ≡ Some to → is_return_taken f flags ≡ true → ⊥
calls_no_return (Calls w) to flags is taken = cc
calls_no_return (CallsIf c w) to flags is taken = cc
calls_no_return f to flags is taken = cc

return_taken : (f : Flow) (flags : Flags) → is_return_taken f flags ≡ true → is_taken f flags ≡ true
return_taken Returns flags taken = refl
return_taken (ReturnsIf c) flags taken = taken
return_taken f flags taken = cc

-- a stack of two bytes
two_stand : (b : StackBounds) (sp : ℕ) (memory : List ℕ) (set : Bool) (o : Option (List ByteSpan)) → count_of o ≡ 2 → IfSome o (λ c. HoldsStack b c sp memory × (set ≡ true)) → (sp ≡ pointer_at b 2) × (set ≡ true)
two_stand b sp memory set None is stands = absurd (omega (arith, is))
two_stand b sp memory set (Some c) is stands = (stands.0.pointer ∙ ap (λ n. pointer_at b n) is, stands.1)

two_deep : (most : ℕ) (o : Option (List ByteSpan)) → count_of o ≡ 2 → IfSome o (λ c. length c ≤ most) → 2 ≤ most
two_deep most None is deep = absurd (omega (arith, is))
two_deep most (Some c) is deep = omega (arith, is, deep)

nothing_but : (b : StackBounds) (e : Entry) (back : Option ℕ) (count : ℕ) (m : Machine) → HoldsSaved b m.memory (e.back / 256) (e.back % 256) count back → HoldsBeside b e (beside_call back) count m
nothing_but b e back count m holds = record { psw = none Psw; bc = none StackBc; de = none StackDe; hl = none StackHl; back = holds } where
  none : (pair : StackPair) → HoldsPairHeld b e pair no_pair count m
  none pair = record { in_place = λ is. cc; saved = tt }

module _ (laws : StepLaws) (grounds : (regions : Areas) → AreRegions regions → Ground regions) (image : Located) (interrupted : Bool) (quiet : ℕ → Bool) (is_set : Bool) (ways : Ways) (listed : Listed) (table : List FollowedState) (bytes : ℕ)
    (rules : AreRegions image.regions) (quiet_data : (at : ℕ) → quiet at ≡ true → in_data image.regions at ≡ true) (fits : Follows image interrupted quiet is_set ways listed table bytes) (few : bytes ≤ image.regions.stack.length)
    (all_placed : (at : ℕ) → Contains (places_among table fits.summaries) at → Contains ways.places at) where
  abbrev ground : Ground image.regions
  ground = grounds image.regions rules

  abbrev pub part : ℕ → Located
  part n = on_stack image (part_below image.regions n)

  whole_part : part 0 ≡ image
  whole_part = ap (λ n. on_stack image (record { first = image.regions.stack.first; length = n })) (minus_none image.regions.stack.length)

  rules_of : (n : ℕ) → AreRegions (part n).regions
  rules_of n = regions_below image.regions n rules

  ground_of : (n : ℕ) → Ground (part n).regions
  ground_of n = grounds (part n).regions (rules_of n)

  -- what the program's table is fitted to, and that of what is executed
  abbrev main_fitting : Fitting
  main_fitting = fitting image interrupted quiet fits.code ways listed fits.summaries table bytes

  abbrev fitting_at : Level → Fitting
  fitting_at l = fitting (part l.base) interrupted quiet fits.code ways listed fits.summaries l.table l.most

  -- the states of what is executed go on; and there is room for it
  abbrev pub GoesAt : Level → FollowedState → Type 0
  GoesAt l s = ((l.inner ≡ true) × ReturnsBack (bounds_of (part l.base)) (fitting_at l) s)
      ⊎ Goes (bounds_of (part l.base)) (fitting_at l) s

  pub record IsFit (l : Level) : Type 0 where
    pub room : l.base + l.most ≤ bytes
    pub outermost : l.inner ≡ false → l.base ≡ 0
    pub goes : All (λ s. GoesAt l s) l.table
    pub enough : l.inner ≡ true → All (λ (s : FollowedState). 2 ≤ count_of (stack_of s)) l.table
    pub placed : All (λ s. Contains (places_among table fits.summaries) s.at) l.table

  abbrev pub main_level : Level
  main_level = record { table = table; most = bytes; base = 0; entered = nobody; inner = false }

  abbrev pub inner_level : Summary → ℕ → Entry → Level
  inner_level p n e = record { table = p.states.items; most = p.bytes; base = n; entered = e; inner = true }

  main_fit : IsFit main_level
  main_fit = record { room = omega arith; outermost = λ is. refl; goes = λ j d inside. inr (subst (λ (i : Located). Goes (bounds_of i) (fitting i interrupted quiet fits.code ways listed fits.summaries table bytes) (get_or table j d)) (sym whole_part) (fits.states j d inside)); enough = λ is. cc; placed = main_placed table fits.summaries }

  fit_of : (p : Summary) → Contains fits.summaries p → FitsSummary main_fitting p
  fit_of p among = All-contains (FitsSummary main_fitting) fits.summaries p fits.fit among

  inner_fit : (p : Summary) (n : ℕ) (e : Entry) → Contains fits.summaries p → n + p.bytes ≤ bytes → IsFit (inner_level p n e)
  inner_fit p n e among room = record {
    room = room;
    outermost = λ is. cc;
    goes = λ j d inside. by (get_or p.states.items j d) (of.states j d inside);
    enough = λ is j d inside. (of.states j d inside).enough;
    placed = inner_placed table fits.summaries p among;
  }
    where
      of : FitsSummary main_fitting p
      of = fit_of p among

      wide : of.bounds.length ≤ image.regions.stack.length - n
      wide = let less = of.room in omega (arith, less, room, few)

      by : (s : FollowedState) → Summarizes of.bounds (summary_fitting main_fitting p) s → GoesAt (inner_level p n e) s
      by s one = either (summary_more of.bounds (bounds_of (part n)) wide (summary_fitting main_fitting p) (part_below image.regions n) s one.enough one.fixed one.goes) where
        either : ReturnsBack (bounds_of (part n)) (fitting_at (inner_level p n e)) s ⊎ Goes (bounds_of (part n)) (fitting_at (inner_level p n e)) s → GoesAt (inner_level p n e) s
        either (inl back) = inl (refl, back)
        either (inr goes) = inr goes

  few_at : (l : Level) → IsFit l → l.most ≤ image.regions.stack.length - l.base
  few_at l fit = let less = fit.room in omega (arith, less, few)

  low_at : (l : Level) → IsFit l → l.base ≤ image.regions.stack.length
  low_at l fit = let less = fit.room in omega (arith, less, few)

  abbrev pub At : Level → (set enabled : Bool) → World → Type 0
  At l set enabled w = KnowsWorld (part l.base) interrupted l.entered l.table set enabled w

  fetch_whole : (n at : ℕ) (found : Fetched) → fetch (part n).regions (memory_of (part n).chunks) at ≡ Some found → fetch image.regions (memory_of image.chunks) at ≡ Some found
  unfolding fetch
  fetch_whole n at found is = is

  -- addresses of a part are addresses of the whole stack
  shifted : (n c : ℕ) → n + c ≤ image.regions.stack.length → pointer_at (bounds_of (part n)) c ≡ pointer_at (bounds_of image) (n + c)
  shifted n c less = let ends = ground.stack_ends in omega (arith, less, ends)

  narrower : (n k : ℕ) → n ≤ k → (a : ℕ) → in_range (part n).regions.stack a ≡ false → in_range (part k).regions.stack a ≡ false
  narrower n k less a out = by (in_range (part k).regions.stack a) refl where
    by : (b : Bool) → in_range (part k).regions.stack a ≡ b → in_range (part k).regions.stack a ≡ false
    by true there = absurd (true≢false (sym (in_longer image.regions.stack.first (image.regions.stack.length - k) (image.regions.stack.length - n) a (omega (arith, less)) there) ∙ out))
    by false is = is

  -- what is called waits for: behind the call is a state of it that knows its stack, which lies above the part of what is executed
  pub record Waits (outer l : Level) (memory : List ℕ) : Type 0 where
    pub stack : List ByteSpan
    pub back : Option ℕ
    pub has : Has outer.table l.entered.back nothing_known (beside_call back) (Some stack)
    pub base : l.base ≡ outer.base + length stack
    pub stands : HoldsStack (bounds_of (part outer.base)) stack (pointer_at (bounds_of (part outer.base)) (length stack)) memory
    pub held : HoldsSaved (bounds_of (part outer.base)) memory (outer.entered.back / 256) (outer.entered.back % 256) (length stack) back
    pub behind : IsBehindCall image ways.places l.entered.back

  abbrev pub Chain : List Level → Level → List ℕ → Type 0
  Chain [] l memory = l.inner ≡ false
  Chain (outer ∷ rest) l memory = Waits outer l memory × (IsFit outer × Chain rest outer memory)

  -- a byte that lies above a part, in another one
  above_out : (n c d : ℕ) → n + c ≤ image.regions.stack.length → 1 ≤ d → d ≤ c → in_range (part (n + c)).regions.stack (pointer_at (bounds_of (part n)) d) ≡ false
  above_out n c d less one inside = by (in_range (part (n + c)).regions.stack (pointer_at (bounds_of (part n)) d)) refl where
    by : (b : Bool) → in_range (part (n + c)).regions.stack (pointer_at (bounds_of (part n)) d) ≡ b → in_range (part (n + c)).regions.stack (pointer_at (bounds_of (part n)) d) ≡ false
    by true there =
        let here = pointer_is (part n).regions (ground_of n) d one (omega (arith, less, inside)) in
        absurd (high (subst (λ a. in_range (part (n + c)).regions.stack a ≡ true) here there)) where
          high : in_range (part (n + c)).regions.stack (image.regions.stack.first + (image.regions.stack.length - n) - d) ≡ true → ⊥
          high inside_it = range_apart image.regions.stack.first image.regions.stack.length n c d less one inside inside_it
    by false is = is

  stays_above : (outer : Level) (c : ℕ) (old new : List ℕ) → outer.base + c ≤ image.regions.stack.length → ((a : ℕ) → in_range image.regions.stack a ≡ true → in_range (part (outer.base + c)).regions.stack a ≡ false → slice_index new a ≡ slice_index old a) →
      (d : ℕ) → 1 ≤ d → d ≤ c → byte_in new (pointer_at (bounds_of (part outer.base)) d) ≡ byte_in old (pointer_at (bounds_of (part outer.base)) d)
  stays_above outer c old new less same d one inside =
      same (pointer_at (bounds_of (part outer.base)) d)
      (part_inside image.regions outer.base (pointer_at (bounds_of (part outer.base)) d) (on_part (part outer.base).regions (ground_of outer.base) d one (omega (arith, less, inside))))
      (above_out outer.base c d less one inside)

  -- the bytes of a stack, one by one
  from_each : (n : ℕ) (stack : List ByteSpan) (old new : List ℕ) → n + length stack ≤ image.regions.stack.length → ((d : ℕ) → 1 ≤ d → d ≤ length stack → byte_in new (pointer_at (bounds_of (part n)) d) ≡ byte_in old (pointer_at (bounds_of (part n)) d)) →
      HoldsFrom old (pointer_at (bounds_of (part n)) (length stack)) stack → HoldsFrom new (pointer_at (bounds_of (part n)) (length stack)) stack
  from_each n [] old new less same holds = tt
  from_each n (b ∷ bs) old new less same holds =
      let next = next_pointer (part n).regions (ground_of n) (length bs) (omega (arith, less)) in (
        subst (λ k. ByteWithin b k) (sym (same (suc (length bs)) (omega arith) (omega arith))) holds.0,
        subst (λ k. HoldsFrom new k bs) (sym next) (from_each n bs old new (omega (arith, less)) (λ d one inside. same d one (omega (arith, inside))) (subst (λ k. HoldsFrom old k bs) next holds.1)),
      )

  saved_stays : (b : StackBounds) (old new : List ℕ) (high low count : ℕ) (o : Option ℕ) → ((d : ℕ) → 1 ≤ d → d ≤ count → byte_in new (pointer_at b d) ≡ byte_in old (pointer_at b d)) → HoldsSaved b old high low count o → HoldsSaved b new high low count o
  saved_stays b old new high low count None same holds = tt
  saved_stays b old new high low count (Some depth) same holds =
      let inside = holds.0 in let two = holds.1.two in (
        inside,
        record {
          two = two;
          low_is = same depth (omega (arith, two)) inside ∙ holds.1.low_is;
          high_is = same (depth - 1) (omega (arith, two)) (omega (arith, inside)) ∙ holds.1.high_is;
        },
      )

  waits_stays : (outer l : Level) (old new : List ℕ) → IsFit l → ((a : ℕ) → in_range image.regions.stack a ≡ true → in_range (part l.base).regions.stack a ≡ false → slice_index new a ≡ slice_index old a) → Waits outer l old → Waits outer l new
  waits_stays outer l old new fit same x = record {
    stack = x.stack;
    back = x.back;
    has = x.has;
    base = x.base;
    stands = record { pointer = x.stands.pointer; within = x.stands.within; each = from_each outer.base x.stack old new low stay x.stands.each };
    held = saved_stays (bounds_of (part outer.base)) old new (outer.entered.back / 256) (outer.entered.back % 256) (length x.stack) x.back stay x.held;
    behind = x.behind;
  }
    where
      low : outer.base + length x.stack ≤ image.regions.stack.length
      low = let is = x.base in let less = low_at l fit in omega (arith, is, less)

      stay : (d : ℕ) → 1 ≤ d → d ≤ length x.stack → byte_in new (pointer_at (bounds_of (part outer.base)) d) ≡ byte_in old (pointer_at (bounds_of (part outer.base)) d)
      stay = stays_above outer (length x.stack) old new low (subst (λ n. (a : ℕ) → in_range image.regions.stack a ≡ true → in_range (part n).regions.stack a ≡ false → slice_index new a ≡ slice_index old a) x.base same)

  chain_stays : (rest : List Level) (l : Level) (old new : List ℕ) → IsFit l → ((a : ℕ) → in_range image.regions.stack a ≡ true → in_range (part l.base).regions.stack a ≡ false → slice_index new a ≡ slice_index old a) → Chain rest l old → Chain rest l new
  chain_stays [] l old new fit same chain = chain
  chain_stays (outer ∷ rest) l old new fit same chain =
      (waits_stays outer l old new fit same chain.0, (chain.1.0, chain_stays rest outer old new chain.1.0 (λ a there out. same a there (narrower outer.base l.base (let is = chain.0.base in omega (arith, is)) a out)) chain.1.1))

  -- what is known of a world
  pub record Knows (set enabled : Bool) (w : World) : Type 0 where
    pub level : Level
    pub fit : IsFit level
    pub rest : List Level
    pub chain : Chain rest level w.machine.memory
    pub known : At level set enabled w

  -- a state of the program
  pub in_main : (set enabled : Bool) (w : World) → KnowsWorld image interrupted nobody table set enabled w → Knows set enabled w
  in_main set enabled w known = record { level = main_level; fit = main_fit; rest = []; chain = refl; known = subst (λ (i : Located). KnowsWorld i interrupted nobody table set enabled w) (sym whole_part) known }

  pub begun : (start : Machine) → start.cpu.pc ≡ image.start → length start.memory ≡ 65536 → HasCode image start.memory → HoldsBytes start → (is_set ≡ true → start.cpu.sp ≡ top_of image.regions) → Knows is_set false (world_of start)
  begun start pc whole code held top = in_main is_set false (world_of start)
      (begun_table laws main_fitting nobody is_set rules ground quiet_data fits.are_code few fits.start start pc whole code held top)

  -- what is executed, and what of it is known
  module _ (l : Level) (fit : IsFit l) (set enabled : Bool) (w : World) (k : At l set enabled w) where
    abbrev m : Machine
    m = w.machine

    goes : GoesAt l k.state
    goes = one_of (λ s. GoesAt l s) l.table k.place k.state fit.goes k.there

    stands_of : GoesAt l k.state → StateStands (fitting_at l) k.state
    stands_of (inl (inner, back)) = back.stands
    stands_of (inr (inl f)) = f.stands
    stands_of (inr (inr steps)) = steps.stands

    -- by what is known as far as the instruction is executed
    module _ (stood : StateStands (fitting_at l) k.state) where
      abbrev found : Fetched
      found = stood.found

      here : fetched_anywhere m.memory m.cpu.pc ≡ Some found
      here = anywhere laws (fitting_at l) l.entered is_set (rules_of l.base) (ground_of l.base) quiet_data fits.are_code (few_at l fit) set enabled w k stood

      small : found.next < 65536
      small = (bounded laws (fitting_at l) l.entered is_set (rules_of l.base) (ground_of l.base) quiet_data fits.are_code (few_at l fit) set enabled w k stood).next

      abbrev TouchesPart : List ℕ → Type 0
      TouchesPart xs = All (Touches (part l.base).regions (ground_of l.base) l.most) xs

      -- an instruction
      module _ (v : World) (by : Executes image.regions (IsLeftOpenAt listed) w v) where
        abbrev by_part : Executes (part l.base).regions (IsLeftOpenAt listed) w v
        by_part = executes_moved image (part_below image.regions l.base) (IsLeftOpenAt listed) w v by

        same : by.found ≡ found
        same = same_some by.found found (sym by.fetched ∙ here)

        goes_here : unguarded found.instr by.byte found.next m ≡ Some by.after
        goes_here = subst (λ (f : Fetched). unguarded f.instr by.byte f.next m ≡ Some by.after) same by.goes

        stays : StaysInside (part l.base).regions m found.instr
        stays = stays_inside laws (fitting_at l) l.entered is_set (rules_of l.base) (ground_of l.base) quiet_data fits.are_code (few_at l fit) set enabled w k stood
            (λ at. subst (λ (f : Fetched). StaysInside (part l.base).regions m f.instr) same (by_part.inside at))

        memory_is : v.machine.memory ≡ by.after.memory
        memory_is = ap (λ (z : World). z.machine.memory) by.is

        abbrev places : List ℕ
        places = places_after by.found.instr by.found.next m.cpu.registers.flags w.places

        v_is : (x : Machine) → by.after ≡ x → v ≡ record { machine = x; places = places }
        v_is x is = by.is ∙ ap (λ (z : Machine). record { machine = z; places = places }) is

        data_apart : (xs : List ℕ) (a : ℕ) → in_range image.regions.stack a ≡ true → All (λ b. in_data image.regions b ≡ true) xs → All (λ (b : ℕ). a ≢ b) xs
        data_apart xs a there each = all_of (λ b. in_data image.regions b ≡ true) (λ (b : ℕ). a ≢ b) xs (λ b is equal. true≢false (sym there ∙ ap (in_range image.regions.stack) equal ∙ ground.data_or_stack b is)) each

        -- it stores to its part of the stack, and to data
        off_it : TouchesPart (stack_bytes found.instr m.cpu) → (a : ℕ) → in_range image.regions.stack a ≡ true → in_range (part l.base).regions.stack a ≡ false → slice_index v.machine.memory a ≡ slice_index m.memory a
        off_it touches a there out =
            ap (λ (x : List ℕ). slice_index x a) memory_is
            ∙ byte_kept laws.facts found.instr by.byte found.next m by.after goes_here a
            (all_of (Touches (part l.base).regions (ground_of l.base) l.most) (λ (b : ℕ). a ≢ b) (stack_bytes found.instr m.cpu) (λ b it equal. true≢false (sym it.there ∙ ap (in_range (part l.base).regions.stack) (sym equal) ∙ out)) touches)
            (data_apart (direct_bytes found.instr) a there (direct_in laws (fitting_at l) l.entered is_set (rules_of l.base) (ground_of l.base) quiet_data fits.are_code (few_at l fit) set enabled w k stood))
            (data_apart (pointed_bytes found.instr m.cpu.registers) a there stays.stores)

        abbrev Then : World → Type 0
        Then u = Knows (set || sets_sp by.found.instr) (enabled_after by.found.instr enabled) u

        goes_on_here : (rest : List Level) → Chain rest l m.memory → TouchesPart (stack_bytes found.instr m.cpu) → At l (set || sets_sp by.found.instr) (enabled_after by.found.instr enabled) v → Then v
        goes_on_here rest chain touches known = record { level = l; fit = fit; rest = rest; chain = chain_stays rest l m.memory v.machine.memory fit (off_it touches) chain; known = known }

        passed : (rest : List Level) → Chain rest l m.memory → (is_some (called (flow found.instr)) || is_return (flow found.instr)) ≡ true → is_taken (flow found.instr) m.cpu.registers.flags ≡ false →
            PassesBy (bounds_of (part l.base)) (fitting_at l) k.state found (flow found.instr) → Then v
        passed rest chain kind off passes = goes_on_here rest chain (subst (λ (xs : List ℕ). TouchesPart xs) (sym (untouched (flow found.instr) m kind off)) (All-nil (Touches (part l.base).regions (ground_of l.base) l.most)))
            (executes_passed laws (fitting_at l) l.entered is_set (rules_of l.base) (ground_of l.base) quiet_data fits.are_code (few_at l fit) set enabled w k stood kind off passes v by_part same)

        set_then : set ≡ true → (set || sets_sp by.found.instr) ≡ true
        set_then is = subst (λ s. (s || sets_sp by.found.instr) ≡ true) (sym is) refl

    -- a call that is stepped over
    module _ (steps : StepsOver (bounds_of (part l.base)) (fitting_at l) k.state) where
      abbrev p : Summary
      p = steps.summary

      abbrev next : ℕ
      next = steps.stands.found.next

      abbrev n : ℕ
      n = l.base + length steps.stack

      abbrev e : Entry
      e = record { registers = m.cpu.registers; back = next }

      stack_here : HoldsStack (bounds_of (part l.base)) steps.stack m.cpu.sp m.memory × (set ≡ true)
      stack_here = subst (λ (o : Option (List ByteSpan)). IfSome o (λ b. HoldsStack (bounds_of (part l.base)) b m.cpu.sp m.memory × (set ≡ true))) steps.is k.stack

      room_n : n + p.bytes ≤ bytes
      room_n = let less = steps.room in let more = fit.room in omega (arith, less, more)

      new_fit : IsFit (inner_level p n e)
      new_fit = inner_fit p n e steps.among room_n

      low_n : n ≤ image.regions.stack.length
      low_n = omega (arith, room_n, few)

      at_top : m.cpu.sp ≡ pointer_at (bounds_of (part n)) 0
      at_top = stack_here.0.pointer ∙ shifted l.base (length steps.stack) low_n ∙ ap (λ c. pointer_at (bounds_of image) c) (plus_none n) ∙ sym (shifted n 0 (omega (arith, low_n)))

      fit_p : FitsSummary main_fitting p
      fit_p = fit_of p steps.among

      started : Summarizes fit_p.bounds (summary_fitting main_fitting p) fit_p.start.state
      started = one_of (Summarizes fit_p.bounds (summary_fitting main_fitting p)) p.states.items fit_p.start.place fit_p.start.state fit_p.states fit_p.start.there

      two_bytes : 2 ≤ p.bytes
      two_bytes = let enough = started.enough in let less = started.few in omega (arith, enough, less)

      two_fit : 2 ≤ image.regions.stack.length - n
      two_fit = omega (arith, two_bytes, room_n, few)

      waits : Waits l (inner_level p n e) m.memory
      waits = record {
        stack = steps.stack;
        back = k.state.beside.back;
        has = steps.behind;
        base = refl;
        stands = record { pointer = refl; within = stack_here.0.within; each = subst (λ a. HoldsFrom m.memory a steps.stack) stack_here.0.pointer stack_here.0.each };
        held = subst (λ (o : Option (List ByteSpan)). HoldsSaved (bounds_of (part l.base)) m.memory (l.entered.back / 256) (l.entered.back % 256) (count_of o) k.state.beside.back) steps.is k.held.back;
        behind = record { at = k.state.at; placed = all_placed k.state.at (one_of (λ (s : FollowedState). Contains (places_among table fits.summaries) s.at) l.table k.place k.state fit.placed k.there); found = steps.stands.found; fetched = steps.stands.executed.fetched; calls = calls_it (flow steps.stands.found.instr) p.at steps.calls; next = refl };
      }

      steps_in : (rest : List Level) → Chain rest l m.memory → (v : World) (by : Executes image.regions (IsLeftOpenAt listed) w v) → is_taken (flow steps.stands.found.instr) m.cpu.registers.flags ≡ true →
          Knows (set || sets_sp by.found.instr) (enabled_after by.found.instr enabled) v
      steps_in rest chain v by taken = subst (λ (u : World). Then steps.stands v by u) (sym (v_is steps.stands v by (entering m next p.at) after)) (record {
        level = inner_level p n e;
        fit = new_fit;
        rest = l ∷ rest;
        chain = chain_stays (l ∷ rest) (inner_level p n e) m.memory (entering m next p.at).memory new_fit (λ a there out. off_part grounds image rules n low_n m next p.at (small steps.stands) at_top two_fit k.bytes k.whole a out) (waits, (fit, chain));
        known = enters laws (fitting_at (inner_level p n e)) e is_set (rules_of n) (ground_of n) quiet_data fits.are_code (few_at (inner_level p n e) new_fit) (set || sets_sp by.found.instr) (enabled_after by.found.instr enabled)
            (beside_call (Some 2)) (record { machine = entering m next p.at; places = places steps.stands v by }) nothing_known entered_stack fit_p.start (λ is. refl)
            (nothing_but (bounds_of (part n)) e (Some 2) 2 (entering m next p.at) (into_back grounds image rules n low_n m next p.at (small steps.stands) at_top two_fit k.bytes k.whole))
            (λ on is. refl) (laws.holds (entering m next p.at) held).nothing
            (into_stack grounds image rules n low_n m next p.at (small steps.stands) at_top two_fit k.bytes k.whole, set_then steps.stands v by stack_here.1) held
            (into_whole grounds image rules n low_n m next p.at (small steps.stands) at_top two_fit k.bytes k.whole)
            (λ a there. off_stack grounds image rules n low_n m next p.at (small steps.stands) at_top two_fit k.bytes k.whole a (ground.code_or_stack a there) ∙ k.code a there);
      }) where
        after : by.after ≡ entering m next p.at
        after = called_machine steps.stands.found.instr p.at by.byte next m by.after steps.calls taken (goes_here steps.stands v by)

        held : HoldsBytes (entering m next p.at)
        held = into_bytes grounds image rules n low_n m next p.at (small steps.stands) at_top two_fit k.bytes k.whole

      executes_call : (rest : List Level) → Chain rest l m.memory → (v : World) (by : Executes image.regions (IsLeftOpenAt listed) w v) → Knows (set || sets_sp by.found.instr) (enabled_after by.found.instr enabled) v
      executes_call rest chain v by = of (is_taken (flow steps.stands.found.instr) m.cpu.registers.flags) refl where
        of : (b : Bool) → is_taken (flow steps.stands.found.instr) m.cpu.registers.flags ≡ b → Knows (set || sets_sp by.found.instr) (enabled_after by.found.instr enabled) v
        of true taken = steps_in rest chain v by taken
        of false off = passed steps.stands v by rest chain (call_kind (flow steps.stands.found.instr) p.at steps.calls) off steps.passes

      call_touches : TouchesPart steps.stands (stack_bytes steps.stands.found.instr m.cpu)
      call_touches = of (is_taken (flow steps.stands.found.instr) m.cpu.registers.flags) refl where
        room_two : length steps.stack + 2 ≤ l.most
        room_two = let less = steps.room in omega (arith, less, two_bytes)

        of : (b : Bool) → is_taken (flow steps.stands.found.instr) m.cpu.registers.flags ≡ b → TouchesPart steps.stands (stack_bytes steps.stands.found.instr m.cpu)
        of false off = subst (λ (xs : List ℕ). TouchesPart steps.stands xs) (sym (untouched (flow steps.stands.found.instr) m (call_kind (flow steps.stands.found.instr) p.at steps.calls) off)) (All-nil (Touches (part l.base).regions (ground_of l.base) l.most))
        of true taken = subst (λ (xs : List ℕ). TouchesPart steps.stands xs) (sym (called_touches (flow steps.stands.found.instr) p.at m steps.calls taken))
            (let less = few_at l fit in let below = pointer_below (part l.base).regions (ground_of l.base) (length steps.stack) (omega (arith, room_two, less)) in
            two_of (Touches (part l.base).regions (ground_of l.base) l.most) (behind m.cpu.sp 1) (behind m.cpu.sp 2)
            (subst (λ a. Touches (part l.base).regions (ground_of l.base) l.most a) (sym (ap (λ a. behind a 1) stack_here.0.pointer ∙ below.0)) (at_count (part l.base).regions (ground_of l.base) l.most (length steps.stack + 1) (omega arith) (omega (arith, room_two)) (omega (arith, room_two, less))))
            (subst (λ a. Touches (part l.base).regions (ground_of l.base) l.most a) (sym (ap (λ a. behind a 2) stack_here.0.pointer ∙ below.1)) (at_count (part l.base).regions (ground_of l.base) l.most (length steps.stack + 2) (omega arith) room_two (omega (arith, room_two, less)))))

      keeps_call : KeepsFollowed (part l.base) interrupted l.most ways listed w
      keeps_call = keeps_by laws (fitting_at l) l.entered is_set (rules_of l.base) (ground_of l.base) quiet_data fits.are_code (few_at l fit) set enabled w k steps.stands
          (λ taken. absurd (calls_no_return (flow steps.stands.found.instr) p.at m.cpu.registers.flags steps.calls taken))
          (λ is none. absurd (no_pchl (flow steps.stands.found.instr) steps.stands.found.instr refl (call_kind (flow steps.stands.found.instr) p.at steps.calls) is))
          call_touches

    -- a return from what a call steps over
    module _ (back : ReturnsBack (bounds_of (part l.base)) (fitting_at l) k.state) where
      two_here : (m.cpu.sp ≡ pointer_at (bounds_of (part l.base)) 2) × (set ≡ true)
      two_here = two_stand (bounds_of (part l.base)) m.cpu.sp m.memory set (stack_of k.state) back.alone k.stack

      two_most : 2 ≤ l.most
      two_most = two_deep l.most (stack_of k.state) back.alone back.stands.may.depth

      next_up : ahead m.cpu.sp 1 ≡ pointer_at (bounds_of (part l.base)) 1
      next_up = ap (λ a. ahead a 1) two_here.0 ∙ next_pointer (part l.base).regions (ground_of l.base) 1 (let less = few_at l fit in omega (arith, less, two_most))

      twice_up : ahead m.cpu.sp 2 ≡ pointer_at (bounds_of (part l.base)) 0
      twice_up = ap (λ a. ahead a 2) two_here.0 ∙ two_above (bounds_of (part l.base))

      back_is : word_in m.memory m.cpu.sp ≡ l.entered.back
      back_is =
          let saved = subst (λ (o : Option ℕ). HoldsSaved (bounds_of (part l.base)) m.memory (l.entered.back / 256) (l.entered.back % 256) (count_of (stack_of k.state)) o) back.back k.held.back in
          let low = ap (λ a. byte_in m.memory a) two_here.0 ∙ saved.1.low_is in
          let high = ap (λ a. byte_in m.memory a) next_up ∙ saved.1.high_is in
          omega (arith, low, high)

      return_touches : TouchesPart back.stands (stack_bytes back.stands.found.instr m.cpu)
      return_touches = of (is_taken (flow back.stands.found.instr) m.cpu.registers.flags) refl where
        of : (b : Bool) → is_taken (flow back.stands.found.instr) m.cpu.registers.flags ≡ b → TouchesPart back.stands (stack_bytes back.stands.found.instr m.cpu)
        of false off = subst (λ (xs : List ℕ). TouchesPart back.stands xs) (sym (untouched (flow back.stands.found.instr) m (return_kind (flow back.stands.found.instr) back.returns) off)) (All-nil (Touches (part l.base).regions (ground_of l.base) l.most))
        of true taken = subst (λ (xs : List ℕ). TouchesPart back.stands xs) (sym (returned_touches (flow back.stands.found.instr) m back.returns taken))
            (let less = few_at l fit in
            two_of (Touches (part l.base).regions (ground_of l.base) l.most) m.cpu.sp (ahead m.cpu.sp 1)
            (subst (λ a. Touches (part l.base).regions (ground_of l.base) l.most a) (sym two_here.0) (at_count (part l.base).regions (ground_of l.base) l.most 2 (omega arith) two_most (omega (arith, two_most, less))))
            (subst (λ a. Touches (part l.base).regions (ground_of l.base) l.most a) (sym next_up) (at_count (part l.base).regions (ground_of l.base) l.most 1 (omega arith) (omega (arith, two_most)) (omega (arith, two_most, less)))))

      module _ (outer : Level) (rest : List Level) (x : Waits outer l m.memory) (outer_fit : IsFit outer) (chain : Chain rest outer m.memory) where
        keeps_return : KeepsFollowed (part l.base) interrupted l.most ways listed w
        keeps_return = keeps_by laws (fitting_at l) l.entered is_set (rules_of l.base) (ground_of l.base) quiet_data fits.are_code (few_at l fit) set enabled w k back.stands
            (λ taken. inl (subst (λ a. IsBehindCall (part l.base) ways.places a) (sym back_is) (record { at = x.behind.at; placed = x.behind.placed; found = x.behind.found; fetched = x.behind.fetched; calls = x.behind.calls; next = x.behind.next })))
            (λ is none. absurd (no_pchl (flow back.stands.found.instr) back.stands.found.instr refl (return_kind (flow back.stands.found.instr) back.returns) is))
            return_touches

        low_x : outer.base + length x.stack ≤ image.regions.stack.length
        low_x = let is = x.base in let less = low_at l fit in omega (arith, is, less)

        to_outer : l.base + 0 ≡ outer.base + length x.stack
        to_outer = let is = x.base in omega (arith, is)

        pointer_out : ahead m.cpu.sp 2 ≡ pointer_at (bounds_of (part outer.base)) (length x.stack)
        pointer_out = twice_up ∙ shifted l.base 0 (let less = low_at l fit in omega (arith, less)) ∙ ap (λ c. pointer_at (bounds_of image) c) to_outer ∙ sym (shifted outer.base (length x.stack) low_x)

        held_out : HoldsBytes (returned m)
        held_out = record { registers = k.bytes.registers; memory = k.bytes.memory; inputs = k.bytes.inputs }

        returns_out : (v : World) (by : Executes image.regions (IsLeftOpenAt listed) w v) → is_taken (flow back.stands.found.instr) m.cpu.registers.flags ≡ true → Knows (set || sets_sp by.found.instr) (enabled_after by.found.instr enabled) v
        returns_out v by taken = subst (λ (u : World). Then back.stands v by u) (sym (v_is back.stands v by (returned m) (returned_machine back.stands.found.instr by.byte back.stands.found.next m by.after back.returns taken (goes_here back.stands v by)))) (record {
          level = outer;
          fit = outer_fit;
          rest = rest;
          chain = chain;
          known = enters laws (fitting_at outer) outer.entered is_set (rules_of outer.base) (ground_of outer.base) quiet_data fits.are_code (few_at outer outer_fit) (set || sets_sp by.found.instr) (enabled_after by.found.instr enabled)
              (beside_call x.back) (record { machine = returned m; places = places back.stands v by }) nothing_known (Some x.stack) (subst (λ a. Has outer.table a nothing_known (beside_call x.back) (Some x.stack)) (sym back_is) x.has) (λ is. refl)
              (nothing_but (bounds_of (part outer.base)) outer.entered x.back (length x.stack) (returned m) x.held) (λ on is. refl) (laws.holds (returned m) held_out).nothing
              (record { pointer = pointer_out; within = x.stands.within; each = subst (λ a. HoldsFrom m.memory a x.stack) (sym pointer_out) x.stands.each }, set_then back.stands v by two_here.1)
              held_out k.whole k.code;
        })

        executes_return : (v : World) (by : Executes image.regions (IsLeftOpenAt listed) w v) → Knows (set || sets_sp by.found.instr) (enabled_after by.found.instr enabled) v
        executes_return v by = of (is_taken (flow back.stands.found.instr) m.cpu.registers.flags) refl where
          of : (b : Bool) → is_taken (flow back.stands.found.instr) m.cpu.registers.flags ≡ b → Knows (set || sets_sp by.found.instr) (enabled_after by.found.instr enabled) v
          of true taken = returns_out v by taken
          of false off = passed back.stands v by (outer ∷ rest) (x, (outer_fit, chain)) (return_kind (flow back.stands.found.instr) back.returns) off back.passes

    executes_back : (rest : List Level) → Chain rest l m.memory → l.inner ≡ true → ReturnsBack (bounds_of (part l.base)) (fitting_at l) k.state →
        (v : World) (by : Executes image.regions (IsLeftOpenAt listed) w v) → Knows (set || sets_sp by.found.instr) (enabled_after by.found.instr enabled) v
    executes_back [] chain inner back v by = absurd (true≢false (sym inner ∙ chain))
    executes_back (outer ∷ rest) chain inner back v by = executes_return back outer rest chain.0 chain.1.0 chain.1.1 v by

    keeps_back : (rest : List Level) → Chain rest l m.memory → l.inner ≡ true → ReturnsBack (bounds_of (part l.base)) (fitting_at l) k.state → KeepsFollowed (part l.base) interrupted l.most ways listed w
    keeps_back [] chain inner back = absurd (true≢false (sym inner ∙ chain))
    keeps_back (outer ∷ rest) chain inner back = keeps_return back outer rest chain.0 chain.1.0 chain.1.1

    -- whatever is executed
    executes_at : (rest : List Level) → Chain rest l m.memory → GoesAt l k.state → (v : World) (by : Executes image.regions (IsLeftOpenAt listed) w v) → Knows (set || sets_sp by.found.instr) (enabled_after by.found.instr enabled) v
    executes_at rest chain (inl (inner, back)) v by = executes_back rest chain inner back v by
    executes_at rest chain (inr (inl f)) v by = goes_on_here f.stands v by rest chain
        (touches_stack laws (fitting_at l) l.entered is_set (rules_of l.base) (ground_of l.base) quiet_data fits.are_code (few_at l fit) set enabled w k f)
        (executes_found laws (fitting_at l) l.entered is_set (rules_of l.base) (ground_of l.base) quiet_data fits.are_code (few_at l fit) set enabled w k f v (by_part f.stands v by) (same f.stands v by))
    executes_at rest chain (inr (inr steps)) v by = executes_call steps rest chain v by

    keeps_at : (rest : List Level) → Chain rest l m.memory → GoesAt l k.state → KeepsFollowed (part l.base) interrupted l.most ways listed w
    keeps_at rest chain (inl (inner, back)) = keeps_back rest chain inner back
    keeps_at rest chain (inr (inl f)) = keeps_table laws (fitting_at l) l.entered is_set (rules_of l.base) (ground_of l.base) quiet_data fits.are_code (few_at l fit) set enabled w k f
    keeps_at rest chain (inr (inr steps)) = keeps_call steps

    deeper : (a : ℕ) → IsJustBelow (top_of (part l.base).regions) l.most a → IsJustBelow (top_of image.regions) bytes a
    deeper a it =
        let less = it.1.0 in let at_it = it.1.1 in let room = fit.room in let ends = ground.stack_ends in
        (it.0 + l.base, (omega (arith, less, room), omega (arith, at_it, ends, room, few)))

    keeps_whole : KeepsFollowed (part l.base) interrupted l.most ways listed w → KeepsFollowed image interrupted bytes ways listed w
    keeps_whole keeps = record {
      found = keeps.found;
      anywhere = keeps.anywhere;
      of_image = fetch_whole l.base m.cpu.pc keeps.found keeps.of_image;
      direct = keeps.direct;
      pointed = keeps.pointed;
      declared = keeps.declared;
      returning = λ taken. whole_way (keeps.returning taken);
      jumping = λ is none. whole_way (keeps.jumping is none);
      stack = all_of (IsOnStack (part l.base) l.most) (IsOnStack image bytes) (stack_bytes keeps.found.instr m.cpu)
          (λ a it. record { in_stack = part_inside image.regions l.base a it.in_stack; below = deeper a it.below }) keeps.stack;
      halts = keeps.halts;
      goes_on = λ on inside byte small.
          let next = keeps.goes_on on (λ at. record { stores = (inside at).stores; jumps = (inside at).jumps }) byte small in
          record {
            next = next.next;
            step = record {
              found = next.step.found;
              byte = next.step.byte;
              after = next.step.after;
              fetched = next.step.fetched;
              small = next.step.small;
              inside = λ at. record { stores = (next.step.inside at).stores; jumps = (next.step.inside at).jumps };
              goes = next.step.goes;
              is = next.step.is;
            };
            brought = next.brought;
          };
    }
      where
        whole_way : {to : ℕ} → IsWay (part l.base) ways m.cpu.pc to → IsWay image ways m.cpu.pc to
        whole_way (inl it) = inl (record { at = it.at; placed = it.placed; found = it.found; fetched = it.fetched; calls = it.calls; next = it.next })
        whole_way (inr it) = inr it

    -- a HLT is left
    wakes_at : GoesAt l k.state → (v : World) → interrupted ≡ true → enabled ≡ true → (by : Wakes w v) → At l set enabled v
    wakes_at (inl (inner, back)) v on may by = absurd (halts_not back.stands by (return_kind (flow back.stands.found.instr) back.returns)) where
      halts_not : (stood : StateStands (fitting_at l) k.state) → (by : Wakes w v) → (is_some (called (flow stood.found.instr)) || is_return (flow stood.found.instr)) ≡ true → ⊥
      halts_not stood by kind = true≢false (sym kind ∙ ap (λ (f : Fetched). is_some (called (flow f.instr)) || is_return (flow f.instr)) (same_some stood.found by.found (sym (here stood) ∙ by.fetched)) ∙ ap (λ (i : Instr). is_some (called (flow i)) || is_return (flow i)) by.halts)
    wakes_at (inr (inr steps)) v on may by = absurd (halts_not steps.stands by (call_kind (flow steps.stands.found.instr) steps.summary.at steps.calls)) where
      halts_not : (stood : StateStands (fitting_at l) k.state) → (by : Wakes w v) → (is_some (called (flow stood.found.instr)) || is_return (flow stood.found.instr)) ≡ true → ⊥
      halts_not stood by kind = true≢false (sym kind ∙ ap (λ (f : Fetched). is_some (called (flow f.instr)) || is_return (flow f.instr)) (same_some stood.found by.found (sym (here stood) ∙ by.fetched)) ∙ ap (λ (i : Instr). is_some (called (flow i)) || is_return (flow i)) by.halts)
    wakes_at (inr (inl f)) v on may by = wakes_found laws (fitting_at l) l.entered is_set (rules_of l.base) (ground_of l.base) quiet_data fits.are_code (few_at l fit) set enabled w k f v on may by
        (same_some by.found f.stands.found (sym by.fetched ∙ here f.stands))

    -- devices leave what lies above SP
    module _ (v : World) (by : Disturbs image.regions (respected_pointer image.regions set w) w v) (still : StaysQuiet quiet m.memory by.memory) where
      disturbs_at : (rest : List Level) → Chain rest l m.memory → LeavesProgram (part l.base).regions (respected_pointer (part l.base).regions set w) m.memory by.memory →
          ((a : ℕ) → in_range image.regions.stack a ≡ true → in_range (part l.base).regions.stack a ≡ false → slice_index by.memory a ≡ slice_index m.memory a) → Knows set enabled v
      disturbs_at rest chain leaves_part off_it = record {
        level = l;
        fit = fit;
        rest = rest;
        chain = subst (λ (u : World). Chain rest l u.machine.memory) (sym by.is) (chain_stays rest l m.memory by.memory fit off_it chain);
        known = disturbs_table laws (fitting_at l) l.entered is_set (rules_of l.base) (ground_of l.base) quiet_data fits.are_code (few_at l fit) set enabled w v k (stands_of goes).may.knows
            (record { memory = by.memory; leaves = leaves_part; is = by.is }) still;
      }

      disturbs_main : (rest : List Level) → Chain rest l m.memory → l.base ≡ 0 → Knows set enabled v
      disturbs_main rest chain none = disturbs_at rest chain (subst (λ (i : Located). LeavesProgram i.regions (respected_pointer i.regions set w) m.memory by.memory) (sym at_none) by.leaves)
          (λ a there out. absurd (true≢false (sym there ∙ subst (λ (i : Located). in_range i.regions.stack a ≡ false) at_none out))) where
            at_none : part l.base ≡ image
            at_none = ap part none ∙ whole_part

      disturbs_inner : (rest : List Level) → Chain rest l m.memory → 2 ≤ count_of (stack_of k.state) → Knows set enabled v
      disturbs_inner rest chain enough = with_stack (stack_of k.state) enough k.stack (stands_of goes).may.depth where
        with_stack : (o : Option (List ByteSpan)) → 2 ≤ count_of o → IfSome o (λ b. HoldsStack (bounds_of (part l.base)) b m.cpu.sp m.memory × (set ≡ true)) → IfSome o (λ b. length b ≤ l.most) → Knows set enabled v
        with_stack None two stands deep = absurd (omega (arith, two))
        with_stack (Some b) two stands deep = disturbs_at rest chain
            (subst (λ x. LeavesProgram (part l.base).regions (respected_pointer (part l.base).regions x w) m.memory by.memory) (sym stands.1)
            (record { code = by.leaves.code; pushed = λ a is. pushed_there a (record { in_stack = part_inside image.regions l.base a is.in_stack; above = is.above; filled = filled_here }); size = by.leaves.size; bytes = by.leaves.bytes }))
            (λ a there out. pushed_there a (record { in_stack = there; above = (let high = out_of image.regions.stack.first image.regions.stack.length l.base a there out in omega (arith, high, here_is)); filled = filled_here })) where
              here_is : m.cpu.sp ≡ image.regions.stack.first + (image.regions.stack.length - l.base) - length b
              here_is = stands.0.pointer ∙ pointer_is (part l.base).regions (ground_of l.base) (length b) (omega (arith, two)) stands.0.within

              filled_here : m.cpu.sp ≢ top_of image.regions
              filled_here = λ equal.
                  let ends = ground.stack_ends in let short = ground.stack_short in let within = stands.0.within in
                  absurd (omega (arith, equal, here_is, ends, short, two, within))

              pushed_there : (a : ℕ) → IsPushed image.regions m.cpu.sp a → slice_index by.memory a ≡ slice_index m.memory a
              pushed_there a is = (subst (λ x. LeavesProgram image.regions (respected_pointer image.regions x w) m.memory by.memory) stands.1 by.leaves).pushed a is

      disturbs_level : (rest : List Level) → Chain rest l m.memory → Knows set enabled v
      disturbs_level rest chain = of l.inner refl where
        of : (b : Bool) → l.inner ≡ b → Knows set enabled v
        of false outermost = disturbs_main rest chain (fit.outermost outermost)
        of true inner = disturbs_inner rest chain (one_of (λ (s : FollowedState). 2 ≤ count_of (stack_of s)) l.table k.place k.state (fit.enough inner) k.there)

    ready_at : interrupted ≡ true → enabled ≡ true → IsReady image bytes set w
    ready_at on may = of (stack_of k.state) (k.serves on may) k.stack (stands_of goes).may.depth where
      of : (o : Option (List ByteSpan)) → IsSome o → IfSome o (λ b. HoldsStack (bounds_of (part l.base)) b m.cpu.sp m.memory × (set ≡ true)) → IfSome o (λ b. length b ≤ l.most) → IsReady image bytes set w
      of None some stands deep = cc
      of (Some b) some stands deep = let room = fit.room in record { is_set = stands.1; count = l.base + length b; few = omega (arith, deep, room); pointer = stands.0.pointer ∙ shifted l.base (length b) (omega (arith, deep, room, few)) }

  pub disturbs : (set enabled : Bool) (w v : World) → Knows set enabled w → (by : Disturbs image.regions (respected_pointer image.regions set w) w v) → StaysQuiet quiet w.machine.memory by.memory → Knows set enabled v
  disturbs set enabled w v x by still = disturbs_level x.level x.fit set enabled w x.known v by still x.rest x.chain

  pub executes : (before may : Bool) (w v : World) → Knows before may w → (by : Executes image.regions (IsLeftOpenAt listed) w v) → Knows (before || sets_sp by.found.instr) (enabled_after by.found.instr may) v
  executes before may w v x by = executes_at x.level x.fit before may w x.known x.rest x.chain (goes x.level x.fit before may w x.known) v by

  pub wakes : (set enabled : Bool) (w v : World) → Knows set enabled w → interrupted ≡ true → enabled ≡ true → Wakes w v → Knows set enabled v
  wakes set enabled w v x on may by = record {
    level = x.level;
    fit = x.fit;
    rest = x.rest;
    chain = subst (λ (u : World). Chain x.rest x.level u.machine.memory) (sym by.is) x.chain;
    known = wakes_at x.level x.fit set enabled w x.known (goes x.level x.fit set enabled w x.known) v on may by;
  }

  pub keeps : (set enabled : Bool) (w : World) → Knows set enabled w → KeepsFollowed image interrupted bytes ways listed w
  keeps set enabled w x = keeps_whole x.level x.fit set enabled w x.known (keeps_at x.level x.fit set enabled w x.known x.rest x.chain (goes x.level x.fit set enabled w x.known))

  pub stands : (set enabled : Bool) (w : World) → Knows set enabled w → Contains (places_among table fits.summaries) w.machine.cpu.pc
  stands set enabled w x = subst (λ n. Contains (places_among table fits.summaries) n) x.known.at
      (one_of (λ (s : FollowedState). Contains (places_among table fits.summaries) s.at) x.level.table x.known.place x.known.state x.fit.placed x.known.there)

  pub ready : (set enabled : Bool) (w : World) → Knows set enabled w → interrupted ≡ true → enabled ≡ true → IsReady image bytes set w
  ready set enabled w x on may = ready_at x.level x.fit set enabled w x.known on may

  -- one that isn't interrupted
  abbrev KnowsSome : (set : Bool) → World → Type 0
  KnowsSome set w = (enabled : Bool) × Knows set enabled w

  pub followed_keeps : interrupted ≡ false → PromiseOfFollowed image quiet is_set ways.places ways.listed listed bytes
  followed_keeps off start pc whole code held top w set on =
      invariant_is_kept image quiet (IsLeftOpenAt listed) start is_set KnowsSome (λ v. Contains ways.places v.machine.cpu.pc × KeepsFollowed image false bytes ways listed v)
      (record {
        begun = (false, begun start pc whole code held top);
        disturbs = λ s v u x by still. (x.0, disturbs s x.0 v u x.1 by still);
        executes = λ s v u x by. (enabled_after by.found.instr x.0, executes s x.0 v u x.1 by);
        keeps = λ s v x. (all_placed v.machine.cpu.pc (stands s x.0 v x.1), subst (λ (b : Bool). KeepsFollowed image b bytes ways listed v) off (keeps s x.0 v x.1));
      }) w set on

  -- one that is
  module _ (on : interrupted ≡ true) (start : Machine) (pc : start.cpu.pc ≡ image.start) (whole : length start.memory ≡ 65536) (code : HasCode image start.memory) (held : HoldsBytes start) (top : is_set ≡ true → start.cpu.sp ≡ top_of image.regions) where
    pub knows : (set enabled : Bool) (w : World) → OnInterruptedBoard image.regions quiet (IsLeftOpenAt listed) start is_set set enabled w → Knows set enabled w
    knows set enabled w (begins _ _ _ is same off) = subst (λ (u : World). Knows set enabled u) (sym is) (subst (λ (b : Bool). Knows set b (world_of start)) (sym off) (subst (λ (b : Bool). Knows b false (world_of start)) (sym same) (begun start pc whole code held top)))
    knows set enabled w (disturbed _ _ u _ before by still) = disturbs set enabled u w (knows set enabled u before) by still
    knows set enabled w (executed was _ may _ u _ before by is after) = subst (λ (b : Bool). Knows set b w) (sym after) (subst (λ (b : Bool). Knows b (enabled_after by.found.instr may) w) (sym is) (executes was may u w (knows was may u before) by))
    knows set enabled w (woken _ _ u _ before may by) = wakes set enabled u w (knows set enabled u before) on may by

  pub interrupted_keeps : interrupted ≡ true → PromiseOfInterrupted image quiet is_set ways.places ways.listed listed bytes
  interrupted_keeps on start pc whole code held top w set enabled board =
      let x = knows on start pc whole code held top set enabled w board in
      (all_placed w.machine.cpu.pc (stands set enabled w x), (subst (λ (b : Bool). KeepsFollowed image b bytes ways listed w) on (keeps set enabled w x), λ may. ready set enabled w x on may))

pub promise : StepLaws → ((regions : Areas) → AreRegions regions → Ground regions) → FollowedProgramsKeepThePromise
promise laws grounds false image quiet is_set places ways listed table bytes rules quiet_data fits all_placed few = followed_keeps laws grounds image false quiet is_set (ways_of ways places) listed table bytes rules quiet_data fits few all_placed refl
promise laws grounds true image quiet is_set places ways listed table bytes rules quiet_data fits all_placed few = interrupted_keeps laws grounds image true quiet is_set (ways_of ways places) listed table bytes rules quiet_data fits few all_placed refl
