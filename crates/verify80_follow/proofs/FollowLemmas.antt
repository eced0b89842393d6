-- A table that follows a program is an invariant of each board's worlds: one of its states holds of the first one, of one that devices have disturbed,
-- of one after an instruction, and of one behind a HLT that was interrupted.
use Rattle.std.specs.Prelude.{◌≡◌, ◌≢◌, ◌⊎◌, ◌≤◌, ◌<◌, ◌+◌, ◌==◌, ◌||◌, ℕ, suc, Bool, true, false, not, List, [], ◌∷◌, Option, None, Some, Ok, IfSome}
use Rattle.std.specs.Prelude.{IsSome, nat_le, ◌/◌, ◌%◌, All, Any, Contains, length, slice_get, slice_index, is_some, nat_eq, ◌&&◌, if◌then◌else◌}
use Rattle.std.specs.{List.list_any, Option.option_map, Option.option_map_or}
use Rattle.std.proofs.Common.{get_or, ap, arith, inl, inr, refl, subst, sym, true≢false, ◌∙◌}
use Rattle.std.proofs.lemmas.{Option.get_or_from_slice_get, Option.slice_get_within, Bool.eqb-true, Bool.Decides.nat_tests, Map.Views.Contains-from_any}
use Rattle.std.proofs.lemmas.List.Elements.{All-nil, Contains-get_or}
use Rattle.decode80.specs.{Spelling.HasOperandInRange, Facts.flow, Facts.storing, Fetch.ahead}
use Rattle.decode80.specs.{Fetch.direct_bytes, declared.condition.Condition.Condition, declared.fetching.Fetched.Fetched}
use Rattle.decode80.specs.{declared.flow.Flow.Flow, declared.instr.Instr.Instr, declared.pair.StackPair.StackPair}
use Rattle.decode80.specs.declared.flow.Flow.TheVariants.{Jumps, JumpsIf, JumpsToHl, Calls, CallsIf, Returns, ReturnsIf, Halts}
use Rattle.decode80.specs.declared.instr.Instr.TheVariants.{Call, CallIf, Dad, Dcx, Di, Ei, Hlt, In, Inx, Lxi, Out, Pchl, Pop, Push, Ret, ReturnIf, Rst, Sphl, Xthl}
use Rattle.decode80.specs.declared.pair.Pair.TheVariants.{Sp}
use Rattle.image80.specs.{Range.in_range, Regions.AreRegions, Regions.in_code, Regions.in_data, Regions.targets_at, Regions.top_of, Image.Located, Image.memory_of}
use Rattle.machine80.specs.{Cpu.hl_of, Flags.flags_byte, Flags.bit_of, Flags.holds as holds_of, Effects.byte_in, Effects.changed}
use Rattle.machine80.specs.{Effects.goes_to, Effects.pointed_bytes, Effects.stack_bytes, Effects.stored, Effects.stores, Effects.target}
use Rattle.machine80.specs.{Effects.touched_by, Effects.word_in, Run.world_of, declared.cpu.Cpu.Cpu, declared.flags.Flags.Flags}
use Rattle.machine80.specs.Step.{Machine, guard, leads_outside, proceeded}
use Rattle.machine80.specs.World.{World, is_return_taken, places_after}
use Rattle.verify80.specs.Boards.{Disturbs, Executes, StaysInside, fetched_anywhere, respected_pointer, sets_sp, unguarded, LeavesProgram}
use Rattle.verify80.specs.{LookLaws.fetch_at, Looking.declared_targets, Looking.halt_follows, Looking.is_declared, Looking.is_pchl as is_pchl_instr}
use Rattle.decode80.specs.Spelling.{opcode}
use Rattle.verify80_spans.specs.declared.byte_span.ByteSpan.{ByteSpan}
use Rattle.verify80_spans.specs.Span.{Within, ByteWithin, IsInside, any_byte, byte_alone, high_of, is_alone}
use Rattle.verify80_states.specs.{declared.states.known.Known.Known, Bytes.HasBytes}
use Rattle.verify80_states.specs.{Bytes.HoldsBytes, Bytes.IsBounded, Following.known_after, Following.pushed_pair, Given.given}
use Rattle.verify80_states.specs.{QuietBoards.StaysQuiet, Steps.AreCodeBytes, Steps.HasCode, Steps.ReadsCode, Steps.is_taken}
use Rattle.verify80_states.specs.Known.{HoldsKnown, HoldsPair, HoldsTop, IsQuietKnown, any_pair, cut, nothing_known}
use Rattle.verify80_states.specs.{Cells.IsQuietCell, declared.states.cells.Cell.Cell}
use Rattle.verify80_states.specs.Laws.{IsFollowedBy}
use Rattle.verify80_follow.specs.declared.{held.Beside.Beside, stack.StackBounds.StackBounds, followed.FollowedState.FollowedState, followed.Listed.Listed}
use Rattle.verify80_follow.specs.Stack.{AreBytesInside, called_on, HoldsFrom, HoldsStack, IsStackInside, bounds_of, if_true, moved_to}
use Rattle.verify80_follow.specs.Stack.{pointer_at, return_address, set_stack, stack_after, stack_then, top_of_stack, word_on}
use Rattle.verify80_follow.specs.InterruptedBoards.{Wakes, enabled_after, with_pc}
use Rattle.verify80_follow.specs.Held.{Entry, HoldsBeside, beside_then, count_of, nothing_beside}
use Rattle.verify80_follow.proofs.HeldLemmas.{beside_around, beside_holds, is_pushing, nothing_holds, same_beside}
use Rattle.verify80_follow.specs.Follows.{Covers, CoversThen, FollowsBy, Has, IsWay, JumpsBy, LeadsTo, ReturnsLeft}
use Rattle.verify80_follow.specs.Follows.{ReturnsTo, PassesBy, StateFollows, StateStands, called, first_stack, is_return, stack_of}
use Rattle.verify80_follow.specs.Promise.{GoesToListed, IsLeftOpenAt, IsOnStack, KeepsFollowed, KnowsWorld}
use Rattle.verify80_follow.proofs.{GroundLemmas.Ground, FetchLemmas.anywhere_of, FetchLemmas.fetched_here, FetchLemmas.inside_of, StackSteps.stack_holds}
use Rattle.verify80_follow.proofs.GuardLemmas.{Touches, all_of_list, passes_guard, touched}
use Rattle.verify80_follow.proofs.StackLemmas.{any_within, byte_at, moved_holds, on_stack, pointer_is, stays_from}
use Rattle.verify80_follow.specs.{Follows.Fitting, Follows.Ways, StepLaws.StepLaws}
use Rattle.verify80_follow.proofs.PointLemmas.{Points, not_outside, points_by, within_outer}

-- small things
pub one_of : {A : Type 0} (P : A → Type 0) (xs : List A) (k : ℕ) (x : A) → All P xs → slice_get xs k ≡ Some x → P x
one_of P xs k x each there = subst P (get_or_from_slice_get xs k x x there) (each k x (slice_get_within xs k x there))

pub same_some : {A : Type 0} (x y : A) → Some x ≡ Some y → x ≡ y
same_some x y is = cc

or_true : (b : Bool) → (b || true) ≡ true
or_true true = refl
or_true false = refl

bit_is_small : (b : Bool) → bit_of b < 2
unfolding bit_of
bit_is_small true = omega arith
bit_is_small false = omega arith

flags_are_byte : (f : Flags) → flags_byte f < 256
unfolding flags_byte
flags_are_byte f =
    let s = bit_is_small f.sign in
    let z = bit_is_small f.zero in
    let a = bit_is_small f.auxiliary in
    let p = bit_is_small f.parity in
    let c = bit_is_small f.carry in
    omega (arith, s, z, a, p, c)

-- where more interrupts may come before an instruction, more may after it
enables_more : (i : Instr) (a b : Bool) → (a ≡ true → b ≡ true) → enabled_after i a ≡ true → enabled_after i b ≡ true
enables_more Ei a b more is = refl
enables_more Di a b more is = is
enables_more i a b more is = more is

-- what an unguarded step leaves, IN and OUT too
pub record Leaves (i : Instr) (next : ℕ) (m after : Machine) : Type 0 where
  pub sp : after.cpu.sp ≡ (changed i m.memory m.cpu).sp
  pub memory : after.memory ≡ stored m.memory (stores i next m.memory m.cpu)
  pub pc : after.cpu.pc ≡ target i next m.memory m.cpu

pub leaves : (i : Instr) (byte next : ℕ) (m after : Machine) → unguarded i byte next m ≡ Some after → Leaves i next m after
leaves Hlt byte next m after is = cc
leaves (In port) byte next m after is = subst (λ (n : Machine). Leaves (In port) next m n) (same_some _ _ is) (record { sp = refl; memory = refl; pc = refl })
leaves (Out port) byte next m after is = subst (λ (n : Machine). Leaves (Out port) next m n) (same_some _ _ is) (record { sp = refl; memory = refl; pc = refl })
leaves i byte next m after is = subst (λ (n : Machine). Leaves i next m n) (same_some _ _ is) (record { sp = refl; memory = refl; pc = refl })

-- an instruction that is no HLT leads on
pub goes_on : (i : Instr) (byte next : ℕ) (m : Machine) → i ≢ Hlt → (after : Machine) × (unguarded i byte next m ≡ Some after)
goes_on Hlt byte next m on = absurd (on refl)
goes_on (In port) byte next m on = (record m { cpu = record m.cpu { registers = record m.cpu.registers { a = byte }; pc = next } }, refl)
goes_on (Out port) byte next m on = (record m { cpu = record m.cpu { pc = next } }, refl)
goes_on i byte next m on = (proceeded i next m, refl)

no_halt : (i : Instr) (byte next : ℕ) (m after : Machine) → unguarded i byte next m ≡ Some after → flow i ≢ Halts
no_halt Hlt byte next m after is = λ e. cc
no_halt i byte next m after is = λ e. cc

pub is_pchl : (i : Instr) → flow i ≡ JumpsToHl → i ≡ Pchl
is_pchl Pchl is = refl
is_pchl i is = cc

-- bytes of a stack that are around others hold too
from_around : (a b : List ByteSpan) (at : ℕ) (m : List ℕ) → AreBytesInside a b → HoldsFrom m at a → HoldsFrom m at b
from_around [] [] at m inside holds = tt
from_around [] (q ∷ b) at m inside holds = absurd (let long = inside.long in omega (arith, long))
from_around (p ∷ a) [] at m inside holds = absurd (let long = inside.long in omega (arith, long))
from_around (p ∷ a) (q ∷ b) at m inside holds =
    let here = inside.each 0 p q refl refl in
    let above = here.above in let below = here.below in let low = holds.0.above in let high = holds.0.below in
    let long = inside.long in
    (record { above = omega (arith, above, low); below = omega (arith, below, high) }, from_around a b (ahead at 1) m (record { long = omega (arith, long); each = λ k x y. inside.each (suc k) x y }) holds.1)

same_count : (inner outer : Option (List ByteSpan)) → IsStackInside inner outer → count_of inner ≡ count_of outer
same_count None None inside = refl
same_count None (Some b) inside = absurd inside
same_count (Some a) None inside = absurd inside
same_count (Some a) (Some b) inside = inside.long

some_around : (inner outer : Option (List ByteSpan)) → IsStackInside inner outer → IsSome inner → IsSome outer
some_around None None inside some = some
some_around None (Some b) inside some = absurd inside
some_around (Some a) None inside some = absurd inside
some_around (Some a) (Some b) inside some = refl

stack_around : (image : Located) (Q : Type 0) (inner outer : Option (List ByteSpan)) (sp : ℕ) (m : List ℕ) → IsStackInside inner outer → IfSome inner (λ bytes. HoldsStack (bounds_of image) bytes sp m × Q) → IfSome outer (λ bytes. HoldsStack (bounds_of image) bytes sp m × Q)
stack_around image Q None None sp m inside holds = tt
stack_around image Q None (Some b) sp m inside holds = absurd inside
stack_around image Q (Some a) None sp m inside holds = absurd inside
stack_around image Q (Some a) (Some b) sp m inside holds =
    let long = inside.long in
    let within = holds.0.within in
    (record { pointer = holds.0.pointer ∙ ap (λ n. pointer_at (bounds_of image) n) long; within = omega (arith, long, within); each = from_around a b sp m inside holds.0.each }, holds.1)

-- once SP is set it stays so
still_some : (bounds : StackBounds) (i : Instr) (taken : Bool) (next : ℕ) (s : Known) (before stack : Option (List ByteSpan)) → IsSome before → stack_then bounds i taken next s before ≡ Some stack → IsSome stack
still_some bounds i taken next s None stack some is = cc
still_some bounds i taken next s (Some b) stack some is = by (stack_after bounds i taken next s b) is where
  by : (o : Option (List ByteSpan)) → option_map (λ after. Some after) o ≡ Some stack → IsSome stack
  by None none = cc
  by (Some after) one = subst (λ (o : Option (List ByteSpan)). IsSome o) (same_some (Some after) stack one) refl

-- PUSH makes two bytes more
pushed_count : (bounds : StackBounds) (p : StackPair) (taken : Bool) (next : ℕ) (s : Known) (b : List ByteSpan) (stack : Option (List ByteSpan)) → stack_then bounds (Push p) taken next s (Some b) ≡ Some stack → count_of stack ≡ length b + 2
pushed_count bounds p taken next s b stack is = by (nat_le (length b + 2) bounds.length) is where
  by : (t : Bool) → option_map (λ after. Some after) (if_true t ((pushed_pair s p).low ∷ high_of (pushed_pair s p).words ∷ b)) ≡ Some stack → count_of stack ≡ length b + 2
  by true one = ap count_of (sym (same_some _ _ one)) ∙ omega arith
  by false none = cc

-- and whatever is pushed, there is room for it
pushed_room : (bounds : StackBounds) (i : Instr) (taken : Bool) (next : ℕ) (s : Known) (b : List ByteSpan) (stack : Option (List ByteSpan)) (f : Flags) → is_taken (flow i) f ≡ taken → stack_then bounds i taken next s (Some b) ≡ Some stack → is_pushing (flow i) f ≡ true →
    length b + 2 ≤ bounds.length
pushed_room bounds i taken next s b stack f same is pushing = of i same is pushing where
  room_by : (x : List ByteSpan) (t : Bool) → nat_le (length b + 2) bounds.length ≡ t → option_map (λ after. Some after) (if_true t x) ≡ Some stack → length b + 2 ≤ bounds.length
  room_by x true inside one = grind (arith, nat_tests, inside)
  room_by x false inside none = cc

  called : (t : Bool) → t ≡ true → option_map (λ after. Some after) (called_on t bounds.length next b) ≡ Some stack → length b + 2 ≤ bounds.length
  called true h one = room_by (byte_alone (next % 256) ∷ byte_alone (next / 256) ∷ b) (nat_le (length b + 2) bounds.length) refl one
  called false h one = absurd (true≢false (sym h))

  of : (j : Instr) → is_taken (flow j) f ≡ taken → stack_then bounds j taken next s (Some b) ≡ Some stack → is_pushing (flow j) f ≡ true → length b + 2 ≤ bounds.length
  of (Push p) e one h = room_by ((pushed_pair s p).low ∷ high_of (pushed_pair s p).words ∷ b) (nat_le (length b + 2) bounds.length) refl one
  of (Call to) e one h = called taken (sym e) one
  of (Rst number) e one h = called taken (sym e) one
  of (CallIf condition to) e one h = called taken (sym e ∙ h) one
  of j e one h = cc

-- interrupts may come after an instruction, whether SP is set or not
enabled_then : (i : Instr) (before after : Option (List ByteSpan)) (beside : Beside) → enabled_after i beside.is_enabled ≡ true → (beside_then i before after beside).is_enabled ≡ true
enabled_then i None after beside is = is
enabled_then i (Some b) after beside is = is

-- nobody is interrupted
pub nobody : Entry
nobody = record { registers = record { a = 0; b = 0; c = 0; d = 0; e = 0; h = 0; l = 0; flags = record { sign = false; zero = false; auxiliary = false; parity = false; carry = false } }; back = 0 }

-- what is known of quiet addresses is known of data
quieter : (quiet other : ℕ → Bool) (s : Known) → ((at : ℕ) → quiet at ≡ true → other at ≡ true) → IsQuietKnown quiet s → IsQuietKnown other s
quieter quiet other s more are = record { cells = λ k d inside. cell (get_or s.cells.each k d) (are.cells k d inside).either; source = source s.source are.source } where
  cell : (c : Cell) → (c.bytes ≡ any_byte) ⊎ (quiet c.at ≡ true) → IsQuietCell other c
  cell c (inl any) = record { either = inl any }
  cell c (inr is) = record { either = inr (more c.at is) }

  source : (o : Option ℕ) → IfSome o (λ at. quiet at ≡ true) → IfSome o (λ at. other at ≡ true)
  source None is = tt
  source (Some at) is = more at is

-- what is known of the top of the stack
word_holds : (bytes : List ByteSpan) (sp : ℕ) (m : List ℕ) → HasBytes m → HoldsFrom m sp bytes → HoldsPair (word_on bytes) (byte_in m (ahead sp 1)) (byte_in m sp)
word_holds [] sp m held holds = any_word sp m held
  where
    any_word : (sp : ℕ) (m : List ℕ) → HasBytes m → HoldsPair any_pair (byte_in m (ahead sp 1)) (byte_in m sp)
    any_word sp m held = let low = byte_at m sp held in let high = byte_at m (ahead sp 1) held in record { words = record { above = omega arith; below = omega (arith, low, high) }; low = any_within (byte_in m sp) low }
word_holds (low ∷ []) sp m held holds = let l = byte_at m sp held in let h = byte_at m (ahead sp 1) held in record { words = record { above = omega arith; below = omega (arith, l, h) }; low = any_within (byte_in m sp) l }
word_holds (low ∷ high ∷ bytes) sp m held holds =
    let l = holds.0 in
    let h = holds.1.0 in
    let la = l.above in let lb = l.below in let ha = h.above in let hb = h.below in
    record { words = record { above = omega (arith, la, ha); below = omega (arith, lb, hb) }; low = l }

top_holds : (image : Located) (Q : Type 0) (stack : Option (List ByteSpan)) (m : Machine) → HasBytes m.memory → IfSome stack (λ bytes. HoldsStack (bounds_of image) bytes m.cpu.sp m.memory × Q) → HoldsTop (top_of_stack (bounds_of image) stack) m
top_holds image Q None m held holds = record { pointer = tt; word = word_holds [] m.cpu.sp m.memory held tt }
top_holds image Q (Some bytes) m held holds = record { pointer = (holds.0.pointer, omega arith); word = word_holds bytes m.cpu.sp m.memory held holds.0.each }

-- where a return goes that is known
returns_where : (bytes : List ByteSpan) (to sp : ℕ) (m : List ℕ) → HasBytes m → return_address bytes ≡ Some to → HoldsFrom m sp bytes → to ≡ word_in m sp
returns_where bytes to sp m held is holds = by (is_alone (word_on bytes).words) refl is where
  inside : Within (word_on bytes).words (word_in m sp)
  inside = (word_holds bytes sp m held holds).words

  by : (b : Bool) → is_alone (word_on bytes).words ≡ b → if_true b (word_on bytes).words.first ≡ Some to → to ≡ word_in m sp
  by true alone is = let above = inside.above in let below = inside.below in let same : (word_on bytes).words.first ≡ word_in m sp = grind (arith, nat_tests) in sym (same_some _ _ is) ∙ same
  by false alone is = cc

-- the stack after an instruction, as long as the pointer isn't set
record Unset (image : Located) (i : Instr) (set : Bool) (stack : Option (List ByteSpan)) (cpu : Cpu) (sp : ℕ) (memory : List ℕ) : Type 0 where
  touched : stack_bytes i cpu ≡ []
  now : IfSome stack (λ bytes. HoldsStack (bounds_of image) bytes sp memory × ((set || sets_sp i) ≡ true))

module _ (image : Located) (ground : Ground image.regions) (set : Bool) where
  moved_now : (o : Option (List ByteSpan)) (stack : Option (List ByteSpan)) (sp : ℕ) (m : List ℕ) → option_map (λ bytes. Some bytes) o ≡ Some stack → IfSome o (λ bytes. HoldsStack (bounds_of image) bytes sp m) → IfSome stack (λ bytes. HoldsStack (bounds_of image) bytes sp m × ((set || true) ≡ true))
  moved_now None stack sp m is holds = cc
  moved_now (Some bytes) stack sp m is holds = subst (λ (o : Option (List ByteSpan)). IfSome o (λ b. HoldsStack (bounds_of image) b sp m × ((set || true) ≡ true))) (same_some _ _ is) (holds, or_true set)

  stays_unset : (i : Instr) (stack : Option (List ByteSpan)) (sp : ℕ) (m : List ℕ) → Some None ≡ Some stack → IfSome stack (λ bytes. HoldsStack (bounds_of image) bytes sp m × ((set || sets_sp i) ≡ true))
  stays_unset i stack sp m is = subst (λ (o : Option (List ByteSpan)). IfSome o (λ b. HoldsStack (bounds_of image) b sp m × ((set || sets_sp i) ≡ true))) (same_some _ _ is) tt

  empty_holds : (m : List ℕ) → HoldsStack (bounds_of image) [] (pointer_at (bounds_of image) 0) m
  empty_holds m = record { pointer = refl; within = omega arith; each = tt }

  unset_after : (i : Instr) (stack : Option (List ByteSpan)) (next : ℕ) (cpu : Cpu) (m : List ℕ) → HasBytes m → HasOperandInRange i → set_stack (bounds_of image) i ≡ Some stack →
      Unset image i set stack cpu (changed i m cpu).sp (stored m (stores i next m cpu))
  unset_after (Lxi Sp n) stack next cpu m held small is = record { touched = refl; now = moved_now (moved_to (bounds_of image) n []) stack n m is (moved_holds image.regions ground n [] (pointer_at (bounds_of image) 0) m small held (empty_holds m)) }
  unset_after (Dad Sp) stack next cpu m held small is = cc
  unset_after (Inx Sp) stack next cpu m held small is = cc
  unset_after (Dcx Sp) stack next cpu m held small is = cc
  unset_after Sphl stack next cpu m held small is = cc
  unset_after (Push pair) stack next cpu m held small is = cc
  unset_after (Pop pair) stack next cpu m held small is = cc
  unset_after Xthl stack next cpu m held small is = cc
  unset_after (Call w) stack next cpu m held small is = cc
  unset_after (CallIf c w) stack next cpu m held small is = cc
  unset_after Ret stack next cpu m held small is = cc
  unset_after (ReturnIf c) stack next cpu m held small is = cc
  unset_after (Rst n) stack next cpu m held small is = cc
  unset_after i stack next cpu m held small is = record { touched = refl; now = stays_unset i stack _ _ is }

-- a return that is taken goes to the word on top of the stack
pub return_target : (w : Flow) (next : ℕ) (memory : List ℕ) (cpu : Cpu) → is_return_taken w cpu.registers.flags ≡ true → goes_to w next memory cpu ≡ word_in memory cpu.sp
return_target Returns next memory cpu taken = refl
return_target (ReturnsIf condition) next memory cpu taken = rw taken refl
return_target w next memory cpu taken = absurd (true≢false (sym taken))

-- PCHL goes to a declared target
declared_jump : (targets : Option (List ℕ)) (to : ℕ) → is_some targets ≡ true → leads_outside targets to ≡ false → Contains (option_map_or (λ ts. ts) targets []) to
declared_jump None to some inside = cc
declared_jump (Some targets) to some inside = by (list_any (λ target. target == to) targets) refl inside where
  by : (b : Bool) → list_any (λ target. target == to) targets ≡ b → not b ≡ false → Contains targets to
  by true e inside = Contains-from_any {eq = λ x y. y == x} (λ x y same. sym (eqb-true y x same)) to targets e
  by false e inside = cc

module _ (laws : StepLaws) (fit : Fitting) (entered : Entry) (is_set : Bool) (rules : AreRegions fit.image.regions) (ground : Ground fit.image.regions)
    (quiet_data : (at : ℕ) → fit.quiet at ≡ true → in_data fit.image.regions at ≡ true) (are_code : AreCodeBytes fit.image fit.code) (few : fit.bytes ≤ fit.image.regions.stack.length) where
  abbrev image : Located
  image = fit.image

  abbrev interrupted : Bool
  interrupted = fit.interrupted

  abbrev quiet : ℕ → Bool
  quiet = fit.quiet

  abbrev bytes_of_code : List (Option ℕ)
  bytes_of_code = fit.code

  abbrev ways : Ways
  ways = fit.ways

  abbrev listed : Listed
  listed = fit.listed

  abbrev table : List FollowedState
  table = fit.table

  abbrev bytes : ℕ
  bytes = fit.bytes

  abbrev Knows : (set enabled : Bool) → World → Type 0
  Knows set enabled w = KnowsWorld image interrupted entered table set enabled w

  -- what the table has at an address, holding of a machine, is known of it
  pub enters : (set enabled : Bool) (beside : Beside) (w : World) (known : Known) (stack : Option (List ByteSpan)) → Has table w.machine.cpu.pc known beside stack → (enabled ≡ true → beside.is_enabled ≡ true) →
      HoldsBeside (bounds_of image) entered beside (count_of stack) w.machine →
      (interrupted ≡ true → enabled ≡ true → IsSome stack) → HoldsKnown known w.machine → IfSome stack (λ b. HoldsStack (bounds_of image) b w.machine.cpu.sp w.machine.memory × (set ≡ true)) →
      HoldsBytes w.machine → length w.machine.memory ≡ 65536 → HasCode image w.machine.memory → Knows set enabled w
  enters set enabled beside w known stack has more kept serves holds stands held whole code = record {
    place = has.place;
    state = has.state;
    there = has.there;
    at = has.at;
    known = (laws.holds w.machine held).around known has.state.known has.inside holds;
    enables = λ is. has.besides.enables (more is);
    held = beside_around (bounds_of image) entered beside has.state.beside (count_of (stack_of has.state)) w.machine has.besides
        (subst (λ n. HoldsBeside (bounds_of image) entered beside n w.machine) (same_count stack (stack_of has.state) has.stacked) kept);
    serves = λ on is. some_around stack (stack_of has.state) has.stacked (serves on is);
    stack = stack_around image (set ≡ true) stack (stack_of has.state) w.machine.cpu.sp w.machine.memory has.stacked stands;
    bytes = held;
    whole = whole;
    code = code;
  }

  empty_at_top : (b : Bool) (sp : ℕ) (m : List ℕ) → (b ≡ true → sp ≡ top_of image.regions) → IfSome (first_stack b) (λ bytes. HoldsStack (bounds_of image) bytes sp m × (b ≡ true))
  empty_at_top false sp m top = tt
  empty_at_top true sp m top = (record { pointer = top refl ∙ omega arith; within = omega arith; each = tt }, refl)

  -- what devices write leaves what is known
  stack_disturbed : (set : Bool) (w : World) (memory : List ℕ) (stack : Option (List ByteSpan)) → (leaves : LeavesProgram image.regions (respected_pointer image.regions set w) w.machine.memory memory) →
      IfSome stack (λ b. HoldsStack (bounds_of image) b w.machine.cpu.sp w.machine.memory × (set ≡ true)) → IfSome stack (λ b. HoldsStack (bounds_of image) b w.machine.cpu.sp memory × (set ≡ true))
  stack_disturbed set w memory None leaves stands = tt
  stack_disturbed set w memory (Some []) leaves stands = (record { pointer = stands.0.pointer; within = stands.0.within; each = tt }, stands.1)
  stack_disturbed set w memory (Some (b ∷ bs)) leaves stands =
      let is = stands.0.pointer ∙ pointer_is image.regions ground (suc (length bs)) (omega arith) stands.0.within in
      let within = stands.0.within in
      let ends = ground.stack_ends in
      let short = ground.stack_short in
      let respected : LeavesProgram image.regions w.machine.cpu.sp w.machine.memory memory = subst (λ s. LeavesProgram image.regions (respected_pointer image.regions s w) w.machine.memory memory) stands.1 leaves in (
        record {
          pointer = stands.0.pointer;
          within = stands.0.within;
          each = stays_from image.regions ground (b ∷ bs) w.machine.cpu.sp w.machine.memory memory w.machine.cpu.sp stands.0.pointer stands.0.within (λ some. omega arith)
              (λ a there above. respected.pushed a (record { in_stack = there; above = above; filled = λ e. absurd (omega (arith, e, is, within, ends, short)) })) stands.0.each;
        },
        stands.1,
      )

  -- a byte on the stack is left alone by devices
  byte_left : (set : Bool) (w : World) (memory : List ℕ) (stack : Option (List ByteSpan)) → (leaves : LeavesProgram image.regions (respected_pointer image.regions set w) w.machine.memory memory) →
      IfSome stack (λ b. HoldsStack (bounds_of image) b w.machine.cpu.sp w.machine.memory × (set ≡ true)) → (depth : ℕ) → 1 ≤ depth → depth ≤ count_of stack → byte_in memory (pointer_at (bounds_of image) depth) ≡ byte_in w.machine.memory (pointer_at (bounds_of image) depth)
  byte_left set w memory None leaves stands depth one inside = absurd (omega (arith, one, inside))
  byte_left set w memory (Some b) leaves stands depth one inside =
      let within = stands.0.within in
      let ends = ground.stack_ends in
      let short = ground.stack_short in
      let here = pointer_is image.regions ground depth one (omega (arith, inside, within)) in
      let is = stands.0.pointer ∙ pointer_is image.regions ground (length b) (omega (arith, one, inside)) within in
      let respected : LeavesProgram image.regions w.machine.cpu.sp w.machine.memory memory = subst (λ s. LeavesProgram image.regions (respected_pointer image.regions s w) w.machine.memory memory) stands.1 leaves in
      respected.pushed (pointer_at (bounds_of image) depth) (record { in_stack = on_stack image.regions ground depth one (omega (arith, inside, within)); above = omega (arith, here, is, inside); filled = λ e. absurd (omega (arith, e, is, one, inside, within, ends, short)) })

  pub disturbs : (set enabled : Bool) (w v : World) (k : Knows set enabled w) → IsQuietKnown quiet k.state.known → (by : Disturbs image.regions (respected_pointer image.regions set w) w v) → StaysQuiet quiet w.machine.memory by.memory → Knows set enabled v
  disturbs set enabled w v k are by stays = subst (λ (u : World). Knows set enabled u) (sym by.is) (record {
    place = k.place;
    state = k.state;
    there = k.there;
    at = k.at;
    known = laws.quiet quiet w.machine by.memory k.state.known stays by.leaves.bytes are k.known;
    enables = k.enables;
    held = same_beside (bounds_of image) entered k.state.beside (count_of (stack_of k.state)) w.machine (record w.machine { memory = by.memory }) refl (byte_left set w by.memory (stack_of k.state) by.leaves k.stack) k.held;
    serves = k.serves;
    stack = stack_disturbed set w by.memory (stack_of k.state) by.leaves k.stack;
    bytes = record { registers = k.bytes.registers; memory = by.leaves.bytes; inputs = k.bytes.inputs };
    whole = by.leaves.size ∙ k.whole;
    code = λ address here. by.leaves.code address here ∙ k.code address here;
  })

  -- a world of which one state is known
  module _ (set enabled : Bool) (w : World) (k : KnowsWorld image interrupted entered table set enabled w) (entry : StateStands fit k.state) where
    abbrev m : Machine
    m = w.machine

    abbrev found : Fetched
    found = entry.found

    fetched : fetch_at image.regions m.memory m.cpu.pc ≡ Ok found
    fetched = subst (λ n. fetch_at image.regions m.memory n ≡ Ok found) k.at (fetched_here laws.reads image m.memory k.state.at found k.code entry.executed.fetched)

    pub anywhere : fetched_anywhere m.memory m.cpu.pc ≡ Some found
    anywhere = anywhere_of image.regions m.memory m.cpu.pc found fetched

    pub bounded : IsBounded found
    bounded = laws.bounded image.regions m.memory m.cpu.pc found k.bytes.memory (inside_of image.regions m.memory m.cpu.pc found fetched)

    pub direct : All (λ a. in_data image.regions a ≡ true) (direct_bytes found.instr)
    direct = all_of_list (in_data image.regions) (direct_bytes found.instr) entry.executed.stores

    reads : ReadsCode bytes_of_code m.memory
    reads = λ at byte is. let known = are_code at byte is in k.code at known.0 ∙ known.1

    are_data : (known : Known) → IsQuietKnown quiet known → IsQuietKnown (in_data image.regions) known
    are_data known are = quieter quiet (in_data image.regions) known quiet_data are

    -- the way that the instruction takes
    record Taken : Type 0 where
      taken : Bool
      to : ℕ
      known : Known
      covers : CoversThen (bounds_of image) fit k.state found taken to known
      is : is_taken (flow found.instr) m.cpu.registers.flags ≡ taken
      holds : HoldsKnown known m
      are : IsQuietKnown quiet known
      goes : goes_to (flow found.instr) found.next m.memory m.cpu ≡ to

    -- the stack of the state after it, given that what is pointed to is data
    record Stacked (known : Known) (taken : Bool) (stack : Option (List ByteSpan)) : Type 0 where
      touches : All (Touches image.regions ground bytes) (stack_bytes found.instr m.cpu)
      now : All (λ a. in_data image.regions a ≡ true) (pointed_bytes found.instr m.cpu.registers) → IfSome stack (λ b. HoldsStack (bounds_of image) b (changed found.instr m.memory m.cpu).sp (stored m.memory (stores found.instr found.next m.memory m.cpu)) × ((set || sets_sp found.instr) ≡ true))

    untouched : (xs : List ℕ) → xs ≡ [] → All (Touches image.regions ground bytes) xs
    untouched xs is = subst (λ (l : List ℕ). All (Touches image.regions ground bytes) l) (sym is) (All-nil (Touches image.regions ground bytes))

    stacked_by : (known : Known) (taken : Bool) (before stack : Option (List ByteSpan)) → HoldsKnown known m → is_taken (flow found.instr) m.cpu.registers.flags ≡ taken → IfSome before (λ b. HoldsStack (bounds_of image) b m.cpu.sp m.memory × (set ≡ true)) →
        IfSome before (λ b. length b ≤ bytes) → IfSome stack (λ b. length b ≤ bytes) → stack_then (bounds_of image) found.instr taken found.next known before ≡ Some stack → Stacked known taken stack
    stacked_by known taken None stack holds same stands deep deeper is =
        let unset = unset_after image ground set found.instr stack found.next m.cpu m.memory k.bytes.memory bounded.operand is in
        record { touches = untouched (stack_bytes found.instr m.cpu) unset.touched; now = λ pointed. unset.now }
    stacked_by known taken (Some b) stack holds same stands deep deeper is = by (stack_after (bounds_of image) found.instr taken found.next known b) refl stack is deeper where
      by : (o : Option (List ByteSpan)) → stack_after (bounds_of image) found.instr taken found.next known b ≡ o → (after : Option (List ByteSpan)) → option_map (λ x. Some x) o ≡ Some after → IfSome after (λ x. length x ≤ bytes) → Stacked known taken after
      by None is_none after none deep_after = cc
      by (Some after_bytes) is_some after same_after deep_after =
          let eq : Some after_bytes ≡ after = same_some _ _ same_after in
          let deep_here : length after_bytes ≤ bytes = subst (λ (o : Option (List ByteSpan)). IfSome o (λ x. length x ≤ bytes)) (sym eq) deep_after in
          let of_taken : stack_after (bounds_of image) found.instr (is_taken (flow found.instr) m.cpu.registers.flags) found.next known b ≡ Some after_bytes =
          subst (λ t. stack_after (bounds_of image) found.instr t found.next known b ≡ Some after_bytes) (sym same) is_some in
          record {
            touches = touched image.regions ground found.instr found.next bytes m.cpu known b after_bytes m.memory stands.0 deep deep_here of_taken;
            now = λ pointed.
                let so = stack_holds image.regions ground found.instr found.next m.cpu m.memory known b k.whole k.bytes.memory k.bytes.registers (flags_are_byte m.cpu.registers.flags) bounded.operand holds.registers direct pointed stands.0 in
                let here = subst (λ (o : Option (List ByteSpan)). IfSome o (λ x. HoldsStack (bounds_of image) x (changed found.instr m.memory m.cpu).sp (stored m.memory (stores found.instr found.next m.memory m.cpu)))) of_taken so in
                subst (λ (o : Option (List ByteSpan)). IfSome o (λ x. HoldsStack (bounds_of image) x (changed found.instr m.memory m.cpu).sp (stored m.memory (stores found.instr found.next m.memory m.cpu)) × ((set || sets_sp found.instr) ≡ true))) eq
                (here, subst (λ s. (s || sets_sp found.instr) ≡ true) (sym stands.1) refl);
          }

    stands : (t : Taken) → Stacked t.known t.taken t.covers.stack
    stands t = stacked_by t.known t.taken (stack_of k.state) t.covers.stack t.holds t.is k.stack entry.may.depth t.covers.depth t.covers.is

    -- what a handler still has after it
    held_after : (byte : ℕ) (after : Machine) → unguarded found.instr byte found.next m ≡ Some after → StaysInside image.regions m found.instr → (t : Taken) →
        HoldsBeside (bounds_of image) entered (beside_then found.instr (stack_of k.state) t.covers.stack k.state.beside) (count_of t.covers.stack) after
    held_after byte after goes inside t = by (stack_of k.state) k.stack k.held t.covers.is where
      by : (before : Option (List ByteSpan)) → IfSome before (λ c. HoldsStack (bounds_of image) c m.cpu.sp m.memory × (set ≡ true)) → HoldsBeside (bounds_of image) entered k.state.beside (count_of before) m →
          stack_then (bounds_of image) found.instr t.taken found.next t.known before ≡ Some t.covers.stack → HoldsBeside (bounds_of image) entered (beside_then found.instr before t.covers.stack k.state.beside) (count_of t.covers.stack) after
      by None stands_here held is = nothing_holds (bounds_of image) entered (enabled_after found.instr k.state.beside.is_enabled) (count_of t.covers.stack) after
      by (Some b) stands_here held is =
          beside_holds image.regions ground laws.facts laws.round entered found.instr byte found.next (length b) (count_of t.covers.stack) m after goes (leaves found.instr byte found.next m after goes).memory
          stands_here.0.pointer stands_here.0.within direct inside.stores k.whole
          (λ p push. pushed_count (bounds_of image) p t.taken found.next t.known b t.covers.stack (subst (λ (i : Instr). stack_then (bounds_of image) i t.taken found.next t.known (Some b) ≡ Some t.covers.stack) push is))
          (λ pushing. pushed_room (bounds_of image) found.instr t.taken found.next t.known b t.covers.stack m.cpu.registers.flags t.is is pushing) k.state.beside held

    -- the instruction is followed on that way
    module _ (byte : ℕ) (after : Machine) (small : byte < 256) (inside : StaysInside image.regions m found.instr) (goes : unguarded found.instr byte found.next m ≡ Some after) (places : List ℕ) where
      abbrev v : World
      v = record { machine = after; places = places }

      abbrev left : Leaves found.instr found.next m after
      left = leaves found.instr byte found.next m after goes

      on_stack_bytes : (xs : List ℕ) → All (Touches image.regions ground bytes) xs → All (λ a. in_range image.regions.stack a ≡ true) xs
      on_stack_bytes xs each = λ k d within. (each k d within).there

      -- interrupts may come only once SP is set
      served : (i : Instr) → found.instr ≡ i → interrupted ≡ true → enabled_after i enabled ≡ true → IsSome (stack_of k.state)
      served Ei is on may = entry.may.serves on is
      served Di is on may = cc
      served i is on may = k.serves on may

      lands : Taken → Knows (set || sets_sp found.instr) (enabled_after found.instr enabled) v
      lands t = by t.covers.covers.either where
        guarded : guard image.regions found.instr m.cpu ≡ None
        guarded = passes_guard image.regions found.instr m.cpu (on_stack_bytes (stack_bytes found.instr m.cpu) (stands t).touches) direct inside.stores

        followed : IsFollowedBy image.regions bytes_of_code found.instr (top_of_stack (bounds_of image) (stack_of k.state)) t.known m after
        followed = laws.instructions image.regions bytes_of_code found.instr byte found.next (top_of_stack (bounds_of image) (stack_of k.state)) t.known m after rules bounded.operand bounded.next small k.bytes k.whole reads (are_data t.known t.are)
            (top_holds image (set ≡ true) (stack_of k.state) m k.bytes.memory k.stack) t.holds guarded goes

        now : Known
        now = known_after bytes_of_code found.instr (top_of_stack (bounds_of image) (stack_of k.state)) t.known

        stack_now : IfSome t.covers.stack (λ b. HoldsStack (bounds_of image) b after.cpu.sp after.memory × ((set || sets_sp found.instr) ≡ true))
        stack_now = subst (λ n. IfSome t.covers.stack (λ b. HoldsStack (bounds_of image) b n after.memory × ((set || sets_sp found.instr) ≡ true))) (sym left.sp)
            (subst (λ (l : List ℕ). IfSome t.covers.stack (λ b. HoldsStack (bounds_of image) b (changed found.instr m.memory m.cpu).sp l × ((set || sets_sp found.instr) ≡ true))) (sym left.memory) ((stands t).now inside.stores))

        there : after.cpu.pc ≡ t.to
        there = left.pc ∙ t.goes

        beside : Beside
        beside = beside_then found.instr (stack_of k.state) t.covers.stack k.state.beside

        with_has : (known : Known) → HoldsKnown known after → Has table t.to known beside t.covers.stack → Knows (set || sets_sp found.instr) (enabled_after found.instr enabled) v
        with_has known holds has =
            enters (set || sets_sp found.instr) (enabled_after found.instr enabled) beside v known t.covers.stack (subst (λ n. Has table n known beside t.covers.stack) (sym there) has) (λ is. enabled_then found.instr (stack_of k.state) t.covers.stack k.state.beside (enables_more found.instr enabled k.state.beside.is_enabled k.enables is))
            (held_after byte after goes inside t)
            (λ on is. still_some (bounds_of image) found.instr t.taken found.next t.known (stack_of k.state) t.covers.stack (served found.instr refl on is) t.covers.is) holds stack_now followed.bytes followed.whole (λ address here. followed.same_code address here ∙ k.code address here)

        by : Has table t.to now beside t.covers.stack ⊎ ((byte : ℕ) → ByteWithin now.a byte → Has table t.to (cut now (byte_alone byte)) beside t.covers.stack) → Knows (set || sets_sp found.instr) (enabled_after found.instr enabled) v
        by (inl has) = with_has now followed.known has
        by (inr each) =
            let a = after.cpu.registers.a in
            with_has (cut now (byte_alone a)) ((laws.holds after followed.bytes).cuts now a followed.known refl) (each a followed.known.registers.a)

    -- which way that is
    always : (taken : Bool) (to : ℕ) → CoversThen (bounds_of image) fit k.state found taken to k.state.known → is_taken (flow found.instr) m.cpu.registers.flags ≡ taken → goes_to (flow found.instr) found.next m.memory m.cpu ≡ to → Taken
    always taken to covers is goes = record { taken = taken; to = to; known = k.state.known; covers = covers; is = is; holds = k.known; are = entry.may.knows; goes = goes }

    if_given : (condition : Condition) (b : Bool) (to : ℕ) → holds_of condition m.cpu.registers.flags ≡ b → LeadsTo (bounds_of image) fit k.state found b to (given condition b k.state.known) → is_taken (flow found.instr) m.cpu.registers.flags ≡ b →
        goes_to (flow found.instr) found.next m.memory m.cpu ≡ to → Taken
    if_given condition b to is leads taken goes =
        let left = laws.conditions quiet condition b k.state.known m k.bytes k.known entry.may.knows is in
        record { taken = b; to = to; known = left.left; covers = subst (λ (o : Option Known). LeadsTo (bounds_of image) fit k.state found b to o) left.is leads; is = taken; holds = left.holds; are = left.are; goes = goes }

    -- a return that is taken
    returned_to : (known : Known) (back : ReturnsTo (bounds_of image) fit k.state found known) → back.to ≡ word_in m.memory m.cpu.sp
    returned_to known back = returns_where back.stacked back.to m.cpu.sp m.memory k.bytes.memory back.is here where
      here : HoldsFrom m.memory m.cpu.sp back.stacked
      here = (subst (λ (o : Option (List ByteSpan)). IfSome o (λ b. HoldsStack (bounds_of image) b m.cpu.sp m.memory × (set ≡ true))) back.stack k.stack).0.each

    record Back (condition_holds : Bool) : Type 0 where
      known : Known
      back : ReturnsTo (bounds_of image) fit k.state found known
      holds : HoldsKnown known m
      are : IsQuietKnown quiet known

    back_given : (condition : Condition) → holds_of condition m.cpu.registers.flags ≡ true → ReturnsLeft (bounds_of image) fit k.state found (given condition true k.state.known) → Back true
    back_given condition is left_back =
        let left = laws.conditions quiet condition true k.state.known m k.bytes k.known entry.may.knows is in
        record { known = left.left; back = subst (λ (o : Option Known). ReturnsLeft (bounds_of image) fit k.state found o) left.is left_back; holds = left.holds; are = left.are }

    by_back : (b : Back true) → is_taken (flow found.instr) m.cpu.registers.flags ≡ true → goes_to (flow found.instr) found.next m.memory m.cpu ≡ word_in m.memory m.cpu.sp → Taken
    by_back b is goes = record { taken = true; to = b.back.to; known = b.known; covers = b.back.leads; is = is; holds = b.holds; are = b.are; goes = goes ∙ sym (returned_to b.known b.back) }

    -- HL goes where it is known to be, or to a declared target
    by_hl : (declared : Bool) → is_declared image.regions k.state.at ≡ declared → JumpsBy (bounds_of image) fit k.state found declared → (flow found.instr ≡ JumpsToHl) → (found.instr ≡ Pchl → leads_outside (targets_at image.regions m.cpu.pc) (hl_of m.cpu.registers) ≡ false) → Taken
    by_hl false is jumps flows inside =
        let above = k.known.registers.hl.words.above in
        let below = k.known.registers.hl.words.below in
        let alone = jumps.alone in
        let same : k.state.known.hl.words.first ≡ hl_of m.cpu.registers = grind (arith, nat_tests) in
        always false k.state.known.hl.words.first jumps.leads (ap (λ (f : Flow). is_taken f m.cpu.registers.flags) flows) (ap (λ (f : Flow). goes_to f found.next m.memory m.cpu) flows ∙ sym same)
    by_hl true is jumps flows inside =
        let hl = hl_of m.cpu.registers in
        let target = declared_jump (targets_at image.regions k.state.at) hl is (subst (λ n. leads_outside (targets_at image.regions n) hl ≡ false) (sym k.at) (inside (is_pchl found.instr flows))) in
        always false hl (jumps hl target k.known.registers.hl.words) (ap (λ (f : Flow). is_taken f m.cpu.registers.flags) flows) (ap (λ (f : Flow). goes_to f found.next m.memory m.cpu) flows)

    abbrev JumpsInside : Type 0
    JumpsInside = found.instr ≡ Pchl → leads_outside (targets_at image.regions m.cpu.pc) (hl_of m.cpu.registers) ≡ false

    way_of : (f : Flow) → flow found.instr ≡ f → f ≢ Halts → JumpsInside → FollowsBy (bounds_of image) fit k.state found f → Taken
    way_of (Jumps to) is on inside follows = always false to follows (ap (λ (f : Flow). is_taken f m.cpu.registers.flags) is) (ap (λ (f : Flow). goes_to f found.next m.memory m.cpu) is)
    way_of (JumpsIf condition to) is on inside follows = by (holds_of condition m.cpu.registers.flags) refl where
      by : (b : Bool) → holds_of condition m.cpu.registers.flags ≡ b → Taken
      by true holds = if_given condition true to holds follows.0 (ap (λ (f : Flow). is_taken f m.cpu.registers.flags) is ∙ holds) (ap (λ (f : Flow). goes_to f found.next m.memory m.cpu) is ∙ ap (λ (b : Bool). if b then to else found.next) holds)
      by false holds = if_given condition false found.next holds follows.1 (ap (λ (f : Flow). is_taken f m.cpu.registers.flags) is ∙ holds) (ap (λ (f : Flow). goes_to f found.next m.memory m.cpu) is ∙ ap (λ (b : Bool). if b then to else found.next) holds)
    way_of JumpsToHl is on inside follows = by_hl (is_declared image.regions k.state.at) refl follows is inside
    way_of (Calls to) is on inside follows = always true to follows (ap (λ (f : Flow). is_taken f m.cpu.registers.flags) is) (ap (λ (f : Flow). goes_to f found.next m.memory m.cpu) is)
    way_of (CallsIf condition to) is on inside follows = by (holds_of condition m.cpu.registers.flags) refl where
      by : (b : Bool) → holds_of condition m.cpu.registers.flags ≡ b → Taken
      by true holds = if_given condition true to holds follows.0 (ap (λ (f : Flow). is_taken f m.cpu.registers.flags) is ∙ holds) (ap (λ (f : Flow). goes_to f found.next m.memory m.cpu) is ∙ ap (λ (b : Bool). if b then to else found.next) holds)
      by false holds = if_given condition false found.next holds follows.1 (ap (λ (f : Flow). is_taken f m.cpu.registers.flags) is ∙ holds) (ap (λ (f : Flow). goes_to f found.next m.memory m.cpu) is ∙ ap (λ (b : Bool). if b then to else found.next) holds)
    way_of Returns is on inside follows = by_back (record { known = k.state.known; back = follows; holds = k.known; are = entry.may.knows }) (ap (λ (f : Flow). is_taken f m.cpu.registers.flags) is) (ap (λ (f : Flow). goes_to f found.next m.memory m.cpu) is)
    way_of (ReturnsIf condition) is on inside follows = by (holds_of condition m.cpu.registers.flags) refl where
      by : (b : Bool) → holds_of condition m.cpu.registers.flags ≡ b → Taken
      by true holds = by_back (back_given condition holds follows.0) (ap (λ (f : Flow). is_taken f m.cpu.registers.flags) is ∙ holds) (ap (λ (f : Flow). goes_to f found.next m.memory m.cpu) is ∙ ap (λ (b : Bool). if b then word_in m.memory m.cpu.sp else found.next) holds)
      by false holds = if_given condition false found.next holds follows.1 (ap (λ (f : Flow). is_taken f m.cpu.registers.flags) is ∙ holds) (ap (λ (f : Flow). goes_to f found.next m.memory m.cpu) is ∙ ap (λ (b : Bool). if b then word_in m.memory m.cpu.sp else found.next) holds)
    way_of Halts is on inside follows = absurd (on refl)
    way_of f is on inside follows = always false found.next follows (ap (λ (f : Flow). is_taken f m.cpu.registers.flags) is) (ap (λ (f : Flow). goes_to f found.next m.memory m.cpu) is)

    -- what is promised
    abbrev Behind : ℕ → Type 0
    Behind to = IsWay image ways m.cpu.pc to

    back_way : (b : Back true) → Behind (word_in m.memory m.cpu.sp)
    back_way b = subst (λ n. IsWay image ways n (word_in m.memory m.cpu.sp)) k.at (subst (λ n. IsWay image ways k.state.at n) (returned_to b.known b.back) b.back.way)

    returning_by : (f : Flow) → FollowsBy (bounds_of image) fit k.state found f → is_return_taken f m.cpu.registers.flags ≡ true → Behind (word_in m.memory m.cpu.sp)
    returning_by Returns follows taken = back_way (record { known = k.state.known; back = follows; holds = k.known; are = entry.may.knows })
    returning_by (ReturnsIf condition) follows taken = back_way (back_given condition taken follows.0)
    returning_by f follows taken = absurd (true≢false (sym taken))

    jumping_by : (declared : Bool) → is_declared image.regions k.state.at ≡ declared → JumpsBy (bounds_of image) fit k.state found declared → targets_at image.regions k.state.at ≡ None → Behind (hl_of m.cpu.registers)
    jumping_by false is jumps none =
        let above = k.known.registers.hl.words.above in
        let below = k.known.registers.hl.words.below in
        let alone = jumps.alone in
        let same : k.state.known.hl.words.first ≡ hl_of m.cpu.registers = grind (arith, nat_tests) in
        subst (λ n. IsWay image ways n (hl_of m.cpu.registers)) k.at (subst (λ n. IsWay image ways k.state.at n) same jumps.way)
    jumping_by true is jumps none = absurd (let no : is_declared image.regions k.state.at ≡ false = ap (λ (o : Option (List ℕ)). is_some o) none in true≢false (sym is ∙ no))

    abbrev HereFollows : Type 0
    HereFollows = FollowsBy (bounds_of image) fit k.state found (flow found.instr)

    jumping : HereFollows → found.instr ≡ Pchl → targets_at image.regions m.cpu.pc ≡ None → Behind (hl_of m.cpu.registers)
    jumping follows is none =
        jumping_by (is_declared image.regions k.state.at) refl (subst (λ (f : Flow). FollowsBy (bounds_of image) fit k.state found f) (ap (λ (i : Instr). flow i) is) follows) (subst (λ n. targets_at image.regions n ≡ None) (sym k.at) none)

    on_stack_each : (xs : List ℕ) → All (Touches image.regions ground bytes) xs → All (IsOnStack image bytes) xs
    on_stack_each xs each = λ k d within. let it = each k d within in record { in_stack = it.there; below = it.below }

    touches_by : (f : Flow) → flow found.instr ≡ f → FollowsBy (bounds_of image) fit k.state found f → All (Touches image.regions ground bytes) (stack_bytes found.instr m.cpu)
    touches_by Halts is follows = untouched (stack_bytes found.instr m.cpu) (ap (λ (f : Flow). touched_by f m.cpu) is)
    touches_by JumpsToHl is follows = untouched (stack_bytes found.instr m.cpu) (ap (λ (f : Flow). touched_by f m.cpu) is)
    touches_by f is follows = (stands (way_of f is (λ e. cc) (λ e. absurd (let jumps : flow found.instr ≡ JumpsToHl = ap (λ (i : Instr). flow i) e in cc)) follows)).touches

    touches_here : HereFollows → All (Touches image.regions ground bytes) (stack_bytes found.instr m.cpu)
    touches_here follows = touches_by (flow found.instr) refl follows

    halts : interrupted ≡ false → found.instr ≡ Ei → halt_follows image.regions m.memory m.cpu.pc ≡ true
    halts off is = subst (λ n. halt_follows image.regions m.memory n ≡ true) k.at (halt_here k.state.at (entry.executed.halts off is)) where
      halt_by : (b : Bool) (at : ℕ) → in_code image.regions (ahead at 1) ≡ b → (b && nat_eq (slice_index (memory_of image.chunks) (ahead at 1)) (opcode Hlt)) ≡ true → (b && nat_eq (slice_index m.memory (ahead at 1)) (opcode Hlt)) ≡ true
      halt_by true at there h = subst (λ n. nat_eq n (opcode Hlt) ≡ true) (sym (k.code (ahead at 1) there)) h
      halt_by false at there h = cc

      halt_here : (at : ℕ) → halt_follows image.regions (memory_of image.chunks) at ≡ true → halt_follows image.regions m.memory at ≡ true
      halt_here at h = halt_by (in_code image.regions (ahead at 1)) at refl h

    -- where a store by a pair goes, and where HL goes that has declared targets
    pub points : (address : ℕ) → Contains (pointed_bytes found.instr m.cpu.registers) address → Points (storing found.instr) k.state.known address
    points address there = points_by (storing found.instr) k.state.known m.cpu.registers address k.known.registers there

    pointed_at : (address : ℕ) (p : Points (storing found.instr) k.state.known address) → ((a : ℕ) → Within p.span a → in_data image.regions a ≡ true) ⊎ Any (λ store. (store.at ≡ k.state.at) × IsInside p.span store.span) listed.stores.items →
        GoesToListed image.regions listed.stores.items m.cpu.pc address
    pointed_at address p (inl inside) = inl (inside address p.within)
    pointed_at address p (inr (j, store, inside, is, of)) = inr (j, store, inside, is, (of.0 ∙ k.at, within_outer p.span store.span address of.1 p.within))

    pointed : All (GoesToListed image.regions listed.stores.items m.cpu.pc) (pointed_bytes found.instr m.cpu.registers)
    pointed = λ j d inside. let address = get_or (pointed_bytes found.instr m.cpu.registers) j d in let p = points address (Contains-get_or (pointed_bytes found.instr m.cpu.registers) j d inside) in
        pointed_at address p (entry.may.shown.stores p.span p.is)

    declared : found.instr ≡ Pchl → is_declared image.regions m.cpu.pc ≡ true → Contains (declared_targets image.regions m.cpu.pc) (hl_of m.cpu.registers) ⊎ Contains listed.jumps.items m.cpu.pc
    declared is some = by (entry.may.shown.jumps (ap is_pchl_instr is) (subst (λ n. is_declared image.regions n ≡ true) (sym k.at) some)) where
      by : ((to : ℕ) → Within k.state.known.hl.words to → Contains (declared_targets image.regions k.state.at) to) ⊎ Contains listed.jumps.items k.state.at → Contains (declared_targets image.regions m.cpu.pc) (hl_of m.cpu.registers) ⊎ Contains listed.jumps.items m.cpu.pc
      by (inl goes) = inl (subst (λ n. Contains (declared_targets image.regions n) (hl_of m.cpu.registers)) k.at (goes (hl_of m.cpu.registers) k.known.registers.hl.words))
      by (inr there) = inr (subst (λ n. Contains listed.jumps.items n) k.at there)

    -- so it stays inside, if it does where it is listed
    pub stays_inside : (IsLeftOpenAt listed m.cpu.pc → StaysInside image.regions m found.instr) → StaysInside image.regions m found.instr
    stays_inside if_listed = record { stores = λ j d inside. store_by j d inside (pointed j d inside); jumps = jump_by } where
      store_by : (j d : ℕ) → j < length (pointed_bytes found.instr m.cpu.registers) → GoesToListed image.regions listed.stores.items m.cpu.pc (get_or (pointed_bytes found.instr m.cpu.registers) j d) →
          in_data image.regions (get_or (pointed_bytes found.instr m.cpu.registers) j d) ≡ true
      store_by j d inside (inl there) = there
      store_by j d inside (inr (i, store, there, is, of)) = (if_listed (inl (i, store, there, is, of.0))).stores j d inside

      jump_by : found.instr ≡ Pchl → leads_outside (targets_at image.regions m.cpu.pc) (hl_of m.cpu.registers) ≡ false
      jump_by is = of (targets_at image.regions m.cpu.pc) refl where
        of : (o : Option (List ℕ)) → targets_at image.regions m.cpu.pc ≡ o → leads_outside (targets_at image.regions m.cpu.pc) (hl_of m.cpu.registers) ≡ false
        of None none = ap (λ (o : Option (List ℕ)). leads_outside o (hl_of m.cpu.registers)) none
        of (Some targets) some = by (declared is (ap (λ (o : Option (List ℕ)). is_some o) some)) where
          by : Contains (declared_targets image.regions m.cpu.pc) (hl_of m.cpu.registers) ⊎ Contains listed.jumps.items m.cpu.pc → leads_outside (targets_at image.regions m.cpu.pc) (hl_of m.cpu.registers) ≡ false
          by (inl target) = not_outside (targets_at image.regions m.cpu.pc) (hl_of m.cpu.registers) target
          by (inr there) = (if_listed (inr there)).jumps is

    -- what is promised of any world of which a state is known, given where it returns and jumps and what it touches
    pub keeps_by : (is_return_taken (flow found.instr) m.cpu.registers.flags ≡ true → Behind (word_in m.memory m.cpu.sp)) → (found.instr ≡ Pchl → targets_at image.regions m.cpu.pc ≡ None → Behind (hl_of m.cpu.registers)) →
        All (Touches image.regions ground bytes) (stack_bytes found.instr m.cpu) → KeepsFollowed image interrupted bytes ways listed w
    keeps_by returning jumping_here touches = record {
      found = found;
      anywhere = anywhere;
      of_image = inside_of image.regions (memory_of image.chunks) m.cpu.pc found (subst (λ n. fetch_at image.regions (memory_of image.chunks) n ≡ Ok found) k.at entry.executed.fetched);
      direct = direct;
      pointed = pointed;
      declared = declared;
      returning = λ taken. subst (λ n. IsWay image ways m.cpu.pc n) (sym (return_target (flow found.instr) found.next m.memory m.cpu taken)) (returning taken);
      jumping = jumping_here;
      stack = on_stack_each (stack_bytes found.instr m.cpu) touches;
      halts = halts;
      goes_on = λ on inside byte small.
          let l = goes_on found.instr byte found.next m on in
          record {
            next = record { machine = l.0; places = places_after found.instr found.next m.cpu.registers.flags w.places };
            step = record { found = found; byte = byte; after = l.0; fetched = anywhere; small = small; inside = inside; goes = l.1; is = refl };
            brought = refl;
          };
    }

    keeps_here : HereFollows → KeepsFollowed image interrupted bytes ways listed w
    keeps_here follows = keeps_by (returning_by (flow found.instr) follows) (jumping follows) (touches_here follows)

    -- an instruction, by the way that it takes
    executes_by : (v : World) (by : Executes image.regions (IsLeftOpenAt listed) w v) → by.found ≡ found → ((f : Flow) → flow found.instr ≡ f → f ≢ Halts → JumpsInside → Taken) → Knows (set || sets_sp by.found.instr) (enabled_after by.found.instr enabled) v
    executes_by v by same way = subst (λ (f : Fetched). Knows (set || sets_sp f.instr) (enabled_after f.instr enabled) v) (sym same)
        (subst (λ (u : World). Knows (set || sets_sp found.instr) (enabled_after found.instr enabled) u) (sym by.is)
        (lands by.byte by.after by.small inside goes (places_after by.found.instr by.found.next m.cpu.registers.flags w.places)
        (way (flow found.instr) refl (no_halt found.instr by.byte found.next m by.after goes) inside.jumps))) where
          inside : StaysInside image.regions m found.instr
          inside = stays_inside (λ at. subst (λ (f : Fetched). StaysInside image.regions m f.instr) same (by.inside at))

          goes : unguarded found.instr by.byte found.next m ≡ Some by.after
          goes = subst (λ (f : Fetched). unguarded f.instr by.byte f.next m ≡ Some by.after) same by.goes

    executes_here : HereFollows → (v : World) (by : Executes image.regions (IsLeftOpenAt listed) w v) → by.found ≡ found → Knows (set || sets_sp by.found.instr) (enabled_after by.found.instr enabled) v
    executes_here follows v by same = executes_by v by same (λ f is on inside. way_of f is on inside (subst (λ (g : Flow). FollowsBy (bounds_of image) fit k.state found g) is follows))

    -- a call or a return under a condition that isn't taken
    passed_by : (f : Flow) → flow found.instr ≡ f → (is_some (called f) || is_return f) ≡ true → is_taken f m.cpu.registers.flags ≡ false →
        PassesBy (bounds_of image) fit k.state found f → Taken
    passed_by (CallsIf condition to) is kind off passes = if_given condition false found.next off passes (ap (λ (f : Flow). is_taken f m.cpu.registers.flags) is ∙ off) (ap (λ (f : Flow). goes_to f found.next m.memory m.cpu) is ∙ ap (λ (b : Bool). if b then to else found.next) off)
    passed_by (ReturnsIf condition) is kind off passes = if_given condition false found.next off passes (ap (λ (f : Flow). is_taken f m.cpu.registers.flags) is ∙ off) (ap (λ (f : Flow). goes_to f found.next m.memory m.cpu) is ∙ ap (λ (b : Bool). if b then word_in m.memory m.cpu.sp else found.next) off)
    passed_by (Calls to) is kind off passes = cc
    passed_by Returns is kind off passes = cc
    passed_by f is kind off passes = cc

    pub executes_passed : (is_some (called (flow found.instr)) || is_return (flow found.instr)) ≡ true → is_taken (flow found.instr) m.cpu.registers.flags ≡ false →
        PassesBy (bounds_of image) fit k.state found (flow found.instr) → (v : World) (by : Executes image.regions (IsLeftOpenAt listed) w v) → by.found ≡ found →
        Knows (set || sets_sp by.found.instr) (enabled_after by.found.instr enabled) v
    executes_passed kind off passes v by same = executes_by v by same (λ f is on inside. passed_by (flow found.instr) refl kind off passes)

    -- behind a HLT all is as it was
    wakes_here : HereFollows → (v : World) → interrupted ≡ true → enabled ≡ true → (by : Wakes w v) → by.found ≡ found → Knows set enabled v
    wakes_here follows v on may by same = subst (λ (u : World). Knows set enabled u) (sym by.is) (subst (λ (f : Fetched). Knows set enabled (with_pc w f.next)) (sym same) (back covers.either)) where
      halts_here : flow found.instr ≡ Halts
      halts_here = ap (λ (f : Fetched). flow f.instr) (sym same) ∙ ap (λ (i : Instr). flow i) by.halts

      covers : Covers table found.next k.state.known k.state.beside (stack_of k.state)
      covers = (subst (λ (f : Flow). FollowsBy (bounds_of image) fit k.state found f) halts_here follows) on (k.enables may)

      here : Machine
      here = (with_pc w found.next).machine

      held : HoldsBytes here
      held = record { registers = k.bytes.registers; memory = k.bytes.memory; inputs = k.bytes.inputs }

      holds : HoldsKnown k.state.known here
      holds = record { registers = k.known.registers; cells = k.known.cells; source = k.known.source }

      behind : (known : Known) → HoldsKnown known here → Has table found.next known k.state.beside (stack_of k.state) → Knows set enabled (with_pc w found.next)
      behind known is has = enters set enabled k.state.beside (with_pc w found.next) known (stack_of k.state) has k.enables (same_beside (bounds_of image) entered k.state.beside (count_of (stack_of k.state)) m here refl (λ depth one inside. refl) k.held) k.serves is k.stack held k.whole k.code

      back : Has table found.next k.state.known k.state.beside (stack_of k.state) ⊎ ((byte : ℕ) → ByteWithin k.state.known.a byte → Has table found.next (cut k.state.known (byte_alone byte)) k.state.beside (stack_of k.state)) →
          Knows set enabled (with_pc w found.next)
      back (inl has) = behind k.state.known holds has
      back (inr each) =
          let a = m.cpu.registers.a in
          behind (cut k.state.known (byte_alone a)) ((laws.holds here held).cuts k.state.known a holds refl) (each a k.known.registers.a)

  -- a state that fits
  module _ (set enabled : Bool) (w : World) (k : KnowsWorld image interrupted entered table set enabled w) (entry : StateFollows (bounds_of image) fit k.state) where
    abbrev stood : StateStands fit k.state
    stood = entry.stands

    pub keeps : KeepsFollowed image interrupted bytes ways listed w
    keeps = keeps_here set enabled w k stood entry.follows

    pub touches_stack : All (Touches image.regions ground bytes) (stack_bytes entry.stands.found.instr w.machine.cpu)
    touches_stack = touches_here set enabled w k stood entry.follows

    pub executes_found : (v : World) (by : Executes image.regions (IsLeftOpenAt listed) w v) → by.found ≡ entry.stands.found → Knows (set || sets_sp by.found.instr) (enabled_after by.found.instr enabled) v
    executes_found = executes_here set enabled w k stood entry.follows

    pub wakes_found : (v : World) → interrupted ≡ true → enabled ≡ true → (by : Wakes w v) → by.found ≡ entry.stands.found → Knows set enabled v
    wakes_found = wakes_here set enabled w k stood entry.follows

  -- a table with a state at the start
  module _ (start_has : Has table image.start nothing_known nothing_beside (first_stack is_set)) where
    pub begun : (start : Machine) → start.cpu.pc ≡ image.start → length start.memory ≡ 65536 → HasCode image start.memory → HoldsBytes start → (is_set ≡ true → start.cpu.sp ≡ top_of image.regions) → Knows is_set false (world_of start)
    begun start pc whole code held top = enters is_set false nothing_beside (world_of start) nothing_known (first_stack is_set) (subst (λ n. Has table n nothing_known nothing_beside (first_stack is_set)) (sym pc) start_has) (λ is. is) (nothing_holds (bounds_of image) entered false (count_of (first_stack is_set)) start) (λ on is. cc) (laws.holds start held).nothing (empty_at_top is_set start.cpu.sp start.memory top) held whole code
