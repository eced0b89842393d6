-- The memory after a step: code stays, and the words on the stack are as the state has them.
use Rattle.verify80_states.proofs.Names.{◌≡◌, ◌≢◌, ◌<◌, ◌≤◌, ℕ, zero, suc, ◌+◌, ◌/◌, ◌%◌, Bool, true, false, not, List, [], ◌∷◌, Option, None, Some}
use Rattle.verify80_states.proofs.Names.{length, slice_index, slice_set, refl, if◌then◌else◌, subst, sym, ap, ◌∙◌, arith, cond, get_or-set_other}
use Rattle.verify80_states.proofs.Names.{true≢false, get_or-set_same, length-set, All-contains, Contains-append_left, Contains-append_right}
use Rattle.verify80_states.proofs.Names.{Contains-push, nat_tests, Instr, Sp, StackPair, Store, MviMemory, InrMemory, DcrMemory, Stax, Sta, Shld}
use Rattle.verify80_states.proofs.Names.{Push, Pop, Call, CallIf, Ret, ReturnIf, Rst, Xthl, Lxi, Inx, Dcx, Sphl, StackBc, StackDe, StackHl, Psw, flow}
use Rattle.verify80_states.proofs.Names.{Range, in_range, IsInMemory, Areas, AreRegions, all_ranges, in_code, in_data, top_of, Registers, Cpu, End}
use Rattle.verify80_states.proofs.Names.{Direct, Stack, StoreOutside, holds_of, flags_byte, guard, first_outside, ends_at, push_bytes, stores, stored}
use Rattle.verify80_states.proofs.Names.{changed, PairSpan, Words, State, any_byte, word_alone, HoldsPair, HoldsRegisters, HoldsWord, HoldsWords}
use Rattle.verify80_states.proofs.Names.{IsOnStack, pair_of_words, no_words, pushed, popped, pushed_pair, called, returned, words_after, is_taken, Known}
use Rattle.machine80.specs.Cpu.{high_of, low_of}
use Rattle.decode80.specs.{Fetch.ahead, Fetch.behind}
use Rattle.verify80_states.proofs.{ArithmeticBounds.flags_are_byte, ArithmeticBounds.ahead_is_word, ArithmeticBounds.behind_is_word}
use Rattle.verify80_states.proofs.{SpanLemmas.any_byte_within, StateLemmas.halves_hold, StateLemmas.split_holds}

-- the rules of regions: code, data and stack share no address, and the stack is in memory
pub record Ground (regions : Areas) : Type 0 where
  pub code_or_data : (a : ℕ) → in_code regions a ≡ true → in_data regions a ≡ false
  pub code_or_stack : (a : ℕ) → in_code regions a ≡ true → in_range regions.stack a ≡ false
  pub data_or_stack : (a : ℕ) → in_data regions a ≡ true → in_range regions.stack a ≡ false
  pub stack_ends : regions.stack.first + regions.stack.length ≤ 65536
  pub stack_short : regions.stack.length < 65536

pub ground_of : ((areas : Areas) (a : ℕ) → AreRegions areas → in_code areas a ≡ true → in_data areas a ≡ false) →
    ((areas : Areas) (a : ℕ) → AreRegions areas → in_code areas a ≡ true → in_range areas.stack a ≡ false) →
    ((areas : Areas) (a : ℕ) → AreRegions areas → in_data areas a ≡ true → in_range areas.stack a ≡ false) →
    (regions : Areas) → AreRegions regions → Ground regions
ground_of code_or_data code_or_stack data_or_stack regions rules = record {
  code_or_data = λ a. code_or_data regions a rules;
  code_or_stack = λ a. code_or_stack regions a rules;
  data_or_stack = λ a. data_or_stack regions a rules;
  stack_ends = lies.«end»;
  stack_short = lies.length;
}
  where
    lies : IsInMemory regions.stack
    lies =
        All-contains IsInMemory (all_ranges regions) regions.stack rules.in_memory
        (Contains-append_right regions.code (regions.stack ∷ regions.data_ranges) regions.stack
        (Contains-append_left (regions.stack ∷ []) regions.data_ranges regions.stack (Contains-push [] regions.stack)))

above_first : (range : Range) (a : ℕ) → in_range range a ≡ true → range.first ≤ a
above_first range a there = grind (arith, nat_tests, there)

below_last : (range : Range) (a : ℕ) → in_range range a ≡ true → a < range.first + range.length
below_last range a there = grind (arith, nat_tests, there)

small_on_stack : (regions : Areas) (a : ℕ) → Ground regions → in_range regions.stack a ≡ true → a < 65536
small_on_stack regions a ground stack = let ends = ground.stack_ends in grind (arith, nat_tests, ends, stack)

-- an address of the stack isn't its top, and the next one on the stack is one up
not_top : (regions : Areas) (a : ℕ) → Ground regions → in_range regions.stack a ≡ true → a ≢ top_of regions
not_top regions a ground stack =
    λ e. absurd (let ends = ground.stack_ends in let short = ground.stack_short in let low = above_first regions.stack a stack in let high = below_last regions.stack a stack in omega (arith, e, ends, short, low, high))

next_up : (regions : Areas) (a : ℕ) → Ground regions → in_range regions.stack a ≡ true → in_range regions.stack (ahead a 1) ≡ true → ahead a 1 ≡ a + 1
unfolding ahead
next_up regions a ground stack next =
    let short = ground.stack_short in let ends = ground.stack_ends in
    let low = above_first regions.stack a stack in let high = below_last regions.stack a stack in
    let next_low = above_first regions.stack (ahead a 1) next in omega (arith, ends, short, low, high, next_low)

-- what is stored to data isn't on the stack
pub stack_apart : (regions : Areas) (a b : ℕ) → Ground regions → in_range regions.stack a ≡ true → in_data regions b ≡ true → a ≢ b
stack_apart regions a b ground stack data_there = λ e. true≢false (sym stack ∙ ap (in_range regions.stack) e ∙ ground.data_or_stack b data_there)

-- an address that the guard lets pass is inside
passed_test : (t : Bool) (b : ℕ) (others : Option ℕ) (at : ℕ → End) (rest : Option End) → ends_at (cond (not t) (Some b) others) at rest ≡ None → t ≡ true
passed_test true b others at rest h = refl
passed_test false b others at rest h = cc

passed_rest : (t : Bool) (b : ℕ) (others : Option ℕ) (at : ℕ → End) (rest : Option End) → ends_at (cond (not t) (Some b) others) at rest ≡ None → ends_at others at rest ≡ None
passed_rest true b others at rest h = h
passed_rest false b others at rest h = cc

pub passed : (within : ℕ → Bool) (b : ℕ) (at : ℕ → End) (rest : Option End) → ends_at (first_outside within (b ∷ [])) at rest ≡ None → within b ≡ true
passed within b at rest h = passed_test (within b) b None at rest h

pub passed_two : (within : ℕ → Bool) (b c : ℕ) (at : ℕ → End) (rest : Option End) → ends_at (first_outside within (b ∷ c ∷ [])) at rest ≡ None → (within b ≡ true) × (within c ≡ true)
passed_two within b c at rest h =
    let others : Option ℕ = first_outside within (c ∷ []) in
    (passed_test (within b) b others at rest h, passed within c at rest (passed_rest (within b) b others at rest h))

-- stores, one and two
pub one_stored : (m : List ℕ) (a b x : ℕ) → a ≢ b → slice_index (stored m ((b, x) ∷ [])) a ≡ slice_index m a
one_stored m a b x h = get_or-set_other m b a x 0 h

pub two_stored : (m : List ℕ) (a b c x y : ℕ) → a ≢ b → a ≢ c → slice_index (stored m ((b, x) ∷ (c, y) ∷ [])) a ≡ slice_index m a
two_stored m a b c x y h k = get_or-set_other (slice_set m b x) c a y 0 k ∙ get_or-set_other m b a x 0 h

two_read : (m : List ℕ) (a b x y : ℕ) → length m ≡ 65536 → a < 65536 → b < 65536 → a ≢ b → (slice_index (stored m ((a, x) ∷ (b, y) ∷ [])) a ≡ x) × (slice_index (stored m ((a, x) ∷ (b, y) ∷ [])) b ≡ y)
two_read m a b x y whole small other apart = (
  get_or-set_other (slice_set m a x) b a y 0 apart ∙ get_or-set_same m a x 0 (omega (arith, small, whole)),
  get_or-set_same (slice_set m a x) b y 0 (let size = length-set m a x in omega (arith, size, other, whole)),
)

-- the words on the stack
module _ (regions : Areas) (ground : Ground regions) where
  -- a word lies on the stack from the stack pointer up
  record Lies (sp at : ℕ) : Type 0 where
    low : in_range regions.stack at ≡ true
    high : in_range regions.stack (ahead at 1) ≡ true
    above : sp ≤ at
    filled : sp ≢ top_of regions

  same_pair : (pair : PairSpan) (h l high low : ℕ) → high ≡ h → low ≡ l → HoldsPair pair h l → HoldsPair pair high low
  same_pair pair h l high low same other holds = subst (λ n. HoldsPair pair n low) (sym same) (subst (λ n. HoldsPair pair h n) (sym other) holds)

  -- memories with the same bytes of the stack from the stack pointer up
  abbrev SameStack : (sp : ℕ) → List ℕ → List ℕ → Type 0
  SameStack sp m m' = (a : ℕ) → in_range regions.stack a ≡ true → sp ≤ a → sp ≢ top_of regions → slice_index m' a ≡ slice_index m a

  -- a word stays where it is, at its place from another stack pointer
  word_stays : (o : Option PairSpan) (m m' : List ℕ) (sp sp' at at' : ℕ) → SameStack sp m m' → (Lies sp at → (at ≡ at') × ((sp' ≤ at) × (sp' ≢ top_of regions))) →
      HoldsWord regions o m sp at → HoldsWord regions o m' sp' at'
  word_stays None m m' sp sp' at at' same place holds = tt
  word_stays (Some pair) m m' sp sp' at at' same place holds =
      let there = place (record { low = holds.low; high = holds.high; above = holds.above; filled = holds.filled }) in
      let next = next_up regions at ground holds.low holds.high in
      let up : sp ≤ ahead at 1 = (let above = holds.above in omega (arith, next, above)) in
      subst (λ n. IsOnStack regions pair m' sp' n) there.0
      (record {
        low = holds.low;
        high = holds.high;
        above = there.1.0;
        filled = there.1.1;
        within = same_pair pair _ _ _ _ (same (ahead at 1) holds.high up holds.filled) (same at holds.low holds.above holds.filled) holds.within;
      })

  pub words_stay : (w : Words) (m m' : List ℕ) (sp : ℕ) → SameStack sp m m' → HoldsWords regions w m sp → HoldsWords regions w m' sp
  words_stay w m m' sp same holds = record {
    first = stays w.first sp holds.first;
    second = stays w.second (ahead sp 2) holds.second;
    third = stays w.third (ahead sp 4) holds.third;
    fourth = stays w.fourth (ahead sp 6) holds.fourth;
  } where
    stays : (o : Option PairSpan) (at : ℕ) → HoldsWord regions o m sp at → HoldsWord regions o m' sp at
    stays o at h = word_stays o m m' sp sp at at same (λ lies. (refl, (lies.above, lies.filled))) h

  pub none_hold : (m : List ℕ) (sp : ℕ) → HoldsWords regions no_words m sp
  none_hold m sp = record { first = tt; second = tt; third = tt; fourth = tt }

  ahead_twice : (sp j k : ℕ) → ahead sp (j + k) ≡ ahead (ahead sp j) k
  unfolding ahead
  ahead_twice sp j k = omega arith

  -- a word is popped: what lies above it lies from the stack pointer up then
  above_popped : (sp k : ℕ) → 2 ≤ k → k < 8 → Lies sp (ahead sp k) → (ahead sp 2 ≤ ahead sp k) × (ahead sp 2 ≢ top_of regions)
  unfolding ahead
  above_popped sp k more less lies =
      let ends = ground.stack_ends in
      let above = lies.above in
      let high = below_last regions.stack (ahead sp k) lies.low in
      (omega (arith, more, less, above), λ e. absurd (omega (arith, more, less, above, ends, high, e)))

  words_popped : (w : Words) (m : List ℕ) (sp : ℕ) → HoldsWords regions w m sp → HoldsWords regions (popped w) m (ahead sp 2)
  words_popped w m sp holds = record {
    first = stays w.second 2 (ahead sp 2) (omega arith) (omega arith) refl holds.second;
    second = stays w.third 4 (ahead (ahead sp 2) 2) (omega arith) (omega arith) (ahead_twice sp 2 2) holds.third;
    third = stays w.fourth 6 (ahead (ahead sp 2) 4) (omega arith) (omega arith) (ahead_twice sp 2 4) holds.fourth;
    fourth = tt;
  } where
    stays : (o : Option PairSpan) (k at' : ℕ) → 2 ≤ k → k < 8 → ahead sp k ≡ at' → HoldsWord regions o m sp (ahead sp k) → HoldsWord regions o m (ahead sp 2) at'
    stays o k at' more less place h = word_stays o m m sp (ahead sp 2) (ahead sp k) at' (λ a on above filled. refl) (λ lies. (place, above_popped sp k more less lies)) h

  -- a word is put onto others, which lie two bytes further up
  words_under : (w : Words) (pair : PairSpan) (m m' : List ℕ) (sp sp' : ℕ) → SameStack sp m m' → ((at : ℕ) → Lies sp at → (sp ≡ ahead sp' 2) × ((sp' ≤ at) × (sp' ≢ top_of regions))) →
      IsOnStack regions pair m' sp' sp' → HoldsWords regions w m sp → HoldsWords regions (pushed w (Some pair)) m' sp'
  words_under w pair m m' sp sp' same place top holds = record {
    first = top;
    second = word_stays w.first m m' sp sp' sp (ahead sp' 2) same (λ lies. place sp lies) holds.first;
    third = under w.second 2 (ahead sp' 4) (ahead_twice sp' 2 2) holds.second;
    fourth = under w.third 4 (ahead sp' 6) (ahead_twice sp' 2 4) holds.third;
  } where
    under : (o : Option PairSpan) (k at' : ℕ) → at' ≡ ahead (ahead sp' 2) k → HoldsWord regions o m sp (ahead sp k) → HoldsWord regions o m' sp' at'
    under o k at' twice h = word_stays o m m' sp sp' (ahead sp k) at' same
        (λ lies. let p = place (ahead sp k) lies in (ap (λ n. ahead n k) p.0 ∙ sym twice, p.1)) h

  -- a word is pushed
  top_low : (sp : ℕ) → ahead (behind sp 2) 1 ≡ behind sp 1
  unfolding ahead behind
  top_low sp = omega arith

  top_second : (sp : ℕ) → sp < 65536 → sp ≡ ahead (behind sp 2) 2
  unfolding ahead behind
  top_second sp small = omega arith

  low_apart : (sp : ℕ) → behind sp 1 ≢ behind sp 2
  unfolding behind
  low_apart sp = λ e. absurd (omega (arith, e))

  pushed_below : (sp at : ℕ) → (in_range regions.stack (behind sp 1) ≡ true) × (in_range regions.stack (behind sp 2) ≡ true) → in_range regions.stack at ≡ true → sp ≤ at → sp ≢ top_of regions → (behind sp 1 < at) × (behind sp 2 < at)
  unfolding behind
  pushed_below sp at pushed there above filled = by sp refl where
    by : (n : ℕ) → sp ≡ n → (behind sp 1 < at) × (behind sp 2 < at)
    by zero is = absurd (filled (let ends = ground.stack_ends in let short = ground.stack_short in let high = below_last regions.stack (behind sp 1) pushed.0 in omega (arith, is, ends, short, high)))
    by (suc zero) is =
        let ends = ground.stack_ends in
        let short = ground.stack_short in
        let low = above_first regions.stack (behind sp 1) pushed.0 in
        let high = below_last regions.stack (behind sp 2) pushed.1 in
        absurd (omega (arith, is, ends, short, low, high))
    by (suc (suc n)) is = let small = small_on_stack regions at ground there in (omega (arith, is, above, small), omega (arith, is, above, small))

  module _ (m : List ℕ) (sp high low : ℕ) (whole : length m ≡ 65536) where
    abbrev after : List ℕ
    after = stored m (push_bytes sp high low)

    read : (slice_index after (behind sp 1) ≡ high) × (slice_index after (behind sp 2) ≡ low)
    read = two_read m (behind sp 1) (behind sp 2) high low whole (behind_is_word sp 1) (behind_is_word sp 2) (low_apart sp)

    pub words_pushed : (w : Words) (pair : PairSpan) → (in_range regions.stack (behind sp 1) ≡ true) × (in_range regions.stack (behind sp 2) ≡ true) → HoldsPair pair high low → HoldsWords regions w m sp →
        HoldsWords regions (pushed w (Some pair)) after (behind sp 2)
    words_pushed w pair there inside holds = words_under w pair m after sp (behind sp 2)
        (λ a on above filled.
        let below = pushed_below sp a there on above filled in
        two_stored m a (behind sp 1) (behind sp 2) high low (λ e. absurd (omega (arith, e, below.0))) (λ e. absurd (omega (arith, e, below.1))))
        (λ at lies.
        let below = pushed_below sp at there lies.low lies.above lies.filled in
        let small = small_on_stack regions at ground lies.low in
        let above = lies.above in
        (top_second sp (omega (arith, small, above)), (omega (arith, below.1), not_top regions (behind sp 2) ground there.1)))
        (record {
          low = there.1;
          high = subst (λ n. in_range regions.stack n ≡ true) (sym (top_low sp)) there.0;
          above = omega arith;
          filled = not_top regions (behind sp 2) ground there.1;
          within = same_pair pair _ _ _ _ (ap (slice_index after) (top_low sp) ∙ read.0) read.1 inside;
        })
        holds

  -- a word is exchanged: it is popped, and another put there
  ahead_one : (sp : ℕ) → sp < 65536 → sp ≢ ahead sp 1
  unfolding ahead
  ahead_one sp small = λ e. absurd (omega (arith, e, small))

  exchanged_below : (sp a : ℕ) → in_range regions.stack sp ≡ true → in_range regions.stack (ahead sp 1) ≡ true → ahead sp 2 ≤ a → ahead sp 2 ≢ top_of regions → (sp < a) × (ahead sp 1 < a)
  unfolding ahead
  exchanged_below sp a low high above filled =
      let ends = ground.stack_ends in
      let up = next_up regions sp ground low high in
      let last = below_last regions.stack (ahead sp 1) high in
      (omega (arith, ends, up, last, above, filled), omega (arith, ends, up, last, above, filled))

  module _ (m : List ℕ) (sp high low : ℕ) (whole : length m ≡ 65536) (low_in : in_range regions.stack sp ≡ true) (high_in : in_range regions.stack (ahead sp 1) ≡ true) where
    abbrev exchanged : List ℕ
    exchanged = stored m ((sp, low) ∷ (ahead sp 1, high) ∷ [])

    read_back : (slice_index exchanged sp ≡ low) × (slice_index exchanged (ahead sp 1) ≡ high)
    read_back = let small = small_on_stack regions sp ground low_in in two_read m sp (ahead sp 1) low high whole small (ahead_is_word sp 1) (ahead_one sp small)

    words_exchanged : (w : Words) (pair : PairSpan) → HoldsPair pair high low → HoldsWords regions w m sp → HoldsWords regions (record w { first = Some pair }) exchanged sp
    words_exchanged w pair inside holds = words_under (popped w) pair m exchanged (ahead sp 2) sp
        (λ a on above filled.
        let below = exchanged_below sp a low_in high_in above filled in
        two_stored m a sp (ahead sp 1) low high (λ e. absurd (omega (arith, e, below.0))) (λ e. absurd (omega (arith, e, below.1))))
        (λ at lies. (refl, ((let below = (exchanged_below sp at low_in high_in lies.above lies.filled).0 in omega (arith, below)), not_top regions sp ground low_in)))
        (record { low = low_in; high = high_in; above = omega arith; filled = not_top regions sp ground low_in; within = same_pair pair _ _ _ _ read_back.1 read_back.0 inside })
        (words_popped w m sp holds)

  -- a store to data leaves the stack
  stack_one : (m : List ℕ) (sp b x : ℕ) → in_data regions b ≡ true → SameStack sp m (stored m ((b, x) ∷ []))
  stack_one m sp b x there a stack above filled = one_stored m a b x (stack_apart regions a b ground stack there)

  stack_two : (m : List ℕ) (sp b c x y : ℕ) → (in_data regions b ≡ true) × (in_data regions c ≡ true) → SameStack sp m (stored m ((b, x) ∷ (c, y) ∷ []))
  stack_two m sp b c x y there a stack above filled = two_stored m a b c x y (stack_apart regions a b ground stack there.0) (stack_apart regions a c ground stack there.1)

  -- the word that PUSH pushes
  pushed_holds : (s : Known) (r : Registers) (pair : StackPair) → HoldsRegisters s r → HoldsPair (pushed_pair s pair) (high_of r pair) (low_of r pair)
  pushed_holds s r StackBc holds = holds.bc
  pushed_holds s r StackDe holds = holds.de
  pushed_holds s r StackHl holds = holds.hl
  pushed_holds s r Psw holds = halves_hold s.a any_byte r.a (flags_byte r.flags) holds.a (any_byte_within (flags_byte r.flags) (flags_are_byte r.flags))

  next_holds : (next : ℕ) → HoldsPair (pair_of_words (word_alone next)) (next / 256) (next % 256)
  next_holds next = split_holds (word_alone next) next (record { above = omega arith; below = omega arith })

  module _ (m : List ℕ) (whole : length m ≡ 65536) where
    maybe_push : (t taken : Bool) (next sp : ℕ) (w : Words) → t ≡ taken →
        ends_at (first_outside (in_range regions.stack) (if t then behind sp 1 ∷ behind sp 2 ∷ [] else [])) Stack (ends_at None Direct (ends_at None StoreOutside None)) ≡ None → HoldsWords regions w m sp →
        HoldsWords regions (called taken next w) (stored m (if t then push_bytes sp (next / 256) (next % 256) else [])) (if t then behind sp 2 else sp)
    maybe_push true true next sp w same pass holds =
        words_pushed m sp (next / 256) (next % 256) whole w (pair_of_words (word_alone next)) (passed_two (in_range regions.stack) (behind sp 1) (behind sp 2) Stack _ pass) (next_holds next) holds
    maybe_push false false next sp w same pass holds = holds
    maybe_push true false next sp w same pass holds = cc
    maybe_push false true next sp w same pass holds = cc

    maybe_return : (t : Bool) (w : Words) (sp : ℕ) → HoldsWords regions w m sp → HoldsWords regions (returned t w) m (if t then ahead sp 2 else sp)
    maybe_return true w sp holds = words_popped w m sp holds
    maybe_return false w sp holds = holds

    pub words_changed : (i : Instr) (next : ℕ) (cpu : Cpu) (s : State) → guard regions i cpu ≡ None → HoldsRegisters s.known cpu.registers → HoldsWords regions s.words m cpu.sp →
        HoldsWords regions (words_after i (is_taken (flow i) cpu.registers.flags) next s) (stored m (stores i next m cpu)) (changed i m cpu).sp
    words_changed (Store r) next cpu s pass holds words = words_stay s.words m _ cpu.sp (stack_one m cpu.sp _ _ (passed (in_data regions) _ StoreOutside None pass)) words
    words_changed (MviMemory b) next cpu s pass holds words = words_stay s.words m _ cpu.sp (stack_one m cpu.sp _ _ (passed (in_data regions) _ StoreOutside None pass)) words
    words_changed InrMemory next cpu s pass holds words = words_stay s.words m _ cpu.sp (stack_one m cpu.sp _ _ (passed (in_data regions) _ StoreOutside None pass)) words
    words_changed DcrMemory next cpu s pass holds words = words_stay s.words m _ cpu.sp (stack_one m cpu.sp _ _ (passed (in_data regions) _ StoreOutside None pass)) words
    words_changed (Stax p) next cpu s pass holds words = words_stay s.words m _ cpu.sp (stack_one m cpu.sp _ _ (passed (in_data regions) _ StoreOutside None pass)) words
    words_changed (Sta w) next cpu s pass holds words = words_stay s.words m _ cpu.sp (stack_one m cpu.sp w cpu.registers.a (passed (in_data regions) w Direct None pass)) words
    words_changed (Shld w) next cpu s pass holds words =
        words_stay s.words m _ cpu.sp (stack_two m cpu.sp w (ahead w 1) cpu.registers.l cpu.registers.h (passed_two (in_data regions) w (ahead w 1) Direct None pass)) words
    words_changed (Push pair) next cpu s pass holds words =
        words_pushed m cpu.sp (high_of cpu.registers pair) (low_of cpu.registers pair) whole s.words (pushed_pair s.known pair)
        (passed_two (in_range regions.stack) (behind cpu.sp 1) (behind cpu.sp 2) Stack _ pass) (pushed_holds s.known cpu.registers pair holds) words
    words_changed (Pop pair) next cpu s pass holds words = words_popped s.words m cpu.sp words
    words_changed Xthl next cpu s pass holds words =
        let both : (in_range regions.stack cpu.sp ≡ true) × (in_range regions.stack (ahead cpu.sp 1) ≡ true) = passed_two (in_range regions.stack) cpu.sp (ahead cpu.sp 1) Stack _ pass in
        words_exchanged m cpu.sp cpu.registers.h cpu.registers.l whole both.0 both.1 s.words s.known.hl holds.hl words
    words_changed (Call w) next cpu s pass holds words =
        words_pushed m cpu.sp (next / 256) (next % 256) whole s.words (pair_of_words (word_alone next)) (passed_two (in_range regions.stack) (behind cpu.sp 1) (behind cpu.sp 2) Stack _ pass) (next_holds next) words
    words_changed (Rst n) next cpu s pass holds words =
        words_pushed m cpu.sp (next / 256) (next % 256) whole s.words (pair_of_words (word_alone next)) (passed_two (in_range regions.stack) (behind cpu.sp 1) (behind cpu.sp 2) Stack _ pass) (next_holds next) words
    words_changed (CallIf c w) next cpu s pass holds words = maybe_push (holds_of c cpu.registers.flags) (holds_of c cpu.registers.flags) next cpu.sp s.words refl pass words
    words_changed Ret next cpu s pass holds words = words_popped s.words m cpu.sp words
    words_changed (ReturnIf c) next cpu s pass holds words = maybe_return (holds_of c cpu.registers.flags) s.words cpu.sp words
    words_changed (Lxi Sp n) next cpu s pass holds words = none_hold m _
    words_changed (Inx Sp) next cpu s pass holds words = none_hold m _
    words_changed (Dcx Sp) next cpu s pass holds words = none_hold m _
    words_changed Sphl next cpu s pass holds words = none_hold m _
    words_changed i next cpu s pass holds words = words
