-- The stack after each kind of instruction.
use Rattle.std.specs.Prelude.{◌≡◌, ◌≢◌, ◌≤◌, ◌<◌, ℕ, suc, ◌+◌, ◌/◌, ◌%◌, Bool, true, false, List, [], ◌∷◌, Option, IfSome, All, length, nat_le, slice_index, slice_set, if◌then◌else◌}
use Rattle.std.proofs.Common.{arith, ap, refl, subst, sym, ◌∙◌, get_or-set_other, true≢false}
use Rattle.std.proofs.lemmas.{Bool.Decides.nat_tests, List.get_or-set_same, List.length-set}
use Rattle.std.proofs.lemmas.List.Elements.{All-head, All-tail}
use Rattle.decode80.specs.{Facts.flow, Fetch.ahead, Fetch.behind, Fetch.direct_bytes, Spelling.HasOperandInRange, declared.instr.Instr.Instr, declared.pair.StackPair.StackPair}
use Rattle.decode80.specs.declared.instr.Instr.TheVariants.{Store, MviMemory, InrMemory, DcrMemory, Stax, Sta, Shld, Lxi, Inx, Dcx, Sphl, Push, Pop, Xthl, Call, CallIf, Ret, ReturnIf, Rst}
use Rattle.decode80.specs.declared.pair.Pair.TheVariants.{Sp}
use Rattle.decode80.specs.declared.pair.StackPair.TheVariants.{Bc as StackBc, De as StackDe, Hl as StackHl, Psw}
use Rattle.image80.specs.{Range.in_range, Regions.Areas, Regions.in_data}
use Rattle.machine80.specs.{Cpu.high_of, Cpu.low_of, Cpu.hl_of, Cpu.word, Flags.holds as holds_of, Flags.flags_byte, Effects.byte_in, Effects.changed}
use Rattle.machine80.specs.{Effects.pointed_bytes, Effects.push_bytes, Effects.stored, Effects.stores, declared.cpu.Cpu.Cpu, declared.registers.Registers.Registers}
use Rattle.verify80_spans.specs.declared.{byte_span.ByteSpan.ByteSpan, span.Span.Span}
use Rattle.verify80_spans.specs.Span.{Within, ByteWithin, any_byte, byte_alone, is_alone, high_of as high_bytes}
use Rattle.verify80_states.specs.{declared.states.known.Known.Known, Bytes.AreBytes, Bytes.HasBytes, Known.HoldsRegisters, Following.pushed_pair, Steps.is_taken}
use Rattle.verify80_follow.specs.Stack.{HoldsFrom, HoldsStack, called_on, exchanged_on, moved_if, moved_to, pointer_at, popped_from, pushed_onto, returned_from, stack_after, with_one, without_one}
use Rattle.verify80_follow.proofs.GroundLemmas.{Ground}
use Rattle.verify80_follow.proofs.StackLemmas.{any_within, bounds, byte_at, if_true_holds, moved_holds, one_popped, pointer_below, pointer_is, pointer_is_word, stack_stays, two_popped, two_put}

-- a word that is stored and read
pub two_read : (m : List ℕ) (a b x y : ℕ) → length m ≡ 65536 → a < 65536 → b < 65536 → a ≢ b → (slice_index (slice_set (slice_set m a x) b y) a ≡ x) × (slice_index (slice_set (slice_set m a x) b y) b ≡ y)
two_read m a b x y whole small other apart = (
  get_or-set_other (slice_set m a x) b a y 0 apart ∙ get_or-set_same m a x 0 (omega (arith, small, whole)),
  get_or-set_same (slice_set m a x) b y 0 (let size = length-set m a x in omega (arith, size, other, whole)),
)

two_apart : (m : List ℕ) (a b c x y : ℕ) → a ≢ b → a ≢ c → slice_index (slice_set (slice_set m b x) c y) a ≡ slice_index m a
two_apart m a b c x y h k = get_or-set_other (slice_set m b x) c a y 0 k ∙ get_or-set_other m b a x 0 h

-- the high byte of a pair is one of its high bytes
high_inside : (s : Span) (h l : ℕ) → l < 256 → Within s (word h l) → ByteWithin (high_bytes s) h
high_inside s h l small inside = let above = inside.above in let below = inside.below in record { above = omega (arith, above, small); below = omega (arith, below, small) }

alone_inside : (n : ℕ) → ByteWithin (byte_alone n) n
alone_inside n = record { above = omega arith; below = omega arith }

pub behind_word : (at k : ℕ) → behind at k < 65536
unfolding behind
behind_word at k = omega arith

ahead_word : (at k : ℕ) → ahead at k < 65536
unfolding ahead
ahead_word at k = omega arith

up_one : (sp : ℕ) → ahead (behind sp 2) 1 ≡ behind sp 1
unfolding ahead behind
up_one sp = omega arith

up_two : (sp : ℕ) → sp < 65536 → ahead (ahead (behind sp 2) 1) 1 ≡ sp
unfolding ahead behind
up_two sp small = omega (arith, small)

twice_up : (sp : ℕ) → ahead (ahead sp 1) 1 ≡ ahead sp 2
unfolding ahead
twice_up sp = omega arith

pub below_apart : (sp : ℕ) → behind sp 1 ≢ behind sp 2
unfolding behind
below_apart sp = λ e. absurd (omega (arith, e))

next_up : (n : ℕ) → n + 1 < 65536 → ahead n 1 ≡ n + 1
unfolding ahead
next_up n few = omega (arith, few)

back_up : (n : ℕ) → n < 65536 → ahead (behind n 1) 1 ≡ n
unfolding ahead behind
back_up n few = omega (arith, few)

module _ (regions : Areas) (ground : Ground regions) where
  one_below : (n : ℕ) → n + 1 ≤ regions.stack.length → behind (pointer_at (bounds regions ground) n) 1 ≡ pointer_at (bounds regions ground) (suc n)
  unfolding behind
  one_below n few = let ends = ground.stack_ends in let short = ground.stack_short in omega (arith, few, ends, short)

  abbrev Stands : List ByteSpan → (sp : ℕ) → List ℕ → Type 0
  Stands bytes sp m = HoldsStack (bounds regions ground) bytes sp m

  abbrev StandsIf : Option (List ByteSpan) → (sp : ℕ) → List ℕ → Type 0
  StandsIf after sp m = IfSome after (λ bytes. Stands bytes sp m)

  -- a word is pushed
  module _ (m : List ℕ) (whole : length m ≡ 65536) (sp : ℕ) (bytes : List ByteSpan) (holds : HoldsStack (bounds regions ground) bytes sp m) where
    pushes : (high low : ByteSpan) (h l : ℕ) → ByteWithin high h → ByteWithin low l → StandsIf (pushed_onto regions.stack.length high low bytes) (behind sp 2) (stored m (push_bytes sp h l))
    pushes high low h l first second = if_true_holds (nat_le (length bytes + 2) regions.stack.length) (low ∷ high ∷ bytes) (λ after. Stands after (behind sp 2) (stored m (push_bytes sp h l)))
        (λ inside.
        let room : length bytes + 2 ≤ regions.stack.length = grind (arith, nat_tests, inside) in
        let below = pointer_below regions ground (length bytes) room in
        let at : behind sp 2 ≡ pointer_at (bounds regions ground) (length bytes + 2) = ap (λ n. behind n 2) holds.pointer ∙ below.1 in
        let one : behind sp 1 ≡ pointer_at (bounds regions ground) (length bytes + 1) = ap (λ n. behind n 1) holds.pointer ∙ below.0 in
        let at_is = at ∙ pointer_is regions ground (length bytes + 2) (omega arith) room in
        let one_is = one ∙ pointer_is regions ground (length bytes + 1) (omega arith) (omega (arith, room)) in
        let read = two_read m (behind sp 1) (behind sp 2) h l whole (behind_word sp 1) (behind_word sp 2) (below_apart sp) in
        let small : sp < 65536 = subst (λ n. n < 65536) (sym holds.pointer) (pointer_is_word regions ground (length bytes)) in
        two_put regions ground low high bytes (behind sp 2) m (stored m (push_bytes sp h l)) l h room at read.1 (ap (slice_index (stored m (push_bytes sp h l))) (up_one sp) ∙ read.0) second first
        (λ a there above. two_apart m a (behind sp 1) (behind sp 2) h l (λ e. absurd (omega (arith, e, above, at_is, one_is, room))) (λ e. absurd (omega (arith, e, above))))
        (subst (λ n. HoldsFrom m n bytes) (sym (up_two sp small)) holds.each))

    calls : (taken : Bool) (next : ℕ) (t : Bool) → t ≡ taken → StandsIf (called_on taken regions.stack.length next bytes) (if t then behind sp 2 else sp) (stored m (if t then push_bytes sp (next / 256) (next % 256) else []))
    calls true next true same = pushes (byte_alone (next / 256)) (byte_alone (next % 256)) (next / 256) (next % 256) (alone_inside (next / 256)) (alone_inside (next % 256))
    calls false next false same = holds
    calls true next false same = cc
    calls false next true same = cc

  pops : (m : List ℕ) (sp : ℕ) (bytes : List ByteSpan) → Stands bytes sp m → StandsIf (popped_from bytes) (ahead sp 2) m
  pops m sp [] holds = tt
  pops m sp (low ∷ []) holds = tt
  pops m sp (low ∷ high ∷ bytes) holds = two_popped regions ground low high bytes sp m holds

  returns : (m : List ℕ) (sp : ℕ) (bytes : List ByteSpan) (taken t : Bool) → t ≡ taken → Stands bytes sp m → StandsIf (returned_from taken bytes) (if t then ahead sp 2 else sp) m
  returns m sp bytes true true same holds = pops m sp bytes holds
  returns m sp bytes false false same holds = holds
  returns m sp bytes true false same holds = cc
  returns m sp bytes false true same holds = cc

  exchanges : (m : List ℕ) (whole : length m ≡ 65536) (sp : ℕ) (bytes : List ByteSpan) (high low : ByteSpan) (h l : ℕ) → ByteWithin high h → ByteWithin low l → Stands bytes sp m → StandsIf (exchanged_on high low bytes) sp (stored m ((sp, l) ∷ (ahead sp 1, h) ∷ []))
  exchanges m whole sp [] high low h l first second holds = tt
  exchanges m whole sp (one ∷ []) high low h l first second holds = tt
  exchanges m whole sp (one ∷ other ∷ bytes) high low h l first second holds =
      let within = holds.within in
      let room : length bytes + 2 ≤ regions.stack.length = omega (arith, within) in
      let small : sp < 65536 = subst (λ n. n < 65536) (sym holds.pointer) (pointer_is_word regions ground (suc (suc (length bytes)))) in
      let is = holds.pointer ∙ pointer_is regions ground (suc (suc (length bytes))) (omega arith) within in
      let ends = ground.stack_ends in
      let up = next_up sp (omega (arith, is, within, ends)) in
      let read = two_read m sp (ahead sp 1) l h whole small (ahead_word sp 1) (λ e. absurd (omega (arith, e, up))) in
      two_put regions ground low high bytes sp m (stored m ((sp, l) ∷ (ahead sp 1, h) ∷ [])) l h room (holds.pointer ∙ ap (λ n. pointer_at (bounds regions ground) n) (omega arith)) read.0 read.1 second first
      (λ a there above. two_apart m a sp (ahead sp 1) l h (λ e. absurd (omega (arith, e, above))) (λ e. absurd (omega (arith, e, above, up))))
      holds.each.1.1

  shortens : (m : List ℕ) (sp : ℕ) (bytes : List ByteSpan) → Stands bytes sp m → StandsIf (without_one bytes) (ahead sp 1) m
  shortens m sp [] holds = tt
  shortens m sp (byte ∷ bytes) holds = one_popped regions ground byte bytes sp m holds

  lengthens : (m : List ℕ) (sp : ℕ) (bytes : List ByteSpan) → HasBytes m → Stands bytes sp m → StandsIf (with_one regions.stack.length bytes) (behind sp 1) m
  lengthens m sp bytes held holds = if_true_holds (nat_le (length bytes + 1) regions.stack.length) (any_byte ∷ bytes) (λ after. Stands after (behind sp 1) m)
      (λ inside.
      let room : length bytes + 1 ≤ regions.stack.length = grind (arith, nat_tests, inside) in
      let small : sp < 65536 = subst (λ n. n < 65536) (sym holds.pointer) (pointer_is_word regions ground (length bytes)) in
      record {
        pointer = ap (λ n. behind n 1) holds.pointer ∙ one_below (length bytes) room;
        within = omega (arith, room);
        each = (any_within (byte_in m (behind sp 1)) (byte_at m (behind sp 1) held), subst (λ n. HoldsFrom m n bytes) (sym (back_up sp small)) holds.each);
      })

  sets : (m : List ℕ) (sp : ℕ) (bytes : List ByteSpan) (words : Span) (pointer : ℕ) (b : Bool) → is_alone words ≡ b → Within words pointer → pointer < 65536 → HasBytes m → Stands bytes sp m → StandsIf (moved_if b (bounds regions ground) words.first bytes) pointer m
  sets m sp bytes words pointer true alone inside small held holds =
      let same : words.first ≡ pointer = (let above = inside.above in let below = inside.below in grind (arith, nat_tests)) in
      subst (λ n. StandsIf (moved_to (bounds regions ground) n bytes) pointer m) (sym same) (moved_holds regions ground pointer bytes sp m small held holds)
  sets m sp bytes words pointer false alone inside small held holds = tt

  -- a store to data leaves the stack
  data_apart : (a b : ℕ) → in_range regions.stack a ≡ true → in_data regions b ≡ true → a ≢ b
  data_apart a b stack data_there = λ e. true≢false (sym stack ∙ ap (in_range regions.stack) e ∙ ground.data_or_stack b data_there)

  one_leaves : (m : List ℕ) (b x : ℕ) (bytes : List ByteSpan) (sp : ℕ) → in_data regions b ≡ true → Stands bytes sp m → Stands bytes sp (stored m ((b, x) ∷ []))
  one_leaves m b x bytes sp there holds = stack_stays regions ground bytes sp m _ (λ a stack. get_or-set_other m b a x 0 (data_apart a b stack there)) holds

  two_leave : (m : List ℕ) (b c x y : ℕ) (bytes : List ByteSpan) (sp : ℕ) → in_data regions b ≡ true → in_data regions c ≡ true → Stands bytes sp m → Stands bytes sp (stored m ((b, x) ∷ (c, y) ∷ []))
  two_leave m b c x y bytes sp there other holds = stack_stays regions ground bytes sp m _ (λ a stack. two_apart m a b c x y (data_apart a b stack there) (data_apart a c stack other)) holds

  -- the pair that PUSH pushes
  high_pushed : (s : Known) (r : Registers) (pair : StackPair) → AreBytes r → HoldsRegisters s r → ByteWithin (high_bytes (pushed_pair s pair).words) (high_of r pair)
  high_pushed s r StackBc bytes holds = high_inside s.bc.words r.b r.c bytes.c holds.bc.words
  high_pushed s r StackDe bytes holds = high_inside s.de.words r.d r.e bytes.e holds.de.words
  high_pushed s r StackHl bytes holds = high_inside s.hl.words r.h r.l bytes.l holds.hl.words
  high_pushed s r Psw bytes holds = high_inside (pushed_pair s Psw).words r.a 0 (omega arith) (let a = holds.a in let above = a.above in let below = a.below in record { above = omega (arith, above); below = omega (arith, below) })

  low_pushed : (s : Known) (r : Registers) (pair : StackPair) → HoldsRegisters s r → flags_byte r.flags < 256 → ByteWithin (pushed_pair s pair).low (low_of r pair)
  low_pushed s r StackBc holds small = holds.bc.low
  low_pushed s r StackDe holds small = holds.de.low
  low_pushed s r StackHl holds small = holds.hl.low
  low_pushed s r Psw holds small = any_within (flags_byte r.flags) small

  pub stack_holds : (i : Instr) (next : ℕ) (cpu : Cpu) (m : List ℕ) (s : Known) (bytes : List ByteSpan) → length m ≡ 65536 → HasBytes m → AreBytes cpu.registers → flags_byte cpu.registers.flags < 256 → HasOperandInRange i → HoldsRegisters s cpu.registers →
      All (λ a. in_data regions a ≡ true) (direct_bytes i) → All (λ a. in_data regions a ≡ true) (pointed_bytes i cpu.registers) → Stands bytes cpu.sp m →
      StandsIf (stack_after (bounds regions ground) i (is_taken (flow i) cpu.registers.flags) next s bytes) (changed i m cpu).sp (stored m (stores i next m cpu))
  stack_holds (Store r) next cpu m s bytes whole held are flags small known direct pointed holds = one_leaves m _ _ bytes cpu.sp (All-head (λ a. in_data regions a ≡ true) _ [] pointed) holds
  stack_holds (MviMemory b) next cpu m s bytes whole held are flags small known direct pointed holds = one_leaves m _ _ bytes cpu.sp (All-head (λ a. in_data regions a ≡ true) _ [] pointed) holds
  stack_holds InrMemory next cpu m s bytes whole held are flags small known direct pointed holds = one_leaves m _ _ bytes cpu.sp (All-head (λ a. in_data regions a ≡ true) _ [] pointed) holds
  stack_holds DcrMemory next cpu m s bytes whole held are flags small known direct pointed holds = one_leaves m _ _ bytes cpu.sp (All-head (λ a. in_data regions a ≡ true) _ [] pointed) holds
  stack_holds (Stax p) next cpu m s bytes whole held are flags small known direct pointed holds = one_leaves m _ _ bytes cpu.sp (All-head (λ a. in_data regions a ≡ true) _ [] pointed) holds
  stack_holds (Sta w) next cpu m s bytes whole held are flags small known direct pointed holds = one_leaves m w cpu.registers.a bytes cpu.sp (All-head (λ a. in_data regions a ≡ true) w [] direct) holds
  stack_holds (Shld w) next cpu m s bytes whole held are flags small known direct pointed holds =
      two_leave m w (ahead w 1) cpu.registers.l cpu.registers.h bytes cpu.sp (All-head (λ a. in_data regions a ≡ true) w (ahead w 1 ∷ []) direct)
      (All-head (λ a. in_data regions a ≡ true) (ahead w 1) [] (All-tail (λ a. in_data regions a ≡ true) w (ahead w 1 ∷ []) direct)) holds
  stack_holds (Push pair) next cpu m s bytes whole held are flags small known direct pointed holds =
      pushes m whole cpu.sp bytes holds (high_bytes (pushed_pair s pair).words) (pushed_pair s pair).low (high_of cpu.registers pair) (low_of cpu.registers pair) (high_pushed s cpu.registers pair are known) (low_pushed s cpu.registers pair known flags)
  stack_holds (Pop pair) next cpu m s bytes whole held are flags small known direct pointed holds = pops m cpu.sp bytes holds
  stack_holds Xthl next cpu m s bytes whole held are flags small known direct pointed holds =
      exchanges m whole cpu.sp bytes (high_bytes s.hl.words) s.hl.low cpu.registers.h cpu.registers.l (high_inside s.hl.words cpu.registers.h cpu.registers.l are.l known.hl.words) known.hl.low holds
  stack_holds (Call w) next cpu m s bytes whole held are flags small known direct pointed holds = calls m whole cpu.sp bytes holds true next true refl
  stack_holds (Rst n) next cpu m s bytes whole held are flags small known direct pointed holds = calls m whole cpu.sp bytes holds true next true refl
  stack_holds (CallIf c w) next cpu m s bytes whole held are flags small known direct pointed holds = calls m whole cpu.sp bytes holds (holds_of c cpu.registers.flags) next (holds_of c cpu.registers.flags) refl
  stack_holds Ret next cpu m s bytes whole held are flags small known direct pointed holds = pops m cpu.sp bytes holds
  stack_holds (ReturnIf c) next cpu m s bytes whole held are flags small known direct pointed holds = returns m cpu.sp bytes (holds_of c cpu.registers.flags) (holds_of c cpu.registers.flags) refl holds
  stack_holds (Lxi Sp n) next cpu m s bytes whole held are flags small known direct pointed holds = moved_holds regions ground n bytes cpu.sp m small held holds
  stack_holds (Inx Sp) next cpu m s bytes whole held are flags small known direct pointed holds = shortens m cpu.sp bytes holds
  stack_holds (Dcx Sp) next cpu m s bytes whole held are flags small known direct pointed holds = lengthens m cpu.sp bytes held holds
  stack_holds Sphl next cpu m s bytes whole held are flags small known direct pointed holds =
      sets m cpu.sp bytes s.hl.words (hl_of cpu.registers) (is_alone s.hl.words) refl known.hl.words (let h = are.h in let l = are.l in omega (arith, h, l)) held holds
  stack_holds i next cpu m s bytes whole held are flags small known direct pointed holds = holds
