-- What the guard of an instruction says, and the bytes of the stack that it touches.
use Rattle.std.specs.Prelude.{◌≡◌, ◌≤◌, ◌<◌, ℕ, suc, ◌+◌, ◌-◌, Bool, true, false, List, [], ◌∷◌, Option, None, Some, IfSome, All, length, nat_le, if◌then◌else◌}
use Rattle.std.specs.List.{list_all}
use Rattle.std.proofs.Common.{ap, arith, refl, subst, sym, ◌∙◌}
use Rattle.std.proofs.lemmas.{Bool.Decides.nat_tests, Bool.and_parts}
use Rattle.std.proofs.lemmas.List.Elements.{All-cons, All-head, All-nil, All-tail}
use Rattle.decode80.specs.{Facts.flow, Fetch.ahead, Fetch.behind, Fetch.direct_bytes, declared.instr.Instr.Instr}
use Rattle.decode80.specs.declared.instr.Instr.TheVariants.{Push, Pop, Xthl, Call, CallIf, Ret, ReturnIf, Rst}
use Rattle.image80.specs.{Range.in_range, Regions.Areas, Regions.in_data, Regions.top_of}
use Rattle.machine80.specs.{Flags.holds as holds_of, Effects.pointed_bytes, Effects.stack_bytes, declared.cpu.Cpu.Cpu, declared.end.End.TheVariants.Direct}
use Rattle.machine80.specs.{declared.end.End.TheVariants.Stack, declared.end.End.TheVariants.StoreOutside, World.IsJustBelow}
use Rattle.machine80.specs.Step.{ends_at, first_outside, guard}
use Rattle.verify80_spans.specs.declared.byte_span.ByteSpan.{ByteSpan}
use Rattle.verify80_states.specs.{declared.states.known.Known.Known, Steps.is_taken}
use Rattle.verify80_follow.specs.Stack.{HoldsStack, called_on, exchanged_on, if_true, pointer_at, popped_from, pushed_onto, returned_from, stack_after}
use Rattle.verify80_follow.proofs.GroundLemmas.{Ground}
use Rattle.verify80_follow.proofs.StackLemmas.{bounds, next_pointer, on_stack, pointer_below}

-- nothing is outside if each is inside
none_outside : (inside : ℕ → Bool) (xs : List ℕ) → All (λ x. inside x ≡ true) xs → first_outside inside xs ≡ None
none_outside inside [] each = refl
none_outside inside (x ∷ xs) each = rw (All-head (λ y. inside y ≡ true) x xs each) (none_outside inside xs (All-tail (λ y. inside y ≡ true) x xs each))

pub all_of_list : (test : ℕ → Bool) (xs : List ℕ) → list_all test xs ≡ true → All (λ x. test x ≡ true) xs
all_of_list test [] is = All-nil (λ x. test x ≡ true)
all_of_list test (x ∷ xs) is = let parts = and_parts (test x) (list_all test xs) is in All-cons (λ y. test y ≡ true) x xs parts.0 (all_of_list test xs parts.1)

pub passes_guard : (regions : Areas) (i : Instr) (cpu : Cpu) → All (λ a. in_range regions.stack a ≡ true) (stack_bytes i cpu) → All (λ a. in_data regions a ≡ true) (direct_bytes i) → All (λ a. in_data regions a ≡ true) (pointed_bytes i cpu.registers) →
    guard regions i cpu ≡ None
passes_guard regions i cpu stack direct pointed =
    ap (λ (o : Option ℕ). ends_at o Stack (ends_at (first_outside (in_data regions) (direct_bytes i)) Direct (ends_at (first_outside (in_data regions) (pointed_bytes i cpu.registers)) StoreOutside None))) (none_outside (in_range regions.stack) (stack_bytes i cpu) stack)
    ∙ ap (λ (o : Option ℕ). ends_at o Direct (ends_at (first_outside (in_data regions) (pointed_bytes i cpu.registers)) StoreOutside None)) (none_outside (in_data regions) (direct_bytes i) direct)
    ∙ ap (λ (o : Option ℕ). ends_at o StoreOutside None) (none_outside (in_data regions) (pointed_bytes i cpu.registers) pointed)

two : (P : ℕ → Type 0) (x y : ℕ) → P x → P y → All P (x ∷ y ∷ [])
two P x y one other = All-cons P x (y ∷ []) one (All-cons P y [] other (All-nil P))

-- what is touched of the stack lies on it, among as many bytes below its top as there are before the instruction or after it
module _ (regions : Areas) (ground : Ground regions) where
  pub record Touches (most address : ℕ) : Type 0 where
    pub there : in_range regions.stack address ≡ true
    pub below : IsJustBelow (top_of regions) most address

  pub at_count : (most n : ℕ) → 0 < n → n ≤ most → n ≤ regions.stack.length → Touches most (pointer_at (bounds regions ground) n)
  at_count most n some few less = record {
    there = on_stack regions ground n some less;
    below = (let ends = ground.stack_ends in let short = ground.stack_short in (n - 1, (omega (arith, some, few), omega (arith, some, less, ends, short))));
  }

  -- what is left of the stack has at most as many bytes
  abbrev IsFew : (most : ℕ) → Option (List ByteSpan) → Type 0
  IsFew most after = IfSome after (λ bytes. length bytes ≤ most)

  pops : (most : ℕ) (bytes after : List ByteSpan) (sp : ℕ) (m : List ℕ) → HoldsStack (bounds regions ground) bytes sp m → length bytes ≤ most → popped_from bytes ≡ Some after → All (Touches most) (sp ∷ ahead sp 1 ∷ [])
  pops most [] after sp m holds few is = cc
  pops most (low ∷ []) after sp m holds few is = cc
  pops most (low ∷ high ∷ bytes) after sp m holds few is =
      let within = holds.within in
      two (Touches most) sp (ahead sp 1)
      (subst (λ n. Touches most n) (sym holds.pointer) (at_count most (suc (suc (length bytes))) (omega arith) few within))
      (subst (λ n. Touches most n) (sym (ap (λ n. ahead n 1) holds.pointer ∙ next_pointer regions ground (suc (length bytes)) within)) (at_count most (suc (length bytes)) (omega arith) (omega (arith, few)) (omega (arith, within))))

  room_of : (test : Bool) (xs after : List ByteSpan) → if_true test xs ≡ Some after → (test ≡ true) × (xs ≡ after)
  room_of true xs after is = (refl, cc)
  room_of false xs after is = cc

  pushes : (most : ℕ) (high low : ByteSpan) (bytes after : List ByteSpan) (sp : ℕ) (m : List ℕ) → HoldsStack (bounds regions ground) bytes sp m → pushed_onto regions.stack.length high low bytes ≡ Some after → length after ≤ most → All (Touches most) (behind sp 1 ∷ behind sp 2 ∷ [])
  pushes most high low bytes after sp m holds is few =
      let of = room_of (nat_le (length bytes + 2) regions.stack.length) (low ∷ high ∷ bytes) after is in
      let inside = of.0 in
      let room : length bytes + 2 ≤ regions.stack.length = grind (arith, nat_tests, inside) in
      let long : length after ≡ suc (suc (length bytes)) = ap (λ (l : List ByteSpan). length l) (sym of.1) in
      let below = pointer_below regions ground (length bytes) room in
      two (Touches most) (behind sp 1) (behind sp 2)
      (subst (λ n. Touches most n) (sym (ap (λ n. behind n 1) holds.pointer ∙ below.0)) (at_count most (length bytes + 1) (omega arith) (omega (arith, few, long)) (omega (arith, room))))
      (subst (λ n. Touches most n) (sym (ap (λ n. behind n 2) holds.pointer ∙ below.1)) (at_count most (length bytes + 2) (omega arith) (omega (arith, few, long)) room))

  calls : (taken : Bool) (most next : ℕ) (bytes after : List ByteSpan) (sp : ℕ) (m : List ℕ) → HoldsStack (bounds regions ground) bytes sp m → called_on taken regions.stack.length next bytes ≡ Some after → length after ≤ most →
      All (Touches most) (if taken then behind sp 1 ∷ behind sp 2 ∷ [] else [])
  calls true most next bytes after sp m holds is few = pushes most _ _ bytes after sp m holds is few
  calls false most next bytes after sp m holds is few = All-nil (Touches most)

  returns : (taken : Bool) (most : ℕ) (bytes after : List ByteSpan) (sp : ℕ) (m : List ℕ) → HoldsStack (bounds regions ground) bytes sp m → length bytes ≤ most → returned_from taken bytes ≡ Some after → All (Touches most) (if taken then sp ∷ ahead sp 1 ∷ [] else [])
  returns true most bytes after sp m holds few is = pops most bytes after sp m holds few is
  returns false most bytes after sp m holds few is = All-nil (Touches most)

  exchanges : (most : ℕ) (high low : ByteSpan) (bytes after : List ByteSpan) (sp : ℕ) (m : List ℕ) → HoldsStack (bounds regions ground) bytes sp m → length bytes ≤ most → exchanged_on high low bytes ≡ Some after → All (Touches most) (sp ∷ ahead sp 1 ∷ [])
  exchanges most high low [] after sp m holds few is = cc
  exchanges most high low (one ∷ []) after sp m holds few is = cc
  exchanges most high low (one ∷ other ∷ bytes) after sp m holds few is = pops most (one ∷ other ∷ bytes) bytes sp m holds few refl

  pub touched : (i : Instr) (next most : ℕ) (cpu : Cpu) (s : Known) (bytes after : List ByteSpan) (m : List ℕ) → HoldsStack (bounds regions ground) bytes cpu.sp m → length bytes ≤ most → length after ≤ most →
      stack_after (bounds regions ground) i (is_taken (flow i) cpu.registers.flags) next s bytes ≡ Some after → All (Touches most) (stack_bytes i cpu)
  touched (Push pair) next most cpu s bytes after m holds few less is = pushes most _ _ bytes after cpu.sp m holds is less
  touched (Pop pair) next most cpu s bytes after m holds few less is = pops most bytes after cpu.sp m holds few is
  touched Xthl next most cpu s bytes after m holds few less is = exchanges most _ _ bytes after cpu.sp m holds few is
  touched (Call w) next most cpu s bytes after m holds few less is = pushes most _ _ bytes after cpu.sp m holds is less
  touched (Rst n) next most cpu s bytes after m holds few less is = pushes most _ _ bytes after cpu.sp m holds is less
  touched (CallIf c w) next most cpu s bytes after m holds few less is = calls (holds_of c cpu.registers.flags) most next bytes after cpu.sp m holds is less
  touched Ret next most cpu s bytes after m holds few less is = pops most bytes after cpu.sp m holds few is
  touched (ReturnIf c) next most cpu s bytes after m holds few less is = returns (holds_of c cpu.registers.flags) most bytes after cpu.sp m holds few is
  touched i next most cpu s bytes after m holds few less is = All-nil (Touches most)
