-- What a handler still has after an instruction.
use Rattle.std.specs.Prelude.{◌≡◌, ◌≢◌, ◌≤◌, ◌<◌, ℕ, suc, ◌+◌, ◌-◌, ◌/◌, ◌%◌, min, Bool, true, false, not, ◌&&◌, ◌||◌, List, [], ◌∷◌}
use Rattle.std.specs.Prelude.{◌++◌, Option, None, Some, IfSome, All, length, map, nat_le, slice_index, slice_set, if◌then◌else◌}
use Rattle.std.proofs.Common.{arith, ap, refl, subst, sym, ◌∙◌, get_or-set_other, true≢false}
use Rattle.std.proofs.lemmas.{Bool.Decides.nat_tests, Bool.and_parts}
use Rattle.std.proofs.lemmas.List.Elements.{All-append, All-cons, All-head, All-nil, All-tail}
use Rattle.decode80.specs.{Facts.flags, Facts.flow, Facts.writes, Facts.writes_pair, Fetch.ahead, Fetch.behind}
use Rattle.decode80.specs.{Fetch.direct_bytes, declared.flow.Flow.Flow, declared.instr.Instr.Instr, declared.pair.StackPair.StackPair}
use Rattle.decode80.specs.{declared.writes.AffectedFlags.AffectedFlags, declared.writes.Writes.Writes}
use Rattle.decode80.specs.declared.flow.Flow.TheVariants.{Calls, CallsIf, Exchanges, Pushes}
use Rattle.decode80.specs.declared.instr.Instr.TheVariants.{Hlt, In, Out, Pop, Push}
use Rattle.decode80.specs.declared.pair.Pair.TheVariants.{Bc, De, Hl, Sp}
use Rattle.decode80.specs.declared.pair.StackPair.TheVariants.{Bc as StackBc, De as StackDe, Hl as StackHl, Psw}
use Rattle.decode80.specs.declared.register.Register.TheVariants.{A, B, C, D, E, H, L}
use Rattle.decode80.specs.declared.writes.AffectedFlags.TheVariants.{NoFlags, CarryAlone, AllButCarry, AllFlags}
use Rattle.decode80.specs.declared.writes.Writes.TheVariants.{Nothing, One, Both, DeAndHl}
use Rattle.image80.specs.{Range.in_range, Regions.Areas, Regions.in_data}
use Rattle.machine80.specs.{ArithmeticLaws.StatusWordRoundTrip, ArithmeticLaws.status_word, Cpu.high_of, Cpu.low_of, Effects.byte_in}
use Rattle.machine80.specs.{Effects.changed, Effects.pointed_bytes, Effects.push_bytes, Effects.stored, Effects.stores, FactsLaws.InstructionsKeepToFacts}
use Rattle.machine80.specs.{FactsLaws.KeepsFlags, FactsLaws.stacked_by, FactsLaws.writes_register, Flags.flags_byte, Flags.flags_from, Flags.holds}
use Rattle.machine80.specs.{Step.Machine, declared.cpu.Cpu.Cpu, declared.flags.Flags.Flags, declared.registers.Registers.Registers}
use Rattle.verify80.specs.Boards.{unguarded}
use Rattle.verify80_follow.specs.declared.{held.Beside.Beside, held.HeldPair.HeldPair, stack.StackBounds.StackBounds}
use Rattle.verify80_follow.specs.Held.{Entry, HoldsBeside, HoldsPairHeld, HoldsSaved, HoldsWord, IsAsEntered, IsBesideInside}
use Rattle.verify80_follow.specs.Held.{IsPairInside, affects_none, beside_after, changes_pair, first_of, is_at, is_pair}
use Rattle.verify80_follow.specs.Held.{left_of, no_pair, nothing_beside, pair_after, pops_pair, pushes_pair, still, writes_a}
use Rattle.verify80_follow.specs.Stack.{if_true, pointer_at}
use Rattle.verify80_follow.proofs.GroundLemmas.{Ground}
use Rattle.verify80_follow.proofs.StackLemmas.{bounds, next_pointer, on_stack, pointer_below, pointer_is}
use Rattle.verify80_follow.proofs.{StackSteps.behind_word, StackSteps.below_apart, StackSteps.two_read}

-- what is said of a state that says less holds too
pair_around : (b : StackBounds) (e : Entry) (pair : StackPair) (inner outer : HeldPair) (count : ℕ) (m : Machine) → IsPairInside inner outer → HoldsPairHeld b e pair inner count m → HoldsPairHeld b e pair outer count m
pair_around b e pair inner outer count m inside holds = record {
  in_place = λ is. holds.in_place (inside.in_place is);
  saved = by outer.saved refl;
}
  where
    by : (o : Option ℕ) → outer.saved ≡ o → HoldsSaved b m.memory (high_of e.registers pair) (low_of e.registers pair) count o
    by None is = tt
    by (Some depth) is = subst (λ (o : Option ℕ). HoldsSaved b m.memory (high_of e.registers pair) (low_of e.registers pair) count o) (inside.saved depth is) holds.saved

pub beside_around : (b : StackBounds) (e : Entry) (inner outer : Beside) (count : ℕ) (m : Machine) → IsBesideInside inner outer → HoldsBeside b e inner count m → HoldsBeside b e outer count m
beside_around b e inner outer count m inside holds = record {
  psw = pair_around b e Psw inner.psw outer.psw count m inside.psw holds.psw;
  bc = pair_around b e StackBc inner.bc outer.bc count m inside.bc holds.bc;
  de = pair_around b e StackDe inner.de outer.de count m inside.de holds.de;
  hl = pair_around b e StackHl inner.hl outer.hl count m inside.hl holds.hl;
  back = by outer.back refl;
}
  where
    by : (o : Option ℕ) → outer.back ≡ o → HoldsSaved b m.memory (e.back / 256) (e.back % 256) count o
    by None is = tt
    by (Some depth) is = subst (λ (o : Option ℕ). HoldsSaved b m.memory (e.back / 256) (e.back % 256) count o) (inside.back depth is) holds.back

-- nothing holds
pub nothing_holds : (b : StackBounds) (e : Entry) (enabled : Bool) (count : ℕ) (m : Machine) → HoldsBeside b e (record nothing_beside { is_enabled = enabled }) count m
nothing_holds b e enabled count m = record { psw = none Psw; bc = none StackBc; de = none StackDe; hl = none StackHl; back = tt } where
  none : (pair : StackPair) → HoldsPairHeld b e pair no_pair count m
  none pair = record { in_place = λ is. cc; saved = tt }

-- what is said of a machine that has the same registers, and the same bytes on the stack
same_saved : (b : StackBounds) (high low count : ℕ) (old new : List ℕ) → ((depth : ℕ) → 1 ≤ depth → depth ≤ count → byte_in new (pointer_at b depth) ≡ byte_in old (pointer_at b depth)) → (o : Option ℕ) → HoldsSaved b old high low count o → HoldsSaved b new high low count o
same_saved b high low count old new same None it = tt
same_saved b high low count old new same (Some depth) it =
    let two = it.1.two in
    let inside = it.0 in
    (it.0, record { two = two; low_is = same depth (omega (arith, two)) inside ∙ it.1.low_is; high_is = same (depth - 1) (omega (arith, two)) (omega (arith, inside)) ∙ it.1.high_is })

pub same_beside : (b : StackBounds) (e : Entry) (beside : Beside) (count : ℕ) (m other : Machine) → other.cpu.registers ≡ m.cpu.registers → ((depth : ℕ) → 1 ≤ depth → depth ≤ count → byte_in other.memory (pointer_at b depth) ≡ byte_in m.memory (pointer_at b depth)) →
    HoldsBeside b e beside count m → HoldsBeside b e beside count other
same_beside b e beside count m other registers same was = record {
  psw = of Psw beside.psw was.psw;
  bc = of StackBc beside.bc was.bc;
  de = of StackDe beside.de was.de;
  hl = of StackHl beside.hl was.hl;
  back = same_saved b (e.back / 256) (e.back % 256) count m.memory other.memory same beside.back was.back;
}
  where
    of : (pair : StackPair) (held : HeldPair) → HoldsPairHeld b e pair held count m → HoldsPairHeld b e pair held count other
    of pair held it = record {
      in_place = λ is. subst (λ (r : Registers). IsAsEntered e pair r) (sym registers) (it.in_place is);
      saved = same_saved b (high_of e.registers pair) (low_of e.registers pair) count m.memory other.memory same held.saved it.saved;
    }

-- a byte that nothing is stored to
pub stored_other : (xs : List (ℕ × ℕ)) (m : List ℕ) (a : ℕ) → All (λ (x : ℕ). a ≢ x) (map (λ (b : ℕ × ℕ). b.0) xs) → slice_index (stored m xs) a ≡ slice_index m a
stored_other [] m a apart = refl
stored_other (x ∷ xs) m a apart =
    stored_other xs (slice_set m x.0 x.1) a (All-tail (λ (y : ℕ). a ≢ y) x.0 (map (λ (b : ℕ × ℕ). b.0) xs) apart)
    ∙ get_or-set_other m x.0 a x.1 0 (All-head (λ (y : ℕ). a ≢ y) x.0 (map (λ (b : ℕ × ℕ). b.0) xs) apart)

pub all_of : {A : Type 0} (P Q : A → Type 0) (xs : List A) → ((x : A) → P x → Q x) → All P xs → All Q xs
all_of P Q [] more each = All-nil Q
all_of P Q (x ∷ xs) more each = All-cons Q x xs (more x (All-head P x xs each)) (all_of P Q xs more (All-tail P x xs each))

pub two_of : (P : ℕ → Type 0) (x y : ℕ) → P x → P y → All P (x ∷ y ∷ [])
two_of P x y one other = All-cons P x (y ∷ []) one (All-cons P y [] other (All-nil P))

-- a word that is left is one of those on the stack then
still_holds : (P : ℕ → Type 0) (Q : ℕ → Type 0) (left : ℕ) (o : Option ℕ) → ((depth : ℕ) → depth ≤ left → P depth → Q depth) → IfSome o P → IfSome (still left o) Q
still_holds P Q left None more holds = tt
still_holds P Q left (Some depth) more holds = by (nat_le depth left) refl where
  by : (b : Bool) → nat_le depth left ≡ b → IfSome (if_true b depth) Q
  by true is = more depth (grind (arith, nat_tests, is)) holds
  by false is = tt

-- registers that an instruction doesn't write
half_kept : (w : Writes) → writes_pair w Bc ≡ false → (writes_register w B ≡ false) × (writes_register w C ≡ false)
half_kept Nothing is = (refl, refl)
half_kept (One A) is = (refl, refl)
half_kept (One B) is = cc
half_kept (One C) is = cc
half_kept (One D) is = (refl, refl)
half_kept (One E) is = (refl, refl)
half_kept (One H) is = (refl, refl)
half_kept (One L) is = (refl, refl)
half_kept (Both Bc) is = cc
half_kept (Both De) is = (refl, refl)
half_kept (Both Hl) is = (refl, refl)
half_kept (Both Sp) is = (refl, refl)
half_kept DeAndHl is = (refl, refl)

de_kept : (w : Writes) → writes_pair w De ≡ false → (writes_register w D ≡ false) × (writes_register w E ≡ false)
de_kept Nothing is = (refl, refl)
de_kept (One A) is = (refl, refl)
de_kept (One B) is = (refl, refl)
de_kept (One C) is = (refl, refl)
de_kept (One D) is = cc
de_kept (One E) is = cc
de_kept (One H) is = (refl, refl)
de_kept (One L) is = (refl, refl)
de_kept (Both Bc) is = (refl, refl)
de_kept (Both De) is = cc
de_kept (Both Hl) is = (refl, refl)
de_kept (Both Sp) is = (refl, refl)
de_kept DeAndHl is = cc

hl_kept : (w : Writes) → writes_pair w Hl ≡ false → (writes_register w H ≡ false) × (writes_register w L ≡ false)
hl_kept Nothing is = (refl, refl)
hl_kept (One A) is = (refl, refl)
hl_kept (One B) is = (refl, refl)
hl_kept (One C) is = (refl, refl)
hl_kept (One D) is = (refl, refl)
hl_kept (One E) is = (refl, refl)
hl_kept (One H) is = cc
hl_kept (One L) is = cc
hl_kept (Both Bc) is = (refl, refl)
hl_kept (Both De) is = (refl, refl)
hl_kept (Both Hl) is = cc
hl_kept (Both Sp) is = (refl, refl)
hl_kept DeAndHl is = cc

a_kept : (w : Writes) → writes_a w ≡ false → writes_register w A ≡ false
a_kept Nothing is = refl
a_kept (One A) is = cc
a_kept (One B) is = refl
a_kept (One C) is = refl
a_kept (One D) is = refl
a_kept (One E) is = refl
a_kept (One H) is = refl
a_kept (One L) is = refl
a_kept (Both Bc) is = refl
a_kept (Both De) is = refl
a_kept (Both Hl) is = refl
a_kept (Both Sp) is = refl
a_kept DeAndHl is = refl

or_parts : (a b : Bool) → (a || b) ≡ false → (a ≡ false) × (b ≡ false)
or_parts true b is = cc
or_parts false b is = (refl, is)

not_false : (b : Bool) → not b ≡ false → b ≡ true
not_false true is = refl
not_false false is = cc

not_true : (b : Bool) → not b ≡ true → b ≡ false
not_true true is = cc
not_true false is = refl

flags_kept : (i : Instr) (next : ℕ) (memory : List ℕ) (cpu : Cpu) → InstructionsKeepToFacts → affects_none (flags i) ≡ true → (changed i memory cpu).registers.flags ≡ cpu.registers.flags
flags_kept i next memory cpu facts none = by (flags i) (facts i next memory cpu).flags none where
  by : (f : AffectedFlags) → KeepsFlags f cpu.registers.flags (changed i memory cpu).registers.flags → affects_none f ≡ true → (changed i memory cpu).registers.flags ≡ cpu.registers.flags
  by NoFlags keeps is = keeps
  by CarryAlone keeps is = cc
  by AllButCarry keeps is = cc
  by AllFlags keeps is = cc

-- a pair that an instruction doesn't change is as it was
unchanged : (e : Entry) (pair : StackPair) (i : Instr) (next : ℕ) (memory : List ℕ) (cpu : Cpu) → InstructionsKeepToFacts → changes_pair i pair ≡ false → IsAsEntered e pair cpu.registers → IsAsEntered e pair (changed i memory cpu).registers
unchanged e StackBc i next memory cpu facts same was =
    let kept = half_kept (writes i) same in let it = (facts i next memory cpu).registers in (it B kept.0 ∙ was.0, it C kept.1 ∙ was.1)
unchanged e StackDe i next memory cpu facts same was =
    let kept = de_kept (writes i) same in let it = (facts i next memory cpu).registers in (it D kept.0 ∙ was.0, it E kept.1 ∙ was.1)
unchanged e StackHl i next memory cpu facts same was =
    let kept = hl_kept (writes i) same in let it = (facts i next memory cpu).registers in (it H kept.0 ∙ was.0, it L kept.1 ∙ was.1)
unchanged e Psw i next memory cpu facts same was =
    let parts = or_parts (writes_a (writes i)) (not (affects_none (flags i))) same in
    ((facts i next memory cpu).registers A (a_kept (writes i) parts.0) ∙ was.0, flags_kept i next memory cpu facts (not_false (affects_none (flags i)) parts.1) ∙ was.1)

-- a byte on top of another
status_low : (round : StatusWordRoundTrip) (a : ℕ) (r : Registers) → a < 256 → flags_from (flags_byte r.flags) ≡ r.flags
unfolding status_word
status_low round a r small =
    let back = round a r.flags small in
    let word = back.accumulator in
    ap flags_from (omega (arith, word)) ∙ back.flags

-- a pair whose word is popped is as it was
pub popped_as_entered : (round : StatusWordRoundTrip) (e : Entry) (pair : StackPair) (memory : List ℕ) (cpu : Cpu) → byte_in memory (ahead cpu.sp 1) ≡ high_of e.registers pair → byte_in memory cpu.sp ≡ low_of e.registers pair →
    IsAsEntered e pair (changed (Pop pair) memory cpu).registers
popped_as_entered round e StackBc memory cpu high low = (high, low)
popped_as_entered round e StackDe memory cpu high low = (high, low)
popped_as_entered round e StackHl memory cpu high low = (high, low)
popped_as_entered round e Psw memory cpu high low = (high, ap flags_from low ∙ status_low round 0 e.registers (omega arith))

-- what a pair has is what it had
pair_high : (e : Entry) (pair : StackPair) (r : Registers) → IsAsEntered e pair r → high_of r pair ≡ high_of e.registers pair
pair_high e StackBc r was = was.0
pair_high e StackDe r was = was.0
pair_high e StackHl r was = was.0
pair_high e Psw r was = was.0

pair_low : (e : Entry) (pair : StackPair) (r : Registers) → IsAsEntered e pair r → low_of r pair ≡ low_of e.registers pair
pair_low e StackBc r was = was.1
pair_low e StackDe r was = was.1
pair_low e StackHl r was = was.1
pair_low e Psw r was = ap flags_byte was.1

same_pair : (p q : StackPair) → is_pair p q ≡ true → p ≡ q
same_pair StackBc StackBc is = refl
same_pair StackBc StackDe is = cc
same_pair StackBc StackHl is = cc
same_pair StackBc Psw is = cc
same_pair StackDe StackBc is = cc
same_pair StackDe StackDe is = refl
same_pair StackDe StackHl is = cc
same_pair StackDe Psw is = cc
same_pair StackHl StackBc is = cc
same_pair StackHl StackDe is = cc
same_pair StackHl StackHl is = refl
same_pair StackHl Psw is = cc
same_pair Psw StackBc is = cc
same_pair Psw StackDe is = cc
same_pair Psw StackHl is = cc
same_pair Psw Psw is = refl

same_some : {X : Type 0} (x y : X) → Some x ≡ Some y → x ≡ y
same_some x y is = cc

-- the registers that an unguarded step leaves, IN's too
pub goes_registers : (e : Entry) (i : Instr) (byte next : ℕ) (m later : Machine) → unguarded i byte next m ≡ Some later → (pair : StackPair) → changes_pair i pair ≡ false → IsAsEntered e pair (changed i m.memory m.cpu).registers →
    IsAsEntered e pair later.cpu.registers
goes_registers e Hlt byte next m later is pair same was = cc
goes_registers e (In port) byte next m later is StackBc same was = subst (λ (n : Machine). IsAsEntered e StackBc n.cpu.registers) (same_some _ _ is) was
goes_registers e (In port) byte next m later is StackDe same was = subst (λ (n : Machine). IsAsEntered e StackDe n.cpu.registers) (same_some _ _ is) was
goes_registers e (In port) byte next m later is StackHl same was = subst (λ (n : Machine). IsAsEntered e StackHl n.cpu.registers) (same_some _ _ is) was
goes_registers e (In port) byte next m later is Psw same was = cc
goes_registers e (Out port) byte next m later is pair same was = subst (λ (n : Machine). IsAsEntered e pair n.cpu.registers) (same_some _ _ is) was
goes_registers e i byte next m later is pair same was = subst (λ (n : Machine). IsAsEntered e pair n.cpu.registers) (same_some _ _ is) was

popped_registers : (p : StackPair) (byte next : ℕ) (m later : Machine) → unguarded (Pop p) byte next m ≡ Some later → later.cpu.registers ≡ (changed (Pop p) m.memory m.cpu).registers
popped_registers p byte next m later is = ap (λ (n : Machine). n.cpu.registers) (sym (same_some _ _ is))

-- whether an instruction pushes a word
abbrev pub is_pushing : Flow → Flags → Bool
is_pushing (Calls to) f = true
is_pushing (CallsIf condition to) f = holds condition f
is_pushing Pushes f = true
is_pushing w f = false

-- a step on a stack of a number of bytes
module _ (regions : Areas) (ground : Ground regions) (facts : InstructionsKeepToFacts) (round : StatusWordRoundTrip) (e : Entry) (i : Instr) (byte next before after : ℕ) (m later : Machine)
    (goes : unguarded i byte next m ≡ Some later) (memory : later.memory ≡ stored m.memory (stores i next m.memory m.cpu)) (pointer : m.cpu.sp ≡ pointer_at (bounds regions ground) before) (few : before ≤ regions.stack.length)
    (direct : All (λ a. in_data regions a ≡ true) (direct_bytes i)) (pointed : All (λ a. in_data regions a ≡ true) (pointed_bytes i m.cpu.registers)) (whole : length m.memory ≡ 65536)
    (pushes : (p : StackPair) → i ≡ Push p → after ≡ before + 2) (room : is_pushing (flow i) m.cpu.registers.flags ≡ true → before + 2 ≤ regions.stack.length) where
  abbrev on : StackBounds
  on = bounds regions ground

  -- what XTHL exchanges lies below those bytes that it leaves
  exchanged_below : (depth : ℕ) → 1 ≤ depth → depth ≤ before - 2 → (pointer_at on depth ≢ m.cpu.sp) × (pointer_at on depth ≢ ahead m.cpu.sp 1)
  unfolding ahead
  exchanged_below depth one inside =
      let ends = ground.stack_ends in
      let here = pointer_is regions ground depth one (omega (arith, inside, few)) in
      let sp = pointer ∙ pointer_is regions ground before (omega (arith, one, inside)) few in
      (λ same. absurd (omega (arith, same, here, sp, ends, one, inside, few)), λ same. absurd (omega (arith, same, here, sp, ends, one, inside, few)))

  abbrev Apart : ℕ → List ℕ → Type 0
  Apart depth xs = All (λ (b : ℕ). pointer_at on depth ≢ b) xs

  -- and what is pushed below all
  pushed_apart : (depth : ℕ) → 1 ≤ depth → depth ≤ before → before + 2 ≤ regions.stack.length → Apart depth (behind m.cpu.sp 1 ∷ behind m.cpu.sp 2 ∷ [])
  pushed_apart depth one inside fit =
      let below = pointer_below regions ground before fit in
      let here = pointer_is regions ground depth one (omega (arith, inside, few)) in
      let first = ap (λ n. behind n 1) pointer ∙ below.0 ∙ pointer_is regions ground (before + 1) (omega arith) (omega (arith, fit)) in
      let second = ap (λ n. behind n 2) pointer ∙ below.1 ∙ pointer_is regions ground (before + 2) (omega arith) fit in
      two_of (λ (b : ℕ). pointer_at on depth ≢ b) (behind m.cpu.sp 1) (behind m.cpu.sp 2)
      (λ same. absurd (omega (arith, same, here, first, inside, fit)))
      (λ same. absurd (omega (arith, same, here, second, inside, fit)))

  min_left : (a b n : ℕ) → n ≤ min a b → n ≤ a
  min_left a b n less = omega (arith, less)

  min_right : (a b n : ℕ) → n ≤ min a b → n ≤ b
  min_right a b n less = omega (arith, less)

  left_before : (w : Flow) (n : ℕ) → n ≤ left_of w before after → n ≤ before
  left_before Exchanges n less = let few = min_left (before - 2) after n less in omega (arith, few)
  left_before w n less = min_left before after n less

  left_after : (w : Flow) (n : ℕ) → n ≤ left_of w before after → n ≤ after
  left_after Exchanges n less = min_right (before - 2) after n less
  left_after w n less = min_right before after n less

  stacked_apart : (w : Flow) (depth : ℕ) → 1 ≤ depth → depth ≤ left_of w before after → (is_pushing w m.cpu.registers.flags ≡ true → before + 2 ≤ regions.stack.length) → Apart depth (stacked_by w m.cpu)
  stacked_apart (Calls to) depth one left fit = pushed_apart depth one (left_before (Calls to) depth left) (fit refl)
  stacked_apart (CallsIf condition to) depth one left fit = by (holds condition m.cpu.registers.flags) refl where
    by : (b : Bool) → holds condition m.cpu.registers.flags ≡ b → Apart depth (if b then behind m.cpu.sp 1 ∷ behind m.cpu.sp 2 ∷ [] else [])
    by true is = pushed_apart depth one (left_before (CallsIf condition to) depth left) (fit is)
    by false is = All-nil (λ (b : ℕ). pointer_at on depth ≢ b)
  stacked_apart Pushes depth one left fit = pushed_apart depth one (left_before Pushes depth left) (fit refl)
  stacked_apart Exchanges depth one left fit =
      let apart = exchanged_below depth one (min_left (before - 2) after depth left) in
      two_of (λ (b : ℕ). pointer_at on depth ≢ b) m.cpu.sp (ahead m.cpu.sp 1) apart.0 apart.1
  stacked_apart w depth one left fit = All-nil (λ (b : ℕ). pointer_at on depth ≢ b)

  -- a byte that is left on the stack stays
  byte_stays : (depth : ℕ) → 1 ≤ depth → depth ≤ left_of (flow i) before after → byte_in later.memory (pointer_at on depth) ≡ byte_in m.memory (pointer_at on depth)
  byte_stays depth one left =
      let there = on_stack regions ground depth one (let inside = left_before (flow i) depth left in omega (arith, inside, few)) in
      let data_apart : (b : ℕ) → in_data regions b ≡ true → pointer_at on depth ≢ b = λ b is same. true≢false (sym there ∙ ap (in_range regions.stack) same ∙ ground.data_or_stack b is) in
      ap (λ (l : List ℕ). byte_in l (pointer_at on depth)) memory
      ∙ stored_other (stores i next m.memory m.cpu) m.memory (pointer_at on depth)
      (subst (λ (l : List ℕ). Apart depth l) (sym (facts i next m.memory m.cpu).stored)
      (All-append (λ (b : ℕ). pointer_at on depth ≢ b) (stacked_by (flow i) m.cpu) (direct_bytes i ++ pointed_bytes i m.cpu.registers) (stacked_apart (flow i) depth one left room)
      (All-append (λ (b : ℕ). pointer_at on depth ≢ b) (direct_bytes i) (pointed_bytes i m.cpu.registers)
      (all_of (λ b. in_data regions b ≡ true) (λ (b : ℕ). pointer_at on depth ≢ b) (direct_bytes i) data_apart direct)
      (all_of (λ b. in_data regions b ≡ true) (λ (b : ℕ). pointer_at on depth ≢ b) (pointed_bytes i m.cpu.registers) data_apart pointed))))

  word_stays : (high low depth : ℕ) → depth ≤ left_of (flow i) before after → HoldsWord on m.memory high low depth → HoldsWord on later.memory high low depth
  word_stays high low depth left word =
      let two = word.two in
      record { two = two; low_is = byte_stays depth (omega (arith, two)) left ∙ word.low_is; high_is = byte_stays (depth - 1) (omega (arith, two)) (omega (arith, left)) ∙ word.high_is }

  saved_stays : (high low : ℕ) (o : Option ℕ) → HoldsSaved on m.memory high low before o → HoldsSaved on later.memory high low after (still (left_of (flow i) before after) o)
  saved_stays high low o holds =
      still_holds (λ depth. (depth ≤ before) × HoldsWord on m.memory high low depth) (λ depth. (depth ≤ after) × HoldsWord on later.memory high low depth) (left_of (flow i) before after) o
      (λ depth left word. (left_after (flow i) depth left, word_stays high low depth left word.1)) holds

  -- a word that is pushed
  pushed_word : (p : StackPair) → i ≡ Push p → IsAsEntered e p m.cpu.registers → HoldsWord on later.memory (high_of e.registers p) (low_of e.registers p) after
  pushed_word p is was = record {
    two = (let up = pushes p is in omega (arith, up));
    low_is = ap (λ n. byte_in later.memory n) low_at ∙ ap (λ (l : List ℕ). byte_in l (behind m.cpu.sp 2)) stores_it ∙ read.1 ∙ pair_low e p m.cpu.registers was;
    high_is = ap (λ n. byte_in later.memory n) high_at ∙ ap (λ (l : List ℕ). byte_in l (behind m.cpu.sp 1)) stores_it ∙ read.0 ∙ pair_high e p m.cpu.registers was;
  }
    where
      stores_it : later.memory ≡ stored m.memory (push_bytes m.cpu.sp (high_of m.cpu.registers p) (low_of m.cpu.registers p))
      stores_it = memory ∙ ap (λ (j : Instr). stored m.memory (stores j next m.memory m.cpu)) is

      fit : before + 2 ≤ regions.stack.length
      fit = room (ap (λ (j : Instr). is_pushing (flow j) m.cpu.registers.flags) is)

      below : (behind (pointer_at on before) 1 ≡ pointer_at on (before + 1)) × (behind (pointer_at on before) 2 ≡ pointer_at on (before + 2))
      below = pointer_below regions ground before fit

      low_at : pointer_at on after ≡ behind m.cpu.sp 2
      low_at = ap (λ n. pointer_at on n) (pushes p is) ∙ sym below.1 ∙ sym (ap (λ n. behind n 2) pointer)

      high_at : pointer_at on (after - 1) ≡ behind m.cpu.sp 1
      high_at = ap (λ n. pointer_at on (n - 1)) (pushes p is) ∙ ap (λ n. pointer_at on n) (omega arith) ∙ sym below.0 ∙ sym (ap (λ n. behind n 1) pointer)

      read : (byte_in (stored m.memory (push_bytes m.cpu.sp (high_of m.cpu.registers p) (low_of m.cpu.registers p))) (behind m.cpu.sp 1) ≡ high_of m.cpu.registers p) × (byte_in (stored m.memory (push_bytes m.cpu.sp (high_of m.cpu.registers p) (low_of m.cpu.registers p))) (behind m.cpu.sp 2) ≡ low_of m.cpu.registers p)
      read = two_read m.memory (behind m.cpu.sp 1) (behind m.cpu.sp 2) (high_of m.cpu.registers p) (low_of m.cpu.registers p) whole (behind_word m.cpu.sp 1) (behind_word m.cpu.sp 2) (below_apart m.cpu.sp)

  -- a pair whose word is popped
  in_place_popped : (pair : StackPair) (o : Option ℕ) → (p : StackPair) → i ≡ Pop p → is_pair p pair ≡ true → is_at o before ≡ true → HoldsSaved on m.memory (high_of e.registers pair) (low_of e.registers pair) before o → IsAsEntered e pair later.cpu.registers
  in_place_popped pair None p is same at holds = cc
  in_place_popped pair (Some depth) p is same at holds =
      let here : depth ≡ before = grind (arith, nat_tests, at) in
      let word = holds.1 in
      let two = word.two in
      let of : p ≡ pair = same_pair p pair same in
      let low : byte_in m.memory m.cpu.sp ≡ low_of e.registers pair = ap (λ n. byte_in m.memory n) (pointer ∙ ap (λ n. pointer_at on n) (sym here)) ∙ word.low_is in
      let up : ahead m.cpu.sp 1 ≡ pointer_at on (depth - 1) = ap (λ n. ahead n 1) (pointer ∙ ap (λ n. pointer_at on n) (sym here)) ∙ up_to (depth - 1) depth (omega (arith, two)) (omega (arith, here, few)) in
      let high : byte_in m.memory (ahead m.cpu.sp 1) ≡ high_of e.registers pair = ap (λ n. byte_in m.memory n) up ∙ word.high_is in
      subst (λ (r : Registers). IsAsEntered e pair r) (sym (popped_registers p byte next m later (subst (λ (j : Instr). unguarded j byte next m ≡ Some later) is goes)))
      (subst (λ (q : StackPair). IsAsEntered e pair (changed (Pop q) m.memory m.cpu).registers) (sym of) (popped_as_entered round e pair m.memory m.cpu high low)) where
        up_to : (n d : ℕ) → d ≡ suc n → d ≤ regions.stack.length → ahead (pointer_at on d) 1 ≡ pointer_at on n
        up_to n d is less = ap (λ k. ahead (pointer_at on k) 1) is ∙ next_pointer regions ground n (omega (arith, is, less))

  pub pair_holds : (pair : StackPair) (held : HeldPair) → HoldsPairHeld on e pair held before m → HoldsPairHeld on e pair (pair_after i before after pair held) after later
  pair_holds pair held holds = record { in_place = placed i refl; saved = saved_by (still (left_of (flow i) before after) held.saved) (saved_stays (high_of e.registers pair) (low_of e.registers pair) held.saved holds.saved) } where
    kept_by : (j : Instr) → i ≡ j → (held.in_place && not (changes_pair j pair)) ≡ true → IsAsEntered e pair later.cpu.registers
    kept_by j is both =
        let parts = and_parts held.in_place (not (changes_pair j pair)) both in
        let same : changes_pair i pair ≡ false = ap (λ (k : Instr). changes_pair k pair) is ∙ not_true (changes_pair j pair) parts.1 in
        goes_registers e i byte next m later goes pair same (unchanged e pair i next m.memory m.cpu facts same (holds.in_place parts.0))

    popped_by : (p : StackPair) (b : Bool) → i ≡ Pop p → is_pair p pair ≡ b → (if b then is_at held.saved before else held.in_place && not (changes_pair (Pop p) pair)) ≡ true → IsAsEntered e pair later.cpu.registers
    popped_by p true is same at = in_place_popped pair held.saved p is same at holds.saved
    popped_by p false is same at = kept_by (Pop p) is at

    placed : (j : Instr) → i ≡ j → (if pops_pair j pair then is_at held.saved before else held.in_place && not (changes_pair j pair)) ≡ true → IsAsEntered e pair later.cpu.registers
    placed (Pop p) is at = popped_by p (is_pair p pair) is refl at
    placed j is at = kept_by j is at

    Saved : Option ℕ → Type 0
    Saved o = HoldsSaved on later.memory (high_of e.registers pair) (low_of e.registers pair) after o

    pushed_by : (p : StackPair) (b : Bool) → i ≡ Push p → is_pair p pair ≡ b → Saved (if_true (b && held.in_place) after)
    pushed_by p false is same = tt
    pushed_by p true is same = by held.in_place refl where
      by : (c : Bool) → held.in_place ≡ c → Saved (if_true c after)
      by false was = tt
      by true was = (omega arith, subst (λ (q : StackPair). HoldsWord on later.memory (high_of e.registers q) (low_of e.registers q) after) (same_pair p pair same) (pushed_word p is (subst (λ (q : StackPair). IsAsEntered e q m.cpu.registers) (sym (same_pair p pair same)) (holds.in_place was))))

    pushed : (j : Instr) → i ≡ j → Saved (if_true (pushes_pair j pair && held.in_place) after)
    pushed (Push p) is = pushed_by p (is_pair p pair) is refl
    pushed j is = tt

    saved_by : (o : Option ℕ) → Saved o → Saved (first_of o (if_true (pushes_pair i pair && held.in_place) after))
    saved_by None left = pushed i refl
    saved_by (Some depth) left = left

  pub beside_holds : (beside : Beside) → HoldsBeside on e beside before m → HoldsBeside on e (beside_after i before after beside) after later
  beside_holds beside holds = record {
    psw = pair_holds Psw beside.psw holds.psw;
    bc = pair_holds StackBc beside.bc holds.bc;
    de = pair_holds StackDe beside.de holds.de;
    hl = pair_holds StackHl beside.hl holds.hl;
    back = saved_stays (e.back / 256) (e.back % 256) beside.back holds.back;
  }
