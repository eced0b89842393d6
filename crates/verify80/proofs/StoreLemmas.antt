-- What an instruction that touches no byte of the stack stores, once the guard lets it pass, goes to data alone.
use Rattle.std.specs.Prelude.{◌≡◌, ◌≢◌, ℕ, ◌+◌, ◌-◌, ◌*◌, ◌<◌, ◌≤◌, Bool, true, false, not, List, [], ◌∷◌, Option, None, Some, length, slice_index, slice_set, refl}
use Rattle.std.proofs.Common.{◌∙◌, ap, sym, arith, cond, inl, inr, get_or-set_other, true≢false}
use Rattle.std.proofs.lemmas.List.{length-set}
use Rattle.std.proofs.lemmas.Bool.{cases_Bool}
use Rattle.decode80.specs.declared.instr.Instr.{Instr}
use Rattle.decode80.specs.declared.instr.Instr.TheVariants.{Store, MviMemory, InrMemory, DcrMemory, Stax, Sta, Shld, Push, Pop, Call, CallIf}
use Rattle.decode80.specs.declared.instr.Instr.TheVariants.{Ret, ReturnIf, Rst, Xthl, Lxi, Inx, Dcx, Jmp, JumpIf, Pchl, Sphl, Hlt, In, Out}
use Rattle.decode80.specs.declared.pair.Pair.TheVariants.{Sp}
use Rattle.decode80.specs.Fetch.{ahead}
use Rattle.image80.specs.Range.{in_range}
use Rattle.image80.specs.Regions.{Areas, AreRegions, in_code, in_data, top_of}
use Rattle.machine80.specs.declared.cpu.Cpu.{Cpu}
use Rattle.machine80.specs.declared.end.End.{End}
use Rattle.machine80.specs.declared.end.End.TheVariants.{Direct, StoreOutside}
use Rattle.machine80.specs.Effects.{stores, stored}
use Rattle.machine80.specs.Step.{guard, first_outside, ends_at}
use Rattle.verify80.specs.Boards.{IsPushed}
use Rattle.verify80.proofs.StackLemmas.{inside, pointer, SameWords, Written}

-- the instructions that leave the stack, its pointer and the order of instructions alone, and use no port
abbrev pub is_plain : Instr → Bool
is_plain (Push _) = false
is_plain (Pop _) = false
is_plain Xthl = false
is_plain (Lxi Sp _) = false
is_plain (Inx Sp) = false
is_plain (Dcx Sp) = false
is_plain Sphl = false
is_plain (Jmp _) = false
is_plain (JumpIf _ _) = false
is_plain (Call _) = false
is_plain (CallIf _ _) = false
is_plain Ret = false
is_plain (ReturnIf _) = false
is_plain (Rst _) = false
is_plain Pchl = false
is_plain Hlt = false
is_plain (In _) = false
is_plain (Out _) = false
is_plain _ = true

-- the rules of regions, and that code, data and stack share no address
pub record Ground (regions : Areas) : Type 0 where
  pub rules : AreRegions regions
  pub code_or_data : (a : ℕ) → in_code regions a ≡ true → in_data regions a ≡ false
  pub code_or_stack : (a : ℕ) → in_code regions a ≡ true → in_range regions.stack a ≡ false
  pub data_or_stack : (a : ℕ) → in_data regions a ≡ true → in_range regions.stack a ≡ false

-- so are the regions of every image, by the laws of regions
pub ground_of : ((areas : Areas) (a : ℕ) → AreRegions areas → in_code areas a ≡ true → in_data areas a ≡ false) →
    ((areas : Areas) (a : ℕ) → AreRegions areas → in_code areas a ≡ true → in_range areas.stack a ≡ false) →
    ((areas : Areas) (a : ℕ) → AreRegions areas → in_data areas a ≡ true → in_range areas.stack a ≡ false) →
    (regions : Areas) → AreRegions regions → Ground regions
ground_of code_or_data code_or_stack data_or_stack regions rules = record {
  rules = rules;
  code_or_data = λ a. code_or_data regions a rules;
  code_or_stack = λ a. code_or_stack regions a rules;
  data_or_stack = λ a. data_or_stack regions a rules;
}

stack_not_data : (regions : Areas) (a : ℕ) → Ground regions → in_range regions.stack a ≡ true → in_data regions a ≡ false
stack_not_data regions a ground stack = elim (cases_Bool (in_data regions a)) [
  | inl e ↦ absurd (true≢false (sym stack ∙ ground.data_or_stack a e))
  | inr e ↦ e
]

-- an address that the guard lets pass is inside
passed_test : (t : Bool) (b : ℕ) (others : Option ℕ) (at : ℕ → End) (rest : Option End) → ends_at (cond (not t) (Some b) others) at rest ≡ None → t ≡ true
passed_test true b others at rest h = refl
passed_test false b others at rest h = cc

passed_rest : (t : Bool) (b : ℕ) (others : Option ℕ) (at : ℕ → End) (rest : Option End) → ends_at (cond (not t) (Some b) others) at rest ≡ None → ends_at others at rest ≡ None
passed_rest true b others at rest h = h
passed_rest false b others at rest h = cc

passed : (within : ℕ → Bool) (b : ℕ) (at : ℕ → End) (rest : Option End) → ends_at (first_outside within (b ∷ [])) at rest ≡ None → within b ≡ true
passed within b at rest h = passed_test (within b) b None at rest h

passed_two : (within : ℕ → Bool) (b c : ℕ) (at : ℕ → End) (rest : Option End) → ends_at (first_outside within (b ∷ c ∷ [])) at rest ≡ None → (within b ≡ true) × (within c ≡ true)
passed_two within b c at rest h =
    let others : Option ℕ = first_outside within (c ∷ []) in
    (passed_test (within b) b others at rest h, passed within c at rest (passed_rest (within b) b others at rest h))

-- a byte that is no data is not one that is stored to
apart : (regions : Areas) (a b : ℕ) → in_data regions a ≡ false → in_data regions b ≡ true → a ≢ b
apart regions a b none stored_to = λ e. true≢false (sym stored_to ∙ ap (in_data regions) (sym e) ∙ none)

one_stored : (m : List ℕ) (a b x : ℕ) → a ≢ b → slice_index (stored m ((b, x) ∷ [])) a ≡ slice_index m a
one_stored m a b x h = get_or-set_other m b a x 0 h

two_stored : (m : List ℕ) (a b c x y : ℕ) → a ≢ b → a ≢ c → slice_index (stored m ((b, x) ∷ (c, y) ∷ [])) a ≡ slice_index m a
two_stored m a b c x y h k = get_or-set_other (slice_set m b x) c a y 0 k ∙ get_or-set_other m b a x 0 h

-- a memory after stores to data
pub record StoresData (regions : Areas) (memory memory' : List ℕ) : Type 0 where
  pub same : (a : ℕ) → in_data regions a ≡ false → slice_index memory' a ≡ slice_index memory a
  pub size : length memory' ≡ length memory

pub same_memory : (regions : Areas) (memory : List ℕ) → StoresData regions memory memory
same_memory regions memory = record { same = λ a none. refl; size = refl }

one_data : (regions : Areas) (m : List ℕ) (b x : ℕ) → in_data regions b ≡ true → StoresData regions m (stored m ((b, x) ∷ []))
one_data regions m b x here = record { same = λ a none. one_stored m a b x (apart regions a b none here); size = length-set m b x }

two_data : (regions : Areas) (m : List ℕ) (b c x y : ℕ) → in_data regions b ≡ true → in_data regions c ≡ true → StoresData regions m (stored m ((b, x) ∷ (c, y) ∷ []))
two_data regions m b c x y here other = record {
  same = λ a none. two_stored m a b c x y (apart regions a b none here) (apart regions a c none other);
  size = length-set (slice_set m b x) c y ∙ length-set m b x;
}

pub plain_stores : (regions : Areas) (i : Instr) (next : ℕ) (m : List ℕ) (cpu : Cpu) → is_plain i ≡ true → guard regions i cpu ≡ None → StoresData regions m (stored m (stores i next m cpu))
plain_stores regions (Store r) next m cpu plain pass = one_data regions m _ _ (passed (in_data regions) _ StoreOutside None pass)
plain_stores regions (MviMemory b) next m cpu plain pass = one_data regions m _ _ (passed (in_data regions) _ StoreOutside None pass)
plain_stores regions InrMemory next m cpu plain pass = one_data regions m _ _ (passed (in_data regions) _ StoreOutside None pass)
plain_stores regions DcrMemory next m cpu plain pass = one_data regions m _ _ (passed (in_data regions) _ StoreOutside None pass)
plain_stores regions (Stax p) next m cpu plain pass = one_data regions m _ _ (passed (in_data regions) _ StoreOutside None pass)
plain_stores regions (Sta w) next m cpu plain pass = one_data regions m w cpu.registers.a (passed (in_data regions) w Direct None pass)
plain_stores regions (Shld w) next m cpu plain pass =
    let both : (in_data regions w ≡ true) × (in_data regions (ahead w 1) ≡ true) = passed_two (in_data regions) w (ahead w 1) Direct None pass in
    two_data regions m w (ahead w 1) cpu.registers.l cpu.registers.h both.0 both.1
plain_stores regions (Push p) next m cpu plain pass = cc
plain_stores regions (Call w) next m cpu plain pass = cc
plain_stores regions (CallIf c w) next m cpu plain pass = cc
plain_stores regions (Rst n) next m cpu plain pass = cc
plain_stores regions Xthl next m cpu plain pass = cc
plain_stores regions i next m cpu plain pass = same_memory regions m

-- the code is as it was, and so are the words of the stack
pub record SameCode (regions : Areas) (memory memory' : List ℕ) : Type 0 where
  pub bytes : (a : ℕ) → in_code regions a ≡ true → slice_index memory a ≡ slice_index memory' a

pub data_keeps_code : (regions : Areas) (old m m' : List ℕ) → Ground regions → StoresData regions m m' → SameCode regions old m → SameCode regions old m'
data_keeps_code regions old m m' rules stored_data code = record { bytes = λ a here. code.bytes a here ∙ sym (stored_data.same a (rules.code_or_data a here)) }

-- if each byte of the stack from SP up is as it was, unless nothing is pushed
pub pushed_keep_words : (regions : Areas) (below : ℕ) (m m' : List ℕ) → 2 * below ≤ regions.stack.length → regions.stack.first + regions.stack.length ≤ 65536 → regions.stack.length < 65536 →
    ((a : ℕ) → IsPushed regions (pointer (regions.stack.first + regions.stack.length) below) a → slice_index m' a ≡ slice_index m a) → SameWords (regions.stack.first + regions.stack.length) below m m'
pushed_keep_words regions below m m' room «end» short same = record {
  same = λ k less.
      let not_top : pointer (regions.stack.first + regions.stack.length) below ≢ top_of regions = λ e. absurd (omega (arith, e, less, room, short)) in
      let high = same ((regions.stack.first + regions.stack.length) - (2 * k + 1)) (record { in_stack = inside regions.stack _ (omega arith) (omega arith); above = omega arith; filled = not_top }) in
      let low = same ((regions.stack.first + regions.stack.length) - (2 * k + 2)) (record { in_stack = inside regions.stack _ (omega arith) (omega arith); above = omega arith; filled = not_top }) in
      ap (λ h. 256 * h + slice_index m' ((regions.stack.first + regions.stack.length) - (2 * k + 2))) high
      ∙ ap (λ l. 256 * slice_index m ((regions.stack.first + regions.stack.length) - (2 * k + 1)) + l) low;
}

-- if each byte of the stack is as it was
stack_keeps_words : (regions : Areas) (below : ℕ) (m m' : List ℕ) → 2 * below ≤ regions.stack.length →
    ((a : ℕ) → in_range regions.stack a ≡ true → slice_index m' a ≡ slice_index m a) → SameWords (regions.stack.first + regions.stack.length) below m m'
stack_keeps_words regions below m m' room same = record {
  same = λ k less.
      let high = same ((regions.stack.first + regions.stack.length) - (2 * k + 1)) (inside regions.stack _ (omega arith) (omega arith)) in
      let low = same ((regions.stack.first + regions.stack.length) - (2 * k + 2)) (inside regions.stack _ (omega arith) (omega arith)) in
      ap (λ h. 256 * h + slice_index m' ((regions.stack.first + regions.stack.length) - (2 * k + 2))) high
      ∙ ap (λ l. 256 * slice_index m ((regions.stack.first + regions.stack.length) - (2 * k + 1)) + l) low;
}

pub data_keeps_words : (regions : Areas) (below : ℕ) (m m' : List ℕ) → Ground regions → 2 * below ≤ regions.stack.length → StoresData regions m m' →
    SameWords (regions.stack.first + regions.stack.length) below m m'
data_keeps_words regions below m m' rules room stored_data =
    stack_keeps_words regions below m m' room (λ a here. stored_data.same a (stack_not_data regions a rules here))

pub word_keeps_code : (regions : Areas) (place high low : ℕ) (old m m' : List ℕ) → Ground regions → 2 * place + 2 ≤ regions.stack.length →
    Written (regions.stack.first + regions.stack.length) place high low m m' → SameCode regions old m → SameCode regions old m'
word_keeps_code regions place high low old m m' rules room w code = record {
  bytes = λ a here. code.bytes a here ∙ sym (w.others a (not_at a here _ (inside regions.stack _ (omega arith) (omega arith))) (not_at a here _ (inside regions.stack _ (omega arith) (omega arith))));
}
  where
    not_at : (a : ℕ) → in_code regions a ≡ true → (b : ℕ) → in_range regions.stack b ≡ true → a ≢ b
    not_at a here b in_stack = λ e. true≢false (sym in_stack ∙ ap (in_range regions.stack) (sym e) ∙ rules.code_or_stack a here)
