-- A part of the stack: below the bytes of its caller a handler, or a procedure that a call steps over, has a stack of its own.
use Rattle.std.specs.Prelude.{◌≡◌, ◌≢◌, ◌≤◌, ◌<◌, ◌+◌, ◌-◌, ℕ, ◌/◌, ◌%◌, Bool, true, false, List, [], ◌∷◌, ◌++◌, cond, Option, None}
use Rattle.std.specs.Prelude.{Some, Result, Ok, All, IfSome, length, slice_index, slice_set}
use Rattle.std.specs.{List.fold}
use Rattle.std.proofs.Common.{ap, arith, refl, subst, sym, true≢false, ◌∙◌}
use Rattle.std.proofs.lemmas.{Bool.Decides.nat_tests, List.length-set}
use Rattle.std.proofs.lemmas.List.Elements.{All-append, All-cons, All-head, All-nil, All-set, All-tail}
use Rattle.decode80.specs.{Facts.flow, Fetch.ahead, Fetch.behind, Fetch.direct_bytes, declared.fetching.FetchFault.FetchFault}
use Rattle.decode80.specs.{declared.fetching.Fetched.Fetched, declared.flow.Flow.Flow, declared.instr.Instr.Instr}
use Rattle.decode80.specs.declared.flow.Flow.TheVariants.{Calls, CallsIf, Exchanges, Pushes}
use Rattle.image80.specs.{Image.Located, Range.IsInMemory, Range.in_range, Regions.AreRegions, Regions.Areas}
use Rattle.image80.specs.declared.range.Range.{Range}
use Rattle.machine80.specs.{Effects.byte_in, Effects.pointed_bytes, Effects.push_bytes, Effects.stack_bytes, Effects.stores}
use Rattle.machine80.specs.{Effects.touched_by, FactsLaws.InstructionsKeepToFacts, FactsLaws.stacked_by, declared.cpu.Cpu.Cpu}
use Rattle.machine80.specs.Step.{Machine}
use Rattle.machine80.specs.World.{World}
use Rattle.verify80.specs.Boards.{Executes, unguarded}
use Rattle.verify80_spans.specs.declared.byte_span.ByteSpan.{ByteSpan}
use Rattle.verify80_spans.specs.Span.{any_byte}
use Rattle.verify80_states.specs.{Bytes.HasBytes, Bytes.HoldsBytes}
use Rattle.verify80_follow.specs.declared.stack.StackBounds.{StackBounds}
use Rattle.verify80_follow.specs.Stack.{HoldsStack, bounds_of, pointer_at}
use Rattle.verify80_follow.specs.Held.{HoldsSaved, count_of}
use Rattle.verify80_follow.specs.Handling.{on_stack}
use Rattle.verify80_follow.specs.Live.{entering}
use Rattle.verify80_follow.proofs.{FollowLemmas.leaves, GroundLemmas.Ground, HeldLemmas.stored_other, HeldLemmas.two_of}
use Rattle.verify80_follow.proofs.StackLemmas.{any_within, byte_at, on_stack as on_part, pointer_below}
use Rattle.verify80_follow.proofs.StackSteps.{behind_word, below_apart, two_read}

-- a part of the stack below a number of bytes
abbrev pub part_below : Areas → (count : ℕ) → Range
part_below regions count = record { first = regions.stack.first; length = regions.stack.length - count }

pub part_inside : (regions : Areas) (count a : ℕ) → in_range (part_below regions count) a ≡ true → in_range regions.stack a ≡ true
part_inside regions count a there = grind (arith, nat_tests, there)

abbrev one_if : ℕ → ℕ → Range → ℕ
one_if a count range = count + cond (in_range range a) 1 0

fold_less : (a : ℕ) (xs : List Range) (n k : ℕ) → n ≤ k → fold (one_if a) n xs ≤ fold (one_if a) k xs
fold_less a [] n k less = less
fold_less a (x ∷ xs) n k less = fold_less a xs (one_if a n x) (one_if a k x) (omega (arith, less))

head_less : (p q : Bool) (n : ℕ) → (p ≡ true → q ≡ true) → n + cond p 1 0 ≤ n + cond q 1 0
head_less true true n more = omega arith
head_less true false n more = absurd (true≢false (sym (more refl)))
head_less false true n more = omega arith
head_less false false n more = omega arith

held_less : (a : ℕ) (inner outer : Range) (xs ys : List Range) (n : ℕ) → (in_range inner a ≡ true → in_range outer a ≡ true) → fold (one_if a) n (xs ++ inner ∷ ys) ≤ fold (one_if a) n (xs ++ outer ∷ ys)
held_less a inner outer [] ys n inside = fold_less a ys (one_if a n inner) (one_if a n outer) (head_less (in_range inner a) (in_range outer a) n inside)
held_less a inner outer (x ∷ xs) ys n inside = held_less a inner outer xs ys (one_if a n x) inside

pub regions_below : (regions : Areas) (count : ℕ) → AreRegions regions → AreRegions (record regions { stack = part_below regions count })
regions_below regions count rules = record {
  code_by_address = rules.code_by_address;
  data_by_address = rules.data_by_address;
  code_filled = rules.code_filled;
  data_filled = rules.data_filled;
  in_memory = replaced regions.code rules.in_memory;
  disjoint = λ a. let less = held_less a (part_below regions count) regions.stack regions.code regions.data_ranges 0 (part_inside regions count a) in let one = rules.disjoint a in omega (arith, less, one);
  cases_by_address = rules.cases_by_address;
  each_case = rules.each_case;
}
  where
    replaced : (xs : List Range) → All IsInMemory (xs ++ regions.stack ∷ regions.data_ranges) → All IsInMemory (xs ++ part_below regions count ∷ regions.data_ranges)
    replaced [] each =
        let lies = All-head IsInMemory regions.stack regions.data_ranges each in
        let first = lies.first in let long = lies.length in let ends = lies.«end» in
        All-cons IsInMemory (part_below regions count) regions.data_ranges (record { first = first; length = omega (arith, long); «end» = omega (arith, ends) }) (All-tail IsInMemory regions.stack regions.data_ranges each)
    replaced (x ∷ xs) each = All-cons IsInMemory x (xs ++ part_below regions count ∷ regions.data_ranges) (All-head IsInMemory x (xs ++ regions.stack ∷ regions.data_ranges) each) (replaced xs (All-tail IsInMemory x (xs ++ regions.stack ∷ regions.data_ranges) each))

-- bytes are stored
pub bytes_stay : (m : List ℕ) (a b x y : ℕ) → x < 256 → y < 256 → HasBytes m → HasBytes (slice_set (slice_set m a x) b y)
bytes_stay m a b x y one other each = All-set (λ (n : ℕ). n < 256) (slice_set m a x) b y other (All-set (λ (n : ℕ). n < 256) m a x one each)

-- the bytes of the stack that are written are some of those that are touched
pub stacked_within : (P : ℕ → Type 0) (w : Flow) (cpu : Cpu) → All P (touched_by w cpu) → All P (stacked_by w cpu)
stacked_within P (Calls to) cpu each = each
stacked_within P (CallsIf condition to) cpu each = each
stacked_within P Pushes cpu each = each
stacked_within P Exchanges cpu each = each
stacked_within P w cpu each = All-nil P

-- a byte to which an instruction stores nothing
pub byte_kept : InstructionsKeepToFacts → (i : Instr) (byte next : ℕ) (m after : Machine) → unguarded i byte next m ≡ Some after → (a : ℕ) → All (λ (b : ℕ). a ≢ b) (stack_bytes i m.cpu) → All (λ (b : ℕ). a ≢ b) (direct_bytes i) →
    All (λ (b : ℕ). a ≢ b) (pointed_bytes i m.cpu.registers) → slice_index after.memory a ≡ slice_index m.memory a
byte_kept facts i byte next m after is a stack direct pointed =
    ap (λ (l : List ℕ). slice_index l a) (leaves i byte next m after is).memory
    ∙ stored_other (stores i next m.memory m.cpu) m.memory a
    (subst (λ (l : List ℕ). All (λ (b : ℕ). a ≢ b) l) (sym (facts i next m.memory m.cpu).stored)
    (All-append (λ (b : ℕ). a ≢ b) (stacked_by (flow i) m.cpu) (direct_bytes i ++ pointed_bytes i m.cpu.registers) (stacked_within (λ (b : ℕ). a ≢ b) (flow i) m.cpu stack)
    (All-append (λ (b : ℕ). a ≢ b) (direct_bytes i) (pointed_bytes i m.cpu.registers) direct pointed)))

-- SP where a state's stack is known
pub stands_at : (b : StackBounds) (sp : ℕ) (memory : List ℕ) (stack : Option (List ByteSpan)) → 2 ≤ count_of stack → IfSome stack (λ bytes. HoldsStack b bytes sp memory × (true ≡ true)) → sp ≡ pointer_at b (count_of stack)
stands_at b sp memory None enough stands = absurd (omega (arith, enough))
stands_at b sp memory (Some bytes) enough stands = stands.0.pointer

-- what is fetched once is fetched again
pub same_ok : (r : Result Fetched FetchFault) (a b : Fetched) → r ≡ Ok a → r ≡ Ok b → a ≡ b
same_ok r a b one other = cc

-- the address where a part ends
pub two_above : (b : StackBounds) → ahead (pointer_at b 2) 2 ≡ pointer_at b 0
unfolding ahead
two_above b = omega arith

-- what an image executes it executes with another stack
abbrev pub executes_moved : (image : Located) (range : Range) (listed : ℕ → Type 0) (w v : World) → Executes image.regions listed w v → Executes (on_stack image range).regions listed w v
executes_moved image range listed w v by = record {
  found = by.found;
  byte = by.byte;
  after = by.after;
  fetched = by.fetched;
  small = by.small;
  inside = λ at. record { stores = (by.inside at).stores; jumps = (by.inside at).jumps };
  goes = by.goes;
  is = by.is;
}

-- a machine that is called to an address, and returns to a place, at a part of the stack
module _ (grounds : (regions : Areas) → AreRegions regions → Ground regions) (image : Located) (rules : AreRegions image.regions) (n : ℕ) (low : n ≤ image.regions.stack.length) where
  abbrev part : Located
  part = on_stack image (part_below image.regions n)

  ground_part : Ground part.regions
  ground_part = grounds part.regions (regions_below image.regions n rules)

  module _ (m : Machine) (place to : ℕ) (small : place < 65536) (at_top : m.cpu.sp ≡ pointer_at (bounds_of part) 0) (two_fit : 2 ≤ image.regions.stack.length - n) (held : HoldsBytes m) (whole : length m.memory ≡ 65536) where
    abbrev into : Machine
    into = entering m place to

    below_top : (behind m.cpu.sp 1 ≡ pointer_at (bounds_of part) 1) × (behind m.cpu.sp 2 ≡ pointer_at (bounds_of part) 2)
    below_top = let both = pointer_below part.regions ground_part 0 two_fit in (ap (λ k. behind k 1) at_top ∙ both.0, ap (λ k. behind k 2) at_top ∙ both.1)

    -- a byte that isn't pushed
    pub elsewhere : (a : ℕ) → a ≢ behind m.cpu.sp 1 → a ≢ behind m.cpu.sp 2 → slice_index into.memory a ≡ slice_index m.memory a
    elsewhere a one other = stored_other (push_bytes m.cpu.sp (place / 256) (place % 256)) m.memory a (two_of (λ (b : ℕ). a ≢ b) (behind m.cpu.sp 1) (behind m.cpu.sp 2) one other)

    in_part : (k : ℕ) → 1 ≤ k → k ≤ 2 → in_range part.regions.stack (pointer_at (bounds_of part) k) ≡ true
    in_part k some less = on_part part.regions ground_part k some (omega (arith, less, two_fit))

    -- a byte off that part of the stack
    pub off_part : (a : ℕ) → in_range part.regions.stack a ≡ false → slice_index into.memory a ≡ slice_index m.memory a
    off_part a out = elsewhere a
        (λ same. true≢false (sym (in_part 1 (omega arith) (omega arith)) ∙ ap (in_range part.regions.stack) (sym (same ∙ below_top.0)) ∙ out))
        (λ same. true≢false (sym (in_part 2 (omega arith) (omega arith)) ∙ ap (in_range part.regions.stack) (sym (same ∙ below_top.1)) ∙ out))

    -- a byte off the whole stack
    pub off_stack : (a : ℕ) → in_range image.regions.stack a ≡ false → slice_index into.memory a ≡ slice_index m.memory a
    off_stack a out = off_part a (by (in_range part.regions.stack a) refl) where
      by : (b : Bool) → in_range part.regions.stack a ≡ b → in_range part.regions.stack a ≡ false
      by true is = absurd (true≢false (sym (part_inside image.regions n a is) ∙ out))
      by false is = is

    pub into_bytes : HoldsBytes into
    into_bytes = record { registers = held.registers; memory = bytes_stay m.memory (behind m.cpu.sp 1) (behind m.cpu.sp 2) (place / 256) (place % 256) (omega (arith, small)) (omega arith) held.memory; inputs = held.inputs }

    pub into_whole : length into.memory ≡ 65536
    into_whole = length-set (slice_set m.memory (behind m.cpu.sp 1) (place / 256)) (behind m.cpu.sp 2) (place % 256) ∙ length-set m.memory (behind m.cpu.sp 1) (place / 256) ∙ whole

    read : (byte_in into.memory (behind m.cpu.sp 1) ≡ place / 256) × (byte_in into.memory (behind m.cpu.sp 2) ≡ place % 256)
    read = two_read m.memory (behind m.cpu.sp 1) (behind m.cpu.sp 2) (place / 256) (place % 256) whole (behind_word m.cpu.sp 1) (behind_word m.cpu.sp 2) (below_apart m.cpu.sp)

    pub into_back : HoldsSaved (bounds_of part) into.memory (place / 256) (place % 256) 2 (Some 2)
    into_back = (omega arith, record { two = omega arith; low_is = ap (λ k. byte_in into.memory k) (sym below_top.1) ∙ read.1; high_is = ap (λ k. byte_in into.memory k) (sym below_top.0) ∙ read.0 })

    pub into_stack : HoldsStack (bounds_of part) (any_byte ∷ any_byte ∷ []) into.cpu.sp into.memory
    into_stack = record {
      pointer = below_top.1;
      within = two_fit;
      each = (any_within (byte_in into.memory into.cpu.sp) (byte_at into.memory into.cpu.sp into_bytes.memory), (any_within (byte_in into.memory (ahead into.cpu.sp 1)) (byte_at into.memory (ahead into.cpu.sp 1) into_bytes.memory), tt));
    }
