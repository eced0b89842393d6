-- The stack, byte by byte from the stack pointer to its top, and what becomes of it at each instruction. (Intel 8080 Microcomputer Systems User's
-- Manual, chapter 4: what is pushed and popped. That the bytes are followed by spans is this project's own.)
use Rattle.std.specs.Prelude.{◌≡◌, ◌≤◌, ℕ, ◌+◌, ◌-◌, ◌/◌, ◌%◌, Bool, true, false, List, [], ◌∷◌, ◌++◌, Option, None, Some, drop, length, nat_le, replicate, slice_get, if◌then◌else◌}
use Rattle.std.specs.Option.{option_map}
use Rattle.decode80.specs.{declared.instr.Instr.Instr, Fetch.ahead}
use Rattle.decode80.specs.declared.instr.Instr.TheVariants.{Lxi, Inx, Dcx, Sphl, Push, Pop, Xthl, Call, CallIf, Ret, ReturnIf, Rst}
use Rattle.decode80.specs.declared.pair.Pair.TheVariants.{Sp}
use Rattle.image80.specs.{Regions.top_of, Image.Located}
use Rattle.machine80.specs.{Effects.byte_in}
use Rattle.verify80.specs.Boards.{uses_sp}
use Rattle.verify80_spans.specs.declared.byte_span.ByteSpan.{ByteSpan}
use Rattle.verify80_spans.specs.Span.{ByteWithin, IsByteInside, any_byte, byte_alone, is_alone, high_of}
use Rattle.verify80_follow.specs.declared.{stack.StackAfter.StackAfter, stack.StackBounds.StackBounds}
use Rattle.verify80_follow.specs.declared.stack.StackAfter.TheVariants.{Refused, Unset, Set}
use Rattle.verify80_states.specs.{declared.states.known.Known.Known, declared.states.following.StackTop.StackTop}
use Rattle.verify80_states.specs.{declared.states.pairs.PairSpan.PairSpan, Known.any_pair, Known.pair_of_halves, Following.pushed_pair}

-- the bytes of a memory from an address on are among these
abbrev pub HoldsFrom : (memory : List ℕ) → (at : ℕ) → List ByteSpan → Type 0
HoldsFrom memory at [] = Unit {0}
HoldsFrom memory at (byte ∷ bytes) = ByteWithin byte (byte_in memory at) × HoldsFrom memory (ahead at 1) bytes

-- where an image's stack ends, and how many bytes it has
abbrev pub bounds_of : Located → StackBounds
bounds_of image = record { top = top_of image.regions; length = image.regions.stack.length }

-- the stack pointer when a number of bytes are on the stack
abbrev pub pointer_at : StackBounds → (count : ℕ) → ℕ
pointer_at bounds count = (bounds.top + 65536 - count) % 65536

-- the stack has these bytes, from the stack pointer to its top
pub record HoldsStack (bounds : StackBounds) (bytes : List ByteSpan) (sp : ℕ) (memory : List ℕ) : Type 0 where
  pub pointer : sp ≡ pointer_at bounds (length bytes)
  pub within : length bytes ≤ bounds.length
  pub each : HoldsFrom memory sp bytes

-- what is known of the stack at the stack pointer; nothing, as long as that isn't set
abbrev pub word_on : List ByteSpan → PairSpan
word_on (low ∷ high ∷ bytes) = pair_of_halves high low
word_on bytes = any_pair

abbrev pub top_of_stack : StackBounds → Option (List ByteSpan) → StackTop
top_of_stack bounds None = record { pointer = None; word = any_pair }
top_of_stack bounds (Some bytes) = record { pointer = Some (pointer_at bounds (length bytes)); word = word_on bytes }

-- where a return goes, if that is known
abbrev pub if_true : {A : Type 0} → Bool → A → Option A
if_true true x = Some x
if_true false x = None

abbrev pub return_address : List ByteSpan → Option ℕ
return_address bytes = if_true (is_alone (word_on bytes).words) (word_on bytes).words.first

-- two bytes are pushed, if there is room for them; popped, if they are there; and exchanged for others
abbrev pub pushed_onto : (room : ℕ) → (high low : ByteSpan) → List ByteSpan → Option (List ByteSpan)
pushed_onto room high low bytes = if_true (nat_le (length bytes + 2) room) (low ∷ high ∷ bytes)

abbrev pub popped_from : List ByteSpan → Option (List ByteSpan)
popped_from (low ∷ high ∷ bytes) = Some bytes
popped_from bytes = None

abbrev pub exchanged_on : (high low : ByteSpan) → List ByteSpan → Option (List ByteSpan)
exchanged_on high low (old_low ∷ old_high ∷ bytes) = Some (low ∷ high ∷ bytes)
exchanged_on high low bytes = None

-- the stack pointer is set to an address of the stack or to its top: what lies above it is what it was, and what comes to lie on it is unknown
abbrev pub count_above : StackBounds → (pointer : ℕ) → ℕ
count_above bounds pointer = (bounds.top + 65536 - pointer) % 65536

abbrev pub resized : (count : ℕ) → List ByteSpan → List ByteSpan
resized count bytes = replicate (count - length bytes) any_byte ++ drop (length bytes - count) bytes

abbrev pub moved_to : StackBounds → (pointer : ℕ) → List ByteSpan → Option (List ByteSpan)
moved_to bounds pointer bytes = if_true (nat_le (count_above bounds pointer) bounds.length) (resized (count_above bounds pointer) bytes)

abbrev pub without_one : List ByteSpan → Option (List ByteSpan)
without_one (byte ∷ bytes) = Some bytes
without_one [] = None

abbrev pub with_one : (room : ℕ) → List ByteSpan → Option (List ByteSpan)
with_one room bytes = if_true (nat_le (length bytes + 1) room) (any_byte ∷ bytes)

-- a call that is taken pushes the address behind it
abbrev pub called_on : (taken : Bool) → (room next : ℕ) → List ByteSpan → Option (List ByteSpan)
called_on true room next bytes = pushed_onto room (byte_alone (next / 256)) (byte_alone (next % 256)) bytes
called_on false room next bytes = Some bytes

abbrev pub returned_from : (taken : Bool) → List ByteSpan → Option (List ByteSpan)
returned_from true bytes = popped_from bytes
returned_from false bytes = Some bytes

abbrev pub moved_if : (alone : Bool) → StackBounds → (pointer : ℕ) → List ByteSpan → Option (List ByteSpan)
moved_if true bounds pointer bytes = moved_to bounds pointer bytes
moved_if false bounds pointer bytes = None

-- the stack after an instruction, its call or return taken or not; none, if it isn't known or leaves the stack
abbrev pub stack_after : StackBounds → Instr → (taken : Bool) → (next : ℕ) → Known → List ByteSpan → Option (List ByteSpan)
stack_after bounds (Push pair) taken next s bytes = pushed_onto bounds.length (high_of (pushed_pair s pair).words) (pushed_pair s pair).low bytes
stack_after bounds (Pop pair) taken next s bytes = popped_from bytes
stack_after bounds Xthl taken next s bytes = exchanged_on (high_of s.hl.words) s.hl.low bytes
stack_after bounds (Call to) taken next s bytes = called_on taken bounds.length next bytes
stack_after bounds (CallIf condition to) taken next s bytes = called_on taken bounds.length next bytes
stack_after bounds (Rst number) taken next s bytes = called_on taken bounds.length next bytes
stack_after bounds Ret taken next s bytes = returned_from taken bytes
stack_after bounds (ReturnIf condition) taken next s bytes = returned_from taken bytes
stack_after bounds (Lxi Sp n) taken next s bytes = moved_to bounds n bytes
stack_after bounds (Inx Sp) taken next s bytes = without_one bytes
stack_after bounds (Dcx Sp) taken next s bytes = with_one bounds.length bytes
stack_after bounds Sphl taken next s bytes = moved_if (is_alone s.hl.words) bounds s.hl.words.first bytes
stack_after bounds instr taken next s bytes = Some bytes

-- the same as long as the stack pointer isn't set: only LXI SP sets it, and nothing may use it
abbrev pub set_stack : StackBounds → Instr → Option (Option (List ByteSpan))
set_stack bounds (Lxi Sp n) = option_map (λ bytes. Some bytes) (moved_to bounds n [])
set_stack bounds instr = if_true (if uses_sp instr then false else true) None

abbrev pub stack_then : StackBounds → Instr → (taken : Bool) → (next : ℕ) → Known → Option (List ByteSpan) → Option (Option (List ByteSpan))
stack_then bounds instr taken next s None = set_stack bounds instr
stack_then bounds instr taken next s (Some bytes) = option_map (λ after. Some after) (stack_after bounds instr taken next s bytes)

-- what is known of a stack says nothing that something else doesn't: both have as many bytes, or of both the pointer isn't set
pub record AreBytesInside (inner outer : List ByteSpan) : Type 0 where
  pub long : length inner ≡ length outer
  pub each : (k : ℕ) (p q : ByteSpan) → slice_get inner k ≡ Some p → slice_get outer k ≡ Some q → IsByteInside p q

abbrev pub IsStackInside : (inner outer : Option (List ByteSpan)) → Type 0
IsStackInside None None = Unit {0}
IsStackInside None (Some outer) = ⊥
IsStackInside (Some inner) None = ⊥
IsStackInside (Some inner) (Some outer) = AreBytesInside inner outer

-- what is left of a stack
abbrev pub after_of : StackAfter → Option (Option (List ByteSpan))
after_of Refused = None
after_of Unset = Some None
after_of (Set bytes) = Some (Some bytes.items)
