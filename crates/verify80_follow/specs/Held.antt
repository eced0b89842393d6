-- What a handler still has of what it was entered with: pairs of registers that are what they were, words of the stack that hold what such a pair was, and
-- the word to which it returns. (Intel 8080 Microcomputer Systems User's Manual, chapter 4: PUSH and POP. That these are followed is this project's own.)
use Rattle.std.specs.Prelude.{◌≡◌, ◌≤◌, ℕ, ◌-◌, ◌/◌, ◌%◌, min, Bool, true, false, not, ◌&&◌, ◌||◌, List, Option, None, Some, IfSome, length, nat_eq, nat_le, if◌then◌else◌}
use Rattle.decode80.specs.{Facts.flags, Facts.flow, Facts.writes, Facts.writes_pair, declared.flow.Flow.Flow, declared.instr.Instr.Instr}
use Rattle.decode80.specs.{declared.pair.StackPair.StackPair, declared.writes.AffectedFlags.AffectedFlags, declared.writes.Writes.Writes}
use Rattle.decode80.specs.declared.flow.Flow.TheVariants.{Exchanges}
use Rattle.decode80.specs.declared.instr.Instr.TheVariants.{Pop, Push}
use Rattle.decode80.specs.declared.pair.Pair.TheVariants.{Bc, De, Hl}
use Rattle.decode80.specs.declared.pair.StackPair.TheVariants.{Bc as StackBc, De as StackDe, Hl as StackHl, Psw}
use Rattle.decode80.specs.declared.register.Register.TheVariants.{A}
use Rattle.decode80.specs.declared.writes.AffectedFlags.TheVariants.{NoFlags}
use Rattle.decode80.specs.declared.writes.Writes.TheVariants.{One}
use Rattle.machine80.specs.{Cpu.high_of, Cpu.low_of, Effects.byte_in, Step.Machine, declared.registers.Registers.Registers}
use Rattle.verify80_spans.specs.declared.byte_span.ByteSpan.{ByteSpan}
use Rattle.verify80_follow.specs.declared.{held.Beside.Beside, held.HeldPair.HeldPair, stack.StackBounds.StackBounds}
use Rattle.verify80_follow.specs.{InterruptedBoards.enabled_after, Stack.if_true, Stack.pointer_at}

-- the registers and flags with which a handler is entered, and where it returns to
pub record Entry : Type 0 where
  pub registers : Registers
  pub back : ℕ

-- how many bytes are on a stack; none, as long as SP isn't set
abbrev pub count_of : Option (List ByteSpan) → ℕ
count_of None = 0
count_of (Some bytes) = length bytes

-- a pair is what it was
abbrev pub IsAsEntered : Entry → StackPair → Registers → Type 0
IsAsEntered e StackBc r = (r.b ≡ e.registers.b) × (r.c ≡ e.registers.c)
IsAsEntered e StackDe r = (r.d ≡ e.registers.d) × (r.e ≡ e.registers.e)
IsAsEntered e StackHl r = (r.h ≡ e.registers.h) × (r.l ≡ e.registers.l)
IsAsEntered e Psw r = (r.a ≡ e.registers.a) × (r.flags ≡ e.registers.flags)

-- the word of the stack that begins `depth` bytes below its top has these bytes
pub record HoldsWord (bounds : StackBounds) (memory : List ℕ) (high low depth : ℕ) : Type 0 where
  pub two : 2 ≤ depth
  pub low_is : byte_in memory (pointer_at bounds depth) ≡ low
  pub high_is : byte_in memory (pointer_at bounds (depth - 1)) ≡ high

-- a word of the stack is one of those that are on it, if it is known
abbrev pub HoldsSaved : StackBounds → List ℕ → (high low count : ℕ) → Option ℕ → Type 0
HoldsSaved bounds memory high low count saved = IfSome saved (λ depth. (depth ≤ count) × HoldsWord bounds memory high low depth)

-- what is said of a pair holds
pub record HoldsPairHeld (bounds : StackBounds) (e : Entry) (pair : StackPair) (held : HeldPair) (count : ℕ) (m : Machine) : Type 0 where
  pub in_place : held.in_place ≡ true → IsAsEntered e pair m.cpu.registers
  pub saved : HoldsSaved bounds m.memory (high_of e.registers pair) (low_of e.registers pair) count held.saved

-- what is said beside a state holds
pub record HoldsBeside (bounds : StackBounds) (e : Entry) (beside : Beside) (count : ℕ) (m : Machine) : Type 0 where
  pub psw : HoldsPairHeld bounds e Psw beside.psw count m
  pub bc : HoldsPairHeld bounds e StackBc beside.bc count m
  pub de : HoldsPairHeld bounds e StackDe beside.de count m
  pub hl : HoldsPairHeld bounds e StackHl beside.hl count m
  pub back : HoldsSaved bounds m.memory (e.back / 256) (e.back % 256) count beside.back

-- whether a pair is another one
abbrev pub is_pair : (one other : StackPair) → Bool
is_pair StackBc StackBc = true
is_pair StackDe StackDe = true
is_pair StackHl StackHl = true
is_pair Psw Psw = true
is_pair one other = false

-- whether an instruction pushes a pair, or pops it
abbrev pub pushes_pair : Instr → StackPair → Bool
pushes_pair (Push pair) other = is_pair pair other
pushes_pair instr other = false

abbrev pub pops_pair : Instr → StackPair → Bool
pops_pair (Pop pair) other = is_pair pair other
pops_pair instr other = false

-- whether an instruction may change a pair; of PSW A or a flag
abbrev pub writes_a : Writes → Bool
writes_a (One A) = true
writes_a w = false

abbrev pub affects_none : AffectedFlags → Bool
affects_none NoFlags = true
affects_none affected = false

abbrev pub changes_pair : Instr → StackPair → Bool
changes_pair instr StackBc = writes_pair (writes instr) Bc
changes_pair instr StackDe = writes_pair (writes instr) De
changes_pair instr StackHl = writes_pair (writes instr) Hl
changes_pair instr Psw = writes_a (writes instr) || not (affects_none (flags instr))

-- how many bytes, from the stack's top down, an instruction leaves on it, of so many before it and after it
abbrev pub left_of : Flow → (before after : ℕ) → ℕ
left_of Exchanges before after = min (before - 2) after
left_of w before after = min before after

-- a word that is left
abbrev pub still : (left : ℕ) → Option ℕ → Option ℕ
still left None = None
still left (Some depth) = if_true (nat_le depth left) depth

abbrev pub is_at : Option ℕ → (depth : ℕ) → Bool
is_at None depth = false
is_at (Some other) depth = nat_eq other depth

abbrev pub first_of : Option ℕ → Option ℕ → Option ℕ
first_of None other = other
first_of (Some depth) other = Some depth

-- what is said of a pair after an instruction: it is as it was if it isn't changed, or if its word is popped; and its word is the one that was known, if that
-- is left, or the one that is pushed
abbrev pub pair_after : Instr → (before after : ℕ) → StackPair → HeldPair → HeldPair
pair_after instr before after pair held = record {
  in_place = if pops_pair instr pair then is_at held.saved before else held.in_place && not (changes_pair instr pair);
  saved = first_of (still (left_of (flow instr) before after) held.saved) (if_true (pushes_pair instr pair && held.in_place) after);
}

abbrev pub beside_after : Instr → (before after : ℕ) → Beside → Beside
beside_after instr before after beside = record {
  is_enabled = enabled_after instr beside.is_enabled;
  psw = pair_after instr before after Psw beside.psw;
  bc = pair_after instr before after StackBc beside.bc;
  de = pair_after instr before after StackDe beside.de;
  hl = pair_after instr before after StackHl beside.hl;
  back = still (left_of (flow instr) before after) beside.back;
}

-- nothing is said
abbrev pub no_pair : HeldPair
no_pair = record { in_place = false; saved = None }

abbrev pub nothing_beside : Beside
nothing_beside = record { is_enabled = false; psw = no_pair; bc = no_pair; de = no_pair; hl = no_pair; back = None }

-- the same as long as SP isn't set: nothing but whether interrupts may come
abbrev pub beside_then : Instr → (before after : Option (List ByteSpan)) → Beside → Beside
beside_then instr None after beside = record nothing_beside { is_enabled = enabled_after instr beside.is_enabled }
beside_then instr (Some bytes) after beside = beside_after instr (length bytes) (count_of after) beside

-- what is said says all that something else does; but interrupts may come wherever they may by the first
pub record IsPairInside (inner outer : HeldPair) : Type 0 where
  pub in_place : outer.in_place ≡ true → inner.in_place ≡ true
  pub saved : (depth : ℕ) → outer.saved ≡ Some depth → inner.saved ≡ Some depth

pub record IsBesideInside (inner outer : Beside) : Type 0 where
  pub enables : inner.is_enabled ≡ true → outer.is_enabled ≡ true
  pub psw : IsPairInside inner.psw outer.psw
  pub bc : IsPairInside inner.bc outer.bc
  pub de : IsPairInside inner.de outer.de
  pub hl : IsPairInside inner.hl outer.hl
  pub back : (depth : ℕ) → outer.back ≡ Some depth → inner.back ≡ Some depth
