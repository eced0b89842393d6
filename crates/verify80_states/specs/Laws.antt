-- What holds of that which is known, whoever follows the stack: what an instruction makes of it holds after the instruction, on a machine that
-- nothing guards, what a condition leaves of it holds if the condition does, and devices that leave quiet memory alone leave it. (This
-- project's own.)
use Rattle.std.specs.Prelude.{◌≡◌, ◌<◌, ℕ, Bool, true, List, [], Option, None, Some, length, slice_index}
use Rattle.decode80.specs.{declared.condition.Condition.Condition, declared.instr.Instr.Instr, Spelling.HasOperandInRange}
use Rattle.image80.specs.Regions.{Areas, AreRegions, in_code, in_data}
use Rattle.machine80.specs.{Flags.holds, Step.Machine, Step.guard}
use Rattle.verify80.specs.Boards.{unguarded}
use Rattle.verify80_states.specs.{declared.states.known.Known.Known, declared.states.following.StackTop.StackTop, Bytes.HasBytes}
use Rattle.verify80_states.specs.{Bytes.HoldsBytes, Bytes.IsWord, Following.known_after, Given.given, Steps.ReadsCode}
use Rattle.verify80_states.specs.Known.{HoldsKnown, HoldsTop, IsKnownInside, IsQuietKnown, cut, nothing_known}
use Rattle.verify80_spans.specs.Span.{byte_alone}

-- what is known after an instruction, given what was known before it; the machine is one of bytes, and its code is what it was
pub record IsFollowedBy (regions : Areas) (code : List (Option ℕ)) (instr : Instr) (top : StackTop) (s : Known) (m after : Machine) : Type 0 where
  pub known : HoldsKnown (known_after code instr top s) after
  pub bytes : HoldsBytes after
  pub whole : length after.memory ≡ 65536
  pub same_code : (address : ℕ) → in_code regions address ≡ true → slice_index after.memory address ≡ slice_index m.memory address

-- an instruction that the guard would let pass is followed
abbrev pub InstructionsAreFollowed : Type 0
InstructionsAreFollowed = (regions : Areas) (code : List (Option ℕ)) (instr : Instr) (byte next : ℕ) (top : StackTop) (s : Known) (m after : Machine) → AreRegions regions → HasOperandInRange instr → IsWord next → byte < 256 → HoldsBytes m →
    length m.memory ≡ 65536 → ReadsCode code m.memory → IsQuietKnown (in_data regions) s → HoldsTop top m → HoldsKnown s m → guard regions instr m.cpu ≡ None → unguarded instr byte next m ≡ Some after →
    IsFollowedBy regions code instr top s m after

-- something is left, it holds, and says something of quiet addresses alone
pub record LeavesKnown (quiet : ℕ → Bool) (m : Machine) (o : Option Known) : Type 0 where
  pub left : Known
  pub is : o ≡ Some left
  pub holds : HoldsKnown left m
  pub are : IsQuietKnown quiet left

abbrev pub ConditionsLeaveKnown : Type 0
ConditionsLeaveKnown = (quiet : ℕ → Bool) (condition : Condition) (wanted : Bool) (s : Known) (m : Machine) → HoldsBytes m → HoldsKnown s m → IsQuietKnown quiet s → holds condition m.cpu.registers.flags ≡ wanted →
    LeavesKnown quiet m (given condition wanted s)

-- nothing is known of a machine, what is known is known of a machine if more is, and that A has one of some bytes if it has
pub record KnownHolds (m : Machine) : Type 0 where
  pub nothing : HoldsKnown nothing_known m
  pub around : (inner outer : Known) → IsKnownInside [] inner outer → HoldsKnown inner m → HoldsKnown outer m
  pub cuts : (s : Known) (byte : ℕ) → HoldsKnown s m → m.cpu.registers.a ≡ byte → HoldsKnown (cut s (byte_alone byte)) m

abbrev pub WhatHoldsOfBytes : Type 0
WhatHoldsOfBytes = (m : Machine) → HoldsBytes m → KnownHolds m

-- devices that leave quiet memory leave what is known of it
abbrev pub KnownStaysQuiet : Type 0
KnownStaysQuiet = (quiet : ℕ → Bool) (m : Machine) (memory : List ℕ) (s : Known) → ((at : ℕ) → quiet at ≡ true → slice_index memory at ≡ slice_index m.memory at) → HasBytes memory → IsQuietKnown quiet s → HoldsKnown s m →
    HoldsKnown s (record m { memory = memory })
