-- What is known of a machine at an instruction: of its registers, flags and bytes of memory, and of the words on top of its stack; and what becomes of
-- words when they are pushed and popped. (This project's own.)
use Rattle.std.specs.Prelude.{◌≡◌, ◌≢◌, ◌≤◌, ℕ, Bool, true, List, Option, None, Some, IfSome}
use Rattle.decode80.specs.{declared.condition.Condition.Condition, Fetch.ahead}
use Rattle.image80.specs.{Range.in_range, Regions.Areas, Regions.top_of}
use Rattle.machine80.specs.{Effects.byte_in, Step.Machine}
use Rattle.verify80_spans.specs.declared.byte_span.ByteSpan.{ByteSpan}
use Rattle.verify80_states.specs.{declared.states.known.Known.Known, declared.states.pairs.PairSpan.PairSpan, declared.states.words.Words.Words}
use Rattle.verify80_states.specs.{declared.states.state.State.State, declared.states.variables.Variable.Variable, Given.given}
use Rattle.verify80_states.specs.Known.{HoldsKnown, HoldsPair, IsKnownInside, IsPairInside, IsQuietKnown, cut, nothing_known}

-- a word of a span lies at an address from the stack pointer up, both of its bytes on the stack
pub record IsOnStack (regions : Areas) (pair : PairSpan) (memory : List ℕ) (sp at : ℕ) : Type 0 where
  pub low : in_range regions.stack at ≡ true
  pub high : in_range regions.stack (ahead at 1) ≡ true
  pub above : sp ≤ at
  pub filled : sp ≢ top_of regions
  pub within : HoldsPair pair (byte_in memory (ahead at 1)) (byte_in memory at)

abbrev pub HoldsWord : Areas → Option PairSpan → List ℕ → (sp at : ℕ) → Type 0
HoldsWord regions known memory sp at = IfSome known (λ pair. IsOnStack regions pair memory sp at)

-- what a state says of the words from the stack pointer on
pub record HoldsWords (regions : Areas) (w : Words) (memory : List ℕ) (sp : ℕ) : Type 0 where
  pub first : HoldsWord regions w.first memory sp sp
  pub second : HoldsWord regions w.second memory sp (ahead sp 2)
  pub third : HoldsWord regions w.third memory sp (ahead sp 4)
  pub fourth : HoldsWord regions w.fourth memory sp (ahead sp 6)

-- what a state says of a machine
pub record Holds (regions : Areas) (s : State) (m : Machine) : Type 0 where
  pub known : HoldsKnown s.known m
  pub words : HoldsWords regions s.words m.memory m.cpu.sp

-- a state says nothing that another doesn't
abbrev pub IsWordInside : (inner outer : Option PairSpan) → Type 0
IsWordInside inner None = Unit {0}
IsWordInside None (Some q) = ⊥
IsWordInside (Some p) (Some q) = IsPairInside p q

pub record AreWordsInside (inner outer : Words) : Type 0 where
  pub first : IsWordInside inner.first outer.first
  pub second : IsWordInside inner.second outer.second
  pub third : IsWordInside inner.third outer.third
  pub fourth : IsWordInside inner.fourth outer.fourth

pub record IsStateInside (variables : List Variable) (inner outer : State) : Type 0 where
  pub known : IsKnownInside variables inner.known outer.known
  pub words : AreWordsInside inner.words outer.words

-- it says something of quiet addresses alone
abbrev pub IsQuietState : (quiet : ℕ → Bool) → State → Type 0
IsQuietState quiet s = IsQuietKnown quiet s.known

-- nothing is known
abbrev pub no_words : Words
no_words = record { first = None; second = None; third = None; fourth = None }

abbrev pub anything : State
anything = record { known = nothing_known; words = no_words }

-- nothing is known but of these variables
abbrev pub unknown_but : (set : ℕ) → State
unknown_but set = record { known = record nothing_known { set = set }; words = no_words }

-- A is known to hold one of these bytes too
abbrev pub cut_state : State → ByteSpan → State
cut_state s byte = record s { known = cut s.known byte }

-- what is left of a state, if something is left of what it knows; and if a condition holds, or doesn't
abbrev pub with_known : State → Option Known → Option State
with_known s None = None
with_known s (Some known) = Some (record s { known = known })

abbrev pub given_state : Condition → (holds : Bool) → State → Option State
given_state condition holds s = with_known s (given condition holds s.known)

-- a word is pushed, and one is popped
abbrev pub pushed : Words → Option PairSpan → Words
pushed w pair = record { first = pair; second = w.first; third = w.second; fourth = w.third }

abbrev pub popped : Words → Words
popped w = record { first = w.second; second = w.third; third = w.fourth; fourth = None }
