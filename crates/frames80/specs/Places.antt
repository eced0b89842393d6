-- The places of a frame, one by one: what each effect, each call and each meeting makes of them. The laws of this crate say
-- that a place after an effect is one place from before, or a constant, and that frames of the same counts go the same way.
-- (This project's own.)
use Rattle.std.specs.Prelude.{◌≡◌, ℕ, ◌+◌, zero, suc, true, List, [], ◌∷◌, length, None, Some}
use Rattle.frames80.specs.declared.word.Word.{Word}
use Rattle.frames80.specs.declared.word.Word.TheVariants.{Own, Any}
use Rattle.frames80.specs.declared.role.Role.{Role}
use Rattle.frames80.specs.declared.frame_pair.FramePair.{FramePair}
use Rattle.frames80.specs.declared.frame_pair.FramePair.TheVariants.{Bc, De, Hl}
use Rattle.frames80.specs.declared.fault.FrameFault.{FrameFault}
use Rattle.frames80.specs.declared.effect.Change.{Change}
use Rattle.frames80.specs.declared.effect.Change.TheVariants.{Push, PushAny, Pop, Drop, Swap, Exchange, Forget, SetStack}
use Rattle.frames80.specs.Word.{met}
use Rattle.frames80.specs.StackFrame.{StackFrame, pair_in}
use Rattle.frames80.specs.Moves.{changed, change_fault, return_fault}
use Rattle.frames80.specs.Calls.{room, returned, agree, merged}

-- a place of a frame: a pair, or a word by its distance from the top
pub data Place : Type 0 where
  InPair : FramePair → Place
  InWord : ℕ → Place

-- the word at a distance from the top; past the end it is any word
abbrev pub word_from_top : List Word → ℕ → Word
word_from_top [] i = Any
word_from_top (word ∷ words) zero = word
word_from_top (word ∷ words) (suc i) = word_from_top words i

abbrev pub word_at : StackFrame → Place → Word
word_at f (InPair pair) = pair_in f.pairs pair
word_at f (InWord i) = word_from_top f.words i

-- where a place comes from: a place from before, or it is any word
pub data Source : Type 0 where
  From : Place → Source
  Unknown : Source

abbrev pub sourced : StackFrame → Source → Word
sourced f (From place) = word_at f place
sourced f Unknown = Any

-- where a pair comes from when one pair is given
abbrev pub pair_source : FramePair → Source → FramePair → Source
pair_source Bc given Bc = given
pair_source De given De = given
pair_source Hl given Hl = given
pair_source _ given pair = From (InPair pair)

-- where each place comes from by a change
abbrev pub source : Change → Place → Source
source (Push pair) (InWord zero) = From (InPair pair)
source (Push _) (InWord (suc i)) = From (InWord i)
source PushAny (InWord zero) = Unknown
source PushAny (InWord (suc i)) = From (InWord i)
source (Pop pair) (InPair other) = pair_source pair (From (InWord 0)) other
source (Pop _) (InWord i) = From (InWord (suc i))
source Drop (InWord i) = From (InWord (suc i))
source Swap (InPair other) = pair_source Hl (From (InWord 0)) other
source Swap (InWord zero) = From (InPair Hl)
source Exchange (InPair De) = From (InPair Hl)
source Exchange (InPair Hl) = From (InPair De)
source (Forget pair) (InPair other) = pair_source pair Unknown other
source (SetStack _) (InWord i) = Unknown
source _ place = From place

-- where each place of the caller comes from when a callee has taken a given number of words
abbrev pub source_after : (taken : ℕ) → Place → Source
source_after taken (InPair _) = Unknown
source_after taken (InWord i) = From (InWord (taken + i))

-- a change takes each place from one place, or it is any word
abbrev pub ChangesByPlaces : Type 0
ChangesByPlaces = (change : Change) (f : StackFrame) (place : Place) →
    word_at (changed change f) place ≡ sourced f (source change place)

-- so does a return
abbrev pub ReturnsByPlaces : Type 0
ReturnsByPlaces = (taken : ℕ) (f : StackFrame) (place : Place) →
    word_at (returned taken f) place ≡ sourced f (source_after taken place)

-- where frames meet each place is what meets there
abbrev pub MeetsByPlaces : Type 0
MeetsByPlaces = (f g : StackFrame) (place : Place) → agree f g ≡ true →
    word_at (merged f g) place ≡ met (word_at f place) (word_at g place)

-- two frames have the same counts: as many words taken, and as many words
pub record SameCounts (f g : StackFrame) : Type 0 where
  pub taken : f.taken ≡ g.taken
  pub words : length f.words ≡ length g.words

-- a frame covers another: the counts are the same, and it has the return address only if the other has
pub record Covers (f g : StackFrame) : Type 0 where
  pub counts : SameCounts f g
  pub own : (place : Place) → word_at f place ≡ Own → word_at g place ≡ Own

-- frames of the same counts go the same way: what may be done with one may be done with the other, but for a return, and they
-- have the same counts after it
pub record CountsDecide (f g : StackFrame) : Type 0 where
  pub agrees : agree f g ≡ true
  pub fault : (role : Role) (change : Change) → change_fault role change f.words ≡ change_fault role change g.words
  pub change : (change : Change) → SameCounts (changed change f) (changed change g)
  pub room : (role : Role) → room role f.words ≡ room role g.words
  pub return : (taken : ℕ) → SameCounts (returned taken f) (returned taken g)

abbrev pub CountsAlone : Type 0
CountsAlone = (f g : StackFrame) → SameCounts f g → CountsDecide f g

-- a frame that is covered goes where the frame that covers it goes, and is covered there; where that one meets another frame, on
-- either side, it is covered by both together
pub record CoversOn (f g : StackFrame) : Type 0 where
  pub change : (change : Change) → Covers (changed change f) (changed change g)
  pub return : (taken : ℕ) → Covers (returned taken f) (returned taken g)
  pub may_return : (role : Role) → return_fault role f.words ≡ None → return_fault role g.words ≡ None
  pub meet : (h : StackFrame) → agree f h ≡ true → Covers (merged f h) g
  pub meet_other : (h : StackFrame) → agree h f ≡ true → Covers (merged h f) g

abbrev pub CoveredGoesAlong : Type 0
CoveredGoesAlong = (f g : StackFrame) → Covers f g → CoversOn f g

-- an entry's return is refused for a frame only if its counts refuse it, or for a top word that may be any
abbrev pub ReturnRefused : Type 0
ReturnRefused = (role : Role) (f g : StackFrame) → SameCounts f g → (word_at f (InWord 0) ≡ Any → word_at g (InWord 0) ≡ Any) →
    (fault : FrameFault) → return_fault role f.words ≡ Some fault → return_fault role g.words ≡ Some fault
