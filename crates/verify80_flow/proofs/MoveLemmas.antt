-- What becomes of frames with the same counts at one instruction, by its effect.
use Rattle.std.specs.Prelude.{◌≡◌, ◌≢◌, ℕ, Bool, true, false, List, Option, Some, None, Ok, Err, refl, if◌then◌else◌}
use Rattle.std.proofs.Common.{ap, sym, ◌∙◌}
use Rattle.frames80.specs.declared.word.Word.{Word}
use Rattle.frames80.specs.declared.word.Word.TheVariants.{Own, Any}
use Rattle.frames80.specs.declared.role.Role.{Role}
use Rattle.frames80.specs.declared.role.Role.TheVariants.{Main, Entry}
use Rattle.frames80.specs.declared.fault.FrameFault.{FrameFault}
use Rattle.frames80.specs.declared.fault.FrameFault.TheVariants.{ReturnNotOwn}
use Rattle.frames80.specs.declared.effect.Change.{Change}
use Rattle.frames80.specs.declared.effect.Change.TheVariants.{Keep}
use Rattle.frames80.specs.declared.effect.Effect.{Effect}
use Rattle.frames80.specs.declared.effect.Effect.TheVariants.{Change as Changes, Halt, Jump, JumpIf, Case, Call, CallIf, Return, ReturnIf, Refuse}
use Rattle.frames80.specs.declared.moves.Moves.{Moves}
use Rattle.frames80.specs.StackFrame.{StackFrame}
use Rattle.frames80.specs.Moves.{moves_of, changed, change_fault, return_fault, is_own_alone, unless}
use Rattle.frames80.specs.Places.{InWord, word_at, Covers}
use Rattle.frames80_interned.specs.Admitted.{move_of}
use Rattle.verify80_flow.specs.Walks.{LeadsTo, called, returning}
use Rattle.verify80_flow.specs.Shown.{Query, Whole, At, MayBeAny, FrameLaws}

-- the change that an effect makes before it leads on, and the frame there
abbrev pub change_of : Effect → Change
change_of (Changes change) = change
change_of _ = Keep

abbrev pub frame_after : Effect → StackFrame → StackFrame
frame_after effect f = changed (change_of effect) f

-- why an effect is refused, if it is
abbrev pub fault_of : Role → Effect → StackFrame → Option FrameFault
fault_of role (Changes change) f = change_fault role change f.words
fault_of role Return f = return_fault role f.words
fault_of role ReturnIf f = return_fault role f.words
fault_of role (Refuse fault) f = Some fault
fault_of role _ f = None

-- a move is that of its effect, and nothing refuses it
pub moves_by : (role : Role) (effect : Effect) (f : StackFrame) → moves_of role effect f ≡ unless (fault_of role effect f) (move_of effect f)
moves_by role (Changes change) f = refl
moves_by role Halt f = refl
moves_by role (Jump to) f = refl
moves_by role (JumpIf to) f = refl
moves_by role Case f = refl
moves_by role (Call to) f = refl
moves_by role (CallIf to) f = refl
moves_by role Return f = refl
moves_by role ReturnIf f = refl
moves_by role (Refuse fault) f = refl

pub record Moved (role : Role) (effect : Effect) (f : StackFrame) (moves : Moves) : Type 0 where
  pub none : fault_of role effect f ≡ None
  pub move : moves ≡ move_of effect f

unless_ok : (fault : Option FrameFault) (move moves : Moves) → unless fault move ≡ Ok moves → (fault ≡ None) × (moves ≡ move)
unless_ok None move moves is = (refl, cc)
unless_ok (Some fault) move moves is = absurd (cc)

unless_err : (found : Option FrameFault) (move : Moves) (fault : FrameFault) → unless found move ≡ Err fault → found ≡ Some fault
unless_err None move fault is = absurd (cc)
unless_err (Some found) move fault is = cc

pub moved_is : (role : Role) (effect : Effect) (f : StackFrame) (moves : Moves) → moves_of role effect f ≡ Ok moves → Moved role effect f moves
moved_is role effect f moves is =
    let parts = unless_ok (fault_of role effect f) (move_of effect f) moves (sym (moves_by role effect f) ∙ is) in
    record { none = parts.0; move = parts.1 }

pub refused_is : (role : Role) (effect : Effect) (f : StackFrame) (fault : FrameFault) → moves_of role effect f ≡ Err fault → fault_of role effect f ≡ Some fault
refused_is role effect f fault is = unless_err (fault_of role effect f) (move_of effect f) fault (sym (moves_by role effect f) ∙ is)

pub moves_ok : (role : Role) (effect : Effect) (f : StackFrame) → fault_of role effect f ≡ None → moves_of role effect f ≡ Ok (move_of effect f)
moves_ok role effect f none = moves_by role effect f ∙ ap (λ fault. unless fault (move_of effect f)) none

pub moves_err : (role : Role) (effect : Effect) (f : StackFrame) (fault : FrameFault) → fault_of role effect f ≡ Some fault → moves_of role effect f ≡ Err fault
moves_err role effect f fault some = moves_by role effect f ∙ ap (λ found. unless found (move_of effect f)) some

-- what a frame may do, one that it covers may do
covered_fault : FrameLaws → (role : Role) (effect : Effect) (f w : StackFrame) → Covers f w → fault_of role effect f ≡ None → fault_of role effect w ≡ None
covered_fault laws role (Changes change) f w covers none = sym ((laws.counts f w covers.counts).fault role change) ∙ none
covered_fault laws role Halt f w covers none = refl
covered_fault laws role (Jump to) f w covers none = refl
covered_fault laws role (JumpIf to) f w covers none = refl
covered_fault laws role Case f w covers none = refl
covered_fault laws role (Call to) f w covers none = refl
covered_fault laws role (CallIf to) f w covers none = refl
covered_fault laws role Return f w covers none = (laws.covered f w covers).may_return role none
covered_fault laws role ReturnIf f w covers none = (laws.covered f w covers).may_return role none
covered_fault laws role (Refuse fault) f w covers none = none

pub covered_moves : FrameLaws → (role : Role) (effect : Effect) (f w : StackFrame) (moves : Moves) → Covers f w → moves_of role effect f ≡ Ok moves →
    moves_of role effect w ≡ Ok (move_of effect w)
covered_moves laws role effect f w moves covers is =
    moves_ok role effect w (covered_fault laws role effect f w covers (moved_is role effect f moves is).none)

-- where a move leads is a matter of the effect: with another frame it leads there too
pub record LeadsAlong (effect : Effect) (f w : StackFrame) (targets : List ℕ) (next to : ℕ) (g : StackFrame) : Type 0 where
  pub frame : g ≡ frame_after effect f
  pub other : LeadsTo (move_of effect w) targets next to (frame_after effect w)

pub leads_along : (effect : Effect) (f w : StackFrame) (targets : List ℕ) (next to : ℕ) (g : StackFrame) → LeadsTo (move_of effect f) targets next to g →
    LeadsAlong effect f w targets next to g
leads_along (Changes change) f w targets next to g leads = record { frame = leads.1; other = (leads.0, refl) }
leads_along Halt f w targets next to g leads = absurd leads
leads_along (Jump address) f w targets next to g leads = record { frame = leads.1; other = (leads.0, refl) }
leads_along (JumpIf address) f w targets next to g leads = record { frame = leads.1; other = (leads.0, refl) }
leads_along Case f w targets next to g leads = record { frame = leads.1; other = (leads.0, refl) }
leads_along (Call address) f w targets next to g leads = absurd leads
leads_along (CallIf address) f w targets next to g leads = record { frame = leads.1; other = (leads.0, refl) }
leads_along Return f w targets next to g leads = absurd leads
leads_along ReturnIf f w targets next to g leads = record { frame = leads.1; other = (leads.0, refl) }
leads_along (Refuse fault) f w targets next to g leads = absurd leads

pub called_along : (effect : Effect) (f w : StackFrame) → called (move_of effect f) ≡ called (move_of effect w)
called_along (Changes change) f w = refl
called_along Halt f w = refl
called_along (Jump to) f w = refl
called_along (JumpIf to) f w = refl
called_along Case f w = refl
called_along (Call to) f w = refl
called_along (CallIf to) f w = refl
called_along Return f w = refl
called_along ReturnIf f w = refl
called_along (Refuse fault) f w = refl

pub returning_along : (effect : Effect) (f w : StackFrame) → f.taken ≡ w.taken → returning (move_of effect f) ≡ returning (move_of effect w)
returning_along (Changes change) f w same = refl
returning_along Halt f w same = refl
returning_along (Jump to) f w same = refl
returning_along (JumpIf to) f w same = refl
returning_along Case f w same = refl
returning_along (Call to) f w same = refl
returning_along (CallIf to) f w same = refl
returning_along Return f w same = ap (λ n. Some n) same
returning_along ReturnIf f w same = ap (λ n. Some n) same
returning_along (Refuse fault) f w same = refl

-- what to ask of a frame that is refused, so that a walk which answers is refused too
abbrev pub any_query : Word → Query
any_query Own = Whole
any_query Any = At (InWord 0)

abbrev pub query_of : Effect → StackFrame → Query
query_of Return f = any_query (word_at f (InWord 0))
query_of ReturnIf f = any_query (word_at f (InWord 0))
query_of _ f = Whole

asked_at : (f : StackFrame) (word : Word) → word_at f (InWord 0) ≡ word → MayBeAny f (any_query word)
asked_at f Own is = tt
asked_at f Any is = is

pub asked : (effect : Effect) (f : StackFrame) → MayBeAny f (query_of effect f)
asked (Changes change) f = tt
asked Halt f = tt
asked (Jump to) f = tt
asked (JumpIf to) f = tt
asked Case f = tt
asked (Call to) f = tt
asked (CallIf to) f = tt
asked Return f = asked_at f (word_at f (InWord 0)) refl
asked ReturnIf f = asked_at f (word_at f (InWord 0)) refl
asked (Refuse fault) f = tt

answered_at : (f w : StackFrame) (word : Word) → word_at f (InWord 0) ≡ word → MayBeAny w (any_query word) → word_at f (InWord 0) ≡ Any → word_at w (InWord 0) ≡ Any
answered_at f w Own is answer any = absurd (let e : Own ≡ Any = sym is ∙ any in cc)
answered_at f w Any is answer any = answer

refused_fault : FrameLaws → (role : Role) (effect : Effect) (f w : StackFrame) (fault : FrameFault) → Covers f w → MayBeAny w (query_of effect f) →
    fault_of role effect f ≡ Some fault → fault_of role effect w ≡ Some fault
refused_fault laws role (Changes change) f w fault covers answer some = sym ((laws.counts f w covers.counts).fault role change) ∙ some
refused_fault laws role Halt f w fault covers answer some = some
refused_fault laws role (Jump to) f w fault covers answer some = some
refused_fault laws role (JumpIf to) f w fault covers answer some = some
refused_fault laws role Case f w fault covers answer some = some
refused_fault laws role (Call to) f w fault covers answer some = some
refused_fault laws role (CallIf to) f w fault covers answer some = some
refused_fault laws role Return f w fault covers answer some = laws.refused role f w covers.counts (answered_at f w (word_at f (InWord 0)) refl answer) fault some
refused_fault laws role ReturnIf f w fault covers answer some = laws.refused role f w covers.counts (answered_at f w (word_at f (InWord 0)) refl answer) fault some
refused_fault laws role (Refuse found) f w fault covers answer some = some

pub refused_along : FrameLaws → (role : Role) (effect : Effect) (f w : StackFrame) (fault : FrameFault) → Covers f w → MayBeAny w (query_of effect f) →
    moves_of role effect f ≡ Err fault → moves_of role effect w ≡ Err fault
refused_along laws role effect f w fault covers answer is =
    moves_err role effect w fault (refused_fault laws role effect f w fault covers answer (refused_is role effect f fault is))

-- the counts refuse all but a word that isn't the return address
own_refused : (role : Role) (xs ys : List Word) (fault : FrameFault) → fault ≢ ReturnNotOwn → return_fault role xs ≡ Some fault → return_fault role ys ≡ Some fault
own_refused (Main top) xs ys fault apart some = some
own_refused Entry xs ys fault apart some = absurd (apart (not_own (is_own_alone xs) some))
  where
    not_own : (alone : Bool) → (if alone then None else Some ReturnNotOwn) ≡ Some fault → fault ≡ ReturnNotOwn
    not_own true is = absurd (let e : None ≡ Some fault = is in cc)
    not_own false is = cc

counted_fault : FrameLaws → (role : Role) (effect : Effect) (f w : StackFrame) (fault : FrameFault) → Covers f w → fault ≢ ReturnNotOwn →
    fault_of role effect f ≡ Some fault → fault_of role effect w ≡ Some fault
counted_fault laws role (Changes change) f w fault covers apart some = sym ((laws.counts f w covers.counts).fault role change) ∙ some
counted_fault laws role Halt f w fault covers apart some = some
counted_fault laws role (Jump to) f w fault covers apart some = some
counted_fault laws role (JumpIf to) f w fault covers apart some = some
counted_fault laws role Case f w fault covers apart some = some
counted_fault laws role (Call to) f w fault covers apart some = some
counted_fault laws role (CallIf to) f w fault covers apart some = some
counted_fault laws role Return f w fault covers apart some = own_refused role f.words w.words fault apart some
counted_fault laws role ReturnIf f w fault covers apart some = own_refused role f.words w.words fault apart some
counted_fault laws role (Refuse found) f w fault covers apart some = some

pub refused_by_counts : FrameLaws → (role : Role) (effect : Effect) (f w : StackFrame) (fault : FrameFault) → Covers f w → fault ≢ ReturnNotOwn →
    moves_of role effect f ≡ Err fault → moves_of role effect w ≡ Err fault
refused_by_counts laws role effect f w fault covers apart is =
    moves_err role effect w fault (counted_fault laws role effect f w fault covers apart (refused_is role effect f fault is))
