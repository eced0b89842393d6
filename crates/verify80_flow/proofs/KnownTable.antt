-- The table that is known, as frames by procedure and address: a closed one closes.
use Rattle.std.specs.Prelude.{◌≡◌, ℕ, zero, suc, Bool, true, false, nat_eq, List, [], ◌∷◌, Option, Some, None, slice_get, if◌then◌else◌, refl}
use Rattle.std.proofs.Common.{ap, sym, ◌∙◌, subst}
use Rattle.std.specs.Cmp.{unsigned_Decides, first_so, second_so}
use Rattle.decode80.specs.declared.fetching.Fetched.{Fetched}
use Rattle.frames80.specs.declared.fault.FrameFault.TheVariants.{ReturnFromMain}
use Rattle.frames80.specs.declared.effect.Effect.{Effect}
use Rattle.frames80.specs.declared.effect.Effect.TheVariants.{Change as Changes, Halt, Jump, JumpIf, Case, Call, CallIf, Return, ReturnIf, Refuse}
use Rattle.frames80.specs.declared.moves.Moves.{Moves}
use Rattle.frames80.specs.StackFrame.{StackFrame, entry_frame, main_frame}
use Rattle.frames80.specs.Effects.{effect_of}
use Rattle.frames80.specs.Calls.{returned}
use Rattle.frames80.specs.declared.procedure.Procedure.{Procedure}
use Rattle.frames80.specs.declared.procedure.Procedure.TheVariants.{Main, Entry}
use Rattle.frames80_interned.specs.Admitted.{move_of}
use Rattle.frames80.specs.Code.{Code, role_of}
use Rattle.verify80_flow.specs.Walks.{Moving, returning}
use Rattle.frames80.specs.PointNumbers.{same_procedure, same_is, is_same}
use Rattle.verify80_flow.specs.Points.{Point, AreApart, is_at}
use Rattle.verify80_flow.specs.Fitting.{Table, Has, FrameCloses, Closes}
use Rattle.verify80_flow.proofs.MoveLemmas.{fault_of, moved_is}
use Rattle.verify80_flow.specs.Known.{Known, HasPoint, Follows, AllClosed, takes_of}

-- the frame of the first point of that address of that procedure
abbrev pub frame_at : List Point → Procedure → ℕ → Option StackFrame
frame_at [] p at = None
frame_at (point ∷ points) p at = if is_at p at point then Some point.frame else frame_at points p at

pub at_is : (p : Procedure) (at : ℕ) (point : Point) → is_at p at point ≡ true → (point.procedure ≡ p) × (point.at ≡ at)
at_is p at point same = (
  sym (same_is p point.procedure (first_so (same_procedure p point.procedure) (nat_eq at point.at) same)),
  sym ((unsigned_Decides at point.at).0 (second_so (same_procedure p point.procedure) (nat_eq at point.at) same)),
)

pub is_there : (point : Point) → is_at point.procedure point.at point ≡ true
is_there point = rw (is_same point.procedure, (unsigned_Decides point.at point.at).1 refl) refl

-- a point that stands somewhere in the list
pub record StandsAt (points : List Point) (p : Procedure) (at : ℕ) (f : StackFrame) : Type 0 where
  pub number : ℕ
  pub point : Point
  pub there : slice_get points number ≡ Some point
  pub procedure : point.procedure ≡ p
  pub address : point.at ≡ at
  pub frame : point.frame ≡ f

-- what is found stands in the list
pub found_stands : (points : List Point) (p : Procedure) (at : ℕ) (f : StackFrame) → frame_at points p at ≡ Some f → StandsAt points p at f
found_stands [] p at f is = absurd (let e : None ≡ Some f = is in cc)
found_stands (point ∷ points) p at f is = by (is_at p at point) refl (found_stands points p at f)
  where
    by : (b : Bool) → is_at p at point ≡ b → (frame_at points p at ≡ Some f → StandsAt points p at f) → StandsAt (point ∷ points) p at f
    by true same rest =
        let e : Some point.frame ≡ Some f = rw same at is in
        let parts = at_is p at point same in
        record { number = 0; point = point; there = refl; procedure = parts.0; address = parts.1; frame = cc }
    by false other rest =
        let e : frame_at points p at ≡ Some f = rw other at is in
        let s : StandsAt points p at f = rest e in
        record { number = suc s.number; point = s.point; there = s.there; procedure = s.procedure; address = s.address; frame = s.frame }

-- what stands in the list is found, or an earlier point of the same place
pub stands_found : (points : List Point) (i : ℕ) (point : Point) → slice_get points i ≡ Some point → (f : StackFrame) × (frame_at points point.procedure point.at ≡ Some f)
stands_found [] i point is = absurd (let e : None ≡ Some point = is in cc)
stands_found (first ∷ points) zero point is =
    let e : first ≡ point = cc in (
      point.frame,
      subst (λ (q : Point). (if is_at point.procedure point.at q then Some q.frame else frame_at points point.procedure point.at) ≡ Some point.frame) (sym e)
          (rw (is_there point) refl),
    )
stands_found (first ∷ points) (suc i) point is = by (is_at point.procedure point.at first) refl (stands_found points i point is)
  where
    by : (b : Bool) → is_at point.procedure point.at first ≡ b → ((f : StackFrame) × (frame_at points point.procedure point.at ≡ Some f)) →
        (f : StackFrame) × (frame_at (first ∷ points) point.procedure point.at ≡ Some f)
    by true same rest = (first.frame, rw same refl)
    by false other rest = (rest.0, rw other rest.1)

same_option : (o : Option Point) (x y : Point) → o ≡ Some x → o ≡ Some y → x ≡ y
same_option o x y one other = cc

pub there_found : (points : List Point) → AreApart points → (i : ℕ) (point : Point) (p : Procedure) (at : ℕ) → slice_get points i ≡ Some point → point.procedure ≡ p → point.at ≡ at →
    frame_at points p at ≡ Some point.frame
there_found points apart i point p at there procedure address =
    let found = stands_found points i point there in
    let s = found_stands points point.procedure point.at found.0 found.1 in
    let number : s.number ≡ i = apart.apart s.number i s.point point s.there there s.procedure s.address in
    let same : s.point ≡ point = same_option (slice_get points i) s.point point (subst (λ n. slice_get points n ≡ Some s.point) number s.there) there in
    let frame : found.0 ≡ point.frame = sym s.frame ∙ ap (λ (q : Point). q.frame) same in
    let here : frame_at points point.procedure point.at ≡ Some point.frame = found.1 ∙ ap (λ (f : StackFrame). Some f) frame in
    subst (λ (q : Procedure). frame_at points q at ≡ Some point.frame) procedure (subst (λ a. frame_at points point.procedure a ≡ Some point.frame) address here)

-- the table that is known, with these numbers of words and bytes
abbrev pub known_table : Known → (Procedure → ℕ) → (Procedure → ℕ) → Table
known_table known wants bound = record { frame = frame_at known.points; takes = takes_of known.exits; wants = wants; bound = bound }

pub has_point : (known : Known) (wants bound : Procedure → ℕ) → AreApart known.points → (p : Procedure) (at : ℕ) (g : StackFrame) → HasPoint known p at g → Has (known_table known wants bound) p at g
has_point known wants bound apart p at g has = record {
  frame = has.point.frame;
  there = there_found known.points apart has.number has.point p at has.there has.procedure has.address;
  covers = has.covers;
}

-- the main program never returns
main_stays : (code : Code) (at : ℕ) (f : StackFrame) (found : Fetched) (moves : Moves) (taken : ℕ) → Moving code Main at f found moves → returning moves ≡ Some taken → ⊥
main_stays code at f found moves taken moving returns =
    let moved = moved_is (role_of code Main) (effect_of found.instr) f moves moving.moved in
    no_return (effect_of found.instr) moved.none (ap returning (sym moved.move) ∙ returns)
  where
    no_return : (effect : Effect) → fault_of (role_of code Main) effect f ≡ None → returning (move_of effect f) ≡ Some taken → ⊥
    no_return (Changes made) none is = let e : None ≡ Some taken = is in cc
    no_return Halt none is = let e : None ≡ Some taken = is in cc
    no_return (Jump to) none is = let e : None ≡ Some taken = is in cc
    no_return (JumpIf to) none is = let e : None ≡ Some taken = is in cc
    no_return Case none is = let e : None ≡ Some taken = is in cc
    no_return (Call to) none is = let e : None ≡ Some taken = is in cc
    no_return (CallIf to) none is = let e : None ≡ Some taken = is in cc
    no_return Return none is = let e : Some ReturnFromMain ≡ None = none in cc
    no_return ReturnIf none is = let e : Some ReturnFromMain ≡ None = none in cc
    no_return (Refuse fault) none is = let e : None ≡ Some taken = is in cc

pub closes_return : (code : Code) (known : Known) (wants bound : Procedure → ℕ) (p : Procedure) (at : ℕ) (f : StackFrame) (found : Fetched) (moves : Moves) →
    Moving code p at f found moves → Follows known p (code.targets at) f found.next moves → (taken : ℕ) → returning moves ≡ Some taken → takes_of known.exits p ≡ Some taken
closes_return code known wants bound Main at f found moves moving follows taken is = absurd (main_stays code at f found moves taken moving is)
closes_return code known wants bound (Entry entry) at f found moves moving follows taken is = follows.return entry taken refl is

-- a closed table closes
pub known_closes : (code : Code) (known : Known) (wants bound : Procedure → ℕ) → AreApart known.points → AllClosed code known → Closes code (known_table known wants bound)
known_closes code known wants bound apart closed = record {
  start = has_point known wants bound apart Main code.start main_frame closed.start;
  frames = λ p at f there. frames p at f (found_stands known.points p at f there);
}
  where
    frames : (p : Procedure) (at : ℕ) (f : StackFrame) → StandsAt known.points p at f → FrameCloses code (known_table known wants bound) p at f
    frames p at f s =
        let c = closed.points s.number s.point s.there in
        let moving : Moving code p at f c.found c.moves =
        subst (λ (q : Procedure). Moving code q at f c.found c.moves) s.procedure
        (subst (λ a. Moving code s.point.procedure a f c.found c.moves) s.address
        (subst (λ (g : StackFrame). Moving code s.point.procedure s.point.at g c.found c.moves) s.frame c.moving)) in
        let follows : Follows known p (code.targets at) f c.found.next c.moves =
        subst (λ (q : Procedure). Follows known q (code.targets at) f c.found.next c.moves) s.procedure
        (subst (λ a. Follows known s.point.procedure (code.targets a) f c.found.next c.moves) s.address
        (subst (λ (g : StackFrame). Follows known s.point.procedure (code.targets s.point.at) g c.found.next c.moves) s.frame c.follows)) in
        record {
          found = c.found;
          moves = c.moves;
          moving = moving;
          on = λ to g leads. has_point known wants bound apart p to g (follows.on to g leads);
          enters = λ target is. has_point known wants bound apart (Entry target) target entry_frame (follows.enters target is);
          after = λ target taken is takes. has_point known wants bound apart p c.found.next (returned taken f) (follows.after target taken is takes);
          return = closes_return code known wants bound p at f c.found c.moves moving follows;
        }
