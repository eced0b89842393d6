-- A fitting table covers every walk, so none of them goes wrong.
use Rattle.std.specs.Prelude.{◌≡◌, ◌≤◌, ℕ, Option, Some, Result, Ok, Err}
use Rattle.std.proofs.Common.{ap, sym, ◌∙◌, subst, arith, true≢false}
use Rattle.decode80.specs.declared.fetching.Fetched.{Fetched}
use Rattle.frames80.specs.declared.fault.FrameFault.{FrameFault}
use Rattle.frames80.specs.declared.moves.Moves.{Moves}
use Rattle.frames80.specs.StackFrame.{StackFrame, entry_frame}
use Rattle.frames80.specs.Effects.{effect_of}
use Rattle.frames80.specs.Moves.{moves_of}
use Rattle.frames80.specs.Calls.{room, returned}
use Rattle.frames80.specs.Places.{SameCounts, Covers}
use Rattle.frames80.specs.declared.procedure.Procedure.{Procedure}
use Rattle.frames80.specs.declared.procedure.Procedure.TheVariants.{Main, Entry}
use Rattle.frames80_interned.specs.Admitted.{move_of}
use Rattle.frames80.specs.declared.code.LookFault.{LookFault}
use Rattle.frames80.specs.Code.{Code, role_of}
use Rattle.verify80_flow.specs.Walks.{Walk, begins, goes_on, enters, comes_back, Calls, Returns, Moving, LeadsTo, called, returning}
use Rattle.verify80_flow.specs.Faults.{LooksWrong, MovesWrong, Differ, Uneven, Short}
use Rattle.verify80_flow.specs.Fitting.{Table, Has, Closes, CallFits, Fits}
use Rattle.verify80_flow.specs.Shown.{FrameLaws}
use Rattle.verify80_flow.proofs.MoveLemmas.{change_of, frame_after, moved_is, covered_moves, LeadsAlong, leads_along, called_along, returning_along}
use Rattle.verify80_flow.proofs.ShownLemmas.{counts_back, counts_then}

covers_then : (f g h : StackFrame) → Covers f g → Covers g h → Covers f h
covers_then f g h one two = record { counts = counts_then f g h one.counts two.counts; own = λ place own. two.own place (one.own place own) }

has_then : (table : Table) (p : Procedure) (at : ℕ) (f g : StackFrame) → Has table p at f → Covers f g → Has table p at g
has_then table p at f g has covers = record { frame = has.frame; there = has.there; covers = covers_then has.frame f g has.covers covers }

pub found_same : (r : Result Fetched LookFault) (a b : Fetched) → r ≡ Ok a → r ≡ Ok b → a ≡ b
found_same r a b one other = cc

not_found : (r : Result Fetched LookFault) (a : Fetched) (fault : LookFault) → r ≡ Ok a → r ≡ Err fault → ⊥
not_found r a fault one other = cc

not_moved : (r : Result Moves FrameFault) (a : Moves) (fault : FrameFault) → r ≡ Ok a → r ≡ Err fault → ⊥
not_moved r a fault one other = cc

-- a table that fits closes
pub fits_close : (code : Code) (table : Table) → Fits code table → Closes code table
fits_close code table fits = record {
  start = fits.start;
  frames = λ p at f there. let here = fits.frames p at f there in record {
    found = here.found;
    moves = here.moves;
    moving = here.moving;
    on = here.on;
    return = here.return;
    enters = λ target is. (here.call target is).enters;
    after = λ target taken is takes. (here.call target is).after taken takes;
  };
}

-- a frame of the table over a frame that moves: it moves by the same effect, and each way on is in the table
record Over (code : Code) (table : Table) (p : Procedure) (at : ℕ) (f : StackFrame) (found : Fetched) (moves : Moves) : Type 0 where
  frame : StackFrame
  covers : Covers frame f
  move : moves ≡ move_of (effect_of found.instr) f
  on : (to : ℕ) (g : StackFrame) → LeadsTo (move_of (effect_of found.instr) frame) (code.targets at) found.next to g → Has table p to g
  enters : (target : ℕ) → called (move_of (effect_of found.instr) frame) ≡ Some target → Has table (Entry target) target entry_frame
  after : (target taken : ℕ) → called (move_of (effect_of found.instr) frame) ≡ Some target → table.takes (Entry target) ≡ Some taken → Has table p found.next (returned taken frame)
  return : (taken : ℕ) → returning (move_of (effect_of found.instr) frame) ≡ Some taken → table.takes p ≡ Some taken

-- the moves of a frame that covers another one, by the effect of what is found there
pub moves_there : (code : Code) (p : Procedure) (at : ℕ) (frame : StackFrame) (here found : Fetched) (moves : Moves) → Moving code p at frame here moves → here ≡ found →
    moves ≡ move_of (effect_of found.instr) frame
moves_there code p at frame here found moves moving same =
    (moved_is (role_of code p) (effect_of found.instr) frame moves
    (subst (λ (x : Fetched). moves_of (role_of code p) (effect_of x.instr) frame ≡ Ok moves) same moving.moved)).move

over : (code : Code) (table : Table) → Closes code table → (p : Procedure) (at : ℕ) (f : StackFrame) → Has table p at f →
    (found : Fetched) (moves : Moves) → Moving code p at f found moves → Over code table p at f found moves
over code table closes p at f has found moves moving =
    let here = closes.frames p at has.frame has.there in
    let effect = effect_of found.instr in
    let same : here.found ≡ found = found_same (code.look at) here.found found here.moving.looked moving.looked in
    let there : here.moves ≡ move_of effect has.frame = moves_there code p at has.frame here.found found here.moves here.moving same in
    record {
      frame = has.frame;
      covers = has.covers;
      move = (moved_is (role_of code p) effect f moves moving.moved).move;
      on = subst (λ (m : Moves). (to : ℕ) (g : StackFrame) → LeadsTo m (code.targets at) found.next to g → Has table p to g) there
          (subst (λ (x : Fetched). (to : ℕ) (g : StackFrame) → LeadsTo here.moves (code.targets at) x.next to g → Has table p to g) same here.on);
      enters = subst (λ (m : Moves). (target : ℕ) → called m ≡ Some target → Has table (Entry target) target entry_frame) there here.enters;
      after = subst (λ (m : Moves). (target taken : ℕ) → called m ≡ Some target → table.takes (Entry target) ≡ Some taken → Has table p found.next (returned taken has.frame)) there
          (subst (λ (x : Fetched). (target taken : ℕ) → called here.moves ≡ Some target → table.takes (Entry target) ≡ Some taken → Has table p x.next (returned taken has.frame)) same here.after);
      return = subst (λ (m : Moves). (taken : ℕ) → returning m ≡ Some taken → table.takes p ≡ Some taken) there here.return;
    }

-- a call of a frame is one of the frame over it
called_over : (code : Code) (table : Table) (p : Procedure) (at : ℕ) (f : StackFrame) (target next : ℕ) (call : Calls code p at f target next) →
    (o : Over code table p at f call.found call.moves) → called (move_of (effect_of call.found.instr) o.frame) ≡ Some target
called_over code table p at f target next call o = called_along (effect_of call.found.instr) o.frame f ∙ ap called (sym o.move) ∙ call.call

-- the table's number of words taken is that of any walk that returns
pub takes_of : (code : Code) (table : Table) → Closes code table → (p : Procedure) (at : ℕ) (f : StackFrame) → Has table p at f → (taken : ℕ) →
    Returns code p at f taken → table.takes p ≡ Some taken
takes_of code table closes p at f has taken returns =
    let o = over code table closes p at f has returns.found returns.moves returns.moving in
    let effect = effect_of returns.found.instr in
    o.return taken (returning_along effect o.frame f o.covers.counts.taken ∙ ap returning (sym o.move) ∙ returns.return)

-- every walk is covered
pub covers_walks : FrameLaws → (code : Code) (table : Table) → Closes code table → (p : Procedure) (at : ℕ) (g : StackFrame) → Walk code p at g → Has table p at g
covers_walks laws code table closes p at g (begins _ _ _ is) =
    subst (λ (q : Procedure). Has table q at g) (sym is.procedure)
    (subst (λ a. Has table Main a g) (sym is.start) (subst (λ (f : StackFrame). Has table Main code.start f) (sym is.frame) closes.start))
covers_walks laws code table closes p to g (goes_on _ at f _ _ walk step) =
    let o = over code table closes p at f (covers_walks laws code table closes p at f walk) step.found step.moves step.moving in
    let effect = effect_of step.found.instr in
    let along : LeadsAlong effect f o.frame (code.targets at) step.found.next to g =
    leads_along effect f o.frame (code.targets at) step.found.next to g (subst (λ (m : Moves). LeadsTo m (code.targets at) step.found.next to g) o.move step.leads) in
    let after : Has table p to (frame_after effect f) =
    has_then table p to (frame_after effect o.frame) (frame_after effect f) (o.on to (frame_after effect o.frame) along.other)
    ((laws.covered o.frame f o.covers).change (change_of effect)) in
    subst (λ (h : StackFrame). Has table p to h) (sym along.frame) after
covers_walks laws code table closes q start g (enters p at f target next _ _ _ walk call is) =
    let o = over code table closes p at f (covers_walks laws code table closes p at f walk) call.found call.moves call.moving in
    subst (λ (r : Procedure). Has table r start g) (sym is.procedure)
    (subst (λ a. Has table (Entry target) a g) (sym is.start)
    (subst (λ (h : StackFrame). Has table (Entry target) target h) (sym is.frame) (o.enters target (called_over code table p at f target next call o))))
covers_walks laws code table closes p next g (comes_back _ at f target _ exit h taken _ walk call callee returns after) =
    let o = over code table closes p at f (covers_walks laws code table closes p at f walk) call.found call.moves call.moving in
    let takes = takes_of code table closes (Entry target) exit h (covers_walks laws code table closes (Entry target) exit h callee) taken returns in
    let there : Has table p next (returned taken o.frame) =
    subst (λ n. Has table p n (returned taken o.frame)) (sym call.after) (o.after target taken (called_over code table p at f target next call o) takes) in
    let back : Has table p next (returned taken f) =
    has_then table p next (returned taken o.frame) (returned taken f) there ((laws.covered o.frame f o.covers).return taken) in
    subst (λ (x : StackFrame). Has table p next x) (sym after.frame) back

-- a call fits where its caller is covered
call_fits : (code : Code) (table : Table) → Fits code table → (p : Procedure) (at : ℕ) (f : StackFrame) → Has table p at f → (target next : ℕ) →
    (call : Calls code p at f target next) → (F : StackFrame) × (Covers F f) × (CallFits code table p next F target)
call_fits code table fits p at f has target next call =
    let here = fits.frames p at has.frame has.there in
    let effect = effect_of call.found.instr in
    let same : here.found ≡ call.found = found_same (code.look at) here.found call.found here.moving.looked call.moving.looked in
    let there : here.moves ≡ move_of effect has.frame = moves_there code p at has.frame here.found call.found here.moves here.moving same in
    let mine : call.moves ≡ move_of effect f = (moved_is (role_of code p) effect f call.moves call.moving.moved).move in
    let is : called here.moves ≡ Some target = ap called there ∙ called_along effect has.frame f ∙ ap called (sym mine) ∙ call.call in (
      has.frame,
      has.covers,
      subst (λ n. CallFits code table p n has.frame target) (ap (λ (x : Fetched). x.next) same ∙ sym call.after) (here.call target is),
    )

-- so no walk is at a fault
pub no_look_fault : FrameLaws → (code : Code) (table : Table) → Fits code table → (at : ℕ) (fault : LookFault) → LooksWrong code at fault → ⊥
no_look_fault laws code table fits at fault wrong =
    let has = covers_walks laws code table (fits_close code table fits) wrong.procedure at wrong.frame wrong.walk in
    let here = fits.frames wrong.procedure at has.frame has.there in
    not_found (code.look at) here.found fault here.moving.looked wrong.looked

pub no_move_fault : FrameLaws → (code : Code) (table : Table) → Fits code table → (at : ℕ) (fault : FrameFault) → MovesWrong code at fault → ⊥
no_move_fault laws code table fits at fault wrong =
    let has = covers_walks laws code table (fits_close code table fits) wrong.procedure at wrong.frame wrong.walk in
    let here = fits.frames wrong.procedure at has.frame has.there in
    let same : here.found ≡ wrong.found = found_same (code.look at) here.found wrong.found here.moving.looked wrong.looked in
    let effect = effect_of wrong.found.instr in
    let moved : moves_of (role_of code wrong.procedure) effect has.frame ≡ Ok here.moves =
    subst (λ (x : Fetched). moves_of (role_of code wrong.procedure) (effect_of x.instr) has.frame ≡ Ok here.moves) same here.moving.moved in
    let along = covered_moves laws (role_of code wrong.procedure) effect has.frame wrong.frame here.moves has.covers moved in
    not_moved (moves_of (role_of code wrong.procedure) effect wrong.frame) (move_of effect wrong.frame) fault along wrong.moved

same_frame : (r : Option StackFrame) (a b : StackFrame) → r ≡ Some a → r ≡ Some b → a ≡ b
same_frame r a b one other = cc

same_count : (r : Option ℕ) (a b : ℕ) → r ≡ Some a → r ≡ Some b → a ≡ b
same_count r a b one other = cc

frames_same : (table : Table) (p : Procedure) (at : ℕ) (f g : StackFrame) → (one : Has table p at f) → (other : Has table p at g) → SameCounts f g
frames_same table p at f g one other =
    let same : one.frame ≡ other.frame = same_frame (table.frame p at) one.frame other.frame one.there other.there in
    counts_then f one.frame g (counts_back one.frame f one.covers.counts) (subst (λ (x : StackFrame). SameCounts x g) (sym same) other.covers.counts)

pub no_differ : FrameLaws → (code : Code) (table : Table) → Fits code table → (at : ℕ) → Differ code at → ⊥
no_differ laws code table fits at d =
    let one = covers_walks laws code table (fits_close code table fits) d.procedure at d.one d.walk_one in
    let other = covers_walks laws code table (fits_close code table fits) d.procedure at d.other d.walk_other in
    let same = (laws.counts d.one d.other (frames_same table d.procedure at d.one d.other one other)).agrees in
    true≢false (sym same ∙ d.differ)

pub no_uneven : FrameLaws → (code : Code) (table : Table) → Fits code table → (at : ℕ) → Uneven code at → ⊥
no_uneven laws code table fits at u =
    let one = takes_of code table (fits_close code table fits) u.procedure at u.frame (covers_walks laws code table (fits_close code table fits) u.procedure at u.frame u.walk) u.taken u.returns in
    let other = takes_of code table (fits_close code table fits) u.procedure u.other u.other_frame (covers_walks laws code table (fits_close code table fits) u.procedure u.other u.other_frame u.walk_other) u.other_taken u.returns_other in
    u.differ (same_count (table.takes u.procedure) u.taken u.other_taken one other)

-- no walk takes more words than its procedure wants
pub wants_above : FrameLaws → (code : Code) (table : Table) → Fits code table → (p : Procedure) (at : ℕ) (f : StackFrame) → Walk code p at f → f.taken ≤ table.wants p
wants_above laws code table fits p at f walk =
    let has = covers_walks laws code table (fits_close code table fits) p at f walk in
    subst (λ n. n ≤ table.wants p) has.covers.counts.taken (fits.frames p at has.frame has.there).wants

pub no_short : FrameLaws → (code : Code) (table : Table) → Fits code table → (at : ℕ) → Short code at → ⊥
no_short laws code table fits at s =
    let c = call_fits code table fits s.procedure at s.frame (covers_walks laws code table (fits_close code table fits) s.procedure at s.frame s.walk) s.target s.next s.call in
    let wants = wants_above laws code table fits (Entry s.target) s.inside s.callee s.walk_callee in
    let enough : table.wants (Entry s.target) ≤ room (role_of code s.procedure) s.frame.words =
    subst (λ n. table.wants (Entry s.target) ≤ n) ((laws.counts c.0 s.frame c.1.counts).room (role_of code s.procedure)) c.2.words in
    let less = s.short in omega arith
