-- What stands where walks lead, and where it leads.
use Rattle.std.specs.Prelude.{◌≡◌, ℕ, ◌<◌, ◌≤◌, List, [], ◌∷◌, None, Some, Result, Ok, Err, drop, refl}
use Rattle.std.proofs.Common.{◌∙◌, ap, sym, subst, inl, inr}
use Rattle.std.proofs.lemmas.Bool.{cases_lt}
use Rattle.decode80.specs.declared.fetching.Fetched.{Fetched}
use Rattle.frames80.specs.declared.role.Role.{Role}
use Rattle.frames80.specs.declared.fault.FrameFault.{FrameFault}
use Rattle.frames80.specs.declared.effect.Effect.{Effect}
use Rattle.frames80.specs.declared.effect.Effect.TheVariants.{Change as Changes, Halt, Jump, JumpIf as JumpsIf, Case, Call as CallsTo, CallIf as CallsIf, Return, ReturnIf as ReturnsIf, Refuse}
use Rattle.frames80.specs.declared.moves.Moves.{Moves}
use Rattle.frames80.specs.declared.moves.Moves.TheVariants.{End, On, Jump as MovesTo, Either, Case as Cases, Call as CallOf, MaybeCall, Return as ReturnOf, MaybeReturn}
use Rattle.frames80.specs.StackFrame.{StackFrame, entry_frame}
use Rattle.frames80.specs.Effects.{effect_of}
use Rattle.frames80.specs.Moves.{moves_of, changed as changed_frame, change_fault, return_fault}
use Rattle.frames80.specs.Calls.{room, returned}
use Rattle.machine80.specs.World.{IsNewest}
use Rattle.frames80.specs.declared.procedure.Procedure.{Procedure}
use Rattle.frames80.specs.declared.procedure.Procedure.TheVariants.{Main, Entry}
use Rattle.frames80.specs.declared.code.LookFault.{LookFault}
use Rattle.frames80.specs.Code.{Code, role_of}
use Rattle.verify80_flow.specs.Walks.{Walk, goes_on, enters, comes_back, Moving, LeadsTo, Calls, Returns, called, returning}
use Rattle.verify80_flow.specs.FittingLaws.{NoFault}
use Rattle.verify80.specs.Reached.{IsBehindCall}
use Rattle.verify80.proofs.StepLemmas.{unless_ok}

-- the main program has no open call
pub record IsAlone (p : Procedure) (places : List ℕ) : Type 0 where
  pub procedure : p ≡ Main
  pub none : places ≡ []

-- a procedure was called on a walk of another one, and returns behind that call
pub record WasCalled (code : Code) (p : Procedure) (places : List ℕ) (q : Procedure) (at : ℕ) (f : StackFrame) (target next : ℕ) (older : List ℕ) : Type 0 where
  pub procedure : p ≡ Entry target
  pub newest : places ≡ next ∷ older
  pub walk : Walk code q at f
  pub call : Calls code q at f target next

-- the open calls of a procedure: each place is the one behind a call on a walk of the procedure below it
pub data OpenCalls (code : Code) : Procedure → List ℕ → Type 0 where
  in_main : (p : Procedure) (places : List ℕ) → IsAlone p places → OpenCalls code p places
  in_call : (p : Procedure) (places : List ℕ) (q : Procedure) (at : ℕ) (f : StackFrame) (target next : ℕ) (older : List ℕ) →
      WasCalled code p places q at f target next older → OpenCalls code q older → OpenCalls code p places

-- a walk reaches an address, with such open calls
pub record OnWalk (code : Code) (at : ℕ) (places : List ℕ) : Type 0 where
  pub procedure : Procedure
  pub frame : StackFrame
  pub walk : Walk code procedure at frame
  pub calls : OpenCalls code procedure places

-- what a walk reaches may be executed
pub record Admits (code : Code) (p : Procedure) (at : ℕ) (f : StackFrame) : Type 0 where
  pub found : Fetched
  pub moves : Moves
  pub moving : Moving code p at f found moves

pub admits : (code : Code) → NoFault code → (p : Procedure) (at : ℕ) (f : StackFrame) → Walk code p at f → Admits code p at f
admits code none p at f walk = by_look (code.look at) refl
  where
    by_moves : (found : Fetched) → code.look at ≡ Ok found → (r : Result Moves FrameFault) → moves_of (role_of code p) (effect_of found.instr) f ≡ r → Admits code p at f
    by_moves found looked (Ok moves) is = record { found = found; moves = moves; moving = record { looked = looked; moved = is } }
    by_moves found looked (Err fault) is = absurd (none.move at fault (record { procedure = p; frame = f; found = found; walk = walk; looked = looked; moved = is }))

    by_look : (r : Result Fetched LookFault) → code.look at ≡ r → Admits code p at f
    by_look (Ok found) is = by_moves found is (moves_of (role_of code p) (effect_of found.instr) f) refl
    by_look (Err fault) is = absurd (none.look at fault (record { procedure = p; frame = f; walk = walk; looked = is }))

-- a return takes what its frame has taken
ok_is : (m moves : Moves) (r : Result Moves FrameFault) → r ≡ Ok m → r ≡ Ok moves → m ≡ moves
ok_is m moves r one other = cc

never_returns : (m moves : Moves) (taken : ℕ) (r : Result Moves FrameFault) → r ≡ Ok m → r ≡ Ok moves → returning m ≡ None → returning moves ≡ Some taken → ⊥
never_returns m moves taken r one other none return = let e : None ≡ Some taken = sym none ∙ ap returning (ok_is m moves r one other) ∙ return in cc

returns_taken : (role : Role) (e : Effect) (f : StackFrame) (moves : Moves) (taken : ℕ) → moves_of role e f ≡ Ok moves → returning moves ≡ Some taken → taken ≡ f.taken
returns_taken role (Changes change) f moves taken is return =
    let e : None ≡ Some taken = ap returning (sym (unless_ok (change_fault role change f.words) (On (changed_frame change f)) moves is).1) ∙ return in absurd (cc)
returns_taken role Return f moves taken is return =
    let e : Some f.taken ≡ Some taken = ap returning (sym (unless_ok (return_fault role f.words) (ReturnOf f.taken) moves is).1) ∙ return in cc
returns_taken role ReturnsIf f moves taken is return =
    let e : Some f.taken ≡ Some taken = ap returning (sym (unless_ok (return_fault role f.words) (MaybeReturn f f.taken) moves is).1) ∙ return in cc
returns_taken role (Refuse fault) f moves taken is return = absurd (cc)
returns_taken role Halt f moves taken is return = absurd (never_returns End moves taken _ refl is refl return)
returns_taken role (Jump to) f moves taken is return = absurd (never_returns (MovesTo f to) moves taken _ refl is refl return)
returns_taken role (JumpsIf to) f moves taken is return = absurd (never_returns (Either f to) moves taken _ refl is refl return)
returns_taken role Case f moves taken is return = absurd (never_returns (Cases f) moves taken _ refl is refl return)
returns_taken role (CallsTo to) f moves taken is return = absurd (never_returns (CallOf f to) moves taken _ refl is refl return)
returns_taken role (CallsIf to) f moves taken is return = absurd (never_returns (MaybeCall f to) moves taken _ refl is refl return)

-- where a return goes: behind the newest call, on a walk of the caller
record GoesBack (code : Code) (to : ℕ) (places : List ℕ) : Type 0 where
  behind : IsBehindCall code to
  walk : OnWalk code to (drop 1 places)

goes_back : (code : Code) → NoFault code → (p : Procedure) (places : List ℕ) → OpenCalls code p places → (exit : ℕ) (h : StackFrame) → Walk code p exit h →
    (taken : ℕ) → Returns code p exit h taken → (to : ℕ) → IsNewest to places → GoesBack code to places
goes_back code none p places (in_main _ _ alone) exit h walk taken returns to newest =
    absurd (let e : [] ≡ to ∷ newest.0 = sym alone.none ∙ newest.1 in cc)
goes_back code none p places (in_call _ _ q at f target next older under rest) exit h walk taken returns to newest =
    let same : next ∷ older ≡ to ∷ newest.0 = sym under.newest ∙ newest.1 in
    let to_is : next ≡ to = cc same in
    let walk_there : Walk code (Entry target) exit h = subst (λ (x : Procedure). Walk code x exit h) under.procedure walk in
    let returns_there : Returns code (Entry target) exit h taken = subst (λ (x : Procedure). Returns code x exit h taken) under.procedure returns in
    subst (λ (n : ℕ). GoesBack code n places) to_is (record {
      behind = record { caller = q; place = at; frame = f; target = target; taken = taken; walk = under.walk; call = under.call; returns = record { at = exit; frame = h; walk = walk_there; returns = returns_there } };
      walk = record {
        procedure = q;
        frame = returned taken f;
        walk = comes_back q at f target next exit h taken (returned taken f) under.walk under.call walk_there returns_there (record { enough = enough walk_there returns_there; frame = refl });
        calls = subst (λ (ps : List ℕ). OpenCalls code q (drop 1 ps)) (sym under.newest) rest;
      };
    })
  where
    enough : Walk code (Entry target) exit h → Returns code (Entry target) exit h taken → taken ≤ room (role_of code q) f.words
    enough walk_there returns_there = elim (cases_lt (room (role_of code q) f.words) taken) [
      | inl less ↦ absurd (none.short at (record {
        procedure = q;
        frame = f;
        target = target;
        next = next;
        inside = exit;
        callee = h;
        walk = under.walk;
        call = under.call;
        walk_callee = walk_there;
        short = subst (λ (n : ℕ). room (role_of code q) f.words < n) (returns_taken (role_of code (Entry target)) (effect_of returns_there.found.instr) h returns_there.moves taken returns_there.moving.moved returns_there.return) less;
      }))
      | inr more ↦ more
    ]

-- where a move leads, with such open calls
pub record Ways (code : Code) (at : ℕ) (next : ℕ) (places : List ℕ) (moves : Moves) : Type 0 where
  pub on : (to : ℕ) (g : StackFrame) → LeadsTo moves (code.targets at) next to g → OnWalk code to places
  pub call : (target : ℕ) → called moves ≡ Some target → OnWalk code target (next ∷ places)
  pub behind : (taken : ℕ) → returning moves ≡ Some taken → (to : ℕ) → IsNewest to places → IsBehindCall code to
  pub back : (taken : ℕ) → returning moves ≡ Some taken → (to : ℕ) → IsNewest to places → OnWalk code to (drop 1 places)

pub ways : (code : Code) → NoFault code → (p : Procedure) (at : ℕ) (f : StackFrame) → Walk code p at f → (places : List ℕ) → OpenCalls code p places →
    (found : Fetched) (moves : Moves) → Moving code p at f found moves → Ways code at found.next places moves
ways code none p at f walk places calls found moves moving = record {
  on = λ to g leads. record { procedure = p; frame = g; walk = goes_on p at f to g walk (record { found = found; moves = moves; moving = moving; leads = leads }); calls = calls };
  call = λ target is.
      let call : Calls code p at f target found.next = record { found = found; moves = moves; moving = moving; call = is; after = refl } in
      record {
        procedure = Entry target;
        frame = entry_frame;
        walk = enters p at f target found.next (Entry target) target entry_frame walk call (record { procedure = refl; start = refl; frame = refl });
        calls = in_call (Entry target) (found.next ∷ places) p at f target found.next places (record { procedure = refl; newest = refl; walk = walk; call = call }) calls;
      };
  behind = λ taken is to newest. (goes_back code none p places calls at f walk taken (record { found = found; moves = moves; moving = moving; return = is }) to newest).behind;
  back = λ taken is to newest. (goes_back code none p places calls at f walk taken (record { found = found; moves = moves; moving = moving; return = is }) to newest).walk;
}
