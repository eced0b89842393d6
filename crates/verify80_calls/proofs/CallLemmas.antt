-- The calls at the points of a procedure.
use Rattle.std.specs.Prelude.{◌≡◌, ℕ, zero, suc, ◌<◌, List, [], ◌∷◌, All, AllPairs, Contains, Option, None, Some, Result, Ok, Err, length, slice_index_or, refl}
use Rattle.std.specs.Result.{result_ok}
use Rattle.std.proofs.Common.{◌∙◌, ap, sym, subst, arith}
use Rattle.std.specs.List.{filter_map, cons_option}
use Rattle.std.specs.Option.{option_map}
use Rattle.std.proofs.lemmas.List.Elements.{All-nil, All-cons, All-head, All-tail}
use Rattle.decode80.specs.declared.fetching.Fetched.{Fetched}
use Rattle.frames80.specs.declared.role.Role.{Role}
use Rattle.frames80.specs.declared.fault.FrameFault.{FrameFault}
use Rattle.frames80.specs.declared.effect.Effect.{Effect}
use Rattle.frames80.specs.declared.effect.Effect.TheVariants.{Change, Halt, Jump, JumpIf, Case, Call as Calling, CallIf, Return, ReturnIf, Refuse}
use Rattle.frames80.specs.declared.moves.Moves.{Moves}
use Rattle.frames80.specs.declared.moves.Moves.TheVariants.{End, On, Jump as MovesTo, Either, Case as Cases, Call as CallOf, MaybeCall, Return as ReturnOf, MaybeReturn}
use Rattle.frames80.specs.StackFrame.{StackFrame}
use Rattle.frames80.specs.Effects.{effect_of}
use Rattle.frames80.specs.Moves.{moves_of, changed, change_fault, return_fault, unless}
use Rattle.frames80.specs.Calls.{depth_by}
use Rattle.frames80.specs.declared.procedure.Procedure.{Procedure}
use Rattle.frames80.specs.declared.code.LookFault.{LookFault}
use Rattle.frames80.specs.Code.{Code, role_of}
use Rattle.verify80_flow.specs.FittingLaws.{NoFault}
use Rattle.verify80_flow.specs.Walks.{Walk, Moving, Calls, called}
use Rattle.verify80_flow.specs.declared.report.ProgramPoint.{ProgramPoint}
use Rattle.verify80_flow.specs.ProgramPoints.{IsReachedPoint}
use Rattle.verify80_calls.specs.declared.calls.Call.{Call}
use Rattle.verify80_calls.specs.Calls.{AreCalls, IsCall}
use Rattle.verify80_calls.specs.Points.{ArePointsOf, call_at, call_of, call_to, called_by}

-- a move that is answered
unless_ok : (fault : Option FrameFault) (move moves : Moves) → unless fault move ≡ Ok moves → move ≡ moves
unless_ok None move moves is = cc
unless_ok (Some fault) move moves is = absurd (cc)

ok_is : (move moves : Moves) (r : Result Moves FrameFault) → r ≡ Ok move → r ≡ Ok moves → move ≡ moves
ok_is move moves r one other = cc

refused : {X : Type 0} (fault : FrameFault) (moves : Moves) (r : Result Moves FrameFault) → r ≡ Err fault → r ≡ Ok moves → X
refused fault moves r one other = absurd (cc)

-- what a walk reaches may be executed
record Admits (code : Code) (p : Procedure) (at : ℕ) (f : StackFrame) : Type 0 where
  found : Fetched
  moves : Moves
  moving : Moving code p at f found moves

admits : (code : Code) → NoFault code → (p : Procedure) (at : ℕ) (f : StackFrame) → Walk code p at f → Admits code p at f
admits code none p at f walk = by_look (code.look at) refl
  where
    by_moves : (found : Fetched) → code.look at ≡ Ok found → (r : Result Moves FrameFault) → moves_of (role_of code p) (effect_of found.instr) f ≡ r → Admits code p at f
    by_moves found looked (Ok moves) is = record { found = found; moves = moves; moving = record { looked = looked; moved = is } }
    by_moves found looked (Err fault) is = absurd (none.move at fault (record { procedure = p; frame = f; found = found; walk = walk; looked = looked; moved = is }))

    by_look : (r : Result Fetched LookFault) → code.look at ≡ r → Admits code p at f
    by_look (Ok found) is = by_moves found is (moves_of (role_of code p) (effect_of found.instr) f) refl
    by_look (Err fault) is = absurd (none.look at fault (record { procedure = p; frame = f; walk = walk; looked = is }))

-- what a move calls
none_called : {X : Type 0} (move moves : Moves) (target : ℕ) → move ≡ moves → called move ≡ None → called moves ≡ Some target → X
none_called move moves target same none calls = let e : None ≡ Some target = sym none ∙ ap called same ∙ calls in absurd (cc)

called_is : (move moves : Moves) (target a : ℕ) → move ≡ moves → called move ≡ Some a → called moves ≡ Some target → target ≡ a
called_is move moves target a same some calls = let e : Some a ≡ Some target = sym some ∙ ap called same ∙ calls in cc

-- what a move calls is what its effect calls
pub calls_by : (role : Role) (e : Effect) (f : StackFrame) (moves : Moves) (target : ℕ) → moves_of role e f ≡ Ok moves → called moves ≡ Some target → called_by e ≡ Some target
calls_by role (Change change) f moves target moved calls = none_called (On (changed change f)) moves target (unless_ok (change_fault role change f.words) (On (changed change f)) moves moved) refl calls
calls_by role Halt f moves target moved calls = none_called End moves target (ok_is End moves _ refl moved) refl calls
calls_by role (Jump a) f moves target moved calls = none_called (MovesTo f a) moves target (ok_is (MovesTo f a) moves _ refl moved) refl calls
calls_by role (JumpIf a) f moves target moved calls = none_called (Either f a) moves target (ok_is (Either f a) moves _ refl moved) refl calls
calls_by role Case f moves target moved calls = none_called (Cases f) moves target (ok_is (Cases f) moves _ refl moved) refl calls
calls_by role (Calling a) f moves target moved calls = ap Some (sym (called_is (CallOf f a) moves target a (ok_is (CallOf f a) moves _ refl moved) refl calls))
calls_by role (CallIf a) f moves target moved calls = ap Some (sym (called_is (MaybeCall f a) moves target a (ok_is (MaybeCall f a) moves _ refl moved) refl calls))
calls_by role Return f moves target moved calls = none_called (ReturnOf f.taken) moves target (unless_ok (return_fault role f.words) (ReturnOf f.taken) moves moved) refl calls
calls_by role ReturnIf f moves target moved calls = none_called (MaybeReturn f f.taken) moves target (unless_ok (return_fault role f.words) (MaybeReturn f f.taken) moves moved) refl calls
calls_by role (Refuse fault) f moves target moved calls = refused fault moves _ refl moved

-- and the other way
pub called_as : (role : Role) (e : Effect) (f : StackFrame) (moves : Moves) (target : ℕ) → moves_of role e f ≡ Ok moves → called_by e ≡ Some target → called moves ≡ Some target
called_as role (Change change) f moves target moved calls = absurd (cc calls)
called_as role Halt f moves target moved calls = absurd (cc calls)
called_as role (Jump a) f moves target moved calls = absurd (cc calls)
called_as role (JumpIf a) f moves target moved calls = absurd (cc calls)
called_as role Case f moves target moved calls = absurd (cc calls)
called_as role (Calling a) f moves target moved calls = sym (ap called (ok_is (CallOf f a) moves _ refl moved)) ∙ calls
called_as role (CallIf a) f moves target moved calls = sym (ap called (ok_is (MaybeCall f a) moves _ refl moved)) ∙ calls
called_as role Return f moves target moved calls = absurd (cc calls)
called_as role ReturnIf f moves target moved calls = absurd (cc calls)
called_as role (Refuse fault) f moves target moved calls = absurd (cc calls)

-- a call on a walk
is_calling : (code : Code) → NoFault code → (p : Procedure) (at : ℕ) (f : StackFrame) → Walk code p at f → (found : Fetched) → code.look at ≡ Ok found → (target : ℕ) →
    called_by (effect_of found.instr) ≡ Some target → Calls code p at f target found.next
is_calling code none p at f walk found looked target calling =
    let a : Admits code p at f = admits code none p at f walk in
    let one : Ok found ≡ Ok a.found = sym looked ∙ a.moving.looked in
    let same : found ≡ a.found = cc one in
    record {
      found = a.found;
      moves = a.moves;
      moving = a.moving;
      call = called_as (role_of code p) (effect_of a.found.instr) f a.moves target a.moving.moved (subst (λ (x : Fetched). called_by (effect_of x.instr) ≡ Some target) same calling);
      after = ap (λ (x : Fetched). x.next) same;
    }

-- ---- the calls at points

module _ (code : Code) (none : NoFault code) (p : Procedure) where
  -- the call at a point is one of a walk
  is_call : (point : ProgramPoint) → IsReachedPoint code point → point.procedure ≡ p → (call : Call) → call_at code point ≡ Some call → IsCall code p call
  is_call point reached own call is = subst (λ (q : Procedure). IsCall code q call) own (by_look (code.look point.at) refl is)
    where
      by_target : (found : Fetched) → code.look point.at ≡ Ok found → (o : Option ℕ) → called_by (effect_of found.instr) ≡ o → option_map (call_to code point) o ≡ Some call →
          IsCall code point.procedure call
      by_target found looked None calling e = absurd (cc)
      by_target found looked (Some target) calling e =
          let same : call_to code point target ≡ call = cc in
          subst (IsCall code point.procedure) same (record {
            frame = reached.frame;
            next = found.next;
            walk = reached.walk;
            calls = is_calling code none point.procedure point.at reached.frame reached.walk found looked target calling;
            depth = ap (λ n. depth_by (role_of code point.procedure) n point.taken) reached.words
                ∙ ap (λ n. depth_by (role_of code point.procedure) (length reached.frame.words) n) reached.taken;
          })

      by_look : (r : Result Fetched LookFault) → code.look point.at ≡ r → call_of code point (result_ok r) ≡ Some call → IsCall code point.procedure call
      by_look (Err fault) looked e = absurd (cc)
      by_look (Ok found) looked e = by_target found looked (called_by (effect_of found.instr)) refl e

  each_call : (points : List ProgramPoint) → All (IsReachedPoint code) points → All (λ (point : ProgramPoint). point.procedure ≡ p) points →
      All (IsCall code p) (filter_map (call_at code) points)
  each_call [] reached own = All-nil (IsCall code p)
  each_call (point ∷ points) reached own =
      by (each_call points (All-tail (IsReachedPoint code) point points reached) (All-tail (λ (x : ProgramPoint). x.procedure ≡ p) point points own))
      (call_at code point) refl
    where
      by : All (IsCall code p) (filter_map (call_at code) points) → (o : Option Call) → call_at code point ≡ o →
          All (IsCall code p) (cons_option o (filter_map (call_at code) points))
      by rest None is = rest
      by rest (Some call) is =
          All-cons (IsCall code p) call (filter_map (call_at code) points)
          (is_call point (All-head (IsReachedPoint code) point points reached) (All-head (λ (x : ProgramPoint). x.procedure ≡ p) point points own) call is) rest

  -- the address of a call is that of its point
  place_of : (point : ProgramPoint) (call : Call) → call_at code point ≡ Some call → call.at ≡ point.at
  place_of point call is = by_look (result_ok (code.look point.at)) is
    where
      by_target : (o : Option ℕ) → option_map (call_to code point) o ≡ Some call → call.at ≡ point.at
      by_target None e = absurd (cc)
      by_target (Some target) e = let same : call_to code point target ≡ call = cc in sym (ap (λ (c : Call). c.at) same)

      by_look : (o : Option Fetched) → call_of code point o ≡ Some call → call.at ≡ point.at
      by_look None e = absurd (cc)
      by_look (Some found) e = by_target (called_by (effect_of found.instr)) e

  above : (place : ℕ) (points : List ProgramPoint) → All (λ (point : ProgramPoint). place < point.at) points →
      All (λ (call : Call). place < call.at) (filter_map (call_at code) points)
  above place [] all = All-nil (λ (call : Call). place < call.at)
  above place (point ∷ points) all = by (above place points (All-tail (λ (x : ProgramPoint). place < x.at) point points all)) (call_at code point) refl
    where
      by : All (λ (call : Call). place < call.at) (filter_map (call_at code) points) → (o : Option Call) → call_at code point ≡ o →
          All (λ (call : Call). place < call.at) (cons_option o (filter_map (call_at code) points))
      by rest None is = rest
      by rest (Some call) is =
          All-cons (λ (c : Call). place < c.at) call (filter_map (call_at code) points)
          (subst (λ n. place < n) (sym (place_of point call is)) (All-head (λ (x : ProgramPoint). place < x.at) point points all)) rest

  -- a call before others
  pairs_cons : (call : Call) (calls : List Call) → All (λ (c : Call). call.at < c.at) calls → AllPairs (λ (a b : Call). a.at < b.at) calls →
      (i j : ℕ) (d : Call) → i < j → j < length (call ∷ calls) → (slice_index_or (call ∷ calls) i d).at < (slice_index_or (call ∷ calls) j d).at
  pairs_cons call calls head tail i zero d order inside = absurd (omega (arith, order))
  pairs_cons call calls head tail zero (suc j) d order inside = head j d (omega (arith, inside))
  pairs_cons call calls head tail (suc i) (suc j) d order inside = tail i j d (omega (arith, order)) (omega (arith, inside))

  rising : (points : List ProgramPoint) → AllPairs (λ (a b : ProgramPoint). a.at < b.at) points → AllPairs (λ (a b : Call). a.at < b.at) (filter_map (call_at code) points)
  rising [] pairs = λ i j d order inside. absurd (omega (arith, inside))
  rising (point ∷ points) pairs =
      by (rising points (λ i j d order inside. pairs (suc i) (suc j) d (omega (arith, order)) (omega (arith, inside)))) (call_at code point) refl
    where
      by : AllPairs (λ (a b : Call). a.at < b.at) (filter_map (call_at code) points) → (o : Option Call) → call_at code point ≡ o →
          AllPairs (λ (a b : Call). a.at < b.at) (cons_option o (filter_map (call_at code) points))
      by rest None is = rest
      by rest (Some call) is = pairs_cons call (filter_map (call_at code) points)
          (subst (λ n. All (λ (c : Call). n < c.at) (filter_map (call_at code) points)) (sym (place_of point call is))
          (above point.at points (λ j d less. pairs 0 (suc j) d (omega arith) (omega (arith, less))))) rest

  -- a point's call is there
  contains_call : (points : List ProgramPoint) (k : ℕ) (point : ProgramPoint) (call : Call) → k < length points → slice_index_or points k point ≡ point →
      call_at code point ≡ Some call → Contains (filter_map (call_at code) points) call
  contains_call [] k point call inside here is = absurd (omega (arith, inside))
  contains_call (first ∷ points) zero point call inside here is =
      let e : call_at code first ≡ Some call = ap (call_at code) here ∙ is in
      subst (λ (o : Option Call). Contains (cons_option o (filter_map (call_at code) points)) call) (sym e) (0, omega arith, refl)
  contains_call (first ∷ points) (suc k) point call inside here is = by (contains_call points k point call (omega (arith, inside)) here is) (call_at code first)
    where
      by : Contains (filter_map (call_at code) points) call → (o : Option Call) → Contains (cons_option o (filter_map (call_at code) points)) call
      by rest None = rest
      by rest (Some other) = (suc rest.0, let r = rest.1 in omega (arith, r), rest.2)

  -- what is at a point of a walk's call
  call_there : (at : ℕ) (f : StackFrame) (target next : ℕ) → Calls code p at f target next → (point : ProgramPoint) → point.at ≡ at →
      call_at code point ≡ Some (call_to code point target)
  call_there at f target next calls point place =
      let looked : code.look point.at ≡ Ok calls.found = ap code.look place ∙ calls.moving.looked in
      let calling : called_by (effect_of calls.found.instr) ≡ Some target =
      calls_by (role_of code p) (effect_of calls.found.instr) f calls.moves target calls.moving.moved calls.call in
      ap (λ (r : Result Fetched LookFault). call_of code point (result_ok r)) looked ∙ ap (option_map (call_to code point)) calling

  pub are_calls : (points : List ProgramPoint) → ArePointsOf code p points → AreCalls code p (filter_map (call_at code) points)
  are_calls points are = record {
    each = each_call points are.each are.own;
    all = λ at f target next walk calls.
        let has = are.all at f walk in
        record {
          call = call_to code has.point target;
          there = contains_call points has.there.0 has.point (call_to code has.point target) has.there.1 has.there.2
              (call_there at f target next calls has.point has.at);
          at = has.at;
          target = refl;
          depth = ap (λ (q : Procedure). depth_by (role_of code q) has.point.words has.point.taken) has.procedure
              ∙ ap (λ n. depth_by (role_of code p) n has.point.taken) has.words
              ∙ ap (λ n. depth_by (role_of code p) (length f.words) n) has.taken;
        };
    by_address = rising points are.by_address;
  }
