-- The refusal of an instruction with a frame: what a look finds decides it, it names the address, and it holds of a program on conditions,
-- too.
use Rattle.std.proofs.Common.{◌≡◌, ℕ, Bool, true, false, List, [], ◌∷◌, refl, sym, ◌∙◌, ap, subst, inl, inr}
use Rattle.std.specs.Prelude.{◌==◌, Option, None, Some, Result, Ok, Err, IfSome, if◌then◌else◌}
use Rattle.decode80.specs.declared.fetching.Fetched.{Fetched}
use Rattle.decode80.specs.declared.instr.Instr.{Instr}
use Rattle.decode80.specs.declared.instr.Instr.TheVariants.{Lxi, Inx, Dcx, Sphl as InstrSphl}
use Rattle.decode80.specs.declared.pair.Pair.{Pair}
use Rattle.decode80.specs.declared.pair.Pair.TheVariants.{Sp}
use Rattle.frames80.specs.declared.code.LookFault.{LookFault}
use Rattle.frames80.specs.declared.effect.Change.{Change}
use Rattle.frames80.specs.declared.effect.Change.TheVariants.{Pop, Drop, Swap, SetStack}
use Rattle.frames80.specs.declared.effect.Effect.{Effect}
use Rattle.frames80.specs.declared.effect.Effect.TheVariants.{Change as Changes, Call, Return, ReturnIf, Refuse}
use Rattle.frames80.specs.declared.fault.FrameFault.{FrameFault}
use Rattle.frames80.specs.declared.fault.FrameFault.TheVariants.{Memory, SetsStack}
use Rattle.frames80.specs.declared.moves.Moves.{Moves}
use Rattle.frames80.specs.declared.procedure.Procedure.{Procedure}
use Rattle.frames80.specs.declared.procedure.Procedure.TheVariants.{Main as MainProcedure, Entry as EntryProcedure}
use Rattle.frames80.specs.declared.role.Role.{Role}
use Rattle.frames80.specs.declared.role.Role.TheVariants.{Main, Entry}
use Rattle.frames80.specs.declared.word.Word.{Word}
use Rattle.frames80.specs.declared.word.Word.TheVariants.{Own, Any}
use Rattle.frames80.specs.Code.{Code, role_of}
use Rattle.frames80.specs.Effects.{effect_of, loaded}
use Rattle.frames80.specs.Moves.{change_fault, load_fault, moves_of, pop_fault, return_fault, unless}
use Rattle.frames80.specs.StackFrame.{StackFrame}
use Rattle.verify80_flow.specs.Faults.{Holds, MovesWrong}
use Rattle.verify80_flow.specs.declared.refusal.Refusal.{Refusal}
use Rattle.verify80_flow.specs.Refusal.{look_refusal, refusal_address, refusal_of}
use Rattle.verify80_flow.specs.Walks.{Walk}
use Rattle.verify80_walks.specs.declared.point.Point.{Point}
use Rattle.verify80_walks.specs.Reached.{IsMoving, IsStuck}
use Rattle.verify80_explain.specs.declared.conditions.Conditions.{Conditions}
use Rattle.verify80_explain.specs.declared.reaching.ReachedPoint.{ReachedPoint}
use Rattle.verify80_explain.specs.Conditions.{call_if, code_from, seen_if}
use Rattle.verify80_explain.specs.Reaching.{IsReachedAt, IsRefusedAt, refusal_by, refusal_found, refusal_with}

-- ---- by what a look at a point finds

pub wrong : (code : Code) (point : Point) (fault : LookFault) → code.look point.at ≡ Err fault
    → refusal_with code point.procedure point.at point.frame ≡ Some (look_refusal fault point.at)
wrong code point fault is = ap (refusal_found (role_of code point.procedure) point.frame point.at) is

pub stuck : (code : Code) (point : Point) (fault : FrameFault) → IsStuck code point fault
    → refusal_with code point.procedure point.at point.frame ≡ Some (refusal_of fault point.at)
stuck code point fault is = ap (refusal_found (role_of code point.procedure) point.frame point.at) is.looked
    ∙ ap (refusal_by point.at) is.moved

pub moving : (code : Code) (point : Point) (moves : Moves) (next : ℕ) → IsMoving code point moves next
    → refusal_with code point.procedure point.at point.frame ≡ None
moving code point moves next is = ap (refusal_found (role_of code point.procedure) point.frame point.at) is.moving.looked
    ∙ ap (refusal_by point.at) is.moving.moved

-- ---- a refusal names the address

abbrev NamesIt : FrameFault → Type 0
NamesIt fault = (at : ℕ) → refusal_address (refusal_of fault at) ≡ Some at

abbrev NameIt : Option FrameFault → Type 0
NameIt None = Unit {0}
NameIt (Some fault) = NamesIt fault

abbrev Named : Result Moves FrameFault → Type 0
Named (Ok moves) = Unit {0}
Named (Err fault) = NamesIt fault

abbrev RefusesIt : Effect → Type 0
RefusesIt (Refuse fault) = NamesIt fault
RefusesIt effect = Unit {0}

by_fault : (o : Option FrameFault) (moves : Moves) → NameIt o → Named (unless o moves)
by_fault None moves is = tt
by_fault (Some fault) moves is = is

by_pop : (role : Role) (words : List Word) → NameIt (pop_fault role words)
by_pop (Main top) [] = λ at. refl
by_pop (Main top) (word ∷ words) = tt
by_pop Entry words = tt

by_test : (is_top : Bool) → NameIt (if is_top then None else Some SetsStack)
by_test true = tt
by_test false = λ at. refl

by_load : (role : Role) (address : ℕ) → NameIt (load_fault role address)
by_load (Main top) address = by_test (top == address)
by_load Entry address = λ at. refl

by_return : (role : Role) (words : List Word) → NameIt (return_fault role words)
by_return (Main top) words = λ at. refl
by_return Entry [] = λ at. refl
by_return Entry (Own ∷ []) = tt
by_return Entry (Own ∷ word ∷ words) = λ at. refl
by_return Entry (Any ∷ words) = λ at. refl

by_change : (role : Role) (change : Change) (words : List Word) → NameIt (change_fault role change words)
by_change role (Pop pair) words = by_pop role words
by_change role Drop words = by_pop role words
by_change role Swap words = by_pop role words
by_change role (SetStack address) words = by_load role address
by_change role _ words = tt

by_effect : (role : Role) (effect : Effect) (f : StackFrame) → RefusesIt effect → Named (moves_of role effect f)
by_effect role (Changes change) f is = by_fault (change_fault role change f.words) _ (by_change role change f.words)
by_effect role Return f is = by_fault (return_fault role f.words) _ (by_return role f.words)
by_effect role ReturnIf f is = by_fault (return_fault role f.words) _ (by_return role f.words)
by_effect role (Refuse fault) f is = is
by_effect role effect f is = tt

by_pair : (pair : Pair) (effect : Effect) → RefusesIt effect → RefusesIt (loaded pair effect)
by_pair Sp effect is = is
by_pair pair effect is = tt

by_instr : (instr : Instr) → RefusesIt (effect_of instr)
by_instr (Lxi pair word) = by_pair pair (Changes (SetStack word)) tt
by_instr (Inx pair) = by_pair pair _ (λ at. refl)
by_instr (Dcx pair) = by_pair pair _ (λ at. refl)
by_instr InstrSphl = λ at. refl
by_instr instr = tt

names_address : (role : Role) (instr : Instr) (f : StackFrame) (fault : FrameFault) → moves_of role (effect_of instr) f ≡ Err fault → NamesIt fault
names_address role instr f fault is = subst Named is (by_effect role (effect_of instr) f (by_instr instr))

-- ---- a refusal holds

holds : (code : Code) (at : ℕ) (fault : FrameFault) → MovesWrong code at fault → Holds code (refusal_of fault at)
holds code at Memory is = tt
holds code at fault is = is

-- on conditions a frame is refused for the same fault: only calls are seen as others
still_refused : (role : Role) (returning : List ℕ) (found : Fetched) (effect : Effect) (f : StackFrame) (fault : FrameFault)
    → effect_of found.instr ≡ effect → moves_of role effect f ≡ Err fault
    → moves_of role (effect_of (call_if returning found effect).instr) f ≡ Err fault
still_refused role returning found (Call to) f fault is h = cc
still_refused role returning found effect f fault is h = subst (λ (e : Effect). moves_of role e f ≡ Err fault) (sym is) h

module _ (plain : Code) (begin : Option ℕ) (conditions : Conditions) where
  abbrev followed : Code
  followed = code_from begin conditions plain

  same_role : (p : Procedure) → role_of plain p ≡ role_of followed p
  same_role MainProcedure = refl
  same_role (EntryProcedure at) = refl

  by_moves : (p : Procedure) (at : ℕ) (f : StackFrame) (found : Fetched) (r : Result Moves FrameFault) → Walk followed p at f
      → plain.look at ≡ Ok found → moves_of (role_of plain p) (effect_of found.instr) f ≡ r → IfSome (refusal_by at r) (IsRefusedAt plain followed at)
  by_moves p at f found (Ok moves) walk looked moved = tt
  by_moves p at f found (Err fault) walk looked moved =
      let wrong : MovesWrong followed at fault = record {
        procedure = p;
        frame = f;
        found = call_if conditions.returning.items found (effect_of found.instr);
        walk = walk;
        looked = ap (seen_if conditions at) looked;
        moved = subst (λ (role : Role). moves_of role (effect_of (call_if conditions.returning.items found (effect_of found.instr)).instr) f ≡ Err fault)
            (same_role p) (still_refused (role_of plain p) conditions.returning.items found (effect_of found.instr) f fault refl moved);
      } in
      inr (record { holds = holds followed at fault wrong; address = names_address (role_of plain p) found.instr f fault moved at })

  by_look : (p : Procedure) (at : ℕ) (f : StackFrame) (r : Result Fetched LookFault) → Walk followed p at f
      → plain.look at ≡ r → IfSome (refusal_found (role_of plain p) f at r) (IsRefusedAt plain followed at)
  by_look p at f (Ok found) walk looked = by_moves p at f found (moves_of (role_of plain p) (effect_of found.instr) f) walk looked refl
  by_look p at f (Err fault) walk looked = inl (record { fault = fault; looked = looked; is = refl })

  -- the refusal of a point that is reached on conditions is that of an instruction at its address
  pub is_refused : (point : ReachedPoint) → IsReachedAt plain followed point → IfSome point.refusal (IsRefusedAt plain followed point.standing.at)
  is_refused point there = subst (λ (o : Option Refusal). IfSome o (IsRefusedAt plain followed point.standing.at)) (sym there.judged)
      (by_look point.standing.procedure point.standing.at there.stands.frame (plain.look point.standing.at) there.stands.walk refl)
