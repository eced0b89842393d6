-- What comes of a look at a point.
use Rattle.std.specs.Prelude.{◌≡◌, ◌≢◌, ◌≤◌, ◌<◌, ◌+◌, ℕ, zero, suc, Bool, List, [], ◌∷◌, length, Option, Some, Result, Ok, Err, slice_get, refl}
use Rattle.std.proofs.Common.{ap, sym, ◌∙◌, subst, arith}
use Rattle.std.proofs.lemmas.List.{length-drop}
use Rattle.decode80.specs.declared.fetching.Fetched.{Fetched}
use Rattle.frames80.specs.declared.role.Role.{Role}
use Rattle.frames80.specs.declared.fault.FrameFault.{FrameFault}
use Rattle.frames80.specs.declared.fault.FrameFault.TheVariants.{Sphl, StackByByte, SetsStack, PopsBelow, ReturnNotOwn, ReturnFromMain, Memory}
use Rattle.frames80.specs.declared.effect.Effect.{Effect}
use Rattle.frames80.specs.declared.effect.Effect.TheVariants.{Change as Changes, Halt, Jump, JumpIf, Case, Call, CallIf, Return, ReturnIf, Refuse}
use Rattle.frames80.specs.declared.moves.Moves.{Moves}
use Rattle.frames80.specs.StackFrame.{StackFrame}
use Rattle.frames80.specs.Effects.{effect_of}
use Rattle.frames80.specs.Moves.{moves_of}
use Rattle.frames80.specs.Calls.{returned}
use Rattle.frames80.specs.declared.procedure.Procedure.{Procedure}
use Rattle.frames80_interned.specs.Admitted.{move_of}
use Rattle.frames80_interned.specs.Frames.{frame_at, StayNumbered}
use Rattle.frames80.specs.declared.code.LookFault.{LookFault}
use Rattle.frames80.specs.declared.code.LookFault.TheVariants.{Outside, Unused, EnablesInterrupts, Pchl, DirectStore}
use Rattle.verify80_flow.specs.declared.refusal.Refusal.{Refusal}
use Rattle.verify80_flow.specs.Refusal.{refusal_of, look_refusal}
use Rattle.frames80.specs.Code.{Code, role_of}
use Rattle.verify80_flow.specs.Faults.{LooksWrong}
use Rattle.verify80_flow.specs.Points.{Point}
use Rattle.verify80_flow.specs.declared.site.Site.{Site}
use Rattle.verify80_flow.specs.Survey.{IsMoveAt, EffectIsAt}
use Rattle.verify80_flow.specs.Shown.{Asks, IsShown, FrameLaws}
use Rattle.verify80_flow.specs.Known.{Known, Refused, KnownFrames, IsWithin, IsSmall, CanLead, Stands, Carries, IsMoving, Steps, Follows, IsClosed, Visits}
use Rattle.verify80_flow.proofs.FrameLemmas.{stays_there, stays_at}
use Rattle.verify80_flow.proofs.MoveLemmas.{moved_is, query_of}
use Rattle.verify80_flow.proofs.StepLemmas.{advances_as}
use Rattle.verify80_flow.proofs.ShownLemmas.{looks_wrong, moves_wrong, moves_wrong_by_counts}

pub some_at : {A : Type 0} (xs : List A) (i : ℕ) → i < length xs → (x : A) × (slice_get xs i ≡ Some x)
some_at [] i less = absurd (omega arith)
some_at (x ∷ xs) zero less = (x, refl)
some_at (x ∷ xs) (suc i) less = some_at xs i (omega arith)

refused_look : (exact : Bool) (code : Code) (at : ℕ) (fault : LookFault) → LooksWrong code at fault → Refused exact code (look_refusal fault at)
refused_look exact code at Outside wrong = wrong
refused_look exact code at Unused wrong = wrong
refused_look exact code at EnablesInterrupts wrong = wrong
refused_look exact code at Pchl wrong = wrong
refused_look exact code at DirectStore wrong = wrong

pub look_refused : (exact : Bool) (code : Code) (known : Known) (i at : ℕ) (point : Point) (fault : LookFault) → slice_get known.points i ≡ Some point → point.at ≡ at →
    code.look at ≡ Err fault → Stands exact code known → Refused exact code (look_refusal fault at)
look_refused exact code known i at point fault there address looked stands =
    refused_look exact code at fault
    (looks_wrong exact code point.procedure at point.frame fault (subst (λ a. IsShown exact code point.procedure a point.frame) address (stands.points i point there)) looked)

-- what a frame's fault is refused by
refused_move : FrameLaws → (exact : Bool) (code : Code) (p : Procedure) (at : ℕ) (f : StackFrame) (found : Fetched) (fault : FrameFault) → IsShown exact code p at f →
    code.look at ≡ Ok found → ((fault ≢ Memory) → moves_of (role_of code p) (effect_of found.instr) f ≡ Err fault) → Refused exact code (refusal_of fault at)
refused_move laws exact code p at f found Sphl shown looked moved = moves_wrong_by_counts laws exact code p at f found Sphl shown looked (moved (λ e. cc)) (λ e. cc)
refused_move laws exact code p at f found StackByByte shown looked moved = moves_wrong_by_counts laws exact code p at f found StackByByte shown looked (moved (λ e. cc)) (λ e. cc)
refused_move laws exact code p at f found SetsStack shown looked moved = moves_wrong_by_counts laws exact code p at f found SetsStack shown looked (moved (λ e. cc)) (λ e. cc)
refused_move laws exact code p at f found PopsBelow shown looked moved = moves_wrong_by_counts laws exact code p at f found PopsBelow shown looked (moved (λ e. cc)) (λ e. cc)
refused_move laws exact code p at f found ReturnNotOwn shown looked moved = λ all. moves_wrong laws exact code p at f found ReturnNotOwn shown looked (moved (λ e. cc))
    (subst (λ (e : Bool). Asks e (query_of (effect_of found.instr) f)) (sym all) tt)
refused_move laws exact code p at f found ReturnFromMain shown looked moved = moves_wrong_by_counts laws exact code p at f found ReturnFromMain shown looked (moved (λ e. cc)) (λ e. cc)
refused_move laws exact code p at f found Memory shown looked moved = tt

-- the point that is looked at
pub record AtPoint (code : Code) (known : Known) (i : ℕ) (p : Procedure) (at : ℕ) (f : StackFrame) : Type 0 where
  pub point : Point
  pub there : slice_get known.points i ≡ Some point
  pub procedure : point.procedure ≡ p
  pub address : point.at ≡ at
  pub frame : point.frame ≡ f

shown_at : (exact : Bool) (code : Code) (known : Known) (i : ℕ) (p : Procedure) (at : ℕ) (f : StackFrame) → AtPoint code known i p at f → Stands exact code known → IsShown exact code p at f
shown_at exact code known i p at f here stands =
    subst (λ (q : Procedure). IsShown exact code q at f) here.procedure
    (subst (λ a. IsShown exact code here.point.procedure a f) here.address
    (subst (λ (g : StackFrame). IsShown exact code here.point.procedure here.point.at g) here.frame (stands.points i here.point here.there)))

pub move_refused : FrameLaws → (exact : Bool) (code : Code) (known : Known) (i : ℕ) (p : Procedure) (at : ℕ) (f : StackFrame) (found : Fetched) (fault : FrameFault) →
    AtPoint code known i p at f → code.look at ≡ Ok found → ((fault ≢ Memory) → moves_of (role_of code p) (effect_of found.instr) f ≡ Err fault) →
    Stands exact code known → Refused exact code (refusal_of fault at)
move_refused laws exact code known i p at f found fault here looked moved stands = refused_move laws exact code p at f found fault (shown_at exact code known i p at f here stands) looked moved

-- the move at a point
pub moves_at_point : (code : Code) (known : Known) (i : ℕ) (p : Procedure) (at : ℕ) (f : StackFrame) (found : Fetched) (role : Role) (moves : Moves) (frame : ℕ) →
    AtPoint code known i p at f → code.look at ≡ Ok found → role ≡ role_of code p → moves_of role (effect_of found.instr) f ≡ Ok moves →
    IsMoveAt code known i (record { procedure = p; role = role; at = at; next = found.next; point = i; frame = frame }) moves
moves_at_point code known i p at f found role moves frame here looked same moved = record {
  point = here.point;
  there = here.there;
  found = found;
  moving = record {
    looked = subst (λ n. code.look n ≡ Ok found) (sym here.address) looked;
    moved = subst (λ (x : Procedure). moves_of (role_of code x) (effect_of found.instr) here.point.frame ≡ Ok moves) (sym here.procedure)
        (subst (λ (x : StackFrame). moves_of (role_of code p) (effect_of found.instr) x ≡ Ok moves) (sym here.frame)
        (subst (λ (r : Role). moves_of r (effect_of found.instr) f ≡ Ok moves) same moved));
  };
  procedure = sym here.procedure;
  address = sym here.address;
  next = refl;
  role = same ∙ ap (role_of code) (sym here.procedure);
}

same_point : (o : Option Point) (x y : Point) → o ≡ Some x → o ≡ Some y → x ≡ y
same_point o x y one other = cc

carries_by : (effect : Effect) (f : StackFrame) → Carries (move_of effect f) f
carries_by (Changes made) f = tt
carries_by Halt f = tt
carries_by (Jump to) f = tt
carries_by (JumpIf to) f = tt
carries_by Case f = tt
carries_by (Call to) f = refl
carries_by (CallIf to) f = refl
carries_by Return f = tt
carries_by ReturnIf f = tt
carries_by (Refuse fault) f = tt

visits_follow : (code : Code) (known new : Known) (i : ℕ) (p : Procedure) (at : ℕ) (targets : List ℕ) (next : ℕ) (role : Role) (f : StackFrame) (found : Fetched) (moves : Moves) (result : Result Bool Refusal) →
    AtPoint code known i p at f → code.look at ≡ Ok found → targets ≡ code.targets at → found.next ≡ next → role ≡ role_of code p → moves_of role (effect_of found.instr) f ≡ Ok moves →
    Steps known new p at targets next role moves result → Visits code known new i result
visits_follow code known new i p at targets next role f found moves result here looked same_targets same_next same_role moved steps =
    advances_as steps
    (λ exact seen stands same. subst (λ (c : Code). Stands exact c known → IsMoving p at targets next role moves exact c) (sym same) (is_moving exact) stands)
    (λ same follows. close (follows f carries) same)
  where
    moved_here : moves_of (role_of code p) (effect_of found.instr) f ≡ Ok moves
    moved_here = subst (λ (r : Role). moves_of r (effect_of found.instr) f ≡ Ok moves) same_role moved

    carries : Carries moves f
    carries = subst (λ (m : Moves). Carries m f) (sym (moved_is role (effect_of found.instr) f moves moved).move) (carries_by (effect_of found.instr) f)

    is_moving : (exact : Bool) → Stands exact code known → IsMoving p at targets next role moves exact code
    is_moving exact stands = record {
      frame = f;
      found = found;
      move = record { shown = shown_at exact code known i p at f here stands; looked = looked; moved = moved_here };
      carries = carries;
      targets_are = same_targets;
      after = same_next;
      role_is = same_role;
    }

    close : Follows new p targets f next moves → new ≡ known → (point : Point) → slice_get new.points i ≡ Some point → IsClosed code new point
    close follows same point there =
        let e : point ≡ here.point = same_point (slice_get known.points i) point here.point (subst (λ (k : Known). slice_get k.points i ≡ Some point) same there) here.there in
        let q : point.procedure ≡ p = ap (λ (x : Point). x.procedure) e ∙ here.procedure in
        let a : point.at ≡ at = ap (λ (x : Point). x.at) e ∙ here.address in
        let g : point.frame ≡ f = ap (λ (x : Point). x.frame) e ∙ here.frame in
        record {
          found = found;
          moves = moves;
          moving = record {
            looked = subst (λ n. code.look n ≡ Ok found) (sym a) looked;
            moved = subst (λ (x : Procedure). moves_of (role_of code x) (effect_of found.instr) point.frame ≡ Ok moves) (sym q)
                (subst (λ (x : StackFrame). moves_of (role_of code p) (effect_of found.instr) x ≡ Ok moves) (sym g) moved_here);
          };
          follows = subst (λ (x : Procedure). Follows new x (code.targets point.at) point.frame found.next moves) (sym q)
              (subst (λ n. Follows new p (code.targets n) point.frame found.next moves) (sym a)
              (subst (λ (x : StackFrame). Follows new p (code.targets at) x found.next moves) (sym g)
              (subst (λ n. Follows new p (code.targets at) f n moves) (sym same_next) (subst (λ (t : List ℕ). Follows new p t f next moves) same_targets follows))));
        }

-- the effect at a point, with the number of its frame
pub effect_at_point : (code : Code) (table : KnownFrames) (i : ℕ) (p : Procedure) (at : ℕ) (found : Fetched) (role : Role) (effect : Effect) (frame : ℕ) →
    AtPoint code table.known i p at (frame_at table.frames frame) → code.look at ≡ Ok found → role ≡ role_of code p →
    moves_of role (effect_of found.instr) (frame_at table.frames frame) ≡ Ok (move_of effect (frame_at table.frames frame)) → frame < length table.frames →
    EffectIsAt code table i (record { procedure = p; role = role; at = at; next = found.next; point = i; frame = frame }) effect
unfolding moves_at_point
effect_at_point code table i p at found role effect frame here looked same moved there = record {
  move = moves_at_point code table.known i p at (frame_at table.frames frame) found role (move_of effect (frame_at table.frames frame)) frame here looked same moved;
  framed = record { there = there; is = sym here.frame };
}

pub visits_moves : (code : Code) (known new : Known) (i : ℕ) (site : Site) (targets : List ℕ) (moves : Moves) (result : Result Bool Refusal) → IsMoveAt code known i site moves →
    targets ≡ code.targets site.at → Steps known new site.procedure site.at targets site.next site.role moves result → Visits code known new i result
visits_moves code known new i site targets moves result m same_targets steps =
    visits_follow code known new i site.procedure site.at targets site.next site.role m.point.frame m.found moves result
    (record { point = m.point; there = m.there; procedure = sym m.procedure; address = sym m.address; frame = refl })
    (subst (λ n. code.look n ≡ Ok m.found) (sym m.address) m.moving.looked) same_targets (sym m.next) (m.role ∙ ap (role_of code) (sym m.procedure))
    (subst (λ (r : Role). moves_of r (effect_of m.found.instr) m.point.frame ≡ Ok moves) (sym m.role) m.moving.moved) steps

-- a frame that can lead on can do so after a step, which leaves it its number, and within one word more
pub can_still_lead : (before after : KnownFrames) (frame : ℕ) → IsSmall after.known → length before.known.points ≤ length after.known.points → StayNumbered before.frames after.frames →
    CanLead before frame (length before.known.points) → CanLead after frame (length after.known.points)
can_still_lead before after frame small more stays can = record {
  small = small;
  there = stays_there before.frames after.frames stays frame can.there;
  fits = rw (stays_at before.frames after.frames stays frame can.there)
      (record { taken = let t = can.fits.taken in omega arith; words = let w = can.fits.words in omega arith });
}

pub can_lead_more : (table : KnownFrames) (frame most : ℕ) → CanLead table frame most → CanLead table frame (most + 1)
can_lead_more table frame most can = record {
  small = can.small;
  there = can.there;
  fits = record { taken = let t = can.fits.taken in omega arith; words = let w = can.fits.words in omega arith };
}

-- what a callee leaves is no more than there was
pub returned_within : (n m taken : ℕ) (f : StackFrame) → n ≤ m → IsWithin n f → IsWithin (m + 1) (returned taken f)
returned_within n m taken f more is = record { taken = let t = is.taken in omega arith; words = let w = is.words in let d = length-drop taken f.words in omega arith }
