-- Walks that are gone step by step: the point to which each step leads has a walk.
use Rattle.std.specs.Prelude.{◌≡◌, false, ◌≤◌, ◌++◌, ◌∷◌, ◌⊎◌, ℕ, [], List, Option, Some, None, length, slice_get, refl}
use Rattle.std.proofs.Common.{sym, subst, inl, inr}
use Rattle.frames80.specs.declared.effect.Effect.{Effect}
use Rattle.frames80.specs.StackFrame.{StackFrame, entry_frame, main_frame}
use Rattle.frames80.specs.Moves.{changed}
use Rattle.frames80.specs.Calls.{agree, room, returned}
use Rattle.frames80_interned.specs.Admitted.{move_of}
use Rattle.frames80_interned.specs.Frames.{frame_at, IsFrame, StayNumbered}
use Rattle.frames80.specs.declared.procedure.Procedure.{Procedure}
use Rattle.frames80.specs.declared.procedure.Procedure.TheVariants.{Main, Entry}
use Rattle.verify80_flow.specs.declared.walks.WalkedPoint.{WalkedPoint}
use Rattle.verify80_flow.specs.declared.walks.Walks.{Walks}
use Rattle.frames80.specs.Code.{Code, role_of}
use Rattle.verify80_flow.specs.Faults.{Differ}
use Rattle.verify80_flow.specs.Walks.{Walk, begins, goes_on, enters, comes_back, LeadsTo, Calls, Returns, called, returning}
use Rattle.frames80.specs.Effects.{change_of}
use Rattle.verify80_flow.specs.Walked.{AreWalked, IsCallee, IsMovingFrom, IsWalked}
use Rattle.verify80_flow.proofs.FrameLemmas.{stays_there, stays_at}
use Rattle.frames80.specs.Lists.{slice_get-push}

abbrev pub point_of : Procedure → ℕ → ℕ → WalkedPoint
point_of p at id = record { procedure = p; at = at; frame = id }

module _ (code : Code) where
  -- a walk to a point whose frame has this number
  pub walked : (frames : List StackFrame) (p : Procedure) (at id : ℕ) (f : StackFrame) → IsFrame frames id f → Walk code p at f → IsWalked code frames (point_of p at id)
  walked frames p at id f is walk = record { there = is.there; walk = subst (Walk code p at) (sym is.is) walk }

  -- more frames leave the points as they are
  pub walked_stays : (old new : List StackFrame) → StayNumbered old new → (point : WalkedPoint) → IsWalked code old point → IsWalked code new point
  walked_stays old new s point w = record {
    there = stays_there old new s point.frame w.there;
    walk = subst (Walk code point.procedure point.at) (sym (stays_at old new s point.frame w.there)) w.walk;
  }

  pub all_stay : (walks : Walks) (new : List StackFrame) → StayNumbered walks.frames new → AreWalked code walks → AreWalked code (record walks { frames = new })
  all_stay walks new s w = record { each = λ i point there. walked_stays walks.frames new s point (w.each i point there) }

  -- one point more
  pub all_and_one : (old new : Walks) (point : WalkedPoint) → new.frames ≡ old.frames → new.points.items ≡ old.points.items ++ point ∷ [] → AreWalked code old → IsWalked code old.frames point → AreWalked code new
  all_and_one old new point frames points w one = record { each = each }
    where
      each : (i : ℕ) (q : WalkedPoint) → slice_get new.points.items i ≡ Some q → IsWalked code new.frames q
      each i q there = subst (λ (fs : List StackFrame). IsWalked code fs q) (sym frames) (by (slice_get-push old.points.items point i q (subst (λ (l : List WalkedPoint). slice_get l i ≡ Some q) points there)))
        where
          by : (slice_get old.points.items i ≡ Some q) ⊎ ((i ≡ length old.points.items) × (q ≡ point)) → IsWalked code old.frames q
          by (inl before) = w.each i q before
          by (inr last) = subst (IsWalked code old.frames) (sym last.1) one

  -- two walks reach one point with different counts
  pub differs : (frames : List StackFrame) (one other : WalkedPoint) → IsWalked code frames one → IsWalked code frames other → one.procedure ≡ other.procedure → one.at ≡ other.at →
      agree (frame_at frames one.frame) (frame_at frames other.frame) ≡ false → Differ code one.at
  differs frames one other w v procedure address apart = record {
    procedure = one.procedure;
    one = frame_at frames one.frame;
    other = frame_at frames other.frame;
    walk_one = w.walk;
    walk_other = subst (λ (q : Procedure). Walk code q one.at (frame_at frames other.frame)) (sym procedure) (subst (λ at. Walk code other.procedure at (frame_at frames other.frame)) (sym address) v.walk);
    differ = apart;
  }

  -- the main program begins
  pub begins_there : (frames : List StackFrame) (id : ℕ) → IsFrame frames id main_frame → IsWalked code frames (point_of Main code.start id)
  begins_there frames id is = walked frames Main code.start id main_frame is (begins Main code.start main_frame (record { procedure = refl; start = refl; frame = refl }))

  module _ (old new : List StackFrame) (from : WalkedPoint) (w : IsWalked code old from) (effect : Effect) (next : ℕ) (moving : IsMovingFrom code old from effect next) where
    -- an instruction leads on
    pub leads_there : (targets : List ℕ) (to id : ℕ) → targets ≡ code.targets from.at → ((f : StackFrame) → LeadsTo (move_of effect f) targets next to (changed (change_of effect) f)) →
        IsFrame new id (changed (change_of effect) (frame_at old from.frame)) → IsWalked code new (point_of from.procedure to id)
    leads_there targets to id declared leads is =
        let f = frame_at old from.frame in
        let g = changed (change_of effect) f in
        let here : LeadsTo (move_of effect f) (code.targets from.at) moving.found.next to g =
        subst (λ n. LeadsTo (move_of effect f) (code.targets from.at) n to g) moving.after (subst (λ (ts : List ℕ). LeadsTo (move_of effect f) ts next to g) declared (leads f)) in
        walked new from.procedure to id g is
        (goes_on from.procedure from.at f to g w.walk (record { found = moving.found; moves = move_of effect f; moving = moving.moving; leads = here }))

    calls : (target : ℕ) → called (move_of effect (frame_at old from.frame)) ≡ Some target → Calls code from.procedure from.at (frame_at old from.frame) target next
    calls target call = record { found = moving.found; moves = move_of effect (frame_at old from.frame); moving = moving.moving; call = call; after = moving.after }

    -- a callee is entered
    pub enters_there : (target id : ℕ) → called (move_of effect (frame_at old from.frame)) ≡ Some target → IsFrame new id entry_frame → IsWalked code new (point_of (Entry target) target id)
    enters_there target id call is =
        walked new (Entry target) target id entry_frame is
        (enters from.procedure from.at (frame_at old from.frame) target next (Entry target) target entry_frame w.walk (calls target call) (record { procedure = refl; start = refl; frame = refl }))

    -- a callee has returned
    module _ (exit : WalkedPoint) (e : IsWalked code old exit) (leaving : Effect) (after : ℕ) (gone : IsMovingFrom code old exit leaving after) where
      pub comes_there : (id : ℕ) → IsCallee exit.procedure (called (move_of effect (frame_at old from.frame))) → returning (move_of leaving (frame_at old exit.frame)) ≡ Some (frame_at old exit.frame).taken →
          (frame_at old exit.frame).taken ≤ room (role_of code from.procedure) (frame_at old from.frame).words → IsFrame new id (returned (frame_at old exit.frame).taken (frame_at old from.frame)) →
          IsWalked code new (point_of from.procedure next id)
      comes_there id callee return enough is = by (called (move_of effect (frame_at old from.frame))) refl callee
        where
          f : StackFrame
          f = frame_at old from.frame

          h : StackFrame
          h = frame_at old exit.frame

          by : (target : Option ℕ) → called (move_of effect f) ≡ target → IsCallee exit.procedure target → IsWalked code new (point_of from.procedure next id)
          by None none callee = absurd callee
          by (Some target) call callee =
              walked new from.procedure next id (returned h.taken f) is
              (comes_back from.procedure from.at f target next exit.at h h.taken (returned h.taken f) w.walk (calls target call)
              (subst (λ (q : Procedure). Walk code q exit.at h) callee e.walk)
              (subst (λ (q : Procedure). Returns code q exit.at h h.taken) callee (record { found = gone.found; moves = move_of leaving h; moving = gone.moving; return = return }))
              (record { enough = enough; frame = refl }))
