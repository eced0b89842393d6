-- What is shown by walks stays shown along each rule, and what is refused of a shown frame is refused of a walk.
use Rattle.std.specs.Prelude.{◌≡◌, ◌≢◌, ◌⊎◌, ◌<◌, ◌≤◌, ℕ, Bool, true, false, nat_eq, Some, None, Ok, Err, length, refl}
use Rattle.std.proofs.Common.{ap, sym, ◌∙◌, subst, inl, inr}
use Rattle.std.specs.Cmp.{unsigned_Decides, first_so, second_so}
use Rattle.decode80.specs.declared.fetching.Fetched.{Fetched}
use Rattle.frames80.specs.declared.word.Word.{Word}
use Rattle.frames80.specs.declared.word.Word.TheVariants.{Own, Any}
use Rattle.frames80.specs.declared.fault.FrameFault.{FrameFault}
use Rattle.frames80.specs.declared.fault.FrameFault.TheVariants.{ReturnNotOwn}
use Rattle.frames80.specs.declared.effect.Change.{Change}
use Rattle.frames80.specs.declared.effect.Effect.{Effect}
use Rattle.frames80.specs.declared.effect.Effect.TheVariants.{Change as Changes, Halt, Jump, JumpIf, Case, Call, CallIf, Return, ReturnIf, Refuse}
use Rattle.frames80.specs.declared.moves.Moves.{Moves}
use Rattle.frames80.specs.Word.{met}
use Rattle.frames80.specs.StackFrame.{StackFrame, entry_frame, main_frame}
use Rattle.frames80.specs.Effects.{effect_of}
use Rattle.frames80.specs.Moves.{moves_of, changed}
use Rattle.frames80.specs.Calls.{room, returned, agree, merged}
use Rattle.frames80.specs.Places.{Place, word_at, Source, From, Unknown, sourced, source, source_after, SameCounts, Covers}
use Rattle.frames80.specs.declared.procedure.Procedure.{Procedure}
use Rattle.frames80.specs.declared.procedure.Procedure.TheVariants.{Main, Entry}
use Rattle.frames80_interned.specs.Admitted.{move_of}
use Rattle.frames80.specs.declared.code.LookFault.{LookFault}
use Rattle.frames80.specs.Code.{Code, role_of}
use Rattle.verify80_flow.specs.Walks.{Walk, begins, goes_on, enters, comes_back, Calls, Moving, LeadsTo, called, returning}
use Rattle.verify80_flow.specs.Faults.{LooksWrong, MovesWrong, Differ, Uneven, Short}
use Rattle.verify80_flow.specs.Rows.{ReturnsWith}
use Rattle.verify80_flow.specs.Shown.{Query, Whole, At, Asks, MayBeAny, Shows, IsShown, AtMove, FrameLaws}
use Rattle.verify80_flow.proofs.MoveLemmas.{change_of, frame_after, moved_is, covered_moves, leads_along, called_along, returning_along, query_of, asked, refused_along, refused_by_counts}

pub counts_back : (f g : StackFrame) → SameCounts f g → SameCounts g f
counts_back f g same = record { taken = sym same.taken; words = sym same.words }

pub counts_then : (f g h : StackFrame) → SameCounts f g → SameCounts g h → SameCounts f h
counts_then f g h one two = record { taken = one.taken ∙ two.taken; words = one.words ∙ two.words }

pub covers_self : (f : StackFrame) → Covers f f
covers_self f = record { counts = record { taken = refl; words = refl }; own = λ place own. own }

-- a walk shows its own frame
pub shown_self : (exact : Bool) (code : Code) (p : Procedure) (at : ℕ) (f : StackFrame) → Walk code p at f → IsShown exact code p at f
shown_self exact code p at f walk = record { by = λ query asks may. record { frame = f; walk = walk; covers = covers_self f; answers = may } }

pub shown_start : (exact : Bool) (code : Code) → IsShown exact code Main code.start main_frame
shown_start exact code = shown_self exact code Main code.start main_frame (begins Main code.start main_frame (record { procedure = refl; start = refl; frame = refl }))

-- with a frame that it covers it moves too
pub moving_along : FrameLaws → (exact : Bool) (code : Code) (p : Procedure) (at : ℕ) (f : StackFrame) (found : Fetched) (moves : Moves) → AtMove exact code p at f found moves →
    (w : StackFrame) → Covers f w → Moving code p at w found (move_of (effect_of found.instr) w)
moving_along laws exact code p at f found moves move w covers =
    record { looked = move.looked; moved = covered_moves laws (role_of code p) (effect_of found.instr) f w moves covers move.moved }

-- where a place comes from, as a query
abbrev from_source : Source → Query
from_source (From place) = At place
from_source Unknown = Whole

abbrev before_change : Change → Query → Query
before_change change Whole = Whole
before_change change (At place) = from_source (source change place)

abbrev before_return : ℕ → Query → Query
before_return taken Whole = Whole
before_return taken (At place) = from_source (source_after taken place)

-- nothing but the counts is asked for always
pub asks_whole : (exact : Bool) → Asks exact Whole
asks_whole true = tt
asks_whole false = tt

-- and what is asked of a frame is asked of the one before it
asks_from_source : (exact : Bool) (place : Place) (from : Source) → Asks exact (At place) → Asks exact (from_source from)
asks_from_source true place from asks = tt
asks_from_source false place from asks = absurd asks

asks_before_change : (exact : Bool) (change : Change) (query : Query) → Asks exact query → Asks exact (before_change change query)
asks_before_change exact change Whole asks = asks_whole exact
asks_before_change exact change (At place) asks = asks_from_source exact place (source change place) asks

asks_before_return : (exact : Bool) (taken : ℕ) (query : Query) → Asks exact query → Asks exact (before_return taken query)
asks_before_return exact taken Whole asks = asks_whole exact
asks_before_return exact taken (At place) asks = asks_from_source exact place (source_after taken place) asks

asks_source : (f : StackFrame) (from : Source) → sourced f from ≡ Any → MayBeAny f (from_source from)
asks_source f (From place) any = any
asks_source f Unknown any = tt

answers_source : (w : StackFrame) (from : Source) → MayBeAny w (from_source from) → sourced w from ≡ Any
answers_source w (From place) any = any
answers_source w Unknown any = refl

asks_change : FrameLaws → (change : Change) (f : StackFrame) (query : Query) → MayBeAny (changed change f) query → MayBeAny f (before_change change query)
asks_change laws change f Whole may = tt
asks_change laws change f (At place) may = asks_source f (source change place) (sym (laws.changes change f place) ∙ may)

answers_change : FrameLaws → (change : Change) (w : StackFrame) (query : Query) → MayBeAny w (before_change change query) → MayBeAny (changed change w) query
answers_change laws change w Whole may = tt
answers_change laws change w (At place) may = laws.changes change w place ∙ answers_source w (source change place) may

asks_return : FrameLaws → (taken : ℕ) (f : StackFrame) (query : Query) → MayBeAny (returned taken f) query → MayBeAny f (before_return taken query)
asks_return laws taken f Whole may = tt
asks_return laws taken f (At place) may = asks_source f (source_after taken place) (sym (laws.returns taken f place) ∙ may)

answers_return : FrameLaws → (taken : ℕ) (w : StackFrame) (query : Query) → MayBeAny w (before_return taken query) → MayBeAny (returned taken w) query
answers_return laws taken w Whole may = tt
answers_return laws taken w (At place) may = laws.returns taken w place ∙ answers_source w (source_after taken place) may

-- a shown frame is shown where its move leads
pub shown_on : FrameLaws → (exact : Bool) (code : Code) (p : Procedure) (at : ℕ) (f : StackFrame) (found : Fetched) (moves : Moves) → AtMove exact code p at f found moves →
    (to : ℕ) (g : StackFrame) → LeadsTo moves (code.targets at) found.next to g → IsShown exact code p to g
shown_on laws exact code p at f found moves move to g leads =
    let effect = effect_of found.instr in
    let moved = moved_is (role_of code p) effect f moves move.moved in
    let there : LeadsTo (move_of effect f) (code.targets at) found.next to g = subst (λ m. LeadsTo m (code.targets at) found.next to g) moved.move leads in
    let along = λ (w : StackFrame). leads_along effect f w (code.targets at) found.next to g there in
    let after : frame_after effect f ≡ g = sym (along f).frame in
    let here : IsShown exact code p to (frame_after effect f) = record {
      by = λ query asks may.
          let s : Shows code p at f (before_change (change_of effect) query) = move.shown.by (before_change (change_of effect) query) (asks_before_change exact (change_of effect) query asks) (asks_change laws (change_of effect) f query may) in
          record {
            frame = frame_after effect s.frame;
            walk = goes_on p at s.frame to (frame_after effect s.frame) s.walk (record {
              found = found;
              moves = move_of effect s.frame;
              moving = moving_along laws exact code p at f found moves move s.frame s.covers;
              leads = (along s.frame).other;
            });
            covers = (laws.covered f s.frame s.covers).change (change_of effect);
            answers = answers_change laws (change_of effect) s.frame query s.answers;
          };
    } in
    subst (IsShown exact code p to) after here

-- a call of a walk
pub calls_along : FrameLaws → (exact : Bool) (code : Code) (p : Procedure) (at : ℕ) (f : StackFrame) (found : Fetched) (moves : Moves) → AtMove exact code p at f found moves →
    (target : ℕ) → called moves ≡ Some target → (w : StackFrame) → Covers f w → Calls code p at w target found.next
calls_along laws exact code p at f found moves move target call w covers =
    let effect = effect_of found.instr in
    let moved = moved_is (role_of code p) effect f moves move.moved in
    record {
      found = found;
      moves = move_of effect w;
      moving = moving_along laws exact code p at f found moves move w covers;
      call = sym (called_along effect f w) ∙ ap called (sym moved.move) ∙ call;
      after = refl;
    }

-- the callee of a shown frame is shown at its entry
pub shown_entry : FrameLaws → (exact : Bool) (code : Code) (p : Procedure) (at : ℕ) (f : StackFrame) (found : Fetched) (moves : Moves) → AtMove exact code p at f found moves →
    (target : ℕ) → called moves ≡ Some target → IsShown exact code (Entry target) target entry_frame
shown_entry laws exact code p at f found moves move target call =
    let s : Shows code p at f Whole = move.shown.by Whole (asks_whole exact) tt in
    shown_self exact code (Entry target) target entry_frame
    (enters p at s.frame target found.next (Entry target) target entry_frame s.walk
    (calls_along laws exact code p at f found moves move target call s.frame s.covers)
    (record { procedure = refl; start = refl; frame = refl }))

-- and where the callee returns, the caller's frame after it is shown
pub shown_after : FrameLaws → (exact : Bool) (code : Code) (p : Procedure) (at : ℕ) (f : StackFrame) (found : Fetched) (moves : Moves) → AtMove exact code p at f found moves →
    (target taken : ℕ) → called moves ≡ Some target → ReturnsWith code (Entry target) taken → taken ≤ room (role_of code p) f.words →
    IsShown exact code p found.next (returned taken f)
shown_after laws exact code p at f found moves move target taken call exit enough = record {
  by = λ query asks may.
      let s : Shows code p at f (before_return taken query) = move.shown.by (before_return taken query) (asks_before_return exact taken query asks) (asks_return laws taken f query may) in
      record {
        frame = returned taken s.frame;
        walk = comes_back p at s.frame target found.next exit.at exit.frame taken (returned taken s.frame) s.walk
            (calls_along laws exact code p at f found moves move target call s.frame s.covers) exit.walk exit.returns
            (record { enough = subst (λ n. taken ≤ n) ((laws.counts f s.frame s.covers.counts).room (role_of code p)) enough; frame = refl });
        covers = (laws.covered f s.frame s.covers).return taken;
        answers = answers_return laws taken s.frame query s.answers;
      };
}

-- frames that meet where both are shown are shown
pub met_other : (a b : Word) → met a b ≡ Own → b ≡ Own
met_other Own b own = own
met_other Any b own = absurd (cc)

any_of_met : (a b : Word) → met a b ≡ Any → (a ≡ Any) ⊎ (b ≡ Any)
any_of_met Own b any = inr any
any_of_met Any b any = inl refl

covers_other : FrameLaws → (f g w : StackFrame) → agree f g ≡ true → SameCounts f g → Covers g w → Covers (merged f g) w
covers_other laws f g w same counts covers = record {
  counts = counts_then (merged f g) f w ((laws.covered f f (covers_self f)).meet g same).counts (counts_then f g w counts covers.counts);
  own = λ place own. covers.own place (met_other (word_at f place) (word_at g place) (sym (laws.meets f g place same) ∙ own));
}

pub counts_agree : (f g : StackFrame) → agree f g ≡ true → SameCounts f g
counts_agree f g same = record {
  taken = (unsigned_Decides f.taken g.taken).0 (first_so (nat_eq f.taken g.taken) (nat_eq (length f.words) (length g.words)) same);
  words = (unsigned_Decides (length f.words) (length g.words)).0 (second_so (nat_eq f.taken g.taken) (nat_eq (length f.words) (length g.words)) same);
}

pub shown_merged : FrameLaws → (exact : Bool) (code : Code) (p : Procedure) (at : ℕ) (f g : StackFrame) → IsShown exact code p at f → IsShown exact code p at g → agree f g ≡ true →
    IsShown exact code p at (merged f g)
shown_merged laws exact code p at f g one other same = record { by = by }
  where
    mine : (query : Query) → Shows code p at f query → Shows code p at (merged f g) query
    mine query s = record { frame = s.frame; walk = s.walk; covers = (laws.covered f s.frame s.covers).meet g same; answers = s.answers }

    theirs : (query : Query) → Shows code p at g query → Shows code p at (merged f g) query
    theirs query s = record { frame = s.frame; walk = s.walk; covers = covers_other laws f g s.frame same (counts_agree f g same) s.covers; answers = s.answers }

    by_place : (place : Place) → Asks exact (At place) → (word_at f place ≡ Any) ⊎ (word_at g place ≡ Any) → Shows code p at (merged f g) (At place)
    by_place place asks (inl any) = mine (At place) (one.by (At place) asks any)
    by_place place asks (inr any) = theirs (At place) (other.by (At place) asks any)

    by : (query : Query) → Asks exact query → MayBeAny (merged f g) query → Shows code p at (merged f g) query
    by Whole asks may = mine Whole (one.by Whole (asks_whole exact) tt)
    by (At place) asks may = by_place place asks (any_of_met (word_at f place) (word_at g place) (sym (laws.meets f g place same) ∙ may))

-- where frames forget, a frame that covers a shown one is shown
pub shown_lesser : (code : Code) (p : Procedure) (at : ℕ) (f g : StackFrame) → Covers g f → IsShown false code p at f → IsShown false code p at g
shown_lesser code p at f g covers shown = record { by = by }
  where
    by : (query : Query) → Asks false query → MayBeAny g query → Shows code p at g query
    by Whole asks may =
        let s : Shows code p at f Whole = shown.by Whole tt tt in
        record {
          frame = s.frame;
          walk = s.walk;
          covers = record {
            counts = counts_then g f s.frame covers.counts s.covers.counts;
            own = λ place own. s.covers.own place (covers.own place own);
          };
          answers = tt;
        }
    by (At place) asks may = absurd asks

-- a return of a shown frame is one of a walk
pub exit_shown : FrameLaws → (exact : Bool) (code : Code) (p : Procedure) (at : ℕ) (f : StackFrame) (found : Fetched) (moves : Moves) → AtMove exact code p at f found moves →
    (taken : ℕ) → returning moves ≡ Some taken → ReturnsWith code p taken
exit_shown laws exact code p at f found moves move taken return =
    let effect = effect_of found.instr in
    let moved = moved_is (role_of code p) effect f moves move.moved in
    let s : Shows code p at f Whole = move.shown.by Whole (asks_whole exact) tt in
    record {
      at = at;
      frame = s.frame;
      walk = s.walk;
      returns = record {
        found = found;
        moves = move_of effect s.frame;
        moving = moving_along laws exact code p at f found moves move s.frame s.covers;
        return = sym (returning_along effect f s.frame s.covers.counts.taken) ∙ ap returning (sym moved.move) ∙ return;
      };
    }

pub exit_shown_at : (laws : FrameLaws) (exact : Bool) (code : Code) (p : Procedure) (at : ℕ) (f : StackFrame) (found : Fetched) (moves : Moves) (move : AtMove exact code p at f found moves)
    (taken : ℕ) (return : returning moves ≡ Some taken) → (exit_shown laws exact code p at f found moves move taken return).at ≡ at
unfolding exit_shown
exit_shown_at laws exact code p at f found moves move taken return = refl

-- at a return the words taken are those of its frame
taken_by : (effect : Effect) (f : StackFrame) (taken : ℕ) → returning (move_of effect f) ≡ Some taken → f.taken ≡ taken
taken_by (Changes made) f taken is = absurd (let e : None ≡ Some taken = is in cc)
taken_by Halt f taken is = absurd (let e : None ≡ Some taken = is in cc)
taken_by (Jump to) f taken is = absurd (let e : None ≡ Some taken = is in cc)
taken_by (JumpIf to) f taken is = absurd (let e : None ≡ Some taken = is in cc)
taken_by Case f taken is = absurd (let e : None ≡ Some taken = is in cc)
taken_by (Call to) f taken is = absurd (let e : None ≡ Some taken = is in cc)
taken_by (CallIf to) f taken is = absurd (let e : None ≡ Some taken = is in cc)
taken_by Return f taken is = cc
taken_by ReturnIf f taken is = cc
taken_by (Refuse fault) f taken is = absurd (let e : None ≡ Some taken = is in cc)

pub taken_at_return : (code : Code) (p : Procedure) (taken : ℕ) → (returns : ReturnsWith code p taken) → returns.frame.taken ≡ taken
taken_at_return code p taken returns =
    let r = returns.returns in
    let effect = effect_of r.found.instr in
    taken_by effect returns.frame taken (ap returning (sym (moved_is (role_of code p) effect returns.frame r.moves r.moving.moved).move) ∙ r.return)

-- what is refused of a shown frame
pub looks_wrong : (exact : Bool) (code : Code) (p : Procedure) (at : ℕ) (f : StackFrame) (fault : LookFault) → IsShown exact code p at f → code.look at ≡ Err fault → LooksWrong code at fault
looks_wrong exact code p at f fault shown looked =
    let s : Shows code p at f Whole = shown.by Whole (asks_whole exact) tt in
    record { procedure = p; frame = s.frame; walk = s.walk; looked = looked }

pub moves_wrong : FrameLaws → (exact : Bool) (code : Code) (p : Procedure) (at : ℕ) (f : StackFrame) (found : Fetched) (fault : FrameFault) → IsShown exact code p at f →
    code.look at ≡ Ok found → moves_of (role_of code p) (effect_of found.instr) f ≡ Err fault → Asks exact (query_of (effect_of found.instr) f) → MovesWrong code at fault
moves_wrong laws exact code p at f found fault shown looked refused asks =
    let effect = effect_of found.instr in
    let s : Shows code p at f (query_of effect f) = shown.by (query_of effect f) asks (asked effect f) in
    record {
      procedure = p;
      frame = s.frame;
      found = found;
      walk = s.walk;
      looked = looked;
      moved = refused_along laws (role_of code p) effect f s.frame fault s.covers s.answers refused;
    }

-- but for a word that isn't the return address the counts decide
pub moves_wrong_by_counts : FrameLaws → (exact : Bool) (code : Code) (p : Procedure) (at : ℕ) (f : StackFrame) (found : Fetched) (fault : FrameFault) → IsShown exact code p at f →
    code.look at ≡ Ok found → moves_of (role_of code p) (effect_of found.instr) f ≡ Err fault → fault ≢ ReturnNotOwn → MovesWrong code at fault
moves_wrong_by_counts laws exact code p at f found fault shown looked refused apart =
    let effect = effect_of found.instr in
    let s : Shows code p at f Whole = shown.by Whole (asks_whole exact) tt in
    record {
      procedure = p;
      frame = s.frame;
      found = found;
      walk = s.walk;
      looked = looked;
      moved = refused_by_counts laws (role_of code p) effect f s.frame fault s.covers apart refused;
    }

pub agree_same : (f g v w : StackFrame) → SameCounts f v → SameCounts g w → agree v w ≡ agree f g
agree_same f g v w one other = rw (sym one.taken, sym one.words, sym other.taken, sym other.words) refl

pub differ : (exact : Bool) (code : Code) (p : Procedure) (at : ℕ) (f g : StackFrame) → IsShown exact code p at f → IsShown exact code p at g → agree f g ≡ false → Differ code at
differ exact code p at f g one other apart =
    let s : Shows code p at f Whole = one.by Whole (asks_whole exact) tt in
    let t : Shows code p at g Whole = other.by Whole (asks_whole exact) tt in
    record {
      procedure = p;
      one = s.frame;
      other = t.frame;
      walk_one = s.walk;
      walk_other = t.walk;
      differ = agree_same f g s.frame t.frame s.covers.counts t.covers.counts ∙ apart;
    }

pub short : FrameLaws → (exact : Bool) (code : Code) (p : Procedure) (at : ℕ) (f : StackFrame) (found : Fetched) (moves : Moves) → AtMove exact code p at f found moves →
    (target inside : ℕ) (g : StackFrame) → called moves ≡ Some target → Walk code (Entry target) inside g → room (role_of code p) f.words < g.taken → Short code at
short laws exact code p at f found moves move target inside g call callee less =
    let s : Shows code p at f Whole = move.shown.by Whole (asks_whole exact) tt in
    record {
      procedure = p;
      frame = s.frame;
      target = target;
      next = found.next;
      inside = inside;
      callee = g;
      walk = s.walk;
      call = calls_along laws exact code p at f found moves move target call s.frame s.covers;
      walk_callee = callee;
      short = subst (λ n. n < g.taken) ((laws.counts f s.frame s.covers.counts).room (role_of code p)) less;
    }

pub uneven : (code : Code) (p : Procedure) (taken other : ℕ) → (here : ReturnsWith code p taken) → ReturnsWith code p other → taken ≢ other → Uneven code here.at
uneven code p taken other here there apart = record {
  procedure = p;
  other = there.at;
  frame = here.frame;
  other_frame = there.frame;
  taken = taken;
  other_taken = other;
  walk = here.walk;
  returns = here.returns;
  walk_other = there.walk;
  returns_other = there.returns;
  differ = apart;
}
