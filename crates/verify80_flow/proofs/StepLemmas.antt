-- What comes of a point's move, way by way.
use Rattle.std.specs.Prelude.{◌≡◌, ◌≢◌, ◌⊎◌, ◌≤◌, ◌<◌, ◌+◌, ◌||◌, ℕ, Bool, true, false, List, Contains, length, Option, Some, None, Result, Ok, Err, slice_get, refl}
use Rattle.std.proofs.Common.{sym, ◌∙◌, subst, arith, inl, inr, true≢false, get_or}
use Rattle.std.proofs.lemmas.Grind.{get_or_default_zero}
use Rattle.std.proofs.lemmas.List.Elements.{Contains-get_or}
use borrow.Author.Count.{below_more}
use Rattle.frames80.specs.declared.role.Role.{Role}
use Rattle.frames80.specs.declared.moves.Moves.{Moves}
use Rattle.frames80.specs.declared.moves.Moves.TheVariants.{On, Jump, Either, Case, Call, MaybeCall, Return, MaybeReturn}
use Rattle.frames80.specs.StackFrame.{StackFrame, entry_frame}
use Rattle.frames80.specs.Calls.{room, returned}
use Rattle.frames80.specs.declared.procedure.Procedure.{Procedure}
use Rattle.frames80.specs.declared.procedure.Procedure.TheVariants.{Entry}
use Rattle.verify80_flow.specs.declared.refusal.Refusal.{Refusal}
use Rattle.verify80_flow.specs.declared.refusal.Refusal.TheVariants.{UnevenArguments, ShortArguments, Memory}
use Rattle.frames80.specs.Code.{Code, role_of}
use Rattle.verify80_flow.specs.Walks.{LeadsTo, called, returning}
use Rattle.verify80_flow.specs.Shown.{IsShown, AtMove, FrameLaws}
use Rattle.verify80_flow.specs.Known.{Known, Refused, IsSmall, Stands, weight, Goes, HasPoint, Advances, Flows, IsMoving, Steps, GoesToFirst, exit_of, ReturnsAt, Exits, IsCalling, CallsOut, IsShort}
use Rattle.verify80_flow.proofs.ShownLemmas.{shown_on, shown_entry, shown_after, exit_shown, exit_shown_at, taken_at_return, short, uneven}
use Rattle.verify80_flow.proofs.KnownLemmas.{with_exit, stands_exit, goes_exit}

-- two steps, one after the other
pub goes_then : (a b c : Known) (one other : Bool) → Goes a b one → Goes b c other → Goes a c (one || other)
goes_then a b c true true first second = record { same = λ e. absurd (true≢false e); less = λ _. let x = first.less refl in let y = second.less refl in omega arith }
goes_then a b c true false first second = record { same = λ e. absurd (true≢false e); less = λ _. subst (λ (k : Known). weight k < weight a) (sym (second.same refl)) (first.less refl) }
goes_then a b c false true first second = record { same = λ e. absurd (true≢false e); less = λ _. subst (λ (k : Known). weight c < weight k) (first.same refl) (second.less refl) }
goes_then a b c false false first second = record { same = λ _. second.same refl ∙ first.same refl; less = λ e. absurd (true≢false (sym e)) }

pub first_false : (one other : Bool) → (one || other) ≡ false → one ≡ false
first_false true other e = e
first_false false other e = refl

pub second_false : (one other : Bool) → (one || other) ≡ false → other ≡ false
second_false true other e = absurd (true≢false e)
second_false false other e = e

-- one step, and then another: whether they changed something, or why the other is refused
abbrev pub or_then : Bool → Result Bool Refusal → Result Bool Refusal
or_then one (Ok other) = Ok (one || other)
or_then one (Err refusal) = Err refusal

-- a step that leads to a refusal
pub refused : {Shown : Bool → Code → Type 0} {There : Known → Type 0} (old new : Known) (refusal : Refusal) →
    ((exact : Bool) (code : Code) → Stands exact code old → Shown exact code → Refused exact code refusal) →
    Advances Shown There old new (Err refusal)
refused old new refusal holds = record { small = tt; more = tt; stands = holds; goes = tt; there = tt }

-- a step that is another step
pub advances_as : {Shown : Bool → Code → Type 0} {There : Known → Type 0} {S : Bool → Code → Type 0} {T : Known → Type 0} {old new : Known} {result : Result Bool Refusal} →
    Advances S T old new result → ((exact : Bool) (code : Code) → Stands exact code old → Shown exact code → S exact code) → (new ≡ old → T new → There new) →
    Advances Shown There old new result
advances_as {result = Ok changed} step shown there = record {
  small = step.small;
  more = step.more;
  stands = λ exact code stands here. step.stands exact code stands (shown exact code stands here);
  goes = step.goes;
  there = λ same. there (step.goes.same same) (step.there same);
}
advances_as {result = Err refusal} step shown there = record {
  small = tt;
  more = tt;
  stands = λ exact code stands here. step.stands exact code stands (shown exact code stands here);
  goes = tt;
  there = tt;
}

-- a step, and then another
pub in_turn : {Shown : Bool → Code → Type 0} {There : Known → Type 0} {S : Bool → Code → Type 0} {T : Known → Type 0} {S' : Bool → Code → Type 0} {T' : Known → Type 0}
    {old mid new : Known} {one : Bool} {other : Result Bool Refusal} →
    Advances S T old mid (Ok one) → Advances S' T' mid new other →
    ((exact : Bool) (code : Code) → Stands exact code old → Shown exact code → S exact code) →
    ((exact : Bool) (code : Code) → Stands exact code mid → Shown exact code → S' exact code) →
    (new ≡ mid → T new → T' new → There new) →
    Advances Shown There old new (or_then one other)
in_turn {T = T} {mid = mid} {new = new} {one = one} {other = Ok x} first second shown shown_then there = record {
  small = second.small;
  more = let a = first.more in let b = second.more in omega arith;
  stands = λ exact code stands here.
      let then = first.stands exact code stands (shown exact code stands here) in
      second.stands exact code then (shown_then exact code then here);
  goes = goes_then _ mid new one x first.goes second.goes;
  there = λ same.
      let kept : new ≡ mid = second.goes.same (second_false one x same) in
      there kept (subst T (sym kept) (first.there (first_false one x same))) (second.there (second_false one x same));
}
in_turn {one = one} {other = Err refusal} first second shown shown_then there = record {
  small = tt;
  more = tt;
  stands = λ exact code stands here.
      let then = first.stands exact code stands (shown exact code stands here) in
      second.stands exact code then (shown_then exact code then here);
  goes = tt;
  there = tt;
}

-- the frame that leads on is shown there
leads_shown : FrameLaws → (p : Procedure) (at : ℕ) (targets : List ℕ) (next to : ℕ) (role : Role) (moves : Moves) (g : StackFrame) → LeadsTo moves targets next to g →
    (exact : Bool) (code : Code) → IsMoving p at targets next role moves exact code → IsShown exact code p to g
leads_shown laws p at targets next to role moves g leads exact code here =
    shown_on laws exact code p at here.frame here.found moves here.move to g
    (subst (λ n. LeadsTo moves (code.targets at) n to g) (sym here.after) (subst (λ (t : List ℕ). LeadsTo moves t next to g) here.targets_are leads))

-- a move that leads one way and calls and returns nowhere
pub record OneWay (moves : Moves) (targets : List ℕ) (next to : ℕ) (g : StackFrame) : Type 0 where
  pub leads : LeadsTo moves targets next to g
  pub only : (a : ℕ) (h : StackFrame) → LeadsTo moves targets next a h → (a ≡ to) × (h ≡ g)
  pub no_call : called moves ≡ None
  pub no_return : returning moves ≡ None

has_there : (known : Known) (p : Procedure) (to a : ℕ) (g h : StackFrame) → HasPoint known p to g → a ≡ to → h ≡ g → HasPoint known p a h
has_there known p to a g h has at same = subst (λ (x : StackFrame). HasPoint known p a x) (sym same) (subst (λ n. HasPoint known p n g) (sym at) has)

none_some : {A : Type 0} (o : Option A) (x : A) → o ≡ None → o ≡ Some x → ⊥
none_some o x one other = let e : None ≡ Some x = sym one ∙ other in cc

pub steps_one : FrameLaws → (old new : Known) (p : Procedure) (at : ℕ) (targets : List ℕ) (next to : ℕ) (role : Role) (moves : Moves) (g : StackFrame) (result : Result Bool Refusal) →
    OneWay moves targets next to g → Flows old new p to g result → Steps old new p at targets next role moves result
steps_one laws old new p at targets next to role moves g result way flows =
    advances_as flows (λ exact code stands here. leads_shown laws p at targets next to role moves g way.leads exact code here)
    (λ same has f carries. record {
      on = λ a h leads. let there = way.only a h leads in has_there new p to a g h has there.0 there.1;
      enters = λ target is. absurd (none_some (called moves) target way.no_call is);
      after = λ target taken is exit. absurd (none_some (called moves) target way.no_call is);
      return = λ entry taken in_entry is. absurd (none_some (returning moves) taken way.no_return is);
    })

pub on_way : (g : StackFrame) (targets : List ℕ) (next : ℕ) → OneWay (On g) targets next next g
on_way g targets next = record { leads = (refl, refl); only = λ a h leads. leads; no_call = refl; no_return = refl }

pub jump_way : (g : StackFrame) (targets : List ℕ) (next to : ℕ) → OneWay (Jump g to) targets next to g
jump_way g targets next to = record { leads = (refl, refl); only = λ a h leads. leads; no_call = refl; no_return = refl }

-- a first way on that is refused
pub steps_first_refused : FrameLaws → (old new : Known) (p : Procedure) (at : ℕ) (targets : List ℕ) (next to : ℕ) (role : Role) (moves : Moves) (g : StackFrame) (r : Refusal) →
    LeadsTo moves targets next to g → Flows old new p to g (Err r) → Steps old new p at targets next role moves (Err r)
steps_first_refused laws old new p at targets next to role moves g r leads flows =
    refused old new r (λ exact code stands here. flows.stands exact code stands (leads_shown laws p at targets next to role moves g leads exact code here))

-- a conditional jump leads both ways
pub steps_both : FrameLaws → (old mid new : Known) (p : Procedure) (at : ℕ) (targets : List ℕ) (next to : ℕ) (role : Role) (g : StackFrame) (one : Bool) (other : Result Bool Refusal) →
    Flows old mid p next g (Ok one) → Flows mid new p to g other → Steps old new p at targets next role (Either g to) (or_then one other)
steps_both laws old mid new p at targets next to role g one other first second =
    in_turn first second
    (λ exact code stands here. leads_shown laws p at targets next next role (Either g to) g (inl refl, refl) exact code here)
    (λ exact code stands here. leads_shown laws p at targets next to role (Either g to) g (inr refl, refl) exact code here)
    (λ kept has_next has_to f carries. record {
      on = λ a h leads. by has_next has_to a h leads.0 leads.1;
      enters = λ target is. absurd (let e : None ≡ Some target = is in cc);
      after = λ target taken is exit. absurd (let e : None ≡ Some target = is in cc);
      return = λ entry taken in_entry is. absurd (let e : None ≡ Some taken = is in cc);
    })
  where
    by : HasPoint new p next g → HasPoint new p to g → (a : ℕ) (h : StackFrame) → (a ≡ next) ⊎ (a ≡ to) → h ≡ g → HasPoint new p a h
    by has_next has_to a h (inl is) same = has_there new p next a g h has_next is same
    by has_next has_to a h (inr is) same = has_there new p to a g h has_to is same

-- a PCHL leads to each of its targets
pub to_none : (known : Known) (p : Procedure) (f : StackFrame) (targets : List ℕ) → IsSmall known → GoesToFirst known known p f targets 0 false
to_none known p f targets small = record {
  small = small;
  more = omega arith;
  stands = λ exact code stands shown. stands;
  goes = record { same = λ _. refl; less = λ e. absurd (true≢false (sym e)) };
  there = λ _ i less. absurd (omega (arith, less));
}

pub to_one_more : (old now new : Known) (p : Procedure) (f : StackFrame) (targets : List ℕ) (count : ℕ) (changed here : Bool) → count < length targets →
    GoesToFirst old now p f targets count changed → Flows now new p (get_or targets count 0) f (Ok here) → GoesToFirst old new p f targets (count + 1) (changed || here)
to_one_more old now new p f targets count changed here inside so_far flows =
    in_turn so_far flows (λ exact code stands shown. shown)
    (λ exact code stands shown. shown (get_or targets count 0) (Contains-get_or targets count 0 inside))
    (λ kept has_first has. below_more (λ i. (to : ℕ) → HasPoint new p (get_or targets i to) f) count has_first
    (λ to. subst (λ n. HasPoint new p n f) (sym (get_or_default_zero targets count to inside)) has))

pub steps_to_each : FrameLaws → (old new : Known) (p : Procedure) (at : ℕ) (targets : List ℕ) (next : ℕ) (role : Role) (g : StackFrame) (count : ℕ) (changed : Bool) →
    length targets ≤ count → GoesToFirst old new p g targets count changed → Steps old new p at targets next role (Case g) (Ok changed)
steps_to_each laws old new p at targets next role g count changed all went =
    advances_as went (λ exact code stands here to there. leads_shown laws p at targets next to role (Case g) g (there, refl) exact code here)
    (λ same has f carries. record {
      on = λ a h leads. let less = leads.0.1 in has_there new p (get_or targets leads.0.0 a) a g h (has leads.0.0 (omega arith) a) (sym leads.0.2) leads.1;
      enters = λ target is. absurd (let e : None ≡ Some target = is in cc);
      after = λ target taken is exit. absurd (let e : None ≡ Some target = is in cc);
      return = λ entry taken in_entry is. absurd (let e : None ≡ Some taken = is in cc);
    })

pub steps_to_one_refused : FrameLaws → (old now new : Known) (p : Procedure) (at : ℕ) (targets : List ℕ) (next : ℕ) (role : Role) (g : StackFrame) (count : ℕ) (changed : Bool) (r : Refusal) →
    count < length targets → GoesToFirst old now p g targets count changed → Flows now new p (get_or targets count 0) g (Err r) → Steps old new p at targets next role (Case g) (Err r)
steps_to_one_refused laws old now new p at targets next role g count changed r inside so_far flows =
    refused old new r (λ exact code stands here.
    let shown = λ (to : ℕ) (there : Contains targets to). leads_shown laws p at targets next to role (Case g) g (there, refl) exact code here in
    flows.stands exact code (so_far.stands exact code stands shown) (shown (get_or targets count 0) (Contains-get_or targets count 0 inside)))

-- a return
returns_shown : FrameLaws → (p : Procedure) (at : ℕ) (targets : List ℕ) (next : ℕ) (role : Role) (moves : Moves) (taken : ℕ) → returning moves ≡ Some taken →
    (exact : Bool) (code : Code) → IsMoving p at targets next role moves exact code → ReturnsAt p at taken code
returns_shown laws p at targets next role moves taken return exact code here = record {
  returns = exit_shown laws exact code p at here.frame here.found moves here.move taken return;
  here = exit_shown_at laws exact code p at here.frame here.found moves here.move taken return;
}

exits_to : (exits : List (Option ℕ)) (entry taken seen : ℕ) → Some taken ≡ Some seen → exit_of exits entry ≡ Some taken → exit_of exits entry ≡ Some seen
exits_to exits entry taken seen same is = let e : taken ≡ seen = cc in subst (λ n. exit_of exits entry ≡ Some n) e is

pub steps_return : FrameLaws → (old new : Known) (p : Procedure) (at : ℕ) (targets : List ℕ) (next : ℕ) (role : Role) (taken : ℕ) (result : Result Bool Refusal) →
    Exits old new p at taken result → Steps old new p at targets next role (Return taken) result
steps_return laws old new p at targets next role taken result exits =
    advances_as exits (λ exact code stands here. returns_shown laws p at targets next role (Return taken) taken refl exact code here)
    (λ same has f carries. record {
      on = λ to g leads. absurd leads;
      enters = λ target is. absurd (let e : None ≡ Some target = is in cc);
      after = λ target seen is exit. absurd (let e : None ≡ Some target = is in cc);
      return = λ entry seen in_entry is. exits_to new.exits entry taken seen is (has entry in_entry);
    })

pub steps_maybe_return : FrameLaws → (old mid new : Known) (p : Procedure) (at : ℕ) (targets : List ℕ) (next : ℕ) (role : Role) (g : StackFrame) (taken : ℕ) (one : Bool) (other : Result Bool Refusal) →
    Flows old mid p next g (Ok one) → Exits mid new p at taken other → Steps old new p at targets next role (MaybeReturn g taken) (or_then one other)
steps_maybe_return laws old mid new p at targets next role g taken one other first second =
    in_turn first second
    (λ exact code stands here. leads_shown laws p at targets next next role (MaybeReturn g taken) g (refl, refl) exact code here)
    (λ exact code stands here. returns_shown laws p at targets next role (MaybeReturn g taken) taken refl exact code here)
    (λ kept has has_exit f carries. record {
      on = λ a h leads. has_there new p next a g h has leads.0 leads.1;
      enters = λ target is. absurd (let e : None ≡ Some target = is in cc);
      after = λ target seen is exit. absurd (let e : None ≡ Some target = is in cc);
      return = λ entry seen in_entry is. exits_to new.exits entry taken seen is (has_exit entry in_entry);
    })

pub exits_same : (known : Known) (entry at taken : ℕ) → IsSmall known → exit_of known.exits entry ≡ Some taken → Exits known known (Entry entry) at taken (Ok false)
exits_same known entry at taken small seen = record {
  small = small;
  more = omega arith;
  stands = λ exact code stands returns. stands;
  goes = record { same = λ _. refl; less = λ e. absurd (true≢false (sym e)) };
  there = λ _ other is. let e : entry ≡ other = cc in subst (λ n. exit_of known.exits n ≡ Some taken) e seen;
}

pub exits_uneven : (known new : Known) (entry at taken seen : ℕ) → exit_of known.exits entry ≡ Some seen → (taken ≢ seen) → Exits known new (Entry entry) at taken (Err (UnevenArguments at))
exits_uneven known new entry at taken seen is apart =
    refused known new (UnevenArguments at) (λ exact code stands return.
    subst (λ a. Refused exact code (UnevenArguments a)) return.here (uneven code (Entry entry) taken seen return.returns (stands.exits entry seen is) apart))

pub exits_first : (known : Known) (entry at taken : ℕ) → IsSmall known → slice_get known.exits entry ≡ Some None → Exits known (with_exit known entry taken) (Entry entry) at taken (Ok true)
exits_first known entry at taken small none = record {
  small = record { points = small.points; frames = small.frames; apart = small.apart };
  more = omega arith;
  stands = λ exact code stands return. stands_exit exact code known entry taken stands return.returns;
  goes = record { same = λ e. absurd (true≢false e); less = λ _. goes_exit known entry taken none };
  there = λ e. absurd (true≢false e);
}

-- calls, case by case: the callee's entry first
entry_shown : FrameLaws → (p : Procedure) (at next : ℕ) (role : Role) (g : StackFrame) (target : ℕ) (exact : Bool) (code : Code) →
    IsCalling p at next role g target exact code → IsShown exact code (Entry target) target entry_frame
entry_shown laws p at next role g target exact code here = shown_entry laws exact code p at g here.found here.moves here.move target here.calls

pub calls_refused : FrameLaws → (old mid new : Known) (p : Procedure) (at next : ℕ) (role : Role) (g : StackFrame) (target : ℕ) (r : Refusal) →
    Flows old mid (Entry target) target entry_frame (Err r) → CallsOut old new p at next role g target (Err r)
calls_refused laws old mid new p at next role g target r first =
    refused old new r (λ exact code stands here. first.stands exact code stands (entry_shown laws p at next role g target exact code here))

pub calls_waiting : FrameLaws → (old mid : Known) (p : Procedure) (at next : ℕ) (role : Role) (g : StackFrame) (target : ℕ) (entered : Bool) →
    Flows old mid (Entry target) target entry_frame (Ok entered) → exit_of mid.exits target ≡ None → CallsOut old mid p at next role g target (Ok entered)
calls_waiting laws old mid p at next role g target entered first none =
    advances_as first (λ exact code stands here. entry_shown laws p at next role g target exact code here)
    (λ same has. record { enters = has; after = λ taken exit. absurd (none_some (exit_of mid.exits target) taken none exit) })

-- after the call the caller's frame is shown without the words that the callee takes
back_shown : FrameLaws → (exact : Bool) (code : Code) (mid : Known) (p : Procedure) (at next : ℕ) (role : Role) (g : StackFrame) (target taken : ℕ) → IsCalling p at next role g target exact code →
    Stands exact code mid → exit_of mid.exits target ≡ Some taken → taken ≤ room role g.words → IsShown exact code p next (returned taken g)
back_shown laws exact code mid p at next role g target taken here stands exit enough =
    subst (λ n. IsShown exact code p n (returned taken g)) here.after
    (shown_after laws exact code p at g here.found here.moves here.move target taken here.calls (stands.exits target taken exit)
    (subst (λ (r : Role). taken ≤ room r g.words) here.role_is enough))

pub calls_back : FrameLaws → (old mid new : Known) (p : Procedure) (at next : ℕ) (role : Role) (g : StackFrame) (target taken : ℕ) (entered : Bool) (other : Result Bool Refusal) →
    Flows old mid (Entry target) target entry_frame (Ok entered) → exit_of mid.exits target ≡ Some taken → taken ≤ room role g.words →
    Flows mid new p next (returned taken g) other → CallsOut old new p at next role g target (or_then entered other)
calls_back laws old mid new p at next role g target taken entered other first exit enough second =
    in_turn first second
    (λ exact code stands here. entry_shown laws p at next role g target exact code here)
    (λ exact code stands here. back_shown laws exact code mid p at next role g target taken here stands exit enough)
    (λ kept has_entry has_next. record {
      enters = has_entry;
      after = λ seen is.
          let there : exit_of mid.exits target ≡ Some seen = subst (λ (k : Known). exit_of k.exits target ≡ Some seen) kept is in
          let e : taken ≡ seen = cc in
          subst (λ n. HasPoint new p next (returned n g)) e has_next;
    })

pub calls_short : FrameLaws → (old mid new : Known) (p : Procedure) (at next : ℕ) (role : Role) (g : StackFrame) (target taken : ℕ) (entered : Bool) →
    Flows old mid (Entry target) target entry_frame (Ok entered) → exit_of mid.exits target ≡ Some taken → room role g.words < taken →
    CallsOut old new p at next role g target (Err (ShortArguments at))
calls_short laws old mid new p at next role g target taken entered first exit less =
    refused old new (ShortArguments at) (λ exact code stands here.
    let then : Stands exact code mid = first.stands exact code stands (entry_shown laws p at next role g target exact code here) in
    let returns = then.exits target taken exit in
    short laws exact code p at g here.found here.moves here.move target returns.at returns.frame here.calls returns.walk
    (let t = taken_at_return code (Entry target) taken returns in
    let h : room (role_of code p) g.words < taken = subst (λ (r : Role). room r g.words < taken) here.role_is less in omega arith))

-- an instruction that moves by a call calls
calls_shown : (p : Procedure) (at : ℕ) (targets : List ℕ) (next : ℕ) (role : Role) (moves : Moves) (g : StackFrame) (target : ℕ) → called moves ≡ Some target →
    (exact : Bool) (code : Code) (here : IsMoving p at targets next role moves exact code) → g ≡ here.frame → IsCalling p at next role g target exact code
calls_shown p at targets next role moves g target call exact code here carries = record {
  found = here.found;
  moves = moves;
  move = subst (λ (f : StackFrame). AtMove exact code p at f here.found moves) (sym carries) here.move;
  calls = call;
  after = here.after;
  role_is = here.role_is;
}

entered : (known : Known) (target to : ℕ) → Some target ≡ Some to → HasPoint known (Entry target) target entry_frame → HasPoint known (Entry to) to entry_frame
entered known target to same has = let e : target ≡ to = cc in subst (λ n. HasPoint known (Entry n) n entry_frame) e has

came_back : (known : Known) (p : Procedure) (next : ℕ) (g f : StackFrame) (target to taken : ℕ) → g ≡ f → Some target ≡ Some to → exit_of known.exits to ≡ Some taken →
    ((seen : ℕ) → exit_of known.exits target ≡ Some seen → HasPoint known p next (returned seen g)) → HasPoint known p next (returned taken f)
came_back known p next g f target to taken carries same exit after =
    let e : target ≡ to = cc in
    subst (λ (y : StackFrame). HasPoint known p next (returned taken y)) carries (after taken (subst (λ n. exit_of known.exits n ≡ Some taken) (sym e) exit))

pub steps_call : FrameLaws → (old new : Known) (p : Procedure) (at : ℕ) (targets : List ℕ) (next : ℕ) (role : Role) (g : StackFrame) (target : ℕ) (result : Result Bool Refusal) →
    CallsOut old new p at next role g target result → Steps old new p at targets next role (Call g target) result
steps_call laws old new p at targets next role g target result calls =
    advances_as calls (λ exact code stands here. calls_shown p at targets next role (Call g target) g target refl exact code here here.carries)
    (λ same has f carries. record {
      on = λ to h leads. absurd leads;
      enters = λ to is. entered new target to is has.enters;
      after = λ to taken is exit. came_back new p next g f target to taken carries is exit has.after;
      return = λ entry taken in_entry is. absurd (let e : None ≡ Some taken = is in cc);
    })

pub steps_maybe_call : FrameLaws → (old mid new : Known) (p : Procedure) (at : ℕ) (targets : List ℕ) (next : ℕ) (role : Role) (g : StackFrame) (target : ℕ) (one : Bool) (other : Result Bool Refusal) →
    Flows old mid p next g (Ok one) → CallsOut mid new p at next role g target other → Steps old new p at targets next role (MaybeCall g target) (or_then one other)
steps_maybe_call laws old mid new p at targets next role g target one other first calls =
    in_turn first calls
    (λ exact code stands here. leads_shown laws p at targets next next role (MaybeCall g target) g (refl, refl) exact code here)
    (λ exact code stands here. calls_shown p at targets next role (MaybeCall g target) g target refl exact code here here.carries)
    (λ kept has has_called f carries. record {
      on = λ a h leads. has_there new p next a g h has leads.0 leads.1;
      enters = λ to is. entered new target to is has_called.enters;
      after = λ to taken is exit. came_back new p next g f target to taken carries is exit has_called.after;
      return = λ entry taken in_entry is. absurd (let e : None ≡ Some taken = is in cc);
    })

pub calls_not_back : FrameLaws → (old mid new : Known) (p : Procedure) (at next : ℕ) (role : Role) (g : StackFrame) (target taken : ℕ) (entered : Bool) (r : Refusal) →
    Flows old mid (Entry target) target entry_frame (Ok entered) → exit_of mid.exits target ≡ Some taken → IsShort at (room role g.words) taken r →
    CallsOut old new p at next role g target (Err r)
calls_not_back laws old mid new p at next role g target taken entered r first exit (inl memory) =
    subst (λ (x : Refusal). CallsOut old new p at next role g target (Err x)) (sym memory) (refused old new Memory (λ exact code stands here. tt))
calls_not_back laws old mid new p at next role g target taken entered r first exit (inr short_of) =
    subst (λ (x : Refusal). CallsOut old new p at next role g target (Err x)) (sym short_of.0) (calls_short laws old mid new p at next role g target taken entered first exit short_of.1)
