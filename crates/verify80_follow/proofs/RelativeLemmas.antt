-- A state that fits with its stack at one place fits with it at each that has as much room, if its instruction doesn't depend on where the stack lies.
use Rattle.std.specs.Prelude.{◌≡◌, ◌⊎◌, ◌≤◌, ℕ, ◌+◌, Bool, true, false, List, Option, None, Some, Ok, length, nat_le}
use Rattle.std.specs.Option.{option_map}
use Rattle.std.proofs.Common.{ap, arith, inl, inr, refl, subst, ◌∙◌}
use Rattle.std.proofs.lemmas.Bool.Decides.{nat_tests}
use Rattle.decode80.specs.{Facts.flow, declared.fetching.Fetched.Fetched, declared.flow.Flow.Flow, declared.instr.Instr.Instr}
use Rattle.decode80.specs.declared.flow.Flow.TheVariants.{Jumps, JumpsIf, JumpsToHl, Calls, CallsIf, Returns, ReturnsIf, Halts}
use Rattle.decode80.specs.declared.instr.Instr.TheVariants.{Call, CallIf, Dad, Dcx, Lxi, Push, Rst, Sphl}
use Rattle.decode80.specs.declared.pair.Pair.TheVariants.{Bc, De, Hl, Sp}
use Rattle.image80.specs.{Image.memory_of}
use Rattle.image80.specs.declared.range.Range.{Range}
use Rattle.verify80.specs.{LookLaws.fetch_at, Looking.is_declared}
use Rattle.verify80_spans.specs.declared.byte_span.ByteSpan.{ByteSpan}
use Rattle.verify80_states.specs.{declared.states.known.Known.Known, Following.known_after, Given.given}
use Rattle.verify80_follow.specs.declared.{followed.FollowedState.FollowedState, stack.StackBounds.StackBounds}
use Rattle.verify80_follow.specs.Stack.{called_on, if_true, stack_after, stack_then, top_of_stack}
use Rattle.verify80_follow.specs.Held.{beside_then, count_of}
use Rattle.verify80_follow.specs.Follows.{Covers, CoversThen, FollowsBy, IsWay, JumpsBy, LeadsTo, ReturnsLeft}
use Rattle.verify80_follow.specs.Follows.{Goes, PassesBy, ReturnsBack, StateFollows, StateStands, StepsOver, stack_of, uses_pointer}
use Rattle.verify80_follow.specs.Follows.{Fitting}
use Rattle.verify80_follow.specs.Handling.{on_stack}

-- what is fitted to an image with another stack
abbrev pub moved : Fitting → Range → Fitting
moved fit range = record fit { image = on_stack fit.image range }

-- where there is room there is more
more_room : {X : Type 0} (a b n : ℕ) (x y : X) → a ≤ b → if_true (nat_le n a) x ≡ Some y → if_true (nat_le n b) x ≡ Some y
more_room a b n x y more is = by (nat_le n a) refl is where
  by : (t : Bool) → nat_le n a ≡ t → if_true t x ≡ Some y → if_true (nat_le n b) x ≡ Some y
  by true inside one = let wider : nat_le n b ≡ true = grind (arith, nat_tests, inside, more) in ap (λ (t : Bool). if_true t x) wider ∙ one
  by false inside none = cc

module _ (one other : StackBounds) (more : one.length ≤ other.length) where
  calls_more : (taken : Bool) (next : ℕ) (bytes after : List ByteSpan) → called_on taken one.length next bytes ≡ Some after → called_on taken other.length next bytes ≡ Some after
  calls_more true next bytes after is = more_room one.length other.length (length bytes + 2) _ after more is
  calls_more false next bytes after is = is

  after_more : (i : Instr) (taken : Bool) (next : ℕ) (s : Known) (bytes after : List ByteSpan) → uses_pointer i ≡ false → stack_after one i taken next s bytes ≡ Some after → stack_after other i taken next s bytes ≡ Some after
  after_more (Push pair) taken next s bytes after fixed is = more_room one.length other.length (length bytes + 2) _ after more is
  after_more (Call to) taken next s bytes after fixed is = calls_more taken next bytes after is
  after_more (CallIf condition to) taken next s bytes after fixed is = calls_more taken next bytes after is
  after_more (Rst number) taken next s bytes after fixed is = calls_more taken next bytes after is
  after_more (Dcx Sp) taken next s bytes after fixed is = more_room one.length other.length (length bytes + 1) _ after more is
  after_more (Lxi Sp n) taken next s bytes after fixed is = cc
  after_more Sphl taken next s bytes after fixed is = cc
  after_more i taken next s bytes after fixed is = is

  then_more : (i : Instr) (taken : Bool) (next : ℕ) (s : Known) (before stack : Option (List ByteSpan)) → uses_pointer i ≡ false → 2 ≤ count_of before → stack_then one i taken next s before ≡ Some stack → stack_then other i taken next s before ≡ Some stack
  then_more i taken next s None stack fixed enough is = absurd (omega (arith, enough))
  then_more i taken next s (Some bytes) stack fixed enough is = by (stack_after one i taken next s bytes) refl is where
    by : (o : Option (List ByteSpan)) → stack_after one i taken next s bytes ≡ o → option_map (λ after. Some after) o ≡ Some stack → stack_then other i taken next s (Some bytes) ≡ Some stack
    by None was none = cc
    by (Some after) was same = ap (λ (o : Option (List ByteSpan)). option_map (λ left. Some left) o) (after_more i taken next s bytes after fixed was) ∙ same

  known_same : (code : List (Option ℕ)) (i : Instr) (stack : Option (List ByteSpan)) (s : Known) → uses_pointer i ≡ false → 2 ≤ count_of stack → known_after code i (top_of_stack one stack) s ≡ known_after code i (top_of_stack other stack) s
  known_same code i None s fixed enough = absurd (omega (arith, enough))
  known_same code (Dad Bc) (Some bytes) s fixed enough = refl
  known_same code (Dad De) (Some bytes) s fixed enough = refl
  known_same code (Dad Hl) (Some bytes) s fixed enough = refl
  known_same code (Dad Sp) (Some bytes) s fixed enough = cc
  known_same code i (Some bytes) s fixed enough = refl

  -- an image with another stack
  module _ (fit : Fitting) (range : Range) (s : FollowedState) (found : Fetched) (fixed : uses_pointer found.instr ≡ false) (enough : 2 ≤ count_of (stack_of s)) where
    then_covers : (taken : Bool) (to : ℕ) (known : Known) → CoversThen one fit s found taken to known → CoversThen other (moved fit range) s found taken to known
    then_covers taken to known c = record {
      stack = c.stack;
      is = then_more found.instr taken found.next known (stack_of s) c.stack fixed enough c.is;
      depth = c.depth;
      covers = subst (λ (k : Known). Covers fit.table to k (beside_then found.instr (stack_of s) c.stack s.beside) c.stack) (known_same fit.code found.instr (stack_of s) known fixed enough) c.covers;
    }

    leads_more : (taken : Bool) (to : ℕ) (left : Option Known) → LeadsTo one fit s found taken to left → LeadsTo other (moved fit range) s found taken to left
    leads_more taken to None leads = tt
    leads_more taken to (Some known) leads = then_covers taken to known leads

    way_more : (at to : ℕ) → IsWay fit.image fit.ways at to → IsWay (on_stack fit.image range) fit.ways at to
    way_more at to (inl behind) = inl (record { at = behind.at; placed = behind.placed; found = behind.found; fetched = behind.fetched; calls = behind.calls; next = behind.next })
    way_more at to (inr listed) = inr listed

    returns_more : (left : Option Known) → ReturnsLeft one fit s found left → ReturnsLeft other (moved fit range) s found left
    returns_more None back = tt
    returns_more (Some known) back = record { stacked = back.stacked; stack = back.stack; to = back.to; is = back.is; way = way_more s.at back.to back.way; leads = then_covers true back.to known back.leads }

    jumps_more : (declared : Bool) → JumpsBy one fit s found declared → JumpsBy other (moved fit range) s found declared
    jumps_more false jumps = record { alone = jumps.alone; way = way_more s.at s.known.hl.words.first jumps.way; leads = then_covers false s.known.hl.words.first s.known jumps.leads }
    jumps_more true jumps = λ to there within. then_covers false to s.known (jumps to there within)

    pub by_more : (w : Flow) → FollowsBy one fit s found w → FollowsBy other (moved fit range) s found w
    by_more (Jumps to) follows = leads_more false to (Some s.known) follows
    by_more (JumpsIf condition to) follows = (leads_more true to (given condition true s.known) follows.0, leads_more false found.next (given condition false s.known) follows.1)
    by_more JumpsToHl follows = jumps_more (is_declared fit.image.regions s.at) follows
    by_more (Calls to) follows = leads_more true to (Some s.known) follows
    by_more (CallsIf condition to) follows = (leads_more true to (given condition true s.known) follows.0, leads_more false found.next (given condition false s.known) follows.1)
    by_more Returns follows = returns_more (Some s.known) follows
    by_more (ReturnsIf condition) follows = (returns_more (given condition true s.known) follows.0, leads_more false found.next (given condition false s.known) follows.1)
    by_more Halts follows = follows
    by_more w follows = leads_more false found.next (Some s.known) follows

-- a state that stands at an instruction
abbrev stands_more : (fit : Fitting) (range : Range) (s : FollowedState) → StateStands fit s → StateStands (moved fit range) s
stands_more fit range s stands = record {
  found = stands.found;
  executed = record { fetched = stands.executed.fetched; stores = stands.executed.stores; halts = stands.executed.halts };
  may = record { serves = stands.may.serves; shown = record { stores = stands.may.shown.stores; jumps = stands.may.shown.jumps }; depth = stands.may.depth; knows = stands.may.knows };
}

-- a state that fits
abbrev pub fits_more : (one other : StackBounds) → one.length ≤ other.length → (fit : Fitting) (range : Range) (s : FollowedState) →
    (fits : StateFollows one fit s) → uses_pointer fits.stands.found.instr ≡ false → 2 ≤ count_of (stack_of s) → StateFollows other (moved fit range) s
fits_more one other more fit range s fits fixed enough = record {
  stands = stands_more fit range s fits.stands;
  follows = by_more one other more fit range s fits.stands.found fixed enough (flow fits.stands.found.instr) fits.follows;
}

-- the same of a call that is stepped over, and of a return
module _ (one other : StackBounds) (more : one.length ≤ other.length) (fit : Fitting) (range : Range) (s : FollowedState) (enough : 2 ≤ count_of (stack_of s))
    (fixed : (found : Fetched) → fetch_at fit.image.regions (memory_of fit.image.chunks) s.at ≡ Ok found → uses_pointer found.instr ≡ false) where
  passes_more : (found : Fetched) → uses_pointer found.instr ≡ false → (w : Flow) → PassesBy one fit s found w → PassesBy other (moved fit range) s found w
  passes_more found still (CallsIf condition to) passes = leads_more one other more fit range s found still enough false found.next (given condition false s.known) passes
  passes_more found still (ReturnsIf condition) passes = leads_more one other more fit range s found still enough false found.next (given condition false s.known) passes
  passes_more found still w passes = tt

  steps_more : StepsOver one fit s → StepsOver other (moved fit range) s
  steps_more steps = record {
    stands = stands_more fit range s steps.stands;
    summary = steps.summary;
    among = steps.among;
    calls = steps.calls;
    stack = steps.stack;
    is = steps.is;
    room = steps.room;
    behind = steps.behind;
    passes = passes_more steps.stands.found (fixed steps.stands.found steps.stands.executed.fetched) (flow steps.stands.found.instr) steps.passes;
  }

  backs_more : ReturnsBack one fit s → ReturnsBack other (moved fit range) s
  backs_more back = record {
    stands = stands_more fit range s back.stands;
    returns = back.returns;
    back = back.back;
    alone = back.alone;
    passes = passes_more back.stands.found (fixed back.stands.found back.stands.executed.fetched) (flow back.stands.found.instr) back.passes;
  }

  pub summary_more : ReturnsBack one fit s ⊎ Goes one fit s →
      ReturnsBack other (moved fit range) s ⊎ Goes other (moved fit range) s
  summary_more (inl back) = inl (backs_more back)
  summary_more (inr (inl fits)) = inr (inl (fits_more one other more fit range s fits (fixed fits.stands.found fits.stands.executed.fetched) enough))
  summary_more (inr (inr steps)) = inr (inr (steps_more steps))
