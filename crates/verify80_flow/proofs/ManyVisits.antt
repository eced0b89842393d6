-- Many visits, one after another.
use Rattle.std.specs.Prelude.{◌≡◌, ◌<◌, ◌≤◌, ◌+◌, ◌⊎◌, ◌||◌, ℕ, zero, suc, Bool, true, false, [], length, replicate, Some, None, Result, Ok, Err, slice_get, refl}
use Rattle.std.proofs.Common.{ap, sym, subst, arith, inl, inr, true≢false}
use Rattle.verify80_flow.specs.declared.refusal.Refusal.{Refusal}
use Rattle.frames80.specs.Code.{Code}
use Rattle.frames80.specs.StackFrame.{StackFrame, main_frame}
use Rattle.frames80.specs.declared.procedure.Procedure.{Procedure}
use Rattle.frames80.specs.declared.procedure.Procedure.TheVariants.{Main}
use Rattle.verify80_flow.specs.Points.{Point}
use Rattle.verify80_flow.specs.Shown.{IsShown}
use Rattle.verify80_flow.specs.Known.{Known, Visits, is_exact, nothing_known, exit_of, IsSmall, Stands, HasPoint, Flows, Goes, ManyVisits, Sweeps, AreClosed, AllClosed, weight}
use Rattle.verify80_flow.proofs.Slices.{within}
use Rattle.verify80_flow.proofs.StepLemmas.{first_false, second_false, or_then, advances_as, in_turn}

pub split : (j k : ℕ) → j < k + 1 → (j < k) ⊎ (j ≡ k)
split j zero less = inr (omega arith)
split zero (suc k) less = inl (omega arith)
split (suc j) (suc k) less = by (split j k (omega arith))
  where
    by : (j < k) ⊎ (j ≡ k) → (suc j < suc k) ⊎ (suc j ≡ suc k)
    by (inl before) = inl (omega arith)
    by (inr at) = inr (ap suc at)

-- no visit yet
pub visits_none : (code : Code) (known : Known) → IsSmall known → ManyVisits code known known (Ok false)
visits_none code known small = record {
  small = small;
  more = omega arith;
  stands = λ exact seen stands same. stands;
  goes = record { same = λ _. refl; less = λ e. absurd (true≢false (sym e)) };
  there = λ _. tt;
}

-- visits, and then others
pub visits_more : (code : Code) (old mid new : Known) (one : Bool) (other : Result Bool Refusal) → ManyVisits code old mid (Ok one) → ManyVisits code mid new other → ManyVisits code old new (or_then one other)
visits_more code old mid new one other first second = in_turn first second (λ exact seen stands same. same) (λ exact seen stands same. same) (λ kept one_there other_there. tt)

pub visits_flow : (code : Code) (old new : Known) (p : Procedure) (to : ℕ) (g : StackFrame) (result : Result Bool Refusal) → ((exact : Bool) → IsShown exact code p to g) → Flows old new p to g result →
    ManyVisits code old new result
visits_flow code old new p to g result shown flows =
    advances_as flows (λ exact seen stands same. subst (λ (c : Code). IsShown exact c p to g) (sym same) (shown exact)) (λ same has. tt)

pub visits_visit : (code : Code) (old new : Known) (i : ℕ) (result : Result Bool Refusal) → Visits code old new i result → ManyVisits code old new result
visits_visit code old new i result visits = advances_as visits (λ exact seen stands same. same) (λ same closed. tt)

-- where the start and a pass change nothing the table is closed
pub all_closed : (code : Code) (old mid new : Known) (begun passed : Bool) → Flows old mid Main code.start main_frame (Ok begun) → ManyVisits code mid new (Ok passed) →
    (passed ≡ false → AreClosed code new (length new.points)) → (begun || passed) ≡ false → AllClosed code new
all_closed code old mid new begun passed flows pass closed none =
    let no_pass : passed ≡ false = second_false begun passed none in
    record {
      start = subst (λ (k : Known). HasPoint k Main code.start main_frame) (sym (pass.goes.same no_pass)) (flows.there (first_false begun passed none));
      points = λ i point there. (closed no_pass).closed i point (within new.points i point there) there;
    }

-- what goes doesn't raise the measure
no_more : (old new : Known) (changed : Bool) → Goes old new changed → weight new ≤ weight old
no_more old new true goes = let less = goes.less refl in omega arith
no_more old new false goes = let same = ap weight (goes.same refl) in omega arith

-- a sweep: points that wait, and then the start and a pass
pub sweeps_done : (code : Code) (old drained new : Known) (some changed : Bool) → ManyVisits code old drained (Ok some) → ManyVisits code drained new (Ok changed) → Sweeps code old new (Ok changed)
sweeps_done code old drained new some changed first second = record {
  small = second.small;
  stands = λ exact stands. second.stands exact code (first.stands exact code stands refl) refl;
  no_more = let a = no_more old drained some first.goes in let b = no_more drained new changed second.goes in omega arith;
  less = λ is. let a = no_more old drained some first.goes in let b = second.goes.less is in omega arith;
}

pub sweeps_refused : (code : Code) (old new : Known) (refusal : Refusal) → ManyVisits code old new (Err refusal) → Sweeps code old new (Err refusal)
sweeps_refused code old new refusal looks = record { small = tt; stands = λ exact stands. looks.stands exact code stands refl; no_more = tt; less = tt }

-- nothing is known, and all of it is shown
none_known : (n entry taken : ℕ) → exit_of (replicate n None) entry ≡ Some taken → ⊥
none_known zero entry taken is = let e : None ≡ Some taken = is in cc
none_known (suc n) zero taken is = let e : None ≡ Some taken = is in cc
none_known (suc n) (suc entry) taken is = none_known n entry taken is

no_points : {B : Type 0} (i : ℕ) (point : Point) → slice_get [] i ≡ Some point → B
no_points i point is = absurd (let e : None ≡ Some point = is in cc)

pub nothing_stands : (exact : Bool) (code : Code) (known : Known) (forgets : Bool) → known ≡ nothing_known forgets → exact ≡ is_exact forgets → Stands exact code known
nothing_stands exact code known forgets is mode = subst (Stands exact code) (sym is) (record { mode = mode; points = λ i point there. no_points i point there; exits = λ entry taken seen. absurd (none_known 65536 entry taken seen) })

pub nothing_small : (known : Known) (forgets : Bool) → known ≡ nothing_known forgets → IsSmall known
nothing_small known forgets is = subst IsSmall (sym is) (record {
  points = omega arith;
  frames = λ i point there. no_points i point there;
  apart = record { apart = λ i j a b one other p at. no_points i a one };
})

-- what is asked of frames tells whether they forget
pub same_mode : (one other : Bool) → is_exact one ≡ is_exact other → one ≡ other
same_mode true true same = refl
same_mode true false same = absurd (true≢false (sym same))
same_mode false true same = absurd (true≢false same)
same_mode false false same = refl

-- where a visit changes nothing one point more is closed
pub closed_more : (code : Code) (now new : Known) (count : ℕ) (changed here : Bool) → (changed ≡ false → AreClosed code now count) → Visits code now new count (Ok here) →
    (changed || here) ≡ false → AreClosed code new (count + 1)
closed_more code now new count changed here closed visits none =
    let no_here = second_false changed here none in
    let same : new ≡ now = visits.goes.same no_here in
    let before : AreClosed code new count = subst (λ (k : Known). AreClosed code k count) (sym same) (closed (first_false changed here none)) in
    record {
      closed = λ i point less there. elim (split i count less) [
        | inl earlier ↦ before.closed i point earlier there
        | inr at ↦ visits.there no_here point (subst (λ n. slice_get new.points n ≡ Some point) at there)
      ];
    }
