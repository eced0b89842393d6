-- Steps are counted by their addresses.
use Rattle.std.specs.Prelude.{◌≡◌, ◌≢◌, ℕ, ◌+◌, ◌<◌, ◌≤◌, ◌==◌, Bool, true, false, List, Option, None, Some, is_some, length, replicate, slice_set, if◌then◌else◌, refl}
use Rattle.std.proofs.Common.{◌∙◌, ap, sym, subst, arith, inl, inr, get_or, eqb-true, length-set, get_or-set_same, get_or-set_other}
use Rattle.std.proofs.lemmas.Bool.{cases_lt, eqb-false}
use Rattle.std.proofs.lemmas.List.{get_or_past, get_or-replicate, length-replicate}
use Rattle.std.proofs.lemmas.List.FromFn.{sum_by-map-range_with_len_more}
use Rattle.image80.specs.Regions.{Areas}
use Rattle.machine80.specs.declared.end.End.{End}
use Rattle.machine80.specs.Step.{Machine}
use Rattle.machine80.specs.World.{World, world_at}
use Rattle.machine80.specs.Run.{IsRun, Reaches}
use Rattle.loader80_trace.specs.Counts.{CountsSteps, begun_at, steps_at}
use Rattle.loader80_trace.specs.Finished.{HasReached, MakesStep}
use Rattle.loader80_trace.specs.Traces.{EndsSo}
use Rattle.loader80_trace.proofs.StepLemmas.{ended_there, reached_next}

-- a given number of steps have been counted, and the run has come so far
pub record Counted (regions : Areas) (outputs : ℕ) (start : World) (made : ℕ) (m : Machine) (counts : List ℕ) : Type 0 where
  pub at : HasReached regions outputs start made m
  pub counted : CountsSteps regions (Some outputs) start made counts

steps_at-none : (regions : Areas) (most : Option ℕ) (start : World) (address : ℕ) → steps_at regions most start 0 address ≡ 0
unfolding steps_at
steps_at-none regions most start address = refl

steps_at-more : (regions : Areas) (most : Option ℕ) (start : World) (made address : ℕ) →
    steps_at regions most start (made + 1) address ≡ steps_at regions most start made address + begun_at address (world_at regions most start made)
unfolding steps_at
steps_at-more regions most start made address = sum_by-map-range_with_len_more (begun_at address) (world_at regions most start) 0 made made (omega arith)

begun-reached : (regions : Areas) (most : Option ℕ) (start : World) (made address : ℕ) (m : Machine) → Reaches regions most start made m →
    begun_at address (world_at regions most start made) ≡ (if m.cpu.pc == address then 1 else 0)
begun-reached regions most start made address m reached =
    ap (begun_at address) reached.at ∙ ap (λ (n : Machine). if n.cpu.pc == address then 1 else 0) reached.same

pub counted_first : (regions : Areas) (outputs : ℕ) (start : World) (m : Machine) (counts : List ℕ) → HasReached regions outputs start 0 m → counts ≡ replicate 65536 0 → Counted regions outputs start 0 m counts
counted_first regions outputs start m counts reached zeros = record {
  at = reached;
  counted = record {
    whole = ap length zeros ∙ length-replicate {A = ℕ} 65536 0;
    each = λ address below. ap (λ (l : List ℕ). get_or l address 0) zeros ∙ get_or-replicate 65536 address 0 0 below ∙ sym (steps_at-none regions (Some outputs) start address);
  };
}

-- one more step is counted
each_more : (regions : Areas) (most : Option ℕ) (start : World) (made : ℕ) (m : Machine) (counts : List ℕ) (address : ℕ) (same : Bool) → (m.cpu.pc == address) ≡ same → Reaches regions most start made m → length counts ≡ 65536 → m.cpu.pc < 65536 →
    get_or counts address 0 ≡ steps_at regions most start made address →
    get_or (slice_set counts m.cpu.pc (get_or counts m.cpu.pc 0 + 1)) address 0 ≡ steps_at regions most start (made + 1) address
each_more regions most start made m counts address true same reached whole inside each =
    let here : m.cpu.pc ≡ address = eqb-true m.cpu.pc address same in
    let within : m.cpu.pc < length counts = omega arith in
    let begun : begun_at address (world_at regions most start made) ≡ 1 = begun-reached regions most start made address m reached ∙ ap (λ (b : Bool). if b then 1 else 0) same in
    let now : get_or (slice_set counts m.cpu.pc (get_or counts m.cpu.pc 0 + 1)) m.cpu.pc 0 ≡ get_or counts m.cpu.pc 0 + 1 = get_or-set_same counts m.cpu.pc (get_or counts m.cpu.pc 0 + 1) 0 within in
    let there : get_or (slice_set counts m.cpu.pc (get_or counts m.cpu.pc 0 + 1)) address 0 ≡ get_or counts address 0 + 1 =
    subst (λ (n : ℕ). get_or (slice_set counts m.cpu.pc (get_or counts m.cpu.pc 0 + 1)) n 0 ≡ get_or counts n 0 + 1) here now in
    there ∙ ap (λ (n : ℕ). n + 1) each ∙ ap (λ (n : ℕ). steps_at regions most start made address + n) (sym begun) ∙ sym (steps_at-more regions most start made address)
each_more regions most start made m counts address false same reached whole inside each =
    let other : m.cpu.pc ≢ address = eqb-false m.cpu.pc address same in
    let begun : begun_at address (world_at regions most start made) ≡ 0 = begun-reached regions most start made address m reached ∙ ap (λ (b : Bool). if b then 1 else 0) same in
    let all : steps_at regions most start made address ≡ steps_at regions most start made address + 0 = omega arith in
    get_or-set_other counts m.cpu.pc address (get_or counts m.cpu.pc 0 + 1) 0 (λ e. other (sym e)) ∙ each ∙ all
    ∙ ap (λ (n : ℕ). steps_at regions most start made address + n) (sym begun) ∙ sym (steps_at-more regions most start made address)

counts_more : (regions : Areas) (most : Option ℕ) (start : World) (made : ℕ) (m : Machine) (counts : List ℕ) → Reaches regions most start made m → m.cpu.pc < 65536 → CountsSteps regions most start made counts →
    CountsSteps regions most start (made + 1) (slice_set counts m.cpu.pc (get_or counts m.cpu.pc 0 + 1))
counts_more regions most start made m counts reached inside counted = record {
  whole = length-set counts m.cpu.pc (get_or counts m.cpu.pc 0 + 1) ∙ counted.whole;
  each = λ address below. each_more regions most start made m counts address (m.cpu.pc == address) refl reached counted.whole inside (counted.each address below);
}

pub counted_next : (regions : Areas) (outputs : ℕ) (start : World) (made : ℕ) (m after : Machine) (ending : Option End) (counts : List ℕ) → Counted regions outputs start made m counts → m.cpu.pc < 65536 → MakesStep regions outputs m after ending → ending ≡ None →
    Counted regions outputs start (made + 1) after (slice_set counts m.cpu.pc (get_or counts m.cpu.pc 0 + 1))
counted_next regions outputs start made m after ending counts counted inside step none = record {
  at = reached_next regions outputs start made m after ending counted.at step none;
  counted = counts_more regions (Some outputs) start made m counts counted.at.limited inside counted.counted;
}

-- the run has ended with the step that was counted last
pub counted_end : (regions : Areas) (outputs : ℕ) (start : World) (limit made : ℕ) (m after : Machine) (ending : Option End) (counts : List ℕ) → Counted regions outputs start made m counts → m.cpu.pc < 65536 → made < limit → MakesStep regions outputs m after ending → is_some ending ≡ true →
    EndsSo regions (Some outputs) start limit (record { end = ending; steps = made + 1; cpu = after.cpu }) × CountsSteps regions (Some outputs) start (made + 1) (slice_set counts m.cpu.pc (get_or counts m.cpu.pc 0 + 1))
counted_end regions outputs start limit made m after None counts counted inside within step some = cc
counted_end regions outputs start limit made m after (Some e) counts counted inside within step some = (
  record { last = after; run = (omega arith, ended_there regions outputs start made m after e counted.at step); cpu = refl },
  counts_more regions (Some outputs) start made m counts counted.at.limited inside counted.counted,
)

-- the steps were used up
pub counted_all : (regions : Areas) (outputs : ℕ) (start : World) (limit made : ℕ) (m : Machine) (counts : List ℕ) → Counted regions outputs start made m counts → made ≡ limit →
    EndsSo regions (Some outputs) start limit (record { end = None; steps = limit; cpu = m.cpu }) × CountsSteps regions (Some outputs) start limit counts
counted_all regions outputs start limit made m counts counted all =
    subst (λ (n : ℕ). EndsSo regions (Some outputs) start limit (record { end = None; steps = n; cpu = m.cpu }) × CountsSteps regions (Some outputs) start n counts) all
    (record { last = m; run = (all, counted.at.limited); cpu = refl }, counted.counted)

-- a run of no step has not ended
pub goes_from_start : (regions : Areas) (most : Option ℕ) (start : World) (steps : ℕ) (m : Machine) (ending : Option End) → IsRun regions most start 0 steps m ending → ending ≡ None
goes_from_start regions most start steps m None run = refl
goes_from_start regions most start steps m (Some e) run = absurd (let none : ⊥ = omega (arith, run.0, run.1.counted) in none)

-- no count is above the number of steps
above : (counts : List ℕ) (at made address : ℕ) (same : Bool) → (address == at) ≡ same → ((a : ℕ) → get_or counts a 0 ≤ made) → at < length counts → get_or (slice_set counts at (get_or counts at 0 + 1)) address 0 ≤ made + 1
above counts at made address true same below inside =
    let here : address ≡ at = eqb-true address at same in
    let now : get_or (slice_set counts at (get_or counts at 0 + 1)) at 0 ≡ get_or counts at 0 + 1 = get_or-set_same counts at (get_or counts at 0 + 1) 0 inside in
    let bound : get_or counts at 0 ≤ made = below at in
    subst (λ (n : ℕ). get_or (slice_set counts at (get_or counts at 0 + 1)) n 0 ≤ made + 1) (sym here) (omega (arith, now, bound))
above counts at made address false same below inside =
    let other : get_or (slice_set counts at (get_or counts at 0 + 1)) address 0 ≡ get_or counts address 0 = get_or-set_other counts at address (get_or counts at 0 + 1) 0 (eqb-false address at same) in
    let bound : get_or counts address 0 ≤ made = below address in
    omega (arith, other, bound)

pub none_above : (counts : List ℕ) (at made : ℕ) → ((a : ℕ) → get_or counts a 0 ≤ made) → at < length counts → (address : ℕ) → get_or (slice_set counts at (get_or counts at 0 + 1)) address 0 ≤ made + 1
none_above counts at made below inside address = above counts at made address (address == at) refl below inside

pub zero_counts : (counts : List ℕ) → counts ≡ replicate 65536 0 → (address : ℕ) → get_or counts address 0 ≤ 0
zero_counts counts zeros address =
    elim (cases_lt address 65536) [
      | inl below ↦ (let none : get_or counts address 0 ≡ 0 = ap (λ (l : List ℕ). get_or l address 0) zeros ∙ get_or-replicate 65536 address 0 0 below in omega arith)
      | inr past ↦ (let none : get_or counts address 0 ≡ 0 = get_or_past counts address 0 (let long : length counts ≡ 65536 = ap length zeros ∙ length-replicate {A = ℕ} 65536 0 in omega arith) in omega arith)
    ]
