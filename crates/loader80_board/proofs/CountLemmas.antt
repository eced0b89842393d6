-- Steps on a board are counted by their addresses.
use Rattle.std.proofs.Common.{◌≡◌, ◌≢◌, ℕ, ◌+◌, ◌<◌, ◌≤◌, ◌==◌, Bool, true, false, cond, List, [], ◌∷◌, ◌++◌, length, get_or, inl, inr}
use Rattle.std.proofs.Common.{refl, ap, sym, subst, ◌∙◌, arith, eqb-true, length-set, get_or-set_same, get_or-set_other, length-append}
use Rattle.std.specs.Prelude.{filter, is_some, replicate, slice_set, Option, None}
use Rattle.std.proofs.lemmas.Bool.{cases_lt, eqb-false}
use Rattle.std.proofs.lemmas.List.{get_or_past, get_or-replicate, length-replicate}
use Rattle.image80.specs.Regions.{Areas}
use Rattle.machine80.specs.Step.{Machine}
use Rattle.board80.specs.declared.line.Line.{Line}
use Rattle.machine80_board.specs.declared.end.BoardEnd.{BoardEnd}
use Rattle.machine80_board.specs.declared.rules.Running.{Running}
use Rattle.machine80_board.specs.BoardRun.{BoardState, IsReached}
use Rattle.machine80_board.specs.Keeping.{HasCome, IsNow}
use Rattle.loader80_board.specs.BoardCounts.{CountsSteps, begins_at}
use Rattle.loader80_board.specs.BoardStates.{EndsSo}
use Rattle.loader80_board.proofs.StatesLemmas.{Steps, begun, ended, states_more, stopped, went}

-- a given number of steps have been counted, and the run has come so far
pub record Counted (lines : List Line) (regions : Areas) (most : ℕ) (start : BoardState) (made : ℕ) (r : Running) (counts : List ℕ) : Type 0 where
  pub come : HasCome lines regions most start made r
  pub counted : CountsSteps lines regions most start made counts

pub counted_first : (lines : List Line) (regions : Areas) (most : ℕ) (start : BoardState) (r : Running) (counts : List ℕ) → IsNow lines start r → counts ≡ replicate 65536 0 → Counted lines regions most start 0 r counts
counted_first lines regions most start r counts now zeros = record {
  come = begun lines regions most start r now;
  counted = record {
    states = [];
    are_states = tt;
    all = refl;
    whole = ap length zeros ∙ length-replicate {A = ℕ} 65536 0;
    each = λ address below. ap (λ (l : List ℕ). get_or l address 0) zeros ∙ get_or-replicate 65536 address 0 0 below;
  };
}

-- one more state begins at an address or elsewhere
filter_more : (test : BoardState → Bool) (states : List BoardState) (s : BoardState) (is : Bool) → test s ≡ is → length (filter test (states ++ s ∷ [])) ≡ length (filter test states) + cond is 1 0
filter_more test [] s true h = ap (λ (b : Bool). length (cond b (s ∷ []) [])) h
filter_more test [] s false h = ap (λ (b : Bool). length (cond b (s ∷ []) [])) h
filter_more test (x ∷ xs) s is h = first (test x) (filter_more test xs s is h)
  where
    first : (b : Bool) → length (filter test (xs ++ s ∷ [])) ≡ length (filter test xs) + cond is 1 0 →
        length (cond b (x ∷ filter test (xs ++ s ∷ [])) (filter test (xs ++ s ∷ []))) ≡ length (cond b (x ∷ filter test xs) (filter test xs)) + cond is 1 0
    first true rest = omega (arith, rest)
    first false rest = rest

-- one more step is counted
each_more : (states : List BoardState) (s : BoardState) (at : ℕ) (counts : List ℕ) (address : ℕ) (same : Bool) → s.machine.cpu.pc ≡ at → (at == address) ≡ same → at < length counts →
    get_or counts address 0 ≡ length (filter (begins_at address) states) → get_or (slice_set counts at (get_or counts at 0 + 1)) address 0 ≡ length (filter (begins_at address) (states ++ s ∷ []))
each_more states s at counts address true is same inside each =
    let here : at ≡ address = eqb-true at address same in
    let begins : begins_at address s ≡ true = ap (λ (n : ℕ). n == address) is ∙ same in
    let now : get_or (slice_set counts at (get_or counts at 0 + 1)) at 0 ≡ get_or counts at 0 + 1 = get_or-set_same counts at (get_or counts at 0 + 1) 0 inside in
    let there : get_or (slice_set counts at (get_or counts at 0 + 1)) address 0 ≡ get_or counts address 0 + 1 =
    subst (λ (n : ℕ). get_or (slice_set counts at (get_or counts at 0 + 1)) n 0 ≡ get_or counts n 0 + 1) here now in
    there ∙ ap (λ (n : ℕ). n + 1) each ∙ sym (filter_more (begins_at address) states s true begins)
each_more states s at counts address false is same inside each =
    let other : at ≢ address = eqb-false at address same in
    let begins : begins_at address s ≡ false = ap (λ (n : ℕ). n == address) is ∙ same in
    let none : length (filter (begins_at address) states) ≡ length (filter (begins_at address) states) + 0 = omega arith in
    get_or-set_other counts at address (get_or counts at 0 + 1) 0 (λ e. other (sym e)) ∙ each ∙ none ∙ sym (filter_more (begins_at address) states s false begins)

counts_more : (lines : List Line) (regions : Areas) (most : ℕ) (start : BoardState) (made : ℕ) (r : Running) (counts : List ℕ) → Counted lines regions most start made r counts → r.cpu.pc < 65536 →
    CountsSteps lines regions most start (made + 1) (slice_set counts r.cpu.pc (get_or counts r.cpu.pc 0 + 1))
counts_more lines regions most start made r counts counted inside =
    let before = counted.counted in
    let s : BoardState = counted.come.state in
    let pc : s.machine.cpu.pc ≡ r.cpu.pc = ap (λ (m : Machine). m.cpu.pc) counted.come.now.is in
    let more : length (before.states ++ s ∷ []) ≡ length before.states + 1 = length-append before.states (s ∷ []) in
    let number : made ≡ 0 + length before.states = omega (arith, before.all) in
    record {
      states = before.states ++ s ∷ [];
      are_states = states_more lines regions most start 0 before.states s before.are_states (subst (λ (n : ℕ). IsReached lines regions most start n s) number counted.come.reached);
      all = more ∙ ap (λ (n : ℕ). n + 1) before.all;
      whole = length-set counts r.cpu.pc (get_or counts r.cpu.pc 0 + 1) ∙ before.whole;
      each = λ address below. each_more before.states s r.cpu.pc counts address (r.cpu.pc == address) pc refl (omega (arith, before.whole, inside)) (before.each address below);
    }

pub counted_next : (lines : List Line) (regions : Areas) (most : ℕ) (start : BoardState) (made : ℕ) (r after : Running) (ending : Option BoardEnd) (counts : List ℕ) → Counted lines regions most start made r counts → r.cpu.pc < 65536 → is_some ending ≡ false → Steps lines regions most r after ending →
    Counted lines regions most start (made + 1) after (slice_set counts r.cpu.pc (get_or counts r.cpu.pc 0 + 1))
counted_next lines regions most start made r after ending counts counted inside none turned = record {
  come = went lines regions most start made r after ending none counted.come turned;
  counted = counts_more lines regions most start made r counts counted inside;
}

-- the run has ended with the step that was counted last
pub counted_end : (lines : List Line) (regions : Areas) (most limit : ℕ) (start : BoardState) (made : ℕ) (r after : Running) (ending : Option BoardEnd) (counts : List ℕ) → Counted lines regions most start made r counts → r.cpu.pc < 65536 → made < limit → is_some ending ≡ true → Steps lines regions most r after ending →
    EndsSo lines regions start (record { steps = limit; outputs = most }) (record { end = ending; steps = made + 1; at = after.cpu.pc }) × CountsSteps lines regions most start (made + 1) (slice_set counts r.cpu.pc (get_or counts r.cpu.pc 0 + 1))
counted_end lines regions most limit start made r after ending counts counted inside within some turned =
    (ended lines regions most limit start made r after ending some within counted.come turned, counts_more lines regions most start made r counts counted inside)

-- the steps were used up
pub counted_all : (lines : List Line) (regions : Areas) (most limit : ℕ) (start : BoardState) (made : ℕ) (r : Running) (counts : List ℕ) → Counted lines regions most start made r counts → made ≡ limit →
    EndsSo lines regions start (record { steps = limit; outputs = most }) (record { end = None; steps = limit; at = r.cpu.pc }) × CountsSteps lines regions most start limit counts
counted_all lines regions most limit start made r counts counted all =
    (stopped lines regions most limit start made r all counted.come, subst (λ (n : ℕ). CountsSteps lines regions most start n counts) all counted.counted)

-- no count is above the number of steps
above : (counts : List ℕ) (at made address : ℕ) (same : Bool) → (address == at) ≡ same → ((a : ℕ) → get_or counts a 0 ≤ made) → at < length counts → get_or (slice_set counts at (get_or counts at 0 + 1)) address 0 ≤ made + 1
above counts at made address true same below inside =
    let here : address ≡ at = eqb-true address at same in
    let now : get_or (slice_set counts at (get_or counts at 0 + 1)) at 0 ≡ get_or counts at 0 + 1 = get_or-set_same counts at (get_or counts at 0 + 1) 0 inside in
    let bound : get_or counts at 0 ≤ made = below at in
    subst (λ (n : ℕ). get_or (slice_set counts at (get_or counts at 0 + 1)) n 0 ≤ made + 1) (sym here) (omega (arith, now, bound))
above counts at made address false same below inside =
    let other : get_or (slice_set counts at (get_or counts at 0 + 1)) address 0 ≡ get_or counts address 0 = get_or-set_other counts at address (get_or counts at 0 + 1) 0 (eqb-false address at same) in
    let bound : get_or counts address 0 ≤ made = below address in
    omega (arith, other, bound)

pub none_above : (counts : List ℕ) (at made : ℕ) → ((a : ℕ) → get_or counts a 0 ≤ made) → at < length counts → (address : ℕ) → get_or (slice_set counts at (get_or counts at 0 + 1)) address 0 ≤ made + 1
none_above counts at made below inside address = above counts at made address (address == at) refl below inside

pub zero_counts : (counts : List ℕ) → counts ≡ replicate 65536 0 → (address : ℕ) → get_or counts address 0 ≤ 0
zero_counts counts zeros address =
    elim (cases_lt address 65536) [
      | inl below ↦ (let none : get_or counts address 0 ≡ 0 = ap (λ (l : List ℕ). get_or l address 0) zeros ∙ get_or-replicate 65536 address 0 0 below in omega arith)
      | inr past ↦ (let none : get_or counts address 0 ≡ 0 = get_or_past counts address 0 (let long : length counts ≡ 65536 = ap length zeros ∙ length-replicate {A = ℕ} 65536 0 in omega arith) in omega arith)
    ]
