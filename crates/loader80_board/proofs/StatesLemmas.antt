-- The states of a run, one after another, and how far a run has come.
use Rattle.std.proofs.Common.{◌≡◌, ℕ, ◌+◌, ◌<◌, Bool, true, false, List, [], ◌∷◌, ◌++◌, length, refl, ap, sym, subst, ◌∙◌, arith, append_assoc, append-nil}
use Rattle.std.specs.Prelude.{is_some, Option, Some, None, Result, Ok, Err, IfOk, OnErr}
use Rattle.omf_model.specs.declared.symbols.Public.{Public}
use Rattle.image80.specs.Regions.{Areas}
use Rattle.machine80.specs.Step.{Machine}
use Rattle.board80.specs.declared.line.Line.{Line}
use Rattle.machine80_board.specs.declared.end.BoardEnd.{BoardEnd}
use Rattle.machine80_board.specs.declared.rules.Running.{Running}
use Rattle.machine80_board.specs.BoardRun.{BoardState, IsReached, begins, goes_on}
use Rattle.machine80_board.specs.Keeping.{HasCome, IsNow, Turned}
use Rattle.loader80_board.specs.BoardLines.{states_lines, step_line}
use Rattle.loader80_board.specs.BoardStates.{AreStates, EndsSo}

-- one state more
pub states_more : (lines : List Line) (regions : Areas) (most : ℕ) (start : BoardState) (from : ℕ) (states : List BoardState) (s : BoardState) → AreStates lines regions most start from states →
    IsReached lines regions most start (from + length states) s → AreStates lines regions most start from (states ++ s ∷ [])
states_more lines regions most start from [] s all reached =
    let same : from + 0 ≡ from = omega arith in
    (subst (λ (n : ℕ). IsReached lines regions most start n s) same reached, tt)
states_more lines regions most start from (x ∷ xs) s all reached =
    let same : from + length (x ∷ xs) ≡ from + 1 + length xs = omega arith in
    (all.0, states_more lines regions most start (from + 1) xs s all.1 (subst (λ (n : ℕ). IsReached lines regions most start n s) same reached))

-- and its line
pub lines_more : (lines : List Line) (regions : Areas) (publics : List Public) (numbered : Bool) (from : ℕ) (states : List BoardState) (s : BoardState) →
    states_lines lines regions publics numbered from (states ++ s ∷ []) ≡ states_lines lines regions publics numbered from states ++ step_line lines regions publics numbered (from + length states) s
lines_more lines regions publics numbered from [] s =
    let same : from ≡ from + 0 = omega arith in
    append-nil (step_line lines regions publics numbered from s) ∙ ap (λ (n : ℕ). step_line lines regions publics numbered n s) same
lines_more lines regions publics numbered from (x ∷ xs) s =
    let same : from + 1 + length xs ≡ from + length (x ∷ xs) = omega arith in
    let here : List ℕ = step_line lines regions publics numbered from x in
    let rest : List ℕ = states_lines lines regions publics numbered (from + 1) xs in
    ap (λ (l : List ℕ). here ++ l) (lines_more lines regions publics numbered (from + 1) xs s)
    ∙ sym (append_assoc here rest (step_line lines regions publics numbered (from + 1 + length xs) s))
    ∙ ap (λ (n : ℕ). (here ++ rest) ++ step_line lines regions publics numbered n s) same

-- what a step's contract says
abbrev pub Steps : List Line → Areas → (most : ℕ) → (old new : Running) → Option BoardEnd → Type 0
Steps lines regions most old new ending = (s : BoardState) → IsNow lines s old → Turned lines regions most s old new ending

-- before the first step
pub begun : (lines : List Line) (regions : Areas) (most : ℕ) (s : BoardState) (r : Running) → IsNow lines s r → HasCome lines regions most s 0 r
begun lines regions most s r now = record { state = s; reached = begins s refl; now = now }

-- the run goes on
pub went : (lines : List Line) (regions : Areas) (most : ℕ) (start : BoardState) (made : ℕ) (old new : Running) (ending : Option BoardEnd) → is_some ending ≡ false → HasCome lines regions most start made old → Steps lines regions most old new ending →
    HasCome lines regions most start (made + 1) new
went lines regions most start made old new (Some e) none come turned = absurd (cc)
went lines regions most start made old new None none come turned =
    let t = turned come.state come.now in
    record { state = t.next; reached = goes_on made come.state t.next come.reached t.steps; now = t.now }

-- or ends
pub ended : (lines : List Line) (regions : Areas) (most limit : ℕ) (start : BoardState) (made : ℕ) (old new : Running) (ending : Option BoardEnd) → is_some ending ≡ true → made < limit → HasCome lines regions most start made old → Steps lines regions most old new ending →
    EndsSo lines regions start (record { steps = limit; outputs = most }) (record { end = ending; steps = made + 1; at = new.cpu.pc })
ended lines regions most limit start made old new None some below come turned = absurd (cc)
ended lines regions most limit start made old new (Some e) some below come turned =
    let t = turned come.state come.now in
    record {
      last = come.state;
      run = (omega (arith, below), record { before = made; counted = refl; reached = come.reached; ends = t.ends });
      at = ap (λ c. c.pc) t.cpu ∙ sym (ap (λ (m : Machine). m.cpu.pc) come.now.is);
    }

-- or all its steps were made
pub stopped : (lines : List Line) (regions : Areas) (most limit : ℕ) (start : BoardState) (made : ℕ) (r : Running) → made ≡ limit → HasCome lines regions most start made r →
    EndsSo lines regions start (record { steps = limit; outputs = most }) (record { end = None; steps = limit; at = r.cpu.pc })
stopped lines regions most limit start made r all come = record {
  last = come.state;
  run = (refl, subst (λ (n : ℕ). IsReached lines regions most start n come.state) all come.reached);
  at = sym (ap (λ (m : Machine). m.cpu.pc) come.now.is);
}

pub come_at : (lines : List Line) (regions : Areas) (most : ℕ) (start : BoardState) (m n : ℕ) (r : Running) → m ≡ n → HasCome lines regions most start m r → HasCome lines regions most start n r
come_at lines regions most start m n r same come = subst (λ (k : ℕ). HasCome lines regions most start k r) same come

-- what holds whatever an answer is holds at its error
pub on_err : {A E : Type 0} (answer : Result A E) (P : Type 0) → P → OnErr answer P
on_err (Ok x) P p = tt
on_err (Err e) P p = p

pub ok_then : {A E : Type 0} (answer : Result A E) (P Q : A → Type 0) → ((x : A) → P x → Q x) → IfOk answer P → IfOk answer Q
ok_then (Ok x) P Q f p = f x p
ok_then (Err e) P Q f p = tt

pub err_then : {A E : Type 0} (answer : Result A E) (P Q : Type 0) → (P → Q) → OnErr answer P → OnErr answer Q
err_then (Ok x) P Q f p = tt
err_then (Err e) P Q f p = f p
