-- The lines of a run, one after another.
use Rattle.std.specs.Prelude.{◌≡◌, ℕ, zero, suc, ◌+◌, ◌-◌, ◌≤◌, ◌<◌, ◌⊎◌, Bool, true, false, List, [], ◌++◌, Option, None, Some, is_some, min, take, drop, Result, Ok, Err, IfOk, OnErr, OnOk, refl}
use Rattle.std.specs.Io.KnownBytes.{Appends}
use Rattle.std.proofs.Common.{◌∙◌, ap, sym, subst, arith, append_assoc, append-nil, inl, inr, take-append-drop}
use Rattle.std.proofs.KnownBytes.{Appends-nil, Appends-trans}
use Rattle.omf_model.specs.declared.symbols.Public.{Public}
use Rattle.image80.specs.Regions.{Areas}
use Rattle.machine80.specs.declared.end.End.{End}
use Rattle.machine80.specs.Step.{Machine}
use Rattle.machine80.specs.World.{World, world_at}
use Rattle.machine80.specs.Run.{EndsAt, IsRun, Reaches}
use Rattle.loader80.specs.declared.running.Ended.{Ended}
use Rattle.loader80_trace.specs.Lines.{front_text, machine_line, world_line}
use Rattle.loader80_trace.specs.Traces.{AppendsFront, CameToEnd, RanOut, count_within, last_number, run_lines, step_line}
use Rattle.loader80_trace.specs.Finished.{HasReached, MakesStep}
use Rattle.loader80_trace.proofs.GoingOnLemmas.{none_after}
use Rattle.loader80_trace.proofs.StepLemmas.{ended_there, reached_next}

-- a line, and those behind it
pub run_lines-more : (regions : Areas) (most : Option ℕ) (start : World) (publics : List Public) (numbered : Bool) (from left : ℕ) → 0 < left →
    run_lines regions most start publics numbered from left ≡ step_line regions most start publics numbered from ++ run_lines regions most start publics numbered (from + 1) (left - 1)
unfolding run_lines
run_lines-more regions most start publics numbered from zero some = absurd (omega arith)
run_lines-more regions most start publics numbered from (suc left) some =
    let one_less : suc left - 1 ≡ left = omega arith in
    rw one_less refl

pub run_lines-none : (regions : Areas) (most : Option ℕ) (start : World) (publics : List Public) (numbered : Bool) (from left : ℕ) → left ≡ 0 → run_lines regions most start publics numbered from left ≡ []
unfolding run_lines
run_lines-none regions most start publics numbered from zero none = refl
run_lines-none regions most start publics numbered from (suc left) none = absurd (omega arith)

-- the line of a world that is there
pub step_line-reached : (regions : Areas) (most : Option ℕ) (start : World) (publics : List Public) (numbered : Bool) (number : ℕ) (m : Machine) → Reaches regions most start number m →
    step_line regions most start publics numbered number ≡ front_text publics numbered m.cpu.pc number ++ machine_line regions m
step_line-reached regions most start publics numbered number m reached =
    ap (world_line regions publics numbered number) reached.at ∙ ap (λ (n : Machine). front_text publics numbered n.cpu.pc number ++ machine_line regions n) reached.same

-- a run that has ended has no more lines
pub run_lines-ended : (regions : Areas) (most : Option ℕ) (start : World) (publics : List Public) (numbered : Bool) (steps : ℕ) (m : Machine) (e : End) → EndsAt regions most start steps m e →
    (from left : ℕ) → steps ≤ from → run_lines regions most start publics numbered from left ≡ []
unfolding run_lines
run_lines-ended regions most start publics numbered steps m e ends from zero behind = refl
run_lines-ended regions most start publics numbered steps m e ends from (suc left) behind =
    let number : steps + (from - steps) ≡ from = omega arith in
    let none : world_at regions most start from ≡ None = subst (λ (n : ℕ). world_at regions most start n ≡ None) number (none_after regions most start steps m e ends (from - steps)) in
    let line : step_line regions most start publics numbered from ≡ [] = ap (world_line regions publics numbered from) none in
    ap (λ (l : List ℕ). l ++ run_lines regions most start publics numbered (from + 1) left) line ∙ run_lines-ended regions most start publics numbered steps m e ends (from + 1) left (omega arith)

-- what has been written of a text, and what is left of it
pub record Wrote (old now : Option (List ℕ)) (whole left : List ℕ) : Type 0 where
  pub front : List ℕ
  pub appended : Appends old now front
  pub parts : whole ≡ front ++ left

pub wrote_none : (old : Option (List ℕ)) (whole : List ℕ) → Wrote old old whole whole
wrote_none old whole = record { front = []; appended = Appends-nil old; parts = refl }

pub wrote_more : (old now new : Option (List ℕ)) (whole line left : List ℕ) → Wrote old now whole (line ++ left) → Appends now new line → Wrote old new whole left
wrote_more old now new whole line left wrote then = record {
  front = wrote.front ++ line;
  appended = Appends-trans old now new wrote.front line wrote.appended then;
  parts = wrote.parts ∙ sym (append_assoc wrote.front line left);
}

pub wrote_front : (old now : Option (List ℕ)) (whole left : List ℕ) → Wrote old now whole left → AppendsFront old now whole
wrote_front old now whole left wrote = record { front = wrote.front; rest = left; parts = wrote.parts; appended = wrote.appended }

pub wrote_part : (old now new : Option (List ℕ)) (whole line left : List ℕ) (n : ℕ) → Wrote old now whole (line ++ left) → Appends now new (take n line) → AppendsFront old new whole
wrote_part old now new whole line left n wrote then =
    let split : line ++ left ≡ take n line ++ (drop n line ++ left) =
    ap (λ (l : List ℕ). l ++ left) (sym (take-append-drop n line)) ∙ append_assoc (take n line) (drop n line) left in
    wrote_front old new whole (drop n line ++ left)
    (wrote_more old now new whole (take n line) (drop n line ++ left) (record { front = wrote.front; appended = wrote.appended; parts = wrote.parts ∙ ap (λ (l : List ℕ). wrote.front ++ l) split }) then)

pub wrote_all : (old now : Option (List ℕ)) (whole left : List ℕ) → Wrote old now whole left → left ≡ [] → Appends old now whole
wrote_all old now whole left wrote none =
    let same : whole ≡ wrote.front = wrote.parts ∙ ap (λ (l : List ℕ). wrote.front ++ l) none ∙ append-nil wrote.front in
    subst (λ (l : List ℕ). Appends old now l) (sym same) wrote.appended

-- the whole text of the lines, and what is left of it from a world on
abbrev pub whole_of : Areas → (outputs : ℕ) → World → List Public → (numbered : Bool) → (steps from count : ℕ) → List ℕ
whole_of regions outputs start publics numbered steps from count = run_lines regions (Some outputs) start publics numbered from (count_within steps from count)

abbrev pub rest_of : Areas → (outputs : ℕ) → World → List Public → (numbered : Bool) → (steps from count made : ℕ) → List ℕ
rest_of regions outputs start publics numbered steps from count made = run_lines regions (Some outputs) start publics numbered (from + made) (count_within steps from count - made)

-- the line of a machine's next instruction, with its number
abbrev pub line_of : Areas → List Public → (numbered : Bool) → ℕ → Machine → List ℕ
line_of regions publics numbered number m = front_text publics numbered m.cpu.pc number ++ machine_line regions m

-- a given number of lines have been written, and the run has come so far
pub record Shown (regions : Areas) (outputs : ℕ) (start : World) (publics : List Public) (numbered : Bool) (steps from count made : ℕ) (m : Machine) (old now : Option (List ℕ)) : Type 0 where
  pub at : HasReached regions outputs start (from + made) m
  pub wrote : Wrote old now (whole_of regions outputs start publics numbered steps from count) (rest_of regions outputs start publics numbered steps from count made)

pub shown_first : (regions : Areas) (outputs : ℕ) (start : World) (publics : List Public) (numbered : Bool) (steps from count : ℕ) (m : Machine) (old : Option (List ℕ)) → HasReached regions outputs start from m →
    Shown regions outputs start publics numbered steps from count 0 m old old
shown_first regions outputs start publics numbered steps from count m old reached =
    let same : from ≡ from + 0 = omega arith in
    let all : count_within steps from count ≡ count_within steps from count - 0 = omega arith in
    record {
      at = subst (λ (n : ℕ). HasReached regions outputs start n m) same reached;
      wrote = subst (λ (n : ℕ). Wrote old old (whole_of regions outputs start publics numbered steps from count) (run_lines regions (Some outputs) start publics numbered n (count_within steps from count - 0))) same
          (subst (λ (n : ℕ). Wrote old old (whole_of regions outputs start publics numbered steps from count) (run_lines regions (Some outputs) start publics numbered from n)) all (wrote_none old _));
    }

-- the line of the machine, and the lines behind it
rest-line : (regions : Areas) (outputs : ℕ) (start : World) (publics : List Public) (numbered : Bool) (steps from count made : ℕ) (m : Machine) → HasReached regions outputs start (from + made) m → made < count → from + made ≤ steps →
    rest_of regions outputs start publics numbered steps from count made ≡ line_of regions publics numbered (from + made) m ++ rest_of regions outputs start publics numbered steps from count (made + 1)
rest-line regions outputs start publics numbered steps from count made m reached inside within =
    let left : ℕ = count_within steps from count - made in
    let some : 0 < left = omega arith in
    let next : from + made + 1 ≡ from + (made + 1) = omega arith in
    let less : left - 1 ≡ count_within steps from count - (made + 1) = omega arith in
    run_lines-more regions (Some outputs) start publics numbered (from + made) left some
    ∙ ap (λ (l : List ℕ). l ++ run_lines regions (Some outputs) start publics numbered (from + made + 1) (left - 1)) (step_line-reached regions (Some outputs) start publics numbered (from + made) m reached.limited)
    ∙ ap (λ (n : ℕ). line_of regions publics numbered (from + made) m ++ run_lines regions (Some outputs) start publics numbered n (left - 1)) next
    ∙ ap (λ (n : ℕ). line_of regions publics numbered (from + made) m ++ run_lines regions (Some outputs) start publics numbered (from + (made + 1)) n) less

-- what has been written, as a line and the rest are left
left_of : (regions : Areas) (outputs : ℕ) (start : World) (publics : List Public) (numbered : Bool) (steps from count made : ℕ) (m : Machine) (old now : Option (List ℕ)) → Shown regions outputs start publics numbered steps from count made m old now → made < count → from + made ≤ steps →
    Wrote old now (whole_of regions outputs start publics numbered steps from count) (line_of regions publics numbered (from + made) m ++ rest_of regions outputs start publics numbered steps from count (made + 1))
left_of regions outputs start publics numbered steps from count made m old now shown inside within =
    subst (λ (l : List ℕ). Wrote old now (whole_of regions outputs start publics numbered steps from count) l) (rest-line regions outputs start publics numbered steps from count made m shown.at inside within) shown.wrote

pub wrote_line : (regions : Areas) (outputs : ℕ) (start : World) (publics : List Public) (numbered : Bool) (steps from count made : ℕ) (m : Machine) (old now new : Option (List ℕ)) → Shown regions outputs start publics numbered steps from count made m old now → made < count → from + made ≤ steps →
    Appends now new (line_of regions publics numbered (from + made) m) → Wrote old new (whole_of regions outputs start publics numbered steps from count) (rest_of regions outputs start publics numbered steps from count (made + 1))
wrote_line regions outputs start publics numbered steps from count made m old now new shown inside within line =
    wrote_more old now new _ (line_of regions publics numbered (from + made) m) _ (left_of regions outputs start publics numbered steps from count made m old now shown inside within) line

-- the next line is due
pub shown_next : (regions : Areas) (outputs : ℕ) (start : World) (publics : List Public) (numbered : Bool) (steps from count made : ℕ) (m after : Machine) (ending : Option End) (old now new : Option (List ℕ)) → Shown regions outputs start publics numbered steps from count made m old now → made < count → from + made ≤ steps →
    Appends now new (line_of regions publics numbered (from + made) m) → MakesStep regions outputs m after ending → ending ≡ None → Shown regions outputs start publics numbered steps from count (made + 1) after old new
shown_next regions outputs start publics numbered steps from count made m after ending old now new shown inside within line step none =
    let next : from + made + 1 ≡ from + (made + 1) = omega arith in
    record {
      at = subst (λ (n : ℕ). HasReached regions outputs start n after) next (reached_next regions outputs start (from + made) m after ending shown.at step none);
      wrote = wrote_line regions outputs start publics numbered steps from count made m old now new shown inside within line;
    }

-- a line that was written in part
pub shown_part : (regions : Areas) (outputs : ℕ) (start : World) (publics : List Public) (numbered : Bool) (steps from count made : ℕ) (m : Machine) (old now new : Option (List ℕ)) (n : ℕ) → Shown regions outputs start publics numbered steps from count made m old now → made < count → from + made ≤ steps →
    Appends now new (take n (line_of regions publics numbered (from + made) m)) → AppendsFront old new (whole_of regions outputs start publics numbered steps from count)
shown_part regions outputs start publics numbered steps from count made m old now new n shown inside within line =
    wrote_part old now new _ (line_of regions publics numbered (from + made) m) _ n (left_of regions outputs start publics numbered steps from count made m old now shown inside within) line

-- the last line that the steps allow
pub shown_at_limit : (regions : Areas) (outputs : ℕ) (start : World) (publics : List Public) (numbered : Bool) (steps from count made : ℕ) (m : Machine) (old now new : Option (List ℕ)) → Shown regions outputs start publics numbered steps from count made m old now → made < count → from + made ≤ steps →
    Appends now new (line_of regions publics numbered (from + made) m) → from + made ≡ steps → Appends old new (whole_of regions outputs start publics numbered steps from count)
shown_at_limit regions outputs start publics numbered steps from count made m old now new shown inside within line last =
    wrote_all old new _ _ (wrote_line regions outputs start publics numbered steps from count made m old now new shown inside within line)
    (run_lines-none regions (Some outputs) start publics numbered (from + (made + 1)) (count_within steps from count - (made + 1)) (omega arith))

pub came_to_limit : (regions : Areas) (outputs : ℕ) (start : World) (steps from count made : ℕ) (m : Machine) → HasReached regions outputs start (from + made) m → made < count → from + made ≡ steps →
    CameToEnd regions (Some outputs) start steps from count (record { end = None; steps = from + made; cpu = m.cpu })
came_to_limit regions outputs start steps from count made m reached inside last = record {
  last = m;
  run = (last, reached.limited);
  cpu = refl;
  within = omega arith;
}

-- the line of the instruction that ends the run
pub shown_at_end : (regions : Areas) (outputs : ℕ) (start : World) (publics : List Public) (numbered : Bool) (steps from count made : ℕ) (m after : Machine) (ending : Option End) (old now new : Option (List ℕ)) → Shown regions outputs start publics numbered steps from count made m old now → made < count → from + made ≤ steps →
    Appends now new (line_of regions publics numbered (from + made) m) → MakesStep regions outputs m after ending → is_some ending ≡ true → Appends old new (whole_of regions outputs start publics numbered steps from count)
shown_at_end regions outputs start publics numbered steps from count made m after None old now new shown inside within line step some = cc
shown_at_end regions outputs start publics numbered steps from count made m after (Some e) old now new shown inside within line step some =
    wrote_all old new _ _ (wrote_line regions outputs start publics numbered steps from count made m old now new shown inside within line)
    (run_lines-ended regions (Some outputs) start publics numbered (from + made + 1) after e (ended_there regions outputs start (from + made) m after e shown.at step) (from + (made + 1)) (count_within steps from count - (made + 1)) (omega arith))

pub came_to_end : (regions : Areas) (outputs : ℕ) (start : World) (steps from count made : ℕ) (m after : Machine) (ending : Option End) → HasReached regions outputs start (from + made) m → made < count → from + made < steps → MakesStep regions outputs m after ending → is_some ending ≡ true →
    CameToEnd regions (Some outputs) start steps from count (record { end = ending; steps = from + made + 1; cpu = after.cpu })
came_to_end regions outputs start steps from count made m after None reached inside within step some = cc
came_to_end regions outputs start steps from count made m after (Some e) reached inside within step some = record {
  last = after;
  run = (omega arith, ended_there regions outputs start (from + made) m after e reached step);
  cpu = refl;
  within = omega arith;
}

-- the lines ran out
pub shown_all : (regions : Areas) (outputs : ℕ) (start : World) (publics : List Public) (numbered : Bool) (steps from count made : ℕ) (m : Machine) (old now : Option (List ℕ)) → Shown regions outputs start publics numbered steps from count made m old now → count ≤ made → Appends old now (whole_of regions outputs start publics numbered steps from count)
shown_all regions outputs start publics numbered steps from count made m old now shown all =
    wrote_all old now _ _ shown.wrote (run_lines-none regions (Some outputs) start publics numbered (from + made) (count_within steps from count - made) (omega arith))

pub ran_out : (regions : Areas) (outputs : ℕ) (start : World) (steps from count made : ℕ) (m : Machine) → HasReached regions outputs start (from + made) m → made ≡ count → from + made ≤ steps → RanOut regions (Some outputs) start steps from count
ran_out regions outputs start steps from count made m reached all within =
    let same : from + made ≡ from + count = omega arith in
    record {
      last = m;
      reached = subst (λ (n : ℕ). Reaches regions (Some outputs) start n m) same reached.limited;
      within = omega arith;
    }

-- a line made part by part
pub line_made : (first second third number text : List ℕ) → first ≡ [] → second ≡ first ++ number → third ≡ second ++ text → third ≡ number ++ text
line_made first second third number text e f g = g ∙ ap (λ (l : List ℕ). l ++ text) (f ∙ ap (λ (l : List ℕ). l ++ number) e)

-- a run that ended before the first line, or whose steps were used up before it
pub no_line_after : (regions : Areas) (outputs : ℕ) (start : World) (publics : List Public) (numbered : Bool) (limit steps from count made : ℕ) (m : Machine) (ending : Option End) → IsRun regions (Some outputs) start limit made m ending → limit ≡ min from steps → is_some ending ≡ true →
    whole_of regions outputs start publics numbered steps from count ≡ []
no_line_after regions outputs start publics numbered limit steps from count made m None run first some = cc
no_line_after regions outputs start publics numbered limit steps from count made m (Some e) run first some =
    run_lines-ended regions (Some outputs) start publics numbered made m e run.1 from (count_within steps from count) (omega (arith, run.0))

pub no_line_within : (regions : Areas) (outputs : ℕ) (start : World) (publics : List Public) (numbered : Bool) (steps from count : ℕ) → steps < from → whole_of regions outputs start publics numbered steps from count ≡ []
no_line_within regions outputs start publics numbered steps from count behind = run_lines-none regions (Some outputs) start publics numbered from (count_within steps from count) (omega arith)

pub appends_none : (old : Option (List ℕ)) (whole : List ℕ) → whole ≡ [] → Appends old old whole
appends_none old whole none = subst (λ (l : List ℕ). Appends old old l) (sym none) (Appends-nil old)

-- such a run is one of all steps
longer : (ending : Option End) (regions : Areas) (outputs : ℕ) (start : World) (limit steps from made : ℕ) (m : Machine) → IsRun regions (Some outputs) start limit made m ending → limit ≡ min from steps → (is_some ending ≡ true) ⊎ (steps < from) →
    IsRun regions (Some outputs) start steps made m ending
longer None regions outputs start limit steps from made m run first (inl some) = cc
longer None regions outputs start limit steps from made m run first (inr less) = (omega (arith, run.0), run.1)
longer (Some e) regions outputs start limit steps from made m run first why = (omega (arith, run.0), run.1)

-- its last world comes before the first line
before : (ending : Option End) (regions : Areas) (outputs : ℕ) (start : World) (limit steps from count made : ℕ) (m : Machine) → IsRun regions (Some outputs) start limit made m ending → limit ≡ min from steps → (is_some ending ≡ true) ⊎ (steps < from) →
    last_number ending made < from + count
before None regions outputs start limit steps from count made m run first (inl some) = cc
before None regions outputs start limit steps from count made m run first (inr less) = omega (arith, run.0)
before (Some e) regions outputs start limit steps from count made m run first why = omega (arith, run.0, run.1.counted)

-- such a run reached its end before the first line
pub came_before : (regions : Areas) (outputs : ℕ) (start : World) (limit steps from count : ℕ) (ended : Ended) (m : Machine) → IsRun regions (Some outputs) start limit ended.steps m ended.end → ended.cpu ≡ m.cpu → limit ≡ min from steps → (is_some ended.end ≡ true) ⊎ (steps < from) →
    CameToEnd regions (Some outputs) start steps from count ended
came_before regions outputs start limit steps from count ended m run cpu first why = record {
  last = m;
  run = longer ended.end regions outputs start limit steps from ended.steps m run first why;
  cpu = cpu;
  within = before ended.end regions outputs start limit steps from count ended.steps m run first why;
}

-- what holds whatever an answer is holds at its error
pub on_err : {A E : Type 0} (answer : Result A E) (P : Type 0) → P → OnErr answer P
on_err (Ok x) P p = tt
on_err (Err e) P p = p

-- what is not there is none
pub is_none : {A : Type 0} (o : Option A) → is_some o ≡ false → o ≡ None
is_none None none = refl
is_none (Some x) none = cc

-- what follows of an answer
pub ok_then : {A E : Type 0} (answer : Result A E) (P Q : Type 0) → (P → Q) → OnOk answer P → OnOk answer Q
ok_then (Ok x) P Q f p = f p
ok_then (Err e) P Q f p = tt

pub err_then : {A E : Type 0} (answer : Result A E) (P Q : Type 0) → (P → Q) → OnErr answer P → OnErr answer Q
err_then (Ok x) P Q f p = tt
err_then (Err e) P Q f p = f p

pub if_ok_then : {A E : Type 0} (answer : Result A E) (P Q : A → Type 0) → ((x : A) → P x → Q x) → IfOk answer P → IfOk answer Q
if_ok_then (Ok x) P Q f p = f x p
if_ok_then (Err e) P Q f p = tt
