-- A run on a board has one state after each number of steps, and none after the step that ends it.
use Rattle.std.proofs.Common.{◌≡◌, ℕ, ◌+◌, ◌<◌, false, List, [], ◌∷◌, ◌++◌, cond, not, inl, inr, refl, ap, sym, subst, ◌∙◌, arith}
use Rattle.std.specs.Prelude.{find, map, is_some, Option, Some, None}
use Rattle.std.proofs.lemmas.Bool.{cases_lt}
use Rattle.decode80.specs.declared.fetching.Fetched.{Fetched}
use Rattle.image80.specs.Regions.{Areas}
use Rattle.machine80.specs.declared.end.End.{End}
use Rattle.machine80.specs.Step.{Machine, Next, Stop, step_of}
use Rattle.board80.specs.declared.line.Line.{Line}
use Rattle.board80.specs.declared.place.Place.{Place}
use Rattle.machine80_board.specs.declared.end.BoardEnd.{BoardEnd}
use Rattle.machine80_board.specs.declared.output.Output.{Output}
use Rattle.machine80_board.specs.BoardRun.{BoardState, EndsAt, EndsBy, IsAnswered, IsReached, Steps, answered, is_empty_place, machine_by, outputs_by}
use Rattle.machine80_board.specs.BoardRun.{reads_by, refused_output, without_ports, begins, goes_on, unfetched, unanswered, stopped, refused}
use Rattle.machine80_board.specs.Exchanges.{answer_at, outputs_of, places_read}
use Rattle.loader80_board.specs.BoardStates.{BoardsDecideRuns}

pub some_is : {A : Type 0} {a b : A} → Some a ≡ Some b → a ≡ b
some_is {A} {a} {b} h = let e : Some a ≡ Some b = h in cc

pub next_is : {a b : Machine} → Next a ≡ Next b → a ≡ b
next_is {a} {b} h = let e : Next a ≡ Next b = h in cc

pub never : {e : End} {m : Machine} → Stop e ≡ Next m → ⊥
never {e} {m} h = let bad : Stop e ≡ Next m = h in cc

-- the same answers are the same bytes
same_bytes : (xs ys : List ℕ) → map Some xs ≡ map Some ys → xs ≡ ys
same_bytes [] [] h = refl
same_bytes [] (y ∷ ys) h = absurd (cc)
same_bytes (x ∷ xs) [] h = absurd (cc)
same_bytes (x ∷ xs) (y ∷ ys) h =
    let both : Some x ∷ map Some xs ≡ Some y ∷ map Some ys = h in
    let one : x ≡ y = cc in
    let rest : map Some xs ≡ map Some ys = cc in
    ap (λ (n : ℕ). n ∷ xs) one ∙ ap (λ (l : List ℕ). y ∷ l) (same_bytes xs ys rest)

pub same_found : (lines : List Line) (regions : Areas) (s : BoardState) (a b : IsAnswered lines regions s) → a.found ≡ b.found
same_found lines regions s a b = some_is (sym a.fetched ∙ b.fetched)

same_reads : (lines : List Line) (regions : Areas) (s : BoardState) (a b : IsAnswered lines regions s) → reads_by a ≡ reads_by b
same_reads lines regions s a b = ap (λ (f : Fetched). places_read lines f.instr s.machine.cpu.registers) (same_found lines regions s a b)

same_machine : (lines : List Line) (regions : Areas) (s : BoardState) (a b : IsAnswered lines regions s) → machine_by a ≡ machine_by b
same_machine lines regions s a b =
    let reads = same_reads lines regions s a b in
    let bytes = same_bytes a.bytes b.bytes (sym a.answers ∙ ap (λ (l : List Place). map (answer_at lines s.reads s.outputs) l) reads ∙ b.answers) in
    ap (λ (l : List Place). answered l a.bytes s.machine) reads ∙ ap (λ (l : List ℕ). answered (reads_by b) l s.machine) bytes

same_outputs : (lines : List Line) (regions : Areas) (s : BoardState) (a b : IsAnswered lines regions s) (after other : List ℕ) → after ≡ other → outputs_by a after ≡ outputs_by b other
same_outputs lines regions s a b after other same =
    ap (λ (f : Fetched). outputs_of lines f.instr s.machine.cpu.registers after) (same_found lines regions s a b)
    ∙ ap (λ (l : List ℕ). outputs_of lines b.found.instr s.machine.cpu.registers l) same

-- a state has one next state
steps_one : (lines : List Line) (regions : Areas) (most : ℕ) (s t u : BoardState) → Steps lines regions most s t → Steps lines regions most s u → t ≡ u
steps_one lines regions most s t u one other =
    let there : one.there ≡ other.there = next_is (sym one.step ∙ ap (λ (m : Machine). step_of regions false m) (same_machine lines regions s one.by other.by) ∙ other.step) in
    let reads = same_reads lines regions s one.by other.by in
    let outputs = same_outputs lines regions s one.by other.by one.there.memory other.there.memory (ap (λ (m : Machine). m.memory) there) in
    one.is
    ∙ ap (λ (m : Machine). record { machine = without_ports m; reads = s.reads ++ reads_by one.by; outputs = s.outputs ++ outputs_by one.by one.there.memory }) there
    ∙ ap (λ (l : List Place). record { machine = without_ports other.there; reads = s.reads ++ l; outputs = s.outputs ++ outputs_by one.by one.there.memory }) reads
    ∙ ap (λ (l : List Output). record { machine = without_ports other.there; reads = s.reads ++ reads_by other.by; outputs = s.outputs ++ l }) outputs
    ∙ sym other.is

-- all places have answered
none_empty : (lines : List Line) (s : BoardState) (places : List Place) (bytes : List ℕ) → map (answer_at lines s.reads s.outputs) places ≡ map Some bytes → find (is_empty_place lines s) places ≡ None
none_empty lines s [] bytes h = refl
none_empty lines s (place ∷ places) [] h = absurd (cc)
none_empty lines s (place ∷ places) (byte ∷ bytes) h =
    let both : answer_at lines s.reads s.outputs place ∷ map (answer_at lines s.reads s.outputs) places ≡ Some byte ∷ map Some bytes = h in
    let one : answer_at lines s.reads s.outputs place ≡ Some byte = cc in
    let rest : map (answer_at lines s.reads s.outputs) places ≡ map Some bytes = cc in
    ap (λ (o : Option ℕ). cond (not (is_some o)) (Some place) (find (is_empty_place lines s) places)) one ∙ none_empty lines s places bytes rest

-- a state at which a run ends has no next state
none_next : (lines : List Line) (regions : Areas) (most : ℕ) (s t : BoardState) (ending : BoardEnd) → EndsBy lines regions most s ending → Steps lines regions most s t → ⊥
none_next lines regions most s t ending (unfetched none is) step = let bad : None ≡ Some step.by.found = sym none ∙ step.by.fetched in cc
none_next lines regions most s t ending (unanswered found place fetched first is) step =
    let same : found ≡ step.by.found = some_is (sym fetched ∙ step.by.fetched) in
    let none : find (is_empty_place lines s) (reads_by step.by) ≡ None = none_empty lines s (reads_by step.by) step.by.bytes step.by.answers in
    let some : find (is_empty_place lines s) (reads_by step.by) ≡ Some place = subst (λ (f : Fetched). find (is_empty_place lines s) (places_read lines f.instr s.machine.cpu.registers) ≡ Some place) same first in
    let bad : None ≡ Some place = sym none ∙ some in
    cc
none_next lines regions most s t ending (stopped by e stops is) step =
    never (sym stops ∙ ap (λ (m : Machine). step_of regions false m) (same_machine lines regions s by step.by) ∙ step.step)
none_next lines regions most s t ending (refused by there output goes first is) step =
    let same : there ≡ step.there = next_is (sym goes ∙ ap (λ (m : Machine). step_of regions false m) (same_machine lines regions s by step.by) ∙ step.step) in
    let outputs = same_outputs lines regions s by step.by there.memory step.there.memory (ap (λ (m : Machine). m.memory) same) in
    let bad : Some output ≡ None = sym first ∙ ap (λ (l : List Output). refused_output most s.outputs l) outputs ∙ step.room in
    cc

same_state : (lines : List Line) (regions : Areas) (most : ℕ) (start : BoardState) (m n : ℕ) (s t : BoardState) → IsReached lines regions most start m s → IsReached lines regions most start n t → m ≡ n → s ≡ t
same_state lines regions most start m n s t (begins _ is) (begins _ other) e = is ∙ sym other
same_state lines regions most start m n s t (begins _ is) (goes_on k r _ reached step) e = absurd (omega (arith, e))
same_state lines regions most start m n s t (goes_on k r _ reached step) (begins _ is) e = absurd (omega (arith, e))
same_state lines regions most start m n s t (goes_on k r _ reached step) (goes_on l q _ there next) e =
    let before : r ≡ q = same_state lines regions most start k l r q reached there (omega (arith, e)) in
    steps_one lines regions most q s t (subst (λ (x : BoardState). Steps lines regions most x s) before step) next

pub one_state : (lines : List Line) (regions : Areas) (most : ℕ) (start : BoardState) (steps : ℕ) (s t : BoardState) → IsReached lines regions most start steps s → IsReached lines regions most start steps t → s ≡ t
one_state lines regions most start steps s t one other = same_state lines regions most start steps steps s t one other refl

pub none_after : (lines : List Line) (regions : Areas) (most : ℕ) (start : BoardState) (steps : ℕ) (last : BoardState) (ending : BoardEnd) → EndsAt lines regions most start steps last ending →
    (number : ℕ) (s : BoardState) → IsReached lines regions most start number s → number < steps
none_after lines regions most start steps last ending ends number s (begins _ is) = omega (arith, ends.counted)
none_after lines regions most start steps last ending ends number s (goes_on n r _ reached step) =
    let earlier : n < steps = none_after lines regions most start steps last ending ends n r reached in
    elim (cases_lt (n + 1) steps) [
      | inl below ↦ below
      | inr past ↦ absurd (
          let here : r ≡ last = same_state lines regions most start n ends.before r last reached ends.reached (omega (arith, earlier, past, ends.counted)) in
          none_next lines regions most last s ending ends.ends (subst (λ (x : BoardState). Steps lines regions most x s) here step))
    ]

pub boards_decide : BoardsDecideRuns
boards_decide = record { one_state = one_state; none_after = none_after }
