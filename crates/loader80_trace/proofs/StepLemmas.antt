-- One step of a run on open ports.
use Rattle.std.specs.Prelude.{◌≡◌, ℕ, ◌+◌, ◌<◌, ◌≤◌, ◌↔◌, Bool, true, false, nat_lt, List, [], Option, None, Some, OnSome, length, refl}
use Rattle.std.proofs.Common.{◌∙◌, ap, sym, subst, arith, inl, inr}
use Rattle.std.proofs.lemmas.Bool.{cases_lt}
use Rattle.std.proofs.lemmas.Bool.Decides.{nat_tests}
use Rattle.image80.specs.Regions.{Areas}
use Rattle.machine80.specs.declared.end.End.{End}
use Rattle.machine80.specs.Ports.{PortLists, has_refused, has_room}
use Rattle.machine80.specs.Step.{Machine, PortsAfter, Turn, Next, Stop, step_of, turn_of}
use Rattle.machine80.specs.World.{World, refuses, world_at, world_after, world_at_start}
use Rattle.image80.specs.Image.{Located}
use Rattle.machine80.specs.Run.{Agrees, EndsAt, IsRun, Reaches, world_of}
use Rattle.machine80_quick.specs.Quick.{StaysRight}
use Rattle.loader80_trace.specs.Finished.{AreOpen, HasReached, MakesStep}
use Rattle.loader80_trace.proofs.GoingOnLemmas.{ends_there, reaches_more, stays_on}

-- memory did not run out: a refusal came at the limit
abbrev pub IsFull : (outputs : ℕ) → PortLists → Type 0
IsFull outputs ports = 0 < ports.refused → outputs ≤ length ports.outputs

pub full_where_refused : (short : Bool) (outputs : ℕ) (ports : PortLists) → (short ≡ true) ↔ ((0 < ports.refused) × (length ports.outputs < outputs)) → short ≡ false → IsFull outputs ports
full_where_refused short outputs ports is enough some = elim (cases_lt (length ports.outputs) outputs) [ inl below ↦ (let yes : short ≡ true = is.1 (some, below) in cc) | inr full ↦ full ]

-- the outputs stay within the limit
pub within_after : (outputs : ℕ) (before after : PortLists) (ending : Option End) → AreOpen outputs before → PortsAfter ending before after → length after.outputs ≤ outputs
within_after outputs before after ending opened ports =
    let has : has_room before.limit before.outputs = subst (λ (most : Option ℕ). has_room most before.outputs) (sym opened.limit) opened.within in
    subst (λ (most : Option ℕ). has_room most after.outputs) (ports.limit ∙ opened.limit) (ports.room has)

-- the limit agrees with what the ports have done
agrees : (b : Bool) (outputs : ℕ) (before after : PortLists) (ending : Option End) → nat_lt before.refused after.refused ≡ b → AreOpen outputs before → PortsAfter ending before after → IsFull outputs after → Agrees b (Some outputs) after.outputs
agrees true outputs before after ending rose opened ports full =
    let some : 0 < after.refused = grind (arith, nat_tests, rose, opened.refused) in
    let within = within_after outputs before after ending opened ports in
    let equal : outputs ≡ length after.outputs = omega (arith, within, full some) in
    ap (λ (n : ℕ). Some n) equal
agrees false outputs before after ending rose opened ports full = within_after outputs before after ending opened ports

pub limit_agrees : (outputs : ℕ) (before after : PortLists) (ending : Option End) → AreOpen outputs before → PortsAfter ending before after → IsFull outputs after → Agrees (has_refused before after) (Some outputs) after.outputs
limit_agrees outputs before after ending opened ports full = agrees (nat_lt before.refused after.refused) outputs before after ending refl opened ports full

-- no limit agrees where nothing was refused
nothing_refused : (before after : PortLists) → PortsAfter None before after → has_refused before after ≡ false
nothing_refused before after ports = grind (arith, nat_tests, ports.refusals)

pub none_agrees : (before after : PortLists) → PortsAfter None before after → Agrees (has_refused before after) None after.outputs
none_agrees before after ports = subst (λ (b : Bool). Agrees b None after.outputs) (sym (nothing_refused before after ports)) tt

-- ports that have refused nothing are open still
pub still_open : (outputs : ℕ) (before after : PortLists) → AreOpen outputs before → PortsAfter None before after → AreOpen outputs after
still_open outputs before after opened ports = record {
  refused = ports.refusals ∙ ap (λ (n : ℕ). n + 0) opened.refused;
  limit = ports.limit ∙ opened.limit;
  within = within_after outputs before after None opened ports;
}

-- the turn of a run of one step
turned : (regions : Areas) (most : Option ℕ) (m after : Machine) (turn : Turn) (places : List ℕ) (last : World) → world_after turn places ≡ Some last → last.machine ≡ after → turn ≡ Next after
turned regions most m after (Next n) places last is same = (let there : n ≡ after = cc in ap (λ (x : Machine). Next x) there)
turned regions most m after (Stop e) places last is same = cc

pub one_turn : (regions : Areas) (most : Option ℕ) (m after : Machine) (steps : ℕ) (ending : Option End) → IsRun regions most (world_of m) 1 steps after ending → step_of regions (refuses most m.outputs) m ≡ turn_of ending after
one_turn regions most m after steps None run =
    let at : world_at regions most (world_of m) 1 ≡ Some run.1.last = subst (λ (n : ℕ). world_at regions most (world_of m) n ≡ Some run.1.last) run.0 run.1.at in
    turned regions most m after _ _ run.1.last at run.1.same
one_turn regions most m after steps (Some e) run =
    let none : run.1.before ≡ 0 = omega (arith, run.0, run.1.counted) in
    let at : world_at regions most (world_of m) 0 ≡ Some run.1.last = subst (λ (n : ℕ). world_at regions most (world_of m) n ≡ Some run.1.last) none run.1.at in
    let here : world_of m ≡ run.1.last = cc in
    subst (λ (w : World). step_of regions (refuses most w.machine.outputs) w.machine ≡ Stop e) (sym here) run.1.stops

pub one_kept : (regions : Areas) (most : Option ℕ) (m after : Machine) (steps : ℕ) (ending : Option End) → IsRun regions most (world_of m) 1 steps after ending → OnSome ending (after ≡ m)
one_kept regions most m after steps None run = tt
one_kept regions most m after steps (Some e) run =
    let none : run.1.before ≡ 0 = omega (arith, run.0, run.1.counted) in
    let at : world_at regions most (world_of m) 0 ≡ Some run.1.last = subst (λ (n : ℕ). world_at regions most (world_of m) n ≡ Some run.1.last) none run.1.at in
    let here : world_of m ≡ run.1.last = cc in
    sym run.1.same ∙ sym (ap (λ (w : World). w.machine) here)

-- the run clause of a step that was made
abbrev pub OneRun : Areas → (before after : Machine) → (refused : Bool) → (steps : ℕ) → Option End → Type 0
OneRun regions before after refused steps ending = StaysRight regions (world_of before) → (most : Option ℕ) → Agrees refused most after.outputs → IsRun regions most (world_of before) 1 steps after ending

pub step_made : (regions : Areas) (outputs : ℕ) (m after : Machine) (before now : PortLists) (steps : ℕ) (ending : Option End) → after.outputs ≡ now.outputs → AreOpen outputs before → PortsAfter ending before now → IsFull outputs now →
    OneRun regions m after (has_refused before now) steps ending → StaysRight regions (world_of m) → MakesStep regions outputs m after ending
step_made regions outputs m after before now steps None same opened ports full run stays =
    let limited = run stays (Some outputs) (subst (λ (l : List (ℕ × ℕ)). Agrees (has_refused before now) (Some outputs) l) (sym same) (limit_agrees outputs before now None opened ports full)) in
    let unlimited = run stays None (subst (λ (l : List (ℕ × ℕ)). Agrees (has_refused before now) None l) (sym same) (none_agrees before now ports)) in
    record {
      limited = one_turn regions (Some outputs) m after steps None limited;
      unlimited = λ _. one_turn regions None m after steps None unlimited;
      kept = tt;
    }
step_made regions outputs m after before now steps (Some e) same opened ports full run stays =
    let limited = run stays (Some outputs) (subst (λ (l : List (ℕ × ℕ)). Agrees (has_refused before now) (Some outputs) l) (sym same) (limit_agrees outputs before now (Some e) opened ports full)) in
    record {
      limited = one_turn regions (Some outputs) m after steps (Some e) limited;
      unlimited = λ none. absurd (let no : ⊥ = cc in no);
      kept = one_kept regions (Some outputs) m after steps (Some e) limited;
    }

-- the run has come one step further
pub reached_next : (regions : Areas) (outputs : ℕ) (start : World) (made : ℕ) (m after : Machine) (ending : Option End) → HasReached regions outputs start made m → MakesStep regions outputs m after ending → ending ≡ None → HasReached regions outputs start (made + 1) after
reached_next regions outputs start made m after None reached step none = record {
  limited = reaches_more regions (Some outputs) start made m after reached.limited step.limited;
  unlimited = reaches_more regions None start made m after reached.unlimited (step.unlimited refl);
}
reached_next regions outputs start made m after (Some e) reached step none = cc

-- the run stays right from a machine that it has reached
pub right_there : (regions : Areas) (outputs : ℕ) (start : World) (made : ℕ) (m : Machine) → StaysRight regions start → HasReached regions outputs start made m → StaysRight regions (world_of m)
right_there regions outputs start made m stays reached = stays_on regions start made m stays reached.unlimited

-- the run has ended with one step more
pub ended_there : (regions : Areas) (outputs : ℕ) (start : World) (made : ℕ) (m after : Machine) (e : End) → HasReached regions outputs start made m → MakesStep regions outputs m after (Some e) → EndsAt regions (Some outputs) start (made + 1) after e
ended_there regions outputs start made m after e reached step = ends_there regions (Some outputs) start made m after e reached.limited step.limited step.kept

-- ports before the first output
pub open_at_first : (outputs : ℕ) (ports : PortLists) → ports.outputs ≡ [] → ports.refused ≡ 0 → ports.limit ≡ Some outputs → AreOpen outputs ports
open_at_first outputs ports empty none limit =
    let count : length ports.outputs ≡ 0 = ap length empty in
    record { refused = none; limit = limit; within = omega arith }

-- the run clause of a run from its start
abbrev pub FromStart : Located → (inputs : List (List ℕ)) → (outputs : List (ℕ × ℕ)) → (refused : Bool) → (limit steps : ℕ) → Machine → Option End → Type 0
FromStart image inputs outputs refused limit steps after ending = (most : Option ℕ) → Agrees refused most after.outputs → IsRun image.regions most (world_at_start image inputs outputs) limit steps after ending

-- the same from what the ports held
from_ports : (image : Located) (inputs : List (List ℕ)) (ports : PortLists) (most : Option ℕ) (limit steps : ℕ) (after : Machine) (ending : Option End) → ports.inputs ≡ inputs → ports.outputs ≡ [] →
    IsRun image.regions most (world_at_start image ports.inputs ports.outputs) limit steps after ending → IsRun image.regions most (world_at_start image inputs []) limit steps after ending
from_ports image inputs ports most limit steps after ending same empty run =
    subst (λ (i : List (List ℕ)). IsRun image.regions most (world_at_start image i []) limit steps after ending) same
    (subst (λ (o : List (ℕ × ℕ)). IsRun image.regions most (world_at_start image ports.inputs o) limit steps after ending) empty run)

pub ran_limited : (image : Located) (inputs : List (List ℕ)) (outputs limit steps : ℕ) (before now : PortLists) (after : Machine) (ending : Option End) → before.inputs ≡ inputs → before.outputs ≡ [] → AreOpen outputs before → PortsAfter ending before now → IsFull outputs now → after.outputs ≡ now.outputs →
    FromStart image before.inputs before.outputs (has_refused before now) limit steps after ending → IsRun image.regions (Some outputs) (world_at_start image inputs []) limit steps after ending
ran_limited image inputs outputs limit steps before now after ending same empty opened ports full held run =
    from_ports image inputs before (Some outputs) limit steps after ending same empty
    (run (Some outputs) (subst (λ (l : List (ℕ × ℕ)). Agrees (has_refused before now) (Some outputs) l) (sym held) (limit_agrees outputs before now ending opened ports full)))

-- a run that was stopped may go on
pub ran_on : (image : Located) (inputs : List (List ℕ)) (outputs limit steps : ℕ) (before now : PortLists) (after : Machine) (ending : Option End) → before.inputs ≡ inputs → before.outputs ≡ [] → AreOpen outputs before → PortsAfter ending before now → IsFull outputs now → after.outputs ≡ now.outputs →
    FromStart image before.inputs before.outputs (has_refused before now) limit steps after ending → ending ≡ None →
    AreOpen outputs now × HasReached image.regions outputs (world_at_start image inputs []) limit after
ran_on image inputs outputs limit steps before now after None same empty opened ports full held run none =
    let limited = ran_limited image inputs outputs limit steps before now after None same empty opened ports full held run in
    let unlimited = from_ports image inputs before None limit steps after None same empty (run None (subst (λ (l : List (ℕ × ℕ)). Agrees (has_refused before now) None l) (sym held) (none_agrees before now ports))) in (
      still_open outputs before now opened ports,
      record {
        limited = subst (λ (n : ℕ). Reaches image.regions (Some outputs) (world_at_start image inputs []) n after) limited.0 limited.1;
        unlimited = subst (λ (n : ℕ). Reaches image.regions None (world_at_start image inputs []) n after) unlimited.0 unlimited.1;
      },
    )
ran_on image inputs outputs limit steps before now after (Some e) same empty opened ports full held run none = cc
