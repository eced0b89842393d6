-- A run goes on from where it was stopped: how a world goes on is decided by its machine alone.
use Rattle.std.specs.Prelude.{◌≡◌, ℕ, zero, suc, ◌+◌, List, Option, None, Some, refl}
use Rattle.std.proofs.Common.{◌∙◌, ap, sym, subst, arith, add-one, add-suc, add-zero}
use Rattle.image80.specs.Regions.{Areas}
use Rattle.machine80.specs.declared.end.End.{End}
use Rattle.machine80.specs.Step.{Machine, Turn, Next, Stop, step_of, fetch}
use Rattle.machine80.specs.World.{World, world_at, world_after, following, places_then, refuses, turn_at}
use Rattle.machine80.specs.Run.{Reaches, EndsAt, IsRun, world_of}
use Rattle.machine80_quick.specs.Quick.{GoesRight, StaysRight}

-- the machine of a world, if it is there
abbrev pub machine_of : Option World → Option Machine
machine_of None = None
machine_of (Some w) = Some w.machine

-- the machine that a turn leads to
abbrev pub machine_then : Turn → Option Machine
machine_then (Next m) = Some m
machine_then (Stop e) = None

-- the machine after a turn does not ask for the shadow stack
machine_after : (turn : Turn) (places : List ℕ) → machine_of (world_after turn places) ≡ machine_then turn
machine_after (Next m) places = refl
machine_after (Stop e) places = refl

following-machine : (regions : Areas) (most : Option ℕ) (o p : Option World) → machine_of o ≡ machine_of p →
    machine_of (following regions most o) ≡ machine_of (following regions most p)
following-machine regions most None None e = refl
following-machine regions most None (Some w) e = cc
following-machine regions most (Some w) None e = cc
following-machine regions most (Some v) (Some w) e =
    let same : v.machine ≡ w.machine = cc in
    machine_after (turn_at regions most v) _
    ∙ ap (λ (m : Machine). machine_then (step_of regions (refuses most m.outputs) m)) same
    ∙ sym (machine_after (turn_at regions most w) _)

-- a world that has reached a machine goes on as any world of that machine does
world_at-add : (regions : Areas) (most : Option ℕ) (start : World) (made : ℕ) (from : World) → machine_of (world_at regions most start made) ≡ Some from.machine →
    (more : ℕ) → machine_of (world_at regions most start (made + more)) ≡ machine_of (world_at regions most from more)
world_at-add regions most start made from there zero = rw add-zero there
world_at-add regions most start made from there (suc more) =
    rw add-suc (following-machine regions most (world_at regions most start (made + more)) (world_at regions most from more) (world_at-add regions most start made from there more))

-- a world is there where its machine is
is_there : (o : Option World) (m : Machine) → machine_of o ≡ Some m → (w : World) × (o ≡ Some w) × (w.machine ≡ m)
is_there None m e = cc
is_there (Some w) m e = (w, refl, cc)

reached-machine : (regions : Areas) (most : Option ℕ) (start : World) (made : ℕ) (m : Machine) → Reaches regions most start made m → machine_of (world_at regions most start made) ≡ Some m
reached-machine regions most start made m reached = ap machine_of reached.at ∙ ap (λ (n : Machine). Some n) reached.same

pub reaches_on : (regions : Areas) (most : Option ℕ) (start : World) (made more : ℕ) (before after : Machine) → Reaches regions most start made before → Reaches regions most (world_of before) more after →
    Reaches regions most start (made + more) after
reaches_on regions most start made more before after reached then =
    let there = is_there _ after (world_at-add regions most start made (world_of before) (reached-machine regions most start made before reached) more ∙ reached-machine regions most (world_of before) more after then) in
    record { last = there.0; at = there.1; same = there.2 }

ends_on : (regions : Areas) (most : Option ℕ) (start : World) (made more : ℕ) (before after : Machine) (e : End) → Reaches regions most start made before → EndsAt regions most (world_of before) more after e →
    EndsAt regions most start (made + more) after e
ends_on regions most start made more before after e reached then =
    let last : Reaches regions most (world_of before) then.before after = record { last = then.last; at = then.at; same = then.same } in
    let there : Reaches regions most start (made + then.before) after = reaches_on regions most start made then.before before after reached last in
    let same : then.last.machine ≡ there.last.machine = then.same ∙ sym there.same in
    record {
      before = made + then.before;
      counted = omega (arith, then.counted);
      last = there.last;
      at = there.at;
      same = there.same;
      stops = subst (λ (m : Machine). step_of regions (refuses most m.outputs) m ≡ Stop e) same then.stops;
    }

pub runs_on : (regions : Areas) (most : Option ℕ) (start : World) (made limit steps : ℕ) (before after : Machine) (ending : Option End) → Reaches regions most start made before → IsRun regions most (world_of before) limit steps after ending →
    IsRun regions most start (made + limit) (made + steps) after ending
runs_on regions most start made limit steps before after None reached run = (omega (arith, run.0), reaches_on regions most start made steps before after reached run.1)
runs_on regions most start made limit steps before after (Some e) reached run = (omega (arith, run.0), ends_on regions most start made steps before after e reached run.1)

-- what stays right from the start does from each machine that the run reaches
pub stays_on : (regions : Areas) (start : World) (made : ℕ) (before : Machine) → StaysRight regions start → Reaches regions None start made before → StaysRight regions (world_of before)
stays_on regions start made before stays reached more w at =
    let there = is_there _ w.machine (world_at-add regions None start made (world_of before) (reached-machine regions None start made before reached) more ∙ ap machine_of at) in
    subst (λ (m : Machine). GoesRight regions m) there.2 (stays (made + more) there.0 there.1)

-- one more step
pub reaches_more : (regions : Areas) (most : Option ℕ) (start : World) (made : ℕ) (m after : Machine) → Reaches regions most start made m → step_of regions (refuses most m.outputs) m ≡ Next after → Reaches regions most start (made + 1) after
reaches_more regions most start made m after reached turns =
    let w : World = reached.last in
    let turns_there : turn_at regions most w ≡ Next after = subst (λ (n : Machine). step_of regions (refuses most n.outputs) n ≡ Next after) (sym reached.same) turns in
    let places : List ℕ = places_then (fetch regions w.machine.memory w.machine.cpu.pc) w.machine.cpu.registers.flags w.places in
    record {
      last = record { machine = after; places = places };
      at = rw add-one (ap (λ (o : Option World). following regions most o) reached.at ∙ ap (λ (t : Turn). world_after t places) turns_there);
      same = refl;
    }

-- the run ends with one more step
pub ends_there : (regions : Areas) (most : Option ℕ) (start : World) (made : ℕ) (m after : Machine) (e : End) → Reaches regions most start made m → step_of regions (refuses most m.outputs) m ≡ Stop e → after ≡ m → EndsAt regions most start (made + 1) after e
ends_there regions most start made m after e reached stops stays = record {
  before = made;
  counted = refl;
  last = reached.last;
  at = reached.at;
  same = reached.same ∙ sym stays;
  stops = subst (λ (n : Machine). step_of regions (refuses most n.outputs) n ≡ Stop e) (sym reached.same) stops;
}

-- no world comes after the step that ends a run
none_following : (regions : Areas) (most : Option ℕ) (o : Option World) → o ≡ None → following regions most o ≡ None
none_following regions most o e = ap (λ (x : Option World). following regions most x) e

pub none_after : (regions : Areas) (most : Option ℕ) (start : World) (steps : ℕ) (m : Machine) (e : End) → EndsAt regions most start steps m e → (more : ℕ) → world_at regions most start (steps + more) ≡ None
none_after regions most start steps m e ends zero =
    let one : world_at regions most start (ends.before + 1) ≡ None =
    rw add-one (ap (λ (o : Option World). following regions most o) ends.at ∙ ap (λ (t : Turn). world_after t (places_then (fetch regions ends.last.machine.memory ends.last.machine.cpu.pc) ends.last.machine.cpu.registers.flags ends.last.places)) ends.stops) in
    let number : ends.before + 1 ≡ steps + 0 = omega (arith, ends.counted) in
    subst (λ (n : ℕ). world_at regions most start n ≡ None) number one
none_after regions most start steps m e ends (suc more) =
    rw add-suc (none_following regions most (world_at regions most start (steps + more)) (none_after regions most start steps m e ends more))
