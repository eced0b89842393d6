-- Runs on a board that begin before SP is set: until an instruction sets it, the world differs from one with SP at the stack's top in SP
-- alone.
use Rattle.std.specs.Prelude.{◌≡◌, ◌⊎◌, ◌||◌, ℕ, Bool, true, false, List, [], All, Option, None, Some, refl, if◌then◌else◌}
use Rattle.std.proofs.Common.{◌∙◌, ap, sym, subst, inl, inr, true≢false}
use Rattle.std.proofs.lemmas.List.Elements.{All-nil}
use Rattle.decode80.specs.declared.instr.Instr.{Instr}
use Rattle.decode80.specs.declared.instr.Instr.TheVariants.{Lxi, Dad, Inx, Dcx, Sphl, Push, Pop, Xthl, Call, CallIf, Ret, ReturnIf, Rst, JumpIf, Hlt, In, Out, Pchl}
use Rattle.decode80.specs.declared.pair.Pair.TheVariants.{Bc, De, Hl, Sp}
use Rattle.decode80.specs.declared.fetching.Fetched.{Fetched}
use Rattle.decode80.specs.Facts.{flow}
use Rattle.decode80.specs.Fetch.{direct_bytes}
use Rattle.image80.specs.Range.{in_range}
use Rattle.image80.specs.Regions.{Areas, in_data, top_of}
use Rattle.image80.specs.Image.{Located}
use Rattle.machine80.specs.declared.cpu.Cpu.{Cpu}
use Rattle.machine80.specs.declared.flags.Flags.{Flags}
use Rattle.machine80.specs.declared.end.End.{End}
use Rattle.machine80.specs.declared.end.End.TheVariants.{Stack, Direct, StoreOutside}
use Rattle.machine80.specs.Flags.{holds}
use Rattle.machine80.specs.Effects.{pointed_bytes, stack_bytes}
use Rattle.machine80.specs.Step.{Machine, ends_at, fetch, first_outside, guard, guarded, proceeded, step_on}
use Rattle.machine80.specs.World.{World, IsJustBelow, returns}
use Rattle.machine80.specs.Run.{world_of}
use Rattle.verify80.specs.Starts.{IsStart}
use Rattle.verify80.specs.Boards.{Anywhere, Executes, GoesBy, HasAt, IsGuarded, IsUnset, starts, goes_on, KeepsPromise, KeepsToWalks}
use Rattle.verify80.specs.Boards.{MayStart, OnBoard, with_respected_pointer, begins, disturbed, executed, LeavesProgram, respected_pointer}
use Rattle.verify80.specs.Boards.{StartsUnset, StaysInside, fetched_anywhere, sets_sp, uses_sp, unguarded, with_memory}
use Rattle.verify80.proofs.BoardSteps.{bridges, followed, none_of, same_machine, OnSetBoard, is_on_set, stays_set}

found_is : {a b : Fetched} → Some a ≡ Some b → a ≡ b
found_is {a} {b} h = let e : Some a ≡ Some b = h in cc

-- a machine and a world with SP at the stack's top
abbrev set_machine : Located → Machine → Machine
set_machine image m = record m { cpu = record m.cpu { sp = top_of image.regions } }

abbrev with_top : Located → World → World
with_top image w = with_respected_pointer image.regions false w

-- ---- an instruction that neither sets nor uses SP does the same whatever it is

free_of_sp : (image : Located) (i : Instr) (next : ℕ) (m : Machine) → uses_sp i ≡ false → sets_sp i ≡ false →
    proceeded i next (set_machine image m) ≡ set_machine image (proceeded i next m)
free_of_sp image (Lxi Bc n) next m free unset = refl
free_of_sp image (Lxi De n) next m free unset = refl
free_of_sp image (Lxi Hl n) next m free unset = refl
free_of_sp image (Lxi Sp n) next m free unset = absurd (cc)
free_of_sp image (Inx Bc) next m free unset = refl
free_of_sp image (Inx De) next m free unset = refl
free_of_sp image (Inx Hl) next m free unset = refl
free_of_sp image (Inx Sp) next m free unset = absurd (cc)
free_of_sp image (Dcx Bc) next m free unset = refl
free_of_sp image (Dcx De) next m free unset = refl
free_of_sp image (Dcx Hl) next m free unset = refl
free_of_sp image (Dcx Sp) next m free unset = absurd (cc)
free_of_sp image (Dad Bc) next m free unset = refl
free_of_sp image (Dad De) next m free unset = refl
free_of_sp image (Dad Hl) next m free unset = refl
free_of_sp image (Dad Sp) next m free unset = absurd (cc)
free_of_sp image Sphl next m free unset = absurd (cc)
free_of_sp image (Push pair) next m free unset = absurd (cc)
free_of_sp image (Pop pair) next m free unset = absurd (cc)
free_of_sp image Xthl next m free unset = absurd (cc)
free_of_sp image (Call to) next m free unset = absurd (cc)
free_of_sp image (CallIf condition to) next m free unset = absurd (cc)
free_of_sp image Ret next m free unset = absurd (cc)
free_of_sp image (ReturnIf condition) next m free unset = absurd (cc)
free_of_sp image (Rst number) next m free unset = absurd (cc)
free_of_sp image i next m free unset = refl

goes_free : (image : Located) (i : Instr) (byte next : ℕ) (m after : Machine) → uses_sp i ≡ false → sets_sp i ≡ false → unguarded i byte next m ≡ Some after →
    unguarded i byte next (set_machine image m) ≡ Some (set_machine image after)
goes_free image Hlt byte next m after free unset h = absurd (cc)
goes_free image (In port) byte next m after free unset h = ap (λ (x : Machine). Some (set_machine image x)) (same_machine h)
goes_free image (Out port) byte next m after free unset h = ap (λ (x : Machine). Some (set_machine image x)) (same_machine h)
goes_free image i byte next m after free unset h =
    ap Some (free_of_sp image i next m free unset ∙ ap (set_machine image) (same_machine h))

-- an instruction that sets SP leads to the same machine, whatever SP was
goes_set : (image : Located) (i : Instr) (byte next : ℕ) (m after : Machine) → sets_sp i ≡ true → unguarded i byte next m ≡ Some after →
    unguarded i byte next (set_machine image m) ≡ Some after
goes_set image (Lxi Sp n) byte next m after sets h = h
goes_set image i byte next m after sets h = absurd (cc)

never_returns : (i : Instr) (flags : Flags) → uses_sp i ≡ false → returns i flags ≡ false
never_returns Ret flags free = absurd (cc)
never_returns (ReturnIf condition) flags free = absurd (cc)
never_returns i flags free = refl

touches_none : (i : Instr) (cpu : Cpu) → uses_sp i ≡ false → stack_bytes i cpu ≡ []
touches_none (Push pair) cpu free = absurd (cc)
touches_none (Pop pair) cpu free = absurd (cc)
touches_none Xthl cpu free = absurd (cc)
touches_none (Call to) cpu free = absurd (cc)
touches_none (CallIf condition to) cpu free = absurd (cc)
touches_none Ret cpu free = absurd (cc)
touches_none (ReturnIf condition) cpu free = absurd (cc)
touches_none (Rst number) cpu free = absurd (cc)
touches_none i cpu free = refl

-- where it leads
leads_by : (regions : Areas) (i : Instr) (byte next : ℕ) (m after : Machine) → uses_sp i ≡ false → StaysInside regions m i → unguarded i byte next m ≡ Some after →
    GoesBy regions m.cpu.pc (flow i) next after.cpu.pc
leads_by regions Hlt byte next m after free inside h = absurd (cc)
leads_by regions (In port) byte next m after free inside h = sym (ap (λ (x : Machine). x.cpu.pc) (same_machine h))
leads_by regions (Out port) byte next m after free inside h = sym (ap (λ (x : Machine). x.cpu.pc) (same_machine h))
leads_by regions Pchl byte next m after free inside h =
    subst (λ (x : Machine). GoesBy regions m.cpu.pc (flow Pchl) next x.cpu.pc) (same_machine h) (inside.jumps refl)
leads_by regions (JumpIf condition to) byte next m after free inside h =
    subst (λ (x : Machine). GoesBy regions m.cpu.pc (flow (JumpIf condition to)) next x.cpu.pc) (same_machine h) (either (holds condition m.cpu.registers.flags))
  where
    either : (b : Bool) → ((if b then to else next) ≡ next) ⊎ ((if b then to else next) ≡ to)
    either true = inr refl
    either false = inl refl
leads_by regions (Push pair) byte next m after free inside h = absurd (cc)
leads_by regions (Pop pair) byte next m after free inside h = absurd (cc)
leads_by regions Xthl byte next m after free inside h = absurd (cc)
leads_by regions (Call to) byte next m after free inside h = absurd (cc)
leads_by regions (CallIf condition to) byte next m after free inside h = absurd (cc)
leads_by regions Ret byte next m after free inside h = absurd (cc)
leads_by regions (ReturnIf condition) byte next m after free inside h = absurd (cc)
leads_by regions (Rst number) byte next m after free inside h = absurd (cc)
leads_by regions i byte next m after free inside h = sym (ap (λ (x : Machine). x.cpu.pc) (same_machine h))

-- a guard that has nothing to say
guard_says_nothing : (regions : Areas) (i : Instr) (cpu : Cpu) → stack_bytes i cpu ≡ [] → first_outside (in_data regions) (direct_bytes i) ≡ None →
    first_outside (in_data regions) (pointed_bytes i cpu.registers) ≡ None → guard regions i cpu ≡ None
guard_says_nothing regions i cpu none direct pointed =
    ap (λ (xs : List ℕ). ends_at (first_outside (in_range regions.stack) xs) Stack (ends_at (first_outside (in_data regions) (direct_bytes i)) Direct (ends_at (first_outside (in_data regions) (pointed_bytes i cpu.registers)) StoreOutside None))) none
    ∙ ap (λ (o : Option ℕ). ends_at o Direct (ends_at (first_outside (in_data regions) (pointed_bytes i cpu.registers)) StoreOutside None)) direct
    ∙ ap (λ (o : Option ℕ). ends_at o StoreOutside None) pointed

module _ (image : Located) (bytes : ℕ) (promise : (start : Machine) → IsStart image start → (w : World) → OnSetBoard image start w → KeepsPromise image Anywhere bytes w) (m : Machine) (s : StartsUnset image m) where
  abbrev set : Machine
  set = set_machine image m

  is_start : IsStart image set
  is_start = record { pc = s.pc; sp = refl; whole = s.whole; code = s.code }

  -- a world before SP is set
  pub record Before (w : World) : Type 0 where
    pub unset : IsUnset image w.machine.cpu.pc
    pub on : OnSetBoard image set (with_top image w)

  promise_there : (w : World) → Before w → KeepsPromise image Anywhere bytes (with_top image w)
  promise_there w b = promise set is_start (with_top image w) b.on

  free : (w : World) (b : Before w) → uses_sp (promise_there w b).found.instr ≡ false
  free w b = let p = promise_there w b in s.sets w.machine.cpu.pc p.found b.unset p.of_image

  found_there : (w : World) (b : Before w) (found : Fetched) → fetched_anywhere w.machine.memory w.machine.cpu.pc ≡ Some found → found ≡ (promise_there w b).found
  found_there w b found h = found_is (sym h ∙ (promise_there w b).anywhere)

  free_here : (w : World) (b : Before w) (e_found : Fetched) → fetched_anywhere w.machine.memory w.machine.cpu.pc ≡ Some e_found → uses_sp e_found.instr ≡ false
  free_here w b found h = ap (λ (x : Fetched). uses_sp x.instr) (found_there w b found h) ∙ free w b

  -- a world before SP is set, or after
  abbrev pub Either : Bool → World → Type 0
  Either is_set w = ((is_set ≡ false) × Before w) ⊎ ((is_set ≡ true) × OnSetBoard image set w)

  -- its step is one with SP at the top
  step_there : (w v : World) → Before w → (e : Executes image.regions Anywhere w v) → (sets : Bool) → sets_sp e.found.instr ≡ sets → Executes image.regions Anywhere (with_top image w) (with_respected_pointer image.regions sets v)
  step_there w v b e true sets = record {
    found = e.found;
    byte = e.byte;
    after = e.after;
    fetched = e.fetched;
    small = e.small;
    inside = λ listed. record { stores = (e.inside listed).stores; jumps = (e.inside listed).jumps };
    goes = goes_set image e.found.instr e.byte e.found.next w.machine e.after sets e.goes;
    is = e.is;
  }
  step_there w v b e false unset = record {
    found = e.found;
    byte = e.byte;
    after = set_machine image e.after;
    fetched = e.fetched;
    small = e.small;
    inside = λ listed. record { stores = (e.inside listed).stores; jumps = (e.inside listed).jumps };
    goes = goes_free image e.found.instr e.byte e.found.next w.machine e.after (free_here w b e.found e.fetched) unset e.goes;
    is = ap (with_top image) e.is;
  }

  goes_before : (w v : World) → Before w → (e : Executes image.regions Anywhere w v) → (sets : Bool) → sets_sp e.found.instr ≡ sets → Either sets v
  goes_before w v b e true sets = inr (refl, executed true true (with_top image w) v b.on (step_there w v b e true sets) refl)
  goes_before w v b e false unset =
      let p = promise_there w b in
      let there : HasAt image w.machine.cpu.pc e.found = subst (HasAt image w.machine.cpu.pc) (sym (found_there w b e.found e.fetched)) p.of_image in
      let off : uses_sp e.found.instr ≡ false = free_here w b e.found e.fetched in
      let on : IsUnset image e.after.cpu.pc =
      goes_on w.machine.cpu.pc e.found e.after.cpu.pc b.unset there unset (leads_by image.regions e.found.instr e.byte e.found.next w.machine e.after off (e.inside tt) e.goes) in
      inl (
        refl,
        record {
          unset = subst (λ (x : World). IsUnset image x.machine.cpu.pc) (sym e.is) on;
          on = executed true true (with_top image w) (with_top image v) b.on (step_there w v b e false unset) refl;
        },
      )

  pub reaches : (is_set : Bool) (w : World) → OnBoard image.regions Anywhere m false is_set w → Either is_set w
  reaches is_set w (begins _ _ is unset) = inl (unset, subst Before (sym is) (record { unset = starts m.cpu.pc s.pc; on = begins true (world_of set) refl refl }))
  reaches is_set w (disturbed _ v _ on by) = goes (reaches is_set v on)
    where
      goes : Either is_set v → Either is_set w
      goes (inl (unset, b)) = inl (
        unset,
        subst Before (sym by.is) (record {
          unset = b.unset;
          on = disturbed true (with_top image v) (with_memory (with_top image v) by.memory) b.on (record {
            memory = by.memory;
            leaves = subst (λ (x : Bool). LeavesProgram image.regions (respected_pointer image.regions x v) v.machine.memory by.memory) unset by.leaves;
            is = refl;
          });
        }),
      )
      goes (inr (now, there)) = inr (
        now,
        disturbed true v w there (record {
          memory = by.memory;
          leaves = subst (λ (x : Bool). LeavesProgram image.regions (respected_pointer image.regions x v) v.machine.memory by.memory) now by.leaves;
          is = by.is;
        }),
      )
  reaches is_set w (executed before _ v _ on by is) = goes (reaches before v on)
    where
      goes : Either before v → Either is_set w
      goes (inl (unset, b)) =
          subst (λ (x : Bool). Either x w) (sym (is ∙ ap (λ (x : Bool). x || sets_sp by.found.instr) unset)) (goes_before v w b by (sets_sp by.found.instr) refl)
      goes (inr (now, there)) = inr (is ∙ ap (λ (x : Bool). x || sets_sp by.found.instr) now, executed true true v w there by refl)

  pub step_respects : (w v : World) (before set : Bool) → OnBoard image.regions Anywhere m false before w → (e : Executes image.regions Anywhere w v) → set ≡ (before || sets_sp e.found.instr) →
      Executes image.regions Anywhere (with_respected_pointer image.regions before w) (with_respected_pointer image.regions set v)
  step_respects w v before is_set on e is = by (reaches before w on)
    where
      by : Either before w → Executes image.regions Anywhere (with_respected_pointer image.regions before w) (with_respected_pointer image.regions is_set v)
      by (inl (unset, b)) =
          subst (λ (x : Bool). Executes image.regions Anywhere (with_respected_pointer image.regions x w) (with_respected_pointer image.regions is_set v)) (sym unset)
          (subst (λ (x : Bool). Executes image.regions Anywhere (with_top image w) (with_respected_pointer image.regions x v)) (sym (is ∙ ap (λ (x : Bool). x || sets_sp e.found.instr) unset))
          (step_there w v b e (sets_sp e.found.instr) refl))
      by (inr (now, there)) =
          subst (λ (x : Bool). Executes image.regions Anywhere (with_respected_pointer image.regions x w) (with_respected_pointer image.regions is_set v)) (sym now)
          (subst (λ (x : Bool). Executes image.regions Anywhere w (with_respected_pointer image.regions x v)) (sym (is ∙ ap (λ (x : Bool). x || sets_sp e.found.instr) now)) e)

  keeps_before : (w : World) → Before w → KeepsPromise image Anywhere bytes w
  keeps_before w b =
      let p = promise_there w b in
      record {
        found = p.found;
        anywhere = p.anywhere;
        inside = p.inside;
        of_image = p.of_image;
        direct = p.direct;
        declared = p.declared;
        returning = λ taken. absurd (true≢false (sym taken ∙ never_returns p.found.instr w.machine.cpu.registers.flags (free w b)));
        stack = subst (λ (xs : List ℕ). All (λ address. IsJustBelow (top_of image.regions) bytes address) xs) (sym (touches_none p.found.instr w.machine.cpu (free w b)))
            (All-nil (λ address. IsJustBelow (top_of image.regions) bytes address));
        halts = p.halts;
        goes_on = λ on inside byte small. followed image.regions Anywhere w p.found p.anywhere on inside byte small;
      }

  pub keeps_promise_unset : (is_set : Bool) (w : World) → OnBoard image.regions Anywhere m false is_set w → KeepsPromise image Anywhere bytes w
  keeps_promise_unset is_set w on = by (reaches is_set w on)
    where
      by : Either is_set w → KeepsPromise image Anywhere bytes w
      by (inl (unset, b)) = keeps_before w b
      by (inr (now, there)) = promise set is_start w there

  -- its steps are guarded ones
  module _ (steps : (start : Machine) → IsStart image start → (w v : World) → OnSetBoard image start w → (e : Executes image.regions Anywhere w v) → IsGuarded image.regions w.machine e.after) where
    guarded_before : (w v : World) → Before w → (e : Executes image.regions Anywhere w v) → IsGuarded image.regions w.machine e.after
    guarded_before w v b e =
        let p = promise_there w b in
        let same : e.found ≡ p.found = found_there w b e.found e.fetched in
        let off : uses_sp e.found.instr ≡ false = free_here w b e.found e.fetched in
        let g = bridges image.regions e.found.instr e.byte e.found.next w.machine e.after e.small (e.inside tt).jumps e.goes in
        let u : Machine = record w.machine { inputs = g.inputs } in
        let direct : All (λ address. in_data image.regions address ≡ true) (direct_bytes e.found.instr) =
        subst (λ (x : Fetched). All (λ address. in_data image.regions address ≡ true) (direct_bytes x.instr)) (sym same) p.direct in
        let nothing : guard image.regions e.found.instr w.machine.cpu ≡ None =
        guard_says_nothing image.regions e.found.instr w.machine.cpu (touches_none e.found.instr w.machine.cpu off)
        (none_of (in_data image.regions) (direct_bytes e.found.instr) direct)
        (none_of (in_data image.regions) (pointed_bytes e.found.instr w.machine.cpu.registers) (e.inside tt).stores) in
        let fetched : fetch image.regions w.machine.memory w.machine.cpu.pc ≡ Some e.found = p.inside ∙ ap (λ (x : Fetched). Some x) (sym same) in
        record {
          inputs = g.inputs;
          bytes = g.bytes;
          there = g.there;
          step = ap (λ (o : Option Fetched). step_on image.regions false o u) fetched
              ∙ ap (λ (o : Option End). guarded image.regions o false e.found u) nothing ∙ g.executes;
          is = g.is;
        }

    pub steps_are_guarded_unset : (is_set : Bool) (w v : World) → OnBoard image.regions Anywhere m false is_set w → (e : Executes image.regions Anywhere w v) → IsGuarded image.regions w.machine e.after
    steps_are_guarded_unset is_set w v on e = by (reaches is_set w on)
      where
        by : Either is_set w → IsGuarded image.regions w.machine e.after
        by (inl (unset, b)) = guarded_before w v b e
        by (inr (now, there)) = steps set is_start w v there e

  -- and it stays on walks
  module _ (walks : (start : Machine) → IsStart image start → (w : World) → OnSetBoard image start w → KeepsToWalks image w) where
    walks_before : (w : World) → Before w → KeepsToWalks image w
    walks_before w b =
        let k = walks set is_start (with_top image w) b.on in
        let p = promise_there w b in
        record {
          stands = record { reached = k.stands.reached; found = k.stands.found; looked = k.stands.looked; fetched = k.stands.fetched };
          returning = λ found fetched taken.
              let same : found ≡ p.found = found_is (sym fetched ∙ p.inside) in
              let off : uses_sp found.instr ≡ false = ap (λ (x : Fetched). uses_sp x.instr) same ∙ free w b in
              absurd (true≢false (sym taken ∙ never_returns found.instr w.machine.cpu.registers.flags off));
        }

    pub keeps_to_walks_unset : (is_set : Bool) (w : World) → OnBoard image.regions Anywhere m false is_set w → KeepsToWalks image w
    keeps_to_walks_unset is_set w on = by (reaches is_set w on)
      where
        by : Either is_set w → KeepsToWalks image w
        by (inl (unset, b)) = walks_before w b
        by (inr (now, there)) = walks set is_start w there

-- on a board, wherever a run may begin

pub promise_kept : (image : Located) (bytes : ℕ) → ((start : Machine) → IsStart image start → (w : World) → OnSetBoard image start w → KeepsPromise image Anywhere bytes w) →
    (start : Machine) (began : Bool) → MayStart image began start → (w : World) (set : Bool) → OnBoard image.regions Anywhere start began set w → KeepsPromise image Anywhere bytes w
promise_kept image bytes promise start true is w set on = promise start is w (is_on_set image start set w on)
promise_kept image bytes promise start false s w set on = keeps_promise_unset image bytes promise start s set w on

pub steps_guarded : (image : Located) (bytes : ℕ) → ((start : Machine) → IsStart image start → (w : World) → OnSetBoard image start w → KeepsPromise image Anywhere bytes w) →
    ((start : Machine) → IsStart image start → (w v : World) → OnSetBoard image start w → (e : Executes image.regions Anywhere w v) → IsGuarded image.regions w.machine e.after) →
    (start : Machine) (began : Bool) → MayStart image began start → (w v : World) (set : Bool) → OnBoard image.regions Anywhere start began set w → (e : Executes image.regions Anywhere w v) →
    IsGuarded image.regions w.machine e.after
steps_guarded image bytes promise steps start true is w v set on e = steps start is w v (is_on_set image start set w on) e
steps_guarded image bytes promise steps start false s w v set on e = steps_are_guarded_unset image bytes promise start s steps set w v on e

pub walks_kept : (image : Located) (bytes : ℕ) → ((start : Machine) → IsStart image start → (w : World) → OnSetBoard image start w → KeepsPromise image Anywhere bytes w) →
    ((start : Machine) → IsStart image start → (w : World) → OnSetBoard image start w → KeepsToWalks image w) →
    (start : Machine) (began : Bool) → MayStart image began start → (w : World) (set : Bool) → OnBoard image.regions Anywhere start began set w → KeepsToWalks image w
walks_kept image bytes promise walks start true is w set on = walks start is w (is_on_set image start set w on)
walks_kept image bytes promise walks start false s w set on = keeps_to_walks_unset image bytes promise start s walks set w on

pub steps_respect : (image : Located) (bytes : ℕ) → ((start : Machine) → IsStart image start → (w : World) → OnSetBoard image start w → KeepsPromise image Anywhere bytes w) →
    (start : Machine) (began : Bool) → MayStart image began start → (w v : World) (before set : Bool) → OnBoard image.regions Anywhere start began before w → (e : Executes image.regions Anywhere w v) →
    set ≡ (before || sets_sp e.found.instr) → Executes image.regions Anywhere (with_respected_pointer image.regions before w) (with_respected_pointer image.regions set v)
steps_respect image bytes promise start true begins_there w v before set on e is =
    let now = stays_set image.regions Anywhere start before w on in
    subst (λ (x : Bool). Executes image.regions Anywhere (with_respected_pointer image.regions x w) (with_respected_pointer image.regions set v)) (sym now)
    (subst (λ (x : Bool). Executes image.regions Anywhere w (with_respected_pointer image.regions x v)) (sym (is ∙ ap (λ (x : Bool). x || sets_sp e.found.instr) now)) e)
steps_respect image bytes promise start false s w v before set on e is = step_respects image bytes promise start s w v before set on e is
