-- A step of a world that stands on a walk leads along it.
use Rattle.std.specs.Prelude.{◌≡◌, ℕ, ◌*◌, Bool, true, false, List, ◌∷◌, Contains, Option, None, Some, Result, Ok, Err, drop, refl, if◌then◌else◌}
use Rattle.std.proofs.Common.{◌∙◌, ap, sym, subst, inl, inr, true≢false}
use Rattle.decode80.specs.declared.pair.Pair.TheVariants.{Bc as PairBc, De as PairDe, Hl as PairHl, Sp}
use Rattle.decode80.specs.declared.condition.Condition.{Condition}
use Rattle.decode80.specs.declared.restart.Restart.{Restart}
use Rattle.decode80.specs.declared.instr.Instr.{Instr}
use Rattle.decode80.specs.declared.instr.Instr.TheVariants.{Lxi, Inx, Dcx, Push, Pop, Xthl, Sphl, Pchl, Jmp, JumpIf, Call, CallIf, Ret, ReturnIf, Rst, Hlt, In, Out}
use Rattle.decode80.specs.Restart.{restart_number}
use Rattle.frames80.specs.declared.fault.FrameFault.{FrameFault}
use Rattle.frames80.specs.declared.fault.FrameFault.TheVariants.{Sphl as FrameSphl, StackByByte}
use Rattle.frames80.specs.declared.effect.Change.{Change}
use Rattle.frames80.specs.declared.effect.Change.TheVariants.{Keep, Swap, SetStack}
use Rattle.frames80.specs.declared.effect.Effect.TheVariants.{Change as Changes}
use Rattle.frames80.specs.declared.moves.Moves.{Moves}
use Rattle.frames80.specs.declared.moves.Moves.TheVariants.{On, Jump as MovesTo, Either, Case as Cases, Call as CallOf, MaybeCall, Return as ReturnOf, MaybeReturn}
use Rattle.frames80.specs.StackFrame.{StackFrame}
use Rattle.frames80.specs.Effects.{effect_of, pushed_by, popped_by}
use Rattle.frames80.specs.Moves.{moves_of, changed as changed_frame, change_fault, return_fault, unless}
use Rattle.image80.specs.Regions.{targets_at}
use Rattle.image80.specs.Image.{Located}
use Rattle.machine80.specs.Flags.{holds}
use Rattle.machine80.specs.Cpu.{hl_of}
use Rattle.machine80.specs.Ports.{next_input}
use Rattle.machine80.specs.Effects.{target, word_in}
use Rattle.machine80.specs.Step.{Machine, Next, execute, proceeded, with_input}
use Rattle.machine80.specs.World.{World, places_after, returns, IsNewest}
use Rattle.frames80.specs.declared.procedure.Procedure.{Procedure}
use Rattle.frames80.specs.Code.{role_of}
use Rattle.verify80_flow.specs.Walks.{returning}
use Rattle.verify80.specs.Looking.{code_of, is_declared, declared_targets}
use Rattle.verify80.specs.Reached.{IsBehindCall}
use Rattle.verify80.proofs.StoreLemmas.{is_plain}
use Rattle.verify80.proofs.PairLemmas.{change_by}
use Rattle.verify80.proofs.StepLemmas.{plain_effect, plain_step, machine_in, unless_ok, jumped}
use Rattle.verify80.proofs.WalkLemmas.{OnWalk, Ways}

-- where an instruction goes on it stands on a walk; a return that is taken goes behind a call
pub record Along (image : Located) (w : World) (i : Instr) (next : ℕ) : Type 0 where
  pub goes_on : (refused : Bool) (m : Machine) → execute image.regions refused i next w.machine ≡ Next m →
      OnWalk (code_of image) m.cpu.pc (places_after i next w.machine.cpu.registers.flags w.places)
  pub behind : returns i w.machine.cpu.registers.flags ≡ true → IsBehindCall (code_of image) (target i next w.machine.memory w.machine.cpu)

module _ (image : Located) (w : World) (p : Procedure) (f : StackFrame) (next : ℕ) (moves : Moves) (leads : Ways (code_of image) w.machine.cpu.pc next w.places moves) where
  -- the ways of a move that is known
  ways_as : (m : Moves) (r : Result Moves FrameFault) → r ≡ Ok m → r ≡ Ok moves → Ways (code_of image) w.machine.cpu.pc next w.places m
  ways_as m r one other = subst (Ways (code_of image) w.machine.cpu.pc next w.places) (let e : moves ≡ m = cc in e) leads

  not_refused : {X : Type 0} (fault : FrameFault) (r : Result Moves FrameFault) → r ≡ Err fault → r ≡ Ok moves → X
  not_refused fault r one other = absurd (cc)

  -- the machine after an instruction
  after_it : (places : List ℕ) (after m : Machine) → Next after ≡ Next m → OnWalk (code_of image) after.cpu.pc places → OnWalk (code_of image) m.cpu.pc places
  after_it places after m h there = subst (λ (x : Machine). OnWalk (code_of image) x.cpu.pc places) (machine_in after m h) there

  -- an instruction that goes on to the next one
  on_change : (change : Change) → moves_of (role_of (code_of image) p) (Changes change) f ≡ Ok moves → OnWalk (code_of image) next w.places
  on_change change moved =
      let parts = unless_ok (change_fault (role_of (code_of image) p) change f.words) (On (changed_frame change f)) moves moved in
      (subst (Ways (code_of image) w.machine.cpu.pc next w.places) parts.1 leads).on next (changed_frame change f) (refl, refl)

  record GoesToNext (i : Instr) (change : Change) : Type 0 where
    effect : effect_of i ≡ Changes change
    executes : (refused : Bool) → execute image.regions refused i next w.machine ≡ Next (proceeded i next w.machine)
    goes : target i next w.machine.memory w.machine.cpu ≡ next
    places : places_after i next w.machine.cpu.registers.flags w.places ≡ w.places
    stays : returns i w.machine.cpu.registers.flags ≡ false

  along_next : (i : Instr) (change : Change) → GoesToNext i change → moves_of (role_of (code_of image) p) (effect_of i) f ≡ Ok moves → Along image w i next
  along_next i change n moved = record {
    goes_on = λ refused m h.
        after_it (places_after i next w.machine.cpu.registers.flags w.places) (proceeded i next w.machine) m (sym (n.executes refused) ∙ h)
        (subst (λ (ps : List ℕ). OnWalk (code_of image) (target i next w.machine.memory w.machine.cpu) ps) (sym n.places)
        (subst (λ (a : ℕ). OnWalk (code_of image) a w.places) (sym n.goes)
        (on_change change (ap (λ e. moves_of (role_of (code_of image) p) e f) (sym n.effect) ∙ moved))));
    behind = λ taken. absurd (true≢false (sym taken ∙ n.stays));
  }

  along_plain : (i : Instr) → is_plain i ≡ true → moves_of (role_of (code_of image) p) (effect_of i) f ≡ Ok moves → Along image w i next
  along_plain i plain moved =
      let s = plain_step i next w.machine w.places plain in
      along_next i (change_by (effect_of i)) (record { effect = plain_effect i plain; executes = s.executes image.regions; goes = s.goes; places = s.places; stays = s.stays }) moved

  -- IN and OUT
  along_input : (port : ℕ) → OnWalk (code_of image) next w.places → Along image w (In port) next
  along_input port there = record { goes_on = λ refused m h. by (next_input w.machine.inputs port) m h; behind = λ taken. absurd (true≢false (sym taken)) }
    where
      by : (byte : Option ℕ) (m : Machine) → with_input w.machine next port byte ≡ Next m → OnWalk (code_of image) m.cpu.pc w.places
      by None m h = absurd (cc)
      by (Some byte) m h = after_it w.places _ m h there

  along_output : (port : ℕ) → OnWalk (code_of image) next w.places → Along image w (Out port) next
  along_output port there = record { goes_on = by; behind = λ taken. absurd (true≢false (sym taken)) }
    where
      by : (refused : Bool) (m : Machine) → execute image.regions refused (Out port) next w.machine ≡ Next m → OnWalk (code_of image) m.cpu.pc w.places
      by true m h = absurd (cc)
      by false m h = after_it w.places _ m h there

  -- jumps
  along_jump : (to : ℕ) → OnWalk (code_of image) to w.places → Along image w (Jmp to) next
  along_jump to there = record { goes_on = λ refused m h. after_it w.places (proceeded (Jmp to) next w.machine) m h there; behind = λ taken. absurd (true≢false (sym taken)) }

  along_branch : (condition : Condition) (to : ℕ) → OnWalk (code_of image) next w.places → OnWalk (code_of image) to w.places → Along image w (JumpIf condition to) next
  along_branch condition to on off = record {
    goes_on = λ refused m h. after_it w.places (proceeded (JumpIf condition to) next w.machine) m h (either (holds condition w.machine.cpu.registers.flags));
    behind = λ taken. absurd (true≢false (sym taken));
  }
    where
      either : (b : Bool) → OnWalk (code_of image) (if b then to else next) w.places
      either true = off
      either false = on

  along_case : is_declared image.regions w.machine.cpu.pc ≡ true → ((to : ℕ) → Contains (declared_targets image.regions w.machine.cpu.pc) to → OnWalk (code_of image) to w.places) → Along image w Pchl next
  along_case declared there = record {
    goes_on = λ refused m h.
        let went = jumped (targets_at image.regions w.machine.cpu.pc) declared (hl_of w.machine.cpu.registers) (proceeded Pchl next w.machine) m h in
        subst (λ (x : Machine). OnWalk (code_of image) x.cpu.pc w.places) went.0 (there (hl_of w.machine.cpu.registers) went.1);
    behind = λ taken. absurd (true≢false (sym taken));
  }

  -- calls
  along_call : (to : ℕ) → OnWalk (code_of image) to (next ∷ w.places) → Along image w (Call to) next
  along_call to there = record { goes_on = λ refused m h. after_it (next ∷ w.places) (proceeded (Call to) next w.machine) m h there; behind = λ taken. absurd (true≢false (sym taken)) }

  along_restart : (number : Restart) → OnWalk (code_of image) (8 * restart_number number) (next ∷ w.places) → Along image w (Rst number) next
  along_restart number there = record { goes_on = λ refused m h. after_it (next ∷ w.places) (proceeded (Rst number) next w.machine) m h there; behind = λ taken. absurd (true≢false (sym taken)) }

  along_call_if : (condition : Condition) (to : ℕ) → OnWalk (code_of image) to (next ∷ w.places) → OnWalk (code_of image) next w.places → Along image w (CallIf condition to) next
  along_call_if condition to enter on = record {
    goes_on = λ refused m h.
        after_it (if holds condition w.machine.cpu.registers.flags then next ∷ w.places else w.places) (proceeded (CallIf condition to) next w.machine) m h (either (holds condition w.machine.cpu.registers.flags));
    behind = λ taken. absurd (true≢false (sym taken));
  }
    where
      either : (b : Bool) → OnWalk (code_of image) (if b then to else next) (if b then next ∷ w.places else w.places)
      either true = enter
      either false = on

  -- returns
  along_return : (taken : ℕ) → returning moves ≡ Some taken → IsNewest (word_in w.machine.memory w.machine.cpu.sp) w.places → Along image w Ret next
  along_return taken return newest = record {
    goes_on = λ refused m h. after_it (drop 1 w.places) (proceeded Ret next w.machine) m h (leads.back taken return (word_in w.machine.memory w.machine.cpu.sp) newest);
    behind = λ _. leads.behind taken return (word_in w.machine.memory w.machine.cpu.sp) newest;
  }

  along_return_if : (condition : Condition) (taken : ℕ) → returning moves ≡ Some taken → OnWalk (code_of image) next w.places →
      (holds condition w.machine.cpu.registers.flags ≡ true → IsNewest (if holds condition w.machine.cpu.registers.flags then word_in w.machine.memory w.machine.cpu.sp else next) w.places) → Along image w (ReturnIf condition) next
  along_return_if condition taken return on newest = record {
    goes_on = λ refused m h.
        after_it (if holds condition w.machine.cpu.registers.flags then drop 1 w.places else w.places) (proceeded (ReturnIf condition) next w.machine) m h (either (holds condition w.machine.cpu.registers.flags) newest);
    behind = behind (holds condition w.machine.cpu.registers.flags) newest;
  }
    where
      either : (b : Bool) → (b ≡ true → IsNewest (if b then word_in w.machine.memory w.machine.cpu.sp else next) w.places) → OnWalk (code_of image) (if b then word_in w.machine.memory w.machine.cpu.sp else next) (if b then drop 1 w.places else w.places)
      either true newest = leads.back taken return (word_in w.machine.memory w.machine.cpu.sp) (newest refl)
      either false newest = on

      behind : (b : Bool) → (b ≡ true → IsNewest (if b then word_in w.machine.memory w.machine.cpu.sp else next) w.places) → b ≡ true → IsBehindCall (code_of image) (if b then word_in w.machine.memory w.machine.cpu.sp else next)
      behind true newest taken_it = leads.behind taken return (word_in w.machine.memory w.machine.cpu.sp) (newest refl)
      behind false newest taken_it = absurd (true≢false (sym taken_it))

  return_is : (move : Moves) → unless (return_fault (role_of (code_of image) p) f.words) move ≡ Ok moves → move ≡ moves
  return_is move moved = sym (unless_ok (return_fault (role_of (code_of image) p) f.words) move moves moved).1

  -- each instruction
  pub goes_along : (i : Instr) → (i ≡ Pchl → is_declared image.regions w.machine.cpu.pc ≡ true) →
      (returns i w.machine.cpu.registers.flags ≡ true → IsNewest (target i next w.machine.memory w.machine.cpu) w.places) →
      moves_of (role_of (code_of image) p) (effect_of i) f ≡ Ok moves → Along image w i next
  goes_along (Push pair) declared newest moved = along_next (Push pair) (pushed_by pair) (record { effect = refl; executes = λ refused. refl; goes = refl; places = refl; stays = refl }) moved
  goes_along (Pop pair) declared newest moved = along_next (Pop pair) (popped_by pair) (record { effect = refl; executes = λ refused. refl; goes = refl; places = refl; stays = refl }) moved
  goes_along Xthl declared newest moved = along_next Xthl Swap (record { effect = refl; executes = λ refused. refl; goes = refl; places = refl; stays = refl }) moved
  goes_along (Lxi PairBc n) declared newest moved = along_plain (Lxi PairBc n) refl moved
  goes_along (Lxi PairDe n) declared newest moved = along_plain (Lxi PairDe n) refl moved
  goes_along (Lxi PairHl n) declared newest moved = along_plain (Lxi PairHl n) refl moved
  goes_along (Lxi Sp n) declared newest moved = along_next (Lxi Sp n) (SetStack n) (record { effect = refl; executes = λ refused. refl; goes = refl; places = refl; stays = refl }) moved
  goes_along (Inx PairBc) declared newest moved = along_plain (Inx PairBc) refl moved
  goes_along (Inx PairDe) declared newest moved = along_plain (Inx PairDe) refl moved
  goes_along (Inx PairHl) declared newest moved = along_plain (Inx PairHl) refl moved
  goes_along (Inx Sp) declared newest moved = not_refused StackByByte _ refl moved
  goes_along (Dcx PairBc) declared newest moved = along_plain (Dcx PairBc) refl moved
  goes_along (Dcx PairDe) declared newest moved = along_plain (Dcx PairDe) refl moved
  goes_along (Dcx PairHl) declared newest moved = along_plain (Dcx PairHl) refl moved
  goes_along (Dcx Sp) declared newest moved = not_refused StackByByte _ refl moved
  goes_along Sphl declared newest moved = not_refused FrameSphl _ refl moved
  goes_along Pchl declared newest moved =
      let l = ways_as (Cases f) _ refl moved in
      along_case (declared refl) (λ to there. l.on to f (there, refl))
  goes_along (Jmp to) declared newest moved = along_jump to ((ways_as (MovesTo f to) _ refl moved).on to f (refl, refl))
  goes_along (JumpIf condition to) declared newest moved =
      let l = ways_as (Either f to) _ refl moved in
      along_branch condition to (l.on next f (inl refl, refl)) (l.on to f (inr refl, refl))
  goes_along (Call to) declared newest moved = along_call to ((ways_as (CallOf f to) _ refl moved).call to refl)
  goes_along (CallIf condition to) declared newest moved =
      let l = ways_as (MaybeCall f to) _ refl moved in
      along_call_if condition to (l.call to refl) (l.on next f (refl, refl))
  goes_along (Rst number) declared newest moved = along_restart number ((ways_as (CallOf f (8 * restart_number number)) _ refl moved).call (8 * restart_number number) refl)
  goes_along Ret declared newest moved =
      let is = return_is (ReturnOf f.taken) moved in
      along_return f.taken (ap returning (sym is)) (newest refl)
  goes_along (ReturnIf condition) declared newest moved =
      let is = return_is (MaybeReturn f f.taken) moved in
      along_return_if condition f.taken (ap returning (sym is)) ((subst (Ways (code_of image) w.machine.cpu.pc next w.places) (sym is) leads).on next f (refl, refl)) newest
  goes_along Hlt declared newest moved = record { goes_on = λ refused m h. absurd (cc); behind = λ taken. absurd (true≢false (sym taken)) }
  goes_along (In port) declared newest moved = along_input port (on_change Keep moved)
  goes_along (Out port) declared newest moved = along_output port (on_change Keep moved)
  goes_along i declared newest moved = along_plain i refl moved
