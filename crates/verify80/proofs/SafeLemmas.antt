-- Each step of a watched world is safe, and leads to a watched world.
use Rattle.std.specs.Prelude.{◌≡◌, ◌≢◌, ℕ, ◌+◌, ◌-◌, ◌*◌, ◌/◌, ◌%◌, ◌≤◌, Bool, true, false, ◌==◌, List, [], ◌∷◌, ◌++◌}
use Rattle.std.specs.Prelude.{Contains, Option, Some, None, Result, Ok, Err, drop, length, slice_index, refl, if◌then◌else◌}
use Rattle.std.proofs.Common.{◌∙◌, ap, sym, subst, arith, inl, inr, true≢false}
use Rattle.std.specs.Cmp.{unsigned_Decides}
use Rattle.decode80.specs.declared.condition.Condition.{Condition}
use Rattle.decode80.specs.declared.restart.Restart.{Restart}
use Rattle.decode80.specs.declared.pair.Pair.TheVariants.{Bc as PairBc, De as PairDe, Hl as PairHl, Sp}
use Rattle.decode80.specs.declared.pair.StackPair.{StackPair}
use Rattle.decode80.specs.declared.pair.StackPair.TheVariants.{Bc as StackBc, De as StackDe, Hl as StackHl, Psw}
use Rattle.decode80.specs.declared.instr.Instr.{Instr}
use Rattle.decode80.specs.declared.instr.Instr.TheVariants.{Lxi, Inx, Dcx, Push, Pop, Xthl, Sphl, Pchl, Jmp, JumpIf, Call, CallIf, Ret, ReturnIf, Rst, Hlt, In, Out}
use Rattle.decode80.specs.Restart.{restart_number}
use Rattle.decode80.specs.Fetch.{ahead, behind}
use Rattle.frames80.specs.declared.word.Word.{Word}
use Rattle.frames80.specs.declared.word.Word.TheVariants.{Own, Any}
use Rattle.frames80.specs.declared.fault.FrameFault.{FrameFault}
use Rattle.frames80.specs.declared.fault.FrameFault.TheVariants.{Sphl as FrameSphl, StackByByte, SetsStack, PopsBelow, ReturnNotOwn, ReturnFromMain}
use Rattle.frames80.specs.declared.frame_pair.FramePair.{FramePair}
use Rattle.frames80.specs.declared.frame_pair.FramePair.TheVariants.{Bc, De, Hl}
use Rattle.frames80.specs.declared.effect.Change.{Change}
use Rattle.frames80.specs.declared.effect.Change.TheVariants.{Keep, Push as PushPair, PushAny, Pop as PopPair, Drop, Swap, SetStack}
use Rattle.frames80.specs.declared.effect.Effect.TheVariants.{Change as Changes}
use Rattle.frames80.specs.declared.moves.Moves.{Moves}
use Rattle.frames80.specs.declared.moves.Moves.TheVariants.{On, Jump as MovesTo, Either, Case as Cases, Call as CallOf, MaybeCall, Return as ReturnOf, MaybeReturn}
use Rattle.frames80.specs.StackFrame.{StackFrame, pair_in, entry_frame, top_word, taken_after_pop, pushed, cleared}
use Rattle.frames80.specs.Effects.{effect_of}
use Rattle.frames80.specs.Moves.{moves_of, changed as changed_frame, change_fault, return_fault, pop_fault, load_fault, unless}
use Rattle.frames80.specs.Places.{InPair, InWord, Source, From, Unknown, source, sourced, word_from_top, ChangesByPlaces, ReturnsByPlaces}
use Rattle.image80.specs.Regions.{top_of, targets_at}
use Rattle.image80.specs.Image.{Located, memory_of}
use Rattle.machine80.specs.declared.registers.Registers.{Registers}
use Rattle.machine80.specs.Flags.{holds}
use Rattle.machine80.specs.Cpu.{word, hl_of, high_of, low_of, with_stack_pair}
use Rattle.machine80.specs.Ports.{next_input, without_next}
use Rattle.machine80.specs.Effects.{stack_bytes, stored, changed, target, word_in, pushed_bytes, popped_bytes, push_bytes}
use Rattle.machine80.specs.Step.{Machine, Next, guard, execute, proceeded, with_input}
use Rattle.machine80.specs.World.{World, places_after, returns, IsNewest}
use Rattle.frames80.specs.declared.procedure.Procedure.{Procedure}
use Rattle.frames80.specs.declared.procedure.Procedure.TheVariants.{Main, Entry}
use Rattle.frames80.specs.Code.{role_of}
use Rattle.verify80_flow.specs.Walks.{LeadsTo, called, returning}
use Rattle.verify80_flow.specs.Fitting.{Table, Has, CallFits, Fits}
use Rattle.verify80.specs.Looking.{code_of, is_declared, declared_targets}
use Rattle.verify80.proofs.StackLemmas.{pointer, stack_word, Touches, touches_none, after_pop, word_on_top}
use Rattle.verify80.proofs.StoreLemmas.{Ground, is_plain, StoresData, same_memory, plain_stores, SameCode}
use Rattle.verify80.proofs.PairLemmas.{pair_value, BringsPair, change_by, plain_pairs}
use Rattle.verify80.proofs.ChainLemmas.{Chain, in_main, in_call, chain_room, callee_room, Watched, arrived}
use Rattle.verify80.proofs.StepLemmas.{plain_effect, plain_frame, plain_step, machine_in, unless_ok, jumped}
use Rattle.verify80.proofs.ArriveLemmas.{stack_within, top_is, has_height, has_wants, stays_there, pushes, PopsTo, pops_to, here_height}
use Rattle.verify80.proofs.ArriveLemmas.{pops, popped_word, swaps, calls_there, touches_push, touches_pop, ReturnsTo, returns_to}

-- where a frame's move leads in the table
pub record Leads (image : Located) (table : Table) (p : Procedure) (at : ℕ) (f : StackFrame) (next : ℕ) (moves : Moves) : Type 0 where
  pub on : (to : ℕ) (g : StackFrame) → LeadsTo moves (declared_targets image.regions at) next to g → Has table p to g
  pub call : (target : ℕ) → called moves ≡ Some target → CallFits (code_of image) table p next f target
  pub return : (taken : ℕ) → returning moves ≡ Some taken → table.takes p ≡ Some taken

-- a step of an instruction is safe: it touches the stack within its bytes, returns to the newest open call, and where it goes
-- on, the world is watched
pub record Safe (image : Located) (table : Table) (most : ℕ) (w : World) (i : Instr) (next : ℕ) : Type 0 where
  pub touches : Touches image.regions.stack most (stack_bytes i w.machine.cpu)
  pub returning : returns i w.machine.cpu.registers.flags ≡ true → IsNewest (target i next w.machine.memory w.machine.cpu) w.places
  pub goes_on : (refused : Bool) (m : Machine) → guard image.regions i w.machine.cpu ≡ None → execute image.regions refused i next w.machine ≡ Next m →
      Watched image table most (record { machine = m; places = places_after i next w.machine.cpu.registers.flags w.places })

module _ (image : Located) (table : Table) (most : ℕ) (rules : Ground image.regions) (fits : Fits (code_of image) table) (within : most ≤ image.regions.stack.length)
    (changes : ChangesByPlaces) (returns_law : ReturnsByPlaces) (w : World) (s : Watched image table most w) where
  -- a frame's pairs after a change, where each has the word of the pair that it comes from
  pairs_kept : (change : Change) (registers : Registers) → ((pair : FramePair) → BringsPair w.machine.cpu.registers registers pair (source change (InPair pair))) →
      (pair : FramePair) → pair_in (changed_frame change s.frame).pairs pair ≡ Own → pair_value registers pair ≡ s.place
  pairs_kept change registers brings pair own = by (source change (InPair pair)) (brings pair) (sym (changes change s.frame (InPair pair)) ∙ own)
    where
      by : (from : Source) → BringsPair w.machine.cpu.registers registers pair from → sourced s.frame from ≡ Own → pair_value registers pair ≡ s.place
      by (From (InPair other)) brings own = brings ∙ s.pairs other own
      by (From (InWord i)) brings own = absurd brings
      by Unknown brings own = absurd (let e : Any ≡ Own = own in cc)

  on_change : (change : Change) (next : ℕ) (moves : Moves) → Leads image table s.procedure w.machine.cpu.pc s.frame next moves → moves_of (role_of (code_of image) s.procedure) (Changes change) s.frame ≡ Ok moves →
      (change_fault (role_of (code_of image) s.procedure) change s.frame.words ≡ None) × (Has table s.procedure next (changed_frame change s.frame))
  on_change change next moves leads moved =
      let parts = unless_ok (change_fault (role_of (code_of image) s.procedure) change s.frame.words) (On (changed_frame change s.frame)) moves moved in
      (parts.0, (subst (Leads image table s.procedure w.machine.cpu.pc s.frame next) parts.1 leads).on next (changed_frame change s.frame) (refl, refl))

  -- a plain instruction
  plain_safe : (i : Instr) (next : ℕ) (moves : Moves) → is_plain i ≡ true → Leads image table s.procedure w.machine.cpu.pc s.frame next moves → moves_of (role_of (code_of image) s.procedure) (effect_of i) s.frame ≡ Ok moves →
      Safe image table most w i next
  plain_safe i next moves plain leads moved =
      let change = change_by (effect_of i) in
      let p = plain_step i next w.machine w.places plain in
      let on = on_change change next moves leads (ap (λ e. moves_of (role_of (code_of image) s.procedure) e s.frame) (sym (plain_effect i plain)) ∙ moved) in
      record {
        touches = subst (Touches image.regions.stack most) (sym p.touches) (touches_none image.regions.stack most);
        returning = λ returns_here. absurd (true≢false (sym returns_here ∙ p.stays));
        goes_on = λ refused m pass h.
            let same : proceeded i next w.machine ≡ m = machine_in (proceeded i next w.machine) m (sym (p.executes image.regions refused) ∙ h) in
            subst (λ (x : Machine). Watched image table most (record { machine = x; places = places_after i next w.machine.cpu.registers.flags w.places })) same
            (subst (λ (ps : List ℕ). Watched image table most (record { machine = proceeded i next w.machine; places = ps })) (sym p.places)
            (arrived image table most (proceeded i next w.machine) w.places s.procedure (changed_frame change s.frame) s.base s.place
            (stays_there image table most rules fits within w s (proceeded i next w.machine) next (changed_frame change s.frame) on.1 p.goes p.pointer
            (plain_stores image.regions i next w.machine.memory w.machine.cpu plain pass) (plain_frame i s.frame plain)
            (pairs_kept change (changed i w.machine.memory w.machine.cpu).registers (λ pair. plain_pairs i w.machine.memory w.machine.cpu pair plain)))));
      }

  -- the frame is the same, and so is the stack
  same_there : (m : Machine) (to : ℕ) → Has table s.procedure to s.frame → m.cpu.pc ≡ to → m.cpu.sp ≡ w.machine.cpu.sp → m.memory ≡ w.machine.memory →
      ((pair : FramePair) → pair_value m.cpu.registers pair ≡ pair_value w.machine.cpu.registers pair) → Watched image table most (record { machine = m; places = w.places })
  same_there m to has pc sp memory pairs =
      arrived image table most m w.places s.procedure s.frame s.base s.place
      (stays_there image table most rules fits within w s m to s.frame has pc sp
      (subst (StoresData image.regions w.machine.memory) (sym memory) (same_memory image.regions w.machine.memory))
      (record { words = refl; taken = refl }) (λ pair own. pairs pair ∙ s.pairs pair own))

  no_touch : Touches image.regions.stack most []
  no_touch = touches_none image.regions.stack most

  -- IN and OUT
  input_safe : (port next : ℕ) → Has table s.procedure next s.frame → Safe image table most w (In port) next
  input_safe port next has = record {
    touches = no_touch;
    returning = λ taken. absurd (true≢false (sym taken));
    goes_on = λ refused m pass h. by (next_input w.machine.inputs port) m h;
  }
    where
      by : (byte : Option ℕ) (m : Machine) → with_input w.machine next port byte ≡ Next m → Watched image table most (record { machine = m; places = w.places })
      by None m h = absurd (cc)
      by (Some byte) m h =
          subst (λ (x : Machine). Watched image table most (record { machine = x; places = w.places })) (machine_in _ m h)
          (same_there (record w.machine { cpu = record w.machine.cpu { registers = record w.machine.cpu.registers { a = byte }; pc = next }; inputs = without_next w.machine.inputs port })
          next has refl refl refl pairs)
        where
          pairs : (pair : FramePair) → pair_value (record w.machine.cpu.registers { a = byte }) pair ≡ pair_value w.machine.cpu.registers pair
          pairs Bc = refl
          pairs De = refl
          pairs Hl = refl

  output_safe : (port next : ℕ) → Has table s.procedure next s.frame → Safe image table most w (Out port) next
  output_safe port next has = record {
    touches = no_touch;
    returning = λ taken. absurd (true≢false (sym taken));
    goes_on = λ refused m pass h. by refused m h;
  }
    where
      by : (refused : Bool) (m : Machine) → execute image.regions refused (Out port) next w.machine ≡ Next m → Watched image table most (record { machine = m; places = w.places })
      by true m h = absurd (cc)
      by false m h =
          subst (λ (x : Machine). Watched image table most (record { machine = x; places = w.places })) (machine_in _ m h)
          (same_there (record w.machine { cpu = record w.machine.cpu { pc = next }; outputs = w.machine.outputs ++ (port, w.machine.cpu.registers.a) ∷ [] }) next has refl refl refl (λ pair. refl))

  -- jumps
  jump_safe : (to next : ℕ) → Has table s.procedure to s.frame → Safe image table most w (Jmp to) next
  jump_safe to next has = record {
    touches = no_touch;
    returning = λ taken. absurd (true≢false (sym taken));
    goes_on = λ refused m pass h.
        subst (λ (x : Machine). Watched image table most (record { machine = x; places = w.places })) (machine_in _ m h)
        (same_there (proceeded (Jmp to) next w.machine) to has refl refl refl (λ pair. refl));
  }

  branch_safe : (condition : Condition) (to next : ℕ) → Has table s.procedure next s.frame → Has table s.procedure to s.frame → Safe image table most w (JumpIf condition to) next
  branch_safe condition to next on off = record {
    touches = no_touch;
    returning = λ taken. absurd (true≢false (sym taken));
    goes_on = λ refused m pass h.
        subst (λ (x : Machine). Watched image table most (record { machine = x; places = w.places })) (machine_in _ m h)
        (same_there (proceeded (JumpIf condition to) next w.machine) (if holds condition w.machine.cpu.registers.flags then to else next) (either (holds condition w.machine.cpu.registers.flags)) refl refl refl (λ pair. refl));
  }
    where
      either : (b : Bool) → Has table s.procedure (if b then to else next) s.frame
      either true = off
      either false = on

  -- pushes
  push_safe : (pair : StackPair) (high low : ℕ) (above : Word) (next : ℕ) (g : StackFrame) → Has table s.procedure next g → g ≡ pushed above s.frame →
      high ≡ high_of w.machine.cpu.registers pair → low ≡ low_of w.machine.cpu.registers pair → (above ≡ Own → word high low ≡ s.place) → Safe image table most w (Push pair) next
  push_safe pair high low above next g has is same_high same_low brings = record {
    touches = touches_push image table most rules fits within w s room_here;
    returning = λ taken. absurd (true≢false (sym taken));
    goes_on = λ refused m pass h.
        subst (λ (x : Machine). Watched image table most (record { machine = x; places = w.places })) (machine_in _ m h)
        (arrived image table most (proceeded (Push pair) next w.machine) w.places s.procedure g s.base s.place
        (pushes image table most rules fits within w s (proceeded (Push pair) next w.machine) next high low above g has is refl refl
        (ap (λ x. stored w.machine.memory (push_bytes w.machine.cpu.sp x (low_of w.machine.cpu.registers pair))) (sym same_high) ∙ ap (λ x. stored w.machine.memory (push_bytes w.machine.cpu.sp high x)) (sym same_low))
        refl brings));
  }
    where
      room_here : 2 * (s.base + length s.frame.words) + 2 ≤ most
      room_here =
          let there = subst (λ (x : StackFrame). Has table s.procedure next x) is has in
          let h = has_height image table most rules fits within s.procedure next s.base (pushed above s.frame) there
          (chain_room table most (image.regions.stack.first + image.regions.stack.length) w.machine.memory s.procedure s.base s.frame.taken s.place w.places s.chain) in
          omega (arith, h)

  any_own : {X : Type 0} → Any ≡ Own → X
  any_own e = absurd (cc)

  push_cases : (pair : StackPair) (next : ℕ) (moves : Moves) → Leads image table s.procedure w.machine.cpu.pc s.frame next moves → moves_of (role_of (code_of image) s.procedure) (effect_of (Push pair)) s.frame ≡ Ok moves → Safe image table most w (Push pair) next
  push_cases StackBc next moves leads moved = push_safe StackBc w.machine.cpu.registers.b w.machine.cpu.registers.c s.frame.pairs.bc next _ (on_change (PushPair Bc) next moves leads moved).1 refl refl refl (s.pairs Bc)
  push_cases StackDe next moves leads moved = push_safe StackDe w.machine.cpu.registers.d w.machine.cpu.registers.e s.frame.pairs.de next _ (on_change (PushPair De) next moves leads moved).1 refl refl refl (s.pairs De)
  push_cases StackHl next moves leads moved = push_safe StackHl w.machine.cpu.registers.h w.machine.cpu.registers.l s.frame.pairs.hl next _ (on_change (PushPair Hl) next moves leads moved).1 refl refl refl (s.pairs Hl)
  push_cases Psw next moves leads moved = push_safe Psw _ _ Any next _ (on_change PushAny next moves leads moved).1 refl refl refl (λ e. any_own e)

  -- pops
  called_if_empty : (change : Change) → pop_fault (role_of (code_of image) s.procedure) s.frame.words ≡ None → s.frame.words ≡ [] → s.procedure ≢ Main
  called_if_empty change none empty = λ main.
      let fault : pop_fault (role_of (code_of image) Main) [] ≡ None =
      subst (λ (ws : List Word). pop_fault (role_of (code_of image) Main) ws ≡ None) empty (subst (λ (q : Procedure). pop_fault (role_of (code_of image) q) s.frame.words ≡ None) main none) in
      absurd (let e : Some PopsBelow ≡ None = fault in cc)

  pop_safe : (pair : StackPair) (next : ℕ) (g : StackFrame) → Has table s.procedure next g → pop_fault (role_of (code_of image) s.procedure) s.frame.words ≡ None →
      g.words ≡ drop 1 s.frame.words → g.taken ≡ taken_after_pop s.frame.words s.frame.taken →
      ((word_from_top s.frame.words 0 ≡ Own → word_in w.machine.memory w.machine.cpu.sp ≡ s.place) → (p : FramePair) → pair_in g.pairs p ≡ Own → pair_value (with_stack_pair w.machine.cpu.registers pair (slice_index w.machine.memory (ahead w.machine.cpu.sp 1)) (slice_index w.machine.memory w.machine.cpu.sp)) p ≡ s.place) →
      Safe image table most w (Pop pair) next
  pop_safe pair next g has none words taken pairs = record {
    touches = touches_pop image table most rules fits within w s (l.below + length (drop 1 s.frame.words)) (sym l.level);
    returning = λ returns_here. absurd (true≢false (sym returns_here));
    goes_on = λ refused m pass h.
        subst (λ (x : Machine). Watched image table most (record { machine = x; places = w.places })) (machine_in _ m h)
        (arrived image table most (proceeded (Pop pair) next w.machine) w.places s.procedure g (there l).below s.place
        (pops image table most rules fits within w s (proceeded (Pop pair) next w.machine) next g has (there l) words refl refl refl
        (pairs (popped_word image table most rules fits within w s l))));
  }
    where
      l : PopsTo image table most rules fits within w s (taken_after_pop s.frame.words s.frame.taken)
      l = pops_to image table most rules fits within w s (called_if_empty Drop none) (subst (λ n. n ≤ table.wants s.procedure) taken (has_wants image table most rules fits within s.procedure next g has))

      there : PopsTo image table most rules fits within w s (taken_after_pop s.frame.words s.frame.taken) → PopsTo image table most rules fits within w s g.taken
      there x = subst (λ n. PopsTo image table most rules fits within w s n) (sym taken) x

  popped_top : (word_from_top s.frame.words 0 ≡ Own → word_in w.machine.memory w.machine.cpu.sp ≡ s.place) → top_word s.frame.words ≡ Own → word_in w.machine.memory w.machine.cpu.sp ≡ s.place
  popped_top value own = value (sym (top_is s.frame.words) ∙ own)

  pop_cases : (pair : StackPair) (next : ℕ) (moves : Moves) → Leads image table s.procedure w.machine.cpu.pc s.frame next moves → moves_of (role_of (code_of image) s.procedure) (effect_of (Pop pair)) s.frame ≡ Ok moves → Safe image table most w (Pop pair) next
  pop_cases StackBc next moves leads moved = let on = on_change (PopPair Bc) next moves leads moved in pop_safe StackBc next (changed_frame (PopPair Bc) s.frame) on.1 on.0 refl refl pairs
    where
      pairs : (word_from_top s.frame.words 0 ≡ Own → word_in w.machine.memory w.machine.cpu.sp ≡ s.place) → (p : FramePair) → pair_in (changed_frame (PopPair Bc) s.frame).pairs p ≡ Own → pair_value (with_stack_pair w.machine.cpu.registers StackBc (slice_index w.machine.memory (ahead w.machine.cpu.sp 1)) (slice_index w.machine.memory w.machine.cpu.sp)) p ≡ s.place
      pairs value Bc own = popped_top value own
      pairs value De own = s.pairs De own
      pairs value Hl own = s.pairs Hl own
  pop_cases StackDe next moves leads moved = let on = on_change (PopPair De) next moves leads moved in pop_safe StackDe next (changed_frame (PopPair De) s.frame) on.1 on.0 refl refl pairs
    where
      pairs : (word_from_top s.frame.words 0 ≡ Own → word_in w.machine.memory w.machine.cpu.sp ≡ s.place) → (p : FramePair) → pair_in (changed_frame (PopPair De) s.frame).pairs p ≡ Own → pair_value (with_stack_pair w.machine.cpu.registers StackDe (slice_index w.machine.memory (ahead w.machine.cpu.sp 1)) (slice_index w.machine.memory w.machine.cpu.sp)) p ≡ s.place
      pairs value Bc own = s.pairs Bc own
      pairs value De own = popped_top value own
      pairs value Hl own = s.pairs Hl own
  pop_cases StackHl next moves leads moved = let on = on_change (PopPair Hl) next moves leads moved in pop_safe StackHl next (changed_frame (PopPair Hl) s.frame) on.1 on.0 refl refl pairs
    where
      pairs : (word_from_top s.frame.words 0 ≡ Own → word_in w.machine.memory w.machine.cpu.sp ≡ s.place) → (p : FramePair) → pair_in (changed_frame (PopPair Hl) s.frame).pairs p ≡ Own → pair_value (with_stack_pair w.machine.cpu.registers StackHl (slice_index w.machine.memory (ahead w.machine.cpu.sp 1)) (slice_index w.machine.memory w.machine.cpu.sp)) p ≡ s.place
      pairs value Bc own = s.pairs Bc own
      pairs value De own = s.pairs De own
      pairs value Hl own = popped_top value own
  pop_cases Psw next moves leads moved = let on = on_change Drop next moves leads moved in pop_safe Psw next (changed_frame Drop s.frame) on.1 on.0 refl refl pairs
    where
      pairs : (word_from_top s.frame.words 0 ≡ Own → word_in w.machine.memory w.machine.cpu.sp ≡ s.place) → (p : FramePair) → pair_in (changed_frame Drop s.frame).pairs p ≡ Own → pair_value (with_stack_pair w.machine.cpu.registers Psw (slice_index w.machine.memory (ahead w.machine.cpu.sp 1)) (slice_index w.machine.memory w.machine.cpu.sp)) p ≡ s.place
      pairs value Bc own = s.pairs Bc own
      pairs value De own = s.pairs De own
      pairs value Hl own = s.pairs Hl own

  -- XTHL
  swap_safe : (next : ℕ) (moves : Moves) → Leads image table s.procedure w.machine.cpu.pc s.frame next moves → moves_of (role_of (code_of image) s.procedure) (effect_of Xthl) s.frame ≡ Ok moves → Safe image table most w Xthl next
  swap_safe next moves leads moved = record {
    touches = touches_pop image table most rules fits within w s (l.below + length (drop 1 s.frame.words)) (sym l.level);
    returning = λ returns_here. absurd (true≢false (sym returns_here));
    goes_on = λ refused m pass h.
        subst (λ (x : Machine). Watched image table most (record { machine = x; places = w.places })) (machine_in _ m h)
        (arrived image table most (proceeded Xthl next w.machine) w.places s.procedure (changed_frame Swap s.frame) l.below s.place
        (swaps image table most rules fits within w s (proceeded Xthl next w.machine) next w.machine.cpu.registers.h w.machine.cpu.registers.l s.frame.pairs.hl (changed_frame Swap s.frame) on.1 l refl refl refl refl (s.pairs Hl) pairs));
  }
    where
      on : (change_fault (role_of (code_of image) s.procedure) Swap s.frame.words ≡ None) × (Has table s.procedure next (changed_frame Swap s.frame))
      on = on_change Swap next moves leads moved

      l : PopsTo image table most rules fits within w s (taken_after_pop s.frame.words s.frame.taken)
      l = pops_to image table most rules fits within w s (called_if_empty Swap on.0) (has_wants image table most rules fits within s.procedure next (changed_frame Swap s.frame) on.1)

      pairs : (p : FramePair) → pair_in (changed_frame Swap s.frame).pairs p ≡ Own → pair_value (changed Xthl w.machine.memory w.machine.cpu).registers p ≡ s.place
      pairs Bc own = s.pairs Bc own
      pairs De own = s.pairs De own
      pairs Hl own = popped_top (popped_word image table most rules fits within w s l) own

  -- LXI SP, which only the main program may, and only with the stack's top
  set_safe : (address next : ℕ) (moves : Moves) → Leads image table s.procedure w.machine.cpu.pc s.frame next moves → moves_of (role_of (code_of image) s.procedure) (effect_of (Lxi Sp address)) s.frame ≡ Ok moves → Safe image table most w (Lxi Sp address) next
  set_safe address next moves leads moved = record {
    touches = no_touch;
    returning = λ returns_here. absurd (true≢false (sym returns_here));
    goes_on = λ refused m pass h.
        subst (λ (x : Machine). Watched image table most (record { machine = x; places = w.places })) (machine_in _ m h)
        (arrived image table most (proceeded (Lxi Sp address) next w.machine) w.places s.procedure (cleared s.frame) s.base s.place (record {
          has = on.1;
          pointer = set_to.0 ∙ ap (pointer (image.regions.stack.first + image.regions.stack.length)) (let ground_is = set_to.1 in let e : 0 ≡ s.base + 0 = omega (arith, ground_is) in e);
          words = λ i own. any_own own;
          pairs = s.pairs;
          chain = s.chain;
          code = s.code;
          size = s.size;
        }));
  }
    where
      on : (change_fault (role_of (code_of image) s.procedure) (SetStack address) s.frame.words ≡ None) × (Has table s.procedure next (cleared s.frame))
      on = on_change (SetStack address) next moves leads moved

      ground : (p : Procedure) (base taken place : ℕ) (places : List ℕ) → Chain table most (image.regions.stack.first + image.regions.stack.length) w.machine.memory p base taken place places → p ≡ Main → base ≡ 0
      ground p base taken place places (in_main _ _ _ _ _ at has_room) main = at.ground
      ground p base taken place places (in_call _ _ _ _ _ q base_there place_there older h u has_room rest) main = absurd (let e : Main ≡ Entry u.entry = sym main ∙ u.procedure in cc)

      loaded : (p : Procedure) → load_fault (role_of (code_of image) p) address ≡ None → (p ≡ Main) × (address ≡ top_of image.regions)
      loaded Main none = (refl, by (top_of image.regions == address) refl none)
        where
          by : (b : Bool) → (top_of image.regions == address) ≡ b → (if b then None else Some SetsStack) ≡ None → address ≡ top_of image.regions
          by true e none = sym ((unsigned_Decides (top_of image.regions) address).0 e)
          by false e none = absurd (cc)
      loaded (Entry entry) none = absurd (let e : Some SetsStack ≡ None = none in cc)

      set_to : (address ≡ pointer (image.regions.stack.first + image.regions.stack.length) 0) × (s.base ≡ 0)
      set_to =
          let parts = loaded s.procedure on.0 in
          (parts.1 ∙ ap (λ n. n % 65536) (let e : image.regions.stack.first + image.regions.stack.length ≡ image.regions.stack.first + image.regions.stack.length - 2 * 0 = omega arith in e), ground s.procedure s.base s.frame.taken s.place w.places s.chain parts.0)

  -- calls
  call_there : (m : Machine) (to next : ℕ) → CallFits (code_of image) table s.procedure next s.frame to → m.cpu.pc ≡ to → m.cpu.sp ≡ behind w.machine.cpu.sp 2 →
      m.memory ≡ stored w.machine.memory (push_bytes w.machine.cpu.sp (next / 256) (next % 256)) → Watched image table most (record { machine = m; places = next ∷ w.places })
  call_there m to next fit pc sp memory =
      arrived image table most m (next ∷ w.places) (Entry to) entry_frame (s.base + length s.frame.words) next (calls_there image table most rules fits within w s m to next fit pc sp memory)

  call_room : (to next : ℕ) → CallFits (code_of image) table s.procedure next s.frame to → 2 * (s.base + length s.frame.words) + 2 ≤ most
  call_room to next fit =
      let r = (callee_room (code_of image) table most s.procedure s.base s.frame to fit.bytes
      (chain_room table most (image.regions.stack.first + image.regions.stack.length) w.machine.memory s.procedure s.base s.frame.taken s.place w.places s.chain)).fits in
      omega (arith, r)

  call_safe : (to next : ℕ) → CallFits (code_of image) table s.procedure next s.frame to → Safe image table most w (Call to) next
  call_safe to next fit = record {
    touches = touches_push image table most rules fits within w s (call_room to next fit);
    returning = λ returns_here. absurd (true≢false (sym returns_here));
    goes_on = λ refused m pass h.
        subst (λ (x : Machine). Watched image table most (record { machine = x; places = next ∷ w.places })) (machine_in _ m h) (call_there (proceeded (Call to) next w.machine) to next fit refl refl refl);
  }

  restart_safe : (number : Restart) (next : ℕ) → CallFits (code_of image) table s.procedure next s.frame (8 * restart_number number) → Safe image table most w (Rst number) next
  restart_safe number next fit = record {
    touches = touches_push image table most rules fits within w s (call_room (8 * restart_number number) next fit);
    returning = λ returns_here. absurd (true≢false (sym returns_here));
    goes_on = λ refused m pass h.
        subst (λ (x : Machine). Watched image table most (record { machine = x; places = next ∷ w.places })) (machine_in _ m h) (call_there (proceeded (Rst number) next w.machine) (8 * restart_number number) next fit refl refl refl);
  }

  call_if_safe : (condition : Condition) (to next : ℕ) → CallFits (code_of image) table s.procedure next s.frame to → Has table s.procedure next s.frame → Safe image table most w (CallIf condition to) next
  call_if_safe condition to next fit on = record {
    touches = touched (holds condition w.machine.cpu.registers.flags);
    returning = λ returns_here. absurd (true≢false (sym returns_here));
    goes_on = λ refused m pass h.
        subst (λ (x : Machine). Watched image table most (record { machine = x; places = if holds condition w.machine.cpu.registers.flags then next ∷ w.places else w.places })) (machine_in _ m h)
        (by (holds condition w.machine.cpu.registers.flags));
  }
    where
      touched : (b : Bool) → Touches image.regions.stack most (if b then pushed_bytes w.machine.cpu.sp else [])
      touched true = touches_push image table most rules fits within w s (call_room to next fit)
      touched false = no_touch

      after : Bool → Machine
      after b = record w.machine {
        cpu = record w.machine.cpu { sp = if b then behind w.machine.cpu.sp 2 else w.machine.cpu.sp; pc = if b then to else next };
        memory = stored w.machine.memory (if b then push_bytes w.machine.cpu.sp (next / 256) (next % 256) else []);
      }

      by : (b : Bool) → Watched image table most (record { machine = after b; places = if b then next ∷ w.places else w.places })
      by true = call_there (after true) to next fit refl refl refl
      by false = same_there (after false) next on refl refl refl (λ pair. refl)

  -- returns
  record ReturnsHere : Type 0 where
    called : s.procedure ≢ Main
    words : s.frame.words ≡ Own ∷ []

  may_return : return_fault (role_of (code_of image) s.procedure) s.frame.words ≡ None → ReturnsHere
  may_return none = record {
    called = λ main. absurd (let e : Some ReturnFromMain ≡ None = subst (λ (q : Procedure). return_fault (role_of (code_of image) q) s.frame.words ≡ None) main none in cc);
    words = own_alone s.procedure s.frame.words none;
  }
    where
      own_alone : (p : Procedure) (ws : List Word) → return_fault (role_of (code_of image) p) ws ≡ None → ws ≡ Own ∷ []
      own_alone Main ws none = absurd (let e : Some ReturnFromMain ≡ None = none in cc)
      own_alone (Entry entry) [] none = absurd (let e : Some ReturnNotOwn ≡ None = none in cc)
      own_alone (Entry entry) (Own ∷ []) none = refl
      own_alone (Entry entry) (Any ∷ []) none = absurd (let e : Some ReturnNotOwn ≡ None = none in cc)
      own_alone (Entry entry) (Own ∷ word ∷ ws) none = absurd (let e : Some ReturnNotOwn ≡ None = none in cc)
      own_alone (Entry entry) (Any ∷ word ∷ ws) none = absurd (let e : Some ReturnNotOwn ≡ None = none in cc)

  module _ (here : ReturnsHere) (takes : table.takes s.procedure ≡ Some s.frame.taken) where
    count : s.base + length s.frame.words ≡ s.base + 1
    count = ap (λ (ws : List Word). s.base + length ws) here.words

    own_word : word_in w.machine.memory w.machine.cpu.sp ≡ s.place
    own_word =
        let high = here_height image table most rules fits within w s in
        ap (word_in w.machine.memory) (s.pointer ∙ ap (pointer (image.regions.stack.first + image.regions.stack.length)) count)
        ∙ word_on_top w.machine.memory (image.regions.stack.first + image.regions.stack.length) s.base (omega (arith, high, within, count)) (stack_within image.regions rules)
        ∙ ap (stack_word w.machine.memory (image.regions.stack.first + image.regions.stack.length)) (let e : s.base ≡ s.base + length s.frame.words - 1 = omega (arith, count) in e)
        ∙ s.words 0 (ap (λ (ws : List Word). word_from_top ws 0) here.words)

    return_there : (m : Machine) → m.cpu.pc ≡ word_in w.machine.memory w.machine.cpu.sp → m.cpu.sp ≡ ahead w.machine.cpu.sp 2 → m.memory ≡ w.machine.memory →
        ReturnsTo image table most rules fits within m s.place w.places
    return_there m pc sp memory =
        let high = here_height image table most rules fits within w s in
        returns_to image table most rules fits within returns_law m s.procedure s.base s.frame.taken s.place w.places
        (subst (λ (x : List ℕ). Chain table most (image.regions.stack.first + image.regions.stack.length) x s.procedure s.base s.frame.taken s.place w.places) (sym memory) s.chain)
        here.called takes (pc ∙ own_word)
        (sp ∙ ap (λ n. ahead n 2) (s.pointer ∙ ap (pointer (image.regions.stack.first + image.regions.stack.length)) count)
        ∙ after_pop (image.regions.stack.first + image.regions.stack.length) s.base (omega (arith, high, within, count)) (stack_within image.regions rules))
        (subst (λ (x : List ℕ). SameCode image.regions (memory_of image.chunks) x) (sym memory) s.code) (ap length memory ∙ s.size)

    -- the newest place is the one that is returned to
    newest_here : IsNewest (word_in w.machine.memory w.machine.cpu.sp) w.places
    newest_here =
        let r = return_there (record w.machine { cpu = record w.machine.cpu { sp = ahead w.machine.cpu.sp 2; pc = word_in w.machine.memory w.machine.cpu.sp } }) refl refl refl in
        (r.older, r.newest ∙ ap (λ n. n ∷ r.older) (sym own_word))

    after_return : (m : Machine) → m.cpu.pc ≡ word_in w.machine.memory w.machine.cpu.sp → m.cpu.sp ≡ ahead w.machine.cpu.sp 2 → m.memory ≡ w.machine.memory →
        Watched image table most (record { machine = m; places = drop 1 w.places })
    after_return m pc sp memory =
        let r = return_there m pc sp memory in
        subst (λ (ps : List ℕ). Watched image table most (record { machine = m; places = drop 1 ps })) (sym r.newest) r.watched

    touches_return : Touches image.regions.stack most (popped_bytes w.machine.cpu.sp)
    touches_return = touches_pop image table most rules fits within w s s.base count

    return_safe : (next : ℕ) → Safe image table most w Ret next
    return_safe next = record {
      touches = touches_return;
      returning = λ _. newest_here;
      goes_on = λ refused m pass h.
          subst (λ (x : Machine). Watched image table most (record { machine = x; places = drop 1 w.places })) (machine_in _ m h) (after_return (proceeded Ret next w.machine) refl refl refl);
    }

    return_if_safe : (condition : Condition) (next : ℕ) → Has table s.procedure next s.frame → Safe image table most w (ReturnIf condition) next
    return_if_safe condition next on = record {
      touches = touched (holds condition w.machine.cpu.registers.flags);
      returning = newest (holds condition w.machine.cpu.registers.flags);
      goes_on = λ refused m pass h.
          subst (λ (x : Machine). Watched image table most (record { machine = x; places = if holds condition w.machine.cpu.registers.flags then drop 1 w.places else w.places })) (machine_in _ m h)
          (by (holds condition w.machine.cpu.registers.flags));
    }
      where
        touched : (b : Bool) → Touches image.regions.stack most (if b then popped_bytes w.machine.cpu.sp else [])
        touched true = touches_return
        touched false = no_touch

        newest : (b : Bool) → b ≡ true → IsNewest (if b then word_in w.machine.memory w.machine.cpu.sp else next) w.places
        newest true e = newest_here
        newest false e = absurd (true≢false (sym e))

        after : Bool → Machine
        after b = record w.machine {
          cpu = record w.machine.cpu { sp = if b then ahead w.machine.cpu.sp 2 else w.machine.cpu.sp; pc = if b then word_in w.machine.memory w.machine.cpu.sp else next };
        }

        by : (b : Bool) → Watched image table most (record { machine = after b; places = if b then drop 1 w.places else w.places })
        by true = after_return (after true) refl refl refl
        by false = same_there (after false) next on refl refl refl (λ pair. refl)

  -- PCHL goes to one of the targets that are declared for its address, where the frame is the same
  case_safe : (next : ℕ) → is_declared image.regions w.machine.cpu.pc ≡ true → ((to : ℕ) → Contains (declared_targets image.regions w.machine.cpu.pc) to → Has table s.procedure to s.frame) →
      Safe image table most w Pchl next
  case_safe next declared leads = record {
    touches = no_touch;
    returning = λ taken. absurd (true≢false (sym taken));
    goes_on = λ refused m pass h.
        let went = jumped (targets_at image.regions w.machine.cpu.pc) declared (hl_of w.machine.cpu.registers) (proceeded Pchl next w.machine) m h in
        subst (λ (x : Machine). Watched image table most (record { machine = x; places = w.places })) went.0
        (same_there (proceeded Pchl next w.machine) (hl_of w.machine.cpu.registers) (leads (hl_of w.machine.cpu.registers) went.1) refl refl refl (λ pair. refl));
  }

  halt_safe : (next : ℕ) → Safe image table most w Hlt next
  halt_safe next = record { touches = no_touch; returning = λ returns_here. absurd (true≢false (sym returns_here)); goes_on = λ refused m pass h. absurd (cc) }

  -- each instruction is safe that a frame of the table may execute
  module _ (next : ℕ) (moves : Moves) (leads : Leads image table s.procedure w.machine.cpu.pc s.frame next moves) where
    same_moves : (a b : Result Moves FrameFault) (x y : Moves) → a ≡ b → a ≡ Ok x → b ≡ Ok y → x ≡ y
    same_moves a b x y e one other = cc

    leads_as : (x : Moves) (r : Result Moves FrameFault) → r ≡ Ok x → r ≡ Ok moves → Leads image table s.procedure w.machine.cpu.pc s.frame next x
    leads_as x r one other = subst (Leads image table s.procedure w.machine.cpu.pc s.frame next) (same_moves r r moves x refl other one) leads

    not_refused : {X : Type 0} (fault : FrameFault) (r : Result Moves FrameFault) → r ≡ Err fault → r ≡ Ok moves → X
    not_refused fault r one other = absurd (cc)

    return_leads : (move : Moves) → unless (return_fault (role_of (code_of image) s.procedure) s.frame.words) move ≡ Ok moves → ReturnsHere × (Leads image table s.procedure w.machine.cpu.pc s.frame next move)
    return_leads move moved =
        let parts = unless_ok (return_fault (role_of (code_of image) s.procedure) s.frame.words) move moves moved in
        (may_return parts.0, subst (Leads image table s.procedure w.machine.cpu.pc s.frame next) parts.1 leads)

    pub is_safe : (i : Instr) → (i ≡ Pchl → is_declared image.regions w.machine.cpu.pc ≡ true) → moves_of (role_of (code_of image) s.procedure) (effect_of i) s.frame ≡ Ok moves →
        Safe image table most w i next
    is_safe (Push pair) declared moved = push_cases pair next moves leads moved
    is_safe (Pop pair) declared moved = pop_cases pair next moves leads moved
    is_safe Xthl declared moved = swap_safe next moves leads moved
    is_safe (Lxi PairBc n) declared moved = plain_safe (Lxi PairBc n) next moves refl leads moved
    is_safe (Lxi PairDe n) declared moved = plain_safe (Lxi PairDe n) next moves refl leads moved
    is_safe (Lxi PairHl n) declared moved = plain_safe (Lxi PairHl n) next moves refl leads moved
    is_safe (Lxi Sp n) declared moved = set_safe n next moves leads moved
    is_safe (Inx PairBc) declared moved = plain_safe (Inx PairBc) next moves refl leads moved
    is_safe (Inx PairDe) declared moved = plain_safe (Inx PairDe) next moves refl leads moved
    is_safe (Inx PairHl) declared moved = plain_safe (Inx PairHl) next moves refl leads moved
    is_safe (Inx Sp) declared moved = not_refused StackByByte _ refl moved
    is_safe (Dcx PairBc) declared moved = plain_safe (Dcx PairBc) next moves refl leads moved
    is_safe (Dcx PairDe) declared moved = plain_safe (Dcx PairDe) next moves refl leads moved
    is_safe (Dcx PairHl) declared moved = plain_safe (Dcx PairHl) next moves refl leads moved
    is_safe (Dcx Sp) declared moved = not_refused StackByByte _ refl moved
    is_safe Sphl declared moved = not_refused FrameSphl _ refl moved
    is_safe Pchl declared moved =
        let l = leads_as (Cases s.frame) _ refl moved in
        case_safe next (declared refl) (λ to there. l.on to s.frame (there, refl))
    is_safe (Jmp to) declared moved = jump_safe to next ((leads_as (MovesTo s.frame to) _ refl moved).on to s.frame (refl, refl))
    is_safe (JumpIf condition to) declared moved =
        let l = leads_as (Either s.frame to) _ refl moved in
        branch_safe condition to next (l.on next s.frame (inl refl, refl)) (l.on to s.frame (inr refl, refl))
    is_safe (Call to) declared moved = call_safe to next ((leads_as (CallOf s.frame to) _ refl moved).call to refl)
    is_safe (CallIf condition to) declared moved =
        let l = leads_as (MaybeCall s.frame to) _ refl moved in
        call_if_safe condition to next (l.call to refl) (l.on next s.frame (refl, refl))
    is_safe (Rst number) declared moved = restart_safe number next ((leads_as (CallOf s.frame (8 * restart_number number)) _ refl moved).call (8 * restart_number number) refl)
    is_safe Ret declared moved =
        let l = return_leads (ReturnOf s.frame.taken) moved in
        return_safe l.0 (l.1.return s.frame.taken refl) next
    is_safe (ReturnIf condition) declared moved =
        let l = return_leads (MaybeReturn s.frame s.frame.taken) moved in
        return_if_safe l.0 (l.1.return s.frame.taken refl) condition next (l.1.on next s.frame (refl, refl))
    is_safe Hlt declared moved = halt_safe next
    is_safe (In port) declared moved = input_safe port next (on_change Keep next moves leads moved).1
    is_safe (Out port) declared moved = output_safe port next (on_change Keep next moves leads moved).1
    is_safe i declared moved = plain_safe i next moves refl leads moved
