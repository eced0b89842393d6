-- Where a step of a watched world arrives.
use Rattle.std.specs.Prelude.{◌≡◌, ◌≢◌, ℕ, zero, suc, ◌+◌, ◌-◌, ◌*◌, ◌/◌, ◌%◌, ◌<◌, ◌≤◌, List, [], ◌∷◌, Some, drop, length, refl}
use Rattle.std.proofs.Common.{◌∙◌, ap, sym, subst, arith}
use Rattle.std.proofs.lemmas.List.{length-drop}
use Rattle.std.proofs.lemmas.List.Elements.{All-contains, Contains-append_left, Contains-append_right, Contains-push}
use Rattle.decode80.specs.Fetch.{ahead, behind}
use Rattle.frames80.specs.declared.word.Word.{Word}
use Rattle.frames80.specs.declared.word.Word.TheVariants.{Own, Any}
use Rattle.frames80.specs.declared.role.Role.{Role}
use Rattle.frames80.specs.declared.role.Role.TheVariants.{Main as MainRole, Entry as EntryRole}
use Rattle.frames80.specs.declared.frame_pair.FramePair.{FramePair}
use Rattle.frames80.specs.declared.frame_pair.FramePair.TheVariants.{Bc, De, Hl}
use Rattle.frames80.specs.StackFrame.{StackFrame, pair_in, unknown, entry_frame, top_word, taken_after_pop, pushed}
use Rattle.frames80.specs.Calls.{room, returned}
use Rattle.frames80.specs.Places.{InWord, word_from_top, ReturnsByPlaces}
use Rattle.image80.specs.Range.{IsInMemory}
use Rattle.image80.specs.Regions.{Areas, all_ranges}
use Rattle.image80.specs.Image.{Located, memory_of}
use Rattle.machine80.specs.Cpu.{word}
use Rattle.machine80.specs.Effects.{stored, word_in, pushed_bytes, popped_bytes, push_bytes}
use Rattle.machine80.specs.Step.{Machine}
use Rattle.machine80.specs.World.{World}
use Rattle.frames80.specs.declared.procedure.Procedure.{Procedure}
use Rattle.frames80.specs.declared.procedure.Procedure.TheVariants.{Main, Entry}
use Rattle.frames80.specs.Code.{role_of}
use Rattle.verify80_flow.specs.Walks.{called}
use Rattle.verify80_flow.specs.Fitting.{Table, Has, CallFits, Fits}
use Rattle.verify80.specs.Looking.{code_of}
use Rattle.verify80.proofs.StackLemmas.{pointer, stack_word, Written, Touches, touches_pushed, touches_popped, after_pop, after_push, word_on_top, word_pushed, word_swapped}
use Rattle.verify80.proofs.StoreLemmas.{Ground, StoresData, SameCode, data_keeps_code, data_keeps_words, word_keeps_code}
use Rattle.verify80.proofs.PairLemmas.{pair_value}
use Rattle.verify80.proofs.ChainLemmas.{HasRoom, Chain, in_main, in_call, chain_room, height, callee_room, chain_kept, takes_one, Watched, Arrives, arrived}
use Rattle.verify80.proofs.StepLemmas.{SameFrame}

pub stack_in_memory : (regions : Areas) → Ground regions → IsInMemory regions.stack
stack_in_memory regions rules =
    All-contains IsInMemory (all_ranges regions) regions.stack rules.rules.in_memory
    (Contains-append_right regions.code (regions.stack ∷ regions.data_ranges) regions.stack
    (Contains-append_left (regions.stack ∷ []) regions.data_ranges regions.stack (Contains-push [] regions.stack)))

-- the stack lies in memory
pub stack_within : (regions : Areas) → Ground regions → regions.stack.first + regions.stack.length ≤ 65536
stack_within regions rules = (stack_in_memory regions rules).«end»

pub in_words : (words : List Word) (i : ℕ) → word_from_top words i ≡ Own → i < length words
in_words [] i own = absurd (let e : Any ≡ Own = own in cc)
in_words (word ∷ words) zero own = omega arith
in_words (word ∷ words) (suc i) own = let less = in_words words i own in omega (arith, less)

next_word : (words : List Word) (i : ℕ) → word_from_top (drop 1 words) i ≡ word_from_top words (suc i)
next_word [] i = refl
next_word (word ∷ words) i = refl

pub top_is : (words : List Word) → top_word words ≡ word_from_top words 0
top_is [] = refl
top_is (word ∷ words) = refl

module _ (image : Located) (table : Table) (most : ℕ) (rules : Ground image.regions) (fits : Fits (code_of image) table) (within : most ≤ image.regions.stack.length) where
  abbrev last : ℕ
  last = image.regions.stack.first + image.regions.stack.length

  -- a frame of the table at a place where there is room for it: so is there for its words
  pub has_height : (p : Procedure) (at base : ℕ) (g : StackFrame) → Has table p at g → HasRoom table most p base g.taken → 2 * (base + length g.words) ≤ most
  has_height p at base g has room =
      let fit = fits.frames p at has.frame has.there in
      let h = height (code_of image) table most p base has.frame fit.depth (subst (λ n. HasRoom table most p base n) (sym has.covers.counts.taken) room) in
      subst (λ n. 2 * (base + n) ≤ most) has.covers.counts.words h

  pub has_wants : (p : Procedure) (at : ℕ) (g : StackFrame) → Has table p at g → g.taken ≤ table.wants p
  has_wants p at g has = subst (λ n. n ≤ table.wants p) has.covers.counts.taken (fits.frames p at has.frame has.there).wants

  module _ (w : World) (s : Watched image table most w) where
    -- the stack is as it was, and the frame has the same words
    pub stays_there : (m : Machine) (to : ℕ) (g : StackFrame) → Has table s.procedure to g → m.cpu.pc ≡ to → m.cpu.sp ≡ w.machine.cpu.sp → StoresData image.regions w.machine.memory m.memory →
        SameFrame s.frame g → ((pair : FramePair) → pair_in g.pairs pair ≡ Own → pair_value m.cpu.registers pair ≡ s.place) → Arrives image table most m w.places s.procedure g s.base s.place
    stays_there m to g has pc sp stored_data same pairs =
        let room = has_height s.procedure to s.base g has (subst (λ n. HasRoom table most s.procedure s.base n) (sym same.taken) (chain_room table most last w.machine.memory s.procedure s.base s.frame.taken s.place w.places s.chain)) in
        let high : 2 * (s.base + length g.words) ≤ image.regions.stack.length = omega (arith, room, within) in
        let words = data_keeps_words image.regions (s.base + length g.words) w.machine.memory m.memory rules high stored_data in
        record {
          has = subst (λ a. Has table s.procedure a g) (sym pc) has;
          pointer = sp ∙ s.pointer ∙ ap (λ ws. pointer last (s.base + length ws)) (sym same.words);
          words = λ i own.
              words.same (s.base + length g.words - suc i) (let less = in_words g.words i own in omega (arith, less))
              ∙ subst (λ (ws : List Word). stack_word w.machine.memory last (s.base + length ws - suc i) ≡ s.place) (sym same.words) (s.words i (subst (λ (ws : List Word). word_from_top ws i ≡ Own) same.words own));
          pairs = pairs;
          chain = subst (λ n. Chain table most last m.memory s.procedure s.base n s.place w.places) (sym same.taken)
              (chain_kept table most last w.machine.memory m.memory s.procedure s.base s.frame.taken s.place w.places
              (record { same = λ k less. words.same k (omega (arith, less)) }) s.chain);
          code = data_keeps_code image.regions (memory_of image.chunks) w.machine.memory m.memory rules stored_data s.code;
          size = stored_data.size ∙ s.size;
        }

    -- a word is pushed
    pub pushes : (m : Machine) (to high low : ℕ) (above : Word) (g : StackFrame) → Has table s.procedure to g → g ≡ pushed above s.frame → m.cpu.pc ≡ to → m.cpu.sp ≡ behind w.machine.cpu.sp 2 →
        m.memory ≡ stored w.machine.memory (push_bytes w.machine.cpu.sp high low) → m.cpu.registers ≡ w.machine.cpu.registers → (above ≡ Own → word high low ≡ s.place) →
        Arrives image table most m w.places s.procedure g s.base s.place
    pushes m to high low above g has is pc sp memory registers brings = subst (λ (x : StackFrame). Arrives image table most m w.places s.procedure x s.base s.place) (sym is) (record {
      has = subst (λ a. Has table s.procedure a (pushed above s.frame)) (sym pc) there;
      pointer = sp ∙ ap (λ n. behind n 2) s.pointer ∙ after_push last (s.base + length s.frame.words) room_here top ∙ ap (pointer last) count;
      words = words;
      pairs = λ pair own. ap (λ r. pair_value r pair) registers ∙ s.pairs pair own;
      chain = chain_kept table most last w.machine.memory m.memory s.procedure s.base s.frame.taken s.place w.places
          (record { same = λ k less. written_there.below.same k (omega (arith, less)) }) s.chain;
      code = word_keeps_code image.regions (s.base + length s.frame.words) high low (memory_of image.chunks) w.machine.memory m.memory rules (omega (arith, room_here, high_enough, within)) written_there s.code;
      size = written_there.size ∙ s.size;
    })
      where
        there : Has table s.procedure to (pushed above s.frame)
        there = subst (λ (x : StackFrame). Has table s.procedure to x) is has

        high_enough : 2 * (s.base + suc (length s.frame.words)) ≤ most
        high_enough = has_height s.procedure to s.base (pushed above s.frame) there (chain_room table most last w.machine.memory s.procedure s.base s.frame.taken s.place w.places s.chain)

        top : last ≤ 65536
        top = stack_within image.regions rules

        room_here : 2 * (s.base + length s.frame.words) + 2 ≤ last
        room_here = omega (arith, high_enough, within)

        count : s.base + length s.frame.words + 1 ≡ s.base + suc (length s.frame.words)
        count = omega arith

        written_there : Written last (s.base + length s.frame.words) high low w.machine.memory m.memory
        written_there = subst (λ (x : List ℕ). Written last (s.base + length s.frame.words) high low w.machine.memory x) (sym memory)
            (word_pushed w.machine.memory last (s.base + length s.frame.words) w.machine.cpu.sp high low room_here top s.size s.pointer)

        words : (i : ℕ) → word_from_top (above ∷ s.frame.words) i ≡ Own → stack_word m.memory last (s.base + suc (length s.frame.words) - suc i) ≡ s.place
        words zero own = ap (stack_word m.memory last) (let e : s.base + suc (length s.frame.words) - 1 ≡ s.base + length s.frame.words = omega arith in e) ∙ written_there.there ∙ brings own
        words (suc i) own =
            let less = in_words s.frame.words i own in
            let e : s.base + suc (length s.frame.words) - suc (suc i) ≡ s.base + length s.frame.words - suc i = omega arith in
            ap (stack_word m.memory last) e ∙ written_there.below.same (s.base + length s.frame.words - suc i) (omega (arith, less)) ∙ s.words i own

    -- what lies under the words after a pop
    pub record PopsTo (taken : ℕ) : Type 0 where
      pub below : ℕ
      pub level : below + length (drop 1 s.frame.words) + 1 ≡ s.base + length s.frame.words
      pub chain : Chain table most last w.machine.memory s.procedure below taken s.place w.places

    pub pops_to : (s.frame.words ≡ [] → s.procedure ≢ Main) → taken_after_pop s.frame.words s.frame.taken ≤ table.wants s.procedure → PopsTo (taken_after_pop s.frame.words s.frame.taken)
    pops_to called enough = by s.frame.words refl called enough
      where
        by : (ws : List Word) → s.frame.words ≡ ws → (ws ≡ [] → s.procedure ≢ Main) → taken_after_pop ws s.frame.taken ≤ table.wants s.procedure → PopsTo (taken_after_pop ws s.frame.taken)
        by [] e called enough =
            let one = takes_one table most last w.machine.memory s.procedure s.base s.frame.taken s.place w.places (called refl) enough s.chain in
            let none : length s.frame.words ≡ 0 = ap length e in
            let dropped : length (drop 1 s.frame.words) ≡ 0 = ap (λ (ws : List Word). length (drop 1 ws)) e in
            record { below = one.below; level = (let l = one.level in omega (arith, l, none, dropped)); chain = one.chain }
        by (word ∷ ws) e called enough =
            let many : length s.frame.words ≡ suc (length ws) = ap length e in
            let dropped : length (drop 1 s.frame.words) ≡ length ws = ap (λ (xs : List Word). length (drop 1 xs)) e in
            record { below = s.base; level = omega (arith, many, dropped); chain = s.chain }

    -- the room of the words before
    pub here_height : 2 * (s.base + length s.frame.words) ≤ most
    here_height =
        height (code_of image) table most s.procedure s.base s.frame (fits.frames s.procedure w.machine.cpu.pc s.frame s.there).depth
        (chain_room table most last w.machine.memory s.procedure s.base s.frame.taken s.place w.places s.chain)

    -- a word is popped
    pub pops : (m : Machine) (to : ℕ) (g : StackFrame) → Has table s.procedure to g → (l : PopsTo g.taken) → g.words ≡ drop 1 s.frame.words → m.cpu.pc ≡ to → m.cpu.sp ≡ ahead w.machine.cpu.sp 2 →
        m.memory ≡ w.machine.memory → ((pair : FramePair) → pair_in g.pairs pair ≡ Own → pair_value m.cpu.registers pair ≡ s.place) →
        Arrives image table most m w.places s.procedure g l.below s.place
    pops m to g has l words pc sp memory pairs =
        let high = here_height in
        let level = l.level in
        let many : length g.words ≡ length (drop 1 s.frame.words) = ap length words in
        let n : ℕ = l.below + length g.words in
        let at : s.base + length s.frame.words ≡ n + 1 = omega (arith, level, many) in
        record {
          has = subst (λ a. Has table s.procedure a g) (sym pc) has;
          pointer = sp ∙ ap (λ x. ahead x 2) (s.pointer ∙ ap (pointer last) at) ∙ after_pop last n (omega (arith, high, within, at)) (stack_within image.regions rules);
          words = λ i own.
              let e : n - suc i ≡ s.base + length s.frame.words - suc (suc i) = omega (arith, at) in
              ap (λ (x : List ℕ). stack_word x last (n - suc i)) memory
              ∙ ap (stack_word w.machine.memory last) e
              ∙ s.words (suc i) (sym (next_word s.frame.words i) ∙ subst (λ (ws : List Word). word_from_top ws i ≡ Own) words own);
          pairs = pairs;
          chain = subst (λ (x : List ℕ). Chain table most last x s.procedure l.below g.taken s.place w.places) (sym memory) l.chain;
          code = subst (λ (x : List ℕ). SameCode image.regions (memory_of image.chunks) x) (sym memory) s.code;
          size = ap length memory ∙ s.size;
        }

    -- the word that a pop reads
    pub popped_word : (l : PopsTo (taken_after_pop s.frame.words s.frame.taken)) → word_from_top s.frame.words 0 ≡ Own → word_in w.machine.memory w.machine.cpu.sp ≡ s.place
    popped_word l own =
        let high = here_height in
        let level = l.level in
        let n : ℕ = l.below + length (drop 1 s.frame.words) in
        let at : s.base + length s.frame.words ≡ n + 1 = sym level in
        let e : s.base + length s.frame.words - 1 ≡ n = omega (arith, at) in
        ap (word_in w.machine.memory) (s.pointer ∙ ap (pointer last) at)
        ∙ word_on_top w.machine.memory last n (omega (arith, high, within, at)) (stack_within image.regions rules)
        ∙ ap (stack_word w.machine.memory last) (sym e) ∙ s.words 0 own

    -- the word on top changes places with HL
    pub swaps : (m : Machine) (to high low : ℕ) (above : Word) (g : StackFrame) → Has table s.procedure to g → (l : PopsTo g.taken) → g.words ≡ above ∷ drop 1 s.frame.words → m.cpu.pc ≡ to → m.cpu.sp ≡ w.machine.cpu.sp →
        m.memory ≡ stored w.machine.memory ((w.machine.cpu.sp, low) ∷ (ahead w.machine.cpu.sp 1, high) ∷ []) → (above ≡ Own → word high low ≡ s.place) →
        ((pair : FramePair) → pair_in g.pairs pair ≡ Own → pair_value m.cpu.registers pair ≡ s.place) → Arrives image table most m w.places s.procedure g l.below s.place
    swaps m to high low above g has l words pc sp memory brings pairs =
        let tall = here_height in
        let level = l.level in
        let n : ℕ = l.below + length (drop 1 s.frame.words) in
        let at : s.base + length s.frame.words ≡ n + 1 = sym level in
        let many : length g.words ≡ suc (length (drop 1 s.frame.words)) = ap length words in
        let written_there : Written last n high low w.machine.memory m.memory =
        subst (λ (x : List ℕ). Written last n high low w.machine.memory x) (sym memory)
        (word_swapped w.machine.memory last n w.machine.cpu.sp high low (omega (arith, tall, within, at)) (stack_within image.regions rules) s.size (s.pointer ∙ ap (pointer last) at)) in
        record {
          has = subst (λ a. Has table s.procedure a g) (sym pc) has;
          pointer = sp ∙ s.pointer ∙ ap (pointer last) (let e : s.base + length s.frame.words ≡ l.below + length g.words = omega (arith, at, many) in e);
          words = λ i own. by written_there at many i (subst (λ (ws : List Word). word_from_top ws i ≡ Own) words own);
          pairs = pairs;
          chain = chain_kept table most last w.machine.memory m.memory s.procedure l.below g.taken s.place w.places
              (record { same = λ k less. written_there.below.same k (omega (arith, less)) }) l.chain;
          code = word_keeps_code image.regions n high low (memory_of image.chunks) w.machine.memory m.memory rules (omega (arith, tall, within, at)) written_there s.code;
          size = written_there.size ∙ s.size;
        }
      where
        by : Written last (l.below + length (drop 1 s.frame.words)) high low w.machine.memory m.memory → s.base + length s.frame.words ≡ l.below + length (drop 1 s.frame.words) + 1 →
            length g.words ≡ suc (length (drop 1 s.frame.words)) → (i : ℕ) → word_from_top (above ∷ drop 1 s.frame.words) i ≡ Own → stack_word m.memory last (l.below + length g.words - suc i) ≡ s.place
        by written_there at many zero own =
            ap (stack_word m.memory last) (let e : l.below + length g.words - 1 ≡ l.below + length (drop 1 s.frame.words) = omega (arith, many) in e) ∙ written_there.there ∙ brings own
        by written_there at many (suc i) own =
            let less = in_words (drop 1 s.frame.words) i own in
            let e : l.below + length g.words - suc (suc i) ≡ s.base + length s.frame.words - suc (suc i) = omega (arith, many, at) in
            ap (stack_word m.memory last) e
            ∙ written_there.below.same (s.base + length s.frame.words - suc (suc i)) (omega (arith, at, less))
            ∙ s.words (suc i) (sym (next_word s.frame.words i) ∙ own)

    -- a procedure is called
    pub calls_there : (m : Machine) (to next : ℕ) → CallFits (code_of image) table s.procedure next s.frame to → m.cpu.pc ≡ to → m.cpu.sp ≡ behind w.machine.cpu.sp 2 →
        m.memory ≡ stored w.machine.memory (push_bytes w.machine.cpu.sp (next / 256) (next % 256)) →
        Arrives image table most m (next ∷ w.places) (Entry to) entry_frame (s.base + length s.frame.words) next
    calls_there m to next fit pc sp memory = record {
      has = subst (λ a. Has table (Entry to) a entry_frame) (sym pc) fit.enters;
      pointer = sp ∙ ap (λ n. behind n 2) s.pointer ∙ after_push last (s.base + length s.frame.words) room_here top;
      words = words;
      pairs = λ pair own. absurd (none_known pair own);
      chain = in_call (Entry to) (s.base + length s.frame.words) 0 next (next ∷ w.places) s.procedure s.base s.place w.places s.frame (record {
        entry = to;
        procedure = refl;
        level = omega arith;
        wanted = (let r = room_below (role_of (code_of image) s.procedure) s.frame.words in let f = fit.words in omega (arith, r, f));
        few = omega arith;
        back = fit.after;
        kept = λ i from own.
            written_there.below.same (s.base + length s.frame.words - suc i) (let less = in_words s.frame.words i own in omega (arith, less)) ∙ s.words i own;
        newest = refl;
      }) room_there
          (chain_kept table most last w.machine.memory m.memory s.procedure s.base s.frame.taken s.place w.places
          (record { same = λ k less. written_there.below.same k (omega (arith, less)) }) s.chain);
      code = word_keeps_code image.regions (s.base + length s.frame.words) (next / 256) (next % 256) (memory_of image.chunks) w.machine.memory m.memory rules (omega (arith, fits_there, within)) written_there s.code;
      size = written_there.size ∙ s.size;
    }
      where
        room_there : HasRoom table most (Entry to) (s.base + length s.frame.words) 0
        room_there = callee_room (code_of image) table most s.procedure s.base s.frame to fit.bytes (chain_room table most last w.machine.memory s.procedure s.base s.frame.taken s.place w.places s.chain)

        fits_there : 2 * (s.base + length s.frame.words) + 2 ≤ most
        fits_there = let r = room_there.fits in omega (arith, r)

        top : last ≤ 65536
        top = stack_within image.regions rules

        room_here : 2 * (s.base + length s.frame.words) + 2 ≤ last
        room_here = omega (arith, fits_there, within)

        written_there : Written last (s.base + length s.frame.words) (next / 256) (next % 256) w.machine.memory m.memory
        written_there = subst (λ (x : List ℕ). Written last (s.base + length s.frame.words) (next / 256) (next % 256) w.machine.memory x) (sym memory)
            (word_pushed w.machine.memory last (s.base + length s.frame.words) w.machine.cpu.sp (next / 256) (next % 256) room_here top s.size s.pointer)

        words : (i : ℕ) → word_from_top (Own ∷ []) i ≡ Own → stack_word m.memory last (s.base + length s.frame.words + 1 - suc i) ≡ next
        words zero own =
            ap (stack_word m.memory last) (let e : s.base + length s.frame.words + 1 - 1 ≡ s.base + length s.frame.words = omega arith in e) ∙ written_there.there
            ∙ (let e : 256 * (next / 256) + next % 256 ≡ next = omega arith in e)
        words (suc i) own = absurd (let e : Any ≡ Own = own in cc)

        none_known : (pair : FramePair) → pair_in unknown pair ≡ Own → ⊥
        none_known Bc own = let e : Any ≡ Own = own in cc
        none_known De own = let e : Any ≡ Own = own in cc
        none_known Hl own = let e : Any ≡ Own = own in cc

        room_below : (role : Role) (ws : List Word) → room role ws ≤ length ws
        room_below (MainRole _) ws = omega arith
        room_below EntryRole ws = omega arith

    -- the bytes that a push, a call, a pop and a return touch
    pub touches_push : 2 * (s.base + length s.frame.words) + 2 ≤ most → Touches image.regions.stack most (pushed_bytes w.machine.cpu.sp)
    touches_push high = touches_pushed image.regions.stack most (s.base + length s.frame.words) w.machine.cpu.sp (stack_within image.regions rules) high within s.pointer

    pub touches_pop : (n : ℕ) → s.base + length s.frame.words ≡ n + 1 → Touches image.regions.stack most (popped_bytes w.machine.cpu.sp)
    touches_pop n at =
        let high = here_height in
        touches_popped image.regions.stack most n w.machine.cpu.sp (stack_within image.regions rules) (omega (arith, high, at)) within (s.pointer ∙ ap (pointer last) at)

  -- a procedure returns to its newest open call
  pub record ReturnsTo (m : Machine) (place : ℕ) (places : List ℕ) : Type 0 where
    pub older : List ℕ
    pub newest : places ≡ place ∷ older
    pub watched : Watched image table most (record { machine = m; places = older })

  pub returns_to : (laws : ReturnsByPlaces) (m : Machine) (p : Procedure) (base taken place : ℕ) (places : List ℕ) → Chain table most last m.memory p base taken place places → p ≢ Main →
      table.takes p ≡ Some taken → m.cpu.pc ≡ place → m.cpu.sp ≡ pointer last base → SameCode image.regions (memory_of image.chunks) m.memory → length m.memory ≡ 65536 → ReturnsTo m place places
  returns_to laws m p base taken place places (in_main _ _ _ _ _ at room) called takes pc sp code size = absurd (called at.procedure)
  returns_to laws m p base taken place places (in_call _ _ _ _ _ q base_there place_there older h u room rest) called takes pc sp code size =
      let dropped : length (drop taken h.words) ≡ length h.words - taken = length-drop taken h.words in
      record {
        older = older;
        newest = u.newest;
        watched = arrived image table most m older q (returned taken h) base_there place_there (record {
          has = subst (λ a. Has table q a (returned taken h)) (sym pc) (u.back taken takes);
          pointer = sp ∙ ap (pointer last) (let l = u.level in let f = u.few in let e : base ≡ base_there + length (drop taken h.words) = omega (arith, l, f, dropped) in e);
          words = λ i own.
              let e : base_there + length (drop taken h.words) - suc i ≡ base_there + length h.words - suc (taken + i) = (let f = u.few in omega (arith, f, dropped)) in
              ap (stack_word m.memory last) e ∙ u.kept (taken + i) (omega arith) (sym (laws taken h (InWord i)) ∙ own);
          pairs = λ pair own. absurd (none_known pair own);
          chain = rest;
          code = code;
          size = size;
        });
      }
    where
      none_known : (pair : FramePair) → pair_in unknown pair ≡ Own → ⊥
      none_known Bc own = let e : Any ≡ Own = own in cc
      none_known De own = let e : Any ≡ Own = own in cc
      none_known Hl own = let e : Any ≡ Own = own in cc
