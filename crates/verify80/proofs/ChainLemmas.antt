-- The open calls of a run, and a world whose stack is as the table of frames says.
use Rattle.std.specs.Prelude.{◌≡◌, ◌≢◌, ℕ, zero, suc, ◌+◌, ◌-◌, ◌*◌, ◌<◌, ◌≤◌, pos, ◌+ℤ◌, ◌*ℤ◌, ◌-ℤ◌, ◌≤ℤ◌, List, [], ◌∷◌, Some, length}
use Rattle.std.proofs.Common.{◌∙◌, ap, sym, subst, arith}
use Rattle.std.proofs.lemmas.Int.{ints}
use Rattle.frames80.specs.declared.word.Word.{Word}
use Rattle.frames80.specs.declared.word.Word.TheVariants.{Own, Any}
use Rattle.frames80.specs.declared.frame_pair.FramePair.{FramePair}
use Rattle.frames80.specs.StackFrame.{StackFrame, pair_in}
use Rattle.frames80.specs.Calls.{room, returned, depth_of}
use Rattle.frames80.specs.Places.{InPair, InWord, word_from_top}
use Rattle.image80.specs.Image.{Located, memory_of}
use Rattle.machine80.specs.Step.{Machine}
use Rattle.machine80.specs.World.{World}
use Rattle.frames80.specs.declared.procedure.Procedure.{Procedure}
use Rattle.frames80.specs.declared.procedure.Procedure.TheVariants.{Main, Entry}
use Rattle.frames80.specs.Code.{Code, role_of}
use Rattle.verify80_flow.specs.Fitting.{Table, Has}
use Rattle.verify80.proofs.StackLemmas.{pointer, stack_word, SameWords}
use Rattle.verify80.proofs.StoreLemmas.{SameCode}
use Rattle.verify80.proofs.PairLemmas.{pair_value}

-- the bytes of a procedure's own return address
abbrev pub return_bytes : Procedure → ℕ
return_bytes Main = 0
return_bytes (Entry _) = 2

-- below a procedure's words there are a given number, it has taken a given number, and there is room for what it needs
pub record HasRoom (table : Table) (most : ℕ) (p : Procedure) (base taken : ℕ) : Type 0 where
  pub fits : 2 * (base + taken) + return_bytes p + table.bound p ≤ most

pub record AtMain (p : Procedure) (base : ℕ) (places : List ℕ) : Type 0 where
  pub procedure : p ≡ Main
  pub ground : base ≡ 0
  pub none : places ≡ []

-- a procedure was called with this frame of its caller, has taken a given number of the caller's words, and returns to the place; the
-- caller's other words are there
pub record UnderCall (table : Table) (last : ℕ) (memory : List ℕ) (p : Procedure) (base taken place : ℕ) (places : List ℕ) (q : Procedure) (base_there place_there : ℕ) (older : List ℕ) (h : StackFrame) : Type 0 where
  pub entry : ℕ
  pub procedure : p ≡ Entry entry
  pub level : base + taken ≡ base_there + length h.words
  pub wanted : table.wants p ≤ length h.words
  pub few : taken ≤ length h.words
  pub back : (count : ℕ) → table.takes p ≡ Some count → Has table q place (returned count h)
  pub kept : (i : ℕ) → taken ≤ i → word_from_top h.words i ≡ Own → stack_word memory last (base_there + length h.words - suc i) ≡ place_there
  pub newest : places ≡ place ∷ older

-- the open calls: of a procedure with a given number of words below its own, and a given number taken, that returns to the place
pub data Chain (table : Table) (most last : ℕ) (memory : List ℕ) : Procedure → (base taken place : ℕ) → List ℕ → Type 0 where
  in_main : (p : Procedure) (base taken place : ℕ) (places : List ℕ) → AtMain p base places → HasRoom table most p base taken → Chain table most last memory p base taken place places
  in_call : (p : Procedure) (base taken place : ℕ) (places : List ℕ) (q : Procedure) (base_there place_there : ℕ) (older : List ℕ) (h : StackFrame) →
      UnderCall table last memory p base taken place places q base_there place_there older h → HasRoom table most p base taken →
      Chain table most last memory q base_there h.taken place_there older → Chain table most last memory p base taken place places

pub chain_room : (table : Table) (most last : ℕ) (memory : List ℕ) (p : Procedure) (base taken place : ℕ) (places : List ℕ) → Chain table most last memory p base taken place places → HasRoom table most p base taken
chain_room table most last memory p base taken place places (in_main _ _ _ _ _ at room) = room
chain_room table most last memory p base taken place places (in_call _ _ _ _ _ q base_there place_there older h under room rest) = room

-- the words of a frame that is deep enough find room

entry_enough : (words taken bound base most : ℕ) → (pos 2 *ℤ ((pos words -ℤ pos 1) -ℤ pos taken)) ≤ℤ pos bound → 2 * (base + taken) + 2 + bound ≤ most → 2 * (base + words) ≤ most
entry_enough words taken bound base most deep fits = omega (arith, ints)

main_enough : (words taken bound base most : ℕ) → pos (2 * words) ≤ℤ pos bound → 2 * (base + taken) + 0 + bound ≤ most → 2 * (base + words) ≤ most
main_enough words taken bound base most deep fits = omega (arith, ints)

pub height : (code : Code) (table : Table) (most : ℕ) (p : Procedure) (base : ℕ) (f : StackFrame) → depth_of (role_of code p) f ≤ℤ pos (table.bound p) → HasRoom table most p base f.taken → 2 * (base + length f.words) ≤ most
height code table most Main base f deep room = main_enough (length f.words) f.taken (table.bound Main) base most deep room.fits
height code table most (Entry entry) base f deep room = entry_enough (length f.words) f.taken (table.bound (Entry entry)) base most deep room.fits

-- and so does a callee
entry_room : (words taken bound below base most : ℕ) → (((pos 2 *ℤ ((pos words -ℤ pos 1) -ℤ pos taken)) +ℤ pos 2) +ℤ pos below) ≤ℤ pos bound → 2 * (base + taken) + 2 + bound ≤ most → 2 * ((base + words) + 0) + 2 + below ≤ most
entry_room words taken bound below base most deep fits = omega (arith, ints)

main_room : (words taken bound below base most : ℕ) → ((pos (2 * words) +ℤ pos 2) +ℤ pos below) ≤ℤ pos bound → 2 * (base + taken) + 0 + bound ≤ most → 2 * ((base + words) + 0) + 2 + below ≤ most
main_room words taken bound below base most deep fits = omega (arith, ints)

pub callee_room : (code : Code) (table : Table) (most : ℕ) (p : Procedure) (base : ℕ) (f : StackFrame) (target : ℕ) → ((depth_of (role_of code p) f +ℤ pos 2) +ℤ pos (table.bound (Entry target))) ≤ℤ pos (table.bound p) →
    HasRoom table most p base f.taken → HasRoom table most (Entry target) (base + length f.words) 0
callee_room code table most Main base f target deep room = record { fits = main_room (length f.words) f.taken (table.bound Main) (table.bound (Entry target)) base most deep room.fits }
callee_room code table most (Entry entry) base f target deep room = record { fits = entry_room (length f.words) f.taken (table.bound (Entry entry)) (table.bound (Entry target)) base most deep room.fits }

-- the open calls are as they were where the words below are
pub chain_kept : (table : Table) (most last : ℕ) (memory memory' : List ℕ) (p : Procedure) (base taken place : ℕ) (places : List ℕ) → SameWords last base memory memory' →
    Chain table most last memory p base taken place places → Chain table most last memory' p base taken place places
chain_kept table most last memory memory' p base taken place places same (in_main _ _ _ _ _ at room) = in_main p base taken place places at room
chain_kept table most last memory memory' p base taken place places same (in_call _ _ _ _ _ q base_there place_there older h u room rest) =
    in_call p base taken place places q base_there place_there older h (record {
      entry = u.entry;
      procedure = u.procedure;
      level = u.level;
      wanted = u.wanted;
      few = u.few;
      back = u.back;
      kept = λ i from own. same.same (base_there + length h.words - suc i) (let l = u.level in let n = in_words h.words i own in omega (arith, l, n, from)) ∙ u.kept i from own;
      newest = u.newest;
    }) room
    (chain_kept table most last memory memory' q base_there h.taken place_there older
    (record { same = λ k less. same.same k (let l = u.level in let f = u.few in omega (arith, l, f, less)) }) rest)
  where
    in_words : (words : List Word) (i : ℕ) → word_from_top words i ≡ Own → i < length words
    in_words [] i own = absurd (let e : Any ≡ Own = own in cc)
    in_words (word ∷ words) zero own = omega arith
    in_words (word ∷ words) (suc i) own = let less = in_words words i own in omega (arith, less)

-- a procedure takes one more of its caller's words
pub record TakesOne (table : Table) (most last : ℕ) (memory : List ℕ) (p : Procedure) (base taken place : ℕ) (places : List ℕ) : Type 0 where
  pub below : ℕ
  pub level : base ≡ below + 1
  pub chain : Chain table most last memory p below (taken + 1) place places

pub takes_one : (table : Table) (most last : ℕ) (memory : List ℕ) (p : Procedure) (base taken place : ℕ) (places : List ℕ) → p ≢ Main → taken + 1 ≤ table.wants p →
    Chain table most last memory p base taken place places → TakesOne table most last memory p base taken place places
takes_one table most last memory p base taken place places called enough (in_main _ _ _ _ _ at room) = absurd (called at.procedure)
takes_one table most last memory p base taken place places called enough (in_call _ _ _ _ _ q base_there place_there older h u room rest) =
    let l = u.level in
    let w = u.wanted in
    record {
      below = base - 1;
      level = omega (arith, l, w, enough);
      chain = in_call p (base - 1) (taken + 1) place places q base_there place_there older h (record {
        entry = u.entry;
        procedure = u.procedure;
        level = omega (arith, l, w, enough);
        wanted = u.wanted;
        few = omega (arith, w, enough);
        back = u.back;
        kept = λ i from own. u.kept i (omega (arith, from)) own;
        newest = u.newest;
      }) (record { fits = let r = room.fits in omega (arith, r, l, w, enough) }) rest;
    }

-- a world whose stack is as a frame of the table says
pub record Watched (image : Located) (table : Table) (most : ℕ) (w : World) : Type 0 where
  pub procedure : Procedure
  pub frame : StackFrame
  pub base : ℕ
  pub place : ℕ
  pub there : table.frame procedure w.machine.cpu.pc ≡ Some frame
  pub pointer : w.machine.cpu.sp ≡ pointer (image.regions.stack.first + image.regions.stack.length) (base + length frame.words)
  pub words : (i : ℕ) → word_from_top frame.words i ≡ Own → stack_word w.machine.memory (image.regions.stack.first + image.regions.stack.length) (base + length frame.words - suc i) ≡ place
  pub pairs : (pair : FramePair) → pair_in frame.pairs pair ≡ Own → pair_value w.machine.cpu.registers pair ≡ place
  pub chain : Chain table most (image.regions.stack.first + image.regions.stack.length) w.machine.memory procedure base frame.taken place w.places
  pub code : SameCode image.regions (memory_of image.chunks) w.machine.memory
  pub size : length w.machine.memory ≡ 65536

-- the same of a frame that one of the table covers
pub record Arrives (image : Located) (table : Table) (most : ℕ) (m : Machine) (places : List ℕ) (p : Procedure) (g : StackFrame) (base place : ℕ) : Type 0 where
  pub has : Has table p m.cpu.pc g
  pub pointer : m.cpu.sp ≡ pointer (image.regions.stack.first + image.regions.stack.length) (base + length g.words)
  pub words : (i : ℕ) → word_from_top g.words i ≡ Own → stack_word m.memory (image.regions.stack.first + image.regions.stack.length) (base + length g.words - suc i) ≡ place
  pub pairs : (pair : FramePair) → pair_in g.pairs pair ≡ Own → pair_value m.cpu.registers pair ≡ place
  pub chain : Chain table most (image.regions.stack.first + image.regions.stack.length) m.memory p base g.taken place places
  pub code : SameCode image.regions (memory_of image.chunks) m.memory
  pub size : length m.memory ≡ 65536

pub arrived : (image : Located) (table : Table) (most : ℕ) (m : Machine) (places : List ℕ) (p : Procedure) (g : StackFrame) (base place : ℕ) → Arrives image table most m places p g base place →
    Watched image table most (record { machine = m; places = places })
arrived image table most m places p g base place a =
    let last = image.regions.stack.first + image.regions.stack.length in
    let f = a.has.frame in
    let many : length g.words ≡ length f.words = sym a.has.covers.counts.words in
    record {
      procedure = p;
      frame = f;
      base = base;
      place = place;
      there = a.has.there;
      pointer = a.pointer ∙ ap (λ n. pointer last (base + n)) many;
      words = λ i own. subst (λ n. stack_word m.memory last (base + n - suc i) ≡ place) many (a.words i (a.has.covers.own (InWord i) own));
      pairs = λ pair own. a.pairs pair (a.has.covers.own (InPair pair) own);
      chain = subst (λ n. Chain table most last m.memory p base n place places) (sym a.has.covers.counts.taken) a.chain;
      code = a.code;
      size = a.size;
    }
