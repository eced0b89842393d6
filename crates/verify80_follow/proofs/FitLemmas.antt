-- What a look at an address says of the instruction there.
use Rattle.std.specs.Prelude.{◌≡◌, ℕ, Bool, true, false, List, [], ◌∷◌, zero, suc, All, Contains, length, map, ◌<◌, ◌≤◌, Option, None, Some, Result, Ok, Err, IfOk, IfSome, slice_get}
use Rattle.std.proofs.Common.{ap, arith, get_or, subst, sym, true≢false, ◌∙◌}
use Rattle.std.proofs.lemmas.List.Elements.{All-cons, All-contains, All-map, All-nil, Contains-append_left, Contains-append_right}
use Rattle.decode80.specs.{Facts.flow, declared.fetching.Fetched.Fetched}
use Rattle.decode80.specs.declared.flow.Flow.TheVariants.{JumpsToHl}
use Rattle.decode80.specs.declared.instr.Instr.TheVariants.{Ei, Pchl}
use Rattle.frames80.specs.declared.code.LookFault.TheVariants.{EnablesInterrupts, Pchl as PchlUndeclared}
use Rattle.image80.specs.{Image.Located, Image.memory_of, Regions.Areas}
use Rattle.machine80.specs.{Step.Machine, World.World}
use Rattle.verify80_states.specs.QuietBoards.{OnQuietBoard, begins, disturbed, executed as executed_quiet}
use Rattle.verify80.specs.{Looking.is_declared, Looking.look_at, Looking.stores_in_data}
use Rattle.verify80.specs.LookLaws.{IsEiAlone, IsPchlUndeclared, LooksAnswerFaultsThatHold, LooksFindWhatIsAdmitted, fetch_at}
use Rattle.verify80_follow.specs.declared.{fit.Table.Table, followed.FollowedState.FollowedState, followed.Listed.Listed, followed.Way.Way, handling.Handler.Handler}
use Rattle.verify80_follow.specs.{Follows.IsExecuted, Promise.IsLeftOpenAt, Promise.PromiseOf}
use Rattle.verify80_follow.specs.{Handling.HandlesAmong, Handling.IsHandled, Reaching.places_of, Tables.AreFit, Tables.IsFit}
use Rattle.verify80_follow.specs.Live.{Enable, HandlerBounds, KeepsLive, OnLiveBoard, PromiseOfLive, begins as begins_live}
use Rattle.verify80_follow.specs.Live.{disturbed as disturbed_live, executed as executed_live, handler_ways, interrupted as interrupted_live}
use Rattle.verify80_follow.specs.InterruptedBoards.{OnInterruptedBoard, begins as begins_interrupted, disturbed as disturbed_interrupted, executed as executed_interrupted, woken}
use Rattle.verify80_follow.specs.Follows.{ways_of}
use Rattle.verify80_follow.proofs.{FollowLemmas.is_pchl, PlaceLemmas.handler_placed}

-- what a value says, if there is one
pub some_maps : {A : Type 0} (o : Option A) (P Q : A → Type 0) → ((x : A) → P x → Q x) → IfSome o P → IfSome o Q
some_maps (Some x) P Q more holds = more x holds
some_maps None P Q more holds = tt

-- what an answer says, if there is one
pub ok_maps : {A E : Type 0} (r : Result A E) (P Q : A → Type 0) → ((x : A) → P x → Q x) → IfOk r P → IfOk r Q
ok_maps (Ok x) P Q more holds = more x holds
ok_maps (Err e) P Q more holds = tt

pub executed : (image : Located) (interrupted : Bool) (at : ℕ) (found : Fetched) → LooksFindWhatIsAdmitted → look_at image.regions (memory_of image.chunks) at ≡ Ok found → IsExecuted image interrupted at found
executed image interrupted at found law is = let admitted = (law image.regions (memory_of image.chunks) at found).0 is in record { fetched = admitted.fetched; stores = admitted.stores; halts = λ off. admitted.halts }

pub declared : (image : Located) (at : ℕ) (found : Fetched) → LooksFindWhatIsAdmitted → look_at image.regions (memory_of image.chunks) at ≡ Ok found → flow found.instr ≡ JumpsToHl → is_declared image.regions at ≡ true
declared image at found law is jumps = let admitted = (law image.regions (memory_of image.chunks) at found).0 is in admitted.declared (is_pchl found.instr jumps)

module _ (image : Located) (at : ℕ) (found : Fetched) (law : LooksAnswerFaultsThatHold) (fault : look_at image.regions (memory_of image.chunks) at ≡ Err PchlUndeclared) (fetched : fetch_at image.regions (memory_of image.chunks) at ≡ Ok found) where
  holds : IsPchlUndeclared image.regions (memory_of image.chunks) at
  holds = (law image.regions (memory_of image.chunks) at PchlUndeclared).0 fault

  is_it : found.instr ≡ Pchl
  is_it = let same : found ≡ holds.found = (let it = holds.fetched in cc) in ap (λ (f : Fetched). f.instr) same ∙ holds.is_pchl

  pub undeclared : flow found.instr ≡ JumpsToHl → is_declared image.regions at ≡ false
  undeclared jumps = holds.undeclared

  pub executed_pchl : (interrupted : Bool) → IsExecuted image interrupted at found
  executed_pchl interrupted = record { fetched = fetched; stores = ap (λ i. stores_in_data image.regions i) is_it; halts = λ off ei. absurd (let it = is_it in cc) }

module _ (image : Located) (at : ℕ) (found : Fetched) (law : LooksAnswerFaultsThatHold) (fault : look_at image.regions (memory_of image.chunks) at ≡ Err EnablesInterrupts) (fetched : fetch_at image.regions (memory_of image.chunks) at ≡ Ok found) where
  lets : IsEiAlone image.regions (memory_of image.chunks) at
  lets = (law image.regions (memory_of image.chunks) at EnablesInterrupts).0 fault

  is_ei : found.instr ≡ Ei
  is_ei = let same : found ≡ lets.found = (let it = lets.fetched in cc) in ap (λ (f : Fetched). f.instr) same ∙ lets.is_ei

  pub executed_ei : (interrupted : Bool) → interrupted ≡ true → IsExecuted image interrupted at found
  executed_ei interrupted on = record { fetched = fetched; stores = ap (λ i. stores_in_data image.regions i) is_ei; halts = λ off. absurd (true≢false (sym on ∙ off)) }

  pub no_jump : flow found.instr ≡ JumpsToHl → is_declared image.regions at ≡ true
  no_jump jumps = absurd (let it = is_ei in let here : flow Ei ≡ JumpsToHl = sym (ap flow is_ei) ∙ jumps in cc)

-- where a list has what it contains
pub at_place : (xs : List ℕ) (x : ℕ) → (has : Contains xs x) → slice_get xs has.0 ≡ Some x
at_place [] x (k, inside, same) = absurd (omega (arith, inside))
at_place (y ∷ ys) x (zero, inside, same) = ap (λ (n : ℕ). Some n) same
at_place (y ∷ ys) x (suc k, inside, same) = at_place ys x (k, omega (arith, inside), same)

-- a board that leaves more addresses alone is one that leaves these alone
quieter : (regions : Areas) (quiet more : ℕ → Bool) (listed : ℕ → Type 0) (start : Machine) (began : Bool) → ((at : ℕ) → quiet at ≡ true → more at ≡ true) → (set : Bool) (w : World) →
    OnQuietBoard regions more listed start began set w → OnQuietBoard regions quiet listed start began set w
quieter regions quiet more listed start began inside set w (begins _ _ is same) = begins set w is same
quieter regions quiet more listed start began inside set w (disturbed _ v _ on by stays) = disturbed set v w (quieter regions quiet more listed start began inside set v on) by (λ at is. stays at (inside at is))
quieter regions quiet more listed start began inside set w (executed_quiet before _ v _ on by is) = executed_quiet before set v w (quieter regions quiet more listed start began inside before v on) by is

-- and so is one on which a program is interrupted
quieter_interrupted : (regions : Areas) (quiet more : ℕ → Bool) (listed : ℕ → Type 0) (start : Machine) (began : Bool) → ((at : ℕ) → quiet at ≡ true → more at ≡ true) → (set enabled : Bool) (w : World) →
    OnInterruptedBoard regions more listed start began set enabled w → OnInterruptedBoard regions quiet listed start began set enabled w
quieter_interrupted regions quiet more listed start began inside set enabled w (begins_interrupted _ _ _ is same off) = begins_interrupted set enabled w is same off
quieter_interrupted regions quiet more listed start began inside set enabled w (disturbed_interrupted _ _ v _ on by stays) =
    disturbed_interrupted set enabled v w (quieter_interrupted regions quiet more listed start began inside set enabled v on) by (λ at is. stays at (inside at is))
quieter_interrupted regions quiet more listed start began inside set enabled w (executed_interrupted before _ may _ v _ on by is after) =
    executed_interrupted before set may enabled v w (quieter_interrupted regions quiet more listed start began inside before may v on) by is after
quieter_interrupted regions quiet more listed start began inside set enabled w (woken _ _ v _ on may by) = woken set enabled v w (quieter_interrupted regions quiet more listed start began inside set enabled v on) may by

pub promise_of_more : (interrupted : Bool) (image : Located) (quiet more : ℕ → Bool) (is_set : Bool) (places : List ℕ) (ways : List Way) (listed : Listed) (bytes : ℕ) → ((at : ℕ) → quiet at ≡ true → more at ≡ true) →
    PromiseOf interrupted image quiet is_set places ways listed bytes → PromiseOf interrupted image more is_set places ways listed bytes
promise_of_more false image quiet more is_set places ways listed bytes inside promise = λ start pc whole code holds top w set on.
    promise start pc whole code holds top w set (quieter image.regions quiet more (IsLeftOpenAt listed) start is_set inside set w on)
promise_of_more true image quiet more is_set places ways listed bytes inside promise = λ start pc whole code holds top w set enabled on.
    promise start pc whole code holds top w set enabled (quieter_interrupted image.regions quiet more (IsLeftOpenAt listed) start is_set inside set enabled w on)

-- and so is a live machine
quieter_live : (regions : Areas) (quiet more : ℕ → Bool) (handlers : List ℕ) (listed : ℕ → Type 0) (start : Machine) (began : Bool) → ((at : ℕ) → quiet at ≡ true → more at ≡ true) → (set : Bool) (flag : Enable) (under : Option World) (w : World) →
    OnLiveBoard regions more handlers listed start began set flag under w → OnLiveBoard regions quiet handlers listed start began set flag under w
quieter_live regions quiet more handlers listed start began inside set flag under w (begins_live _ _ _ _ is same off none) = begins_live set flag under w is same off none
quieter_live regions quiet more handlers listed start began inside set flag under w (disturbed_live _ _ _ v _ on by stays) =
    disturbed_live set flag under v w (quieter_live regions quiet more handlers listed start began inside set flag under v on) by (λ at is. stays at (inside at is))
quieter_live regions quiet more handlers listed start began inside set flag under w (executed_live before _ was _ inner _ v there _ on by is after left here) =
    executed_live before set was flag inner under v there w (quieter_live regions quiet more handlers listed start began inside before was inner v on) by is after left here
quieter_live regions quiet more handlers listed start began inside set flag under w (interrupted_live _ was _ _ v _ place handler on takes has is after left) =
    interrupted_live set was flag under v w place handler (quieter_live regions quiet more handlers listed start began inside set was None v on) takes has is after left

-- handlers write more data, if more is said to be written
pub live_of_more : (image : Located) (quiet more : ℕ → Bool) (is_set : Bool) (handlers places : List ℕ) (ways : List Way) (listed : Listed) (main : ℕ) (inner : HandlerBounds) (written : ℕ → Bool) → ((at : ℕ) → quiet at ≡ true → more at ≡ true) →
    ((at : ℕ) → inner.written at ≡ true → written at ≡ true) → PromiseOfLive image quiet is_set handlers places ways listed main inner → PromiseOfLive image more is_set handlers places ways listed main (record inner { written = written })
live_of_more image quiet more is_set handlers places ways listed main inner written inside wider promise start pc whole code holds top w set flag under on =
    let kept = promise start pc whole code holds top w set flag under (quieter_live image.regions quiet more handlers (IsLeftOpenAt listed) start is_set inside set flag under w on) in
    (kept.0, keeps_wider under kept.1) where
      keeps_wider : (under : Option World) → KeepsLive image handlers main inner (ways_of ways places) listed flag under w → KeepsLive image handlers main (record inner { written = written }) (ways_of ways places) listed flag under w
      keeps_wider None keeps = record { keeps = keeps.keeps; pushes = keeps.pushes }
      keeps_wider (Some u) keeps = record {
        found = keeps.found;
        anywhere = keeps.anywhere;
        of_image = keeps.of_image;
        direct = keeps.direct;
        pointed = keeps.pointed;
        writes = λ k d at there. wider _ (keeps.writes k d at there);
        returning = keeps.returning;
        jumping = keeps.jumping;
        declared = keeps.declared;
        stack = keeps.stack;
        alone = keeps.alone;
        lies = keeps.lies;
        pushed = keeps.pushed;
        anew = keeps.anew;
        gives_back = keeps.gives_back;
        goes_on = keeps.goes_on;
      }

-- the ways of one handler are among those of all
ways_among : (handlers : List Handler) (k : ℕ) (d : Handler) (way : Way) → k < length handlers → Contains (get_or handlers k d).table.ways.items way → Contains (handler_ways handlers) way
ways_among [] k d way inside there = absurd (omega (arith, inside))
ways_among (h ∷ hs) zero d way inside there = Contains-append_left h.table.ways.items (handler_ways hs) way there
ways_among (h ∷ hs) (suc k) d way inside there = Contains-append_right h.table.ways.items (handler_ways hs) way (ways_among hs k d way (omega (arith, inside)) there)

-- each handler is followed, with its ways and places among those of all
module _ (image : Located) (table : Table) (written quiet : ℕ → Bool) (most : ℕ) (handlers : List Handler) (each : All (IsHandled image table.states.items written quiet (places_of table handlers) table.listed most) handlers) where
  abbrev Among : (bytes at : ℕ) → Type 0
  Among bytes at = HandlesAmong image table.states.items written quiet (handler_ways handlers) (places_of table handlers) table.listed bytes at

  among_all : (k : ℕ) (d : Handler) → k < length handlers → (bytes : ℕ) → (get_or handlers k d).table.bytes ≤ bytes → Among bytes (get_or handlers k d).at
  among_all k d inside bytes less = let x = each k d inside in record {
    of = record {
      table = x.of.table;
      ways = x.of.ways;
      bytes = x.of.bytes;
      bounds = x.of.bounds;
      fits = x.of.fits;
      few = let few = x.of.few in omega (arith, few, less);
      room = let room = x.of.room in omega (arith, room, less);
      among = λ way is. ways_among handlers k d way inside (x.of.among way is);
    };
    placed = subst (λ (states : List FollowedState). All (λ s. Contains (places_of table handlers) s.at) states) (sym x.states) (handler_placed table handlers k d inside);
  }

  pub each_handled : (at : ℕ) → Contains (map (λ h. h.at) handlers) at → Among most at
  each_handled at there = All-contains (Among most) (map (λ (h : Handler). h.at) handlers) at
      (All-map (Among most) (λ (h : Handler). h.at) handlers (λ k d inside. among_all k d inside most (each k d inside).few)) there

  -- and alone, with no more bytes than it has
  pub handled_alone : All (λ h. (at : ℕ) → Contains (h.at ∷ []) at → Among h.table.bytes at) handlers
  handled_alone = λ k d inside at there. let h = get_or handlers k d in
      All-contains (Among h.table.bytes) (h.at ∷ []) at (All-cons (Among h.table.bytes) h.at [] (among_all k d inside h.table.bytes (omega arith)) (All-nil (Among h.table.bytes))) there

-- tables that fit with some quiet addresses fit with more
abbrev pub fit_of_more : (image : Located) (interrupted : Bool) (quiet other : ℕ → Bool) (is_set : Bool) (table : Table) (handlers : List Handler) → ((at : ℕ) → quiet at ≡ true → other at ≡ true) → IsFit image interrupted quiet is_set table handlers → IsFit image interrupted other is_set table handlers
fit_of_more image interrupted quiet other is_set table handlers more fit = record { marked = fit.marked; within = λ at here. more at (fit.within at here); follows = fit.follows; summaries = fit.summaries; room = fit.room }

pub are_fit_of_more : (image : Located) (quiet other written wider : ℕ → Bool) (is_set : Bool) (table : Table) (handlers : List Handler) (most : ℕ) →
    ((at : ℕ) → quiet at ≡ true → other at ≡ true) → ((at : ℕ) → written at ≡ true → wider at ≡ true) → AreFit image quiet written is_set table handlers most → AreFit image other wider is_set table handlers most
are_fit_of_more image quiet other written wider is_set table handlers most more wide fit = record {
  program = fit_of_more image true quiet other is_set table handlers more fit.program;
  writes = fit.writes;
  inside = λ at here. wide at (fit.inside at here);
  apart = fit.apart;
  handled = fit.handled;
  room = fit.room;
}
