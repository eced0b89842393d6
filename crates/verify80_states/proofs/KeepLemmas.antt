-- Runs keep to a table that fits.
use Rattle.verify80_states.proofs.Names.{◌≡◌, ◌⊎◌, ℕ, zero, suc, Bool, true, false, List, Option, None, Some, Ok, IsSome, drop, length, slice_get}
use Rattle.verify80_states.proofs.Names.{slice_index, refl, subst, sym, ap, ◌∙◌, inl, inr, arith, true≢false, nat_tests, Condition, Pchl, Fetched, Flow}
use Rattle.verify80_states.proofs.Names.{Jumps, JumpsIf, JumpsToHl, Calls, CallsIf, Returns, ReturnsIf, Halts, flow, Areas, in_data, targets_at, Located}
use Rattle.verify80_states.proofs.Names.{Cpu, holds_of, hl_of, world_of, byte_in, goes_to, target, word_in, Machine, Turn, Next, Stop, fetch, step_of}
use Rattle.verify80_states.proofs.Names.{World, world_at, turn_at, following, world_after, places_by, places_then, refuses, returns, is_return_taken}
use Rattle.verify80_states.proofs.Names.{fetched_by, FetchesInside, IsNewest, code_of, declared_targets, IsStart, IsWorldFrom, NeverGoesWrongFromPowerOn}
use Rattle.verify80_states.proofs.Names.{IsReached, StandsOnWalk, StaysOnWalks, LeavesProgram, with_memory, PairSpan, Known, State, Variable, Placed}
use Rattle.verify80_states.proofs.Names.{HoldsSet, no_cells, is_steady, state_after, given_state, Fits, AreBytes, HoldsBytes, BytesStayBytes}
use Rattle.verify80_states.proofs.Names.{FetchedOperandsAreBounded, MemoryKeepsItsLength, Within, ByteWithin, byte_alone, HasBytes, Holds, HoldsKnown}
use Rattle.verify80_states.proofs.Names.{HoldsWord, IsQuietKnown, IsQuietState, anything, nothing_known, unknown_but, cut_state, is_taken, ReadsCode}
use Rattle.verify80_states.proofs.Names.{AreCodeBytes, HasCode, Has, Covers, CoversAfter, FitsBy, KnowsQuiet, AccountsFor, ReturnFacts, KnowsReturn}
use Rattle.verify80_states.proofs.Names.{KnowsReturnIf, KnowsReturnsOf, Owes, IsBehind, KeepsTo, KeepsToCalls, IsKept, HasOperandInRange, EntryFits, stored_bytes, stores, same_Some}
use Rattle.verify80_states.specs.Runs.{IsKnown}
use Rattle.verify80_states.proofs.{StateLemmas.anything_holds, MemoryLemmas.Ground, MemoryLemmas.none_hold, MemoryLemmas.words_stay}
use Rattle.verify80_states.proofs.{SpanLemmas.alone_within, VariableLemmas.none_named, ByteLemmas.one_of, VariableLemmas.tested_of}
use Rattle.verify80_states.proofs.{VariableLemmas.variable_kept, StoredLemmas.are_stored, GivenLemmas.given_state_holds, GivenLemmas.cut_set}
use Rattle.verify80_states.proofs.{GivenLemmas.cut_known, InsideLemmas.set_around, InsideLemmas.state_around, WayLemmas.Leads, WayLemmas.step_goes}
use Rattle.verify80_states.proofs.CellLemmas.{cells_beside, source_beside, known_quieter, none_hold as no_cells_hold}
use Rattle.verify80_states.proofs.CallLemmas.{owed_on, owes_stay, returned_places, returns_here}
use Rattle.verify80_states.proofs.StepLemmas.{other_known, step_byte, step_state, step_code}

-- the table has a state that holds
pub record Meets (regions : Areas) (variables : List Variable) (table : List Placed) (set to : ℕ) (m : Machine) : Type 0 where
  pub state : State
  pub has : Has variables table to state
  pub holds : Holds regions state m
  pub same : state.known.set ≡ set

-- what a state owes where its flow leads, it has there
module _ (regions : Areas) (targets : List ℕ) (variables : List Variable) (table : List Placed) (after : Bool → State → State) (sets : (taken : Bool) (t : State) → (after taken t).known.set ≡ t.known.set) (m there : Machine) (bytes : AreBytes m.cpu.registers) (now : AreBytes there.cpu.registers) where
  abbrev pub Follows : Flow → Type 0
  Follows w = (t : State) → Holds regions t m → IsQuietState (in_data regions) t → Holds regions (after (is_taken w m.cpu.registers.flags) t) there

  at_once : (next to set : ℕ) (s : State) → s.known.set ≡ set → to ≡ next → Covers variables table next s → Holds regions s there → Meets regions variables table set to there
  at_once next to set s named same covers holds = by covers.either where
    by : Has variables table next s ⊎ ((byte : ℕ) → ByteWithin s.known.a byte → Has variables table next (cut_state s (byte_alone byte))) → Meets regions variables table set to there
    by (inl has) = record { state = s; has = subst (λ n. Has variables table n s) (sym same) has; holds = holds; same = named }
    by (inr each) =
        let byte = there.cpu.registers.a in
        let span = byte_alone byte in
        record {
          state = cut_state s span;
          has = subst (λ n. Has variables table n (cut_state s span)) (sym same) (each byte holds.known.registers.a);
          holds = record { known = cut_known (in_data regions) there now s.known span holds.known (alone_within byte); words = holds.words };
          same = cut_set s.known span ∙ named;
        }

  if_given : (condition : Condition) (taken : Bool) (s : State) (to address : ℕ) → IsQuietState (in_data regions) s → Holds regions s m → holds_of condition m.cpu.registers.flags ≡ taken → CoversAfter variables table address (after taken) (given_state condition taken s) →
      to ≡ address → ((t : State) → Holds regions t m → IsQuietState (in_data regions) t → Holds regions (after taken t) there) → Meets regions variables table s.known.set to there
  if_given condition taken s to address are holds is has same follow =
      let left = given_state_holds (in_data regions) regions m bytes condition taken s holds are is in
      at_once address to s.known.set (after taken left.left) (sets taken left.left ∙ left.same) same (subst (λ (o : Option State). CoversAfter variables table address (after taken) o) left.is has) (follow left.left left.holds left.are)

  with_taken : (w : Flow) (taken : Bool) → is_taken w m.cpu.registers.flags ≡ taken → Follows w → (t : State) → Holds regions t m → IsQuietState (in_data regions) t → Holds regions (after taken t) there
  with_taken w taken is follow t holds are = subst (λ b. Holds regions (after b t) there) is (follow t holds are)

  pub arrives : (w : Flow) (s : State) (next to : ℕ) → FitsBy targets variables table after s next w → Leads w m.cpu.registers.flags targets next (hl_of m.cpu.registers) to → Follows w → IsQuietState (in_data regions) s → Holds regions s m →
      Meets regions variables table s.known.set to there
  arrives (Jumps address) s next to fits leads follow are holds = at_once address to s.known.set (after false s) (sets false s) leads fits (follow s holds are)
  arrives (JumpsIf condition address) s next to fits (inl way) follow are holds = if_given condition true s to address are holds way.0 fits.0 way.1 (with_taken (JumpsIf condition address) true way.0 follow)
  arrives (JumpsIf condition address) s next to fits (inr way) follow are holds = if_given condition false s to next are holds way.0 fits.1 way.1 (with_taken (JumpsIf condition address) false way.0 follow)
  arrives JumpsToHl s next to fits leads follow are holds =
      at_once to to s.known.set (after false s) (sets false s) refl (fits to leads.0 (subst (λ n. Within s.known.hl.words n) (sym leads.1) holds.known.registers.hl.words)) (follow s holds are)
  arrives (Calls address) s next to fits leads follow are holds = at_once address to s.known.set (after true s) (sets true s) leads fits (follow s holds are)
  arrives (CallsIf condition address) s next to fits (inl way) follow are holds = if_given condition true s to address are holds way.0 fits.0 way.1 (with_taken (CallsIf condition address) true way.0 follow)
  arrives (CallsIf condition address) s next to fits (inr way) follow are holds = if_given condition false s to next are holds way.0 fits.1 way.1 (with_taken (CallsIf condition address) false way.0 follow)
  arrives Returns s next to fits leads follow are holds = absurd leads
  arrives (ReturnsIf condition) s next to fits leads follow are holds = if_given condition false s to next are holds leads.0 fits leads.1 (with_taken (ReturnsIf condition) false leads.0 follow)
  arrives Halts s next to fits leads follow are holds = absurd leads
  arrives w s next to fits leads follow are holds = at_once next to s.known.set (after false s) (sets false s) leads fits (follow s holds are)

  -- a return that is taken goes where the state says, if it knows that
  back_to : (t : State) → KnowsReturn variables table (after true) t → Holds regions t m → Holds regions (after true t) there → Meets regions variables table t.known.set (word_in m.memory m.cpu.sp) there
  back_to t knows before holds = at_once knows.word.words.first (word_in m.memory m.cpu.sp) t.known.set (after true t) (sets true t) (sym place) knows.covers holds where
    pushed_there : HoldsWord regions (Some knows.word) m.memory m.cpu.sp m.cpu.sp
    pushed_there = subst (λ (o : Option PairSpan). HoldsWord regions o m.memory m.cpu.sp m.cpu.sp) knows.first before.words.first

    place : knows.word.words.first ≡ word_in m.memory m.cpu.sp
    place = let above = pushed_there.within.words.above in let below = pushed_there.within.words.below in let alone = knows.alone in grind (arith, nat_tests)

  pub arrives_back : (w : Flow) (s : State) → is_return_taken w m.cpu.registers.flags ≡ true → KnowsReturnsOf variables table (after true) s w → Follows w → IsQuietState (in_data regions) s → Holds regions s m →
      Meets regions variables table s.known.set (word_in m.memory m.cpu.sp) there
  arrives_back Returns s taken knows follow are holds = back_to s knows holds (follow s holds are)
  arrives_back (ReturnsIf condition) s taken knows follow are holds =
      let left = given_state_holds (in_data regions) regions m bytes condition true s holds are taken in
      let back = back_to left.left (subst (λ (o : Option State). KnowsReturnIf variables table (after true) o) left.is knows) left.holds (with_taken (ReturnsIf condition) true taken follow left.left left.holds left.are) in
      record { state = back.state; has = back.has; holds = back.holds; same = back.same ∙ left.same }
  arrives_back w s taken knows follow are holds = absurd (true≢false (sym taken))

-- a return that is taken goes to the word on top of the stack
return_target : (w : Flow) (next : ℕ) (memory : List ℕ) (cpu : Cpu) → is_return_taken w cpu.registers.flags ≡ true → goes_to w next memory cpu ≡ word_in memory cpu.sp
return_target Returns next memory cpu taken = refl
return_target (ReturnsIf condition) next memory cpu taken = rw taken refl
return_target w next memory cpu taken = absurd (true≢false (sym taken))

-- nothing is known, of any machine
pub nothing_known_holds : (set : ℕ) (m : Machine) → HoldsBytes m → HoldsKnown (record nothing_known { set = set }) m
nothing_known_holds set m bytes = record { registers = other_known nothing_known no_cells None set m.cpu.registers (anything_holds m.cpu.registers bytes.registers); cells = no_cells_hold m.memory bytes.memory; source = tt }

-- a state that says nothing holds of any machine
pub nothing_holds : (regions : Areas) (ground : Ground regions) (set : ℕ) (m : Machine) → HoldsBytes m → Holds regions (unknown_but set) m
nothing_holds regions ground set m bytes = record { known = nothing_known_holds set m bytes; words = none_hold regions ground m.memory m.cpu.sp }

-- a step leaves the image's code as it is
pub code_stays : (image : Located) (ground : Ground image.regions) (bytes : List (Option ℕ)) (bounded : FetchedOperandsAreBounded) (refused : Bool) (m after : Machine) (found : Fetched) (s : Known) → HoldsBytes m → ReadsCode bytes m.memory →
    HoldsKnown s m → fetch image.regions m.memory m.cpu.pc ≡ Some found → step_of image.regions refused m ≡ Next after → HasCode image m.memory → HasCode image after.memory
code_stays image ground bytes bounded refused m after found s held reads holds fetched step code a here =
    let bound = bounded image.regions m.memory m.cpu.pc found held.memory fetched in
    step_code image.regions ground bytes refused m after found s a bound.operand held reads holds fetched step here ∙ code a here

-- what devices write leaves what is known of quiet addresses
pub known_beside : (quiet : ℕ → Bool) (m : Machine) (memory : List ℕ) (s : Known) → ((at : ℕ) → quiet at ≡ true → slice_index memory at ≡ slice_index m.memory at) → HasBytes memory → IsQuietKnown quiet s → HoldsKnown s m → HoldsKnown s (record m { memory = memory })
known_beside quiet m memory s stays bytes known holds = record {
  registers = holds.registers;
  cells = cells_beside quiet m.memory memory s.cells stays bytes known.cells holds.cells;
  source = source_beside quiet m.memory memory s.source m.cpu.registers.a stays known.source holds.source;
}

-- what devices write leaves the words on the stack, the code and what is known of quiet addresses
pub still_keeps : (image : Located) (ground : Ground image.regions) (quiet : ℕ → Bool) (returns : ReturnFacts) (variables : List Variable) (table : List Placed) (w : World) (memory : List ℕ) → KnowsQuiet quiet table →
    ((number : ℕ) (v : Variable) → slice_get variables number ≡ Some v → quiet v.at ≡ true) → LeavesProgram image.regions w.machine.cpu.sp w.machine.memory memory →
    ((at : ℕ) → quiet at ≡ true → slice_index memory at ≡ slice_index w.machine.memory at) → KeepsToCalls image returns variables table w → KeepsToCalls image returns variables table (with_memory w memory)
still_keeps image ground quiet returns variables table w memory knows quiet_variables leaves stays keeps = record {
  keeps = record {
    place = keeps.keeps.place;
    placed = keeps.keeps.placed;
    there = keeps.keeps.there;
    at = keeps.keeps.at;
    holds = record {
      known = known_beside quiet w.machine memory keeps.keeps.placed.state.known stays leaves.bytes known keeps.keeps.holds.known;
      words = words_stay image.regions ground keeps.keeps.placed.state.words w.machine.memory memory w.machine.cpu.sp (λ a in_stack above filled. leaves.pushed a (record { in_stack = in_stack; above = above; filled = filled })) keeps.keeps.holds.words;
    };
    code = λ address here. leaves.code address here ∙ keeps.keeps.code address here;
    whole = leaves.size ∙ keeps.keeps.whole;
  };
  set = set_stays keeps.keeps.placed.state.known.set keeps.set;
  owes = owes_stay returns (IsBehind variables table w.machine.memory) (IsBehind variables table memory) w.machine.cpu.pc w.places
      (λ place there. record { set = there.set; holds = set_stays there.set there.holds; has = there.has }) keeps.owes;
} where
  known : IsQuietState quiet keeps.keeps.placed.state
  known = one_of (λ (p : Placed). IsQuietState quiet p.state) table keeps.keeps.place keeps.keeps.placed knows keeps.keeps.there

  set_stays : (set : ℕ) → HoldsSet variables set w.machine.memory → HoldsSet variables set memory
  set_stays set holds v named = subst (λ n. ByteWithin v.bytes n) (sym (stays v.at (quiet_variables named.number v named.there))) (holds v named)

module _ (image : Located) (quiet : ℕ → Bool) (bytes : List (Option ℕ)) (returning : ReturnFacts) (variables : List Variable) (table : List Placed) (ground : Ground image.regions) (are_code : AreCodeBytes image bytes)
    (quiet_data : (at : ℕ) → quiet at ≡ true → in_data image.regions at ≡ true) (fits : Fits quiet (code_of image) bytes returning variables table) (bounded : FetchedOperandsAreBounded) (length_stays : MemoryKeepsItsLength) where
  keeps_by : (w : World) (s : State) → Has variables table w.machine.cpu.pc s → HoldsBytes w.machine → Holds image.regions s w.machine → HoldsSet variables s.known.set w.machine.memory → HasCode image w.machine.memory → length w.machine.memory ≡ 65536 →
      Owes returning (IsBehind variables table w.machine.memory) w.machine.cpu.pc w.places → KeepsToCalls image returning variables table w
  keeps_by w s has held holds named code whole owes = record {
    keeps = record {
      place = has.place;
      placed = has.placed;
      there = has.there;
      at = has.at;
      holds = state_around image.regions variables s has.placed.state w.machine held.memory has.inside named holds;
      code = code;
      whole = whole;
    };
    set = set_around variables s.known has.placed.state.known w.machine held.memory has.inside.known named holds.known;
    owes = owes;
  }

  -- what the table knows of memory is known of data
  quiet_in_data : (place : ℕ) (placed : Placed) → slice_get table place ≡ Some placed → IsQuietState (in_data image.regions) placed.state
  quiet_in_data place placed there = known_quieter quiet (in_data image.regions) placed.state.known quiet_data (one_of (λ (p : Placed). IsQuietState quiet p.state) table place placed fits.knows there)

  -- what a walk finds where a world stands is what its next step fetches, and a PCHL there has declared targets
  declared_at : (w : World) (known : IsKnown image w) (found : Fetched) → fetched_by image.regions w ≡ Some found → found.instr ≡ Pchl → IsSome (targets_at image.regions w.machine.cpu.pc)
  declared_at w known found fetched is =
      let inside : FetchesInside image.regions w = known.inside in
      let same : inside.found ≡ found = (let f : fetched_by image.regions w ≡ Some inside.found = inside.fetched in cc) in
      inside.declared (ap (λ (x : Fetched). x.instr) same ∙ is)

  module _ (refused : Bool) (w after : World) (found : Fetched) (fetched : fetched_by image.regions w ≡ Some found) (reached : IsReached (code_of image) w.machine.cpu.pc) (looked : (code_of image).look w.machine.cpu.pc ≡ Ok found)
      (keeps : KeepsToCalls image returning variables table w) (before : HoldsBytes w.machine) (now : HoldsBytes after.machine) (step : step_of image.regions refused w.machine ≡ Next after.machine)
      (newer : after.places ≡ places_then (fetched_by image.regions w) w.machine.cpu.registers.flags w.places) where
    -- the state that holds
    abbrev holding : State
    holding = keeps.keeps.placed.state

    entry : EntryFits bytes returning (declared_targets image.regions w.machine.cpu.pc) variables table w.machine.cpu.pc holding found
    entry = subst (λ n. IsReached (code_of image) n → (code_of image).look n ≡ Ok found → EntryFits bytes returning (declared_targets image.regions n) variables table n holding found) keeps.keeps.at
        (λ r l. fits.entries keeps.keeps.place keeps.keeps.placed found keeps.keeps.there r l) reached looked

    accounts : AccountsFor returning (declared_targets image.regions w.machine.cpu.pc) w.machine.cpu.pc found.next (flow found.instr)
    accounts = fits.accounts w.machine.cpu.pc found reached looked

    places_now : after.places ≡ places_by (flow found.instr) found.next w.machine.cpu.registers.flags w.places
    places_now = newer ∙ ap (λ (o : Option Fetched). places_then o w.machine.cpu.registers.flags w.places) fetched

    -- the bytes that the table knows are those that are read
    reads : ReadsCode bytes w.machine.memory
    reads = λ at byte is. let known = are_code at byte is in keeps.keeps.code at known.0 ∙ known.1

    operand : HasOperandInRange found.instr
    operand = (bounded image.regions w.machine.memory w.machine.cpu.pc found before.memory fetched).operand

    code_now : HasCode image after.machine.memory
    code_now = code_stays image ground bytes bounded refused w.machine after.machine found holding.known before reads keeps.keeps.holds.known fetched step keeps.keeps.code

    whole_now : length after.machine.memory ≡ 65536
    whole_now = length_stays image.regions refused w.machine after.machine step ∙ keeps.keeps.whole

    -- what the instruction makes of a state holds after the step
    abbrev follows : Follows image.regions (declared_targets image.regions w.machine.cpu.pc) variables table (λ taken t. state_after bytes found.instr taken found.next t) (λ taken t. refl) w.machine after.machine before.registers now.registers (flow found.instr)
    follows = λ t holds are.
        step_state image.regions ground bytes refused w.machine after.machine found t operand before now keeps.keeps.whole reads are fetched step holds

    -- a variable that has one of its bytes has one of them after the step
    kept : (number : ℕ) (v : Variable) → slice_get variables number ≡ Some v → ByteWithin v.bytes (byte_in w.machine.memory v.at) → ByteWithin v.bytes (byte_in after.machine.memory v.at)
    kept number v there before_there =
        let k = keeps.keeps in
        let stored = stored_bytes bytes found.instr holding.known in
        step_byte image.regions ground bytes (ByteWithin v.bytes) refused w.machine after.machine found v.at fetched step before_there
        (λ pass. variable_kept v image.regions ground stored.0 stored.1 (stores found.instr found.next w.machine.memory w.machine.cpu) w.machine.memory
        (are_stored image.regions bytes w.machine.memory found.instr found.next w.machine.cpu holding.known reads before.memory pass operand before.registers k.holds.known.registers k.holds.known.cells) k.whole
        (quiet_data v.at (fits.quiet_variables number v there)) (tested_of (is_steady bytes found.instr holding.known) variables number v entry.steady there) before_there)

    set_kept : (set : ℕ) → HoldsSet variables set w.machine.memory → HoldsSet variables set after.machine.memory
    set_kept set holds v named = kept named.number v named.there (holds v named)

    -- so what is owed stays owed
    abbrev OwesBy : (memory : List ℕ) → (at : ℕ) → (places : List ℕ) → Type 0
    OwesBy memory at places = Owes returning (IsBehind variables table memory) at places

    owes_kept : (at : ℕ) (places : List ℕ) → OwesBy w.machine.memory at places → OwesBy after.machine.memory at places
    owes_kept at places owes = owes_stay returning (IsBehind variables table w.machine.memory) (IsBehind variables table after.machine.memory) at places
        (λ place there. record { set = there.set; holds = set_kept there.set there.holds; has = there.has }) owes

    keeps_now : (s : State) (to : ℕ) → Has variables table to s → Holds image.regions s after.machine → HoldsSet variables s.known.set after.machine.memory → after.machine.cpu.pc ≡ to → OwesBy w.machine.memory to after.places →
        KeepsToCalls image returning variables table after
    keeps_now s to has holds named at owes = keeps_by after s (subst (λ n. Has variables table n s) (sym at) has) now holds named code_now whole_now
        (subst (λ n. OwesBy after.machine.memory n after.places) (sym at) (owes_kept to after.places owes))

    meets_now : (to : ℕ) → Meets image.regions variables table holding.known.set to after.machine → after.machine.cpu.pc ≡ to → OwesBy w.machine.memory to after.places → KeepsToCalls image returning variables table after
    meets_now to meets at owes = keeps_now meets.state to meets.has meets.holds (subst (λ n. HoldsSet variables n after.machine.memory) (sym meets.same) (set_kept holding.known.set keeps.set)) at owes

    -- a return brings what its state says, or leads to where nothing is said but of variables
    brings : (to : ℕ) → after.machine.cpu.pc ≡ to → to ≡ word_in w.machine.memory w.machine.cpu.sp → is_return_taken (flow found.instr) w.machine.cpu.registers.flags ≡ true →
        (returning.known w.machine.cpu.pc ≡ true) ⊎ IsBehind variables table w.machine.memory to → OwesBy w.machine.memory to after.places → KeepsToCalls image returning variables table after
    brings to at word taken (inl so) owes =
        let meets = arrives_back image.regions (declared_targets image.regions w.machine.cpu.pc) variables table (λ taken t. state_after bytes found.instr taken found.next t) (λ taken t. refl) w.machine after.machine before.registers now.registers
        (flow found.instr) holding taken (entry.calls.known so) follows (quiet_in_data keeps.keeps.place keeps.keeps.placed keeps.keeps.there) keeps.keeps.holds in
        meets_now to (subst (λ n. Meets image.regions variables table holding.known.set n after.machine) (sym word) meets) at owes
    brings to at word taken (inr there) owes = keeps_now (unknown_but there.set) to there.has (nothing_holds image.regions ground there.set after.machine now) (set_kept there.set there.holds) at owes

    returned : (to : ℕ) → after.machine.cpu.pc ≡ to → to ≡ word_in w.machine.memory w.machine.cpu.sp → IsNewest to w.places → is_return_taken (flow found.instr) w.machine.cpu.registers.flags ≡ true → KeepsToCalls image returning variables table after
    returned to at word newest taken =
        let may = returns_here returning (declared_targets image.regions w.machine.cpu.pc) w.machine.cpu.pc found.next (flow found.instr) w.machine.cpu.registers.flags accounts taken in
        let owed = subst (λ (l : List ℕ). OwesBy w.machine.memory w.machine.cpu.pc l) newest.1 keeps.owes may in
        let older : after.places ≡ newest.0 = places_now ∙ returned_places (flow found.instr) found.next w.machine.cpu.registers.flags w.places taken ∙ ap (λ (l : List ℕ). drop 1 l) newest.1 in
        brings to at word taken owed.0 (subst (λ (l : List ℕ). OwesBy w.machine.memory to l) (sym older) owed.1)

    -- any other step brings what the state after it says
    goes_on : IsKnown image w →
        ((returns found.instr w.machine.cpu.registers.flags ≡ true) × (after.machine.cpu.pc ≡ target found.instr found.next w.machine.memory w.machine.cpu))
        ⊎ Leads (flow found.instr) w.machine.cpu.registers.flags (declared_targets image.regions w.machine.cpu.pc) found.next (hl_of w.machine.cpu.registers) after.machine.cpu.pc → KeepsToCalls image returning variables table after
    goes_on known (inl taken) =
        returned (target found.instr found.next w.machine.memory w.machine.cpu) taken.1 (return_target (flow found.instr) found.next w.machine.memory w.machine.cpu taken.0) (known.returning found fetched taken.0) taken.0
    goes_on known (inr way) =
        let meets = arrives image.regions (declared_targets image.regions w.machine.cpu.pc) variables table (λ taken t. state_after bytes found.instr taken found.next t) (λ taken t. refl) w.machine after.machine before.registers now.registers
        (flow found.instr) holding found.next after.machine.cpu.pc entry.covered way
        follows (quiet_in_data keeps.keeps.place keeps.keeps.placed keeps.keeps.there) keeps.keeps.holds in
        let owes = owed_on returning (IsBehind variables table w.machine.memory) (declared_targets image.regions w.machine.cpu.pc) w.machine.cpu.pc found.next (hl_of w.machine.cpu.registers) after.machine.cpu.pc
        w.machine.cpu.registers.flags w.places keeps.owes (flow found.instr) accounts (λ called is may known. record { set = holding.known.set; holds = keeps.set; has = entry.calls.behind called is may known }) way in
        meets_now after.machine.cpu.pc meets refl (subst (λ (l : List ℕ). OwesBy w.machine.memory after.machine.cpu.pc l) (sym places_now) owes)

  -- a step keeps to the table, and so does a start
  pub is_kept : IsKept image quiet table
  is_kept = record {
    returns = returning;
    variables = variables;
    starts = λ start pc code whole held stands.
        keeps_by (world_of start) anything (subst (λ n. Has variables table n anything) (sym pc) fits.start) held (nothing_holds image.regions ground 0 start held) (none_named variables start.memory) code whole tt;
    steps = λ refused w after known on before now keeps step newer.
        let stands : StandsOnWalk image w = known.stands in
        goes_on refused w after stands.found stands.fetched stands.reached stands.looked keeps before now step newer known
        (step_goes image.regions refused w.machine after.machine stands.found stands.fetched step (declared_at w known stands.found stands.fetched)).way;
    disturbed = λ w memory leaves stays keeps. still_keeps image ground quiet returning variables table w memory fits.knows fits.quiet_variables leaves stays keeps;
  }

-- runs keep to a table that is kept
module _ (image : Located) (bytes : ℕ) (quiet : ℕ → Bool) (table : List Placed) (sound : NeverGoesWrongFromPowerOn image bytes) (walks : StaysOnWalks image) (kept : IsKept image quiet table) (stay : BytesStayBytes)
    (start : Machine) (begins : IsStart image start) (start_bytes : HoldsBytes start) (most : Option ℕ) where
  known_at : (w : World) → IsWorldFrom image start most w → IsKnown image w
  known_at w from = record {
    stands = walks.stands start begins most w from;
    returning = λ found fetched taken. sound.returning start begins most w found from fetched taken;
    inside = sound.fetches_and_stores start begins most w from;
  }

  -- a world keeps to the table, and its machine holds bytes
  record Keeps (w : World) : Type 0 where
    held : HoldsBytes w.machine
    keeps : KeepsToCalls image kept.returns kept.variables table w

  stepped : (w after : World) (t : Turn) (places : List ℕ) → IsWorldFrom image start most w → IsWorldFrom image start most after → Keeps w → turn_at image.regions most w ≡ t →
      places ≡ places_then (fetched_by image.regions w) w.machine.cpu.registers.flags w.places → world_after t places ≡ Some after → Keeps after
  stepped w after (Stop e) places from next before h newer is = cc
  stepped w after (Next m) places from next before h newer is =
      let same : m ≡ after.machine = ap (λ (x : World). x.machine) (same_Some _ _ is) in
      let there : places ≡ after.places = ap (λ (x : World). x.places) (same_Some _ _ is) in
      let turn : step_of image.regions (refuses most w.machine.outputs) w.machine ≡ Next after.machine = h ∙ ap (λ (x : Machine). Next x) same in
      let held = stay image.regions (refuses most w.machine.outputs) w.machine after.machine before.held turn in
      record { held = held; keeps = kept.steps (refuses most w.machine.outputs) w after (known_at w from) (known_at after next).stands before.held held before.keeps turn (sym there ∙ newer) }

  followed : (n : ℕ) (w : World) (o : Option World) → world_at image.regions most (world_of start) n ≡ o → ((v : World) → o ≡ Some v → Keeps v) → following image.regions most o ≡ Some w → Keeps w
  followed n w None at before h = cc
  followed n w (Some v) at before h =
      stepped v w (turn_at image.regions most v) (places_then (fetch image.regions v.machine.memory v.machine.cpu.pc) v.machine.cpu.registers.flags v.places) (record { steps = n; is = at })
      (record { steps = suc n; is = ap (λ (o : Option World). following image.regions most o) at ∙ h }) (before v refl) refl refl h

  keeps_at : (n : ℕ) (w : World) → world_at image.regions most (world_of start) n ≡ Some w → Keeps w
  keeps_at zero w h =
      let begun = kept.starts start begins.pc begins.code begins.whole start_bytes (known_at (world_of start) (record { steps = 0; is = refl })).stands in
      subst Keeps (same_Some _ _ h) (record { held = start_bytes; keeps = begun })
  keeps_at (suc n) w h = followed n w (world_at image.regions most (world_of start) n) refl (λ v e. keeps_at n v e) h

  pub run_keeps : (w : World) → IsWorldFrom image start most w → KeepsTo image table w
  run_keeps w from = (keeps_at from.steps w from.is).keeps.keeps
