-- The stores of runs, by what is listed.
use Rattle.verify80_stores.proofs.Names.{◌≡◌, ◌≢◌, ◌⊎◌, ℕ, zero, suc, ◌<◌, ◌==◌, Bool, true, false, not, List, [], ◌∷◌, All, Any, Contains, Option, None}
use Rattle.verify80_stores.proofs.Names.{Some, Ok, length, refl, if◌then◌else◌, list_any_at, option_map_or, nat_tests, subst, sym, ap, ◌∙◌, inl, inr, arith}
use Rattle.verify80_stores.proofs.Names.{get_or, Contains-get_or, All-nil, All-cons, Instr, Bc, De, Fetched, In, Out, Pchl, Hlt, Areas, in_data, targets_at}
use Rattle.verify80_stores.proofs.Names.{Located, End, Registers, StoreOutside, JumpOutside, Fetch, Stack, Direct, hl_of, index_pair_of, next_input}
use Rattle.verify80_stores.proofs.Names.{pointed_bytes, Machine, Stop, first_outside, ends_at, guard, guarded, execute, turn_of, leads_outside, proceeded}
use Rattle.verify80_stores.proofs.Names.{with_input, step_on, World, turn_at, fetched_by, refuses, same_Some, IsProperEnd, code_of, declared_targets, is_pchl}
use Rattle.verify80_stores.proofs.Names.{IsStart, IsWorldFrom, NeverGoesWrongFromPowerOn, StandsOnWalk, StaysOnWalks, AreReached, found_at, Span, Known}
use Rattle.verify80_stores.proofs.Names.{HoldsBytes, HoldsRegisters, Note, note_at, unwrap_or, any_word, KeepsTo, RunsKeepTo, Within, AreShown, KeptTable}
use Rattle.verify80_stores.proofs.Names.{stores_by_pair, IsLeftOpen, OpenStore, IsReachedAs, AreReachedAs, IsOpen, GoesAsListed, EndsAsListed, StoresGoAsListed}
use Rattle.verify80_stores.proofs.Names.{AreStoresOf, AreAllBelow, AreOpen, IsSpanned, IsLeftAt, IsListed, is_kind, is_at, and_parts, cases_eq, and_from}
use Rattle.verify80_stores.proofs.Names.{is_listed, storing, Storing, Through, ThroughHl, pointed_by, is_through_pair, span_through, IsInside, true≢false}
use Rattle.verify80_stores.proofs.ReachedLemmas.{kind_there, there_if_reached}

-- a store is no PCHL
no_jump : (i : Instr) → stores_by_pair i ≡ true → is_pchl i ≡ true → ⊥
no_jump Pchl stores jump = cc
no_jump i stores jump = cc

-- the address that a pair points to is one of its span
record Points (w : Storing) (s : Known) (address : ℕ) : Type 0 where
  span : Span
  is : span_through w s ≡ Some span
  within : Within span address
  stores : is_through_pair w ≡ true

alone : (x y : ℕ) → Contains (x ∷ []) y → x ≡ y
alone x y (zero, inside, same) = same
alone x y (suc k, inside, same) = absurd (omega arith)

points_by : (w : Storing) (s : Known) (r : Registers) (address : ℕ) → HoldsRegisters s r → Contains (pointed_by w r) address → Points w s address
points_by ThroughHl s r address holds there = record { span = s.hl.words; is = refl; within = subst (λ a. Within s.hl.words a) (alone (hl_of r) address there) holds.hl.words; stores = refl }
points_by (Through Bc) s r address holds there = record { span = s.bc.words; is = refl; within = subst (λ a. Within s.bc.words a) (alone (index_pair_of r Bc) address there) holds.bc.words; stores = refl }
points_by (Through De) s r address holds there = record { span = s.de.words; is = refl; within = subst (λ a. Within s.de.words a) (alone (index_pair_of r De) address there) holds.de.words; stores = refl }
points_by w s r address holds there = absurd (omega (arith, there.1))

-- an address is listed, or it isn't
pub listed_or_not : (at : ℕ) (stores : List OpenStore) → Any (λ store. store.at ≡ at) stores ⊎ All (λ store. store.at ≢ at) stores
listed_or_not at [] = inr (All-nil (λ (store : OpenStore). store.at ≢ at))
listed_or_not at (store ∷ stores) = go (cases_eq store.at at) (listed_or_not at stores) where
  go : (store.at ≡ at) ⊎ (store.at ≢ at) → Any (λ store. store.at ≡ at) stores ⊎ All (λ store. store.at ≢ at) stores → Any (λ store. store.at ≡ at) (store ∷ stores) ⊎ All (λ store. store.at ≢ at) (store ∷ stores)
  go (inl same) rest = inl (0, store, omega arith, refl, same)
  go (inr other) (inl (k, x, inside, is, same)) = inl (suc k, x, omega arith, is, same)
  go (inr other) (inr none) = inr (All-cons (λ (store : OpenStore). store.at ≢ at) store stores other none)

inside_within : (s t : Span) (n : ℕ) → IsInside s t → Within s n → Within t n
inside_within s t n inside within = record { above = omega arith; below = omega arith }

-- the first address outside is one of the list, and is outside
first_is : (inside : ℕ → Bool) (xs : List ℕ) (a : ℕ) → first_outside inside xs ≡ Some a → Contains xs a × (inside a ≡ false)
first_is inside [] a h = cc
first_is inside (x ∷ xs) a h = by (inside x) refl (λ rest. first_is inside xs a rest) h where
  by : (b : Bool) → inside x ≡ b → (first_outside inside xs ≡ Some a → Contains xs a × (inside a ≡ false)) → (if not b then Some x else first_outside inside xs) ≡ Some a → Contains (x ∷ xs) a × (inside a ≡ false)
  by true e rest later = let ((k, less, same), outside) = rest later in ((suc k, omega arith, same), outside)
  by false e rest here = let same = same_Some x a here in ((0, omega arith, same), ap inside (sym same) ∙ e)

-- how a step may end: at a store, through a pair that points outside data; at a jump, by a PCHL that leads outside its targets
abbrev GuardEndsSo : (third : Option ℕ) → End → Type 0
GuardEndsSo third (StoreOutside a) = third ≡ Some a
GuardEndsSo third (JumpOutside to) = ⊥
GuardEndsSo third e = Unit {0}

guard_ends : (first second third : Option ℕ) (e : End) → ends_at first Stack (ends_at second Direct (ends_at third StoreOutside None)) ≡ Some e → GuardEndsSo third e
guard_ends None None None e h = cc
guard_ends None None (Some a) e h = subst (GuardEndsSo (Some a)) (same_Some _ _ h) refl
guard_ends None (Some a) third e h = subst (GuardEndsSo third) (same_Some _ _ h) tt
guard_ends (Some a) second third e h = subst (GuardEndsSo third) (same_Some _ _ h) tt

abbrev JumpsOutside : Areas → Instr → Machine → Type 0
JumpsOutside regions i m = (is_pchl i ≡ true) × (leads_outside (targets_at regions m.cpu.pc) (hl_of m.cpu.registers) ≡ true)

abbrev EndsSo : Areas → Instr → Machine → End → Type 0
EndsSo regions i m (StoreOutside a) = Contains (pointed_bytes i m.cpu.registers) a × (in_data regions a ≡ false)
EndsSo regions i m (JumpOutside to) = JumpsOutside regions i m
EndsSo regions i m e = Unit {0}

same_end : (e f : End) → Stop e ≡ Stop f → e ≡ f
same_end e f h = cc

input_ends : (regions : Areas) (next port : ℕ) (m : Machine) (byte : Option ℕ) (e : End) → with_input m next port byte ≡ Stop e → EndsSo regions (In port) m e
input_ends regions next port m None e h = subst (EndsSo regions (In port) m) (same_end _ _ h) tt
input_ends regions next port m (Some byte) e h = cc

jump_ends : (regions : Areas) (m after : Machine) (e : End) (outside : Bool) → leads_outside (targets_at regions m.cpu.pc) (hl_of m.cpu.registers) ≡ outside →
    turn_of (if outside then Some (JumpOutside (hl_of m.cpu.registers)) else None) after ≡ Stop e → EndsSo regions Pchl m e
jump_ends regions m after e true outside h = subst (EndsSo regions Pchl m) (same_end _ _ h) (refl, outside)
jump_ends regions m after e false outside h = cc

executed_ends : (regions : Areas) (refused : Bool) (i : Instr) (next : ℕ) (m : Machine) (e : End) → execute regions refused i next m ≡ Stop e → EndsSo regions i m e
executed_ends regions refused Hlt next m e h = subst (EndsSo regions Hlt m) (same_end _ _ h) tt
executed_ends regions refused (In port) next m e h = input_ends regions next port m (next_input m.inputs port) e h
executed_ends regions true (Out port) next m e h = subst (EndsSo regions (Out port) m) (same_end _ _ h) tt
executed_ends regions false (Out port) next m e h = cc
executed_ends regions refused Pchl next m e h = jump_ends regions m (proceeded Pchl next m) e (leads_outside (targets_at regions m.cpu.pc) (hl_of m.cpu.registers)) refl h
executed_ends regions refused i next m e h = cc

step_ends : (regions : Areas) (g : Option End) (refused : Bool) (found : Fetched) (m : Machine) (e : End) → guard regions found.instr m.cpu ≡ g → guarded regions g refused found m ≡ Stop e → EndsSo regions found.instr m e
step_ends regions None refused found m e is h = executed_ends regions refused found.instr found.next m e h
step_ends regions (Some f) refused found m e is h = so e (guard_ends _ _ _ e (is ∙ ap (λ (x : End). Some x) (same_end f e h))) where
  so : (x : End) → GuardEndsSo (first_outside (in_data regions) (pointed_bytes found.instr m.cpu.registers)) x → EndsSo regions found.instr m x
  so (StoreOutside a) third = first_is (in_data regions) (pointed_bytes found.instr m.cpu.registers) a third
  so (JumpOutside to) third = absurd third
  so x third = tt

-- a target that is declared is not outside
pub not_outside : (declared : Option (List ℕ)) (hl : ℕ) → Contains (option_map_or (λ targets. targets) declared []) hl → leads_outside declared hl ≡ false
not_outside None hl there = refl
not_outside (Some targets) hl (k, inside, same) = ap (λ b. not b) (list_any_at (λ y. y == hl) targets k hl inside (grind (arith, nat_tests, same)))

-- none is listed there
none_listed : (at : ℕ) (stores : List OpenStore) → Any (λ store. store.at ≡ at) stores → All (λ store. store.at ≢ at) stores → ⊥
none_listed at stores (k, store, inside, is, same) none = none k store inside (ap (λ (s : OpenStore). s.at) is ∙ same)

-- a world keeps to each table that is kept
abbrev pub KeepsToEach : (image : Located) (quiet : ℕ → Bool) → World → Type 0
KeepsToEach image quiet w = (t : KeptTable image quiet) → KeepsTo image t.table w

module _ (image : Located) (bytes : ℕ) (quiet : ℕ → Bool) (reached : List (Option Fetched)) (notes : List Note) (addresses : List ℕ) (stores : List OpenStore) (jumps open_jumps : List ℕ)
    (sound : NeverGoesWrongFromPowerOn image bytes) (walks : StaysOnWalks image) (are : AreReached (code_of image) reached) (whole : length reached ≡ 65536) (keeps : (t : KeptTable image quiet) → RunsKeepTo image t.table)
    (shown : AreShown image quiet reached notes) (each_store : AreAllBelow (is_at stores_by_pair reached) 65536 addresses)
    (open_below : AreOpen reached notes stores) (each_jump : AreAllBelow (is_at is_pchl reached) 65536 jumps) (each_open_jump : AreAllBelow (is_listed is_pchl true reached notes) 65536 open_jumps) where
  -- a world stands at an instruction that is reached
  record Here (w : World) (found : Fetched) : Type 0 where
    there : found_at reached w.machine.cpu.pc ≡ Some found
    small : w.machine.cpu.pc < 65536

  here_if : (w : World) (found : Fetched) → StandsOnWalk image w → fetched_by image.regions w ≡ Some found → Here w found
  here_if w found stands fetched =
      let there = there_if_reached (code_of image) reached are w.machine.cpu.pc stands.reached in
      let one : stands.found ≡ found = (let f : fetched_by image.regions w ≡ Some stands.found = stands.fetched in cc) in
      let two : there.found ≡ stands.found = (let f : (code_of image).look w.machine.cpu.pc ≡ Ok there.found = there.looked in let g : (code_of image).look w.machine.cpu.pc ≡ Ok stands.found = stands.looked in cc) in
      record { there = there.there ∙ ap (λ (f : Fetched). Some f) (two ∙ one); small = omega (arith, there.within, whole) }

  kind_at : (kind : Instr → Bool) (at : ℕ) (found : Fetched) → found_at reached at ≡ Some found → kind found.instr ≡ true → is_at kind reached at ≡ true
  kind_at kind at found there is = ap (λ (o : Option Fetched). is_kind kind o) there ∙ is

  -- what a world does at an address that a table shows
  data_stores : (w : World) (found : Fetched) (address : ℕ) → KeepsToEach image quiet w → found_at reached w.machine.cpu.pc ≡ Some found → Contains (pointed_bytes found.instr w.machine.cpu.registers) address →
      (note_at notes w.machine.cpu.pc).is_open ≡ false → in_data image.regions address ≡ true
  data_stores w found address keep instr there unmarked =
      let it = shown.stays w.machine.cpu.pc unmarked in
      let k = keep it.by in
      let points = points_by (storing found.instr) k.placed.state.known w.machine.cpu.registers address k.holds.known.registers there in
      (it.shut k.place k.placed found k.there k.at instr).stores points.span points.is address points.within

  target_jumps : (w : World) (found : Fetched) → KeepsToEach image quiet w → found_at reached w.machine.cpu.pc ≡ Some found → is_pchl found.instr ≡ true → (note_at notes w.machine.cpu.pc).is_open ≡ false →
      Contains (declared_targets image.regions w.machine.cpu.pc) (hl_of w.machine.cpu.registers)
  target_jumps w found keep instr jump unmarked =
      let it = shown.stays w.machine.cpu.pc unmarked in
      let k = keep it.by in
      (it.shut k.place k.placed found k.there k.at instr).jumps jump (hl_of w.machine.cpu.registers) k.holds.known.registers.hl.words

  pub goes_if : (w : World) (found : Fetched) → StandsOnWalk image w → KeepsToEach image quiet w → fetched_by image.regions w ≡ Some found → (address : ℕ) →
      Contains (pointed_bytes found.instr w.machine.cpu.registers) address → GoesAsListed image.regions stores w.machine.cpu.pc address
  goes_if w found stands keep fetched address there =
      let here = here_if w found stands fetched in
      let points = points_by (storing found.instr) (keep shown.first).placed.state.known w.machine.cpu.registers address (keep shown.first).holds.known.registers there in
      let k = keep shown.first in
      let spans = shown.spans k.place k.placed found points.span k.there (subst (λ n. found_at reached n ≡ Some found) (sym k.at) here.there) points.is in
      let whole_span : IsSpanned notes w.machine.cpu.pc points.span = subst (λ n. IsSpanned notes n points.span) k.at spans in
      let within : Within whole_span.whole address = inside_within points.span whole_span.whole address whole_span.inside points.within in
      record {
        listed = λ k d inside same.
            let store = get_or stores k d in
            let other : unwrap_or (note_at notes w.machine.cpu.pc).span any_word ≡ store.span = subst (λ n. unwrap_or (note_at notes n).span any_word ≡ store.span) same (open_below.each k d inside).span in
            subst (λ (s : Span). Within s address) (sym (ap (λ (o : Option Span). unwrap_or o any_word) whole_span.there) ∙ other) within;
        unlisted = λ none. go here points.stores none (note_at notes w.machine.cpu.pc).is_open refl;
      } where
        go : Here w found → stores_by_pair found.instr ≡ true → All (λ store. store.at ≢ w.machine.cpu.pc) stores → (b : Bool) → (note_at notes w.machine.cpu.pc).is_open ≡ b → in_data image.regions address ≡ true
        go here store none true is_open =
            absurd (none_listed w.machine.cpu.pc stores
            (open_below.all w.machine.cpu.pc here.small (and_from (note_at notes w.machine.cpu.pc).is_open (is_at stores_by_pair reached w.machine.cpu.pc) is_open (kind_at stores_by_pair w.machine.cpu.pc found here.there store))) none)
        go here store none false unmarked = data_stores w found address keep here.there there unmarked

  -- a PCHL is listed, or goes to a declared target
  pub jump_there : (w : World) (found : Fetched) → StandsOnWalk image w → KeepsToEach image quiet w → fetched_by image.regions w ≡ Some found → is_pchl found.instr ≡ true →
      Contains open_jumps w.machine.cpu.pc ⊎ Contains (declared_targets image.regions w.machine.cpu.pc) (hl_of w.machine.cpu.registers)
  jump_there w found stands keep fetched jump = go (here_if w found stands fetched) ((note_at notes w.machine.cpu.pc).is_open) refl where
    go : Here w found → (b : Bool) → (note_at notes w.machine.cpu.pc).is_open ≡ b → Contains open_jumps w.machine.cpu.pc ⊎ Contains (declared_targets image.regions w.machine.cpu.pc) (hl_of w.machine.cpu.registers)
    go here true marked = inl (each_open_jump.all w.machine.cpu.pc here.small (and_from ((note_at notes w.machine.cpu.pc).is_open) (is_at is_pchl reached w.machine.cpu.pc) marked (kind_at is_pchl w.machine.cpu.pc found here.there jump)))
    go here false unmarked = inr (target_jumps w found keep here.there jump unmarked)

  -- each world of a run keeps to each table
  run_keeps : (start : Machine) → IsStart image start → HoldsBytes start → (most : Option ℕ) (w : World) → IsWorldFrom image start most w → KeepsToEach image quiet w
  run_keeps start begins held most w from = λ t. keeps t start begins held most w from

  goes : (start : Machine) → IsStart image start → HoldsBytes start → (most : Option ℕ) (w : World) (found : Fetched) → IsWorldFrom image start most w → fetched_by image.regions w ≡ Some found → (address : ℕ) →
      Contains (pointed_bytes found.instr w.machine.cpu.registers) address → GoesAsListed image.regions stores w.machine.cpu.pc address
  goes start begins held most w found from fetched address there =
      goes_if w found (walks.stands start begins most w from) (run_keeps start begins held most w from) fetched address there

  go_as_listed : StoresGoAsListed image stores
  go_as_listed start begins held most w found from fetched k d inside =
      goes start begins held most w found from fetched (get_or (pointed_bytes found.instr w.machine.cpu.registers) k d) (Contains-get_or (pointed_bytes found.instr w.machine.cpu.registers) k d inside)

  outside_end : (w : World) (address : ℕ) → GoesAsListed image.regions stores w.machine.cpu.pc address → in_data image.regions address ≡ false →
      Any (λ store. store.at ≡ w.machine.cpu.pc) stores ⊎ All (λ store. store.at ≢ w.machine.cpu.pc) stores → Any (λ store. (store.at ≡ w.machine.cpu.pc) × Within store.span address) stores
  outside_end w address listed no_data (inl (k, store, inside, is, same)) =
      let at : (get_or stores k store).at ≡ w.machine.cpu.pc = ap (λ (s : OpenStore). s.at) is ∙ same in
      (k, store, inside, is, (same, subst (λ (s : OpenStore). Within s.span address) is (listed.listed k store inside at)))
  outside_end w address listed no_data (inr none) = absurd (let e : in_data image.regions address ≡ true = listed.unlisted none in cc)

  turn_there : (most : Option ℕ) (w : World) (found : Fetched) (e : End) → fetched_by image.regions w ≡ Some found → turn_at image.regions most w ≡ Stop e →
      guarded image.regions (guard image.regions found.instr w.machine.cpu) (refuses most w.machine.outputs) found w.machine ≡ Stop e
  turn_there most w found e fetched stops = sym (ap (λ (o : Option Fetched). step_on image.regions (refuses most w.machine.outputs) o w.machine) fetched) ∙ stops

  jump_listed : (w : World) (to : ℕ) → leads_outside (targets_at image.regions w.machine.cpu.pc) (hl_of w.machine.cpu.registers) ≡ true →
      Contains open_jumps w.machine.cpu.pc ⊎ Contains (declared_targets image.regions w.machine.cpu.pc) (hl_of w.machine.cpu.registers) → Contains open_jumps w.machine.cpu.pc
  jump_listed w to outside (inl listed) = listed
  jump_listed w to outside (inr target) = absurd (true≢false (sym outside ∙ not_outside (targets_at image.regions w.machine.cpu.pc) (hl_of w.machine.cpu.registers) target))

  ends_so : (start : Machine) → IsStart image start → HoldsBytes start → (most : Option ℕ) (w : World) (e : End) → IsWorldFrom image start most w → turn_at image.regions most w ≡ Stop e → IsProperEnd e → EndsAsListed stores open_jumps w.machine.cpu.pc e
  ends_so start begins held most w (StoreOutside address) from stops proper =
      let stands = walks.stands start begins most w from in
      let out = step_ends image.regions _ (refuses most w.machine.outputs) stands.found w.machine (StoreOutside address) refl (turn_there most w stands.found (StoreOutside address) stands.fetched stops) in
      outside_end w address (goes start begins held most w stands.found from stands.fetched address out.0) out.1 (listed_or_not w.machine.cpu.pc stores)
  ends_so start begins held most w (JumpOutside to) from stops proper =
      let stands = walks.stands start begins most w from in
      let jump = step_ends image.regions _ (refuses most w.machine.outputs) stands.found w.machine (JumpOutside to) refl (turn_there most w stands.found (JumpOutside to) stands.fetched stops) in
      jump_listed w to jump.1 (jump_there w stands.found stands (run_keeps start begins held most w from) stands.fetched jump.0)
  ends_so start begins held most w (Fetch at) from stops proper = absurd proper
  ends_so start begins held most w (Stack at) from stops proper = absurd proper
  ends_so start begins held most w (Direct at) from stops proper = absurd proper
  ends_so start begins held most w e from stops proper = tt

  -- what is listed is what walks reach
  there_of_kind : (kind : Instr → Bool) (xs : List ℕ) → AreAllBelow (is_at kind reached) 65536 xs → (at : ℕ) → IsReachedAs (code_of image) kind at → Contains xs at
  there_of_kind kind xs below at is =
      let there = there_if_reached (code_of image) reached are at is.reached in
      let same : is.found ≡ there.found = (let f : (code_of image).look at ≡ Ok there.found = there.looked in let g : (code_of image).look at ≡ Ok is.found = is.looked in cc) in
      below.all at (omega (arith, there.within, whole)) (ap (λ (o : Option Fetched). is_kind kind o) there.there ∙ ap (λ (f : Fetched). kind f.instr) (sym same) ∙ is.is)

  all_of_kind : (kind : Instr → Bool) (xs : List ℕ) → AreAllBelow (is_at kind reached) 65536 xs → AreReachedAs (code_of image) kind xs
  all_of_kind kind xs below = record {
    ascending = below.ascending;
    each = λ at. (λ there. kind_there (code_of image) reached are kind at (found_at reached at) refl (below.each at there).1, there_of_kind kind xs below at);
  }

  open_jump_there : (at : ℕ) → Contains open_jumps at → IsReachedAs (code_of image) is_pchl at
  open_jump_there at there = kind_there (code_of image) reached are is_pchl at (found_at reached at) refl (and_parts (note_at notes at).is_open (is_at is_pchl reached at) (each_open_jump.each at there).1).1

  -- a state that leaves a store open shows an address of its whole span that is no data
  open_by : (store : OpenStore) (l : IsListed reached notes store) (left : IsLeftAt image.regions reached shown.first.table store.at) → left.found ≡ l.found → IsOpen image store
  open_by store l left same = go left.leaves where
    go : IsLeftOpen image.regions left.found.instr left.placed.state.known → IsOpen image store
    go (inl may) =
        let at : left.placed.at ≡ store.at = left.here in
        let whole_span = shown.spans left.place left.placed left.found may.span left.there (subst (λ n. found_at reached n ≡ Some left.found) (sym at) left.instr) may.is in
        let mine : (note_at notes store.at).span ≡ Some whole_span.whole = subst (λ n. (note_at notes n).span ≡ Some whole_span.whole) at whole_span.there in
        let its : whole_span.whole ≡ store.span = sym (ap (λ (o : Option Span). unwrap_or o any_word) mine) ∙ l.span in
        let walk = are.found store.at l.found l.there in
        record {
          reached = walk.0;
          found = l.found;
          looked = walk.1;
          instr = l.instr;
          stores = l.stores;
          outside = may.outside;
          within = subst (λ (s : Span). Within s may.outside) its (inside_within may.span whole_span.whole may.outside whole_span.inside may.within);
          no_data = may.no_data;
        }
    go (inr jump) =
        let is : left.found.instr ≡ store.instr = ap (λ (f : Fetched). f.instr) same ∙ l.instr in
        absurd (no_jump store.instr l.stores (sym (ap is_pchl is) ∙ jump))

  open_there : (store : OpenStore) → IsListed reached notes store → IsOpen image store
  open_there store l =
      let left = shown.leaves store.at l.is_open in
      open_by store l left (let f : found_at reached store.at ≡ Some left.found = left.instr in let g : found_at reached store.at ≡ Some l.found = l.there in let e : left.found ≡ l.found = cc in e)

  pub are_stores : AreStoresOf image addresses stores jumps open_jumps
  are_stores = record {
    each_store = all_of_kind stores_by_pair addresses each_store;
    open_ascending = open_below.ascending;
    each_open = λ k d inside. open_there (get_or stores k d) (open_below.each k d inside);
    each_jump = all_of_kind is_pchl jumps each_jump;
    jumps_ascending = each_open_jump.ascending;
    each_open_jump = λ k d inside. open_jump_there (get_or open_jumps k d) (Contains-get_or open_jumps k d inside);
    stores_go = go_as_listed;
    runs_end = λ start begins held most w e from stops. ends_so start begins held most w e from stops (sound.ends start begins most w e from stops);
  }
