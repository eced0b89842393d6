-- A program that a table of frames fits never goes wrong.
use Rattle.std.specs.Prelude.{◌≡◌, ℕ, zero, suc, ◌+◌, ◌-◌, ◌*◌, ◌%◌, ◌<◌, ◌≤◌, Bool, true, false, not, ◌&&◌, List, [], ◌∷◌, Option, None, Some, Ok, All, length, slice_index_or, refl, if◌then◌else◌}
use Rattle.std.specs.List.{list_all, range_with_len}
use Rattle.std.proofs.Common.{◌∙◌, ap, sym, subst, arith, cond}
use Rattle.std.proofs.lemmas.List.{length-map}
use Rattle.decode80.specs.declared.instr.Instr.{Instr}
use Rattle.decode80.specs.declared.instr.Instr.TheVariants.{Hlt, In, Out, Pchl}
use Rattle.decode80.specs.declared.fetching.Fetched.{Fetched}
use Rattle.decode80.specs.Fetch.{direct_bytes, FetchReadsCodeAlone}
use Rattle.frames80.specs.declared.word.Word.TheVariants.{Own, Any}
use Rattle.frames80.specs.declared.frame_pair.FramePair.{FramePair}
use Rattle.frames80.specs.declared.frame_pair.FramePair.TheVariants.{Bc, De, Hl}
use Rattle.frames80.specs.StackFrame.{main_frame, pair_in, unknown}
use Rattle.frames80.specs.Places.{ChangesByPlaces, ReturnsByPlaces}
use Rattle.image80.specs.Regions.{Areas, in_data, targets_at}
use Rattle.image80.specs.Image.{Located, memory_of, byte_at}
use Rattle.machine80.specs.declared.end.End.{End}
use Rattle.machine80.specs.declared.end.End.TheVariants.{StoreOutside, JumpOutside, Stack, Direct}
use Rattle.machine80.specs.Cpu.{hl_of}
use Rattle.machine80.specs.Ports.{next_input}
use Rattle.machine80.specs.Effects.{stack_bytes, pointed_bytes, target}
use Rattle.machine80.specs.Step.{Machine, Turn, Next, Stop, fetch, guard, guarded, execute, turn_of, leads_outside, proceeded, with_input, step_on, first_outside, ends_at}
use Rattle.machine80.specs.Run.{world_of}
use Rattle.machine80.specs.World.{World, world_at, world_at_start, turn_at, next_world, following, world_after, places_then, places_after}
use Rattle.machine80.specs.World.{refuses, returns, IsJustBelow, IsWorldOf, fetched_by, IsNewest, IsProperEnd, NeverGoesWrong}
use Rattle.frames80.specs.declared.procedure.Procedure.TheVariants.{Main}
use Rattle.verify80_flow.specs.Fitting.{Table, Has, Fits, IsFitted}
use Rattle.verify80.specs.Looking.{code_of, is_declared}
use Rattle.verify80.specs.LookLaws.{IsAdmitted, LooksFindWhatIsAdmitted}
use Rattle.verify80.specs.Starts.{IsStart, IsWorldFrom, NeverGoesWrongFromPowerOn}
use Rattle.verify80.proofs.StackLemmas.{pointer}
use Rattle.verify80.proofs.StoreLemmas.{Ground}
use Rattle.verify80.proofs.FetchLemmas.{fetch_here}
use Rattle.verify80.proofs.ChainLemmas.{in_main, Watched, arrived}
use Rattle.verify80.proofs.SafeLemmas.{Safe, is_safe}

-- two tests that both hold
both : (a b : Bool) → (a && b) ≡ true → (a ≡ true) × (b ≡ true)
both true b h = (refl, h)
both false b h = cc

-- tests that hold of each item
passes_on : (f : ℕ → Bool) (x : ℕ) (xs : List ℕ) → f x ≡ true → All (λ y. f y ≡ true) xs → All (λ y. f y ≡ true) (x ∷ xs)
passes_on f x xs first rest = go where
  go : (k d : ℕ) → k < length (x ∷ xs) → f (slice_index_or (x ∷ xs) k d) ≡ true
  go zero d inside = first
  go (suc k) d inside = rest k d (omega arith)

pub all_pass : (f : ℕ → Bool) (xs : List ℕ) → list_all f xs ≡ true → All (λ x. f x ≡ true) xs
all_pass f [] h = λ k d inside. absurd (omega arith)
all_pass f (x ∷ xs) h = passes_on f x xs (both (f x) (list_all f xs) h).0 (all_pass f xs (both (f x) (list_all f xs) h).1)

pub none_outside : (f : ℕ → Bool) (xs : List ℕ) → list_all f xs ≡ true → first_outside f xs ≡ None
none_outside f [] h = refl
none_outside f (x ∷ xs) h =
    let parts = both (f x) (list_all f xs) h in
    ap (λ (b : Bool). cond (not b) (Some x) (first_outside f xs)) parts.0 ∙ none_outside f xs parts.1

-- what a turn leads to
abbrev end_of_turn : End → Turn → End
end_of_turn otherwise (Next m) = otherwise
end_of_turn otherwise (Stop e) = e

end_in : {e f : End} → Stop e ≡ Stop f → e ≡ f
end_in {e} h = ap (end_of_turn e) h

abbrev world_or : World → Option World → World
world_or otherwise None = otherwise
world_or otherwise (Some w) = w

pub world_in : {w v : World} → Some w ≡ Some v → w ≡ v
world_in {w} h = ap (world_or w) h

-- an end of an instruction that is executed
input_ends : (next port : ℕ) (m : Machine) (byte : Option ℕ) (e : End) → with_input m next port byte ≡ Stop e → IsProperEnd e
input_ends next port m None e h = subst IsProperEnd (end_in h) tt
input_ends next port m (Some byte) e h = cc

output_ends : (regions : Areas) (refused : Bool) (next port : ℕ) (m : Machine) (e : End) → execute regions refused (Out port) next m ≡ Stop e → IsProperEnd e
output_ends regions true next port m e h = subst IsProperEnd (end_in h) tt
output_ends regions false next port m e h = cc

jump_ends : (outside : Bool) (to : ℕ) (after : Machine) (e : End) → turn_of (if outside then Some (JumpOutside to) else None) after ≡ Stop e → IsProperEnd e
jump_ends true to after e h = subst IsProperEnd (end_in h) tt
jump_ends false to after e h = cc

execute_ends : (regions : Areas) (refused : Bool) (i : Instr) (next : ℕ) (m : Machine) (e : End) → execute regions refused i next m ≡ Stop e → IsProperEnd e
execute_ends regions refused Hlt next m e h = subst IsProperEnd (end_in h) tt
execute_ends regions refused (In port) next m e h = input_ends next port m (next_input m.inputs port) e h
execute_ends regions refused (Out port) next m e h = output_ends regions refused next port m e h
execute_ends regions refused Pchl next m e h = jump_ends (leads_outside (targets_at regions m.cpu.pc) (hl_of m.cpu.registers)) (hl_of m.cpu.registers) (proceeded Pchl next m) e h
execute_ends regions refused i next m e h = cc

guarded_ends : (regions : Areas) (o : Option ℕ) (refused : Bool) (found : Fetched) (m : Machine) (e : End) → guarded regions (ends_at o StoreOutside None) refused found m ≡ Stop e → IsProperEnd e
guarded_ends regions None refused found m e h = execute_ends regions refused found.instr found.next m e h
guarded_ends regions (Some a) refused found m e h = subst IsProperEnd (end_in h) tt

range_length : (first count : ℕ) → length (range_with_len first count) ≡ count
range_length first zero = refl
range_length first (suc count) = ap suc (range_length (first + 1) count)

full : (image : Located) → length (memory_of image.chunks) ≡ 65536
unfolding memory_of
full image = length-map (range_with_len 0 65536) (byte_at image.chunks) ∙ range_length 0 65536

-- the instruction at a watched world is the image's
module _ (image : Located) (table : Table) (most : ℕ) (rules : Ground image.regions) (fits : Fits (code_of image) table) (printed : table.bound Main ≡ most) (within : most ≤ image.regions.stack.length)
    (changes : ChangesByPlaces) (returns_law : ReturnsByPlaces) (looks : LooksFindWhatIsAdmitted) (fetches : FetchReadsCodeAlone) where
  pub record Finds (w : World) : Type 0 where
    pub found : Fetched
    pub looked : (code_of image).look w.machine.cpu.pc ≡ Ok found
    pub fetched : fetched_by image.regions w ≡ Some found
    pub declared : found.instr ≡ Pchl → is_declared image.regions w.machine.cpu.pc ≡ true
    pub stores : list_all (in_data image.regions) (direct_bytes found.instr) ≡ true
    pub safe : Safe image table most w found.instr found.next

  pub finds : (w : World) → Watched image table most w → Finds w
  finds w s =
      let fit = fits.frames s.procedure w.machine.cpu.pc s.frame s.there in
      let admitted : IsAdmitted image.regions (memory_of image.chunks) w.machine.cpu.pc fit.found =
      (looks image.regions (memory_of image.chunks) w.machine.cpu.pc fit.found).0 fit.moving.looked in
      record {
        found = fit.found;
        looked = fit.moving.looked;
        fetched = fetch_here fetches image w.machine.memory w.machine.cpu.pc fit.found s.code admitted.fetched;
        declared = admitted.declared;
        stores = admitted.stores;
        safe = is_safe image table most rules fits within changes returns_law w s fit.found.next fit.moves (record { on = fit.on; call = fit.call; return = fit.return }) fit.found.instr admitted.declared fit.moving.moved;
      }

  -- the turn of what is fetched
  turn_there : (limit : Option ℕ) (w : World) (f : Finds w) → turn_at image.regions limit w ≡ guarded image.regions (guard image.regions f.found.instr w.machine.cpu) (refuses limit w.machine.outputs) f.found w.machine
  turn_there limit w f = ap (λ (o : Option Fetched). step_on image.regions (refuses limit w.machine.outputs) o w.machine) f.fetched

  -- what holds of the machine that an instruction leaves holds of the next world
  turned : (P : World → Type 0) (w after : World) (f : Finds w) (t : Turn) (places : List ℕ) → places ≡ places_after f.found.instr f.found.next w.machine.cpu.registers.flags w.places →
      ((m : Machine) → t ≡ Next m → P (record { machine = m; places = places_after f.found.instr f.found.next w.machine.cpu.registers.flags w.places })) →
      world_after t places ≡ Some after → P after
  turned P w after f (Next m) places same holds h =
      subst P (world_in h)
      (subst (λ (ps : List ℕ). P (record { machine = m; places = ps })) (sym same) (holds m refl))
  turned P w after f (Stop e) places same holds h = cc

  guarded_turn : (P : World → Type 0) (limit : Option ℕ) (w after : World) (f : Finds w) (g : Option End) (places : List ℕ) → guard image.regions f.found.instr w.machine.cpu ≡ g →
      places ≡ places_after f.found.instr f.found.next w.machine.cpu.registers.flags w.places →
      ((m : Machine) → guard image.regions f.found.instr w.machine.cpu ≡ None → execute image.regions (refuses limit w.machine.outputs) f.found.instr f.found.next w.machine ≡ Next m →
      P (record { machine = m; places = places_after f.found.instr f.found.next w.machine.cpu.registers.flags w.places })) →
      world_after (guarded image.regions g (refuses limit w.machine.outputs) f.found w.machine) places ≡ Some after → P after
  guarded_turn P limit w after f (Some e) places pass same holds h = cc
  guarded_turn P limit w after f None places pass same holds h =
      turned P w after f (execute image.regions (refuses limit w.machine.outputs) f.found.instr f.found.next w.machine) places same (λ m e. holds m pass e) h

  pub leads_on : (P : World → Type 0) (limit : Option ℕ) (w after : World) (f : Finds w) →
      ((m : Machine) → guard image.regions f.found.instr w.machine.cpu ≡ None → execute image.regions (refuses limit w.machine.outputs) f.found.instr f.found.next w.machine ≡ Next m →
      P (record { machine = m; places = places_after f.found.instr f.found.next w.machine.cpu.registers.flags w.places })) →
      next_world image.regions limit w ≡ Some after → P after
  leads_on P limit w after f holds h =
      let places : List ℕ = places_then (fetch image.regions w.machine.memory w.machine.cpu.pc) w.machine.cpu.registers.flags w.places in
      guarded_turn P limit w after f (guard image.regions f.found.instr w.machine.cpu) places refl
      (ap (λ (o : Option Fetched). places_then o w.machine.cpu.registers.flags w.places) f.fetched) holds
      (ap (λ (t : Turn). world_after t places) (sym (turn_there limit w f)) ∙ h)

  -- the next world is watched too
  stays_watched : (limit : Option ℕ) (w after : World) → Watched image table most w → next_world image.regions limit w ≡ Some after → Watched image table most after
  stays_watched limit w after s h =
      let f : Finds w = finds w s in
      leads_on (Watched image table most) limit w after f (λ m pass e. f.safe.goes_on (refuses limit w.machine.outputs) m pass e) h

  followed : (limit : Option ℕ) (w : World) (o : Option World) → ((v : World) → o ≡ Some v → Watched image table most v) → following image.regions limit o ≡ Some w → Watched image table most w
  followed limit w None before h = cc
  followed limit w (Some v) before h = stays_watched limit v w (before v refl) h

  -- a start is watched
  pub begins_watched : (start : Machine) → IsStart image start → Watched image table most (world_of start)
  begins_watched start is =
      arrived image table most start [] Main main_frame 0 0 (record {
        has = subst (λ a. Has table Main a main_frame) (sym is.pc) fits.start;
        pointer = is.sp ∙ (let e : (image.regions.stack.first + image.regions.stack.length) % 65536 ≡ pointer (image.regions.stack.first + image.regions.stack.length) (0 + 0) = ap (λ n. n % 65536) (let d : image.regions.stack.first + image.regions.stack.length ≡ image.regions.stack.first + image.regions.stack.length - 2 * (0 + 0) = omega arith in d) in e);
        words = λ i own. absurd (let e : Any ≡ Own = own in cc);
        pairs = λ pair own. absurd (none_known pair own);
        chain = in_main Main 0 0 0 [] (record { procedure = refl; ground = refl; none = refl }) (record { fits = omega (arith, printed) });
        code = record { bytes = λ a here. sym (is.code a here) };
        size = is.whole;
      })
    where
      none_known : (pair : FramePair) → pair_in unknown pair ≡ Own → ⊥
      none_known Bc own = let e : Any ≡ Own = own in cc
      none_known De own = let e : Any ≡ Own = own in cc
      none_known Hl own = let e : Any ≡ Own = own in cc

  always_watched : (start : Machine) → IsStart image start → (limit : Option ℕ) (n : ℕ) (w : World) → world_at image.regions limit (world_of start) n ≡ Some w → Watched image table most w
  always_watched start is limit zero w h = subst (λ (x : World). Watched image table most x) (world_in h) (begins_watched start is)
  always_watched start is limit (suc n) w h =
      followed limit w (world_at image.regions limit (world_of start) n) (always_watched start is limit n) h

  pub watched_from : (start : Machine) → IsStart image start → (limit : Option ℕ) (w : World) → IsWorldFrom image start limit w → Watched image table most w
  watched_from start is limit w at = always_watched start is limit at.steps w at.is

  pub same_found : (w : World) (f : Finds w) (found : Fetched) → fetched_by image.regions w ≡ Some found → f.found ≡ found
  same_found w f found fetched = let there = f.fetched in cc (there, fetched)

  -- the guard finds a store through a pair alone
  pub passes_guard : (w : World) (f : Finds w) → guard image.regions f.found.instr w.machine.cpu ≡ ends_at (first_outside (in_data image.regions) (pointed_bytes f.found.instr w.machine.cpu.registers)) StoreOutside None
  passes_guard w f =
      let last_one : Option End = ends_at (first_outside (in_data image.regions) (pointed_bytes f.found.instr w.machine.cpu.registers)) StoreOutside None in
      let direct : first_outside (in_data image.regions) (direct_bytes f.found.instr) ≡ None = none_outside (in_data image.regions) (direct_bytes f.found.instr) f.stores in
      ap (λ (o : Option ℕ). ends_at o Stack (ends_at (first_outside (in_data image.regions) (direct_bytes f.found.instr)) Direct last_one)) f.safe.touches.inside
      ∙ ap (λ (o : Option ℕ). ends_at o Direct last_one) direct

  pub never_goes_wrong : NeverGoesWrongFromPowerOn image most
  never_goes_wrong = record {
    fetches_and_stores = λ start is limit w at.
        let f = finds w (watched_from start is limit w at) in
        record { found = f.found; fetched = f.fetched; direct = all_pass (in_data image.regions) (direct_bytes f.found.instr) f.stores; declared = f.declared };
    returning = λ start is limit w found at fetched taken.
        let f = finds w (watched_from start is limit w at) in
        let same = same_found w f found fetched in
        subst (λ (x : Fetched). returns x.instr w.machine.cpu.registers.flags ≡ true → IsNewest (target x.instr x.next w.machine.memory w.machine.cpu) w.places) same f.safe.returning taken;
    stack = λ start is limit w found at fetched.
        let f = finds w (watched_from start is limit w at) in
        let same = same_found w f found fetched in
        subst (λ (x : Fetched). All (IsJustBelow ((image.regions.stack.first + image.regions.stack.length) % 65536) most) (stack_bytes x.instr w.machine.cpu)) same f.safe.touches.below;
    ends = λ start is limit w e at stops.
        let f = finds w (watched_from start is limit w at) in
        guarded_ends image.regions (first_outside (in_data image.regions) (pointed_bytes f.found.instr w.machine.cpu.registers)) (refuses limit w.machine.outputs) f.found w.machine e
        (ap (λ (o : Option End). guarded image.regions o (refuses limit w.machine.outputs) f.found w.machine) (sym (passes_guard w f)) ∙ sym (turn_there limit w f) ∙ stops);
  }

-- an image that is fitted never goes wrong from power-on
pub fitted_never_goes_wrong_from_power_on : ChangesByPlaces → ReturnsByPlaces → LooksFindWhatIsAdmitted → FetchReadsCodeAlone → (image : Located) (bytes : ℕ) → Ground image.regions → IsFitted (code_of image) bytes →
    bytes ≤ image.regions.stack.length → NeverGoesWrongFromPowerOn image bytes
fitted_never_goes_wrong_from_power_on changes returns_law looks fetches image bytes ground fitted enough =
    never_goes_wrong image fitted.table bytes ground fitted.fits fitted.printed enough changes returns_law looks fetches

-- the machine on which a run of an image begins with all else 0 is one from power-on
pub own_start : (image : Located) (inputs : List (List ℕ)) (outputs : List (ℕ × ℕ)) → IsStart image (world_at_start image inputs outputs).machine
own_start image inputs outputs = record { pc = refl; sp = refl; whole = full image; code = λ a here. refl }

-- so an image that never goes wrong from power-on never goes wrong
pub from_power_on : (image : Located) (bytes : ℕ) → NeverGoesWrongFromPowerOn image bytes → NeverGoesWrong image bytes
from_power_on image bytes never = record {
  fetches_and_stores = λ limit w at. never.fetches_and_stores (begun limit w at) (own_start image at.inputs at.outputs) limit w (from limit w at);
  returning = λ limit w found at. never.returning (begun limit w at) (own_start image at.inputs at.outputs) limit w found (from limit w at);
  stack = λ limit w found at. never.stack (begun limit w at) (own_start image at.inputs at.outputs) limit w found (from limit w at);
  ends = λ limit w e at. never.ends (begun limit w at) (own_start image at.inputs at.outputs) limit w e (from limit w at);
}
  where
    begun : (limit : Option ℕ) (w : World) → IsWorldOf image limit w → Machine
    begun limit w at = (world_at_start image at.inputs at.outputs).machine

    from : (limit : Option ℕ) (w : World) (at : IsWorldOf image limit w) → IsWorldFrom image (begun limit w at) limit w
    from limit w at = record { steps = at.steps; is = at.is }
