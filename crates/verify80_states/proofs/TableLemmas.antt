-- A table that fits what is reached fits the program.
use Rattle.verify80_states.proofs.Names.{IsBehind, ◌≡◌, ℕ, zero, suc, ◌<◌, Bool, List, [], ◌∷◌, Option, None, Some, Ok, length, slice_get, slice_index_or}
use Rattle.verify80_states.proofs.Names.{refl, subst, sym, ap, ◌∙◌, arith, true, Fetched, Located, World, world_of, Code, code_of, AreReached, IsReached}
use Rattle.verify80_states.proofs.Names.{StandsOnWalk, found_at, Placed, Variable, HoldsBytes, MemoryKeepsItsLength, IsQuietState, anything, HasCode}
use Rattle.verify80_states.proofs.Names.{ReturnFacts, no_returns, Has, KnowsQuiet, AllFit, Fits, nothing_at, FitsWhereReached, map, range_with_len, All-map}
use Rattle.verify80_states.proofs.Names.{slice_get-get_or, get_or-map-range_with_len, length-map-range_with_len, KeepsToCalls, IsKept, FetchedOperandsAreBounded}
use Rattle.verify80_states.proofs.{ByteLemmas.one_of, MemoryLemmas.Ground, CellLemmas.none_quiet, CallLemmas.nothing_owed, KeepLemmas.nothing_holds, KeepLemmas.code_stays, KeepLemmas.still_keeps}

-- an entry that is there is within the table
entry_within : {A : Type 0} (table : List (Option A)) (at : ℕ) (x : A) → slice_index_or table at None ≡ Some x → at < length table
entry_within [] at x h = cc
entry_within (entry ∷ table) zero x h = omega arith
entry_within (entry ∷ table) (suc at) x h = let rest = entry_within table at x h in omega (arith, rest)

-- what a walk finds at an address is what is reached there
found_there : (code : Code) (reached : List (Option Fetched)) (at : ℕ) (found : Fetched) (o : Option Fetched) → AreReached code reached → found_at reached at ≡ o → IsReached code at → code.look at ≡ Ok found → found_at reached at ≡ Some found
found_there code reached at found None are e walk looked = absurd (are.none at e walk)
found_there code reached at found (Some other) are e walk looked =
    let same : other ≡ found = (let there : code.look at ≡ Ok other = (are.found at other e).1 in cc) in
    e ∙ ap (λ (f : Fetched). Some f) same

pub fits_program : (image : Located) (quiet : ℕ → Bool) (reached : List (Option Fetched)) (bytes : List (Option ℕ)) (returns : ReturnFacts) (variables : List Variable) (table : List Placed) → AreReached (code_of image) reached → length reached ≡ 65536 →
    Has variables table image.start anything → AllFit image.regions bytes returns reached variables table → KnowsQuiet quiet table → ((number : ℕ) (v : Variable) → slice_get variables number ≡ Some v → quiet v.at ≡ true) →
    Fits quiet (code_of image) bytes returns variables table
fits_program image quiet reached bytes returns variables table are whole start fit knows quiet_variables = record {
  start = start;
  knows = knows;
  quiet_variables = quiet_variables;
  entries = λ place placed found there walk looked. (one_of (FitsWhereReached image.regions bytes returns reached variables table) table place placed fit.entries there).fits found (here placed.at found walk looked);
  accounts = λ at found walk looked. let there = here at found walk looked in let inside = entry_within reached at found there in (fit.accounts at (omega (arith, inside, whole))).accounts found there;
} where
  here : (at : ℕ) (found : Fetched) → IsReached (code_of image) at → (code_of image).look at ≡ Ok found → found_at reached at ≡ Some found
  here at found walk looked = found_there (code_of image) reached at found (found_at reached at) are refl walk looked

-- a table that says nothing anywhere is kept
pub nothing_is_kept : (image : Located) (quiet : ℕ → Bool) (reached : List (Option Fetched)) (table : List Placed) → AreReached (code_of image) reached → length reached ≡ 65536 → Ground image.regions → FetchedOperandsAreBounded → MemoryKeepsItsLength →
    table ≡ map nothing_at (range_with_len 0 65536) → IsKept image quiet table
nothing_is_kept image quiet reached table are whole ground bounded length_stays is = record {
  returns = no_returns;
  variables = [];
  starts = λ start pc code size held stands. here (world_of start) stands held code size;
  steps = λ refused w after known stands before now keeps step newer.
      here after stands now (code_stays image ground [] bounded refused w.machine after.machine known.stands.found keeps.keeps.placed.state.known before (λ at byte none. cc) keeps.keeps.holds.known known.stands.fetched step keeps.keeps.code)
      (length_stays image.regions refused w.machine after.machine step ∙ keeps.keeps.whole);
  disturbed = λ w memory leaves stays keeps. still_keeps image ground quiet no_returns [] table w memory knows (λ number v there. cc) leaves stays keeps;
} where
  knows : KnowsQuiet quiet table
  knows = subst (KnowsQuiet quiet) (sym is) (All-map (λ (placed : Placed). IsQuietState quiet placed.state) nothing_at (range_with_len 0 65536) (λ k d inside. none_quiet quiet))

  there_at : (at : ℕ) → at < 65536 → slice_get table at ≡ Some (nothing_at at)
  there_at at less = subst (λ (t : List Placed). slice_get t at ≡ Some (nothing_at at)) (sym is)
      (slice_get-get_or (map nothing_at (range_with_len 0 65536)) at (nothing_at at) (let long = length-map-range_with_len nothing_at 0 65536 in omega (arith, long, less))
      ∙ ap (λ (p : Placed). Some p) (get_or-map-range_with_len nothing_at 0 65536 at at (nothing_at at) less (omega arith)))

  here : (w : World) → StandsOnWalk image w → HoldsBytes w.machine → HasCode image w.machine.memory → length w.machine.memory ≡ 65536 → KeepsToCalls image no_returns [] table w
  here w stands held code size =
      let pc = w.machine.cpu.pc in
      let inside = entry_within reached pc stands.found (found_there (code_of image) reached pc stands.found (found_at reached pc) are refl stands.reached stands.looked) in
      record {
        keeps = record {
          place = pc;
          placed = nothing_at pc;
          there = there_at pc (omega (arith, inside, whole));
          at = refl;
          holds = nothing_holds image.regions ground 0 w.machine held;
          code = code;
          whole = size;
        };
        set = λ v named. absurd (let there = named.there in cc there);
        owes = nothing_owed (IsBehind [] table w.machine.memory) w.machine.cpu.pc w.places;
      }
