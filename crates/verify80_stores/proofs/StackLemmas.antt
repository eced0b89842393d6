-- Marked addresses that are closed are all that the main program may reach with SP not set.
use Rattle.verify80_stores.proofs.Names.{◌≡◌, ◌<◌, ◌==◌, ◌||◌, ℕ, Bool, true, false, not, List, [], ◌∷◌, Some, None, Result, Ok, Err, length}
use Rattle.verify80_stores.proofs.Names.{slice_index, refl, list_all, list_any, result_ok, ◌∙◌, ap, sym, subst, inl, inr, true≢false, cases_lt}
use Rattle.verify80_stores.proofs.Names.{eqb-true, get_or_past, Fetched, FetchFault, flow, Located, memory_of, in_code, HasAt, IsUnset, starts}
use Rattle.verify80_stores.proofs.Names.{goes_on, SetsStack, sets_sp, uses_sp, is_marked, AreClosed, IsClosedAt, LeadsToMarked, and_parts, same_Some}
use Rattle.decode80.specs.{Fetch.fetch as fetch_in}
use Rattle.machine80.specs.Step.{fetch}

-- what is fetched of an image's memory is what the image has there
abbrev Finds : Located → (at : ℕ) → Result Fetched FetchFault → Type 0
Finds image at found = fetch_in (in_code image.regions) (λ place. slice_index (memory_of image.chunks) place) at ≡ found

has_found : (image : Located) (at : ℕ) (found other : Fetched) → Finds image at (Ok found) → HasAt image at other → found ≡ other
unfolding fetch
has_found image at found other finds has = same_Some found other (sym (ap result_ok finds) ∙ has)

has_none : (image : Located) (at : ℕ) (fault : FetchFault) (other : Fetched) → Finds image at (Err fault) → HasAt image at other → ⊥
unfolding fetch
has_none image at fault other finds has = let e : None ≡ Some other = sym (ap result_ok finds) ∙ has in cc

-- when an address is closed
pub closed_by : (image : Located) (marks : List Bool) (at : ℕ) (found : Fetched) → Finds image at (Ok found) → uses_sp found.instr ≡ false →
    (sets_sp found.instr ≡ false → LeadsToMarked image.regions marks at (flow found.instr) found.next) → IsClosedAt image marks at
closed_by image marks at found finds off leads = record {
  free = λ other has. subst (λ (x : Fetched). uses_sp x.instr ≡ false) (has_found image at found other finds has) off;
  leads = λ other has.
      subst (λ (x : Fetched). sets_sp x.instr ≡ false → LeadsToMarked image.regions marks at (flow x.instr) x.next) (has_found image at found other finds has) leads;
}

pub closed_without : (image : Located) (marks : List Bool) (at : ℕ) (fault : FetchFault) → Finds image at (Err fault) → IsClosedAt image marks at
closed_without image marks at fault finds = record {
  free = λ other has. absurd (has_none image at fault other finds has);
  leads = λ other has unset. absurd (has_none image at fault other finds has);
}

-- targets that are marked
pub target_marked : (marks : List Bool) (targets : List ℕ) (to : ℕ) → list_all (is_marked marks) targets ≡ true → not (list_any (λ target. target == to) targets) ≡ false →
    is_marked marks to ≡ true
target_marked marks [] to all inside = absurd (true≢false inside)
target_marked marks (target ∷ targets) to all inside =
    by (and_parts (is_marked marks target) (list_all (is_marked marks) targets) all).0
    (λ rest. target_marked marks targets to (and_parts (is_marked marks target) (list_all (is_marked marks) targets) all).1 rest)
    (target == to) refl inside
  where
    by : is_marked marks target ≡ true → (not (list_any (λ t. t == to) targets) ≡ false → is_marked marks to ≡ true) → (b : Bool) → (target == to) ≡ b →
        not (b || list_any (λ t. t == to) targets) ≡ false → is_marked marks to ≡ true
    by here later true same e = subst (λ n. is_marked marks n ≡ true) (eqb-true target to same) here
    by here later false other e = later e

-- a marked address is one of memory
inside : (marks : List Bool) (at : ℕ) → length marks ≡ 65536 → is_marked marks at ≡ true → at < 65536
inside marks at whole marked = elim (cases_lt at (length marks)) [
  | inl less ↦ subst (λ n. at < n) whole less
  | inr past ↦ absurd (true≢false (sym marked ∙ get_or_past marks at false past))
]

all_marked : (image : Located) (marks : List Bool) → length marks ≡ 65536 → is_marked marks image.start ≡ true → AreClosed image marks 65536 →
    (at : ℕ) → IsUnset image at → is_marked marks at ≡ true
all_marked image marks whole begins closed at (starts _ is) = subst (λ a. is_marked marks a ≡ true) (sym is) begins
all_marked image marks whole begins closed to (goes_on at found _ before there unset goes) =
    let marked = all_marked image marks whole begins closed at before in
    (closed at (inside marks at whole marked) marked).leads found there unset to goes

pub sets_stack : (image : Located) (marks : List Bool) → length marks ≡ 65536 → is_marked marks image.start ≡ true → AreClosed image marks 65536 → SetsStack image
sets_stack image marks whole begins closed at found unset there =
    let marked = all_marked image marks whole begins closed at unset in
    (closed at (inside marks at whole marked) marked).free found there
