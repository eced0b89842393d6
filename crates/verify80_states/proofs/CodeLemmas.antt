-- Tables with an entry for each address: marks, and the bytes of code.
use Rattle.verify80_states.proofs.Names.{◌≡◌, ◌∙◌, ◌<◌, ◌≤◌, ℕ, Bool, true, false, List, Option, None, Some, map, range_with_len, slice_index}
use Rattle.verify80_states.proofs.Names.{get_or, if◌then◌else◌, inl, inr, refl, sym, subst, arith, get_or-map-range_with_len, length-map-range_with_len}
use Rattle.verify80_states.proofs.Names.{Areas, Located, in_code, memory_of, entry_at, is_marked, true≢false, AreCodeBytes}
use Rattle.verify80_states.specs.Steps.{code_in}
use Rattle.std.proofs.lemmas.{Bool.cases_lt, List.get_or_past}

read_at : {A : Type 0} (f : ℕ → A) (at : ℕ) (d : A) → at < 65536 → get_or (map f (range_with_len 0 65536)) at d ≡ f at
read_at f at d less = get_or-map-range_with_len f 0 65536 at at d less (omega arith)

read_past : {A : Type 0} (f : ℕ → A) (at : ℕ) (d : A) → 65536 ≤ at → get_or (map f (range_with_len 0 65536)) at d ≡ d
read_past f at d past = get_or_past (map f (range_with_len 0 65536)) at d (let long = length-map-range_with_len f 0 65536 in omega (arith, long, past))

-- an address that is marked is one of memory that passes the test
pub marked_by : (test : ℕ → Bool) (at : ℕ) → is_marked (map test (range_with_len 0 65536)) at ≡ true → test at ≡ true
marked_by test at marked = elim (cases_lt at 65536) [
  | inl less ↦ sym (read_at test at false less) ∙ marked
  | inr past ↦ absurd (true≢false (sym marked ∙ read_past test at false past))
]

-- the bytes of code
code_go : (b : Bool) (regions : Areas) (memory : List ℕ) (at byte : ℕ) → in_code regions at ≡ b → (if b then Some (slice_index memory at) else None) ≡ Some byte → (in_code regions at ≡ true) × (slice_index memory at ≡ byte)
code_go true regions memory at byte e h = (e, cc)
code_go false regions memory at byte e h = cc

pub code_are : (image : Located) (regions : Areas) (memory : List ℕ) (code : List (Option ℕ)) → regions ≡ image.regions → memory ≡ memory_of image.chunks → code ≡ map (code_in regions memory) (range_with_len 0 65536) → AreCodeBytes image code
code_are image regions memory code same bytes are at byte is = elim (cases_lt at 65536) [
  | inl less ↦ code_go (in_code image.regions at) image.regions (memory_of image.chunks) at byte refl (sym (read_at (code_in image.regions (memory_of image.chunks)) at None less) ∙ here)
  | inr past ↦ absurd (let none = read_past (code_in image.regions (memory_of image.chunks)) at None past in cc (none, here))
] where
  here : entry_at (map (code_in image.regions (memory_of image.chunks)) (range_with_len 0 65536)) at ≡ Some byte
  here = subst (λ (r : Areas). entry_at (map (code_in r (memory_of image.chunks)) (range_with_len 0 65536)) at ≡ Some byte) same
      (subst (λ (m : List ℕ). entry_at (map (code_in regions m) (range_with_len 0 65536)) at ≡ Some byte) bytes (subst (λ (t : List (Option ℕ)). entry_at t at ≡ Some byte) are is))
