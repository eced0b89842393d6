-- What is fetched inside code is fetched if no regions are looked at.
use Rattle.std.specs.Prelude.{◌≡◌, ℕ, ◌+◌, Bool, true, false, ◌&&◌, List, [], ◌∷◌, Option, None, Some, Result, Ok, Err, nat_le, slice_index, if◌then◌else◌}
use Rattle.std.specs.List.{list_all, range_with_len}
use Rattle.std.specs.Result.{result_ok}
use Rattle.std.proofs.Common.{ap, refl, ◌∙◌}
use Rattle.decode80.specs.{Decoded.decoded, declared.instr.Instr.Instr, declared.fetching.Fetched.Fetched, declared.fetching.FetchFault.FetchFault, declared.fetching.FetchFault.TheVariants.Outside}
use Rattle.decode80.specs.Fetch.{admitted_if_used, ahead, all_code, fetch as fetch_in}
use Rattle.image80.specs.Regions.{Areas, in_code}
use Rattle.machine80.specs.Step.{fetch}
use Rattle.verify80.specs.Boards.{fetched_anywhere}

all_true : (xs : List ℕ) → list_all (λ (x : ℕ). true) xs ≡ true
all_true [] = refl
all_true (x ∷ xs) = all_true xs

wider : (first others more : Bool) → more ≡ true → (first && others) ≡ true → (first && more) ≡ true
wider true others more is h = is
wider false others more is h = cc

all_anywhere : (code : ℕ → Bool) (address count : ℕ) → all_code code address count ≡ true → all_code (λ (place : ℕ). true) address count ≡ true
unfolding all_code
all_anywhere code address count h =
    wider (nat_le (address + count) 65536) (list_all code (range_with_len address count)) (list_all (λ (place : ℕ). true) (range_with_len address count)) (all_true (range_with_len address count)) h

by_test : (one other : Bool) (answer found : Fetched) → (one ≡ true → other ≡ true) → (if one then Ok answer else Err Outside) ≡ Ok found → (if other then Ok answer else Err Outside) ≡ Ok found
by_test true other answer found more h = ap (λ (b : Bool). if b then Ok answer else Err Outside) (more refl) ∙ h
by_test false other answer found more h = absurd (cc)

admits_anywhere : (code : ℕ → Bool) (address : ℕ) (o : Option (Instr × ℕ)) (found : Fetched) → admitted_if_used code address o ≡ Ok found → admitted_if_used (λ (place : ℕ). true) address o ≡ Ok found
admits_anywhere code address None found h = absurd (cc)
admits_anywhere code address (Some i) found h =
    by_test (all_code code address i.1) (all_code (λ (place : ℕ). true) address i.1) (record { instr = i.0; next = ahead address i.1 }) found (all_anywhere code address i.1) h

passes : (test : Bool) (answer : Result Fetched FetchFault) (found : Fetched) → (if test then answer else Err Outside) ≡ Ok found → answer ≡ Ok found
passes true answer found h = h
passes false answer found h = absurd (cc)

fetches_anywhere : (code : ℕ → Bool) (held : ℕ → ℕ) (address : ℕ) (found : Fetched) → fetch_in code held address ≡ Ok found → fetch_in (λ (place : ℕ). true) held address ≡ Ok found
unfolding fetch_in
fetches_anywhere code held address found h =
    admits_anywhere code address (decoded (held address) (held (ahead address 1)) (held (ahead address 2))) found
    (passes (code address) (admitted_if_used code address (decoded (held address) (held (ahead address 1)) (held (ahead address 2)))) found h)

was_found : (answer : Result Fetched FetchFault) (found : Fetched) → result_ok answer ≡ Some found → answer ≡ Ok found
was_found (Ok other) found h = let e : Some other ≡ Some found = h in cc
was_found (Err fault) found h = absurd (let e : None ≡ Some found = h in cc)

pub anywhere_of : (regions : Areas) (memory : List ℕ) (at : ℕ) (found : Fetched) → fetch regions memory at ≡ Some found → fetched_anywhere memory at ≡ Some found
unfolding fetch
anywhere_of regions memory at found is =
    ap result_ok (fetches_anywhere (in_code regions) (λ place. slice_index memory place) at found
    (was_found (fetch_in (in_code regions) (λ place. slice_index memory place) at) found is))
