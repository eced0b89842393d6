-- Cases by address: one more of them, and those of regions with new ones.
use Rattle.std.specs.Prelude.{◌≡◌, ◌≢◌, ◌==◌, ℕ, suc, ◌+◌, ◌<◌, ◌≤◌, Bool, true, false, List, [], ◌∷◌, ◌++◌, All, AllPairs, IsPermutation, None, Some, find, length, take}
use Rattle.std.specs.Option.{option_map}
use Rattle.std.proofs.Common.{arith, cond, eqb, get_or, refl, subst, sym}
use Rattle.std.proofs.lemmas.Bool.Decides.{nat_tests}
use Rattle.std.proofs.lemmas.Option.{none-some}
use Rattle.std.proofs.lemmas.List.{take_more}
use Rattle.std.proofs.lemmas.List.Elements.{All-append, All-cons, All-head, All-nil, All-push, All-tail}
use Rattle.std.proofs.lemmas.List.Kept.{AllPairs-cons}
use Rattle.std.proofs.lemmas.List.Quantifiers.{all_pairs_push}
use Rattle.std.proofs.lemmas.List.Sorted.{All-permutation}
use Rattle.std.proofs.lemmas.Map.Keys.{IsDistinct-IsPermutation, IsDistinct-from_apart, apart_from_distinct}
use Rattle.image80.specs.Case.{AreByAddress, DeclaredCase, IsCase}
use Rattle.image80.specs.Regions.{Areas}
use Rattle.verify80_cases.specs.Added.{CanBeAdded}

pub no_cases : AreByAddress [] × All (λ (case : DeclaredCase). case.at < 0) []
no_cases = (λ i j d before inside. absurd (omega (arith, inside)), All-nil (λ (case : DeclaredCase). case.at < 0))

-- a case whose address isn't below the limit of those before it
pub case_above : (cases : List DeclaredCase) (i : ℕ) (d : DeclaredCase) (limit : ℕ) → i < length cases → limit ≤ (get_or cases i d).at →
    AreByAddress (take i cases) → All (λ (case : DeclaredCase). case.at < limit) (take i cases) →
    AreByAddress (take (i + 1) cases) × All (λ (case : DeclaredCase). case.at < (get_or cases i d).at + 1) (take (i + 1) cases)
case_above cases i d limit inside above by_address below =
    let one : DeclaredCase = get_or cases i d in (
      subst AreByAddress (sym (take_more cases i d inside))
          (all_pairs_push (λ (a b : DeclaredCase). a.at < b.at) (take i cases) one by_address (λ k e less. omega (arith, below k e less, above))),
      subst (All (λ (case : DeclaredCase). case.at < one.at + 1)) (sym (take_more cases i d inside))
          (All-push (λ (case : DeclaredCase). case.at < one.at + 1) (take i cases) one (λ k e less. omega (arith, below k e less, above)) (omega arith)),
    )

-- what was joined are cases if both were
pub each_joined : (given tabled cases : List DeclaredCase) → All IsCase given → All IsCase tabled → IsPermutation (given ++ tabled) cases → All IsCase cases
each_joined given tabled cases these those moved = All-permutation IsCase (given ++ tabled) cases moved (All-append IsCase given tabled these those)

-- ---- each case has an address of its own

abbrev pub AreApart : List DeclaredCase → Type 0
AreApart cases = AllPairs (λ (one other : DeclaredCase). one.at ≢ other.at) cases

-- no case has an address for which no targets are declared
none_at : (cases : List DeclaredCase) (address : ℕ) → option_map (λ case. case.targets) (find (λ case. case.at == address) cases) ≡ None →
    All (λ case. case.at ≢ address) cases
none_at [] address none = All-nil (λ case. case.at ≢ address)
none_at (k ∷ ks) address none = step (k.at == address) refl none (none_at ks address)
  where
    step : (b : Bool) → (k.at == address) ≡ b → option_map (λ case. case.targets) (cond b (Some k) (find (λ case. case.at == address) ks)) ≡ None →
        (option_map (λ case. case.targets) (find (λ case. case.at == address) ks) ≡ None → All (λ case. case.at ≢ address) ks) →
        All (λ case. case.at ≢ address) (k ∷ ks)
    step true is some rest = absurd (none-some k.targets (sym some))
    step false is none' rest = All-cons (λ case. case.at ≢ address) k ks (λ same. grind (arith, nat_tests)) (rest none')

apart_with : (given found : List DeclaredCase) → AreByAddress given → AreByAddress found → All (λ case. All (λ other. other.at ≢ case.at) given) found →
    AreApart (given ++ found)
apart_with [] found rising found_rising new = λ i j d order inside same. omega (arith, same, found_rising i j d order inside)
apart_with (k ∷ ks) found rising found_rising new =
    AllPairs-cons (λ (one other : DeclaredCase). one.at ≢ other.at) k (ks ++ found)
    (All-append (λ (other : DeclaredCase). k.at ≢ other.at) ks found
    (λ i d inside same. omega (arith, same, rising 0 (suc i) d (omega arith) (omega (arith, inside))))
    (λ i d inside. All-head (λ (other : DeclaredCase). other.at ≢ (get_or found i d).at) k ks (new i d inside)))
    (apart_with ks found (λ i j d order inside. rising (suc i) (suc j) d (omega (arith, order)) (omega (arith, inside))) found_rising
    (λ i d inside. All-tail (λ (other : DeclaredCase). other.at ≢ (get_or found i d).at) k ks (new i d inside)))

-- the cases of regions and those that can be added to them
pub all_apart : (areas : Areas) (given found : List DeclaredCase) → areas.cases ≡ given → AreByAddress given → CanBeAdded areas found → AreApart (given ++ found)
all_apart areas given found cases_are rising new =
    apart_with given found rising new.by_address
    (λ i d inside. none_at given (get_or found i d).at
    (subst (λ (ks : List DeclaredCase). option_map (λ (case : DeclaredCase). case.targets) (find (λ (case : DeclaredCase). case.at == (get_or found i d).at) ks) ≡ None) cases_are
    (new.new i d inside)))

-- they are in any order
abbrev same_address : DeclaredCase → DeclaredCase → Bool
same_address one other = eqb one.at other.at

flips : (one other : DeclaredCase) → same_address one other ≡ same_address other one
flips one other = grind (arith, nat_tests)

differ : (a b : ℕ) → a ≢ b → eqb a b ≡ false
differ a b other = grind (arith, nat_tests)

unlike : (a b : ℕ) → eqb a b ≡ false → a ≢ b
unlike a b is same = grind (arith, nat_tests)

pub apart_moved : (cases moved : List DeclaredCase) → IsPermutation cases moved → AreApart cases → AreApart moved
apart_moved cases moved is apart i j d order inside =
    unlike (get_or moved i d).at (get_or moved j d).at
    (apart_from_distinct same_address moved i j d
    (IsDistinct-IsPermutation same_address flips cases moved is
    (IsDistinct-from_apart same_address cases (λ k l e before within. differ (get_or cases k e).at (get_or cases l e).at (apart k l e before within))))
    order inside)
