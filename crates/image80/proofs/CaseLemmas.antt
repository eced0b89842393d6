-- The case of an address.
use Rattle.std.proofs.Common.{◌≡◌, ◌≢◌, ℕ, zero, suc, ◌<◌, ◌≤◌, ◌==◌, true, false, cond, List, [], ◌∷◌, length, get_or, Some, None, Result, Ok, Err, IfOk, IfErr, refl, ap, sym, subst, ◌∙◌, arith, ◌↔◌}
use Rattle.std.specs.Prelude.{Contains, find}
use Rattle.std.specs.Option.{option_map}
use Rattle.std.specs.List.Sorted.{IsSearchInRange, IsBinarySearchResult, IsNonDecreasingBy}
use Rattle.std.specs.Ordering.{nat_cmp, ordering_index}
use Rattle.std.proofs.lemmas.Bool.{eq-eqb, eqb-true}
use Rattle.std.proofs.lemmas.Bool.Decides.{nat_tests}
use Rattle.std.proofs.lemmas.Cmp.{ranked}
use Rattle.image80.specs.Case.{DeclaredCase, AreByAddress}
use Rattle.image80.specs.Regions.{Areas, AreRegions, targets_at}

pub differ : (a b : ℕ) → a ≢ b → (a == b) ≡ false
differ a b other = grind (arith, nat_tests)

pub by_address-tail : (case : DeclaredCase) (cases : List DeclaredCase) → AreByAddress (case ∷ cases) → AreByAddress cases
by_address-tail case cases rising i j d order inside = rising (suc i) (suc j) d (omega arith) (omega arith)

-- the case with the address is found
pub found_at : (cases : List DeclaredCase) (address i : ℕ) (d : DeclaredCase) → AreByAddress cases → i < length cases → (get_or cases i d).at ≡ address →
    find (λ c. c.at == address) cases ≡ Some (get_or cases i d)
found_at [] address i d rising inside is = absurd (omega arith)
found_at (c ∷ cs) address zero d rising inside is = rw (eq-eqb c.at address is) refl
found_at (c ∷ cs) address (suc i) d rising inside is =
    let below : c.at < (get_or cs i d).at = rising 0 (suc i) d (omega arith) inside in
    rw (differ c.at address (λ same. omega arith)) (found_at cs address i d (by_address-tail c cs rising) (omega arith) is)

-- none is where no case has the address
pub not_found : (cases : List DeclaredCase) (address : ℕ) → ((i : ℕ) (d : DeclaredCase) → i < length cases → (get_or cases i d).at ≢ address) →
    find (λ c. c.at == address) cases ≡ None
not_found [] address none = refl
not_found (c ∷ cs) address none =
    rw (differ c.at address (none 0 c (omega arith))) (not_found cs address (λ i d inside. none (suc i) d (omega arith)))

-- what a binary search by address answers
pub record IsAnswered (cases : List DeclaredCase) (address : ℕ) (r : Result ℕ ℕ) : Type 0 where
  pub found : IfOk r (λ i. (d : DeclaredCase) → find (λ c. c.at == address) cases ≡ Some (get_or cases i d))
  pub absent : IfErr r (λ i. find (λ c. c.at == address) cases ≡ None)

module _ (cases : List DeclaredCase) (rising : AreByAddress cases) (address : ℕ) where
  comparisons_rise : IsNonDecreasingBy (λ c. ordering_index (nat_cmp c.at address)) cases
  comparisons_rise i j d order inside =
      let up : (get_or cases i d).at ≤ (get_or cases j d).at = grind (arith, rising i j d, λ (same : i ≡ j). ap (λ k. (get_or cases k d).at) same) in
      grind (arith, nat_tests)

  pub searched : (r : Result ℕ ℕ) → IsSearchInRange r (length cases) → IsBinarySearchResult (λ c. nat_cmp c.at address) cases r → IsAnswered cases address r
  searched (Ok i) in_range equal = record { found = λ d. found_at cases address i d rising in_range (ranked _ address _ (sym (equal d))); absent = tt }
  searched (Err i) in_range parted = record {
    found = tt;
    absent = not_found cases address (λ k d inside same. grind (arith, (parted comparisons_rise).0 k d, (parted comparisons_rise).1 k d, nat_tests));
  }

-- what is found has the address and is one of the cases
found_is : (cases : List DeclaredCase) (address : ℕ) (case : DeclaredCase) → find (λ c. c.at == address) cases ≡ Some case → (case.at ≡ address) × Contains cases case
found_is [] address case is = cc
found_is (c ∷ cs) address case is =
    (elim (c.at == address) as (λ b. (c.at == address) ≡ b → cond b (Some c) (find (λ k. k.at == address) cs) ≡ Some case → (case.at ≡ address) × Contains (c ∷ cs) case) [
      | true ↦ λ here same. let one : c ≡ case = cc in (sym (ap (λ (k : DeclaredCase). k.at) one) ∙ eqb-true c.at address here, (0, omega arith, one))
      | false ↦ λ other same.
          let later : (case.at ≡ address) × Contains cs case = found_is cs address case same in
          (later.0, (suc later.1.0, omega (arith, later.1.1), later.1.2))
    ]) refl is

-- the declared targets are those of the case
pub declared_exactly : (areas : Areas) (address : ℕ) (targets : List ℕ) → AreRegions areas →
    (targets_at areas address ≡ Some targets) ↔ Contains areas.cases (record { at = address; targets = targets })
declared_exactly areas address targets rules = (
  (elim (find (λ c. c.at == address) areas.cases) as (λ o. find (λ c. c.at == address) areas.cases ≡ o → option_map (λ case. case.targets) o ≡ Some targets →
      Contains areas.cases (record { at = address; targets = targets })) [
        | None ↦ λ is none. cc
        | Some case ↦ λ is some.
            let one : (case.at ≡ address) × Contains areas.cases case = found_is areas.cases address case is in
            let make : ℕ → List ℕ → DeclaredCase = λ a t. record { at = a; targets = t } in
            let same : case ≡ make address targets = ap (λ a. make a case.targets) one.0 ∙ ap (λ t. make address t) (cc) in
            subst (λ k. Contains areas.cases k) same one.1
      ]) refl,
  λ has. ap (λ o. option_map (λ case. case.targets) o)
      (found_at areas.cases address has.0 (record { at = address; targets = targets }) rules.cases_by_address has.1 (ap (λ (k : DeclaredCase). k.at) has.2)
      ∙ ap Some has.2),
)
