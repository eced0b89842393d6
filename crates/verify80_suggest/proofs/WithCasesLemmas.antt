-- Regions without cases, and the same with cases.
use Rattle.std.proofs.Common.{◌≡◌, ◌<◌, ◌==◌, ◌⊎◌, inl, inr, ℕ, zero, suc, List, [], ◌∷◌, ◌++◌, None, All, length, get_or, refl, sym, ◌∙◌, ap, subst, arith}
use Rattle.std.specs.Prelude.{Contains, IsPermutation, find}
use Rattle.std.specs.Option.{option_map}
use Rattle.std.proofs.lemmas.List.Sorted.{Contains-permutation, IsPermutation-sym}
use Rattle.image80.specs.Case.{AreByAddress, DeclaredCase}
use Rattle.image80.specs.Regions.{Areas, targets_at}
use Rattle.image80.specs.RegionsText.{Refuses, Spells}
use Rattle.image80.specs.declared.fault.RegionsFault.{RegionsFault}
use Rattle.image80.specs.declared.fault.RegionsFault.TheVariants.{Memory}
use Rattle.verify80_cases.specs.Added.{AddsCases}

by_address-tail : (case : DeclaredCase) (cases : List DeclaredCase) → AreByAddress (case ∷ cases) → AreByAddress cases
by_address-tail case cases rising i j d order inside = rising (suc i) (suc j) d (omega (arith, order)) (omega (arith, inside))

-- a case behind the first is above it
above_first : (case : DeclaredCase) (cases : List DeclaredCase) (other : DeclaredCase) → AreByAddress (case ∷ cases) → Contains cases other → case.at < other.at
above_first case cases other rising has = subst (λ (k : DeclaredCase). case.at < k.at) has.2 (rising 0 (suc has.0) other (omega arith) (omega (arith, has.1)))

-- a case is the first or one behind it
first_or_rest : (case : DeclaredCase) (cases : List DeclaredCase) (other : DeclaredCase) → Contains (case ∷ cases) other → (case ≡ other) ⊎ Contains cases other
first_or_rest case cases other has = at has.0 has.1 has.2
  where
    at : (k : ℕ) → k < length (case ∷ cases) → get_or (case ∷ cases) k other ≡ other → (case ≡ other) ⊎ Contains cases other
    at zero inside is = inl is
    at (suc k) inside is = inr (k, omega (arith, inside), is)

-- cases by address that are the same set are the same
same_by_address : (xs ys : List DeclaredCase) → AreByAddress xs → AreByAddress ys → ((case : DeclaredCase) → Contains xs case → Contains ys case) →
    ((case : DeclaredCase) → Contains ys case → Contains xs case) → xs ≡ ys
same_by_address [] [] xs_rise ys_rise there back = refl
same_by_address [] (y ∷ ys) xs_rise ys_rise there back = absurd (omega (arith, (back y (0, omega arith, refl)).1))
same_by_address (x ∷ xs) [] xs_rise ys_rise there back = absurd (omega (arith, (there x (0, omega arith, refl)).1))
same_by_address (x ∷ xs) (y ∷ ys) xs_rise ys_rise there back =
    ap (λ k. k ∷ xs) same ∙ ap (λ ks. y ∷ ks)
    (same_by_address xs ys (by_address-tail x xs xs_rise) (by_address-tail y ys ys_rise)
    (λ case has. rest y ys case (subst (λ (k : DeclaredCase). k.at < case.at) same (above_first x xs case xs_rise has)) (there case (suc has.0, omega (arith, has.1), has.2)))
    (λ case has. rest x xs case (subst (λ (k : DeclaredCase). k.at < case.at) (sym same) (above_first y ys case ys_rise has)) (back case (suc has.0, omega (arith, has.1), has.2))))
  where
    first : (x ≡ y) ⊎ Contains xs y → (y ≡ x) ⊎ Contains ys x → x ≡ y
    first (inl is) other = is
    first (inr behind) (inl is) = sym is
    first (inr behind) (inr before) = absurd (omega (arith, above_first x xs y xs_rise behind, above_first y ys x ys_rise before))

    same : x ≡ y
    same = first (first_or_rest x xs y (back y (0, omega arith, refl))) (first_or_rest y ys x (there x (0, omega arith, refl)))

    rest : (k : DeclaredCase) (ks : List DeclaredCase) (case : DeclaredCase) → k.at < case.at → Contains (k ∷ ks) case → Contains ks case
    rest k ks case below has = of_either (first_or_rest k ks case has)
      where
        of_either : (k ≡ case) ⊎ Contains ks case → Contains ks case
        of_either (inl is) = absurd (omega (arith, below, ap (λ (c : DeclaredCase). c.at) is))
        of_either (inr has') = has'

-- no targets are declared
pub none_declared : (areas : Areas) (cases : List DeclaredCase) → areas.cases ≡ [] → All (λ case. targets_at areas case.at ≡ None) cases
none_declared areas cases none = λ i d inside.
    ap (λ ks. option_map (λ (k : DeclaredCase). k.targets) (find (λ k. k.at == (get_or cases i d).at) ks)) none

module _ (areas : Areas) (cases : List DeclaredCase) (text : List ℕ) (none : areas.cases ≡ []) (rising : AreByAddress cases) (adds : AddsCases areas cases text) where
  -- the cases that are added are all cases
  all_cases : adds.joined ≡ cases
  all_cases =
      let moved : IsPermutation cases adds.joined = subst (λ ks. IsPermutation (ks ++ cases) adds.joined) none adds.same in
      sym (same_by_address cases adds.joined rising adds.by_address (λ case. Contains-permutation cases adds.joined case moved)
      (λ case. Contains-permutation adds.joined cases case (IsPermutation-sym cases adds.joined moved)))

  pub read_with : (made : Areas) → ((text : List ℕ) (one other : Areas) → Spells text one → Spells text other → one ≡ other) → Spells text made →
      made ≡ record areas { cases = cases }
  read_with made one_reading spells = one_reading text made (record areas { cases = adds.joined }) spells adds.spelled ∙ ap (λ ks. record areas { cases = ks }) all_cases

  pub only_memory : (fault : RegionsFault) → ((text : List ℕ) (areas : Areas) (fault : RegionsFault) → Spells text areas → Refuses text fault → fault ≡ Memory) →
      Refuses text fault → fault ≡ Memory
  only_memory fault not_refused refused = not_refused text (record areas { cases = adds.joined }) fault adds.spelled refused
