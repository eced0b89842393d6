-- The first module that declares a name: of libraries, and of linked modules.
use Rattle.std.specs.Prelude.{◌≡◌, ℕ, zero, suc, ◌+◌, ◌-◌, ◌<◌, ◌⊎◌, ◌||◌, nat_lt, is_some, Bool, true, false, Option}
use Rattle.std.specs.Prelude.{Some, None, option_map, option_and_then, List, [], ◌∷◌, length, slice_get, Contains, refl}
use Rattle.std.specs.List.{list_any, position_from}
use Rattle.std.specs.Option.{option_or}
use Rattle.std.proofs.Common.{◌∙◌, ap, sym, subst, arith, inl, inr, cond, get_or}
use Rattle.std.proofs.lemmas.Bool.{cases_Bool, cases_lt, cases_order, false≢true}
use Rattle.std.proofs.lemmas.Bool.Decides.{nat_tests}
use Rattle.std.proofs.lemmas.Option.{none-some, same_Some, option_and_then_some, slice_get-get_or, slice_get_within}
use Rattle.std.proofs.lemmas.Iterator.Adapters.{position_from-zero}
use Rattle.std.proofs.lemmas.List.Quantifiers.{position-Some}
use Rattle.omf_model.specs.Modules.{ModuleValue}
use Rattle.omf_library.specs.Providers.{declares, first_provider}
use Rattle.link80_select.specs.declared.chosen.Chosen.{Chosen}
use Rattle.link80_select.specs.Selected.{module_at, IsFirstProvider}
use Rattle.link80_text.specs.Reasons.{IsSoughtAt}
use Rattle.link80.specs.Selection.{IsSelection, modules_with}
use Rattle.link80_text.specs.Linked.{number_of, target}
use Rattle.link80_text.proofs.LinkedLemmas.{ascending_order, root_module, member_module, linked_is, linked_takes, needs_for}

-- ---- the first that passes

pub at_has : {A : Type 0} (xs : List A) (x : A) → Contains xs x → (i : ℕ) × (slice_get xs i ≡ Some x)
at_has xs x h = (h.0, slice_get-get_or xs h.0 x h.1 ∙ ap (λ y. Some y) h.2)

record IsFirst {A : Type 0} (test : A → Bool) (xs : List A) (i : ℕ) : Type 0 where
  one : A
  there : slice_get xs i ≡ Some one
  passes : test one ≡ true
  before : (j : ℕ) (y : A) → j < i → slice_get xs j ≡ Some y → test y ≡ false

is_first : {A : Type 0} (test : A → Bool) (n : ℕ) (xs : List A) → position_from test 0 xs ≡ Some n → IsFirst test xs n
is_first test n [] found = absurd (none-some n found)
is_first test n (x ∷ xs) found =
    let at = position-Some test (x ∷ xs) n x (position_from-zero test (x ∷ xs) ∙ found) in record {
      one = get_or (x ∷ xs) n x;
      there = slice_get-get_or (x ∷ xs) n x at.0;
      passes = at.1;
      before = λ j y less there.
          ap test (same_Some y (get_or (x ∷ xs) j x) (sym there ∙ slice_get-get_or (x ∷ xs) j x (omega (arith, less, at.0)))) ∙ at.2 j less;
    }

no_first : {A : Type 0} (test : A → Bool) (from : ℕ) (xs : List A) → position_from test from xs ≡ None
    → (j : ℕ) (y : A) → slice_get xs j ≡ Some y → test y ≡ false
no_first test from [] none j y at = absurd (none-some y at)
no_first {A} test from (x ∷ xs) none j y at = elim (cases_Bool (test x)) [
  | inl passes ↦
      let some : Some from ≡ None = sym (ap (λ b. cond b (Some from) (position_from test (from + 1) xs)) passes) ∙ none in
      absurd (none-some from (sym some))
  | inr fails ↦ by fails (no_first test (from + 1) xs
      (sym (ap (λ b. cond b (Some from) (position_from test (from + 1) xs)) fails) ∙ none)) j at
]
  where
    by : test x ≡ false → ((i : ℕ) (z : A) → slice_get xs i ≡ Some z → test z ≡ false) → (i : ℕ) → slice_get (x ∷ xs) i ≡ Some y
        → test y ≡ false
    by fails rest zero here = ap test (sym (same_Some x y here)) ∙ fails
    by fails rest (suc i) here = rest i y here

-- one passes where there is a first
pub passes_first : {A : Type 0} (test : A → Bool) (from : ℕ) (xs : List A) → is_some (position_from test from xs) ≡ list_any test xs
passes_first test from [] = refl
passes_first test from (x ∷ xs) =
    elim (test x) as (λ b. is_some (cond b (Some from) (position_from test (from + 1) xs)) ≡ (b || list_any test xs)) [
      | true ↦ refl
      | false ↦ passes_first test (from + 1) xs
    ]

-- ---- the first place

abbrev place_of : (library number : ℕ) → Chosen
place_of library number = record { library = library; «module» = number }

-- the place of the first module of the libraries, from a number on, that declares the name
abbrev first_place_from : ℕ → List (List ModuleValue) → List ℕ → Option Chosen
first_place_from at [] name = None
first_place_from at (l ∷ ls) name = option_or (option_map (place_of at) (first_provider l name)) (first_place_from (at + 1) ls name)

record FirstPlace (at : ℕ) (ls : List (List ModuleValue)) (name : List ℕ) (p : Chosen) : Type 0 where
  index : ℕ
  l : List ModuleValue
  library_is : p.library ≡ at + index
  there : slice_get ls index ≡ Some l
  first : IsFirst (declares name) l p.module
  before : (i : ℕ) (k : List ModuleValue) (j : ℕ) (m : ModuleValue) → i < index → slice_get ls i ≡ Some k → slice_get k j ≡ Some m
      → declares name m ≡ false

first_here : (at n : ℕ) (l : List ModuleValue) (ls : List (List ModuleValue)) (name : List ℕ) → first_provider l name ≡ Some n
    → FirstPlace at (l ∷ ls) name (place_of at n)
first_here at n l ls name is =
    record {
      index = 0;
      l = l;
      library_is = let e : at ≡ at + 0 = omega arith in e;
      there = refl;
      first = is_first (declares name) n l is;
      before = λ i k j m less at_k at_m. absurd (omega (arith, less));
    }

first_later : (at : ℕ) (l : List ModuleValue) (ls : List (List ModuleValue)) (name : List ℕ) (p : Chosen)
    → first_provider l name ≡ None → FirstPlace (at + 1) ls name p → FirstPlace at (l ∷ ls) name p
first_later at l ls name p none later = record {
  index = suc later.index;
  l = later.l;
  library_is = omega (arith, later.library_is);
  there = later.there;
  first = later.first;
  before = λ i k j m less at_k at_m. by i k j m less at_k at_m;
}
  where
    by : (i : ℕ) (k : List ModuleValue) (j : ℕ) (m : ModuleValue) → i < suc later.index → slice_get (l ∷ ls) i ≡ Some k
        → slice_get k j ≡ Some m → declares name m ≡ false
    by zero k j m less at_k at_m =
        no_first (declares name) 0 l none j m (ap (λ (x : List ModuleValue). slice_get x j) (same_Some l k at_k) ∙ at_m)
    by (suc i) k j m less at_k at_m = later.before i k j m (omega arith) at_k at_m

first_by : (at : ℕ) (l : List ModuleValue) (ls : List (List ModuleValue)) (name : List ℕ) (p : Chosen) (o : Option ℕ)
    → first_provider l name ≡ o → (first_place_from (at + 1) ls name ≡ Some p → FirstPlace (at + 1) ls name p)
    → option_or (option_map (place_of at) o) (first_place_from (at + 1) ls name) ≡ Some p → FirstPlace at (l ∷ ls) name p
first_by at l ls name p None is rest found = first_later at l ls name p is (rest found)
first_by at l ls name p (Some n) is rest found =
    subst (λ (q : Chosen). FirstPlace at (l ∷ ls) name q) (same_Some (place_of at n) p found) (first_here at n l ls name is)

first_found : (at : ℕ) (ls : List (List ModuleValue)) (name : List ℕ) (p : Chosen) → first_place_from at ls name ≡ Some p
    → FirstPlace at ls name p
first_found at [] name p found = absurd (none-some p found)
first_found at (l ∷ ls) name p found =
    first_by at l ls name p (first_provider l name) refl (first_found (at + 1) ls name p) found

none_or : {A : Type 0} (a b : Option A) → option_or a b ≡ None → (a ≡ None) × (b ≡ None)
none_or None b none = (refl, none)
none_or (Some x) b none = absurd (none-some x (sym none))

none_mapped : {A B : Type 0} (f : A → B) (o : Option A) → option_map f o ≡ None → o ≡ None
none_mapped f None none = refl
none_mapped f (Some x) none = absurd (none-some (f x) (sym none))

none_declares : (at : ℕ) (ls : List (List ModuleValue)) (name : List ℕ) → first_place_from at ls name ≡ None
    → (i : ℕ) (k : List ModuleValue) (j : ℕ) (m : ModuleValue) → slice_get ls i ≡ Some k → slice_get k j ≡ Some m
    → declares name m ≡ false
none_declares at [] name none i k j m at_k at_m = absurd (none-some k at_k)
none_declares at (l ∷ ls) name none zero k j m at_k at_m =
    let both = none_or (option_map (place_of at) (first_provider l name)) (first_place_from (at + 1) ls name) none in
    no_first (declares name) 0 l (none_mapped (place_of at) (first_provider l name) both.0) j m
    (ap (λ (x : List ModuleValue). slice_get x j) (same_Some l k at_k) ∙ at_m)
none_declares at (l ∷ ls) name none (suc i) k j m at_k at_m =
    let both = none_or (option_map (place_of at) (first_provider l name)) (first_place_from (at + 1) ls name) none in
    none_declares (at + 1) ls name both.1 i k j m at_k at_m

is_provider : (libraries : List (List ModuleValue)) (name : List ℕ) (p : Chosen) → first_place_from 0 libraries name ≡ Some p
    → IsFirstProvider libraries name p
is_provider libraries name p found =
    let first = first_found 0 libraries name p found in
    let library : slice_get libraries p.library ≡ Some first.l =
    ap (slice_get libraries) (let e : p.library ≡ first.index = omega (arith, first.library_is) in e) ∙ first.there in
    record {
      provider = first.first.one;
      there = ap (option_and_then (λ (ms : List ModuleValue). slice_get ms p.module)) library ∙ first.first.there;
      declares_it = first.first.passes;
      none_before = λ q m before at. option_and_then_some (λ (ms : List ModuleValue). slice_get ms q.module)
          (slice_get libraries q.library) m at (λ k at_k at_m. elim before [
            | inl less ↦ first.before q.library k q.module m (omega (arith, less, first.library_is)) at_k at_m
            | inr same ↦
                let is_l : first.l ≡ k = same_Some first.l k (sym library ∙ ap (slice_get libraries) (sym same.0) ∙ at_k) in
                first.first.before q.module m same.1 (ap (λ (x : List ModuleValue). slice_get x q.module) is_l ∙ at_m)
          ]);
    }

-- one that declares it gives a first one
some_provider : (libraries : List (List ModuleValue)) (name : List ℕ) (q : Chosen) (m : ModuleValue) → module_at libraries q ≡ Some m
    → declares name m ≡ true → (p : Chosen) × IsFirstProvider libraries name p
some_provider libraries name q m there declares_it = by (first_place_from 0 libraries name) refl
  where
    by : (o : Option Chosen) → first_place_from 0 libraries name ≡ o → (p : Chosen) × IsFirstProvider libraries name p
    by None none = absurd (option_and_then_some (λ (ms : List ModuleValue). slice_get ms q.module) (slice_get libraries q.library) m
        there (λ k at_k at_m.
        false≢true (sym (none_declares 0 libraries name none q.library k q.module m at_k at_m) ∙ declares_it)))
    by (Some p) found = (p, is_provider libraries name p found)

-- ---- roots

none_any : {A : Type 0} (test : A → Bool) (xs : List A) → ((i : ℕ) (x : A) → slice_get xs i ≡ Some x → test x ≡ false)
    → list_any test xs ≡ false
none_any test [] each = refl
none_any test (x ∷ xs) each =
    ap (λ b. b || list_any test xs) (each 0 x refl) ∙ none_any test xs (λ i y at. each (suc i) y at)

-- ---- the target of a name

number_is : (roots n t : ℕ) → number_of roots n ≡ Some t → n ≡ roots + t
number_is roots n t is = elim (cases_lt n roots) [
  | inl less ↦
      let test : nat_lt n roots ≡ true = grind (arith, nat_tests, less) in
      absurd (none-some t (sym (ap (λ b. cond b None (Some (n - roots))) test) ∙ is))
  | inr more ↦
      let test : nat_lt n roots ≡ false = grind (arith, nat_tests, more) in
      let same : n - roots ≡ t = same_Some (n - roots) t (sym (ap (λ b. cond b None (Some (n - roots))) test) ∙ is) in
      omega (arith, same, more)
]

module _ (roots : List ModuleValue) (libraries : List (List ModuleValue)) (taken : List Chosen)
    (selection : IsSelection roots libraries taken) where
  abbrev modules : List ModuleValue
  modules = modules_with roots libraries taken

  pub target_is : (n : ℕ) (m : ModuleValue) (index : ℕ) (name : List ℕ) (t : ℕ) → slice_get modules n ≡ Some m
      → slice_get m.externals index ≡ Some name → target (length roots) modules name ≡ Some t
      → (p : Chosen) × (slice_get taken t ≡ Some p) × IsSoughtAt roots libraries name p
  target_is n m index name t at external is =
      option_and_then_some (number_of (length roots)) (first_provider modules name) t is (λ k found number.
      let first = is_first (declares name) k modules found in
      of_first (number_is (length roots) k t number) first (linked_is roots libraries taken selection k first.one first.there))
    where
      -- what the libraries have first is taken, and no other one is taken before it
      is_it : {k : ℕ} → k ≡ length roots + t → (first : IsFirst (declares name) modules k) → (q : Chosen)
          → slice_get taken t ≡ Some q → module_at libraries q ≡ Some first.one → list_any (declares name) roots ≡ false
          → IsFirstProvider libraries name q
      is_it k_is first q at_q there in_no_root =
          let some = some_provider libraries name q first.one there first.passes in
          let needs = needs_for roots libraries taken selection m index name some.0 external
          (record { in_no_root = in_no_root; first = some.1 }) in
          let has = at_has taken some.0 (linked_takes roots libraries taken selection n m some.0 at needs) in
          elim (cases_order has.0 t) [
            | inl same ↦ subst (λ (p : Chosen). IsFirstProvider libraries name p)
                (same_Some some.0 q (sym has.1 ∙ ap (slice_get taken) same ∙ at_q)) some.1
            | inr differ ↦ elim differ [
              | inl less ↦ absurd (false≢true (sym (first.before (length roots + has.0) some.1.provider (omega (arith, less, k_is))
                  (member_module roots libraries taken selection has.0 some.0 some.1.provider has.1 some.1.there)) ∙ some.1.declares_it))
              | inr more ↦ absurd (false≢true (sym (some.1.none_before q first.one
                  (ascending_order taken t has.0 q some.0 selection.ascending more at_q has.1) there) ∙ first.passes))
            ]
          ]

      of_first : {k : ℕ} → k ≡ length roots + t → (first : IsFirst (declares name) modules k)
          → ((k < length roots) × Contains roots first.one)
          ⊎ ((j : ℕ) × (k ≡ length roots + j) × ((q : Chosen) × (slice_get taken j ≡ Some q) × (module_at libraries q ≡ Some first.one)))
          → (p : Chosen) × (slice_get taken t ≡ Some p) × IsSoughtAt roots libraries name p
      of_first k_is first (inl root) = absurd (omega (arith, k_is, root.0))
      of_first k_is first (inr other) =
          let same : other.0 ≡ t = omega (arith, k_is, other.1) in
          let at_q : slice_get taken t ≡ Some other.2.0 = ap (slice_get taken) (sym same) ∙ other.2.1 in
          let in_no_root : list_any (declares name) roots ≡ false =
          none_any (declares name) roots (λ i x at_x. first.before i x (omega (arith, k_is, slice_get_within roots i x at_x))
          (root_module roots libraries taken selection i x at_x)) in (
            other.2.0,
            at_q,
            record { in_no_root = in_no_root; first = is_it k_is first other.2.0 at_q other.2.2 in_no_root },
          )
