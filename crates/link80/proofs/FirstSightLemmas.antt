-- Names that are put last where they are new are the distinct names in order of first sight.
use Rattle.std.specs.Prelude.{◌≡◌, ℕ, nat_eq, Bool, true, false, not, ◌&&◌, ◌||◌, List, [], ◌∷◌, ◌++◌, filter, refl}
use Rattle.std.specs.Cmp.Lexicographic.{pointwise}
use Rattle.std.proofs.Common.{◌∙◌, ap, sym, arith, inl, inr, cond, append_assoc}
use Rattle.std.proofs.lemmas.Bool.{cases_Bool}
use Rattle.std.proofs.lemmas.Bool.Decides.{nat_tests}
use Rattle.std.proofs.lemmas.List.Folds.{list_any-append}
use Rattle.link80.specs.FirstSight.{is_among, with_name, with_names}
use Rattle.link80.specs.Linked.{distinct}
use Rattle.link80.proofs.NameLemmas.{name_is}

-- ---- filters

pub filter_twice : {A : Type 0} (p q : A → Bool) (xs : List A) → filter p (filter q xs) ≡ filter (λ x. q x && p x) xs
filter_twice p q [] = refl
filter_twice p q (x ∷ xs) =
    elim (q x) as (λ b. filter p (cond b (x ∷ filter q xs) (filter q xs))
    ≡ cond (b && p x) (x ∷ filter (λ y. q y && p y) xs) (filter (λ y. q y && p y) xs)) [
      | true ↦ elim (p x) as (λ b. cond b (x ∷ filter p (filter q xs)) (filter p (filter q xs))
          ≡ cond b (x ∷ filter (λ y. q y && p y) xs) (filter (λ y. q y && p y) xs)) [
            | true ↦ ap (λ l. x ∷ l) (filter_twice p q xs)
            | false ↦ filter_twice p q xs
          ]
      | false ↦ filter_twice p q xs
    ]

pub filter_same : {A : Type 0} (p q : A → Bool) → ((x : A) → p x ≡ q x) → (xs : List A) → filter p xs ≡ filter q xs
filter_same p q same [] = refl
filter_same p q same (x ∷ xs) =
    ap (λ b. cond b (x ∷ filter p xs) (filter p xs)) (same x) ∙ ap (λ l. cond (q x) (x ∷ l) l) (filter_same p q same xs)

-- ---- names

pub same_both_ways : (a b : List ℕ) → pointwise nat_eq a b ≡ pointwise nat_eq b a
same_both_ways [] [] = refl
same_both_ways [] (y ∷ ys) = refl
same_both_ways (x ∷ xs) [] = refl
same_both_ways (x ∷ xs) (y ∷ ys) = ap (λ b. b && pointwise nat_eq xs ys) (swapped x y)
    ∙ ap (λ b. nat_eq y x && b) (same_both_ways xs ys)
  where
    swapped : (m n : ℕ) → nat_eq m n ≡ nat_eq n m
    swapped m n = grind (arith, nat_tests)

among_more : (names : List (List ℕ)) (n name : List ℕ)
    → is_among (names ++ n ∷ []) name ≡ (is_among names name || pointwise nat_eq name n)
among_more names n name = list_any-append (pointwise nat_eq name) names (n ∷ [])
    ∙ ap (λ b. is_among names name || b) (or_false (pointwise nat_eq name n))
  where
    or_false : (b : Bool) → (b || false) ≡ b
    or_false true = refl
    or_false false = refl

append_none : {A : Type 0} (xs : List A) → xs ++ [] ≡ xs
append_none [] = refl
append_none (x ∷ xs) = ap (λ l. x ∷ l) (append_none xs)

abbrev is_new : List (List ℕ) → List ℕ → Bool
is_new keys name = not (is_among keys name)

-- a name that is new isn't one that is there
new_differs : (keys : List (List ℕ)) (n x : List ℕ) → is_among keys n ≡ true
    → (not (pointwise nat_eq n x) && is_new keys x) ≡ is_new keys x
new_differs keys n x there = elim (cases_Bool (pointwise nat_eq n x)) [
  | inl same ↦
      ap (λ b. not b && is_new keys x) same
      ∙ sym (ap (λ y. is_new keys y) (sym (name_is n x same)) ∙ ap not there)
  | inr differs ↦ ap (λ b. not b && is_new keys x) differs
]

newer : (keys : List (List ℕ)) (n x : List ℕ) → is_new (keys ++ n ∷ []) x ≡ (not (pointwise nat_eq n x) && is_new keys x)
newer keys n x =
    ap not (among_more keys n x ∙ ap (λ b. is_among keys x || b) (same_both_ways x n))
    ∙ neither (is_among keys x) (pointwise nat_eq n x)
  where
    neither : (a b : Bool) → not (a || b) ≡ (not b && not a)
    neither true true = refl
    neither true false = refl
    neither false true = refl
    neither false false = refl

-- names without those that stood before: of the new ones among some more
pub with_names_is : (keys names : List (List ℕ)) → with_names keys names ≡ keys ++ filter (is_new keys) (distinct names)
with_names_is keys [] = sym (append_none keys)
with_names_is keys (n ∷ ns) = elim (cases_Bool (is_among keys n)) [
  | inl there ↦
      ap (λ b. with_names (cond b keys (keys ++ n ∷ [])) ns) there
      ∙ with_names_is keys ns
      ∙ ap (λ l. keys ++ l) (sym (filter_twice (is_new keys) (λ o. not (pointwise nat_eq n o)) (distinct ns)
      ∙ filter_same _ (is_new keys) (λ x. new_differs keys n x there) (distinct ns)))
      ∙ ap (λ b. keys ++ cond (not b) (n ∷ filter (is_new keys) (filter (λ o. not (pointwise nat_eq n o)) (distinct ns)))
      (filter (is_new keys) (filter (λ o. not (pointwise nat_eq n o)) (distinct ns)))) (sym there)
  | inr new ↦
      ap (λ b. with_names (cond b keys (keys ++ n ∷ [])) ns) new
      ∙ with_names_is (keys ++ n ∷ []) ns
      ∙ append_assoc keys (n ∷ []) (filter (is_new (keys ++ n ∷ [])) (distinct ns))
      ∙ ap (λ l. keys ++ n ∷ l) (filter_same (is_new (keys ++ n ∷ [])) _ (newer keys n) (distinct ns)
      ∙ sym (filter_twice (is_new keys) (λ o. not (pointwise nat_eq n o)) (distinct ns)))
      ∙ ap (λ b. keys ++ cond (not b) (n ∷ filter (is_new keys) (filter (λ o. not (pointwise nat_eq n o)) (distinct ns)))
      (filter (is_new keys) (filter (λ o. not (pointwise nat_eq n o)) (distinct ns)))) (sym new)
]

-- of no names: the distinct ones in order of first sight
pub first_sights : (names : List (List ℕ)) → with_names [] names ≡ distinct names
first_sights names = with_names_is [] names ∙ all_pass (distinct names)
  where
    all_pass : (xs : List (List ℕ)) → filter (is_new []) xs ≡ xs
    all_pass [] = refl
    all_pass (x ∷ xs) = ap (λ l. x ∷ l) (all_pass xs)

-- the distinct ones that pass a test are the distinct ones of those that pass
pub distinct_passed : (test : List ℕ → Bool) (names : List (List ℕ)) → distinct (filter test names) ≡ filter test (distinct names)
distinct_passed test [] = refl
distinct_passed test (n ∷ ns) = elim (cases_Bool (test n)) [
  | inl passes ↦
      ap (λ b. distinct (cond b (n ∷ filter test ns) (filter test ns))) passes
      ∙ ap (λ l. n ∷ filter (λ o. not (pointwise nat_eq n o)) l) (distinct_passed test ns)
      ∙ ap (λ l. n ∷ l) (filter_twice (λ o. not (pointwise nat_eq n o)) test (distinct ns)
      ∙ filter_same _ _ (λ x. both_ways (test x) (not (pointwise nat_eq n x))) (distinct ns)
      ∙ sym (filter_twice test (λ o. not (pointwise nat_eq n o)) (distinct ns)))
      ∙ ap (λ b. cond b (n ∷ filter test (filter (λ o. not (pointwise nat_eq n o)) (distinct ns)))
      (filter test (filter (λ o. not (pointwise nat_eq n o)) (distinct ns)))) (sym passes)
  | inr fails ↦
      ap (λ b. distinct (cond b (n ∷ filter test ns) (filter test ns))) fails
      ∙ distinct_passed test ns
      ∙ sym (filter_twice test (λ o. not (pointwise nat_eq n o)) (distinct ns)
      ∙ filter_same _ test (passed_differs fails) (distinct ns))
      ∙ ap (λ b. cond b (n ∷ filter test (filter (λ o. not (pointwise nat_eq n o)) (distinct ns)))
      (filter test (filter (λ o. not (pointwise nat_eq n o)) (distinct ns)))) (sym fails)
]
  where
    both_ways : (a b : Bool) → (a && b) ≡ (b && a)
    both_ways true true = refl
    both_ways true false = refl
    both_ways false true = refl
    both_ways false false = refl

    passed_differs : test n ≡ false → (x : List ℕ) → (not (pointwise nat_eq n x) && test x) ≡ test x
    passed_differs fails x = elim (cases_Bool (pointwise nat_eq n x)) [
      | inl same ↦ ap (λ b. not b && test x) same ∙ sym (ap test (sym (name_is n x same)) ∙ fails)
      | inr differs ↦ ap (λ b. not b && test x) differs
    ]

-- some names, and then more
pub with_both : (keys xs ys : List (List ℕ)) → with_names (with_names keys xs) ys ≡ with_names keys (xs ++ ys)
with_both keys [] ys = refl
with_both keys (x ∷ xs) ys = with_both (with_name keys x) xs ys
