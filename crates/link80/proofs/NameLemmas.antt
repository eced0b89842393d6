-- Names, looked up among names, among commons by name and by id, and among externals by index.
use Rattle.std.specs.Prelude.{◌≡◌, ℕ, suc, ◌+◌, ◌≤◌, ◌<◌, ◌==◌, nat_eq, Bool, true, false, not, ◌&&◌, ◌||◌, Some, List, [], ◌∷◌, filter, find, map, length, refl}
use Rattle.std.specs.List.{list_any, enumerate_from}
use Rattle.std.specs.Option.{option_map_or}
use Rattle.std.specs.Cmp.Lexicographic.{pointwise}
use Rattle.std.proofs.Common.{◌∙◌, ap, sym, arith, inl, inr, cond, eqb-true, eq-eqb}
use Rattle.std.proofs.lemmas.Bool.{cases_Bool, and_parts, ne_eqb, not_from_false}
use Rattle.omf_model.specs.declared.symbols.Common.{Common}
use Rattle.omf_model.specs.Segments.{has_common_id}
use Rattle.omf_model.specs.Place.{common_name}
use Rattle.omf_model.specs.ImageByte.{name_at}
use Rattle.link80.specs.Linked.{distinct, numbered_common, id_of, index_of}

-- ---- equal names

pub name_is : (a b : List ℕ) → pointwise nat_eq a b ≡ true → a ≡ b
name_is [] [] same = refl
name_is [] (y ∷ ys) same = absurd cc
name_is (x ∷ xs) [] same = absurd cc
name_is (x ∷ xs) (y ∷ ys) same =
    let parts = and_parts (nat_eq x y) (pointwise nat_eq xs ys) same in
    ap (λ n. n ∷ xs) (eqb-true x y parts.0) ∙ ap (λ l. y ∷ l) (name_is xs ys parts.1)

pub name_itself : (a : List ℕ) → pointwise nat_eq a a ≡ true
name_itself [] = refl
name_itself (x ∷ xs) = ap (λ t. t && pointwise nat_eq xs xs) (eq-eqb x x refl) ∙ name_itself xs

-- ---- names without those that stood before

abbrev pub has_name : List (List ℕ) → List ℕ → Bool
has_name names name = list_any (λ n. pointwise nat_eq n name) names

kept_by : (n name : List ℕ) (names : List (List ℕ)) → pointwise nat_eq n name ≡ false → has_name names name ≡ true
    → has_name (filter (λ o. not (pointwise nat_eq n o)) names) name ≡ true
kept_by n name [] other here = absurd cc
kept_by n name (o ∷ os) other here =
    (elim (cases_Bool (pointwise nat_eq o name)) [
      | inl same ↦
          let is : o ≡ name = name_is o name same in
          let keep : not (pointwise nat_eq n o) ≡ true =
          not_from_false (pointwise nat_eq n o) (ap (pointwise nat_eq n) is ∙ other) in
          ap (λ b. has_name (cond b (o ∷ filter (λ o. not (pointwise nat_eq n o)) os)
          (filter (λ o. not (pointwise nat_eq n o)) os)) name) keep
          ∙ ap (λ b. b || has_name (filter (λ o. not (pointwise nat_eq n o)) os) name) same
      | inr differs ↦
          let later : has_name (filter (λ o. not (pointwise nat_eq n o)) os) name ≡ true =
          kept_by n name os other (sym (ap (λ b. b || has_name os name) differs) ∙ here) in
          elim (not (pointwise nat_eq n o)) as
          (λ b. has_name (cond b (o ∷ filter (λ o. not (pointwise nat_eq n o)) os)
          (filter (λ o. not (pointwise nat_eq n o)) os)) name ≡ true) [
            | true ↦ ap (λ b. b || has_name (filter (λ o. not (pointwise nat_eq n o)) os) name) differs ∙ later
            | false ↦ later
          ]
    ])

pub distinct_has : (names : List (List ℕ)) (name : List ℕ) → has_name names name ≡ true → has_name (distinct names) name ≡ true
distinct_has [] name here = here
distinct_has (n ∷ ns) name here = elim (cases_Bool (pointwise nat_eq n name)) [
  | inl same ↦ ap (λ b. b || has_name (filter (λ o. not (pointwise nat_eq n o)) (distinct ns)) name) same
  | inr differs ↦
      ap (λ b. b || has_name (filter (λ o. not (pointwise nat_eq n o)) (distinct ns)) name) differs
      ∙ kept_by n name (distinct ns) differs (distinct_has ns name (sym (ap (λ b. b || has_name ns name) differs) ∙ here))
]

-- names that pass a test
pub passed_has : (test : List ℕ → Bool) (names : List (List ℕ)) (name : List ℕ) → test name ≡ true → has_name names name ≡ true
    → has_name (filter test names) name ≡ true
passed_has test [] name passes here = absurd cc
passed_has test (n ∷ ns) name passes here = elim (cases_Bool (pointwise nat_eq n name)) [
  | inl same ↦
      ap (λ b. has_name (cond b (n ∷ filter test ns) (filter test ns)) name) (ap test (name_is n name same) ∙ passes)
      ∙ ap (λ b. b || has_name (filter test ns) name) same
  | inr differs ↦
      let later : has_name (filter test ns) name ≡ true =
      passed_has test ns name passes (sym (ap (λ b. b || has_name ns name) differs) ∙ here) in
      elim (test n) as (λ b. has_name (cond b (n ∷ filter test ns) (filter test ns)) name ≡ true) [
        | true ↦ ap (λ b. b || has_name (filter test ns) name) differs ∙ later
        | false ↦ later
      ]
]

-- ---- the index of a name among names

pub index_is : (names : List (List ℕ)) (name : List ℕ) → has_name names name ≡ true
    → (index_of names name < length names) × (name_at names (index_of names name) ≡ name)
index_is [] name here = absurd cc
index_is (n ∷ ns) name here = elim (cases_Bool (pointwise nat_eq n name)) [
  | inl same ↦
      let zero_is : index_of (n ∷ ns) name ≡ 0 = ap (λ b. cond b 0 (suc (index_of ns name))) same in
      (omega (arith, zero_is), ap (name_at (n ∷ ns)) zero_is ∙ name_is n name same)
  | inr differs ↦
      let next : index_of (n ∷ ns) name ≡ suc (index_of ns name) = ap (λ b. cond b 0 (suc (index_of ns name))) differs in
      let later = index_is ns name (sym (ap (λ b. b || has_name ns name) differs) ∙ here) in
      (omega (arith, next, later.0), ap (name_at (n ∷ ns)) next ∙ later.1)
]

-- ---- the id of a name among numbered commons

abbrev pub numbered : ℕ → List (List ℕ) → List Common
numbered start names = map numbered_common (enumerate_from start names)

pub record IsNumbered (start : ℕ) (names : List (List ℕ)) (name : List ℕ) : Type 0 where
  pub least : start ≤ id_of (numbered start names) name
  pub most : id_of (numbered start names) name < start + length names
  pub there : has_common_id (numbered start names) (id_of (numbered start names) name) ≡ true
  pub called : common_name (numbered start names) (id_of (numbered start names) name) ≡ name

abbrev id_if : ℕ → List ℕ → List (List ℕ) → List ℕ → Bool → ℕ
id_if start n ns name same =
    option_map_or (λ (c : Common). c.id)
    (cond same (Some (numbered_common (start, n))) (find (λ c. pointwise nat_eq c.name name) (numbered (start + 1) ns))) 0

abbrev name_if : ℕ → List ℕ → List (List ℕ) → ℕ → Bool → List ℕ
name_if start n ns id same =
    option_map_or (λ (c : Common). c.name)
    (cond same (Some (numbered_common (start, n))) (find (λ c. c.id == id) (numbered (start + 1) ns))) []

pub is_numbered : (start : ℕ) (names : List (List ℕ)) (name : List ℕ) → has_name names name ≡ true → IsNumbered start names name
is_numbered start [] name here = absurd cc
is_numbered start (n ∷ ns) name here = elim (cases_Bool (pointwise nat_eq n name)) [
  | inl same ↦
      let is : id_of (numbered start (n ∷ ns)) name ≡ start = ap (id_if start n ns name) same in
      let first : (start == id_of (numbered start (n ∷ ns)) name) ≡ true =
      eq-eqb start (id_of (numbered start (n ∷ ns)) name) (sym is) in
      record {
        least = omega (arith, is);
        most = omega (arith, is);
        there = ap (λ b. b || has_common_id (numbered (start + 1) ns) (id_of (numbered start (n ∷ ns)) name)) first;
        called = ap (name_if start n ns (id_of (numbered start (n ∷ ns)) name)) first ∙ name_is n name same;
      }
  | inr differs ↦
      let later : IsNumbered (start + 1) ns name =
      is_numbered (start + 1) ns name (sym (ap (λ b. b || has_name ns name) differs) ∙ here) in
      let id : ℕ = id_of (numbered (start + 1) ns) name in
      let is : id_of (numbered start (n ∷ ns)) name ≡ id = ap (id_if start n ns name) differs in
      let low : start + 1 ≤ id = later.least in
      let high : id < start + 1 + length ns = later.most in
      let not_first : (start == id) ≡ false = ne_eqb start id (λ e. omega (arith, e, low)) in
      record {
        least = omega (arith, is, low);
        most = omega (arith, is, high);
        there = ap (λ i. has_common_id (numbered start (n ∷ ns)) i) is
            ∙ ap (λ b. b || has_common_id (numbered (start + 1) ns) id) not_first ∙ later.there;
        called = ap (λ i. common_name (numbered start (n ∷ ns)) i) is ∙ ap (name_if start n ns id) not_first ∙ later.called;
      }
]
