-- Names that no module declares, and the publics that bear names.
use Rattle.std.specs.Prelude.{◌≡◌, ◌<◌, ℕ, zero, suc, nat_eq, Bool, true, false, ◌||◌, Option, Some, None, is_none, is_some, List, [], ◌∷◌, ◌++◌, filter, length, map, slice_get, refl}
use Rattle.std.specs.List.{flat_map}
use Rattle.std.specs.Cmp.Lexicographic.{pointwise}
use Rattle.std.proofs.Common.{◌∙◌, ap, sym, arith, cond}
use Rattle.omf_model.specs.declared.symbols.Public.{Public}
use Rattle.omf_model.specs.declared.fixup.Target.TheVariants as target
use Rattle.omf_model.specs.Modules.{ModuleValue}
use Rattle.link80.specs.declared.reference.Reference.{Reference}
use Rattle.link80.specs.FirstSight.{is_among, number_in, with_names}
use Rattle.link80.specs.Linked.{distinct, linked_publics, public_of, unresolved, to_place, to_public}
use Rattle.link80.proofs.FirstSightLemmas.{filter_same, first_sights, distinct_passed, same_both_ways}
use Rattle.link80.proofs.ListLemmas.{any_front, any_back}
use Rattle.link80.proofs.NameLemmas.{has_name, name_itself, distinct_has, passed_has}
use Rattle.link80.proofs.NumberLemmas.{by_number, index_by, public_at, number_within, numbered_has}

-- ---- lists

pub filter_append : {A : Type 0} (test : A → Bool) (xs ys : List A) → filter test (xs ++ ys) ≡ filter test xs ++ filter test ys
filter_append test [] ys = refl
filter_append test (x ∷ xs) ys =
    elim (test x) as (λ b. cond b (x ∷ filter test (xs ++ ys)) (filter test (xs ++ ys))
    ≡ cond b (x ∷ filter test xs) (filter test xs) ++ filter test ys) [
      | true ↦ ap (λ l. x ∷ l) (filter_append test xs ys)
      | false ↦ filter_append test xs ys
    ]

pub flat_filter : {A B : Type 0} (test : B → Bool) (f : A → List B) (xs : List A)
    → flat_map (λ x. filter test (f x)) xs ≡ filter test (flat_map f xs)
flat_filter test f [] = refl
flat_filter test f (x ∷ xs) = ap (λ l. filter test (f x) ++ l) (flat_filter test f xs)
    ∙ sym (filter_append test (f x) (flat_map f xs))

pub among_is : (names : List (List ℕ)) (name : List ℕ) → is_among names name ≡ has_name names name
among_is [] name = refl
among_is (n ∷ ns) name = ap (λ b. b || is_among ns name) (same_both_ways name n)
    ∙ ap (λ b. pointwise nat_eq n name || b) (among_is ns name)

-- ---- the public that bears a name

pub declared_number : (modules : List ModuleValue) (name : List ℕ)
    → public_of modules name ≡ by_number (linked_publics modules) (number_in (map (λ p. p.name) (linked_publics modules)) name)
declared_number modules name = public_at (linked_publics modules) name

pub map_length : (ps : List Public) → length (map (λ p. p.name) ps) ≡ length ps
map_length [] = refl
map_length (p ∷ ps) = ap suc (map_length ps)

slice_there : (ps : List Public) (k : ℕ) → k < length ps → is_none (slice_get ps k) ≡ false
slice_there [] k below = absurd (omega (arith, below))
slice_there (p ∷ ps) zero below = refl
slice_there (p ∷ ps) (suc k) below = slice_there ps k (omega (arith, below))

none_at : (ps : List Public) (o : Option ℕ) → ((k : ℕ) → o ≡ Some k → k < length ps) → is_none o ≡ is_none (by_number ps o)
none_at ps None within = refl
none_at ps (Some k) within = some_at (slice_get ps k) (slice_there ps k (within k refl))
  where
    some_at : (o : Option Public) → is_none o ≡ false → false ≡ is_none o
    some_at o e = sym e

pub undeclared_test : (modules : List ModuleValue) (declared : List (List ℕ))
    → declared ≡ map (λ p. p.name) (linked_publics modules) → (name : List ℕ)
    → is_none (number_in declared name) ≡ is_none (public_of modules name)
undeclared_test modules declared are name =
    ap (λ names. is_none (number_in names name)) are
    ∙ none_at (linked_publics modules) (number_in (map (λ p. p.name) (linked_publics modules)) name)
    (λ k is. omega (
      arith,
      number_within (map (λ p. p.name) (linked_publics modules)) name k is,
      map_length
          (linked_publics modules),
    ))
    ∙ ap is_none (sym (declared_number modules name))

-- ---- the names that no module declares

pub unresolved_is : (modules : List ModuleValue) (declared : List (List ℕ))
    → declared ≡ map (λ p. p.name) (linked_publics modules) →
    with_names [] (flat_map (λ m. filter (λ name. is_none (number_in declared name)) m.externals) modules) ≡ unresolved modules
unresolved_is modules declared are =
    first_sights (flat_map (λ m. filter (λ name. is_none (number_in declared name)) m.externals) modules)
    ∙ ap distinct (flat_filter (λ name. is_none (number_in declared name)) (λ m. m.externals) modules)
    ∙ distinct_passed (λ name. is_none (number_in declared name)) (flat_map (λ m. m.externals) modules)
    ∙ filter_same (λ name. is_none (number_in declared name)) (λ name. is_none (public_of modules name))
    (undeclared_test modules declared are) (distinct (flat_map (λ m. m.externals) modules))

-- an external that no module declares is one of them
pub is_unresolved : (modules : List ModuleValue) (name : List ℕ) → is_among (flat_map (λ m. m.externals) modules) name ≡ true
    → is_none (public_of modules name) ≡ true → is_some (number_in (unresolved modules) name) ≡ true
is_unresolved modules name here none =
    numbered_has (unresolved modules) name
    ∙ passed_has (λ n. is_none (public_of modules n)) (distinct (flat_map (λ m. m.externals) modules)) name none
    (distinct_has (flat_map (λ m. m.externals) modules) name (sym (among_is (flat_map (λ m. m.externals) modules) name) ∙ here))

-- ---- what a name stands for

pub borne : (modules : List ModuleValue) (name : List ℕ) (k : ℕ) (p : Public)
    → number_in (map (λ q. q.name) (linked_publics modules)) name ≡ Some k → slice_get (linked_publics modules) k ≡ Some p →
    to_public modules name (public_of modules name) ≡ to_place p.segment p.offset
borne modules name k p number at =
    ap (to_public modules name) (declared_number modules name ∙ ap (by_number (linked_publics modules)) number ∙ at)

pub not_borne : (modules : List ModuleValue) (name : List ℕ) → number_in (map (λ q. q.name) (linked_publics modules)) name ≡ None
    → public_of modules name ≡ None
not_borne modules name none = declared_number modules name ∙ ap (by_number (linked_publics modules)) none

abbrev pub open_at : ℕ → Reference
open_at index = record { word = 0; target = Some (target.External index) }

pub left_open : (modules : List ModuleValue) (name : List ℕ) (k : ℕ) → public_of modules name ≡ None
    → number_in (unresolved modules) name ≡ Some k →
    to_public modules name (public_of modules name) ≡ open_at k
left_open modules name k none number =
    ap (to_public modules name) none ∙ ap open_at (index_by (unresolved modules) name k number)

-- ---- an external of a module is one of all modules

pub among_here : (names : List (List ℕ)) (i : ℕ) (name : List ℕ) → slice_get names i ≡ Some name → is_among names name ≡ true
among_here [] i name at = absurd cc
among_here (n ∷ ns) zero name at =
    ap (λ b. b || is_among ns name) (ap (pointwise nat_eq name) (some_is n name at) ∙ name_itself name)
  where
    some_is : (a b : List ℕ) → Some a ≡ Some b → a ≡ b
    some_is a b e = cc
among_here (n ∷ ns) (suc i) name at = or_later (pointwise nat_eq name n) (is_among ns name) (among_here ns i name at)
  where
    or_later : (a b : Bool) → b ≡ true → (a || b) ≡ true
    or_later true b e = refl
    or_later false b e = e

pub among_all : (ms : List ModuleValue) (n : ℕ) (m : ModuleValue) (name : List ℕ) → slice_get ms n ≡ Some m
    → is_among m.externals name ≡ true → is_among (flat_map (λ k. k.externals) ms) name ≡ true
among_all [] n m name at here = absurd cc
among_all (k ∷ ks) zero m name at here =
    any_front (pointwise nat_eq name) k.externals (flat_map (λ j. j.externals) ks)
    (ap (λ j. is_among j.externals name) (some_is k m at) ∙ here)
  where
    some_is : (a b : ModuleValue) → Some a ≡ Some b → a ≡ b
    some_is a b e = cc
among_all (k ∷ ks) (suc n) m name at here =
    any_back (pointwise nat_eq name) k.externals (flat_map (λ j. j.externals) ks) (among_all ks n m name at here)
