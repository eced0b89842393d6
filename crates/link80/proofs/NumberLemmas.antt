-- The number of a name among names.
use Rattle.std.specs.Prelude.{◌≡◌, ◌≤◌, ◌<◌, ℕ, suc, ◌+◌, nat_lt, if◌then◌else◌, length, nat_eq, Bool, true, false, ◌||◌}
use Rattle.std.specs.Prelude.{Option, Some, None, option_map, List, [], ◌∷◌, find, map, position, is_some, slice_get, refl}
use Rattle.std.specs.List.{position_from}
use Rattle.std.specs.Option.{option_map_or}
use Rattle.std.specs.Cmp.Lexicographic.{pointwise}
use Rattle.std.proofs.Common.{◌∙◌, ap, arith, cond}
use Rattle.std.proofs.lemmas.Bool.Decides.{nat_tests}
use Rattle.std.proofs.lemmas.Iterator.Adapters.{position_from-zero}
use Rattle.omf_model.specs.declared.symbols.Public.{Public}
use Rattle.link80.specs.FirstSight.{number_in}
use Rattle.omf_model.specs.Segments.{is_fixed_id}
use Rattle.omf_model.specs.Modules.{ModuleValue}
use Rattle.omf_model.specs.Place.{common_name}
use Rattle.link80.specs.declared.fault.LinkFault.{LinkFault}
use Rattle.link80.specs.declared.fault.LinkFault.TheVariants.{TooManyCommons}
use Rattle.link80.specs.LinkFault.{too_many_commons}
use Rattle.link80.specs.Linked.{common_names, linked_commons, linked_id, id_of, index_of}
use Rattle.link80.proofs.FirstSightLemmas.{same_both_ways}
use Rattle.link80.proofs.NameLemmas.{numbered, has_name}

-- ---- as a search through the list finds it

numbers_from : (start : ℕ) (names : List (List ℕ)) (name : List ℕ)
    → position_from (pointwise nat_eq name) start names ≡ option_map (λ k. start + k) (number_in names name)
numbers_from start [] name = refl
numbers_from start (n ∷ ns) name =
    ap (λ b. cond b (Some start) (position_from (pointwise nat_eq name) (start + 1) ns)) (same_both_ways name n)
    ∙ elim (pointwise nat_eq n name) as
    (λ b. cond b (Some start) (position_from (pointwise nat_eq name) (start + 1) ns)
    ≡ option_map (λ k. start + k) (cond b (Some 0) (option_map suc (number_in ns name)))) [
      | true ↦ ap Some (omega arith)
      | false ↦ numbers_from (start + 1) ns name ∙ next start (number_in ns name)
    ]
  where
    next : (s : ℕ) (o : Option ℕ) → option_map (λ k. s + 1 + k) o ≡ option_map (λ k. s + k) (option_map suc o)
    next s None = refl
    next s (Some k) = ap Some (omega arith)

pub position_is : (names : List (List ℕ)) (name : List ℕ) → position (pointwise nat_eq name) names ≡ number_in names name
position_is names name = position_from-zero (pointwise nat_eq name) names ∙ numbers_from 0 names name
    ∙ unmoved (number_in names name)
  where
    unmoved : (o : Option ℕ) → option_map (λ k. 0 + k) o ≡ o
    unmoved None = refl
    unmoved (Some k) = ap Some (omega arith)

-- ---- what has the number

pub id_is : (start : ℕ) (names : List (List ℕ)) (name : List ℕ)
    → id_of (numbered start names) name ≡ option_map_or (λ k. start + k) (number_in names name) 0
id_is start [] name = refl
id_is start (n ∷ ns) name =
    elim (pointwise nat_eq n name) as
    (λ b. option_map_or (λ c. c.id)
    (cond b (Some (record { id = start; name = n })) (find (λ c. pointwise nat_eq c.name name) (numbered (start + 1) ns))) 0
    ≡ option_map_or (λ k. start + k) (cond b (Some 0) (option_map suc (number_in ns name))) 0) [
      | true ↦ omega arith
      | false ↦ id_is (start + 1) ns name ∙ next start (number_in ns name)
    ]
  where
    next : (s : ℕ) (o : Option ℕ) → option_map_or (λ k. s + 1 + k) o 0 ≡ option_map_or (λ k. s + k) (option_map suc o) 0
    next s None = refl
    next s (Some k) = omega arith

index_next : (n name : List ℕ) (ns : List (List ℕ)) (o : Option ℕ) (k : ℕ) → ((j : ℕ) → o ≡ Some j → index_of ns name ≡ j)
    → option_map suc o ≡ Some k → suc (index_of ns name) ≡ k
index_next n name ns None k later is = absurd cc
index_next n name ns (Some j) k later is = ap suc (later j refl) ∙ some_is (suc j) k is
  where
    some_is : (a b : ℕ) → Some a ≡ Some b → a ≡ b
    some_is a b e = cc

pub index_by : (names : List (List ℕ)) (name : List ℕ) (k : ℕ) → number_in names name ≡ Some k → index_of names name ≡ k
index_by [] name k is = absurd cc
index_by (n ∷ ns) name k is =
    (elim (pointwise nat_eq n name) as (λ b. cond b (Some 0) (option_map suc (number_in ns name)) ≡ Some k
    → cond b 0 (suc (index_of ns name)) ≡ k) [
      | true ↦ λ e. zero_is k e
      | false ↦ λ e. index_next n name ns (number_in ns name) k (λ j at. index_by ns name j at) e
    ]) is
  where
    zero_is : (k : ℕ) → Some 0 ≡ Some k → 0 ≡ k
    zero_is k e = cc

pub numbered_has : (names : List (List ℕ)) (name : List ℕ) → is_some (number_in names name) ≡ has_name names name
numbered_has [] name = refl
numbered_has (n ∷ ns) name =
    elim (pointwise nat_eq n name) as
    (λ b. is_some (cond b (Some 0) (option_map suc (number_in ns name))) ≡ (b || has_name ns name)) [
      | true ↦ refl
      | false ↦ still (number_in ns name) ∙ numbered_has ns name
    ]
  where
    still : (o : Option ℕ) → is_some (option_map suc o) ≡ is_some o
    still None = refl
    still (Some k) = refl

-- the public that bears a name has the name's number
abbrev pub by_number : List Public → Option ℕ → Option Public
by_number publics None = None
by_number publics (Some k) = slice_get publics k

pub public_at : (publics : List Public) (name : List ℕ)
    → find (λ p. pointwise nat_eq p.name name) publics ≡ by_number publics (number_in (map (λ p. p.name) publics) name)
public_at [] name = refl
public_at (p ∷ ps) name =
    elim (pointwise nat_eq p.name name) as
    (λ b. cond b (Some p) (find (λ q. pointwise nat_eq q.name name) ps)
    ≡ by_number (p ∷ ps) (cond b (Some 0) (option_map suc (number_in (map (λ q. q.name) ps) name)))) [
      | true ↦ refl
      | false ↦ public_at ps name ∙ next (number_in (map (λ q. q.name) ps) name)
    ]
  where
    next : (o : Option ℕ) → by_number ps o ≡ by_number (p ∷ ps) (option_map suc o)
    next None = refl
    next (Some k) = refl

-- ---- the id of a module's segment in the linked module

pub linked_id_is : (modules : List ModuleValue) (m : ModuleValue) (id : ℕ) → is_fixed_id id ≡ false →
    linked_id modules m id ≡ option_map_or (λ k. 6 + k) (number_in (common_names modules) (common_name m.commons id)) 0
linked_id_is modules m id named =
    ap (λ b. cond b id (id_of (linked_commons modules) (common_name m.commons id))) named
    ∙ id_is 6 (common_names modules) (common_name m.commons id)

-- commons that aren't too many
pub few_commons : (modules : List ModuleValue) → too_many_commons modules ≡ None → length (common_names modules) ≤ 249
few_commons modules few = by (nat_lt 249 (length (common_names modules))) refl few
  where
    by : (b : Bool) → nat_lt 249 (length (common_names modules)) ≡ b
        → (if◌then◌else◌ {A = Option LinkFault} b (Some TooManyCommons) None) ≡ None → length (common_names modules) ≤ 249
    by true more e = absurd cc
    by false few e = grind (arith, nat_tests, few)

-- the number is one of the list's
pub number_within : (names : List (List ℕ)) (name : List ℕ) (k : ℕ) → number_in names name ≡ Some k → k < length names
number_within [] name k is = absurd cc
number_within (n ∷ ns) name k is =
    (elim (pointwise nat_eq n name) as (λ b. cond b (Some 0) (option_map suc (number_in ns name)) ≡ Some k
    → k < suc (length ns)) [
      | true ↦ λ e. omega (arith, zero_is k e)
      | false ↦ λ e. next (number_in ns name) k (λ j at. number_within ns name j at) e
    ]) is
  where
    zero_is : (k : ℕ) → Some 0 ≡ Some k → 0 ≡ k
    zero_is k e = cc

    suc_is : (j k : ℕ) → Some (suc j) ≡ Some k → suc j ≡ k
    suc_is j k e = cc

    next : (o : Option ℕ) (k : ℕ) → ((j : ℕ) → o ≡ Some j → j < length ns) → option_map suc o ≡ Some k → k < suc (length ns)
    next None k later e = absurd cc
    next (Some j) k later e = omega (arith, later j refl, suc_is j k e)
