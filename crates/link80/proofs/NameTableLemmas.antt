-- A set of borrowed names, as the list of names that it is.
use Rattle.std.specs.Prelude.{◌≡◌, ℕ, ◌+◌, nat_eq, Bool, ◌||◌, if◌then◌else◌, true, false, not, suc, nat_lt, Some, None, length, List, [], ◌∷◌, ◌++◌, map, position, refl}
use Rattle.std.specs.Borrow.{Bor}
use Rattle.std.specs.List.{list_any, prefix_len}
use Rattle.std.specs.Cmp.Lexicographic.{pointwise}
use Rattle.std.proofs.Common.{◌∙◌, ap}
use Rattle.indexmap.specs.IndexSet.{insert_key}
use Rattle.link80.specs.FirstSight.{is_among, with_name}
use Rattle.link80.proofs.ListLemmas.{map_append}

abbrev pub same_name : Bor (List ℕ) → Bor (List ℕ) → Bool
same_name a b = pointwise nat_eq a.now b.now

abbrev pub names_of : List (Bor (List ℕ)) → List (List ℕ)
names_of keys = map (λ key. key.now) keys

pub among_keys : (keys : List (Bor (List ℕ))) (name : List ℕ)
    → list_any (λ key. pointwise nat_eq name key.now) keys ≡ is_among (names_of keys) name
among_keys [] name = refl
among_keys (k ∷ ks) name = ap (λ b. pointwise nat_eq name k.now || b) (among_keys ks name)

prefix_of_keys : (keys : List (Bor (List ℕ))) (name : List ℕ)
    → prefix_len (λ key. not (pointwise nat_eq name key.now)) keys
    ≡ prefix_len (λ other. not (pointwise nat_eq name other)) (names_of keys)
prefix_of_keys [] name = refl
prefix_of_keys (k ∷ ks) name = ap (λ n. if not (pointwise nat_eq name k.now) then 1 + n else 0) (prefix_of_keys ks name)

pub length_of_keys : (keys : List (Bor (List ℕ))) → length keys ≡ length (names_of keys)
length_of_keys [] = refl
length_of_keys (k ∷ ks) = ap suc (length_of_keys ks)

pub position_of_key : (keys : List (Bor (List ℕ))) (name : List ℕ)
    → position (λ key. pointwise nat_eq name key.now) keys ≡ position (pointwise nat_eq name) (names_of keys)
position_of_key keys name =
    ap (λ n. if nat_lt n (length keys) then Some n else None) (prefix_of_keys keys name)
    ∙ ap (λ size. if nat_lt (prefix_len (λ other. not (pointwise nat_eq name other)) (names_of keys)) size
    then Some (prefix_len (λ other. not (pointwise nat_eq name other)) (names_of keys)) else None) (length_of_keys keys)

pub keys_with : (keys : List (Bor (List ℕ))) (key : Bor (List ℕ))
    → names_of (insert_key same_name keys key) ≡ with_name (names_of keys) key.now
keys_with keys key =
    elim (list_any (same_name key) keys) as
    (λ b. names_of (if b then keys else keys ++ key ∷ []) ≡ (if b then names_of keys else names_of keys ++ key.now ∷ [])) [
      | true ↦ refl
      | false ↦ map_append (λ k. k.now) keys (key ∷ [])
    ]
    ∙ ap (λ b. if b then names_of keys else names_of keys ++ key.now ∷ []) (among_keys keys key.now)
