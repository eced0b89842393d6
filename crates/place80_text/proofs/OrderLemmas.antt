-- Public names by address: a stable sort of references to them.
use Rattle.std.specs.Prelude.{◌≡◌, ℕ, ◌<◌, ◌==◌, ◌&&◌, not, nat_lt, Bool, true, false, List, [], ◌∷◌, length, map, filter, refl}
use Rattle.std.specs.List.Sorted.{IsNonDecreasingBy, IsStableByKey, ties}
use Rattle.std.proofs.Common.{◌∙◌, ap, sym, arith, cond}
use Rattle.std.proofs.lemmas.Bool.Decides.{nat_tests}
use Rattle.std.proofs.lemmas.List.{get_or-map, length-map}
use Rattle.std.proofs.lemmas.List.Elements.{filter_agree}
use Rattle.std.specs.Ordering.{is_lt, nat_cmp}
use Rattle.std.specs.declared.cmp.Ordering.TheVariants.{Less, Equal, Greater}
use denote.Bor.{Bor}
use Rattle.omf_model.specs.declared.symbols.Public.{Public}
use Rattle.place80.specs.declared.placed_segments.Placed.{Placed}
use Rattle.place80_text.specs.Map.{address_of, IsByAddress}

-- what passes of the values of a list
filter-map : {X Y : Type 0} (p : Y → Bool) (f : X → Y) (xs : List X) → filter p (map f xs) ≡ map f (filter (λ x. p (f x)) xs)
filter-map p f [] = refl
filter-map p f (x ∷ xs) =
    elim (p (f x)) as (λ b. cond b (f x ∷ filter p (map f xs)) (filter p (map f xs))
    ≡ map f (cond b (x ∷ filter (λ x. p (f x)) xs) (filter (λ x. p (f x)) xs)))
    [ true ↦ ap (λ l. f x ∷ l) (filter-map p f xs) | false ↦ filter-map p f xs ]

-- the test by which std sorts numbers
is_less : (x y : ℕ) → is_lt (nat_cmp x y) ≡ nat_lt x y
is_less x y =
    elim (nat_lt x y) as (λ b. is_lt (cond b Less (cond (x == y) Equal Greater)) ≡ b) [
      | true ↦ refl
      | false ↦ elim (x == y) as (λ e. is_lt (cond e Equal Greater) ≡ false) [ true ↦ refl | false ↦ refl ]
    ]

-- two numbers tie where they are equal
ties-are_equal : (a k : ℕ) → (not (nat_lt a k) && not (nat_lt k a)) ≡ (k == a)
ties-are_equal a k = grind (arith, nat_tests)

module _ (segments : List Placed) where
  -- the address of a name behind a reference
  abbrev pub key : Bor Public → ℕ
  key r = address_of segments r.now

  -- a reference to a name that stands at an address
  abbrev one_at : ℕ → Bor Public
  one_at a = record { ref_ptr = (0, 0); now = record { name = []; segment = 0; offset = a } }

  ascending-map : (xs : List (Bor Public)) → IsNonDecreasingBy key xs
      → IsNonDecreasingBy (address_of segments) (map (λ r. r.now) xs)
  ascending-map xs up i j d le below =
      let e : Bor Public = record { ref_ptr = (0, 0); now = d } in
      let within : j < length xs = omega (arith, below, length-map xs (λ (r : Bor Public). r.now)) in
      rw (
        get_or-map (λ (r : Bor Public). r.now) xs i e d (omega (arith, le, within)),
        get_or-map
            (λ (r : Bor Public). r.now) xs j e d within,
      ) (up i j e le within)

  tie-at : (a : ℕ) (r : Bor Public) → ties (λ x y. is_lt (nat_cmp (key x) (key y))) (one_at a) r ≡ (key r == a)
  tie-at a r = rw (is_less a (key r), is_less (key r) a) (ties-are_equal a (key r))

  each-map : (xs ys : List (Bor Public)) → IsStableByKey key nat_cmp xs ys → (a : ℕ) →
      filter (λ p. address_of segments p == a) (map (λ r. r.now) ys)
      ≡ filter (λ p. address_of segments p == a) (map (λ r. r.now) xs)
  each-map xs ys stable a =
      let tests : (zs : List (Bor Public))
      → filter (ties (λ x y. is_lt (nat_cmp (key x) (key y))) (one_at a)) zs ≡ filter (λ r. key r == a) zs =
      λ zs. filter_agree _ (λ r. key r == a) (tie-at a) zs in
      filter-map (λ p. address_of segments p == a) (λ r. r.now) ys
      ∙ ap (map (λ (r : Bor Public). r.now)) (sym (tests ys) ∙ stable (one_at a) ∙ tests xs)
      ∙ sym (filter-map (λ p. address_of segments p == a) (λ r. r.now) xs)

  pub sorted_by_address : (publics : List Public) (xs ys : List (Bor Public)) → map (λ r. r.now) xs ≡ publics
      → IsNonDecreasingBy key ys → IsStableByKey key nat_cmp xs ys →
      IsByAddress segments publics (map (λ r. r.now) ys)
  sorted_by_address publics xs ys same up stable = record {
    ascending = ascending-map ys up;
    each = λ a. each-map xs ys stable a ∙ ap (filter (λ p. address_of segments p == a)) same;
  }
