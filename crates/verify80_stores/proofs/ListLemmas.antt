-- Lists of addresses, and of the stores there.
use Rattle.verify80_stores.proofs.Names.{◌≡◌, ◌∙◌, ◌<◌, ℕ, zero, suc, Bool, true, List, [], ◌∷◌, Option, None, Some, Contains, length}
use Rattle.verify80_stores.proofs.Names.{map, get_or, refl, arith, ap, sym, subst, true≢false, filter, range_with_len, All-contains}
use Rattle.verify80_stores.proofs.Names.{All-filter, AllPairs-filter, filter_passes, cond_both, get_or-range_with_len, length-range_with_len}
use Rattle.verify80_stores.proofs.Names.{get_or-map, length-map, All-map, Contains-get_or, and_parts, Fetched, Note, found_at, stores_by_pair}
use Rattle.verify80_stores.proofs.Names.{AreAllBelow, AreOpen, IsListed, is_at, is_kind, is_listed, note_at, store_at, instr_in}
use Rattle.verify80_stores.specs.Listing.{addresses_where}

-- what passes a test is kept
passes : (is : ℕ → Bool) (xs : List ℕ) (x : ℕ) → is x ≡ true → Contains xs x → Contains (filter is xs) x
passes is [] x so (k, inside, same) = absurd (omega arith)
passes is (y ∷ ys) x so (zero, inside, same) = cond_both (is y) (y ∷ filter is ys) (filter is ys) (λ l. Contains l x) (λ t. (0, omega arith, same)) (λ f. absurd (true≢false (sym so ∙ sym (ap is same) ∙ f)))
passes is (y ∷ ys) x so (suc k, inside, same) = let (i, less, it) = passes is ys x so (k, omega arith, same) in
    cond_both (is y) (y ∷ filter is ys) (filter is ys) (λ l. Contains l x) (λ t. (suc i, omega arith, it)) (λ f. (i, less, it))

module _ (is : ℕ → Bool) (bound : ℕ) where
  abbrev numbers : List ℕ
  numbers = range_with_len 0 bound

  number : (i d : ℕ) → i < length numbers → get_or numbers i d ≡ i
  number i d inside = get_or-range_with_len 0 bound i d (let long = length-range_with_len 0 bound in omega (arith, inside, long)) ∙ omega arith

  pub are_all : AreAllBelow is bound (filter is (range_with_len 0 bound))
  are_all = record {
    ascending = AllPairs-filter (λ a b. a < b) is numbers (λ i j d less inside. rw (number i d (omega (arith, less, inside)), number j d inside) less);
    each = λ at there. (
      All-contains (λ k. k < bound) (filter is numbers) at (All-filter is (λ k. k < bound) numbers (λ k d inside. rw (number k d inside) (let long = length-range_with_len 0 bound in omega (arith, inside, long)))) there,
      All-contains (λ k. is k ≡ true) (filter is numbers) at (filter_passes is numbers) there,
    );
    all = λ at less so. let long = length-range_with_len 0 bound in passes is numbers at so (at, omega (arith, less, long), number at at (omega (arith, less, long)));
  }

pub all_of : (is : ℕ → Bool) (xs : List ℕ) → xs ≡ addresses_where is → AreAllBelow is 65536 xs
unfolding addresses_where
all_of is xs same = subst (AreAllBelow is 65536) (sym same) (are_all is 65536)

-- the stores at the addresses of those that are open
module _ (reached : List (Option Fetched)) (notes : List Note) where
  listed : (at : ℕ) (o : Option Fetched) → found_at reached at ≡ o → (note_at notes at).is_open ≡ true → is_kind stores_by_pair o ≡ true → IsListed reached notes (store_at reached notes at)
  listed at None there is_open is = absurd (true≢false (sym is))
  listed at (Some found) there is_open is =
      record { found = found; there = there; instr = sym (ap instr_in there); stores = ap (λ (o : Option Fetched). stores_by_pair (instr_in o)) there ∙ is; is_open = is_open; span = refl }

  pub are_open : (addresses : List ℕ) → AreAllBelow (is_listed stores_by_pair true reached notes) 65536 addresses → AreOpen reached notes (map (store_at reached notes) addresses)
  are_open addresses are = record {
    ascending = λ i j d less inside.
        let long = length-map addresses (store_at reached notes) in
        rw (get_or-map (store_at reached notes) addresses i 0 d (omega (arith, long, less, inside)), get_or-map (store_at reached notes) addresses j 0 d (omega (arith, long, inside)))
        (are.ascending i j 0 less (omega (arith, long, inside)));
    each = All-map (IsListed reached notes) (store_at reached notes) addresses (λ k d inside.
        let at = get_or addresses k d in
        let both = and_parts (note_at notes at).is_open (is_at stores_by_pair reached at) (are.each at (Contains-get_or addresses k d inside)).1 in
        listed at (found_at reached at) refl both.0 both.1);
    all = λ at less is.
        let (k, inside, same) = are.all at less is in
        let it : get_or (map (store_at reached notes) addresses) k (store_at reached notes at) ≡ store_at reached notes at =
        get_or-map (store_at reached notes) addresses k at (store_at reached notes at) inside ∙ ap (store_at reached notes) same in
        (k, store_at reached notes at, (let long = length-map addresses (store_at reached notes) in omega (arith, long, inside)), it, refl);
  }
