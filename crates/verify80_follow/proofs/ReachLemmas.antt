-- A table of instructions by address, while those of states are noted in it.
use Rattle.std.specs.Prelude.{◌≡◌, ◌≢◌, ◌≤◌, ◌<◌, ◌+◌, ℕ, Bool, true, false, List, Option, None, Some, Result, Ok, Err, AllPairs, Any, length, replicate, slice_index_or, slice_set}
use Rattle.std.specs.{List.IsAllAdjacentAnswer, List.list_all, Result.result_ok}
use Rattle.std.proofs.Common.{◌∙◌, ap, arith, get_or, inl, inr, nat_lt, refl, subst, sym}
use Rattle.std.proofs.lemmas.Bool.{cases_lt, cases_eq, ltb-true}
use Rattle.std.proofs.lemmas.List.{Kept.AllPairs-from_increasing, Sums.AllPass-from_list_all}
use Rattle.std.proofs.lemmas.List.{length-set, length-replicate, get_or-replicate, get_or-set_same, get_or-set_other, get_or_default, get_or_past}
use Rattle.decode80.specs.declared.{fetching.Fetched.Fetched, fetching.FetchFault.FetchFault, instr.Instr.Instr}
use Rattle.image80.specs.{Image.Located, Image.memory_of}
use Rattle.verify80.specs.{LookLaws.fetch_at, Reached.found_at}
use Rattle.verify80_stores.specs.Listing.{is_at, is_kind}
use Rattle.verify80_follow.specs.Reaching.{AreAt, AreFollowed, HasAt}

-- the instructions at which the first states stand are noted, and no others
pub record AreNoted (image : Located) (states : List ℕ) (count : ℕ) (table : List (Option Fetched)) : Type 0 where
  pub whole : length table ≡ 65536
  pub only : (at : ℕ) (found : Fetched) → found_at table at ≡ Some found →
      Any (λ place. place ≡ at) states × (fetch_at image.regions (memory_of image.chunks) at ≡ Ok found)
  pub each : (i : ℕ) (d : ℕ) (found : Fetched) → i < count → fetch_at image.regions (memory_of image.chunks) (slice_index_or states i d) ≡ Ok found →
      found_at table (slice_index_or states i d) ≡ Some found

-- nothing is noted yet
none_in : (n at : ℕ) → found_at (replicate n None) at ≡ None
none_in n at = elim (cases_lt at n) [
  | inl inside ↦ get_or-replicate n at None None inside
  | inr past ↦ get_or_past (replicate n None) at None (subst (λ (m : ℕ). m ≤ at) (sym (length-replicate n None)) past)
]

pub none_noted : (image : Located) (states : List ℕ) (table : List (Option Fetched)) → table ≡ replicate 65536 None → AreNoted image states 0 table
none_noted image states table nothing = record {
  whole = ap length nothing ∙ length-replicate {A = Option Fetched} 65536 None;
  only = λ at found is. absurd (let e : None ≡ Some found = sym (ap (λ (t : List (Option Fetched)). found_at t at) nothing ∙ none_in 65536 at) ∙ is in cc);
  each = λ i d found less. absurd (omega (arith, less));
}

ok_found : (r : Result Fetched FetchFault) (found : Fetched) → result_ok r ≡ Some found → r ≡ Ok found
ok_found (Ok other) found is = cc
ok_found (Err fault) found is = absurd (cc)

-- one more state
module _ (image : Located) (states : List ℕ) where
  abbrev fetched : ℕ → Result Fetched FetchFault
  fetched at = fetch_at image.regions (memory_of image.chunks) at

  module _ (i : ℕ) (table : List (Option Fetched)) (state : ℕ) (inside : i < length states) (is : state ≡ slice_index_or states i state) (small : state < 65536) (before : AreNoted image states i table) where
    abbrev pub after : List (Option Fetched)
    after = slice_set table state (result_ok (fetched state))

    low : state < length table
    low = let w = before.whole in omega (arith, small, w)

    stored : found_at after state ≡ result_ok (fetched state)
    stored = get_or-set_same table state (result_ok (fetched state)) None low

    kept : (at : ℕ) → at ≢ state → found_at after at ≡ found_at table at
    kept at other = get_or-set_other table state at (result_ok (fetched state)) None other

    here : (at : ℕ) (found : Fetched) → at ≡ state → fetched at ≡ Ok found → found_at after at ≡ Some found
    here at found same is_fetched = ap (found_at after) same ∙ stored ∙ ap result_ok (ap fetched (sym same) ∙ is_fetched)

    pub one_noted : AreNoted image states (i + 1) after
    one_noted = record {
      whole = length-set table state (result_ok (fetched state)) ∙ before.whole;
      only = λ at found there. elim (cases_eq at state) [
        | inl same ↦ (
          (i, state, inside, sym is, sym same),
          ap fetched same ∙ ok_found (fetched state) found (sym stored ∙ ap (found_at after) (sym same) ∙ there),
        )
        | inr other ↦ before.only at found (sym (kept at other) ∙ there)
      ];
      each = λ j d found less is_fetched. elim (cases_lt j i) [
        | inl earlier ↦ elim (cases_eq (slice_index_or states j d) state) [
          | inl same ↦ here (slice_index_or states j d) found same is_fetched
          | inr other ↦ kept (slice_index_or states j d) other ∙ before.each j d found earlier is_fetched
        ]
        | inr late ↦
            let last : j ≡ i = omega (arith, less, late) in
            let at_j : slice_index_or states j d ≡ state = ap (λ n. slice_index_or states n d) last ∙ (get_or_default states i d state inside ∙ sym is) in
            here (slice_index_or states j d) found (ap (λ (s : ℕ). s) at_j) is_fetched
      ];
    }

-- all states
pub all_noted : (image : Located) (states : List ℕ) (count : ℕ) (table : List (Option Fetched)) → length states ≤ count → AreNoted image states count table → AreFollowed image states table
all_noted image states count table all noted = record {
  whole = noted.whole;
  only = noted.only;
  each = λ k d within found is. noted.each k d found (omega (arith, within, all)) is;
}

-- addresses that ascend from each to the next
pub ascending_is : (xs : List ℕ) (r : Bool) → IsAllAdjacentAnswer (λ a b t. t ≡ nat_lt a b) xs r → r ≡ true → AllPairs (λ a b. a < b) xs
ascending_is xs true is same = AllPairs-from_increasing xs (λ k inside. ltb-true (get_or xs k 0) (get_or xs (k + 1) 0) (sym (is k 0 inside)))
ascending_is xs false is same = absurd (cc)

-- where an instruction of a kind is reached, one stands
module _ (image : Located) (places : List ℕ) (reached : List (Option Fetched)) (kind : Instr → Bool) (followed : AreFollowed image places reached) where
  has_by : (at : ℕ) (entry : Option Fetched) → found_at reached at ≡ entry → is_kind kind entry ≡ true → HasAt image places kind at
  has_by at None same is = absurd (cc)
  has_by at (Some found) same is = record {
    placed = (followed.only at found same).0;
    found = found;
    fetched = (followed.only at found same).1;
    is = is;
  }

  pub are_at : (addresses : List ℕ) → AllPairs (λ a b. a < b) addresses → list_all (is_at kind reached) addresses ≡ true → AreAt image places kind addresses
  are_at addresses ascending all = record {
    ascending = ascending;
    each = λ k d inside. has_by (get_or addresses k d) (found_at reached (get_or addresses k d)) refl (AllPass-from_list_all (is_at kind reached) addresses all k d inside);
  }
