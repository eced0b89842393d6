-- The entries of a table, and the case of its PCHL.
use Rattle.std.specs.Prelude.{◌≡◌, ℕ, ◌+◌, ◌*◌, ◌<◌, ◌&&◌, Bool, true, false, not, eqb, nat_le, nat_lt, List, [], ◌∷◌}
use Rattle.std.specs.Prelude.{◌++◌, All, Contains, IsPermutation, None, Some, length, slice_index, refl, if◌then◌else◌}
use Rattle.std.specs.List.{dedup}
use Rattle.std.specs.List.Sorted.{IsSorted}
use Rattle.std.specs.Ordering.{nat_cmp}
use Rattle.std.proofs.Common.{◌∙◌, ap, arith, get_or, subst, sym, true≢false, inl, inr}
use Rattle.std.proofs.lemmas.List.{length-append}
use Rattle.std.proofs.lemmas.Bool.Decides.{nat_tests}
use Rattle.std.proofs.lemmas.List.Filters.{All-dedup}
use Rattle.std.proofs.lemmas.List.FromFn.{get_or-map-range_with_len, map-range_with_len_more}
use Rattle.std.proofs.lemmas.List.Kept.{AllPairs-from_increasing, Contains-dedup_nat, Contains-from_dedup}
use Rattle.std.proofs.lemmas.List.Sorted.{All-permutation, Contains-permutation, IsPermutation-sym}
use Rattle.std.proofs.lemmas.Map.Keys.{IsStrictlyIncreasing-dedup}
use Rattle.image80.specs.Image.{Located, memory_of}
use Rattle.image80.specs.Regions.{in_code}
use Rattle.verify80_cases.specs.Marks.{marked}
use Rattle.verify80_cases.specs.Suggested.{AreEntries, IsBegun, IsSuggested, IsSuggestedCase, goal_of, goals_of, goes_on_behind}
use Rattle.verify80_cases.specs.Suggested.{is_ended, is_entry, is_free, is_open, is_target, is_undeclared, stride, word_in, word_place}
use Rattle.verify80_cases.specs.declared.table.TableKind.{TableKind}
use Rattle.verify80_cases.specs.declared.table.TableKind.TheVariants.{Words, Jumps, Keys}

both : (a b : Bool) → (a && b) ≡ true → (a ≡ true) × (b ≡ true)
both true b e = (refl, e)
both false b e = absurd (true≢false (sym e))

third : (a b t r : Bool) → (a && (b && (t && r))) ≡ true → t ≡ true
third true true true r e = refl
third true true false r e = absurd (true≢false (sym e))
third true false t r e = absurd (true≢false (sym e))
third false b t r e = absurd (true≢false (sym e))

-- where PCHL goes by an entry is an address at which an instruction stands
pub entry_target : (kind : TableKind) (image : Located) (reached taken : List Bool) (address : ℕ) → is_entry kind image reached taken address ≡ true →
    is_target image (goal_of kind (memory_of image.chunks) address) ≡ true
entry_target Words image reached taken address is =
    (both (is_free image taken (address + 1)) (is_target image (word_in (memory_of image.chunks) address))
    (both (is_free image taken address) (is_free image taken (address + 1) && is_target image (word_in (memory_of image.chunks) address))
    (both (nat_le (address + 2) 65536) (is_free image taken address && (is_free image taken (address + 1) && is_target image (word_in (memory_of image.chunks) address))) is).1).1).1
entry_target Jumps image reached taken address is =
    third (nat_le (address + 3) 65536) (eqb (slice_index (memory_of image.chunks) address) 195) (is_target image address) _ is
entry_target (Keys order last) image reached taken address is =
    third (nat_le (address + 3) 65536) (is_free image taken address && (is_free image taken (address + 1) && is_free image taken (address + 2)))
    (is_target image (word_in (memory_of image.chunks) (word_place order address))) _ is

-- what an answer says of an entry
pub entry_is : (image : Located) (reached taken : List Bool) (kind : TableKind) (address goal : ℕ) →
    Some goal ≡ (if is_entry kind image reached taken address then Some (goal_of kind (memory_of image.chunks) address) else None) →
    (is_entry kind image reached taken address ≡ true) × (goal ≡ goal_of kind (memory_of image.chunks) address)
entry_is image reached taken kind address goal e = step (is_entry kind image reached taken address) refl e
  where
    some : (x y : ℕ) → Some x ≡ Some y → x ≡ y
    some x y same = ap (λ o. elim o [ None ↦ x | Some z ↦ z ]) same

    step : (b : Bool) → is_entry kind image reached taken address ≡ b → Some goal ≡ (if b then Some (goal_of kind (memory_of image.chunks) address) else None) →
        (is_entry kind image reached taken address ≡ true) × (goal ≡ goal_of kind (memory_of image.chunks) address)
    step true i s = (i, some goal (goal_of kind (memory_of image.chunks) address) s)
    step false i s = absurd (none s)
      where
        none : Some goal ≡ None → ⊥
        none s = true≢false (ap (λ o. elim o [ None ↦ false | Some z ↦ true ]) s)

pub entry_none : (image : Located) (reached taken : List Bool) (kind : TableKind) (address : ℕ) →
    None ≡ (if is_entry kind image reached taken address then Some (goal_of kind (memory_of image.chunks) address) else None) →
    is_entry kind image reached taken address ≡ false
entry_none image reached taken kind address e = step (is_entry kind image reached taken address) refl e
  where
    step : (b : Bool) → is_entry kind image reached taken address ≡ b → None ≡ (if b then Some (goal_of kind (memory_of image.chunks) address) else None) → is_entry kind image reached taken address ≡ false
    step false i s = i
    step true i s = absurd (true≢false (ap (λ o. elim o [ None ↦ true | Some z ↦ false ]) s))

-- a given number of entries, from the first on
pub record AreFirst (image : Located) (reached taken : List Bool) (kind : TableKind) (table : ℕ) (goals : List ℕ) : Type 0 where
  pub read : goals ≡ goals_of kind (memory_of image.chunks) table (length goals)
  pub each : (k : ℕ) → k < length goals → is_entry kind image reached taken (table + stride kind * k) ≡ true

module _ (image : Located) (reached taken : List Bool) (kind : TableKind) (table : ℕ) where
  abbrev target_at : ℕ → ℕ
  target_at k = goal_of kind (memory_of image.chunks) (table + stride kind * k)

  pub no_entries : AreFirst image reached taken kind table []
  no_entries = record { read = refl; each = λ k inside. absurd (omega (arith, inside)) }

  -- one more
  pub one_more : (n goal : ℕ) (goals : List ℕ) → length goals ≡ n → AreFirst image reached taken kind table goals → is_entry kind image reached taken (table + stride kind * n) ≡ true →
      goal ≡ target_at n → AreFirst image reached taken kind table (goals ++ goal ∷ [])
  one_more n goal goals size so_far more is =
      let counted : length (goals ++ goal ∷ []) ≡ n + 1 = omega (arith, length-append goals (goal ∷ []), size) in
      let longer : goals_of kind (memory_of image.chunks) table (n + 1) ≡ goals_of kind (memory_of image.chunks) table n ++ target_at n ∷ [] =
      map-range_with_len_more target_at 0 n n (omega arith) in
      let before : goals ≡ goals_of kind (memory_of image.chunks) table n = so_far.read ∙ ap (λ m. goals_of kind (memory_of image.chunks) table m) size in
      let joined : goals ++ goal ∷ [] ≡ goals_of kind (memory_of image.chunks) table n ++ target_at n ∷ [] =
      ap (λ ws. ws ++ goal ∷ []) before ∙ ap (λ w. goals_of kind (memory_of image.chunks) table n ++ w ∷ []) is in
      record {
        read = joined ∙ sym longer ∙ ap (λ m. goals_of kind (memory_of image.chunks) table m) (sym counted);
        each = λ k inside. each_goal n goals size so_far more k (omega (arith, inside, counted));
      }
    where
      each_goal : (n : ℕ) (goals : List ℕ) → length goals ≡ n → AreFirst image reached taken kind table goals → is_entry kind image reached taken (table + stride kind * n) ≡ true →
          (k : ℕ) → k < n + 1 → is_entry kind image reached taken (table + stride kind * k) ≡ true
      each_goal n goals size so_far more k inside =
          (elim (nat_lt k n) as (λ b. nat_lt k n ≡ b → is_entry kind image reached taken (table + stride kind * k) ≡ true) [
            | true ↦ λ below. so_far.each k (grind (arith, nat_tests))
            | false ↦ λ past.
                let here : k ≡ n = grind (arith, nat_tests) in
                subst (λ m. is_entry kind image reached taken (table + stride kind * m) ≡ true) (sym here) more
          ]) refl

  -- they end
  pub ended : (n limit : ℕ) (goals : List ℕ) → length goals ≡ n → AreFirst image reached taken kind table goals → is_entry kind image reached taken (table + stride kind * n) ≡ false →
      AreEntries image reached taken kind table limit goals
  ended n limit goals size so_far fails = record {
    read = so_far.read;
    each = so_far.each;
    ends = inl (subst (λ m. is_entry kind image reached taken (table + stride kind * m) ≡ false) (sym size) fails);
  }

  pub full : (n limit : ℕ) (goals : List ℕ) → length goals ≡ n → n ≡ limit → AreFirst image reached taken kind table goals → AreEntries image reached taken kind table limit goals
  full n limit goals size all so_far = record {
    read = so_far.read;
    each = so_far.each;
    ends = inr (size ∙ all);
  }

  -- what holds of each goal
  each_of : (P : ℕ → Type 0) (limit : ℕ) (goals : List ℕ) → AreEntries image reached taken kind table limit goals → ((target : ℕ) → is_target image target ≡ true → P target) → All P goals
  each_of P limit goals are all = λ k d inside.
      let there : get_or goals k d ≡ target_at k =
      ap (λ ws. get_or ws k d) are.read ∙ get_or-map-range_with_len target_at 0 (length goals) k k d inside (omega arith) in
      subst P (sym there) (all (target_at k) (entry_target kind image reached taken (table + stride kind * k) (are.each k inside)))

  target_code : (target : ℕ) → is_target image target ≡ true → in_code image.regions target ≡ true
  target_code target is = (both (in_code image.regions target) _ is).0

some_goal : (goals : List ℕ) → 0 < length goals → (w : ℕ) × Contains goals w
some_goal [] some = absurd (omega (arith, some))
some_goal (w ∷ ws) some = (w, (0, omega arith, refl))

open_undeclared : (image : Located) (reached : List Bool) (at : ℕ) → is_open image reached at ≡ true → is_undeclared image at ≡ true
open_undeclared image reached at is = (both (marked reached at) (is_undeclared image at) is).1

-- the case of the goals
module _ (image : Located) (reached taken : List Bool) (kind : TableKind) (at table limit : ℕ) (goals sorted : List ℕ) (below : at < 65536) (is_here : is_open image reached at ≡ true)
    (begun : IsBegun image reached at kind table limit) (are : AreEntries image reached taken kind table limit goals) (small : All (λ target. target < 65536) goals) (some : 0 < length goals)
    (moved : IsPermutation goals sorted) (up : IsSorted nat_cmp sorted) where
  there : (w : ℕ) → Contains goals w → Contains (dedup eqb sorted) w
  there w inside = Contains-dedup_nat sorted w (Contains-permutation goals sorted w moved inside)

  abbrev suggested : IsSuggested image reached taken (record { at = at; targets = dedup eqb sorted })
  suggested =
      let one = some_goal goals some in
      let found : Contains (dedup eqb sorted) one.0 = there one.0 one.1 in
      record {
        undeclared = open_undeclared image reached at is_here;
        rules = record {
          word = below;
          some = omega (arith, found.1);
          words = All-dedup eqb (λ target. target < 65536) sorted (All-permutation (λ target. target < 65536) goals sorted moved small);
          ascending = AllPairs-from_increasing (dedup eqb sorted) (IsStrictlyIncreasing-dedup sorted up);
        };
        in_code = All-dedup eqb (λ target. in_code image.regions target ≡ true) sorted
            (All-permutation (λ target. in_code image.regions target ≡ true) goals sorted moved
            (each_of image reached taken kind table (λ target. in_code image.regions target ≡ true) limit goals are (target_code image reached taken kind table)));
        table = table;
        kind = kind;
        limit = limit;
        begun = begun;
        goals = goals;
        entries = are;
        targets = λ w. (λ inside. Contains-permutation sorted goals w (IsPermutation-sym goals sorted moved) (Contains-from_dedup eqb sorted w inside), there w);
      }

  pub suggested_case : (distinct : List ℕ) («end» : ℕ) (may : Bool) → distinct ≡ dedup eqb sorted → «end» ≡ table + stride kind * length goals →
      may ≡ (nat_lt (length goals) limit && (goes_on_behind image taken «end» && not (is_ended kind (memory_of image.chunks) «end»))) →
      IsSuggestedCase image reached taken (record { case = record { at = at; targets = distinct }; table = table; «end» = «end»; may_go_on = may })
  suggested_case distinct «end» may distinct_is is_end is_may =
      subst (λ ts. IsSuggestedCase image reached taken (record { case = record { at = at; targets = ts }; table = table; «end» = «end»; may_go_on = may })) (sym distinct_is)
      (record { suggested = suggested; table = refl; «end» = is_end; may_go_on = is_may })
