-- What is left of a table, entry by entry.
use Rattle.std.specs.Prelude.{◌≡◌, ℕ, ◌+◌, ◌*◌, ◌<◌, ◌≤◌, ◌&&◌, ◌==◌, Bool, true, false, not, nat_le, nat_lt, List, [], ◌∷◌, ◌++◌, All, IfSome, Option, None, Some, slice_index, refl, if◌then◌else◌}
use Rattle.std.proofs.Common.{◌∙◌, ap, arith, length, subst, sym, true≢false}
use Rattle.std.proofs.lemmas.Bool.Decides.{nat_tests}
use Rattle.std.proofs.lemmas.List.{get_or_append_left, length-append}
use Rattle.std.proofs.Math.Seq.{get_or-append_seam}
use Rattle.image80.specs.Image.{Located, memory_of}
use Rattle.image80.specs.Regions.{in_code}
use Rattle.verify80_cases.specs.Marks.{marked}
use Rattle.verify80_cases.specs.declared.table.EntryRun.{EntryRun}
use Rattle.verify80_cases.specs.declared.table.TableKind.{TableKind}
use Rattle.verify80_cases.specs.declared.table.TableKind.TheVariants.{Words, Jumps, Keys}
use Rattle.verify80_cases.specs.Reading.{IsBehindFirst, IsFirstGoal, IsRest}
use Rattle.verify80.specs.Looking.{declared_targets}
use Rattle.verify80.specs.LookLaws.{fetch_at}
use Rattle.verify80_cases.specs.Suggested.{GoesByTable, IsBegun, IsTableTarget, could_be_entry, goal_of, holds_pchl, is_entry, is_free, is_target, stride, word_in}

-- an entry of what isn't taken could be one
pub entry_could_be : (kind : TableKind) (image : Located) (reached taken : List Bool) (address : ℕ) → is_entry kind image reached taken address ≡ true → could_be_entry kind image address ≡ true
entry_could_be Words image reached taken address is =
    step (nat_le (address + 2) 65536) (in_code image.regions address) (marked taken address) (in_code image.regions (address + 1)) (marked taken (address + 1))
    (is_target image (word_in (memory_of image.chunks) address)) is
  where
    step : (a b u c v d : Bool) → (a && ((b && not u) && ((c && not v) && d))) ≡ true → (a && (b && (c && d))) ≡ true
    step true true false true false true e = refl
    step true true false true false false e = e
    step true true false true true d e = absurd (true≢false (sym e))
    step true true false false v d e = absurd (true≢false (sym e))
    step true true true c v d e = absurd (true≢false (sym e))
    step true false u c v d e = absurd (true≢false (sym e))
    step false b u c v d e = absurd (true≢false (sym e))
entry_could_be Jumps image reached taken address is =
    step (nat_le (address + 3) 65536) (slice_index (memory_of image.chunks) address == 195) (is_target image address) _ is
  where
    step : (a b c d : Bool) → (a && (b && (c && d))) ≡ true → (a && (b && c)) ≡ true
    step true true true d e = refl
    step true true false d e = absurd (true≢false (sym e))
    step true false c d e = absurd (true≢false (sym e))
    step false b c d e = absurd (true≢false (sym e))
entry_could_be (Keys order last) image reached taken address is =
    keyed (nat_le (address + 3) 65536) (is_free image taken address) (is_free image taken (address + 1)) (is_free image taken (address + 2))
    (in_code image.regions address) (in_code image.regions (address + 1)) (in_code image.regions (address + 2)) _ (code address) (code (address + 1)) (code (address + 2)) is
  where
    code : (at : ℕ) → is_free image taken at ≡ true → in_code image.regions at ≡ true
    code at free = step (in_code image.regions at) (marked taken at) free
      where
        step : (c m : Bool) → (c && not m) ≡ true → c ≡ true
        step true m e = refl
        step false m e = absurd (true≢false (sym e))

    all : (a b c : Bool) → a ≡ true → b ≡ true → c ≡ true → ((a && (b && c)) && true) ≡ true
    all true true true i j k = refl
    all true true false i j k = absurd (true≢false (sym k))
    all true false c i j k = absurd (true≢false (sym j))
    all false b c i j k = absurd (true≢false (sym i))

    keyed : (a f g h c d e t : Bool) → (f ≡ true → c ≡ true) → (g ≡ true → d ≡ true) → (h ≡ true → e ≡ true) →
        (a && ((f && (g && h)) && t)) ≡ true → (a && ((c && (d && e)) && t)) ≡ true
    keyed true true true true c d e true i j k is = all c d e (i refl) (j refl) (k refl)
    keyed true true true true c d e false i j k is = absurd (true≢false (sym is))
    keyed true true true false c d e t i j k is = absurd (true≢false (sym is))
    keyed true true false h c d e t i j k is = absurd (true≢false (sym is))
    keyed true false g h c d e t i j k is = absurd (true≢false (sym is))
    keyed false f g h c d e t i j k is = absurd (true≢false (sym is))

module _ (image : Located) (reached : List Bool) where
  -- all of a table is left
  pub begun_rest : (run : EntryRun) (at : ℕ) → GoesByTable image reached at run.kind run.first run.limit → IsRest image reached run
  begun_rest run at by = record {
    at = at;
    table = run.first;
    limit = run.limit;
    by = by;
    number = 0;
    first = begins run.kind;
    left = omega arith;
    passed = λ k inside. absurd (omega (arith, inside));
  }
    where
      begins : (kind : TableKind) → run.first ≡ run.first + stride kind * 0
      begins Words = omega arith
      begins Jumps = omega arith
      begins (Keys _ _) = omega arith

  -- the entries up to the first of what is left
  up_to : (rest : EntryRun) (is : IsRest image reached rest) → could_be_entry rest.kind image rest.first ≡ true → (k : ℕ) → k ≤ is.number →
      could_be_entry rest.kind image (is.table + stride rest.kind * k) ≡ true
  up_to rest is entry k within =
      (elim (nat_lt k is.number) as (λ b. nat_lt k is.number ≡ b → could_be_entry rest.kind image (is.table + stride rest.kind * k) ≡ true) [
        | true ↦ λ below. is.passed k (grind (arith, nat_tests))
        | false ↦ λ past.
            let here : k ≡ is.number = grind (arith, nat_tests) in
            subst (λ n. could_be_entry rest.kind image (is.table + stride rest.kind * n) ≡ true) (sym here)
            (subst (λ a. could_be_entry rest.kind image a ≡ true) is.first entry)
      ]) refl

  pub first_target : (rest : EntryRun) (goal : ℕ) → IsRest image reached rest → IsFirstGoal image rest goal → IsTableTarget image reached goal
  first_target rest goal is first = record {
    at = is.at;
    kind = rest.kind;
    table = is.table;
    limit = is.limit;
    by = is.by;
    number = is.number;
    inside = omega (arith, is.left, first.some);
    entries = up_to rest is first.entry;
    goal = first.is ∙ ap (goal_of rest.kind (memory_of image.chunks)) is.first;
  }

  pub rest_behind : (rest next : EntryRun) (goal : ℕ) → IsRest image reached rest → IsFirstGoal image rest goal → IsBehindFirst rest next → IsRest image reached next
  rest_behind rest next goal is first behind = record {
    at = is.at;
    table = is.table;
    limit = is.limit;
    by = subst (λ kind. GoesByTable image reached is.at kind is.table is.limit) (sym behind.kind) is.by;
    number = is.number + 1;
    first = behind.first ∙ advanced next.kind behind.kind;
    left = omega (arith, is.left, behind.limit);
    passed = λ k inside. subst (λ kind. could_be_entry kind image (is.table + stride kind * k) ≡ true) (sym behind.kind)
        (up_to rest is first.entry k (omega (arith, inside)));
  }
    where
      by_kind : (kind : TableKind) → rest.first ≡ is.table + stride kind * is.number → rest.first + stride kind ≡ is.table + stride kind * (is.number + 1)
      by_kind Words e = omega (arith, e)
      by_kind Jumps e = omega (arith, e)
      by_kind (Keys _ _) e = omega (arith, e)

      advanced : (kind : TableKind) → kind ≡ rest.kind → rest.first + stride rest.kind ≡ is.table + stride kind * (is.number + 1)
      advanced kind same = subst (λ one. rest.first + stride rest.kind ≡ is.table + stride one * (is.number + 1)) (sym same) (by_kind rest.kind is.first)

-- without the last one
pub all_but_last : (P : EntryRun → Type 0) (all front : List EntryRun) (last : EntryRun) → all ≡ front ++ last ∷ [] → All P all → All P front × P last
all_but_last P all front last is each =
    let here : All P (front ++ last ∷ []) = subst (All P) is each in (
      λ k d inside. subst P (get_or_append_left front (last ∷ []) d k inside) (here k d (omega (arith, inside, length-append front (last ∷ [])))),
      subst P (get_or-append_seam front last [] last) (here (length front) last (omega (arith, length-append front (last ∷ [])))),
    )

module _ (image : Located) (reached taken : List Bool) where
  -- the first entry of what is left, if there is one
  pub first_goal_is : (rest : EntryRun) (r : Option ℕ) → 0 < rest.limit →
      r ≡ (if is_entry rest.kind image reached taken rest.first then Some (goal_of rest.kind (memory_of image.chunks) rest.first) else None) → IfSome r (IsFirstGoal image rest)
  first_goal_is rest r some is = subst (λ o. IfSome o (IsFirstGoal image rest)) (sym is) (step (is_entry rest.kind image reached taken rest.first) refl)
    where
      step : (b : Bool) → is_entry rest.kind image reached taken rest.first ≡ b → IfSome (if b then Some (goal_of rest.kind (memory_of image.chunks) rest.first) else None) (IsFirstGoal image rest)
      step true entry = record { some = some; entry = entry_could_be rest.kind image reached taken rest.first entry; is = refl }
      step false entry = tt

  pub run_is_rest : (at : ℕ) (r : Option EntryRun) → holds_pchl (fetch_at image.regions (memory_of image.chunks) at) ≡ true → length (declared_targets image.regions at) ≡ 0 →
      IfSome r (λ (run : EntryRun). IsBegun image reached at run.kind run.first run.limit) → IfSome r (IsRest image reached)
  run_is_rest at None pchl undeclared begun = tt
  run_is_rest at (Some run) pchl undeclared begun = begun_rest image reached run at (record { is_pchl = pchl; undeclared = undeclared; begun = begun })
