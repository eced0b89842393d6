-- A table of instructions by address, while those of points are noted in it.
use Rattle.std.specs.Prelude.{◌≡◌, ◌≢◌, ℕ, ◌+◌, ◌<◌, ◌≤◌, List, IsSome, is_some, Option, None, Some, Result, Ok, Err, length, replicate, slice_index_or, slice_set, refl}
use Rattle.std.specs.Result.{result_ok}
use Rattle.std.proofs.Common.{◌∙◌, ap, sym, subst, arith, inl, inr, true≢false}
use Rattle.std.proofs.lemmas.Bool.{cases_lt, cases_eq}
use Rattle.std.proofs.lemmas.List.{length-set, length-replicate, get_or-replicate, get_or-set_same, get_or-set_other, get_or_default, get_or_past}
use Rattle.decode80.specs.declared.fetching.Fetched.{Fetched}
use Rattle.frames80.specs.declared.code.LookFault.{LookFault}
use Rattle.frames80.specs.Code.{Code}
use Rattle.verify80_flow.specs.FittingLaws.{NoFault}
use Rattle.verify80_flow.specs.declared.report.ProgramPoint.{ProgramPoint}
use Rattle.verify80_flow.specs.ProgramPoints.{ArePoints, IsReachedPoint}
use Rattle.image80.specs.Image.{Located}
use Rattle.verify80.specs.Looking.{code_of}
use Rattle.verify80.specs.Reached.{IsReached}
use Rattle.verify80.specs.Reached.{AreReached, found_at}

-- the instructions of the first points are noted, and no others
pub record AreNoted (code : Code) (points : List ProgramPoint) (count : ℕ) (table : List (Option Fetched)) : Type 0 where
  pub whole : length table ≡ 65536
  pub found : (at : ℕ) (found : Fetched) → found_at table at ≡ Some found → IsReached code at × (code.look at ≡ Ok found)
  pub noted : (i : ℕ) (d : ProgramPoint) → i < count → IsSome (found_at table (slice_index_or points i d).at)

-- nothing is noted yet
none_in : (n at : ℕ) → found_at (replicate n None) at ≡ None
none_in n at = elim (cases_lt at n) [
  | inl inside ↦ get_or-replicate n at None None inside
  | inr past ↦ get_or_past (replicate n None) at None (subst (λ (m : ℕ). m ≤ at) (sym (length-replicate n None)) past)
]

pub none_noted : (code : Code) (points : List ProgramPoint) (table : List (Option Fetched)) → table ≡ replicate 65536 None → AreNoted code points 0 table
none_noted code points table nothing = record {
  whole = ap length nothing ∙ length-replicate {A = Option Fetched} 65536 None;
  found = λ at found is. absurd (let e : None ≡ Some found = sym (ap (λ (t : List (Option Fetched)). found_at t at) nothing ∙ none_in 65536 at) ∙ is in cc);
  noted = λ i d less. absurd (omega (arith, less));
}

-- there is an instruction at an address that is reached
looked_at : (code : Code) → NoFault code → (at : ℕ) → IsReached code at → IsSome (result_ok (code.look at))
looked_at code none at reached = by (code.look at) refl
  where
    by : (r : Result Fetched LookFault) → code.look at ≡ r → IsSome (result_ok r)
    by (Ok found) is = refl
    by (Err fault) is = absurd (none.look at fault (record { procedure = reached.procedure; frame = reached.frame; walk = reached.walk; looked = is }))

ok_found : (r : Result Fetched LookFault) (found : Fetched) → result_ok r ≡ Some found → r ≡ Ok found
ok_found (Ok other) found is = cc
ok_found (Err fault) found is = absurd (cc)

-- one more point
pub one_noted : (code : Code) → NoFault code → (points : List ProgramPoint) → ArePoints code points → (i : ℕ) (table : List (Option Fetched)) (point : ProgramPoint) →
    i < length points → point ≡ slice_index_or points i point → AreNoted code points i table →
    AreNoted code points (i + 1) (slice_set table point.at (result_ok (code.look point.at)))
one_noted code none points are i table point inside is before = record {
  whole = length-set table point.at (result_ok (code.look point.at)) ∙ before.whole;
  found = λ at found there. elim (cases_eq at point.at) [
    | inl same ↦
        let here : result_ok (code.look point.at) ≡ Some found = sym stored ∙ ap (found_at after) (sym same) ∙ there in
        subst (λ a. IsReached code a × (code.look a ≡ Ok found)) (sym same) (reached, ok_found (code.look point.at) found here)
    | inr other ↦ before.found at found (sym (kept at other) ∙ there)
  ];
  noted = λ j d less. elim (cases_lt j i) [
    | inl earlier ↦ elim (cases_eq (slice_index_or points j d).at point.at) [
      | inl same ↦ subst (λ a. IsSome (found_at after a)) (sym same) some_here
      | inr other ↦ subst IsSome (sym (kept (slice_index_or points j d).at other)) (before.noted j d earlier)
    ]
    | inr late ↦
        let last : j ≡ i = omega (arith, less, late) in
        let at_j : slice_index_or points j d ≡ point = ap (λ n. slice_index_or points n d) last ∙ at_i d in
        subst (λ (x : ProgramPoint). IsSome (found_at after x.at)) (sym at_j) some_here
  ];
}
  where
    after : List (Option Fetched)
    after = slice_set table point.at (result_ok (code.look point.at))

    at_i : (d : ProgramPoint) → slice_index_or points i d ≡ point
    at_i d = get_or_default points i d point inside ∙ sym is

    reached_point : IsReachedPoint code point
    reached_point = subst (IsReachedPoint code) (sym is) (are.each i point inside)

    reached : IsReached code point.at
    reached = record { procedure = point.procedure; frame = reached_point.frame; walk = reached_point.walk }

    low : point.at < length table
    low = let l = subst (λ (x : ProgramPoint). x.at < 65536) (sym is) (are.addresses i point inside) in let w = before.whole in omega (arith, l, w)

    stored : found_at after point.at ≡ result_ok (code.look point.at)
    stored = get_or-set_same table point.at (result_ok (code.look point.at)) None low

    some_here : IsSome (found_at after point.at)
    some_here = subst IsSome (sym stored) (looked_at code none point.at reached)

    kept : (at : ℕ) → at ≢ point.at → found_at after at ≡ found_at table at
    kept at other = get_or-set_other table point.at at (result_ok (code.look point.at)) None other

pub one_more_noted : (image im : Located) → im ≡ image → NoFault (code_of image) → (points : List ProgramPoint) → ArePoints (code_of image) points →
    (i : ℕ) (table more : List (Option Fetched)) (d : ProgramPoint) → i < length points →
    more ≡ slice_set table (slice_index_or points i d).at (result_ok ((code_of im).look (slice_index_or points i d).at)) →
    AreNoted (code_of image) points i table → AreNoted (code_of image) points (i + 1) more
one_more_noted image im same none points are i table more d inside is before =
    let point : ProgramPoint = slice_index_or points i d in
    subst (AreNoted (code_of image) points (i + 1))
    (sym (is ∙ ap (λ (x : Located). slice_set table point.at (result_ok ((code_of x).look point.at))) same))
    (one_noted (code_of image) none points are i table point inside (get_or_default points i d point inside) before)

-- all points
pub all_noted : (code : Code) (points : List ProgramPoint) → ArePoints code points → (count : ℕ) (table : List (Option Fetched)) → length points ≤ count →
    AreNoted code points count table → AreReached code table
all_noted code points are count table all noted = record {
  found = noted.found;
  none = λ at nothing reached.
      let has = are.all reached.procedure at reached.frame reached.walk in
      let here : slice_index_or points has.there.0 has.point ≡ has.point = has.there.2 in
      let inside = has.there.1 in
      let some : IsSome (found_at table at) =
      subst (λ a. IsSome (found_at table a)) (ap (λ (x : ProgramPoint). x.at) here ∙ has.at) (noted.noted has.there.0 has.point (omega (arith, inside, all))) in
      true≢false (sym some ∙ ap is_some nothing);
}
