-- What holds of placed segments holds of the one that is looked up.
use Rattle.std.specs.Prelude.{◌≡◌, ℕ, zero, suc, ◌+◌, ◌==◌, ◌<◌, ◌++◌, Bool, filter, map, nat_lt, drop, length, refl, true, false, List, [], ◌∷◌, find, unwrap_or}
use Rattle.std.specs.List.{AllByRecursion}
use Rattle.std.proofs.Common.{cond, arith, Some, sym, ap, subst, ◌∙◌, append_assoc, get_or, drop-cons}
use Rattle.std.proofs.lemmas.List.{drop_more}
use Rattle.place80.specs.declared.placed_segments.Placed.{Placed}
use Rattle.omf_model.specs.Contents.{ContentValue}
use Rattle.image80.specs.Image.{PlacedBytes}
use Rattle.image80.specs.declared.range.Range.{Range}
use Rattle.image80.specs.RegionsText.{filled}
use Rattle.place80.specs.Locating.{chunk_among, range_at}
use Rattle.place80.specs.Layout.{placed_in, nowhere}

pub placed_in_word : (segments : List Placed) (id : ℕ) → AllByRecursion (λ (p : Placed). p.length < 65536) segments
    → (placed_in segments id).length < 65536
placed_in_word [] id all = omega arith
placed_in_word (p ∷ ps) id all =
    elim (p.id == id) as (λ b. (unwrap_or (cond b (Some p) (find (λ (q : Placed). q.id == id) ps)) (nowhere id)).length < 65536)
    [ true ↦ all.0 | false ↦ placed_in_word ps id all.1 ]

-- what holds of all holds of the one that is read
pub item_has : {A : Type 0} (P : A → Type 0) (xs : List A) (i : ℕ) (d : A) → AllByRecursion P xs → i < length xs
    → P (get_or xs i d)
item_has P [] i d all inside = absurd (omega (arith, inside))
item_has P (x ∷ xs) zero d all inside = all.0
item_has P (x ∷ xs) (suc i) d all inside = item_has P xs i d all.1 (omega (arith, inside))

pub all_item : {A : Type 0} (P : A → Type 0) (xs : List A) (i : ℕ) (x : A) → AllByRecursion P xs → i < length xs
    → x ≡ get_or xs i x → P x
all_item P xs i x all inside is = subst P (sym is) (item_has P xs i x all inside)

-- the chunks so far and those that are left, with one more
pub chunk_step : (segments : List Placed) (contents : List ContentValue) (i : ℕ) (c : ContentValue) (front : List PlacedBytes)
    (made : PlacedBytes) → i < length contents → c ≡ get_or contents i c → made ≡ chunk_among segments c →
    (front ++ made ∷ []) ++ map (chunk_among segments) (drop (i + 1) contents) ≡ front
    ++ map (chunk_among segments) (drop i contents)
chunk_step segments contents i c front made inside is same =
    let next : suc i ≡ i + 1 = omega arith in
    append_assoc front (made ∷ []) (map (chunk_among segments) (drop (i + 1) contents))
    ∙ ap (λ (x : PlacedBytes). front ++ x ∷ map (chunk_among segments) (drop (i + 1) contents)) same
    ∙ ap (λ (n : ℕ). front ++ chunk_among segments c ∷ map (chunk_among segments) (drop n contents)) (sym next)
    ∙ ap (λ (x : ContentValue). front ++ chunk_among segments x ∷ map (chunk_among segments) (drop (suc i) contents)) is
    ∙ ap (λ (l : List ContentValue). front ++ map (chunk_among segments) l) (sym (drop-cons contents i c inside))

-- a range, where it isn't empty, before others
filled_more : (r : Range) (rs : List Range) → filled (r ∷ []) ++ filled rs ≡ filled (r ∷ rs)
filled_more r rs = elim (nat_lt 0 r.length) as
    (λ b. cond b (r ∷ []) [] ++ filled rs ≡ cond b (r ∷ filled rs) (filled rs)) [ true ↦ refl | false ↦ refl ]

-- the ranges of the segments that pass a test
abbrev pub ranges_of : (Placed → Bool) → List Placed → List Range
ranges_of test segments = filled (map range_at (filter test segments))

-- the ranges so far and those that are left, with that of one more segment, which passes or not
pub one_range_more : (test : Placed → Bool) (segments : List Placed) (i : ℕ) (d : Placed) (front : List Range)
    → i < length segments → test (get_or segments i d) ≡ true →
    (front ++ filled (range_at (get_or segments i d) ∷ [])) ++ ranges_of test (drop (i + 1) segments) ≡ front
    ++ ranges_of test (drop i segments)
one_range_more test segments i d front inside passes =
    let p : Placed = get_or segments i d in
    let rest : List Placed = drop (i + 1) segments in
    append_assoc front (filled (range_at p ∷ [])) (ranges_of test rest)
    ∙ ap (λ (l : List Range). front ++ l) (filled_more (range_at p) (map range_at (filter test rest)))
    ∙ ap (λ b. front ++ filled (map range_at (cond b (p ∷ filter test rest) (filter test rest)))) (sym passes)
    ∙ ap (λ l. front ++ ranges_of test l) (sym (drop_more segments i d inside))

pub no_range_more : (test : Placed → Bool) (segments : List Placed) (i : ℕ) (d : Placed) (front : List Range)
    → i < length segments → test (get_or segments i d) ≡ false →
    front ++ ranges_of test (drop (i + 1) segments) ≡ front ++ ranges_of test (drop i segments)
no_range_more test segments i d front inside fails =
    let p : Placed = get_or segments i d in
    let rest : List Placed = drop (i + 1) segments in
    ap (λ b. front ++ filled (map range_at (cond b (p ∷ filter test rest) (filter test rest)))) (sym fails)
    ∙ ap (λ l. front ++ ranges_of test l) (sym (drop_more segments i d inside))
