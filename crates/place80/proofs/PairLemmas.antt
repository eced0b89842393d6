-- The first two places that share an address.
use Rattle.std.specs.Prelude.{◌≡◌, ℕ, suc, ◌+◌, ◌-◌, ◌==◌, ◌<◌, ◌≤◌, true, false, Option, Some, None, option_map, List, [], ◌∷◌, ◌++◌, map, filter, find, take, drop, length, refl, if◌then◌else◌}
use Rattle.std.specs.List.{AllByRecursion}
use Rattle.std.specs.Option.{option_or}
use Rattle.std.proofs.Common.{Bool, cond, ◌∙◌, ap, sym, subst, get_or, drop-cons, take_all, length-drop, arith}
use Rattle.std.proofs.lemmas.List.{drop_more}
use Rattle.omf_core.specs.SegmentId.{absolute_id}
use Rattle.omf_model.specs.Contents.{ContentValue}
use Rattle.place80.specs.declared.placed_segments.Placed.{Placed}
use Rattle.place80.specs.PlaceFault.{overlaps, beside_each, pairs, absolute_place, absolute_places, with_each, first_sharing}

-- the first of some pairs, or else of others
pub sharing_of_both : (ps qs : List (Placed × Placed)) → first_sharing (ps ++ qs) ≡ option_or (first_sharing ps) (first_sharing qs)
sharing_of_both [] qs = refl
sharing_of_both (p ∷ ps) qs =
    elim (overlaps p.0 p.1) as (λ b. cond b (Some p) (first_sharing (ps ++ qs))
    ≡ option_or (cond b (Some p) (first_sharing ps)) (first_sharing qs))
    [ true ↦ refl | false ↦ sharing_of_both ps qs ]

pub found_first : (ps qs : List (Placed × Placed)) (p : Placed × Placed) → first_sharing ps ≡ Some p → first_sharing (ps ++ qs) ≡ Some p
found_first ps qs p is = sharing_of_both ps qs ∙ ap (λ o. option_or o (first_sharing qs)) is

pub found_among_others : (ps qs : List (Placed × Placed)) → first_sharing ps ≡ None → first_sharing (ps ++ qs) ≡ first_sharing qs
found_among_others ps qs none = sharing_of_both ps qs ∙ ap (λ o. option_or o (first_sharing qs)) none

-- the first of others beside a place
pub sharing_beside : (place : Placed) (others : List Placed) → first_sharing (beside_each place others) ≡ option_map (λ q. (place, q)) (find (overlaps place) others)
sharing_beside place [] = refl
sharing_beside place (q ∷ qs) = go (overlaps place q) (sharing_beside place qs)
  where
    go : (t : Bool) → first_sharing (beside_each place qs) ≡ option_map (λ q. (place, q)) (find (overlaps place) qs)
        → cond t (Some (place, q)) (first_sharing (beside_each place qs)) ≡ option_map (λ q. (place, q)) (cond t (Some q) (find (overlaps place) qs))
    go true rest = refl
    go false rest = rest

-- the items after one, as a slice of them
later_items : {A : Type 0} (xs : List A) (i : ℕ) → take (length xs - (i + 1)) (drop (i + 1) xs) ≡ drop (i + 1) xs
later_items xs i =
    let long : length (drop (i + 1) xs) ≡ length xs - (i + 1) = length-drop (i + 1) xs in
    take_all (length xs - (i + 1)) (drop (i + 1) xs) (omega arith)

-- a segment and the later ones
pub pairs_from : (segments : List Placed) (i : ℕ) (d : Placed) → i < length segments →
    first_sharing (pairs (drop i segments))
    ≡ option_or (first_sharing (beside_each (get_or segments i d) (take (length segments - (i + 1)) (drop (i + 1) segments))))
    (first_sharing (pairs (drop (i + 1) segments)))
pairs_from segments i d inside =
    let next : suc i ≡ i + 1 = omega arith in
    let p = get_or segments i d in
    ap (λ l. first_sharing (pairs l)) (drop-cons segments i d inside)
    ∙ ap (λ n. first_sharing (pairs (p ∷ drop n segments))) next
    ∙ sharing_of_both (beside_each p (drop (i + 1) segments)) (pairs (drop (i + 1) segments))
    ∙ ap (λ l. option_or (first_sharing (beside_each p l)) (first_sharing (pairs (drop (i + 1) segments))))
    (sym (later_items segments i))

-- a content, if it is absolute, and the segments
abbrev first_of_content : List Placed → ContentValue → Option (Placed × Placed)
first_of_content places c = if c.segment == absolute_id then first_sharing (beside_each (absolute_place c) places) else None

content_first : (segments : List Placed) (c : ContentValue) (cs : List ContentValue) →
    first_sharing (with_each segments (absolute_places (c ∷ cs)))
    ≡ option_or (first_of_content segments c) (first_sharing (with_each segments (absolute_places cs)))
content_first segments c cs =
    elim (c.segment == absolute_id) as
    (λ b. first_sharing (with_each segments
    (map absolute_place (cond b (c ∷ filter (λ c. c.segment == absolute_id) cs) (filter (λ c. c.segment == absolute_id) cs))))
    ≡ option_or (cond b (first_sharing (beside_each (absolute_place c) segments)) None)
    (first_sharing (with_each segments (absolute_places cs))))
    [ true ↦ sharing_of_both (beside_each (absolute_place c) segments) (with_each segments (absolute_places cs)) | false ↦ refl ]

pub contents_from : (segments : List Placed) (contents : List ContentValue) (i : ℕ) (c : ContentValue) → i < length contents
    → c ≡ get_or contents i c →
    first_sharing (with_each segments (absolute_places (drop i contents)))
    ≡ option_or (first_of_content segments c) (first_sharing (with_each segments (absolute_places (drop (i + 1) contents))))
contents_from segments contents i c inside is =
    let next : suc i ≡ i + 1 = omega arith in
    ap (λ l. first_sharing (with_each segments (absolute_places l))) (drop-cons contents i c inside)
    ∙ ap (λ x. first_sharing (with_each segments (absolute_places (x ∷ drop (suc i) contents)))) (sym is)
    ∙ ap (λ n. first_sharing (with_each segments (absolute_places (c ∷ drop n contents)))) next
    ∙ content_first segments c (drop (i + 1) contents)

-- if the next place has a partner, it is the first; else the first is among those that are left
pub found_here : (found : Option (Placed × Placed)) (pair : Placed × Placed) (rest all : Option (Placed × Placed))
    → all ≡ option_or found rest → found ≡ Some pair → all ≡ Some pair
found_here found pair rest all is here = is ∙ ap (λ o. option_or o rest) here

pub found_later : (found rest all : Option (Placed × Placed)) → all ≡ option_or found rest → found ≡ None → all ≡ rest
found_later found rest all is none = is ∙ ap (λ o. option_or o rest) none

-- the contents that are left fit a record each, as all did
pub records_left : (contents : List ContentValue) (i : ℕ) (d : ContentValue) → i < length contents
    → AllByRecursion (λ c. length c.bytes ≤ 65531) (drop i contents) → AllByRecursion (λ c. length c.bytes ≤ 65531) (drop (i + 1) contents)
records_left contents i d inside all =
    (subst (λ (l : List ContentValue). AllByRecursion (λ c. length c.bytes ≤ 65531) l) (drop_more contents i d inside) all).1
