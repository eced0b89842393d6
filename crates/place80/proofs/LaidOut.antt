-- The layout is the one list of segments that is laid out.
use Rattle.std.specs.Prelude.{◌≡◌, ℕ, ◌+◌, unwrap_or, List, [], ◌∷◌, ◌++◌, map, true, false, refl}
use Rattle.std.specs.List.{AllByRecursion}
use Rattle.std.proofs.Common.{◌∙◌, ap, sym, subst}
use Rattle.omf_model.specs.Modules.{ModuleValue}
use Rattle.omf_model.specs.Place.{rounded}
use Rattle.place80.specs.declared.options.Options.{Options}
use Rattle.place80.specs.declared.placed_segments.Placed.{Placed}
use Rattle.place80.specs.Layout.{default_base, common_ids, order_of, given_length, own_segment, placed_after, placed_from, layout_of}
use Rattle.place80.specs.LayoutLaws.{HasItsLength, AllFollow, IsLaidOut}

ids_from : (options : Options) (m : ModuleValue) (before : ℕ) (ids : List ℕ)
    → map (λ p. p.id) (placed_from options m before ids) ≡ ids
ids_from options m before [] = refl
ids_from options m before (id ∷ ids) =
    let p = placed_after options m before id in
    ap (λ (l : List ℕ). id ∷ l) (ids_from options m (p.base + p.length) ids)

lengths_from : (options : Options) (m : ModuleValue) (before : ℕ) (ids : List ℕ)
    → AllByRecursion (HasItsLength options m) (placed_from options m before ids)
lengths_from options m before [] = _
lengths_from options m before (id ∷ ids) =
    let p = placed_after options m before id in
    (refl, lengths_from options m (p.base + p.length) ids)

follow_from : (options : Options) (m : ModuleValue) (before : Placed) (ids : List ℕ)
    → AllFollow options m before (placed_from options m (before.base + before.length) ids)
follow_from options m before [] = _
follow_from options m before (id ∷ ids) =
    (refl, follow_from options m (placed_after options m (before.base + before.length) id) ids)

-- the ids after CODE
abbrev later_ids : ModuleValue → List ℕ
later_ids m = 3 ∷ (common_ids m.commons ++ 255 ∷ 2 ∷ 4 ∷ [])

first_base : (options : Options) (m : ModuleValue)
    → (placed_after options m default_base 1).base ≡ unwrap_or options.code default_base
first_base options m = elim (own_segment m 1).paged as
    (λ b. unwrap_or options.code (rounded b default_base) ≡ unwrap_or options.code default_base) [ true ↦ refl | false ↦ refl ]

pub layout_is_laid_out : (options : Options) (m : ModuleValue) → IsLaidOut options m (layout_of options m)
unfolding layout_of
layout_is_laid_out options m =
    let code = placed_after options m default_base 1 in
    record {
      code = code;
      others = placed_from options m (code.base + code.length) (later_ids m);
      whole = refl;
      order = ids_from options m default_base (order_of m.commons);
      lengths = lengths_from options m default_base (order_of m.commons);
      first = first_base options m;
      follow = follow_from options m code (later_ids m);
    }

-- the first item of a list, and the others
abbrev head_or : List ℕ → ℕ → ℕ
head_or [] other = other
head_or (x ∷ xs) other = x

abbrev tail_of : List ℕ → List ℕ
tail_of [] = []
tail_of (x ∷ xs) = xs

-- a segment is what its id, base and length are
same_placed : (p q : Placed) → p.id ≡ q.id → p.base ≡ q.base → p.length ≡ q.length → p ≡ q
same_placed p q id base long =
    ap (λ (n : ℕ). record { id = n; base = p.base; length = p.length }) id
    ∙ ap (λ (n : ℕ). record { id = q.id; base = n; length = p.length }) base
    ∙ ap (λ (n : ℕ). record { id = q.id; base = q.base; length = n }) long

followers : (options : Options) (m : ModuleValue) (before : Placed) (segments : List Placed) (ids : List ℕ)
    → map (λ p. p.id) segments ≡ ids → AllByRecursion (HasItsLength options m) segments → AllFollow options m before segments →
    segments ≡ placed_from options m (before.base + before.length) ids
followers options m before [] ids order lengths follow = ap (placed_from options m (before.base + before.length)) order
followers options m before (p ∷ ps) ids order lengths follow =
    let here = same_placed p (placed_after options m (before.base + before.length) p.id) refl follow.0 lengths.0 in
    let later = followers options m p ps (map (λ q. q.id) ps) refl lengths.1 follow.1 in
    ap (λ (l : List Placed). p ∷ l) later
    ∙ ap (λ (q : Placed). q ∷ placed_from options m (q.base + q.length) (map (λ q. q.id) ps)) here
    ∙ ap (placed_from options m (before.base + before.length)) order

pub laid_out_in_one_way : (options : Options) (m : ModuleValue) (segments : List Placed) → IsLaidOut options m segments
    → segments ≡ layout_of options m
unfolding layout_of
laid_out_in_one_way options m segments laid =
    let code = laid.code in
    let others = laid.others in
    let order : code.id ∷ map (λ p. p.id) others ≡ 1 ∷ later_ids m = sym (ap (map (λ p. p.id)) laid.whole) ∙ laid.order in
    let lengths : AllByRecursion (HasItsLength options m) (code ∷ others) =
    subst (AllByRecursion (HasItsLength options m)) laid.whole laid.lengths in
    let is_code : code.id ≡ 1 = ap (λ (l : List ℕ). head_or l 0) order in
    let long = lengths.0 ∙ ap (λ (n : ℕ). unwrap_or (given_length options n) (own_segment m n).length) is_code in
    let here = same_placed code (placed_after options m default_base 1) is_code (laid.first ∙ sym (first_base options m)) long in
    let later = followers options m code others (later_ids m) (ap (λ (l : List ℕ). tail_of l) order) lengths.1 laid.follow in
    laid.whole ∙ ap (λ (l : List Placed). code ∷ l) later
    ∙ ap (λ (q : Placed). q ∷ placed_from options m (q.base + q.length) (later_ids m)) here
