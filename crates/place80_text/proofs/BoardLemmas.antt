-- The first address without memory, place by place.
use Rattle.std.specs.Prelude.{◌≡◌, ◌⊎◌, nat_le, nat_lt, ℕ, zero, suc, ◌+◌, ◌-◌, ◌==◌, ◌<◌, ◌≤◌, Bool, true, false, not, Option}
use Rattle.std.specs.Prelude.{Some, None, option_map, List, [], ◌∷◌, ◌++◌, map, filter, find, drop, length, refl, if◌then◌else◌}
use Rattle.std.specs.List.{range_with_len}
use Rattle.std.specs.Option.{option_or}
use Rattle.std.proofs.Common.{cond, inl, inr, ◌∙◌, ap, sym, subst, get_or, drop-cons, arith}
use Rattle.std.proofs.Math.Nat.{eq-or-lt_of_le}
use Rattle.std.proofs.lemmas.Bool.{and_parts, true≢false}
use Rattle.std.proofs.lemmas.Bool.Decides.{nat_tests}
use Rattle.std.proofs.lemmas.Option.{none-some}
use Rattle.image80.specs.declared.range.Range.{Range}
use Rattle.omf_model.specs.Segments.{absolute_id}
use Rattle.omf_model.specs.Contents.{ContentValue}
use Rattle.place80.specs.declared.placed_segments.Placed.{Placed}
use Rattle.place80.specs.PlaceFault.{absolute_place, absolute_places, is_in_placed}
use Rattle.place80_text.specs.Board.{AreMapped, first_unmapped, is_mapped, unmapped_from}
use Rattle.place80_text.specs.declared.board.Unmapped.{Unmapped}

-- ---- addresses

-- the first of the addresses that are left
pub find_from : (f : ℕ → Bool) (at «end» : ℕ) → at < «end»
    → find f (range_with_len at («end» - at)) ≡ cond (f at) (Some at) (find f (range_with_len (at + 1) («end» - (at + 1))))
find_from f at «end» below =
    let more : «end» - at ≡ suc («end» - (at + 1)) = omega (arith, below) in
    ap (λ (n : ℕ). find f (range_with_len at n)) more

-- the next address isn't it
pub find_later : (f : ℕ → Bool) (at «end» : ℕ) → at < «end» → f at ≡ false
    → find f (range_with_len at («end» - at)) ≡ find f (range_with_len (at + 1) («end» - (at + 1)))
find_later f at «end» below fails =
    find_from f at «end» below ∙ ap (λ (b : Bool). cond b (Some at) (find f (range_with_len (at + 1) («end» - (at + 1))))) fails

-- there is none exactly if none of the addresses passes
pub none_of : (f : ℕ → Bool) (first count : ℕ) → find f (range_with_len first count) ≡ None → (a : ℕ) → first ≤ a → a < first + count → f a ≡ false
none_of f first zero none a from below = absurd (omega (arith, from, below))
none_of f first (suc n) none a from below = go (f first) refl none (none_of f (first + 1) n)
  where
    Later : Type 0
    Later = find f (range_with_len (first + 1) n) ≡ None → (a : ℕ) → first + 1 ≤ a → a < first + 1 + n → f a ≡ false

    go : (b : Bool) → f first ≡ b → cond b (Some first) (find f (range_with_len (first + 1) n)) ≡ None → Later → f a ≡ false
    go true is found later = absurd (none-some first (sym found))
    go false is found later = elim (eq-or-lt_of_le from) [
      | inl same ↦ subst (λ (x : ℕ). f x ≡ false) same is
      | inr more ↦ later found a (omega (arith, more)) (omega (arith, below))
    ]

pub all_fail : (f : ℕ → Bool) (first count : ℕ) → ((a : ℕ) → first ≤ a → a < first + count → f a ≡ false) → find f (range_with_len first count) ≡ None
all_fail f first zero fails = refl
all_fail f first (suc n) fails =
    ap (λ (b : Bool). cond b (Some first) (find f (range_with_len (first + 1) n))) (fails first (omega arith) (omega arith))
    ∙ all_fail f (first + 1) n (λ a from below. fails a (omega (arith, from)) (omega (arith, below)))

-- ---- places

both_none : (o p : Option Unmapped) → option_or o p ≡ None → (o ≡ None) × (p ≡ None)
both_none None p is = (refl, is)
both_none (Some x) p is = absurd (none-some x (sym is))

module _ (rom ram : List Range) where
  of_both : (ps qs : List Placed) → first_unmapped rom ram (ps ++ qs) ≡ option_or (first_unmapped rom ram ps) (first_unmapped rom ram qs)
  of_both [] qs = refl
  of_both (p ∷ ps) qs = go (unmapped_from rom ram p.id p.base p.length) (of_both ps qs)
    where
      go : (o : Option Unmapped) → first_unmapped rom ram (ps ++ qs) ≡ option_or (first_unmapped rom ram ps) (first_unmapped rom ram qs)
          → option_or o (first_unmapped rom ram (ps ++ qs)) ≡ option_or (option_or o (first_unmapped rom ram ps)) (first_unmapped rom ram qs)
      go (Some x) more = refl
      go None more = more

  or_assoc : (o p q : Option Unmapped) → option_or o (option_or p q) ≡ option_or (option_or o p) q
  or_assoc (Some x) p q = refl
  or_assoc None p q = refl

  -- of three lists, one after another
  pub of_all : (ps qs rs : List Placed) → first_unmapped rom ram (ps ++ (qs ++ rs))
      ≡ option_or (option_or (first_unmapped rom ram ps) (first_unmapped rom ram qs)) (first_unmapped rom ram rs)
  of_all ps qs rs =
      of_both ps (qs ++ rs)
      ∙ ap (λ (o : Option Unmapped). option_or (first_unmapped rom ram ps) o) (of_both qs rs)
      ∙ or_assoc (first_unmapped rom ram ps) (first_unmapped rom ram qs) (first_unmapped rom ram rs)

  -- of the places that are left
  pub of_placed : (segments : List Placed) (i : ℕ) (p : Placed) → i < length segments → p ≡ get_or segments i p
      → first_unmapped rom ram (drop i segments) ≡ option_or (unmapped_from rom ram p.id p.base p.length) (first_unmapped rom ram (drop (i + 1) segments))
  of_placed segments i p inside is =
      let next : suc i ≡ i + 1 = omega arith in
      ap (first_unmapped rom ram) (drop-cons segments i p inside)
      ∙ ap (λ (x : Placed). first_unmapped rom ram (x ∷ drop (suc i) segments)) (sym is)
      ∙ ap (λ (n : ℕ). first_unmapped rom ram (p ∷ drop n segments)) next

  -- of a content, if it is absolute
  abbrev pub of_content : ContentValue → Option Unmapped
  of_content c = if c.segment == 0 then unmapped_from rom ram 0 c.offset (length c.bytes) else None

  content_first : (c : ContentValue) (cs : List ContentValue) → first_unmapped rom ram (absolute_places (c ∷ cs))
      ≡ option_or (of_content c) (first_unmapped rom ram (absolute_places cs))
  content_first c cs =
      elim (c.segment == absolute_id) as
      (λ b. first_unmapped rom ram (map absolute_place (cond b (c ∷ filter (λ c. c.segment == absolute_id) cs) (filter (λ c. c.segment == absolute_id) cs)))
      ≡ option_or (cond b (unmapped_from rom ram 0 c.offset (length c.bytes)) None) (first_unmapped rom ram (absolute_places cs)))
      [ true ↦ refl | false ↦ refl ]

  -- of the contents that are left
  pub of_contents : (contents : List ContentValue) (i : ℕ) (c : ContentValue) → i < length contents → c ≡ get_or contents i c
      → first_unmapped rom ram (absolute_places (drop i contents))
      ≡ option_or (of_content c) (first_unmapped rom ram (absolute_places (drop (i + 1) contents)))
  of_contents contents i c inside is =
      let next : suc i ≡ i + 1 = omega arith in
      ap (λ (l : List ContentValue). first_unmapped rom ram (absolute_places l)) (drop-cons contents i c inside)
      ∙ ap (λ (x : ContentValue). first_unmapped rom ram (absolute_places (x ∷ drop (suc i) contents))) (sym is)
      ∙ ap (λ (n : ℕ). first_unmapped rom ram (absolute_places (c ∷ drop n contents))) next
      ∙ content_first c (drop (i + 1) contents)

  -- ---- exactly if all is mapped

  abbrev Mapped : Placed → Type 0
  Mapped p = (address : ℕ) → is_in_placed p address ≡ true → is_mapped rom ram p.id address ≡ true

  mapped : (p : Placed) → unmapped_from rom ram p.id p.base p.length ≡ None → Mapped p
  mapped p none address inside =
      let parts = and_parts (nat_le p.base address) (nat_lt address (p.base + p.length)) inside in
      let from : p.base ≤ address = grind (arith, nat_tests, parts.0) in
      let below : address < p.base + p.length = grind (arith, nat_tests, parts.1) in
      not_false (is_mapped rom ram p.id address)
      (none_of (λ a. not (is_mapped rom ram p.id a)) p.base p.length (no_map (find (λ a. not (is_mapped rom ram p.id a)) (range_with_len p.base p.length)) none) address from below)
    where
      named : ℕ → Unmapped
      named address = record { segment = p.id; address = address }

      not_false : (b : Bool) → not b ≡ false → b ≡ true
      not_false true is = refl
      not_false false is = absurd (true≢false is)

      no_map : (o : Option ℕ) → option_map named o ≡ None → o ≡ None
      no_map None is = refl
      no_map (Some x) is = absurd (none-some _ (sym is))

  none_here : (p : Placed) → Mapped p → unmapped_from rom ram p.id p.base p.length ≡ None
  none_here p all =
      ap (λ (o : Option ℕ). option_map named o)
      (all_fail (λ a. not (is_mapped rom ram p.id a)) p.base p.length
      (λ a from below. ap not (all a (is_inside p a from below))))
    where
      named : ℕ → Unmapped
      named address = record { segment = p.id; address = address }

      is_inside : (p : Placed) (a : ℕ) → p.base ≤ a → a < p.base + p.length → is_in_placed p a ≡ true
      is_inside p a from below = grind (arith, nat_tests, from, below)

  pub are_mapped : (places : List Placed) → first_unmapped rom ram places ≡ None → AreMapped rom ram places
  are_mapped [] none = tt
  are_mapped (p ∷ ps) none =
      let parts = both_none (unmapped_from rom ram p.id p.base p.length) (first_unmapped rom ram ps) none in
      (mapped p parts.0, are_mapped ps parts.1)

  pub none_unmapped : (places : List Placed) → AreMapped rom ram places → first_unmapped rom ram places ≡ None
  none_unmapped [] all = refl
  none_unmapped (p ∷ ps) all =
      ap (λ (o : Option Unmapped). option_or o (first_unmapped rom ram ps)) (none_here p all.0) ∙ none_unmapped ps all.1

-- if the next one has such an address, it is the first; else the first is among those that are left
pub found_here : (found rest all : Option Unmapped) (x : Unmapped) → all ≡ option_or found rest → found ≡ Some x → all ≡ Some x
found_here found rest all x is here = is ∙ ap (λ (o : Option Unmapped). option_or o rest) here

pub found_later : (found rest all : Option Unmapped) → all ≡ option_or found rest → found ≡ None → all ≡ rest
found_later found rest all is none = is ∙ ap (λ (o : Option Unmapped). option_or o rest) none
