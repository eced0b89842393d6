-- Two lists of the same places, both in ascending order, are the same.
use Rattle.std.specs.Prelude.{◌≡◌, ◌↔◌, ◌⊎◌, List, [], ◌∷◌, Contains, refl}
use Rattle.std.specs.List.{AllByRecursion}
use Rattle.std.proofs.Common.{◌∙◌, ap, sym, subst, inl, inr}
use Rattle.std.proofs.lemmas.List.Elements.{Contains-append_left, Contains-append_right, Contains-append_cases}
use Rattle.link80_select.specs.declared.chosen.Chosen.{Chosen}
use Rattle.link80_select.specs.Selected.{IsBefore, AreAscending}
use Rattle.link80_select.specs.SelectionLaws.{SelectionsAreUnique}
use Rattle.link80_select.proofs.MarkLemmas.{has_none, has_one, is_one, at_has}
use Rattle.link80_select.proofs.PlaceLemmas.{never_both, all_at}

has_first : (p : Chosen) (ps : List Chosen) → Contains (p ∷ ps) p
has_first p ps = Contains-append_left (p ∷ []) ps p (is_one p p refl)

first_or_later : (p q : Chosen) (ps : List Chosen) → Contains (p ∷ ps) q → (p ≡ q) ⊎ Contains ps q
first_or_later p q ps has =
    elim (Contains-append_cases (p ∷ []) ps q has) [ inl first ↦ inl (has_one p q first) | inr later ↦ inr later ]

is_after : (p q : Chosen) (ps : List Chosen) → AllByRecursion (IsBefore p) ps → Contains ps q → IsBefore p q
is_after p q ps before has = let at = at_has ps q has in all_at (IsBefore p) ps at.0 q before at.1

same_first : (p q : Chosen) (ps qs : List Chosen) → AllByRecursion (IsBefore p) ps → AllByRecursion (IsBefore q) qs
    → Contains (p ∷ ps) q → Contains (q ∷ qs) p → p ≡ q
same_first p q ps qs before_ps before_qs has_q has_p = elim (first_or_later p q ps has_q) [
  | inl same ↦ same
  | inr later_q ↦ elim (first_or_later q p qs has_p) [
    | inl same ↦ sym same
    | inr later_p ↦ absurd (never_both p q (is_after p q ps before_ps later_q) (is_after q p qs before_qs later_p))
  ]
]

-- what stands behind the first place of a list stands behind it in each other list that begins with it
stays_later : (p x : Chosen) (ps qs : List Chosen) → AllByRecursion (IsBefore p) ps → (Contains (p ∷ ps) x → Contains (p ∷ qs) x)
    → Contains ps x → Contains qs x
stays_later p x ps qs before gives has = elim (first_or_later p x qs (gives (Contains-append_right (p ∷ []) ps x has))) [
  | inl same ↦ let after = subst (λ (y : Chosen). IsBefore p y) (sym same) (is_after p x ps before has) in
      absurd (never_both p p after after)
  | inr later ↦ later
]

same_list : (ps qs : List Chosen) → AreAscending ps → AreAscending qs → ((x : Chosen) → Contains ps x ↔ Contains qs x) → ps ≡ qs
same_list [] [] up_ps up_qs same = refl
same_list [] (q ∷ qs) up_ps up_qs same = absurd (has_none q ((same q).1 (has_first q qs)))
same_list (p ∷ ps) [] up_ps up_qs same = absurd (has_none p ((same p).0 (has_first p ps)))
same_list (p ∷ ps) (q ∷ qs) up_ps up_qs same =
    let is = same_first p q ps qs up_ps.0 up_qs.0 ((same q).1 (has_first q qs)) ((same p).0 (has_first p ps)) in
    let before_qs = subst (λ (x : Chosen). AllByRecursion (IsBefore x) qs) (sym is) up_qs.0 in
    let with_p = subst (λ (y : Chosen). (x : Chosen) → Contains (p ∷ ps) x ↔ Contains (y ∷ qs) x) (sym is) same in
    let rest = same_list ps qs up_ps.1 up_qs.1
    (λ x. (stays_later p x ps qs up_ps.0 (with_p x).0, stays_later p x qs ps before_qs (with_p x).1)) in
    ap (λ x. x ∷ ps) is ∙ ap (λ xs. q ∷ xs) rest

pub selections_are_unique : SelectionsAreUnique
selections_are_unique roots libraries one other one_is one_up other_is other_up =
    same_list one other one_up other_up
    (λ x. (λ has. (other_is x).1 ((one_is x).0 has), λ has. (one_is x).1 ((other_is x).0 has)))
