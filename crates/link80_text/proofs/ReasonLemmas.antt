-- Needs that were checked lead to roots, and are reasons.
use Rattle.std.specs.Prelude.{◌≡◌, ℕ, zero, suc, ◌<◌, Some, List, [], ◌∷◌, length, map, slice_get, slice_index_or, refl}
use Rattle.std.proofs.Common.{◌∙◌, ap, sym, subst, arith, inl, inr}
use Rattle.std.proofs.lemmas.List.{length-map}
use Rattle.std.proofs.lemmas.Option.{none-some, same_Some, slice_get_within, slice_get-get_or, get_or_from_slice_get}
use Rattle.omf_model.specs.Modules.{ModuleValue}
use Rattle.link80_select.specs.declared.chosen.Chosen.{Chosen}
use Rattle.link80.specs.Selection.{modules_with}
use Rattle.link80_text.specs.declared.reasons.search.Need.{Need}
use Rattle.link80_text.specs.Reasons.{IsReason, IsSoughtAt, LeadsToRoot, LeadToRoots}
use Rattle.link80_text.specs.Reasons.LeadsToRoot.{root, onward}
use Rattle.link80_text.specs.Found.{AreReasonsIn, IsNearer, IsNeeded}
use Rattle.link80_text.proofs.ProviderLemmas.{target_is}

-- ---- the numbers of needs

pub mapped_at : (needs : List Need) (k : ℕ) (need : Need) → slice_get needs k ≡ Some need → slice_get (map (λ (n : Need). n.by) needs) k ≡ Some need.by
mapped_at [] k need at = absurd (none-some need at)
mapped_at (n ∷ needs) zero need at = ap (λ (x : Need). Some x.by) (same_Some n need at)
mapped_at (n ∷ needs) (suc k) need at = mapped_at needs k need at

record IsBy (needs : List Need) (k by : ℕ) : Type 0 where
  need : Need
  there : slice_get needs k ≡ Some need
  is : need.by ≡ by

of_mapped : (needs : List Need) (k by : ℕ) → slice_get (map (λ (n : Need). n.by) needs) k ≡ Some by → IsBy needs k by
of_mapped [] k by at = absurd (none-some by at)
of_mapped (n ∷ needs) zero by at = record { need = n; there = refl; is = same_Some n.by by at }
of_mapped (n ∷ needs) (suc k) by at = let rest = of_mapped needs k by at in record { need = rest.need; there = rest.there; is = rest.is }

-- ---- roots

module _ (roots : ℕ) (needs : List Need) (nearer : (k : ℕ) (need : Need) → slice_get needs k ≡ Some need → IsNearer roots needs need) where
  leads : (most k : ℕ) (need : Need) → slice_get needs k ≡ Some need → need.steps < most → LeadsToRoot roots (map (λ (n : Need). n.by) needs) need.by
  leads zero k need at less = absurd (omega (arith, less))
  leads (suc most) k need at less = elim (nearer k need at) [
    | inl first ↦ root need.by first
    | inr behind ↦ subst (LeadsToRoot roots (map (λ (n : Need). n.by) needs)) (sym behind.is)
        (onward behind.number behind.other.by (mapped_at needs behind.number behind.other behind.there)
        (leads most behind.number behind.other behind.there (let fewer = behind.fewer in omega (arith, less, fewer))))
  ]

  pub lead_to_roots : LeadToRoots roots (map (λ (n : Need). n.by) needs)
  lead_to_roots k by at =
      let one = of_mapped needs k by at in
      subst (LeadsToRoot roots (map (λ (n : Need). n.by) needs)) one.is
      (leads (suc one.need.steps) k one.need one.there (omega arith))

-- ---- reasons

at_map : {A B : Type 0} (f : A → B) (xs : List A) (i : ℕ) (y : B) (d : A) → slice_get (map f xs) i ≡ Some y
    → f (slice_index_or xs i d) ≡ y
at_map f [] i y d at = absurd (none-some y at)
at_map f (x ∷ xs) zero y d at = same_Some (f x) y at
at_map f (x ∷ xs) (suc i) y d at = at_map f xs i y d at

-- what is read of the need of the module with a number
module _ {A : Type 0} (f : A → ModuleValue) (roots : List ModuleValue) (libraries : List (List ModuleValue)) (taken : List Chosen)
    (xs : List A) (needs : List Need) (number : ℕ) (are : AreReasonsIn roots libraries taken (map f xs) needs) (place : Chosen)
    (at : slice_get taken number ≡ Some place) (need : Need) (need_is : need ≡ slice_index_or needs number need) where
  pub need_at : slice_get needs number ≡ Some need
  need_at = slice_get-get_or needs number need (omega (arith, slice_get_within taken number place at, are.are.len)) ∙ ap (λ n. Some n) (sym need_is)

  needed : IsNeeded (record { roots = length roots; modules = modules_with roots libraries taken }) number need
  needed = are.are.needed number need need_at

  by_at : slice_get (map f xs) need.by ≡ Some needed.by
  by_at = ap (λ (ms : List ModuleValue). slice_get ms need.by) are.modules_are ∙ needed.is_linked

  pub by_inside : need.by < length xs
  by_inside = omega (arith, slice_get_within (map f xs) need.by needed.by by_at, length-map xs f)

  module _ (b : A) (b_is : b ≡ slice_index_or xs need.by b) where
    same_by : f b ≡ needed.by
    same_by = ap f b_is ∙ at_map f xs need.by needed.by b by_at

    name_there : slice_get (f b).externals need.name ≡ Some needed.name
    name_there = ap (λ (m : ModuleValue). slice_get m.externals need.name) same_by ∙ needed.external

    pub name_inside : need.name < length (f b).externals
    name_inside = slice_get_within (f b).externals need.name needed.name name_there

    pub reason_is : (name : List ℕ) → name ≡ slice_index_or (f b).externals need.name name → IsReason roots libraries taken place name need.by (f b)
    reason_is name name_is =
        let same_name : needed.name ≡ name = sym (name_is ∙ get_or_from_slice_get (f b).externals need.name needed.name name name_there) in
        let goes = target_is roots libraries taken are.selection need.by needed.by need.name needed.name number needed.is_linked
        needed.external needed.leads in
        let same : goes.0 ≡ place = same_Some goes.0 place (sym goes.1 ∙ at) in
        record {
          index = need.name;
          is_linked = needed.is_linked ∙ ap (λ m. Some m) (sym same_by);
          external = name_there ∙ ap (λ n. Some n) same_name;
          sought = subst (λ (n : List ℕ). IsSoughtAt roots libraries n place) same_name
              (subst (λ (q : Chosen). IsSoughtAt roots libraries needed.name q) same goes.2);
        }
