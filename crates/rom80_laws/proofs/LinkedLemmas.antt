-- What holds of the contents of a linked module, said of those of its modules.
use Rattle.std.specs.Prelude.{◌≡◌, Bool, true, ◌&&◌, List, [], ◌∷◌, ◌++◌, map}
use Rattle.std.specs.List.{AllByRecursion, flat_map, list_any}
use Rattle.std.proofs.Common.{sym, ap, inl, inr}
use Rattle.std.proofs.lemmas.Bool.{and_parts, or_cases, true≢false}

abbrev head_or : {A : Type 0} → A → List A → A
head_or d [] = d
head_or d (x ∷ xs) = x

abbrev tail_of : {A : Type 0} → List A → List A
tail_of [] = []
tail_of (x ∷ xs) = xs

-- what holds of items that are made of others, whose images are those of the others
module _ {E C D K : Type 0} (contents : E → List C) (g : E → C → D) (f : D → K) (h : E → C → K) (Q : D → Type 0) (S : E → C → Type 0)
    (gives : (e : E) (c : C) → f (g e c) ≡ h e c → Q (g e c) → S e c) where
  one_after_another : (e : E) (cs : List C) (ds : List D) (ks : List K) → map f (map (g e) cs ++ ds) ≡ map (h e) cs ++ ks
      → AllByRecursion Q (map (g e) cs ++ ds) → AllByRecursion (S e) cs × (map f ds ≡ ks) × AllByRecursion Q ds
  one_after_another e [] ds ks same all = (tt, same, all)
  one_after_another e (c ∷ cs) ds ks same all =
      let rest = one_after_another e cs ds ks (ap (λ (l : List K). tail_of l) same) all.1 in
      ((gives e c (ap (λ (l : List K). head_or (h e c) l) same) all.0, rest.0), rest.1, rest.2)

  pub of_each : (es : List E) → map f (flat_map (λ e. map (g e) (contents e)) es) ≡ flat_map (λ e. map (h e) (contents e)) es
      → AllByRecursion Q (flat_map (λ e. map (g e) (contents e)) es) → AllByRecursion (λ e. AllByRecursion (S e) (contents e)) es
  of_each [] same all = tt
  of_each (e ∷ es) same all =
      let rest = one_after_another e (contents e) (flat_map (λ e. map (g e) (contents e)) es) (flat_map (λ e. map (h e) (contents e)) es) same all in
      (rest.0, of_each es rest.1 rest.2)

-- what one of the items that pass two tests gives
module _ {E C : Type 0} (contents : E → List C) (p : C → Bool) (q : E → C → Bool) (R : Type 0) where
  any_of_one : (e : E) (cs : List C) → AllByRecursion (λ c. p c ≡ true → q e c ≡ true → R) cs → list_any (λ c. p c && q e c) cs ≡ true → R
  any_of_one e [] all found = elim (true≢false (sym found)) [ ]
  any_of_one e (c ∷ cs) all found = elim (or_cases (p c && q e c) (list_any (λ c. p c && q e c) cs) found) [
    | inl here ↦ let both = and_parts (p c) (q e c) here in all.0 both.0 both.1
    | inr later ↦ any_of_one e cs all.1 later
  ]

  pub any_gives : (es : List E) → AllByRecursion (λ e. AllByRecursion (λ c. p c ≡ true → q e c ≡ true → R) (contents e)) es
      → list_any (λ e. list_any (λ c. p c && q e c) (contents e)) es ≡ true → R
  any_gives [] all found = elim (true≢false (sym found)) [ ]
  any_gives (e ∷ es) all found =
      elim (or_cases (list_any (λ c. p c && q e c) (contents e)) (list_any (λ e. list_any (λ c. p c && q e c) (contents e)) es) found) [
        | inl here ↦ any_of_one e (contents e) all.0 here
        | inr later ↦ any_gives es all.1 later
      ]
