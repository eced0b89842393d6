-- What `map` makes of an array.
use Rattle.std.proofs.Common.{◌≡◌, ◌∙◌, ◌+◌, ◌<◌, ◌≤◌, ℕ, zero, suc, List, map, length, get_or, refl, sym, ap, subst, arith, inl, inr}
use Rattle.std.proofs.lemmas.Bool.{cases_eq}
use Rattle.std.proofs.lemmas.List.{same_lists, get_or-map, length-map}
use Rattle.std.specs.Array.{IsMapOf, MapsFrom}
use denote.Param.Members.{Mut, Called}

module _ {F A B : Type 0} (g : Mut F (A × Unit {0}) B) (v : A → B) (f : F) (xs : List A) (ys : List B) (same : (x : A) (y : B) (q : F) → Called g f (x, tt) y q → (q ≡ f) × (y ≡ v x)) where
  mapped_at : (p : F) (i n k : ℕ) (e : B) → p ≡ f → MapsFrom g p xs ys i n → k < length xs → i ≤ k → k < i + n → get_or ys k e ≡ get_or (map v xs) k e
  mapped_at p i zero k e is maps inside from less = absurd (omega arith)
  mapped_at p i (suc n) k e is (q, x, y, at_x, at_y, called, rest) inside from less =
      let s = same x y q (subst (λ h. Called g h (x, tt) y q) is called) in
      elim (cases_eq k i) [
        | inl here ↦ let mapped : get_or (map v xs) k e ≡ v (get_or xs k x) = get_or-map v xs k x e inside in let it : get_or xs k x ≡ x = ap (λ j. get_or xs j x) here ∙ at_x.0 in
            ap (λ j. get_or ys j e) here ∙ at_y.1 e ∙ s.1 ∙ sym (mapped ∙ ap v it)
        | inr later ↦ mapped_at q (i + 1) n k e s.0 rest inside (omega arith) (omega arith)
      ]

pub map_is : {F A B : Type 0} {g : Mut F (A × Unit {0}) B} (v : A → B) (f : F) (xs : List A) (ys : List B) (n : ℕ) → length xs ≡ n → ((x : A) (y : B) (q : F) → Called g f (x, tt) y q → (q ≡ f) × (y ≡ v x)) →
    IsMapOf g f xs ys n → ys ≡ map v xs
map_is {g = g} v f xs ys n long same maps = same_lists ys (map v xs) (simp length-map (maps.long ∙ sym long))
    (λ k e less. let m = maps.long in mapped_at g v f xs ys same f 0 n k e refl maps.each (omega arith) (omega arith) (omega arith))
