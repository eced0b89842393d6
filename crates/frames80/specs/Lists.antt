-- Lists that are added to: what stands at their indices then. (Laws of lists, for the tables of frames, points and calls.)
use Rattle.std.proofs.Common.{◌≡◌, ◌<◌, ℕ, zero, suc, ◌⊎◌, inl, inr, List, [], ◌∷◌, ◌++◌, Contains, Some, length, get_or, slice_get, refl, sym, ◌∙◌, ap, append_assoc}
use Rattle.std.proofs.Math.Nat.{not-le_of_lt}
use Rattle.std.proofs.lemmas.List.{append-nil}
use Rattle.std.proofs.lemmas.Option.{same_Some, none-some, slice_get-get_or, slice_get_cases, slice_get_read, slice_get_within}

-- a list has only been added to
pub record Extends {X : Type 0} (old new : List X) : Type 0 where
  pub more : List X
  pub is : new ≡ old ++ more

module _ {X : Type 0} where
  pub extends-same : (old new : List X) → new ≡ old → Extends old new
  extends-same old new e = record { more = []; is = e ∙ sym (append-nil old) }

  pub extends-push : (old new : List X) (x : X) → new ≡ old ++ x ∷ [] → Extends old new
  extends-push old new x e = record { more = x ∷ []; is = e }

  pub extends-on : (one two three : List X) → Extends one two → Extends two three → Extends one three
  extends-on one two three a b = record { more = a.more ++ b.more; is = b.is ∙ ap (λ xs. xs ++ b.more) a.is ∙ append_assoc one a.more b.more }

  -- each element stays, and the last one stands behind them
  pub slice_get-append : (xs ys : List X) (i : ℕ) (x : X) → slice_get xs i ≡ Some x → slice_get (xs ++ ys) i ≡ Some x
  slice_get-append [] ys i x e = absurd (none-some x e)
  slice_get-append (z ∷ xs) ys zero x e = e
  slice_get-append (z ∷ xs) ys (suc i) x e = slice_get-append xs ys i x e

  pub slice_get-extends : (old new : List X) → Extends old new → (i : ℕ) (x : X) → slice_get old i ≡ Some x → slice_get new i ≡ Some x
  slice_get-extends old new e i x is = ap (λ xs. slice_get xs i) e.is ∙ slice_get-append old e.more i x is

  pub slice_get-last : (xs : List X) (y : X) → slice_get (xs ++ y ∷ []) (length xs) ≡ Some y
  slice_get-last [] y = refl
  slice_get-last (z ∷ xs) y = slice_get-last xs y

  pub slice_get-push : (xs : List X) (y : X) (i : ℕ) (x : X) → slice_get (xs ++ y ∷ []) i ≡ Some x → (slice_get xs i ≡ Some x) ⊎ ((i ≡ length xs) × (x ≡ y))
  slice_get-push [] y zero x e = inr (refl, sym (same_Some y x e))
  slice_get-push [] y (suc i) x e = absurd (none-some x e)
  slice_get-push (z ∷ xs) y zero x e = inl e
  slice_get-push (z ∷ xs) y (suc i) x e = elim (slice_get-push xs y i x e) [
    | inl before ↦ inl before
    | inr last ↦ inr (ap suc last.0, last.1)
  ]

  -- what a list contains stands at an index, and each index has an element
  pub there_is : (xs : List X) (i : ℕ) → i < length xs → (x : X) × (slice_get xs i ≡ Some x)
  there_is xs i h = elim (slice_get_cases xs i).1 [
    | inl here ↦ (here.0, here.2)
    | inr past ↦ absurd (not-le_of_lt h past.0)
  ]

  pub contains-at : (xs : List X) (i : ℕ) (x : X) → slice_get xs i ≡ Some x → Contains xs x
  contains-at xs i x is = let below = slice_get_within xs i x is in (i, below, same_Some (get_or xs i x) x (sym (slice_get-get_or xs i x below) ∙ is))

  pub at-contained : (xs : List X) (x : X) → Contains xs x → (i : ℕ) × (slice_get xs i ≡ Some x)
  at-contained xs x c = (c.0, slice_get-get_or xs c.0 x c.1 ∙ ap (λ y. Some y) c.2)

  -- an element that is read by its index
  pub read_at : (xs : List X) (i : ℕ) (x : X) → i < length xs → x ≡ get_or xs i x → slice_get xs i ≡ Some x
  read_at xs i x h e = slice_get_read xs (length xs) i x refl h e
