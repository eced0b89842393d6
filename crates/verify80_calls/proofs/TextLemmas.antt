-- Texts that grow.
use Rattle.std.proofs.Common.{◌≡◌, ℕ, ◌+◌, List, [], ◌∷◌, ◌++◌, take, ap, sym, ◌∙◌, append_assoc, append-nil}
use Rattle.std.specs.List.{flat_map}
use Rattle.std.proofs.lemmas.List.Concat.{flat_map-append}

-- three texts behind another one
pub grown_by_three : (old one two three first second all : List ℕ) → first ≡ old ++ one → second ≡ first ++ two → all ≡ second ++ three
    → all ≡ old ++ (one ++ (two ++ three))
grown_by_three old one two three first second all e e₁ e₂ =
    e₂ ∙ ap (λ (l : List ℕ). l ++ three) (e₁ ∙ ap (λ (l : List ℕ). l ++ two) e)
    ∙ append_assoc (old ++ one) two three ∙ append_assoc old one (two ++ three)

-- the text of one more item
pub one_more : {A : Type 0} (f : A → List ℕ) (old some all : List ℕ) (xs : List A) (i : ℕ) (x : A) → take (i + 1) xs ≡ take i xs ++ x ∷ []
    → some ≡ old ++ flat_map f (take i xs) → all ≡ some ++ f x → all ≡ old ++ flat_map f (take (i + 1) xs)
one_more f old some all xs i x more before grown =
    grown ∙ ap (λ (l : List ℕ). l ++ f x) before ∙ append_assoc old (flat_map f (take i xs)) (f x)
    ∙ ap (λ (l : List ℕ). old ++ (flat_map f (take i xs) ++ l)) (sym (append-nil (f x)))
    ∙ ap (λ (l : List ℕ). old ++ l) (sym (flat_map-append f (take i xs) (x ∷ [])) ∙ ap (flat_map f) (sym more))
