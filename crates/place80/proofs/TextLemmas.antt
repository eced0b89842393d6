-- Texts that grow piece by piece.
use Rattle.std.specs.Prelude.{◌≡◌, ℕ, Option, Some, List, [], ◌++◌}
use Rattle.std.specs.Option.{option_map_or}
use Rattle.std.proofs.Common.{◌∙◌, ap, sym, append_assoc}

-- a piece, and what is appended behind it
pub joined : (t a one rest all : List ℕ) → one ≡ t ++ a → all ≡ one ++ rest → all ≡ t ++ (a ++ rest)
joined t a one rest all first second = second ∙ ap (λ l. l ++ rest) first ∙ append_assoc t a rest

-- the text of what there is
pub some_piece : {A : Type 0} (line : A → List ℕ) (found : Option A) (one : A) (t all : List ℕ) → found ≡ Some one → all ≡ t ++ line one
    → all ≡ t ++ option_map_or line found []
some_piece line found one t all is text = text ∙ ap (λ o. t ++ option_map_or line o []) (sym is)
