-- Texts that grow piece by piece.
use Rattle.std.specs.Prelude.{◌≡◌, ℕ, List, [], ◌∷◌, ◌++◌}
use Rattle.std.proofs.Common.{◌∙◌, ap, append_assoc}

-- a piece, and what is appended behind it
pub joined : (t a one rest all : List ℕ) → one ≡ t ++ a → all ≡ one ++ rest → all ≡ t ++ (a ++ rest)
joined t a one rest all first second = second ∙ ap (λ l. l ++ rest) first ∙ append_assoc t a rest

-- two pieces and a line feed
pub grown_by_two : (t a b one two all : List ℕ) → one ≡ t ++ a → two ≡ one ++ b → all ≡ two ++ 10 ∷ []
    → all ≡ t ++ (a ++ (b ++ 10 ∷ []))
grown_by_two t a b one two all first second third =
    joined t a one (b ++ 10 ∷ []) all first (joined one b two (10 ∷ []) all second third)

-- four pieces and a line feed
pub grown_by_four : (t a b c d one two three four all : List ℕ) → one ≡ t ++ a → two ≡ one ++ b → three ≡ two ++ c
    → four ≡ three ++ d → all ≡ four ++ 10 ∷ [] → all ≡ t ++ (a ++ (b ++ (c ++ (d ++ 10 ∷ []))))
grown_by_four t a b c d one two three four all first second third fourth fifth =
    joined t a one (b ++ (c ++ (d ++ 10 ∷ []))) all first
    (joined one b two (c ++ (d ++ 10 ∷ [])) all second (grown_by_two two c d three four all third fourth fifth))

-- a word, and two numbers with a blank behind each
pub grown_by_numbers : (t w a b one two three four all : List ℕ) → one ≡ t ++ w → two ≡ one ++ a → three ≡ two ++ 32 ∷ []
    → four ≡ three ++ b → all ≡ four ++ 32 ∷ [] → all ≡ t ++ (w ++ (a ++ 32 ∷ (b ++ 32 ∷ [])))
grown_by_numbers t w a b one two three four all first second third fourth fifth =
    joined t w one (a ++ 32 ∷ (b ++ 32 ∷ [])) all first
    (joined one a two (32 ∷ (b ++ 32 ∷ [])) all second
    (joined two (32 ∷ []) three (b ++ 32 ∷ []) all third (joined three b four (32 ∷ []) all fourth fifth)))
