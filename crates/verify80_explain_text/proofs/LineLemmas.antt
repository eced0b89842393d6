-- A line for each of some addresses, one line more.
use Rattle.std.proofs.Common.{◌≡◌, ℕ, ◌+◌, ◌<◌, List, [], ◌∷◌, ◌++◌, length, get_or, take, append_assoc, ap, sym, ◌∙◌}
use Rattle.std.specs.List.{flat_map}
use Rattle.std.proofs.lemmas.Grind.{flat_map-append}
use Rattle.std.proofs.lemmas.List.{append-nil, take_more}

-- a text behind which stand the lines of the first addresses goes on with the line of the next one
pub one_line_more : (line : ℕ → List ℕ) (addresses before text after : List ℕ) (i : ℕ) → i < length addresses →
    after ≡ text ++ line (get_or addresses i 0) → text ≡ before ++ flat_map line (take i addresses) →
    after ≡ before ++ flat_map line (take (i + 1) addresses)
one_line_more line addresses before text after i inside is so_far =
    is
    ∙ ap (λ (l : List ℕ). l ++ line (get_or addresses i 0)) so_far
    ∙ append_assoc before (flat_map line (take i addresses)) (line (get_or addresses i 0))
    ∙ ap (λ (l : List ℕ). before ++ l) (sym more)
  where
    more : flat_map line (take (i + 1) addresses) ≡ flat_map line (take i addresses) ++ line (get_or addresses i 0)
    more = ap (flat_map line) (take_more addresses i 0 inside)
        ∙ flat_map-append line (take i addresses) (get_or addresses i 0 ∷ [])
        ∙ ap (λ (l : List ℕ). flat_map line (take i addresses) ++ l) (append-nil (line (get_or addresses i 0)))

-- the same of what is printed of anything
pub one_more : {A : Type 0} (line : A → List ℕ) (items : List A) (before text after : List ℕ) (i : ℕ) (d : A) → i < length items →
    after ≡ text ++ line (get_or items i d) → text ≡ before ++ flat_map line (take i items) →
    after ≡ before ++ flat_map line (take (i + 1) items)
one_more {A} line items before text after i d inside is so_far =
    is
    ∙ ap (λ (l : List ℕ). l ++ line (get_or items i d)) so_far
    ∙ append_assoc before (flat_map line (take i items)) (line (get_or items i d))
    ∙ ap (λ (l : List ℕ). before ++ l) (sym more)
  where
    more : flat_map line (take (i + 1) items) ≡ flat_map line (take i items) ++ line (get_or items i d)
    more = ap (flat_map line) (take_more items i d inside)
        ∙ flat_map-append line (take i items) (get_or items i d ∷ [])
        ∙ ap (λ (l : List ℕ). flat_map line (take i items) ++ l) (append-nil (line (get_or items i d)))

-- three texts, one appended behind the other
pub three_parts : (old a b c one two three : List ℕ) → one ≡ old ++ a → two ≡ one ++ b → three ≡ two ++ c → three ≡ old ++ (a ++ (b ++ c))
three_parts old a b c one two three first second third =
    third ∙ ap (λ (l : List ℕ). l ++ c) (second ∙ ap (λ (l : List ℕ). l ++ b) first)
    ∙ append_assoc (old ++ a) b c ∙ append_assoc old a (b ++ c)
