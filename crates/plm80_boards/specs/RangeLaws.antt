-- What follows for ranges that options write, or a board has: laws that hold whatever they are for. (This project's own.)
use Rattle.std.specs.Prelude.{◌≡◌, ℕ, ◌<◌, ◌≤◌, List, [], ◌∷◌, ◌++◌, Option, None, Some, drop, slice_index_or}
use Rattle.std.specs.Char.{digit_value}
use Rattle.std.specs.Str.Parse.{AllDigits}
use Rattle.std.proofs.Common.{ap, arith, refl, subst, sym, ◌∙◌}
use Rattle.image80.specs.declared.range.Range.{Range}
use Rattle.board80.specs.declared.line.{Kind.Kind, Line.Line}
use Rattle.plm80_console.specs.NumberText.{word_value}
use Rattle.plm80_console.specs.Ranges.{AreRangesOf, IsRangeText, AreRangesOf.none as no_ranges, AreRangesOf.more as more_ranges}
use Rattle.plm80_boards.specs.Boards.{AreDataRangesIn, AreRangesIn}

-- ---- lists

not_snoc : {A : Type 0} (xs : List A) (x : A) → [] ≡ xs ++ x ∷ [] → ⊥
not_snoc [] x same = cc
not_snoc (a ∷ xs) x same = cc

snoc_same : {A : Type 0} (xs ys : List A) (x y : A) → xs ++ x ∷ [] ≡ ys ++ y ∷ [] → (xs ≡ ys) × (x ≡ y)
snoc_same {A} [] [] x y same = (refl, ap (λ (l : List A). slice_index_or l 0 x) same)
snoc_same {A} [] (b ∷ ys) x y same = absurd (not_snoc ys y (ap (λ (l : List A). drop 1 l) same))
snoc_same {A} (a ∷ xs) [] x y same = absurd (not_snoc xs x (ap (λ (l : List A). drop 1 l) (sym same)))
snoc_same {A} (a ∷ xs) (b ∷ ys) x y same =
    let rest = snoc_same xs ys x y (ap (λ (l : List A). drop 1 l) same) in
    let first : a ≡ b = ap (λ (l : List A). slice_index_or l 0 a) same in
    ((λ k. first k ∷ rest.0 k), rest.1)

-- ---- a text writes one range

-- digits up to a character that is none
pub same_digits : (sign : ℕ) → 16 ≤ digit_value sign → (xs ys : List ℕ) (rest behind : List ℕ) → AllDigits 16 xs → AllDigits 16 ys
    → xs ++ sign ∷ rest ≡ ys ++ sign ∷ behind → (xs ≡ ys) × (rest ≡ behind)
same_digits sign none [] [] rest behind all each same = (refl, ap (λ (l : List ℕ). drop 1 l) same)
same_digits sign none [] (y ∷ ys) rest behind all each same =
    absurd (omega (arith, none, subst (λ (n : ℕ). digit_value n < 16) (sym (ap (λ (l : List ℕ). slice_index_or l 0 0) same)) each.0))
same_digits sign none (x ∷ xs) [] rest behind all each same =
    absurd (omega (arith, none, subst (λ (n : ℕ). digit_value n < 16) (ap (λ (l : List ℕ). slice_index_or l 0 0) same) all.0))
same_digits sign none (x ∷ xs) (y ∷ ys) rest behind all each same =
    let more = same_digits sign none xs ys rest behind all.1 each.1 (ap (λ (l : List ℕ). drop 1 l) same) in
    let first : x ≡ y = ap (λ (l : List ℕ). slice_index_or l 0 x) same in
    ((λ k. first k ∷ more.0 k), more.1)

one_range : (text text' : List ℕ) (a b : Range) → IsRangeText text a → IsRangeText text' b → text ≡ text' → a ≡ b
one_range text text' a b is are same =
    let both = same_digits 58 (omega arith) is.before are.before is.behind are.behind is.is_first.0.1 are.is_first.0.1 (sym is.text_is ∙ same ∙ are.text_is) in
    λ k. record {
      first = (is.first_is ∙ ap word_value both.0 ∙ sym are.first_is) k;
      length = (is.length_is ∙ ap word_value both.1 ∙ sym are.length_is) k;
    }

-- ---- so do texts, or a board has them

ranges_same : (texts texts' : List (List ℕ)) (a b : List Range) → AreRangesOf texts a → AreRangesOf texts' b → texts ≡ texts' → a ≡ b
ranges_same _ _ _ _ no_ranges no_ranges same = refl
ranges_same _ _ _ _ no_ranges (more_ranges texts text ranges range are is) same = absurd (not_snoc texts text same)
ranges_same _ _ _ _ (more_ranges texts text ranges range are is) no_ranges same = absurd (not_snoc texts text (sym same))
ranges_same _ _ _ _ (more_ranges texts text ranges range are is) (more_ranges texts' text' ranges' range' are' is') same =
    let both = snoc_same texts texts' text text' same in
    let before = ranges_same texts texts' ranges ranges' are are' both.0 in
    let last = one_range text text' range range' is is' both.1 in
    λ k. before k ++ last k ∷ []

pub one_list_of_ranges : (texts : List (List ℕ)) (a b : List Range) → AreRangesOf texts a → AreRangesOf texts b → a ≡ b
one_list_of_ranges texts a b is are = ranges_same texts texts a b is are refl

pub one_list_in : (kind : Kind) (board : Option (List Line)) (texts : List (List ℕ)) (a b : List Range) → AreRangesIn kind board texts a
    → AreRangesIn kind board texts b → a ≡ b
one_list_in kind None texts a b is are = one_list_of_ranges texts a b is are
one_list_in kind (Some board) texts a b is are = is ∙ sym are

pub one_list_of_data : (board : Option (List Line)) (texts : List (List ℕ)) (a b : List Range) → AreDataRangesIn board texts a
    → AreDataRangesIn board texts b → a ≡ b
one_list_of_data None texts a b is are = one_list_of_ranges texts a b is are
one_list_of_data (Some board) texts a b is are = is ∙ sym are
