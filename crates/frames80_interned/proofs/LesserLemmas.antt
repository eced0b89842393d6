-- Words of which some are forgotten, place by place.
use Rattle.std.proofs.Common.{◌≡◌, ◌<◌, ℕ, zero, suc, List, [], ◌∷◌, ◌++◌, length, refl, sym, ap, subst, arith}
use Rattle.frames80.specs.declared.word.Word.{Word}
use Rattle.frames80.specs.declared.word.Word.TheVariants.{Own, Any}
use Rattle.frames80.specs.declared.frame_pair.FramePair.{FramePair}
use Rattle.frames80.specs.declared.frame_pair.FramePair.TheVariants.{Bc, De, Hl}
use Rattle.frames80.specs.StackFrame.{Pairs, pair_in}
use Rattle.frames80.specs.Places.{Place, InPair, InWord, word_at, word_from_top, Covers}
use Rattle.frames80_interned.specs.Stacks.{words_at}
use Rattle.frames80_interned.specs.Lesser.{IsLesser, IsLesserTop}

pub lesser_self : (xs : List Word) → IsLesser xs xs
lesser_self [] = tt
lesser_self (x ∷ xs) = (λ own. own, lesser_self xs)

-- a word in the midst is forgotten
lesser_step : (ws xs ys : List Word) (x w : Word) → (w ≡ Own → x ≡ Own) → IsLesser (ws ++ x ∷ xs) ys → IsLesser (ws ++ w ∷ xs) ys
lesser_step [] xs [] x w less is = absurd is
lesser_step [] xs (y ∷ ys) x w less is = (λ own. is.0 (less own), is.1)
lesser_step (v ∷ ws) xs [] x w less is = absurd is
lesser_step (v ∷ ws) xs (y ∷ ys) x w less is = (is.0, lesser_step ws xs ys x w less is.1)

move_over : (ws xs : List Word) (w : Word) → (ws ++ w ∷ []) ++ xs ≡ ws ++ w ∷ xs
move_over [] xs w = refl
move_over (v ∷ ws) xs w = ap (λ rest. v ∷ rest) (move_over ws xs w)

-- one word more is gone through
pub lesser_on : (stacks : List (List Word)) (words ws : List Word) (number below : ℕ) (x w : Word) → IsLesserTop stacks words ws number →
    words_at stacks number ≡ x ∷ words_at stacks below → below < number → (w ≡ Own → x ≡ Own) → IsLesserTop stacks words (ws ++ w ∷ []) below
lesser_on stacks words ws number below x w is split before less = record {
  there = let t = is.there in omega arith;
  lesser = subst (λ list. IsLesser list words) (sym (move_over ws (words_at stacks below) w))
      (lesser_step ws (words_at stacks below) words x w less (subst (λ list. IsLesser (ws ++ list) words) split is.lesser));
}

pub lesser_length : (xs ys : List Word) → IsLesser xs ys → length xs ≡ length ys
lesser_length [] [] is = refl
lesser_length [] (y ∷ ys) is = absurd is
lesser_length (x ∷ xs) [] is = absurd is
lesser_length (x ∷ xs) (y ∷ ys) is = ap suc (lesser_length xs ys is.1)

lesser_at : (xs ys : List Word) → IsLesser xs ys → (i : ℕ) → word_from_top xs i ≡ Own → word_from_top ys i ≡ Own
lesser_at [] ys is i own = absurd (let e : Any ≡ Own = own in cc)
lesser_at (x ∷ xs) [] is i own = absurd is
lesser_at (x ∷ xs) (y ∷ ys) is zero own = is.0 own
lesser_at (x ∷ xs) (y ∷ ys) is (suc i) own = lesser_at xs ys is.1 i own

-- a frame of lesser words and pairs covers
pub lesser_covers : (taken : ℕ) (xs ys : List Word) (p q : Pairs) → IsLesser xs ys → (p.bc ≡ Own → q.bc ≡ Own) → (p.de ≡ Own → q.de ≡ Own) → (p.hl ≡ Own → q.hl ≡ Own) →
    Covers (record { taken = taken; words = xs; pairs = p }) (record { taken = taken; words = ys; pairs = q })
lesser_covers taken xs ys p q is bc de hl = record { counts = record { taken = refl; words = lesser_length xs ys is }; own = own }
  where
    pair : (which : FramePair) → pair_in p which ≡ Own → pair_in q which ≡ Own
    pair Bc own = bc own
    pair De own = de own
    pair Hl own = hl own

    own : (place : Place) → word_at (record { taken = taken; words = xs; pairs = p }) place ≡ Own → word_at (record { taken = taken; words = ys; pairs = q }) place ≡ Own
    own (InPair which) is_own = pair which is_own
    own (InWord i) is_own = lesser_at xs ys is i is_own
