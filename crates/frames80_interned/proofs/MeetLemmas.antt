-- Words that meet from the top down.
use Rattle.std.specs.Prelude.{◌≡◌, ◌<◌, ℕ, Bool, true, false, ◌||◌, ◌↔◌, List, [], ◌∷◌, ◌++◌, length, refl}
use Rattle.std.proofs.Common.{sym, ◌∙◌, ap, subst, arith}
use Rattle.std.proofs.lemmas.List.{append_assoc}
use Rattle.frames80.specs.declared.word.Word.{Word}
use Rattle.frames80.specs.declared.word.Word.TheVariants.{Own, Any}
use Rattle.frames80.specs.Word.{met}
use Rattle.frames80.specs.Calls.{words_met}
use Rattle.frames80_interned.specs.declared.meets.Meeting.{Meeting}
use Rattle.frames80_interned.specs.declared.pair.Pair.{Pair}
use Rattle.frames80_interned.specs.Stacks.{words_at, IsMet}
use Rattle.frames80_interned.specs.Meets.{IsWalk, IsMeeting}

met-self : (w : Word) → met w w ≡ w
met-self Own = refl
met-self Any = refl

-- a list that meets itself is unchanged
pub words_met-self : (words : List Word) → words_met words words ≡ words
words_met-self [] = refl
words_met-self (w ∷ words) = let a = met-self w in let e = words_met-self words in cc

both_false : (p q : Bool) → (p || q) ≡ false → (p ≡ false) × (q ≡ false)
both_false true q no_ = absurd (let e : true ≡ false = no_ in cc)
both_false false q no_ = (refl, no_)

neither : (p q : Bool) → p ≡ false → q ≡ false → (p || q) ≡ false
neither p q e f = rw (e, f) refl

-- one more pair of words meets
module _ (one other met_words rest beside : List Word) (changed is_other_word : Bool) (x y w : Word) (xs ys : List Word) (h : IsWalk one other met_words changed rest beside) (ex : rest ≡ x ∷ xs) (ey : beside ≡ y ∷ ys) (is : w ≡ met x y)
    (tells : (is_other_word ≡ false) ↔ (w ≡ x)) where
  step : words_met rest beside ≡ w ∷ words_met xs ys
  step = rw (ex, ey, is) refl

  heads : words_met one other ≡ one → (w ≡ x) × (words_met xs ys ≡ xs)
  heads same =
      let e : w ∷ words_met xs ys ≡ x ∷ xs = sym step ∙ h.same_rest same ∙ ex in
      (cc, cc)

  pub walk_on : IsWalk one other (met_words ++ w ∷ []) (changed || is_other_word) xs ys
  walk_on = record {
    even = let e = h.even in let a = ap length ex in let b = ap length ey in omega arith;
    met_so_far = h.met_so_far ∙ ap (λ ws. met_words ++ ws) step ∙ sym (append_assoc met_words (w ∷ []) (words_met xs ys));
    unchanged = λ none same.
        let both = both_false changed is_other_word none in
        let e : w ≡ x = tells.0 both.1 in
        h.unchanged both.0 (step ∙ (let f = same in cc) ∙ sym ex);
    same = λ same. neither changed is_other_word (h.same same) (tells.1 (heads same).0);
    same_rest = λ same. (heads same).1;
  }

-- a stack that meets itself
pub met-same : (stacks : List (List Word)) (pair : Pair) → pair.one < length stacks → pair.one ≡ pair.other → IsMet stacks pair pair.one
met-same stacks pair there same = record {
  there = there;
  is = sym (ap (λ n. words_met (words_at stacks pair.one) (words_at stacks n)) (sym same) ∙ words_met-self (words_at stacks pair.one));
  unchanged = λ _. refl;
}

-- what is left of both is known
pub meeting_end : (stacks : List (List Word)) (one other met_words : List Word) (changed another : Bool) (pair : Pair) (number : ℕ) (meeting : Meeting)
    → IsWalk one other met_words changed (words_at stacks pair.one) (words_at stacks pair.other) → IsMet stacks pair number → ((another ≡ false) ↔ (number ≡ pair.one))
    → meeting.words.items ≡ met_words → meeting.rest ≡ number → meeting.changed ≡ (changed || another) → IsMeeting stacks one other meeting
meeting_end stacks one other met_words changed another pair number meeting walk met tells words rest changes = record {
  there = subst (λ (n : ℕ). n < length stacks) (sym rest) met.there;
  met = walk.met_so_far ∙ ap (λ ws. met_words ++ ws) bottom ∙ ap (λ ws. ws ++ words_at stacks meeting.rest) (sym words);
  unchanged = λ none.
      let both = both_false changed another (sym changes ∙ none) in
      walk.unchanged both.0 (sym met.is ∙ ap (words_at stacks) (tells.0 both.1));
  same = λ same. changes ∙ neither changed another (walk.same same) (tells.1 (met.unchanged (walk.same_rest same)));
}
  where
    bottom : words_met (words_at stacks pair.one) (words_at stacks pair.other) ≡ words_at stacks meeting.rest
    bottom = sym met.is ∙ ap (words_at stacks) (sym rest)
