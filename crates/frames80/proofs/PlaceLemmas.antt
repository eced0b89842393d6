-- The laws of places.
use Rattle.std.specs.Prelude.{◌≡◌, ℕ, ◌+◌, ◌-◌, zero, suc, Bool, true, false, List, [], ◌∷◌, length, drop, nat_eq, None, refl}
use Rattle.std.proofs.Common.{ap, sym, ◌∙◌, arith, true≢false}
use Rattle.std.specs.Cmp.{unsigned_Decides, first_so, second_so}
use Rattle.std.proofs.lemmas.List.{length-drop}
use Rattle.frames80.specs.declared.word.Word.{Word}
use Rattle.frames80.specs.declared.word.Word.TheVariants.{Own, Any}
use Rattle.frames80.specs.declared.role.Role.{Role}
use Rattle.frames80.specs.declared.role.Role.TheVariants.{Main, Entry}
use Rattle.frames80.specs.declared.frame_pair.FramePair.{FramePair}
use Rattle.frames80.specs.declared.frame_pair.FramePair.TheVariants.{Bc, De, Hl}
use Rattle.frames80.specs.declared.effect.Change.{Change}
use Rattle.frames80.specs.declared.effect.Change.TheVariants.{Keep, Push, PushAny, Pop, Drop, Swap, Exchange, Forget, SetStack}
use Rattle.frames80.specs.Word.{met}
use Rattle.frames80.specs.StackFrame.{StackFrame, pair_in, with_pair, top_word, taken_after_pop}
use Rattle.frames80.specs.Moves.{changed, return_fault, is_own_alone}
use Rattle.frames80.specs.Calls.{returned, agree, words_met, merged}
use Rattle.frames80.specs.Places.{InPair, InWord, Source, From, Unknown, word_from_top, word_at, sourced, pair_source, source}
use Rattle.frames80.specs.Places.{source_after, ChangesByPlaces, ReturnsByPlaces, MeetsByPlaces, SameCounts, Covers, CoveredGoesAlong}

top_at : (words : List Word) → top_word words ≡ word_from_top words 0
top_at [] = refl
top_at (word ∷ words) = refl

rest_at : (words : List Word) (i : ℕ) → word_from_top (drop 1 words) i ≡ word_from_top words (suc i)
rest_at [] i = refl
rest_at (word ∷ words) i = refl

-- one pair is given, the others stay
given_at : (f : StackFrame) (pair other : FramePair) (word : Word) (from : Source) → word ≡ sourced f from →
    pair_in (with_pair f.pairs pair word) other ≡ sourced f (pair_source pair from other)
given_at f Bc Bc word from is = is
given_at f Bc De word from is = refl
given_at f Bc Hl word from is = refl
given_at f De Bc word from is = refl
given_at f De De word from is = is
given_at f De Hl word from is = refl
given_at f Hl Bc word from is = refl
given_at f Hl De word from is = refl
given_at f Hl Hl word from is = is

pub changes_by_places : ChangesByPlaces
changes_by_places Keep f place = refl
changes_by_places (Push pair) f (InPair other) = refl
changes_by_places (Push pair) f (InWord zero) = refl
changes_by_places (Push pair) f (InWord (suc i)) = refl
changes_by_places PushAny f (InPair other) = refl
changes_by_places PushAny f (InWord zero) = refl
changes_by_places PushAny f (InWord (suc i)) = refl
changes_by_places (Pop pair) f (InPair other) = given_at f pair other (top_word f.words) (From (InWord 0)) (top_at f.words)
changes_by_places (Pop pair) f (InWord i) = rest_at f.words i
changes_by_places Drop f (InPair other) = refl
changes_by_places Drop f (InWord i) = rest_at f.words i
changes_by_places Swap f (InPair other) = given_at f Hl other (top_word f.words) (From (InWord 0)) (top_at f.words)
changes_by_places Swap f (InWord zero) = refl
changes_by_places Swap f (InWord (suc i)) = rest_at f.words i
changes_by_places Exchange f (InPair Bc) = refl
changes_by_places Exchange f (InPair De) = refl
changes_by_places Exchange f (InPair Hl) = refl
changes_by_places Exchange f (InWord i) = refl
changes_by_places (Forget pair) f (InPair other) = given_at f pair other Any Unknown refl
changes_by_places (Forget pair) f (InWord i) = refl
changes_by_places (SetStack address) f (InPair other) = refl
changes_by_places (SetStack address) f (InWord i) = refl

dropped_at : (taken i : ℕ) (words : List Word) → word_from_top (drop taken words) i ≡ word_from_top words (taken + i)
dropped_at zero i words = ap (word_from_top words) (omega arith)
dropped_at (suc taken) i [] = refl
dropped_at (suc taken) i (word ∷ words) =
    let next : suc taken + i ≡ suc (taken + i) = omega arith in
    dropped_at taken i words ∙ sym (ap (word_from_top (word ∷ words)) next)

pub returns_by_places : ReturnsByPlaces
returns_by_places taken f (InPair Bc) = refl
returns_by_places taken f (InPair De) = refl
returns_by_places taken f (InPair Hl) = refl
returns_by_places taken f (InWord i) = dropped_at taken i f.words

met_at : (xs ys : List Word) (i : ℕ) → length xs ≡ length ys → word_from_top (words_met xs ys) i ≡ met (word_from_top xs i) (word_from_top ys i)
met_at [] ys i long = refl
met_at (x ∷ xs) [] i long = absurd (omega arith)
met_at (x ∷ xs) (y ∷ ys) zero long = refl
met_at (x ∷ xs) (y ∷ ys) (suc i) long = met_at xs ys i (omega arith)

pub counts_of_agree : (f g : StackFrame) → agree f g ≡ true → SameCounts f g
counts_of_agree f g same = record {
  taken = (unsigned_Decides f.taken g.taken).0 (first_so (nat_eq f.taken g.taken) (nat_eq (length f.words) (length g.words)) same);
  words = (unsigned_Decides (length f.words) (length g.words)).0 (second_so (nat_eq f.taken g.taken) (nat_eq (length f.words) (length g.words)) same);
}

pub meets_by_places : MeetsByPlaces
meets_by_places f g (InPair Bc) same = refl
meets_by_places f g (InPair De) same = refl
meets_by_places f g (InPair Hl) same = refl
meets_by_places f g (InWord i) same = met_at f.words g.words i (counts_of_agree f g same).words

taken_same : (xs ys : List Word) (n m : ℕ) → length xs ≡ length ys → n ≡ m → taken_after_pop xs n ≡ taken_after_pop ys m
taken_same [] [] n m long same = ap (λ k. k + 1) same
taken_same [] (y ∷ ys) n m long same = absurd (omega arith)
taken_same (x ∷ xs) [] n m long same = absurd (omega arith)
taken_same (x ∷ xs) (y ∷ ys) n m long same = same

dropped_same : (n : ℕ) (xs ys : List Word) → length xs ≡ length ys → length (drop n xs) ≡ length (drop n ys)
dropped_same n xs ys long = length-drop n xs ∙ ap (λ k. k - n) long ∙ sym (length-drop n ys)

change_same : (change : Change) (f g : StackFrame) → SameCounts f g → SameCounts (changed change f) (changed change g)
change_same Keep f g same = same
change_same (Push pair) f g same = record { taken = same.taken; words = ap suc same.words }
change_same PushAny f g same = record { taken = same.taken; words = ap suc same.words }
change_same (Pop pair) f g same = record { taken = taken_same f.words g.words f.taken g.taken same.words same.taken; words = dropped_same 1 f.words g.words same.words }
change_same Drop f g same = record { taken = taken_same f.words g.words f.taken g.taken same.words same.taken; words = dropped_same 1 f.words g.words same.words }
change_same Swap f g same = record { taken = taken_same f.words g.words f.taken g.taken same.words same.taken; words = ap suc (dropped_same 1 f.words g.words same.words) }
change_same Exchange f g same = record { taken = same.taken; words = same.words }
change_same (Forget pair) f g same = record { taken = same.taken; words = same.words }
change_same (SetStack address) f g same = record { taken = same.taken; words = refl }

return_same : (taken : ℕ) (f g : StackFrame) → SameCounts f g → SameCounts (returned taken f) (returned taken g)
return_same taken f g same = record { taken = same.taken; words = dropped_same taken f.words g.words same.words }

-- covering, place by place
sourced_own : (f g : StackFrame) (from : Source) → Covers f g → sourced f from ≡ Own → sourced g from ≡ Own
sourced_own f g (From place) covers own = covers.own place own
sourced_own f g Unknown covers own = own

covers_change : (f g : StackFrame) → Covers f g → (change : Change) → Covers (changed change f) (changed change g)
covers_change f g covers change = record {
  counts = change_same change f g covers.counts;
  own = λ place own. changes_by_places change g place ∙ sourced_own f g (source change place) covers (sym (changes_by_places change f place) ∙ own);
}

covers_return : (f g : StackFrame) → Covers f g → (taken : ℕ) → Covers (returned taken f) (returned taken g)
covers_return f g covers taken = record {
  counts = return_same taken f g covers.counts;
  own = λ place own. returns_by_places taken g place ∙ sourced_own f g (source_after taken place) covers (sym (returns_by_places taken f place) ∙ own);
}

met_own : (a b : Word) → met a b ≡ Own → a ≡ Own
met_own Own b own = refl
met_own Any b own = own

met_other_own : (a b : Word) → met a b ≡ Own → b ≡ Own
met_other_own Own b own = own
met_other_own Any b own = absurd (let e : Any ≡ Own = own in cc)

words_met-long : (xs ys : List Word) → length xs ≡ length ys → length (words_met xs ys) ≡ length xs
words_met-long [] ys long = refl
words_met-long (x ∷ xs) [] long = absurd (omega arith)
words_met-long (x ∷ xs) (y ∷ ys) long = ap suc (words_met-long xs ys (omega arith))

covers_meet : (f g : StackFrame) → Covers f g → (h : StackFrame) → agree f h ≡ true → Covers (merged f h) g
covers_meet f g covers h same = record {
  counts = record { taken = covers.counts.taken; words = words_met-long f.words h.words (counts_of_agree f h same).words ∙ covers.counts.words };
  own = λ place own. covers.own place (met_own (word_at f place) (word_at h place) (sym (meets_by_places f h place same) ∙ own));
}

covers_meet_other : (f g : StackFrame) → Covers f g → (h : StackFrame) → agree h f ≡ true → Covers (merged h f) g
covers_meet_other f g covers h same = record {
  counts = record { taken = (counts_of_agree h f same).taken ∙ covers.counts.taken; words = words_met-long h.words f.words (counts_of_agree h f same).words ∙ (counts_of_agree h f same).words ∙ covers.counts.words };
  own = λ place own. covers.own place (met_other_own (word_at h place) (word_at f place) (sym (meets_by_places h f place same) ∙ own));
}

-- an entry's words are its return address alone where they are one word, and it is
alone_is : (words : List Word) → length words ≡ 1 → word_from_top words 0 ≡ Own → is_own_alone words ≡ true
alone_is [] long own = absurd (omega arith)
alone_is (Own ∷ []) long own = refl
alone_is (Any ∷ []) long own = absurd (let e : Any ≡ Own = own in cc)
alone_is (word ∷ next ∷ words) long own = absurd (omega arith)

is_alone : (words : List Word) → is_own_alone words ≡ true → (length words ≡ 1) × (word_from_top words 0 ≡ Own)
is_alone [] alone = absurd (true≢false (sym alone))
is_alone (Own ∷ []) alone = (refl, refl)
is_alone (Any ∷ []) alone = absurd (true≢false (sym alone))
is_alone (Own ∷ next ∷ words) alone = absurd (true≢false (sym alone))
is_alone (Any ∷ next ∷ words) alone = absurd (true≢false (sym alone))

may_return : (f g : StackFrame) → Covers f g → (role : Role) → return_fault role f.words ≡ None → return_fault role g.words ≡ None
may_return f g covers (Main top) none = none
may_return f g covers Entry none = by (is_own_alone f.words) refl none
  where
    by : (b : Bool) → is_own_alone f.words ≡ b → return_fault Entry f.words ≡ None → return_fault Entry g.words ≡ None
    by true alone _ =
        let parts = is_alone f.words alone in
        let long : length g.words ≡ 1 = sym covers.counts.words ∙ parts.0 in
        rw (alone_is g.words long (covers.own (InWord 0) parts.1)) refl
    by false alone fault = absurd (let e = rw alone at fault in cc)

pub covered_goes_along : CoveredGoesAlong
covered_goes_along f g covers = record {
  change = covers_change f g covers;
  return = covers_return f g covers;
  may_return = may_return f g covers;
  meet = covers_meet f g covers;
  meet_other = covers_meet_other f g covers;
}
