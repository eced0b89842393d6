-- Stacks of words by number, top first, as links make them. (This project's own.)
use Rattle.std.specs.Prelude.{◌≡◌, ◌<◌, ℕ, suc, Bool, ◌&&◌, nat_eq, List, [], ◌∷◌, ◌++◌, Option, Some, length, slice_get, slice_index_or}
use Rattle.frames80.specs.declared.word.Word.{Word}
use Rattle.frames80.specs.Calls.{words_met}
use Rattle.frames80_interned.specs.declared.pair.Pair.{Pair}
use Rattle.frames80_interned.specs.declared.link.Link.{Link}

-- the words of a number
abbrev pub words_at : List (List Word) → ℕ → List Word
words_at stacks number = slice_index_or stacks number []

-- the stacks when each link in turn has added its word on top of a stack before it
abbrev pub stacks_after : List (List Word) → List Link → List (List Word)
stacks_after stacks [] = stacks
stacks_after stacks (link ∷ links) = stacks_after (stacks ++ (link.word ∷ words_at stacks link.below) ∷ []) links

-- the first stack has no words
abbrev pub stacks_of : List Link → List (List Word)
stacks_of links = stacks_after ([] ∷ []) links

-- a number has these words
pub record IsStack (stacks : List (List Word)) (number : ℕ) (words : List Word) : Type 0 where
  pub there : number < length stacks
  pub is : words_at stacks number ≡ words

-- each stack has the number that it had
pub record StacksStay (old new : List (List Word)) : Type 0 where
  pub stays : (number : ℕ) (words : List Word) → slice_get old number ≡ Some words → slice_get new number ≡ Some words

abbrev pub pair_eq : Pair → Pair → Bool
pair_eq a b = nat_eq a.one b.one && nat_eq a.other b.other

-- a number has what is known of both words at each place of two stacks, and it is that of the first stack if that is as it was
pub record IsMet (stacks : List (List Word)) (pair : Pair) (met : ℕ) : Type 0 where
  pub there : met < length stacks
  pub is : words_at stacks met ≡ words_met (words_at stacks pair.one) (words_at stacks pair.other)
  pub unchanged : words_met (words_at stacks pair.one) (words_at stacks pair.other) ≡ words_at stacks pair.one → met ≡ pair.one

-- what is kept of pairs of stacks that are there is so
pub record AreMet (stacks : List (List Word)) (interned : Pair → Option ℕ) : Type 0 where
  pub one : (pair : Pair) (number : ℕ) → interned pair ≡ Some number → pair.one < length stacks
  pub other : (pair : Pair) (number : ℕ) → interned pair ≡ Some number → pair.other < length stacks
  pub met : (pair : Pair) (number : ℕ) → interned pair ≡ Some number → IsMet stacks pair number

-- the second words are what is left of the first without some words from the top
pub record LieBeneath (words beneath : List Word) : Type 0 where
  pub top : List Word
  pub is : words ≡ top ++ beneath

-- the words of a number are those of a link: its word on top of a stack before it, and those of another stack lie beneath
pub record IsLink (stacks : List (List Word)) (number : ℕ) (link : Link) : Type 0 where
  pub before : link.below < number
  pub words : words_at stacks number ≡ link.word ∷ words_at stacks link.below
  pub height : link.height ≡ length (words_at stacks number)
  pub skip : link.skip < number
  pub skipped : LieBeneath (words_at stacks link.below) (words_at stacks link.skip)

-- each link lies on a stack before it, and its height is that of its words
pub record AreLinks (links : List Link) : Type 0 where
  pub before : (i : ℕ) (link : Link) → slice_get links i ≡ Some link → link.below < suc i
  pub height : (i : ℕ) (link : Link) → slice_get links i ≡ Some link → link.height ≡ length (words_at (stacks_of links) (suc i))
  pub skip : (i : ℕ) (link : Link) → slice_get links i ≡ Some link → link.skip < suc i
  pub skipped : (i : ℕ) (link : Link) → slice_get links i ≡ Some link → LieBeneath (words_at (stacks_of links) link.below) (words_at (stacks_of links) link.skip)
