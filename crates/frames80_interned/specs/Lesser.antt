-- Words of which some are forgotten: any word stands where the return address stood. (This project's own.)
use Rattle.std.specs.Prelude.{◌≡◌, ◌<◌, ℕ, List, [], ◌∷◌, ◌++◌, length}
use Rattle.frames80.specs.declared.word.Word.{Word}
use Rattle.frames80.specs.declared.word.Word.TheVariants.{Own}
use Rattle.frames80_interned.specs.Stacks.{words_at}

-- as many words, and the return address only if the others have it
abbrev pub IsLesser : List Word → List Word → Type 0
IsLesser [] [] = Unit {0}
IsLesser [] (y ∷ ys) = ⊥
IsLesser (x ∷ xs) [] = ⊥
IsLesser (x ∷ xs) (y ∷ ys) = (x ≡ Own → y ≡ Own) × IsLesser xs ys

-- these words on top of a stack are lesser
pub record IsLesserTop (stacks : List (List Word)) (words top : List Word) (rest : ℕ) : Type 0 where
  pub there : rest < length stacks
  pub lesser : IsLesser (top ++ words_at stacks rest) words

-- a number has lesser words
pub record IsLesserStack (stacks : List (List Word)) (number : ℕ) (words : List Word) : Type 0 where
  pub there : number < length stacks
  pub lesser : IsLesser (words_at stacks number) words
