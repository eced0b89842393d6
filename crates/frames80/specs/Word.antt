-- What is known of a word: that it is the procedure's own return address, or nothing. (This project's own.)
use Rattle.std.specs.Prelude.{◌≡◌, ℕ, Bool, true, nat_eq, refl}
use Rattle.std.proofs.Common.{ap, subst, sym, true≢false}
use Rattle.std.specs.Bool.{Decides}
use Rattle.std.specs.Ordering.{on}
use Rattle.std.specs.Cmp.{IsEquivalence, on_equiv, nat_eq_equiv}
use Rattle.std.specs.Hash.{HashWrites, u8}
use Rattle.frames80.specs.declared.word.Word.{Word}
use Rattle.frames80.specs.declared.word.Word.TheVariants.{Own, Any}

-- two words that meet at a point: the return address only if both are
abbrev pub met : Word → Word → Word
met Own word = word
met Any word = Any

-- a number for each
abbrev pub word_rank : Word → ℕ
word_rank Own = 1
word_rank Any = 0

-- whether two words are the same
abbrev pub word_eq : Word → Word → Bool
word_eq = on word_rank nat_eq

-- what is hashed of a word
abbrev pub word_writes : Word → HashWrites
word_writes word = u8 (word_rank word)

-- the laws of `==` and of hashing
pub word_equivalence : IsEquivalence word_eq
word_equivalence = on_equiv word_rank nat_eq_equiv

pub word_same : (a b : Word) → word_eq a b ≡ true → a ≡ b
word_same Own Own same = refl
word_same Own Any same = absurd (true≢false (sym same))
word_same Any Own same = absurd (true≢false (sym same))
word_same Any Any same = refl

pub word_decides : (a b : Word) → Decides (word_eq a b) (a ≡ b)
word_decides a b = (word_same a b, λ same. subst (λ w. word_eq a w ≡ true) same (own a))
  where
    own : (w : Word) → word_eq w w ≡ true
    own Own = refl
    own Any = refl

pub word_alike : (a b : Word) → word_eq a b ≡ true → word_writes a ≡ word_writes b
word_alike a b same = ap word_writes (word_same a b same)
