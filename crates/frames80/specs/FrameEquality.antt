-- Two frames are equal if all their parts are, and what is hashed of a frame is all its parts. (This project's own.)
use Rattle.std.specs.Prelude.{◌≡◌, Bool, true, ◌&&◌, nat_eq, ◌++◌, List, reverse, refl}
use Rattle.std.proofs.Common.{ap, subst}
use Rattle.std.specs.Bool.{Decides}
use Rattle.std.specs.Cmp.{IsEquivalence, decided, unsigned_Decides, first_so, second_so}
use Rattle.std.specs.Cmp.Lexicographic.{pointwise, pointwise_decides}
use Rattle.std.specs.Hash.{HashWrites, u32, slice}
use Rattle.frames80.specs.declared.word.Word.{Word}
use Rattle.frames80.specs.Word.{word_eq, word_decides, word_writes}
use Rattle.frames80.specs.StackFrame.{Pairs, StackFrame}

abbrev pub pairs_eq : Pairs → Pairs → Bool
pairs_eq p q = word_eq p.bc q.bc && (word_eq p.de q.de && word_eq p.hl q.hl)

abbrev pub frame_eq : StackFrame → StackFrame → Bool
frame_eq f g = nat_eq f.taken g.taken && (pointwise word_eq f.words g.words && pairs_eq f.pairs g.pairs)

-- the words are hashed from bottom to top
abbrev pub frame_writes : StackFrame → HashWrites
frame_writes f = u32 f.taken ++ slice word_writes (reverse f.words) ++ word_writes f.pairs.bc ++ word_writes f.pairs.de
    ++ word_writes f.pairs.hl

own_words : (xs : List Word) → pointwise word_eq xs xs ≡ true
own_words xs = (pointwise_decides word_decides xs xs).1 refl

own_word : (w : Word) → word_eq w w ≡ true
own_word w = (word_decides w w).1 refl

own : (f : StackFrame) → frame_eq f f ≡ true
own f =
    rw (
      (unsigned_Decides f.taken f.taken).1 refl,
      own_words f.words,
      own_word f.pairs.bc,
      own_word f.pairs.de,
      own_word f.pairs.hl,
    ) refl

-- equality is equality of all parts
pub frame_decides : (f g : StackFrame) → Decides (frame_eq f g) (f ≡ g)
frame_decides f g = (equal, same)
  where
    equal : frame_eq f g ≡ true → f ≡ g
    equal holds =
        let words = pointwise word_eq f.words g.words in
        let rest = second_so (nat_eq f.taken g.taken) (words && pairs_eq f.pairs g.pairs) holds in
        let pairs = second_so words (pairs_eq f.pairs g.pairs) rest in
        let low = second_so (word_eq f.pairs.bc g.pairs.bc)
        (word_eq f.pairs.de g.pairs.de && word_eq f.pairs.hl g.pairs.hl) pairs in
        let e1 : f.taken ≡ g.taken = (unsigned_Decides f.taken g.taken).0
        (first_so (nat_eq f.taken g.taken) (words && pairs_eq f.pairs g.pairs) holds) in
        let e2 : f.words ≡ g.words = (pointwise_decides word_decides f.words g.words).0
        (first_so words (pairs_eq f.pairs g.pairs) rest) in
        let e3 : f.pairs.bc ≡ g.pairs.bc = (word_decides f.pairs.bc g.pairs.bc).0
        (first_so (word_eq f.pairs.bc g.pairs.bc) (word_eq f.pairs.de g.pairs.de && word_eq f.pairs.hl g.pairs.hl) pairs) in
        let e4 : f.pairs.de ≡ g.pairs.de = (word_decides f.pairs.de g.pairs.de).0
        (first_so (word_eq f.pairs.de g.pairs.de) (word_eq f.pairs.hl g.pairs.hl) low) in
        let e5 : f.pairs.hl ≡ g.pairs.hl = (word_decides f.pairs.hl g.pairs.hl).0
        (second_so (word_eq f.pairs.de g.pairs.de) (word_eq f.pairs.hl g.pairs.hl) low) in
        λ i. record { taken = e1 i; words = e2 i; pairs = record { bc = e3 i; de = e4 i; hl = e5 i } }

    same : f ≡ g → frame_eq f g ≡ true
    same e = subst (λ h. frame_eq f h ≡ true) e (own f)

pub frame_equivalence : IsEquivalence frame_eq
frame_equivalence = decided frame_eq frame_decides

pub frame_alike : (f g : StackFrame) → frame_eq f g ≡ true → frame_writes f ≡ frame_writes g
frame_alike f g same = ap frame_writes ((frame_decides f g).0 same)

-- `==` answers yes exactly where the frames are the same
abbrev pub EqualityIsExact : Type 0
EqualityIsExact = (f g : StackFrame) → Decides (frame_eq f g) (f ≡ g)
