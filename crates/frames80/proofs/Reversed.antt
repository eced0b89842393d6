-- Words are kept bottom to top, and seen top first.
use Rattle.std.specs.Prelude.{◌≡◌, ℕ, ◌+◌, List, ◌++◌, take, drop, length, reverse}
use Rattle.frames80.specs.declared.word.Word.{Word}
use Rattle.frames80.specs.Word.{word_eq, word_decides}
use Rattle.std.specs.Bool.{one_answer}
use Rattle.std.specs.Cmp.Lexicographic.{pointwise, pointwise_decides}
use Rattle.std.proofs.Common.{sym, ◌∙◌, ap, arith}
use Rattle.std.proofs.lemmas.List.{reverse-append, reverse-reverse, length-reverse, length-drop, take-append-drop, drop_at}

-- the lower words without the top t of them, seen from the top
pub drop_reverse : {A : Type 0} (xs : List A) (t n : ℕ) → t + n ≡ length xs → drop t (reverse xs) ≡ reverse (take n xs)
drop_reverse xs t n all =
    let parted : reverse xs ≡ reverse (drop n xs) ++ reverse (take n xs) =
    ap reverse (sym (take-append-drop n xs)) ∙ reverse-append (take n xs) (drop n xs) in
    let long : length (reverse (drop n xs)) ≡ t = length-reverse (drop n xs) ∙ length-drop n xs ∙ (omega (arith, all)) in
    ap (drop t) parted ∙ drop_at (reverse (drop n xs)) (reverse (take n xs)) t long

-- words from bottom to top are equal where they are from the top
pub pointwise_reverse : (xs ys : List Word) → pointwise word_eq (reverse xs) (reverse ys) ≡ pointwise word_eq xs ys
pointwise_reverse xs ys =
    one_answer {P = xs ≡ ys} (pointwise word_eq (reverse xs) (reverse ys)) (pointwise word_eq xs ys) (
      λ yes. sym (reverse-reverse xs) ∙ ap reverse ((pointwise_decides word_decides (reverse xs) (reverse ys)).0 yes) ∙ reverse-reverse ys,
      λ same. (pointwise_decides word_decides (reverse xs) (reverse ys)).1 (ap reverse same),
    )
    (pointwise_decides word_decides xs ys)
