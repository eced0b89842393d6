-- What lies beneath words: how many words there are, and what is left when some are dropped.
use Rattle.std.specs.Prelude.{Bool, true, false, nat_le}
use Rattle.std.proofs.Common.{◌≡◌, ◌≤◌, ◌<◌, ℕ, ◌-◌, List, [], ◌∷◌, ◌++◌, length, drop, refl, sym, ◌∙◌, ap, arith}
use Rattle.std.proofs.lemmas.List.{append_assoc, length-append}
use Rattle.std.proofs.Math.Seq.{drop-append_seam}
use Rattle.std.proofs.Math.ListN.{drop_of_length-le}
use Rattle.std.proofs.lemmas.Bool.Decides.{nat_tests}
use Rattle.frames80.specs.declared.word.Word.{Word}
use Rattle.frames80_interned.specs.declared.link.Link.{Link}
use Rattle.frames80_interned.specs.Stacks.{words_at, IsLink, IsStack, LieBeneath}

pub lies-self : (words : List Word) → LieBeneath words words
lies-self words = record { top = []; is = refl }

pub lies-under : (words beneath : List Word) (word : Word) → LieBeneath words beneath → LieBeneath (word ∷ words) beneath
lies-under words beneath word lies = record { top = word ∷ lies.top; is = ap (λ ws. word ∷ ws) lies.is }

pub lies-on : (one two three : List Word) → LieBeneath one two → LieBeneath two three → LieBeneath one three
lies-on one two three a b = record { top = a.top ++ b.top; is = a.is ∙ ap (λ ws. a.top ++ ws) b.is ∙ sym (append_assoc a.top b.top three) }

pub lies-short : (words beneath : List Word) → LieBeneath words beneath → length beneath ≤ length words
lies-short words beneath lies = let e = ap length lies.is in let n = length-append lies.top beneath in omega arith

-- what lies beneath is what is left without the words above it
pub lies-dropped : (words beneath : List Word) → LieBeneath words beneath → beneath ≡ drop (length words - length beneath) words
lies-dropped words beneath lies =
    let count : length words - length beneath ≡ length lies.top = let e = ap length lies.is in let n = length-append lies.top beneath in omega arith in
    sym (ap (λ n. drop n words) count ∙ ap (drop (length lies.top)) lies.is ∙ drop-append_seam lies.top beneath)

-- with that many words left, and with none if there are fewer
drop-to : (words : List Word) (count n : ℕ) → n ≡ length words - (length words - count) → drop n words ≡ drop count words
drop-to words count n e = by (nat_le count (length words)) refl
  where
    by : (b : Bool) → nat_le count (length words) ≡ b → drop n words ≡ drop count words
    by true is = ap (λ k. drop k words) (let fits : count ≤ length words = grind (arith, nat_tests) in omega (arith, e))
    by false is =
        let past : length words ≤ count = grind (arith, nat_tests) in
        let whole : length words ≤ n = omega (arith, e) in
        drop_of_length-le words whole ∙ sym (drop_of_length-le words past)

-- words beneath a link
module _ (stacks : List (List Word)) (number : ℕ) where
  pub lies-link : (link : Link) → IsLink stacks number link → LieBeneath (words_at stacks number) (words_at stacks link.below)
  lies-link link h = record { top = link.word ∷ []; is = h.words }

  pub lies-skip : (link : Link) → IsLink stacks number link → LieBeneath (words_at stacks number) (words_at stacks link.skip)
  lies-skip link h = lies-on (words_at stacks number) (words_at stacks link.below) (words_at stacks link.skip) (lies-link link h) h.skipped

-- what is left if as many are left as are to be
pub is_down : (stacks : List (List Word)) (words : List Word) (number count : ℕ) → number < length stacks → LieBeneath words (words_at stacks number) → length (words_at stacks number) ≡ length words - count
    → IsStack stacks number (drop count words)
is_down stacks words number count there lies left = record {
  there = there;
  is = lies-dropped words (words_at stacks number) lies ∙ drop-to words count (length words - length (words_at stacks number)) (omega (arith, left));
}
