-- The texts of words, targets and cases.
use Rattle.std.proofs.Common.{◌≡◌, ◌≢◌, ℕ, ◌<◌, List, [], ◌∷◌, ◌++◌, take, drop, refl, ap, ◌∙◌}
use Rattle.std.specs.Prelude.{All}
use Rattle.std.proofs.lemmas.List.Elements.{All-head, All-tail}
use Rattle.text80.specs.Digits.{word_text}
use Rattle.image80.specs.Case.{DeclaredCase}
use Rattle.image80.specs.CaseLine.{IsCaseLine}
use Rattle.image80.specs.RegionsText.{targets_text, case_text}
use Rattle.image80.proofs.DigitLemmas.{word_same}

abbrev pub AreWords : List ℕ → Type 0
AreWords words = All (λ target. target < 65536) words

-- what follows a word's digits
pub after_word : (v w : ℕ) (xs ys : List ℕ) → word_text v ++ xs ≡ word_text w ++ ys → xs ≡ ys
after_word v w xs ys same = ap (λ l. drop 4 l) same

pub before_rest : (v w : ℕ) (xs ys : List ℕ) → word_text v ++ xs ≡ word_text w ++ ys → word_text v ≡ word_text w
before_rest v w xs ys same = ap (λ l. take 4 l) same

-- targets with the same text are the same
pub same_words : (ts us : List ℕ) → AreWords ts → AreWords us → targets_text ts ≡ targets_text us → ts ≡ us
same_words [] [] ts_words us_words same = refl
same_words [] (u ∷ us) ts_words us_words same = cc
same_words (t ∷ ts) [] ts_words us_words same = cc
same_words (t ∷ ts) (u ∷ us) ts_words us_words same =
    let bodies : word_text t ++ targets_text ts ≡ word_text u ++ targets_text us = ap (λ l. drop 1 l) same in
    let here : t ≡ u = word_same t u (All-head (λ target. target < 65536) t ts ts_words) (All-head (λ target. target < 65536) u us us_words) (before_rest t u (targets_text ts) (targets_text us) bodies) in
    ap (λ x. x ∷ ts) here ∙ ap (λ xs. u ∷ xs)
    (same_words ts us (All-tail (λ target. target < 65536) t ts ts_words) (All-tail (λ target. target < 65536) u us us_words) (after_word t u (targets_text ts) (targets_text us) bodies))

-- case lines with the same text are the same
pub case_line_same : (c d : DeclaredCase) → IsCaseLine c → IsCaseLine d → case_text c ≡ case_text d → c ≡ d
case_line_same c d c_is d_is same =
    let at : c.at ≡ d.at = word_same c.at d.at c_is.word d_is.word (before_rest c.at d.at (targets_text c.targets) (targets_text d.targets) same) in
    let targets : c.targets ≡ d.targets = same_words c.targets d.targets c_is.words d_is.words (after_word c.at d.at (targets_text c.targets) (targets_text d.targets) same) in
    let make : ℕ → List ℕ → DeclaredCase = λ a ts. record { at = a; targets = ts } in
    ap (λ a. make a c.targets) at ∙ ap (λ ts. make d.at ts) targets

-- targets whose text begins with the text of others, and what is left of them
pub record AreLeft (rest : List ℕ) : Type 0 where
  pub more : List ℕ
  pub words : AreWords more
  pub is : rest ≡ targets_text more

pub left_after : (ts us rest : List ℕ) → AreWords us → targets_text ts ++ rest ≡ targets_text us → AreLeft rest
left_after [] us rest us_words same = record { more = us; words = us_words; is = same }
left_after (t ∷ ts) [] rest us_words same = cc
left_after (t ∷ ts) (u ∷ us) rest us_words same =
    left_after ts us rest (All-tail (λ target. target < 65536) u us us_words) (ap (λ l. drop 5 l) same)

-- no more targets are left where none can be read
pub none_left : (rest : List ℕ) → AreLeft rest → ((target : ℕ) (others : List ℕ) → target < 65536 → rest ≢ 32 ∷ (word_text target ++ others)) → rest ≡ []
none_left rest left none = go left.more left.words left.is
  where
    go : (more : List ℕ) → AreWords more → rest ≡ targets_text more → rest ≡ []
    go [] words is = is
    go (t ∷ ts) words is = absurd (none t (targets_text ts) (All-head (λ target. target < 65536) t ts words) is)
