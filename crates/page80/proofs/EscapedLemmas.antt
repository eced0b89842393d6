-- What stands for each byte, by a table of all of them.
use Rattle.std.proofs.Common.{◌≡◌, ℕ, ◌<◌, ◌==◌, Bool, true, false, not, ◌||◌, List, [], ◌∷◌, refl, ap, ◌∙◌, subst, zero-add, length, get_or}
use Rattle.std.specs.List.{list_all, range_with_len}
use Rattle.std.proofs.lemmas.Bool.{eqb-true}
use Rattle.std.proofs.lemmas.List.Sums.{AllPass-from_list_all}
use Rattle.std.proofs.lemmas.List.FromFn.{get_or-range_with_len}
use Rattle.page80.specs.Reading.{Reading, text, tag, ampersand, number, reference, other, reading_after, shown_from}
use Rattle.page80.specs.Escaped.{escaped, EscapedIsShown, IsHarmless}

is_single : ℕ → List ℕ → Bool
is_single b [] = false
is_single b (x ∷ []) = x == b
is_single b (x ∷ y ∷ ys) = false

single : (b : ℕ) (l : List ℕ) → is_single b l ≡ true → l ≡ b ∷ []
unfolding is_single
single b [] h = cc
single b (x ∷ []) h = ap (λ (v : ℕ). v ∷ []) (eqb-true x b h)
single b (x ∷ y ∷ ys) h = cc

is_text : Reading → Bool
is_text text = true
is_text _ = false

in_text : (r : Reading) → is_text r ≡ true → r ≡ text
unfolding is_text
in_text text h = refl
in_text tag h = cc
in_text ampersand h = cc
in_text number h = cc
in_text (reference value) h = cc
in_text other h = cc

is_harmless : ℕ → Bool
is_harmless b = not ((b == 60 || b == 62) || (b == 34 || b == 39))

harmless : (b : ℕ) → is_harmless b ≡ true → IsHarmless b
unfolding is_harmless
harmless b h = record {
  no_tag = (λ e. let t : is_harmless 60 ≡ true = subst (λ (n : ℕ). is_harmless n ≡ true) e h in cc);
  no_end = (λ e. let t : is_harmless 62 ≡ true = subst (λ (n : ℕ). is_harmless n ≡ true) e h in cc);
  no_quote = (λ e. let t : is_harmless 34 ≡ true = subst (λ (n : ℕ). is_harmless n ≡ true) e h in cc);
  no_apostrophe = (λ e. let t : is_harmless 39 ≡ true = subst (λ (n : ℕ). is_harmless n ≡ true) e h in cc);
}

is_shown : ℕ → Bool
is_shown b = is_single b (shown_from text (escaped b))

is_whole : ℕ → Bool
is_whole b = is_text (reading_after text (escaped b))

all_harmless : ℕ → Bool
all_harmless b = list_all is_harmless (escaped b)

all_shown : list_all is_shown (range_with_len 0 256) ≡ true
unfolding is_shown is_single
all_shown = refl

all_whole : list_all is_whole (range_with_len 0 256) ≡ true
unfolding is_whole is_text
all_whole = refl

none_harmful : list_all all_harmless (range_with_len 0 256) ≡ true
unfolding all_harmless is_harmless
none_harmful = refl

each : (test : ℕ → Bool) → list_all test (range_with_len 0 256) ≡ true → (b : ℕ) → b < 256 → test b ≡ true
each test all b h =
    subst (λ (n : ℕ). test n ≡ true) (get_or-range_with_len 0 256 b 0 h ∙ zero-add b)
    (AllPass-from_list_all test (range_with_len 0 256) all b 0
    (subst (λ (n : ℕ). b < n) (ap (λ (n : ℕ). n) (sym_length)) h))
  where
    sym_length : 256 ≡ length (range_with_len 0 256)
    sym_length = refl

pub escaped_is_shown : EscapedIsShown
unfolding is_shown is_whole all_harmless
escaped_is_shown = record {
  shown = (λ b h. single b (shown_from text (escaped b)) (each is_shown all_shown b h));
  whole = (λ b h. in_text (reading_after text (escaped b)) (each is_whole all_whole b h));
  harmless = (λ b h k d below. harmless (get_or (escaped b) k d)
      (AllPass-from_list_all is_harmless (escaped b) (each all_harmless none_harmful b h) k d below));
}
