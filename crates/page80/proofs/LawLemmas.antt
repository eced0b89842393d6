-- Readers of a page, piece by piece.
use Rattle.std.proofs.Common.{◌≡◌, ℕ, List, [], ◌∷◌, ◌++◌, refl, ap, ◌∙◌, sym, append_assoc}
use Rattle.page80.specs.Reading.{Reading, text, tag, next, shows, shows_at_end, reading_after, shown_from, shown_in}
use Rattle.page80.specs.Pieces.{IsWhole, IsMarkup, IsTagBegun, StaysInTag, EndsTag}

pub after-append : (r : Reading) (a b : List ℕ) → reading_after r (a ++ b) ≡ reading_after (reading_after r a) b
after-append r [] b = refl
after-append r (x ∷ xs) b = after-append (next r x) xs b

-- nothing is shown at the end of the first piece, unless a reference goes on
pub shown-append : (r : Reading) (a b : List ℕ) → shows_at_end (reading_after r a) ≡ [] →
    shown_from r (a ++ b) ≡ shown_from r a ++ shown_from (reading_after r a) b
shown-append r [] b h = sym (ap (λ (l : List ℕ). l ++ shown_from r b) h)
shown-append r (x ∷ xs) b h =
    ap (λ (l : List ℕ). shows r x ++ l) (shown-append (next r x) xs b h)
    ∙ sym (append_assoc (shows r x) (shown_from (next r x) xs) (shown_from (reading_after (next r x) xs) b))

-- a whole piece behind a whole one
pub whole-append : (html piece all : List ℕ) → all ≡ html ++ piece → IsWhole html → IsWhole piece → IsWhole all
whole-append html piece all e h p =
    ap (reading_after text) e ∙ after-append text html piece ∙ ap (λ (r : Reading). reading_after r piece) h ∙ p

-- what it shows
pub shown-grows : (html piece all : List ℕ) → all ≡ html ++ piece → IsWhole html → shown_in all ≡ shown_in html ++ shown_in piece
shown-grows html piece all e h =
    ap (shown_from text) e ∙ shown-append text html piece (ap shows_at_end h) ∙ ap (λ (r : Reading). shown_from text html ++ shown_from r piece) h

-- a tag goes on
pub tag-append : (begun piece all : List ℕ) → all ≡ begun ++ piece → IsTagBegun begun → StaysInTag piece → IsTagBegun all
tag-append begun piece all e b p = record {
  inside = ap (reading_after text) e ∙ after-append text begun piece ∙ ap (λ (r : Reading). reading_after r piece) b.inside ∙ p.inside;
  nothing = ap (shown_from text) e ∙ shown-append text begun piece (ap shows_at_end b.inside)
      ∙ ap (λ (r : Reading). shown_from text begun ++ shown_from r piece) b.inside
      ∙ ap (λ (l : List ℕ). l ++ shown_from tag piece) b.nothing ∙ p.nothing;
}

-- a tag ends
pub tag-end : (begun piece all : List ℕ) → all ≡ begun ++ piece → IsTagBegun begun → EndsTag piece → IsMarkup all
tag-end begun piece all e b p = record {
  whole = ap (reading_after text) e ∙ after-append text begun piece ∙ ap (λ (r : Reading). reading_after r piece) b.inside ∙ p.ends;
  nothing = ap (shown_from text) e ∙ shown-append text begun piece (ap shows_at_end b.inside)
      ∙ ap (λ (r : Reading). shown_from text begun ++ shown_from r piece) b.inside
      ∙ ap (λ (l : List ℕ). l ++ shown_from tag piece) b.nothing ∙ p.nothing;
}
