-- How many refusals are reached on conditions, one group more; and a text that grew by four parts.
use Rattle.std.proofs.Common.{◌≡◌, ℕ, ◌+◌, ◌<◌, List, [], ◌∷◌, ◌++◌, length, get_or, take, append_assoc, length-append, ap, sym, ◌∙◌}
use Rattle.std.specs.List.{flat_map}
use Rattle.std.proofs.lemmas.Grind.{flat_map-append}
use Rattle.std.proofs.lemmas.List.{append-nil, take_more}
use Rattle.verify80_explain.specs.declared.explaining_all.FurtherRefusals.{FurtherRefusals}
use Rattle.verify80_explain.specs.declared.explaining_all.ShownRefusal.{ShownRefusal}
use Rattle.plm80_programs.specs.Explanations.{further_count}

pub one_group_more : (further : List FurtherRefusals) (i : ℕ) (d : FurtherRefusals) → i < length further →
    further_count (take (i + 1) further) ≡ further_count (take i further) + length (get_or further i d).shown.items
one_group_more further i d inside =
    ap further_count (take_more further i d inside)
    ∙ ap length (flat_map-append of (take i further) (get_or further i d ∷ []))
    ∙ ap (λ (l : List ShownRefusal). length (flat_map of (take i further) ++ l)) (append-nil (of (get_or further i d)))
    ∙ length-append (flat_map of (take i further)) (of (get_or further i d))
  where
    of : FurtherRefusals → List ShownRefusal
    of group = group.shown.items

-- a text that goes on with four parts, one after another
pub four_parts : (before a b c d one two three all : List ℕ) → one ≡ before ++ a → two ≡ one ++ b → three ≡ two ++ c → all ≡ three ++ d
    → all ≡ before ++ (a ++ (b ++ (c ++ d)))
four_parts before a b c d one two three all first second third last =
    last ∙ ap (λ (l : List ℕ). l ++ d) third ∙ ap (λ (l : List ℕ). (l ++ c) ++ d) second ∙ ap (λ (l : List ℕ). ((l ++ b) ++ c) ++ d) first
    ∙ append_assoc ((before ++ a) ++ b) c d ∙ append_assoc (before ++ a) b (c ++ d) ∙ append_assoc before a (b ++ (c ++ d))

-- a text behind which stand the lines of the first of some things goes on with those of the next one
pub one_more : {A : Type 0} (line : A → List ℕ) (items : List A) (before text after : List ℕ) (i : ℕ) (d : A) → i < length items →
    after ≡ text ++ line (get_or items i d) → text ≡ before ++ flat_map line (take i items) →
    after ≡ before ++ flat_map line (take (i + 1) items)
one_more {A} line items before text after i d inside is so_far =
    is
    ∙ ap (λ (l : List ℕ). l ++ line (get_or items i d)) so_far
    ∙ append_assoc before (flat_map line (take i items)) (line (get_or items i d))
    ∙ ap (λ (l : List ℕ). before ++ l) (sym more)
  where
    more : flat_map line (take (i + 1) items) ≡ flat_map line (take i items) ++ line (get_or items i d)
    more = ap (flat_map line) (take_more items i d inside)
        ∙ flat_map-append line (take i items) (get_or items i d ∷ [])
        ∙ ap (λ (l : List ℕ). flat_map line (take i items) ++ l) (append-nil (line (get_or items i d)))
