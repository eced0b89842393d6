-- The lines that were seen.
use Rattle.std.proofs.Common.{◌≡◌, ◌||◌, Bool, true, false, List, [], ◌∷◌, ◌++◌, refl, ap, sym, ◌∙◌}
use Rattle.std.proofs.lemmas.List.Folds.{list_any-append}
use Rattle.image80.specs.declared.entry.Entry.{Entry}
use Rattle.image80.specs.RegionsText.{repeats, is_repeated}
use Rattle.image80.specs.Reading.{SeenLines, HasSeen, SeesToo}

or_false : (b : Bool) → (b || false) ≡ b
or_false true = refl
or_false false = refl

pub seen_more : (before after : SeenLines) (entries : List Entry) (entry : Entry) → HasSeen before entries → SeesToo before entry after → HasSeen after (entries ++ entry ∷ [])
seen_more before after entries entry has too other =
    too other ∙ ap (λ b. b || repeats entry other) (has other)
    ∙ ap (λ b. is_repeated entries other || b) (sym (or_false (repeats entry other)))
    ∙ sym (list_any-append (λ x. repeats x other) entries (entry ∷ []))
