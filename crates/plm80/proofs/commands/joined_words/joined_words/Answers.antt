use Rattle.std.proofs.Common.{◌≡◌, ◌∙◌, ◌<◌, List, [], ◌∷◌, ap, arith, length, map, refl, sym, ◌++◌}
use Rattle.std.specs.Prelude.{String, string_bytes}
use Rattle.plm80.specs.CommandLine.{joined_words}
use Rattle.plm80.proofs.commands.joined_words.joined_words.Goals as goal

-- without a command the words stay
few_stay : {Z : Type 0} (words : List (String Z)) → length words < 2 → joined_words (map string_bytes words) ≡ map string_bytes words
few_stay [] lt = refl
few_stay (own ∷ []) lt = refl
few_stay (own ∷ name ∷ words) lt = absurd (omega (arith, lt))

pub returns-in_default : goal.returns-in_default
returns-in_default c =
    c.in_ok-push_copies.ensures ∙ ap (λ copies. map string_bytes copies ++ map string_bytes c.args.words.now) c.new-joined.ensures.items
    ∙ sym (few_stay c.args.words.now c.in_default.len_below)
