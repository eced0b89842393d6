use Rattle.std.proofs.Common.{◌==◌, ℕ, List, length, rules, tests}
use Rattle.std.proofs.lemmas.Iterator.{Search.any_from_yields_List, Splits.YieldsList-from_slice_split}
use Rattle.plm80_files.proofs.line_words.has_empty_word.Goals as goal

pub returns : goal.returns
returns c =
    any_from_yields_List (λ (word : List ℕ). length word == 0) _ _ c.any.result c.any.ensures.ran
    (YieldsList-from_slice_split _ (λ (b : ℕ). b == 32) c.args.line.now c.split.ensures.rest c.split.ensures.done c.split.ensures.closure
    (λ x b q k. search (rules, tests))) (λ x b q k. search (rules, tests))
