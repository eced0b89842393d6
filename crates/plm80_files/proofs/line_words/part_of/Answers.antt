use Rattle.std.proofs.Common.{◌==◌, ℕ, rules, tests}
use Rattle.std.proofs.lemmas.Iterator.{Consumers.nth_from_yields_List, Splits.YieldsList-from_slice_split}
use Rattle.plm80_files.proofs.line_words.part_of.Goals as goal

pub returns : goal.returns
returns c =
    nth_from_yields_List _ _ c.args.index c.nth.ensures.ran
    (YieldsList-from_slice_split _ (λ (b : ℕ). b == 10) c.args.text.now c.split.ensures.rest c.split.ensures.done c.split.ensures.closure
    (λ x b q k. search (rules, tests)))
