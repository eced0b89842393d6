use Rattle.std.specs.Prelude.{◌==◌, ℕ}
use Rattle.std.proofs.Common.{rules, tests}
use Rattle.std.proofs.lemmas.Iterator.Search.{any_from_yields_List}
use Rattle.std.proofs.lemmas.Iterator.Splits.{YieldsList-from_slice_split}
use Rattle.rom80.specs.DumpKinds.{is_part_of}
use Rattle.rom80.proofs.seeming.has_line.Goals as goal

pub returns : goal.returns
returns c =
    any_from_yields_List (is_part_of c.args.kind) _ _ c.any.result c.any.ensures.ran
    (YieldsList-from_slice_split _ (λ (b : ℕ). b == 10) c.args.bytes.now c.split.ensures.rest c.split.ensures.done c.split.ensures.closure
    (λ x b q k. search (rules, tests))) (λ x b q k. search (rules, tests))
