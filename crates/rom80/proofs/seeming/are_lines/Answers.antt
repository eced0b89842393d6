use Rattle.std.specs.Prelude.{◌==◌, ℕ}
use Rattle.std.proofs.Common.{rules, tests}
use Rattle.std.proofs.lemmas.Iterator.Search.{all_from_yields_List}
use Rattle.std.proofs.lemmas.Iterator.Splits.{YieldsList-from_slice_split}
use Rattle.rom80.specs.DumpKinds.{may_be_part_of}
use Rattle.rom80.proofs.seeming.are_lines.Goals as goal

pub returns : goal.returns
returns c =
    all_from_yields_List (may_be_part_of c.args.kind) _ _ c.all.result c.all.ensures.ran
    (YieldsList-from_slice_split _ (λ (b : ℕ). b == 10) c.args.bytes.now c.split.ensures.rest c.split.ensures.done c.split.ensures.closure
    (λ x b q k. search (rules, tests))) (λ x b q k. search (rules, tests))
