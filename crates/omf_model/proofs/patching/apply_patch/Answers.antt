use Rattle.std.proofs.Common.{◌+◌, ◌%◌, ap, get_or, ℕ}
use Rattle.omf_model.proofs.PatchingLemmas.{low_applied, high_applied, both_applied}
use Rattle.omf_model.proofs.patching.apply_patch.Goals as goal

pub returns-in-Low : goal.returns-in-Low
returns-in-Low c = low_applied c.args.patch c.args.bytes.now _ c.in-Low.is c.requires (ap (λ (n : ℕ). (get_or c.args.bytes.now c.args.patch.at 0 + n) % 256) c.low_byte.ensures)

pub returns-in-High : goal.returns-in-High
returns-in-High c = high_applied c.args.patch c.args.bytes.now _ c.in-High.is c.requires (ap (λ (n : ℕ). (get_or c.args.bytes.now c.args.patch.at 0 + n) % 256) c.high_byte.ensures)

pub returns-in-Both : goal.returns-in-Both
returns-in-Both c = both_applied c.args.patch c.args.bytes.now c.add_words-sum.result _ _ c.in-Both.is c.requires c.add_words-sum.ensures c.low_byte-in-Both.ensures c.high_byte-in-Both.ensures
