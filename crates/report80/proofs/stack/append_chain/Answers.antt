use Rattle.std.proofs.Common.{◌++◌, ◌∙◌, List, ℕ, ap, codes}
use Rattle.report80.specs.PageText.{part_text}
use Rattle.report80.proofs.RangeLemmas.{rewritten}
use Rattle.report80.proofs.stack.append_chain.Goals as goal

pub returns : goal.returns
returns c =
    rewritten c.append_part.result c.append_part.new.page _ _
    (ap (λ (heading : List ℕ). c.args.page.now ++ part_text heading c.deref.result.now) c.as_slice.ensures
    ∙ ap (λ (lines : List ℕ). c.args.page.now ++ part_text (codes "Longest chain") lines) (c.deref.ensures.value ∙ c.in_ok-lines.ensures))
    c.append_part.ensures
