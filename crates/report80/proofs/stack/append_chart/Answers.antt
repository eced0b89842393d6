use Rattle.std.proofs.Common.{◌++◌, ◌∷◌, [], ◌∙◌, List, ℕ, ap, codes}
use Rattle.report80.specs.StackText.{chart_text}
use Rattle.report80.proofs.RangeLemmas.{behind_heading, rewritten}
use Rattle.report80.proofs.stack.append_chart.Goals as goal

pub returns : goal.returns
returns c =
    rewritten c.append_bars.result c.append_bars.new.page _ _
    (behind_heading c.args.page.now (codes "Stack by procedure") (chart_text c.args.image.now c.args.publics.now c.args.nodes.now) c.heading.new.self
    (c.in_ok-heading.ensures ∙ ap (λ (heading : List ℕ). (c.args.page.now ++ heading) ++ 10 ∷ []) c.as_slice.ensures))
    c.append_bars.ensures
