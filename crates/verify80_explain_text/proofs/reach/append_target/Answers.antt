use Rattle.std.proofs.Common.{◌++◌, ◌∙◌, ap, List, ℕ}
use Rattle.std.specs.Prelude.{codes}
use Rattle.verify80_explain_text.specs.Explained.{end_text, with_address}
use Rattle.verify80_explain_text.proofs.LineLemmas.{three_parts}
use Rattle.verify80_explain_text.proofs.reach.append_target.Goals as goal

pub returns : goal.returns
returns c =
    three_parts c.args.text.now.items (with_address (codes " CALLS ") c.args.target) (codes " NEEDS ?") (end_text c.args.image.now c.args.publics.now c.args.target)
    c.append_address.new.text.items c.extend_from_slice.new.self.items c.append_end.new.text.items
    (c.in_ok-append_address.ensures ∙ ap (λ (word : List ℕ). c.args.text.now.items ++ with_address word c.args.target) c.as_slice.ensures)
    (c.in_ok-extend_from_slice.ensures.items ∙ ap (λ (word : List ℕ). c.append_address.new.text.items ++ word) c.as_slice-2.ensures)
    c.in_ok-append_end.ensures
