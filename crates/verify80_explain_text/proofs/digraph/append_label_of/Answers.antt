use Rattle.std.proofs.Common.{◌++◌, ◌∙◌, ap, List, ℕ}
use Rattle.std.specs.Prelude.{codes}
use Rattle.verify80_calls.specs.GraphText.{escaped_name}
use Rattle.verify80_explain_text.specs.Explained.{with_address}
use Rattle.verify80_explain_text.proofs.LineLemmas.{three_parts}
use Rattle.verify80_explain_text.proofs.digraph.append_label_of.Goals as goal

pub returns : goal.returns
returns c =
    three_parts c.args.text.now.items (with_address c.args.word.now c.args.address) (escaped_name c.args.image.now c.args.publics.now c.args.address) (codes "\\nBOUND ?\"];\n")
    c.append_address.new.text.items c.append_escaped_name.new.text.items c.extend_from_slice.new.self.items
    c.in_ok-append_address.ensures c.in_ok-append_escaped_name.ensures
    (c.in_ok-extend_from_slice.ensures.items ∙ ap (λ (word : List ℕ). c.append_escaped_name.new.text.items ++ word) c.as_slice.ensures)
