use Rattle.std.proofs.Common.{◌++◌, codes, ap, ◌∙◌}
use Rattle.verify80_explain_text.specs.Explained.{end_text, with_address}
use Rattle.verify80_explain_text.proofs.TextLemmas.{grown_by_two}
use Rattle.verify80_explain_text.proofs.chain.append_callee.Goals as goal

pub returns : goal.returns
returns c =
    grown_by_two c.args.text.now.items (with_address (codes ", CALLS ") c.args.target)
    (end_text c.args.image.now c.args.publics.now c.args.target) c.append_address.new.text.items c.append_end.new.text.items
    (c.in_ok-append_address.ensures ∙ ap (λ w. c.args.text.now.items ++ with_address w c.args.target) c.as_slice.ensures)
    c.in_ok-append_end.ensures
