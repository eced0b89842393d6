use Rattle.std.proofs.Common.{rules, ◌≡◌, ◌++◌, [], ◌∷◌, ap, ◌∙◌}
use Rattle.image80_text.specs.NameText.{labelled_line, labelled_text}
use Rattle.image80_text.proofs.TextLemmas.{line_read}
use Rattle.image80_text.proofs.lines.label_lines.Goals as goal

pub loop-line-preserved : goal.loop-line-preserved
loop-line-preserved c =
    let shown = labelled_line c.args.publics.now c.args.numbered in
    let grown : c.push.new.self.items ≡ (c.loop-line.labelled.items ++ shown c.in-Some.line.now) ++ 10 ∷ [] = search rules in
    ap (λ t. t ++ labelled_text c.args.publics.now c.args.numbered c.in-Some.after.now) grown
    ∙ line_read shown c.loop-line.labelled.items c.in-Some.line.now c.in-Some.after.now c.loop-line.rest.now
    (labelled_text c.args.publics.now c.args.numbered c.args.text.now) c.in-Some.ensures.found c.loop-line.invariant
